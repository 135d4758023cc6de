-- Images: equal ones are those of the same states, and all parts of one give its state.
use Rattle.std.proofs.Common.{◌≡◌, ℕ, zero, suc, ◌+◌, ◌-◌, ◌*◌, ◌/◌, ◌%◌, ◌<◌, Bool, true, false, ◌&&◌, ◌||◌, cond, if◌then◌else◌, nat_eq, List, [], ◌∷◌, inl, inr, refl, sym, ap, subst, ◌∙◌, arith}
use Rattle.std.specs.Int.{is_in_range}
use Rattle.std.specs.List.{Contains}
use Rattle.std.proofs.lemmas.Bool.{cases_Bool, cases_eq, and_parts, eqb-true, eq-eqb, false≢true}
use Rattle.std.proofs.lemmas.Bool.Decides.{nat_tests}
use Rattle.std.proofs.Math.Nat.{mod-eq_of_lt}
use Rattle.aia_word.specs.Sets.{has_bit, word_of}
use Rattle.aia_word.proofs.SetLemmas.{has_bit-word_of, both_ways, same_bit}
use Rattle.aia_regs.specs.Fields.{bit_number}
use Rattle.aia_regs.specs.BitUpdate.{settle}
use Rattle.aia_regs.specs.BitUpdate.BitUpdate.{Ask, Clear, Nothing}
use Rattle.aia_regs.specs.FileRegisters.{shows}
use Rattle.aia_file.specs.InterruptFile.{SameFile, is_greatest_identity}
use Rattle.aia_file.proofs.FileLemmas.{same_file}
use Rattle.aia_major.specs.VsMajor.{is_major, majors_word, hviprio1_kept, hvictl_kept}
use Rattle.aia_regs.proofs.ListLemmas.{here_or_later, nowhere}
use Rattle.aia_major.proofs.RegisterLemmas.{majors_word-bit}
use Rattle.aia_model.specs.declared.part.Part.{Part}
use Rattle.aia_model.specs.declared.part.Part.TheVariants as parts
use Rattle.aia_model.specs.Image.{GuestState, part_of, part_loaded}
use Rattle.aia_laws.specs.Images.{IsState, SameImage, loaded_all, HasAllParts, fresh_state}

-- Two states are the same, and so are equal: their members, numbers and registers are.
record SameState (x y : GuestState) : Type 0 where
  select : x.select ≡ y.select
  file : SameFile x.file y.file
  injected : (j : ℕ) → x.majors.injected j ≡ y.majors.injected j
  enabled : (j : ℕ) → x.majors.enabled j ≡ y.majors.enabled j
  hviprio1 : x.majors.hviprio1 ≡ y.majors.hviprio1
  hvictl : x.majors.hvictl ≡ y.majors.hvictl

same_state : (x y : GuestState) → SameState x y → x ≡ y
same_state x y same = λ k. record {
  select = same.select k;
  file = same_file x.file y.file same.file k;
  majors = record { injected = λ j. same.injected j k; enabled = λ j. same.enabled j k; hviprio1 = same.hviprio1 k; hvictl = same.hvictl k };
}

-- ---- what a part tells

abbrev pending_in : Part → ℕ
pending_in (parts.Word w pending enable) = pending
pending_in part = 0

abbrev enable_in : Part → ℕ
enable_in (parts.Word w pending enable) = enable
enable_in part = 0

abbrev n_in : Part → ℕ
n_in (parts.Image version n delivery threshold select) = n
n_in part = 0

abbrev delivery_in : Part → Bool
delivery_in (parts.Image version n delivery threshold select) = delivery
delivery_in part = false

abbrev threshold_in : Part → ℕ
threshold_in (parts.Image version n delivery threshold select) = threshold
threshold_in part = 0

abbrev select_in : Part → ℕ
select_in (parts.Image version n delivery threshold select) = select
select_in part = 0

abbrev injected_in : Part → ℕ
injected_in (parts.Majors injected enabled) = injected
injected_in part = 0

abbrev enabled_in : Part → ℕ
enabled_in (parts.Majors injected enabled) = enabled
enabled_in part = 0

abbrev hviprio_in : Part → ℕ
hviprio_in (parts.Prio hviprio hvictl) = hviprio
hviprio_in part = 0

abbrev hvictl_in : Part → ℕ
hvictl_in (parts.Prio hviprio hvictl) = hvictl
hvictl_in part = 0

-- a bit of a word is its member
at_word : (i : ℕ) → 64 * (i / 64) + i % 64 ≡ i
at_word i = omega arith

low : (i : ℕ) → i % 64 < 64
low i = omega arith

member : (set : ℕ → Bool) (i : ℕ) → has_bit (word_of set (64 * (i / 64)) 64) (i % 64) ≡ set i
member set i = has_bit-word_of set (64 * (i / 64)) 64 (i % 64) (low i) ∙ ap set (at_word i)

same_member : (p q : ℕ → Bool) (i : ℕ) → word_of p (64 * (i / 64)) 64 ≡ word_of q (64 * (i / 64)) 64 → p i ≡ q i
same_member p q i e = sym (member p i) ∙ ap (λ w. has_bit w (i % 64)) e ∙ member q i

-- what is in no word is in neither
in_words : (n i : ℕ) → is_greatest_identity n ≡ true → is_in_range 1 n i ≡ true → i / 64 < (n + 1) / 64
in_words n i e here = grind (arith, nat_tests)

same_set : (p q : ℕ → Bool) (n : ℕ) → is_greatest_identity n ≡ true → ((i : ℕ) → p i ≡ true → is_in_range 1 n i ≡ true)
    → ((i : ℕ) → q i ≡ true → is_in_range 1 n i ≡ true)
    → ((w : ℕ) → w < (n + 1) / 64 → word_of p (64 * w) 64 ≡ word_of q (64 * w) 64) → (i : ℕ) → p i ≡ q i
same_set p q n greatest in_p in_q words i = both_ways (p i) (q i)
    (λ e. sym (same_member p q i (words (i / 64) (in_words n i greatest (in_p i e)))) ∙ e)
    (λ e. same_member p q i (words (i / 64) (in_words n i greatest (in_q i e))) ∙ e)

same_majors : (p q : ℕ → Bool) → ((j : ℕ) → p j ≡ true → is_major j ≡ true) → ((j : ℕ) → q j ≡ true → is_major j ≡ true)
    → majors_word p ≡ majors_word q → (j : ℕ) → p j ≡ q j
same_majors p q of_p of_q e j = both_ways (p j) (q j) (λ t. one_way p q of_p e j t) (λ t. one_way q p of_q (sym e) j t)
  where
    both : (a b : Bool) → (a && b) ≡ true → b ≡ true
    both true b e = e
    both false b e = absurd (cc)

    one_way : (p q : ℕ → Bool) → ((j : ℕ) → p j ≡ true → is_major j ≡ true) → majors_word p ≡ majors_word q → (j : ℕ) → p j ≡ true → q j ≡ true
    one_way p q of_p e j t =
        let shown : has_bit (majors_word p) j ≡ true = majors_word-bit p j ∙ ap (λ b. b && p j) (of_p j t) ∙ t in
        both (is_major j) (q j) (sym (majors_word-bit q j) ∙ sym (ap (λ w. has_bit w j) e) ∙ shown)

pub images_same : (x y : GuestState) → IsState x → IsState y → SameImage x y → x ≡ y
images_same x y is_x is_y same =
    let first : part_of x 0 ≡ part_of y 0 = same 0 (omega arith) in
    let second : part_of x 1 ≡ part_of y 1 = same 1 (omega arith) in
    let third : part_of x 2 ≡ part_of y 2 = same 2 (omega arith) in
    let n : x.file.n ≡ y.file.n = ap n_in first in
    same_state x y (record {
      select = ap select_in first;
      file = record {
        n = n;
        pending = same_set x.file.pending y.file.pending x.file.n is_x.greatest is_x.pending
            (λ i e. ap (λ m. is_in_range 1 m i) n ∙ is_y.pending i e) (λ w few. ap pending_in (same (suc (suc (suc w))) (omega (arith, few))));
        enabled = same_set x.file.enabled y.file.enabled x.file.n is_x.greatest is_x.enabled
            (λ i e. ap (λ m. is_in_range 1 m i) n ∙ is_y.enabled i e) (λ w few. ap enable_in (same (suc (suc (suc w))) (omega (arith, few))));
        threshold = ap threshold_in first;
        delivery = same_bit x.file.delivery y.file.delivery is_x.delivery is_y.delivery (ap delivery_in first);
      };
      injected = same_majors x.majors.injected y.majors.injected is_x.injected_majors is_y.injected_majors (ap injected_in second);
      enabled = same_majors x.majors.enabled y.majors.enabled is_x.enabled_majors is_y.enabled_majors (ap enabled_in second);
      hviprio1 = ap hviprio_in third;
      hvictl = ap hvictl_in third;
    })

-- ---- which parts were loaded

record Done : Type 0 where
  numbers : Bool
  majors : Bool
  registers : Bool
  word : ℕ → Bool

abbrev none_done : Done
none_done = record { numbers = false; majors = false; registers = false; word = λ w. false }

abbrev mark : ℕ → Done → Done
mark zero d = record d { numbers = true }
mark (suc zero) d = record d { majors = true }
mark (suc (suc zero)) d = record d { registers = true }
mark (suc (suc (suc w))) d = record d { word = λ v. nat_eq w v || d.word v }

abbrev marks : List ℕ → Done → Done
marks [] d = d
marks (k ∷ earlier) d = mark k (marks earlier d)

-- whether a part was
abbrev has_done : Done → ℕ → Bool
has_done d zero = d.numbers
has_done d (suc zero) = d.majors
has_done d (suc (suc zero)) = d.registers
has_done d (suc (suc (suc w))) = d.word w

-- what was marked stays so
or_true : (b : Bool) → (b || true) ≡ true
or_true true = refl
or_true false = refl

mark_stays : (k : ℕ) (d : Done) (c : ℕ) → has_done d c ≡ true → has_done (mark k d) c ≡ true
mark_stays zero d zero e = refl
mark_stays zero d (suc zero) e = e
mark_stays zero d (suc (suc zero)) e = e
mark_stays zero d (suc (suc (suc v))) e = e
mark_stays (suc zero) d zero e = e
mark_stays (suc zero) d (suc zero) e = refl
mark_stays (suc zero) d (suc (suc zero)) e = e
mark_stays (suc zero) d (suc (suc (suc v))) e = e
mark_stays (suc (suc zero)) d zero e = e
mark_stays (suc (suc zero)) d (suc zero) e = e
mark_stays (suc (suc zero)) d (suc (suc zero)) e = refl
mark_stays (suc (suc zero)) d (suc (suc (suc v))) e = e
mark_stays (suc (suc (suc w))) d zero e = e
mark_stays (suc (suc (suc w))) d (suc zero) e = e
mark_stays (suc (suc (suc w))) d (suc (suc zero)) e = e
mark_stays (suc (suc (suc w))) d (suc (suc (suc v))) e = ap (λ b. nat_eq w v || b) e ∙ or_true (nat_eq w v)

mark_marks : (k : ℕ) (d : Done) → has_done (mark k d) k ≡ true
mark_marks zero d = refl
mark_marks (suc zero) d = refl
mark_marks (suc (suc zero)) d = refl
mark_marks (suc (suc (suc w))) d = ap (λ b. b || d.word w) (eq-eqb w w refl)

marked : (order : List ℕ) (d : Done) (k : ℕ) → Contains order k → has_done (marks order d) k ≡ true
marked [] d k here = nowhere k here
marked (x ∷ earlier) d k there = elim (here_or_later x k earlier there) [
  | inl e ↦ subst (λ y. has_done (mark x (marks earlier d)) y ≡ true) e (mark_marks x (marks earlier d))
  | inr before ↦ mark_stays x (marks earlier d) k (marked earlier d k before)
]

-- ---- a part of x was loaded, or the virtual hart is there as it was at first

record Partly (x : GuestState) (d : Done) (z : GuestState) : Type 0 where
  n : z.file.n ≡ x.file.n
  select : z.select ≡ cond d.numbers x.select 0
  threshold : z.file.threshold ≡ cond d.numbers x.file.threshold 0
  delivery : z.file.delivery ≡ cond d.numbers x.file.delivery 0
  pending : (i : ℕ) → z.file.pending i ≡ (d.word (i / 64) && x.file.pending i)
  enabled : (i : ℕ) → z.file.enabled i ≡ (d.word (i / 64) && x.file.enabled i)
  injected : (j : ℕ) → z.majors.injected j ≡ (d.majors && x.majors.injected j)
  majors : (j : ℕ) → z.majors.enabled j ≡ (d.majors && x.majors.enabled j)
  hviprio1 : z.majors.hviprio1 ≡ cond d.registers x.majors.hviprio1 0
  hvictl : z.majors.hvictl ≡ cond d.registers x.majors.hvictl 0

-- a member that is asked for, or written, once more
ask_again : (p d : Bool) → settle (if p then Ask else Nothing) (d && p) ≡ p
ask_again true d = refl
ask_again false true = refl
ask_again false false = refl

write_anew : (p was : Bool) → settle (if p then Ask else Clear) was ≡ p
write_anew true was = refl
write_anew false was = refl

and_no : (d : Bool) → (d && false) ≡ false
and_no true = refl
and_no false = refl

not_there : (p in_range : Bool) → (p ≡ true → in_range ≡ true) → in_range ≡ false → p ≡ false
not_there true r f e = absurd (false≢true (sym e ∙ f refl))
not_there false r f e = refl

unshown : (n w i : ℕ) → shows n (2 * w) i ≡ false → nat_eq w (i / 64) ≡ true → is_in_range 1 n i ≡ false
unshown n w i past same = grind (arith, nat_tests)

its_word : (n w i : ℕ) → shows n (2 * w) i ≡ true → i / 64 ≡ w
its_word n w i here = grind (arith, nat_tests)

bit_of_member : (set : ℕ → Bool) (n w i : ℕ) → shows n (2 * w) i ≡ true → has_bit (word_of set (64 * w) 64) (i - 32 * (2 * w)) ≡ set i
bit_of_member set n w i here =
    let its : i / 64 ≡ w = its_word n w i here in
    let b : i - 32 * (2 * w) ≡ i % 64 = omega (arith, its) in
    ap (has_bit (word_of set (64 * w) 64)) b ∙ ap (λ v. has_bit (word_of set (64 * v) 64) (i % 64)) (sym its) ∙ member set i

-- what a word that is loaded makes of one member
pending_word : (set : ℕ → Bool) (n w i : ℕ) (d : Bool) → (set i ≡ true → is_in_range 1 n i ≡ true)
    → settle (if shows n (2 * w) i then (if has_bit (word_of set (64 * w) 64) (i - 32 * (2 * w)) then Ask else Nothing) else Nothing)
    (d && set i) ≡ ((nat_eq w (i / 64) || d) && set i)
pending_word set n w i d inside = elim (cases_Bool (shows n (2 * w) i)) [
  | inl here ↦ rw (here, bit_of_member set n w i here, eq-eqb w (i / 64) (sym (its_word n w i here))) (ask_again (set i) d)
  | inr past ↦ elim (cases_Bool (nat_eq w (i / 64))) [
    | inl same ↦ rw (past, same, not_there (set i) (is_in_range 1 n i) inside (unshown n w i past same)) (and_no d)
    | inr other ↦ rw (past, other) refl
  ]
]

enabled_word : (set : ℕ → Bool) (n w i : ℕ) (d : Bool) → (set i ≡ true → is_in_range 1 n i ≡ true)
    → settle (if shows n (2 * w) i then (if has_bit (word_of set (64 * w) 64) (i - 32 * (2 * w)) then Ask else Clear) else Nothing)
    (d && set i) ≡ ((nat_eq w (i / 64) || d) && set i)
enabled_word set n w i d inside = elim (cases_Bool (shows n (2 * w) i)) [
  | inl here ↦ rw (here, bit_of_member set n w i here, eq-eqb w (i / 64) (sym (its_word n w i here))) (write_anew (set i) (d && set i))
  | inr past ↦ elim (cases_Bool (nat_eq w (i / 64))) [
    | inl same ↦ rw (past, same, not_there (set i) (is_in_range 1 n i) inside (unshown n w i past same)) (and_no d)
    | inr other ↦ rw (past, other) refl
  ]
]

-- and the words of the majors
hvip_word : (set : ℕ → Bool) (j : ℕ) (d : Bool) → (set j ≡ true → is_major j ≡ true)
    → cond (is_major j) (has_bit (majors_word set) j) (d && set j) ≡ set j
hvip_word set j d its = elim (cases_Bool (is_major j)) [
  | inl here ↦ rw here (majors_word-bit set j ∙ ap (λ b. b && set j) here)
  | inr past ↦ let none : set j ≡ false = not_there (set j) (is_major j) its past in rw (past, none) (and_no d)
]

major_word : (set : ℕ → Bool) (j : ℕ) (d : Bool) → (set j ≡ true → is_major j ≡ true)
    → settle (if is_major j then (if has_bit (majors_word set) j then Ask else Clear) else Nothing) (d && set j) ≡ set j
major_word set j d its = elim (cases_Bool (is_major j)) [
  | inl here ↦ let bit : has_bit (majors_word set) j ≡ set j = majors_word-bit set j
      ∙ ap (λ b. b && set j) here in rw (here, bit) (write_anew (set j) (d && set j))
  | inr past ↦ let none : set j ≡ false = not_there (set j) (is_major j) its past in rw (past, none) (and_no d)
]

delivery_again : (v : ℕ) → v < 2 → bit_number (nat_eq v 1) % 2 ≡ v
delivery_again v few = elim (cases_eq v 1) [
  | inl one ↦ rw (eq-eqb v 1 one) (sym one)
  | inr other ↦ let zero_is : v ≡ 0 = omega (arith, few, other) in rw zero_is refl
]

one_loaded : (x z : GuestState) (d : Done) (k : ℕ) → IsState x → Partly x d z → Partly x (mark k d) (part_loaded (part_of x k) z)
one_loaded x z d zero is p = record {
  n = p.n;
  select = mod-eq_of_lt is.select;
  threshold = ap (λ n. x.file.threshold % (n + 1)) p.n ∙ mod-eq_of_lt (omega (arith, is.threshold));
  delivery = delivery_again x.file.delivery is.delivery;
  pending = p.pending;
  enabled = p.enabled;
  injected = p.injected;
  majors = p.majors;
  hviprio1 = p.hviprio1;
  hvictl = p.hvictl;
}
one_loaded x z d (suc zero) is p = record {
  n = p.n;
  select = p.select;
  threshold = p.threshold;
  delivery = p.delivery;
  pending = p.pending;
  enabled = p.enabled;
  injected = λ j. rw (p.injected j) (hvip_word x.majors.injected j d.majors (is.injected_majors j));
  majors = λ j. rw (p.majors j) (major_word x.majors.enabled j d.majors (is.enabled_majors j));
  hviprio1 = p.hviprio1;
  hvictl = p.hvictl;
}
one_loaded x z d (suc (suc zero)) is p = record {
  n = p.n;
  select = p.select;
  threshold = p.threshold;
  delivery = p.delivery;
  pending = p.pending;
  enabled = p.enabled;
  injected = p.injected;
  majors = p.majors;
  hviprio1 = eqb-true (hviprio1_kept x.majors.hviprio1) x.majors.hviprio1 is.hviprio1;
  hvictl = eqb-true (hvictl_kept x.majors.hvictl) x.majors.hvictl (and_parts _ _ is.hvictl).0;
}
one_loaded x z d (suc (suc (suc w))) is p = record {
  n = p.n;
  select = p.select;
  threshold = p.threshold;
  delivery = p.delivery;
  pending = λ i. rw (p.n, p.pending i) (pending_word x.file.pending x.file.n w i (d.word (i / 64)) (is.pending i));
  enabled = λ i. rw (p.n, p.enabled i) (enabled_word x.file.enabled x.file.n w i (d.word (i / 64)) (is.enabled i));
  injected = p.injected;
  majors = p.majors;
  hviprio1 = p.hviprio1;
  hvictl = p.hvictl;
}

all_loaded : (x : GuestState) (order : List ℕ) (z : GuestState) (d : Done) → IsState x → Partly x d z
    → Partly x (marks order d) (loaded_all x order z)
all_loaded x [] z d is p = p
all_loaded x (k ∷ earlier) z d is p = one_loaded x (loaded_all x earlier z) (marks earlier d) k is (all_loaded x earlier z d is p)

at_first : (x : GuestState) → Partly x none_done (fresh_state x.file.n)
at_first x = record {
  n = refl;
  select = refl;
  threshold = refl;
  delivery = refl;
  pending = λ i. refl;
  enabled = λ i. refl;
  injected = λ j. refl;
  majors = λ j. refl;
  hviprio1 = refl;
  hvictl = refl;
}

-- in the end all were
pub parts_give : (x : GuestState) (order : List ℕ) → IsState x → HasAllParts x order → loaded_all x order (fresh_state x.file.n) ≡ x
parts_give x order is all = same_state (loaded_all x order (fresh_state x.file.n)) x (record {
  select = p.select ∙ ap (λ b. cond b x.select 0) numbers;
  file = record {
    n = p.n;
    pending = λ i. p.pending i ∙ member_of (d.word (i / 64)) (x.file.pending i)
        (λ e. words (i / 64) (in_words x.file.n i is.greatest (is.pending i e)));
    enabled = λ i. p.enabled i ∙ member_of (d.word (i / 64)) (x.file.enabled i)
        (λ e. words (i / 64) (in_words x.file.n i is.greatest (is.enabled i e)));
    threshold = p.threshold ∙ ap (λ b. cond b x.file.threshold 0) numbers;
    delivery = p.delivery ∙ ap (λ b. cond b x.file.delivery 0) numbers;
  };
  injected = λ j. p.injected j ∙ ap (λ b. b && x.majors.injected j) majors;
  enabled = λ j. p.majors j ∙ ap (λ b. b && x.majors.enabled j) majors;
  hviprio1 = p.hviprio1 ∙ ap (λ b. cond b x.majors.hviprio1 0) registers;
  hvictl = p.hvictl ∙ ap (λ b. cond b x.majors.hvictl 0) registers;
})
  where
    d : Done
    d = marks order none_done

    p : Partly x d (loaded_all x order (fresh_state x.file.n))
    p = all_loaded x order (fresh_state x.file.n) none_done is (at_first x)

    numbers : d.numbers ≡ true
    numbers = marked order none_done 0 (all 0 (omega arith))

    majors : d.majors ≡ true
    majors = marked order none_done 1 (all 1 (omega arith))

    registers : d.registers ≡ true
    registers = marked order none_done 2 (all 2 (omega arith))

    words : (w : ℕ) → w < (x.file.n + 1) / 64 → d.word w ≡ true
    words w few = marked order none_done (suc (suc (suc w))) (all (suc (suc (suc w))) (omega (arith, few)))

    member_of : (b p : Bool) → (p ≡ true → b ≡ true) → (b && p) ≡ p
    member_of true p f = refl
    member_of false true f = f refl
    member_of false false f = refl
