-- A slot as an interrupt file: what its registers show, what a write of one and a claim keep.
use Rattle.std.proofs.Common.{◌≡◌, ◌≢◌, ℕ, ◌+◌, ◌-◌, ◌*◌, ◌/◌, ◌%◌, ◌^◌, ◌<◌, ◌≤◌, Bool, true, false, ◌&&◌, ◌||◌, cond, nat_eq, List, length, get_or, inl, inr, ◌⊎◌, refl, sym, ap, ◌∙◌, subst, arith}
use Rattle.std.proofs.Math.ListN.{set}
use Rattle.std.specs.Prelude.{bit_and, bit_or}
use Rattle.std.specs.Int.{bit_not, w64, is_in_range}
use Rattle.std.proofs.lemmas.Bool.{cases_eq, eq-eqb, ne_eqb, cond-true, cond-false}
use Rattle.std.proofs.lemmas.Bool.Decides.{nat_tests}
use Rattle.std.proofs.lemmas.List.{get_or-set_other, length-set}
use Rattle.std.proofs.lemmas.Nat.{and_le_l}
use Rattle.std.proofs.lemmas.Nat.Bits.{bit_at_ones, bit_at_mask_inside, bit_at_mask_below}
use Rattle.aia_word.specs.Sets.{has_bit, word_of}
use Rattle.aia_word.proofs.BitLemmas.{has_bit-and, has_bit-or}
use Rattle.aia_word.proofs.SetLemmas.{word_from_bits, has_bit-word_of}
use Rattle.aia_regs.specs.declared.limits.TheConstants.{FILE_WORDS}
use Rattle.aia_regs.specs.declared.access.Op.{Op}
use Rattle.aia_regs.specs.declared.access.Op.TheVariants as ops
use Rattle.aia_regs.specs.declared.file_registers.FileReg.{FileReg}
use Rattle.aia_regs.specs.declared.file_registers.FileReg.TheVariants.{Pending, Enable, Delivery, Threshold, Reserved, Odd, Outside}
use Rattle.aia_regs.specs.FileRegisters.{shows, set_said}
use Rattle.aia_regs.specs.Operations.{written, bit_said, is_writing, FitsOp}
use Rattle.aia_regs.specs.BitUpdate.{settle}
use Rattle.aia_regs.specs.BitUpdate.BitUpdate.{Ask, Clear, Nothing}
use Rattle.aia_file.specs.InterruptFile.{InterruptFile, SameFile, is_greatest_identity, register_value, accessed}
use Rattle.aia_file.proofs.AccessLemmas.{has_bit-written}
use Rattle.aia_file.specs.Mrif.{mrif_in, set_at, pending_place, enable_place}
use Rattle.aia_file.specs.Words.{HasSlot, index_of, register_place, MasksIdentities}
use Rattle.aia_file.specs.SlotFile.{slot_file, IsOfSets, KeepsAllElse}
use Rattle.aia_file.proofs.SlotLemmas as slots
use Rattle.aia_file.proofs.SlotLemmas.{place_shows}

-- ---- the identities of a file among those of a word

pub all_but_zero : (n k : ℕ) → is_greatest_identity n ≡ true → k ≡ 0 → MasksIdentities 18446744073709551614 (32 * k) n
all_but_zero n k greatest first b low = elim (cases_eq b 0) [
  | inl z ↦ ap (λ x. nat_eq x 1) (bit_at_mask_below 1 64 b (omega arith)) ∙ none z
  | inr some ↦ ap (λ x. nat_eq x 1) (bit_at_mask_inside 1 64 b (omega arith) low) ∙ all some
]
  where
    none : b ≡ 0 → false ≡ is_in_range 1 n (32 * k + b)
    none z = grind (arith, nat_tests)

    all : b ≢ 0 → true ≡ is_in_range 1 n (32 * k + b)
    all some = grind (arith, nat_tests)

pub all_of_word : (n k : ℕ) → is_greatest_identity n ≡ true → k % 2 ≡ 0 → k ≢ 0 → 32 * k ≤ n → MasksIdentities 18446744073709551615 (32 * k) n
all_of_word n k greatest even some below b low = ap (λ x. nat_eq x 1) (bit_at_ones 64 b low) ∙ all
  where
    all : true ≡ is_in_range 1 n (32 * k + b)
    all = grind (arith, nat_tests)

pub merged_bit : (word v mask b : ℕ) → mask < 2 ^ 64 → b < 64
    → has_bit (bit_or (bit_and v mask) (bit_and word (bit_not w64 mask))) b ≡ cond (has_bit mask b) (has_bit v b) (has_bit word b)
merged_bit word v mask b fits low =
    has_bit-or _ _ b ∙ ap (λ x. x || has_bit (bit_and word (bit_not w64 mask)) b) (has_bit-and v mask b)
    ∙ ap (λ x. (has_bit v b && has_bit mask b) || x) (has_bit-written (ops.Clear mask) word b fits low)
    ∙ chosen (has_bit mask b) (has_bit v b) (has_bit word b)
  where
    chosen : (m x y : Bool) → ((x && m) || settle (cond m Clear Nothing) y) ≡ cond m x y
    chosen true true y = refl
    chosen true false y = refl
    chosen false true y = refl
    chosen false false y = refl

-- ---- a set whose words stand at places, as one of the identities 1 to n

abbrev pub within : ℕ → (ℕ → Bool) → ℕ → Bool
within n members i = is_in_range 1 n i && members i

-- what a register shows of it
pub set_shown : (place : ℕ → ℕ) (words : List ℕ) (n k mask : ℕ) → k % 2 ≡ 0 → k < 64 → get_or words (place (k / 2)) 0 < 2 ^ 64
    → MasksIdentities mask (32 * k) n
    → bit_and (get_or words (place (k / 2)) 0) mask ≡ word_of (within n (set_at place words)) (32 * k) 64
set_shown place words n k mask even low fits masks =
    let word = get_or words (place (k / 2)) 0 in
    let less = and_le_l word mask in
    word_from_bits (within n (set_at place words)) (32 * k) (bit_and word mask) (omega (arith, less, fits)) (λ b small.
    has_bit-and word mask b ∙ ap (λ x. has_bit word b && x) (masks b small) ∙ swapped (has_bit word b) (is_in_range 1 n (32 * k + b))
    ∙ ap (λ x. is_in_range 1 n (32 * k + b) && x) (here b small))
  where
    swapped : (x y : Bool) → (x && y) ≡ (y && x)
    swapped true true = refl
    swapped true false = refl
    swapped false true = refl
    swapped false false = refl

    here : (b : ℕ) → b < 64 → has_bit (get_or words (place (k / 2)) 0) b ≡ set_at place words (32 * k + b)
    here b small =
        let bit : b ≡ (32 * k + b) % 64 = omega arith in
        ap (has_bit (get_or words (place (k / 2)) 0)) bit ∙ place_shows place words (k / 2) (32 * k + b) (omega arith) (omega arith)

-- ---- it is written through a register

abbrev pub Merges : ℕ → ℕ → ℕ → ℕ → ℕ → Type 0
Merges new word v first n = (b : ℕ) → b < 64 → has_bit new b ≡ cond (is_in_range 1 n (first + b)) (has_bit v b) (has_bit word b)

module _ (place : ℕ → ℕ) (words : List ℕ) (n k v new : ℕ) (apart : (j : ℕ) → place j ≡ place (k / 2) → j ≡ k / 2)
    (there : place (k / 2) < length words) (even : k % 2 ≡ 0) (low : k < 64) (merges : Merges new (get_or words (place (k / 2)) 0) v (32 * k) n) where
  word_written : (i : ℕ) → set_at place (set words (place (k / 2)) new) i ≡ cond (nat_eq (i / 64) (k / 2)) (has_bit new (i % 64))
      (set_at place words i)
  word_written i = slots.written place words (k / 2) new i apart there (omega arith)

  bit_written : (i : ℕ) → i / 64 ≡ k / 2 → has_bit new (i % 64) ≡ cond (is_in_range 1 n i) (has_bit v (i % 64)) (set_at place words i)
  bit_written i e =
      let at : 32 * k + i % 64 ≡ i = omega arith in
      merges (i % 64) (omega arith) ∙ ap (λ j. cond (is_in_range 1 n j) (has_bit v (i % 64)) (has_bit (get_or words (place (k / 2)) 0) (i % 64))) at
      ∙ ap (λ b. cond (is_in_range 1 n i) (has_bit v (i % 64)) b) (place_shows place words (k / 2) i (omega arith) e)

  -- what it does not show stays
  pub set_kept : (i : ℕ) → is_in_range 1 n i ≡ false → set_at place (set words (place (k / 2)) new) i ≡ set_at place words i
  set_kept i outside = word_written i ∙ elim (cases_eq (i / 64) (k / 2)) [
    | inl e ↦ cond-true _ _ _ (eq-eqb _ _ e) ∙ bit_written i e ∙ cond-false _ _ _ outside
    | inr ne ↦ cond-false _ _ _ (ne_eqb _ _ ne)
  ]

  -- and what it shows is as the write says
  pub set_written : (i : ℕ) → within n (set_at place (set words (place (k / 2)) new)) i ≡ settle (set_said n k (ops.Write v) i)
      (within n (set_at place words) i)
  set_written i = ap (λ b. is_in_range 1 n i && b) (word_written i) ∙ elim (cases_eq (i / 64) (k / 2)) [
    | inl e ↦
        let bit : i % 64 ≡ i - 32 * k = omega arith in
        ap (λ b. is_in_range 1 n i && b) (cond-true _ _ _ (eq-eqb _ _ e) ∙ bit_written i e
        ∙ ap (λ b. cond (is_in_range 1 n i) (has_bit v b) (set_at place words i)) bit)
        ∙ shown_here (is_in_range 1 n i) (has_bit v (i - 32 * k)) (set_at place words i) (is_in_range (32 * k) (32 * k + 63) i) (in_word e)
    | inr ne ↦
        ap (λ b. is_in_range 1 n i && b) (cond-false _ _ _ (ne_eqb _ _ ne))
        ∙ elsewhere (is_in_range 1 n i) (is_in_range (32 * k) (32 * k + 63) i) (is_in_range 1 n i && set_at place words i)
        (has_bit v (i - 32 * k)) (out_of_word ne)
  ]
    where
      in_word : i / 64 ≡ k / 2 → is_in_range (32 * k) (32 * k + 63) i ≡ true
      in_word e = grind (arith, nat_tests)

      out_of_word : i / 64 ≢ k / 2 → is_in_range (32 * k) (32 * k + 63) i ≡ false
      out_of_word ne = grind (arith, nat_tests)

      shown_here : (r x y t : Bool) → t ≡ true → (r && cond r x y) ≡ settle (cond (r && t) (cond x Ask Clear) Nothing) (r && y)
      shown_here true true y true e = refl
      shown_here true false y true e = refl
      shown_here false x y true e = refl
      shown_here r x y false e = absurd (cc)

      elsewhere : (r t y x : Bool) → t ≡ false → y ≡ settle (cond (r && t) (cond x Ask Clear) Nothing) y
      elsewhere true false y x e = refl
      elsewhere false t y x e = refl
      elsewhere true true y x e = absurd (cc)

-- a set none of whose words is written
pub set_apart : (place : ℕ → ℕ) (words : List ℕ) (p new n i : ℕ) → ((j : ℕ) → j < FILE_WORDS → place j ≢ p)
    → within n (set_at place (set words p new)) i ≡ within n (set_at place words) i
set_apart place words p new n i apart = ap (λ b. is_in_range 1 n i && b) (slots.kept place words p new i apart)

-- ---- the slot

pub register_shown : (words : List ℕ) (q n mask : ℕ) (reg : FileReg) → IsOfSets reg → get_or words (register_place q reg) 0 < 2 ^ 64
    → MasksIdentities mask (32 * index_of reg) n
    → bit_and (get_or words (register_place q reg) 0) mask ≡ register_value (slot_file n 0 (mrif_in words q)) reg
register_shown words q n mask (Pending k) is fits masks = set_shown (pending_place q) words n k mask is.0 is.1 fits masks
register_shown words q n mask (Enable k) is fits masks = set_shown (enable_place q) words n k mask is.0 is.1 fits masks
register_shown words q n mask Delivery is fits masks = absurd is
register_shown words q n mask Threshold is fits masks = absurd is
register_shown words q n mask Reserved is fits masks = absurd is
register_shown words q n mask Odd is fits masks = absurd is
register_shown words q n mask Outside is fits masks = absurd is

pub register_written : (words : List ℕ) (q n v new : ℕ) (reg : FileReg) → IsOfSets reg → HasSlot words q
    → Merges new (get_or words (register_place q reg) 0) v (32 * index_of reg) n
    → SameFile (slot_file n 0 (mrif_in (set words (register_place q reg) new) q)) (accessed reg (ops.Write v) (slot_file n 0 (mrif_in words q)))
register_written words q n v new (Pending k) is there merges = record {
  n = refl;
  pending = set_written (pending_place q) words n k v new (λ j e. omega (arith, e)) (omega (arith, there, is.1)) is.0 is.1 merges;
  enabled = λ i. set_apart (enable_place q) words (pending_place q (k / 2)) new n i (λ j low e. omega (arith, e));
  threshold = refl;
  delivery = refl;
}
register_written words q n v new (Enable k) is there merges = record {
  n = refl;
  pending = λ i. set_apart (pending_place q) words (enable_place q (k / 2)) new n i (λ j low e. omega (arith, e));
  enabled = set_written (enable_place q) words n k v new (λ j e. omega (arith, e)) (omega (arith, there, is.1)) is.0 is.1 merges;
  threshold = refl;
  delivery = refl;
}
register_written words q n v new Delivery is there merges = absurd is
register_written words q n v new Threshold is there merges = absurd is
register_written words q n v new Reserved is there merges = absurd is
register_written words q n v new Odd is there merges = absurd is
register_written words q n v new Outside is there merges = absurd is

pub one_word_kept : (words : List ℕ) (q n at new : ℕ) → 64 * q ≤ at → at < 64 * (q + 1)
    → ((i : ℕ) → is_in_range 1 n i ≡ false → (set_at (pending_place q) (set words at new) i ≡ set_at (pending_place q) words i)
    × (set_at (enable_place q) (set words at new) i ≡ set_at (enable_place q) words i)) → KeepsAllElse words (set words at new) q n
one_word_kept words q n at new low high kept = record {
  size = length-set words at new;
  kept = kept;
  elsewhere = λ place apart. get_or-set_other words at place new 0 (away place apart);
}
  where
    away : (place : ℕ) → (place < 64 * q) ⊎ (64 * (q + 1) ≤ place) → place ≢ at
    away place (inl below) e = omega (arith, below, e, low)
    away place (inr above) e = omega (arith, above, e, high)

pub register_keeps : (words : List ℕ) (q n v new : ℕ) (reg : FileReg) → IsOfSets reg → HasSlot words q
    → Merges new (get_or words (register_place q reg) 0) v (32 * index_of reg) n
    → KeepsAllElse words (set words (register_place q reg) new) q n
register_keeps words q n v new (Pending k) is there merges =
    one_word_kept words q n (pending_place q (k / 2)) new (omega (arith, is.1)) (omega (arith, is.1)) (λ i outside. (
      set_kept (pending_place q) words n k v new (λ j e. omega (arith, e)) (omega (arith, there, is.1)) is.0 is.1 merges i outside,
      slots.kept (enable_place q) words (pending_place q (k / 2)) new i (λ j low e. omega (arith, e)),
    ))
register_keeps words q n v new (Enable k) is there merges =
    one_word_kept words q n (enable_place q (k / 2)) new (omega (arith, is.1)) (omega (arith, is.1)) (λ i outside. (
      slots.kept (pending_place q) words (enable_place q (k / 2)) new i (λ j low e. omega (arith, e)),
      set_kept (enable_place q) words n k v new (λ j e. omega (arith, e)) (omega (arith, there, is.1)) is.0 is.1 merges i outside,
    ))
register_keeps words q n v new Delivery is there merges = absurd is
register_keeps words q n v new Threshold is there merges = absurd is
register_keeps words q n v new Reserved is there merges = absurd is
register_keeps words q n v new Odd is there merges = absurd is
register_keeps words q n v new Outside is there merges = absurd is

-- ---- an instruction, by a read and a write

bit_by_write : (op : Op) (p : ℕ → Bool) (n k before i : ℕ) → FitsOp op → before ≡ word_of p (32 * k) 64
    → settle (set_said n k (ops.Write (written op before)) i) (p i) ≡ settle (set_said n k op i) (p i)
bit_by_write op p n k before i fits is = at_test (shows n k i) refl
  where
    asked : (one was : Bool) → settle (cond one Ask Clear) was ≡ one
    asked true was = refl
    asked false was = refl

    bounds : shows n k i ≡ true → (32 * k ≤ i) × (i ≤ 32 * k + 63)
    bounds here = (grind (arith, nat_tests), grind (arith, nat_tests))

    at_test : (b : Bool) → shows n k i ≡ b → settle (cond b (bit_said (ops.Write (written op before)) (i - 32 * k)) Nothing) (p i) ≡ settle
        (cond b (bit_said op (i - 32 * k)) Nothing) (p i)
    at_test true here =
        let inside = bounds here in
        let small : i - 32 * k < 64 = omega (arith, inside.0, inside.1) in
        let at : 32 * k + (i - 32 * k) ≡ i = omega (arith, inside.0) in
        asked (has_bit (written op before) (i - 32 * k)) (p i) ∙ has_bit-written op before (i - 32 * k) fits small
        ∙ ap (settle (bit_said op (i - 32 * k))) (ap (λ x. has_bit x (i - 32 * k)) is ∙ has_bit-word_of p (32 * k) 64 (i - 32 * k) small ∙ ap p at)
    at_test false here = refl

pub accessed_by_write : (op : Op) (reg : FileReg) (before : ℕ) (file new : InterruptFile) → IsOfSets reg → FitsOp op
    → before ≡ register_value file reg → SameFile new (accessed reg (ops.Write (written op before)) file) → SameFile new (accessed reg op file)
accessed_by_write op (Pending k) before file new is fits shown same = record {
  n = same.n;
  pending = λ i. same.pending i ∙ bit_by_write op file.pending file.n k before i fits shown;
  enabled = same.enabled;
  threshold = same.threshold;
  delivery = same.delivery;
}
accessed_by_write op (Enable k) before file new is fits shown same = record {
  n = same.n;
  pending = same.pending;
  enabled = λ i. same.enabled i ∙ bit_by_write op file.enabled file.n k before i fits shown;
  threshold = same.threshold;
  delivery = same.delivery;
}
accessed_by_write op Delivery before file new is fits shown same = absurd is
accessed_by_write op Threshold before file new is fits shown same = absurd is
accessed_by_write op Reserved before file new is fits shown same = absurd is
accessed_by_write op Odd before file new is fits shown same = absurd is
accessed_by_write op Outside before file new is fits shown same = absurd is

-- one that does not write leaves it
pub read_leaves : (op : Op) (reg : FileReg) (file : InterruptFile) → IsOfSets reg → is_writing op ≡ false → SameFile file (accessed reg op file)
read_leaves ops.Read reg file is reads = by_register reg is
  where
    nothing : (b was : Bool) → was ≡ settle (cond b Nothing Nothing) was
    nothing true was = refl
    nothing false was = refl

    by_register : (reg : FileReg) → IsOfSets reg → SameFile file (accessed reg ops.Read file)
    by_register (Pending k) is = record {
      n = refl;
      pending = λ i. nothing (shows file.n k i) (file.pending i);
      enabled = λ i. refl;
      threshold =
          refl;
      delivery = refl;
    }
    by_register (Enable k) is = record {
      n = refl;
      pending = λ i. refl;
      enabled = λ i. nothing (shows file.n k i) (file.enabled i);
      threshold =
          refl;
      delivery = refl;
    }
    by_register Delivery is = absurd is
    by_register Threshold is = absurd is
    by_register Reserved is = absurd is
    by_register Odd is = absurd is
    by_register Outside is = absurd is
read_leaves (ops.Write v) reg file is reads = absurd (cc)
read_leaves (ops.Set v) reg file is reads = absurd (cc)
read_leaves (ops.Clear v) reg file is reads = absurd (cc)

-- ---- the same, of what the code reads and stores

module _ (words : List ℕ) (q n at word mask k : ℕ) (reg : FileReg) (is : IsOfSets reg) (place : at ≡ 8 * register_place q reg)
    (loaded : word ≡ get_or words (at / 8) 0) (index : k ≡ index_of reg) (masks : MasksIdentities mask (32 * k) n) where
  place_of : at / 8 ≡ register_place q reg
  place_of = by_bytes (register_place q reg) place
    where
      by_bytes : (p : ℕ) → at ≡ 8 * p → at / 8 ≡ p
      by_bytes p e = omega arith

  word_of_place : word ≡ get_or words (register_place q reg) 0
  word_of_place = loaded ∙ ap (λ p. get_or words p 0) place_of

  masks_register : MasksIdentities mask (32 * index_of reg) n
  masks_register = subst (λ x. MasksIdentities mask (32 * x) n) index masks

  pub masked_shows : word < 2 ^ 64 → bit_and word mask ≡ register_value (slot_file n 0 (mrif_in words q)) reg
  masked_shows fits = ap (λ x. bit_and x mask) word_of_place
      ∙ register_shown words q n mask reg is (subst (λ x. x < 2 ^ 64) word_of_place fits) masks_register

  module _ (new : List ℕ) (v put : ℕ) (there : HasSlot words q)
      (merges : (b : ℕ) → b < 64 → has_bit put b ≡ cond (has_bit mask b) (has_bit v b) (has_bit word b)) (stored : new ≡ set words (at / 8) put) where
    merges_register : Merges put (get_or words (register_place q reg) 0) v (32 * index_of reg) n
    merges_register b low = merges b low ∙ ap (λ m. cond m (has_bit v b) (has_bit word b)) (masks_register b low)
        ∙ ap (λ x. cond (is_in_range 1 n (32 * index_of reg + b)) (has_bit v b) (has_bit x b)) word_of_place

    one_word : set words (register_place q reg) put ≡ new
    one_word = sym (stored ∙ ap (λ p. set words p put) place_of)

    pub put_writes : SameFile (slot_file n 0 (mrif_in new q)) (accessed reg (ops.Write v) (slot_file n 0 (mrif_in words q)))
    put_writes = subst (λ (m : List ℕ). SameFile (slot_file n 0 (mrif_in m q)) (accessed reg (ops.Write v) (slot_file n 0 (mrif_in words q))))
        one_word (register_written words q n v put reg is there merges_register)

    pub put_keeps : KeepsAllElse words new q n
    put_keeps = subst (λ (m : List ℕ). KeepsAllElse words m q n) one_word (register_keeps words q n v put reg is there merges_register)
