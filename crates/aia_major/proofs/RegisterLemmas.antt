-- The majors that sip and sie show, and what a guest's instruction makes of them.
use Rattle.std.proofs.Common.{◌≡◌, ◌≢◌, lit<, ℕ, zero, ◌+◌, ◌-◌, ◌*◌, ◌^◌, ◌<◌, ◌≤◌, inl, inr, Bool, true, false, not, ◌&&◌, ◌||◌, cond, nat_eq, refl, sym, ap, subst, ◌∙◌, arith}
use Rattle.std.specs.Int.{bit_at, bit_not, w64}
use Rattle.std.proofs.lemmas.Bool.{cases_lt, cases_eq, ne_eqb, eqb-true}
use Rattle.std.proofs.lemmas.Bool.Decides.{nat_tests}
use Rattle.std.proofs.lemmas.Nat.Bits.{bit_at-zero, bit_at_above, bit_at_cat_low, bit_at_cat_high}
use Rattle.aia_word.proofs.BitLemmas.{has_bit-and, has_bit-or, has_bit-not}
use Rattle.aia_regs.specs.declared.access.Op.{Op}
use Rattle.aia_regs.specs.declared.access.Op.TheVariants as ops
use Rattle.aia_regs.specs.Fields.{bit_number}
use Rattle.aia_word.specs.Sets.{has_bit}
use Rattle.aia_regs.specs.Operations.{written, bit_said, FitsOp}
use Rattle.aia_regs.specs.BitUpdate.{settle}
use Rattle.aia_regs.specs.BitUpdate.BitUpdate.{Ask, Clear, Nothing}
use Rattle.aia_major.specs.VsMajor.{VsMajorState, is_major, is_guests_own, fits_hvip, is_pending, majors_word, sip_value, sie_value, with_sip, with_sie}
use Rattle.aia_major.specs.Kept.{sip_written, sie_written}

-- ---- the bits of a register

abbrev four : Bool → Bool → Bool → Bool → ℕ
four a b c d = bit_number a * 2 ^ 1 + bit_number b * 2 ^ 5 + bit_number c * 2 ^ 9 + bit_number d * 2 ^ 13

at_majors : (a b c d : Bool) → (has_bit (four a b c d) 1 ≡ a) × (has_bit (four a b c d) 5 ≡ b) × (has_bit (four a b c d) 9 ≡ c)
    × (has_bit (four a b c d) 13 ≡ d)
at_majors true true true true = (refl, refl, refl, refl)
at_majors true true true false = (refl, refl, refl, refl)
at_majors true true false true = (refl, refl, refl, refl)
at_majors true true false false = (refl, refl, refl, refl)
at_majors true false true true = (refl, refl, refl, refl)
at_majors true false true false = (refl, refl, refl, refl)
at_majors true false false true = (refl, refl, refl, refl)
at_majors true false false false = (refl, refl, refl, refl)
at_majors false true true true = (refl, refl, refl, refl)
at_majors false true true false = (refl, refl, refl, refl)
at_majors false true false true = (refl, refl, refl, refl)
at_majors false true false false = (refl, refl, refl, refl)
at_majors false false true true = (refl, refl, refl, refl)
at_majors false false true false = (refl, refl, refl, refl)
at_majors false false false true = (refl, refl, refl, refl)
at_majors false false false false = (refl, refl, refl, refl)

bit_number-lt : (b : Bool) → bit_number b < 2 ^ 1
bit_number-lt true = lit< tt
bit_number-lt false = lit< tt

-- four bits more, of which the lowest alone may be a one
past : (x a j : ℕ) → a < 2 ^ 1 → j ≢ 0 → (4 ≤ j → bit_at x (j - 4) ≡ 0) → bit_at (x * 2 ^ 4 + a) j ≡ 0
past x a j low ne above = elim (cases_lt j 4) [
  | inl less ↦ bit_at_cat_low x 4 a j less ∙ bit_at_above a 1 j low (omega arith)
  | inr more ↦ bit_at_cat_high x 4 a j (omega arith) more ∙ above more
]

elsewhere : (a b c d j : ℕ) → a < 2 ^ 1 → b < 2 ^ 1 → c < 2 ^ 1 → d < 2 ^ 1 → j ≢ 1 → j ≢ 5 → j ≢ 9 → j ≢ 13
    → bit_at (a * 2 ^ 1 + b * 2 ^ 5 + c * 2 ^ 9 + d * 2 ^ 13) j ≡ 0
elsewhere a b c d j la lb lc ld n1 n5 n9 n13 =
    let e : a * 2 ^ 1 + b * 2 ^ 5 + c * 2 ^ 9 + d * 2 ^ 13 ≡ (((d * 2 ^ 4 + c) * 2 ^ 4 + b) * 2 ^ 4 + a) * 2 ^ 1 + 0 = omega arith in
    ap (λ n. bit_at n j) e ∙ elim (cases_lt j 1) [
      | inl less ↦ bit_at_cat_low (((d * 2 ^ 4 + c) * 2 ^ 4 + b) * 2 ^ 4 + a) 1 0 j less ∙ bit_at-zero j
      | inr more ↦ bit_at_cat_high (((d * 2 ^ 4 + c) * 2 ^ 4 + b) * 2 ^ 4 + a) 1 0 j (lit< tt) more
          ∙ past ((d * 2 ^ 4 + c) * 2 ^ 4 + b) a (j - 1) la (λ z. n1 (omega arith))
          (λ h. past (d * 2 ^ 4 + c) b (j - 1 - 4) lb (λ z. n5 (omega arith))
          (λ i. past d c (j - 1 - 4 - 4) lc (λ z. n9 (omega arith))
          (λ k. bit_at_above d 1 (j - 1 - 4 - 4 - 4) ld (omega (arith, λ (z : j ≡ 13). n13 z)))))
    ]

none_of : (j : ℕ) (p : Bool) → j ≢ 1 → j ≢ 5 → j ≢ 9 → j ≢ 13 → (is_major j && p) ≡ false
none_of j p n1 n5 n9 n13 = simp (ne_eqb j 1 n1, ne_eqb j 5 n5, ne_eqb j 9 n9, ne_eqb j 13 n13)

pub majors_word-bit : (members : ℕ → Bool) (j : ℕ) → has_bit (majors_word members) j ≡ (is_major j && members j)
majors_word-bit members j =
    let four_are = at_majors (members 1) (members 5) (members 9) (members 13) in
    elim (cases_eq j 1) [
      | inl e ↦ at 1 e four_are.0
      | inr n1 ↦ elim (cases_eq j 5) [
        | inl e ↦ at 5 e four_are.1
        | inr n5 ↦ elim (cases_eq j 9) [
          | inl e ↦ at 9 e four_are.2
          | inr n9 ↦ elim (cases_eq j 13) [
            | inl e ↦ at 13 e four_are.3
            | inr n13 ↦ ap (λ x. nat_eq x 1) (elsewhere _ _ _ _ j (bit_number-lt (members 1)) (bit_number-lt (members 5))
                (bit_number-lt (members 9)) (bit_number-lt (members 13)) n1 n5 n9 n13) ∙ sym (none_of j (members j) n1 n5 n9 n13)
          ]
        ]
      ]
    ]
  where
    at : (k : ℕ) → j ≡ k → has_bit (majors_word members) k ≡ (is_major k && members k) → has_bit (majors_word members) j ≡ (is_major j && members j)
    at k e is = subst (λ i. has_bit (majors_word members) i ≡ (is_major i && members i)) (sym e) is

-- ---- a bit after an instruction

has_bit-written : (op : Op) (old b : ℕ) → FitsOp op → b < 64 → has_bit (written op old) b ≡ settle (bit_said op b) (has_bit old b)
has_bit-written ops.Read old b fits low = refl
has_bit-written (ops.Write v) old b fits low = asked (has_bit v b) (has_bit old b)
  where
    asked : (one was : Bool) → one ≡ settle (cond one Ask Clear) was
    asked true was = refl
    asked false was = refl
has_bit-written (ops.Set v) old b fits low = has_bit-or old v b ∙ joined (has_bit v b) (has_bit old b)
  where
    joined : (one was : Bool) → (was || one) ≡ settle (cond one Ask Nothing) was
    joined true true = refl
    joined true false = refl
    joined false true = refl
    joined false false = refl
has_bit-written (ops.Clear v) old b fits low = has_bit-and old (bit_not w64 v) b ∙ ap (λ x. has_bit old b && x) (has_bit-not v b fits low)
    ∙ cleared (has_bit v b) (has_bit old b)
  where
    cleared : (one was : Bool) → (was && not one) ≡ settle (cond one Clear Nothing) was
    cleared true true = refl
    cleared true false = refl
    cleared false true = refl
    cleared false false = refl

-- ---- a set after a guest's instruction

-- the number is heard at some of the places that the register shows
heard : (op : Op) (old j : ℕ) (own was : Bool) → FitsOp op → (own ≡ true → j < 64) → (own ≡ true → has_bit old j ≡ was)
    → cond own (has_bit (written op old) j) was ≡ settle (cond own (bit_said op j) Nothing) was
heard op old j false was fits low shows = refl
heard op old j true was fits low shows = has_bit-written op old j fits (low refl) ∙ ap (settle (bit_said op j)) (shows refl)

own_is_low : (j : ℕ) → is_guests_own j ≡ true → j < 64
own_is_low j own = grind (arith, nat_tests)

major_is_low : (j : ℕ) → is_major j ≡ true → j < 64
major_is_low j is = grind (arith, nat_tests)

-- a guest's own major is pending where it is injected
own_is_pending : (m : VsMajorState) (signal : Bool) (j : ℕ) → is_guests_own j ≡ true → (is_major j && is_pending m signal j) ≡ m.injected j
own_is_pending m signal j own = elim (cases_eq j 1) [
  | inl e ↦ at 1 e (or_false (m.injected 1))
  | inr n1 ↦ elim (cases_eq j 13) [
    | inl e ↦ at 13 e (or_false (m.injected 13))
    | inr n13 ↦ absurd (grind (arith, nat_tests))
  ]
]
  where
    or_false : (b : Bool) → (b || false) ≡ b
    or_false true = refl
    or_false false = refl

    at : (k : ℕ) → j ≡ k → (is_major k && is_pending m signal k) ≡ m.injected k → (is_major j && is_pending m signal j) ≡ m.injected j
    at k e is = subst (λ i. (is_major i && is_pending m signal i) ≡ m.injected i) (sym e) is

pub sip_access : (op : Op) (m : VsMajorState) (signal : Bool) → FitsOp op → sip_written (written op (sip_value m signal)) m ≡ with_sip op m
sip_access op m signal fits = ap (λ f. record m { injected = f })
    (λ i j. heard op (sip_value m signal) j (is_guests_own j) (m.injected j) fits (own_is_low j)
    (λ own. majors_word-bit (is_pending m signal) j ∙ own_is_pending m signal j own) i)

pub sie_access : (op : Op) (m : VsMajorState) → FitsOp op → sie_written (written op (sie_value m)) m ≡ with_sie op m
sie_access op m fits = ap (λ f. record m { enabled = f })
    (λ i j. heard op (sie_value m) j (is_major j) (m.enabled j) fits (major_is_low j)
    (λ is. majors_word-bit m.enabled j ∙ ap (λ b. b && m.enabled j) is) i)

-- ---- what hvip and sie may hold

pub held_at_majors : (v j : ℕ) → fits_hvip v ≡ true → has_bit v j ≡ true → is_major j ≡ true
held_at_majors v j fits is = at (is_major j) (sym (majors_word-bit (has_bit v) j) ∙ ap (λ n. has_bit n j) (eqb-true _ _ fits))
  where
    at : (m : Bool) → (m && has_bit v j) ≡ has_bit v j → m ≡ true
    at true e = refl
    at false e = e ∙ is
