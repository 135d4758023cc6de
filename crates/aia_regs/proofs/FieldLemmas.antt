-- A field that is put into a number, and the bits about it.
use Rattle.std.proofs.Common.{◌≡◌, ℕ, suc, ◌+◌, ◌-◌, ◌*◌, ◌/◌, ◌%◌, ◌^◌, ◌<◌, ◌≤◌, ◌⊎◌, inl, inr, sym, ap, subst, ◌∙◌, arith}
use Rattle.std.specs.Int.{bit_at}
use Rattle.std.proofs.lemmas.Nat.{pow-add, pow_pos, div-mul-add, mod-mul-add, div-add-mod', shr-shr, shl_whole}
use Rattle.std.proofs.lemmas.Nat.Bits.{bit_at_cat_low, bit_at_cat_high, bit_at_above, same_from_bits}
use Rattle.std.proofs.lemmas.Bool.{cases_lt}
use Rattle.std.proofs.Math.Nat.{mod-lt, mod-eq_of_lt, mul-le-mul_right, lt_of_mul-lt-mul_right}
use Rattle.aia_regs.specs.Fields.{field, with_field, IsOutside}

-- what a number has above a field
abbrev above : ℕ → ℕ → ℕ → ℕ
above x hi lo = x / 2 ^ lo / 2 ^ (hi - lo + 1)

-- to put back what was there changes nothing
pub put_back : (x hi lo : ℕ) → with_field x hi lo (field x hi lo) ≡ x
put_back x hi lo = ap (λ y. y * 2 ^ lo + x % 2 ^ lo) (div-add-mod' (x / 2 ^ lo) (2 ^ (hi - lo + 1))) ∙ div-add-mod' x (2 ^ lo)

exchanged : (a q f p l x v : ℕ) → x ≡ (a * q + f) * p + l → x - f * p + v * p ≡ (a * q + v) * p + l
exchanged a q f p l x v e = grind arith

-- to take out what was there and to put v in
pub exchange : (x hi lo v : ℕ) → x - field x hi lo * 2 ^ lo + v * 2 ^ lo ≡ with_field x hi lo v
exchange x hi lo v = exchanged (above x hi lo) (2 ^ (hi - lo + 1)) (field x hi lo) (2 ^ lo) (x % 2 ^ lo) x v (sym (put_back x hi lo))

part_within : (a q f p l x : ℕ) → (a * q + f) * p + l ≡ x → f * p ≤ x
part_within a q f p l x e = grind arith

field_within : (x hi lo : ℕ) → field x hi lo * 2 ^ lo ≤ x
field_within x hi lo = part_within (above x hi lo) (2 ^ (hi - lo + 1)) (field x hi lo) (2 ^ lo) (x % 2 ^ lo) x (put_back x hi lo)

-- the law of a field that was put in
pub got : (x hi lo v : ℕ) → v < 2 ^ (hi - lo + 1) → field (with_field x hi lo v) hi lo ≡ v
got x hi lo v small =
    ap (λ y. y % 2 ^ (hi - lo + 1)) (div-mul-add (above x hi lo * 2 ^ (hi - lo + 1) + v) (2 ^ lo) (x % 2 ^ lo) (mod-lt x (pow_pos lo)))
    ∙ mod-mul-add (above x hi lo) (2 ^ (hi - lo + 1)) v small

-- ---- numbers of w bits

parts_fit : (a q p f v l r t : ℕ) → r * (q * p) ≡ t → (a * q + f) * p + l < t → v < q → l < p → (a * q + v) * p + l < t
parts_fit a q p f v l r t whole fits small low =
    let e : (a * q + f) * p + l ≡ a * (q * p) + (f * p + l) = grind arith in
    let below : a * (q * p) < r * (q * p) = omega arith in
    let first : a < r = lt_of_mul-lt-mul_right (q * p) below in
    let g : (a + 1) * (q * p) ≤ r * (q * p) = mul-le-mul_right (q * p) (omega arith) in
    let h : (v + 1) * p ≤ q * p = mul-le-mul_right p (omega arith) in
    let i : (a * q + v) * p + l ≡ a * (q * p) + (v * p + l) = grind arith in
    let j : (v + 1) * p ≡ v * p + p = grind arith in
    let k : (a + 1) * (q * p) ≡ a * (q * p) + q * p = grind arith in
    omega arith

powers : (hi lo w : ℕ) → lo ≤ hi → hi < w → 2 ^ (w - suc hi) * (2 ^ (hi - lo + 1) * 2 ^ lo) ≡ 2 ^ w
powers hi lo w order within =
    let e : (w - suc hi) + (hi - lo + 1 + lo) ≡ w = omega arith in
    ap (λ y. 2 ^ (w - suc hi) * y) (sym (pow-add 2 (hi - lo + 1) lo)) ∙ sym (pow-add 2 (w - suc hi) (hi - lo + 1 + lo)) ∙ ap (λ k. 2 ^ k) e

-- a number of w bits with a field put in has w bits
pub put_fits : (x hi lo v w : ℕ) → lo ≤ hi → hi < w → v < 2 ^ (hi - lo + 1) → x < 2 ^ w → with_field x hi lo v < 2 ^ w
put_fits x hi lo v w order within small fits =
    parts_fit (above x hi lo) (2 ^ (hi - lo + 1)) (2 ^ lo) (field x hi lo) v (x % 2 ^ lo) (2 ^ (w - suc hi)) (2 ^ w) (powers hi lo w order within)
    (subst (λ (y : ℕ). y < 2 ^ w) (sym (put_back x hi lo)) fits) small (mod-lt x (pow_pos lo))

-- the shift loses nothing
old_shifted : (x hi lo : ℕ) → x < 2 ^ 64 → field x hi lo * 2 ^ lo % 2 ^ 64 ≡ field x hi lo * 2 ^ lo
old_shifted x hi lo fits = let below : field x hi lo * 2 ^ lo < 2 ^ 64 = omega (arith, field_within x hi lo) in mod-eq_of_lt below

-- what `put_bits` computes
pub exchange_shifted : (x hi lo v old : ℕ) → lo ≤ hi → hi < 64 → v < 2 ^ (hi - lo + 1) → x < 2 ^ 64 → old ≡ field x hi lo
    → x - old * 2 ^ lo % 2 ^ 64 + v * 2 ^ lo % 2 ^ 64 ≡ with_field x hi lo v
exchange_shifted x hi lo v old order within small fits e =
    ap (λ y. x - y * 2 ^ lo % 2 ^ 64 + v * 2 ^ lo % 2 ^ 64) e
    ∙ ap (λ y. x - y + v * 2 ^ lo % 2 ^ 64) (old_shifted x hi lo fits)
    ∙ ap (λ y. x - field x hi lo * 2 ^ lo + y) (shl_whole v (hi - lo + 1) lo 64 small (omega arith))
    ∙ exchange x hi lo v

-- ---- bits

-- the bits of a number made of three parts, above and below the middle one
bit_above : (a w v p l i : ℕ) → v < 2 ^ w → l < 2 ^ p → p + w ≤ i → bit_at ((a * 2 ^ w + v) * 2 ^ p + l) i ≡ bit_at a (i - p - w)
bit_above a w v p l i small low high =
    bit_at_cat_high (a * 2 ^ w + v) p l i low (omega arith) ∙ bit_at_cat_high a w v (i - p) small (omega arith)

-- the bits outside a field stay
pub others_stay : (x hi lo v i : ℕ) → lo ≤ hi → v < 2 ^ (hi - lo + 1) → IsOutside hi lo i → bit_at (with_field x hi lo v) i ≡ bit_at x i
others_stay x hi lo v i order small out =
    elim out [
      | inl below ↦ bit_at_cat_low (above x hi lo * 2 ^ (hi - lo + 1) + v) lo (x % 2 ^ lo) i below
          ∙ sym (bit_at_cat_low (above x hi lo * 2 ^ (hi - lo + 1) + field x hi lo) lo (x % 2 ^ lo) i below)
          ∙ ap (λ y. bit_at y i) (put_back x hi lo)
      | inr beyond ↦ bit_above (above x hi lo) (hi - lo + 1) v lo (x % 2 ^ lo) i small (mod-lt x (pow_pos lo)) (omega arith)
          ∙ sym (bit_above (above x hi lo) (hi - lo + 1) (field x hi lo) lo (x % 2 ^ lo) i (mod-lt (x / 2 ^ lo) (pow_pos (hi - lo + 1)))
          (mod-lt x (pow_pos lo)) (omega arith))
          ∙ ap (λ y. bit_at y i) (put_back x hi lo)
    ]

-- bit i of a field is bit lo + i of the number, and none above it is 1
pub bit_of_field : (x hi lo i : ℕ) → lo + i ≤ hi → bit_at (field x hi lo) i ≡ bit_at x (lo + i)
bit_of_field x hi lo i within =
    sym (bit_at_cat_low (above x hi lo) (hi - lo + 1) (field x hi lo) i (omega arith))
    ∙ ap (λ y. bit_at y i) (div-add-mod' (x / 2 ^ lo) (2 ^ (hi - lo + 1))) ∙ ap (λ y. y % 2) (shr-shr x lo i)

pub bit_past_field : (x hi lo i : ℕ) → lo ≤ hi → hi < lo + i → bit_at (field x hi lo) i ≡ 0
bit_past_field x hi lo i order past = bit_at_above (field x hi lo) (hi - lo + 1) i (mod-lt (x / 2 ^ lo) (pow_pos (hi - lo + 1))) (omega arith)

-- a field that has no bit in common with the one put in stays
pub other_field : (x hi lo v top bottom : ℕ) → lo ≤ hi → bottom ≤ top → v < 2 ^ (hi - lo + 1) → (top < lo) ⊎ (hi < bottom)
    → field (with_field x hi lo v) top bottom ≡ field x top bottom
other_field x hi lo v top bottom order other small apart =
    same_from_bits (field (with_field x hi lo v) top bottom) (field x top bottom) (λ i. elim (cases_lt top (bottom + i)) [
      | inl past ↦ bit_past_field (with_field x hi lo v) top bottom i other past ∙ sym (bit_past_field x top bottom i other past)
      | inr within ↦ bit_of_field (with_field x hi lo v) top bottom i within ∙ others_stay x hi lo v (bottom + i) order small (outside i within)
          ∙ sym (bit_of_field x top bottom i within)
    ])
  where
    outside : (i : ℕ) → bottom + i ≤ top → IsOutside hi lo (bottom + i)
    outside i within = elim apart [
      | inl below ↦ inl (omega arith)
      | inr beyond ↦ inr (omega arith)
    ]
