-- Packing and spreading bit by bit, from the lowest on, and what the two make of each bit.
use Rattle.std.proofs.Common.{◌≡◌, ◌≢◌, ℕ, zero, suc, ◌+◌, ◌-◌, ◌*◌, ◌/◌, ◌%◌, ◌^◌, ◌<◌, ◌≤◌, Bool, true, false, ◌&&◌, nat_eq, cond, inl, inr, refl, sym, ap, ◌∙◌, lit<, arith}
use Rattle.std.specs.Int.{bit_at}
use Rattle.std.specs.Prelude.{bit_and, bit_or}
use Rattle.std.specs.Int.Bits.{or_shifted_r, and_lt}
use Rattle.std.proofs.Math.Nat.{pow-succ', mod-one}
use Rattle.std.proofs.lemmas.Nat.{shr-shr, shl_whole, mod-pow-add}
use Rattle.std.proofs.lemmas.Bool.{cases_eq, eq-eqb, ne_eqb, cond-true, cond-false, false≢true}
use Rattle.std.proofs.lemmas.Nat.Bits.{bit_at_lowest, bit_at-suc, bit_at-lt, bit_at-zero, same_from_bits_below}
use Rattle.aia_word.specs.Sets.{has_bit}
use Rattle.aia_word.specs.Packed.{packed, spread, ones}
use Rattle.aia_word.proofs.BitLemmas.{has_bit-and}
use Rattle.aia_word.proofs.SetLemmas.{same_bit}

-- i bits are looked at, and `at` of them are packed
pub record Packs (x mask i out at : ℕ) : Type 0 where
  pub sum : out + packed (64 - i) (x / 2 ^ i) (mask / 2 ^ i) * 2 ^ at ≡ packed 64 x mask
  pub small : out < 2 ^ at
  pub few : at ≤ i

packed_more : (n c x mask : ℕ) → n ≡ suc c → packed n x mask ≡ cond (nat_eq (mask % 2) 1) (x % 2 + 2 * packed c (x / 2) (mask / 2))
    (packed c (x / 2) (mask / 2))
unfolding packed
packed_more zero c x mask e = absurd (omega (arith, e))
packed_more (suc n) c x mask e = let f : n ≡ c = omega (arith, e) in
    ap (λ k. cond (nat_eq (mask % 2) 1) (x % 2 + 2 * packed k (x / 2) (mask / 2)) (packed k (x / 2) (mask / 2))) f

packed_none : (n x mask : ℕ) → n ≡ 0 → packed n x mask ≡ 0
unfolding packed
packed_none zero x mask e = refl
packed_none (suc n) x mask e = absurd (omega (arith, e))

halved : (x i : ℕ) → x / 2 ^ i / 2 ≡ x / 2 ^ (i + 1)
halved x i = shr-shr x i 1

zero_times : (o q : ℕ) → o ≡ o + 0 * q
zero_times o q = grind arith

sums : (o b r p : ℕ) → o + (b + 2 * r) * p ≡ (b * p + o) + r * (2 * p)
sums o b r p = grind arith

small_more : (o b p : ℕ) → o < p → b < 2 → b * p + o < 2 * p
small_more o zero p h l = grind arith
small_more o (suc zero) p h l = grind arith
small_more o (suc (suc b)) p h l = absurd (omega arith)

power_more : (n : ℕ) → 2 ^ (n + 1) ≡ 2 * 2 ^ n
power_more n = let e : n + 1 ≡ suc n = omega arith in ap (λ k. 2 ^ k) e ∙ pow-succ' 2 n

pub packs_more : (x mask i out at : ℕ) → i < 64 → mask / 2 ^ i % 2 ≡ 1 → Packs x mask i out at
    → Packs x mask (i + 1) (bit_or out (x / 2 ^ i % 2 * 2 ^ at % 2 ^ 64)) (at + 1)
packs_more x mask i out at low one p =
    let few = p.few in
    let bit = x / 2 ^ i % 2 in
    let two : bit < 2 ^ 1 = omega arith in
    let whole : bit * 2 ^ at % 2 ^ 64 ≡ bit * 2 ^ at = shl_whole bit 1 at 64 two (omega arith) in
    let put : bit_or out (bit * 2 ^ at % 2 ^ 64) ≡ bit * 2 ^ at + out = ap (bit_or out) whole ∙ or_shifted_r bit at out p.small in
    let power : 2 ^ (at + 1) ≡ 2 * 2 ^ at = power_more at in
    let step : packed (64 - i) (x / 2 ^ i) (mask / 2 ^ i) ≡ bit + 2 * packed (64 - (i + 1)) (x / 2 ^ (i + 1)) (mask / 2 ^ (i + 1)) =
    packed_more (64 - i) (64 - (i + 1)) (x / 2 ^ i) (mask / 2 ^ i) (omega arith) ∙ cond-true _ _ _ (eq-eqb _ _ one)
    ∙ ap (λ k. bit + 2 * packed (64 - (i + 1)) k (mask / 2 ^ i / 2)) (halved x i)
    ∙ ap (λ k. bit + 2 * packed (64 - (i + 1)) (x / 2 ^ (i + 1)) k) (halved mask i) in
    record {
      sum = rw (put, power) (sym (sums out bit (packed (64 - (i + 1)) (x / 2 ^ (i + 1)) (mask / 2 ^ (i + 1))) (2 ^ at)) ∙ rw step at p.sum);
      small = rw (put, power) (small_more out bit (2 ^ at) p.small two);
      few = omega arith;
    }

pub packs_skip : (x mask i out at : ℕ) → i < 64 → mask / 2 ^ i % 2 ≢ 1 → Packs x mask i out at → Packs x mask (i + 1) out at
packs_skip x mask i out at low other p =
    let few = p.few in
    let step : packed (64 - i) (x / 2 ^ i) (mask / 2 ^ i) ≡ packed (64 - (i + 1)) (x / 2 ^ (i + 1)) (mask / 2 ^ (i + 1)) =
    packed_more (64 - i) (64 - (i + 1)) (x / 2 ^ i) (mask / 2 ^ i) (omega arith) ∙ cond-false _ _ _ (ne_eqb _ _ other)
    ∙ ap (λ k. packed (64 - (i + 1)) k (mask / 2 ^ i / 2)) (halved x i) ∙ ap (packed (64 - (i + 1)) (x / 2 ^ (i + 1))) (halved mask i) in
    record { sum = rw step at p.sum; small = p.small; few = omega arith }

pub packs_all : (x mask i out at : ℕ) → 64 ≤ i → Packs x mask i out at → out ≡ packed 64 x mask
packs_all x mask i out at high p =
    let none : packed (64 - i) (x / 2 ^ i) (mask / 2 ^ i) ≡ 0 = packed_none (64 - i) (x / 2 ^ i) (mask / 2 ^ i) (omega arith) in
    zero_times out (2 ^ at) ∙ rw none at p.sum

-- no one of the mask is left
none_picked : (n x : ℕ) → packed n x 0 ≡ 0
unfolding packed
none_picked zero x = refl
none_picked (suc n) x = none_picked n (x / 2)

pub packs_rest : (x mask i out at : ℕ) → mask / 2 ^ i ≡ 0 → Packs x mask i out at → out ≡ packed 64 x mask
packs_rest x mask i out at empty p =
    let none : packed (64 - i) (x / 2 ^ i) (mask / 2 ^ i) ≡ 0 = ap (packed (64 - i) (x / 2 ^ i)) empty ∙ none_picked (64 - i) (x / 2 ^ i) in
    zero_times out (2 ^ at) ∙ rw none at p.sum

-- ---- spreading

-- i bits of the mask are looked at, and `at` bits of x are put
pub record Spreads (x mask i out at : ℕ) : Type 0 where
  pub sum : out + spread (64 - i) (x / 2 ^ at) (mask / 2 ^ i) * 2 ^ i ≡ spread 64 x mask
  pub small : out < 2 ^ i
  pub few : at ≤ i

spread_more : (n c x mask : ℕ) → n ≡ suc c → spread n x mask ≡ cond (nat_eq (mask % 2) 1) (x % 2 + 2 * spread c (x / 2) (mask / 2))
    (2 * spread c x (mask / 2))
unfolding spread
spread_more zero c x mask e = absurd (omega (arith, e))
spread_more (suc n) c x mask e = let f : n ≡ c = omega (arith, e) in
    ap (λ k. cond (nat_eq (mask % 2) 1) (x % 2 + 2 * spread k (x / 2) (mask / 2)) (2 * spread k x (mask / 2))) f

spread_none : (n x mask : ℕ) → n ≡ 0 → spread n x mask ≡ 0
unfolding spread
spread_none zero x mask e = refl
spread_none (suc n) x mask e = absurd (omega (arith, e))

spread_sum : (o b r p q : ℕ) → q ≡ 2 * p → (b * p + o) + r * q ≡ o + (b + 2 * r) * p
spread_sum o b r p q e = ap (λ k. (b * p + o) + r * k) e ∙ sym (sums o b r p)

skipped_sum : (o r p q : ℕ) → q ≡ 2 * p → o + r * q ≡ o + (2 * r) * p
skipped_sum o r p q e = ap (λ k. o + r * k) e ∙ doubled o r p
  where
    doubled : (o r p : ℕ) → o + r * (2 * p) ≡ o + (2 * r) * p
    doubled o r p = grind arith

pub spreads_more : (x mask i out at : ℕ) → i < 64 → mask / 2 ^ i % 2 ≡ 1 → Spreads x mask i out at
    → Spreads x mask (i + 1) (bit_or out (x / 2 ^ at % 2 * 2 ^ i % 2 ^ 64)) (at + 1)
spreads_more x mask i out at low one p =
    let few = p.few in
    let bit = x / 2 ^ at % 2 in
    let rest = spread (64 - (i + 1)) (x / 2 ^ (at + 1)) (mask / 2 ^ (i + 1)) in
    let two : bit < 2 ^ 1 = omega arith in
    let whole : bit * 2 ^ i % 2 ^ 64 ≡ bit * 2 ^ i = shl_whole bit 1 i 64 two (omega arith) in
    let put : bit_or out (bit * 2 ^ i % 2 ^ 64) ≡ bit * 2 ^ i + out = ap (bit_or out) whole ∙ or_shifted_r bit i out p.small in
    let power : 2 ^ (i + 1) ≡ 2 * 2 ^ i = power_more i in
    let step : spread (64 - i) (x / 2 ^ at) (mask / 2 ^ i) ≡ bit + 2 * rest =
    spread_more (64 - i) (64 - (i + 1)) (x / 2 ^ at) (mask / 2 ^ i) (omega arith) ∙ cond-true _ _ _ (eq-eqb _ _ one)
    ∙ ap (λ k. bit + 2 * spread (64 - (i + 1)) k (mask / 2 ^ i / 2)) (halved x at)
    ∙ ap (λ k. bit + 2 * spread (64 - (i + 1)) (x / 2 ^ (at + 1)) k) (halved mask i) in
    record {
      sum = rw put (spread_sum out bit rest (2 ^ i) (2 ^ (i + 1)) power ∙ rw step at p.sum);
      small = rw (put, power) (small_more out bit (2 ^ i) p.small two);
      few = omega arith;
    }

pub spreads_skip : (x mask i out at : ℕ) → i < 64 → mask / 2 ^ i % 2 ≢ 1 → Spreads x mask i out at → Spreads x mask (i + 1) out at
spreads_skip x mask i out at low other p =
    let few = p.few in
    let small = p.small in
    let rest = spread (64 - (i + 1)) (x / 2 ^ at) (mask / 2 ^ (i + 1)) in
    let power : 2 ^ (i + 1) ≡ 2 * 2 ^ i = power_more i in
    let step : spread (64 - i) (x / 2 ^ at) (mask / 2 ^ i) ≡ 2 * rest =
    spread_more (64 - i) (64 - (i + 1)) (x / 2 ^ at) (mask / 2 ^ i) (omega arith) ∙ cond-false _ _ _ (ne_eqb _ _ other)
    ∙ ap (λ k. 2 * spread (64 - (i + 1)) (x / 2 ^ at) k) (halved mask i) in
    record {
      sum = skipped_sum out rest (2 ^ i) (2 ^ (i + 1)) power ∙ rw step at p.sum;
      small = rw power (under_double out (2 ^ i) small);
      few = omega arith;
    }
  where
    under_double : (o p : ℕ) → o < p → o < 2 * p
    under_double o p h = omega arith

pub spreads_all : (x mask i out at : ℕ) → 64 ≤ i → Spreads x mask i out at → out ≡ spread 64 x mask
spreads_all x mask i out at high p =
    let none : spread (64 - i) (x / 2 ^ at) (mask / 2 ^ i) ≡ 0 = spread_none (64 - i) (x / 2 ^ at) (mask / 2 ^ i) (omega arith) in
    zero_times out (2 ^ i) ∙ rw none at p.sum

-- ---- each bit

has_bit-first : (x y : ℕ) → x % 2 ≡ y % 2 → has_bit x 0 ≡ has_bit y 0
has_bit-first x y e = ap (λ b. nat_eq b 1) (bit_at_lowest x ∙ e ∙ sym (bit_at_lowest y))

has_bit-later : (x y i : ℕ) → x / 2 ≡ y → has_bit x (suc i) ≡ has_bit y i
has_bit-later x y i e = ap (λ b. nat_eq b 1) (bit_at-suc x i ∙ ap (λ n. bit_at n i) e)

one_first : (mask : ℕ) → mask % 2 ≡ 1 → has_bit mask 0 ≡ true
one_first mask e = ap (λ b. nat_eq b 1) (bit_at_lowest mask ∙ e)

none_first : (mask : ℕ) → mask % 2 ≢ 1 → has_bit mask 0 ≡ false
none_first mask ne = ap (λ b. nat_eq b 1) (bit_at_lowest mask) ∙ ne_eqb _ _ ne

more_ones : (i mask : ℕ) → mask % 2 ≡ 1 → ones (suc i) mask ≡ suc (ones i (mask / 2))
unfolding ones
more_ones i mask e = ap (λ b. b + ones i (mask / 2)) e ∙ omega arith

same_ones : (i mask : ℕ) → mask % 2 ≢ 1 → ones (suc i) mask ≡ ones i (mask / 2)
unfolding ones
same_ones i mask ne = let e : mask % 2 ≡ 0 = omega (arith, ne) in ap (λ b. b + ones i (mask / 2)) e ∙ omega arith

no_ones : (mask : ℕ) → ones 0 mask ≡ 0
unfolding ones
no_ones mask = refl

packed_one : (count x mask : ℕ) → mask % 2 ≡ 1 → packed (suc count) x mask ≡ x % 2 + 2 * packed count (x / 2) (mask / 2)
unfolding packed
packed_one count x mask e = cond-true _ _ _ (eq-eqb _ _ e)

packed_other : (count x mask : ℕ) → mask % 2 ≢ 1 → packed (suc count) x mask ≡ packed count (x / 2) (mask / 2)
unfolding packed
packed_other count x mask ne = cond-false _ _ _ (ne_eqb _ _ ne)

spread_one : (count x mask : ℕ) → mask % 2 ≡ 1 → spread (suc count) x mask ≡ x % 2 + 2 * spread count (x / 2) (mask / 2)
unfolding spread
spread_one count x mask e = cond-true _ _ _ (eq-eqb _ _ e)

spread_other : (count x mask : ℕ) → mask % 2 ≢ 1 → spread (suc count) x mask ≡ 2 * spread count x (mask / 2)
unfolding spread
spread_other count x mask ne = cond-false _ _ _ (ne_eqb _ _ ne)

pub packed_bits : (count x mask i : ℕ) → i < count → has_bit mask i ≡ true → has_bit (packed count x mask) (ones i mask) ≡ has_bit x i
packed_bits zero x mask i h one = absurd (omega arith)
packed_bits (suc count) x mask zero h one =
    elim (cases_eq (mask % 2) 1) [
      | inl e ↦ ap (has_bit (packed (suc count) x mask)) (no_ones mask)
          ∙ has_bit-first _ x (ap (λ n. n % 2) (packed_one count x mask e) ∙ omega arith)
      | inr ne ↦ absurd (false≢true (sym (none_first mask ne) ∙ one))
    ]
packed_bits (suc count) x mask (suc i) h one =
    let later : has_bit (mask / 2) i ≡ true = sym (has_bit-later mask (mask / 2) i refl) ∙ one in
    let rest = packed_bits count (x / 2) (mask / 2) i (omega arith) later ∙ sym (has_bit-later x (x / 2) i refl) in
    elim (cases_eq (mask % 2) 1) [
      | inl e ↦ ap (has_bit (packed (suc count) x mask)) (more_ones i mask e)
          ∙ has_bit-later _ _ _ (ap (λ n. n / 2) (packed_one count x mask e) ∙ omega arith) ∙ rest
      | inr ne ↦ ap (has_bit (packed (suc count) x mask)) (same_ones i mask ne)
          ∙ ap (λ n. has_bit n (ones i (mask / 2))) (packed_other count x mask ne) ∙ rest
    ]

none_packed : (x mask : ℕ) → packed 0 x mask < 2 ^ ones 0 mask
unfolding packed ones
none_packed x mask = lit< tt

pub packed-lt : (count x mask : ℕ) → packed count x mask < 2 ^ ones count mask
packed-lt zero x mask = none_packed x mask
packed-lt (suc count) x mask =
    let rest = packed-lt count (x / 2) (mask / 2) in
    elim (cases_eq (mask % 2) 1) [
      | inl e ↦ rw (packed_one count x mask e, more_ones count mask e, pow-succ' 2 (ones count (mask / 2))) (one_more (x % 2) _ _ (omega arith) rest)
      | inr ne ↦ rw (packed_other count x mask ne, same_ones count mask ne) rest
    ]
  where
    one_more : (b r p : ℕ) → b < 2 → r < p → b + 2 * r < 2 * p
    one_more b r p h l = omega arith

pub spread_bits : (count x mask i : ℕ) → i < count → has_bit (spread count x mask) i ≡ (has_bit mask i && has_bit x (ones i mask))
spread_bits zero x mask i h = absurd (omega arith)
spread_bits (suc count) x mask zero h =
    elim (cases_eq (mask % 2) 1) [
      | inl e ↦ has_bit-first _ x (ap (λ n. n % 2) (spread_one count x mask e) ∙ omega arith) ∙ rw (one_first mask e, no_ones mask) refl
      | inr ne ↦ has_bit-first _ 0 (ap (λ n. n % 2) (spread_other count x mask ne) ∙ omega arith) ∙ ap (λ b. nat_eq b 1) (bit_at-zero 0)
          ∙ rw (none_first mask ne) refl
    ]
spread_bits (suc count) x mask (suc i) h =
    let here = has_bit-later mask (mask / 2) i refl in
    elim (cases_eq (mask % 2) 1) [
      | inl e ↦ has_bit-later _ _ i (ap (λ n. n / 2) (spread_one count x mask e) ∙ omega arith)
          ∙ spread_bits count (x / 2) (mask / 2) i (omega arith)
          ∙ rw (here, more_ones i mask e, has_bit-later x (x / 2) (ones i (mask / 2)) refl) refl
      | inr ne ↦ has_bit-later _ _ i (ap (λ n. n / 2) (spread_other count x mask ne) ∙ omega arith)
          ∙ spread_bits count x (mask / 2) i (omega arith) ∙ rw (here, same_ones i mask ne) refl
    ]

none_spread : (x mask : ℕ) → spread 0 x mask < 2 ^ 0
unfolding spread
none_spread x mask = lit< tt

pub spread-lt : (count x mask : ℕ) → spread count x mask < 2 ^ count
spread-lt zero x mask = none_spread x mask
spread-lt (suc count) x mask =
    elim (cases_eq (mask % 2) 1) [
      | inl e ↦ let rest = spread-lt count (x / 2) (mask / 2) in
          rw (spread_one count x mask e, pow-succ' 2 count) (one_more (x % 2) _ _ (omega arith) rest)
      | inr ne ↦ let rest = spread-lt count x (mask / 2) in rw (spread_other count x mask ne, pow-succ' 2 count) (doubled_lt _ _ rest)
    ]
  where
    one_more : (b r p : ℕ) → b < 2 → r < p → b + 2 * r < 2 * p
    one_more b r p h l = omega arith

    doubled_lt : (r p : ℕ) → r < p → 2 * r < 2 * p
    doubled_lt r p l = omega arith

-- ---- one undoes the other

low_bits : (x n : ℕ) → x % 2 + 2 * (x / 2 % 2 ^ n) ≡ x % 2 ^ (suc n)
low_bits x n =
    let e : n + 1 ≡ suc n = omega arith in
    let split : x % 2 ^ (n + 1) ≡ (x / 2 % 2 ^ n) * 2 + x % 2 = mod-pow-add x n 1 in
    turned (x % 2) (x / 2 % 2 ^ n) ∙ sym split ∙ ap (λ k. x % 2 ^ k) e
  where
    turned : (b r : ℕ) → b + 2 * r ≡ r * 2 + b
    turned b r = omega arith

none_back : (x mask : ℕ) → packed 0 (spread 0 x mask) mask ≡ x % 2 ^ ones 0 mask
unfolding packed spread ones
none_back x mask = sym (mod-one x)

pub packed-spread : (count x mask : ℕ) → packed count (spread count x mask) mask ≡ x % 2 ^ ones count mask
packed-spread zero x mask = none_back x mask
packed-spread (suc count) x mask =
    elim (cases_eq (mask % 2) 1) [
      | inl e ↦
          let r = spread count (x / 2) (mask / 2) in
          let first : (x % 2 + 2 * r) % 2 ≡ x % 2 = omega arith in
          let rest : (x % 2 + 2 * r) / 2 ≡ r = omega arith in
          rw (
            spread_one count x mask e,
            packed_one count (x % 2 + 2 * r) mask e,
            first,
            rest,
            packed-spread count (x / 2) (mask / 2),
            more_ones count mask e,
          ) (low_bits x (ones count (mask / 2)))
      | inr ne ↦
          let r = spread count x (mask / 2) in
          let rest : (2 * r) / 2 ≡ r = omega arith in
          rw (spread_other count x mask ne, packed_other count (2 * r) mask ne, rest, same_ones count mask ne) (packed-spread count x (mask / 2))
    ]

pub only_it : (b : Bool) → b ≡ (b && true)
only_it true = refl
only_it false = refl

no_bit : (b : Bool) → false ≡ (b && false)
no_bit true = refl
no_bit false = refl

pub spread-packed : (x mask : ℕ) → x < 2 ^ 64 → mask < 2 ^ 64 → spread 64 (packed 64 x mask) mask ≡ bit_and x mask
spread-packed x mask small fits =
    same_from_bits_below 64 _ _ (spread-lt 64 (packed 64 x mask) mask) (and_lt 64 x mask small fits)
    (λ i low. same_bit _ _ (bit_at-lt _ i) (bit_at-lt _ i) (bits i low))
  where
    picked : (i : ℕ) (here : Bool) → i < 64 → has_bit mask i ≡ here → (here && has_bit (packed 64 x mask) (ones i mask)) ≡ (has_bit x i && here)
    picked i true low one = packed_bits 64 x mask i low one ∙ only_it (has_bit x i)
    picked i false low none = no_bit (has_bit x i)

    bits : (i : ℕ) → i < 64 → has_bit (spread 64 (packed 64 x mask) mask) i ≡ has_bit (bit_and x mask) i
    bits i low = spread_bits 64 (packed 64 x mask) mask i low ∙ picked i (has_bit mask i) low refl ∙ sym (has_bit-and x mask i)
