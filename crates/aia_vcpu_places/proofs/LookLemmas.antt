-- A look sees what it is to see: whether two words of the slot have a one in common, whether some
-- identity of a word is pending and enabled.
use Rattle.std.proofs.Common.{◌≡◌, ℕ, zero, suc, ◌+◌, ◌*◌, ◌/◌, ◌%◌, ◌^◌, ◌<◌, Bool, true, false, not, ◌&&◌, cond, nat_eq, Some, is_some, bit_and, w64, refl, sym, ap, ◌∙◌, inl, inr, arith}
use Rattle.std.proofs.lemmas.Bool.{cases_eq, eq-eqb, ne_eqb}
use Rattle.std.proofs.lemmas.Bool.Decides.{nat_tests}
use Rattle.std.proofs.lemmas.Nat.{and_le_l}
use Rattle.std.proofs.lemmas.Nat.Bits.{bit_at-trailing_zeros}
use Rattle.std.specs.Int.{trailing_zeros}
use Rattle.aia_vcpu.specs.BySteps.{look_word}
use Rattle.aia_word.specs.Sets.{has_bit, least_of}
use Rattle.aia_word.proofs.BitLemmas.{has_bit-and, has_bit-zero}
use Rattle.aia_word.proofs.LeastLemmas.{least_of-none, least_of-some}
use Rattle.aia_file.specs.InterruptFile.{InterruptFile, is_live}
use Rattle.aia_vcpu.specs.declared.access.Access.TheVariants.{Look, TakePending, TakeEnables}
use Rattle.aia_vcpu.specs.Plans.{plan_step, is_next}
use Rattle.aia_vcpu.specs.declared.place.GuestPlace.{GuestPlace}
use Rattle.aia_vcpu.specs.Home.{Progress}
use Rattle.aia_vcpu.specs.Home.Home.{OnWay}
use Rattle.aia_vcpu.specs.declared.end.End.TheVariants.{File, Memory}
use Rattle.aia_vcpu.specs.Home.Way.{Outward}
use Rattle.aia_vcpu_places.specs.Places.{TwoSets}
use Rattle.aia_vcpu_places.specs.Holds.{sees, meets}
use Rattle.aia_vcpu_places.specs.Steps.{Shows}
use Rattle.aia_vcpu_places.proofs.SetSteps.{HoldsAt, new_has_all}

some_same : (f g : ℕ → Bool) (from to count : ℕ) → ((b : ℕ) → b < count → f (from + b) ≡ g (to + b))
    → is_some (least_of f from count) ≡ is_some (least_of g to count)
unfolding least_of
some_same f g from to zero same = refl
some_same f g from to (suc count) same = at_first (f from) (g to) first (some_same f g (suc from) (suc to) count later)
  where
    first : f from ≡ g to
    first = let p : from ≡ from + 0 = omega arith in let q : to + 0 ≡ to = omega arith in ap f p ∙ same 0 (omega arith) ∙ ap g q

    later : (b : ℕ) → b < count → f (suc from + b) ≡ g (suc to + b)
    later b low = let p : suc from + b ≡ from + suc b = omega arith in let q : to + suc b ≡ suc to + b = omega arith in ap f p
        ∙ same (suc b) (omega arith) ∙ ap g q

    at_first : (x y : Bool) → x ≡ y → is_some (least_of f (suc from) count) ≡ is_some (least_of g (suc to) count)
        → is_some (cond x (Some from) (least_of f (suc from) count)) ≡ is_some (cond y (Some to) (least_of g (suc to) count))
    at_first true true e p = refl
    at_first false false e p = p
    at_first true false e p = absurd (cc)
    at_first false true e p = absurd (cc)

pub meets-and : (p e : ℕ) → p < 2 ^ 64 → not (nat_eq (bit_and p e) 0) ≡ meets p e
meets-and p e small = elim (cases_eq (bit_and p e) 0) [
  | inl z ↦ ap not (eq-eqb _ _ z) ∙ sym (ap is_some
      (least_of-none (λ b. has_bit p b && has_bit e b) 0 64 (λ b x y. sym (has_bit-and p e b) ∙ ap (λ w. has_bit w b) z ∙ has_bit-zero b)))
  | inr ne ↦ let some : 0 < bit_and p e = omega (arith, ne) in
      let low : bit_and p e < 2 ^ 64 = omega (arith, and_le_l p e) in
      let first = bit_at-trailing_zeros w64 (bit_and p e) some low in
      ap not (ne_eqb _ _ ne) ∙ sym (least_of-some (λ b. has_bit p b && has_bit e b) 0 64 (trailing_zeros w64 (bit_and p e)) (omega arith) first.0
      (sym (has_bit-and p e _) ∙ ap (λ x. nat_eq x 1) first.1))
]

-- the next step of a leave is the look at word w; p and e are both words of the slot
pub look_meets : (words w word p e : ℕ) (from : GuestPlace) (at : Progress) (old new : TwoSets) (file : InterruptFile)
    → HoldsAt words (plan_step File Memory 0 (TakePending 0)) (plan_step File Memory words (TakeEnables 0)) at.steps word old new file
    → at.steps ≡ plan_step File Memory words (Look w) → w < words
    → Shows p w new.pending → Shows e w new.enabled → meets p e ≡ sees words (OnWay (Outward from) at) file
look_meets words w word p e from at old new file h step low pending enabled =
    some_same (λ b. has_bit p b && has_bit e b) (λ i. file.pending i && file.enabled i) 0 (64 * w) 64 same ∙ ap (is_live file) here
    ∙ sym (rw next refl)
  where
    here : w ≡ look_word words (OnWay (Outward from) at)
    here = omega arith

    next : is_next words (OnWay (Outward from) at) (Look (look_word words (OnWay (Outward from) at))) ≡ true
    next = grind (arith, nat_tests)

    all : (i : ℕ) → i / 64 ≡ w → (file.pending i ≡ new.pending i) × (new.enabled i ≡ file.enabled i)
    all i q = new_has_all words (plan_step File Memory 0 (TakePending 0)) (plan_step File Memory words (TakeEnables 0)) old new file at.steps word
        (omega arith) h (omega arith) i (omega (arith, q))

    same : (b : ℕ) → b < 64 → (has_bit p (0 + b) && has_bit e (0 + b)) ≡ (file.pending (64 * w + b) && file.enabled (64 * w + b))
    same b l =
        let q : (64 * w + b) / 64 ≡ w = omega arith in
        let r : 0 + b ≡ (64 * w + b) % 64 = omega arith in
        ap (λ x. has_bit p x && has_bit e x) r ∙ ap (λ x. x && has_bit e ((64 * w + b) % 64))
        (pending (64 * w + b) q ∙ sym (all (64 * w + b) q).0)
        ∙ ap (λ x. file.pending (64 * w + b) && x) (enabled (64 * w + b) q ∙ (all (64 * w + b) q).1)
