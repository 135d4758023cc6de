-- What a store asks for, and that the identity that it names is one of the file's.
use Rattle.std.proofs.Common.{◌≡◌, ℕ, ◌≤◌, Bool, true, false, ◌||◌, cond, Option, Some, None, refl, subst, arith}
use Rattle.std.specs.Int.{is_in_range}
use Rattle.std.proofs.lemmas.Bool.Decides.{nat_tests}
use Rattle.std.proofs.lemmas.Option.{cond_some}
use Rattle.aia_regs.specs.BitUpdate.{settle}
use Rattle.aia_regs.specs.BitUpdate.BitUpdate.{Ask, Nothing}
use Rattle.aia_regs.specs.Request.{implemented, number_written, requested}

pub asked_or : (b was : Bool) → settle (cond b Ask Nothing) was ≡ (b || was)
asked_or true was = refl
asked_or false was = refl

in_range : (n x : ℕ) → is_in_range 1 n x ≡ true → (1 ≤ x) × (x ≤ n)
in_range n x h = (grind (arith, nat_tests), grind (arith, nat_tests))

implemented_in_range : (n : ℕ) (o : Option ℕ) (x : ℕ) → implemented n o ≡ Some x → (1 ≤ x) × (x ≤ n)
implemented_in_range n None x e = absurd (cc)
implemented_in_range n (Some y) x e =
    let p = cond_some (is_in_range 1 n y) y x e in
    subst (λ (z : ℕ). (1 ≤ z) × (z ≤ n)) p.1 (in_range n y p.0)

pub requested_in_range : (n offset value x : ℕ) → requested n offset value ≡ Some x → (1 ≤ x) × (x ≤ n)
requested_in_range n offset value x e = implemented_in_range n (number_written offset value) x e
