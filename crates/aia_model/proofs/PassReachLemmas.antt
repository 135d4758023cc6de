-- Where a passed source leads, as its virtual hart is moved: only its own aim changes it.
use Rattle.std.proofs.Common.{◌≡◌, ◌+◌, ◌||◌, ℕ, Bool, true, false, cond, if◌then◌else◌, nat_eq, nat_lt, Option, Some, None, inl, inr, refl, sym, ap, ◌∙◌, arith}
use Rattle.std.specs.Option.{option_map_or}
use Rattle.std.proofs.lemmas.Bool.{cases_Bool, cond-true, cond-false}
use Rattle.std.proofs.lemmas.Bool.Decides.{nat_tests}
use Rattle.aia_vcpu.specs.declared.place.GuestPlace.{GuestPlace}
use Rattle.aia_vcpu.specs.Home.{Home, left, led_to, at_rest, holds, ended, one_more, leaving, arriving, shifting}
use Rattle.aia_vcpu.specs.declared.rest.Rest.TheVariants.{Parked}
use Rattle.aia_vcpu.specs.Home.Home.{InMemory, Resident, OnWay}
use Rattle.aia_vcpu.specs.Plans.{is_at_last, stepped}
use Rattle.aia_vcpu.specs.BySteps.{new_file}
use Rattle.aia_vcpu.specs.Routes.{origin}
use Rattle.aia_vcpu.specs.Aims.{aims_done, is_aiming, aimed, further, pass_reaches, AreAimed}
use Rattle.aia_vcpu.proofs.HomeLemmas.{not_the_last, origin_is_held, new_is_held}
use Rattle.aia_model.specs.HomeOf.{guest_place}
use Rattle.aia_vcpu.proofs.PassLemmas.{one_more_passes}

none_below : (r : ℕ) → nat_lt r 0 ≡ false
none_below r = grind (arith, nat_tests)

-- ---- a move begins

pub leaving_passes : (r : ℕ) (there : Home) → pass_reaches r (leaving there) ≡ pass_reaches r there
leaving_passes r (OnWay way at) = refl
leaving_passes r there = refl

pub arriving_passes : (r : ℕ) (q : GuestPlace) (there : Home) → pass_reaches r (arriving q there) ≡ pass_reaches r there
arriving_passes r q (InMemory Parked) = rw (none_below r) refl
arriving_passes r q there = refl

pub shifting_passes : (r : ℕ) (q : GuestPlace) (there : Home) → pass_reaches r (shifting q there) ≡ pass_reaches r there
shifting_passes r q (Resident p) = rw (none_below r) refl
shifting_passes r q there = refl

pub arrives_passes : (r hart : ℕ) (file : Option ℕ) (there : Home)
    → pass_reaches r (option_map_or (λ f. arriving (guest_place hart f) there) file there) ≡ pass_reaches r there
arrives_passes r hart None there = refl
arrives_passes r hart (Some f) there = arriving_passes r (guest_place hart f) there

pub shifts_passes : (r hart : ℕ) (file : Option ℕ) (there : Home)
    → pass_reaches r (option_map_or (λ f. shifting (guest_place hart f) there) file there) ≡ pass_reaches r there
shifts_passes r hart None there = refl
shifts_passes r hart (Some f) there = shifting_passes r (guest_place hart f) there

-- ---- a step that aims none

-- at the last step all are aimed
rests_reached : (r : ℕ) (to : Option GuestPlace) → pass_reaches r (at_rest to) ≡ to
rests_reached r None = cond-false _ _ _ (none_below r)
rests_reached r (Some p) = cond-false _ _ _ (none_below r)

ended_passes : (passes words r : ℕ) (there : Home) → nat_lt r passes ≡ true → AreAimed passes there → is_at_last words there ≡ true
    → pass_reaches r (ended there) ≡ pass_reaches r there
ended_passes passes words r (OnWay way at) below a last =
    let far = not_the_last way words in
    let all = a.all (grind (arith, nat_tests)) in
    let e : nat_lt r at.aims ≡ true = grind (arith, nat_tests) in
    rests_reached r (led_to way) ∙ sym (cond-true _ _ _ e)
ended_passes passes words r there below a last = absurd (cc)

pub stepped_passes : (passes words r : ℕ) (there : Home) → nat_lt r passes ≡ true → AreAimed passes there
    → pass_reaches r (stepped words there) ≡ pass_reaches r there
stepped_passes passes words r there below a = by_last (is_at_last words there) refl
  where
    by_last : (b : Bool) → is_at_last words there ≡ b → pass_reaches r (stepped words there) ≡ pass_reaches r there
    by_last true e = rw e (ended_passes passes words r there below a e)
    by_last false e = rw e (one_more_passes r there)

pub further_passes : (passes words r : ℕ) (there : Home) → nat_lt r passes ≡ true → AreAimed passes there → is_aiming passes there ≡ false
    → pass_reaches r (further passes words there) ≡ pass_reaches r there
further_passes passes words r there below a other = ap (pass_reaches r) (cond-false _ _ _ other) ∙ stepped_passes passes words r there below a

-- ---- a step that aims one

aims_on : (r a : ℕ) → nat_eq r a ≡ false → nat_lt r (a + 1) ≡ nat_lt r a
aims_on r a other = elim (cases_Bool (nat_lt r a)) [
  | inl e ↦ let more : nat_lt r (a + 1) ≡ true = grind (arith, nat_tests) in more ∙ sym e
  | inr e ↦ let more : nat_lt r (a + 1) ≡ false = grind (arith, nat_tests) in more ∙ sym e
]

pub aimed_other : (r : ℕ) (there : Home) → nat_eq r (aims_done there) ≡ false → pass_reaches r (aimed there) ≡ pass_reaches r there
aimed_other r (OnWay way at) other = ap (λ b. if b then led_to way else left way) (aims_on r at.aims other)
aimed_other r there other = refl

-- ---- it leads to no guest file that its virtual hart does not hold

pub reach_is_held : (r : ℕ) (there : Home) (q : GuestPlace) → pass_reaches r there ≡ Some q → holds q there ≡ true
reach_is_held r there q e = by_test (nat_lt r (aims_done there)) e
  where
    by_test : (b : Bool) → (if b then new_file there else origin there) ≡ Some q → holds q there ≡ true
    by_test true e = new_is_held there q e
    by_test false e = origin_is_held there q e
