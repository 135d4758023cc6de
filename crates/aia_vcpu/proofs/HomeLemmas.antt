-- Guest files, and which of them a home holds.
use Rattle.std.proofs.Common.{◌≡◌, ◌⊎◌, ℕ, ◌+◌, ◌*◌, ◌<◌, Bool, true, false, ◌||◌, nat_eq, Option, Some, None, refl, inl, inr, sym, ap, subst, ◌∙◌, arith}
use Rattle.std.proofs.lemmas.Bool.{cases_Bool, and_parts, eqb-true, or_left, or_right, false≢true}
use Rattle.std.proofs.lemmas.Bool.Decides.{nat_tests}
use Rattle.aia_vcpu.specs.declared.place.GuestPlace.{GuestPlace}
use Rattle.aia_vcpu.specs.Home.{Way, Home, left, led_to, old_end, new_end, is_place, holds, resting}
use Rattle.aia_vcpu.specs.declared.rest.Rest.{Rest}
use Rattle.aia_vcpu.specs.Home.Home.{InMemory, Resident, OnWay}
use Rattle.aia_vcpu.specs.Home.Way.{Outward, Inward, Across}
use Rattle.aia_vcpu.specs.Plans.{plan_step, plan_steps}
use Rattle.aia_vcpu.specs.declared.access.Access.TheVariants.{TakeEnables}
use Rattle.aia_vcpu.specs.BySteps.{own_of, next_of, own_file, next_file, new_file}
use Rattle.aia_vcpu.specs.Routes.{origin, MayLand}

-- ---- two files that are the same

pub same_place : (p q : GuestPlace) → is_place p q ≡ true → p ≡ q
same_place p q e =
    let both = and_parts (nat_eq p.hart q.hart) (nat_eq p.file q.file) e in
    ap (λ hart. record { hart = hart; file = p.file }) (eqb-true p.hart q.hart both.0)
    ∙ ap (λ file. record { hart = q.hart; file = file }) (eqb-true p.file q.file both.1)

pub is_itself_place : (p : GuestPlace) → is_place p p ≡ true
is_itself_place p = grind (arith, nat_tests)

pub some_same : (p q : GuestPlace) → Some p ≡ Some q → is_place q p ≡ true
some_same p q e = let same : p ≡ q = cc in subst (λ (r : GuestPlace). is_place r p ≡ true) same (is_itself_place p)

-- ---- an end of a way is a file, so the access after both sets is not the last one

pub not_the_last : (way : Way) (words : ℕ) → plan_step (old_end way) (new_end way) words (TakeEnables 0) + 2 * words + 1 < plan_steps
    (old_end way) (new_end way) words
not_the_last (Outward from) words = omega arith
not_the_last (Inward to) words = omega arith
not_the_last (Across from to) words = omega arith

-- ---- it holds the files that it has

pub own_is_held : (there : Home) (p : GuestPlace) → own_file there ≡ Some p → holds p there ≡ true
own_is_held (Resident q) p e = some_same q p e
own_is_held (OnWay (Outward from) at) p e = some_same from p e
own_is_held (OnWay (Inward to) at) p e = some_same to p e
own_is_held (OnWay (Across from to) at) p e = or_left (is_place p from) (is_place p to) (some_same from p e)
own_is_held there p e = absurd (cc)

pub next_is_held : (there : Home) (p : GuestPlace) → next_file there ≡ Some p → holds p there ≡ true
next_is_held (OnWay (Across from to) at) p e = or_right (is_place p from) (is_place p to) (some_same to p e)
next_is_held there p e = absurd (cc)

-- and no others: each is its own file or the next
pub either_file : (p : GuestPlace) (there : Home) → holds p there ≡ true → (own_file there ≡ Some p) ⊎ (next_file there ≡ Some p)
either_file p (Resident q) e = inl (ap Some (sym (same_place p q e)))
either_file p (OnWay (Outward from) at) e = inl (ap Some (sym (same_place p from e)))
either_file p (OnWay (Inward to) at) e = inl (ap Some (sym (same_place p to e)))
either_file p (OnWay (Across from to) at) e = elim (cases_Bool (is_place p from)) [
  | inl t ↦ inl (ap Some (sym (same_place p from t)))
  | inr f ↦ inr (ap Some (sym (same_place p to (second (is_place p from) (is_place p to) f e))))
]
  where
    second : (a b : Bool) → a ≡ false → (a || b) ≡ true → b ≡ true
    second true b f e = absurd (false≢true (sym f))
    second false b f e = e
either_file p there e = absurd (false≢true e)

-- the file that a way leaves is its own, and the one to which it leads its own or the next
pub left_is_own : (way : Way) (p : GuestPlace) → left way ≡ Some p → own_of way ≡ Some p
left_is_own (Outward from) p e = e
left_is_own (Inward to) p e = absurd (cc)
left_is_own (Across from to) p e = e

pub led_to_is_held : (way : Way) (p : GuestPlace) → led_to way ≡ Some p → (own_of way ≡ Some p) ⊎ (next_of way ≡ Some p)
led_to_is_held (Outward from) p e = absurd (cc)
led_to_is_held (Inward to) p e = inl e
led_to_is_held (Across from to) p e = inr e

pub own_from_memory : (way : Way) (p : GuestPlace) → left way ≡ None → led_to way ≡ Some p → own_of way ≡ Some p
own_from_memory (Inward to) p from e = e
own_from_memory way p from e = absurd (cc)

pub next_from_memory : (way : Way) → left way ≡ None → next_of way ≡ None
next_from_memory (Inward to) from = refl
next_from_memory way from = absurd (cc)

pub next_from_file : (way : Way) (f p : GuestPlace) → left way ≡ Some f → led_to way ≡ Some p → next_of way ≡ Some p
next_from_file (Across from to) f p e too = too
next_from_file way f p e too = absurd (cc)

pub next_is_led_to : (way : Way) (p : GuestPlace) → next_of way ≡ Some p → led_to way ≡ Some p
next_is_led_to (Across from to) p e = e
next_is_led_to way p e = absurd (cc)

-- and those to which stores may be led
pub origin_is_held : (there : Home) (p : GuestPlace) → origin there ≡ Some p → holds p there ≡ true
origin_is_held (Resident q) p e = some_same q p e
origin_is_held (OnWay way at) p e = own_is_held (OnWay way at) p (left_is_own way p e)
origin_is_held there p e = absurd (cc)

pub new_is_held : (there : Home) (p : GuestPlace) → new_file there ≡ Some p → holds p there ≡ true
new_is_held (OnWay (Inward to) at) p e = some_same to p e
new_is_held (OnWay (Across from to) at) p e = or_right (is_place p from) (is_place p to) (some_same to p e)
new_is_held there p e = absurd (cc)

pub landing_is_held : (words : ℕ) (there : Home) (reach : Option GuestPlace) (p : GuestPlace) → MayLand words there reach → reach ≡ Some p
    → holds p there ≡ true
landing_is_held words there reach p (inl m) e = origin_is_held there p (sym m.0 ∙ e)
landing_is_held words there reach p (inr m) e = new_is_held there p (sym m.0 ∙ e)

-- ---- it rests in memory another way: what is so of every way to rest stays

pub resting_keeps : (P : Home → Type 0) → ((from to : Rest) → P (InMemory from) → P (InMemory to)) → (rest : Rest) (there : Home) → P there
    → P (resting rest there)
resting_keeps P same rest (InMemory before) p = same before rest p
resting_keeps P same rest there p = p
