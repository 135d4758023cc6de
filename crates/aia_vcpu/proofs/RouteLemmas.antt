-- Where the entry in force may lead, and where it leads, step by step.
use Rattle.std.proofs.Common.{◌≡◌, ◌⊎◌, ℕ, ◌+◌, Bool, true, false, ◌&&◌, ◌||◌, if◌then◌else◌, nat_eq, nat_lt, Option, Some, None, refl, sym, ap, ◌∙◌, inl, inr, arith}
use Rattle.std.proofs.lemmas.Bool.{cases_Bool, and_right, or_right, and_parts, and_from, eqb-true, eq-eqb, false≢true}
use Rattle.std.proofs.lemmas.Bool.Decides.{nat_tests}
use Rattle.aia_vcpu.specs.declared.place.GuestPlace.{GuestPlace}
use Rattle.aia_vcpu.specs.Home.{Home, left, led_to, old_end, new_end, is_moving, at_rest, ended, one_more, leaving, arriving, shifting}
use Rattle.aia_vcpu.specs.Plans.{is_at_last, stepped, has_access, step_of, steps_done, IsNext, is_begun, plan_step}
use Rattle.aia_vcpu.specs.declared.access.Access.{Access}
use Rattle.aia_vcpu.specs.declared.access.Access.TheVariants.{WriteEntry, Fence, Map, GFence, TakePending}
use Rattle.aia_vcpu.proofs.PlanLemmas.{one_a_step}
use Rattle.aia_vcpu.specs.declared.rest.Rest.TheVariants.{Parked}
use Rattle.aia_vcpu.specs.Home.Home.{InMemory, Resident, OnWay}
use Rattle.aia_vcpu.specs.BySteps.{new_file, is_drained}
use Rattle.aia_vcpu.specs.Routes.{origin, is_written, is_closed, entry_names, peers_reach, is_at_fence, reach_stepped, devices_by, MayReach, MayLand, is_at_gfence, stage_names, stage_stepped, devices_by}

-- ---- over plain numbers: a step w writes the entry, and the next one fences it

abbrev May : Option GuestPlace → Option GuestPlace → ℕ → ℕ → Option GuestPlace → Type 0
May old new w k place = ((place ≡ old) × (nat_lt (w + 1) k ≡ false)) ⊎ ((place ≡ new) × (nat_lt w k ≡ true))

names_may : (old new : Option GuestPlace) (w k : ℕ) → May old new w k (if nat_lt w k then new else old)
names_may old new w k = elim (cases_Bool (nat_lt w k)) [
  | inl e ↦ inr (ap (λ b. if b then new else old) e, e)
  | inr e ↦ inl (ap (λ b. if b then new else old) e, grind (arith, nat_tests))
]

may_on : (old new : Option GuestPlace) (w k : ℕ) (place : Option GuestPlace) → nat_eq k (w + 1) ≡ false → May old new w k place
    → May old new w (k + 1) place
may_on old new w k place other (inl p) = inl (p.0, grind (arith, nat_tests, p.1))
may_on old new w k place other (inr p) = inr (p.0, grind (arith, nat_tests, p.1))

may_fence : (old new : Option GuestPlace) (w k : ℕ) (place : Option GuestPlace) → nat_eq k (w + 1) ≡ true → May old new w (k + 1) place
    → place ≡ (if nat_lt w k then new else old)
may_fence old new w k place here (inl p) = let no : true ≡ false = grind (arith, nat_tests, p.1) in absurd (cc)
may_fence old new w k place here (inr p) = let written : nat_lt w k ≡ true = grind (arith, nat_tests) in p.0
    ∙ sym (ap (λ b. if b then new else old) written)

may_fenced : (old new : Option GuestPlace) (w k : ℕ) → nat_eq k (w + 1) ≡ true → May old new w (k + 1) (if nat_lt w k then new else old)
may_fenced old new w k here = let written : nat_lt w k ≡ true = grind (arith, nat_tests) in
    inr (ap (λ b. if b then new else old) written, grind (arith, nat_tests))

may_late : (old new : Option GuestPlace) (w k : ℕ) (place : Option GuestPlace) → nat_lt (w + 1) k ≡ true → May old new w k place → place ≡ new
may_late old new w k place late (inl p) = let no : true ≡ false = sym late ∙ p.1 in absurd (cc)
may_late old new w k place late (inr p) = p.0

-- ---- of homes

pub names_reach : (there : Home) → MayReach there (entry_names there)
names_reach (OnWay way at) = names_may (left way) (led_to way) (plan_step (old_end way) (new_end way) 0 WriteEntry) at.steps
names_reach there = inl (refl, refl)

pub reach_on : (there : Home) (place : Option GuestPlace) → is_at_fence there ≡ false → MayReach there place → MayReach (one_more there) place
reach_on (OnWay way at) place other m = may_on (left way) (led_to way) (plan_step (old_end way) (new_end way) 0 WriteEntry) at.steps place other m
reach_on there place other m = m

pub reach_fence : (there : Home) (place : Option GuestPlace) → is_at_fence there ≡ true → MayReach (one_more there) place → place ≡ entry_names there
reach_fence (OnWay way at) place here m = may_fence (left way) (led_to way) (plan_step (old_end way) (new_end way) 0 WriteEntry) at.steps place here m
reach_fence there place here m = absurd (cc)

pub reach_fenced : (there : Home) → is_at_fence there ≡ true → MayReach (one_more there) (entry_names there)
reach_fenced (OnWay way at) here = may_fenced (left way) (led_to way) (plan_step (old_end way) (new_end way) 0 WriteEntry) at.steps here
reach_fenced there here = absurd (cc)

-- where a move has led is where it rests
rests_at : (to : Option GuestPlace) → origin (at_rest to) ≡ to
rests_at None = refl
rests_at (Some p) = refl

rests_open : (to : Option GuestPlace) → is_closed (at_rest to) ≡ false
rests_open None = refl
rests_open (Some p) = refl

rests_reached : (to : Option GuestPlace) → devices_by false (at_rest to) ≡ to
rests_reached None = refl
rests_reached (Some p) = refl

rests_mapped : (to : Option GuestPlace) → peers_reach (at_rest to) ≡ to
rests_mapped None = refl
rests_mapped (Some p) = refl

pub reach_ended : (words : ℕ) (there : Home) (place : Option GuestPlace) → is_at_last words there ≡ true → MayReach there place
    → MayReach (ended there) place
reach_ended words (OnWay way at) place last m =
    inl (
      may_late (left way) (led_to way) (plan_step (old_end way) (new_end way) 0 WriteEntry) at.steps place (grind (arith, nat_tests)) m
          ∙ sym (rests_at (led_to way)),
      rests_open (led_to way),
    )
reach_ended words there place last m = m

-- ---- where stores land

unclosed : (words : ℕ) (there : Home) → is_closed there ≡ false → is_drained words there 0 ≡ false
unclosed words (OnWay way at) e = grind (arith, nat_tests)
unclosed words there e = refl

begun : (there : Home) → is_written there ≡ true → is_begun there ≡ true
begun (OnWay way at) e = grind (arith, nat_tests)
begun there e = absurd (cc)

pub reach_lands : (words : ℕ) (there : Home) (place : Option GuestPlace) → MayReach there place → MayLand words there place
reach_lands words there place (inl p) = inl (p.0, unclosed words there p.1)
reach_lands words there place (inr p) = inr (p.0, begun there p.1)

abbrev Lands : Option GuestPlace → Option GuestPlace → ℕ → ℕ → Option GuestPlace → Type 0
Lands old new t k place = ((place ≡ old) × (nat_lt t k ≡ false)) ⊎ ((place ≡ new) × (nat_lt 0 k ≡ true))

peers_land : (old new : Option GuestPlace) (s t k : ℕ) → nat_lt s t ≡ true → Lands old new t k (if nat_lt s k then new else old)
peers_land old new s t k before = elim (cases_Bool (nat_lt s k)) [
  | inl e ↦ inr (ap (λ b. if b then new else old) e, grind (arith, nat_tests))
  | inr e ↦ inl (ap (λ b. if b then new else old) e, grind (arith, nat_tests))
]

pub peers_may : (words : ℕ) (there : Home) → MayLand words there (peers_reach there)
peers_may words (OnWay way at) = peers_land (left way) (led_to way) (plan_step (old_end way) (new_end way) 0 GFence)
    (plan_step (old_end way) (new_end way) 0 (TakePending 0)) at.steps (grind (arith, nat_tests))
peers_may words there = inl (refl, refl)

pub reach_drained : (words w : ℕ) (there : Home) (place : Option GuestPlace) → is_moving there ≡ true → is_drained words there w ≡ true
    → MayReach there place → place ≡ new_file there
reach_drained words w (OnWay way at) place moves drained m =
    may_late (left way) (led_to way) (plan_step (old_end way) (new_end way) 0 WriteEntry) at.steps place (grind (arith, nat_tests)) m
reach_drained words w there place moves drained m = absurd (cc)

-- ---- the step that makes the fence

abbrev pub is_fence : Access → Bool
is_fence Fence = true
is_fence access = false

abbrev pub reach_after : Access → Home → Option GuestPlace → Option GuestPlace
reach_after access there was = if is_fence access then entry_names there else was

-- how many words a file has is nothing to the fence
same_fence : (words : ℕ) (there : Home) → (step_of words there Fence ≡ step_of 0 there Fence)
    × (has_access words there Fence ≡ has_access 0 there Fence)
same_fence words (OnWay way at) = (refl, refl)
same_fence words there = (refl, refl)

-- a step that is not at the fence makes another access
no_fence : (words : ℕ) (there : Home) (access : Access) → IsNext words there access → is_at_fence there ≡ false → is_fence access ≡ false
no_fence words there Fence next other =
    let has : has_access 0 there Fence ≡ true = sym (same_fence words there).1 ∙ next.has in
    let here : is_at_fence there ≡ true = and_from _ _ has (eq-eqb _ _ (next.step ∙ (same_fence words there).0)) in
    absurd (false≢true (sym other ∙ here))
no_fence words there access next other = refl

pub fence_is_next : (words : ℕ) (there : Home) (access : Access) → IsNext words there access → is_fence access ≡ is_at_fence there
fence_is_next words there access next = elim (cases_Bool (is_at_fence there)) [
  | inl here ↦
      let parts = and_parts (has_access 0 there Fence) (nat_eq (steps_done there) (step_of 0 there Fence)) here in
      let at_step : steps_done there ≡ step_of 0 there Fence = eqb-true _ _ parts.1 in
      ap is_fence (one_a_step words there access Fence next.has ((same_fence words there).1 ∙ parts.0)
      (sym next.step ∙ at_step ∙ sym (same_fence words there).0)) ∙ sym here
  | inr other ↦ no_fence words there access next other ∙ sym other
]

pub reach_next : (words : ℕ) (there : Home) (access : Access) (was : Option GuestPlace) → IsNext words there access
    → reach_after access there was ≡ reach_stepped there was
reach_next words there access was next = ap (λ b. if b then entry_names there else was) (fence_is_next words there access next)

-- ---- a step, whichever it is, and a move that begins

pub unlast : (words : ℕ) (there : Home) → is_at_fence there ≡ true → is_at_last words there ≡ false
unlast words (OnWay way at) here = grind (arith, nat_tests)
unlast words there here = absurd (cc)

pub reach_kept : (words : ℕ) (there : Home) (place : Option GuestPlace) → MayReach there place
    → MayReach (stepped words there) (reach_stepped there place)
reach_kept words there place m = elim (cases_Bool (is_at_fence there)) [
  | inl here ↦ rw (here, unlast words there here) (reach_fenced there here)
  | inr other ↦ rw other (either (is_at_last words there) refl other)
]
  where
    either : (b : Bool) → is_at_last words there ≡ b → is_at_fence there ≡ false → MayReach (if b then ended there else one_more there) place
    either true last other = reach_ended words there place last m
    either false on other = reach_on there place other m

pub leaving_reach : (there : Home) (place : Option GuestPlace) → MayReach there place → MayReach (leaving there) place
leaving_reach (Resident p) place (inl m) = inl (m.0, refl)
leaving_reach (Resident p) place (inr m) = absurd (cc)
leaving_reach there place m = m

pub arriving_reach : (to : GuestPlace) (there : Home) (place : Option GuestPlace) → MayReach there place → MayReach (arriving to there) place
arriving_reach to (InMemory Parked) place (inl m) = inl (m.0, refl)
arriving_reach to (InMemory Parked) place (inr m) = absurd (cc)
arriving_reach to there place m = m

pub shifting_reach : (to : GuestPlace) (there : Home) (place : Option GuestPlace) → MayReach there place → MayReach (shifting to there) place
shifting_reach to (Resident p) place (inl m) = inl (m.0, refl)
shifting_reach to (Resident p) place (inr m) = absurd (cc)
shifting_reach to there place m = m

-- ---- the table: where it leads, by whether it was fetched again since the newest step

abbrev By : Option GuestPlace → Option GuestPlace → ℕ → ℕ → Bool → Option GuestPlace
By old new w k fetched = if nat_lt (w + 1) k || (nat_lt w k && fetched) then new else old

by_step : (old new : Option GuestPlace) (w k : ℕ) (fetched : Bool) (place : Option GuestPlace) → place ≡ By old new w k fetched
    → (if nat_eq k (w + 1) then (if nat_lt w k then new else old) else place) ≡ By old new w (k + 1) false
by_step old new w k fetched place e = elim (cases_Bool (nat_eq k (w + 1))) [
  | inl here ↦
      let written : nat_lt w k ≡ true = grind (arith, nat_tests) in
      let closed : nat_lt (w + 1) (k + 1) ≡ true = grind (arith, nat_tests) in
      rw (here, written, closed) refl
  | inr other ↦ elim (cases_Bool (nat_lt w k)) [
    | inl written ↦
        let closed : nat_lt (w + 1) k ≡ true = grind (arith, nat_tests) in
        let closed_then : nat_lt (w + 1) (k + 1) ≡ true = grind (arith, nat_tests) in
        rw (other, closed_then) (rw closed at e)
    | inr unwritten ↦
        let unclosed : nat_lt (w + 1) k ≡ false = grind (arith, nat_tests) in
        let unclosed_then : nat_lt (w + 1) (k + 1) ≡ false = grind (arith, nat_tests) in
        rw (other, unclosed_then, and_right (nat_lt w (k + 1)) false refl) (rw (unclosed, unwritten) at e)
  ]
]

by_last : (old new : Option GuestPlace) (w k : ℕ) (fetched : Bool) (place : Option GuestPlace) → nat_lt (w + 1) k ≡ true
    → place ≡ By old new w k fetched → (if nat_eq k (w + 1) then (if nat_lt w k then new else old) else place) ≡ new
by_last old new w k fetched place late e =
    let other : nat_eq k (w + 1) ≡ false = grind (arith, nat_tests) in
    rw other (e ∙ ap (λ b. if b || (nat_lt w k && fetched) then new else old) late)

by_fetch : (old new : Option GuestPlace) (w k : ℕ) → (if nat_lt w k then new else old) ≡ By old new w k true
by_fetch old new w k = elim (cases_Bool (nat_lt w k)) [
  | inl written ↦ rw written (sym (ap (λ b. if b then new else old) (or_right (nat_lt (w + 1) k) true refl)))
  | inr unwritten ↦ let unclosed : nat_lt (w + 1) k ≡ false = grind (arith, nat_tests) in rw (unwritten, unclosed) refl
]

step_by : (there : Home) (fetched : Bool) (place : Option GuestPlace) → place ≡ devices_by fetched there
    → reach_stepped there place ≡ devices_by false (one_more there)
step_by (OnWay way at) fetched place e = by_step (left way) (led_to way) (plan_step (old_end way) (new_end way) 0 WriteEntry) at.steps fetched place e
step_by there fetched place e = e

last_by : (words : ℕ) (there : Home) (fetched : Bool) (place : Option GuestPlace) → is_at_last words there ≡ true
    → place ≡ devices_by fetched there → reach_stepped there place ≡ devices_by false (ended there)
last_by words (OnWay way at) fetched place last e =
    by_last (left way) (led_to way) (plan_step (old_end way) (new_end way) 0 WriteEntry) at.steps fetched place (grind (arith, nat_tests)) e
    ∙ sym (rests_reached (led_to way))
last_by words there fetched place last e = e

pub stepped_by : (words : ℕ) (there : Home) (fetched : Bool) (place : Option GuestPlace) → place ≡ devices_by fetched there
    → reach_stepped there place ≡ devices_by false (stepped words there)
stepped_by words there fetched place e = either (is_at_last words there) refl
  where
    either : (b : Bool) → is_at_last words there ≡ b → reach_stepped there place ≡ devices_by false (if b then ended there else one_more there)
    either true last = last_by words there fetched place last e
    either false on = step_by there fetched place e

pub fetched_by : (there : Home) → entry_names there ≡ devices_by true there
fetched_by (OnWay way at) = by_fetch (left way) (led_to way) (plan_step (old_end way) (new_end way) 0 WriteEntry) at.steps
fetched_by there = refl

pub leaving_by : (fetched : Bool) (there : Home) → devices_by fetched (leaving there) ≡ devices_by fetched there
leaving_by fetched (OnWay way at) = refl
leaving_by fetched there = refl

pub arriving_by : (to : GuestPlace) (fetched : Bool) (there : Home) → devices_by fetched (arriving to there) ≡ devices_by fetched there
arriving_by to fetched (InMemory Parked) = refl
arriving_by to fetched (OnWay way at) = refl
arriving_by to fetched there = refl

pub shifting_by : (to : GuestPlace) (fetched : Bool) (there : Home) → devices_by fetched (shifting to there) ≡ devices_by fetched there
shifting_by to fetched (OnWay way at) = refl
shifting_by to fetched there = refl

-- ---- the G-stage record, likewise: a step w writes it, and the next one fences it

by_fence : (old new : Option GuestPlace) (w k : ℕ) → nat_eq k (w + 1) ≡ true
    → (if nat_lt w k then new else old) ≡ (if nat_lt (w + 1) (k + 1) then new else old)
by_fence old new w k here =
    let written : nat_lt w k ≡ true = grind (arith, nat_tests) in
    let closed : nat_lt (w + 1) (k + 1) ≡ true = grind (arith, nat_tests) in
    ap (λ b. if b then new else old) (written ∙ sym closed)

by_other : (old new : Option GuestPlace) (w k : ℕ) → nat_eq k (w + 1) ≡ false
    → (if nat_lt (w + 1) k then new else old) ≡ (if nat_lt (w + 1) (k + 1) then new else old)
by_other old new w k other = ap (λ b. if b then new else old) (grind (arith, nat_tests))

by_late : (old new : Option GuestPlace) (w k : ℕ) → nat_lt (w + 1) k ≡ true → (if nat_lt (w + 1) k then new else old) ≡ new
by_late old new w k late = ap (λ b. if b then new else old) late

stage_fenced : (there : Home) → is_at_gfence there ≡ true → stage_names there ≡ peers_reach (one_more there)
stage_fenced (OnWay way at) here = by_fence (left way) (led_to way) (plan_step (old_end way) (new_end way) 0 Map) at.steps here
stage_fenced there here = absurd (cc)

stage_on : (there : Home) → is_at_gfence there ≡ false → peers_reach there ≡ peers_reach (one_more there)
stage_on (OnWay way at) other = by_other (left way) (led_to way) (plan_step (old_end way) (new_end way) 0 Map) at.steps other
stage_on there other = refl

stage_ended : (words : ℕ) (there : Home) → is_at_last words there ≡ true → peers_reach there ≡ peers_reach (ended there)
stage_ended words (OnWay way at) last = by_late (left way) (led_to way) (plan_step (old_end way) (new_end way) 0 Map) at.steps
    (grind (arith, nat_tests)) ∙ sym (rests_mapped (led_to way))
stage_ended words there last = refl

stage_unlast : (words : ℕ) (there : Home) → is_at_gfence there ≡ true → is_at_last words there ≡ false
stage_unlast words (OnWay way at) here = grind (arith, nat_tests)
stage_unlast words there here = absurd (cc)

pub stage_by_stepped : (words : ℕ) (there : Home) → stage_stepped there (peers_reach there) ≡ peers_reach (stepped words there)
stage_by_stepped words there = elim (cases_Bool (is_at_gfence there)) [
  | inl here ↦ rw (here, stage_unlast words there here) (stage_fenced there here)
  | inr other ↦ rw other (either (is_at_last words there) refl other)
]
  where
    either : (b : Bool) → is_at_last words there ≡ b → is_at_gfence there ≡ false
        → peers_reach there ≡ peers_reach (if b then ended there else one_more there)
    either true last other = stage_ended words there last
    either false on other = stage_on there other

pub leaving_stage : (there : Home) → peers_reach (leaving there) ≡ peers_reach there
leaving_stage (OnWay way at) = refl
leaving_stage there = refl

pub arriving_stage : (to : GuestPlace) (there : Home) → peers_reach (arriving to there) ≡ peers_reach there
arriving_stage to (InMemory Parked) = refl
arriving_stage to (OnWay way at) = refl
arriving_stage to there = refl

pub shifting_stage : (to : GuestPlace) (there : Home) → peers_reach (shifting to there) ≡ peers_reach there
shifting_stage to (OnWay way at) = refl
shifting_stage to there = refl
