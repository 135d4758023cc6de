-- The steps that aim passed sources: what they leave as it was, and where a pass may lead.
use Rattle.std.proofs.Common.{◌≡◌, ◌⊎◌, ℕ, ◌+◌, Bool, true, false, ◌&&◌, if◌then◌else◌, nat_eq, nat_lt, nat_le, Option, Some, None, refl, sym, ap, ◌∙◌, inl, inr, arith}
use Rattle.std.proofs.lemmas.Bool.{cases_Bool, and_parts, and_from}
use Rattle.std.proofs.lemmas.Bool.Decides.{nat_tests}
use Rattle.aia_vcpu.specs.declared.place.GuestPlace.{GuestPlace}
use Rattle.aia_vcpu.specs.Home.{Home, left, led_to, is_moving, at_rest, ended, one_more, leaving, arriving, shifting}
use Rattle.aia_vcpu.specs.declared.rest.Rest.TheVariants.{Parked}
use Rattle.aia_vcpu.specs.Home.Home.{InMemory, Resident, OnWay}
use Rattle.aia_vcpu.specs.Plans.{is_at_last, stepped, first_take}
use Rattle.aia_vcpu.specs.BySteps.{new_file, is_drained}
use Rattle.aia_vcpu.specs.Routes.{is_at_fence, is_closed, is_at_gfence, reach_stepped, stage_stepped, peers_reach, devices_by, MayReach, MayLand}
use Rattle.aia_vcpu.specs.Aims.{aims_step, is_aiming, aimed, further, pass_reaches, AreAimed}
use Rattle.aia_vcpu.proofs.RouteLemmas.{reach_kept, stepped_by, stage_by_stepped}

-- ---- a step that aims is no fence, and leaves all routes as they were

pub aim_is_no_fence : (passes : ℕ) (there : Home) → is_aiming passes there ≡ true → is_at_fence there ≡ false
aim_is_no_fence passes (OnWay way at) e = let here : nat_eq at.steps (aims_step (OnWay way at)) ≡ true = (and_parts _ _ e).0 in
    grind (arith, nat_tests)
aim_is_no_fence passes there e = refl

aim_is_closed : (passes : ℕ) (there : Home) → is_aiming passes there ≡ true → is_closed there ≡ true
aim_is_closed passes (OnWay way at) e = let here : nat_eq at.steps (aims_step (OnWay way at)) ≡ true = (and_parts _ _ e).0 in grind (arith, nat_tests)
aim_is_closed passes there e = absurd (cc)

pub aimed_reach : (there : Home) (place : Option GuestPlace) → MayReach there place → MayReach (aimed there) place
aimed_reach (OnWay way at) place m = m
aimed_reach there place m = m

aimed_by_table : (there : Home) (r : Bool) → devices_by r (aimed there) ≡ devices_by r there
aimed_by_table (OnWay way at) r = refl
aimed_by_table there r = refl

pub further_kept : (passes words : ℕ) (there : Home) (place : Option GuestPlace) → MayReach there place
    → MayReach (further passes words there) (reach_stepped there place)
further_kept passes words there place m = by_aim (is_aiming passes there) refl
  where
    by_aim : (b : Bool) → is_aiming passes there ≡ b → MayReach (further passes words there) (reach_stepped there place)
    by_aim true e = rw e (rw (aim_is_no_fence passes there e) (aimed_reach there place m))
    by_aim false e = rw e (reach_kept words there place m)

pub further_by : (passes words : ℕ) (there : Home) (r : Bool) (reach : Option GuestPlace) → reach ≡ devices_by r there
    → reach_stepped there reach ≡ devices_by false (further passes words there)
further_by passes words there r reach e = by_aim (is_aiming passes there) refl
  where
    by_aim : (b : Bool) → is_aiming passes there ≡ b → reach_stepped there reach ≡ devices_by false (further passes words there)
    by_aim true a = rw a (rw (aim_is_no_fence passes there a) (e ∙ closed r ∙ sym (closed false) ∙ sym (aimed_by_table there false)))
      where
        closed : (r : Bool) → devices_by r there ≡ new_file there
        closed r = rw (aim_is_closed passes there a) refl
    by_aim false a = rw a (stepped_by words there r reach e)

-- nor is it the fence of the G-stage record, which is made
aim_is_no_gfence : (passes : ℕ) (there : Home) → is_aiming passes there ≡ true → is_at_gfence there ≡ false
aim_is_no_gfence passes (OnWay way at) e = let here : nat_eq at.steps (aims_step (OnWay way at)) ≡ true = (and_parts _ _ e).0 in
    grind (arith, nat_tests)
aim_is_no_gfence passes there e = refl

aimed_stage : (there : Home) → peers_reach (aimed there) ≡ peers_reach there
aimed_stage (OnWay way at) = refl
aimed_stage there = refl

pub stage_by_further : (passes words : ℕ) (there : Home) → stage_stepped there (peers_reach there) ≡ peers_reach (further passes words there)
stage_by_further passes words there = by_aim (is_aiming passes there) refl
  where
    by_aim : (b : Bool) → is_aiming passes there ≡ b → stage_stepped there (peers_reach there) ≡ peers_reach (further passes words there)
    by_aim true a = rw a (rw (aim_is_no_gfence passes there a) (sym (aimed_stage there)))
    by_aim false a = rw a (stage_by_stepped words there)

pub further_on : (passes words : ℕ) (there : Home) → is_aiming passes there ≡ false → further passes words there ≡ stepped words there
further_on passes words there e = rw e refl

-- ---- the two counts

pub rest_aimed : (passes : ℕ) (there : Home) → is_moving there ≡ false → AreAimed passes there
rest_aimed passes (OnWay way at) e = absurd (cc)
rest_aimed passes there e = record { late = λ e. absurd (cc); all = λ e. absurd (cc) }

pub leaving_aimed : (passes : ℕ) (there : Home) → AreAimed passes there → AreAimed passes (leaving there)
leaving_aimed passes (Resident p) a = record { late = λ e. absurd (cc); all = λ e. absurd (cc) }
leaving_aimed passes there a = a

pub arriving_aimed : (passes : ℕ) (q : GuestPlace) (there : Home) → AreAimed passes there → AreAimed passes (arriving q there)
arriving_aimed passes q (InMemory Parked) a = record { late = λ e. absurd (cc); all = λ e. absurd (cc) }
arriving_aimed passes q there a = a

pub shifting_aimed : (passes : ℕ) (q : GuestPlace) (there : Home) → AreAimed passes there → AreAimed passes (shifting q there)
shifting_aimed passes q (Resident p) a = record { late = λ e. absurd (cc); all = λ e. absurd (cc) }
shifting_aimed passes q there a = a

-- over plain numbers: t is where it aims, k the steps done, a the aims, of `passes`
record Counts (passes t k a : ℕ) : Type 0 where
  late : nat_lt 0 a ≡ true → nat_le t k ≡ true
  all : nat_lt t k ≡ true → nat_lt a passes ≡ false

count_on : (passes t k a : ℕ) → (nat_eq k t && nat_lt a passes) ≡ false → Counts passes t k a → Counts passes t (k + 1) a
count_on passes t k a other c = record {
  late = λ e. let before = c.late e in grind (arith, nat_tests);
  all = λ e. elim (cases_Bool (nat_lt t k)) [
    | inl past ↦ c.all past
    | inr here ↦ let at : nat_eq k t ≡ true = grind (arith, nat_tests) in by_test (nat_lt a passes) at other
  ];
}
  where
    by_test : (b : Bool) → nat_eq k t ≡ true → (nat_eq k t && b) ≡ false → b ≡ false
    by_test false at e = refl
    by_test true at e = let no : true ≡ false = sym (and_from _ _ at refl) ∙ e in absurd (cc)

count_aim : (passes t k a : ℕ) → (nat_eq k t && nat_lt a passes) ≡ true → Counts passes t k (a + 1)
count_aim passes t k a here = let at : nat_eq k t ≡ true = (and_parts _ _ here).0 in record {
  late = λ e. grind (arith, nat_tests);
  all = λ e. let no : true ≡ false = grind (arith, nat_tests) in absurd (cc);
}

rests_unmoved : (to : Option GuestPlace) → is_moving (at_rest to) ≡ false
rests_unmoved None = refl
rests_unmoved (Some p) = refl

ended_aimed : (passes : ℕ) (there : Home) → AreAimed passes there → AreAimed passes (ended there)
ended_aimed passes (OnWay way at) a = rest_aimed passes (at_rest (led_to way)) (rests_unmoved (led_to way))
ended_aimed passes there a = a

one_more_aimed : (passes : ℕ) (there : Home) → is_aiming passes there ≡ false → AreAimed passes there → AreAimed passes (one_more there)
one_more_aimed passes (OnWay way at) e a = let c =
    count_on passes (aims_step (OnWay way at)) at.steps at.aims e (record { late = a.late; all = a.all }) in record { late = c.late; all = c.all }
one_more_aimed passes there e a = a

aimed_aimed : (passes : ℕ) (there : Home) → is_aiming passes there ≡ true → AreAimed passes (aimed there)
aimed_aimed passes (OnWay way at) e = let c = count_aim passes (aims_step (OnWay way at)) at.steps at.aims e in record { late = c.late; all = c.all }
aimed_aimed passes there e = absurd (cc)

pub further_aimed : (passes words : ℕ) (there : Home) → AreAimed passes there → AreAimed passes (further passes words there)
further_aimed passes words there a = by_aim (is_aiming passes there) refl
  where
    by_last : (b : Bool) → is_aiming passes there ≡ false → is_at_last words there ≡ b → AreAimed passes (stepped words there)
    by_last true other e = rw e (ended_aimed passes there a)
    by_last false other e = rw e (one_more_aimed passes there other a)

    by_aim : (b : Bool) → is_aiming passes there ≡ b → AreAimed passes (further passes words there)
    by_aim true e = rw e (aimed_aimed passes there e)
    by_aim false e = rw e (by_last (is_at_last words there) e refl)

-- ---- where a pass leads, a store may land

-- d is the first take
over : (passes r t d k a : ℕ) (old new : Option GuestPlace) → nat_lt r passes ≡ true → nat_lt 0 t ≡ true → nat_le t d ≡ true → Counts passes t k a
    → (((if nat_lt r a then new else old) ≡ old) × (nat_lt d k ≡ false)) ⊎ (((if nat_lt r a then new else old) ≡ new) × (nat_lt 0 k ≡ true))
over passes r t d k a old new below first low c = elim (cases_Bool (nat_lt r a)) [
  | inl e ↦ let one : nat_lt 0 a ≡ true = grind (arith, nat_tests) in let begun = c.late one in
      inr (ap (λ b. if b then new else old) e, grind (arith, nat_tests))
  | inr e ↦ elim (cases_Bool (nat_lt t k)) [
    | inl past ↦ let all = c.all past in let no : true ≡ false = grind (arith, nat_tests) in absurd (cc)
    | inr early ↦ inl (ap (λ b. if b then new else old) e, grind (arith, nat_tests))
  ]
]

pub pass_lands : (passes words r : ℕ) (there : Home) → nat_lt r passes ≡ true → AreAimed passes there → MayLand words there (pass_reaches r there)
pass_lands passes words r (Resident p) below a = let e : nat_lt r 0 ≡ false = grind (arith, nat_tests) in
    inl (ap (λ b. if b then None else Some p) e, refl)
pass_lands passes words r (OnWay way at) below a =
    over passes r (aims_step (OnWay way at)) (first_take (OnWay way at)) at.steps at.aims (left way) (led_to way) below (grind (arith, nat_tests))
    (grind (arith, nat_tests)) (record { late = a.late; all = a.all })
pass_lands passes words r there below a = let e : nat_lt r 0 ≡ false = grind (arith, nat_tests) in inl (ap (λ b. if b then None else None) e, refl)

-- once a word is taken, each pass leads to the new place
pub pass_drained : (passes words w r : ℕ) (there : Home) → nat_lt r passes ≡ true → AreAimed passes there → is_moving there ≡ true
    → is_drained words there w ≡ true → pass_reaches r there ≡ new_file there
pass_drained passes words w r (OnWay way at) below a moves drained = let all = a.all (grind (arith, nat_tests)) in
    let e : nat_lt r at.aims ≡ true = grind (arith, nat_tests) in ap (λ b. if b then led_to way else left way) e
pass_drained passes words w r there below a moves drained = absurd (cc)

-- a step that aims none leaves where each pass leads
pub one_more_passes : (r : ℕ) (there : Home) → pass_reaches r (one_more there) ≡ pass_reaches r there
one_more_passes r (OnWay way at) = refl
one_more_passes r there = refl
