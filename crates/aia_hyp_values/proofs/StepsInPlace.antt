-- A step of a move that is made in place, in the record of its virtual hart.
use Rattle.std.proofs.Common.{◌≡◌, ◌≤◌, Bool, true, false, get_or, refl, sym, ap, subst, ◌∙◌}
use Rattle.std.proofs.Math.ListN.{set}
use Rattle.std.proofs.lemmas.List.{set-get_or}
use Rattle.aia_vcpu.specs.Vms.{Vcpu, vcpu_of}
use Rattle.aia_vcpu.specs.Home.{is_moving}
use Rattle.aia_vcpu.specs.Plans.{is_at_last}
use Rattle.aia_fabric_values.specs.Whole.{IsWhole}
use Rattle.aia_fabric_values.specs.Found.{IsFound}
use Rattle.aia_fabric_values.specs.declared.found.Found.{Found}
use Rattle.aia_move_values.specs.Move.{width, MoveFits}
use Rattle.aia_move_values.specs.Targets.{next_aim}
use Rattle.aia_move_values.specs.declared.turn.Next.TheVariants.{Again}
use Rattle.aia_move_values.specs.PlanState.{PlanState, moving_of}
use Rattle.aia_move_values.specs.Plan.{IsInPhase, StepsTo}
use Rattle.aia_hyp_values.specs.Core.{Stay}
use Rattle.aia_hyp_values.specs.declared.vcpu.Stay.TheVariants as stays
use Rattle.aia_hyp_values.specs.Core.{CoreState, no_record, record_of, home_in}
use Rattle.aia_hyp_values.specs.Stands.{StandsForSome}
use Rattle.aia_hyp_values.specs.Moves.{StaysInPlace, MoveInPlace}
use Rattle.aia_hyp_values.proofs.DeviceLemmas.{same_core}
use Rattle.aia_hyp_values.proofs.BeginCore.{at_stay}
use Rattle.aia_hyp_values.proofs.MoveCalls.{step_called, goes_still, who_still, harts_still}

-- What its calls say.
pub record InPlaceCalls (x y : CoreState) (who : Found) (new : Stay) (made : Bool) : Type 0 where
  pub is_who : IsFound x.world who
  pub some : StandsForSome x
  pub moving : is_moving (home_in (record_of x (vcpu_of who.vm who.vcpu)).stay) ≡ true
  pub back : y.vcpus ≡ set x.vcpus who.slot (at_stay (get_or x.vcpus who.slot no_record) new)
  pub leases : y.leases ≡ x.leases
  pub selects : y.selects ≡ x.selects
  pub passes : y.passes ≡ x.passes
  pub whole : IsWhole x.world
  pub whole_then : IsWhole y.world
  pub one : 1 ≤ width x.world
  pub makes : StaysInPlace made x.world (get_or x.vcpus who.slot no_record).stay y.world new

-- one who is being moved has a plan
pub plan_of : (s : Stay) → is_moving (home_in s) ≡ true → (plan : PlanState) × (stays.Moving plan ≡ s)
plan_of (stays.Moving plan) moves = (plan, refl)
plan_of (stays.InMemory rest kept) moves = absurd (cc)
plan_of (stays.Resident lease) moves = absurd (cc)

module _ (x y : CoreState) (who : Found) (new : Stay) (plan : PlanState) (was : stays.Moving plan ≡ (get_or x.vcpus who.slot no_record).stay) where
  made_of : (made : Bool) → InPlaceCalls x y who new made → StaysInPlace made x.world (stays.Moving plan) y.world new
  made_of made c = subst (λ s. StaysInPlace made x.world s y.world new) (sym was) c.makes

  -- its record with its own stay is as it was
  same_records : set x.vcpus who.slot (at_stay (get_or x.vcpus who.slot no_record) (stays.Moving plan)) ≡ x.vcpus
  same_records = ap (λ s. set x.vcpus who.slot (at_stay (get_or x.vcpus who.slot no_record) s)) was ∙ set-get_or x.vcpus who.slot no_record

  by_plan : (made : Bool) → InPlaceCalls x y who new made → MoveInPlace x y (vcpu_of who.vm who.vcpu) made
  by_plan true c =
      let made = made_of true c in
      let steps : StepsTo (next_aim (moving_of plan)) x.world (moving_of plan) y.world (Again made.0) × MoveFits y.world (moving_of made.0)
      × IsInPhase (width y.world) made.0 = made.2 in
      step_called x y who plan (Again made.0) (record {
        is_who = c.is_who;
        some = c.some;
        was = was;
        between = x.vcpus;
        other = stays.Moving plan;
        out = sym same_records;
        back = c.back ∙ ap (λ s. set x.vcpus who.slot (at_stay (get_or x.vcpus who.slot no_record) s)) made.1;
        selects = c.selects;
        passes = c.passes;
        whole = c.whole;
        whole_then = c.whole_then;
        one = c.one;
        leases = c.leases;
        goes = steps.0;
        fits = steps.1;
        phase = steps.2;
      })
  by_plan false c =
      let made = made_of false c in
      let same : (y.world ≡ x.world) × (made.0 ≡ plan) × (is_at_last (width x.world) (moving_of plan).home ≡ true) = made.2 in (
        same_core x y same.0 c.leases (c.back ∙ ap (λ s. set x.vcpus who.slot (at_stay (get_or x.vcpus who.slot no_record) s))
            (made.1 ∙ ap (λ (p : PlanState). stays.Moving p) same.1) ∙ same_records) c.selects c.passes,
        λ p is.
            let own : stays.Moving plan ≡ stays.Moving p = was ∙ ap (λ q. (get_or x.vcpus q no_record).stay) c.is_who.slot ∙ is in
            let one : plan ≡ p = cc in
            subst (λ (z : PlanState). is_at_last (width x.world) (moving_of z).home ≡ true) one same.2,
      )

pub made_in_place : (x y : CoreState) (who : Found) (new : Stay) (made : Bool) → InPlaceCalls x y who new made
    → MoveInPlace x y (vcpu_of who.vm who.vcpu) made
made_in_place x y who new made c =
    let own = plan_of (get_or x.vcpus who.slot no_record).stay
    (ap (λ q. is_moving (home_in (get_or x.vcpus q no_record).stay)) c.is_who.slot ∙ c.moving) in
    by_plan x y who new own.0 own.1 made c

-- it stands for some history still
pub in_place_stands : (x y : CoreState) (who : Found) (made : Bool) → MoveInPlace x y (vcpu_of who.vm who.vcpu) made → StandsForSome x
    → IsFound x.world who
    → is_moving (home_in (record_of x (vcpu_of who.vm who.vcpu)).stay) ≡ true → StandsForSome y
in_place_stands x y who true makes some is moving = goes_still x y who false makes some is moving
in_place_stands x y who false makes some is moving = subst (λ (z : CoreState). StandsForSome z) (sym makes.0) some

-- it is there still, with the same harts
pub in_place_who : (x y : CoreState) (who : Found) (made : Bool) → MoveInPlace x y (vcpu_of who.vm who.vcpu) made → StandsForSome x
    → IsFound x.world who → IsFound y.world who
in_place_who x y who true makes some is = who_still x y who false makes some is
in_place_who x y who false makes some is = subst (λ (z : CoreState). IsFound z.world who) (sym makes.0) is

pub in_place_harts : (x y : CoreState) (g : Vcpu) (made : Bool) → MoveInPlace x y g made → StandsForSome x → y.world.imsic.harts ≡ x.world.imsic.harts
in_place_harts x y g true makes some = harts_still x y g false makes some
in_place_harts x y g false makes some = ap (λ (z : CoreState). z.world.imsic.harts) makes.0
