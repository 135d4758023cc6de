use Rattle.std.proofs.Common.{◌≡◌, true, get_or, sym, ap, ◌∙◌, subst, arith, refl}
use Rattle.std.proofs.Math.ListN.{set}
use Rattle.aia_vcpu.specs.Vms.{vcpu_of}
use Rattle.aia_vcpu.specs.Home.{is_moving}
use Rattle.aia_move_values.specs.declared.turn.Next.TheVariants.{Finished}
use Rattle.aia_move_values.specs.PlanState.{moving_of}
use Rattle.aia_move_values.specs.Plan.{StepsTo}
use Rattle.aia_move_values.specs.Targets.{next_aim}
use Rattle.aia_move_values.proofs.PhaseLemmas.{finishes}
use Rattle.aia_hyp_values.specs.Core.{CoreState, no_record, record_of, home_in}
use Rattle.aia_fabric_values.specs.Found.{IsFound}
use Rattle.aia_hyp_values.specs.Moves.{MoveGoes, IsAtItsLast}
use Rattle.aia_hyp_values.proofs.BeginCore.{at_stay}
use Rattle.aia_hyp_values.proofs.MoveCalls.{StepCalls, plan_known, back_known, step_called, harts_still, goes_still, who_still}
use Rattle.aia_hyp.proofs.hypervisor_core.Core.finish_move.Goals.{After-finish-outcome, After-swap_stay-2}
use Rattle.aia_hyp.proofs.hypervisor_core.Core.finish_move.Goals as goal

pub finish-outcome-requires-clause-fits : goal.finish-outcome-requires-clause-fits
finish-outcome-requires-clause-fits c =
    (plan_known (record {
      world = c.self.inside.fabric;
      leases = c.self.inside.pool;
      vcpus = c.self.inside.vcpus.items;
      selects =
          c.self.inside.selects;
      passes = c.self.inside.passes;
    }) c.args.found c.in-Moving.plan c.self.invariant
    (subst (λ (x : CoreState). IsFound x.world c.args.found) (sym c.self.view_is) c.requires.found)
    (sym c.in-Moving.is ∙ c.swap_stay.ensures.before)).0

pub finish-outcome-requires-clause-last : goal.finish-outcome-requires-clause-last
finish-outcome-requires-clause-last c =
    let found = (subst (λ (x : CoreState). IsFound x.world c.args.found) (sym c.self.view_is) c.requires.found) in
    let last = subst (λ (x : CoreState). IsAtItsLast x (vcpu_of c.args.found.vm c.args.found.vcpu)) (sym c.self.view_is) c.requires.last in
    last c.in-Moving.plan (sym (sym c.in-Moving.is ∙ c.swap_stay.ensures.before
    ∙ ap (λ q. (get_or c.self.inside.vcpus.items q no_record).stay) found.slot))

-- what the last step makes, as a step of the plan
ends : (c : After-finish-outcome) → StepsTo (next_aim (moving_of c.in-Moving.plan)) c.self.inside.fabric (moving_of c.in-Moving.plan)
    c.finish-outcome.new.fabric (Finished c.finish-outcome.result)
ends c =
    let found = (subst (λ (x : CoreState). IsFound x.world c.args.found) (sym c.self.view_is) c.requires.found) in
    let last = subst (λ (x : CoreState). IsAtItsLast x (vcpu_of c.args.found.vm c.args.found.vcpu)) (sym c.self.view_is) c.requires.last in
    finishes c.self.inside.fabric c.finish-outcome.new.fabric (moving_of c.in-Moving.plan) c.finish-outcome.result
    (last c.in-Moving.plan (sym (sym c.in-Moving.is ∙ c.swap_stay.ensures.before
    ∙ ap (λ q. (get_or c.self.inside.vcpus.items q no_record).stay) found.slot))) c.finish-outcome.ensures.ends

pub stay_at_end-new-requires : goal.stay_at_end-new-requires
stay_at_end-new-requires c =
    back_known (record {
      world = c.self.inside.fabric;
      leases = c.self.inside.pool;
      vcpus = c.self.inside.vcpus.items;
      selects =
          c.self.inside.selects;
      passes = c.self.inside.passes;
    }) c.finish-outcome.new.fabric c.args.found c.in-Moving.plan
    (Finished c.finish-outcome.result) c.self.invariant
    (subst (λ (x : CoreState). IsFound x.world c.args.found) (sym c.self.view_is) c.requires.found)
    (sym c.in-Moving.is ∙ c.swap_stay.ensures.before) (ends c.before.before.before)

calls : (c : After-swap_stay-2) → StepCalls (record {
  world = c.self.inside.fabric;
  leases = c.self.inside.pool;
  vcpus = c.self.inside.vcpus.items;
  selects = c.self.inside.selects;
  passes =
      c.self.inside.passes;
}) (record {
  world = c.finish-outcome.new.fabric;
  leases = c.stay_at_end-new.new.pool;
  vcpus =
      c.swap_stay-2.new.vcpus.items;
  selects = c.self.inside.selects;
  passes = c.self.inside.passes;
}) c.args.found c.in-Moving.plan
    (Finished c.finish-outcome.result)
calls c = record {
  is_who = subst (λ (x : CoreState). IsFound x.world c.args.found) (sym c.self.view_is) c.requires.found;
  some = c.self.invariant;
  was = sym c.in-Moving.is ∙ c.swap_stay.ensures.before;
  between = c.swap_stay.new.vcpus.items;
  other = c.nowhere.result;
  out = c.swap_stay.ensures.after;
  back = c.swap_stay-2.ensures.after ∙ ap (λ s. set c.swap_stay.new.vcpus.items c.args.found.slot
      (at_stay (get_or c.swap_stay.new.vcpus.items c.args.found.slot no_record) s)) c.stay_at_end-new.ensures.stay;
  selects = refl;
  passes = refl;
  whole = c.recall.ensures.whole;
  whole_then = c.recall-2.ensures.whole;
  one = let some = c.recall.ensures.some in omega (arith, some);
  leases = c.stay_at_end-new.ensures.back;
  goes = ends c.before.before.before.before.before.before;
  fits = tt;
  phase = tt;
}

goes : (c : After-swap_stay-2) → MoveGoes (record {
  world = c.self.inside.fabric;
  leases = c.self.inside.pool;
  vcpus = c.self.inside.vcpus.items;
  selects = c.self.inside.selects;
  passes =
      c.self.inside.passes;
}) (record {
  world = c.finish-outcome.new.fabric;
  leases = c.stay_at_end-new.new.pool;
  vcpus =
      c.swap_stay-2.new.vcpus.items;
  selects = c.self.inside.selects;
  passes = c.self.inside.passes;
}) (vcpu_of c.args.found.vm c.args.found.vcpu) true
goes c = step_called _ _ c.args.found c.in-Moving.plan (Finished c.finish-outcome.result) (calls c)

pub invariant_of-self : goal.invariant_of-self
invariant_of-self c = goes_still _ _ c.args.found _ (goes c) c.self.invariant
    (subst (λ (x : CoreState). IsFound x.world c.args.found) (sym c.self.view_is) c.requires.found)
    (subst (λ (x : CoreState). is_moving (home_in (record_of x (vcpu_of c.args.found.vm c.args.found.vcpu)).stay) ≡ true)
    (sym c.self.view_is) c.requires.moving)

pub returns-clause-goes : goal.returns-clause-goes
returns-clause-goes c = rw (← c.self.view_is) (goes c)

pub returns-clause-found : goal.returns-clause-found
returns-clause-found c = who_still _ _ c.args.found _ (goes c) c.self.invariant
    (subst (λ (x : CoreState). IsFound x.world c.args.found) (sym c.self.view_is) c.requires.found)

pub returns-clause-harts : goal.returns-clause-harts
returns-clause-harts c = rw (← c.self.view_is) (harts_still _ _ (vcpu_of c.args.found.vm c.args.found.vcpu) _ (goes c) c.self.invariant)
