use Rattle.std.proofs.Common.{◌≡◌, true, get_or, sym, ap, ◌∙◌, subst, arith, refl, List}
use Rattle.aia_vcpu.specs.Vms.{vcpu_of, is_vcpu_in}
use Rattle.aia_vcpu.specs.Home.{is_moving}
use Rattle.aia_vcpu.specs.declared.vm.Vm.{Vm}
use Rattle.aia_file.specs.InterruptFile.{is_greatest_identity}
use Rattle.aia_fabric_values.specs.Found.{IsFound}
use Rattle.aia_move_values.specs.PlanState.{PlanState, moving_of}
use Rattle.aia_move_values.specs.Targets.{next_aim}
use Rattle.aia_model.specs.Event.{greatest_identity_of}
use Rattle.aia_model.specs.Vms.{has_vcpu}
use Rattle.aia_hyp_values.specs.declared.vcpu.Stay.TheVariants as stays
use Rattle.aia_hyp_values.specs.Core.{CoreState, no_record, record_of, home_in}
use Rattle.aia_hyp_values.specs.Moves.{MoveInPlace}
use Rattle.aia_file.proofs.SizeLemmas.{few_identities}
use Rattle.aia_hyp_values.proofs.OwnPasses.{are_passes, aims_so}
use Rattle.aia_hyp_values.proofs.MoveCalls.{plan_known, who_low, told_harts}
use Rattle.aia_hyp_values.proofs.StepsInPlace.{plan_of, made_in_place, in_place_stands, in_place_who, in_place_harts}
use Rattle.aia_hyp.proofs.hypervisor_core.Core.step_in_place.Given.{Over}
use Rattle.aia_hyp.proofs.hypervisor_core.Core.step_in_place.Goals.{After-recall-2}
use Rattle.aia_hyp.proofs.hypervisor_core.Core.step_in_place.Goals as goal

pub carry_on-made-requires-clause-low : goal.carry_on-made-requires-clause-low
carry_on-made-requires-clause-low g c = who_low
    (record {
      world = c.self.inside.fabric;
      leases = c.self.inside.pool;
      vcpus = c.self.inside.vcpus.items;
      selects = c.self.inside.selects;
      passes = c.self.inside.passes;
    }) c.args.found c.self.invariant
    (subst (λ (x : CoreState). IsFound x.world c.args.found) (sym c.self.view_is) c.requires.found)

pub carry_on-made-requires-clause-knows : goal.carry_on-made-requires-clause-knows
carry_on-made-requires-clause-knows g c = λ plan is. plan_known
    (record {
      world = c.self.inside.fabric;
      leases = c.self.inside.pool;
      vcpus = c.self.inside.vcpus.items;
      selects = c.self.inside.selects;
      passes = c.self.inside.passes;
    }) c.args.found plan c.self.invariant
    (subst (λ (x : CoreState). IsFound x.world c.args.found) (sym c.self.view_is) c.requires.found) (sym is)

pub carry_on-made-requires-clause-passes : goal.carry_on-made-requires-clause-passes
carry_on-made-requires-clause-passes g c = λ plan is.
    let some = c.self.invariant in
    let found = (subst (λ (x : CoreState). IsFound x.world c.args.found) (sym c.self.view_is) c.requires.found) in
    let there : has_vcpu some.past (vcpu_of c.args.found.vm c.args.found.vcpu) ≡ true =
    subst (λ (vs : List Vm). is_vcpu_in vs (vcpu_of c.args.found.vm c.args.found.vcpu) ≡ true) some.stands.vms found.there in
    let greatest : is_greatest_identity (greatest_identity_of some.past) ≡ true =
    subst (λ n. is_greatest_identity n ≡ true) some.stands.greatest c.recall.ensures.whole.greatest in
    are_passes (record {
      world = c.self.inside.fabric;
      leases = c.self.inside.pool;
      vcpus = c.self.inside.vcpus.items;
      selects =
          c.self.inside.selects;
      passes = c.self.inside.passes;
    }) some.past (vcpu_of c.args.found.vm c.args.found.vcpu) plan some.stands there
    (ap (λ q. (get_or c.self.inside.vcpus.items q no_record).stay) (sym found.slot) ∙ is)
    (few_identities (greatest_identity_of some.past) greatest)
    (let few = c.recall_count.ensures in omega (arith, few))

makes : (g : Over) (c : After-recall-2 g)
    → MoveInPlace (record {
      world = c.self.inside.fabric;
      leases = c.self.inside.pool;
      vcpus = c.self.inside.vcpus.items;
      selects =
          c.self.inside.selects;
      passes = c.self.inside.passes;
    })
    (record {
      world = c.carry_on-made.new.fabric;
      leases = c.self.inside.pool;
      vcpus = c.carry_on-made.new.vcpus.items;
      selects =
          c.self.inside.selects;
      passes = c.self.inside.passes;
    }) (vcpu_of c.args.found.vm c.args.found.vcpu) c.carry_on-made.result
makes g c = made_in_place _ _ c.args.found (get_or c.carry_on-made.new.vcpus.items c.args.found.slot no_record).stay c.carry_on-made.result (record {
  is_who = subst (λ (x : CoreState). IsFound x.world c.args.found) (sym c.self.view_is) c.requires.found;
  some = c.self.invariant;
  moving = subst (λ (x : CoreState). is_moving (home_in (record_of x (vcpu_of c.args.found.vm c.args.found.vcpu)).stay) ≡ true)
      (sym c.self.view_is) c.requires.moving;
  back = c.carry_on-made.ensures.rest;
  leases = refl;
  selects = refl;
  passes = refl;
  whole = c.recall.ensures.whole;
  whole_then = c.recall-2.ensures.whole;
  one = let some = c.recall.ensures.some in omega (arith, some);
  makes = c.carry_on-made.ensures.makes;
})

-- the plan of one who is being moved
its_plan : (g : Over) (c : After-recall-2 g) → (plan : PlanState)
    × ((get_or c.self.inside.vcpus.items c.args.found.slot no_record).stay ≡ stays.Moving plan)
its_plan g c =
    let found = (subst (λ (x : CoreState). IsFound x.world c.args.found) (sym c.self.view_is) c.requires.found) in
    let own = plan_of (get_or c.self.inside.vcpus.items c.args.found.slot no_record).stay
    (ap (λ q. is_moving (home_in (get_or c.self.inside.vcpus.items q no_record).stay)) found.slot
    ∙ (subst (λ (x : CoreState). is_moving (home_in (record_of x (vcpu_of c.args.found.vm c.args.found.vcpu)).stay) ≡ true)
    (sym c.self.view_is) c.requires.moving)) in
    (own.0, sym own.1)

pub invariant_of-self : goal.invariant_of-self
invariant_of-self g c = in_place_stands _ _ c.args.found c.carry_on-made.result (makes g c) c.self.invariant
    (subst (λ (x : CoreState). IsFound x.world c.args.found) (sym c.self.view_is) c.requires.found)
    (subst (λ (x : CoreState). is_moving (home_in (record_of x (vcpu_of c.args.found.vm c.args.found.vcpu)).stay) ≡ true)
    (sym c.self.view_is) c.requires.moving)

pub returns-clause-makes : goal.returns-clause-makes
returns-clause-makes g c = rw (← c.self.view_is) (makes g c)

pub returns-clause-aims : goal.returns-clause-aims
returns-clause-aims g c = rw (← c.self.view_is) (λ h stands.
    let found = (subst (λ (x : CoreState). IsFound x.world c.args.found) (sym c.self.view_is) c.requires.found) in
    let plan = its_plan g c in
    let there : has_vcpu h (vcpu_of c.args.found.vm c.args.found.vcpu) ≡ true =
    subst (λ (vs : List Vm). is_vcpu_in vs (vcpu_of c.args.found.vm c.args.found.vcpu) ≡ true) stands.vms found.there in
    aims_so (record {
      world = c.self.inside.fabric;
      leases = c.self.inside.pool;
      vcpus = c.self.inside.vcpus.items;
      selects =
          c.self.inside.selects;
      passes = c.self.inside.passes;
    }) h (vcpu_of c.args.found.vm c.args.found.vcpu) plan.0 stands there
    (ap (λ q. (get_or c.self.inside.vcpus.items q no_record).stay) (sym found.slot) ∙ plan.1)
    g.T.Targets.aimed c.args.targets.now c.carry_on-made.new.targets (c.carry_on-made.ensures.aims plan.0 plan.1))

pub returns-clause-found : goal.returns-clause-found
returns-clause-found g c = in_place_who _ _ c.args.found c.carry_on-made.result (makes g c) c.self.invariant
    (subst (λ (x : CoreState). IsFound x.world c.args.found) (sym c.self.view_is) c.requires.found)

pub returns-clause-harts : goal.returns-clause-harts
returns-clause-harts g c =
    let plan = its_plan g c in
    in_place_harts _ _ (vcpu_of c.args.found.vm c.args.found.vcpu) c.carry_on-made.result (makes g c) c.self.invariant
    ∙ subst (λ (x : CoreState). x.world.imsic.harts ≡ (g.T.Targets.map c.args.targets.now).harts) (sym c.self.view_is) c.requires.harts
    ∙ sym (told_harts g.T.Targets.aimed g.T.Targets.map g.met.T.Targets.aims_one (next_aim (moving_of plan.0)) c.args.targets.now
    c.carry_on-made.new.targets (c.carry_on-made.ensures.aims plan.0 plan.1))
