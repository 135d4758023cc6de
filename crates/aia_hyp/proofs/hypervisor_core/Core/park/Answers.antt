use Rattle.std.proofs.Common.{◌≡◌, ◌+◌, true, refl, sym, subst, ◌∙◌, arith}
use Rattle.aia_file.specs.declared.spot.Spot.TheVariants as spots
use Rattle.aia_vcpu.specs.Vms.{Vcpu, vcpu_of, is_vcpu_in, slot_of, notice_hart, notice_identity}
use Rattle.aia_fabric_values.specs.World.{World}
use Rattle.aia_fabric_values.specs.Stores.{Posts}
use Rattle.aia_model.specs.declared.answer.Answer.TheVariants.{Okay}
use Rattle.aia_model.specs.declared.line.Line.TheVariants.{Exit}
use Rattle.aia_vcpu.specs.declared.rest.Rest.TheVariants.{Parked, Entered}
use Rattle.aia_hyp_values.specs.declared.vcpu.Stay.TheVariants as stays
use Rattle.aia_hyp_values.specs.Core.{CoreState, record_of}
use Rattle.aia_hyp_values.specs.Memory.{with_stay}
use Rattle.aia_fabric_values.specs.Found.{IsFound}
use Rattle.aia_hyp_values.specs.Stands.{CoreTakes}
use Rattle.aia_hyp_values.proofs.EventLemmas.{still}
use Rattle.aia_hyp_values.proofs.RunLines.{exits, exit_is_loud, exit_is_quiet, live_top}
use Rattle.aia_hyp.proofs.hypervisor_core.Core.park.Goals.{After-notice, Else-slot_is_live}
use Rattle.aia_hyp.proofs.hypervisor_core.Core.park.Goals as goal

told : (c : After-notice) → CoreTakes (record {
  world = c.self.inside.fabric;
  leases = c.self.inside.pool;
  vcpus = c.self.inside.vcpus.items;
  selects = c.self.inside.selects;
  passes = c.self.inside.passes;
})
    (record {
      world = c.notice.new.self;
      leases = c.self.inside.pool;
      vcpus = c.put_stay.new.vcpus.items;
      selects = c.self.inside.selects;
      passes = c.self.inside.passes;
    }) (Exit c.args.found.vm c.args.found.vcpu) Okay
told c =
    let x : CoreState = record {
      world = c.self.inside.fabric;
      leases = c.self.inside.pool;
      vcpus = c.self.inside.vcpus.items;
      selects =
          c.self.inside.selects;
      passes = c.self.inside.passes;
    } in
    let y : CoreState = record {
      world = c.notice.new.self;
      leases = c.self.inside.pool;
      vcpus = c.put_stay.new.vcpus.items;
      selects =
          c.self.inside.selects;
      passes = c.self.inside.passes;
    } in
    let found = c.args.found in
    let g = vcpu_of found.vm found.vcpu in
    let is = subst (λ (z : CoreState). IsFound z.world found) (sym c.self.view_is) c.requires.found in
    let was = subst (λ (z : CoreState). (record_of z g).stay ≡ stays.InMemory Entered c.args.kept) (sym c.self.view_is) c.requires.entered in
    let whole = c.recall.ensures.whole in
    let told : (w : World) → w ≡ x.world → ((g : Vcpu) → is_vcpu_in w.vms g ≡ true → slot_of w.vms g ≡ found.slot
    → Posts w y.world (spots.SupervisorFile (notice_hart w.vms g)) (found.slot + 1))
    → Posts x.world y.world (spots.SupervisorFile (notice_hart x.world.vms g)) (notice_identity x.world.vms g) =
    λ w same by. subst (λ s. Posts x.world y.world (spots.SupervisorFile (notice_hart x.world.vms g)) (s + 1)) is.slot
    (subst (λ (w : World). (g : Vcpu) → is_vcpu_in w.vms g ≡ true → slot_of w.vms g ≡ found.slot
    → Posts w y.world (spots.SupervisorFile (notice_hart w.vms g)) (found.slot + 1)) same by g is.there (sym is.slot)) in
    exits x y found.vm found.vcpu c.args.kept (record {
      whole = whole;
      there = is.there;
      was = was;
      vcpus = subst (λ q. y.vcpus ≡ with_stay x.vcpus q (stays.InMemory Parked c.args.kept)) is.slot c.put_stay.ensures.after;
      leases = refl;
      selects = refl;
      passes = refl;
      notifies = λ h stands. exit_is_loud x y h found.vm found.vcpu stands whole is.there refl
          (live_top x h g c.args.kept found.slot stands whole is.there was is.slot ∙ sym c.slot_is_live.ensures.value ∙ c.if-slot_is_live.true)
          (told c.slot_is_live.new.fabric c.slot_is_live.ensures.same c.notice.ensures.posts);
    })

untold : (c : Else-slot_is_live) → CoreTakes (record {
  world = c.self.inside.fabric;
  leases = c.self.inside.pool;
  vcpus = c.self.inside.vcpus.items;
  selects = c.self.inside.selects;
  passes =
      c.self.inside.passes;
}) (record {
  world = c.slot_is_live.new.fabric;
  leases = c.self.inside.pool;
  vcpus = c.put_stay.new.vcpus.items;
  selects = c.self.inside.selects;
  passes = c.self.inside.passes;
}) (Exit c.args.found.vm c.args.found.vcpu) Okay
untold c =
    let x : CoreState = record {
      world = c.self.inside.fabric;
      leases = c.self.inside.pool;
      vcpus = c.self.inside.vcpus.items;
      selects =
          c.self.inside.selects;
      passes = c.self.inside.passes;
    } in
    let y : CoreState = record {
      world = c.slot_is_live.new.fabric;
      leases = c.self.inside.pool;
      vcpus = c.put_stay.new.vcpus.items;
      selects =
          c.self.inside.selects;
      passes = c.self.inside.passes;
    } in
    let found = c.args.found in
    let g = vcpu_of found.vm found.vcpu in
    let is = subst (λ (z : CoreState). IsFound z.world found) (sym c.self.view_is) c.requires.found in
    let was = subst (λ (z : CoreState). (record_of z g).stay ≡ stays.InMemory Entered c.args.kept) (sym c.self.view_is) c.requires.entered in
    let whole = c.recall.ensures.whole in
    exits x y found.vm found.vcpu c.args.kept (record {
      whole = whole;
      there = is.there;
      was = was;
      vcpus = subst (λ q. y.vcpus ≡ with_stay x.vcpus q (stays.InMemory Parked c.args.kept)) is.slot c.put_stay.ensures.after;
      leases = refl;
      selects = refl;
      passes = refl;
      notifies = λ h stands. exit_is_quiet x y h found.vm found.vcpu c.slot_is_live.ensures.same refl
          (live_top x h g c.args.kept found.slot stands whole is.there was is.slot ∙ sym c.slot_is_live.ensures.value ∙ c.if-slot_is_live.false);
    })

pub invariant_of-self : goal.invariant_of-self
invariant_of-self c = still _ _ _ _ (told c) c.self.invariant

pub invariant_of-self-else-slot_is_live : goal.invariant_of-self-else-slot_is_live
invariant_of-self-else-slot_is_live c = still _ _ _ _ (untold c) c.self.invariant

pub returns-then-slot_is_live : goal.returns-then-slot_is_live
returns-then-slot_is_live c = rw (← c.self.view_is) (told c)

pub returns-else-slot_is_live : goal.returns-else-slot_is_live
returns-else-slot_is_live c = rw (← c.self.view_is) (untold c)
