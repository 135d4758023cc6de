use Rattle.std.proofs.Common.{◌≡◌, true, false, nat_lt, sym, refl, subst, ◌∙◌, arith}
use Rattle.std.proofs.lemmas.Bool.{and_parts, ltb-true}
use Rattle.aia_model.specs.declared.answer.Answer.TheVariants.{Okay}
use Rattle.aia_model.specs.declared.line.Line.TheVariants as lines
use Rattle.aia_fabric_values.specs.Whole.{IsWhole}
use Rattle.aia_model.specs.Refusal.{is_vm_size, lacks_room}
use Rattle.aia_hyp_values.specs.Core.{CoreState}
use Rattle.aia_hyp_values.specs.Stands.{CoreTakes}
use Rattle.aia_hyp_values.proofs.EventLemmas.{still}
use Rattle.aia_hyp_values.proofs.VmLines.{vm_made, vm_refused, vm_has_no_room, room_left}
use Rattle.aia_hyp.proofs.hypervisor_core.Core.vm.Goals.{After-add_records}
use Rattle.aia_hyp.proofs.hypervisor_core.Core.vm.Goals as goal

taken : (c : After-add_records) → CoreTakes (record {
  world = c.self.inside.fabric;
  leases = c.self.inside.pool;
  vcpus = c.self.inside.vcpus.items;
  selects = c.self.inside.selects;
  passes =
      c.self.inside.passes;
}) (record {
  world = c.vm.new.self;
  leases = c.self.inside.pool;
  vcpus = c.add_records.new.vcpus.items;
  selects =
      c.self.inside.selects;
  passes = c.self.inside.passes;
}) (lines.Vm c.args.vcpus c.args.mask c.args.hart) Okay
taken c =
    let parts : (is_vm_size c.args.vcpus c.args.mask ≡ true)
    × (nat_lt c.args.hart c.args.self.now.world.imsic.harts ≡ true) = and_parts _ _ (sym c.is_in_range.ensures ∙ c.if-not-is_in_range.false) in
    let hart = subst (λ (x : CoreState). nat_lt c.args.hart x.world.imsic.harts ≡ true) (sym c.self.view_is) parts.1 in
    let whole = subst (λ (x : CoreState). IsWhole x.world) (sym c.self.view_is) c.lacks_room.ensures.whole in
    let room = subst (λ (x : CoreState). lacks_room x.world.vms c.args.vcpus ≡ false) (sym c.self.view_is)
    (sym c.lacks_room.ensures.room ∙ c.if-lacks_room.false) in
    vm_made _ _ c.args.vcpus c.args.mask c.args.hart whole parts.0 (ltb-true _ _ hart) room c.vm.ensures refl c.add_records.ensures.after refl refl

pub returns-then-not-is_in_range : goal.returns-then-not-is_in_range
returns-then-not-is_in_range c = vm_refused c.args.self.now c.args.vcpus c.args.mask c.args.hart
    (sym c.is_in_range.ensures ∙ c.if-not-is_in_range.true)

pub returns-then-lacks_room : goal.returns-then-lacks_room
returns-then-lacks_room c =
    let parts = and_parts _ _ (sym c.is_in_range.ensures ∙ c.if-not-is_in_range.false) in
    vm_has_no_room c.args.self.now c.args.vcpus c.args.mask c.args.hart parts.0 (ltb-true _ _ parts.1)
    (sym c.lacks_room.ensures.room ∙ c.if-lacks_room.true)

pub add_records-requires : goal.add_records-requires
add_records-requires c =
    let room = subst (λ (x : CoreState). lacks_room x.world.vms c.args.vcpus ≡ false) (sym c.self.view_is)
    (sym c.lacks_room.ensures.room ∙ c.if-lacks_room.false) in
    room_left _ c.args.vcpus _ c.self.invariant (omega arith) room

pub invariant_of-self : goal.invariant_of-self
invariant_of-self c = still _ _ _ _ (taken c) c.self.invariant

pub returns : goal.returns
returns c = rw (← c.self.view_is) (taken c)
