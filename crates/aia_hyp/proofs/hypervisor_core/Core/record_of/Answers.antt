use Rattle.std.proofs.Common.{◌≡◌, List, length, slice_index_or, sym, ap, subst, ◌∙◌, arith}
use Rattle.aia_vcpu.specs.Vms.{vcpu_of}
use Rattle.aia_fabric_values.specs.Found.{IsFound}
use Rattle.aia_hyp_values.specs.Core.{CoreState, VcpuRecord, record_of}
use Rattle.aia_hyp_values.proofs.MoveCalls.{who_low}
use Rattle.aia_hyp_values.proofs.PassLemmas.{record_read}
use Rattle.aia_hyp.proofs.hypervisor_core.Core.record_of.Goals as goal

pub bounds-deref-found : goal.bounds-deref-found
bounds-deref-found c =
    let x : CoreState = record {
      world = c.self.inside.fabric;
      leases = c.self.inside.pool;
      vcpus = c.self.inside.vcpus.items;
      selects =
          c.self.inside.selects;
      passes = c.self.inside.passes;
    } in
    let low = who_low x c.args.found c.self.invariant (subst (λ (z : CoreState). IsFound z.world c.args.found) (sym c.self.view_is) c.requires) in
    let same : length c.deref.result.now ≡ length c.self.inside.vcpus.items = ap (λ (xs : List VcpuRecord). length xs) c.deref.ensures.0 in
    omega (arith, low, same)

pub returns : goal.returns
returns c =
    let x : CoreState = record {
      world = c.self.inside.fabric;
      leases = c.self.inside.pool;
      vcpus = c.self.inside.vcpus.items;
      selects =
          c.self.inside.selects;
      passes = c.self.inside.passes;
    } in
    let g = vcpu_of c.args.found.vm c.args.found.vcpu in
    let is = subst (λ (z : CoreState). IsFound z.world c.args.found) (sym c.self.view_is) c.requires in
    let some = c.self.invariant in
    record_read x some.past g c.args.found.slot c.index-deref-found.result some.stands is.there is.slot
    (c.index-deref-found.is ∙ ap (λ (xs : List VcpuRecord). slice_index_or xs c.args.found.slot c.index-deref-found.result) c.deref.ensures.0)
    ∙ ap (λ (z : CoreState). record_of z g) c.self.view_is
