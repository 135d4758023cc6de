use Rattle.std.proofs.Common.{List, slice_index_or, sym, ap, ◌∙◌}
use Rattle.std.proofs.lemmas.List.{get_or_default}
use Rattle.aia_hyp_values.specs.Core.{VcpuRecord}
use Rattle.aia_hyp_values.specs.Core.{no_record}
use Rattle.aia_hyp.proofs.moves.carry_on.Goals as goal

pub step_in_place-requires-clause-fits : goal.step_in_place-requires-clause-fits
step_in_place-requires-clause-fits g c =
    (c.requires.knows c.in-Moving.plan (ap (λ (r : VcpuRecord). r.stay)
    (get_or_default c.args.vcpus.now.items c.args.slot no_record c.index-deref_mut-slot.result c.requires.low
    ∙ sym (ap (λ (xs : List VcpuRecord). slice_index_or xs c.args.slot c.index-deref_mut-slot.result) c.deref_mut.ensures.value))
    ∙ c.in-Moving.is)).0
