use Rattle.std.proofs.Common.{ap, ◌∙◌}
use Rattle.aia_vcpu.specs.Vms.{vcpu_of}
use Rattle.aia_model.specs.declared.part.Part.TheVariants as parts
use Rattle.aia_uses.specs.Worked.{made}
use Rattle.aia_uses.proofs.ImageFacts.{load_allowed, another, loads_one, none_there}
use Rattle.aia_uses.proofs.images.one_part_is_loaded.Goals as goal

pub returns-clause-own : goal.returns-clause-own
returns-clause-own c = ap (λ state. state.file.pending 1)
    (c.a_line_loads_its_part.ensures.own made (vcpu_of 0 1) (parts.Word 0 2 2) load_allowed) ∙ loads_one

pub returns-clause-others : goal.returns-clause-others
returns-clause-others c = ap (λ state. state.file.pending 1)
    (c.a_line_loads_its_part.ensures.others made (vcpu_of 0 1) (vcpu_of 0 0) (parts.Word 0 2 2) another load_allowed) ∙ none_there
