use Rattle.std.proofs.Common.{refl}
use Rattle.aia_vcpu.specs.Vms.{vcpu_of}
use Rattle.aia_model.specs.declared.line.Line.TheVariants as lines
use Rattle.aia_uses.specs.Worked.{in_flight}
use Rattle.aia_uses.proofs.Facts.{silent_before, asked_after}
use Rattle.aia_uses.proofs.PassedFacts.{told_or_lands, lands_there}
use Rattle.aia_uses.proofs.passed.one_comes_at_a_fence.Goals as goal

pub returns : goal.returns
returns c =
    (lands_there (lines.Step 0 0) (vcpu_of 0 0) 1 (told_or_lands in_flight (lines.Step 0 0) (vcpu_of 0 0) 1
    (c.none_comes_unasked_where_sources_are_passed.ensures.every_line in_flight (lines.Step 0 0) (vcpu_of 0 0) 1 refl silent_before asked_after).1)).0
