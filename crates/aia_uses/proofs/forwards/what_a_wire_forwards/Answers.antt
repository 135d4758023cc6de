use Rattle.std.proofs.Common.{true}
use Rattle.aia_model.specs.declared.line.Line.TheVariants.{Wire}
use Rattle.aia_uses.proofs.forwards.what_a_wire_forwards.Goals as goal

pub returns : goal.returns
returns c = λ h source msi p good ok sent passed. c.what_a_line_forwards_is_pending_after_it.ensures h (Wire source true) msi p good ok sent passed
