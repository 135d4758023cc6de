use Rattle.std.proofs.Common.{◌∙◌}
use Rattle.aia_aplic_values.proofs.AimSteps.{passable-stands}
use Rattle.aia_aplic.proofs.aplic.Aplic.passable.Goals as goal

pub returns-clause-by_past : goal.returns-clause-by_past
returns-clause-by_past c = λ past stands. c.is_passable.ensures ∙ passable-stands c.args.self.now past c.args.s stands
