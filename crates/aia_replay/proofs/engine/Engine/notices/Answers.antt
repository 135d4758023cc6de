use Rattle.std.proofs.Common.{sym, ◌∙◌}
use Rattle.aia_replay.proofs.EngineLemmas.{none_sent}
use Rattle.aia_replay.proofs.engine.Engine.notices.Goals as goal

pub returns-in-None : goal.returns-in-None
returns-in-None c = λ h stands. none_sent c.args.self.now h (sym c.self.view_is ∙ c.in-None.is) stands
