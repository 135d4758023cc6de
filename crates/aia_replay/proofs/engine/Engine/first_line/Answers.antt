use Rattle.aia_replay.proofs.EngineLemmas.{refused_first, needs_machine}
use Rattle.aia_replay.proofs.engine.Engine.first_line.Goals as goal

pub returns-in_default : goal.returns-in_default
returns-in_default c = record {
  serves = refused_first c.args.self.now _ c.args.line.now _ c.requires c.requires (needs_machine c.args.line.now c.in_default.not-Machine);
  err = tt;
  none = tt;
  memory = tt;
}
