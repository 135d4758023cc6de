use Rattle.aia_model.specs.declared.answer.Answer.TheVariants.{Wide}
use Rattle.aia_replay.proofs.MachineLemmas.{answered_by}
use Rattle.aia_replay.proofs.machine.wide.Goals as goal

pub returns : goal.returns
returns c = answered_by Wide c.args.given c.map_or_else.result c.map_or_else.ensures
