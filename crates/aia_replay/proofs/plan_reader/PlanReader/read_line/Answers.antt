use Rattle.std.proofs.Common.{◌∙◌}
use Rattle.aia_replay.specs.Plans.{plan_read}
use Rattle.aia_replay.proofs.PlanLemmas.{kept_read}
use Rattle.aia_replay.proofs.plan_reader.PlanReader.read_line.Goals as goal

pub returns-else-is_empty-clause-read : goal.returns-else-is_empty-clause-read
returns-else-is_empty-clause-read c =
    let old = c.args.self.now in
    c.read_kept.ensures.read ∙ kept_read old.plan.words (plan_read old.plan) old.line.items c.keep.new.line.items c.args.part.now c.keep.ensures
