use Rattle.std.proofs.lemmas.Result.{on_ok_weaker}
use Rattle.plans_text.specs.PlanFile.{read_of}
use Rattle.aia_io.proofs.PieceLemmas.{not_empty}
use Rattle.plans_text.proofs.StreamLemmas.{last_of}
use Rattle.plans_text.proofs.plan_file.PlanFile.add_last.Goals as goal

pub returns-else-is_empty-clause-read : goal.returns-else-is_empty-clause-read
returns-else-is_empty-clause-read c =
    on_ok_weaker c.add_text.result (last_of (read_of c.args.self.now) (read_of c.add_text.new.self) c.args.text.now
    (not_empty _ c.if-is_empty.ensures)) c.add_text.ensures.read
