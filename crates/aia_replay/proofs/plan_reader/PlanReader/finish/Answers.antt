use Rattle.std.proofs.Common.{sym, ap, ◌∙◌}
use Rattle.std.proofs.lemmas.Bool.{eqb-true}
use Rattle.std.proofs.lemmas.List.{append-nil}
use Rattle.aia_audit.specs.PlanText.{with_text}
use Rattle.aia_replay.specs.Plans.{plan_read}
use Rattle.aia_io.proofs.PieceLemmas.{not_empty}
use Rattle.aia_replay.proofs.PlanLemmas.{plan_finished, plan_finished_line}
use Rattle.aia_replay.proofs.plan_reader.PlanReader.finish.Goals as goal

pub returns-then-not-is_empty-clause-finishes : goal.returns-then-not-is_empty-clause-finishes
returns-then-not-is_empty-clause-finishes c =
    let old = c.args.self.now in
    plan_finished_line old c.read_kept.new.self (not_empty _ c.if-not-is_empty.ensures)
    (record {
      read = c.read_kept.ensures.read ∙ ap (with_text old.plan.words (plan_read old.plan)) (sym (append-nil old.line.items));
      empty =
          c.read_kept.ensures.empty;
      words = c.read_kept.ensures.words;
    })

pub returns-else-not-is_empty-clause-finishes : goal.returns-else-not-is_empty-clause-finishes
returns-else-not-is_empty-clause-finishes c = plan_finished c.args.self.now (eqb-true _ 0 (sym c.if-not-is_empty.ensures))
