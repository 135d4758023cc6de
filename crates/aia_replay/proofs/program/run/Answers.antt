use Rattle.std.proofs.Common.{sym, ap, ◌∙◌, Some}
use Rattle.aia_command.proofs.SpelledLemmas.{count_in_range, width_in_range}
use Rattle.aia_replay.proofs.ProgramLemmas.{generate_usage, generate_complete}
use Rattle.aia_replay.proofs.program.run.Goals as goal

pub summarize-requires : goal.summarize-requires
summarize-requires g c =
    let taken = c.in-Ok-Some-Generate in
    count_in_range _ taken.count taken.seed (sym taken.ensures ∙ (taken.field-0-is ∙ ap Some taken.field-0-0-is))

pub returns-in-Ok-Some-Replay-clause-ends : goal.returns-in-Ok-Some-Replay-clause-ends
returns-in-Ok-Some-Replay-clause-ends g c =
    let taken = c.in-Ok-Some-Replay in
    rw (sym taken.ensures ∙ (taken.field-0-is ∙ ap Some taken.field-0-0-is)) c.replay.ensures.ends

pub returns-in-Ok-Some-Generate-clause-ends : goal.returns-in-Ok-Some-Generate-clause-ends
returns-in-Ok-Some-Generate-clause-ends g c =
    let taken = c.in-Ok-Some-Generate in
    rw (sym taken.ensures ∙ (taken.field-0-is ∙ ap Some taken.field-0-0-is))
    (c.summarize.ensures (g.S.Source.supply c.args.source.now) (g.S.Source.faults c.args.source.now))

pub returns-in-Ok-Some-Generate-clause-usage : goal.returns-in-Ok-Some-Generate-clause-usage
returns-in-Ok-Some-Generate-clause-usage g c =
    let taken = c.in-Ok-Some-Generate in
    λ other. generate_usage (sym taken.ensures ∙ (taken.field-0-is ∙ ap Some taken.field-0-0-is))
    (c.summarize.ensures (g.S.Source.supply c.args.source.now) (g.S.Source.faults c.args.source.now))

pub returns-in-Ok-Some-Generate-clause-complete : goal.returns-in-Ok-Some-Generate-clause-complete
returns-in-Ok-Some-Generate-clause-complete g c =
    λ asks source sink fits. generate_complete (c.summarize.ensures (g.S.Source.supply c.args.source.now) (g.S.Source.faults c.args.source.now)) sink

pub audit_plan-requires : goal.audit_plan-requires
audit_plan-requires g c =
    let taken = c.in-Ok-Some-Audit in
    width_in_range _ taken.kind taken.words (sym taken.ensures ∙ (taken.field-0-is ∙ ap Some taken.field-0-0-is))

pub returns-in-Ok-Some-Audit-clause-ends : goal.returns-in-Ok-Some-Audit-clause-ends
returns-in-Ok-Some-Audit-clause-ends g c =
    let taken = c.in-Ok-Some-Audit in
    rw (sym taken.ensures ∙ (taken.field-0-is ∙ ap Some taken.field-0-0-is)) c.audit_plan.ensures.ends
