use Rattle.std.proofs.Common.{rules, ◌≡◌, [], ◌∷◌, ◌++◌, ap, subst, ◌∙◌}
use Rattle.aia_audit.specs.PlanText.{read_word}
use Rattle.aia_replay.specs.declared.program.Status.{Status}
use Rattle.aia_replay.specs.declared.program.Status.TheVariants.{Done}
use Rattle.aia_replay.specs.Plans.{StreamsPlan, plan_read}
use Rattle.aia_replay.proofs.PlanLemmas.{audit_cut}
use Rattle.aia_replay.proofs.plan_reader.audit_plan.Goals as goal

pub returns-in-Err-clause-ends : goal.returns-in-Err-clause-ends
returns-in-Err-clause-ends g c =
    let left = g.S.Source.supply c.args.source.now in
    let rest = g.S.Source.supply c.read_all-status.new.source in
    let read = plan_read c.read_all-status.new.self.plan in
    let width = c.new-reader.ensures.width in
    let done : c.read_all-status.result ≡ Done = search rules in
    let streams : StreamsPlan Done c.args.words read left rest =
    subst (λ w. StreamsPlan Done w read left rest) width
    (subst (λ (s : Status). StreamsPlan s c.new-reader.result.plan.words read left rest) done c.read_all-status.ensures.streams) in
    let told : c.as_slice.result.now ≡ read_word c.args.kind c.args.words read ++ 10 ∷ [] =
    c.as_slice.ensures.value ∙ (c.answer.ensures ∙ ap (λ w. read_word c.args.kind w read ++ 10 ∷ []) (c.read_all-status.ensures.words ∙ width)) in
    audit_cut streams (c.read_all-status.ensures.ended done) told c.in-Err.ensures.cut c.in-Err.ensures.err c.read_all-status.ensures.later
    c.in-Err.ensures.later
