use Rattle.std.proofs.Common.{sym, ap, ◌∙◌}
use Rattle.aia_model.specs.Script.{printed}
use Rattle.aia_c.proofs.TextLemmas.{on_error, first_answered, first_wants}
use Rattle.aia_c.proofs.texts.answer_first.Goals as goal

pub returns-in_err-text-clause-memory : goal.returns-in_err-text-clause-memory
returns-in_err-text-clause-memory c =
    let cut = c.first_text-text.ensures in
    let text = c.in_err-text.ensures in
    on_error c.from_residual.result
    (first_wants c.args.engine.now c.text.new.self c.args.script.now c.first_text-text.result.0 c.first_text-text.result.1 c.requires.some
    cut.no_end cut.cut text.err text.none text.memory)

pub returns-in-None-clause-answers : goal.returns-in-None-clause-answers
returns-in-None-clause-answers c =
    let cut = c.first_text-text.ensures in
    first_answered c.args.engine.now c.text.new.self c.args.script.now _ c.first_text-text.result.0 c.first_text-text.result.1
    c.in_ok-text.field-0 c.requires.some cut.no_end cut.cut
    (ap printed (sym c.in-None.is)) c.in_ok-text.ensures.serves

pub returns-in-Some-clause-answers : goal.returns-in-Some-clause-answers
returns-in-Some-clause-answers c =
    let cut = c.first_text-text.ensures in
    first_answered c.args.engine.now c.text.new.self c.args.script.now _ c.first_text-text.result.0 c.first_text-text.result.1
    c.in_ok-text.field-0 c.requires.some cut.no_end cut.cut
    (c.write_answer.ensures.text ∙ ap printed (sym c.in-Some.is)) c.in_ok-text.ensures.serves
