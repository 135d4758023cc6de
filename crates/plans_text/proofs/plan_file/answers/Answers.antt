use Rattle.std.proofs.Common.{◌≡◌, ◌∙◌, ◌+◌, ap, subst, sym, IfOk, length, arith, length-drop}
use Rattle.plans_text.specs.declared.outcome.FileOutcome.{FileOutcome}
use Rattle.plans_text.specs.Reading.{Text}
use Rattle.plans_text.specs.PlanFile.{read_of, texts_of, with_texts}
use Rattle.aia_io.proofs.CutLemmas.{end_within, no_end_at_all}
use Rattle.aia_io.proofs.PieceLemmas.{all_of_rest}
use Rattle.plans_text.proofs.FileLemmas.{text_more, whole, whole_outcome}
use Rattle.plans_text.proofs.plan_file.answers.Goals as goal

pub loop-end-preserved : goal.loop-end-preserved
loop-end-preserved c =
    let within = end_within c.loop-end.rest.now c.in-Some.end (sym c.in-Some.ensures) in
    let left = ap length (all_of_rest c.loop-end.rest.now (c.in-Some.end + 1)) ∙ length-drop (c.in-Some.end + 1) c.loop-end.rest.now in
    record {
      read = ap (λ xs. with_texts (read_of c.add_text.new.self) (texts_of xs)) (all_of_rest c.loop-end.rest.now (c.in-Some.end + 1))
          ∙ text_more (read_of c.loop-end.file) (read_of c.add_text.new.self) c.loop-end.rest.now c.in-Some.end _ c.in-Some.ensures
          c.in_ok-add_text.ensures.read c.loop-end.invariant.read;
      inside = c.in_ok-add_text.ensures.inside;
      lines = omega (arith, within, left, c.in_ok-add_text.ensures.lines, c.loop-end.invariant.lines);
    }

pub returns : goal.returns
returns c =
    let read = c.in_ok-add_last.ensures.read (no_end_at_all _ (sym c.in_default.ensures)) ∙ c.loop-end.invariant.read in
    record {
      text = subst (λ (x : Text). IfOk c.finish.result (λ out. out.text.items ≡ x)) (whole c.args.bytes.now _ read) c.finish.ensures.text;
      outcome = subst (λ (x : FileOutcome). IfOk c.finish.result (λ out. out.outcome ≡ x)) (whole_outcome c.args.bytes.now _ read)
          c.finish.ensures.outcome;
    }
