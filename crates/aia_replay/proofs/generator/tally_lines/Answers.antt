use Rattle.std.proofs.Common.{◌++◌, ◌∷◌, [], ap, sym, ◌∙◌, append_assoc}
use Rattle.aia_model.specs.Answer.{after_lines}
use Rattle.aia_generate.specs.Lines.{lines_left}
use Rattle.aia_replay.proofs.TallyLemmas.{stands_one_more}
use Rattle.aia_replay.proofs.generator.tally_lines.Goals as goal

pub loop-line-preserved : goal.loop-line-preserved
loop-line-preserved c =
    let before = c.loop-line.yielded in
    let was = c.loop-line.invariant in
    let serves = c.in_ok-answer.ensures.serves in (
      tt,
      tt,
      append_assoc before (c.in-Some.line ∷ []) (lines_left c.next.new.self) ∙ (ap (λ later. before ++ later) (sym c.in-Some.ensures.steps) ∙ was.2),
      c.count.ensures.of_lines before was.3 (serves.answers (after_lines [] before) was.4),
      stands_one_more c.loop-line.engine c.line.new.self before c.in-Some.line c.in_ok-answer.answer was.4 serves,
    )
