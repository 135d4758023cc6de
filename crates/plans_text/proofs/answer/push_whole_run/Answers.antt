use Rattle.std.proofs.lemmas.Result.{on_ok_weaker}
use Rattle.plans_text.proofs.FileLemmas.{three_parts}
use Rattle.plans_text.proofs.answer.push_whole_run.Goals as goal

pub returns : goal.returns
returns c = on_ok_weaker c.push_course.result (three_parts _ _ _ _ _ _ _ c.in_ok-extend_from_slice.ensures.items c.in_ok-push_case.ensures)
    c.push_course.ensures
