use Rattle.std.proofs.lemmas.Result.{on_ok_weaker}
use Rattle.plans_text.proofs.FileLemmas.{three_parts}
use Rattle.plans_text.proofs.answer.push_lands.Goals as goal

pub returns : goal.returns
returns c = on_ok_weaker c.push_words.result
    (three_parts _ _ _ _ _ _ _ c.in_ok-extend_from_slice.ensures.items c.in_ok-push_between.ensures) c.push_words.ensures
