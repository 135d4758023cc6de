use Rattle.std.proofs.Common.{◌≡◌, arith}
use Rattle.std.specs.Fmt.{decimal}
use Rattle.std.proofs.lemmas.Grind.{common_steps}
use Rattle.aia_model.specs.AnswerText.{decimal_text}
use Rattle.aia_generate.proofs.PrintLemmas.{same_decimal}
use Rattle.aia_replay.proofs.plan_so_far.push_counted.Goals as goal

pub returns-clause-text : goal.returns-clause-text
returns-clause-text c =
    let same : decimal c.args.number ≡ decimal_text c.args.number = same_decimal c.args.number (omega arith) in
    grind (arith, common_steps, same)
