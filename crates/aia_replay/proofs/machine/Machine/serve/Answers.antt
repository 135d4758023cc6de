use Rattle.std.proofs.Common.{◌∙◌}
use Rattle.std.proofs.lemmas.Bool.{cond-true}
use Rattle.aia_model.specs.declared.line.Line.TheVariants.{Machine}
use Rattle.aia_model.specs.declared.answer.Answer.TheVariants.{Again}
use Rattle.aia_model.proofs.AnswerLemmas.{machine_refusal}
use Rattle.aia_replay.proofs.MachineLemmas.{refused}
use Rattle.aia_replay.proofs.machine.Machine.serve.Goals as goal

pub returns-in-Machine : goal.returns-in-Machine
returns-in-Machine c =
    let line = c.in-Machine in
    rw c.in-Machine.is (refused c.args.self.now (Machine line.harts line.guests line.n line.sources) Again
    (λ h stands. machine_refusal h line.harts line.guests line.n line.sources ∙ cond-true _ _ _ stands.holds.core.there))
