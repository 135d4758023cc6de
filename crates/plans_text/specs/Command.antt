-- The numbers that the program ends with.
use Rattle.std.specs.Prelude.{ℕ, List, [], ◌∷◌}
use Rattle.plans_text.specs.declared.outcome.FileOutcome.{FileOutcome}
use Rattle.plans_text.specs.declared.outcome.FileOutcome.TheVariants.{Accepted, BadLine, NoPlan, Refused}
use Rattle.plans_text.specs.declared.program.PlansStatus.{PlansStatus}
use Rattle.plans_text.specs.declared.program.PlansStatus.TheVariants.{Done, Usage, ReadFault, WriteFault, Memory, TooLong}

-- The number that the program ends with, where it judged a whole file, by what came of its plans.
abbrev pub outcome_number : FileOutcome → ℕ
outcome_number Accepted = 0
outcome_number Refused = 1
outcome_number BadLine = 7
outcome_number NoPlan = 8

-- The number that it ends with, by how the run ended; and all of them.
abbrev pub exit_number : PlansStatus → ℕ
exit_number (Done outcome) = outcome_number outcome
exit_number Usage = 2
exit_number ReadFault = 3
exit_number WriteFault = 4
exit_number Memory = 5
exit_number TooLong = 6

abbrev pub exit_numbers : List ℕ
exit_numbers = 0 ∷ 1 ∷ 2 ∷ 3 ∷ 4 ∷ 5 ∷ 6 ∷ 7 ∷ 8 ∷ []
