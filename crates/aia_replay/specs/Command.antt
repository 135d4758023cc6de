-- The numbers that the program ends with.
use Rattle.std.specs.Prelude.{ℕ, List, [], ◌∷◌}
use Rattle.aia_replay.specs.declared.program.Status.{Status}
use Rattle.aia_replay.specs.declared.program.Status.TheVariants.{Done, Usage, ReadFault, WriteFault, Memory, TooLong}

-- The number that the program ends with, by how the run ended; and all of them.
abbrev pub exit_number : Status → ℕ
exit_number Done = 0
exit_number Usage = 2
exit_number ReadFault = 3
exit_number WriteFault = 4
exit_number Memory = 5
exit_number TooLong = 6

abbrev pub exit_numbers : List ℕ
exit_numbers = 0 ∷ 2 ∷ 3 ∷ 4 ∷ 5 ∷ 6 ∷ []
