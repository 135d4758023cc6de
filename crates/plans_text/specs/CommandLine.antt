-- What the words of the command line ask for, without the program's name, by what the library
-- `clap` states of a command (`asked_of`).
use Rattle.std.specs.Prelude.{List, Option, Some, None, if◌then◌else◌, codes}
use Rattle.std.specs.Str.{bytes_eq}
use Rattle.clap.specs.Walk.{Text, Row}
use Rattle.clap.specs.Simple.{App, new_app, with_subcommand}
use Rattle.aia_io.specs.Commands.{asked_of, bare_command}
use Rattle.plans_text.specs.declared.command_line.PlansSubcommand.{PlansSubcommand}
use Rattle.plans_text.specs.declared.command_line.PlansSubcommand.TheVariants.{Judge}

-- `judge` has no arguments.
abbrev pub judge_command : App
judge_command = new_app (codes "judge")

-- The command.
unfoldable pub the_command : App
the_command = with_subcommand (bare_command (codes "plans")) judge_command.top

-- The subcommand of this name.
abbrev pub named : Option (Text × List Row) → Option PlansSubcommand
named None = None
named (Some (name, rows)) = if bytes_eq name (codes "judge") then Some Judge else None

-- The subcommand that the words ask for, or None where they are refused.
unfoldable pub subcommand_of : List Text → Option PlansSubcommand
subcommand_of words = asked_of the_command named words
