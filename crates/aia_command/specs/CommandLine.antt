-- What the words of the command line ask for, without the program's name: a subcommand with its
-- arguments, by what the library `clap` states of a command (`asked_of`). Which words are an
-- argument's, and which texts are numbers, is what it states too: `one_of` and `is_unsigned_in`.
use Rattle.std.specs.Prelude.{ℕ, ◌^◌, ◌-◌, true, nat_eq, List, [], ◌∷◌, Option, Some, None, if◌then◌else◌, codes, option_and_then}
use Rattle.std.specs.List.{list_any}
use Rattle.std.specs.Str.{bytes_eq}
use Rattle.std.specs.Str.Parse.{digits_value, without_leading_plus}
use Rattle.clap.specs.ValueTests.{is_unsigned_in}
use Rattle.clap.specs.Walk.{Text, Row, Rule, one_of}
use Rattle.clap.specs.Simple.{App, new_app, new_rule, with_rule, with_subcommand}
use Rattle.clap.specs.declared.builder.value_parser.ValueParser.{ValueParser}
use Rattle.clap.specs.declared.builder.value_parser.ValueParser.TheVariants as parser
use Rattle.aia_io.specs.Commands.{asked_of, bare_command}
use Rattle.aia_regs.specs.declared.limits.TheConstants.{FILE_WORDS}
use Rattle.aia_command.specs.declared.limits.TheConstants.{MOST_LINES}
use Rattle.aia_command.specs.declared.subcommand.Subcommand.{Subcommand}
use Rattle.aia_command.specs.declared.subcommand.Subcommand.TheVariants.{Replay, Generate, Audit}
use Rattle.aia_plan.specs.declared.step.Kind.{Kind}
use Rattle.aia_plan.specs.declared.step.Kind.TheVariants.{Leave, Arrive, Shift}

-- ---- the command. Profile

-- `replay` has no arguments.
abbrev pub replay_command : App
replay_command = new_app (codes "replay")

-- An argument that must be there, and what it may be.
abbrev pub required_rule : Text → ValueParser → Rule
required_rule name words = record (new_rule name) { parser = Some words; required = true }

-- `gen` has two: how many lines, and then any number of 64 bits.
abbrev pub generate_command : App
generate_command = with_rule (with_rule (new_app (codes "gen"))
    (required_rule (codes "COUNT") (parser.Unsigned 0 MOST_LINES)))
    (required_rule (codes "SEED") (parser.Unsigned 0 (2 ^ 64 - 1)))

-- `audit` has two: any text, and then any number of 64 bits.
abbrev pub audit_command : App
audit_command = with_rule (with_rule (new_app (codes "audit"))
    (required_rule (codes "KIND") parser.String))
    (required_rule (codes "W") (parser.Unsigned 0 (2 ^ 64 - 1)))

-- The command.
unfoldable pub the_command : App
the_command = with_subcommand
    (with_subcommand (with_subcommand (bare_command (codes "aia")) replay_command.top)
    generate_command.top) audit_command.top

-- ---- what words ask for

-- The number that a text spells in decimal digits, where it is at most so great.
abbrev pub number_up_to : ℕ → Text → Option ℕ
number_up_to most text = if is_unsigned_in 0 most text
    then Some (digits_value 10 (without_leading_plus text)) else None

-- The number of at most 64 bits that a text spells so.
abbrev pub number_of : Text → Option ℕ
number_of = number_up_to (2 ^ 64 - 1)

-- The number of an argument, by what was found of each.
abbrev pub number_at : Text → List Row → Option ℕ
number_at name rows = option_and_then number_of (one_of name rows)

-- What `gen` asks for, by what was found of its arguments.
abbrev pub generate_of : List Row → Option Subcommand
generate_of rows = option_and_then (λ count.
    option_and_then (λ seed. Some (Generate count seed)) (number_at (codes "SEED") rows))
    (number_at (codes "COUNT") rows)

-- The kind of move that a word names.
abbrev pub kind_named : Text → Option Kind
kind_named word = if bytes_eq word (codes "leave") then Some Leave
    else if bytes_eq word (codes "arrive") then Some Arrive
    else if bytes_eq word (codes "shift") then Some Shift else None

-- The kind of move that was found.
abbrev pub kind_at : List Row → Option Kind
kind_at rows = option_and_then kind_named (one_of (codes "KIND") rows)

-- How many words of 64 identities the sets of an interrupt file have, where a number is that.
abbrev pub width_of : ℕ → Option ℕ
width_of number =
    if list_any (λ width. nat_eq number width) (1 ∷ 2 ∷ 4 ∷ 8 ∷ 16 ∷ FILE_WORDS ∷ [])
    then Some number
    else None

-- The number of words that was found.
abbrev pub width_at : List Row → Option ℕ
width_at rows = option_and_then width_of (number_at (codes "W") rows)

-- What `audit` asks for.
abbrev pub audit_of : List Row → Option Subcommand
audit_of rows = option_and_then (λ kind.
    option_and_then (λ words. Some (Audit kind words)) (width_at rows)) (kind_at rows)

-- The subcommand of this name, by what was found of its arguments.
abbrev pub named : Option (Text × List Row) → Option Subcommand
named None = None
named (Some (name, rows)) = if bytes_eq name (codes "replay") then Some Replay
    else if bytes_eq name (codes "gen") then generate_of rows
    else if bytes_eq name (codes "audit") then audit_of rows else None

-- The subcommand that the words ask for, or None where they are refused.
unfoldable pub subcommand_of : List Text → Option Subcommand
subcommand_of words = asked_of the_command named words
