-- A command of subcommands, and what words ask for by it.
--
-- Which words are taken, which word is whose argument and which texts are numbers is what the
-- library `clap` states of a command: `fault_of`, and its `subcommand_of`, by which a subcommand is
-- met. The command is each program's own. Vocabulary.
use Rattle.std.specs.Prelude.{◌≡◌, ◌≢◌, true, List, [], ◌∷◌, Option, Some, None, codes}
use Rattle.clap.specs.Walk.{Text, Row}
use Rattle.clap.specs.Simple.{App, new_app, on_top, subcommand_of, subcommand_rows_of}
use Rattle.clap.specs.Kinds.{Kinds}
use Rattle.clap.specs.Faults.{fault_of}
use Rattle.clap.specs.declared.parser.matches.ArgMatches.{ArgMatches}

-- A command of this name, but for its subcommands: there must be one, and there is no help.
abbrev pub bare_command : Text → App
bare_command name = on_top (λ shape. record shape {
  no_binary_name = true;
  subcommand_required = true;
  disable_help_flag = true;
  disable_help_subcommand = true;
}) (new_app name)

-- Words are refused where there is an error for them.
abbrev pub unless_refused : {A : Type 0} → Kinds → Option A → Option A
unless_refused [] asked = asked
unless_refused (error ∷ errors) asked = None

-- What words ask for, or None where they are refused: by their command, and by what a subcommand of
-- a name asks for with what was found of its arguments.
abbrev pub asked_of : {A : Type 0} → App → (Option (Text × List Row) → Option A)
    → List Text → Option A
asked_of command named words =
    unless_refused (fault_of command words) (named (subcommand_of command words))

-- What is found in words: the subcommand that is met, with its arguments; or they are refused.
abbrev pub Finds : App → List Text → Option ArgMatches → Type 0
Finds command words (Some found) =
    (fault_of command words ≡ []) × (subcommand_rows_of found ≡ subcommand_of command words)
Finds command words None = fault_of command words ≢ []

-- Words that no program takes: none, an empty one, `x`, the delimiter alone, and requests for help
-- and for the version.
pub record RefusesOthers {A : Type 0} (asks : List Text → Option A) : Type 0 where
  pub no_word : asks [] ≡ None
  pub empty_word : asks (codes "" ∷ []) ≡ None
  pub other_word : asks (codes "x" ∷ []) ≡ None
  pub delimiter : asks (codes "--" ∷ []) ≡ None
  pub help : asks (codes "help" ∷ []) ≡ None
  pub help_option : asks (codes "--help" ∷ []) ≡ None
  pub help_letter : asks (codes "-h" ∷ []) ≡ None
  pub version_option : asks (codes "--version" ∷ []) ≡ None
