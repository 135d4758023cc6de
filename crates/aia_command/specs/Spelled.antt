-- The subcommand that words spell, said without a command and a walk over it: the laws tie it to
-- what words ask for, so that it says which words are taken.
use Rattle.std.specs.Prelude.{List, [], ◌∷◌, Option, Some, None, if◌then◌else◌, codes, option_and_then}
use Rattle.std.specs.Str.{bytes_eq}
use Rattle.clap.specs.Walk.{Text}
use Rattle.aia_plan.specs.declared.step.Kind.{Kind}
use Rattle.aia_plan.specs.declared.step.Kind.TheVariants.{Leave, Arrive, Shift}
use Rattle.aia_command.specs.declared.limits.TheConstants.{MOST_LINES}
use Rattle.aia_command.specs.declared.subcommand.Subcommand.{Subcommand}
use Rattle.aia_command.specs.declared.subcommand.Subcommand.TheVariants.{Replay, Generate, Audit}
use Rattle.aia_command.specs.CommandLine.{kind_named, number_of, number_up_to, width_of}

-- The words without the first `--`: a delimiter, after which no word is an option.
abbrev pub without_delimiter : List Text → List Text
without_delimiter [] = []
without_delimiter (word ∷ words) =
    if bytes_eq word (codes "--") then words else word ∷ without_delimiter words

-- What the arguments of `replay` spell.
abbrev pub replay_spelled : List Text → Option Subcommand
replay_spelled [] = Some Replay
replay_spelled arguments = None

-- What those of `gen` spell.
abbrev pub generate_spelled : List Text → Option Subcommand
generate_spelled (count ∷ seed ∷ []) = option_and_then (λ lines.
    option_and_then (λ number. Some (Generate lines number)) (number_of seed))
    (number_up_to MOST_LINES count)
generate_spelled arguments = None

-- The word of a kind of move.
abbrev pub kind_word : Kind → Text
kind_word Leave = codes "leave"
kind_word Arrive = codes "arrive"
kind_word Shift = codes "shift"

-- What the arguments of `audit` spell.
abbrev pub audit_spelled : List Text → Option Subcommand
audit_spelled (kind ∷ width ∷ []) = option_and_then (λ named.
    option_and_then (λ words. Some (Audit named words))
    (option_and_then width_of (number_of width))) (kind_named kind)
audit_spelled arguments = None

-- The subcommand that words spell, the first of them its name.
abbrev pub subcommand_spelled : List Text → Option Subcommand
subcommand_spelled [] = None
subcommand_spelled (name ∷ arguments) =
    if bytes_eq name (codes "replay") then replay_spelled (without_delimiter arguments)
    else if bytes_eq name (codes "gen") then generate_spelled (without_delimiter arguments)
    else if bytes_eq name (codes "audit") then audit_spelled (without_delimiter arguments)
    else None
