use Rattle.std.proofs.Common.{◌∙◌, ap}
use Rattle.std.specs.Prelude.{option_and_then}
use Rattle.std.specs.Str.Parse.{ParsesUnsigned, ExplainsUnsignedError, HasUnsignedDigitsIfOk}
use Rattle.clap.specs.Matches.{found_of}
use Rattle.clap.proofs.WalkLemmas.{one_text-rows}
use Rattle.aia_command.specs.CommandLine.{number_of}
use Rattle.aia_command.proofs.NumberLemmas.{number_read}
use Rattle.aia_command.proofs.words.read_number.Goals as goal

pub returns : goal.returns
returns c =
    number_read (λ bs r. ParsesUnsigned 64 10 bs r × ExplainsUnsignedError 10 bs r × HasUnsignedDigitsIfOk bs r) _ c.get_one.result
    c.get_one.ensures.none c.get_one.ensures.value (λ t r gave. gave.0)
    ∙ ap (option_and_then number_of) (one_text-rows (found_of c.args.arguments.now) c.args.name.now)
