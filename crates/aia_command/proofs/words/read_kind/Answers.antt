use Rattle.std.proofs.Common.{◌∙◌, ap}
use Rattle.std.specs.Prelude.{codes, option_and_then}
use Rattle.clap.specs.Matches.{found_of}
use Rattle.clap.proofs.WalkLemmas.{one_text-rows}
use Rattle.aia_command.specs.CommandLine.{kind_named}
use Rattle.aia_command.proofs.WordLemmas.{kind_read}
use Rattle.aia_command.proofs.words.read_kind.Goals as goal

pub returns : goal.returns
returns c =
    kind_read _ c.get_one.result c.get_one.ensures.none c.get_one.ensures.value
    ∙ ap (option_and_then kind_named) (one_text-rows (found_of c.args.arguments.now) (codes "KIND"))
