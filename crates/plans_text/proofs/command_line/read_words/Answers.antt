use Rattle.std.proofs.Common.{◌∙◌}
use Rattle.std.specs.Prelude.{map}
use Rattle.aia_io.proofs.CommandLemmas.{found_is_asked, refused_is_unasked}
use Rattle.plans_text.specs.CommandLine.{named, subcommand_of, the_command}
use Rattle.plans_text.proofs.command_line.read_words.Goals as goal

pub returns-in-Some : goal.returns-in-Some
unfolding subcommand_of
returns-in-Some c = c.read_matches.ensures ∙ found_is_asked the_command _ named (map (λ word. word.now) c.args.words.now) _ c.in-Some.found
    c.in_ok-command.ensures.shape c.in-Some.is c.in_ok-found.ensures

pub returns-in-None : goal.returns-in-None
unfolding subcommand_of
returns-in-None c = refused_is_unasked the_command _ named (map (λ word. word.now) c.args.words.now) _ c.in_ok-command.ensures.shape c.in-None.is
    c.in_ok-found.ensures
