use Rattle.std.proofs.Common.{◌∙◌}
use Rattle.std.specs.Prelude.{map}
use Rattle.clap.specs.Simple.{app_of}
use Rattle.aia_io.proofs.CommandLemmas.{found_in_words, refused_by_error}
use Rattle.aia_io.proofs.command_line.match_words.Goals as goal

pub returns-in-Ok : goal.returns-in-Ok
returns-in-Ok c = found_in_words (app_of c.args.command) (map (λ word. word.now) c.args.words.now) c.in-Ok.found c.requires c.in-Ok.ensures.kinds
    c.in-Ok.ensures.matches

pub returns : goal.returns
returns c = refused_by_error (app_of c.args.command) (map (λ word. word.now) c.args.words.now) c.in-Err.error c.requires c.in-Err.ensures.kinds
    (λ memory. c.in_default.not-OutOfMemory (c.kind.ensures ∙ memory))
