use Rattle.std.specs.Prelude.{codes}
use Rattle.std.proofs.Common.{rules, ap, ap₂, ◌≡◌, ◌∙◌}
use Rattle.clap.specs.Words.{App, app_of, with_subcommand}
use Rattle.aia_io.specs.Commands.{bare_command}
use Rattle.aia_command.specs.CommandLine.{generate_command, replay_command, the_command}
use Rattle.clap.specs.Faults.{is_simple_and_free}
use Rattle.aia_command.proofs.WordLemmas.{the_command-simple}
use Rattle.aia_command.proofs.command.command.Goals as goal

pub returns-clause-shape : goal.returns-clause-shape
unfolding the_command
returns-clause-shape c =
    let first : app_of c.in_ok-with_replay.with_replay ≡ with_subcommand (bare_command (codes "aia")) replay_command.top =
    c.in_ok-with_replay.ensures.shape (search rules)
    ∙ ap₂ with_subcommand c.bare_command.ensures.shape (ap (λ (a : App). a.top) c.replay_command.ensures.shape) in
    let second : app_of c.in_ok-with_generate.with_generate ≡ with_subcommand (with_subcommand (bare_command (codes "aia")) replay_command.top)
    generate_command.top = c.in_ok-with_generate.ensures.shape (search rules)
    ∙ ap₂ with_subcommand first (ap (λ (a : App). a.top) c.in_ok-generate_command.ensures.shape) in
    c.in_ok-whole.ensures.shape (search rules) ∙ ap₂ with_subcommand second (ap (λ (a : App). a.top) c.in_ok-audit_command.ensures.shape)

pub returns-clause-simple : goal.returns-clause-simple
returns-clause-simple c = ap is_simple_and_free (returns-clause-shape c) ∙ the_command-simple
