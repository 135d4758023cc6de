use Rattle.std.proofs.Common.{◌≡◌, None, sym, ◌∙◌}
use Rattle.std.specs.Prelude.{◌↔◌}
use Rattle.aia_command.specs.CommandLine.{subcommand_of}
use Rattle.aia_io.specs.Words.{AreRefused, asked, asked_by}
use Rattle.aia_io.proofs.CommandLemmas.{read_is_asked, read_is_refused}
use Rattle.aia_replay.proofs.starting.run_arguments.Goals as goal

pub returns-in-Ok-clause-ends : goal.returns-in-Ok-clause-ends
returns-in-Ok-clause-ends g c =
    let same : asked subcommand_of c.deref.result.now ≡ asked_by subcommand_of c.args.arguments =
    rw c.deref.ensures.value (read_is_asked subcommand_of c.args.arguments _ c.in-Ok.ensures.words) in
    rw (← same) c.run.ensures.ends

pub returns-in-Ok-clause-unread : goal.returns-in-Ok-clause-unread
returns-in-Ok-clause-unread g c =
    let same : asked subcommand_of c.deref.result.now ≡ asked_by subcommand_of c.args.arguments =
    rw c.deref.ensures.value (read_is_asked subcommand_of c.args.arguments _ c.in-Ok.ensures.words) in
    λ count seed taken. c.run.ensures.unread count seed (same ∙ taken)

pub returns-in-Ok-clause-usage : goal.returns-in-Ok-clause-usage
returns-in-Ok-clause-usage g c =
    let same : (asked subcommand_of c.deref.result.now ≡ None) ↔ AreRefused subcommand_of c.args.arguments =
    rw c.deref.ensures.value (read_is_refused subcommand_of c.args.arguments _ c.in-Ok.ensures.words) in
    λ other. let given = c.run.ensures.usage other in (λ is. same.0 (given.0 is), λ none. given.1 (same.1 none))

pub returns-in-Ok-clause-complete : goal.returns-in-Ok-clause-complete
returns-in-Ok-clause-complete g c =
    let same : asked subcommand_of c.deref.result.now ≡ asked_by subcommand_of c.args.arguments =
    rw c.deref.ensures.value (read_is_asked subcommand_of c.args.arguments _ c.in-Ok.ensures.words) in
    λ asks source sink fits. c.run.ensures.complete (λ none. asks (sym same ∙ none)) source sink (λ reads. fits (rw (← same) reads))
