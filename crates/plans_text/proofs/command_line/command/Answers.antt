use Rattle.std.proofs.Common.{rules, ap, ap₂, ◌∙◌}
use Rattle.std.proofs.lemmas.Result.{IfOk-weaker}
use Rattle.clap.specs.Words.{App, with_subcommand}
use Rattle.plans_text.specs.CommandLine.{the_command}
use Rattle.clap.specs.Faults.{is_simple_and_free}
use Rattle.plans_text.proofs.WordLemmas.{the_command-simple}
use Rattle.plans_text.proofs.command_line.command.Goals as goal

pub returns-clause-shape : goal.returns-clause-shape
unfolding the_command
returns-clause-shape c =
    let made = ap₂ with_subcommand c.bare_command.ensures.shape (ap (λ (a : App). a.top) c.judge_command.ensures.shape) in
    IfOk-weaker c.subcommand.result _ _ (λ whole built. built.shape (search rules) ∙ made) c.subcommand.ensures

pub returns-clause-simple : goal.returns-clause-simple
returns-clause-simple c = IfOk-weaker c.subcommand.result _ _ (λ whole is. ap is_simple_and_free is ∙ the_command-simple) (returns-clause-shape c)
