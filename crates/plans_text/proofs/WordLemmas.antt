-- What is read of words, as the definitions say it.
use Rattle.std.proofs.Common.{◌≡◌, true, refl}
use Rattle.clap.specs.Faults.{is_simple_and_free}
use Rattle.clap.proofs.OnLiterals.{clap_on_literals}
use Rattle.plans_text.specs.CommandLine.{the_command}

pub the_command-simple : is_simple_and_free the_command ≡ true
unfolding clap_on_literals the_command
the_command-simple = refl
