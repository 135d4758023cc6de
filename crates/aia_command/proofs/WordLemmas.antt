-- What is read of words, as the definitions say it.
use Rattle.std.proofs.Common.{◌≡◌, true, refl, sym, ap, Option, Some, None}
use Rattle.std.specs.Prelude.{option_and_then, option_map}
use Rattle.clap.specs.Walk.{Text}
use Rattle.clap.specs.Faults.{is_simple_and_free}
use Rattle.clap.specs.Matches.{ReadsOne}
use Rattle.clap.proofs.OnLiterals.{clap_on_literals}
use Rattle.aia_command.specs.declared.kind_word.KindWord.{KindWord}
use Rattle.aia_command.specs.KindWords.{NamesKind}
use Rattle.aia_command.specs.CommandLine.{kind_named, the_command}

pub the_command-simple : is_simple_and_free the_command ≡ true
unfolding clap_on_literals the_command
the_command-simple = refl

-- Where the word of a kind is found, what is read of it is the kind that it names.
pub kind_read : (text : Option Text) (read : Option KindWord) → (text ≡ None → read ≡ None) → ((t : Text) → text ≡ Some t → ReadsOne NamesKind t read)
    → option_map (λ word. word.kind) read ≡ option_and_then kind_named text
kind_read None read none some = ap (option_map (λ word. word.kind)) (none refl)
kind_read (Some t) (Some word) none some = sym (some t refl)
kind_read (Some t) None none some = let gave = some t refl in sym gave.1
