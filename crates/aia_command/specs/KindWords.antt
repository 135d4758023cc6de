-- What reading the word of a kind of move may give. Vocabulary.
use Rattle.std.specs.Prelude.{◌≡◌, Some, None, Result, Ok, Err}
use Rattle.clap.specs.Walk.{Text}
use Rattle.aia_command.specs.declared.kind_word.KindWord.{KindWord}
use Rattle.aia_command.specs.declared.kind_word.NoKind.{NoKind}
use Rattle.aia_command.specs.CommandLine.{kind_named}

-- The word names that kind, or it names none.
abbrev pub NamesKind : Text → Result KindWord NoKind → Type 0
NamesKind text (Ok word) = kind_named text ≡ Some word.kind
NamesKind text (Err none) = kind_named text ≡ None
