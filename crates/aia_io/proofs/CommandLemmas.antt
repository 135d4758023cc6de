-- What is read of words, as the definitions say it.
use Rattle.std.proofs.Common.{inl, inr, ◌≡◌, ◌≢◌, true, List, [], ◌∷◌, refl, sym, ap, ◌∙◌, subst, Option, Some, None}
use Rattle.clap.specs.Walk.{Text, Row}
use Rattle.clap.specs.Kinds.{HasKind, IsAmong, Kinds}
use Rattle.clap.specs.Simple.{App, HasMatchesOf, subcommand_of, subcommand_rows_of}
use Rattle.clap.specs.Faults.{fault_of, is_simple_and_free}
use Rattle.clap.specs.Values.{kind_of}
use Rattle.clap.specs.declared.error.Error.{Error}
use Rattle.clap.specs.declared.parser.matches.ArgMatches.{ArgMatches}
use Rattle.clap.specs.declared.error.kind.ErrorKind.TheVariants as kind
use Rattle.clap.proofs.WalkLemmas.{both}
use Rattle.aia_io.specs.Commands.{Finds, asked_of, unless_refused}
use Rattle.std.specs.Prelude.{Vec, String, Result, Ok, Err, ◌↔◌}
use Rattle.std.specs.Borrow.{Bor}
use Rattle.std.specs.declared.alloc.Global.{Global}
use Rattle.std.specs.declared.io.Error.{Error as ReadError}
use Rattle.aia_io.specs.Words.{AreNoText, AreRefused, AreWordsOf, asked, asked_by}

-- Where no error comes, what was found is what is met.
pub found_in_words : (command : App) (words : List Text) (found : ArgMatches) → is_simple_and_free command ≡ true
    → (is_simple_and_free command ≡ true → fault_of command words ≡ []) → HasMatchesOf command words found
    → Finds command words (Some found)
found_in_words command words found simple no_fault matches = (no_fault simple, (matches (both _ _ simple).0).1)

-- Where another error comes than for want of memory, the words are refused.
pub refused_by_error : (command : App) (words : List Text) (error : Error) → is_simple_and_free command ≡ true
    → (is_simple_and_free command ≡ true → HasKind (fault_of command words) error) → kind_of error ≢ kind.OutOfMemory
    → Finds command words None
refused_by_error command words error simple has other = elim (has simple) [
  | inl memory ↦ absurd (other memory)
  | inr among ↦ go (fault_of command words) among
]
  where
    go : (kinds : Kinds) → IsAmong (kind_of error) kinds → kinds ≢ []
    go [] h = absurd h
    go (k ∷ ks) h = λ e. absurd (cc)

-- What is read of what was found is what the words ask for.
pub found_is_asked : {A : Type 0} (command made : App) (named : Option (Text × List Row) → Option A) (words : List Text)
    (given : Option ArgMatches) (found : ArgMatches) → made ≡ command → given ≡ Some found → Finds made words given
    → named (subcommand_rows_of found) ≡ asked_of command named words
found_is_asked command made named words given found is gave finds =
    let both : Finds made words (Some found) = subst (Finds made words) gave finds in
    rw (← is) (rw both.0 (ap named both.1))

-- Where they are refused, they ask for nothing.
pub refused_is_unasked : {A : Type 0} (command made : App) (named : Option (Text × List Row) → Option A) (words : List Text)
    (given : Option ArgMatches) → made ≡ command → given ≡ None → Finds made words given
    → None ≡ asked_of command named words
refused_is_unasked command made named words given is none finds = rw (← is) (go (fault_of made words) (subst (Finds made words) none finds))
  where
    go : (kinds : Kinds) → kinds ≢ [] → None ≡ unless_refused kinds (named (subcommand_of made words))
    go [] h = absurd (h refl)
    go (k ∷ ks) h = refl

-- ---- words that were read, or not

-- Words that were read ask for what the command line does.
pub read_is_asked : {A : Type 0} (asks : List Text → Option A) (arguments : Result (Vec (String Global) Global) ReadError) (words : List (Bor Text))
    → AreWordsOf arguments words → asked asks words ≡ asked_by asks arguments
read_is_asked asks (Ok arguments) words same = ap asks same
read_is_asked asks (Err error) words same = absurd same

-- They are refused where the command line is.
pub read_is_refused : {A : Type 0} (asks : List Text → Option A) (arguments : Result (Vec (String Global) Global) ReadError) (words : List (Bor Text))
    → AreWordsOf arguments words → (asked asks words ≡ None) ↔ AreRefused asks arguments
read_is_refused asks (Ok arguments) words same = (λ none. sym (ap asks same) ∙ none, λ none. ap asks same ∙ none)
read_is_refused asks (Err error) words same = absurd same

-- Words that are no text ask for nothing, and are refused.
pub no_text_is_refused : {A : Type 0} (asks : List Text → Option A) (arguments : Result (Vec (String Global) Global) ReadError)
    → AreNoText arguments → (asked_by asks arguments ≡ None) × AreRefused asks arguments
no_text_is_refused asks (Ok arguments) none = absurd none
no_text_is_refused asks (Err error) none = (refl, none)
