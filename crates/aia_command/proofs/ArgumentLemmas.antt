-- What the words after a subcommand ask for, word by word.
use Rattle.std.proofs.Common.{◌≡◌, ◌∙◌, ℕ, Bool, true, false, List, [], ◌∷◌, refl, sym, ap, ap₂, Option, Some, None}
use Rattle.std.specs.Prelude.{◌^◌, ◌-◌, codes, fold, option_and_then}
use Rattle.std.specs.Str.{bytes_eq}
use Rattle.std.proofs.Math.Bool.{or-false}
use Rattle.clap.specs.Kinds.{Kinds, or_else}
use Rattle.clap.specs.ValueTests.{is_unsigned_in}
use Rattle.clap.specs.Walk.{Text, Row, Held, Walk, value, arg_by_index, arg_by_long, arg_by_short, to_positional, walked, finished, settled}
use Rattle.clap.specs.Simple.{App, Shape, built_leaf, inherited, marked_built, with_leaf_noted}
use Rattle.clap.specs.Faults.{check_fault, defaults_fault, settle_fault, walk_fault, step_fault, turn_fault}
use Rattle.clap.specs.declared.parser.matches.ValueSource.TheVariants.{CommandLine}
use Rattle.clap.specs.declared.builder.value_parser.Reading.TheVariants.{AsWritten}
use Rattle.clap.specs.declared.error.kind.ErrorKind.{ErrorKind}
use Rattle.clap.specs.declared.error.kind.ErrorKind.TheVariants as kind
use Rattle.aia_plan.specs.declared.step.Kind.{Kind}
use Rattle.aia_command.specs.declared.limits.TheConstants.{MOST_LINES}
use Rattle.aia_command.specs.declared.subcommand.Subcommand.{Subcommand}
use Rattle.aia_command.specs.declared.subcommand.Subcommand.TheVariants.{Replay, Generate, Audit}
use Rattle.aia_io.specs.Commands.{bare_command, unless_refused}
use Rattle.aia_command.specs.CommandLine.{audit_command, audit_of, generate_command, generate_of, kind_named, number_of, number_up_to, replay_command, width_of}
use Rattle.aia_command.specs.Spelled.{audit_spelled, generate_spelled, replay_spelled, without_delimiter}
use Rattle.aia_command.proofs.NumberLemmas.{no_number, widest}
use Rattle.aia_command.proofs.TurnLemmas.{Delimits, IsArgument, IsRefused, standing, turn, turn-delimited}

-- ---- from where a walk stands

-- The errors at the end of the words, after those of the words.
abbrev end_fault : Shape → Held → Kinds
end_fault s end = or_else (settle_fault s.rules s.args_override_self end)
    (or_else (defaults_fault (settled s.rules end).rows s.rules) (check_fault s (finished s.rules end) false))

abbrev held_at_end : Shape → Walk → List Text → Held
held_at_end s w words = (fold (walked s.rules []) w words).held

abbrev pub fault_from : Shape → Walk → List Text → Kinds
fault_from s w words = or_else (walk_fault s [] w words) (end_fault s (held_at_end s w words))

abbrev pub found_from : Shape → Walk → List Text → List Row
found_from s w words = finished s.rules (held_at_end s w words)

-- What the words that are left ask for.
abbrev pub asked_from : Shape → (List Row → Option Subcommand) → Walk → List Text → Option Subcommand
asked_from s read w words = unless_refused (fault_from s w words) (read (found_from s w words))

-- The arguments among the words, before or after the delimiter.
abbrev arguments_in : Bool → List Text → List Text
arguments_in true words = words
arguments_in false words = without_delimiter words

without_delimiter-there : (word : Text) (words : List Text) → bytes_eq word (45 ∷ 45 ∷ []) ≡ true → without_delimiter (word ∷ words) ≡ words
without_delimiter-there word words is = rw is refl

without_delimiter-later : (word : Text) (words : List Text) → bytes_eq word (45 ∷ 45 ∷ []) ≡ false
    → without_delimiter (word ∷ words) ≡ word ∷ without_delimiter words
without_delimiter-later word words not = rw not refl

module _ (s : Shape) (read : List Row → Option Subcommand) where
  asked_from-further : (w after : Walk) (word : Text) (words : List Text) → turn_fault s [] w word ≡ [] → walked s.rules [] w word ≡ after
      → asked_from s read w (word ∷ words) ≡ asked_from s read after words
  unfolding walk_fault
  asked_from-further w after word words no_fault goes =
      ap₂ (λ kinds next. unless_refused (or_else (or_else kinds (walk_fault s [] next words)) (end_fault s (held_at_end s next words)))
      (read (found_from s next words))) no_fault goes

  asked_from-refused : (w : Walk) (word : Text) (words : List Text) (k : ErrorKind) → turn_fault s [] w word ≡ k ∷ []
      → asked_from s read w (word ∷ words) ≡ None
  unfolding walk_fault
  asked_from-refused w word words k fault = simp fault

  -- Where the walk stands there, the words ask for what they spell.
  module _ (rows : List Row) (pending : Option (Text × List Text)) (position : ℕ) (spelled : List Text → Option Subcommand) where
    abbrev at : Bool → Walk
    at = standing rows pending position

    abbrev IsSpelledAfter : Bool → Text → List Text → Type 0
    IsSpelledAfter delimited word words = turn_fault s [] (at delimited) word ≡ step_fault s position (at delimited).held value
        → walked s.rules [] (at delimited) word ≡ to_positional s.rules (arg_by_index s.rules position) word (at delimited) (at delimited).held
        → asked_from s read (at delimited) (word ∷ words) ≡ spelled (word ∷ arguments_in delimited words)

    asked_from-spelled : ((name : Text) → arg_by_long s.rules name ≡ None) → ((x : ℕ) → arg_by_short s.rules x ≡ None)
        → ((delimited : Bool) → asked_from s read (at delimited) [] ≡ spelled [])
        → ((delimited : Bool) (word : Text) (words : List Text) → IsSpelledAfter delimited word words)
        → ((rest : Text) (words : List Text) → spelled ((45 ∷ rest) ∷ words) ≡ None)
        → (delimited : Bool) (words : List Text) → asked_from s read (at delimited) words ≡ spelled (arguments_in delimited words)
    asked_from-spelled no_long no_short ends argues hyphen true [] = ends true
    asked_from-spelled no_long no_short ends argues hyphen false [] = ends false
    asked_from-spelled no_long no_short ends argues hyphen true (word ∷ words) =
        let turned = turn-delimited s [] rows pending position word in
        argues true word words turned.0 turned.1
    asked_from-spelled no_long no_short ends argues hyphen false (word ∷ words) = elim (turn s [] rows pending position no_long no_short word refl) [
      | Delimits is no_fault goes ↦
          asked_from-further (at false) (at true) word words no_fault goes ∙ asked_from-spelled no_long no_short ends argues hyphen true words
          ∙ ap spelled (sym (without_delimiter-there word words is))
      | IsRefused k fault rest is not ↦
          asked_from-refused (at false) word words k fault
          ∙ sym (ap spelled (without_delimiter-later word words not) ∙ ap (λ first. spelled (first ∷ without_delimiter words)) is
          ∙ hyphen rest (without_delimiter words))
      | IsArgument not fault goes ↦ argues false word words fault goes ∙ ap spelled (sym (without_delimiter-later word words not))
    ]

-- A subcommand as building leaves it.
abbrev leaf_of : App → Shape
leaf_of a = built_leaf (inherited (with_leaf_noted (marked_built (bare_command (codes "aia")).top)) a.top)

-- ---- `replay`

abbrev pub replay_leaf : Shape
replay_leaf = leaf_of replay_command

abbrev pub replays : List Row → Option Subcommand
replays rows = Some Replay

pub asked_from-replay : (words : List Text) → asked_from replay_leaf replays (standing [] None 1 false) words ≡ replay_spelled
    (without_delimiter words)
unfolding walk_fault defaults_fault
asked_from-replay = asked_from-spelled replay_leaf replays [] None 1 replay_spelled (λ name. refl) (λ x. refl) (λ delimited. refl)
    (λ delimited word words fault goes. asked_from-refused replay_leaf replays (standing [] None 1 delimited) word words kind.UnknownArgument fault)
    (λ rest words. refl) false

-- ---- `gen`

abbrev pub generate_leaf : Shape
generate_leaf = leaf_of generate_command

-- What is found of COUNT; where the walk stands when COUNT was met, and when SEED was met too.
abbrev count_found : Text → List Row
count_found count = record {
  id = codes "COUNT";
  values = count ∷ [];
  count = None;
  source = Some CommandLine;
  reading = AsWritten;
} ∷ []

abbrev count_met : Text → Bool → Walk
count_met count = standing [] (Some (codes "COUNT", count ∷ [])) 2

abbrev seed_met : Text → Text → Bool → Walk
seed_met count seed = standing (count_found count) (Some (codes "SEED", seed ∷ [])) 3

no_count : (count : Text) (words : List Text) → number_up_to MOST_LINES count ≡ None → generate_spelled (count ∷ words) ≡ None
no_count count [] none = refl
no_count count (seed ∷ []) none = rw none refl
no_count count (seed ∷ word ∷ words) none = refl

no_seed : (count seed : Text) (words : List Text) → number_of seed ≡ None → generate_spelled (count ∷ seed ∷ words) ≡ None
no_seed count seed [] none = go (number_up_to MOST_LINES count)
  where
    go : (lines : Option ℕ) → option_and_then (λ x. option_and_then (λ number. Some (Generate x number)) (number_of seed)) lines ≡ None
    go None = refl
    go (Some x) = rw none refl
no_seed count seed (word ∷ words) none = refl

module _ (count : Text) where
  both_end : (seed : Text) → is_unsigned_in 0 MOST_LINES count ≡ true → (b delimited : Bool) → is_unsigned_in 0 (2 ^ 64 - 1) seed ≡ b
      → asked_from generate_leaf generate_of (seed_met count seed delimited) [] ≡ generate_spelled (count ∷ seed ∷ [])
  unfolding walk_fault defaults_fault
  both_end seed fits true delimited is = simp (is, fits, widest MOST_LINES count fits)
  both_end seed fits false delimited not = simp (not, fits)

  asked_from-seed : (seed : Text) → is_unsigned_in 0 MOST_LINES count ≡ true → (delimited : Bool) (words : List Text)
      → asked_from generate_leaf generate_of (seed_met count seed delimited) words ≡ generate_spelled (count ∷ seed ∷ arguments_in delimited words)
  asked_from-seed seed fits = asked_from-spelled generate_leaf generate_of (count_found count) (Some (codes "SEED", seed ∷ [])) 3
      (λ more. generate_spelled (count ∷ seed ∷ more))
      (λ name. refl) (λ x. refl) (λ delimited. both_end seed fits (is_unsigned_in 0 (2 ^ 64 - 1) seed) delimited refl)
      (λ delimited word words fault goes. asked_from-refused generate_leaf generate_of (seed_met count seed delimited) word words
      kind.UnknownArgument fault)
      (λ rest words. refl)

  count_end : (b delimited : Bool) → is_unsigned_in 0 MOST_LINES count ≡ b
      → asked_from generate_leaf generate_of (count_met count delimited) [] ≡ None
  unfolding walk_fault defaults_fault
  count_end true delimited is = simp is
  count_end false delimited not = simp not

  count_passes : (delimited : Bool) → is_unsigned_in 0 MOST_LINES count ≡ true
      → step_fault generate_leaf 2 (count_met count delimited).held value ≡ []
  count_passes delimited is = simp is

  count_fails : (delimited : Bool) → is_unsigned_in 0 MOST_LINES count ≡ false
      → step_fault generate_leaf 2 (count_met count delimited).held value ≡ kind.ValueValidation ∷ []
  count_fails delimited not = simp not

  -- The word after COUNT is SEED.
  seed_after : (b delimited : Bool) → is_unsigned_in 0 MOST_LINES count ≡ b → (word : Text) (words : List Text)
      → turn_fault generate_leaf [] (count_met count delimited) word ≡ step_fault generate_leaf 2 (count_met count delimited).held value
      → walked generate_leaf.rules [] (count_met count delimited) word ≡ seed_met count word delimited
      → asked_from generate_leaf generate_of (count_met count delimited) (word ∷ words) ≡ generate_spelled
      (count ∷ word ∷ arguments_in delimited words)
  seed_after true delimited is word words fault goes =
      asked_from-further generate_leaf generate_of (count_met count delimited) (seed_met count word delimited) word words
      (fault ∙ count_passes delimited is) goes
      ∙ asked_from-seed word is delimited words
  seed_after false delimited not word words fault goes =
      asked_from-refused generate_leaf generate_of (count_met count delimited) word words kind.ValueValidation (fault ∙ count_fails delimited not)
      ∙ sym (no_count count (word ∷ arguments_in delimited words) (rw not refl))

  asked_from-count : (delimited : Bool) (words : List Text)
      → asked_from generate_leaf generate_of (count_met count delimited) words ≡ generate_spelled (count ∷ arguments_in delimited words)
  asked_from-count = asked_from-spelled generate_leaf generate_of [] (Some (codes "COUNT", count ∷ [])) 2
      (λ more. generate_spelled (count ∷ more)) (λ name. refl) (λ x. refl)
      (λ delimited. count_end (is_unsigned_in 0 MOST_LINES count) delimited refl)
      (λ delimited word words fault goes. seed_after (is_unsigned_in 0 MOST_LINES count) delimited refl word words fault
      (goes ∙ ap (seed_met count word) (or-false delimited)))
      (λ rest words. no_seed count (45 ∷ rest) words (no_number (2 ^ 64 - 1) rest))

pub asked_from-generate : (words : List Text) → asked_from generate_leaf generate_of (standing [] None 1 false) words ≡ generate_spelled
    (without_delimiter words)
unfolding walk_fault defaults_fault
asked_from-generate = asked_from-spelled generate_leaf generate_of [] None 1 generate_spelled (λ name. refl) (λ x. refl) (λ delimited. refl)
    (λ delimited word words fault goes.
    asked_from-further generate_leaf generate_of (standing [] None 1 delimited) (count_met word delimited) word words fault
    (goes ∙ ap (count_met word) (or-false delimited)) ∙ asked_from-count word delimited words)
    (λ rest words. no_count (45 ∷ rest) words (no_number MOST_LINES rest)) false

-- ---- `audit`

abbrev pub audit_leaf : Shape
audit_leaf = leaf_of audit_command

-- What is found of KIND; where the walk stands when KIND was met, and when W was met too.
abbrev kind_found : Text → List Row
kind_found name = record {
  id = codes "KIND";
  values = name ∷ [];
  count = None;
  source = Some CommandLine;
  reading = AsWritten;
} ∷ []

abbrev kind_met : Text → Bool → Walk
kind_met name = standing [] (Some (codes "KIND", name ∷ [])) 2

abbrev width_met : Text → Text → Bool → Walk
width_met name width = standing (kind_found name) (Some (codes "W", width ∷ [])) 3

no_kind : (name : Text) (words : List Text) → kind_named name ≡ None → audit_spelled (name ∷ words) ≡ None
no_kind name [] none = refl
no_kind name (width ∷ []) none = rw none refl
no_kind name (width ∷ word ∷ words) none = refl

no_width : (name width : Text) (words : List Text) → number_of width ≡ None → audit_spelled (name ∷ width ∷ words) ≡ None
no_width name width [] none = go (kind_named name)
  where
    go : (named : Option Kind) → option_and_then (λ x. option_and_then (λ words. Some (Audit x words))
        (option_and_then width_of (number_of width))) named ≡ None
    go None = refl
    go (Some x) = rw none refl
no_width name width (word ∷ words) none = refl

module _ (name : Text) where
  whole_end : (width : Text) (b delimited : Bool) → is_unsigned_in 0 (2 ^ 64 - 1) width ≡ b
      → asked_from audit_leaf audit_of (width_met name width delimited) [] ≡ audit_spelled (name ∷ width ∷ [])
  unfolding walk_fault defaults_fault
  whole_end width true delimited is = simp is
  whole_end width false delimited not =
      let refused : asked_from audit_leaf audit_of (width_met name width delimited) [] ≡ None = simp not in
      refused ∙ sym (no_width name width [] (rw not refl))

  asked_from-width : (width : Text) (delimited : Bool) (words : List Text)
      → asked_from audit_leaf audit_of (width_met name width delimited) words ≡ audit_spelled (name ∷ width ∷ arguments_in delimited words)
  asked_from-width width = asked_from-spelled audit_leaf audit_of (kind_found name) (Some (codes "W", width ∷ [])) 3
      (λ more. audit_spelled (name ∷ width ∷ more))
      (λ name. refl) (λ x. refl) (λ delimited. whole_end width (is_unsigned_in 0 (2 ^ 64 - 1) width) delimited refl)
      (λ delimited word words fault goes. asked_from-refused audit_leaf audit_of (width_met name width delimited) word words
      kind.UnknownArgument fault)
      (λ rest words. refl)

  kind_end : (delimited : Bool) → asked_from audit_leaf audit_of (kind_met name delimited) [] ≡ None
  unfolding walk_fault defaults_fault
  kind_end delimited = refl

  kind_passes : (delimited : Bool) → step_fault audit_leaf 2 (kind_met name delimited).held value ≡ []
  kind_passes delimited = refl

  -- The word after KIND is W.
  width_after : (delimited : Bool) (word : Text) (words : List Text)
      → turn_fault audit_leaf [] (kind_met name delimited) word ≡ step_fault audit_leaf 2 (kind_met name delimited).held value
      → walked audit_leaf.rules [] (kind_met name delimited) word ≡ width_met name word delimited
      → asked_from audit_leaf audit_of (kind_met name delimited) (word ∷ words) ≡ audit_spelled (name ∷ word ∷ arguments_in delimited words)
  width_after delimited word words fault goes =
      asked_from-further audit_leaf audit_of (kind_met name delimited) (width_met name word delimited) word words (fault ∙ kind_passes delimited) goes
      ∙ asked_from-width word delimited words

  asked_from-kind : (delimited : Bool) (words : List Text)
      → asked_from audit_leaf audit_of (kind_met name delimited) words ≡ audit_spelled (name ∷ arguments_in delimited words)
  asked_from-kind = asked_from-spelled audit_leaf audit_of [] (Some (codes "KIND", name ∷ [])) 2 (λ more. audit_spelled (name ∷ more))
      (λ name. refl) (λ x. refl)
      (λ delimited. kind_end delimited)
      (λ delimited word words fault goes. width_after delimited word words fault (goes ∙ ap (width_met name word) (or-false delimited)))
      (λ rest words. no_width name (45 ∷ rest) words (no_number (2 ^ 64 - 1) rest))

pub asked_from-audit : (words : List Text) → asked_from audit_leaf audit_of (standing [] None 1 false) words ≡ audit_spelled (without_delimiter words)
unfolding walk_fault defaults_fault
asked_from-audit = asked_from-spelled audit_leaf audit_of [] None 1 audit_spelled (λ name. refl) (λ x. refl) (λ delimited. refl)
    (λ delimited word words fault goes.
    asked_from-further audit_leaf audit_of (standing [] None 1 delimited) (kind_met word delimited) word words fault
    (goes ∙ ap (kind_met word) (or-false delimited)) ∙ asked_from-kind word delimited words)
    (λ rest words. no_kind (45 ∷ rest) words refl) false
