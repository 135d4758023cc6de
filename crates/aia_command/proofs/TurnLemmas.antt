-- What `clap` makes of one word, where no argument is an option.
use Rattle.std.proofs.Common.{◌≡◌, ℕ, Bool, true, false, List, [], ◌∷◌, refl, sym, subst, Option, Some, None}
use Rattle.std.specs.Prelude.{◌==◌, slice_get}
use Rattle.std.specs.Str.{bytes_eq, chars}
use Rattle.std.proofs.lemmas.Bool.{eqb-true}
use Rattle.clap.specs.Walk.{Text, Row, Names, Walk, idle, value, arg_by_index, arg_by_long, arg_by_short, bundle_met, subcommand_met, to_positional, walked}
use Rattle.clap.specs.Simple.{Shape}
use Rattle.clap.specs.Faults.{flags_fault, step_fault, turn_fault}
use Rattle.clap.specs.declared.error.kind.ErrorKind.{ErrorKind}
use Rattle.clap.specs.declared.error.kind.ErrorKind.TheVariants as kind

-- Where a walk stands that waits for no value, before or after the delimiter.
abbrev pub standing : List Row → Option (Text × List Text) → ℕ → Bool → Walk
standing rows pending position delimited = record {
  held = record { rows = rows; pending = pending; skip = 0 };
  waiting = idle;
  position = position;
  is_trailing = delimited;
  stopped = None;
}

-- A word is the delimiter, or begins with a hyphen and is refused, or is an argument.
pub data Turn (s : Shape) (names : Names) (w : Walk) (word : Text) : Type 0 where
  Delimits : bytes_eq word (45 ∷ 45 ∷ []) ≡ true → turn_fault s names w word ≡ [] → walked s.rules names w word ≡ record w { is_trailing = true }
      → Turn s names w word
  IsRefused : (k : ErrorKind) → turn_fault s names w word ≡ k ∷ [] → (rest : Text) → word ≡ 45 ∷ rest → bytes_eq word (45 ∷ 45 ∷ []) ≡ false
      → Turn s names w word
  IsArgument : bytes_eq word (45 ∷ 45 ∷ []) ≡ false → turn_fault s names w word ≡ step_fault s w.position w.held value
      → walked s.rules names w word ≡ to_positional s.rules (arg_by_index s.rules w.position) word w w.held → Turn s names w word

module _ (s : Shape) (names : Names) (rows : List Row) (pending : Option (Text × List Text)) (position : ℕ)
    (no_long : (name : Text) → arg_by_long s.rules name ≡ None) (no_short : (x : ℕ) → arg_by_short s.rules x ≡ None) where
  abbrev Turns : Text → Type 0
  Turns word = subcommand_met names idle word ≡ None → Turn s names (standing rows pending position false) word

  turn-two_hyphens : (xs : Text) → Turns (45 ∷ 45 ∷ xs)
  unfolding walked bundle_met flags_fault
  turn-two_hyphens [] none = Delimits refl (simp none) (simp none)
  turn-two_hyphens (x ∷ xs) none = IsRefused kind.UnknownArgument (simp (none, no_long)) _ refl refl

  turn-flags : (x : ℕ) (xs : Text) (first : Option ℕ) → (x == 45) ≡ false → slice_get (chars (x ∷ xs)) 0 ≡ first → Turns (45 ∷ x ∷ xs)
  unfolding walked bundle_met flags_fault
  turn-flags x xs None not is none = IsArgument (simp not) (simp (none, not, is)) (simp (none, not, is))
  turn-flags x xs (Some flag) not is none = IsRefused kind.UnknownArgument (simp (none, not, is, no_short)) _ refl (simp not)

  turn-after_hyphen : (x : ℕ) (xs : Text) (b : Bool) → (x == 45) ≡ b → Turns (45 ∷ x ∷ xs)
  turn-after_hyphen x xs true is = subst (λ (y : ℕ). Turns (45 ∷ y ∷ xs)) (sym (eqb-true x 45 is)) (turn-two_hyphens xs)
  turn-after_hyphen x xs false not = turn-flags x xs (slice_get (chars (x ∷ xs)) 0) not refl

  turn-hyphen : (xs : Text) → Turns (45 ∷ xs)
  unfolding walked bundle_met flags_fault
  turn-hyphen [] none = IsArgument refl (simp none) (simp none)
  turn-hyphen (x ∷ xs) none = turn-after_hyphen x xs (x == 45) refl none

  turn-first : (x : ℕ) (xs : Text) (b : Bool) → (x == 45) ≡ b → Turns (x ∷ xs)
  unfolding walked bundle_met flags_fault
  turn-first x xs true is = subst (λ (y : ℕ). Turns (y ∷ xs)) (sym (eqb-true x 45 is)) (turn-hyphen xs)
  turn-first x xs false not = λ none. IsArgument (simp not) (simp (none, not)) (simp (none, not))

  pub turn : (word : Text) → Turns word
  unfolding walked bundle_met flags_fault
  turn [] none = IsArgument refl (simp none) (simp none)
  turn (x ∷ xs) none = turn-first x xs (x == 45) refl none

-- After the delimiter each word is an argument.
pub turn-delimited : (s : Shape) (names : Names) (rows : List Row) (pending : Option (Text × List Text)) (position : ℕ) (word : Text)
    → let w = standing rows pending position true in
    (turn_fault s names w word ≡ step_fault s position w.held value)
    × (walked s.rules names w word ≡ to_positional s.rules (arg_by_index s.rules position) word w w.held)
unfolding walked
turn-delimited s names rows pending position word = (refl, refl)
