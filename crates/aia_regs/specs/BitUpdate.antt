-- What an event says of a bit: of an identity's, or of a source's. Vocabulary.
use Rattle.std.specs.Prelude.{ℕ, Bool, true, false, nat_eq, Option, Some, None}

-- An event asks for a bit, clears it, or says nothing of it.
pub data BitUpdate : Type 0 where
  Ask : BitUpdate
  Clear : BitUpdate
  Nothing : BitUpdate

-- Whether a bit is a one after an event, given what the event says of it and whether it was one
-- before. So a bit is a one exactly where the newest event that says something of it asks for it.
abbrev pub settle : BitUpdate → Bool → Bool
settle Ask was = true
settle Clear was = false
settle Nothing was = was

-- Whether an identity, where there is one, is i.
abbrev pub names : Option ℕ → ℕ → Bool
names None i = false
names (Some x) i = nat_eq x i

-- A set after an event, given what the event says of each identity.
abbrev pub set_after : (ℕ → BitUpdate) → (ℕ → Bool) → ℕ → Bool
set_after said was i = settle (said i) (was i)
