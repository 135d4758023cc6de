-- An interrupt file on its way from an old place to a new one: the two places, the routes by which
-- stores reach them, what is carried between them, and all that may happen between two steps of a
-- plan. Nothing of the rule stands here. Profile.
use Rattle.std.specs.Prelude.{ℕ, zero, suc, ◌*◌, ◌+◌, ◌/◌, ◌%◌, Bool, false, not, ◌&&◌, ◌||◌, nat_eq, nat_lt, List, [], ◌∷◌, ◌++◌, Option, Some, None, slice_get}
use Rattle.aia_plan.specs.declared.step.Step.{Step}
use Rattle.aia_plan.specs.declared.step.Step.TheVariants.{Word0, Fence, Map, Unmap, Remap, GFence, TakeP, PutP, TakeE, PutE}

-- One of the two places.
pub data TransitSide : Type 0 where
  Old : TransitSide
  New : TransitSide

-- A store in flight: where it leads, and the identity that it asks for.
pub record Flight : Type 0 where
  pub side : TransitSide
  pub identity : ℕ

-- A set of identities is a test. What is carried is a word, and so a test of bits.
pub record Transit : Type 0 where
  pub old_pending : ℕ → Bool
  pub old_enabled : ℕ → Bool
  pub new_pending : ℕ → Bool
  pub new_enabled : ℕ → Bool
  -- the word of the pending set, and that of the enabled set, that was taken and is still to be put
  pub carried_pending : ℕ → Bool
  pub carried_enables : ℕ → Bool
  -- where the entry of the MSI page table leads stores of devices: as it is written, and in force
  pub entry_written : TransitSide
  pub entry_in_force : TransitSide
  -- where the G-stage record leads stores of other virtual harts
  pub record_written : TransitSide
  pub record_in_force : TransitSide
  -- the stores of devices that are in flight, the one first that was sent first
  pub flights : List Flight
  -- what was pending in the old place at the start, and what was asked for since: what must not be
  -- lost
  pub due : ℕ → Bool

-- ---- stores land

-- Whether a number is an identity: 0 is none.
abbrev pub is_identity : ℕ → Bool
is_identity i = nat_lt 0 i

-- A set to which an identity was added.
abbrev pub with_one : ℕ → (ℕ → Bool) → ℕ → Bool
with_one x members i = members i || (is_identity i && nat_eq x i)

-- A store lands in a place: its identity is pending there, and is due.
abbrev pub landed : TransitSide → ℕ → Transit → Transit
landed Old x z = record z { old_pending = with_one x z.old_pending; due = with_one x z.due }
landed New x z = record z { new_pending = with_one x z.new_pending; due = with_one x z.due }

-- Stores in flight land, the one first that was sent first.
abbrev pub all_landed : List Flight → Transit → Transit
all_landed [] z = z
all_landed (f ∷ later) z = all_landed later (landed f.side f.identity z)

-- ---- steps

-- The identities of a word as bits; a set without them; the identities of a word whose bits are
-- ones, but 0.
abbrev pub word_bits : ℕ → (ℕ → Bool) → ℕ → Bool
word_bits w members bit = members (64 * w + bit)

abbrev pub without_word : ℕ → (ℕ → Bool) → ℕ → Bool
without_word w members i = not (nat_eq w (i / 64)) && members i

abbrev pub of_word : ℕ → (ℕ → Bool) → ℕ → Bool
of_word w bits i = nat_eq w (i / 64) && (is_identity i && bits (i % 64))

-- No bit.
abbrev pub no_bits : ℕ → Bool
no_bits bit = false

-- What a step of a plan makes of all that. A fence is one step here, though it waits for many
-- stores; the steps that are not named change nothing of what is judged.
abbrev pub stepped : Step → Transit → Transit
stepped Word0 z = record z { entry_written = New }
stepped Fence z = record (all_landed z.flights z) { flights = []; entry_in_force = z.entry_written }
stepped Map z = record z { record_written = New }
stepped Unmap z = record z { record_written = New }
stepped Remap z = record z { record_written = New }
stepped GFence z = record z { record_in_force = z.record_written }
stepped (TakeP w) z = record z {
  carried_pending = word_bits w z.old_pending;
  old_pending = without_word w z.old_pending;
}
stepped (PutP w) z = record z {
  new_pending = λ i. z.new_pending i || of_word w z.carried_pending i;
  carried_pending = no_bits;
}
stepped (TakeE w) z = record z {
  carried_enables = word_bits w z.old_enabled;
  old_enabled = without_word w z.old_enabled;
}
stepped (PutE w) z = record z {
  new_enabled = λ i. without_word w z.new_enabled i || of_word w z.carried_enables i;
  carried_enables = no_bits;
}
stepped step z = z

-- ---- what happens between steps

-- A step of the plan, or what others do: a device stores, and its store lands at once or is in
-- flight; the K-th store in flight lands, counted from 0, if there is one; the IOMMU reads the
-- entry again, at any time; another virtual hart stores.
pub data Happening : Type 0 where
  Does : (step : Step) → Happening
  Stores : (identity : ℕ) → Happening
  Sends : (identity : ℕ) → Happening
  Lands : (k : ℕ) → Happening
  Refetches : Happening
  PeerStores : (identity : ℕ) → Happening

-- A list without its k-th member, counted from 0.
abbrev pub all_but : {A : Type 0} → ℕ → List A → List A
all_but k [] = []
all_but zero (x ∷ later) = later
all_but (suc k) (x ∷ later) = x ∷ all_but k later

-- The store in flight that is there, if one is, lands.
abbrev pub one_landed : Option Flight → Transit → Transit
one_landed None z = z
one_landed (Some f) z = landed f.side f.identity z

-- A store goes where the route in force leads as it is made.
abbrev pub happened : Happening → Transit → Transit
happened (Does step) z = stepped step z
happened (Stores x) z = landed z.entry_in_force x z
happened (Sends x) z = record z {
  flights = z.flights ++ record { side = z.entry_in_force; identity = x } ∷ [];
}
happened (Lands k) z = record (one_landed (slice_get z.flights k) z) {
  flights = all_but k z.flights;
}
happened Refetches z = record z { entry_in_force = z.entry_written }
happened (PeerStores x) z = landed z.record_in_force x z

-- What happens one after the other, from the first on.
abbrev pub all_happened : List Happening → Transit → Transit
all_happened [] z = z
all_happened (x ∷ later) z = all_happened later (happened x z)

-- The steps of a plan among what happens.
abbrev pub steps_in : List Happening → List Step
steps_in [] = []
steps_in (Does step ∷ later) = step ∷ steps_in later
steps_in (x ∷ later) = steps_in later
