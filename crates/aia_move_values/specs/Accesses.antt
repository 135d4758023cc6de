-- An access of a plan that is made: what it needs, what it makes of the world, and what is carried
-- then.
use Rattle.std.specs.Prelude.{◌≡◌, ℕ, ◌<◌, false, ⊤, Option, IsSome}
use Rattle.aia_word.specs.Sets.{has_bit}
use Rattle.aia_vcpu.specs.declared.access.Access.{Access}
use Rattle.aia_vcpu.specs.declared.access.Access.TheVariants.{TakeDelivery, PutDelivery, Fence, TakePending, PutPending, TakeEnables, PutEnables, Look, TakeThreshold, PutThreshold}
use Rattle.aia_vcpu.specs.Home.{Way, Progress}
use Rattle.aia_vcpu.specs.Home.Home.{OnWay}
use Rattle.aia_vcpu.specs.Plans.{IsNext}
use Rattle.aia_vcpu_places.specs.Holds.{Hand}
use Rattle.aia_fabric_values.specs.World.{World}
use Rattle.aia_fabric_values.specs.Flights.{Fences}
use Rattle.aia_fabric_values.specs.Changes.{pending_words, enable_words}
use Rattle.aia_move_values.specs.declared.who.Who.{Who}
use Rattle.aia_move_values.specs.Move.{Moving, width, old_at, Makes, hand_after}

-- ---- what it needs

-- A number is taken of a guest file, and put in one.
abbrev pub HasFile : {A : Type 0} → Access → Option A → Option A → Type 0
HasFile TakeDelivery old new = IsSome old
HasFile TakeThreshold old new = IsSome old
HasFile PutDelivery old new = IsSome new
HasFile PutThreshold old new = IsSome new
HasFile access old new = ⊤

-- Word 0 of a set has no identity 0.
abbrev pub NoZero : ℕ → ℕ → Type 0
NoZero k word = k ≡ 0 → has_bit word 0 ≡ false

-- It names one of so many words, and what is put in word 0 of a set has no identity 0.
abbrev pub WordFits : Access → ℕ → ℕ → Type 0
WordFits (TakePending k) words word = k < words
WordFits (PutPending k) words word = (k < words) × NoZero k word
WordFits (TakeEnables k) words word = k < words
WordFits (PutEnables k) words word = (k < words) × NoZero k word
WordFits (Look k) words word = k < words
WordFits access words word = ⊤

-- ---- what it makes

-- A move of who is moved, on a way, as far as it has come, with this in its hand.
abbrev pub moved : Who → Way → Progress → Hand → Moving
moved who way at hand = record { who = who; home = OnWay way at; hand = hand }

-- It changes the world; before the fence of the entry all stores in flight of the VM land.
abbrev pub MakesLanding : Access → Moving → World → World → Type 0
MakesLanding Fence m w u = Fences w u m.who.found.vm m.who.found.vcpu
MakesLanding access m w u = Makes access m w u

-- What is taken of word 0 of a set has no identity 0.
abbrev pub TakesNoZero : Access → ℕ → Type 0
TakesNoZero (TakePending k) word = NoZero k word
TakesNoZero (TakeEnables k) word = NoZero k word
TakesNoZero access word = ⊤

-- The word that is taken is one of its old place's.
abbrev pub TakesWithin : Access → Moving → World → Type 0
TakesWithin (TakePending k) m w = k < pending_words w (old_at m)
TakesWithin (TakeEnables k) m w = k < enable_words w (old_at m)
TakesWithin access m w = ⊤

-- A move makes an access, and so much is carried then.
pub record Executes (access : Access) (m : Moving) (w u : World) (hand : Hand) : Type 0 where
  pub makes : MakesLanding access m w u
  pub carries : hand ≡ hand_after access m w
  pub within : TakesWithin access m w
  pub no_zero : TakesNoZero access hand.word

-- The next access of a move is made, and so much is carried then; the step is not counted yet.
pub record ExecutesNext (w : World) (m : Moving) (u : World) (t : Moving) : Type 0 where
  pub access : Access
  pub is_next : IsNext (width w) m.home access
  pub executes : Executes access m w u t.hand
  pub same_home : t.home ≡ m.home
  pub same_who : t.who ≡ m.who
