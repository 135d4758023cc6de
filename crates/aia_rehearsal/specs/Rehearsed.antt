-- What is rehearsed: whose interrupts go from which place to which, and what is carried between
-- steps. Profile.
use Rattle.std.specs.Prelude.{◌≡◌, ℕ, ⊤, Bool, false, Option, Some, None}
use Rattle.aia_vcpu.specs.declared.place.GuestPlace.{GuestPlace}
use Rattle.aia_vcpu.specs.Vms.{Vcpu, vcpu_of}
use Rattle.aia_vcpu.specs.Home.{is_place}
use Rattle.aia_fabric_values.specs.declared.at.At.{At}
use Rattle.aia_fabric_values.specs.declared.at.At.TheVariants as ats
use Rattle.aia_fabric_values.specs.World.{World}
use Rattle.aia_file.specs.Imsic.{IsThere}
use Rattle.aia_fabric_values.specs.Changes.{spot_of}
use Rattle.aia_move_values.specs.declared.who.Who.{Who}
use Rattle.aia_move_values.specs.Move.{IsWho}
use Rattle.aia_plan.specs.Transit.{TransitSide}
use Rattle.aia_plan.specs.Transit.TransitSide.{Old, New}
use Rattle.aia_rehearsal.specs.declared.place.Place as ends
use Rattle.aia_rehearsal.specs.declared.place.Place.TheVariants.{File, Slot}

-- Whose interrupts go over, and from which place to which.
pub record Passage : Type 0 where
  pub who : Who
  pub old : ends.Place
  pub new : ends.Place

-- What was taken and is still to be put: a word of the pending set, one of the enabled set,
-- eidelivery and eithreshold; and whether a look saw an identity that is pending and enabled.
pub record Carried : Type 0 where
  pub pending : ℕ
  pub enables : ℕ
  pub delivery : ℕ
  pub threshold : ℕ
  pub seen : Bool

-- A rehearsal between two of its steps.
pub record Rehearsed : Type 0 where
  pub passage : Passage
  pub hand : Carried

-- Nothing is carried, and nothing was seen.
abbrev pub empty_hand : Carried
empty_hand =
    record { pending = 0; enables = 0; delivery = 0; threshold = 0; seen = false }

-- One that begins: nothing is carried.
abbrev pub from_to : Who → ends.Place → ends.Place → Rehearsed
from_to who old new = record {
  passage = record { who = who; old = old; new = new };
  hand = empty_hand;
}

-- ---- its places

-- The virtual hart that is moved.
abbrev pub mover_of : Passage → Vcpu
mover_of p = vcpu_of p.who.found.vm p.who.found.vcpu

-- The place on one of its sides.
abbrev pub on : TransitSide → Passage → ends.Place
on Old p = p.old
on New p = p.new

-- Where the fabric has a place of the virtual hart of a slot.
abbrev pub at_of : ℕ → ends.Place → At
at_of slot (File p) = ats.File (spot_of p)
at_of slot Slot = ats.Slot slot

abbrev pub at : TransitSide → Passage → At
at side p = at_of p.who.found.slot (on side p)

-- The guest file that a place is, None where it is the slot: what the entry and the record name.
abbrev pub file_of : ends.Place → Option GuestPlace
file_of (File p) = Some p
file_of Slot = None

abbrev pub names_on : TransitSide → Passage → Option GuestPlace
names_on side p = file_of (on side p)

-- Not both places are the slot.
abbrev pub NotBothSlots : ends.Place → ends.Place → Type 0
NotBothSlots Slot Slot = ⊥
NotBothSlots old new = ⊤

-- They are two: no file is both, and not both are the slot.
abbrev pub AreTwo : ends.Place → ends.Place → Type 0
AreTwo (File p) (File q) = is_place p q ≡ false
AreTwo Slot Slot = ⊥
AreTwo old new = ⊤

-- A place is there, where it is a file.
abbrev pub IsFileThere : World → ends.Place → Type 0
IsFileThere w (File p) = IsThere w.imsic (spot_of p)
IsFileThere w Slot = ⊤

-- Who is moved is on a fabric, and so are both places.
pub record IsOf (w : World) (p : Passage) : Type 0 where
  pub who : IsWho w p.who
  pub old : IsFileThere w p.old
  pub new : IsFileThere w p.new
