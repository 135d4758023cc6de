-- A move between two of its steps, and what its next step makes of the world.
use Rattle.std.specs.Prelude.{◌≡◌, ℕ, ◌+◌, ◌/◌, ◌<◌, Bool, true, false, ◌||◌, bit_or, Option, Some, None}
use Rattle.aia_word.specs.Sets.{has_bit}
use Rattle.aia_regs.specs.declared.file_registers.FileReg.TheVariants.{Delivery, Threshold}
use Rattle.aia_file.specs.declared.spot.Spot.{Spot}
use Rattle.aia_file.specs.declared.spot.Spot.TheVariants.{SupervisorFile, Nowhere}
use Rattle.aia_file.specs.Imsic.{IsThere, file_at}
use Rattle.aia_vcpu.specs.declared.place.GuestPlace.{GuestPlace}
use Rattle.aia_vcpu.specs.Vms.{Vcpu, vcpu_of, is_vcpu_in, slot_of, notice_hart}
use Rattle.aia_vcpu.specs.Home.{Home, left, led_to, one_more}
use Rattle.aia_vcpu.specs.Plans.{is_at_last, IsNext, next_access, is_last_made}
use Rattle.aia_vcpu.specs.declared.access.Access.{Access}
use Rattle.aia_vcpu.specs.Home.Home.{OnWay}
use Rattle.aia_vcpu.specs.BySteps.{own_file, next_file, old_file, new_file}
use Rattle.aia_vcpu.specs.declared.access.Access.TheVariants.{TakeDelivery, PutDelivery, WriteNotice, WriteEntry, Fence, Map, GFence, TakePending, PutPending, TakeEnables, PutEnables, Look, TakeThreshold, PutThreshold, Post}
use Rattle.aia_vcpu_places.specs.Places.{entry_word, second_word}
use Rattle.aia_vcpu_places.specs.Holds.{Hand, meets}
use Rattle.aia_fabric_values.specs.declared.at.At.{At}
use Rattle.aia_fabric_values.specs.declared.at.At.TheVariants.{File, Slot}
use Rattle.aia_fabric_values.specs.World.{World}
use Rattle.aia_fabric_values.specs.Found.{IsFound}
use Rattle.aia_fabric_values.specs.Stores.{Posts}
use Rattle.aia_fabric_values.specs.Changes.{PutsRegister, spot_of, pending_words, enable_words, pending_at, with_pending, enable_at, with_enable, with_entry_word, with_fence, with_map, with_gfence}
use Rattle.aia_move_values.specs.declared.who.Who.{Who}

-- Who is moved, its home (which move it is, and how far it has come), and what the move carries.
pub record Moving : Type 0 where
  pub who : Who
  pub home : Home
  pub hand : Hand

-- The virtual hart that is moved.
abbrev pub mover : Moving → Vcpu
mover m = vcpu_of m.who.found.vm m.who.found.vcpu

-- How many words each set of a file has.
abbrev pub width : World → ℕ
width w = (w.n + 1) / 64

-- ---- its places

-- Where a guest file is among all files, where there is one.
abbrev pub spot_in : Option GuestPlace → Spot
spot_in None = Nowhere
spot_in (Some p) = spot_of p

-- The old place and the new place of a move, of the virtual hart of a slot: a guest file, or that
-- slot of memory.
abbrev pub place_at : Option GuestPlace → ℕ → At
place_at None slot = Slot slot
place_at (Some p) slot = File (spot_of p)

abbrev pub old_by : Home → ℕ → At
old_by (OnWay way at) slot = place_at (left way) slot
old_by there slot = File Nowhere

abbrev pub new_by : Home → ℕ → At
new_by (OnWay way at) slot = place_at (led_to way) slot
new_by there slot = File Nowhere

abbrev pub old_at : Moving → At
old_at m = old_by m.home m.who.found.slot

abbrev pub new_at : Moving → At
new_at m = new_by m.home m.who.found.slot

-- The old file, and the new file.
abbrev pub old_spot : Moving → Spot
old_spot m = spot_in (old_file m.home)

abbrev pub new_spot : Moving → Spot
new_spot m = spot_in (new_file m.home)

-- ---- its next step

-- The notice is sent, where one is due.
abbrev pub PostsIf : Bool → World → World → ℕ → ℕ → Type 0
PostsIf true w u hart identity = Posts w u (SupervisorFile hart) identity
PostsIf false w u hart identity = u ≡ w

-- What an access makes of the world: one word of a place, one register, one word of the entry, one
-- record, or a notice; all else stays. A word is put where the place keeps it.
abbrev pub Makes : Access → Moving → World → World → Type 0
Makes TakeDelivery m w u = PutsRegister w u (old_spot m) Delivery 0
Makes PutDelivery m w u = PutsRegister w u (new_spot m) Delivery m.hand.delivery
Makes WriteNotice m w u = u ≡ with_entry_word w m.who.found.vm m.who.found.vcpu 1
    (second_word m.who.found.slot m.who.found.notice)
Makes WriteEntry m w u = u ≡ with_entry_word w m.who.found.vm m.who.found.vcpu 0
    (entry_word m.who.found.slot (new_file m.home))
Makes Fence m w u = u ≡ with_fence w m.who.found.vm m.who.found.vcpu
Makes Map m w u = u ≡ with_map w (mover m) (new_file m.home)
Makes GFence m w u = u ≡ with_gfence w (mover m)
Makes (TakePending k) m w u = u ≡ with_pending w (old_at m) k 0
Makes (PutPending k) m w u = (k < pending_words w (new_at m))
    × (u ≡ with_pending w (new_at m) k (bit_or (pending_at w (new_at m) k) m.hand.word))
Makes (TakeEnables k) m w u = u ≡ with_enable w (old_at m) k 0
Makes (PutEnables k) m w u =
    (k < enable_words w (new_at m)) × (u ≡ with_enable w (new_at m) k m.hand.word)
Makes (Look k) m w u = u ≡ w
Makes TakeThreshold m w u = PutsRegister w u (old_spot m) Threshold 0
Makes PutThreshold m w u = PutsRegister w u (new_spot m) Threshold m.hand.threshold
Makes Post m w u = PostsIf m.hand.seen w u m.who.found.notice (m.who.found.slot + 1)

-- What is carried after it.
abbrev pub hand_after : Access → Moving → World → Hand
hand_after TakeDelivery m w =
    record m.hand { delivery = (file_at w.imsic (old_spot m)).delivery }
hand_after (TakePending k) m w = record m.hand { word = pending_at w (old_at m) k }
hand_after (TakeEnables k) m w = record m.hand { word = enable_at w (old_at m) k }
hand_after (Look k) m w = record m.hand {
  seen = m.hand.seen
      || meets (pending_at w (Slot m.who.found.slot) k) (enable_at w (Slot m.who.found.slot) k);
}
hand_after TakeThreshold m w =
    record m.hand { threshold = (file_at w.imsic (old_spot m)).threshold }
hand_after access m w = m.hand

-- ---- what a step needs, and what it does

-- The virtual hart that is moved is there, with its slot and its notice hart.
abbrev pub IsWho : World → Who → Type 0
IsWho w who = IsFound w who.found

-- The next step of a move can be made: the virtual hart is there, with its slot and notice hart, so
-- are the files of its home, and no word 0 that is carried has identity 0.
pub record MoveFits (w : World) (m : Moving) : Type 0 where
  pub there : is_vcpu_in w.vms (mover m) ≡ true
  pub slot : m.who.found.slot ≡ slot_of w.vms (mover m)
  pub notice : m.who.found.notice ≡ notice_hart w.vms (mover m)
  pub own : (p : GuestPlace) → own_file m.home ≡ Some p → IsThere w.imsic (spot_of p)
  pub next : (p : GuestPlace) → next_file m.home ≡ Some p → IsThere w.imsic (spot_of p)
  pub no_pending_zero : is_last_made (width w) m.home (TakePending 0) ≡ true
      → has_bit m.hand.word 0 ≡ false
  pub no_enabled_zero : is_last_made (width w) m.home (TakeEnables 0) ≡ true
      → has_bit m.hand.word 0 ≡ false

-- The next step is that of the plan's table: it makes its access, and carries what that one takes.
pub record MakesNext (w : World) (m : Moving) (u : World) (hand : Hand) : Type 0 where
  pub access : Access
  pub is_next : IsNext (width w) m.home access
  pub in_table : next_access (width w) m.home ≡ Some access
  pub makes : Makes access m w u
  pub carries : hand ≡ hand_after access m w

-- A step is done, and it is not the last one.
pub record Goes (w : World) (m : Moving) (u : World) (t : Moving) : Type 0 where
  pub step : MakesNext w m u t.hand
  pub more : is_at_last (width w) m.home ≡ false
  pub home : t.home ≡ one_more m.home
  pub same_who : t.who ≡ m.who

-- The last step is done; so much is carried then.
pub record Ends (w : World) (m : Moving) (u : World) (hand : Hand) : Type 0 where
  pub step : MakesNext w m u hand
  pub last : is_at_last (width w) m.home ≡ true
