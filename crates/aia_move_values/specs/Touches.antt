-- What a step of a move leaves as it is, once what lands before it has landed: all but the places
-- of the virtual hart that is moved, and the file to which its notice goes.
use Rattle.std.specs.Prelude.{◌≡◌, ◌≢◌, ℕ, ◌+◌, ◌<◌, ◌⊎◌, Bool, true, false, length, slice_index, slice_index_or}
use Rattle.aia_regs.specs.declared.limits.TheConstants.{VCPUS}
use Rattle.aia_file.specs.declared.spot.Spot.TheVariants.{MachineFile, SupervisorFile}
use Rattle.aia_file.specs.Imsic.{IsThere, file_at}
use Rattle.aia_file.specs.Mrif.{mrif_in}
use Rattle.aia_entry.specs.Tables.{table_of, entry_in_force}
use Rattle.aia_vcpu.specs.declared.place.GuestPlace.{GuestPlace}
use Rattle.aia_vcpu.specs.Vms.{Vcpu, is_vcpu_in, slot_of}
use Rattle.aia_vcpu.specs.Home.{holds}
use Rattle.aia_vcpu.specs.declared.access.Access.{Access}
use Rattle.aia_vcpu.specs.declared.access.Access.TheVariants.{Post}
use Rattle.aia_vcpu_places.specs.Holds.{Hand}
use Rattle.aia_fabric_values.specs.World.{World, no_stage}
use Rattle.aia_fabric_values.specs.Making.{entry_word_place}
use Rattle.aia_fabric_values.specs.Stores.{Posts}
use Rattle.aia_fabric_values.specs.Changes.{spot_of}
use Rattle.aia_move_values.specs.Move.{Moving, mover}

-- Two worlds are those of one machine: its greatest identity, its harts with their guest files, and
-- its VMs are the same.
pub record SameMachine (w u : World) : Type 0 where
  pub n : u.n ≡ w.n
  pub vms : u.vms ≡ w.vms
  pub harts : u.imsic.harts ≡ w.imsic.harts
  pub guests : u.imsic.guests ≡ w.imsic.guests

-- Nothing changes but what accesses of moves change: what the files hold, memory, the tables, the
-- G-stage records, and the count of notices.
abbrev pub OnlyAccesses : World → World → Type 0
OnlyAccesses w u = u ≡ record w {
  imsic = record w.imsic { files = u.imsic.files };
  memory = u.memory;
  tables = u.tables;
  stages = u.stages;
  notices = u.notices;
}

-- Whether an access sends the notice.
abbrev pub sends : Access → Hand → Bool
sends Post hand = hand.seen
sends access hand = false

-- A step of a move, which sends the notice or not, touches only its own.
pub record Touches (sent : Bool) (w u : World) (m : Moving) : Type 0 where
  -- the machine and its VMs stay
  pub rest : OnlyAccesses w u
  pub tables : length u.tables ≡ length w.tables
  pub masks : (v : ℕ) → (table_of u.tables v).mask ≡ (table_of w.tables v).mask
  pub starts : (v : ℕ) → (table_of u.tables v).start ≡ (table_of w.tables v).start
  -- files: those that the move holds, and that of the notice hart, are all that it touches
  pub guest_files : (p : GuestPlace) → IsThere w.imsic (spot_of p) → holds p m.home ≡ false
      → file_at u.imsic (spot_of p) ≡ file_at w.imsic (spot_of p)
  pub machine_files : (hart : ℕ) → hart < w.imsic.harts
      → file_at u.imsic (MachineFile hart) ≡ file_at w.imsic (MachineFile hart)
  pub host_files : (hart : ℕ) → hart < w.imsic.harts
      → (sent ≡ false) ⊎ (hart ≢ m.who.found.notice)
      → file_at u.imsic (SupervisorFile hart) ≡ file_at w.imsic (SupervisorFile hart)
  -- the notice
  pub noticed : sent ≡ true → Posts w u (SupervisorFile m.who.found.notice) (m.who.found.slot + 1)
  pub count : sent ≡ false → u.notices ≡ w.notices
  -- slots, entries and records of other virtual harts
  pub slots : (r : ℕ) → r < VCPUS → r ≢ m.who.found.slot → mrif_in u.memory r ≡ mrif_in w.memory r
  pub entry_words : (g : Vcpu) → is_vcpu_in w.vms g ≡ true → g ≢ mover m
      → (slice_index u.memory (entry_word_place g.vm g.vcpu)
      ≡ slice_index w.memory (entry_word_place g.vm g.vcpu))
      × (slice_index u.memory (entry_word_place g.vm g.vcpu + 1)
      ≡ slice_index w.memory (entry_word_place g.vm g.vcpu + 1))
  pub in_force : (g : Vcpu) → g ≢ mover m → entry_in_force (table_of u.tables g.vm) g.vcpu
      ≡ entry_in_force (table_of w.tables g.vm) g.vcpu
  pub stages : (q : ℕ) → q ≢ slot_of w.vms (mover m)
      → slice_index_or u.stages q no_stage ≡ slice_index_or w.stages q no_stage
