-- What the hypervisor's core keeps. Vocabulary.
use Rattle.std.specs.Prelude.{◌≡◌, ℕ, Bool, true, false, List, Option, Some, None, Result, Ok, Err, slice_index_or, slice_set}
use Rattle.aia_vcpu.specs.declared.place.GuestPlace.{GuestPlace}
use Rattle.aia_vcpu.specs.Vms.{Vcpu, slot_of}
use Rattle.aia_vcpu.specs.Home.{Home}
use Rattle.aia_vcpu.specs.declared.rest.Rest.TheVariants.{Parked, Entered}
use Rattle.aia_vcpu.specs.Home.Home.{InMemory, Resident}
use Rattle.aia_major.specs.VsMajor.{VsMajorState}
use Rattle.aia_major.specs.Kept.{majors_shown, kept_at_first}
use Rattle.aia_vcpu_places.specs.Holds.{Hand}
use Rattle.aia_pool.specs.Leases.{Leases}
use Rattle.aia_model.specs.Passes.{PassedSource}
use Rattle.aia_model.specs.declared.refusal.Refusal.{Refusal}
use Rattle.aia_model.specs.declared.refusal.Refusal.TheVariants as refusals
use Rattle.aia_fabric_values.specs.World.{World}
use Rattle.aia_move_values.specs.declared.who.KeptNumbers.{KeptNumbers}
use Rattle.aia_move_values.specs.PlanState.{PlanState, moving_of}
use Rattle.aia_hyp_values.specs.declared.vcpu.Stay.{Stay as StayBy}
use Rattle.aia_hyp_values.specs.declared.vcpu.Stay.TheVariants as stays
use Rattle.aia_hyp_values.specs.declared.vcpu.VcpuRecord.{VcpuRecord as RecordBy}

-- Where a virtual hart is, and its record: of one that is being moved, its plan and the phase.
abbrev pub Stay : Type 0
Stay = StayBy PlanState

abbrev pub VcpuRecord : Type 0
VcpuRecord = RecordBy PlanState

-- All that stores reach, which guest files are handed out, a record of each virtual hart by its
-- number over all VMs, the select numbers of the host, and the passes of wired sources in order.
pub record CoreState : Type 0 where
  pub world : World
  pub leases : Leases
  pub vcpus : List VcpuRecord
  pub selects : List ℕ
  pub passes : List PassedSource

-- ---- a virtual hart

-- What is kept of a virtual hart that was never moved, and its record.
abbrev pub no_kept : KeptNumbers
no_kept = record { delivery = 0; threshold = 0 }

abbrev pub no_record : {P : Type 0} → RecordBy P
no_record = record { stay = stays.InMemory Parked no_kept; select = 0; majors = kept_at_first }

-- The record of a virtual hart.
abbrev pub record_of : CoreState → Vcpu → VcpuRecord
record_of x g = slice_index_or x.vcpus (slot_of x.world.vms g) no_record

-- Something was done about the majors of the record at a place, and nothing else to the records.
pub record MajorsDone (old new : List VcpuRecord) (slot : ℕ) (done : VsMajorState → VsMajorState)
    : Type 0 where
  pub rest : new ≡ slice_set old slot (record (slice_index_or old slot no_record) {
    majors = (slice_index_or new slot no_record).majors;
  })
  pub majors : majors_shown (slice_index_or new slot no_record).majors
      ≡ done (majors_shown (slice_index_or old slot no_record).majors)

-- The home of a virtual hart, as it is kept.
abbrev pub home_in : Stay → Home
home_in (stays.InMemory rest kept) = InMemory rest
home_in (stays.Resident lease) = Resident lease
home_in (stays.Moving plan) = (moving_of plan).home

-- The guest file of one that is resident.
abbrev pub resident_at : {P : Type 0} → StayBy P → Option GuestPlace
resident_at (stays.Resident lease) = Some lease
resident_at stay = None

-- The numbers that are kept of one that runs from memory.
abbrev pub entered_at : {P : Type 0} → StayBy P → Option KeptNumbers
entered_at (stays.InMemory Entered kept) = Some kept
entered_at stay = None

-- The numbers that are kept of one that is parked, or the word that refuses another.
abbrev pub parked_at : {P : Type 0} → StayBy P → Result KeptNumbers Refusal
parked_at (stays.InMemory Parked kept) = Ok kept
parked_at (stays.InMemory Entered kept) = Err refusals.Entered
parked_at (stays.Resident lease) = Err refusals.Home
parked_at (stays.Moving plan) = Err refusals.Busy

-- Whether a virtual hart runs, as it is kept.
abbrev pub runs_in : {P : Type 0} → StayBy P → Bool
runs_in (stays.Resident lease) = true
runs_in (stays.InMemory Entered kept) = true
runs_in stay = false

-- Whether a virtual hart is being moved, as it is kept.
abbrev pub has_plan : {P : Type 0} → StayBy P → Bool
has_plan (stays.Moving plan) = true
has_plan stay = false

-- The two numbers that are kept of a virtual hart whose interrupts rest in memory, as a move would
-- carry them.
abbrev pub hand_of : KeptNumbers → Hand
hand_of kept =
    record { word = 0; delivery = kept.delivery; threshold = kept.threshold; seen = false }

-- What is carried or kept of the interrupt file of a virtual hart: of one whose interrupts rest in
-- memory the two numbers, of a resident one nothing, on a move what the move carries.
abbrev pub hand_in : Stay → Hand
hand_in (stays.InMemory rest kept) = hand_of kept
hand_in (stays.Resident lease) = record { word = 0; delivery = 0; threshold = 0; seen = false }
hand_in (stays.Moving plan) = (moving_of plan).hand
