-- When the hypervisor's core stands for a history, and what each of its calls promises. Vocabulary.
use Rattle.std.specs.Prelude.{◌≡◌, ℕ, ◌-◌, ◌*◌, ◌%◌, ◌^◌, ◌<◌, ◌≤◌, min, Bool, true, false, not, ◌&&◌, ◌||◌, nat_eq, nat_lt, if◌then◌else◌, [], ◌∷◌, length, map, slice_index_or, Option, Some, None, Result, Ok, Err}
use Rattle.std.specs.List.{list_any}
use Rattle.aia_regs.specs.declared.limits.TheConstants.{VCPUS}
use Rattle.aia_regs.specs.declared.address_map.TheConstants.{PAGE}
use Rattle.aia_regs.specs.AddressMap.{is_in_memory}
use Rattle.aia_file.specs.InterruptFile.{empty_file, signals}
use Rattle.aia_file.specs.FileState.{shown}
use Rattle.aia_file.specs.declared.spot.Spot.{Spot}
use Rattle.aia_file.specs.Imsic.{IsThere, file_at}
use Rattle.aia_file.specs.Map.{is_page}
use Rattle.aia_file.specs.Mrif.{mrif_in}
use Rattle.aia_major.specs.VsMajor.{new_majors}
use Rattle.aia_major.specs.Kept.{majors_shown}
use Rattle.aia_entry.specs.declared.entry.Entry.TheVariants.{NotValid}
use Rattle.aia_entry.specs.declared.table.Route.{Route}
use Rattle.aia_entry.specs.declared.table.Route.TheVariants.{Other, Fault, To}
use Rattle.aia_entry.specs.Tables.{table_of, entry_in_force}
use Rattle.aia_vcpu.specs.declared.place.GuestPlace.{GuestPlace}
use Rattle.aia_vcpu.specs.Vms.{Vcpu, vcpus_in, slot_of, notice_hart, all_vcpus}
use Rattle.aia_vcpu.specs.Home.{holds, is_moving}
use Rattle.aia_vcpu.specs.declared.rest.Rest.TheVariants.{Parked}
use Rattle.aia_vcpu.specs.Home.Home.{InMemory}
use Rattle.aia_vcpu_places.specs.Places.{leads_to}
use Rattle.aia_vcpu_places.specs.Holds.{Holds}
use Rattle.aia_vcpu_places.specs.Stores.{AreApart}
use Rattle.aia_pool.specs.Leases.{is_out}
use Rattle.aia_fabric_values.specs.declared.flying.Flying.{Flying}
use Rattle.aia_fabric_values.specs.World.{World, flight_of, no_stage}
use Rattle.aia_fabric_values.specs.Changes.{spot_of}
use Rattle.aia_move_values.specs.Views.{places_of}
use Rattle.aia_model.specs.declared.answer.Answer.{Answer}
use Rattle.aia_model.specs.declared.answer.Answer.TheVariants.{Okay, Refused}
use Rattle.aia_model.specs.declared.refusal.Refusal.{Refusal}
use Rattle.aia_model.specs.declared.refusal.Refusal.TheVariants.{Range, Guarded}
use Rattle.aia_model.specs.declared.refusal.Refusal.TheVariants as refusals
use Rattle.aia_model.specs.declared.line.Line.{Line}
use Rattle.aia_model.specs.declared.line.Line.TheVariants.{Machine, Pass}
use Rattle.aia_model.specs.declared.msi.Msi.{Msi}
use Rattle.aia_model.specs.Event.{Event, History, has_machine, harts_of, guests_of, greatest_identity_of, file_words}
use Rattle.aia_model.specs.Event.Event.{Accepted, Delivered}
use Rattle.aia_model.specs.Histories.{IsHistory, MayHappen}
use Rattle.aia_model.specs.Vms.{vms_of, has_vm, has_vcpu}
use Rattle.aia_model.specs.GuestFile.{sent_to, guest_select, guest_file}
use Rattle.aia_model.specs.Flight.{Sending, flight}
use Rattle.aia_model.specs.MajorOf.{majors_of}
use Rattle.aia_model.specs.ReachOf.{in_force_of, sent_into, AllMayFly, AllAreForOne}
use Rattle.aia_model.specs.HomeOf.{home}
use Rattle.aia_model.specs.Notice.{a_look_saw, notices_sent}
use Rattle.aia_model.specs.FileOf.{FileName, MachineFile, SupervisorFile, file_of, select_of}
use Rattle.aia_model.specs.Refusal.{refusal, guards}
use Rattle.aia_model.specs.Answer.{answer, line_taken, msi_taken}
use Rattle.aia_move_values.specs.Move.{mover, width, MoveFits}
use Rattle.aia_move_values.specs.PlanState.{moving_of}
use Rattle.aia_move_values.specs.Plan.{IsInPhase}
use Rattle.aia_hyp_values.specs.Core.{Stay}
use Rattle.aia_hyp_values.specs.declared.vcpu.Stay.TheVariants as stays
use Rattle.aia_hyp_values.specs.Core.{CoreState, record_of, home_in, hand_in}
use Rattle.aia_hyp_values.specs.HostFiles.{host_spot, file_in, select_in}
use Rattle.aia_hyp_values.specs.Passes.{HasItsPasses, PassesKept, TellsOf}
use Rattle.aia_move_values.specs.Targets.{TargetMap}
use Rattle.aia_model.specs.Passes.{passes_of}

-- ---- what is kept

-- A file of the host and its select number are as the history gives them.
pub record HostStands (x : CoreState) (h : History) (f : FileName) : Type 0 where
  pub file : shown (file_in x f) ≡ file_of h f
  pub select : select_in x f ≡ select_of h f

-- The plan of a move is the virtual hart's own, is at one of its steps, and can make the next one.
abbrev pub PlanStands : World → Vcpu → Stay → Type 0
PlanStands w g (stays.Moving plan) = MoveFits w (moving_of plan) × IsInPhase (width w) plan
    × (mover (moving_of plan) ≡ g) × (is_moving (moving_of plan).home ≡ true)
PlanStands w g stay = Unit {0}

-- A virtual hart is where the history has it, with its select number and its majors, the files of a
-- shift are two, the plan of its move has the passes to it, and its places hold its interrupt file.
pub record VcpuStands (x : CoreState) (h : History) (g : Vcpu) : Type 0 where
  pub same_home : home_in (record_of x g).stay ≡ home h g
  pub select : (record_of x g).select ≡ guest_select h g
  pub majors : majors_shown (record_of x g).majors ≡ majors_of h g
  pub two_files : AreApart (home h g)
  pub plan : PlanStands x.world g (record_of x g).stay
  pub passes : HasItsPasses (passes_of h) g (record_of x g).stay
  pub holds : Holds (file_words h) (slot_of (vms_of h) g) (notice_hart (vms_of h) g)
      (in_force_of h g)
      (places_of x.world g (home h g)) (home h g) (hand_in (record_of x g).stay)
      (guest_file h g) (a_look_saw h g)

-- A store in flight as the core keeps it: with the entry that was in force as it was sent.
abbrev pub flying_of : ℕ → Sending → Flying
flying_of vm s = record {
  entry = leads_to (slot_of (vms_of s.before) (sent_to vm s))
      (notice_hart (vms_of s.before) (sent_to vm s)) (sent_into vm s);
  offset = s.addr % PAGE;
  value = s.value;
}

-- Whether a virtual hart holds a guest file.
abbrev pub is_held : History → GuestPlace → Bool
is_held h p = list_any (λ g. holds p (home h g)) (all_vcpus (vms_of h))

-- No two virtual harts hold one guest file.
abbrev pub HoldApart : History → Type 0
HoldApart h = (a b : Vcpu) (p : GuestPlace) → has_vcpu h a ≡ true → has_vcpu h b ≡ true
    → holds p (home h a) ≡ true → holds p (home h b) ≡ true → a ≡ b

-- The core is that of the history's machine: it has its numbers, its VMs, and has sent its notices.
-- Each file of the host that is there stands for the history, and each virtual hart that is there.
-- The stores in flight of each VM are the history's; each is for a virtual hart that is there, and
-- leads where it may. The passes are the history's. The guest files that are out are those that a
-- virtual hart holds. What nobody has is empty: guest files, entries, slots and G-stage records
-- past the last virtual hart's; and to the history a virtual hart that isn't there is as a new one.
pub record CoreStands (x : CoreState) (h : History) : Type 0 where
  pub there : has_machine h ≡ true
  pub harts : x.world.imsic.harts ≡ harts_of h
  pub guests : x.world.imsic.guests ≡ guests_of h
  pub greatest : x.world.n ≡ greatest_identity_of h
  pub vms : x.world.vms ≡ vms_of h
  pub notices : x.world.notices ≡ min (notices_sent h) (2 ^ 64 - 1)
  pub host : (f : FileName) → IsThere x.world.imsic (host_spot f) → HostStands x h f
  pub records : length x.vcpus ≡ vcpus_in (vms_of h)
  pub vcpus : (g : Vcpu) → has_vcpu h g ≡ true → VcpuStands x h g
  pub lease_harts : x.leases.harts ≡ harts_of h
  pub lease_guests : x.leases.guests ≡ guests_of h
  pub lease_count : length x.leases.out ≡ harts_of h * guests_of h
  pub leases : (p : GuestPlace) → IsThere x.world.imsic (spot_of p)
      → is_out x.leases p ≡ is_held h p
  pub held : (g : Vcpu) (p : GuestPlace) → has_vcpu h g ≡ true → holds p (home h g) ≡ true
      → IsThere x.world.imsic (spot_of p)
  pub apart : HoldApart h
  pub flights : (v : ℕ) → flight_of x.world v ≡ map (flying_of v) (flight h v)
  pub may_fly : AllMayFly h
  pub for_one : AllAreForOne h
  pub passes : PassesKept x h
  pub free : (p : GuestPlace) → IsThere x.world.imsic (spot_of p) → is_held h p ≡ false
      → shown (file_at x.world.imsic (spot_of p)) ≡ empty_file (greatest_identity_of h)
  pub no_vcpu : (g : Vcpu) → has_vcpu h g ≡ false
      → (guest_file h g ≡ empty_file (greatest_identity_of h)) × (guest_select h g ≡ 0)
      × (home h g ≡ InMemory Parked) × (majors_of h g ≡ new_majors)
  pub no_entry : (g : Vcpu) → has_vm h g.vm ≡ true → has_vcpu h g ≡ false
      → entry_in_force (table_of x.world.tables g.vm) g.vcpu ≡ NotValid
  pub no_slot : (q : ℕ) → vcpus_in (vms_of h) ≤ q → q < VCPUS
      → ((i : ℕ) → (mrif_in x.world.memory q).pending i ≡ false)
      × ((i : ℕ) → (mrif_in x.world.memory q).enabled i ≡ false)
      × (slice_index_or x.world.stages q no_stage ≡ no_stage)

-- The core stands for some history, whose events may happen: what is true of a core at all times.
-- Each guest file that is free is empty, and none that is out is lost.
pub record StandsForSome (x : CoreState) : Type 0 where
  pub past : History
  pub happens : IsHistory past
  pub stands : CoreStands x past

-- ---- what calls promise

-- What a call's result is as an answer, given how what it gives is shown.
abbrev pub answer_by : {A : Type 0} → (A → Answer) → Result A Refusal → Answer
answer_by show (Ok x) = show x
answer_by show (Err word) = Refused word

-- What has happened when a line is served, and its MSIs are still to be delivered.
abbrev pub line_served : Option Answer → History → Line → History
line_served None h line = line_taken h line
line_served (Some word) h line = h

-- A line is answered as the model does, and the core then stands for the history with what the line
-- itself is; where it is refused, the core is unchanged.
pub record CoreTakes (old new : CoreState) (line : Line) (given : Answer) : Type 0 where
  pub answers : (h : History) → CoreStands old h → given ≡ answer h line
  pub stands : (h : History) → CoreStands old h
      → CoreStands new (line_served (refusal h line) h line)
  pub unchanged : (h : History) (word : Answer) → CoreStands old h
      → refusal h line ≡ Some word → new ≡ old

-- A core begins with the machine, whatever the number of wired sources, which are nothing to the
-- core.
abbrev pub CoreBegins : CoreState → ℕ → ℕ → ℕ → Type 0
CoreBegins new harts guests n =
    (sources : ℕ) → CoreStands new (Accepted (Machine harts guests n sources) ∷ [])

-- An event may happen after a history for which the core stands; and has happened, whatever the
-- history.
pub record MayGo (x : CoreState) (event : Event) : Type 0 where
  pub past : History
  pub happens : IsHistory past
  pub stands : CoreStands x past
  pub may : MayHappen past event

abbrev pub CoreGoes : CoreState → CoreState → Event → Type 0
CoreGoes old new event =
    (h : History) → CoreStands old h → MayHappen h event → CoreStands new (event ∷ h)

-- A source may be passed, or refused: the targets tell of it what a history does for which the core
-- stands.
pub record MayPass (x : CoreState) (targets : TargetMap) (source : ℕ) : Type 0 where
  pub past : History
  pub happens : IsHistory past
  pub stands : CoreStands x past
  pub tells : TellsOf targets past source

-- The word that refuses a line that passes a source, or none, wherever the targets tell of it what
-- the history does.
abbrev pub RefusesPass : CoreState → TargetMap → ℕ → ℕ → ℕ → ℕ → Option Answer → Type 0
RefusesPass x targets source vm vcpu identity word =
    (h : History) → CoreStands x h → TellsOf targets h source
    → refusal h (Pass source vm vcpu identity) ≡ word

-- A line that passes a source is answered as the model does, wherever the targets tell of it what
-- the history does; else as `CoreTakes`.
pub record CorePasses (old new : CoreState) (targets : TargetMap) (source : ℕ) (line : Line)
    (given : Answer) : Type 0 where
  pub answers : (h : History) → CoreStands old h → TellsOf targets h source
      → given ≡ answer h line
  pub stands : (h : History) → CoreStands old h → TellsOf targets h source
      → CoreStands new (line_served (refusal h line) h line)
  pub unchanged : (h : History) (word : Answer) → CoreStands old h → TellsOf targets h source
      → refusal h line ≡ Some word → new ≡ old

-- An MSI of the APLIC is delivered, and given on where it is one of a pass that reaches memory.
abbrev pub CoreHears : CoreState → CoreState → Msi → Type 0
CoreHears old new msi = (h : History) → CoreStands old h → MayHappen h (Delivered msi)
    → CoreStands new (msi_taken msi h)

-- The signals of a hart's machine-level file and of its supervisor file, or the word that refuses
-- the hart.
abbrev pub signals_of : History → ℕ → Result (Bool × Bool) Refusal
signals_of h hart =
    if nat_lt hart (harts_of h)
    then Ok (signals (file_of h (MachineFile hart)), signals (file_of h (SupervisorFile hart)))
    else Err Range

-- The word that refuses a load or a store by the core, to which an address of the APLIC is no
-- place.
abbrev pub core_refusal : Spot → ℕ → Option Refusal
core_refusal spot addr =
    if not (nat_eq (addr % 4) 0 && (is_page spot || is_in_memory addr)) then Some refusals.Fault
    else (if guards spot addr then Some Guarded else None)

-- What a store of a device of a VM is answered, by where its address goes: in a core that stands
-- for a history each entry in force is valid, but those past the VM's virtual harts.
abbrev pub route_answer : Route → Answer
route_answer Other = Refused refusals.Other
route_answer (Fault entry) = Refused refusals.NotValid
route_answer (To entry) = Okay
