-- Of a virtual hart that is not there no record names a file, whatever happens.
use Rattle.std.proofs.Common.{◌≡◌, ℕ, zero, suc, ◌+◌, ◌%◌, Bool, true, false, replicate, None, refl, ap, ◌∙◌, subst, arith}
use Rattle.std.specs.Prelude.{length, slice_index_or}
use Rattle.aia_regs.specs.declared.limits.TheConstants.{VCPUS}
use Rattle.aia_regs.specs.declared.address_map.TheConstants.{PAGE}
use Rattle.aia_file.specs.Imsic.{with_file, file_at}
use Rattle.aia_entry.specs.declared.table.Route.{Route}
use Rattle.aia_entry.specs.declared.table.Route.TheVariants.{Other, Fault, To}
use Rattle.aia_entry.specs.Tables.{table_of, route_of}
use Rattle.aia_vcpu.specs.Vms.{vcpus_in}
use Rattle.aia_vcpu.specs.Routes.{is_at_fence}
use Rattle.aia_vcpu.proofs.VmLemmas.{slot_below, vcpus_more}
use Rattle.aia_vcpu_places.specs.Holds.{Hand}
use Rattle.aia_fabric_values.specs.World.{World, OnlyStores, flight_of, stage_of, no_stage}
use Rattle.aia_fabric_values.specs.Whole.{IsWhole}
use Rattle.aia_fabric_values.specs.Making.{IsNew}
use Rattle.aia_fabric_values.specs.Flights.{Sends, Lands, LandsOldest, Fences}
use Rattle.aia_fabric_values.proofs.FrameLemmas.{by_parts, entry_rest, reaches_rest, record_rest, stores_rest}
use Rattle.aia_fabric_values.specs.Changes.{spot_of}
use Rattle.aia_move_values.specs.Move.{Moving, mover, MoveFits, MakesNext}
use Rattle.aia_move_values.specs.PlanState.{moving_of}
use Rattle.aia_move_values.specs.Touches.{sends}
use Rattle.aia_move_values.specs.Landings.{LandsFirst}
use Rattle.aia_move_values.specs.WorldChanges.{OthersNameNothing, WorldChange}
use Rattle.aia_move_values.specs.WorldChanges.WorldChange.{DeviceStores, PeerStores, StoreIsSent, StoreLands, StoreIsTaken, MsiLands, MsiIsRelayed, EntryIsRead, EntryIsFenced, SlotIsReached, FileIsReached, MoveSteps, VmIsMade}
use Rattle.aia_move_values.proofs.TouchLemmas.{step_touches}
use Rattle.aia_move_values.proofs.MachineLemmas.{machine_touched}
use Rattle.aia_move_values.proofs.WayMoves.{fence_step}

-- the records and the VMs are as they were
pub record SameRecords (w u : World) : Type 0 where
  pub stages : u.stages ≡ w.stages
  pub vms : u.vms ≡ w.vms

same_on : (w u : World) → SameRecords w u → OthersNameNothing w → OthersNameNothing u
same_on w u same none q past = ap (λ stages. slice_index_or stages q no_stage) same.stages
    ∙ none q (let few = ap vcpus_in same.vms in omega (arith, past, few))

stored : (w u : World) → OnlyStores w u → SameRecords w u
stored w u rest = record { stages = ap (λ (x : World). x.stages) rest; vms = ap (λ (x : World). x.vms) rest }

sent : (w u : World) (r : Route) (vm offset value : ℕ) → Sends r w u vm offset value → SameRecords w u
sent w u (To entry) vm offset value sends = record { stages = ap (λ (x : World). x.stages) sends; vms = ap (λ (x : World). x.vms) sends }
sent w u Other vm offset value same = record { stages = ap (λ (x : World). x.stages) same; vms = ap (λ (x : World). x.vms) same }
sent w u (Fault entry) vm offset value same = record { stages = ap (λ (x : World). x.stages) same; vms = ap (λ (x : World). x.vms) same }

landed : (w u : World) (vm k : ℕ) → Lands w u vm k → SameRecords w u
landed w u vm k l =
    let rest = entry_rest l.store.entry w l.stored l.store.offset l.store.value l.reaches in
    record {
      stages = ap (λ (x : World). x.stages) l.taken ∙ ap (λ (x : World). x.stages) rest;
      vms = ap (λ (x : World). x.vms) l.taken ∙ ap (λ (x : World). x.vms) rest;
    }

all_landed : (count : ℕ) (w u : World) (vm : ℕ) → LandsOldest count w u vm → SameRecords w u
all_landed zero w u vm same = record { stages = ap (λ (x : World). x.stages) same; vms = ap (λ (x : World). x.vms) same }
all_landed (suc count) w u vm (mid, before, whole, l) =
    let first = all_landed count w mid vm before in
    let last = landed mid u vm 0 l in
    record { stages = last.stages ∙ first.stages; vms = last.vms ∙ first.vms }

fenced : (w u : World) (vm file : ℕ) → Fences w u vm file → SameRecords w u
fenced w u vm file f =
    let first = all_landed (length (flight_of w vm)) w f.landed vm f.lands in
    record {
      stages = ap (λ (x : World). x.stages) f.fenced ∙ first.stages;
      vms = ap (λ (x : World). x.vms) f.fenced ∙ first.vms;
    }

-- a move writes the record of its own virtual hart
stepped : (w landed u : World) (o : Moving) (hand : Hand) → IsWhole w → MoveFits w o → LandsFirst w o landed → MakesNext landed o u hand
    → OthersNameNothing w → OthersNameNothing u
stepped w landed u o hand whole fits first step none = by_fence (is_at_fence o.home) refl
  where
    written : MakesNext w o u hand → OthersNameNothing u
    written step q past =
        let t = step_touches w u o hand whole fits step in
        let same = machine_touched (sends step.access o.hand) w u o t in
        let few = ap vcpus_in same.vms in
        let low = slot_below w.vms (mover o) fits.there in
        t.stages q (λ e. omega (arith, e, low, few, past)) ∙ none q (omega (arith, past, few))

    by_fence : (b : Bool) → is_at_fence o.home ≡ b → OthersNameNothing u
    by_fence true at = same_on w u (fenced w u o.who.found.vm o.who.found.vcpu (fence_step w landed u o hand first step at)) none
    by_fence false at = written (subst (λ (x : World). MakesNext x o u hand) (first.other at) step)

pub records_on : (w u : World) → IsWhole w → OthersNameNothing w → WorldChange w u → OthersNameNothing u
records_on w u whole none (DeviceStores v addr value s) =
    same_on w u (stored w u (reaches_rest (route_of (table_of w.tables v) addr) w u (addr % PAGE) value s)) none
records_on w u whole none (PeerStores g value there s) = same_on w u (stored w u (record_rest (stage_of w g).in_force w u g value s)) none
records_on w u whole none (StoreIsSent v addr value s) = same_on w u (sent w u (route_of (table_of w.tables v) addr) v (addr % PAGE) value s) none
records_on w u whole none (StoreLands v k l) = same_on w u (landed w u v k l) none
records_on w u whole none (StoreIsTaken v k e) =
    same_on w u (record { stages = ap (λ (x : World). x.stages) e; vms = ap (λ (x : World). x.vms) e }) none
records_on w u whole none (MsiLands p offset value there s) = same_on w u (stored w u (stores_rest w u (spot_of p) offset value s)) none
records_on w u whole none (MsiIsRelayed g value there s) = same_on w u (stored w u (record_rest None w u g value s)) none
records_on w u whole none (EntryIsRead g there e) =
    same_on w u (record { stages = ap (λ (x : World). x.stages) e; vms = ap (λ (x : World). x.vms) e }) none
records_on w u whole none (EntryIsFenced g there f) = same_on w u (fenced w u g.vm g.vcpu f) none
records_on w u whole none (SlotIsReached q threshold deed low done) =
    same_on w u (stored w u (by_parts w u w.imsic.files u.memory w.notices done.rest)) none
records_on w u whole none (FileIsReached spot there changed) =
    same_on w u (stored w u (by_parts w u (with_file w.imsic spot (file_at u.imsic spot)).files w.memory u.notices changed)) none
records_on w u whole none (MoveSteps other led theirs seen landed hand two fine knows first step) =
    stepped w landed u (moving_of other) hand whole knows.fits first step none
records_on w u whole none (VmIsMade vm after made unnamed) = λ q past.
    let few : vcpus_in u.vms ≡ vcpus_in w.vms + vm.vcpus = ap vcpus_in made.vms ∙ vcpus_more w.vms vm in
    ap (λ (x : World). slice_index_or x.stages q no_stage) made.rest ∙ none q (omega (arith, past, few))

-- as the machine is made
pub new_records : (w : World) (harts guests n : ℕ) → IsNew w harts guests n → OthersNameNothing w
new_records w harts guests n new q past = ap (λ (x : World). slice_index_or x.stages q no_stage) new.world ∙ all_none VCPUS q
  where
    all_none : (count q : ℕ) → slice_index_or (replicate count no_stage) q no_stage ≡ no_stage
    all_none zero q = refl
    all_none (suc count) zero = refl
    all_none (suc count) (suc q) = all_none count q
