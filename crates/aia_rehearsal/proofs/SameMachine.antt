-- A step that is rehearsed leaves the machine as it is.
use Rattle.std.proofs.Common.{◌≡◌, ℕ, ◌+◌, length, refl, sym, ◌∙◌, subst}
use Rattle.aia_regs.specs.declared.file_registers.FileReg.{FileReg}
use Rattle.aia_regs.specs.declared.file_registers.FileReg.TheVariants.{Delivery, Threshold}
use Rattle.aia_fabric_values.specs.declared.at.At.{At}
use Rattle.aia_fabric_values.specs.declared.at.At.TheVariants as ats
use Rattle.aia_fabric_values.specs.World.{World, OnlyStores, flight_of}
use Rattle.aia_fabric_values.specs.Changes.{with_pending, with_enable}
use Rattle.aia_fabric_values.proofs.FlightLemmas.{all_landed_rest}
use Rattle.aia_fabric_values.proofs.FrameLemmas.{entry_rest, reaches_rest, record_rest}
use Rattle.std.proofs.Common.{◌%◌}
use Rattle.aia_regs.specs.declared.address_map.TheConstants.{PAGE}
use Rattle.aia_entry.specs.declared.table.Route.{Route}
use Rattle.aia_entry.specs.declared.table.Route.TheVariants.{Other, Fault, To}
use Rattle.aia_entry.specs.Tables.{table_of, route_of}
use Rattle.aia_vcpu.specs.Vms.{vcpu_of}
use Rattle.aia_fabric_values.specs.World.{stage_of}
use Rattle.aia_fabric_values.specs.Flights.{Sends}
use Rattle.aia_rehearsal.specs.Events.{RehearsedEvent, Happens}
use Rattle.aia_rehearsal.specs.Events.RehearsedEvent.{Steps, DeviceStores, PeerStores, DeviceSends, StoreLands, EntryRead}
use Rattle.aia_move_values.specs.Touches.{SameMachine}
use Rattle.aia_plan.specs.declared.step.Step.{Step}
use Rattle.aia_plan.specs.declared.step.Step.TheVariants as steps
use Rattle.aia_plan.specs.Transit.TransitSide.{Old, New}
use Rattle.aia_rehearsal.specs.declared.place.Place as ends
use Rattle.aia_rehearsal.specs.declared.place.Place.TheVariants.{File, Slot}
use Rattle.aia_rehearsal.specs.Rehearsed.{Rehearsed, at, IsOf}
use Rattle.aia_rehearsal.specs.Steps.{Puts, Makes, after}
use Rattle.aia_rehearsal.proofs.Carried.{of_same, same_machine}
use Rattle.aia_move_values.proofs.StepLemmas.{post_kept}
use Rattle.aia_move_values.proofs.WayFrames.{stored_machine}

same_by : (w u x : World) → u ≡ x → SameMachine w x → SameMachine w u
same_by w u x e same = subst (λ (y : World). SameMachine w y) (sym e) same

word_same : (w : World) (place : At) (k v : ℕ) → SameMachine w (with_pending w place k v) × SameMachine w (with_enable w place k v)
word_same w (ats.File spot) k v = (
  record { n = refl; vms = refl; harts = refl; guests = refl },
  record { n = refl; vms = refl; harts = refl; guests = refl },
)
word_same w (ats.Slot q) k v = (
  record { n = refl; vms = refl; harts = refl; guests = refl },
  record { n = refl; vms = refl; harts = refl; guests = refl },
)

put_same : (w u : World) (place : ends.Place) (reg : FileReg) (v : ℕ) → Puts w u place reg v → SameMachine w u
put_same w u (File a) reg v puts = same_by w u _ puts.others (record { n = refl; vms = refl; harts = refl; guests = refl })
put_same w u Slot reg v e = same_by w u w e (same_machine w)

pub step_same : (step : Step) (w u : World) (r : Rehearsed) → Makes step r w u → SameMachine w u
step_same steps.Quiet w u r makes = put_same w u r.passage.old Delivery 0 makes
step_same steps.Fence w u r f =
    let landed = all_landed_rest (length (flight_of w r.passage.who.found.vm)) w f.landed r.passage.who.found.vm f.lands in
    let same : SameMachine w f.landed = same_by w f.landed _ landed (record { n = refl; vms = refl; harts = refl; guests = refl }) in
    same_by w u _ f.fenced (record { n = same.n; vms = same.vms; harts = same.harts; guests = same.guests })
step_same (steps.TakeP k) w u r makes = same_by w u _ makes.1 (word_same w (at Old r.passage) k 0).0
step_same (steps.PutP k) w u r makes = same_by w u _ makes.1 (word_same w (at New r.passage) k _).0
step_same (steps.TakeE k) w u r makes = same_by w u _ makes.1 (word_same w (at Old r.passage) k 0).1
step_same (steps.PutE k) w u r makes = same_by w u _ makes.1 (word_same w (at New r.passage) k _).1
step_same (steps.Look k) w u r e = same_by w u w e (same_machine w)
step_same steps.TakeT w u r makes = put_same w u r.passage.old Threshold 0 makes
step_same steps.PutT w u r makes = put_same w u r.passage.new Threshold r.hand.threshold makes
step_same steps.Post w u r makes = post_kept w u r.hand.seen r.passage.who.found.notice (r.passage.who.found.slot + 1) makes
step_same steps.Wake w u r makes = put_same w u r.passage.new Delivery r.hand.delivery makes
step_same step w u r e = same_by w u _ e (record { n = refl; vms = refl; harts = refl; guests = refl })

-- so who is moved and both places are of the fabric still
pub step_of : (step : Step) (w u : World) (r t : Rehearsed) → IsOf w r.passage → Makes step r w u → t ≡ after step r w → IsOf u t.passage
step_of step w u r t of makes e = subst (λ (x : Rehearsed). IsOf u x.passage) (sym e) (of_same w u r.passage (step_same step w u r makes) of)

-- ---- so does all that happens

sends_same : (route : Route) (w u : World) (vm offset value : ℕ) → Sends route w u vm offset value → SameMachine w u
sends_same (To entry) w u vm offset value e = same_by w u _ e (record { n = refl; vms = refl; harts = refl; guests = refl })
sends_same Other w u vm offset value e = same_by w u w e (same_machine w)
sends_same (Fault entry) w u vm offset value e = same_by w u w e (same_machine w)

pub event_same : (event : RehearsedEvent) (w : World) (r : Rehearsed) (u : World) (t : Rehearsed) → Happens event w r u t → SameMachine w u
event_same (Steps step) w r u t (inside, makes, e) = step_same step w u r makes
event_same (DeviceStores vm addr value) w r u t (low, reaches, e) =
    stored_machine w u (reaches_rest (route_of (table_of w.tables vm) addr) w u (addr % PAGE) value reaches)
event_same (PeerStores vm to value) w r u t (there, relays, e) =
    stored_machine w u (record_rest (stage_of w (vcpu_of vm to)).in_force w u (vcpu_of vm to) value relays)
event_same (DeviceSends vm addr value) w r u t (low, sends, e) = sends_same (route_of (table_of w.tables vm) addr) w u vm (addr % PAGE) value sends
event_same (StoreLands vm k) w r u t (low, l, e) =
    let same = stored_machine w l.stored (entry_rest l.store.entry w l.stored l.store.offset l.store.value l.reaches) in
    same_by w u _ l.taken (record { n = same.n; vms = same.vms; harts = same.harts; guests = same.guests })
event_same (EntryRead vm file) w r u t (there, is, e) = same_by w u _ is (record { n = refl; vms = refl; harts = refl; guests = refl })
