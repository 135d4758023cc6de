-- Both places stay the virtual hart's own, whatever happens.
use Rattle.std.proofs.Common.{◌≡◌, ◌≢◌, ℕ, zero, suc, ◌+◌, ◌%◌, ◌<◌, ◌≤◌, Bool, true, false, length, Option, Some, None, inl, inr, ◌⊎◌, refl, sym, ap, ◌∙◌, subst, arith}
use Rattle.std.proofs.lemmas.Bool.{cases_eq}
use Rattle.std.proofs.lemmas.List.{get_or-set_other}
use Rattle.aia_regs.specs.declared.limits.TheConstants.{VCPUS}
use Rattle.aia_regs.specs.declared.address_map.TheConstants.{PAGE}
use Rattle.aia_regs.specs.declared.file_registers.FileReg.{FileReg}
use Rattle.aia_regs.specs.declared.file_registers.FileReg.TheVariants.{Delivery, Threshold}
use Rattle.aia_file.specs.declared.spot.Spot.TheVariants.{SupervisorFile}
use Rattle.aia_entry.specs.declared.entry.Entry.{Entry}
use Rattle.aia_entry.specs.declared.table.Route.{Route}
use Rattle.aia_entry.specs.declared.table.Route.TheVariants.{Other, Fault, To}
use Rattle.aia_entry.specs.Format.{decoded}
use Rattle.aia_entry.specs.Tables.{table_of, route_of}
use Rattle.aia_entry.proofs.TableLemmas.{fenced_elsewhere}
use Rattle.aia_vcpu.specs.declared.place.GuestPlace.{GuestPlace}
use Rattle.aia_vcpu.specs.declared.rest.Rest.TheVariants.{Parked}
use Rattle.aia_vcpu.specs.Home.Home.{InMemory}
use Rattle.aia_vcpu.specs.Vms.{Vcpu, vcpu_of, is_vcpu_in, slot_of, notice_identity, notice_hart}
use Rattle.aia_vcpu.proofs.VmLemmas.{same_slot}
use Rattle.aia_vcpu_places.specs.Places.{Places}
use Rattle.aia_fabric_values.specs.declared.stage.Stage.{Stage}
use Rattle.aia_fabric_values.specs.World.{World, stage_of, flight_of, no_stage}
use Rattle.aia_fabric_values.specs.Whole.{IsWhole}
use Rattle.aia_fabric_values.specs.Making.{entry_word_place}
use Rattle.aia_fabric_values.specs.Stores.{Reaches, ReachesBy, ReachesByRecord, named_spot}
use Rattle.aia_fabric_values.specs.Flights.{Sends, Lands, LandsOldest}
use Rattle.aia_move_values.specs.Views.{places_of}
use Rattle.aia_fabric_values.specs.Changes.{pending_words, enable_words, with_pending, with_enable, with_entry_word, with_fence, with_stage}
use Rattle.aia_move_values.proofs.ViewLemmas.{fence-places, slot_low}
use Rattle.aia_fabric_values.proofs.WholeLemmas.{vcpu_entry, notice_hart_there}
use Rattle.aia_move_values.specs.Move.{PostsIf}
use Rattle.aia_move_values.specs.Touches.{SameMachine}
use Rattle.aia_plan.specs.declared.step.Step.{Step}
use Rattle.aia_plan.specs.declared.step.Step.TheVariants as steps
use Rattle.aia_rehearsal.specs.declared.place.Place as ends
use Rattle.aia_rehearsal.specs.declared.place.Place.TheVariants.{File, Slot}
use Rattle.aia_rehearsal.specs.Rehearsed.{Passage, Rehearsed, mover_of, at_of, IsOf}
use Rattle.aia_rehearsal.specs.Steps.{Puts, Makes}
use Rattle.aia_rehearsal.specs.Stands.{RoutesSeen, routes_of, side_of}
use Rattle.aia_rehearsal.specs.Events.{RehearsedEvent, Happens, IsAlone, NamesElsewhere}
use Rattle.aia_rehearsal.specs.Events.RehearsedEvent.{Steps, DeviceStores, PeerStores, DeviceSends, StoreLands, EntryRead}
use Rattle.aia_move_values.proofs.WhoLemmas.{small_who}
use Rattle.aia_move_values.proofs.TouchLemmas.{one_entry}
use Rattle.aia_rehearsal.proofs.PlaceSteps.{pending_routes, enabled_routes}
use Rattle.aia_rehearsal.proofs.Carried.{side_same}
use Rattle.aia_rehearsal.proofs.StoreSeen.{at_spot, at_slot}
use Rattle.aia_rehearsal.proofs.Landings.{entry_seen, named_spot_there}
use Rattle.aia_rehearsal.proofs.SameMachine.{step_same, event_same}
use Rattle.aia_move_values.proofs.WayFences.{apart_vcpus}

-- ---- what stays of the routes of others

pub record OthersKept (w u : World) (p : Passage) : Type 0 where
  in_force : (g : Vcpu) → g ≢ mover_of p → (routes_of u g).in_force ≡ (routes_of w g).in_force
  routes : (g : Vcpu) → is_vcpu_in w.vms g ≡ true → g ≢ mover_of p → routes_of u g ≡ routes_of w g

all_kept : (w u : World) (p : Passage) → ((g : Vcpu) → routes_of u g ≡ routes_of w g) → OthersKept w u p
all_kept w u p same = record { in_force = λ g other. ap (λ (x : RoutesSeen). x.in_force) (same g); routes = λ g there other. same g }

equal_kept : (w u : World) (p : Passage) → u ≡ w → OthersKept w u p
equal_kept w u p e = all_kept w u p (λ g. ap (λ (x : World). routes_of x g) e)

alone_by : (w u : World) (p : Passage) → SameMachine w u → OthersKept w u p → IsAlone w p → IsAlone u p
alone_by w u p same kept alone = record {
  in_force = λ g other. side_now (routes_of u g).in_force ∙ ap (side_of w.imsic p) (kept.in_force g other) ∙ alone.in_force g other;
  written = λ g there other. let is = there_before g there in side_now (decoded (routes_of u g).word0 (routes_of u g).word1)
      ∙ ap (λ (x : RoutesSeen). side_of w.imsic p (decoded x.word0 x.word1)) (kept.routes g is other) ∙ alone.written g is other;
  records = λ g there other. let is = there_before g there in
      subst (λ (x : RoutesSeen). NamesElsewhere p x.stage.in_force) (sym (kept.routes g is other)) (alone.records g is other);
}
  where
    side_now : (entry : Entry) → side_of u.imsic p entry ≡ side_of w.imsic p entry
    side_now entry = side_same u.imsic w.imsic same.harts same.guests p entry

    there_before : (g : Vcpu) → is_vcpu_in u.vms g ≡ true → is_vcpu_in w.vms g ≡ true
    there_before g there = ap (λ vms. is_vcpu_in vms g) (sym same.vms) ∙ there

-- ---- stores

-- a passage of another virtual hart, of which nothing else matters
abbrev of_other : Passage → Vcpu → Passage
of_other p g = record { who = record p.who { found = record p.who.found { vm = g.vm; vcpu = g.vcpu } }; old = Slot; new = Slot }

module _ (w u : World) (p : Passage) (whole : IsWhole w) where
  entry_kept : (entry : Entry) (offset value : ℕ) → ReachesBy entry w u offset value → (g : Vcpu) → routes_of u g ≡ routes_of w g
  entry_kept entry offset value reaches g = (entry_seen w u (of_other p g) offset value whole entry reaches).routes

  reaches_kept : (route : Route) (offset value : ℕ) → Reaches route w u offset value → (g : Vcpu) → routes_of u g ≡ routes_of w g
  reaches_kept (To entry) offset value reaches g = entry_kept entry offset value reaches g
  reaches_kept Other offset value e g = ap (λ (x : World). routes_of x g) e
  reaches_kept (Fault entry) offset value e g = ap (λ (x : World). routes_of x g) e

  relays_kept : (to : Vcpu) (named : Option GuestPlace) (value : ℕ) → is_vcpu_in w.vms to ≡ true → ReachesByRecord named w u to value → (g : Vcpu)
      → routes_of u g ≡ routes_of w g
  relays_kept to (Some a) value there relays g =
      (at_spot w u (of_other p g) 0 value whole (named_spot w.imsic a) (named_spot_there w a) relays).routes
  relays_kept to None value there relays g =
      (at_slot w u (of_other p g) 0 value whole (Some (slot_of w.vms to)) (SupervisorFile (notice_hart w.vms to)) (notice_identity w.vms to)
      (λ n e. let same : slot_of w.vms to ≡ n = cc in let low = slot_low w to whole there in omega (arith, low, same))
      (λ some. notice_hart_there w to whole there) relays).routes

  lands_kept : (vm k : ℕ) → Lands w u vm k → (g : Vcpu) → routes_of u g ≡ routes_of w g
  lands_kept vm k l g = ap (λ (x : World). routes_of x g) l.taken
      ∙ (entry_seen w l.stored (of_other p g) l.store.offset l.store.value whole l.store.entry l.reaches).routes

all_landed_kept : (count : ℕ) (w u : World) (p : Passage) (vm : ℕ) → LandsOldest count w u vm → (g : Vcpu) → routes_of u g ≡ routes_of w g
all_landed_kept zero w u p vm same g = ap (λ (x : World). routes_of x g) same
all_landed_kept (suc count) w u p vm (mid, before, whole, l) g = lands_kept mid u p whole vm 0 l g ∙ all_landed_kept count w mid p vm before g

-- ---- the steps of the rehearsal

module _ (w : World) (p : Passage) (whole : IsWhole w) (of : IsOf w p) where
  words_apart : (g : Vcpu) (which : ℕ) → which ≤ 1 → is_vcpu_in w.vms g ≡ true → g ≢ mover_of p → (x : ℕ) → x ≤ 1
      → entry_word_place g.vm g.vcpu + x ≢ entry_word_place p.who.found.vm p.who.found.vcpu + which
  words_apart g which one there other x two same =
      let mine = vcpu_entry w p.who.found.vm p.who.found.vcpu whole of.who.there in
      let its = vcpu_entry w g.vm g.vcpu whole there in
      let both = one_entry g.vm g.vcpu p.who.found.vm p.who.found.vcpu x which its.2 mine.2 two one same in
      other (λ k. vcpu_of (both.0 k) (both.1 k))

  word_kept : (which v : ℕ) → which ≤ 1 → OthersKept w (with_entry_word w p.who.found.vm p.who.found.vcpu which v) p
  word_kept which v one = record {
    in_force = λ g other. refl;
    routes = λ g there other.
        let first = get_or-set_other w.memory (entry_word_place p.who.found.vm p.who.found.vcpu + which) (entry_word_place g.vm g.vcpu) v 0
        (λ e. words_apart g which one there other 0 (omega arith) (zero_more (entry_word_place g.vm g.vcpu) ∙ e)) in
        let second = get_or-set_other w.memory (entry_word_place p.who.found.vm p.who.found.vcpu + which) (entry_word_place g.vm g.vcpu + 1) v
        0 (words_apart g which one there other 1 (omega arith)) in
        λ k. record (routes_of w g) { word0 = first k; word1 = second k };
  }
    where
      zero_more : (n : ℕ) → n + 0 ≡ n
      zero_more n = omega arith

  stage_kept : (s : Stage) → OthersKept w (with_stage w (mover_of p) s) p
  stage_kept s = record {
    in_force = λ g other. refl;
    routes = λ g there other.
        let stage = get_or-set_other w.stages (slot_of w.vms (mover_of p)) (slot_of w.vms g) s no_stage
        (λ e. other (same_slot w.vms g (mover_of p) there of.who.there e)) in
        λ k. record (routes_of w g) { stage = stage k };
  }

  fence_kept : OthersKept w (with_fence w p.who.found.vm p.who.found.vcpu) p
  fence_kept = record {
    in_force = λ g other. fenced_elsewhere w.tables p.who.found.vm p.who.found.vcpu w.memory g.vm g.vcpu (apart_vcpus g (mover_of p) other);
    routes = λ g there other. let e = fenced_elsewhere w.tables p.who.found.vm p.who.found.vcpu w.memory g.vm g.vcpu
        (apart_vcpus g (mover_of p) other) in λ k. record (routes_of w g) { in_force = e k };
  }

  low : p.who.found.slot < VCPUS
  low = (small_who w p.who whole of.who).1

  pending_kept : (k v : ℕ) (place : ends.Place) → k < pending_words w (at_of p.who.found.slot place)
      → OthersKept w (with_pending w (at_of p.who.found.slot place) k v) p
  pending_kept k v place few = all_kept w (with_pending w (at_of p.who.found.slot place) k v) p
      (λ g. pending_routes w p.who.found.slot k v whole low g place few)

  enabled_kept : (k v : ℕ) (place : ends.Place) → k < enable_words w (at_of p.who.found.slot place)
      → OthersKept w (with_enable w (at_of p.who.found.slot place) k v) p
  enabled_kept k v place few = all_kept w (with_enable w (at_of p.who.found.slot place) k v) p
      (λ g. enabled_routes w p.who.found.slot k v whole low g place few)

  put_kept : (u : World) (place : ends.Place) (reg : FileReg) (v : ℕ) → Puts w u place reg v → OthersKept w u p
  put_kept u (File a) reg v puts = all_kept w u p (λ g. ap (λ (x : World). routes_of x g) puts.others)
  put_kept u Slot reg v e = equal_kept w u p e

  post_kept : (u : World) (sent : Bool) (hart identity : ℕ) → PostsIf sent w u hart identity → OthersKept w u p
  post_kept u true hart identity posts = all_kept w u p (λ g. ap (λ (x : World). routes_of x g) posts.rest)
  post_kept u false hart identity e = equal_kept w u p e

kept_by : (w u x : World) (p : Passage) → u ≡ x → OthersKept w x p → OthersKept w u p
kept_by w u x p e kept = subst (λ (y : World). OthersKept w y p) (sym e) kept

step_kept : (step : Step) (w u : World) (r : Rehearsed) → IsWhole w → IsOf w r.passage → Makes step r w u → OthersKept w u r.passage
step_kept steps.Quiet w u r whole of makes = put_kept w r.passage whole of u r.passage.old Delivery 0 makes
step_kept steps.Word1 w u r whole of e = kept_by w u _ r.passage e (word_kept w r.passage whole of 1 _ (omega arith))
step_kept steps.Word0 w u r whole of e = kept_by w u _ r.passage e (word_kept w r.passage whole of 0 _ (omega arith))
step_kept steps.Fence w u r whole of f =
    let landed = all_landed_kept (length (flight_of w r.passage.who.found.vm)) w f.landed r.passage r.passage.who.found.vm f.lands in
    kept_by w u _ r.passage f.fenced (record {
      in_force = λ g other. fenced_elsewhere f.landed.tables r.passage.who.found.vm r.passage.who.found.vcpu f.landed.memory g.vm g.vcpu
          (apart_vcpus g (mover_of r.passage) other) ∙ ap (λ (x : RoutesSeen). x.in_force) (landed g);
      routes = λ g there other. let e = fenced_elsewhere f.landed.tables r.passage.who.found.vm r.passage.who.found.vcpu f.landed.memory g.vm
          g.vcpu (apart_vcpus g (mover_of r.passage) other) in
          let fenced : routes_of (with_fence f.landed r.passage.who.found.vm r.passage.who.found.vcpu) g ≡ routes_of f.landed g =
          λ k. record (routes_of f.landed g) { in_force = e k } in fenced ∙ landed g;
    })
step_kept (steps.TakeP k) w u r whole of makes = kept_by w u _ r.passage makes.1 (pending_kept w r.passage whole of k 0 r.passage.old makes.0)
step_kept (steps.PutP k) w u r whole of makes = kept_by w u _ r.passage makes.1 (pending_kept w r.passage whole of k _ r.passage.new makes.0)
step_kept (steps.TakeE k) w u r whole of makes = kept_by w u _ r.passage makes.1 (enabled_kept w r.passage whole of k 0 r.passage.old makes.0)
step_kept (steps.PutE k) w u r whole of makes = kept_by w u _ r.passage makes.1 (enabled_kept w r.passage whole of k _ r.passage.new makes.0)
step_kept steps.TakeT w u r whole of makes = put_kept w r.passage whole of u r.passage.old Threshold 0 makes
step_kept steps.PutT w u r whole of makes = put_kept w r.passage whole of u r.passage.new Threshold r.hand.threshold makes
step_kept steps.Post w u r whole of makes = post_kept w r.passage whole of u r.hand.seen r.passage.who.found.notice
    (r.passage.who.found.slot + 1) makes
step_kept steps.Wake w u r whole of makes = put_kept w r.passage whole of u r.passage.new Delivery r.hand.delivery makes
step_kept steps.Map w u r whole of e = kept_by w u _ r.passage e (stage_kept w r.passage whole of _)
step_kept steps.Unmap w u r whole of e = kept_by w u _ r.passage e (stage_kept w r.passage whole of _)
step_kept steps.Remap w u r whole of e = kept_by w u _ r.passage e (stage_kept w r.passage whole of _)
step_kept steps.GFence w u r whole of e = kept_by w u _ r.passage e (stage_kept w r.passage whole of _)
step_kept step w u r whole of e = equal_kept w u r.passage e

-- ---- all that happens

sends_kept : (route : Route) (w u : World) (p : Passage) (vm offset value : ℕ) → Sends route w u vm offset value → OthersKept w u p
sends_kept (To entry) w u p vm offset value e = all_kept w u p (λ g. ap (λ (x : World). routes_of x g) e)
sends_kept Other w u p vm offset value e = equal_kept w u p e
sends_kept (Fault entry) w u p vm offset value e = equal_kept w u p e

-- an entry that is read again leads where it says
read_alone : (w : World) (p : Passage) (vm file : ℕ) → IsWhole w → is_vcpu_in w.vms (vcpu_of vm file) ≡ true → IsAlone w p
    → IsAlone (with_fence w vm file) p
read_alone w p vm file whole there alone = record {
  in_force = in_force;
  written = alone.written;
  records = alone.records;
}
  where
    seen : places_of (with_fence w vm file) (vcpu_of vm file) (InMemory Parked) ≡ record (places_of w (vcpu_of vm file) (InMemory Parked))
        { in_force = decoded (places_of w (vcpu_of vm file) (InMemory Parked)).word0 (places_of w (vcpu_of vm file) (InMemory Parked)).word1 }
    seen = fence-places w (vcpu_of vm file) (InMemory Parked) whole there

    in_force : (g : Vcpu) → g ≢ mover_of p → side_of (with_fence w vm file).imsic p (routes_of (with_fence w vm file) g).in_force ≡ None
    in_force g other = elim (cases_eq g.vm vm) [
      | inl same ↦ elim (cases_eq g.vcpu file) [
        | inl too ↦ let is : g ≡ vcpu_of vm file = λ k. vcpu_of (same k) (too k) in
            subst (λ (x : Vcpu). side_of w.imsic p (routes_of (with_fence w vm file) x).in_force ≡ None) (sym is)
            (ap (λ (v : Places). side_of w.imsic p v.in_force) seen ∙ alone.written (vcpu_of vm file) there (λ e. other (is ∙ e)))
        | inr ne ↦ ap (side_of w.imsic p) (fenced_elsewhere w.tables vm file w.memory g.vm g.vcpu (inr ne)) ∙ alone.in_force g other
      ]
      | inr ne ↦ ap (side_of w.imsic p) (fenced_elsewhere w.tables vm file w.memory g.vm g.vcpu (inl ne)) ∙ alone.in_force g other
    ]

pub alone_stays : (event : RehearsedEvent) (w u : World) (r t : Rehearsed) → IsWhole w → IsOf w r.passage → Happens event w r u t
    → IsAlone w r.passage → IsAlone u r.passage
alone_stays (Steps step) w u r t whole of (inside, makes, e) alone =
    alone_by w u r.passage (step_same step w u r makes) (step_kept step w u r whole of makes) alone
alone_stays (DeviceStores vm addr value) w u r t whole of (low, reaches, e) alone =
    alone_by w u r.passage (event_same (DeviceStores vm addr value) w r u t (low, reaches, e))
    (all_kept w u r.passage (reaches_kept w u r.passage whole (route_of (table_of w.tables vm) addr) (addr % PAGE) value reaches)) alone
alone_stays (PeerStores vm to value) w u r t whole of (there, relays, e) alone =
    alone_by w u r.passage (event_same (PeerStores vm to value) w r u t (there, relays, e))
    (all_kept w u r.passage (relays_kept w u r.passage whole (vcpu_of vm to) (stage_of w (vcpu_of vm to)).in_force value there relays)) alone
alone_stays (DeviceSends vm addr value) w u r t whole of (low, sends, e) alone =
    alone_by w u r.passage (event_same (DeviceSends vm addr value) w r u t (low, sends, e))
    (sends_kept (route_of (table_of w.tables vm) addr) w u r.passage vm (addr % PAGE) value sends) alone
alone_stays (StoreLands vm k) w u r t whole of (low, l, e) alone =
    alone_by w u r.passage (event_same (StoreLands vm k) w r u t (low, l, e)) (all_kept w u r.passage (lands_kept w u r.passage whole vm k l)) alone
alone_stays (EntryRead vm file) w u r t whole of (there, is, e) alone =
    subst (λ (x : World). IsAlone x r.passage) (sym is) (read_alone w r.passage vm file whole there alone)
