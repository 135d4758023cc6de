-- What happens leaves free a guest file to which nothing leads, if no move that steps holds it; and
-- nothing leads to any as a machine is made.
use Rattle.std.proofs.Common.{◌≡◌, ◌≢◌, ℕ, zero, suc, ◌+◌, ◌%◌, Bool, true, false, nat_eq, List, [], ◌∷◌, ◌++◌, length, Option, Some, None, inl, inr, refl, sym, ap, ◌∙◌, subst, arith}
use Rattle.std.specs.Prelude.{remove, slice_get}
use Rattle.std.proofs.lemmas.Bool.{cases_Bool, cond-true, cond-false, ne_eqb, false≢true}
use Rattle.std.proofs.lemmas.Bool.Decides.{nat_tests}
use Rattle.aia_regs.specs.declared.address_map.TheConstants.{PAGE}
use Rattle.aia_file.specs.InterruptFile.{InterruptFile}
use Rattle.aia_file.specs.Imsic.{with_file, file_at}
use Rattle.aia_entry.specs.declared.entry.Entry.{Entry}
use Rattle.aia_entry.specs.declared.entry.Entry.TheVariants.{Basic, Mrif, NotValid, Custom, Misconfigured}
use Rattle.aia_entry.specs.declared.table.Route.{Route}
use Rattle.aia_entry.specs.declared.table.Route.TheVariants.{Other}
use Rattle.aia_entry.specs.Tables.{TableState, no_table, table_of, entry_in_force, leads_by, route_of}
use Rattle.aia_entry.specs.Translation.{is_msi_address, file_number}
use Rattle.aia_vcpu.specs.declared.place.GuestPlace.{GuestPlace}
use Rattle.aia_vcpu.specs.declared.vm.Vm.{Vm}
use Rattle.aia_vcpu.specs.Vms.{Vcpu, vcpu_of, is_vcpu, is_vcpu_in, vcpus_in}
use Rattle.aia_vcpu.specs.Home.{is_place, holds}
use Rattle.aia_vcpu.specs.Home.Home.{Resident}
use Rattle.aia_vcpu.specs.Plans.{is_at_last}
use Rattle.aia_vcpu.specs.Routes.{is_at_fence}
use Rattle.aia_vcpu.proofs.HomeLemmas.{same_place}
use Rattle.aia_vcpu.proofs.VmLemmas.{same_vcpu}
use Rattle.aia_vcpu_places.specs.Holds.{Hand, IsWithin}
use Rattle.aia_vcpu_places.specs.Stores.{AreApart}
use Rattle.aia_fabric_values.specs.declared.at.At.{At}
use Rattle.aia_fabric_values.specs.declared.at.At.TheVariants.{File, Slot}
use Rattle.aia_fabric_values.specs.declared.flying.Flying.{Flying}
use Rattle.aia_fabric_values.specs.declared.stage.Stage.{Stage}
use Rattle.aia_fabric_values.specs.World.{World, OnlyStores, flight_of, stage_of}
use Rattle.aia_fabric_values.specs.Whole.{IsWhole}
use Rattle.aia_fabric_values.specs.Making.{IsNew, MakesVm}
use Rattle.aia_fabric_values.specs.Changes.{spot_of, with_fence}
use Rattle.aia_fabric_values.specs.Flights.{Sends, Lands, LandsOldest, Fences, with_flight}
use Rattle.aia_fabric_values.proofs.FrameLemmas.{by_parts, entry_rest, reaches_rest, record_rest, stores_rest}
use Rattle.aia_move_values.specs.Move.{Moving, mover, width, MakesNext}
use Rattle.aia_move_values.specs.PlanState.{PlanState, moving_of}
use Rattle.aia_move_values.specs.Touches.{SameMachine, sends}
use Rattle.aia_move_values.specs.Landings.{LandsFirst}
use Rattle.aia_move_values.specs.Knows.{Knows}
use Rattle.aia_move_values.specs.Ways.{led_by_entry, led_by_record, leads_here, entry_of, written_of, NothingLeadsTo}
use Rattle.aia_move_values.specs.WorldChanges.{OthersNameNothing, WorldChange, IsElsewhere}
use Rattle.aia_move_values.specs.WorldChanges.WorldChange.{DeviceStores, PeerStores, StoreIsSent, StoreLands, StoreIsTaken, MsiLands, MsiIsRelayed, EntryIsRead, EntryIsFenced, SlotIsReached, FileIsReached, MoveSteps, VmIsMade}
use Rattle.aia_move_values.proofs.LandingLemmas.{same_landed}
use Rattle.aia_move_values.proofs.MachineLemmas.{machine_touched}
use Rattle.aia_move_values.proofs.SlotViews.{done_entry_words}
use Rattle.aia_move_values.proofs.TouchLemmas.{step_touches}
use Rattle.aia_move_values.proofs.WayLemmas.{led_same, recorded_same}
use Rattle.aia_move_values.proofs.WayFrames.{KeepsRoutes, KeepsWords, words_same, entry_words, route_words, record_words, stored_machine, routes_stored, taken_was, sent_is, flight_set}
use Rattle.aia_move_values.proofs.WayFences.{as_written, others_kept, no_vcpu}
use Rattle.aia_move_values.proofs.WayMoves.{routes_then, kept_by_touch, touched_flights, fence_step}
use Rattle.aia_move_values.proofs.WayMade.{Since, entries_since, written_since, named_since, flight_since, led_made}
use Rattle.aia_move_values.proofs.WayMade.Since.{AsBefore, ToNewSlot, Nowhere}

-- ---- the routes are as they were

module _ (w u : World) (at : At) (same : SameMachine w u) (free : NothingLeadsTo w at) where
  free_by : ((g : Vcpu) → KeepsRoutes w u g)
      → ((v k : ℕ) (s : Flying) → slice_get (flight_of u v) k ≡ Some s → led_by_entry w s.entry ≢ Some at) → NothingLeadsTo u at
  free_by kept flights = record {
    entries = λ g e. free.entries g (ap (led_by_entry w) (sym (kept g).entry) ∙ sym (led_same w u same (entry_of u g)) ∙ e);
    written = λ g there e. free.written g (ap (λ vms. is_vcpu_in vms g) (sym same.vms) ∙ there)
        (ap (led_by_entry w) (sym (kept g).written) ∙ sym (led_same w u same (written_of u g)) ∙ e);
    records = λ g there e. free.records g (ap (λ vms. is_vcpu_in vms g) (sym same.vms) ∙ there)
        (ap (λ (s : Stage). led_by_record w g s.in_force) (sym (kept g).stage) ∙ sym (recorded_same w u same g (stage_of u g).in_force) ∙ e);
    named = λ g there e. free.named g (ap (λ vms. is_vcpu_in vms g) (sym same.vms) ∙ there)
        (ap (λ (s : Stage). led_by_record w g s.written) (sym (kept g).stage) ∙ sym (recorded_same w u same g (stage_of u g).written) ∙ e);
    flights = λ v k s is e. flights v k s is (sym (led_same w u same s.entry) ∙ e);
  }

stored_free : (w u : World) (at : At) → OnlyStores w u → KeepsWords w u → NothingLeadsTo w at → NothingLeadsTo u at
stored_free w u at rest words free = free_by w u at (stored_machine w u rest) free (routes_stored w u rest words)
    (λ v k s is. free.flights v k s (ap (λ (x : World). slice_get (flight_of x v) k) (sym rest) ∙ is))

-- ---- stores in flight

module _ (w : World) (at : At) (free : NothingLeadsTo w at) where
  with_others : (v : ℕ) (stores : List Flying)
      → ((x k : ℕ) (s : Flying) → slice_get (flight_of (with_flight w v stores) x) k ≡ Some s → led_by_entry w s.entry ≢ Some at)
      → NothingLeadsTo (with_flight w v stores) at
  with_others v stores flights = free_by w (with_flight w v stores) at (record { n = refl; vms = refl; harts = refl; guests = refl }) free
      (λ g. record { entry = refl; written = refl; stage = refl }) flights

  taken_free : (u : World) (v k : ℕ) → u ≡ with_flight w v (remove (flight_of w v) k) → NothingLeadsTo u at
  taken_free u v k e = subst (λ (x : World). NothingLeadsTo x at) (sym e) (with_others v (remove (flight_of w v) k)
      (λ x j s is. let was = taken_was w v k x j s is in free.flights x was.0 s was.1))

  sent_on : (g : Vcpu) (offset value : ℕ) (e : Entry) → e ≡ entry_of w g
      → NothingLeadsTo (with_flight w g.vm (flight_of w g.vm ++ record { entry = e; offset = offset; value = value } ∷ [])) at
  sent_on g offset value e is =
      let new : Flying = record { entry = e; offset = offset; value = value } in
      with_others g.vm (flight_of w g.vm ++ new ∷ []) (λ x k s is_sent.
      elim (flight_set w.flights g.vm x (flight_of w g.vm ++ new ∷ [])) [
        | inl here ↦ elim (sent_is (flight_of w g.vm) new s k (ap (λ xs. slice_get xs k) (sym here.1) ∙ is_sent)) [
          | inl was ↦ free.flights g.vm was.0 s was.1
          | inr newest ↦ λ led. free.entries g (ap (led_by_entry w) (sym is) ∙ ap (λ (y : Flying). led_by_entry w y.entry) (sym newest) ∙ led)
        ]
        | inr other ↦ free.flights x k s (ap (λ xs. slice_get xs k) (sym other) ∙ is_sent)
      ])

  sent_along : (u : World) (g : Vcpu) (offset value : ℕ) (e : Entry) → e ≡ entry_of w g → Sends (leads_by e) w u g.vm offset value
      → NothingLeadsTo u at
  sent_along u g offset value (Basic page) is sends = subst (λ (x : World). NothingLeadsTo x at) (sym sends) (sent_on g offset value (Basic page) is)
  sent_along u g offset value (Mrif addr page identity) is sends =
      subst (λ (x : World). NothingLeadsTo x at) (sym sends) (sent_on g offset value (Mrif addr page identity) is)
  sent_along u g offset value NotValid is same = subst (λ (x : World). NothingLeadsTo x at) (sym same) free
  sent_along u g offset value Custom is same = subst (λ (x : World). NothingLeadsTo x at) (sym same) free
  sent_along u g offset value Misconfigured is same = subst (λ (x : World). NothingLeadsTo x at) (sym same) free

  sent_free : (u : World) (v addr value : ℕ) → Sends (route_of (table_of w.tables v) addr) w u v (addr % PAGE) value → NothingLeadsTo u at
  sent_free u v addr value sends = elim (cases_Bool (is_msi_address (table_of w.tables v).mask addr)) [
    | inl is ↦
        let g : Vcpu = vcpu_of v (file_number (table_of w.tables v).mask addr) in
        let route : route_of (table_of w.tables v) addr ≡ leads_by (entry_of w g) = cond-true _ _ _ is in
        sent_along u g (addr % PAGE) value (entry_of w g) refl (subst (λ (r : Route). Sends r w u v (addr % PAGE) value) route sends)
    | inr none ↦
        let route : route_of (table_of w.tables v) addr ≡ Other = cond-false _ _ _ none in
        let same : u ≡ w = subst (λ (r : Route). Sends r w u v (addr % PAGE) value) route sends in
        subst (λ (x : World). NothingLeadsTo x at) (sym same) free
  ]

-- one lands; all of a VM do
landed_free : (w u : World) (at : At) (v k : ℕ) → IsWhole w → NothingLeadsTo w at → Lands w u v k → NothingLeadsTo u at
landed_free w u at v k whole free l = taken_free l.stored at
    (stored_free w l.stored at (entry_rest l.store.entry w l.stored l.store.offset l.store.value l.reaches)
    (entry_words w l.stored l.store.offset l.store.value whole l.store.entry l.reaches) free) u v k l.taken

pub all_landed_free : (count : ℕ) (w u : World) (at : At) (v : ℕ) → NothingLeadsTo w at → LandsOldest count w u v → NothingLeadsTo u at
all_landed_free zero w u at v free same = subst (λ (x : World). NothingLeadsTo x at) (sym same) free
all_landed_free (suc count) w u at v free (mid, before, whole, l) = landed_free mid u at v 0 whole (all_landed_free count w mid at v free before) l

-- ---- an entry is read again, or fenced

read_free : (w : World) (g : Vcpu) (at : At) → IsWhole w → is_vcpu_in w.vms g ≡ true → NothingLeadsTo w at
    → NothingLeadsTo (with_fence w g.vm g.vcpu) at
read_free w g at whole there free = record {
  entries = λ x e. elim (cases_Bool (is_vcpu x g)) [
    | inl is ↦ free.written g there (ap (led_by_entry w)
        (sym (ap (entry_of (with_fence w g.vm g.vcpu)) (same_vcpu x g is) ∙ as_written w g whole there)) ∙ e)
    | inr none ↦ free.entries x (ap (led_by_entry w) (sym (others_kept w g x (no_vcpu x g none))) ∙ e)
  ];
  written = free.written;
  records = free.records;
  named = free.named;
  flights = free.flights;
}

fenced_free : (w u : World) (g : Vcpu) (at : At) → is_vcpu_in w.vms g ≡ true → NothingLeadsTo w at → Fences w u g.vm g.vcpu → NothingLeadsTo u at
fenced_free w u g at there free f =
    let same = same_landed w f.landed g.vm f.lands in
    subst (λ (x : World). NothingLeadsTo x at) (sym f.fenced)
    (read_free f.landed g at f.whole (ap (λ vms. is_vcpu_in vms g) same.vms ∙ there)
    (all_landed_free (length (flight_of w g.vm)) w f.landed at g.vm free f.lands))

-- ---- a move steps

module _ (w : World) (p : GuestPlace) (other : PlanState) (led : Option GuestPlace) (theirs : InterruptFile) (seen : Bool) (whole : IsWhole w)
    (two : AreApart (moving_of other).home) (fine : IsWithin w.n (width w) theirs) (knows : Knows w other led theirs seen)
    (elsewhere : holds p (moving_of other).home ≡ false) (free : NothingLeadsTo w (File (spot_of p))) where
  abbrev o : Moving
  o = moving_of other

  -- a virtual hart of another slot that is in the guest file
  abbrev stayer : Moving
  stayer = record o { who = record o.who { found = record o.who.found { slot = o.who.found.slot + 1 } }; home = Resident p }

  own_slot : nat_eq o.who.found.slot stayer.who.found.slot ≡ false
  own_slot = ne_eqb o.who.found.slot (o.who.found.slot + 1) (λ e. omega (arith, e))

  own_files : (r : GuestPlace) → holds r stayer.home ≡ true → holds r o.home ≡ false
  own_files r held = ap (λ (x : GuestPlace). holds x o.home) (same_place r p held) ∙ elsewhere

  is_its : leads_here stayer (Some (File (spot_of p))) ≡ true
  is_its = itself p.hart p.file
    where
      itself : (h f : ℕ) → is_place (record { hart = h; file = f }) (record { hart = h; file = f }) ≡ true
      itself h f = grind (arith, nat_tests)

  not_there : (at : Option At) → leads_here stayer at ≡ false → at ≢ Some (File (spot_of p))
  not_there at none e = false≢true (sym none ∙ ap (leads_here stayer) e ∙ is_its)

  not_fenced : (u : World) (hand : Hand) → MakesNext w o u hand → NothingLeadsTo u (File (spot_of p))
  not_fenced u hand step =
      let t = step_touches w u o hand whole knows.fits step in
      let same = machine_touched (sends step.access o.hand) w u o t in
      let apart = routes_then w stayer other led theirs seen whole two fine knows own_slot own_files u hand step (is_at_last (width w) o.home) refl in
      record {
        entries = λ x. by_whom (λ x. led_by_entry u (entry_of u x) ≢ Some (File (spot_of p))) x (not_there _ apart.entry)
            (λ differs e. free.entries x (ap (led_by_entry w) (sym (t.in_force x differs)) ∙ sym (led_same w u same (entry_of u x)) ∙ e));
        written = λ x there. by_whom (λ x. is_vcpu_in w.vms x ≡ true → led_by_entry u (written_of u x) ≢ Some (File (spot_of p))) x
            (λ there. not_there _ apart.written)
            (λ differs there e. free.written x there (ap (led_by_entry w)
            (sym (kept_by_touch (sends step.access o.hand) w u o x knows.fits t there differs).written)
            ∙ sym (led_same w u same (written_of u x)) ∙ e)) (ap (λ vms. is_vcpu_in vms x) (sym same.vms) ∙ there);
        records = λ x there. by_whom (λ x. is_vcpu_in w.vms x ≡ true → led_by_record u x (stage_of u x).in_force ≢ Some (File (spot_of p))) x
            (λ there. not_there _ apart.in_force)
            (λ differs there e. free.records x there (ap (λ (s : Stage). led_by_record w x s.in_force)
            (sym (kept_by_touch (sends step.access o.hand) w u o x knows.fits t there differs).stage)
            ∙ sym (recorded_same w u same x (stage_of u x).in_force) ∙ e)) (ap (λ vms. is_vcpu_in vms x) (sym same.vms) ∙ there);
        named = λ x there. by_whom (λ x. is_vcpu_in w.vms x ≡ true → led_by_record u x (stage_of u x).written ≢ Some (File (spot_of p))) x
            (λ there. not_there _ apart.named)
            (λ differs there e. free.named x there (ap (λ (s : Stage). led_by_record w x s.written)
            (sym (kept_by_touch (sends step.access o.hand) w u o x knows.fits t there differs).stage)
            ∙ sym (recorded_same w u same x (stage_of u x).written) ∙ e)) (ap (λ vms. is_vcpu_in vms x) (sym same.vms) ∙ there);
        flights = λ v k s is e. free.flights v k s (ap (λ xs. slice_get xs k) (sym (touched_flights (sends step.access o.hand) w u o v t)) ∙ is)
            (sym (led_same w u same s.entry) ∙ e);
      }
    where
      by_whom : (P : Vcpu → Type 0) (x : Vcpu) → P (mover o) → (x ≢ mover o → P x) → P x
      by_whom P x its others = elim (cases_Bool (is_vcpu x (mover o))) [
        | inl is ↦ subst P (sym (same_vcpu x (mover o) is)) its
        | inr none ↦ others (no_vcpu x (mover o) none)
      ]

  step_free : (landed u : World) (hand : Hand) → LandsFirst w o landed → MakesNext landed o u hand → NothingLeadsTo u (File (spot_of p))
  step_free landed u hand first step = by_fence (is_at_fence o.home) refl
    where
      by_fence : (b : Bool) → is_at_fence o.home ≡ b → NothingLeadsTo u (File (spot_of p))
      by_fence true at = fenced_free w u (mover o) (File (spot_of p)) knows.fits.there free (fence_step w landed u o hand first step at)
      by_fence false none = not_fenced u hand (subst (λ (x : World). MakesNext x o u hand) (first.other none) step)

-- ---- a VM is made

module _ (w u : World) (p : GuestPlace) (vm : Vm) (whole : IsWhole w) (after : IsWhole u) (made : MakesVm w u vm)
    (unnamed : OthersNameNothing w) (free : NothingLeadsTo w (File (spot_of p))) where
  no_slot : (q : ℕ) → Some (Slot q) ≡ Some (File (spot_of p)) → ⊥
  no_slot q e = absurd (cc)

  by_since : (before now : Option At) → Since w before now → before ≢ Some (File (spot_of p)) → now ≢ Some (File (spot_of p))
  by_since before now (AsBefore same) none e = none (sym same ∙ e)
  by_since before now (ToNewSlot q past is) none e = no_slot q (sym is ∙ e)
  by_since before now (Nowhere is) none e = absurd (cc)

  made_free : NothingLeadsTo u (File (spot_of p))
  made_free = record {
    entries = λ g. by_since _ _ (entries_since w u vm whole after made unnamed g) (free.entries g);
    written = λ g there e. elim (written_since w u vm whole after made unnamed g there) [
      | inl old ↦ free.written g old.0 (sym old.1 ∙ e)
      | inr new ↦ no_slot (vcpus_in w.vms + g.vcpu) (sym new ∙ e)
    ];
    records = λ g there e. elim (named_since w u vm whole after made unnamed (λ s. s.in_force) refl g there) [
      | inl old ↦ free.records g old.0 (sym old.1 ∙ e)
      | inr new ↦ no_slot (vcpus_in w.vms + g.vcpu) (sym new ∙ e)
    ];
    named = λ g there e. elim (named_since w u vm whole after made unnamed (λ s. s.written) refl g there) [
      | inl old ↦ free.named g old.0 (sym old.1 ∙ e)
      | inr new ↦ no_slot (vcpus_in w.vms + g.vcpu) (sym new ∙ e)
    ];
    flights = λ v k s is e. free.flights v k s (flight_since w u vm whole after made unnamed v k s is)
        (sym (led_made w u vm whole after made unnamed s.entry) ∙ e);
  }

-- ---- all of it

pub free_on : (w u : World) (p : GuestPlace) → IsWhole w → NothingLeadsTo w (File (spot_of p)) → (h : WorldChange w u) → IsElsewhere w u p h
    → NothingLeadsTo u (File (spot_of p))
free_on w u p whole free (DeviceStores v addr value s) other =
    let r = route_of (table_of w.tables v) addr in
    stored_free w u (File (spot_of p)) (reaches_rest r w u (addr % PAGE) value s) (route_words w u (addr % PAGE) value whole r s) free
free_on w u p whole free (PeerStores g value there s) other = stored_free w u (File (spot_of p))
    (record_rest (stage_of w g).in_force w u g value s) (record_words w u g (stage_of w g).in_force value whole there s) free
free_on w u p whole free (StoreIsSent v addr value s) other = sent_free w (File (spot_of p)) free u v addr value s
free_on w u p whole free (StoreLands v k l) other = landed_free w u (File (spot_of p)) v k whole free l
free_on w u p whole free (StoreIsTaken v k e) other = taken_free w (File (spot_of p)) free u v k e
free_on w u p whole free (MsiLands q offset value there s) other = stored_free w u (File (spot_of p)) (stores_rest w u (spot_of q) offset value s)
    (words_same w u (ap (λ (x : World). x.memory) s.rest)) free
free_on w u p whole free (MsiIsRelayed g value there s) other =
    stored_free w u (File (spot_of p)) (record_rest None w u g value s) (record_words w u g None value whole there s) free
free_on w u p whole free (EntryIsRead g there e) other =
    subst (λ (x : World). NothingLeadsTo x (File (spot_of p))) (sym e) (read_free w g (File (spot_of p)) whole there free)
free_on w u p whole free (EntryIsFenced g there f) other = fenced_free w u g (File (spot_of p)) there free f
free_on w u p whole free (SlotIsReached q threshold deed low done) other = stored_free w u (File (spot_of p))
    (by_parts w u w.imsic.files u.memory w.notices done.rest) (λ g. done_entry_words w u q threshold deed low done g.vm g.vcpu) free
free_on w u p whole free (FileIsReached spot there changed) other = stored_free w u (File (spot_of p))
    (by_parts w u (with_file w.imsic spot (file_at u.imsic spot)).files w.memory u.notices changed)
    (words_same w u (ap (λ (x : World). x.memory) changed)) free
free_on w u p whole free (MoveSteps other led theirs seen landed hand two fine knows first step) elsewhere =
    step_free w p other led theirs seen whole two fine knows elsewhere free landed u hand first step
free_on w u p whole free (VmIsMade vm after made unnamed) other = made_free w u p vm whole after made unnamed free

-- ---- a new machine

pub new_free : (w : World) (harts guests n : ℕ) (p : GuestPlace) → IsNew w harts guests n → NothingLeadsTo w (File (spot_of p))
new_free w harts guests n p new = record {
  entries = λ g e. no_entry g (ap (λ (x : World). table_of x.tables g.vm) new.world) e;
  written = λ g there. absurd (nobody g there);
  records = λ g there. absurd (nobody g there);
  named = λ g there. absurd (nobody g there);
  flights = λ v k s is. absurd (none_flies v k s (ap (λ (x : World). flight_of x v) new.world) is);
}
  where
    no_entry : (g : Vcpu) → table_of w.tables g.vm ≡ no_table → led_by_entry w (entry_of w g) ≢ Some (File (spot_of p))
    no_entry g none e =
        let is : entry_of w g ≡ NotValid = ap (λ (t : TableState). entry_in_force t g.vcpu) none in
        let no : None ≡ Some (File (spot_of p)) = ap (led_by_entry w) (sym is) ∙ e in absurd (cc)

    nobody : (g : Vcpu) → is_vcpu_in w.vms g ≡ true → ⊥
    nobody g there =
        let none : is_vcpu_in w.vms g ≡ is_vcpu_in [] g = ap (λ (x : World). is_vcpu_in x.vms g) new.world in
        let low : is_vcpu_in [] g ≡ false = grind (arith, nat_tests) in
        false≢true (sym low ∙ sym none ∙ there)

    none_flies : (v k : ℕ) (s : Flying) → flight_of w v ≡ [] → slice_get (flight_of w v) k ≡ Some s → ⊥
    none_flies v k s none is = let no : None ≡ Some s = ap (λ xs. slice_get xs k) (sym none) ∙ is in absurd (cc)
