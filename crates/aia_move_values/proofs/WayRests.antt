-- What happens beside the doings of a virtual hart leaves known what is known of it, at rest or
-- moved.
use Rattle.std.proofs.Common.{◌≡◌, ◌≢◌, ℕ, ◌+◌, ◌/◌, ◌%◌, ◌≤◌, nat_lt, Bool, true, false, if◌then◌else◌, Option, Some, None, ◌⊎◌, inl, inr, refl, sym, ap, ◌∙◌, subst, arith}
use Rattle.std.proofs.lemmas.Bool.{cases_Bool, eqb-true, ne_eqb, lt-ltb, false≢true}
use Rattle.std.proofs.lemmas.Bool.Decides.{nat_tests}
use Rattle.aia_regs.specs.declared.address_map.TheConstants.{PAGE}
use Rattle.aia_file.specs.InterruptFile.{InterruptFile}
use Rattle.aia_file.specs.declared.spot.Spot.{Spot}
use Rattle.aia_file.specs.declared.spot.Spot.TheVariants.{GuestFile}
use Rattle.aia_file.specs.Imsic.{IsThere}
use Rattle.aia_vcpu.specs.declared.place.GuestPlace.{GuestPlace}
use Rattle.aia_vcpu.specs.declared.vm.Vm.{Vm}
use Rattle.aia_vcpu.specs.Vms.{Vcpu, is_vcpu, is_vcpu_in, vcpus_in, slot_of}
use Rattle.aia_vcpu.specs.Home.{Home, holds, is_moving}
use Rattle.aia_vcpu.specs.Home.Home.{InMemory, Resident, OnWay}
use Rattle.aia_vcpu.specs.Routes.{origin, entry_names, is_at_fence, MayLand}
use Rattle.aia_vcpu.specs.Aims.{pass_reaches}
use Rattle.aia_vcpu.proofs.HomeLemmas.{same_place}
use Rattle.aia_vcpu.proofs.PassLemmas.{pass_lands}
use Rattle.aia_vcpu.proofs.VmLemmas.{same_vcpu, same_slot, slot_below}
use Rattle.aia_vcpu_places.specs.Holds.{Holds, IsWithin}
use Rattle.aia_vcpu_places.specs.Places.{Places}
use Rattle.aia_vcpu_places.specs.Stores.{AreApart}
use Rattle.aia_fabric_values.specs.declared.at.At.{At}
use Rattle.aia_fabric_values.specs.declared.at.At.TheVariants.{Slot}
use Rattle.aia_fabric_values.specs.declared.stage.Stage.{Stage}
use Rattle.aia_entry.specs.Tables.{table_of, route_of}
use Rattle.aia_fabric_values.specs.World.{World, flight_of, stage_of, no_stage}
use Rattle.aia_fabric_values.specs.Whole.{IsWhole}
use Rattle.aia_fabric_values.specs.Making.{MakesVm}
use Rattle.aia_fabric_values.specs.Changes.{spot_of}
use Rattle.aia_fabric_values.specs.Stores.{StoresIn, ReachesByRecord}
use Rattle.aia_fabric_values.proofs.FrameLemmas.{stores_rest, record_rest}
use Rattle.aia_move_values.specs.Views.{places_of}
use Rattle.aia_move_values.specs.Move.{Moving, mover, width}
use Rattle.aia_move_values.specs.PlanState.{PlanState, moving_of}
use Rattle.aia_move_values.specs.Targets.{TargetMap, pass_count}
use Rattle.aia_move_values.specs.Ways.{led_by_entry, led_by_route, led_by_record, leads_here, KnowsAll, landed_if, landed_flight, reach_fetched}
use Rattle.aia_move_values.specs.WorldChanges.{OthersNameNothing, WorldChange, KnowsAtRest, IsAimedAt, IsOfOthers, file_after, reach_after}
use Rattle.aia_move_values.specs.WorldChanges.WorldChange.{DeviceStores, PeerStores, StoreIsSent, StoreLands, StoreIsTaken, MsiLands, MsiIsRelayed, EntryIsRead, EntryIsFenced, SlotIsReached, FileIsReached, MoveSteps, VmIsMade}
use Rattle.aia_move_values.proofs.KnowsLemmas.{knows_by, lands_knows, InPhase}
use Rattle.aia_move_values.proofs.WayLemmas.{record_elsewhere}
use Rattle.aia_move_values.proofs.WayFrames.{KnowsSo, words_same, record_words, stored_machine, stored_ways, so_of, all_of}
use Rattle.aia_move_values.proofs.WayKnows.{device_all, peer_all, sent_all, landed_all, taken_all}
use Rattle.aia_move_values.proofs.WayFences.{fetched_all, fenced_all, here_within, flight_within, no_vcpu}
use Rattle.aia_move_values.proofs.WayMoves.{slot_all, file_all, other_step}
use Rattle.aia_move_values.proofs.WayMade.{Since, places_made, fits_made, entries_since, written_since, named_since, flight_since, led_made}
use Rattle.aia_move_values.proofs.WayMade.Since.{AsBefore, ToNewSlot, Nowhere}

-- ---- a VM is made

module _ (w u : World) (map : TargetMap) (Q : ℕ → Type 0) (m : Moving) (reach : Option GuestPlace) (file : InterruptFile) (saw : Bool) (vm : Vm)
    (whole : IsWhole w) (after : IsWhole u) (made : MakesVm w u vm)
    (unnamed : OthersNameNothing w) (all : KnowsSo Q w map m reach file saw) where
  not_here : (q : ℕ) → vcpus_in w.vms ≤ q → leads_here m (Some (Slot q)) ≡ true → ⊥
  not_here q past led =
      let same = eqb-true q m.who.found.slot led in
      let low = slot_below w.vms (mover m) all.places.fits.there in
      omega (arith, same, low, past, all.places.fits.slot)

  by_since : (before now : Option At) → Since w before now → leads_here m now ≡ true → leads_here m before ≡ true
  by_since before now (AsBefore e) led = ap (leads_here m) (sym e) ∙ led
  by_since before now (ToNewSlot q past e) led = absurd (not_here q past (ap (leads_here m) (sym e) ∙ led))
  by_since before now (Nowhere e) led = absurd (false≢true (ap (leads_here m) (sym e) ∙ led))

  new_past : (g : Vcpu) → vcpus_in w.vms ≤ vcpus_in w.vms + g.vcpu
  new_past g = omega arith

  named_ways : (named : Stage → Option GuestPlace) → named no_stage ≡ None → (g : Vcpu) → is_vcpu_in u.vms g ≡ true → (now before : Option At)
      → (is_vcpu_in w.vms g ≡ true → leads_here m before ≡ true → g ≡ mover m) → (is_vcpu_in w.vms g ≡ true) × (now ≡ before)
      ⊎ (now ≡ Some (Slot (vcpus_in w.vms + g.vcpu))) → leads_here m now ≡ true → g ≡ mover m
  named_ways named none g there now before known (inl old) led = known old.0 (ap (leads_here m) (sym old.1) ∙ led)
  named_ways named none g there now before known (inr new) led =
      absurd (not_here (vcpus_in w.vms + g.vcpu) (new_past g) (ap (leads_here m) (sym new) ∙ led))

  pub made_so : KnowsSo Q u map m reach file saw
  made_so = record {
    places = record {
      fits = fits_made w u vm m whole made all.places.fits;
      phase = subst (λ n. Q ((n + 1) / 64)) (sym same_n) all.places.phase;
      holds = subst (λ n. Holds ((n + 1) / 64) m.who.found.slot m.who.found.notice reach (places_of u (mover m) m.home) m.home m.hand file saw)
          (sym same_n)
          (subst (λ (v : Places). Holds (width w) m.who.found.slot m.who.found.notice reach v m.home m.hand file saw)
          (sym (places_made w u vm whole made (mover m) all.places.fits.there m.home)) all.places.holds);
    };
    ways = record {
      entries = λ g led. all.ways.entries g (by_since _ _ (entries_since w u vm whole after made unnamed g) led);
      written = λ g there. named_ways (λ s. None) refl g there _ _ (all.ways.written g) (written_since w u vm whole after made unnamed g there);
      records = λ g there. named_ways (λ s. s.in_force) refl g there _ _ (all.ways.records g)
          (named_since w u vm whole after made unnamed (λ s. s.in_force) refl g there);
      named = λ g there. named_ways (λ s. s.written) refl g there _ _ (all.ways.named g)
          (named_since w u vm whole after made unnamed (λ s. s.written) refl g there);
      flying = λ v k s is led. all.ways.flying v k s (flight_since w u vm whole after made unnamed v k s is)
          (ap (leads_here m) (sym (led_made w u vm whole after made unnamed s.entry)) ∙ led);
    };
    targets = all.targets;
  }
    where
      same_n : u.n ≡ w.n
      same_n = ap (λ (x : World). x.n) made.rest

pub made_all : (w u : World) (map : TargetMap) (plan : PlanState) (reach : Option GuestPlace) (file : InterruptFile) (saw : Bool) (vm : Vm)
    → IsWhole w → IsWhole u → MakesVm w u vm → OthersNameNothing w
    → KnowsAll w map plan reach file saw → KnowsAll u map plan reach file saw
made_all w u map plan reach file saw vm whole after made unnamed all = all_of u map plan reach file saw
    (made_so w u map (InPhase plan) (moving_of plan) reach file saw vm whole after made unnamed (so_of w map plan reach file saw all))

-- ---- at rest

no_files : (there : Home) → is_moving there ≡ false → AreApart there
no_files (InMemory rest) rests = tt
no_files (Resident p) rests = tt
no_files (OnWay way at) rests = absurd (cc)

names_rest : (there : Home) → is_moving there ≡ false → entry_names there ≡ origin there
names_rest (InMemory rest) rests = refl
names_rest (Resident p) rests = refl
names_rest (OnWay way at) rests = absurd (cc)

never : (r : ℕ) (a b : Option GuestPlace) → (if nat_lt r 0 then a else b) ≡ b
never r a b = let e : nat_lt r 0 ≡ false = grind (arith, nat_tests) in ap (λ c. if c then a else b) e

lands_rest : (words : ℕ) (there : Home) → is_moving there ≡ false → (p : GuestPlace) → holds p there ≡ true → MayLand words there (Some p)
lands_rest words (InMemory rest) rests p held = absurd (false≢true held)
lands_rest words (Resident q) rests p held = inl (ap Some (same_place p q held), refl)
lands_rest words (OnWay way at) rests p held = absurd (cc)

passes_rest : (words r : ℕ) (there : Home) (place : Option GuestPlace) → is_moving there ≡ false → pass_reaches r there ≡ place
    → MayLand words there place
passes_rest words r (InMemory rest) place rests reaches = inl (sym reaches ∙ never r None None, refl)
passes_rest words r (Resident p) place rests reaches = inl (sym reaches ∙ never r None (Some p), refl)
passes_rest words r (OnWay way at) place rests reaches = absurd (cc)

-- ---- one of whom all is known, moved or at rest

abbrev spot_back : Spot → GuestPlace
spot_back (GuestFile hart file) = record { hart = hart; file = file }
spot_back spot = record { hart = 0; file = 0 }

module _ (w u : World) (map : TargetMap) (Q : ℕ → Type 0) (m : Moving) (reach : Option GuestPlace) (file : InterruptFile) (saw : Bool)
    (whole : IsWhole w) (apart : AreApart m.home) (within : IsWithin w.n (width w) file) (so : KnowsSo Q w map m reach file saw) where
  aimed_lands : (place : Option GuestPlace) → IsAimedAt m place → MayLand (width w) m.home place
  aimed_lands place aimed = elim (cases_Bool (is_moving m.home)) [
    | inl moves ↦ subst (MayLand (width w) m.home) aimed.reaches (pass_lands (pass_count m.who) (width w) aimed.pass m.home
        (lt-ltb aimed.pass (pass_count m.who) (aimed.passed moves)) so.targets.come)
    | inr rests ↦ passes_rest (width w) aimed.pass m.home place rests aimed.reaches
  ]

  held_lands : (p : GuestPlace) → holds p m.home ≡ true → (is_moving m.home ≡ true → holds p m.home ≡ true → IsAimedAt m (Some p))
      → MayLand (width w) m.home (Some p)
  held_lands p held aimed = elim (cases_Bool (is_moving m.home)) [
    | inl moves ↦ aimed_lands (Some p) (aimed moves held)
    | inr rests ↦ lands_rest (width w) m.home rests p held
  ]

  -- an MSI lands in a guest file
  msi_lands : (p : GuestPlace) (offset value : ℕ) → IsThere w.imsic (spot_of p) → StoresIn w u (spot_of p) offset value
      → (is_moving m.home ≡ true → holds p m.home ≡ true → IsAimedAt m (Some p)) → (b : Bool) → holds p m.home ≡ b
      → KnowsSo Q u map m reach (landed_if b offset value file) saw
  msi_lands p offset value there s aimed true held = record {
    places = lands_knows w u Q m reach file saw offset value whole apart within so.places (Some p) (held_lands p held aimed) s;
    ways = stored_ways w u m (stores_rest w u (spot_of p) offset value s) (words_same w u (ap (λ (x : World). x.memory) s.rest)) so.ways;
    targets = so.targets;
  }
  msi_lands p offset value there s aimed false none = file_all w u map Q m reach file saw so (spot_of p) there other
      (s.rest ∙ (λ k. record w { imsic = s.lands.others k; notices = (ap (λ (x : World). x.notices) (sym s.rest)) k }))
    where
      other : (r : GuestPlace) → holds r m.home ≡ true → spot_of p ≢ spot_of r
      other r held e = false≢true (sym none ∙ ap (λ (x : GuestPlace). holds x m.home) (ap spot_back e) ∙ held)

  -- one is given on to a slot
  msi_relayed : (g : Vcpu) (value : ℕ) → is_vcpu_in w.vms g ≡ true → ReachesByRecord None w u g value → (g ≡ mover m → IsAimedAt m None)
      → (b : Bool) → is_vcpu g (mover m) ≡ b → KnowsSo Q u map m reach (landed_if b 0 value file) saw
  msi_relayed g value there s aimed true own =
      let is = same_vcpu g (mover m) own in
      let its = subst (λ (x : Vcpu). ReachesByRecord None w u x value) is s in
      record {
        places = lands_knows w u Q m reach file saw 0 value whole apart within so.places None (aimed_lands None (aimed is)) its;
        ways = stored_ways w u m (record_rest None w u g value s) (record_words w u g None value whole there s) so.ways;
        targets = so.targets;
      }
  msi_relayed g value there s aimed false none =
      let other : leads_here m (led_by_record w g None) ≡ false = ne_eqb (slot_of w.vms g) m.who.found.slot
      (λ e. no_vcpu g (mover m) none (same_slot w.vms g (mover m) there so.places.fits.there (e ∙ so.places.fits.slot))) in
      let rest = record_rest None w u g value s in
      record {
        places = knows_by w u Q m reach saw (stored_machine w u rest) file file so.places (places_of w (mover m) m.home)
            (record_elsewhere w u m value whole so.places.fits g None there other s) so.places.holds;
        ways = stored_ways w u m rest (record_words w u g None value whole there s) so.ways;
        targets = so.targets;
      }

  happens_so : (h : WorldChange w u) → IsOfOthers w u m h → KnowsSo Q u map m (reach_after w u m h reach) (file_after w u m h file) saw
  happens_so (DeviceStores v addr value s) others = device_all w u map Q m reach file saw whole apart within so v addr value s
  happens_so (PeerStores g value there s) others = peer_all w u map Q m reach file saw whole apart within so g value there s
  happens_so (StoreIsSent v addr value s) others = sent_all w map Q m reach file saw so u v addr value s
  happens_so (StoreLands v k l) others = landed_all w u map Q m reach file saw whole apart within so v k l
  happens_so (StoreIsTaken v k e) others = taken_all w map Q m reach file saw so u v k e
  happens_so (MsiLands p offset value there s) others = msi_lands p offset value there s others (holds p m.home) refl
  happens_so (MsiIsRelayed g value there s) others = msi_relayed g value there s others (is_vcpu g (mover m)) refl
  happens_so (EntryIsRead g there e) others =
      subst (λ (x : World). KnowsSo Q x map m (reach_fetched (is_vcpu (mover m) g) m reach) file saw) (sym e)
      (fetched_all w g map Q m reach file saw whole there so)
  happens_so (EntryIsFenced g there f) others = fenced_all w u g map Q m reach file saw whole apart within there so f
  happens_so (SlotIsReached q threshold deed low done) others = slot_all w u map Q m reach file saw so q threshold deed low others done
  happens_so (FileIsReached spot there changed) others = file_all w u map Q m reach file saw so spot there others changed
  happens_so (MoveSteps other led theirs seen landed hand two fine knows first step) others =
      other_step w map Q m other reach led file theirs saw seen whole apart two within fine so knows others.0 others.1 landed u hand first step
  happens_so (VmIsMade vm after made unnamed) others = made_so w u map Q m reach file saw vm whole after made unnamed so

-- ---- at rest, and moved

-- no step of its own is known
abbrev NoMore : ℕ → Type 0
NoMore words = Unit {0}

module _ (w u : World) (map : TargetMap) (m : Moving) (file : InterruptFile) (whole : IsWhole w) (within : IsWithin w.n (width w) file)
    (all : KnowsAtRest w map m file) where
  -- its entry leads where it did, read again or not
  fetched : (b : Bool) → reach_fetched b m (origin m.home) ≡ origin m.home
  fetched true = names_rest m.home all.rests
  fetched false = refl

  stays : (h : WorldChange w u) → reach_after w u m h (origin m.home) ≡ origin m.home
  stays (EntryIsRead g there e) = fetched (is_vcpu (mover m) g)
  stays (EntryIsFenced g there f) = fetched (is_vcpu (mover m) g)
  stays h = refl

  pub rests_on : (h : WorldChange w u) → IsOfOthers w u m h → KnowsAtRest u map m (file_after w u m h file)
  rests_on h others =
      let before : KnowsSo NoMore w map m (origin m.home) file false = record {
        places = record { fits = all.fits; phase = tt; holds = all.holds };
        ways = all.ways;
        targets = all.targets;
      } in
      let after = subst (λ (reach : Option GuestPlace). KnowsSo NoMore u map m reach (file_after w u m h file) false) (stays h)
      (happens_so w u map NoMore m (origin m.home) file false whole (no_files m.home all.rests) within before h others) in
      record { rests = all.rests; fits = after.places.fits; holds = after.places.holds; ways = after.ways; targets = after.targets }

pub happens_all : (w u : World) (map : TargetMap) (plan : PlanState) (reach : Option GuestPlace) (file : InterruptFile) (saw : Bool) → IsWhole w
    → AreApart (moving_of plan).home → IsWithin w.n (width w) file → KnowsAll w map plan reach file saw → (h : WorldChange w u)
    → IsOfOthers w u (moving_of plan) h
    → KnowsAll u map plan (reach_after w u (moving_of plan) h reach) (file_after w u (moving_of plan) h file) saw
happens_all w u map plan reach file saw whole apart within all h others =
    all_of u map plan (reach_after w u (moving_of plan) h reach) (file_after w u (moving_of plan) h file) saw
    (happens_so w u map (InPhase plan) (moving_of plan) reach file saw whole apart within (so_of w map plan reach file saw all) h others)

-- ---- what lands is within its file

pub happens_within : (w u : World) (m : Moving) (n words : ℕ) (file : InterruptFile) → IsWithin n words file → (h : WorldChange w u)
    → IsWithin n words (file_after w u m h file)
happens_within w u m n words file within (DeviceStores v addr value s) =
    here_within n words (leads_here m (led_by_route w (route_of (table_of w.tables v) addr))) (addr % PAGE) value file within
happens_within w u m n words file within (PeerStores g value there s) =
    here_within n words (leads_here m (led_by_record w g (stage_of w g).in_force)) 0 value file within
happens_within w u m n words file within (StoreIsSent v addr value s) = within
happens_within w u m n words file within (StoreLands v k l) =
    here_within n words (leads_here m (led_by_entry w l.store.entry)) l.store.offset l.store.value file within
happens_within w u m n words file within (StoreIsTaken v k e) = within
happens_within w u m n words file within (MsiLands p offset value there s) = here_within n words (holds p m.home) offset value file within
happens_within w u m n words file within (MsiIsRelayed g value there s) = here_within n words (is_vcpu g (mover m)) 0 value file within
happens_within w u m n words file within (EntryIsRead g there e) = within
happens_within w u m n words file within (EntryIsFenced g there f) = flight_within n words w m (flight_of w g.vm) file within
happens_within w u m n words file within (SlotIsReached q threshold deed low done) = within
happens_within w u m n words file within (FileIsReached spot there changed) = within
happens_within w u m n words file within (MoveSteps other led theirs seen landed hand two fine knows first step) =
    by_fence (is_at_fence (moving_of other).home)
  where
    by_fence : (b : Bool) → IsWithin n words (if b then landed_flight w m (flight_of w (moving_of other).who.found.vm) file else file)
    by_fence true = flight_within n words w m (flight_of w (moving_of other).who.found.vm) file within
    by_fence false = within
happens_within w u m n words file within (VmIsMade vm after made unnamed) = within
