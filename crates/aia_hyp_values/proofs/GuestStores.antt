-- What a store at the file of a virtual hart changes, wherever it lands: in a guest file that the
-- virtual hart holds, or in its slot of memory.
use Rattle.std.proofs.Common.{◌≡◌, ◌≢◌, ℕ, ◌+◌, ◌/◌, ◌<◌, ◌≤◌, Bool, true, false, ◌||◌, cond, get_or, List, length, ◌∷◌, Option, Some, None, inl, inr, refl, sym, ap, subst, ◌∙◌, arith}
use Rattle.std.proofs.lemmas.Bool.{or_right, cases_Bool, cond-true, cond-false, false≢true}
use Rattle.std.proofs.lemmas.List.{get_or-set_other}
use Rattle.aia_regs.specs.declared.limits.TheConstants.{IDENTITIES, VCPUS, SLOTS, WORDS_OF_SLOTS, MEMORY_WORDS, FILE_WORDS}
use Rattle.aia_regs.specs.Request.{requested}
use Rattle.aia_regs.proofs.RequestLemmas.{requested_in_range}
use Rattle.aia_file.specs.InterruptFile.{InterruptFile, SameFile, is_greatest_identity, empty_file, landed}
use Rattle.aia_file.specs.FileState.{FileState, shown}
use Rattle.aia_file.proofs.FileLemmas.{same_file}
use Rattle.aia_file.specs.declared.spot.Spot.{Spot}
use Rattle.aia_file.specs.declared.spot.Spot.TheVariants as spots
use Rattle.aia_file.specs.Imsic.{ImsicState, IsThere, file_at}
use Rattle.aia_file.proofs.PlaceLemmas.{kept_elsewhere}
use Rattle.aia_file.specs.declared.stored.Stored.{Stored}
use Rattle.aia_file.specs.declared.stored.Stored.TheVariants.{Discarded, Quiet, Notice}
use Rattle.aia_file.specs.Mrif.{mrif_in, pending_place, after_store, stored}
use Rattle.aia_file.specs.Words.{words_after_store}
use Rattle.aia_vcpu.specs.declared.place.GuestPlace.{GuestPlace}
use Rattle.aia_vcpu.specs.declared.vm.Vm.{Vm}
use Rattle.aia_vcpu.specs.Vms.{Vcpu, is_vcpu, vcpus_in, is_vcpu_in, slot_of, notice_identity, notice_hart}
use Rattle.aia_vcpu.specs.Home.{Home, is_place, holds}
use Rattle.aia_vcpu.specs.Home.Home.{Resident, OnWay}
use Rattle.aia_vcpu.specs.Home.Way.{Across}
use Rattle.aia_vcpu.specs.Routes.{peers_reach, MayLand, sends_notice}
use Rattle.aia_vcpu.proofs.RouteLemmas.{reach_lands, peers_may}
use Rattle.aia_model.proofs.ReachLemmas.{in_force_may}
use Rattle.aia_vcpu.specs.BySteps.{own_file, next_file}
use Rattle.aia_vcpu.proofs.VmLemmas.{slot_below, same_slot, same_vcpu}
use Rattle.aia_vcpu.proofs.AllLemmas.{any_vcpu, of_none}
use Rattle.aia_vcpu_places.specs.Places.{Places}
use Rattle.aia_vcpu_places.specs.Holds.{Holds, IsWithin}
use Rattle.aia_vcpu_places.specs.Stores.{places_landed, AreApart}
use Rattle.aia_vcpu_places.proofs.StoreLemmas.{lands}
use Rattle.aia_vcpu_places.proofs.WatchLemmas.{is_notice, notices_alike}
use Rattle.aia_entry.specs.Tables.{table_of, entry_in_force}
use Rattle.aia_fabric_values.specs.World.{World, OnlyStores, stage_of}
use Rattle.aia_move_values.proofs.MadeView.{few_words}
use Rattle.aia_fabric_values.specs.Stores.{LandsIn, StoresIn, Posts, NoticedBy, StoresInSlot, with_store}
use Rattle.aia_fabric_values.specs.Whole.{IsWhole}
use Rattle.aia_fabric_values.specs.Making.{entry_word_place}
use Rattle.aia_fabric_values.specs.Changes.{spot_of, file_in}
use Rattle.aia_move_values.specs.Views.{places_of}
use Rattle.aia_fabric_values.proofs.PlaceLemmas.{slot_takes_store, other_slot_stays}
use Rattle.aia_fabric_values.proofs.WholeLemmas.{width_at, notice_hart_there}
use Rattle.aia_model.specs.Event.{Event, History, greatest_identity_of, file_words}
use Rattle.aia_model.specs.Vms.{vms_of, has_vcpu}
use Rattle.aia_model.specs.FileAfter.{select_after, file_after}
use Rattle.aia_model.specs.FileAfter.FileDeed.{Stores, Rests}
use Rattle.aia_model.specs.GuestFile.{sent_to, guest_deed, guest_file, guest_select}
use Rattle.aia_model.specs.Flight.{Sending, flight, flying}
use Rattle.aia_model.proofs.FlightLemmas.{all_at}
use Rattle.aia_major.specs.Kept.{majors_shown}
use Rattle.aia_pool.specs.Leases.{is_out}
use Rattle.aia_model.specs.ReachOf.{in_force_of, sent_into, MayFly, AllMayFly, IsForOne}
use Rattle.aia_model.specs.HomeOf.{home}
use Rattle.aia_model.specs.Notice.{noticed, noticed_by_store, a_look_saw}
use Rattle.aia_model.specs.FileOf.{FileName, SupervisorFile, deed_at, notice_deed}
use Rattle.aia_model.proofs.FileLemmas.{same_or_other, is_file-itself, is_file-other}
use Rattle.aia_model.proofs.MoveLemmas.{is_itself, is_another}
use Rattle.aia_hyp_values.specs.Core.{VcpuRecord}
use Rattle.aia_hyp_values.specs.Core.{CoreState, no_record, record_of, hand_in}
use Rattle.aia_hyp_values.specs.HostFiles.{FileDone, host_spot, select_place}
use Rattle.aia_hyp_values.specs.Stands.{VcpuStands, is_held, CoreStands}
use Rattle.aia_hyp_values.proofs.NameLemmas.{no_guest, is_hosts, other_spot}
use Rattle.aia_move_values.specs.Touches.{SameMachine}
use Rattle.aia_vcpu.proofs.HomeLemmas.{same_place, is_itself_place, either_file, own_is_held, next_is_held, landing_is_held}
use Rattle.aia_hyp_values.proofs.VcpuLemmas.{IsQuiet, SameFor, IsHeld, MajorsRest, guest_rests, guest_done, files_alone}
use Rattle.aia_hyp_values.proofs.StandsLemmas.{count_after}
use Rattle.aia_hyp_values.proofs.EventLemmas.{Changes, as_it_was}
use Rattle.aia_fabric_values.proofs.FrameLemmas.{by_parts, stores_rest, posts_rest}
use Rattle.aia_hyp_values.proofs.WithinLemmas.{guest_within}

-- ---- where stores lead

by_step : (b : Bool) (x y : Option GuestPlace) (p : GuestPlace) (there : Home) → (x ≡ Some p → holds p there ≡ true)
    → (y ≡ Some p → holds p there ≡ true) → cond b x y ≡ Some p → holds p there ≡ true
by_step true x y p there f g e = f e
by_step false x y p there f g e = g e

pub devices_held : (h : History) (g : Vcpu) (p : GuestPlace) → in_force_of h g ≡ Some p → holds p (home h g) ≡ true
devices_held h g p e = landing_is_held (file_words h) (home h g) (in_force_of h g) p
    (reach_lands (file_words h) (home h g) (in_force_of h g) (in_force_may h g)) e

-- a store in flight goes where its virtual hart holds it
pub flying_held : (h : History) (v k : ℕ) (s : Sending) (p : GuestPlace) → AllMayFly h → flying h v k ≡ Some s → sent_into v s ≡ Some p
    → holds p (home h (sent_to v s)) ≡ true
flying_held h v k s p may is e =
    let g = sent_to v s in
    landing_is_held (file_words h) (home h g) (sent_into v s) p
    (reach_lands (file_words h) (home h g) (sent_into v s) (all_at (MayFly h v) k (flight h v) s is (may v))) e

pub peers_held : (h : History) (g : Vcpu) (p : GuestPlace) → peers_reach (home h g) ≡ Some p → holds p (home h g) ≡ true
peers_held h g p e = landing_is_held (file_words h) (home h g) (peers_reach (home h g)) p (peers_may (file_words h) (home h g)) e

-- ---- what the store makes of the world

-- it lands in a guest file, or in the slot
abbrev pub GuestStored : World → World → Vcpu → Option GuestPlace → ℕ → ℕ → Type 0
GuestStored w u g (Some p) offset value = StoresIn w u (spot_of p) offset value
GuestStored w u g None offset value = StoresInSlot w u (Some (slot_of w.vms g)) (spots.SupervisorFile (notice_hart w.vms g))
    (notice_identity w.vms g) offset value

-- ---- it lands in a guest file

file_landed : (w u : World) (p : GuestPlace) (offset value : ℕ) → StoresIn w u (spot_of p) offset value
    → shown (file_at u.imsic (spot_of p)) ≡ landed offset value (shown (file_at w.imsic (spot_of p)))
file_landed w u p offset value s = same_file _ _ s.lands.lands

other_file : (w u : World) (p q : GuestPlace) (offset value : ℕ) → StoresIn w u (spot_of p) offset value → IsThere w.imsic (spot_of p)
    → IsThere w.imsic (spot_of q) → is_place q p ≡ false → file_at u.imsic (spot_of q) ≡ file_at w.imsic (spot_of q)
other_file w u p q offset value s here there apart =
    ap (λ (i : ImsicState). file_at i (spot_of q)) s.lands.others
    ∙ kept_elsewhere w.imsic (spot_of p) (spot_of q) (file_at u.imsic (spot_of p)) here there (λ e. false≢true (sym apart ∙ by_spots q p e))
  where
    by_spots : (q p : GuestPlace) → spot_of q ≡ spot_of p → is_place q p ≡ true
    by_spots q p e =
        let hart : q.hart ≡ p.hart = cc in
        let file : q.file ≡ p.file = cc in
        ap (λ (r : GuestPlace). is_place r p) (ap (λ h. record { hart = h; file = q.file }) hart
        ∙ ap (λ f. record { hart = p.hart; file = f }) file) ∙ is_itself_place p

-- the places but for their files
view_with : (w : World) (g : Vcpu) (there : Home) (own next : InterruptFile) → Places
view_with w g there own next = record (places_of w g there) { own = own; next = next }

seen_by : (w u : World) (g : Vcpu) (there : Home) (own next : InterruptFile) → u ≡ record w { imsic = u.imsic } → file_in u (own_file there) ≡ own
    → file_in u (next_file there) ≡ next → places_of u g there ≡ view_with w g there own next
unfolding view_with
seen_by w u g there own next rest eo en =
    (λ k. record (places_of (rest k) g there) { own = file_in u (own_file there); next = file_in u (next_file there) })
    ∙ (λ k. record (places_of w g there) { own = eo k; next = en k })

-- of a resident virtual hart
pub resident_seen : (w u : World) (g : Vcpu) (p : GuestPlace) (own : InterruptFile) → u ≡ record w { imsic = u.imsic } → file_in u (Some p) ≡ own
    → places_of u g (Resident p) ≡ record (places_of w g (Resident p)) { own = own }
unfolding view_with
resident_seen w u g p own rest eo = seen_by w u g (Resident p) own (file_in w None) rest eo (ap (λ (w : World). file_in w None) rest)

pub view_stored : (w u : World) (g : Vcpu) (there : Home) (p : GuestPlace) (offset value : ℕ) → StoresIn w u (spot_of p) offset value
    → ((q : GuestPlace) → holds q there ≡ true → IsThere w.imsic (spot_of q)) → AreApart there → holds p there ≡ true
    → places_of u g there ≡ places_landed (Some p) there offset value (places_of w g there)
unfolding view_with
view_stored w u g (OnWay (Across from to) at) p offset value s held apart here = elim (cases_Bool (is_place p to)) [
  | inl e ↦
      let same = same_place p to e in
      let old = held from (ap (λ b. b || is_place from to) (is_itself_place from)) in
      let new = held to (or_right (is_place to from) (is_place to to) (is_itself_place to)) in
      let other : is_place from p ≡ false = ap (is_place from) same ∙ apart in
      seen_by w u g (OnWay (Across from to) at) (file_in w (Some from)) (landed offset value (file_in w (Some to))) s.rest
      (ap shown (other_file w u p from offset value s (subst (λ (x : GuestPlace). IsThere w.imsic (spot_of x)) (sym same) new) old other))
      (subst (λ (x : GuestPlace). shown (file_at u.imsic (spot_of x)) ≡ landed offset value (shown (file_at w.imsic (spot_of x)))) same
      (file_landed w u p offset value s))
      ∙ sym (cond-true _ _ _ e)
  | inr ne ↦
      let is : is_place p from ≡ true = left (is_place p from) (is_place p to) here ne in
      let same = same_place p from is in
      let old = held from (ap (λ b. b || is_place from to) (is_itself_place from)) in
      let new = held to (or_right (is_place to from) (is_place to to) (is_itself_place to)) in
      let other : is_place to p ≡ false = ap (is_place to) same ∙ turned from to apart in
      seen_by w u g (OnWay (Across from to) at) (landed offset value (file_in w (Some from))) (file_in w (Some to)) s.rest
      (subst (λ (x : GuestPlace). shown (file_at u.imsic (spot_of x)) ≡ landed offset value (shown (file_at w.imsic (spot_of x)))) same
      (file_landed w u p offset value s))
      (ap shown (other_file w u p to offset value s (subst (λ (x : GuestPlace). IsThere w.imsic (spot_of x)) (sym same) old) new other))
      ∙ sym (cond-false _ _ _ ne)
]
  where
    left : (a b : Bool) → (a || b) ≡ true → b ≡ false → a ≡ true
    left true b e n = refl
    left false b e n = absurd (false≢true (sym n ∙ e))

    turned : (p q : GuestPlace) → is_place p q ≡ false → is_place q p ≡ false
    turned p q e = elim (cases_Bool (is_place q p)) [
      | inl t ↦ absurd (false≢true (sym e ∙ ap (is_place p) (same_place q p t) ∙ is_itself_place p))
      | inr f ↦ f
    ]
view_stored w u g there p offset value s held apart here = elim (either_file p there here) [
  | inl is ↦
      seen_by w u g there (landed offset value (file_in w (own_file there))) (file_in w (next_file there)) s.rest
      (subst (λ o. file_in u o ≡ landed offset value (file_in w o)) (sym is) (file_landed w u p offset value s))
      (ap (λ (x : World). file_in x None) s.rest)
  | inr none ↦ absurd (cc)
]

-- ---- it lands in the slot

abbrev pub slot_words : World → Vcpu → ℕ → ℕ → List ℕ
slot_words w g offset value = words_after_store w.memory (slot_of w.vms g) (requested IDENTITIES offset value)

-- the words of tables stay
table_word : (words : List ℕ) (q place offset value : ℕ) → q < SLOTS → WORDS_OF_SLOTS ≤ place
    → get_or (words_after_store words q (requested IDENTITIES offset value)) place 0 ≡ get_or words place 0
table_word words q place offset value few past =
    by_request (requested IDENTITIES offset value) (λ i e. (requested_in_range IDENTITIES offset value i e).1)
  where
    by_request : (o : Option ℕ) → ((i : ℕ) → o ≡ Some i → i ≤ IDENTITIES) → get_or (words_after_store words q o) place 0 ≡ get_or words place 0
    by_request None small = refl
    by_request (Some i) small =
        let low = small i refl in
        get_or-set_other words (pending_place q (i / 64)) place _ 0 (λ e. omega (arith, few, past, low, e))

pub slot_landed : (w : World) (q offset value : ℕ) → length w.memory ≡ MEMORY_WORDS → q < SLOTS
    → mrif_in (words_after_store w.memory q (requested IDENTITIES offset value)) q ≡ after_store offset value (mrif_in w.memory q)
slot_landed w q offset value size few =
    let same = slot_takes_store w.memory q offset value (omega (arith, size, few)) in
    λ k. record { pending = λ i. same.pending i k; enabled = λ i. same.enabled i k }

-- in another world which has the slot's words, and the same guest files, tables and records
pub record SlotStored (w u : World) (g : Vcpu) (offset value : ℕ) : Type 0 where
  pub rest : OnlyStores w u
  pub memory : u.memory ≡ slot_words w g offset value
  pub files : (p : GuestPlace) → IsThere w.imsic (spot_of p) → file_at u.imsic (spot_of p) ≡ file_at w.imsic (spot_of p)

-- the entry of a virtual hart lies past all slots
past_slots : (g : Vcpu) → WORDS_OF_SLOTS ≤ entry_word_place g.vm g.vcpu
past_slots g = omega arith

-- another virtual hart has all that it had
slot_others : (w u : World) (g other : Vcpu) (there : Home) (offset value : ℕ) → SlotStored w u g offset value → slot_of w.vms g < SLOTS
    → slot_of w.vms other ≢ slot_of w.vms g → ((p : GuestPlace) → holds p there ≡ true → IsThere w.imsic (spot_of p)) → SameFor w u other there
slot_others w u g other there offset value s few apart held = record {
  n = ap (λ (x : World). x.n) s.rest;
  files = λ p holding. s.files p (held p holding);
  slot = (λ k. mrif_in (s.memory k) (slot_of (s.rest k).vms other))
      ∙ other_slot_stays w.memory (slot_of w.vms g) (slot_of w.vms other) offset value (λ e. apart (sym e));
  word0 = ap (λ words. get_or words (entry_word_place other.vm other.vcpu) 0) s.memory
      ∙ table_word w.memory (slot_of w.vms g) (entry_word_place other.vm other.vcpu) offset value few (past_slots other);
  word1 = ap (λ words. get_or words (entry_word_place other.vm other.vcpu + 1) 0) s.memory
      ∙ table_word w.memory (slot_of w.vms g) (entry_word_place other.vm other.vcpu + 1) offset value few
      (let past = past_slots other in omega (arith, past));
  in_force = ap (λ (x : World). entry_in_force (table_of x.tables other.vm) other.vcpu) s.rest;
  stage = ap (λ (x : World). stage_of x other) s.rest;
}

-- its own places show the store in the slot
slot_view : (w u : World) (g : Vcpu) (there : Home) (offset value : ℕ) → SlotStored w u g offset value → length w.memory ≡ MEMORY_WORDS
    → slot_of w.vms g < SLOTS → ((p : GuestPlace) → holds p there ≡ true → IsThere w.imsic (spot_of p))
    → places_of u g there ≡ places_landed None there offset value (places_of w g there)
slot_view w u g there offset value s size few held =
    let own = file_stays (own_file there) (λ p e. held p (own_is_held there p e)) in
    let next = file_stays (next_file there) (λ p e. held p (next_is_held there p e)) in
    let slot : mrif_in u.memory (slot_of u.vms g) ≡ after_store offset value (mrif_in w.memory (slot_of w.vms g)) =
    (λ k. mrif_in (s.memory k) (slot_of (s.rest k).vms g)) ∙ slot_landed w (slot_of w.vms g) offset value size few in
    let word0 = ap (λ words. get_or words (entry_word_place g.vm g.vcpu) 0) s.memory
    ∙ table_word w.memory (slot_of w.vms g) (entry_word_place g.vm g.vcpu) offset value few (past_slots g) in
    let word1 = ap (λ words. get_or words (entry_word_place g.vm g.vcpu + 1) 0) s.memory
    ∙ table_word w.memory (slot_of w.vms g) (entry_word_place g.vm g.vcpu + 1) offset value few
    (let past = past_slots g in omega (arith, past)) in
    λ k. record {
      own = own k;
      next = next k;
      slot = slot k;
      word0 = word0 k;
      word1 = word1 k;
      in_force = entry_in_force (table_of (s.rest k).tables g.vm) g.vcpu;
      stage = (stage_of (s.rest k) g).written;
      stage_in_force = (stage_of (s.rest k) g).in_force;
    }
  where
    file_stays : (o : Option GuestPlace) → ((p : GuestPlace) → o ≡ Some p → IsThere w.imsic (spot_of p)) → file_in u o ≡ file_in w o
    file_stays None there = ap (λ (x : World). empty_file x.n) s.rest
    file_stays (Some p) there = ap shown (s.files p (there p refl))

-- ---- what it changes of a core

-- what is so of an event that is a store at the file of a virtual hart, which goes to `reach`
pub record IsMeantFor (x y : CoreState) (h : History) (event : Event) (g : Vcpu) (reach : Option GuestPlace) (offset value : ℕ) : Type 0 where
  pub stands : CoreStands x h
  pub whole : IsWhole x.world
  pub quiet : IsQuiet h event
  pub there : has_vcpu h g ≡ true
  pub leads : MayLand (file_words h) (home h g) reach
  pub majors : (other : Vcpu) → MajorsRest other event
  pub deeds : (other : Vcpu) → guest_deed other h event ≡ cond (is_vcpu other g) (Stores offset value) Rests
  pub leases : y.leases ≡ x.leases
  pub vcpus : y.vcpus ≡ x.vcpus
  pub selects : y.selects ≡ x.selects
  pub passes : y.passes ≡ x.passes

-- what a call says of it
pub record IsStoredFor (x y : CoreState) (h : History) (event : Event) (g : Vcpu) (reach : Option GuestPlace) (offset value : ℕ) : Type 0 where
  pub meant : IsMeantFor x y h event g reach offset value
  pub notices : noticed h event ≡ noticed_by_store h g reach offset value
  pub host : (f : FileName) → deed_at f h event ≡ notice_deed h f (noticed h event)
  pub stores : GuestStored x.world y.world g reach offset value

noticed_vms : (s : Stored) (w u : World) (hart identity : ℕ) → NoticedBy s w u (spots.SupervisorFile hart) identity → u.vms ≡ w.vms
noticed_vms Notice w u hart identity by = ap (λ (w : World). w.vms) by.rest
noticed_vms Quiet w u hart identity by = ap (λ (w : World). w.vms) by
noticed_vms Discarded w u hart identity by = ap (λ (w : World). w.vms) by

stored_vms : (w u : World) (g : Vcpu) (reach : Option GuestPlace) (offset value : ℕ) → GuestStored w u g reach offset value → u.vms ≡ w.vms
stored_vms w u g (Some p) offset value s = ap (λ (w : World). w.vms) s.rest
stored_vms w u g None offset value s = noticed_vms (stored (mrif_in w.memory (slot_of w.vms g)) (requested IDENTITIES offset value))
    (with_store w (slot_of w.vms g) offset value) u (notice_hart w.vms g) (notice_identity w.vms g) s

-- the places of the virtual hart hold the file with the store
held_stored : (x y : CoreState) (h : History) (event : Event) (g : Vcpu) (reach : Option GuestPlace) (offset value : ℕ)
    → SameMachine x.world y.world → IsMeantFor x y h event g reach offset value
    → places_of y.world g (home h g) ≡ places_landed reach (home h g) offset value (places_of x.world g (home h g)) → VcpuStands x h g
    → VcpuStands y (event ∷ h) g
held_stored x y h event g reach offset value machine c shows p =
    let greatest : is_greatest_identity (greatest_identity_of h) ≡ true =
    subst (λ n. is_greatest_identity n ≡ true) c.stands.greatest c.whole.greatest in
    let within = guest_within h g greatest in
    let few : file_words h ≤ FILE_WORDS = few_words (greatest_identity_of h) greatest in
    let deed : guest_deed g h event ≡ Stores offset value = c.deeds g ∙ cond-true _ _ _ (is_itself g) in
    let same : record_of y g ≡ record_of x g = λ k. get_or (c.vcpus k) (slot_of (vms k) g) no_record in
    guest_done x y h event g c.quiet.stays machine (ap (λ (r : VcpuRecord). r.stay) same)
    (ap (λ (r : VcpuRecord). r.select) same ∙ ap (λ d. select_after d (record_of x g).select) (sym deed))
    (ap (λ (r : VcpuRecord). majors_shown r.majors) same ∙ sym (c.majors g (majors_shown (record_of x g).majors)))
    (λ held. subst IsHeld (λ k. record {
      words = file_words h;
      slot = slot_of (vms_of h) g;
      hart = notice_hart (vms_of h) g;
      reach = in_force_of h g;
      shows = sym shows k;
      there = home h g;
      hand = hand_in (record_of x g).stay;
      file = file_after (guest_select h g) (sym deed k) (guest_file h g);
      saw = a_look_saw h g;
    }) (landing reach c.leads within few held)) p
  where
    vms : y.world.vms ≡ x.world.vms
    vms = machine.vms

    n_of : (o : Option GuestPlace) → ((p : GuestPlace) → o ≡ Some p → IsThere x.world.imsic (spot_of p))
        → (file_in x.world o).n ≡ greatest_identity_of h
    n_of None inside = c.stands.greatest
    n_of (Some p) inside = width_at x.world (spot_of p) c.whole (inside p refl) ∙ c.stands.greatest

    landing : (reach : Option GuestPlace) → MayLand (file_words h) (home h g) reach
        → IsWithin (greatest_identity_of h) (file_words h) (guest_file h g) → file_words h ≤ FILE_WORDS
        → Holds (file_words h) (slot_of (vms_of h) g) (notice_hart (vms_of h) g) (in_force_of h g) (places_of x.world g (home h g)) (home h g)
        (hand_in (record_of x g).stay) (guest_file h g) (a_look_saw h g)
        → Holds (file_words h) (slot_of (vms_of h) g) (notice_hart (vms_of h) g) (in_force_of h g)
        (places_landed reach (home h g) offset value (places_of x.world g (home h g))) (home h g) (hand_in (record_of x g).stay)
        (landed offset value (guest_file h g)) (a_look_saw h g)
    landing reach may within few held =
        lands (greatest_identity_of h) (file_words h) (slot_of (vms_of h) g) (notice_hart (vms_of h) g) offset value (in_force_of h g)
        (places_of x.world g (home h g)) (hand_in (record_of x g).stay) (guest_file h g) (a_look_saw h g) within few (home h g)
        (n_of (own_file (home h g)) (λ p o. c.stands.held g p c.there (own_is_held (home h g) p o)))
        (n_of (next_file (home h g)) (λ p o. c.stands.held g p c.there (next_is_held (home h g) p o))) (c.stands.vcpus g c.there).two_files
        reach may held

-- ---- all that it changes

pub not_out : (h : History) (g : Vcpu) (p : GuestPlace) → has_vcpu h g ≡ true → holds p (home h g) ≡ true → is_held h p ≡ false → ⊥
not_out h g p there holding none = false≢true (sym none ∙ any_vcpu (vms_of h) (λ g. holds p (home h g)) g there holding)

others_rest : (h : History) (event : Event) (g other : Vcpu) (offset value : ℕ)
    → guest_deed other h event ≡ cond (is_vcpu other g) (Stores offset value) Rests → is_vcpu other g ≡ false → guest_deed other h event ≡ Rests
others_rest h event g other offset value is ne = is ∙ cond-false _ _ _ ne

missing_rests : (h : History) (event : Event) (g other : Vcpu) (offset value : ℕ)
    → guest_deed other h event ≡ cond (is_vcpu other g) (Stores offset value) Rests → has_vcpu h g ≡ true → has_vcpu h other ≡ false
    → guest_deed other h event ≡ Rests
missing_rests h event g other offset value is there outside =
    others_rest h event g other offset value is (is_another other g (λ e. false≢true (sym outside ∙ ap (has_vcpu h) e ∙ there)))

pub slot_is : (x : CoreState) (h : History) (g : Vcpu) → CoreStands x h → slot_of x.world.vms g ≡ slot_of (vms_of h) g
slot_is x h g stands = ap (λ vms. slot_of vms g) stands.vms

pub slot_few : (x : CoreState) (h : History) (g : Vcpu) → CoreStands x h → IsWhole x.world → has_vcpu h g ≡ true → slot_of x.world.vms g < SLOTS
slot_few x h g stands whole there =
    let below = slot_below (vms_of h) g there in
    let all : vcpus_in (vms_of h) ≤ VCPUS = subst (λ (vs : List Vm). vcpus_in vs ≤ VCPUS) stands.vms whole.vcpus in
    omega (arith, below, all, slot_is x h g stands)

pub slots_apart : (x : CoreState) (h : History) (g other : Vcpu) → CoreStands x h → has_vcpu h g ≡ true → has_vcpu h other ≡ true → other ≢ g
    → slot_of x.world.vms other ≢ slot_of x.world.vms g
slots_apart x h g other stands there inside ne e =
    ne (same_slot (vms_of h) other g inside there (sym (slot_is x h other stands) ∙ e ∙ slot_is x h g stands))

-- a host's file is none of guests'
host_stays : (x y : CoreState) (h : History) (p : GuestPlace) (offset value : ℕ) (f : FileName)
    → StoresIn x.world y.world (spot_of p) offset value → IsThere x.world.imsic (spot_of p) → y.selects ≡ x.selects
    → IsThere x.world.imsic (host_spot f) → FileDone x y f Rests
host_stays x y h p offset value f s here selects inside = record {
  file = subst (λ (file : FileState). SameFile (shown file) (shown (file_at x.world.imsic (host_spot f))))
      (sym (ap (λ (i : ImsicState). file_at i (host_spot f)) s.lands.others
      ∙ kept_elsewhere x.world.imsic (spot_of p) (host_spot f) (file_at y.world.imsic (spot_of p)) here inside
      (λ e. no_guest (host_spot f) (is_hosts f) p.hart p.file (sym e)))) (as_it_was (shown (file_at x.world.imsic (host_spot f))));
  select = ap (λ xs. get_or xs (select_place f) 0) selects;
}

-- where the event is nothing to the host
pub file_changes : (x y : CoreState) (h : History) (event : Event) (g : Vcpu) (p : GuestPlace) (offset value : ℕ)
    → IsMeantFor x y h event g (Some p) offset value → noticed h event ≡ None
    → ((f : FileName) → IsThere x.world.imsic (host_spot f) → deed_at f h event ≡ Rests) → StoresIn x.world y.world (spot_of p) offset value
    → Changes x y h event
file_changes x y h event g p offset value c quiet rests s =
    let holding = landing_is_held (file_words h) (home h g) (Some p) p c.leads refl in
    let here = c.stands.held g p c.there holding in
    let machine : SameMachine x.world y.world = record {
      n = ap (λ (w : World). w.n) s.rest;
      vms = ap (λ (w : World). w.vms) s.rest;
      harts = ap (λ (i : ImsicState). i.harts) s.lands.others;
      guests = ap (λ (i : ImsicState). i.guests) s.lands.others;
    } in
    record {
      quiet = c.quiet;
      rest = stores_rest x.world y.world (spot_of p) offset value s;
      leases = c.leases;
      passes = c.passes;
      records = ap (λ (rs : List VcpuRecord). length rs) c.vcpus;
      count = ap (λ (w : World). w.notices) s.rest ∙ ap (λ who. count_after who x.world.notices) (sym quiet);
      host = λ f inside. subst (FileDone x y f) (sym (rests f inside)) (host_stays x y h p offset value f s here c.selects inside);
      vcpus = λ other inside stood. elim (cases_Bool (is_vcpu other g)) [
        | inl e ↦
            let same = same_vcpu other g e in
            subst (VcpuStands y (event ∷ h)) (sym same) (held_stored x y h event g (Some p) offset value machine c
            (view_stored x.world y.world g (home h g) p offset value s (λ q held. c.stands.held g q c.there held)
            (c.stands.vcpus g c.there).two_files holding) (subst (VcpuStands x h) same stood))
        | inr ne ↦ guest_rests x y h event other c.quiet.stays machine (others_rest h event g other offset value (c.deeds other) ne)
            (c.majors other) (λ k. get_or (c.vcpus k) (slot_of ((s.rest k).vms) other) no_record)
            (files_alone x.world y.world other (home h other) s.rest (λ q held.
            let there = c.stands.held other q inside held in
            other_file x.world y.world p q offset value s here there (elim (cases_Bool (is_place q p)) [
              | inl e ↦ absurd (false≢true (sym ne ∙ ap (λ z. is_vcpu z g)
                  (c.stands.apart other g p inside c.there (subst (λ r. holds r (home h other) ≡ true) (same_place q p e) held) holding)
                  ∙ is_itself g))
              | inr f ↦ f
            ]))) stood
      ];
      free_files = λ q inside none. other_file x.world y.world p q offset value s here inside (elim (cases_Bool (is_place q p)) [
        | inl e ↦ absurd (not_out h g p c.there holding (subst (λ r. is_held h r ≡ false) (same_place q p e) none))
        | inr f ↦ f
      ]);
      no_vcpu = λ other outside. missing_rests h event g other offset value (c.deeds other) c.there outside;
      no_majors = λ other outside. c.majors other;
      no_slot = λ q past few. ap (λ (w : World). mrif_in w.memory q) s.rest;
    }

in_a_file : (x y : CoreState) (h : History) (event : Event) (g : Vcpu) (p : GuestPlace) (offset value : ℕ)
    → IsStoredFor x y h event g (Some p) offset value → Changes x y h event
in_a_file x y h event g p offset value d = file_changes x y h event g p offset value d.meant d.notices
    (λ f inside. d.host f ∙ ap (notice_deed h f) d.notices) d.stores

-- ---- in the slot, with a notice or without

-- what is then left to be known
pub record HasLanded (x y : CoreState) (h : History) (event : Event) (g : Vcpu) (offset value : ℕ) : Type 0 where
  pub slot : SlotStored x.world y.world g offset value
  pub count : y.world.notices ≡ count_after (noticed h event) x.world.notices
  pub host : (f : FileName) → IsThere x.world.imsic (host_spot f) → FileDone x y f (deed_at f h event)

pub landed_changes : (x y : CoreState) (h : History) (event : Event) (g : Vcpu) (offset value : ℕ) → IsMeantFor x y h event g None offset value
    → HasLanded x y h event g offset value → Changes x y h event
landed_changes x y h event g offset value c l =
    let few = slot_few x h g c.stands c.whole c.there in
    let machine : SameMachine x.world y.world = record {
      n = ap (λ (w : World). w.n) l.slot.rest;
      vms = ap (λ (w : World). w.vms) l.slot.rest;
      harts =
          ap (λ (w : World). w.imsic.harts) l.slot.rest;
      guests = ap (λ (w : World). w.imsic.guests) l.slot.rest;
    } in
    record {
      quiet = c.quiet;
      rest = l.slot.rest;
      leases = c.leases;
      passes = c.passes;
      records = ap (λ (rs : List VcpuRecord). length rs) c.vcpus;
      count = l.count;
      host = l.host;
      vcpus = λ other inside stood. elim (cases_Bool (is_vcpu other g)) [
        | inl e ↦
            let same = same_vcpu other g e in
            subst (VcpuStands y (event ∷ h)) (sym same) (held_stored x y h event g None offset value machine c
            (slot_view x.world y.world g (home h g) offset value l.slot c.whole.memory few (λ q held. c.stands.held g q c.there held))
            (subst (VcpuStands x h) same stood))
        | inr ne ↦ guest_rests x y h event other c.quiet.stays machine (others_rest h event g other offset value (c.deeds other) ne)
            (c.majors other) (λ k. get_or (c.vcpus k) (slot_of (l.slot.rest k).vms other) no_record)
            (slot_others x.world y.world g other (home h other) offset value l.slot few
            (slots_apart x h g other c.stands c.there inside (λ e. false≢true (sym ne ∙ ap (λ z. is_vcpu z g) e ∙ is_itself g)))
            (λ q held. c.stands.held other q inside held)) stood
      ];
      free_files = λ q inside none. l.slot.files q inside;
      no_vcpu = λ other outside. missing_rests h event g other offset value (c.deeds other) c.there outside;
      no_majors = λ other outside. c.majors other;
      no_slot = λ q past less.
          let below = slot_below (vms_of h) g c.there in
          ap (λ ws. mrif_in ws q) l.slot.memory ∙ other_slot_stays x.world.memory (slot_of x.world.vms g) q offset value
          (λ e. omega (arith, below, past, e, slot_is x h g c.stands));
    }

quietly : (x y : CoreState) (h : History) (event : Event) (g : Vcpu) (offset value : ℕ) → IsStoredFor x y h event g None offset value
    → noticed h event ≡ None → y.world ≡ with_store x.world (slot_of x.world.vms g) offset value → HasLanded x y h event g offset value
quietly x y h event g offset value d quiet world = let c = d.meant in record {
  slot = record {
    rest = by_parts x.world y.world x.world.imsic.files (slot_words x.world g offset value) x.world.notices world;
    memory = ap (λ (w : World). w.memory) world;
    files = λ p inside. ap (λ (w : World). file_at w.imsic (spot_of p)) world;
  };
  count = ap (λ (w : World). w.notices) world ∙ ap (λ who. count_after who x.world.notices) (sym quiet);
  host = λ f inside. subst (FileDone x y f) (sym (d.host f ∙ ap (notice_deed h f) quiet)) (record {
    file = subst (λ (w : World). SameFile (shown (file_at w.imsic (host_spot f))) (shown (file_at x.world.imsic (host_spot f)))) (sym world)
        (as_it_was (shown (file_at x.world.imsic (host_spot f))));
    select = ap (λ xs. get_or xs (select_place f) 0) c.selects;
  });
}

notice_there : (x : CoreState) (h : History) (g : Vcpu) → CoreStands x h → IsWhole x.world → has_vcpu h g ≡ true
    → notice_hart x.world.vms g < x.world.imsic.harts
notice_there x h g stands whole there = notice_hart_there x.world g whole (subst (λ (vs : List Vm). is_vcpu_in vs g ≡ true) (sym stands.vms) there)

-- a notice lands in the file of the host that takes it
pub host_told : (x y : CoreState) (h : History) (event : Event) (g : Vcpu) → CoreStands x h → IsWhole x.world → has_vcpu h g ≡ true
    → y.selects ≡ x.selects → noticed h event ≡ Some g → ((f : FileName) → deed_at f h event ≡ notice_deed h f (noticed h event))
    → LandsIn x.world.imsic y.world.imsic (spots.SupervisorFile (notice_hart x.world.vms g)) 0 (notice_identity x.world.vms g) → (f : FileName)
    → IsThere x.world.imsic (host_spot f) → FileDone x y f (deed_at f h event)
host_told x y h event g stands whole inside_vm same_selects loud deeds lands f inside =
    let imsic = lands.others in
    let spot = spots.SupervisorFile (notice_hart x.world.vms g) in
    let there = notice_there x h g stands whole inside_vm in
    let hart : notice_hart x.world.vms g ≡ notice_hart (vms_of h) g = ap (λ vms. notice_hart vms g) stands.vms in
    let identity : notice_identity x.world.vms g ≡ notice_identity (vms_of h) g = ap (λ vms. notice_identity vms g) stands.vms in
    subst (FileDone x y f) (sym (deeds f ∙ ap (notice_deed h f) loud)) (elim (same_or_other f (SupervisorFile (notice_hart (vms_of h) g))) [
      | inl e ↦ subst (FileDone x y f) (sym (cond-true _ _ _ (is_file-itself f (SupervisorFile (notice_hart (vms_of h) g)) e))) (record {
        file = subst (λ (i : ℕ). SameFile (shown (file_at y.world.imsic (host_spot f)))
            (landed 0 i (shown (file_at x.world.imsic (host_spot f))))) identity
            (subst (λ (s : Spot). SameFile (shown (file_at y.world.imsic s))
            (landed 0 (notice_identity x.world.vms g) (shown (file_at x.world.imsic s))))
            (ap spots.SupervisorFile hart ∙ sym (ap host_spot e)) lands.lands);
        select = ap (λ xs. get_or xs (select_place f) 0) same_selects;
      })
      | inr ne ↦ subst (FileDone x y f) (sym (cond-false _ _ _ (is_file-other f (SupervisorFile (notice_hart (vms_of h) g)) ne))) (record {
        file = subst (λ (file : FileState). SameFile (shown file) (shown (file_at x.world.imsic (host_spot f))))
            (sym (ap (λ (i : ImsicState). file_at i (host_spot f)) imsic
            ∙ kept_elsewhere x.world.imsic spot (host_spot f) (file_at y.world.imsic spot) there inside
            (λ e. other_spot (SupervisorFile (notice_hart (vms_of h) g)) f ne (e ∙ ap spots.SupervisorFile hart))))
            (as_it_was (shown (file_at x.world.imsic (host_spot f))));
        select = ap (λ xs. get_or xs (select_place f) 0) same_selects;
      })
    ])

-- and no guest file has it
pub guests_untold : (x y : CoreState) (h : History) (g : Vcpu) → CoreStands x h → IsWhole x.world → has_vcpu h g ≡ true
    → LandsIn x.world.imsic y.world.imsic (spots.SupervisorFile (notice_hart x.world.vms g)) 0 (notice_identity x.world.vms g) → (p : GuestPlace)
    → IsThere x.world.imsic (spot_of p) → file_at y.world.imsic (spot_of p) ≡ file_at x.world.imsic (spot_of p)
guests_untold x y h g stands whole inside_vm lands p inside =
    let spot = spots.SupervisorFile (notice_hart x.world.vms g) in
    ap (λ (i : ImsicState). file_at i (spot_of p)) lands.others
    ∙ kept_elsewhere x.world.imsic spot (spot_of p) (file_at y.world.imsic spot) (notice_there x h g stands whole inside_vm) inside
    (no_guest spot refl p.hart p.file)

loudly : (x y : CoreState) (h : History) (event : Event) (g : Vcpu) (offset value : ℕ) → IsStoredFor x y h event g None offset value
    → noticed h event ≡ Some g
    → Posts (with_store x.world (slot_of x.world.vms g) offset value) y.world (spots.SupervisorFile (notice_hart x.world.vms g))
    (notice_identity x.world.vms g) → HasLanded x y h event g offset value
loudly x y h event g offset value d loud posts =
    let c = d.meant in
    let lands : LandsIn x.world.imsic y.world.imsic (spots.SupervisorFile (notice_hart x.world.vms g)) 0 (notice_identity x.world.vms g) =
    posts.lands in
    record {
      slot = record {
        rest = posts_rest (with_store x.world (slot_of x.world.vms g) offset value) y.world (spots.SupervisorFile (notice_hart x.world.vms g))
            (notice_identity x.world.vms g) posts;
        memory = ap (λ (w : World). w.memory) posts.rest;
        files = guests_untold x y h g c.stands c.whole c.there lands;
      };
      count = posts.count ∙ ap (λ who. count_after who x.world.notices) (sym loud);
      host = host_told x y h event g c.stands c.whole c.there c.selects loud d.host lands;
    }

-- whom the event notices, by what became of the store to the slot
pub who_by_store : (x y : CoreState) (h : History) (event : Event) (g : Vcpu) (offset value : ℕ) → IsMeantFor x y h event g None offset value
    → noticed h event ≡ noticed_by_store h g None offset value
    → (s : Stored) → s ≡ stored (mrif_in x.world.memory (slot_of x.world.vms g)) (requested IDENTITIES offset value)
    → noticed h event ≡ cond (is_notice s) (Some g) None
who_by_store x y h event g offset value c notices s e =
    let held = (c.stands.vcpus g c.there).holds in
    let greatest : is_greatest_identity (greatest_identity_of h) ≡ true =
    subst (λ n. is_greatest_identity n ≡ true) c.stands.greatest c.whole.greatest in
    let told : is_notice (stored (mrif_in x.world.memory (slot_of x.world.vms g)) (requested IDENTITIES offset value)) ≡ sends_notice
    (file_words h) (home h g) (guest_file h g).enabled (requested (greatest_identity_of h) offset value) =
    notices_alike (greatest_identity_of h) (file_words h) (slot_of (vms_of h) g) (notice_hart (vms_of h) g) (in_force_of h g)
    (places_of x.world g (home h g)) (home h g) (hand_in (record_of x g).stay) (guest_file h g) (a_look_saw h g) (guest_within h g greatest)
    (few_words (greatest_identity_of h) greatest) held offset value in
    notices ∙ ap (λ b. cond b (Some g) None) (sym told ∙ ap is_notice (sym e))

in_the_slot : (x y : CoreState) (h : History) (event : Event) (g : Vcpu) (offset value : ℕ) → IsStoredFor x y h event g None offset value
    → Changes x y h event
in_the_slot x y h event g offset value d = landed_changes x y h event g offset value d.meant
    (by_notice (stored (mrif_in x.world.memory (slot_of x.world.vms g)) (requested IDENTITIES offset value)) refl d.stores)
  where
    who : (s : Stored) → s ≡ stored (mrif_in x.world.memory (slot_of x.world.vms g)) (requested IDENTITIES offset value)
        → noticed h event ≡ cond (is_notice s) (Some g) None
    who = who_by_store x y h event g offset value d.meant d.notices

    by_notice : (s : Stored) → s ≡ stored (mrif_in x.world.memory (slot_of x.world.vms g)) (requested IDENTITIES offset value)
        → NoticedBy s (with_store x.world (slot_of x.world.vms g) offset value) y.world (spots.SupervisorFile (notice_hart x.world.vms g))
        (notice_identity x.world.vms g) → HasLanded x y h event g offset value
    by_notice Notice e by = loudly x y h event g offset value d (who Notice e) by
    by_notice Quiet e by = quietly x y h event g offset value d (who Quiet e) by
    by_notice Discarded e by = quietly x y h event g offset value d (who Discarded e) by

pub stored_for_guest : (x y : CoreState) (h : History) (event : Event) (g : Vcpu) (reach : Option GuestPlace) (offset value : ℕ)
    → IsStoredFor x y h event g reach offset value → Changes x y h event
stored_for_guest x y h event g (Some p) offset value c = in_a_file x y h event g p offset value c
stored_for_guest x y h event g None offset value c = in_the_slot x y h event g offset value c

-- ---- files that nobody holds

pub none_reaches : (x : CoreState) (h : History) (g : Vcpu) (p : GuestPlace) → CoreStands x h → has_vcpu h g ≡ true
    → IsThere x.world.imsic (spot_of p) → is_out x.leases p ≡ false → (in_force_of h g ≢ Some p) × (peers_reach (home h g) ≢ Some p)
none_reaches x h g p stands there inside free =
    let none : holds p (home h g) ≡ false = of_none (vms_of h) (λ g. holds p (home h g)) g (sym (stands.leases p inside) ∙ free) there in
    (λ e. false≢true (sym none ∙ devices_held h g p e), λ e. false≢true (sym none ∙ peers_held h g p e))

pub none_flies_there : (x : CoreState) (h : History) (v k : ℕ) (s : Sending) (p : GuestPlace) → CoreStands x h → flying h v k ≡ Some s
    → IsThere x.world.imsic (spot_of p) → is_out x.leases p ≡ false → sent_into v s ≢ Some p
none_flies_there x h v k s p stands is inside free e =
    let one : IsForOne h v s = all_at (IsForOne h v) k (flight h v) s is (stands.for_one v) in
    let none : holds p (home h (sent_to v s)) ≡ false =
    of_none (vms_of h) (λ g. holds p (home h g)) (sent_to v s) (sym (stands.leases p inside) ∙ free) one.there in
    false≢true (sym none ∙ flying_held h v k s p stands.may_fly is e)
