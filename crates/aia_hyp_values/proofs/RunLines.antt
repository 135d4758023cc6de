-- A virtual hart runs from memory, and ceases to: its record says so, and its places hold what they
-- held.
use Rattle.std.proofs.Common.{◌≡◌, is_some, ℕ, ◌+◌, ◌<◌, Bool, true, false, not, cond, get_or, List, length, ◌∷◌, Option, Some, None, refl, sym, ap, subst, ◌∙◌, arith}
use Rattle.std.specs.Prelude.{slice_index, Result, Ok, Err}
use Rattle.std.proofs.lemmas.Bool.{cond-true, cond-false, false≢true}
use Rattle.std.proofs.lemmas.List.{get_or-set_same, get_or-set_other, length-set}
use Rattle.aia_file.specs.InterruptFile.{SameFile, top_of, InterruptFile}
use Rattle.aia_file.specs.FileState.{shown}
use Rattle.aia_file.specs.declared.spot.Spot.TheVariants as spots
use Rattle.aia_file.specs.Imsic.{IsThere, file_at}
use Rattle.aia_file.specs.Mrif.{mrif_in}
use Rattle.aia_major.specs.Kept.{majors_shown}
use Rattle.aia_entry.specs.Tables.{table_of, entry_in_force}
use Rattle.aia_vcpu.specs.declared.place.GuestPlace.{GuestPlace}
use Rattle.aia_vcpu.specs.declared.vm.Vm.{Vm}
use Rattle.aia_vcpu.specs.Vms.{Vcpu, vcpu_of, is_vcpu, is_vcpu_in, slot_of, notice_hart, notice_identity}
use Rattle.aia_vcpu.specs.Home.{Home, holds, is_entered, rests_in_memory, resting}
use Rattle.aia_vcpu.specs.declared.rest.Rest.TheVariants.{Parked, Entered}
use Rattle.aia_vcpu.specs.Home.Home.{InMemory}
use Rattle.aia_vcpu.proofs.VmLemmas.{slot_below}
use Rattle.aia_vcpu_places.specs.Places.{Places}
use Rattle.aia_vcpu_places.specs.Holds.{Holds}
use Rattle.aia_vcpu_places.specs.Stores.{AreApart}
use Rattle.aia_vcpu_places.proofs.MemoryKept.{rest-holds}
use Rattle.aia_pool.specs.Leases.{Leases, is_out}
use Rattle.aia_fabric_values.specs.World.{World, OnlyStores, no_stage, stage_of}
use Rattle.aia_fabric_values.specs.Stores.{Posts}
use Rattle.aia_fabric_values.specs.SlotAccess.{file_of_slot}
use Rattle.aia_fabric_values.specs.Whole.{IsWhole}
use Rattle.aia_fabric_values.specs.Making.{entry_word_place}
use Rattle.aia_fabric_values.specs.Changes.{spot_of}
use Rattle.aia_move_values.specs.Views.{places_of}
use Rattle.aia_fabric_values.proofs.FrameLemmas.{posts_rest}
use Rattle.aia_move_values.specs.declared.who.KeptNumbers.{KeptNumbers}
use Rattle.aia_move_values.specs.Touches.{OnlyAccesses}
use Rattle.aia_move_values.proofs.MachineLemmas.{no_accesses}
use Rattle.aia_model.specs.declared.answer.Answer.{Answer}
use Rattle.aia_model.specs.declared.answer.Answer.TheVariants.{Okay, Refused}
use Rattle.aia_model.specs.declared.refusal.Refusal.{Refusal}
use Rattle.aia_model.specs.declared.refusal.Refusal.TheVariants as words
use Rattle.aia_model.specs.declared.line.Line.TheVariants as lines
use Rattle.aia_model.specs.Event.{Event, History, file_words}
use Rattle.aia_model.specs.Event.Event.{Accepted}
use Rattle.aia_model.specs.Flight.{flight}
use Rattle.aia_model.specs.Passes.{passes_of}
use Rattle.aia_model.specs.Vms.{vms_of, has_vcpu}
use Rattle.aia_model.specs.GuestFile.{guest_file}
use Rattle.aia_model.specs.ReachOf.{in_force_of}
use Rattle.aia_model.specs.HomeOf.{home}
use Rattle.aia_model.specs.Notice.{noticed, a_look_saw, a_word_is_live}
use Rattle.aia_model.specs.FileOf.{FileName, deed_at, notice_deed}
use Rattle.aia_model.specs.Refusal.{refusal}
use Rattle.aia_model.proofs.RefusalLemmas.{unless_parked}
use Rattle.aia_model.proofs.AnswerLemmas.{enter_refusal, exit_refusal}
use Rattle.aia_model.proofs.ReachLemmas.{reach_step}
use Rattle.aia_model.proofs.MoveLemmas.{home_step, seen_stays, is_itself}
use Rattle.aia_hyp_values.specs.Core.{Stay}
use Rattle.aia_hyp_values.specs.declared.vcpu.Stay.TheVariants as stays
use Rattle.aia_hyp_values.specs.Core.{VcpuRecord}
use Rattle.aia_hyp_values.specs.Core.{CoreState, no_record, record_of, home_in, entered_at, parked_at, hand_of, hand_in}
use Rattle.aia_hyp_values.specs.HostFiles.{FileDone, host_spot, select_place}
use Rattle.aia_hyp_values.specs.Memory.{with_stay, EntersFrom}
use Rattle.aia_hyp_values.specs.Passes.{HasItsPasses}
use Rattle.aia_hyp_values.specs.Stands.{PlanStands, VcpuStands, is_held, CoreStands, CoreTakes}
use Rattle.aia_hyp_values.proofs.VcpuLemmas.{IsStill, IsHeld, SameFor, same_view, same_words, machine_kept, majors_rest}
use Rattle.aia_hyp_values.proofs.StandsLemmas.{count_after}
use Rattle.aia_hyp_values.proofs.RestLemmas.{parked_is, word_is, entered_as_kept}
use Rattle.aia_hyp_values.proofs.EventLemmas.{as_it_was, taken, refused}
use Rattle.aia_hyp_values.proofs.FilesInMemory.{live_is}
use Rattle.aia_hyp_values.proofs.GuestAccesses.{there_in}
use Rattle.aia_hyp_values.proofs.GuestStores.{host_told, guests_untold, slots_apart}
use Rattle.aia_hyp_values.proofs.MoveChanges.{IsMoveOf, MoveChanges, file_rests, select_rests, held_as, moved_on}

-- ---- the lines

enter_of : (h : History) (vm vcpu : ℕ) → IsMoveOf h (Accepted (lines.Enter vm vcpu)) (vcpu_of vm vcpu)
unfolding passes_of
enter_of h vm vcpu = record {
  plain = refl;
  vms = refl;
  homes = λ other ne. home_step (Accepted (lines.Enter vm vcpu)) h other ∙ cond-false _ _ _ ne;
  reach = λ other ne. reach_step (Accepted (lines.Enter vm vcpu)) h other;
  seen = λ other ne. seen_stays (Accepted (lines.Enter vm vcpu)) h other refl (λ w was. refl);
  rests = λ other. refl;
  majors = λ other m. refl;
  passes = refl;
  host = λ f. refl;
}

exit_of : (h : History) (vm vcpu : ℕ) → IsMoveOf h (Accepted (lines.Exit vm vcpu)) (vcpu_of vm vcpu)
unfolding passes_of
exit_of h vm vcpu = record {
  plain = refl;
  vms = refl;
  homes = λ other ne. home_step (Accepted (lines.Exit vm vcpu)) h other ∙ cond-false _ _ _ ne;
  reach = λ other ne. reach_step (Accepted (lines.Exit vm vcpu)) h other;
  seen = λ other ne. seen_stays (Accepted (lines.Exit vm vcpu)) h other refl (λ w was. refl);
  rests = λ other. refl;
  majors = λ other m. refl;
  passes = refl;
  host = λ f. refl;
}

still_enter : (h : History) (vm vcpu : ℕ) → IsStill h (Accepted (lines.Enter vm vcpu))
unfolding flight passes_of
still_enter h vm vcpu = record { first = tt; one = tt; flights = λ v. refl; passes = refl; rest = tt }

still_exit : (h : History) (vm vcpu : ℕ) → IsStill h (Accepted (lines.Exit vm vcpu))
unfolding flight passes_of
still_exit h vm vcpu = record { first = tt; one = tt; flights = λ v. refl; passes = refl; rest = tt }

-- ---- what they make of the world: nothing, or a notice

pub record OnlyNotifies (x y : CoreState) (h : History) (event : Event) : Type 0 where
  pub rest : y.world ≡ record x.world { imsic = y.world.imsic; notices = y.world.notices }
  pub accesses : OnlyAccesses x.world y.world
  pub count : y.world.notices ≡ count_after (noticed h event) x.world.notices
  pub host : (f : FileName) → IsThere x.world.imsic (host_spot f) → FileDone x y f (deed_at f h event)
  pub files : (p : GuestPlace) → IsThere x.world.imsic (spot_of p) → file_at y.world.imsic (spot_of p) ≡ file_at x.world.imsic (spot_of p)

same_for : (x y : CoreState) (h : History) (event : Event) (other : Vcpu) (there : Home) → OnlyNotifies x y h event
    → ((p : GuestPlace) → holds p there ≡ true → IsThere x.world.imsic (spot_of p)) → SameFor x.world y.world other there
same_for x y h event other there notifies held = record {
  n = ap (λ (w : World). w.n) notifies.rest;
  files = λ p holding. notifies.files p (held p holding);
  slot = ap (λ (w : World). mrif_in w.memory (slot_of w.vms other)) notifies.rest;
  word0 = ap (λ (w : World). slice_index w.memory (entry_word_place other.vm other.vcpu)) notifies.rest;
  word1 = ap (λ (w : World). slice_index w.memory (entry_word_place other.vm other.vcpu + 1)) notifies.rest;
  in_force = ap (λ (w : World). entry_in_force (table_of w.tables other.vm) other.vcpu) notifies.rest;
  stage = ap (λ (w : World). stage_of w other) notifies.rest;
}

pub nothing_told : (x y : CoreState) (h : History) (event : Event) → y.world ≡ x.world → y.selects ≡ x.selects → noticed h event ≡ None
    → ((f : FileName) → deed_at f h event ≡ notice_deed h f (noticed h event)) → OnlyNotifies x y h event
nothing_told x y h event world selects quiet deeds = record {
  rest = world ∙ (λ k. record x.world { imsic = (sym world k).imsic; notices = (sym world k).notices });
  accesses = no_accesses x.world y.world world;
  count = ap (λ (w : World). w.notices) world ∙ ap (λ who. count_after who x.world.notices) (sym quiet);
  host = λ f inside. subst (FileDone x y f) (sym (deeds f ∙ ap (notice_deed h f) quiet)) (record {
    file = subst (λ (w : World). SameFile (shown (file_at w.imsic (host_spot f))) (shown (file_at x.world.imsic (host_spot f)))) (sym world)
        (as_it_was (shown (file_at x.world.imsic (host_spot f))));
    select = ap (λ xs. get_or xs (select_place f) 0) selects;
  });
  files = λ p inside. ap (λ (w : World). file_at w.imsic (spot_of p)) world;
}

stores_alone : (w u : World) → OnlyStores w u → OnlyAccesses w u
stores_alone w u e = e ∙ ap (λ (x : World). record w
    { imsic = record w.imsic { files = x.imsic.files }; memory = x.memory; tables = x.tables; stages = x.stages; notices = x.notices }) (sym e)

pub one_told : (x y : CoreState) (h : History) (event : Event) (g : Vcpu) → CoreStands x h → IsWhole x.world → has_vcpu h g ≡ true
    → y.selects ≡ x.selects → noticed h event ≡ Some g → ((f : FileName) → deed_at f h event ≡ notice_deed h f (noticed h event))
    → Posts x.world y.world (spots.SupervisorFile (notice_hart x.world.vms g)) (notice_identity x.world.vms g) → OnlyNotifies x y h event
one_told x y h event g stands whole there selects loud deeds posts = record {
  rest = posts.rest;
  accesses = stores_alone x.world y.world (posts_rest x.world y.world (spots.SupervisorFile (notice_hart x.world.vms g))
      (notice_identity x.world.vms g) posts);
  count = posts.count ∙ ap (λ who. count_after who x.world.notices) (sym loud);
  host = host_told x y h event g stands whole there selects loud deeds posts.lands;
  files = guests_untold x y h g stands whole there posts.lands;
}

-- ---- what they make of the core

-- a line by which it goes from one stay to another, with no guest file at either
pub record IsRun (x y : CoreState) (h : History) (event : Event) (g : Vcpu) (from to : Stay) : Type 0 where
  pub stands : CoreStands x h
  pub there : has_vcpu h g ≡ true
  pub moves : IsMoveOf h event g
  pub still : IsStill h event
  pub notifies : OnlyNotifies x y h event
  pub was : (record_of x g).stay ≡ from
  pub vcpus : y.vcpus ≡ with_stay x.vcpus (slot_of x.world.vms g) to
  pub leases : y.leases ≡ x.leases
  pub passes : y.passes ≡ x.passes
  pub goes : home (event ∷ h) g ≡ home_in to
  pub reach : in_force_of (event ∷ h) g ≡ in_force_of h g
  pub seen : a_look_saw (event ∷ h) g ≡ a_look_saw h g
  pub none_before : (p : GuestPlace) → holds p (home_in from) ≡ false
  pub none_after : (p : GuestPlace) → holds p (home_in to) ≡ false
  pub two_files : AreApart (home_in to)
  pub plan : PlanStands y.world g to
  pub has_passes : HasItsPasses (passes_of (event ∷ h)) g to
  pub same_shown : places_of x.world g (home_in to) ≡ places_of x.world g (home_in from)
  pub held : (words q hart : ℕ) (reach : Option GuestPlace) (v : Places) (file : InterruptFile) (saw : Bool)
      → Holds words q hart reach v (home_in from) (hand_in from) file saw → Holds words q hart reach v (home_in to) (hand_in to) file saw

module _ (x y : CoreState) (h : History) (event : Event) (g : Vcpu) (from to : Stay) (c : IsRun x y h event g from to) where
  same_vms : y.world.vms ≡ x.world.vms
  same_vms = ap (λ (w : World). w.vms) c.notifies.rest

  home_before : home h g ≡ home_in from
  home_before = sym (c.stands.vcpus g c.there).same_home ∙ ap home_in c.was

  slot_low : slot_of x.world.vms g < length x.vcpus
  slot_low = let below = slot_below (vms_of h) g c.there in omega (arith, below, c.stands.records, ap (λ vms. slot_of vms g) c.stands.vms)

  own_record : record_of y g ≡ record (record_of x g) { stay = to }
  own_record = (λ k. get_or (c.vcpus k) (slot_of (same_vms k) g) no_record) ∙ get_or-set_same x.vcpus (slot_of x.world.vms g) _ no_record slot_low

  other_record : (other : Vcpu) → has_vcpu h other ≡ true → is_vcpu other g ≡ false → record_of y other ≡ record_of x other
  other_record other inside ne = (λ k. get_or (c.vcpus k) (slot_of (same_vms k) other) no_record)
      ∙ get_or-set_other x.vcpus (slot_of x.world.vms g) (slot_of x.world.vms other) _ no_record
      (slots_apart x h g other c.stands c.there inside (λ e. false≢true (sym ne ∙ ap (λ z. is_vcpu z g) e ∙ is_itself g)))

  same_places : places_of y.world g (home_in to) ≡ places_of x.world g (home_in from)
  same_places = same_view x.world y.world g (home_in to)
      (same_for x y h event g (home_in to) c.notifies (λ p holding. absurd (false≢true (sym (c.none_after p) ∙ holding)))) ∙ c.same_shown

  run_stands : VcpuStands y (event ∷ h) g
  run_stands =
      let stood = c.stands.vcpus g c.there in
      let stay : (record_of y g).stay ≡ to = ap (λ (r : VcpuRecord). r.stay) own_record in
      record {
        same_home = ap home_in stay ∙ sym c.goes;
        select = ap (λ (r : VcpuRecord). r.select) own_record ∙ stood.select ∙ sym (select_rests h event g (c.moves.rests g));
        majors = ap (λ (r : VcpuRecord). majors_shown r.majors) own_record ∙ stood.majors ∙ sym (majors_rest h event g (c.moves.majors g));
        two_files = subst AreApart (sym c.goes) c.two_files;
        plan = subst (PlanStands y.world g) (sym stay) c.plan;
        passes = subst (HasItsPasses (passes_of (event ∷ h)) g) (sym stay) c.has_passes;
        holds = subst IsHeld (λ k. record {
          words = sym (same_words event h (machine_kept event h c.moves.plain)) k;
          slot = slot_of (sym c.moves.vms k) g;
          hart = notice_hart (sym c.moves.vms k) g;
          reach = sym c.reach k;
          shows = (sym same_places ∙ ap (places_of y.world g) (sym c.goes)) k;
          there = sym c.goes k;
          hand = hand_in (sym stay k);
          file = sym (file_rests h event g (c.moves.rests g)) k;
          saw = sym c.seen k;
        }) (c.held (file_words h) (slot_of (vms_of h) g) (notice_hart (vms_of h) g) (in_force_of h g) (places_of x.world g (home_in from))
            (guest_file h g) (a_look_saw h g)
            (subst IsHeld (λ k. record {
              words = file_words h;
              slot = slot_of (vms_of h) g;
              hart = notice_hart (vms_of h) g;
              reach = in_force_of h g;
              shows = places_of x.world g (home_before k);
              there = home_before k;
              hand = hand_in (c.was k);
              file = guest_file h g;
              saw = a_look_saw h g;
            }) stood.holds));
      }

  still_held : (p : GuestPlace) → is_held (event ∷ h) p ≡ is_held h p
  still_held p = held_as h event g p c.moves (ap (holds p) c.goes ∙ c.none_after p ∙ sym (ap (holds p) home_before ∙ c.none_before p))

  none_held : (p : GuestPlace) → holds p (home (event ∷ h) g) ≡ true → ⊥
  none_held p holding = false≢true (sym (ap (holds p) c.goes ∙ c.none_after p) ∙ holding)

  pub run_changes : MoveChanges x y h event g
  run_changes = record {
    moves = c.moves;
    still = c.still;
    there = c.there;
    rest = c.notifies.accesses;
    passes = c.passes;
    count = c.notifies.count;
    host = c.notifies.host;
    records = ap (λ (rs : List VcpuRecord). length rs) c.vcpus ∙ length-set x.vcpus (slot_of x.world.vms g) _;
    other_records = other_record;
    other_views = λ other inside ne. same_view x.world y.world other (home h other)
        (same_for x y h event other (home h other) c.notifies (λ p holding. c.stands.held other p inside holding));
    own = run_stands;
    lease_harts = ap (λ (l : Leases). l.harts) c.leases;
    lease_guests = ap (λ (l : Leases). l.guests) c.leases;
    lease_count = ap (λ (l : Leases). length l.out) c.leases;
    leases = λ p at. ap (λ l. is_out l p) c.leases ∙ c.stands.leases p at ∙ sym (still_held p);
    held = λ p holding. absurd (none_held p holding);
    apart = λ other p inside ne holding. absurd (none_held p holding);
    free = λ p at none. ap shown (c.notifies.files p at) ∙ c.stands.free p at (sym (still_held p) ∙ none);
    entries = λ other ne. ap (λ (w : World). entry_in_force (table_of w.tables other.vm) other.vcpu) c.notifies.rest;
    slots = λ q few ne. ap (λ (w : World). mrif_in w.memory q) c.notifies.rest;
    stages = λ q ne. ap (λ (w : World). get_or w.stages q no_stage) c.notifies.rest;
  }

-- ---- it enters

pub record IsEnter (x y : CoreState) (vm vcpu : ℕ) : Type 0 where
  pub there : is_vcpu_in x.world.vms (vcpu_of vm vcpu) ≡ true
  pub world : y.world ≡ x.world
  pub leases : y.leases ≡ x.leases
  pub selects : y.selects ≡ x.selects
  pub passes : y.passes ≡ x.passes

-- the refusal of one that is there, by where it is
enter_by : (x : CoreState) (h : History) (vm vcpu : ℕ) (stay : Stay) → CoreStands x h → has_vcpu h (vcpu_of vm vcpu) ≡ true
    → (record_of x (vcpu_of vm vcpu)).stay ≡ stay
    → refusal h (lines.Enter vm vcpu) ≡ unless_parked (home_in stay) None
enter_by x h vm vcpu stay stands inside was =
    let at : home h (vcpu_of vm vcpu) ≡ home_in stay = sym (stands.vcpus (vcpu_of vm vcpu) inside).same_home ∙ ap home_in was in
    enter_refusal h vm vcpu stands.there
    ∙ (λ k. cond (not (inside k)) (Some (Refused words.Range)) (unless_parked (at k) None))

same_core : (x y : CoreState) (vm vcpu : ℕ) → IsEnter x y vm vcpu → y.vcpus ≡ x.vcpus → y ≡ x
same_core x y vm vcpu c vcpus = λ k. record { world = c.world k; leases = c.leases k; vcpus = vcpus k; selects = c.selects k; passes = c.passes k }

enter_refused : (x y : CoreState) (vm vcpu : ℕ) (stay : Stay) (given : Answer) (word : Refusal) → IsEnter x y vm vcpu → y.vcpus ≡ x.vcpus
    → given ≡ Refused word → ((h : History) → CoreStands x h → refusal h (lines.Enter vm vcpu) ≡ Some (Refused word))
    → CoreTakes x y (lines.Enter vm vcpu) given
enter_refused x y vm vcpu stay given word c vcpus is refuses =
    subst (λ (z : CoreState). CoreTakes x z (lines.Enter vm vcpu) given) (sym (same_core x y vm vcpu c vcpus))
    (subst (λ a. CoreTakes x x (lines.Enter vm vcpu) a) (sym is) (refused x (lines.Enter vm vcpu) (Refused word) refuses))

parked_enters : (x y : CoreState) (vm vcpu : ℕ) (kept : KeptNumbers) (given : Answer) → IsEnter x y vm vcpu
    → (record_of x (vcpu_of vm vcpu)).stay ≡ stays.InMemory Parked kept
    → EntersFrom (Ok kept) x.vcpus y.vcpus (slot_of x.world.vms (vcpu_of vm vcpu)) given → CoreTakes x y (lines.Enter vm vcpu) given
parked_enters x y vm vcpu kept given c was e =
    subst (λ a. CoreTakes x y (lines.Enter vm vcpu) a) (sym e.0) (taken x y (lines.Enter vm vcpu) Okay refl (λ h stands.
    let g = vcpu_of vm vcpu in
    let event = Accepted (lines.Enter vm vcpu) in
    let inside = there_in x h g stands c.there in
    let at : home h g ≡ InMemory Parked = sym (stands.vcpus g inside).same_home ∙ ap home_in was in
    let run : IsRun x y h event g (stays.InMemory Parked kept) (stays.InMemory Entered kept) = record {
      stands = stands;
      there = inside;
      moves = enter_of h vm vcpu;
      still = still_enter h vm vcpu;
      notifies = nothing_told x y h event c.world c.selects refl (λ f. refl);
      was = was;
      vcpus = e.1;
      leases = c.leases;
      passes = c.passes;
      goes = home_step event h g ∙ cond-true _ _ _ (is_itself g) ∙ ap (resting Entered) at;
      reach = reach_step event h g;
      seen = seen_stays event h g refl (λ w was. refl);
      none_before = λ p. refl;
      none_after = λ p. refl;
      two_files = tt;
      plan = tt;
      has_passes = tt;
      same_shown = refl;
      held = λ words q hart reach v file saw held. rest-holds words q hart reach v (hand_of kept) file saw Parked Entered held;
    } in (
      enter_by x h vm vcpu (stays.InMemory Parked kept) stands inside was,
      refl,
      moved_on x y h event g (run_changes x y h event g (stays.InMemory Parked kept) (stays.InMemory Entered kept) run) stands,
    )))

pub enters : (x y : CoreState) (vm vcpu : ℕ) (stay : Stay) (given : Answer) → IsEnter x y vm vcpu → (record_of x (vcpu_of vm vcpu)).stay ≡ stay
    → EntersFrom (parked_at stay) x.vcpus y.vcpus (slot_of x.world.vms (vcpu_of vm vcpu)) given → CoreTakes x y (lines.Enter vm vcpu) given
enters x y vm vcpu stay given c was e = by (parked_at stay) refl e
  where
    by : (r : Result KeptNumbers Refusal) → parked_at stay ≡ r → EntersFrom r x.vcpus y.vcpus (slot_of x.world.vms (vcpu_of vm vcpu)) given
        → CoreTakes x y (lines.Enter vm vcpu) given
    by (Ok kept) is e = parked_enters x y vm vcpu kept given c (was ∙ parked_is stay kept is) e
    by (Err word) is e = enter_refused x y vm vcpu stay given word c e.1 e.0 (λ h stands.
        let g = vcpu_of vm vcpu in
        let inside = there_in x h g stands c.there in
        enter_by x h vm vcpu stay stands inside was ∙ word_is x.world g stay word None
        (subst (PlanStands x.world g) was (stands.vcpus g inside).plan) is)

pub no_vcpu_to_enter : (x : CoreState) (vm vcpu : ℕ) → is_vcpu_in x.world.vms (vcpu_of vm vcpu) ≡ false
    → CoreTakes x x (lines.Enter vm vcpu) (Refused words.Range)
no_vcpu_to_enter x vm vcpu none = refused x (lines.Enter vm vcpu) (Refused words.Range) (λ h stands.
    enter_refusal h vm vcpu stands.there ∙ cond-true _ _ _
    (ap not (subst (λ (vs : List Vm). is_vcpu_in vs (vcpu_of vm vcpu) ≡ false) stands.vms none)))

-- ---- it exits

pub record IsExit (x y : CoreState) (vm vcpu : ℕ) (kept : KeptNumbers) : Type 0 where
  pub whole : IsWhole x.world
  pub there : is_vcpu_in x.world.vms (vcpu_of vm vcpu) ≡ true
  pub was : (record_of x (vcpu_of vm vcpu)).stay ≡ stays.InMemory Entered kept
  pub vcpus : y.vcpus ≡ with_stay x.vcpus (slot_of x.world.vms (vcpu_of vm vcpu)) (stays.InMemory Parked kept)
  pub leases : y.leases ≡ x.leases
  pub selects : y.selects ≡ x.selects
  pub passes : y.passes ≡ x.passes
  pub notifies : (h : History) → CoreStands x h → OnlyNotifies x y h (Accepted (lines.Exit vm vcpu))

exit_by : (x : CoreState) (h : History) (vm vcpu : ℕ) → CoreStands x h → has_vcpu h (vcpu_of vm vcpu) ≡ true
    → refusal h (lines.Exit vm vcpu) ≡ cond (not (is_entered (home_in (record_of x (vcpu_of vm vcpu)).stay))) (Some (Refused words.Idle)) None
exit_by x h vm vcpu stands inside =
    let at = sym (stands.vcpus (vcpu_of vm vcpu) inside).same_home in
    exit_refusal h vm vcpu stands.there ∙ (λ k. cond (not (inside k)) (Some (Refused words.Range))
    (cond (not (is_entered (at k))) (Some (Refused words.Idle)) None))

pub exits : (x y : CoreState) (vm vcpu : ℕ) (kept : KeptNumbers) → IsExit x y vm vcpu kept → CoreTakes x y (lines.Exit vm vcpu) Okay
exits x y vm vcpu kept c = taken x y (lines.Exit vm vcpu) Okay refl (λ h stands.
    let g = vcpu_of vm vcpu in
    let event = Accepted (lines.Exit vm vcpu) in
    let inside = there_in x h g stands c.there in
    let at : home h g ≡ InMemory Entered = sym (stands.vcpus g inside).same_home ∙ ap home_in c.was in
    let run : IsRun x y h event g (stays.InMemory Entered kept) (stays.InMemory Parked kept) = record {
      stands = stands;
      there = inside;
      moves = exit_of h vm vcpu;
      still = still_exit h vm vcpu;
      notifies = c.notifies h stands;
      was = c.was;
      vcpus = c.vcpus;
      leases = c.leases;
      passes = c.passes;
      goes = home_step event h g ∙ cond-true _ _ _ (is_itself g) ∙ ap (resting Parked) at;
      reach = reach_step event h g;
      seen = seen_stays event h g refl (λ w was. refl);
      none_before = λ p. refl;
      none_after = λ p. refl;
      two_files = tt;
      plan = tt;
      has_passes = tt;
      same_shown = refl;
      held = λ words q hart reach v file saw held. rest-holds words q hart reach v (hand_of kept) file saw Entered Parked held;
    } in (
      exit_by x h vm vcpu stands inside ∙ ap (λ stay. cond (not (is_entered (home_in stay))) (Some (Refused words.Idle)) None) c.was,
      refl,
      moved_on x y h event g (run_changes x y h event g (stays.InMemory Entered kept) (stays.InMemory Parked kept) run) stands,
    ))

pub not_entered : (x : CoreState) (vm vcpu : ℕ) → is_vcpu_in x.world.vms (vcpu_of vm vcpu) ≡ true
    → entered_at (record_of x (vcpu_of vm vcpu)).stay ≡ None → CoreTakes x x (lines.Exit vm vcpu) (Refused words.Idle)
not_entered x vm vcpu there none = refused x (lines.Exit vm vcpu) (Refused words.Idle) (λ h stands.
    let g = vcpu_of vm vcpu in
    let inside = there_in x h g stands there in
    exit_by x h vm vcpu stands inside ∙ cond-true _ _ _
    (ap not (entered_as_kept x.world g (record_of x g).stay (stands.vcpus g inside).plan ∙ ap is_some none)))

pub no_vcpu_to_exit : (x : CoreState) (vm vcpu : ℕ) → is_vcpu_in x.world.vms (vcpu_of vm vcpu) ≡ false
    → CoreTakes x x (lines.Exit vm vcpu) (Refused words.Range)
no_vcpu_to_exit x vm vcpu none = refused x (lines.Exit vm vcpu) (Refused words.Range) (λ h stands.
    exit_refusal h vm vcpu stands.there ∙ cond-true _ _ _
    (ap not (subst (λ (vs : List Vm). is_vcpu_in vs (vcpu_of vm vcpu) ≡ false) stands.vms none)))

-- ---- its notice

pub live_top : (x : CoreState) (h : History) (g : Vcpu) (kept : KeptNumbers) (q : ℕ) → CoreStands x h → IsWhole x.world
    → is_vcpu_in x.world.vms g ≡ true → (record_of x g).stay ≡ stays.InMemory Entered kept → q ≡ slot_of x.world.vms g
    → a_word_is_live h g ≡ is_some (top_of (file_of_slot x.world q 0))
live_top x h g kept q stands whole there was slot =
    let inside = there_in x h g stands there in
    let at : home h g ≡ InMemory Entered = sym (stands.vcpus g inside).same_home ∙ ap home_in was in
    live_is x h g kept stands whole inside (ap rests_in_memory at) (ap hand_in was) ∙ ap (λ q. is_some (top_of (file_of_slot x.world q 0))) (sym slot)

pub exit_is_quiet : (x y : CoreState) (h : History) (vm vcpu : ℕ) → y.world ≡ x.world → y.selects ≡ x.selects
    → a_word_is_live h (vcpu_of vm vcpu) ≡ false → OnlyNotifies x y h (Accepted (lines.Exit vm vcpu))
exit_is_quiet x y h vm vcpu world selects none =
    nothing_told x y h (Accepted (lines.Exit vm vcpu)) world selects (cond-false _ _ _ none) (λ f. refl)

pub exit_is_loud : (x y : CoreState) (h : History) (vm vcpu : ℕ) → CoreStands x h → IsWhole x.world
    → is_vcpu_in x.world.vms (vcpu_of vm vcpu) ≡ true → y.selects ≡ x.selects → a_word_is_live h (vcpu_of vm vcpu) ≡ true
    → Posts x.world y.world (spots.SupervisorFile (notice_hart x.world.vms (vcpu_of vm vcpu))) (notice_identity x.world.vms (vcpu_of vm vcpu))
    → OnlyNotifies x y h (Accepted (lines.Exit vm vcpu))
exit_is_loud x y h vm vcpu stands whole there selects some posts =
    one_told x y h (Accepted (lines.Exit vm vcpu)) (vcpu_of vm vcpu) stands whole (there_in x h (vcpu_of vm vcpu) stands there) selects
    (cond-true _ _ _ some) (λ f. refl) posts
