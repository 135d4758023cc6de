-- In a core that stands for a history, with targets that stand for it, the plan of each virtual hart
-- that is moved knows all: the places, the ways that lead to them, and the targets.
use Rattle.std.proofs.Common.{◌≡◌, ℕ, ◌+◌, ◌/◌, ◌<◌, ◌≤◌, Bool, true, false, List, length, take, slice_index_or, Option, Some, None, inl, inr, refl, sym, ap, subst, ◌∙◌, arith}
use Rattle.std.specs.Prelude.{slice_get, map, All}
use Rattle.std.specs.Option.{option_map}
use Rattle.std.proofs.lemmas.Bool.{cases_Bool, eqb-true, false≢true}
use Rattle.std.proofs.lemmas.Bool.Decides.{nat_tests}
use Rattle.std.proofs.lemmas.List.{get_or_past}
use Rattle.std.proofs.lemmas.Option.{slice_get-map}
use Rattle.aia_regs.specs.declared.limits.TheConstants.{HARTS, SLOTS, IDENTITIES, PASSES}
use Rattle.aia_file.specs.Imsic.{IsThere}
use Rattle.aia_entry.specs.declared.entry.Entry.{Entry}
use Rattle.aia_entry.specs.declared.entry.Entry.TheVariants.{NotValid}
use Rattle.aia_entry.specs.Tables.{TableState, no_table, entry_in_force}
use Rattle.aia_vcpu.specs.declared.place.GuestPlace.{GuestPlace}
use Rattle.aia_vcpu.specs.declared.vm.Vm.{Vm}
use Rattle.aia_vcpu.specs.Vms.{Vcpu, is_vcpu_in, slot_of, notice_hart}
use Rattle.aia_vcpu.specs.declared.access.Access.{Access}
use Rattle.aia_vcpu.specs.declared.access.Access.TheVariants.{TakePending, TakeEnables}
use Rattle.aia_vcpu.specs.Home.{Home, holds, is_moving}
use Rattle.aia_vcpu.specs.Home.Home.{InMemory, Resident, OnWay}
use Rattle.aia_vcpu.specs.Plans.{is_last_made}
use Rattle.aia_vcpu.specs.Routes.{origin, MayReach, entry_names, stage_names, peers_reach, is_written, is_stage_written}
use Rattle.aia_vcpu.specs.Aims.{pass_reaches, target_to, AreAimed}
use Rattle.aia_vcpu.proofs.HomeLemmas.{own_is_held, next_is_held}
use Rattle.aia_vcpu.proofs.VmLemmas.{same_slot, same_vcpu}
use Rattle.aia_vcpu_places.specs.Holds.{Holds, Hand}
use Rattle.aia_file.specs.InterruptFile.{InterruptFile}
use Rattle.aia_vcpu_places.specs.Places.{Places, IsInMap, leads_to}
use Rattle.aia_fabric_values.specs.declared.flying.Flying.{Flying}
use Rattle.aia_fabric_values.specs.World.{flight_of, stage_of}
use Rattle.aia_fabric_values.specs.Whole.{IsWhole}
use Rattle.aia_fabric_values.specs.Changes.{spot_of}
use Rattle.aia_fabric_values.proofs.WholeLemmas.{notice_hart_there}
use Rattle.aia_move_values.specs.declared.who.Pass as plans
use Rattle.aia_move_values.specs.Views.{places_of}
use Rattle.aia_move_values.specs.WorldChanges.{KnowsAtRest}
use Rattle.aia_move_values.specs.Move.{Moving, mover, width, place_at}
use Rattle.aia_move_values.specs.PlanState.{PlanState, moving_of}
use Rattle.aia_move_values.specs.Targets.{TargetMap, pass_count, pass_in}
use Rattle.aia_move_values.specs.Targets as targets
use Rattle.aia_move_values.specs.Ways.{led_by_entry, led_by_record, entry_of, written_of, leads_here, IsItsFlight, KnowsWays, KnowsTargets, KnowsAll}
use Rattle.aia_move_values.proofs.ViewLemmas.{slot_low}
use Rattle.aia_move_values.proofs.WayLemmas.{led_own, led_recorded}
use Rattle.aia_move_values.proofs.WayMoves.{route_held, words_say}
use Rattle.aia_model.specs.Event.{History, file_words, greatest_identity_of}
use Rattle.aia_model.specs.Vms.{vms_of, has_vm, has_vcpu}
use Rattle.aia_model.specs.Flight.{Sending, flight}
use Rattle.aia_model.specs.GuestFile.{sent_to, guest_file}
use Rattle.aia_model.specs.ReachOf.{in_force_of, sent_into, MayFly, IsForOne}
use Rattle.aia_model.specs.HomeOf.{home}
use Rattle.aia_model.specs.Notice.{a_look_saw}
use Rattle.aia_model.specs.Histories.{IsHistory}
use Rattle.aia_model.specs.Passes.{PassedSource, passes_of, nth_pass, passes_to, passes_for, pass_of, own_pass, rank_of}
use Rattle.aia_model.proofs.FlightLemmas.{all_at}
use Rattle.aia_model.proofs.ReachLemmas.{in_force_may}
use Rattle.aia_model.proofs.OwnPassLemmas.{IsOwn, own_is}
use Rattle.aia_model.proofs.PassesStandLemmas.{passes_stand}
use Rattle.aia_hyp_values.specs.declared.vcpu.Stay.TheVariants as stays
use Rattle.aia_hyp_values.specs.Core.{CoreState, record_of, hand_in}
use Rattle.aia_hyp_values.specs.Moves.{KnowsIts, IsToldOf}
use Rattle.aia_hyp_values.specs.Passes.{own_passes, HasItsPasses}
use Rattle.aia_hyp_values.specs.Stands.{CoreStands, flying_of}
use Rattle.aia_hyp_values.specs.Targets.{TargetsStand, StandsWith}
use Rattle.aia_hyp_values.proofs.GuestStores.{devices_held, flying_held, peers_held}
use Rattle.aia_hyp_values.proofs.MoveLines.{knows}
use Rattle.aia_hyp_values.proofs.VcpuLemmas.{IsHeld}
use Rattle.aia_hyp_values.proofs.OwnPasses.{own_nth, own_length, own_all}
use Rattle.aia_file.proofs.SizeLemmas.{few_identities}

module _ (x : CoreState) (h : History) (g : Vcpu) (m : Moving) (stands : CoreStands x h) (whole : IsWhole x.world) (there : has_vcpu h g ≡ true)
    (its : IsToldOf h g m) where
  -- ---- places

  same_home : m.home ≡ home h g
  same_home = its.same_home

  same_slots : m.who.found.slot ≡ slot_of (vms_of h) g
  same_slots = its.slot

  in_world : (y : Vcpu) → has_vcpu h y ≡ true → is_vcpu_in x.world.vms y ≡ true
  in_world y inside = ap (λ vms. is_vcpu_in vms y) stands.vms ∙ inside

  in_history : (y : Vcpu) → is_vcpu_in x.world.vms y ≡ true → has_vcpu h y ≡ true
  in_history y inside = ap (λ vms. is_vcpu_in vms y) (sym stands.vms) ∙ inside

  -- one that leads to a place of its own, and to one of the plan's, is the plan's
  place_ours : (y : Vcpu) → has_vcpu h y ≡ true → (place : Option GuestPlace) → ((p : GuestPlace) → place ≡ Some p → holds p (home h y) ≡ true)
      → leads_here m (Some (place_at place (slot_of (vms_of h) y))) ≡ true → y ≡ mover m
  place_ours y inside None held led =
      same_slot (vms_of h) y g inside there (eqb-true (slot_of (vms_of h) y) m.who.found.slot led ∙ same_slots) ∙ sym its.own
  place_ours y inside (Some p) held led =
      stands.apart y g p inside there (held p refl) (ap (holds p) (sym same_home) ∙ led) ∙ sym its.own

  own_there : (y : Vcpu) → has_vcpu h y ≡ true → (place : Option GuestPlace) → ((p : GuestPlace) → place ≡ Some p → holds p (home h y) ≡ true)
      → (p : GuestPlace) → place ≡ Some p → IsThere x.world.imsic (spot_of p)
  own_there y inside place held p e = stands.held y p inside (held p e)

  low : (y : Vcpu) → has_vcpu h y ≡ true → slot_of (vms_of h) y < SLOTS
  low y inside = let few = slot_low x.world y whole (in_world y inside) in
      omega (arith, few, ap (λ (vms : List Vm). slot_of vms y) stands.vms)

  few : (y : Vcpu) → has_vcpu h y ≡ true → notice_hart (vms_of h) y < HARTS
  few y inside = let small = notice_hart_there x.world y whole (in_world y inside) in
      omega (arith, small, whole.harts, ap (λ (vms : List Vm). notice_hart vms y) stands.vms)

  entry_ours : (y : Vcpu) → has_vcpu h y ≡ true → (place : Option GuestPlace) → ((p : GuestPlace) → place ≡ Some p → holds p (home h y) ≡ true)
      → (e : Entry) → e ≡ leads_to (slot_of (vms_of h) y) (notice_hart (vms_of h) y) place → leads_here m (led_by_entry x.world e) ≡ true
      → y ≡ mover m
  entry_ours y inside place held e is led = place_ours y inside place held
      (ap (leads_here m) (sym (ap (led_by_entry x.world) is ∙ led_own x.world (slot_of (vms_of h) y) (notice_hart (vms_of h) y) place whole
      (low y inside) (own_there y inside place held))) ∙ led)

  record_ours : (y : Vcpu) → has_vcpu h y ≡ true → (place : Option GuestPlace) → ((p : GuestPlace) → place ≡ Some p → holds p (home h y) ≡ true)
      → leads_here m (led_by_record x.world y place) ≡ true → y ≡ mover m
  record_ours y inside place held led = place_ours y inside place held
      (ap (leads_here m) (sym (led_recorded x.world y place (own_there y inside place held)
      ∙ ap (λ (vms : List Vm). Some (place_at place (slot_of vms y))) stands.vms)) ∙ led)

  -- ---- routes

  no_entry : (y : Vcpu) → has_vcpu h y ≡ false → entry_of x.world y ≡ NotValid
  no_entry y outside = elim (cases_Bool (has_vm h y.vm)) [
    | inl stood ↦ stands.no_entry y stood outside
    | inr none ↦
        let past : length x.world.tables ≤ y.vm = grind (arith, nat_tests, whole.tables, ap length stands.vms) in
        ap (λ (t : TableState). entry_in_force t y.vcpu) (get_or_past x.world.tables y.vm no_table past)
  ]

  in_map : (y : Vcpu) → has_vcpu h y ≡ true → (p : GuestPlace) → entry_names (home h y) ≡ Some p → IsInMap p
  in_map y inside p e =
      let stood = own_there y inside (entry_names (home h y)) (λ q is. names_held y q is) p e in
      (omega (arith, stood.0, whole.harts), omega (arith, stood.2, whole.guests), stood.1)
    where
      names_held : (y : Vcpu) (q : GuestPlace) → entry_names (home h y) ≡ Some q → holds q (home h y) ≡ true
      names_held y q is = route_held (home h y) (is_written (home h y)) (entry_names (home h y)) refl q is

  entries_known : (y : Vcpu) → leads_here m (led_by_entry x.world (entry_of x.world y)) ≡ true → y ≡ mover m
  entries_known y led = elim (cases_Bool (has_vcpu h y)) [
    | inl inside ↦ entry_ours y inside (in_force_of h y) (λ p e. devices_held h y p e) (entry_of x.world y)
        (stands.vcpus y inside).holds.routes.in_force led
    | inr outside ↦ absurd (false≢true (ap (λ e. leads_here m (led_by_entry x.world e)) (sym (no_entry y outside)) ∙ led))
  ]

  written_known : (y : Vcpu) → is_vcpu_in x.world.vms y ≡ true → leads_here m (led_by_entry x.world (written_of x.world y)) ≡ true → y ≡ mover m
  written_known y inside led =
      let stood = in_history y inside in
      let routes = (stands.vcpus y stood).holds.routes in
      entry_ours y stood (entry_names (home h y))
      (λ p e. route_held (home h y) (is_written (home h y)) (entry_names (home h y)) refl p e) (written_of x.world y)
      (words_say x.world y (slot_of (vms_of h) y) (notice_hart (vms_of h) y) (home h y) (low y stood) (few y stood) (in_map y stood) routes.word0
      routes.word1) led

  records_known : (y : Vcpu) → is_vcpu_in x.world.vms y ≡ true → leads_here m (led_by_record x.world y (stage_of x.world y).in_force) ≡ true
      → y ≡ mover m
  records_known y inside led =
      let stood = in_history y inside in
      record_ours y stood (peers_reach (home h y)) (λ p e. peers_held h y p e)
      (ap (λ o. leads_here m (led_by_record x.world y o)) (sym (stands.vcpus y stood).holds.routes.stage_in_force) ∙ led)

  named_known : (y : Vcpu) → is_vcpu_in x.world.vms y ≡ true → leads_here m (led_by_record x.world y (stage_of x.world y).written) ≡ true
      → y ≡ mover m
  named_known y inside led =
      let stood = in_history y inside in
      record_ours y stood (stage_names (home h y))
      (λ p e. route_held (home h y) (is_stage_written (home h y)) (stage_names (home h y)) refl p e)
      (ap (λ o. leads_here m (led_by_record x.world y o)) (sym (stands.vcpus y stood).holds.routes.stage) ∙ led)

  -- ---- stores in flight

  sending_of : (v : ℕ) (xs : List Sending) (k : ℕ) (s : Flying) → slice_get (map (flying_of v) xs) k ≡ Some s
      → (t : Sending) × (slice_get xs k ≡ Some t) × (flying_of v t ≡ s)
  sending_of v xs k s e = by_first (slice_get xs k) refl
    where
      by_first : (o : Option Sending) → slice_get xs k ≡ o → (t : Sending) × (slice_get xs k ≡ Some t) × (flying_of v t ≡ s)
      by_first None is = let no : None ≡ Some s = ap (option_map (flying_of v)) (sym is) ∙ sym (slice_get-map (flying_of v) xs k) ∙ e in absurd (cc)
      by_first (Some t) is =
          let both : Some (flying_of v t) ≡ Some s = ap (option_map (flying_of v)) (sym is) ∙ sym (slice_get-map (flying_of v) xs k) ∙ e in
          let same : flying_of v t ≡ s = cc in (t, is, same)

  flights_known : (v k : ℕ) (s : Flying) → slice_get (flight_of x.world v) k ≡ Some s → leads_here m (led_by_entry x.world s.entry) ≡ true
      → IsItsFlight m v s
  flights_known v k s flies led =
      let found = sending_of v (flight h v) k s (ap (λ xs. slice_get xs k) (sym (stands.flights v)) ∙ flies) in
      let t = found.0 in
      let y = sent_to v t in
      let one = all_at (IsForOne h v) k (flight h v) t found.1 (stands.for_one v) in
      let may = all_at (MayFly h v) k (flight h v) t found.1 (stands.may_fly v) in
      let entry : s.entry ≡ leads_to (slot_of (vms_of h) y) (notice_hart (vms_of h) y) (sent_into v t) =
      ap (λ (f : Flying). f.entry) (sym found.2) ∙ ap (λ q. leads_to q (notice_hart (vms_of t.before) y) (sent_into v t)) (sym one.slot)
      ∙ ap (λ hart. leads_to (slot_of (vms_of h) y) hart (sent_into v t)) (sym one.notice) in
      let ours : y ≡ mover m = entry_ours y one.there (sent_into v t) (λ p e. flying_held h v k t p stands.may_fly found.1 e) s.entry entry led in
      let is_g : y ≡ g = ours ∙ its.own in
      record {
        vm = ap (λ (z : Vcpu). z.vm) ours;
        place = sent_into v t;
        entry = entry ∙ ap (λ q. leads_to q (notice_hart (vms_of h) y) (sent_into v t)) (ap (slot_of (vms_of h)) is_g ∙ sym same_slots)
            ∙ ap (λ hart. leads_to m.who.found.slot hart (sent_into v t)) (ap (notice_hart (vms_of h)) is_g ∙ sym same_notices);
        may = subst (λ (there : Home). MayReach there (sent_into v t)) (ap (home h) is_g ∙ sym same_home) may;
      }
    where
      same_notices : m.who.found.notice ≡ notice_hart (vms_of h) g
      same_notices = its.notice

  pub ways_in_core : KnowsWays x.world m
  ways_in_core = record { entries = entries_known; written = written_known; records = records_known; named = named_known; flying = flights_known }

  -- ---- what is passed to it

  module _ (map : TargetMap) (good : IsHistory h) (told : TargetsStand map h) where
    has_passes : m.who.passes.items ≡ own_passes 0 g (passes_of h)
    has_passes = its.passes

    count : pass_count m.who ≡ passes_for h g
    count = ap (λ (xs : List plans.Pass). length xs) has_passes ∙ own_length 0 g (passes_of h)

    -- its r-th pass is one of the history's, to it, of which r come before
    record IsRth (r : ℕ) : Type 0 where
      k : ℕ
      is : pass_in m.who r ≡ record { source = (nth_pass h k).source; identity = (nth_pass h k).identity; number = k }
      low : k < length (passes_of h)
      to : (nth_pass h k).to ≡ g
      rank : rank_of h k ≡ r

    rth : (r : ℕ) → r < pass_count m.who → IsRth r
    rth r below =
        let under : r < passes_for h g = omega (arith, below, count) in
        let found = own_nth 0 g (passes_of h) r under in
        let own = own_is h g r under in
        let zero : 0 + found.0 ≡ found.0 = omega arith in
        let same : own_pass h g r ≡ found.0 = found.1.0 ∙ zero in
        let mine : IsOwn g r (passes_of h) found.0 = subst (IsOwn g r (passes_of h)) same own in
        let to : (nth_pass h found.0).to ≡ g = same_vcpu (nth_pass h found.0).to g mine.own in
        record {
          k = found.0;
          is = (λ t. slice_index_or (has_passes t) r targets.no_pass) ∙ found.1.1
              ∙ ap (λ n. record { source = (nth_pass h found.0).source; identity = (nth_pass h found.0).identity; number = n }) zero;
          low = mine.low;
          to = to;
          rank = ap (λ (y : Vcpu). passes_to y (take found.0 (passes_of h))) to ∙ mine.rank;
        }

    same_numbers : (a b : ℕ) → ◌≡◌ {A = Option ℕ} (Some a) (Some b) → a ≡ b
    same_numbers a b e = cc

    pub targets_in_core : KnowsTargets map m
    targets_in_core = record {
      passes = subst (All (λ (p : plans.Pass). (p.identity ≤ IDENTITIES) × (p.number < PASSES))) (sym has_passes)
          (own_all h 0 g (passes_of h) most (omega (arith, few_passes, ap (λ (xs : List PassedSource). length xs) stands.passes.same))
          stands.passes.to_one);
      come = subst (λ n. AreAimed n m.home) (sym count) (subst (AreAimed (passes_for h g)) (sym same_home) (stands.passes.aimed g));
      once = λ r s low_r low_s e.
          let a = rth r low_r in
          let b = rth s low_s in
          let sources : (nth_pass h a.k).source ≡ (nth_pass h b.k).source =
          sym (ap (λ (p : plans.Pass). p.source) a.is) ∙ e ∙ ap (λ (p : plans.Pass). p.source) b.is in
          let one : a.k ≡ b.k = same_numbers a.k b.k (sym ((passes_stand h good).pass a.k a.low).known ∙ ap (pass_of h) sources
          ∙ ((passes_stand h good).pass b.k b.low).known) in
          sym a.rank ∙ ap (rank_of h) one ∙ b.rank;
      ready = λ r below. let a = rth r below in ap (λ (p : plans.Pass). map.ready p.source) a.is ∙ told.ready a.k a.low;
      aimed = λ r below.
          let a = rth r below in
          ap (λ (p : plans.Pass). map.target p.source) a.is ∙ told.aimed a.k a.low
          ∙ (λ t. target_to (same_notice a.to t) a.k (nth_pass h a.k).identity (pass_reaches (a.rank t) (home h (a.to t))))
          ∙ ap (λ there. target_to m.who.found.notice a.k (nth_pass h a.k).identity (pass_reaches r there)) (sym same_home)
          ∙ (λ t. target_to m.who.found.notice (sym a.is t).number (sym a.is t).identity (pass_reaches r m.home));
    }
      where
        most : greatest_identity_of h ≤ IDENTITIES
        most = let small : x.world.n ≤ IDENTITIES = few_identities x.world.n whole.greatest in omega (arith, small, stands.greatest)

        few_passes : length x.passes ≤ PASSES
        few_passes = let small = (passes_stand h good).few in omega (arith, small, ap (λ (xs : List PassedSource). length xs) stands.passes.same)

        same_notice : {y : Vcpu} → y ≡ g → notice_hart (vms_of h) y ≡ m.who.found.notice
        same_notice is = ap (notice_hart (vms_of h)) is ∙ sym its.notice

-- ---- one that is moved

module _ (x : CoreState) (h : History) (g : Vcpu) (plan : PlanState) (stands : CoreStands x h) (whole : IsWhole x.world)
    (there : has_vcpu h g ≡ true) (was : (record_of x g).stay ≡ stays.Moving plan) where
  knows_its : KnowsIts x h g plan
  knows_its = knows x h g plan stands there was

  its_own : IsToldOf h g (moving_of plan)
  its_own = record {
    own = knows_its.own;
    same_home = knows_its.same_home;
    slot = knows_its.knows.fits.slot ∙ (λ k. slot_of (stands.vms k) (knows_its.own k));
    notice = knows_its.knows.fits.notice ∙ (λ k. notice_hart (stands.vms k) (knows_its.own k));
    passes = subst (HasItsPasses (passes_of h) g) was (stands.vcpus g there).passes;
  }

  pub plan_ways : KnowsWays x.world (moving_of plan)
  plan_ways = ways_in_core x h g (moving_of plan) stands whole there its_own

  pub all_in_core : (map : TargetMap) → IsHistory h → TargetsStand map h
      → KnowsAll x.world map plan (in_force_of h g) (guest_file h g) (a_look_saw h g)
  all_in_core map good told = record {
    places = knows_its.knows;
    ways = plan_ways;
    targets = targets_in_core x h g (moving_of plan) stands whole there its_own map good told;
  }

-- ---- one at rest

pub rest_in_core : (x : CoreState) (map : TargetMap) (h : History) (g : Vcpu) (m : Moving) → IsHistory h → StandsWith x map h → IsWhole x.world
    → has_vcpu h g ≡ true → is_moving (home h g) ≡ false → IsToldOf h g m → m.hand ≡ hand_in (record_of x g).stay
    → KnowsAtRest x.world map m (guest_file h g)
rest_in_core x map h g m good stands whole there rests of hand =
    let core = stands.core in
    let held = (core.vcpus g there).holds in
    let own_held : (p : GuestPlace) → holds p m.home ≡ true → IsThere x.world.imsic (spot_of p) =
    λ p holding. core.held g p there (ap (holds p) (sym of.same_home) ∙ holding) in
    let resting : is_moving m.home ≡ false = ap is_moving of.same_home ∙ rests in
    record {
      rests = resting;
      fits = record {
        there = ap (λ vms. is_vcpu_in vms (mover m)) core.vms ∙ ap (is_vcpu_in (vms_of h)) of.own ∙ there;
        slot = of.slot ∙ (λ k. slot_of (sym core.vms k) (sym of.own k));
        notice = of.notice ∙ (λ k. notice_hart (sym core.vms k) (sym of.own k));
        own = λ p e. own_held p (own_is_held m.home p e);
        next = λ p e. own_held p (next_is_held m.home p e);
        no_pending_zero = λ e. absurd (false≢true (sym (none_made (width x.world) m.home (TakePending 0) resting) ∙ e));
        no_enabled_zero = λ e. absurd (false≢true (sym (none_made (width x.world) m.home (TakeEnables 0) resting) ∙ e));
      };
      holds = at_rest m.home resting (a_look_saw h g) (subst IsHeld (λ k. record {
        words = same_words k;
        slot = sym of.slot k;
        hart = sym of.notice k;
        reach = same_reach k;
        shows = places_of x.world (sym of.own k) (sym of.same_home k);
        there = sym of.same_home k;
        hand = sym hand k;
        file = guest_file h g;
        saw = a_look_saw h g;
      }) held);
      ways = ways_in_core x h g m core whole there of;
      targets = targets_in_core x h g m core whole there of map good stands.targets;
    }
  where
    none_made : (words : ℕ) (there : Home) (access : Access) → is_moving there ≡ false → is_last_made words there access ≡ false
    none_made words (InMemory rest) access resting = refl
    none_made words (Resident p) access resting = refl
    none_made words (OnWay way at) access resting = absurd (cc)

    -- at rest it is of no matter what a look saw
    at_rest : {words q hart : ℕ} {reach : Option GuestPlace} {v : Places} {hand : Hand} {file : InterruptFile} (home : Home) → is_moving home ≡ false
        → (saw : Bool) → Holds words q hart reach v home hand file saw → Holds words q hart reach v home hand file false
    at_rest (InMemory rest) resting saw held = record { sets = held.sets; numbers = held.numbers; routes = held.routes; looks = refl }
    at_rest (Resident p) resting saw held = record { sets = held.sets; numbers = held.numbers; routes = held.routes; looks = refl }
    at_rest (OnWay way at) resting saw held = absurd (cc)

    one_reach : (home : Home) → is_moving home ≡ false → (place : Option GuestPlace) → MayReach home place → place ≡ origin home
    one_reach (InMemory rest) resting place (inl old) = old.0
    one_reach (InMemory rest) resting place (inr new) = absurd (false≢true new.1)
    one_reach (Resident p) resting place (inl old) = old.0
    one_reach (Resident p) resting place (inr new) = absurd (false≢true new.1)
    one_reach (OnWay way at) resting place may = absurd (cc)

    same_reach : in_force_of h g ≡ origin m.home
    same_reach = one_reach (home h g) rests (in_force_of h g) (in_force_may h g) ∙ ap origin (sym of.same_home)

    same_words : file_words h ≡ width x.world
    same_words = ap (λ n. (n + 1) / 64) (sym stands.core.greatest)
