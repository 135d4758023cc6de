-- A step of a move that aims a passed source, in a core that stands for a history.
use Rattle.std.proofs.Common.{◌/◌, ◌≡◌, ℕ, ◌+◌, ◌≤◌, Bool, true, false, ◌&&◌, ◌||◌, cond, nat_eq, get_or, List, ◌∷◌, length, Some, None, inl, inr, refl, sym, ap, subst, ◌∙◌, arith}
use Rattle.std.proofs.Math.ListN.{set}
use Rattle.std.proofs.lemmas.Bool.{cases_Bool, cond-true, and_parts, eqb-true, ne_eqb, false≢true}
use Rattle.std.proofs.lemmas.Bool.Decides.{nat_tests}
use Rattle.std.proofs.lemmas.List.{length-set}
use Rattle.aia_vcpu.specs.declared.place.GuestPlace.{GuestPlace}
use Rattle.aia_vcpu.specs.Vms.{Vcpu, vcpu_of, is_vcpu, slot_of, notice_hart}
use Rattle.aia_vcpu.specs.Home.{Home, holds, is_moving}
use Rattle.aia_vcpu.specs.Home.Home.{OnWay}
use Rattle.aia_vcpu.specs.Home.Way.{Outward}
use Rattle.aia_vcpu.specs.Plans.{has_access, step_of, is_at_last, stepped}
use Rattle.aia_vcpu.specs.declared.access.Access.TheVariants.{Look}
use Rattle.aia_vcpu.specs.BySteps.{look_sees, look_word}
use Rattle.aia_vcpu.specs.Aims.{aims_step, is_aiming, aimed}
use Rattle.aia_vcpu.proofs.HomeLemmas.{not_the_last}
use Rattle.aia_vcpu.proofs.PassLemmas.{aim_is_no_fence}
use Rattle.aia_vcpu_places.specs.Stores.{AreApart}
use Rattle.aia_model.specs.Event.{History, file_words}
use Rattle.aia_model.specs.Notice.{ends_leave}
use Rattle.aia_file.specs.InterruptFile.{SameFile}
use Rattle.aia_file.specs.FileState.{shown}
use Rattle.aia_file.specs.Imsic.{file_at}
use Rattle.aia_file.specs.Mrif.{mrif_in}
use Rattle.aia_entry.specs.Tables.{table_of, entry_in_force}
use Rattle.aia_major.specs.Kept.{majors_shown}
use Rattle.aia_vcpu.specs.Routes.{entry_names}
use Rattle.aia_vcpu_places.specs.Holds.{Holds}
use Rattle.aia_pool.specs.Leases.{Leases, is_out}
use Rattle.aia_fabric_values.specs.World.{World, no_stage}
use Rattle.aia_fabric_values.specs.Changes.{spot_of}
use Rattle.aia_move_values.specs.Views.{places_of}
use Rattle.aia_move_values.specs.declared.who.Who.{Who}
use Rattle.aia_move_values.specs.Move.{Moving, mover, width, MoveFits}
use Rattle.aia_move_values.specs.PlanState.{PlanState, moving_of}
use Rattle.aia_move_values.specs.Plan.{IsInPhase, GoesAiming}
use Rattle.aia_move_values.proofs.MoveKept.{aims_kept}
use Rattle.aia_move_values.proofs.MachineLemmas.{no_accesses}
use Rattle.aia_model.specs.Event.Event.{Stepped}
use Rattle.aia_model.specs.Vms.{vms_of, has_vcpu}
use Rattle.aia_model.specs.GuestFile.{guest_file}
use Rattle.aia_model.specs.ReachOf.{in_force_of, NoneAtFence}
use Rattle.aia_model.specs.HomeOf.{home}
use Rattle.aia_model.specs.Passes.{passes_of, passes_for}
use Rattle.aia_model.specs.Notice.{noticed, a_look_saw}
use Rattle.aia_model.specs.FileOf.{notice_deed}
use Rattle.aia_model.proofs.ReachLemmas.{reach_step}
use Rattle.aia_model.proofs.MoveLemmas.{is_itself, seen_stepped}
use Rattle.aia_file.specs.InterruptFile.{is_live}
use Rattle.aia_hyp_values.specs.declared.vcpu.Stay.TheVariants as stays
use Rattle.aia_hyp_values.specs.Core.{VcpuRecord}
use Rattle.aia_hyp_values.specs.Core.{CoreState, record_of, home_in, hand_in}
use Rattle.aia_hyp_values.specs.HostFiles.{FileDone, host_spot, select_place}
use Rattle.aia_hyp_values.specs.Passes.{own_passes, HasItsPasses}
use Rattle.aia_hyp_values.specs.Stands.{PlanStands, VcpuStands, is_held, CoreStands}
use Rattle.aia_hyp_values.proofs.VcpuLemmas.{IsHeld, still_step, majors_rest}
use Rattle.aia_hyp_values.proofs.StandsLemmas.{count_after}
use Rattle.aia_hyp_values.proofs.EventLemmas.{as_it_was}
use Rattle.aia_hyp_values.proofs.MoveBegins.{own_record, other_record}
use Rattle.aia_hyp_values.proofs.MoveChanges.{stepped_move, file_rests, select_rests, held_as, MoveChanges, moved_on}
use Rattle.aia_hyp_values.proofs.MoveSteps.{stepped_home}

-- ---- what a home is that aims

aimed_apart : (there : Home) → AreApart there → AreApart (aimed there)
aimed_apart (OnWay way at) a = a
aimed_apart there a = a

aimed_holds : (q : GuestPlace) (there : Home) → holds q (aimed there) ≡ holds q there
aimed_holds q (OnWay way at) = refl
aimed_holds q there = refl

aimed_moves : (there : Home) → is_moving (aimed there) ≡ is_moving there
aimed_moves (OnWay way at) = refl
aimed_moves there = refl

-- its next step is not the last one
pub aim_is_not_last : (passes words : ℕ) (there : Home) → is_aiming passes there ≡ true → is_at_last words there ≡ false
aim_is_not_last passes words (OnWay way at) e = let here : nat_eq at.steps (aims_step (OnWay way at)) ≡ true = (and_parts _ _ e).0 in let far =
    not_the_last way words in grind (arith, nat_tests)
aim_is_not_last passes words there e = absurd (cc)

aim_ends_none : (passes words : ℕ) (there : Home) → is_aiming passes there ≡ true → ends_leave words there ≡ false
aim_ends_none passes words (OnWay (Outward from) at) e = aim_is_not_last passes words (OnWay (Outward from) at) e
aim_ends_none passes words there e = refl

-- and looks at no word
aim_sees_none : (passes words : ℕ) (there : Home) (live : ℕ → Bool) → 1 ≤ words → is_aiming passes there ≡ true → look_sees words there live ≡ false
aim_sees_none passes words (OnWay way at) live some e =
    let w = look_word words (OnWay way at) in
    let here = eqb-true at.steps (aims_step (OnWay way at)) (and_parts _ _ e).0 in
    sees (has_access words (OnWay way at) (Look w)) (nat_eq at.steps (step_of words (OnWay way at) (Look w))) (live w) (later words w here some)
  where
    later : (words w : ℕ) → at.steps ≡ aims_step (OnWay way at) → 1 ≤ words → nat_eq at.steps (step_of words (OnWay way at) (Look w)) ≡ false
    later words w here some = ne_eqb _ _ (λ same. omega (arith, same, here, some))

    sees : (a c b : Bool) → c ≡ false → ((a && c) && b) ≡ false
    sees true c b e = rw e refl
    sees false c b e = refl
aim_sees_none passes words there live some e = absurd (cc)

-- ---- the step

-- the plan of a virtual hart has aimed its next pass, and the virtual hart has a new record
pub record AimOf (x y : CoreState) (h : History) (g : Vcpu) (plan later : PlanState) (r : VcpuRecord) : Type 0 where
  pub first : NoneAtFence h (Stepped g)
  pub stands : CoreStands x h
  pub some : 1 ≤ file_words h
  pub there : has_vcpu h g ≡ true
  pub was : (record_of x g).stay ≡ stays.Moving plan
  pub aiming : is_aiming (passes_for h g) (home h g) ≡ true
  pub goes : GoesAiming x.world (moving_of plan) y.world (moving_of later)
  pub fits : MoveFits y.world (moving_of later)
  pub phase : IsInPhase (width y.world) later
  pub leases : y.leases ≡ x.leases
  pub selects : y.selects ≡ x.selects
  pub passes : y.passes ≡ x.passes
  pub vcpus : y.vcpus ≡ set x.vcpus (slot_of x.world.vms g) r
  pub stay : r.stay ≡ stays.Moving later
  pub select : r.select ≡ (record_of x g).select
  pub majors : r.majors ≡ (record_of x g).majors

module _ (x y : CoreState) (h : History) (g : Vcpu) (plan later : PlanState) (r : VcpuRecord) (a : AimOf x y h g plan later r) where
  stood : VcpuStands x h g
  stood = a.stands.vcpus g a.there

  planned : PlanStands x.world g (stays.Moving plan)
  planned = subst (PlanStands x.world g) a.was stood.plan

  is_mover : mover (moving_of plan) ≡ g
  is_mover = planned.2

  same_home : (moving_of plan).home ≡ home h g
  same_home = ap home_in (sym a.was) ∙ stood.same_home

  same_who : (moving_of later).who ≡ (moving_of plan).who
  same_who = ap (λ (m : Moving). m.who) a.goes.moved

  later_mover : mover (moving_of later) ≡ g
  later_mover = ap (λ (who : Who). vcpu_of who.found.vm who.found.vcpu) same_who ∙ is_mover

  aimed_home : home (Stepped g ∷ h) g ≡ aimed (home h g)
  aimed_home = stepped_home h g ∙ ap (λ b. cond b (aimed (home h g)) (stepped (file_words h) (home h g))) a.aiming

  later_home : (moving_of later).home ≡ home (Stepped g ∷ h) g
  later_home = ap (λ (m : Moving). m.home) a.goes.moved ∙ ap aimed same_home ∙ sym aimed_home

  pub later_moves : is_moving (moving_of later).home ≡ true
  later_moves = ap (λ (m : Moving). is_moving m.home) a.goes.moved ∙ aimed_moves (moving_of plan).home ∙ planned.3

  same_holds : (q : GuestPlace) → holds q (home (Stepped g ∷ h) g) ≡ holds q (home h g)
  same_holds q = ap (holds q) aimed_home ∙ aimed_holds q (home h g)

  same_words : width x.world ≡ file_words h
  same_words = ap (λ n. (n + 1) / 64) a.stands.greatest

  then_words : width y.world ≡ file_words h
  then_words = ap width a.goes.world ∙ same_words

  same_slot : (moving_of plan).who.found.slot ≡ slot_of (vms_of h) g
  same_slot = planned.0.slot ∙ (λ k. slot_of (a.stands.vms k) (is_mover k))

  same_notice : (moving_of plan).who.found.notice ≡ notice_hart (vms_of h) g
  same_notice = planned.0.notice ∙ (λ k. notice_hart (a.stands.vms k) (is_mover k))

  same_seen : a_look_saw (Stepped g ∷ h) g ≡ a_look_saw h g
  same_seen = seen_stepped h g ∙ ap (λ b. a_look_saw h g || b)
      (aim_sees_none (passes_for h g) (file_words h) (home h g) (is_live (guest_file h g)) a.some a.aiming) ∙ or_none (a_look_saw h g)
    where
      or_none : (b : Bool) → (b || false) ≡ b
      or_none true = refl
      or_none false = refl

  same_reach : in_force_of (Stepped g ∷ h) g ≡ in_force_of h g
  same_reach = reach_step (Stepped g) h g ∙ cond-true _ _ _ (is_itself g)
      ∙ ap (λ b. cond b (entry_names (home h g)) (in_force_of h g)) (aim_is_no_fence (passes_for h g) (home h g) a.aiming)

  same_hand : (moving_of plan).hand ≡ hand_in (record_of x g).stay
  same_hand = ap hand_in (sym a.was)

  held : Holds (width x.world) (moving_of plan).who.found.slot (moving_of plan).who.found.notice (in_force_of h g)
      (places_of x.world (mover (moving_of plan)) (moving_of plan).home) (moving_of plan).home (moving_of plan).hand (guest_file h g) (a_look_saw h g)
  held = subst IsHeld (λ k. record {
    words = sym same_words k;
    slot = sym same_slot k;
    hart = sym same_notice k;
    reach = in_force_of h g;
    shows = places_of x.world (sym is_mover k) (sym same_home k);
    there = sym same_home k;
    hand = sym same_hand k;
    file = guest_file h g;
    saw = a_look_saw h g;
  }) stood.holds

  kept : record_of y g ≡ r
  kept = own_record x y h g r a.stands a.there (ap (λ (w : World). w.vms) a.goes.world) a.vcpus

  its_passes : (moving_of plan).who.passes.items ≡ own_passes 0 g (passes_of h)
  its_passes = subst (HasItsPasses (passes_of h) g) a.was stood.passes

  aim_own : VcpuStands y (Stepped g ∷ h) g
  aim_own =
      let stay : (record_of y g).stay ≡ stays.Moving later = ap (λ (r : VcpuRecord). r.stay) kept ∙ a.stay in
      let moved = stepped_move h g in
      let file = file_rests h (Stepped g) g (moved.rests g) in
      record {
        same_home = ap home_in stay ∙ later_home;
        select = ap (λ (r : VcpuRecord). r.select) kept ∙ a.select ∙ stood.select ∙ sym (select_rests h (Stepped g) g (moved.rests g));
        majors = ap (λ (r : VcpuRecord). majors_shown r.majors) kept ∙ ap majors_shown a.majors ∙ stood.majors
            ∙ sym (majors_rest h (Stepped g) g (moved.majors g));
        two_files = subst AreApart (sym aimed_home) (aimed_apart (home h g) stood.two_files);
        plan = subst (PlanStands y.world g) (sym stay) (a.fits, a.phase, later_mover, later_moves);
        passes = subst (HasItsPasses (passes_of (Stepped g ∷ h)) g) (sym stay)
            (ap (λ (who : Who). who.passes.items) same_who ∙ its_passes ∙ ap (own_passes 0 g) (sym moved.passes));
        holds = subst IsHeld (λ k. record {
          words = then_words k;
          slot = (ap (λ (who : Who). who.found.slot) same_who ∙ same_slot) k;
          hart = (ap (λ (who : Who). who.found.notice) same_who ∙ same_notice) k;
          reach = sym same_reach k;
          shows = places_of y.world (later_mover k) (later_home k);
          there = later_home k;
          hand = hand_in (sym stay k);
          file = sym file k;
          saw = sym same_seen k;
        }) (aims_kept x.world y.world (moving_of plan) (moving_of later) (in_force_of h g) (guest_file h g) (a_look_saw h g) a.goes held);
      }

  -- a file that another holds is not its own
  its_alone : (other : Vcpu) (p : GuestPlace) → has_vcpu h other ≡ true → is_vcpu other g ≡ false → holds p (home h g) ≡ true
      → holds p (home h other) ≡ false
  its_alone other p inside ne mine = elim (cases_Bool (holds p (home h other))) [
    | inl its ↦ absurd (false≢true (sym ne ∙ ap (λ z. is_vcpu z g) (a.stands.apart other g p inside a.there its mine) ∙ is_itself g))
    | inr none ↦ none
  ]

  quiet : noticed h (Stepped g) ≡ None
  quiet = ap (λ b. cond (b && a_look_saw h g) (Some g) None) (aim_ends_none (passes_for h g) (file_words h) (home h g) a.aiming)

  still_held : (p : GuestPlace) → is_held (Stepped g ∷ h) p ≡ is_held h p
  still_held p = held_as h (Stepped g) g p (stepped_move h g) (same_holds p)

  aim_changes : MoveChanges x y h (Stepped g) g
  aim_changes = record {
    moves = stepped_move h g;
    still = still_step h g a.first;
    there = a.there;
    rest = no_accesses x.world y.world a.goes.world;
    passes = a.passes;
    count = ap (λ (w : World). w.notices) a.goes.world ∙ ap (λ who. count_after who x.world.notices) (sym quiet);
    host = λ f inside. subst (λ who. FileDone x y f (notice_deed h f who)) (sym quiet) (record {
      file = subst (λ (w : World). SameFile (shown (file_at w.imsic (host_spot f))) (shown (file_at x.world.imsic (host_spot f))))
          (sym a.goes.world) (as_it_was (shown (file_at x.world.imsic (host_spot f))));
      select = ap (λ xs. get_or xs (select_place f) 0) a.selects;
    });
    records = ap (λ (rs : List VcpuRecord). length rs) a.vcpus ∙ length-set x.vcpus (slot_of x.world.vms g) r;
    other_records = λ other inside ne. other_record x y h g other r a.stands a.there inside ne (ap (λ (w : World). w.vms) a.goes.world) a.vcpus;
    other_views = λ other inside ne. ap (λ (w : World). places_of w other (home h other)) a.goes.world;
    own = aim_own;
    lease_harts = ap (λ (l : Leases). l.harts) a.leases;
    lease_guests = ap (λ (l : Leases). l.guests) a.leases;
    lease_count = ap (λ (l : Leases). length l.out) a.leases;
    leases = λ p inside. ap (λ l. is_out l p) a.leases ∙ a.stands.leases p inside ∙ sym (still_held p);
    held = λ p holding. a.stands.held g p a.there (sym (same_holds p) ∙ holding);
    apart = λ other p inside ne holding. its_alone other p inside ne (sym (same_holds p) ∙ holding);
    free = λ p inside none. ap (λ (w : World). shown (file_at w.imsic (spot_of p))) a.goes.world ∙ a.stands.free p inside (sym (still_held p) ∙ none);
    entries = λ other ne. ap (λ (w : World). entry_in_force (table_of w.tables other.vm) other.vcpu) a.goes.world;
    slots = λ q few ne. ap (λ (w : World). mrif_in w.memory q) a.goes.world;
    stages = λ q ne. ap (λ (w : World). get_or w.stages q no_stage) a.goes.world;
  }

  pub aim_stands : CoreStands y (Stepped g ∷ h)
  aim_stands = moved_on x y h (Stepped g) g aim_changes a.stands
