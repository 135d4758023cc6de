-- A step of a move, in a core that stands for a history: what every step makes of it.
use Rattle.std.proofs.Common.{◌≡◌, ◌≢◌, ◌+◌, ◌/◌, Bool, true, false, ◌&&◌, cond, List, length, ◌∷◌, Some, None, inl, inr, sym, ap, subst, ◌∙◌}
use Rattle.std.proofs.Math.ListN.{set}
use Rattle.std.proofs.lemmas.Bool.{cases_Bool, cond-true, false≢true}
use Rattle.std.proofs.lemmas.List.{length-set}
use Rattle.aia_file.specs.InterruptFile.{empty_file, is_greatest_identity}
use Rattle.aia_file.specs.FileState.{shown}
use Rattle.aia_file.specs.Imsic.{IsThere, file_at}
use Rattle.aia_vcpu.specs.declared.place.GuestPlace.{GuestPlace}
use Rattle.aia_vcpu.specs.declared.vm.Vm.{Vm}
use Rattle.aia_vcpu.specs.Vms.{Vcpu, is_vcpu, is_vcpu_in, slot_of, notice_hart}
use Rattle.aia_vcpu.specs.Home.{holds, is_moving}
use Rattle.aia_vcpu.specs.Plans.{stepped}
use Rattle.aia_vcpu.proofs.AllLemmas.{of_none}
use Rattle.aia_vcpu_places.specs.Holds.{Hand, Holds, IsWithin}
use Rattle.aia_vcpu_places.specs.Stores.{AreApart}
use Rattle.aia_pool.specs.Leases.{is_out}
use Rattle.aia_fabric_values.specs.Whole.{IsWhole}
use Rattle.aia_fabric_values.specs.Changes.{spot_of}
use Rattle.aia_move_values.specs.Views.{places_of}
use Rattle.aia_move_values.specs.Move.{Moving, mover, width, MoveFits, MakesNext}
use Rattle.aia_move_values.specs.PlanState.{PlanState, moving_of}
use Rattle.aia_move_values.specs.Touches.{Touches, sends}
use Rattle.aia_move_values.proofs.TouchLemmas.{step_touches, view_stays}
use Rattle.aia_model.specs.Event.{History, greatest_identity_of, file_words}
use Rattle.aia_model.specs.Event.Event.{Stepped}
use Rattle.aia_model.specs.Vms.{vms_of, has_vcpu}
use Rattle.aia_model.specs.GuestFile.{guest_file}
use Rattle.aia_model.specs.ReachOf.{in_force_of, NoneAtFence}
use Rattle.aia_vcpu.proofs.PassLemmas.{further_on}
use Rattle.aia_vcpu.specs.Aims.{further, is_aiming}
use Rattle.aia_model.specs.Passes.{passes_of, passes_for}
use Rattle.aia_hyp_values.specs.Passes.{own_passes, HasItsPasses}
use Rattle.aia_model.specs.HomeOf.{home}
use Rattle.aia_model.specs.Notice.{noticed, a_look_saw, ends_leave}
use Rattle.aia_model.specs.FileOf.{FileName, notice_deed}
use Rattle.aia_model.proofs.MoveLemmas.{home_step, is_itself}
use Rattle.aia_hyp_values.specs.declared.vcpu.Stay.TheVariants as stays
use Rattle.aia_hyp_values.specs.Core.{VcpuRecord}
use Rattle.aia_hyp_values.proofs.VcpuLemmas.{still_step}
use Rattle.aia_hyp_values.specs.Core.{CoreState, record_of, home_in, hand_in}
use Rattle.aia_hyp_values.specs.HostFiles.{FileDone, host_spot}
use Rattle.aia_hyp_values.specs.Stands.{PlanStands, VcpuStands, is_held, CoreStands}
use Rattle.aia_move_values.specs.Touches.{SameMachine}
use Rattle.aia_hyp_values.proofs.VcpuLemmas.{IsHeld}
use Rattle.aia_hyp_values.proofs.StandsLemmas.{count_after}
use Rattle.aia_move_values.proofs.MachineLemmas.{machine_touched}
use Rattle.aia_hyp_values.proofs.WithinLemmas.{guest_within}
use Rattle.aia_hyp_values.proofs.NoticeLemmas.{sent_where, count_sent, host_sent}
use Rattle.aia_hyp_values.proofs.MoveBegins.{own_record, other_record}
use Rattle.aia_hyp_values.proofs.MoveChanges.{stepped_move, held_as, MoveChanges}

-- ---- what a call says of a step

-- The plan of a virtual hart has made its next access, and the virtual hart has a new record.
pub record StepOf (x y : CoreState) (h : History) (g : Vcpu) (plan : PlanState) (r : VcpuRecord) (hand : Hand) : Type 0 where
  pub first : NoneAtFence h (Stepped g)
  pub unaimed : is_aiming (passes_for h g) (home h g) ≡ false
  pub stands : CoreStands x h
  pub whole : IsWhole x.world
  pub there : has_vcpu h g ≡ true
  pub was : (record_of x g).stay ≡ stays.Moving plan
  pub step : MakesNext x.world (moving_of plan) y.world hand
  pub selects : y.selects ≡ x.selects
  pub passes : y.passes ≡ x.passes
  pub vcpus : y.vcpus ≡ set x.vcpus (slot_of x.world.vms g) r
  pub select : r.select ≡ (record_of x g).select
  pub majors : r.majors ≡ (record_of x g).majors

module _ (x y : CoreState) (h : History) (g : Vcpu) (plan : PlanState) (r : VcpuRecord) (hand : Hand) (s : StepOf x y h g plan r hand) where
  abbrev m : Moving
  m = moving_of plan

  stood : VcpuStands x h g
  stood = s.stands.vcpus g s.there

  planned : PlanStands x.world g (stays.Moving plan)
  planned = subst (PlanStands x.world g) s.was stood.plan

  pub fits : MoveFits x.world (moving_of plan)
  fits = planned.0

  -- its plan has the passes to it
  pub its_passes : (moving_of plan).who.passes.items ≡ own_passes 0 g (passes_of h)
  its_passes = subst (HasItsPasses (passes_of h) g) s.was stood.passes

  pub is_mover : mover (moving_of plan) ≡ g
  is_mover = planned.2

  pub still_moving : is_moving (moving_of plan).home ≡ true
  still_moving = planned.3

  -- what the plan says is what the history says
  pub same_home : (moving_of plan).home ≡ home h g
  same_home = ap home_in (sym s.was) ∙ stood.same_home

  pub same_words : width x.world ≡ file_words h
  same_words = ap (λ n. (n + 1) / 64) s.stands.greatest

  pub same_slot : (moving_of plan).who.found.slot ≡ slot_of (vms_of h) g
  same_slot = fits.slot ∙ (λ k. slot_of (s.stands.vms k) (is_mover k))

  pub same_notice : (moving_of plan).who.found.notice ≡ notice_hart (vms_of h) g
  same_notice = fits.notice ∙ (λ k. notice_hart (s.stands.vms k) (is_mover k))

  pub apart : AreApart (moving_of plan).home
  apart = subst AreApart (sym same_home) stood.two_files

  pub within : IsWithin x.world.n (width x.world) (guest_file h g)
  within =
      let greatest : is_greatest_identity (greatest_identity_of h) ≡ true =
      subst (λ n. is_greatest_identity n ≡ true) s.stands.greatest s.whole.greatest in
      subst (λ n. IsWithin n ((n + 1) / 64) (guest_file h g)) (sym s.stands.greatest) (guest_within h g greatest)

  same_hand : (moving_of plan).hand ≡ hand_in (record_of x g).stay
  same_hand = ap hand_in (sym s.was)

  pub held : Holds (width x.world) (moving_of plan).who.found.slot (moving_of plan).who.found.notice (in_force_of h g)
      (places_of x.world (mover (moving_of plan)) (moving_of plan).home) (moving_of plan).home (moving_of plan).hand (guest_file h g) (a_look_saw h g)
  held = subst IsHeld (λ k. record {
    words = sym same_words k;
    slot = sym same_slot k;
    hart = sym same_notice k;
    reach = in_force_of h g;
    shows = places_of x.world (sym is_mover k) (sym same_home k);
    there = sym same_home k;
    hand = sym same_hand k;
    file = guest_file h g;
    saw = a_look_saw h g;
  }) stood.holds

  -- ---- the notice

  abbrev sent : Bool
  sent = sends s.step.access (moving_of plan).hand

  pub touches : Touches sent x.world y.world (moving_of plan)
  touches = step_touches x.world y.world m hand s.whole fits s.step

  sent_is : sent ≡ (ends_leave (file_words h) (home h g) && a_look_saw h g)
  sent_is =
      sent_where (width x.world) s.step.access m.home m.hand (a_look_saw h g) s.step.is_next held.looks
      ∙ (λ k. ends_leave (same_words k) (same_home k) && a_look_saw h g)

  who_is : noticed h (Stepped g) ≡ cond sent (Some g) None
  who_is = ap (λ b. cond b (Some g) None) (sym sent_is)

  count : y.world.notices ≡ count_after (noticed h (Stepped g)) x.world.notices
  count = count_sent sent x.world y.world m g touches ∙ ap (λ o. count_after o x.world.notices) (sym who_is)

  host : (f : FileName) → IsThere x.world.imsic (host_spot f) → FileDone x y f (notice_deed h f (noticed h (Stepped g)))
  host f inside = subst (λ o. FileDone x y f (notice_deed h f o)) (sym who_is)
      (host_sent x y h m g same_notice same_slot s.selects sent f touches inside)

  -- ---- all else

  pub machine : SameMachine x.world y.world
  machine = machine_touched sent x.world y.world m touches

  pub step_record : record_of y g ≡ r
  step_record = own_record x y h g r s.stands s.there machine.vms s.vcpus

  inside_world : (other : Vcpu) → has_vcpu h other ≡ true → is_vcpu_in x.world.vms other ≡ true
  inside_world other inside = subst (λ (vs : List Vm). is_vcpu_in vs other ≡ true) (sym s.stands.vms) inside

  is_other : (other : Vcpu) → is_vcpu other g ≡ false → other ≢ mover (moving_of plan)
  is_other other ne e = false≢true (sym ne ∙ ap (λ z. is_vcpu z g) (e ∙ is_mover) ∙ is_itself g)

  -- a file that another holds is not its own
  pub its_alone : (other : Vcpu) (p : GuestPlace) → has_vcpu h other ≡ true → is_vcpu other g ≡ false → holds p (home h g) ≡ true
      → holds p (home h other) ≡ false
  its_alone other p inside ne mine = elim (cases_Bool (holds p (home h other))) [
    | inl its ↦ absurd (false≢true (sym ne ∙ ap (λ z. is_vcpu z g) (s.stands.apart other g p inside s.there its mine) ∙ is_itself g))
    | inr none ↦ none
  ]

  not_its : (other : Vcpu) (p : GuestPlace) → has_vcpu h other ≡ true → is_vcpu other g ≡ false → holds p (home h other) ≡ true
      → holds p (moving_of plan).home ≡ false
  not_its other p inside ne its = elim (cases_Bool (holds p m.home)) [
    | inl mine ↦ absurd (false≢true (sym (its_alone other p inside ne (ap (holds p) (sym same_home) ∙ mine)) ∙ its))
    | inr none ↦ none
  ]

  other_views : (other : Vcpu) → has_vcpu h other ≡ true → is_vcpu other g ≡ false
      → places_of y.world other (home h other) ≡ places_of x.world other (home h other)
  other_views other inside ne =
      view_stays sent x.world y.world m other (home h other) s.whole fits touches (inside_world other inside) (is_other other ne)
      (λ p its. (s.stands.held other p inside its, not_its other p inside ne its))

  -- what is left to be shown: its own places, the leases, and the file that it leaves
  pub record StepEnds : Type 0 where
    pub own : VcpuStands y (Stepped g ∷ h) g
    pub keeps : (q : GuestPlace) → holds q (home (Stepped g ∷ h) g) ≡ true → holds q (home h g) ≡ true
    pub lease_harts : y.leases.harts ≡ x.leases.harts
    pub lease_guests : y.leases.guests ≡ x.leases.guests
    pub lease_count : length y.leases.out ≡ length x.leases.out
    pub leases : (q : GuestPlace) → IsThere x.world.imsic (spot_of q) → is_out y.leases q ≡ is_held (Stepped g ∷ h) q
    pub left : (q : GuestPlace) → IsThere x.world.imsic (spot_of q) → holds q (home h g) ≡ true → holds q (home (Stepped g ∷ h) g) ≡ false
        → shown (file_at y.world.imsic (spot_of q)) ≡ empty_file (greatest_identity_of h)

  free : StepEnds → (q : GuestPlace) → IsThere x.world.imsic (spot_of q) → is_held (Stepped g ∷ h) q ≡ false
      → shown (file_at y.world.imsic (spot_of q)) ≡ empty_file (greatest_identity_of h)
  free e q inside none = elim (cases_Bool (holds q (home h g))) [
    | inl mine ↦ e.left q inside mine after
    | inr not_mine ↦
        let was : is_held h q ≡ false = sym (held_as h (Stepped g) g q (stepped_move h g) (after ∙ sym not_mine)) ∙ none in
        ap shown (touches.guest_files q inside (ap (holds q) same_home ∙ not_mine)) ∙ s.stands.free q inside was
  ]
    where
      after : holds q (home (Stepped g ∷ h) g) ≡ false
      after = of_none (vms_of h) (λ z. holds q (home (Stepped g ∷ h) z)) g none s.there

  pub step_changes : StepEnds → MoveChanges x y h (Stepped g) g
  step_changes e = record {
    moves = stepped_move h g;
    still = still_step h g s.first;
    there = s.there;
    rest = touches.rest;
    passes = s.passes;
    count = count;
    host = host;
    records = ap (λ (rs : List VcpuRecord). length rs) s.vcpus ∙ length-set x.vcpus (slot_of x.world.vms g) r;
    other_records = λ other inside ne. other_record x y h g other r s.stands s.there inside ne machine.vms s.vcpus;
    other_views = other_views;
    own = e.own;
    lease_harts = e.lease_harts;
    lease_guests = e.lease_guests;
    lease_count = e.lease_count;
    leases = e.leases;
    held = λ q holding. s.stands.held g q s.there (e.keeps q holding);
    apart = λ other q inside ne holding. its_alone other q inside ne (e.keeps q holding);
    free = free e;
    entries = λ other ne. touches.in_force other (is_other other ne);
    slots = λ q few ne. touches.slots q few (λ e. ne (e ∙ same_slot ∙ sym mine));
    stages = λ q ne. touches.stages q (λ e. ne (e ∙ ap (slot_of x.world.vms) is_mover));
  }
    where
      mine : slot_of x.world.vms g ≡ slot_of (vms_of h) g
      mine = ap (λ vms. slot_of vms g) s.stands.vms

-- the home after a step
pub stepped_home : (h : History) (g : Vcpu) → home (Stepped g ∷ h) g ≡ further (passes_for h g) (file_words h) (home h g)
stepped_home h g = home_step (Stepped g) h g ∙ cond-true _ _ _ (is_itself g)

-- after one that aims no passed source
pub unaimed_home : (h : History) (g : Vcpu) → is_aiming (passes_for h g) (home h g) ≡ false
    → home (Stepped g ∷ h) g ≡ stepped (file_words h) (home h g)
unaimed_home h g e = stepped_home h g ∙ further_on (passes_for h g) (file_words h) (home h g) e
