-- A step of a move that goes on, in a core that stands for a history.
use Rattle.std.proofs.Common.{◌≡◌, true, ◌||◌, length, ◌∷◌, refl, sym, ap, subst, ◌∙◌}
use Rattle.std.proofs.lemmas.Bool.{cond-false, false≢true, cond-true}
use Rattle.aia_vcpu.specs.declared.place.GuestPlace.{GuestPlace}
use Rattle.aia_vcpu.specs.Vms.{Vcpu, vcpu_of}
use Rattle.aia_vcpu.specs.Home.{Home, holds, is_moving, one_more}
use Rattle.aia_vcpu.specs.Plans.{is_at_last}
use Rattle.aia_vcpu.specs.Home.Home.{OnWay}
use Rattle.aia_vcpu_places.specs.Holds.{Hand, sees}
use Rattle.aia_vcpu_places.specs.Stores.{AreApart}
use Rattle.aia_pool.specs.Leases.{Leases, is_out}
use Rattle.aia_move_values.specs.Views.{places_of}
use Rattle.aia_move_values.specs.declared.who.Who.{Who}
use Rattle.aia_move_values.specs.Move.{mover, width, MoveFits, Goes}
use Rattle.aia_move_values.specs.PlanState.{PlanState, moving_of}
use Rattle.aia_move_values.specs.Plan.{IsInPhase}
use Rattle.aia_move_values.proofs.MoveKept.{goes_kept}
use Rattle.aia_model.specs.Event.{History}
use Rattle.aia_model.specs.Event.Event.{Stepped}
use Rattle.aia_model.specs.GuestFile.{guest_file}
use Rattle.aia_major.specs.Kept.{majors_shown}
use Rattle.aia_model.specs.ReachOf.{in_force_of}
use Rattle.aia_model.specs.HomeOf.{home}
use Rattle.aia_model.specs.Notice.{a_look_saw}
use Rattle.aia_vcpu.specs.Routes.{reach_stepped}
use Rattle.aia_model.proofs.ReachLemmas.{reach_step}
use Rattle.aia_model.proofs.MoveLemmas.{seen_stepped, is_itself}
use Rattle.aia_hyp_values.specs.declared.vcpu.Stay.TheVariants as stays
use Rattle.aia_hyp_values.specs.Core.{VcpuRecord}
use Rattle.aia_hyp_values.specs.Core.{CoreState, record_of, home_in, hand_in}
use Rattle.aia_hyp_values.specs.Stands.{PlanStands, VcpuStands, CoreStands}
use Rattle.aia_hyp_values.proofs.VcpuLemmas.{IsHeld, majors_rest}
use Rattle.aia_hyp_values.proofs.MoveChanges.{stepped_move, file_rests, select_rests, held_as, moved_on}
use Rattle.aia_hyp_values.proofs.MoveSteps as steps
use Rattle.aia_model.specs.Passes.{passes_of}
use Rattle.aia_hyp_values.specs.Passes.{own_passes, HasItsPasses}
use Rattle.aia_hyp_values.proofs.MoveSteps.{StepOf, unaimed_home}

one_more_holds : (q : GuestPlace) (there : Home) → holds q (one_more there) ≡ holds q there
one_more_holds q (OnWay way at) = refl
one_more_holds q there = refl

one_more_moves : (there : Home) → is_moving (one_more there) ≡ is_moving there
one_more_moves (OnWay way at) = refl
one_more_moves there = refl

one_more_apart : (there : Home) → AreApart there → AreApart (one_more there)
one_more_apart (OnWay way at) p = p
one_more_apart there p = tt

-- the plan has made its next access, and has a later step to make
pub record GoesOf (x y : CoreState) (h : History) (g : Vcpu) (plan later : PlanState) (r : VcpuRecord) : Type 0 where
  pub step_of : StepOf x y h g plan r (moving_of later).hand
  pub leases : y.leases ≡ x.leases
  pub stay : r.stay ≡ stays.Moving later
  pub goes : Goes x.world (moving_of plan) y.world (moving_of later)
  pub fits : MoveFits y.world (moving_of later)
  pub phase : IsInPhase (width y.world) later

module _ (x y : CoreState) (h : History) (g : Vcpu) (plan later : PlanState) (r : VcpuRecord) (b : GoesOf x y h g plan later r) where
  abbrev hand : Hand
  hand = (moving_of later).hand

  pub further : home (Stepped g ∷ h) g ≡ one_more (home h g)
  further = unaimed_home h g b.step_of.unaimed ∙ cond-false _ _ _
      ((λ k. is_at_last (sym (steps.same_words x y h g plan r hand b.step_of) k) (sym (steps.same_home x y h g plan r hand b.step_of) k))
      ∙ b.goes.more)

  later_home : (moving_of later).home ≡ home (Stepped g ∷ h) g
  later_home = b.goes.home ∙ ap one_more (steps.same_home x y h g plan r hand b.step_of) ∙ sym further

  later_mover : mover (moving_of later) ≡ g
  later_mover = ap (λ (who : Who). vcpu_of who.found.vm who.found.vcpu) b.goes.same_who ∙ steps.is_mover x y h g plan r hand b.step_of

  pub later_moving : is_moving (moving_of later).home ≡ true
  later_moving = ap is_moving b.goes.home ∙ one_more_moves (moving_of plan).home ∙ steps.still_moving x y h g plan r hand b.step_of

  same_holds : (q : GuestPlace) → holds q (home (Stepped g ∷ h) g) ≡ holds q (home h g)
  same_holds q = ap (holds q) further ∙ one_more_holds q (home h g)

  later_seen : (a_look_saw h g || sees (width x.world) (moving_of plan).home (guest_file h g)) ≡ a_look_saw (Stepped g ∷ h) g
  later_seen =
      (λ k. a_look_saw h g || sees (steps.same_words x y h g plan r hand b.step_of k) (steps.same_home x y h g plan r hand b.step_of k)
      (guest_file h g))
      ∙ sym (seen_stepped h g)

  later_reach : reach_stepped (moving_of plan).home (in_force_of h g) ≡ in_force_of (Stepped g ∷ h) g
  later_reach = ap (λ t. reach_stepped t (in_force_of h g)) (steps.same_home x y h g plan r hand b.step_of)
      ∙ sym (reach_step (Stepped g) h g ∙ cond-true _ _ _ (is_itself g))

  goes_own : VcpuStands y (Stepped g ∷ h) g
  goes_own =
      let s = b.step_of in
      let kept = steps.step_record x y h g plan r hand s in
      let stay : (record_of y g).stay ≡ stays.Moving later = ap (λ (r : VcpuRecord). r.stay) kept ∙ b.stay in
      let file = file_rests h (Stepped g) g ((stepped_move h g).rests g) in
      record {
        same_home = ap home_in stay ∙ later_home;
        select = ap (λ (r : VcpuRecord). r.select) kept ∙ s.select ∙ (s.stands.vcpus g s.there).select
            ∙ sym (select_rests h (Stepped g) g ((stepped_move h g).rests g));
        majors = ap (λ (r : VcpuRecord). majors_shown r.majors) kept ∙ ap majors_shown s.majors ∙ (s.stands.vcpus g s.there).majors
            ∙ sym (majors_rest h (Stepped g) g ((stepped_move h g).majors g));
        two_files = subst AreApart (sym further) (one_more_apart (home h g) (s.stands.vcpus g s.there).two_files);
        plan = subst (PlanStands y.world g) (sym stay) (b.fits, b.phase, later_mover, later_moving);
        passes = subst (HasItsPasses (passes_of (Stepped g ∷ h)) g) (sym stay)
            (ap (λ (who : Who). who.passes.items) b.goes.same_who ∙ steps.its_passes x y h g plan r hand s
            ∙ ap (own_passes 0 g) (sym (stepped_move h g).passes));
        holds = subst IsHeld (λ k. record {
          words = steps.same_words x y h g plan r hand s k;
          slot = (ap (λ (who : Who). who.found.slot) b.goes.same_who ∙ steps.same_slot x y h g plan r hand s) k;
          hart = (ap (λ (who : Who). who.found.notice) b.goes.same_who ∙ steps.same_notice x y h g plan r hand s) k;
          reach = later_reach k;
          shows = places_of y.world (later_mover k) (later_home k);
          there = later_home k;
          hand = hand_in (sym stay k);
          file = sym file k;
          saw = later_seen k;
        }) (goes_kept x.world y.world (moving_of plan) s.whole (steps.fits x y h g plan r hand s) (steps.apart x y h g plan r hand s)
            (in_force_of h g) (guest_file h g) (a_look_saw h g) (moving_of later) b.goes
            (steps.within x y h g plan r hand s) (steps.held x y h g plan r hand s));
      }

  pub goes_stands : CoreStands y (Stepped g ∷ h)
  goes_stands = moved_on x y h (Stepped g) g (steps.step_changes x y h g plan r hand b.step_of (record {
    own = goes_own;
    keeps = λ q holding. sym (same_holds q) ∙ holding;
    lease_harts = ap (λ (l : Leases). l.harts) b.leases;
    lease_guests = ap (λ (l : Leases). l.guests) b.leases;
    lease_count = ap (λ (l : Leases). length l.out) b.leases;
    leases = λ q inside. ap (λ l. is_out l q) b.leases ∙ b.step_of.stands.leases q inside
        ∙ sym (held_as h (Stepped g) g q (stepped_move h g) (same_holds q));
    left = λ q inside mine not_mine. absurd (false≢true (sym not_mine ∙ same_holds q ∙ mine));
  })) b.step_of.stands
