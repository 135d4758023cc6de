-- The last step of a move, in a core that stands for a history.
use Rattle.std.proofs.Common.{◌≡◌, ℕ, ◌+◌, ◌*◌, ◌/◌, ◌%◌, Bool, true, false, ◌&&◌, ◌||◌, length, ◌∷◌, Option, Some, None, inl, inr, refl, sym, ap, subst, ◌∙◌, arith}
use Rattle.std.proofs.lemmas.Bool.{cases_Bool, cond-true, false≢true, ne_eqb}
use Rattle.std.proofs.lemmas.List.{length-set}
use Rattle.aia_word.specs.Sets.{has_bit}
use Rattle.aia_file.specs.InterruptFile.{InterruptFile, empty_file}
use Rattle.aia_file.specs.FileState.{shown}
use Rattle.aia_file.proofs.FileLemmas.{same_file}
use Rattle.aia_file.specs.Imsic.{IsThere, file_at}
use Rattle.aia_vcpu.specs.declared.place.GuestPlace.{GuestPlace}
use Rattle.aia_vcpu.specs.Vms.{Vcpu, is_vcpu}
use Rattle.aia_vcpu.specs.Home.{Home, is_place, holds, ended}
use Rattle.aia_vcpu.specs.Plans.{is_at_last, steps_done, step_of, is_last_made}
use Rattle.aia_vcpu.specs.declared.rest.Rest.TheVariants.{Parked}
use Rattle.aia_vcpu.specs.Home.Home.{InMemory, Resident, OnWay}
use Rattle.aia_vcpu.specs.Home.Way.{Outward, Inward, Across}
use Rattle.aia_vcpu.specs.BySteps.{old_file}
use Rattle.aia_vcpu.specs.declared.access.Access.TheVariants.{TakePending, TakeEnables}
use Rattle.aia_vcpu.proofs.AllLemmas.{no_vcpu}
use Rattle.aia_vcpu_places.specs.Places.{Places, old_place, new_place}
use Rattle.aia_vcpu_places.specs.Holds.{Hand, HoldsSets, Holds, IsEmpty}
use Rattle.aia_vcpu_places.specs.Stores.{AreApart}
use Rattle.aia_pool.specs.Leases.{Leases, is_out, with_out}
use Rattle.aia_fabric_values.specs.Whole.{IsWhole}
use Rattle.aia_fabric_values.specs.Changes.{spot_of}
use Rattle.aia_move_values.specs.Views.{places_of}
use Rattle.aia_fabric_values.proofs.WholeLemmas.{width_at}
use Rattle.aia_move_values.specs.declared.turn.Outcome.{Outcome}
use Rattle.aia_move_values.specs.declared.turn.Outcome.TheVariants.{Left, Arrived, Shifted}
use Rattle.aia_move_values.specs.Move.{mover, width}
use Rattle.aia_move_values.specs.PlanState.{PlanState, moving_of}
use Rattle.aia_move_values.specs.Turns.{GivesBack, EndsAs}
use Rattle.aia_move_values.proofs.MoveKept.{ends_kept, ends_empty}
use Rattle.aia_model.specs.Event.{History, greatest_identity_of}
use Rattle.aia_model.specs.Event.Event.{Stepped}
use Rattle.aia_model.specs.Vms.{vms_of, has_vcpu}
use Rattle.aia_model.specs.GuestFile.{guest_file}
use Rattle.aia_major.specs.Kept.{majors_shown}
use Rattle.aia_model.specs.ReachOf.{in_force_of}
use Rattle.aia_model.specs.HomeOf.{home}
use Rattle.aia_model.specs.Notice.{a_look_saw}
use Rattle.aia_vcpu.specs.Routes.{reach_stepped}
use Rattle.aia_model.proofs.ReachLemmas.{reach_step}
use Rattle.aia_model.proofs.PlaceLemmas.{ended_holds}
use Rattle.aia_vcpu.proofs.VmLemmas.{same_vcpu}
use Rattle.aia_model.proofs.MoveLemmas.{is_itself}
use Rattle.aia_hyp_values.specs.Core.{VcpuRecord}
use Rattle.aia_hyp_values.specs.Core.{CoreState, record_of, home_in, hand_in}
use Rattle.aia_hyp_values.specs.Moves.{stay_after, back_of, with_back}
use Rattle.aia_hyp_values.specs.Stands.{PlanStands, VcpuStands, is_held, CoreStands}
use Rattle.aia_vcpu.proofs.HomeLemmas.{same_place, origin_is_held}
use Rattle.aia_hyp_values.proofs.VcpuLemmas.{IsHeld, majors_rest}
use Rattle.aia_hyp_values.proofs.StandsLemmas.{guest_too}
use Rattle.aia_pool.proofs.LeaseLemmas.{out_here, out_elsewhere}
use Rattle.aia_hyp_values.proofs.LeaseLemmas.{in_pool}
use Rattle.aia_hyp_values.proofs.MoveChanges.{stepped_move, file_rests, select_rests, held_as, moved_on}
use Rattle.aia_hyp_values.proofs.MoveSteps as steps
use Rattle.aia_model.specs.Passes.{passes_of}
use Rattle.aia_hyp_values.specs.Passes.{HasItsPasses}
use Rattle.aia_hyp_values.proofs.MoveSteps.{StepOf, unaimed_home}

-- ---- where it ends

ended_home : (o : Outcome) (there : Home) (hand : Hand) → GivesBack o there hand → home_in (stay_after o) ≡ ended there
ended_home (Left file kept) (OnWay (Outward from) at) hand g = refl
ended_home (Arrived file) (OnWay (Inward to) at) hand g = ap Resident g
ended_home (Shifted old new) (OnWay (Across from to) at) hand g = ap Resident g.1
ended_home o there hand g = absurd g

pub ended_back : (o : Outcome) (there : Home) (hand : Hand) → GivesBack o there hand → back_of o ≡ old_file there
ended_back (Left file kept) (OnWay (Outward from) at) hand g = ap Some g.0
ended_back (Arrived file) (OnWay (Inward to) at) hand g = refl
ended_back (Shifted old new) (OnWay (Across from to) at) hand g = ap Some g.0
ended_back o there hand g = absurd g

-- what it holds then, and what it held
ended_left : (q : GuestPlace) (there : Home) → holds q there ≡ true → holds q (ended there) ≡ false → old_file there ≡ Some q
ended_left q (Resident p) e n = absurd (false≢true (sym n ∙ e))
ended_left q (OnWay (Outward from) at) e n = ap Some (sym (same_place q from e))
ended_left q (OnWay (Inward to) at) e n = absurd (false≢true (sym n ∙ e))
ended_left q (OnWay (Across from to) at) e n = ap Some (sym (same_place q from (or_here (is_place q from) (is_place q to) e n)))
  where
    or_here : (a b : Bool) → (a || b) ≡ true → b ≡ false → a ≡ true
    or_here true b e n = refl
    or_here false b e n = absurd (false≢true (sym n ∙ e))
ended_left q there e n = absurd (false≢true e)

-- the file that it leaves it held, and holds no more
pub ended_held : (p : GuestPlace) (there : Home) → old_file there ≡ Some p → holds p there ≡ true
ended_held p (OnWay way at) e = origin_is_held (OnWay way at) p e
ended_held p there e = absurd (cc)

ended_unheld : (p : GuestPlace) (there : Home) → AreApart there → old_file there ≡ Some p → holds p (ended there) ≡ false
ended_unheld p (Resident q) apart e = absurd (cc)
ended_unheld p (OnWay (Inward to) at) apart e = absurd (cc)
ended_unheld p (OnWay (Across from to) at) apart e = let same : from ≡ p = cc in ap (λ f. is_place f to) (sym same) ∙ apart
ended_unheld p there apart e = refl

-- of all others it holds what it held
ended_same : (q : GuestPlace) (there : Home) → old_file there ≡ None → holds q (ended there) ≡ holds q there
ended_same q (OnWay (Outward from) at) e = absurd (cc)
ended_same q (OnWay (Across from to) at) e = absurd (cc)
ended_same q there e = refl

ended_others : (q p : GuestPlace) (there : Home) → old_file there ≡ Some p → is_place q p ≡ false → holds q (ended there) ≡ holds q there
ended_others q p (OnWay (Outward from) at) e ne = let same : from ≡ p = cc in sym ne ∙ ap (is_place q) (sym same)
ended_others q p (OnWay (Across from to) at) e ne = let same : from ≡ p = cc in ap (λ b. b || is_place q to) (sym ne ∙ ap (is_place q) (sym same))
ended_others q p there e ne = refl

ended_apart : (there : Home) → AreApart (ended there)
ended_apart (OnWay (Outward from) at) = tt
ended_apart there = tt

-- ---- what is held then

-- at rest nothing is carried
change_word : (words : ℕ) (v : Places) (there : Home) (word now : ℕ) (file : InterruptFile) → steps_done there ≡ 0
    → HoldsSets words v there word file → HoldsSets words v there now file
change_word words v there word now file first h = record {
  union = λ i l. h.union i l ∙ (λ k. (old_place v there).pending
      i || ((new_place v there).pending i || (pending_no (i / 64) k && has_bit word (i % 64))))
      ∙ (λ k. (old_place v there).pending i || ((new_place v there).pending i || (sym (pending_no (i / 64)) k && has_bit now (i % 64))));
  drained = h.drained;
  fresh = h.fresh;
  old_enables = h.old_enables;
  carried_enables = λ i l. ap (λ b. b && has_bit now (i % 64)) (enables_no (i / 64)) ∙ sym (ap (λ b. b && file.enabled i) (enables_no (i / 64)));
  new_enables = h.new_enables;
  spare = h.spare;
  past = h.past;
}
  where
    pending_no : (w : ℕ) → is_last_made words there (TakePending w) ≡ false
    pending_no w = ne_eqb (steps_done there) (step_of words there (TakePending w) + 1) (λ e. omega (arith, first, e))

    enables_no : (w : ℕ) → is_last_made words there (TakeEnables w) ≡ false
    enables_no w = ne_eqb (steps_done there) (step_of words there (TakeEnables w) + 1) (λ e. omega (arith, first, e))

in_its_file : (p : GuestPlace) (hand now : Hand) (words slot hart : ℕ) (reach : Option GuestPlace) (v : Places) (file : InterruptFile)
    (saw : Bool) → Holds words slot hart reach v (Resident p) hand file false → Holds words slot hart reach v (Resident p) now file saw
in_its_file p hand now words slot hart reach v file saw h = record {
  sets = change_word words v (Resident p) hand.word now.word file refl h.sets;
  numbers = record {
    own_delivery = h.numbers.own_delivery;
    next_delivery = h.numbers.next_delivery;
    kept_delivery = λ z. absurd (cc);
    own_threshold = h.numbers.own_threshold;
    next_threshold = h.numbers.next_threshold;
    kept_threshold = λ z. absurd (cc);
  };
  routes = h.routes;
  looks = refl;
}

rested : (o : Outcome) (there : Home) (hand : Hand) (words slot hart : ℕ) (reach : Option GuestPlace) (v : Places) (file : InterruptFile)
    (saw : Bool) → GivesBack o there hand → Holds words slot hart reach v (ended there) hand file false
    → Holds words slot hart reach v (ended there) (hand_in (stay_after o)) file saw
rested (Left place kept) (OnWay (Outward from) at) hand words slot hart reach v file saw g h = record {
  sets = change_word words v (InMemory Parked) hand.word 0 file refl h.sets;
  numbers = record {
    own_delivery = h.numbers.own_delivery;
    next_delivery = h.numbers.next_delivery;
    kept_delivery = λ z. g.1 ∙ h.numbers.kept_delivery z;
    own_threshold = h.numbers.own_threshold;
    next_threshold = h.numbers.next_threshold;
    kept_threshold = λ z. g.2 ∙ h.numbers.kept_threshold z;
  };
  routes = h.routes;
  looks = refl;
}
rested (Arrived place) (OnWay (Inward to) at) hand words slot hart reach v file saw g h =
    in_its_file to hand (hand_in (stay_after (Arrived place))) words slot hart reach v file saw h
rested (Shifted old new) (OnWay (Across from to) at) hand words slot hart reach v file saw g h =
    in_its_file to hand (hand_in (stay_after (Shifted old new))) words slot hart reach v file saw h
rested o there hand words slot hart reach v file saw g h = absurd g

-- ---- the last step

-- the plan has made its last access, and the virtual hart is at rest; the file that it left is
-- given back
pub record EndsOf (x y : CoreState) (h : History) (g : Vcpu) (plan : PlanState) (o : Outcome) (r : VcpuRecord) : Type 0 where
  pub step_of : StepOf x y h g plan r (moving_of plan).hand
  pub whole_then : IsWhole y.world
  pub leases : y.leases ≡ with_back (back_of o) x.leases
  pub stay : r.stay ≡ stay_after o
  pub ends : EndsAs x.world (moving_of plan) y.world o

module _ (x y : CoreState) (h : History) (g : Vcpu) (plan : PlanState) (o : Outcome) (r : VcpuRecord) (b : EndsOf x y h g plan o r) where
  abbrev hand : Hand
  hand = (moving_of plan).hand

  home_is : (moving_of plan).home ≡ home h g
  home_is = steps.same_home x y h g plan r hand b.step_of

  pub at_end : home (Stepped g ∷ h) g ≡ ended (home h g)
  at_end = unaimed_home h g b.step_of.unaimed ∙ cond-true _ _ _
      ((λ k. is_at_last (sym (steps.same_words x y h g plan r hand b.step_of) k) (sym home_is k)) ∙ b.ends.ends.last)

  rest_home : ended (moving_of plan).home ≡ home (Stepped g ∷ h) g
  rest_home = ap ended home_is ∙ sym at_end

  rest_reach : reach_stepped (moving_of plan).home (in_force_of h g) ≡ in_force_of (Stepped g ∷ h) g
  rest_reach = ap (λ t. reach_stepped t (in_force_of h g)) home_is ∙ sym (reach_step (Stepped g) h g ∙ cond-true _ _ _ (is_itself g))

  held_before : Holds (width x.world) (moving_of plan).who.found.slot (moving_of plan).who.found.notice (in_force_of h g)
      (places_of x.world (mover (moving_of plan)) (moving_of plan).home) (moving_of plan).home (moving_of plan).hand (guest_file h g) (a_look_saw h g)
  held_before = steps.held x y h g plan r hand b.step_of

  ends_own : VcpuStands y (Stepped g ∷ h) g
  ends_own =
      let s = b.step_of in
      let kept = steps.step_record x y h g plan r hand s in
      let stay : (record_of y g).stay ≡ stay_after o = ap (λ (r : VcpuRecord). r.stay) kept ∙ b.stay in
      let file = file_rests h (Stepped g) g ((stepped_move h g).rests g) in
      record {
        same_home = ap home_in stay ∙ ended_home o (moving_of plan).home hand b.ends.gives ∙ rest_home;
        select = ap (λ (r : VcpuRecord). r.select) kept ∙ s.select ∙ (s.stands.vcpus g s.there).select
            ∙ sym (select_rests h (Stepped g) g ((stepped_move h g).rests g));
        majors = ap (λ (r : VcpuRecord). majors_shown r.majors) kept ∙ ap majors_shown s.majors ∙ (s.stands.vcpus g s.there).majors
            ∙ sym (majors_rest h (Stepped g) g ((stepped_move h g).majors g));
        two_files = subst AreApart (sym at_end) (ended_apart (home h g));
        plan = subst (PlanStands y.world g) (sym stay) (no_plan o);
        passes = subst (HasItsPasses (passes_of (Stepped g ∷ h)) g) (sym stay) (no_passes o);
        holds = subst IsHeld (λ k. record {
          words = steps.same_words x y h g plan r hand s k;
          slot = steps.same_slot x y h g plan r hand s k;
          hart = steps.same_notice x y h g plan r hand s k;
          reach = rest_reach k;
          shows = places_of y.world (steps.is_mover x y h g plan r hand s k) (rest_home k);
          there = rest_home k;
          hand = hand_in (sym stay k);
          file = sym file k;
          saw = a_look_saw (Stepped g ∷ h) g;
        }) (rested o (moving_of plan).home hand (width x.world) (moving_of plan).who.found.slot (moving_of plan).who.found.notice
            (reach_stepped (moving_of plan).home (in_force_of h g)) (places_of y.world (mover (moving_of plan)) (ended (moving_of plan).home))
            (guest_file h g) (a_look_saw (Stepped g ∷ h) g) b.ends.gives
            (ends_kept x.world y.world (moving_of plan) s.whole (steps.fits x y h g plan r hand s) (steps.apart x y h g plan r hand s)
            (in_force_of h g) (guest_file h g) (a_look_saw h g) hand b.ends.ends
            (steps.within x y h g plan r hand s) held_before));
      }
    where
      no_plan : (o : Outcome) → PlanStands y.world g (stay_after o)
      no_plan (Left place kept) = tt
      no_plan (Arrived place) = tt
      no_plan (Shifted old new) = tt

      no_passes : (o : Outcome) → HasItsPasses (passes_of (Stepped g ∷ h)) g (stay_after o)
      no_passes (Left place kept) = tt
      no_passes (Arrived place) = tt
      no_passes (Shifted old new) = tt

  -- the file that is given back
  back_is : back_of o ≡ old_file (home h g)
  back_is = ended_back o (moving_of plan).home hand b.ends.gives ∙ ap old_file home_is

  pub back_held : (p : GuestPlace) → back_of o ≡ Some p → holds p (home h g) ≡ true
  back_held p e = ended_held p (home h g) (sym back_is ∙ e)

  out_held : (back : Option GuestPlace) → back_of o ≡ back → (q : GuestPlace) → IsThere x.world.imsic (spot_of q)
      → is_out (with_back back x.leases) q ≡ is_held (Stepped g ∷ h) q
  out_held None e q inside =
      b.step_of.stands.leases q inside ∙ sym (held_as h (Stepped g) g q (stepped_move h g)
      (ap (holds q) at_end ∙ ended_same q (home h g) (sym back_is ∙ e)))
  out_held (Some p) e q inside = elim (cases_Bool (is_place q p)) [
    | inl same ↦
        let it = same_place q p same in
        ap (is_out (with_out x.leases p false)) it ∙ out_here x.leases p false (in_pool x h p b.step_of.stands there) long
        ∙ sym (ap (is_held (Stepped g ∷ h)) it ∙ no_vcpu (vms_of h) (λ z. holds p (home (Stepped g ∷ h) z)) nobody)
    | inr ne ↦
        out_elsewhere x.leases p q false (in_pool x h p b.step_of.stands there) (in_pool x h q b.step_of.stands inside) ne
        ∙ b.step_of.stands.leases q inside ∙ sym (held_as h (Stepped g) g q (stepped_move h g)
        (ap (holds q) at_end ∙ ended_others q p (home h g) (sym back_is ∙ e) ne))
  ]
    where
      mine : holds p (home h g) ≡ true
      mine = back_held p e

      there : IsThere x.world.imsic (spot_of p)
      there = b.step_of.stands.held g p b.step_of.there mine

      long : length x.leases.out ≡ x.leases.harts * x.leases.guests
      long = b.step_of.stands.lease_count ∙ (λ k. (sym b.step_of.stands.lease_harts k) * (sym b.step_of.stands.lease_guests k))

      nobody : (z : Vcpu) → has_vcpu h z ≡ true → holds p (home (Stepped g ∷ h) z) ≡ false
      nobody z inside = elim (cases_Bool (is_vcpu z g)) [
        | inl is ↦ ap (λ z. holds p (home (Stepped g ∷ h) z)) (same_vcpu z g is) ∙ ap (holds p) at_end
            ∙ ended_unheld p (home h g) (b.step_of.stands.vcpus g b.step_of.there).two_files (sym back_is ∙ e)
        | inr ne ↦ ap (holds p) ((stepped_move h g).homes z ne) ∙ steps.its_alone x y h g plan r hand b.step_of z p inside ne mine
      ]

  -- it is empty
  left_is_empty : (q : GuestPlace) → IsThere x.world.imsic (spot_of q) → holds q (home h g) ≡ true → holds q (home (Stepped g ∷ h) g) ≡ false
      → shown (file_at y.world.imsic (spot_of q)) ≡ empty_file (greatest_identity_of h)
  left_is_empty q inside mine not_mine =
      let s = b.step_of in
      let leaves : old_file (home h g) ≡ Some q = ended_left q (home h g) mine (ap (holds q) (sym at_end) ∙ not_mine) in
      let empty : IsEmpty (shown (file_at y.world.imsic (spot_of q))) =
      ends_empty x.world y.world (moving_of plan) s.whole (steps.fits x y h g plan r hand s) (steps.apart x y h g plan r hand s) (in_force_of h g)
      (guest_file h g) (a_look_saw h g) hand q b.ends.ends (ap old_file home_is ∙ leaves) held_before in
      let machine = steps.machine x y h g plan r hand s in
      same_file _ (empty_file (greatest_identity_of h)) (record {
        n = width_at y.world (spot_of q) b.whole_then (guest_too x.world.imsic y.world.imsic q (sym machine.harts) (sym machine.guests) inside)
            ∙ machine.n ∙ s.stands.greatest;
        pending = λ i. empty.pending i;
        enabled = λ i. empty.enabled i;
        threshold = empty.threshold;
        delivery = empty.delivery;
      })

  pub ends_stands : CoreStands y (Stepped g ∷ h)
  ends_stands = moved_on x y h (Stepped g) g (steps.step_changes x y h g plan r hand b.step_of (record {
    own = ends_own;
    keeps = λ q holding. ended_holds q (home h g) (ap (holds q) (sym at_end) ∙ holding);
    lease_harts = ap (λ (l : Leases). l.harts) b.leases ∙ harts_back (back_of o);
    lease_guests = ap (λ (l : Leases). l.guests) b.leases ∙ guests_back (back_of o);
    lease_count = ap (λ (l : Leases). length l.out) b.leases ∙ count_back (back_of o);
    leases = λ q inside. ap (λ l. is_out l q) b.leases ∙ out_held (back_of o) refl q inside;
    left = left_is_empty;
  })) b.step_of.stands
    where
      harts_back : (back : Option GuestPlace) → (with_back back x.leases).harts ≡ x.leases.harts
      harts_back None = refl
      harts_back (Some p) = refl

      guests_back : (back : Option GuestPlace) → (with_back back x.leases).guests ≡ x.leases.guests
      guests_back None = refl
      guests_back (Some p) = refl

      count_back : (back : Option GuestPlace) → length (with_back back x.leases).out ≡ length x.leases.out
      count_back None = refl
      count_back (Some p) = length-set x.leases.out _ false
