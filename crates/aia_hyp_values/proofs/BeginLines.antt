-- Each of the three moves begins, in a core that stands for a history.
use Rattle.std.proofs.Common.{◌≡◌, ℕ, Bool, true, false, ◌&&◌, ◌||◌, ◌∷◌, Option, Some, None, inl, inr, refl, sym, ap, subst, ◌∙◌}
use Rattle.std.specs.Option.{option_map_or}
use Rattle.std.proofs.lemmas.Bool.{cases_Bool, cond-true, false≢true}
use Rattle.aia_file.specs.InterruptFile.{InterruptFile, empty_file}
use Rattle.aia_file.specs.FileState.{shown}
use Rattle.aia_file.specs.Imsic.{file_at}
use Rattle.aia_vcpu.specs.declared.place.GuestPlace.{GuestPlace}
use Rattle.aia_vcpu.specs.Vms.{Vcpu, vcpu_of, slot_of, notice_hart}
use Rattle.aia_vcpu.specs.Home.{Way, Home, is_place, is_moving, holds, at_first, leaving, arriving, shifting}
use Rattle.aia_vcpu.specs.declared.rest.Rest.TheVariants.{Parked}
use Rattle.aia_vcpu.specs.Home.Home.{InMemory, Resident, OnWay}
use Rattle.aia_vcpu.specs.Home.Way.{Outward, Inward, Across}
use Rattle.aia_vcpu.specs.BySteps.{is_leaving}
use Rattle.aia_vcpu.specs.Plans.{steps_done}
use Rattle.aia_vcpu.proofs.AllLemmas.{of_none}
use Rattle.aia_vcpu_places.specs.Holds.{Hand, Holds, IsEmpty}
use Rattle.aia_vcpu_places.specs.Stores.{HasApart, AreApart}
use Rattle.aia_vcpu_places.proofs.MoveEnds.{leave_begins, shift_begins, arrive_begins}
use Rattle.aia_pool.specs.Leases.{with_out}
use Rattle.aia_fabric_values.specs.Changes.{spot_of}
use Rattle.aia_move_values.specs.Views.{places_of}
use Rattle.aia_move_values.specs.declared.who.Who.{Who}
use Rattle.aia_move_values.specs.declared.who.KeptNumbers.{KeptNumbers}
use Rattle.aia_move_values.specs.Move.{Moving, width, IsWho}
use Rattle.aia_move_values.specs.PlanState.{PlanState, moving_of}
use Rattle.aia_move_values.specs.Plan.{IsInPhase}
use Rattle.aia_model.specs.Move.{WantedMove, mover}
use Rattle.aia_model.specs.Move.WantedMove.{Arrives, Leaves, Shifts}
use Rattle.aia_model.specs.Event.{History, greatest_identity_of, file_words}
use Rattle.aia_model.specs.Event.Event.{Began}
use Rattle.aia_model.specs.Vms.{vms_of, has_vcpu}
use Rattle.aia_model.specs.GuestFile.{guest_file}
use Rattle.aia_model.specs.ReachOf.{in_force_of}
use Rattle.aia_model.specs.HomeOf.{home, guest_place}
use Rattle.aia_model.specs.Notice.{a_look_saw}
use Rattle.aia_model.proofs.MoveLemmas.{home_step, seen_begun, is_itself}
use Rattle.aia_hyp_values.specs.Core.{Stay}
use Rattle.aia_hyp_values.specs.declared.vcpu.Stay.TheVariants as stays
use Rattle.aia_hyp_values.specs.Core.{VcpuRecord}
use Rattle.aia_hyp_values.specs.Core.{CoreState, record_of, home_in, hand_in}
use Rattle.aia_hyp_values.specs.Stands.{CoreStands}
use Rattle.aia_vcpu.proofs.HomeLemmas.{same_place, is_itself_place}
use Rattle.aia_hyp_values.proofs.VcpuLemmas.{IsHeld, Wanted}
use Rattle.aia_hyp_values.specs.Passes.{own_passes}
use Rattle.aia_hyp_values.proofs.LeaseLemmas.{IsFreeAt}
use Rattle.aia_hyp_values.proofs.MoveBegins.{Planned, with_taken, is_taken, IsFreeIn, begun_stands}

-- ---- what is true of each beginning

-- A core whose virtual hart has begun a move: the plan is of who is moved, with the passes to it, and
-- in its phase.
pub record Given (x y : CoreState) (h : History) (g : Vcpu) (who : Who) (plan : PlanState) (r : VcpuRecord) : Type 0 where
  pub planned : Planned x y h g plan r
  pub is_who : IsWho x.world who
  pub its_passes : who.passes.items ≡ own_passes 0 g x.passes
  pub same : vcpu_of who.found.vm who.found.vcpu ≡ g
  pub phase : (words : ℕ) → IsInPhase words plan

-- a file that nobody has is empty
empty_is_empty : (n : ℕ) → IsEmpty (empty_file n)
empty_is_empty n = record { pending = λ i. refl; enabled = λ i. refl; delivery = refl; threshold = refl }

free_is_empty : (x : CoreState) (h : History) (hart : ℕ) (p : GuestPlace) → CoreStands x h → IsFreeAt x h hart p
    → IsEmpty (shown (file_at x.world.imsic (spot_of p)))
free_is_empty x h hart p stands free = subst (λ (f : InterruptFile). IsEmpty f) (sym (stands.free p free.inside free.none))
    (empty_is_empty (greatest_identity_of h))

-- what looks saw is nothing but to a leave
saw_any : (a : Wanted) (saw : Bool) → is_leaving a.there ≡ false → IsHeld a → IsHeld (record a { saw = saw })
saw_any a saw e h = record {
  sets = h.sets;
  numbers = h.numbers;
  routes = h.routes;
  looks = ap (λ b. b && a.hand.seen) e ∙ sym (ap (λ b. b && saw) e);
}

-- the places of the virtual hart as it was, by where it was
held_at : (x : CoreState) (h : History) (g : Vcpu) (there : Home) → CoreStands x h → has_vcpu h g ≡ true → home h g ≡ there
    → Holds (file_words h) (slot_of (vms_of h) g) (notice_hart (vms_of h) g) (in_force_of h g) (places_of x.world g there) there
    (hand_in (record_of x g).stay) (guest_file h g) (a_look_saw h g)
held_at x h g there stands inside e =
    subst (λ (t : Home). Holds (file_words h) (slot_of (vms_of h) g) (notice_hart (vms_of h) g) (in_force_of h g) (places_of x.world g t) t
    (hand_in (record_of x g).stay) (guest_file h g) (a_look_saw h g)) e (stands.vcpus g inside).holds

pub home_at : (x : CoreState) (h : History) (g : Vcpu) (stay : Stay) → CoreStands x h → has_vcpu h g ≡ true → (record_of x g).stay ≡ stay
    → home h g ≡ home_in stay
home_at x h g stay stands inside e = sym (stands.vcpus g inside).same_home ∙ ap home_in e

or_nothing : (b : Bool) → b ≡ (b || false)
or_nothing true = refl
or_nothing false = refl

-- the move of one begins at a way, and its places hold what they held
begun_at : (x y : CoreState) (h : History) (move : WantedMove) (who : Who) (plan : PlanState) (r : VcpuRecord) (way : Way) (hand : Hand)
    (taken : Option GuestPlace) → Given x y h (mover move) who plan r → y.leases ≡ with_taken taken x.leases → IsFreeIn x h taken
    → moving_of plan ≡ record { who = who; home = OnWay way at_first; hand = hand } → home (Began move ∷ h) (mover move) ≡ OnWay way at_first
    → ((q : GuestPlace) → holds q (OnWay way at_first) ≡ (holds q (home h (mover move)) || is_taken q taken)) → HasApart way
    → Holds (file_words h) (slot_of (vms_of h) (mover move)) (notice_hart (vms_of h) (mover move)) (in_force_of h (mover move))
    (places_of x.world (mover move) (OnWay way at_first)) (OnWay way at_first) hand (guest_file h (mover move))
    (a_look_saw (Began move ∷ h) (mover move))
    → CoreStands y (Began move ∷ h)
begun_at x y h move who plan r way hand taken b leases free begins after holding apart held = begun_stands x y h move plan r taken (record {
  planned = b.planned;
  leases = leases;
  is_free = free;
  who = subst (IsWho x.world) (ap (λ (m : Moving). m.who) (sym begins)) b.is_who;
  its_passes = ap (λ (m : Moving). m.who.passes.items) begins ∙ b.its_passes;
  same = ap (λ (m : Moving). vcpu_of m.who.found.vm m.who.found.vcpu) begins ∙ b.same;
  phase = b.phase (width x.world);
  goes = ap (λ (m : Moving). m.home) begins ∙ sym after;
  moving = ap (λ (m : Moving). is_moving m.home) begins;
  first = ap (λ (m : Moving). steps_done m.home) begins;
  holds = λ q. ap (holds q) after ∙ holding q;
  two_files = subst AreApart (sym after) apart;
  held = subst IsHeld (λ k. record {
    words = file_words h;
    slot = slot_of (vms_of h) (mover move);
    hart = notice_hart (vms_of h) (mover move);
    reach = in_force_of h (mover move);
    shows = places_of x.world (mover move) (sym after k);
    there = sym after k;
    hand = (sym begins k).hand;
    file = guest_file h (mover move);
    saw = a_look_saw (Began move ∷ h) (mover move);
  }) held;
})

-- ---- a leave

pub leave_begun : (x y : CoreState) (h : History) (g : Vcpu) (who : Who) (plan : PlanState) (r : VcpuRecord) (from : GuestPlace)
    → Given x y h g who plan r → y.leases ≡ x.leases → (record_of x g).stay ≡ stays.Resident from
    → moving_of plan ≡ record {
      who = who;
      home = OnWay (Outward from) at_first;
      hand =
          record { word = 0; delivery = 0; threshold = 0; seen = false };
    } → CoreStands y (Began (Leaves g) ∷ h)
leave_begun x y h g who plan r from b leases was begins =
    let hand : Hand = record { word = 0; delivery = 0; threshold = 0; seen = false } in
    let before : home h g ≡ Resident from = home_at x h g (stays.Resident from) b.planned.stands b.planned.there was in
    let after : home (Began (Leaves g) ∷ h) g ≡ OnWay (Outward from) at_first = home_step (Began (Leaves g)) h g ∙ cond-true _ _ _ (is_itself g)
    ∙ ap leaving before in
    let held : Holds (file_words h) (slot_of (vms_of h) g) (notice_hart (vms_of h) g) (in_force_of h g)
    (places_of x.world g (OnWay (Outward from) at_first)) (OnWay (Outward from) at_first) hand (guest_file h g) false =
    leave_begins (greatest_identity_of h) (file_words h) (slot_of (vms_of h) g) (notice_hart (vms_of h) g) (in_force_of h g)
    (places_of x.world g (Resident from)) (hand_in (record_of x g).stay) hand (guest_file h g) (a_look_saw h g) from refl
    (held_at x h g (Resident from) b.planned.stands b.planned.there before) in
    begun_at x y h (Leaves g) who plan r (Outward from) hand None b leases tt begins after
    (λ q. ap (holds q) (sym before) ∙ or_nothing (holds q (home h g))) tt
    (subst (λ saw. Holds (file_words h) (slot_of (vms_of h) g) (notice_hart (vms_of h) g) (in_force_of h g)
    (places_of x.world g (OnWay (Outward from) at_first)) (OnWay (Outward from) at_first) hand (guest_file h g) saw) (sym (seen_begun h g)) held)

-- ---- an arrival

pub arrive_begun : (x y : CoreState) (h : History) (g : Vcpu) (hart : ℕ) (who : Who) (plan : PlanState) (r : VcpuRecord) (to : GuestPlace)
    (kept : KeptNumbers) → Given x y h g who plan r → IsFreeAt x h hart to → y.leases ≡ with_out x.leases to true
    → (record_of x g).stay ≡ stays.InMemory Parked kept
    → moving_of plan ≡ record {
      who = who;
      home = OnWay (Inward to) at_first;
      hand =
          record { word = 0; delivery = kept.delivery; threshold = kept.threshold; seen = false };
    } → CoreStands y (Began (Arrives g hart) ∷ h)
arrive_begun x y h g hart who plan r to kept b free leases was begins =
    let hand : Hand = record { word = 0; delivery = kept.delivery; threshold = kept.threshold; seen = false } in
    let before : home h g ≡ InMemory Parked = home_at x h g (stays.InMemory Parked kept) b.planned.stands b.planned.there was in
    let after : home (Began (Arrives g hart) ∷ h) g ≡ OnWay (Inward to) at_first =
    home_step (Began (Arrives g hart)) h g ∙ cond-true _ _ _ (is_itself g)
    ∙ ap (λ o. option_map_or (λ file. arriving (guest_place hart file) (home h g)) o (home h g)) free.found
    ∙ ap (arriving (guest_place hart to.file)) before ∙ ap (λ t. OnWay (Inward (guest_place t to.file)) at_first) (sym free.hart_of) in
    let held : Holds (file_words h) (slot_of (vms_of h) g) (notice_hart (vms_of h) g) (in_force_of h g)
    (places_of x.world g (OnWay (Inward to) at_first)) (OnWay (Inward to) at_first) hand (guest_file h g) false =
    arrive_begins (greatest_identity_of h) (file_words h) (slot_of (vms_of h) g) (notice_hart (vms_of h) g) (in_force_of h g)
    (places_of x.world g (InMemory Parked)) (hand_in (record_of x g).stay) hand (guest_file h g) (a_look_saw h g) to
    (places_of x.world g (OnWay (Inward to) at_first)) refl
    (free_is_empty x h hart to b.planned.stands free) (ap (λ s. (hand_in s).delivery) (sym was)) (ap (λ s. (hand_in s).threshold) (sym was))
    (held_at x h g (InMemory Parked) b.planned.stands b.planned.there before) in
    begun_at x y h (Arrives g hart) who plan r (Inward to) hand (Some to) b leases (free.inside, free.none) begins after
    (λ q. sym (ap (λ t. holds q t || is_place q to) before)) tt
    (saw_any _ (a_look_saw (Began (Arrives g hart) ∷ h) g) refl held)

-- ---- a shift

pub shift_begun : (x y : CoreState) (h : History) (g : Vcpu) (hart : ℕ) (who : Who) (plan : PlanState) (r : VcpuRecord) (from to : GuestPlace)
    → Given x y h g who plan r → IsFreeAt x h hart to → y.leases ≡ with_out x.leases to true
    → (record_of x g).stay ≡ stays.Resident from → moving_of plan ≡ record
    { who = who; home = OnWay (Across from to) at_first; hand = record { word = 0; delivery = 0; threshold = 0; seen = false } }
    → CoreStands y (Began (Shifts g hart) ∷ h)
shift_begun x y h g hart who plan r from to b free leases was begins =
    let hand : Hand = record { word = 0; delivery = 0; threshold = 0; seen = false } in
    let before : home h g ≡ Resident from = home_at x h g (stays.Resident from) b.planned.stands b.planned.there was in
    let after : home (Began (Shifts g hart) ∷ h) g ≡ OnWay (Across from to) at_first =
    home_step (Began (Shifts g hart)) h g ∙ cond-true _ _ _ (is_itself g)
    ∙ ap (λ o. option_map_or (λ file. shifting (guest_place hart file) (home h g)) o (home h g)) free.found
    ∙ ap (shifting (guest_place hart to.file)) before ∙ ap (λ t. OnWay (Across from (guest_place t to.file)) at_first) (sym free.hart_of) in
    let held : Holds (file_words h) (slot_of (vms_of h) g) (notice_hart (vms_of h) g) (in_force_of h g)
    (places_of x.world g (OnWay (Across from to) at_first)) (OnWay (Across from to) at_first) hand (guest_file h g) false =
    shift_begins (greatest_identity_of h) (file_words h) (slot_of (vms_of h) g) (notice_hart (vms_of h) g) (in_force_of h g)
    (places_of x.world g (Resident from)) (hand_in (record_of x g).stay) hand (guest_file h g) (a_look_saw h g) from to
    (places_of x.world g (OnWay (Across from to) at_first)) refl
    (free_is_empty x h hart to b.planned.stands free) (held_at x h g (Resident from) b.planned.stands b.planned.there before) in
    begun_at x y h (Shifts g hart) who plan r (Across from to) hand (Some to) b leases (free.inside, free.none) begins after
    (λ q. sym (ap (λ t. holds q t || is_place q to) before)) (apart before)
    (saw_any _ (a_look_saw (Began (Shifts g hart) ∷ h) g) refl held)
  where
    -- its own file is held, the other one is not
    apart : home h g ≡ Resident from → is_place from to ≡ false
    apart before = elim (cases_Bool (is_place from to)) [
      | inl e ↦ absurd (false≢true (sym (of_none (vms_of h) (λ z. holds to (home h z)) g free.none b.planned.there) ∙ ap (holds to) before
          ∙ ap (λ (p : GuestPlace). is_place p from) (sym (same_place from to e)) ∙ is_itself_place from))
      | inr ne ↦ ne
    ]
