-- A move begins, in a core that stands for a history.
use Rattle.std.proofs.Common.{◌≡◌, ◌*◌, Bool, true, false, ◌||◌, get_or, List, length, ◌∷◌, Option, Some, None, ◌⊎◌, inl, inr, refl, sym, ap, subst, ◌∙◌, arith}
use Rattle.std.proofs.Math.ListN.{set}
use Rattle.std.proofs.lemmas.Bool.{cases_Bool, false≢true, or_right, eqb-true}
use Rattle.std.proofs.lemmas.List.{get_or-set_same, get_or-set_other, length-set}
use Rattle.aia_file.specs.InterruptFile.{SameFile}
use Rattle.aia_file.specs.FileState.{shown}
use Rattle.aia_file.specs.Imsic.{IsThere, file_at}
use Rattle.aia_file.specs.Mrif.{mrif_in}
use Rattle.aia_entry.specs.Tables.{table_of, entry_in_force}
use Rattle.aia_vcpu.specs.declared.place.GuestPlace.{GuestPlace}
use Rattle.aia_vcpu.specs.Vms.{Vcpu, is_vcpu, slot_of, notice_hart}
use Rattle.aia_vcpu.specs.Home.{is_place, is_moving, holds}
use Rattle.aia_vcpu.specs.Plans.{steps_done}
use Rattle.aia_vcpu.proofs.VmLemmas.{slot_below, same_slot}
use Rattle.aia_vcpu.proofs.AllLemmas.{any_vcpu, of_none}
use Rattle.aia_vcpu_places.specs.Holds.{Holds}
use Rattle.aia_vcpu_places.specs.Stores.{AreApart}
use Rattle.aia_pool.specs.Leases.{Leases, is_out, with_out}
use Rattle.aia_fabric_values.specs.World.{World, no_stage}
use Rattle.aia_fabric_values.specs.Changes.{spot_of}
use Rattle.aia_move_values.specs.Views.{places_of}
use Rattle.aia_move_values.specs.Move.{mover, width, MoveFits, IsWho}
use Rattle.aia_move_values.specs.PlanState.{PlanState, moving_of}
use Rattle.aia_move_values.specs.Plan.{IsInPhase}
use Rattle.aia_model.specs.Move.{WantedMove}
use Rattle.aia_model.specs.Move.WantedMove.{Arrives, Leaves, Shifts}
use Rattle.aia_model.specs.Move as moves
use Rattle.aia_model.specs.Event.{Event, History, file_words}
use Rattle.aia_model.specs.Event.Event.{Began}
use Rattle.aia_model.specs.Vms.{vms_of, has_vcpu}
use Rattle.aia_model.specs.GuestFile.{guest_file}
use Rattle.aia_major.specs.Kept.{majors_shown}
use Rattle.aia_model.specs.ReachOf.{in_force_of}
use Rattle.aia_model.specs.HomeOf.{home}
use Rattle.aia_model.specs.Notice.{a_look_saw}
use Rattle.aia_model.proofs.ReachLemmas.{reach_step}
use Rattle.aia_model.proofs.MoveLemmas.{is_itself}
use Rattle.aia_hyp_values.specs.declared.vcpu.Stay.TheVariants as stays
use Rattle.aia_hyp_values.specs.Core.{VcpuRecord}
use Rattle.aia_hyp_values.specs.Core.{CoreState, no_record, record_of, home_in, hand_in}
use Rattle.aia_hyp_values.specs.HostFiles.{host_spot, select_place}
use Rattle.aia_hyp_values.specs.Stands.{PlanStands, VcpuStands, is_held, CoreStands}
use Rattle.aia_move_values.specs.Touches.{SameMachine}
use Rattle.aia_vcpu.proofs.HomeLemmas.{same_place, own_is_held, next_is_held}
use Rattle.aia_hyp_values.proofs.VcpuLemmas.{still_move, IsHeld, majors_rest}
use Rattle.aia_move_values.proofs.MachineLemmas.{no_accesses}
use Rattle.aia_hyp_values.proofs.EventLemmas.{as_it_was}
use Rattle.aia_pool.proofs.LeaseLemmas.{out_here, out_elsewhere}
use Rattle.aia_hyp_values.proofs.LeaseLemmas.{in_pool}
use Rattle.aia_model.specs.Passes.{passes_of}
use Rattle.aia_hyp_values.specs.Passes.{own_passes, HasItsPasses}
use Rattle.aia_hyp_values.proofs.MoveChanges.{began_move, select_rests, file_rests, held_as, MoveChanges, moved_on}

begun_same_reach : (h : History) (move : WantedMove) (g : Vcpu) → in_force_of (Began move ∷ h) g ≡ in_force_of h g
begun_same_reach h (Leaves x) g = reach_step (Began (Leaves x)) h g
begun_same_reach h (Arrives x hart) g = reach_step (Began (Arrives x hart)) h g
begun_same_reach h (Shifts x hart) g = reach_step (Began (Shifts x hart)) h g

-- ---- the records of virtual harts

-- that of one is replaced
pub own_record : (x y : CoreState) (h : History) (g : Vcpu) (r : VcpuRecord) → CoreStands x h → has_vcpu h g ≡ true → y.world.vms ≡ x.world.vms
    → y.vcpus ≡ set x.vcpus (slot_of x.world.vms g) r → record_of y g ≡ r
own_record x y h g r stands there vms vcpus =
    let below = slot_below (vms_of h) g there in
    let mine : slot_of x.world.vms g ≡ slot_of (vms_of h) g = ap (λ vms. slot_of vms g) stands.vms in
    (λ k. get_or (vcpus k) (slot_of (vms k) g) no_record)
    ∙ get_or-set_same x.vcpus (slot_of x.world.vms g) r no_record (omega (arith, below, mine, stands.records))

pub other_record : (x y : CoreState) (h : History) (g other : Vcpu) (r : VcpuRecord) → CoreStands x h → has_vcpu h g ≡ true
    → has_vcpu h other ≡ true → is_vcpu other g ≡ false → y.world.vms ≡ x.world.vms → y.vcpus ≡ set x.vcpus (slot_of x.world.vms g) r
    → record_of y other ≡ record_of x other
other_record x y h g other r stands there inside ne vms vcpus =
    let its : slot_of x.world.vms other ≡ slot_of (vms_of h) other = ap (λ vms. slot_of vms other) stands.vms in
    let mine : slot_of x.world.vms g ≡ slot_of (vms_of h) g = ap (λ vms. slot_of vms g) stands.vms in
    (λ k. get_or (vcpus k) (slot_of (vms k) other) no_record)
    ∙ get_or-set_other x.vcpus (slot_of x.world.vms g) (slot_of x.world.vms other) r no_record
    (λ e. false≢true (sym ne ∙ ap (λ z. is_vcpu z g) (same_slot (vms_of h) other g inside there (sym its ∙ e ∙ mine)) ∙ is_itself g))

-- ---- the guest file that is taken, where one is

abbrev pub with_taken : Option GuestPlace → Leases → Leases
with_taken None l = l
with_taken (Some p) l = with_out l p true

abbrev pub is_taken : GuestPlace → Option GuestPlace → Bool
is_taken q None = false
is_taken q (Some p) = is_place q p

abbrev pub IsFreeIn : CoreState → History → Option GuestPlace → Type 0
IsFreeIn x h None = Unit {0}
IsFreeIn x h (Some p) = IsThere x.world.imsic (spot_of p) × (is_held h p ≡ false)

-- ---- what a beginning is

-- A core whose virtual hart has begun a move, of which its record keeps the plan now; nothing else is
-- changed, but for the leases.
pub record Planned (x y : CoreState) (h : History) (g : Vcpu) (plan : PlanState) (r : VcpuRecord) : Type 0 where
  pub stands : CoreStands x h
  pub there : has_vcpu h g ≡ true
  pub world : y.world ≡ x.world
  pub selects : y.selects ≡ x.selects
  pub passes : y.passes ≡ x.passes
  pub vcpus : y.vcpus ≡ set x.vcpus (slot_of x.world.vms g) r
  pub stay : r.stay ≡ stays.Moving plan
  pub select : r.select ≡ (record_of x g).select
  pub majors : r.majors ≡ (record_of x g).majors

-- The same of a move of one, with what it takes: the plan is new and leads where the move goes, and its
-- places hold the interrupt file still.
pub record Begins (x y : CoreState) (h : History) (move : WantedMove) (plan : PlanState) (r : VcpuRecord) (taken : Option GuestPlace) : Type 0 where
  pub planned : Planned x y h (moves.mover move) plan r
  pub leases : y.leases ≡ with_taken taken x.leases
  pub is_free : IsFreeIn x h taken
  pub who : IsWho x.world (moving_of plan).who
  pub its_passes : (moving_of plan).who.passes.items ≡ own_passes 0 (moves.mover move) x.passes
  pub same : mover (moving_of plan) ≡ moves.mover move
  pub phase : IsInPhase (width x.world) plan
  pub goes : (moving_of plan).home ≡ home (Began move ∷ h) (moves.mover move)
  pub moving : is_moving (moving_of plan).home ≡ true
  pub first : steps_done (moving_of plan).home ≡ 0
  pub holds : (q : GuestPlace) → holds q (home (Began move ∷ h) (moves.mover move)) ≡ (holds q (home h (moves.mover move)) || is_taken q taken)
  pub two_files : AreApart (home (Began move ∷ h) (moves.mover move))
  pub held : Holds (file_words h) (slot_of (vms_of h) (moves.mover move)) (notice_hart (vms_of h) (moves.mover move))
      (in_force_of h (moves.mover move)) (places_of x.world (moves.mover move) (home (Began move ∷ h) (moves.mover move)))
      (home (Began move ∷ h) (moves.mover move)) (moving_of plan).hand (guest_file h (moves.mover move))
      (a_look_saw (Began move ∷ h) (moves.mover move))

or_none : (a b : Bool) → b ≡ false → (a || b) ≡ a
or_none true b e = refl
or_none false b e = e

either : (a b : Bool) → (a || b) ≡ true → (a ≡ true) ⊎ (b ≡ true)
either true b e = inl refl
either false b e = inr e

module _ (x y : CoreState) (h : History) (move : WantedMove) (plan : PlanState) (r : VcpuRecord) where
  abbrev event : Event
  event = Began move

  abbrev g : Vcpu
  g = moves.mover move

  -- what it holds then is there
  held_there : (taken : Option GuestPlace) → Begins x y h move plan r taken → (q : GuestPlace)
      → holds q (home (Began move ∷ h) (moves.mover move)) ≡ true → IsThere x.world.imsic (spot_of q)
  held_there None b q holding = b.planned.stands.held g q b.planned.there (sym (or_none (holds q (home h g)) false refl) ∙ sym (b.holds q) ∙ holding)
  held_there (Some p) b q holding = elim (either (holds q (home h g)) (is_place q p) (sym (b.holds q) ∙ holding)) [
    | inl e ↦ b.planned.stands.held g q b.planned.there e
    | inr e ↦ subst (λ (z : GuestPlace). IsThere x.world.imsic (spot_of z)) (sym (same_place q p e)) b.is_free.0
  ]

  -- and nobody else holds it
  held_apart : (taken : Option GuestPlace) → Begins x y h move plan r taken → (other : Vcpu) (q : GuestPlace) → has_vcpu h other ≡ true
      → is_vcpu other (moves.mover move) ≡ false → holds q (home (Began move ∷ h) (moves.mover move)) ≡ true → holds q (home h other) ≡ false
  held_apart taken b other q inside ne holding = by_case taken b (holds q (home h other)) refl
    where
      stood : Begins x y h move plan r taken → holds q (home h g) ≡ true → holds q (home h other) ≡ true → ⊥
      stood b mine its = false≢true (sym ne ∙ ap (λ z. is_vcpu z g) (b.planned.stands.apart other g q inside b.planned.there its mine) ∙ is_itself g)

      by_case : (taken : Option GuestPlace) → Begins x y h move plan r taken → (its : Bool) → holds q (home h other) ≡ its → its ≡ false
      by_case taken b false e = refl
      by_case None b true e = absurd (false≢true (sym ne
          ∙ ap (λ z. is_vcpu z g) (b.planned.stands.apart other g q inside b.planned.there e
          (sym (or_none (holds q (home h g)) false refl) ∙ sym (b.holds q) ∙ holding)) ∙ is_itself g))
      by_case (Some p) b true e = elim (either (holds q (home h g)) (is_place q p) (sym (b.holds q) ∙ holding)) [
        | inl mine ↦ absurd (false≢true (sym ne ∙ ap (λ z. is_vcpu z g) (b.planned.stands.apart other g q inside b.planned.there e mine)
            ∙ is_itself g))
        | inr new ↦ absurd (false≢true (sym (of_none (vms_of h) (λ z. holds p (home h z)) other b.is_free.1 inside)
            ∙ ap (λ (z : GuestPlace). holds z (home h other)) (sym (same_place q p new)) ∙ e))
      ]

  -- what is handed out is what is held
  out_held : (taken : Option GuestPlace) → Begins x y h move plan r taken → (q : GuestPlace) → IsThere x.world.imsic (spot_of q)
      → is_out y.leases q ≡ is_held (Began move ∷ h) q
  out_held None b q inside =
      ap (λ l. is_out l q) b.leases ∙ b.planned.stands.leases q inside
      ∙ sym (held_as h event g q (began_move h move) (b.holds q ∙ or_none (holds q (home h g)) false refl))
  out_held (Some p) b q inside = elim (cases_Bool (is_place q p)) [
    | inl e ↦
        let same = same_place q p e in
        ap (λ l. is_out l q) b.leases ∙ ap (is_out (with_out x.leases p true)) same
        ∙ out_here x.leases p true (in_pool x h p b.planned.stands b.is_free.0) long
        ∙ sym (any_vcpu (vms_of h) (λ z. holds q (home (Began move ∷ h) z)) g b.planned.there
        (b.holds q ∙ or_right (holds q (home h g)) (is_place q p) e))
    | inr ne ↦
        ap (λ l. is_out l q) b.leases ∙ out_elsewhere x.leases p q true (in_pool x h p b.planned.stands b.is_free.0)
        (in_pool x h q b.planned.stands inside) ne
        ∙ b.planned.stands.leases q inside ∙ sym (held_as h event g q (began_move h move)
        (b.holds q ∙ or_none (holds q (home h g)) (is_place q p) ne))
  ]
    where
      long : length x.leases.out ≡ x.leases.harts * x.leases.guests
      long = b.planned.stands.lease_count ∙ (λ k. (sym b.planned.stands.lease_harts k) * (sym b.planned.stands.lease_guests k))

  -- what nobody holds then was held by nobody
  unheld : (taken : Option GuestPlace) → Begins x y h move plan r taken → (q : GuestPlace) → is_held (Began move ∷ h) q ≡ false → is_held h q ≡ false
  unheld taken b q none = sym (held_as h event g q (began_move h move)
      (b.holds q ∙ or_none (holds q (home h g)) (is_taken q taken) (unnamed taken (b.holds q)))) ∙ none
    where
      mine : holds q (home (Began move ∷ h) g) ≡ false
      mine = of_none (vms_of h) (λ z. holds q (home (Began move ∷ h) z)) g none b.planned.there

      part : (a c : Bool) → (a || c) ≡ false → c ≡ false
      part true c e = absurd (false≢true (sym e))
      part false c e = e

      unnamed : (taken : Option GuestPlace) → holds q (home (Began move ∷ h) g) ≡ (holds q (home h g) || is_taken q taken) → is_taken q taken ≡ false
      unnamed taken e = part (holds q (home h g)) (is_taken q taken) (sym e ∙ mine)

  same_machine : y.world ≡ x.world → SameMachine x.world y.world
  same_machine world = record {
    n = ap (λ (w : World). w.n) world;
    vms = ap (λ (w : World). w.vms) world;
    harts =
        ap (λ (w : World). w.imsic.harts) world;
    guests = ap (λ (w : World). w.imsic.guests) world;
  }

  -- its plan can be begun
  begun_fits : (taken : Option GuestPlace) → Begins x y h move plan r taken → MoveFits x.world (moving_of plan)
  begun_fits taken b = record {
    there = b.who.there;
    slot = b.who.slot;
    notice = b.who.notice;
    own = λ p e. held_there taken b p (ap (holds p) (sym b.goes) ∙ own_is_held (moving_of plan).home p e);
    next = λ p e. held_there taken b p (ap (holds p) (sym b.goes) ∙ next_is_held (moving_of plan).home p e);
    no_pending_zero = λ e. absurd (omega (arith, b.first, eqb-true _ _ e));
    no_enabled_zero = λ e. absurd (omega (arith, b.first, eqb-true _ _ e));
  }

  begun_own : (taken : Option GuestPlace) → Begins x y h move plan r taken → VcpuStands y (Began move ∷ h) (moves.mover move)
  begun_own taken b =
      let kept = own_record x y h g r b.planned.stands b.planned.there (ap (λ (w : World). w.vms) b.planned.world) b.planned.vcpus in
      let stay : (record_of y g).stay ≡ stays.Moving plan = ap (λ (r : VcpuRecord). r.stay) kept ∙ b.planned.stay in
      let moved = began_move h move in
      let file = file_rests h event g (moved.rests g) in
      record {
        same_home = ap home_in stay ∙ b.goes;
        select = ap (λ (r : VcpuRecord). r.select) kept ∙ b.planned.select ∙ (b.planned.stands.vcpus g b.planned.there).select
            ∙ sym (select_rests h event g (moved.rests g));
        majors = ap (λ (r : VcpuRecord). majors_shown r.majors) kept ∙ ap majors_shown b.planned.majors
            ∙ (b.planned.stands.vcpus g b.planned.there).majors ∙ sym (majors_rest h event g (moved.majors g));
        two_files = b.two_files;
        plan = subst (PlanStands y.world g) (sym stay)
            (subst (λ (w : World). PlanStands w g (stays.Moving plan)) (sym b.planned.world) (begun_fits taken b, b.phase, b.same, b.moving));
        passes = subst (HasItsPasses (passes_of (Began move ∷ h)) g) (sym stay)
            (b.its_passes ∙ ap (own_passes 0 g) (b.planned.stands.passes.same ∙ sym moved.passes));
        holds = subst IsHeld (λ k. record {
          words = file_words h;
          slot = slot_of (vms_of h) g;
          hart = notice_hart (vms_of h) g;
          reach = sym (begun_same_reach h move g) k;
          shows = places_of (sym b.planned.world k) g (home (Began move ∷ h) g);
          there = home (Began move ∷ h) g;
          hand = hand_in (sym stay k);
          file = sym file k;
          saw = a_look_saw (Began move ∷ h) g;
        }) b.held;
      }

  begun_changes : (taken : Option GuestPlace) → Begins x y h move plan r taken → MoveChanges x y h (Began move) (moves.mover move)
  begun_changes taken b = record {
    moves = began_move h move;
    still = still_move h move;
    there = b.planned.there;
    rest = no_accesses x.world y.world b.planned.world;
    passes = b.planned.passes;
    count = ap (λ (w : World). w.notices) b.planned.world;
    host = λ f inside. record {
      file = subst (λ (w : World). SameFile (shown (file_at w.imsic (host_spot f))) (shown (file_at x.world.imsic (host_spot f))))
          (sym b.planned.world) (as_it_was (shown (file_at x.world.imsic (host_spot f))));
      select = ap (λ xs. get_or xs (select_place f) 0) b.planned.selects;
    };
    records = ap (λ (rs : List VcpuRecord). length rs) b.planned.vcpus ∙ length-set x.vcpus (slot_of x.world.vms g) r;
    other_records = λ other inside ne. other_record x y h g other r b.planned.stands b.planned.there inside ne
        (ap (λ (w : World). w.vms) b.planned.world) b.planned.vcpus;
    other_views = λ other inside ne. ap (λ (w : World). places_of w other (home h other)) b.planned.world;
    own = begun_own taken b;
    lease_harts = ap (λ (l : Leases). l.harts) b.leases ∙ harts_with taken;
    lease_guests = ap (λ (l : Leases). l.guests) b.leases ∙ guests_with taken;
    lease_count = ap (λ (l : Leases). length l.out) b.leases ∙ count_with taken;
    leases = out_held taken b;
    held = held_there taken b;
    apart = held_apart taken b;
    free = λ q inside none. ap (λ (w : World). shown (file_at w.imsic (spot_of q))) b.planned.world
        ∙ b.planned.stands.free q inside (unheld taken b q none);
    entries = λ other ne. ap (λ (w : World). entry_in_force (table_of w.tables other.vm) other.vcpu) b.planned.world;
    slots = λ q few apart. ap (λ (w : World). mrif_in w.memory q) b.planned.world;
    stages = λ q apart. ap (λ (w : World). get_or w.stages q no_stage) b.planned.world;
  }
    where
      harts_with : (taken : Option GuestPlace) → (with_taken taken x.leases).harts ≡ x.leases.harts
      harts_with None = refl
      harts_with (Some p) = refl

      guests_with : (taken : Option GuestPlace) → (with_taken taken x.leases).guests ≡ x.leases.guests
      guests_with None = refl
      guests_with (Some p) = refl

      count_with : (taken : Option GuestPlace) → length (with_taken taken x.leases).out ≡ length x.leases.out
      count_with None = refl
      count_with (Some p) = length-set x.leases.out _ true

-- the core then stands for the history with the beginning
pub begun_stands : (x y : CoreState) (h : History) (move : WantedMove) (plan : PlanState) (r : VcpuRecord) (taken : Option GuestPlace)
    → Begins x y h move plan r taken → CoreStands y (Began move ∷ h)
begun_stands x y h move plan r taken b = moved_on x y h (Began move) (moves.mover move) (begun_changes x y h move plan r taken b) b.planned.stands
