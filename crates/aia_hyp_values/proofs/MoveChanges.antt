-- What an event of the move of one virtual hart makes of a core that stands for a history.
use Rattle.std.proofs.Common.{◌≡◌, ◌≢◌, ℕ, ◌<◌, ◌≤◌, true, false, nat_lt, List, length, ◌∷◌, inl, inr, refl, sym, ap, subst, ◌∙◌, arith}
use Rattle.std.specs.Prelude.{slice_index_or}
use Rattle.std.specs.List.{list_any}
use Rattle.std.proofs.lemmas.Bool.{cases_Bool, cond-false, false≢true}
use Rattle.aia_regs.specs.declared.limits.TheConstants.{VCPUS}
use Rattle.aia_file.specs.InterruptFile.{empty_file}
use Rattle.aia_file.specs.FileState.{shown}
use Rattle.aia_file.specs.Imsic.{IsThere, file_at}
use Rattle.aia_file.specs.Mrif.{mrif_in}
use Rattle.aia_entry.specs.Tables.{table_of, entry_in_force}
use Rattle.aia_vcpu.specs.declared.place.GuestPlace.{GuestPlace}
use Rattle.aia_vcpu.specs.declared.vm.Vm.{Vm}
use Rattle.aia_vcpu.specs.Vms.{Vcpu, is_vcpu, vcpus_in, is_vcpu_in, slot_of, notice_hart, all_vcpus}
use Rattle.aia_vcpu.specs.Home.{holds}
use Rattle.aia_vcpu.proofs.VmLemmas.{slot_below, same_vcpu}
use Rattle.aia_vcpu_places.specs.Stores.{AreApart}
use Rattle.aia_pool.specs.Leases.{is_out}
use Rattle.aia_fabric_values.specs.World.{World, no_stage}
use Rattle.aia_fabric_values.specs.Changes.{spot_of}
use Rattle.aia_move_values.specs.Views.{places_of}
use Rattle.aia_model.specs.Move.{WantedMove, mover}
use Rattle.aia_model.specs.Move.WantedMove.{Arrives, Leaves, Shifts}
use Rattle.aia_model.specs.Event.{Event, History, greatest_identity_of}
use Rattle.aia_major.specs.Kept.{majors_shown}
use Rattle.aia_model.specs.Event.Event.{Began, Stepped}
use Rattle.aia_model.specs.Vms.{vms_of, has_vm, has_vcpu}
use Rattle.aia_model.specs.FileAfter.{select_after, file_after}
use Rattle.aia_model.specs.FileAfter.FileDeed.{Rests}
use Rattle.aia_model.specs.GuestFile.{guest_deed, guest_select, guest_file}
use Rattle.aia_model.specs.ReachOf.{in_force_of}
use Rattle.aia_model.specs.HomeOf.{home}
use Rattle.aia_model.specs.Notice.{noticed, a_look_saw}
use Rattle.aia_model.specs.FileOf.{FileName, deed_at, notice_deed}
use Rattle.aia_model.proofs.FileLemmas.{file_by_step}
use Rattle.aia_model.proofs.ReachLemmas.{reach_step}
use Rattle.aia_model.proofs.MoveLemmas.{home_step, seen_stays, is_another}
use Rattle.aia_hyp_values.specs.Core.{VcpuRecord}
use Rattle.aia_hyp_values.specs.Core.{CoreState, record_of, home_in, hand_in}
use Rattle.aia_hyp_values.specs.HostFiles.{FileDone, host_spot}
use Rattle.aia_hyp_values.specs.Stands.{PlanStands, VcpuStands, is_held, HoldApart, CoreStands}
use Rattle.aia_move_values.specs.Touches.{SameMachine}
use Rattle.aia_hyp_values.proofs.VcpuLemmas.{IsStill, IsHeld, same_words, select_is, MajorsRest, majors_rest, plan_stays, is_plain, machine_kept}
use Rattle.aia_hyp_values.proofs.StandsLemmas.{count_after, Becomes, stands_after, built_as, flights_stay, none_passes, keeps_by}
use Rattle.aia_model.specs.Passes.{passes_of}
use Rattle.aia_hyp_values.specs.Passes.{HasItsPasses}
use Rattle.aia_move_values.specs.Touches.{OnlyAccesses}
use Rattle.aia_move_values.proofs.MachineLemmas.{only_accesses}

-- ---- an event of a virtual hart's move

-- It is nothing to the machine and its VMs, to where others are and what their looks saw, and to
-- the interrupt files of virtual harts; at files of the host it is the notice that it sends.
pub record IsMoveOf (h : History) (event : Event) (g : Vcpu) : Type 0 where
  pub plain : is_plain event ≡ true
  pub vms : vms_of (event ∷ h) ≡ vms_of h
  pub homes : (other : Vcpu) → is_vcpu other g ≡ false → home (event ∷ h) other ≡ home h other
  pub reach : (other : Vcpu) → is_vcpu other g ≡ false → in_force_of (event ∷ h) other ≡ in_force_of h other
  pub seen : (other : Vcpu) → is_vcpu other g ≡ false → a_look_saw (event ∷ h) other ≡ a_look_saw h other
  pub rests : (other : Vcpu) → guest_deed other h event ≡ Rests
  pub majors : (other : Vcpu) → MajorsRest other event
  pub passes : passes_of (event ∷ h) ≡ passes_of h
  pub host : (f : FileName) → deed_at f h event ≡ notice_deed h f (noticed h event)

pub began_move : (h : History) (move : WantedMove) → IsMoveOf h (Began move) (mover move)
unfolding passes_of
began_move h (Leaves g) = record {
  plain = refl;
  vms = refl;
  homes = λ other ne. home_step (Began (Leaves g)) h other ∙ cond-false _ _ _ ne;
  reach = λ other ne. reach_step (Began (Leaves g)) h other;
  seen = λ other ne. seen_stays (Began (Leaves g)) h other refl (λ w was. cond-false _ _ _ ne);
  rests = λ other. refl;
  majors = λ other m. refl;
  passes = refl;
  host = λ f. refl;
}
began_move h (Arrives g hart) = record {
  plain = refl;
  vms = refl;
  homes = λ other ne. home_step (Began (Arrives g hart)) h other ∙ cond-false _ _ _ ne;
  reach = λ other ne. reach_step (Began (Arrives g hart)) h other;
  seen = λ other ne. seen_stays (Began (Arrives g hart)) h other refl (λ w was. refl);
  rests = λ other. refl;
  majors = λ other m. refl;
  passes = refl;
  host = λ f. refl;
}
began_move h (Shifts g hart) = record {
  plain = refl;
  vms = refl;
  homes = λ other ne. home_step (Began (Shifts g hart)) h other ∙ cond-false _ _ _ ne;
  reach = λ other ne. reach_step (Began (Shifts g hart)) h other;
  seen = λ other ne. seen_stays (Began (Shifts g hart)) h other refl (λ w was. refl);
  rests = λ other. refl;
  majors = λ other m. refl;
  passes = refl;
  host = λ f. refl;
}

pub stepped_move : (h : History) (g : Vcpu) → IsMoveOf h (Stepped g) g
unfolding passes_of
stepped_move h g = record {
  plain = refl;
  vms = refl;
  homes = λ other ne. home_step (Stepped g) h other ∙ cond-false _ _ _ ne;
  reach = λ other ne. reach_step (Stepped g) h other ∙ cond-false _ _ _ ne;
  seen = λ other ne. seen_stays (Stepped g) h other refl (λ w was. cond-false _ _ _ ne);
  rests = λ other. refl;
  majors = λ other m. refl;
  passes = refl;
  host = λ f. refl;
}

-- its interrupt file and its select number stay
pub file_rests : (h : History) (event : Event) (g : Vcpu) → guest_deed g h event ≡ Rests → guest_file (event ∷ h) g ≡ guest_file h g
file_rests h event g rests = file_by_step (guest_deed g) event h ∙ ap (λ deed. file_after (guest_select h g) deed (guest_file h g)) rests

pub select_rests : (h : History) (event : Event) (g : Vcpu) → guest_deed g h event ≡ Rests → guest_select (event ∷ h) g ≡ guest_select h g
select_rests h event g rests = select_is event h g ∙ ap (λ deed. select_after deed (guest_select h g)) rests

-- another virtual hart, whose places show what they showed
pub other_stands : (x y : CoreState) (h : History) (event : Event) (g other : Vcpu) → IsMoveOf h event g → SameMachine x.world y.world
    → is_vcpu other g ≡ false → record_of y other ≡ record_of x other
    → places_of y.world other (home h other) ≡ places_of x.world other (home h other) → VcpuStands x h other → VcpuStands y (event ∷ h) other
other_stands x y h event g other moves machine ne kept shows p =
    let words = same_words event h (machine_kept event h moves.plain) in
    let homes = moves.homes other ne in
    let file = file_rests h event other (moves.rests other) in
    let seen = moves.seen other ne in
    let stay = ap (λ (r : VcpuRecord). r.stay) kept in
    let places : places_of x.world other (home h other) ≡ places_of y.world other (home (event ∷ h) other) = sym shows
    ∙ (λ k. places_of y.world other (sym homes k)) in
    record {
      same_home = ap home_in stay ∙ p.same_home ∙ sym homes;
      select = ap (λ (r : VcpuRecord). r.select) kept ∙ p.select ∙ sym (select_rests h event other (moves.rests other));
      majors = ap (λ (r : VcpuRecord). majors_shown r.majors) kept ∙ p.majors ∙ sym (majors_rest h event other (moves.majors other));
      two_files = subst AreApart (sym homes) p.two_files;
      plan = subst (PlanStands y.world other) (sym stay) (plan_stays x.world y.world other (record_of x other).stay machine p.plan);
      passes = subst (HasItsPasses (passes_of (event ∷ h)) other) (sym stay)
          (subst (λ passes. HasItsPasses passes other (record_of x other).stay) (sym moves.passes) p.passes);
      holds = subst IsHeld (λ k. record {
        words = sym words k;
        slot = slot_of (sym moves.vms k) other;
        hart = notice_hart (sym moves.vms k) other;
        reach = sym (moves.reach other ne) k;
        shows = places k;
        there = sym homes k;
        hand = hand_in (sym stay k);
        file = sym file k;
        saw = sym seen k;
      }) p.holds;
    }

-- who holds a file holds it still, where its own home does as it did
pub held_as : (h : History) (event : Event) (g : Vcpu) (p : GuestPlace) → IsMoveOf h event g → holds p (home (event ∷ h) g) ≡ holds p (home h g)
    → is_held (event ∷ h) p ≡ is_held h p
held_as h event g p moves same = λ k. list_any (λ other. each other k) (all_vcpus (moves.vms k))
  where
    each : (other : Vcpu) → holds p (home (event ∷ h) other) ≡ holds p (home h other)
    each other = elim (cases_Bool (is_vcpu other g)) [
      | inl e ↦ let it = same_vcpu other g e in ap (λ z. holds p (home (event ∷ h) z)) it ∙ same ∙ ap (λ z. holds p (home h z)) (sym it)
      | inr ne ↦ ap (holds p) (moves.homes other ne)
    ]

-- ---- what it changes

-- It is the own virtual hart's alone: it has its record and places then, and nobody else the files
-- that it holds; what is handed out is what is held, and what nobody holds is empty.
pub record MoveChanges (x y : CoreState) (h : History) (event : Event) (g : Vcpu) : Type 0 where
  pub moves : IsMoveOf h event g
  pub still : IsStill h event
  pub there : has_vcpu h g ≡ true
  pub rest : OnlyAccesses x.world y.world
  pub passes : y.passes ≡ x.passes
  pub count : y.world.notices ≡ count_after (noticed h event) x.world.notices
  pub host : (f : FileName) → IsThere x.world.imsic (host_spot f) → FileDone x y f (deed_at f h event)
  pub records : length y.vcpus ≡ length x.vcpus
  pub other_records : (other : Vcpu) → has_vcpu h other ≡ true → is_vcpu other g ≡ false → record_of y other ≡ record_of x other
  pub other_views : (other : Vcpu) → has_vcpu h other ≡ true → is_vcpu other g ≡ false
      → places_of y.world other (home h other) ≡ places_of x.world other (home h other)
  pub own : VcpuStands y (event ∷ h) g
  pub lease_harts : y.leases.harts ≡ x.leases.harts
  pub lease_guests : y.leases.guests ≡ x.leases.guests
  pub lease_count : length y.leases.out ≡ length x.leases.out
  pub leases : (p : GuestPlace) → IsThere x.world.imsic (spot_of p) → is_out y.leases p ≡ is_held (event ∷ h) p
  pub held : (p : GuestPlace) → holds p (home (event ∷ h) g) ≡ true → IsThere x.world.imsic (spot_of p)
  pub apart : (other : Vcpu) (p : GuestPlace) → has_vcpu h other ≡ true → is_vcpu other g ≡ false → holds p (home (event ∷ h) g) ≡ true
      → holds p (home h other) ≡ false
  pub free : (p : GuestPlace) → IsThere x.world.imsic (spot_of p) → is_held (event ∷ h) p ≡ false
      → shown (file_at y.world.imsic (spot_of p)) ≡ empty_file (greatest_identity_of h)
  pub entries : (other : Vcpu) → is_vcpu other g ≡ false
      → entry_in_force (table_of y.world.tables other.vm) other.vcpu ≡ entry_in_force (table_of x.world.tables other.vm) other.vcpu
  pub slots : (q : ℕ) → q < VCPUS → q ≢ slot_of x.world.vms g → mrif_in y.world.memory q ≡ mrif_in x.world.memory q
  pub stages : (q : ℕ) → q ≢ slot_of x.world.vms g → slice_index_or y.world.stages q no_stage ≡ slice_index_or x.world.stages q no_stage

module _ (x y : CoreState) (h : History) (event : Event) (g : Vcpu) (c : MoveChanges x y h event g) (stands : CoreStands x h) where
  was_there : (other : Vcpu) → has_vcpu (event ∷ h) other ≡ true → has_vcpu h other ≡ true
  was_there other inside = ap (λ vms. is_vcpu_in vms other) (sym c.moves.vms) ∙ inside

  was_missing : (other : Vcpu) → has_vcpu (event ∷ h) other ≡ false → has_vcpu h other ≡ false
  was_missing other outside = ap (λ vms. is_vcpu_in vms other) (sym c.moves.vms) ∙ outside

  is_other : (other : Vcpu) → has_vcpu h other ≡ false → is_vcpu other g ≡ false
  is_other other outside = is_another other g (λ e. false≢true (sym outside ∙ ap (has_vcpu h) e ∙ c.there))

  own_home : (other : Vcpu) (p : GuestPlace) → is_vcpu other g ≡ true → holds p (home (event ∷ h) other) ≡ true → holds p (home (event ∷ h) g) ≡ true
  own_home other p e holding = ap (λ z. holds p (home (event ∷ h) z)) (sym (same_vcpu other g e)) ∙ holding

  not_both : (other : Vcpu) (p : GuestPlace) → has_vcpu h other ≡ true → is_vcpu other g ≡ false → holds p (home (event ∷ h) g) ≡ true
      → holds p (home (event ∷ h) other) ≡ true → ⊥
  not_both other p inside ne mine its = false≢true (sym (c.apart other p inside ne mine) ∙ ap (holds p) (sym (c.moves.homes other ne)) ∙ its)

  slot_apart : (q : ℕ) → vcpus_in (vms_of h) ≤ q → q ≢ slot_of x.world.vms g
  slot_apart q past e =
      let below = slot_below (vms_of h) g c.there in
      let mine : slot_of x.world.vms g ≡ slot_of (vms_of h) g = ap (λ vms. slot_of vms g) stands.vms in
      omega (arith, below, past, e, mine)

  moved_apart : HoldApart (event ∷ h)
  moved_apart a b p ia ib ha hb = elim (cases_Bool (is_vcpu a g)) [
    | inl ea ↦ elim (cases_Bool (is_vcpu b g)) [
      | inl eb ↦ same_vcpu a g ea ∙ sym (same_vcpu b g eb)
      | inr nb ↦ absurd (not_both b p (was_there b ib) nb (own_home a p ea ha) hb)
    ]
    | inr na ↦ elim (cases_Bool (is_vcpu b g)) [
      | inl eb ↦ absurd (not_both a p (was_there a ia) na (own_home b p eb hb) ha)
      | inr nb ↦ stands.apart a b p (was_there a ia) (was_there b ib) (ap (holds p) (sym (c.moves.homes a na)) ∙ ha)
          (ap (holds p) (sym (c.moves.homes b nb)) ∙ hb)
    ]
  ]

  moved_becomes : Becomes x y h event
  moved_becomes =
      let machine = only_accesses x.world y.world c.rest in
      record {
        keeps = keeps_by x y h event c.moves.plain (built_as x.world y.world y.world.imsic.files y.world.memory x.world.vms y.world.tables
            x.world.flights y.world.stages y.world.notices c.rest);
        vms = machine.vms ∙ stands.vms ∙ sym c.moves.vms;
        count = c.count;
        host = c.host;
        records = c.records ∙ stands.records ∙ ap vcpus_in (sym c.moves.vms);
        vcpus = λ other inside. elim (cases_Bool (is_vcpu other g)) [
          | inl e ↦ subst (VcpuStands y (event ∷ h)) (sym (same_vcpu other g e)) c.own
          | inr ne ↦
              let before = was_there other inside in
              other_stands x y h event g other c.moves machine ne (c.other_records other before ne) (c.other_views other before ne)
              (stands.vcpus other before)
        ];
        lease_harts = c.lease_harts;
        lease_guests = c.lease_guests;
        lease_count = c.lease_count;
        leases = c.leases;
        held = λ other p inside holding. elim (cases_Bool (is_vcpu other g)) [
          | inl e ↦ c.held p (own_home other p e holding)
          | inr ne ↦ stands.held other p (was_there other inside) (ap (holds p) (sym (c.moves.homes other ne)) ∙ holding)
        ];
        apart = moved_apart;
        free = c.free;
        no_vcpu = λ other outside.
            let before = was_missing other outside in
            (before, c.moves.rests other, c.moves.homes other (is_other other before), c.moves.majors other);
        no_entry = λ other inside outside.
            let there : has_vm h other.vm ≡ true = ap (λ (vms : List Vm). nat_lt other.vm (length vms)) (sym c.moves.vms) ∙ inside in
            let before = was_missing other outside in
            c.entries other (is_other other before) ∙ stands.no_entry other there before;
        no_slot = λ q past few.
            let before : vcpus_in (vms_of h) ≤ q = subst (λ (vms : List Vm). vcpus_in vms ≤ q) c.moves.vms past in
            let apart = slot_apart q before in
            (before, c.slots q few apart, c.stages q apart);
      }

pub moved_on : (x y : CoreState) (h : History) (event : Event) (g : Vcpu) → MoveChanges x y h event g → CoreStands x h → CoreStands y (event ∷ h)
moved_on x y h event g c stands =
    stands_after x y h event (moved_becomes x y h event g c stands)
    (flights_stay x y h event c.still (ap (λ (w : World). w.flights) c.rest) stands)
    (none_passes x y h event c.still.passes c.still.rest c.passes stands) stands
