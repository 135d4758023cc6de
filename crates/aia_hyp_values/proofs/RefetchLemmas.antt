-- What it makes of a core that stands for a history that the IOMMU reads an entry again.
use Rattle.std.proofs.Common.{◌≡◌, ◌≢◌, ℕ, ◌<◌, true, false, not, List, ◌∷◌, length, get_or, ◌⊎◌, inl, inr, refl, sym, ap, subst, ◌∙◌, arith}
use Rattle.std.proofs.lemmas.Bool.{cases_Bool, cases_eq, cond-true, cond-false, false≢true}
use Rattle.aia_file.specs.FileState.{shown}
use Rattle.aia_file.specs.InterruptFile.{SameFile}
use Rattle.aia_file.specs.Imsic.{file_at}
use Rattle.aia_entry.specs.Format.{decoded}
use Rattle.aia_entry.specs.Tables.{table_of, entry_in_force, fenced_at}
use Rattle.aia_entry.proofs.TableLemmas.{fenced_elsewhere}
use Rattle.aia_vcpu.specs.declared.place.GuestPlace.{GuestPlace}
use Rattle.aia_vcpu.specs.declared.vm.Vm.{Vm}
use Rattle.aia_vcpu.specs.Vms.{Vcpu, vcpu_of, is_vcpu, is_vcpu_in, slot_of, notice_hart}
use Rattle.aia_vcpu.specs.Home.{holds}
use Rattle.aia_vcpu.specs.Routes.{entry_names}
use Rattle.aia_vcpu.proofs.HomeLemmas.{own_is_held, next_is_held}
use Rattle.aia_vcpu_places.specs.Places.{FilesFit}
use Rattle.aia_vcpu_places.proofs.StoreLemmas.{refetch_kept}
use Rattle.aia_fabric_values.specs.World.{World, no_stage}
use Rattle.aia_fabric_values.specs.Whole.{IsWhole}
use Rattle.aia_fabric_values.specs.Changes.{spot_of, with_fence}
use Rattle.aia_move_values.specs.Views.{places_of}
use Rattle.aia_move_values.proofs.ViewLemmas.{fence-places}
use Rattle.aia_fabric_values.proofs.WholeLemmas.{notice_hart_there}
use Rattle.aia_move_values.specs.Touches.{OnlyAccesses}
use Rattle.aia_move_values.proofs.MachineLemmas.{only_accesses, only_tables}
use Rattle.aia_vcpu_places.specs.Stores.{AreApart}
use Rattle.aia_pool.specs.Leases.{Leases, is_out}
use Rattle.aia_file.specs.Mrif.{mrif_in}
use Rattle.aia_major.specs.Kept.{majors_shown}
use Rattle.aia_model.specs.declared.answer.Answer.TheVariants.{Okay, Refused}
use Rattle.aia_model.specs.declared.refusal.Refusal.TheVariants as words
use Rattle.aia_model.specs.declared.line.Line.TheVariants.{Refetch}
use Rattle.aia_model.specs.Event.{History, file_words}
use Rattle.aia_model.specs.Event.Event.{Accepted}
use Rattle.aia_model.specs.Flight.{flight}
use Rattle.aia_model.specs.Vms.{vms_of, has_vcpu}
use Rattle.aia_model.specs.HomeOf.{home}
use Rattle.aia_model.specs.ReachOf.{in_force_of}
use Rattle.aia_model.specs.GuestFile.{guest_file}
use Rattle.aia_model.specs.Notice.{a_look_saw}
use Rattle.aia_model.proofs.AnswerLemmas.{refetch_refusal}
use Rattle.aia_model.proofs.MoveLemmas.{home_step, seen_stays, is_itself}
use Rattle.aia_model.proofs.ReachLemmas.{reach_step}
use Rattle.aia_hyp_values.specs.Core.{VcpuRecord}
use Rattle.aia_hyp_values.specs.Core.{CoreState, no_record, record_of, home_in, hand_in}
use Rattle.aia_hyp_values.specs.HostFiles.{host_spot, select_place}
use Rattle.aia_hyp_values.specs.Stands.{VcpuStands, PlanStands, is_held, CoreStands, CoreTakes}
use Rattle.aia_hyp_values.proofs.VcpuLemmas.{IsHeld, IsStill, plan_stays, majors_rest}
use Rattle.aia_hyp_values.proofs.EventLemmas.{as_it_was, taken, refused}
use Rattle.aia_hyp_values.proofs.GuestStores.{slot_few}
use Rattle.aia_model.specs.Passes.{passes_of}
use Rattle.aia_hyp_values.specs.Passes.{HasItsPasses}
use Rattle.aia_hyp_values.proofs.MoveChanges.{IsMoveOf, MoveChanges, file_rests, select_rests, held_as, moved_on}
use Rattle.aia_regs.specs.declared.limits.TheConstants.{HARTS, SLOTS}

-- It is one virtual hart's alone, as an event of its move is.
refetch_of : (h : History) (vm vcpu : ℕ) → IsMoveOf h (Accepted (Refetch vm vcpu)) (vcpu_of vm vcpu)
unfolding passes_of
refetch_of h vm vcpu = record {
  plain = refl;
  vms = refl;
  homes = λ other ne. home_step (Accepted (Refetch vm vcpu)) h other;
  reach = λ other ne. reach_step (Accepted (Refetch vm vcpu)) h other ∙ cond-false _ _ _ ne;
  seen = λ other ne. seen_stays (Accepted (Refetch vm vcpu)) h other refl (λ w was. refl);
  rests = λ other. refl;
  majors = λ other m. refl;
  passes = refl;
  host = λ f. refl;
}

still_refetch : (h : History) (vm vcpu : ℕ) → IsStill h (Accepted (Refetch vm vcpu))
unfolding flight passes_of
still_refetch h vm vcpu = record { first = tt; one = tt; flights = λ v. refl; passes = refl; rest = tt }

-- what a call says that reads the entry of a virtual hart that is there again
pub record IsRefetch (x y : CoreState) (vm vcpu : ℕ) : Type 0 where
  pub whole : IsWhole x.world
  pub there : is_vcpu_in x.world.vms (vcpu_of vm vcpu) ≡ true
  pub world : y.world ≡ with_fence x.world vm vcpu
  pub leases : y.leases ≡ x.leases
  pub vcpus : y.vcpus ≡ x.vcpus
  pub selects : y.selects ≡ x.selects
  pub passes : y.passes ≡ x.passes

module _ (x y : CoreState) (h : History) (vm vcpu : ℕ) (c : IsRefetch x y vm vcpu) (stands : CoreStands x h) where
  abbrev g : Vcpu
  g = vcpu_of vm vcpu

  rest : OnlyAccesses x.world y.world
  rest = only_tables x.world y.world (fenced_at x.world.tables vm vcpu x.world.memory) c.world

  inside : has_vcpu h g ≡ true
  inside = subst (λ (vs : List Vm). is_vcpu_in vs g ≡ true) stands.vms c.there

  same_record : (other : Vcpu) → record_of y other ≡ record_of x other
  same_record other = (λ k. get_or (c.vcpus k) (slot_of ((c.world k).vms) other) no_record)

  home_is : home (Accepted (Refetch vm vcpu) ∷ h) g ≡ home h g
  home_is = home_step (Accepted (Refetch vm vcpu)) h g

  fit : FilesFit (home h g)
  fit = record {
    own = λ p e. let at = stands.held g p inside (own_is_held (home h g) p e) in
        (omega (arith, at.0, c.whole.harts), omega (arith, at.2, c.whole.guests), at.1);
    next = λ p e. let at = stands.held g p inside (next_is_held (home h g) p e) in
        (omega (arith, at.0, c.whole.harts), omega (arith, at.2, c.whole.guests), at.1);
  }

  low_slot : slot_of (vms_of h) g < SLOTS
  low_slot = subst (λ (vs : List Vm). slot_of vs g < SLOTS) stands.vms (slot_few x h g stands c.whole inside)

  low_hart : notice_hart (vms_of h) g < HARTS
  low_hart =
      let at : notice_hart x.world.vms g < x.world.imsic.harts = notice_hart_there x.world g c.whole c.there in
      let here : notice_hart x.world.vms g ≡ notice_hart (vms_of h) g = ap (λ vms. notice_hart vms g) stands.vms in
      omega (arith, at, here, c.whole.harts)

  shows : places_of y.world g (home h g) ≡ record (places_of x.world g (home h g))
      { in_force = decoded (places_of x.world g (home h g)).word0 (places_of x.world g (home h g)).word1 }
  shows = ap (λ (w : World). places_of w g (home h g)) c.world ∙ fence-places x.world g (home h g) c.whole c.there

  reach_now : entry_names (home h g) ≡ in_force_of (Accepted (Refetch vm vcpu) ∷ h) g
  reach_now = sym (reach_step (Accepted (Refetch vm vcpu)) h g ∙ cond-true _ _ _ (is_itself g))

  own : VcpuStands y (Accepted (Refetch vm vcpu) ∷ h) g
  own =
      let stood = stands.vcpus g inside in
      let stay = ap (λ (r : VcpuRecord). r.stay) (same_record g) in
      let machine = only_accesses x.world y.world rest in
      record {
        same_home = ap (λ (r : VcpuRecord). home_in r.stay) (same_record g) ∙ stood.same_home ∙ sym home_is;
        select = ap (λ (r : VcpuRecord). r.select) (same_record g) ∙ stood.select ∙ sym (select_rests h (Accepted (Refetch vm vcpu)) g refl);
        majors = ap (λ (r : VcpuRecord). majors_shown r.majors) (same_record g) ∙ stood.majors
            ∙ sym (majors_rest h (Accepted (Refetch vm vcpu)) g (λ m. refl));
        two_files = subst AreApart (sym home_is) stood.two_files;
        plan = subst (PlanStands y.world g) (sym stay) (plan_stays x.world y.world g (record_of x g).stay machine stood.plan);
        passes = subst (HasItsPasses (passes_of (Accepted (Refetch vm vcpu) ∷ h)) g) (sym stay)
            (subst (λ passes. HasItsPasses passes g (record_of x g).stay) (sym (refetch_of h vm vcpu).passes) stood.passes);
        holds = subst IsHeld (λ k. record {
          words = file_words h;
          slot = slot_of (vms_of h) g;
          hart = notice_hart (vms_of h) g;
          reach = reach_now k;
          shows = (sym shows ∙ ap (places_of y.world g) (sym home_is)) k;
          there = sym home_is k;
          hand = hand_in (sym stay k);
          file = sym (file_rests h (Accepted (Refetch vm vcpu)) g refl) k;
          saw = sym (seen_stays (Accepted (Refetch vm vcpu)) h g refl (λ w was. refl)) k;
        }) (refetch_kept (file_words h) (slot_of (vms_of h) g) (notice_hart (vms_of h) g) (in_force_of h g) (places_of x.world g (home h g))
            (home h g) (hand_in (record_of x g).stay) (guest_file h g) (a_look_saw h g) fit low_slot low_hart stood.holds);
      }

  other_entry : (other : Vcpu) → is_vcpu other g ≡ false
      → entry_in_force (table_of y.world.tables other.vm) other.vcpu ≡ entry_in_force (table_of x.world.tables other.vm) other.vcpu
  other_entry other ne = ap (λ (w : World). entry_in_force (table_of w.tables other.vm) other.vcpu) c.world
      ∙ fenced_elsewhere x.world.tables vm vcpu x.world.memory other.vm other.vcpu (is_apart other ne)
    where
      is_apart : (other : Vcpu) → is_vcpu other g ≡ false → (other.vm ≢ vm) ⊎ (other.vcpu ≢ vcpu)
      is_apart other ne = elim (cases_eq other.vm vm) [
        | inl same ↦ inr (λ e. false≢true (sym ne ∙ ap (λ z. is_vcpu z g) (λ k. vcpu_of (same k) (e k)) ∙ is_itself g))
        | inr another ↦ inl another
      ]

  other_view : (other : Vcpu) → is_vcpu other g ≡ false → places_of y.world other (home h other) ≡ places_of x.world other (home h other)
  other_view other ne =
      let fenced : entry_in_force (table_of (with_fence x.world vm vcpu).tables other.vm) other.vcpu ≡ entry_in_force
      (table_of x.world.tables other.vm) other.vcpu =
      ap (λ (w : World). entry_in_force (table_of w.tables other.vm) other.vcpu) (sym c.world) ∙ other_entry other ne in
      ap (λ (w : World). places_of w other (home h other)) c.world ∙ (λ k. record (places_of x.world other (home h other)) { in_force = fenced k })

  its_alone : (other : Vcpu) (p : GuestPlace) → has_vcpu h other ≡ true → is_vcpu other g ≡ false → holds p (home h g) ≡ true
      → holds p (home h other) ≡ false
  its_alone other p there ne mine = elim (cases_Bool (holds p (home h other))) [
    | inl its ↦ absurd (false≢true (sym ne ∙ ap (λ z. is_vcpu z g) (stands.apart other g p there inside its mine) ∙ is_itself g))
    | inr none ↦ none
  ]

  still_held : (p : GuestPlace) → is_held (Accepted (Refetch vm vcpu) ∷ h) p ≡ is_held h p
  still_held p = held_as h (Accepted (Refetch vm vcpu)) g p (refetch_of h vm vcpu) (ap (holds p) home_is)

  refetched : MoveChanges x y h (Accepted (Refetch vm vcpu)) g
  refetched = record {
    moves = refetch_of h vm vcpu;
    still = still_refetch h vm vcpu;
    there = inside;
    rest = rest;
    passes = c.passes;
    count = ap (λ (w : World). w.notices) c.world;
    host = λ f at. record {
      file = subst (λ (w : World). SameFile (shown (file_at w.imsic (host_spot f))) (shown (file_at x.world.imsic (host_spot f)))) (sym c.world)
          (as_it_was (shown (file_at x.world.imsic (host_spot f))));
      select = ap (λ xs. get_or xs (select_place f) 0) c.selects;
    };
    records = ap (λ (rs : List VcpuRecord). length rs) c.vcpus;
    other_records = λ other there ne. same_record other;
    other_views = λ other there ne. other_view other ne;
    own = own;
    lease_harts = ap (λ (l : Leases). l.harts) c.leases;
    lease_guests = ap (λ (l : Leases). l.guests) c.leases;
    lease_count = ap (λ (l : Leases). length l.out) c.leases;
    leases = λ p at. ap (λ l. is_out l p) c.leases ∙ stands.leases p at ∙ sym (still_held p);
    held = λ p holding. stands.held g p inside (ap (holds p) (sym home_is) ∙ holding);
    apart = λ other p there ne holding. its_alone other p there ne (ap (holds p) (sym home_is) ∙ holding);
    free = λ p at none. ap (λ (w : World). shown (file_at w.imsic (spot_of p))) c.world ∙ stands.free p at (sym (still_held p) ∙ none);
    entries = other_entry;
    slots = λ q few ne. ap (λ (w : World). mrif_in w.memory q) c.world;
    stages = λ q ne. ap (λ (w : World). get_or w.stages q no_stage) c.world;
  }

pub refetch_taken : (x y : CoreState) (vm vcpu : ℕ) → IsRefetch x y vm vcpu → CoreTakes x y (Refetch vm vcpu) Okay
refetch_taken x y vm vcpu c = taken x y (Refetch vm vcpu) Okay refl (λ h stands. (
  refetch_refusal h vm vcpu stands.there ∙ cond-false _ _ _ (ap not (inside x y h vm vcpu c stands)),
  refl,
  moved_on x y h (Accepted (Refetch vm vcpu)) (vcpu_of vm vcpu) (refetched x y h vm vcpu c stands) stands,
))

pub no_entry_to_read : (x : CoreState) (vm vcpu : ℕ) → is_vcpu_in x.world.vms (vcpu_of vm vcpu) ≡ false
    → CoreTakes x x (Refetch vm vcpu) (Refused words.Range)
no_entry_to_read x vm vcpu none = refused x (Refetch vm vcpu) (Refused words.Range) (λ h stands.
    refetch_refusal h vm vcpu stands.there ∙ cond-true _ _ _
    (ap not (subst (λ (vs : List Vm). is_vcpu_in vs (vcpu_of vm vcpu) ≡ false) stands.vms none)))
