-- What is done about a virtual hart whose interrupts rest in memory: nothing changes but its slot, its
-- record and what a notice does, and its places hold its file as the history has it then.
use Rattle.std.proofs.Common.{◌≡◌, ◌≢◌, ℕ, ◌+◌, ◌*◌, ◌/◌, ◌<◌, ◌≤◌, true, false, length, ◌∷◌, inl, inr, refl, sym, ap, subst, ◌∙◌, arith}
use Rattle.std.specs.Int.{is_in_range}
use Rattle.std.proofs.lemmas.Bool.{cases_Bool, false≢true}
use Rattle.std.proofs.lemmas.Bool.Decides.{nat_tests}
use Rattle.aia_regs.specs.declared.limits.TheConstants.{VCPUS}
use Rattle.aia_file.specs.InterruptFile.{InterruptFile, SameFile, is_greatest_identity}
use Rattle.aia_file.proofs.FileLemmas.{same_file}
use Rattle.aia_file.specs.Imsic.{ImsicState}
use Rattle.aia_file.specs.Mrif.{mrif_in}
use Rattle.aia_major.specs.Kept.{majors_shown}
use Rattle.aia_entry.specs.Tables.{table_of, entry_in_force}
use Rattle.aia_vcpu.specs.declared.place.GuestPlace.{GuestPlace}
use Rattle.aia_vcpu.specs.Vms.{Vcpu, is_vcpu, slot_of, notice_hart}
use Rattle.aia_vcpu.specs.Home.{Home, holds, rests_in_memory}
use Rattle.aia_vcpu.specs.Home.Home.{Resident, OnWay}
use Rattle.aia_vcpu.proofs.VmLemmas.{slot_below, same_vcpu}
use Rattle.aia_hyp_values.proofs.WordLemmas.{shown_alone}
use Rattle.aia_vcpu_places.specs.Holds.{HasSets}
use Rattle.aia_vcpu_places.specs.Stores.{AreApart}
use Rattle.aia_vcpu_places.proofs.MemoryKept.{memory_replaced}
use Rattle.aia_fabric_values.specs.World.{World, OnlyStores, stage_of}
use Rattle.aia_fabric_values.specs.Whole.{IsWhole}
use Rattle.aia_move_values.specs.Views.{places_of}
use Rattle.aia_fabric_values.specs.SlotAccess.{DoneInSlot}
use Rattle.aia_move_values.proofs.SlotViews.{other_slot_kept, done_entry_words, slot_done-places}
use Rattle.aia_move_values.specs.declared.who.KeptNumbers.{KeptNumbers}
use Rattle.aia_move_values.specs.Touches.{SameMachine}
use Rattle.aia_model.specs.Event.{Event, History, greatest_identity_of, file_words}
use Rattle.aia_model.specs.Vms.{vms_of, has_vcpu}
use Rattle.aia_model.specs.FileAfter.{FileDeed, select_after, file_after}
use Rattle.aia_model.specs.FileAfter.FileDeed.{Rests}
use Rattle.aia_model.specs.GuestFile.{guest_deed, guest_file}
use Rattle.aia_model.specs.MajorOf.{majors_after}
use Rattle.aia_model.specs.ReachOf.{in_force_of}
use Rattle.aia_model.specs.HomeOf.{home}
use Rattle.aia_model.specs.Notice.{a_look_saw}
use Rattle.aia_model.specs.Passes.{passes_of}
use Rattle.aia_model.proofs.FileLemmas.{file_by_step}
use Rattle.aia_model.proofs.MoveLemmas.{is_itself, is_another}
use Rattle.aia_hyp_values.specs.Core.{CoreState, record_of, home_in, hand_of, hand_in}
use Rattle.aia_hyp_values.specs.Memory.{file_in_memory}
use Rattle.aia_hyp_values.specs.Passes.{HasItsPasses}
use Rattle.aia_hyp_values.specs.Stands.{PlanStands, VcpuStands, CoreStands}
use Rattle.aia_hyp_values.proofs.VcpuLemmas.{IsQuiet, IsHeld, SameFor, MajorsRest, same_view, same_words, select_is, majors_is, guest_rests}
use Rattle.aia_hyp_values.proofs.EventLemmas.{Changes}
use Rattle.aia_hyp_values.proofs.FilesInMemory.{no_zero, has_its_sets, file_is}
use Rattle.aia_hyp_values.proofs.GuestStores.{slot_few, slot_is, slots_apart}
use Rattle.aia_hyp_values.proofs.RunLines.{OnlyNotifies}
use Rattle.aia_hyp_values.proofs.WithinLemmas.{guest_within}

-- a world with the memory of another one
abbrev pub with_memory : World → World → World
with_memory w u = record w { memory = u.memory }

-- a core but for memory
abbrev pub but_memory : CoreState → CoreState → CoreState
but_memory x y = record y { world = with_memory y.world x.world }

-- It was done at its slot, at its record and by a notice, and nothing else changed.
pub record MemoryDeed (x y : CoreState) (h : History) (event : Event) (g : Vcpu) (there : Home) (kept now : KeptNumbers)
    (deed : FileDeed) : Type 0 where
  pub stands : CoreStands x h
  pub whole : IsWhole x.world
  pub inside : has_vcpu h g ≡ true
  pub quiet : IsQuiet h event
  pub rests : rests_in_memory there ≡ true
  pub home_was : home_in (record_of x g).stay ≡ there
  pub hand_was : hand_in (record_of x g).stay ≡ hand_of kept
  pub home_is : home_in (record_of y g).stay ≡ there
  pub hand_is : hand_in (record_of y g).stay ≡ hand_of now
  pub plan : PlanStands y.world g (record_of y g).stay
  pub its_passes : HasItsPasses (passes_of (event ∷ h)) g (record_of y g).stay
  pub its_deed : guest_deed g h event ≡ deed
  pub other_deeds : (other : Vcpu) → is_vcpu other g ≡ false → guest_deed other h event ≡ Rests
  pub other_majors : (other : Vcpu) → is_vcpu other g ≡ false → MajorsRest other event
  pub threshold : ℕ
  pub slot_deed : InterruptFile → InterruptFile
  pub slot : DoneInSlot x.world (with_memory x.world y.world) (slot_of x.world.vms g) threshold slot_deed
  pub notifies : OnlyNotifies x (but_memory x y) h event
  pub leases : y.leases ≡ x.leases
  pub passes : y.passes ≡ x.passes
  pub records : length y.vcpus ≡ length x.vcpus
  pub select : (record_of y g).select ≡ select_after deed (record_of x g).select
  pub majors : majors_shown (record_of y g).majors ≡ majors_after g event (majors_shown (record_of x g).majors)
  pub others : (other : Vcpu) → slot_of x.world.vms other ≢ slot_of x.world.vms g → record_of y other ≡ record_of x other
  pub file : SameFile (file_in_memory y.world (slot_of x.world.vms g) now)
      (file_after (record_of x g).select deed (file_in_memory x.world (slot_of x.world.vms g) kept))

-- what a slot has, where it shows no identity that files don't have
slot_has : (w : World) (q words : ℕ) (kept : KeptNumbers) → w.n + 1 ≡ 64 * words → (mrif_in w.memory q).pending 0 ≡ false
    → (mrif_in w.memory q).enabled 0 ≡ false → ((i : ℕ) → words ≤ i / 64 → (mrif_in w.memory q).enabled i ≡ false)
    → HasSets words (mrif_in w.memory q) (file_in_memory w q kept)
slot_has w q words kept all pending enabled above = record {
  inside = λ i low. (
    shown_alone (mrif_in w.memory q).pending w.n words all pending i low,
    shown_alone (mrif_in w.memory q).enabled w.n words all enabled i low,
  );
  above = above;
}

holds_none : (there : Home) (p : GuestPlace) → rests_in_memory there ≡ true → holds p there ≡ false
holds_none (Resident q) p rests = absurd (cc)
holds_none (OnWay way at) p rests = absurd (cc)
holds_none there p rests = refl

only_stores : (w u : World) → u ≡ record w { imsic = u.imsic; notices = u.notices; memory = u.memory }
    → u.imsic ≡ record w.imsic { files = u.imsic.files } → OnlyStores w u
only_stores w u rest imsic = rest ∙ ap (λ (i : ImsicState). record w { imsic = i; notices = u.notices; memory = u.memory }) imsic

module _ (x y : CoreState) (h : History) (event : Event) (g : Vcpu) (there : Home) (kept now : KeptNumbers) (deed : FileDeed)
    (c : MemoryDeed x y h event g there kept now deed) where
  abbrev q : ℕ
  q = slot_of x.world.vms g

  low : q < VCPUS
  low = slot_few x h g c.stands c.whole c.inside

  at_home : home h g ≡ there
  at_home = sym (c.stands.vcpus g c.inside).same_home ∙ c.home_was

  its_rests : rests_in_memory (home h g) ≡ true
  its_rests = ap rests_in_memory at_home ∙ c.rests

  stores : OnlyStores x.world y.world
  stores = only_stores x.world y.world (ap (λ (w : World). record w { memory = y.world.memory }) c.notifies.rest)
      (ap (λ (w : World). w.imsic) c.notifies.accesses)

  same_machine : SameMachine x.world y.world
  same_machine = record {
    n = ap (λ (w : World). w.n) stores;
    vms = ap (λ (w : World). w.vms) stores;
    harts =
        ap (λ (w : World). w.imsic.harts) stores;
    guests = ap (λ (w : World). w.imsic.guests) stores;
  }

  file_now : guest_file (event ∷ h) g ≡ file_in_memory y.world q now
  file_now =
      file_by_step (guest_deed g) event h
      ∙ (λ k. file_after (sym (c.stands.vcpus g c.inside).select k) (c.its_deed k)
      (file_is x h g kept c.stands c.whole c.inside its_rests c.hand_was k))
      ∙ sym (same_file _ _ c.file)

  has_now : HasSets (file_words h) (mrif_in y.world.memory q) (file_in_memory y.world q now)
  has_now =
      let greatest : is_greatest_identity (greatest_identity_of h) ≡ true =
      subst (λ n. is_greatest_identity n ≡ true) c.stands.greatest c.whole.greatest in
      let within = guest_within h g greatest in
      let n : y.world.n ≡ greatest_identity_of h = same_machine.n ∙ c.stands.greatest in
      let zero = no_zero x.world q c.whole low in
      let had = has_its_sets x h g kept c.stands c.whole c.inside its_rests c.hand_was in
      let all : x.world.n + 1 ≡ 64 * file_words h = ap (λ n. n + 1) c.stands.greatest ∙ within.all_words in
      slot_has y.world q (file_words h) now (ap (λ n. n + 1) n ∙ within.all_words) ((c.slot.kept 0 refl).0 ∙ zero.0) ((c.slot.kept 0 refl).1 ∙ zero.1)
      (λ i past. (c.slot.kept i (outside i past all)).1 ∙ had.above i past)
    where
      outside : (i : ℕ) → file_words h ≤ i / 64 → x.world.n + 1 ≡ 64 * file_words h → is_in_range 1 x.world.n i ≡ false
      outside i past all =
          let more : x.world.n < i = omega (arith, past, all) in
          grind (arith, nat_tests)

  -- what a notice leaves of its places
  same_after : SameFor (with_memory x.world y.world) y.world g there
  same_after = record {
    n = ap (λ (w : World). w.n) stores;
    files = λ p holding. absurd (false≢true (sym (holds_none there p c.rests) ∙ holding));
    slot = ap (λ (w : World). mrif_in y.world.memory (slot_of w.vms g)) stores;
    word0 = refl;
    word1 = refl;
    in_force = ap (λ (w : World). entry_in_force (table_of w.tables g.vm) g.vcpu) stores;
    stage = ap (λ (w : World). stage_of w g) stores;
  }

  memory_stands : VcpuStands y (event ∷ h) g
  memory_stands =
      let stood = c.stands.vcpus g c.inside in
      let puts = c.quiet.stays in
      let there_now : home (event ∷ h) g ≡ there = puts.homes g ∙ at_home in
      let shows : places_of y.world g there ≡ record (places_of x.world g there) { slot = mrif_in y.world.memory q } =
      same_view (with_memory x.world y.world) y.world g there same_after
      ∙ slot_done-places x.world (with_memory x.world y.world) q c.threshold c.slot_deed low c.slot g there in
      let before = subst IsHeld (λ k. record {
        words = file_words h;
        slot = slot_of (vms_of h) g;
        hart = notice_hart (vms_of h) g;
        reach = in_force_of h g;
        shows = places_of x.world g (at_home k);
        there = at_home k;
        hand = c.hand_was k;
        file = guest_file h g;
        saw = a_look_saw h g;
      }) stood.holds in
      record {
        same_home = c.home_is ∙ sym there_now;
        select = c.select ∙ ap (λ d. select_after d (record_of x g).select) (sym c.its_deed)
            ∙ ap (select_after (guest_deed g h event)) stood.select ∙ sym (select_is event h g);
        majors = c.majors ∙ ap (majors_after g event) stood.majors ∙ sym (majors_is event h g);
        two_files = subst AreApart (sym (puts.homes g)) stood.two_files;
        plan = c.plan;
        passes = c.its_passes;
        holds = subst IsHeld (λ k. record {
          words = sym (same_words event h puts.machine) k;
          slot = slot_of (sym puts.vms k) g;
          hart = notice_hart (sym puts.vms k) g;
          reach = sym (puts.reach g) k;
          shows = (sym shows ∙ ap (places_of y.world g) (sym there_now)) k;
          there = sym there_now k;
          hand = sym c.hand_is k;
          file = sym file_now k;
          saw = sym (puts.seen g) k;
        }) (memory_replaced (file_words h) (slot_of (vms_of h) g) (notice_hart (vms_of h) g) (in_force_of h g) (places_of x.world g there)
            (hand_of kept) (guest_file h g) (a_look_saw h g) there c.rests (mrif_in y.world.memory q) (hand_of now) (file_in_memory y.world q now)
            has_now refl refl before);
      }

  same_for_other : (other : Vcpu) → has_vcpu h other ≡ true → slot_of x.world.vms other ≢ q → SameFor x.world y.world other (home h other)
  same_for_other other inside ne =
      let words = done_entry_words x.world (with_memory x.world y.world) q c.threshold c.slot_deed low c.slot other.vm other.vcpu in
      record {
        n = same_machine.n;
        files = λ p holding. c.notifies.files p (c.stands.held other p inside holding);
        slot = (λ k. mrif_in y.world.memory (slot_of (same_machine.vms k) other))
            ∙ other_slot_kept x.world (with_memory x.world y.world) q c.threshold c.slot_deed low c.slot (slot_of x.world.vms other) ne;
        word0 = words.0;
        word1 = words.1;
        in_force = ap (λ (w : World). entry_in_force (table_of w.tables other.vm) other.vcpu) stores;
        stage = ap (λ (w : World). stage_of w other) stores;
      }

  pub memory_deed : Changes x y h event
  memory_deed = record {
    quiet = c.quiet;
    rest = stores;
    leases = c.leases;
    passes = c.passes;
    records = c.records;
    count = c.notifies.count;
    host = λ f inside. let done = c.notifies.host f inside in record { file = done.file; select = done.select };
    vcpus = λ other inside stood. elim (cases_Bool (is_vcpu other g)) [
      | inl e ↦ subst (VcpuStands y (event ∷ h)) (sym (same_vcpu other g e)) memory_stands
      | inr ne ↦
          let apart = slots_apart x h g other c.stands c.inside inside (λ e. false≢true (sym ne ∙ ap (λ z. is_vcpu z g) e ∙ is_itself g)) in
          guest_rests x y h event other c.quiet.stays same_machine (c.other_deeds other ne) (c.other_majors other ne) (c.others other apart)
          (same_for_other other inside apart) stood
    ];
    free_files = λ p inside none. c.notifies.files p inside;
    no_vcpu = λ other outside. c.other_deeds other (not_it other outside);
    no_majors = λ other outside. c.other_majors other (not_it other outside);
    no_slot = λ r past few.
        let below = slot_below (vms_of h) g c.inside in
        other_slot_kept x.world (with_memory x.world y.world) q c.threshold c.slot_deed low c.slot r
        (λ e. omega (arith, below, past, e, slot_is x h g c.stands));
  }
    where
      not_it : (other : Vcpu) → has_vcpu h other ≡ false → is_vcpu other g ≡ false
      not_it other outside = is_another other g (λ e. false≢true (sym outside ∙ ap (has_vcpu h) e ∙ c.inside))
