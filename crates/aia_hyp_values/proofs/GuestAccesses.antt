-- What an access of a resident virtual hart to its own file answers, and what it leaves.
use Rattle.std.proofs.Common.{◌≡◌, ◌≢◌, ℕ, ◌<◌, true, false, not, cond, get_or, List, length, set, ◌∷◌, Option, Some, None, inl, inr, refl, sym, ap, subst, ◌∙◌, is_some, ◌&&◌}
use Rattle.std.proofs.lemmas.List.{get_or-set_same, get_or-set_other, length-set}
use Rattle.std.proofs.lemmas.Bool.{cases_Bool, cond-true, cond-false, false≢true}
use Rattle.aia_regs.specs.declared.access.Csr.{Csr}
use Rattle.aia_regs.specs.declared.access.Csr.TheVariants as csrs
use Rattle.aia_regs.specs.declared.access.Op.{Op}
use Rattle.aia_regs.specs.declared.access.Level.TheVariants as levels
use Rattle.aia_regs.specs.FileRegisters.{select_written}
use Rattle.aia_csr.specs.declared.csr_access.CsrAccess.{CsrAccess}
use Rattle.aia_csr.specs.declared.csr_access.CsrAccess.TheVariants as reaches
use Rattle.aia_csr.specs.CsrAccess.{csr_access, is_file_csr, IsFileCsr}
use Rattle.aia_file.specs.InterruptFile.{InterruptFile, SameFile, is_greatest_identity}
use Rattle.aia_file.specs.FileState.{FileState, shown}
use Rattle.aia_file.proofs.FileLemmas.{same_file}
use Rattle.aia_file.specs.declared.spot.Spot.{Spot}
use Rattle.aia_file.specs.Imsic.{ImsicState, IsThere, file_at, with_file}
use Rattle.aia_file.proofs.PlaceLemmas.{kept_elsewhere}
use Rattle.aia_file.specs.Mrif.{mrif_in}
use Rattle.aia_vcpu.specs.declared.place.GuestPlace.{GuestPlace}
use Rattle.aia_vcpu.specs.declared.vm.Vm.{Vm}
use Rattle.aia_vcpu.specs.Vms.{Vcpu, vcpu_of, is_vcpu, is_vcpu_in, slot_of, notice_hart}
use Rattle.aia_vcpu.specs.Home.{Home, holds, is_place, is_moving}
use Rattle.aia_vcpu.specs.Home.Home.{Resident, OnWay}
use Rattle.aia_vcpu_places.specs.Holds.{Holds}
use Rattle.aia_vcpu_places.proofs.FileLemmas.{resident, resident_replaced}
use Rattle.aia_fabric_values.specs.World.{World}
use Rattle.aia_fabric_values.specs.Whole.{IsWhole}
use Rattle.aia_fabric_values.specs.Changes.{spot_of}
use Rattle.aia_move_values.specs.Views.{places_of}
use Rattle.aia_fabric_values.proofs.WholeLemmas.{width_at}
use Rattle.aia_model.specs.declared.answer.Answer.{Answer}
use Rattle.aia_model.specs.declared.answer.Answer.TheVariants.{Wide, Refused}
use Rattle.aia_model.specs.declared.refusal.Refusal.TheVariants.{Range, Away, Illegal, Virtual}
use Rattle.aia_model.specs.declared.line.Line.TheVariants.{GuestCsr}
use Rattle.aia_model.specs.Event.{History, greatest_identity_of, file_words}
use Rattle.aia_model.specs.Event.Event.{Accepted}
use Rattle.aia_model.specs.Vms.{vms_of, has_vcpu}
use Rattle.aia_model.specs.FileAfter.{FileDeed, select_after, file_after}
use Rattle.aia_model.specs.FileAfter.FileDeed.{Accesses, Rests}
use Rattle.aia_model.specs.GuestFile.{guest_deed, guest_file, guest_select}
use Rattle.aia_major.specs.VsMajor.{vti_of}
use Rattle.aia_major.specs.Kept.{majors_shown}
use Rattle.aia_model.specs.ReachOf.{in_force_of}
use Rattle.aia_model.specs.HomeOf.{home}
use Rattle.aia_model.specs.Notice.{a_look_saw}
use Rattle.aia_model.specs.Refusal.{refusal, serves, raises_illegal, raises_virtual}
use Rattle.aia_model.specs.Answer.{csr_shown, guest_csr_value}
use Rattle.aia_model.proofs.AnswerLemmas.{guest_refusal}
use Rattle.aia_vcpu.proofs.VmLemmas.{same_vcpu}
use Rattle.aia_model.proofs.MoveLemmas.{is_itself, is_another}
use Rattle.aia_hyp_values.specs.Core.{Stay}
use Rattle.aia_hyp_values.specs.declared.vcpu.Stay.TheVariants as stays
use Rattle.aia_hyp_values.specs.Core.{VcpuRecord}
use Rattle.aia_hyp_values.specs.Core.{CoreState, no_record, record_of, home_in, hand_in, resident_at, entered_at}
use Rattle.aia_hyp_values.specs.HostFiles.{host_spot, select_place}
use Rattle.aia_move_values.specs.PlanState.{moving_of}
use Rattle.aia_hyp_values.specs.Stands.{PlanStands, StandsForSome, VcpuStands, is_held, CoreStands, CoreTakes}
use Rattle.aia_hyp_values.proofs.NameLemmas.{no_guest, is_hosts}
use Rattle.aia_move_values.specs.Touches.{SameMachine}
use Rattle.aia_vcpu.proofs.HomeLemmas.{same_place, is_itself_place}
use Rattle.aia_hyp_values.proofs.VcpuLemmas.{IsHeld, quiet_line, MajorsRest, guest_rests, guest_done, files_alone}
use Rattle.aia_fabric_values.proofs.FrameLemmas.{files_rest}
use Rattle.aia_hyp_values.proofs.RestLemmas.{entered_as_kept}
use Rattle.aia_hyp_values.proofs.EventLemmas.{Changes, as_it_was, accepted, refused}
use Rattle.aia_hyp_values.proofs.GuestStores.{not_out, slots_apart, resident_seen}
use Rattle.aia_model.proofs.GreatestLemmas.{guest_greatest}
use Rattle.aia_hyp_values.proofs.WithinLemmas.{guest_within, guest_sound, within_after}

-- ---- where it is

resident_home : (stay : Stay) (p : GuestPlace) → resident_at stay ≡ Some p → home_in stay ≡ Resident p
resident_home (stays.Resident q) p e = let same : q ≡ p = cc in ap Resident same
resident_home (stays.InMemory rest kept) p e = let bad : ◌≡◌ {A = Option GuestPlace} None (Some p) = e in absurd (cc)
resident_home (stays.Moving plan) p e = let bad : ◌≡◌ {A = Option GuestPlace} None (Some p) = e in absurd (cc)

resident_stay : (stay : Stay) (p : GuestPlace) → resident_at stay ≡ Some p → stay ≡ stays.Resident p
resident_stay (stays.Resident q) p e = let same : q ≡ p = cc in ap stays.Resident same
resident_stay (stays.InMemory rest kept) p e = let bad : ◌≡◌ {A = Option GuestPlace} None (Some p) = e in absurd (cc)
resident_stay (stays.Moving plan) p e = let bad : ◌≡◌ {A = Option GuestPlace} None (Some p) = e in absurd (cc)

pub there_in : (x : CoreState) (h : History) (g : Vcpu) → CoreStands x h → is_vcpu_in x.world.vms g ≡ true → has_vcpu h g ≡ true
there_in x h g stands there = subst (λ (vs : List Vm). is_vcpu_in vs g ≡ true) stands.vms there

pub missing_in : (x : CoreState) (h : History) (g : Vcpu) → CoreStands x h → is_vcpu_in x.world.vms g ≡ false → has_vcpu h g ≡ false
missing_in x h g stands none = subst (λ (vs : List Vm). is_vcpu_in vs g ≡ false) stands.vms none

pub is_home_at : (x : CoreState) (h : History) (g : Vcpu) (p : GuestPlace) → CoreStands x h → has_vcpu h g ≡ true
    → resident_at (record_of x g).stay ≡ Some p → home h g ≡ Resident p
is_home_at x h g p stands there at = sym (stands.vcpus g there).same_home ∙ resident_home (record_of x g).stay p at

holds_it : (there : Home) (p : GuestPlace) → there ≡ Resident p → holds p there ≡ true
holds_it there p e = ap (holds p) e ∙ is_itself_place p

pub file_there : (x : CoreState) (g : Vcpu) (p : GuestPlace) → StandsForSome x → is_vcpu_in x.world.vms g ≡ true
    → resident_at (record_of x g).stay ≡ Some p → IsThere x.world.imsic (spot_of p)
file_there x g p some inside at =
    let there = there_in x some.past g some.stands inside in
    some.stands.held g p there (holds_it (home some.past g) p (is_home_at x some.past g p some.stands there at))

-- ---- a deed at the file of a resident virtual hart

-- it was done at its guest file and its select number, and nothing else changed
pub record GuestHasDone (x y : CoreState) (g : Vcpu) (p : GuestPlace) (deed : FileDeed) : Type 0 where
  pub harts : y.world.imsic.harts ≡ x.world.imsic.harts
  pub guests : y.world.imsic.guests ≡ x.world.imsic.guests
  pub rest : y.world ≡ record x.world { imsic = y.world.imsic }
  pub leases : y.leases ≡ x.leases
  pub selects : y.selects ≡ x.selects
  pub passes : y.passes ≡ x.passes
  pub records : length y.vcpus ≡ length x.vcpus
  pub stay : (record_of y g).stay ≡ (record_of x g).stay
  pub select : (record_of y g).select ≡ select_after deed (record_of x g).select
  pub majors : (record_of y g).majors ≡ (record_of x g).majors
  pub others : (other : Vcpu) → slot_of x.world.vms other ≢ slot_of x.world.vms g → record_of y other ≡ record_of x other
  pub file : SameFile (shown (file_at y.world.imsic (spot_of p))) (file_after (record_of x g).select deed (shown (file_at x.world.imsic (spot_of p))))
  pub files : (spot : Spot) → IsThere x.world.imsic spot → spot ≢ spot_of p → file_at y.world.imsic spot ≡ file_at x.world.imsic spot

-- the file that its home holds is the history's
pub own_is : (x : CoreState) (h : History) (g : Vcpu) (p : GuestPlace) → CoreStands x h → IsWhole x.world → has_vcpu h g ≡ true
    → home h g ≡ Resident p → shown (file_at x.world.imsic (spot_of p)) ≡ guest_file h g
own_is x h g p stands whole there at =
    let greatest : is_greatest_identity (greatest_identity_of h) ≡ true = subst (λ n. is_greatest_identity n ≡ true) stands.greatest whole.greatest in
    let held = subst (λ (t : Home). Holds (file_words h) (slot_of (vms_of h) g) (notice_hart (vms_of h) g) (in_force_of h g)
    (places_of x.world g t) t (hand_in (record_of x g).stay) (guest_file h g) (a_look_saw h g)) at (stands.vcpus g there).holds in
    let inside = stands.held g p there (holds_it (home h g) p at) in
    same_file _ _ (resident (greatest_identity_of h) (file_words h) (slot_of (vms_of h) g) (notice_hart (vms_of h) g) (in_force_of h g)
    (places_of x.world g (Resident p)) (hand_in (record_of x g).stay) (guest_file h g) (a_look_saw h g) (guest_within h g greatest)
    (width_at x.world (spot_of p) whole inside ∙ stands.greatest) p held)

-- what is known of an access
pub record IsAccess (x y : CoreState) (h : History) (vm vcpu : ℕ) (csr : Csr) (op : Op) (p : GuestPlace) : Type 0 where
  pub stands : CoreStands x h
  pub whole : IsWhole x.world
  pub there : has_vcpu h (vcpu_of vm vcpu) ≡ true
  pub at : resident_at (record_of x (vcpu_of vm vcpu)).stay ≡ Some p
  pub done : GuestHasDone x y (vcpu_of vm vcpu) p (Accesses csr op)
  pub majors : (other : Vcpu) → MajorsRest other (Accepted (GuestCsr vm vcpu csr op))

machine_stays : (x y : CoreState) (g : Vcpu) (p : GuestPlace) (deed : FileDeed) → GuestHasDone x y g p deed → SameMachine x.world y.world
machine_stays x y g p deed done = record {
  n = ap (λ (w : World). w.n) done.rest;
  vms = ap (λ (w : World). w.vms) done.rest;
  harts = done.harts;
  guests = done.guests;
}

own_accessed : (x y : CoreState) (h : History) (vm vcpu : ℕ) (csr : Csr) (op : Op) (p : GuestPlace) → IsAccess x y h vm vcpu csr op p
    → VcpuStands x h (vcpu_of vm vcpu) → VcpuStands y (Accepted (GuestCsr vm vcpu csr op) ∷ h) (vcpu_of vm vcpu)
own_accessed x y h vm vcpu csr op p c stood =
    let g = vcpu_of vm vcpu in
    let at : home h g ≡ Resident p = is_home_at x h g p c.stands c.there c.at in
    let greatest : is_greatest_identity (greatest_identity_of h) ≡ true =
    subst (λ n. is_greatest_identity n ≡ true) c.stands.greatest c.whole.greatest in
    let deed : guest_deed g h (Accepted (GuestCsr vm vcpu csr op)) ≡ Accesses csr op = cond-true _ _ _ (is_itself g) in
    let after = file_after (guest_select h g) (Accesses csr op) (guest_file h g) in
    let own : shown (file_at y.world.imsic (spot_of p)) ≡ after = same_file _ _ c.done.file
    ∙ ap (λ s. file_after s (Accesses csr op) (shown (file_at x.world.imsic (spot_of p)))) stood.select
    ∙ ap (file_after (guest_select h g) (Accesses csr op)) (own_is x h g p c.stands c.whole c.there at) in
    let shows = resident_seen x.world y.world g p after c.done.rest own in
    let within = within_after (greatest_identity_of h) (guest_select h g) (Accesses csr op) (guest_file h g) (λ bad. bad) greatest
    (guest_greatest h g) (guest_sound h g) in
    guest_done x y h (Accepted (GuestCsr vm vcpu csr op)) g (quiet_line h (GuestCsr vm vcpu csr op) refl).stays
    (machine_stays x y g p (Accesses csr op) c.done) c.done.stay
    (c.done.select ∙ ap (λ d. select_after d (record_of x g).select) (sym deed))
    (ap majors_shown c.done.majors ∙ sym (c.majors g (majors_shown (record_of x g).majors)))
    (λ held.
    let before = subst (λ (t : Home). Holds (file_words h) (slot_of (vms_of h) g) (notice_hart (vms_of h) g) (in_force_of h g)
    (places_of x.world g t) t (hand_in (record_of x g).stay) (guest_file h g) (a_look_saw h g)) at held in
    let replaced = resident_replaced (greatest_identity_of h) (file_words h) (slot_of (vms_of h) g) (notice_hart (vms_of h) g) (in_force_of h g)
    (places_of x.world g (Resident p)) p (hand_in (record_of x g).stay) (guest_file h g) after (a_look_saw h g) within before in
    subst IsHeld (λ k. record {
      words = file_words h;
      slot = slot_of (vms_of h) g;
      hart = notice_hart (vms_of h) g;
      reach = in_force_of h g;
      shows = places_of y.world g (sym at k);
      there = sym at k;
      hand = hand_in (record_of x g).stay;
      file = file_after (guest_select h g) (sym deed k) (guest_file h g);
      saw = a_look_saw h g;
    }) (subst (λ v. Holds (file_words h) (slot_of (vms_of h) g) (notice_hart (vms_of h) g) (in_force_of h g) v (Resident p)
    (hand_in (record_of x g).stay) after (a_look_saw h g)) (sym shows) replaced)) stood

pub other_rests : (h : History) (vm vcpu : ℕ) (csr : Csr) (op : Op) (other : Vcpu) → is_vcpu other (vcpu_of vm vcpu) ≡ false
    → guest_deed other h (Accepted (GuestCsr vm vcpu csr op)) ≡ Rests
other_rests h vm vcpu csr op other ne = cond-false _ _ _ ne

not_it : (p q : GuestPlace) → is_place q p ≡ false → spot_of q ≢ spot_of p
not_it p q ne e =
    let hart : q.hart ≡ p.hart = cc in
    let file : q.file ≡ p.file = cc in
    false≢true (sym ne ∙ ap (λ (r : GuestPlace). is_place r p)
    (ap (λ h. record { hart = h; file = q.file }) hart ∙ ap (λ f. record { hart = p.hart; file = f }) file) ∙ is_itself_place p)

pub access_changes : (x y : CoreState) (h : History) (vm vcpu : ℕ) (csr : Csr) (op : Op) (p : GuestPlace) → IsAccess x y h vm vcpu csr op p
    → Changes x y h (Accepted (GuestCsr vm vcpu csr op))
access_changes x y h vm vcpu csr op p c =
    let g = vcpu_of vm vcpu in
    let event = Accepted (GuestCsr vm vcpu csr op) in
    let quiet = quiet_line h (GuestCsr vm vcpu csr op) refl in
    let machine = machine_stays x y g p (Accesses csr op) c.done in
    let holding = holds_it (home h g) p (is_home_at x h g p c.stands c.there c.at) in
    record {
      quiet = quiet;
      rest = files_rest x.world y.world c.done.rest c.done.harts c.done.guests;
      leases = c.done.leases;
      passes = c.done.passes;
      records = c.done.records;
      count = ap (λ (w : World). w.notices) c.done.rest;
      host = λ f inside. record {
        file = subst (λ (file : FileState). SameFile (shown file) (shown (file_at x.world.imsic (host_spot f))))
            (sym (c.done.files (host_spot f) inside (λ e. no_guest (host_spot f) (is_hosts f) p.hart p.file (sym e))))
            (as_it_was (shown (file_at x.world.imsic (host_spot f))));
        select = ap (λ xs. get_or xs (select_place f) 0) c.done.selects;
      };
      vcpus = λ other inside stood. elim (cases_Bool (is_vcpu other g)) [
        | inl e ↦
            let same = same_vcpu other g e in
            subst (VcpuStands y (event ∷ h)) (sym same) (own_accessed x y h vm vcpu csr op p c (subst (VcpuStands x h) same stood))
        | inr ne ↦ guest_rests x y h event other quiet.stays machine (other_rests h vm vcpu csr op other ne) (c.majors other)
            (c.done.others other (slots_apart x h g other c.stands c.there inside (λ e. false≢true (sym ne ∙ ap (λ z. is_vcpu z g) e ∙ is_itself g))))
            (files_alone x.world y.world other (home h other) c.done.rest (λ q held.
            c.done.files (spot_of q) (c.stands.held other q inside held) (not_it p q (elim (cases_Bool (is_place q p)) [
              | inl e ↦ absurd (false≢true (sym ne ∙ ap (λ z. is_vcpu z g)
                  (c.stands.apart other g p inside c.there (subst (λ r. holds r (home h other) ≡ true) (same_place q p e) held) holding)
                  ∙ is_itself g))
              | inr f ↦ f
            ])))) stood
      ];
      free_files = λ q inside none. c.done.files (spot_of q) inside (not_it p q (elim (cases_Bool (is_place q p)) [
        | inl e ↦ absurd (not_out h g p c.there holding (subst (λ r. is_held h r ≡ false) (same_place q p e) none))
        | inr f ↦ f
      ]));
      no_vcpu = λ other outside. other_rests h vm vcpu csr op other
          (is_another other g (λ e. false≢true (sym outside ∙ ap (has_vcpu h) e ∙ c.there)));
      no_majors = λ other outside. c.majors other;
      no_slot = λ q past few. ap (λ (w : World). mrif_in w.memory q) c.done.rest;
    }

-- ---- what each access does

-- the select number alone is written
pub guest_select_done : (x y : CoreState) (g : Vcpu) (p : GuestPlace) (op : Op) → y.world ≡ x.world → y.leases ≡ x.leases → y.selects ≡ x.selects
    → y.passes ≡ x.passes → slot_of x.world.vms g < length x.vcpus
    → y.vcpus ≡ set x.vcpus (slot_of x.world.vms g) (record (record_of x g) { select = select_written op (record_of x g).select })
    → GuestHasDone x y g p (Accesses csrs.Select op)
guest_select_done x y g p op world leases selects passes low vcpus =
    let slot : (other : Vcpu) → slot_of y.world.vms other ≡ slot_of x.world.vms other = λ other. ap (λ (w : World). slot_of w.vms other) world in
    let own : record_of y g ≡ record (record_of x g) { select = select_written op (record_of x g).select } =
    (λ k. get_or (vcpus k) (slot g k) no_record) ∙ get_or-set_same x.vcpus (slot_of x.world.vms g) _ no_record low in
    record {
      harts = ap (λ (w : World). w.imsic.harts) world;
      guests = ap (λ (w : World). w.imsic.guests) world;
      rest = world ∙ ap (λ (i : ImsicState). record x.world { imsic = i }) (sym (ap (λ (w : World). w.imsic) world));
      leases = leases;
      selects = selects;
      passes = passes;
      records = ap (λ (rs : List VcpuRecord). length rs) vcpus ∙ length-set x.vcpus (slot_of x.world.vms g) _;
      stay = ap (λ (r : VcpuRecord). r.stay) own;
      select = ap (λ (r : VcpuRecord). r.select) own;
      majors = ap (λ (r : VcpuRecord). r.majors) own;
      others = λ other ne. (λ k. get_or (vcpus k) (slot other k) no_record)
          ∙ get_or-set_other x.vcpus (slot_of x.world.vms g) (slot_of x.world.vms other) _ no_record ne;
      file = subst (λ (w : World). SameFile (shown (file_at w.imsic (spot_of p))) (shown (file_at x.world.imsic (spot_of p)))) (sym world)
          (as_it_was (shown (file_at x.world.imsic (spot_of p))));
      files = λ spot inside ne. ap (λ (w : World). file_at w.imsic spot) world;
    }

-- the file alone is changed
pub guest_file_done : (x y : CoreState) (g : Vcpu) (p : GuestPlace) (deed : FileDeed) → IsThere x.world.imsic (spot_of p)
    → y.world ≡ record x.world { imsic = with_file x.world.imsic (spot_of p) (file_at y.world.imsic (spot_of p)) } → y.leases ≡ x.leases
    → y.vcpus ≡ x.vcpus → y.selects ≡ x.selects → y.passes ≡ x.passes
    → SameFile (shown (file_at y.world.imsic (spot_of p))) (file_after (record_of x g).select deed (shown (file_at x.world.imsic (spot_of p))))
    → select_after deed (record_of x g).select ≡ (record_of x g).select → GuestHasDone x y g p deed
guest_file_done x y g p deed there world leases vcpus selects passes file select =
    let imsic : y.world.imsic ≡ with_file x.world.imsic (spot_of p) (file_at y.world.imsic (spot_of p)) = ap (λ (w : World). w.imsic) world in
    let same : (other : Vcpu) → record_of y other ≡ record_of x other = λ other k. get_or (vcpus k) (slot_of ((world k).vms) other) no_record in
    record {
      harts = ap (λ (i : ImsicState). i.harts) imsic;
      guests = ap (λ (i : ImsicState). i.guests) imsic;
      rest = world ∙ ap (λ (i : ImsicState). record x.world { imsic = i }) (sym imsic);
      leases = leases;
      selects = selects;
      passes = passes;
      records = ap (λ (rs : List VcpuRecord). length rs) vcpus;
      stay = ap (λ (r : VcpuRecord). r.stay) (same g);
      select = ap (λ (r : VcpuRecord). r.select) (same g) ∙ sym select;
      majors = ap (λ (r : VcpuRecord). r.majors) (same g);
      others = λ other ne. same other;
      file = file;
      files = λ other inside ne. ap (λ (i : ImsicState). file_at i other) imsic
          ∙ kept_elsewhere x.world.imsic (spot_of p) other (file_at y.world.imsic (spot_of p)) there inside ne;
    }

-- ---- what the core promises of it

-- an access to a CSR of the file is nothing to majors, and reads what the file shows
pub file_access : (vm vcpu : ℕ) (csr : Csr) (op : Op) (other : Vcpu) → IsFileCsr csr → MajorsRest other (Accepted (GuestCsr vm vcpu csr op))
file_access vm vcpu csrs.Select op other of_file m = refl
file_access vm vcpu csrs.Reg op other of_file m = refl
file_access vm vcpu csrs.Topei op other of_file m = refl
file_access vm vcpu csr op other of_file m = absurd of_file

pub file_read : (h : History) (g : Vcpu) (csr : Csr) → IsFileCsr csr → csr_shown (guest_select h g) (guest_file h g) csr ≡ guest_csr_value h g csr
file_read h g csrs.Select of_file = refl
file_read h g csrs.Reg of_file = refl
file_read h g csrs.Topei of_file = refl
file_read h g csr of_file = absurd of_file

-- what an access reaches, by the record that the core keeps
abbrev pub access_by : VcpuRecord → Csr → Op → CsrAccess
access_by r csr op = csr_access levels.Guest csr op r.select (vti_of (majors_shown r.majors).hvictl)

-- the refusal of an access of a virtual hart that has the CSR where it is
pub refusal_served : (x : CoreState) (h : History) (vm vcpu : ℕ) (csr : Csr) (op : Op) (access : CsrAccess) → CoreStands x h
    → has_vcpu h (vcpu_of vm vcpu) ≡ true → serves (home h (vcpu_of vm vcpu)) csr ≡ true
    → access ≡ access_by (record_of x (vcpu_of vm vcpu)) csr op
    → refusal h (GuestCsr vm vcpu csr op) ≡ cond (raises_illegal access) (Some (Refused Illegal))
    (cond (raises_virtual access) (Some (Refused Virtual)) None)
refusal_served x h vm vcpu csr op access stands there served table =
    let g = vcpu_of vm vcpu in
    guest_refusal h vm vcpu csr op stands.there ∙ cond-false _ _ _ (ap not there) ∙ cond-false _ _ _ (ap not served)
    ∙ (λ k. by_access (csr_access levels.Guest csr op (sym (stands.vcpus g there).select k)
    (vti_of (sym (stands.vcpus g there).majors k).hvictl))) ∙ ap by_access (sym table)
  where
    by_access : CsrAccess → Option Answer
    by_access a = cond (raises_illegal a) (Some (Refused Illegal)) (cond (raises_virtual a) (Some (Refused Virtual)) None)

pub refusal_there : (x : CoreState) (h : History) (vm vcpu : ℕ) (csr : Csr) (op : Op) (p : GuestPlace) (access : CsrAccess) → CoreStands x h
    → has_vcpu h (vcpu_of vm vcpu) ≡ true → resident_at (record_of x (vcpu_of vm vcpu)).stay ≡ Some p
    → access ≡ access_by (record_of x (vcpu_of vm vcpu)) csr op
    → refusal h (GuestCsr vm vcpu csr op) ≡ cond (raises_illegal access) (Some (Refused Illegal))
    (cond (raises_virtual access) (Some (Refused Virtual)) None)
refusal_there x h vm vcpu csr op p access stands there at table =
    refusal_served x h vm vcpu csr op access stands there (ap (λ t. serves t csr) (is_home_at x h (vcpu_of vm vcpu) p stands there at)) table

pub guest_accessed : (x y : CoreState) (vm vcpu : ℕ) (csr kind : Csr) (op : Op) (p : GuestPlace) (access : CsrAccess) (value : ℕ)
    → IsWhole x.world → is_vcpu_in x.world.vms (vcpu_of vm vcpu) ≡ true → resident_at (record_of x (vcpu_of vm vcpu)).stay ≡ Some p
    → access ≡ access_by (record_of x (vcpu_of vm vcpu)) csr op → raises_illegal access ≡ false → raises_virtual access ≡ false → csr ≡ kind
    → value ≡ csr_shown (record_of x (vcpu_of vm vcpu)).select (shown (file_at x.world.imsic (spot_of p))) kind
    → GuestHasDone x y (vcpu_of vm vcpu) p (Accesses kind op) → IsFileCsr kind → CoreTakes x y (GuestCsr vm vcpu csr op) (Wide value)
guest_accessed x y vm vcpu csr kind op p access value whole inside at table legal kept named read done of_file =
    let g = vcpu_of vm vcpu in
    accepted x y (GuestCsr vm vcpu csr op) (Wide value) refl refl (λ h stands.
    let there = there_in x h g stands inside in (
      refusal_there x h vm vcpu csr op p access stands there at table ∙ cond-false _ _ _ legal ∙ cond-false _ _ _ kept,
      ap Wide (read ∙ ap (λ (k : Csr). csr_shown (record_of x g).select (shown (file_at x.world.imsic (spot_of p))) k) (sym named)
          ∙ ap (λ s. csr_shown s (shown (file_at x.world.imsic (spot_of p))) csr) (stands.vcpus g there).select
          ∙ ap (λ (i : InterruptFile). csr_shown (guest_select h g) i csr)
          (own_is x h g p stands whole there (is_home_at x h g p stands there at))
          ∙ file_read h g csr (subst (λ (k : Csr). IsFileCsr k) (sym named) of_file)),
      access_changes x y h vm vcpu csr op p (record {
        stands = stands;
        whole = whole;
        there = there;
        at = at;
        done =
            subst (λ (k : Csr). GuestHasDone x y g p (Accesses k op)) (sym named) done;
        majors =
            λ other. file_access vm vcpu csr op other (subst (λ (k : Csr). IsFileCsr k) (sym named) of_file);
      }),
    ))

pub guest_virtual : (x : CoreState) (vm vcpu : ℕ) (csr : Csr) (op : Op) (p : GuestPlace) → is_vcpu_in x.world.vms (vcpu_of vm vcpu) ≡ true
    → resident_at (record_of x (vcpu_of vm vcpu)).stay ≡ Some p
    → reaches.Virtual ≡ access_by (record_of x (vcpu_of vm vcpu)) csr op → CoreTakes x x (GuestCsr vm vcpu csr op) (Refused Virtual)
guest_virtual x vm vcpu csr op p inside at table =
    refused x (GuestCsr vm vcpu csr op) (Refused Virtual)
    (λ h stands. refusal_there x h vm vcpu csr op p reaches.Virtual stands (there_in x h (vcpu_of vm vcpu) stands inside) at table)

pub guest_illegal : (x : CoreState) (vm vcpu : ℕ) (csr : Csr) (op : Op) (p : GuestPlace) → is_vcpu_in x.world.vms (vcpu_of vm vcpu) ≡ true
    → resident_at (record_of x (vcpu_of vm vcpu)).stay ≡ Some p
    → reaches.Illegal ≡ access_by (record_of x (vcpu_of vm vcpu)) csr op → CoreTakes x x (GuestCsr vm vcpu csr op) (Refused Illegal)
guest_illegal x vm vcpu csr op p inside at table =
    refused x (GuestCsr vm vcpu csr op) (Refused Illegal)
    (λ h stands. refusal_there x h vm vcpu csr op p reaches.Illegal stands (there_in x h (vcpu_of vm vcpu) stands inside) at table)

pub no_such_guest : (x : CoreState) (vm vcpu : ℕ) (csr : Csr) (op : Op) → is_vcpu_in x.world.vms (vcpu_of vm vcpu) ≡ false
    → CoreTakes x x (GuestCsr vm vcpu csr op) (Refused Range)
no_such_guest x vm vcpu csr op outside = refused x (GuestCsr vm vcpu csr op) (Refused Range) (λ h stands.
    guest_refusal h vm vcpu csr op stands.there ∙ cond-true _ _ _
    (ap not (subst (λ (vs : List Vm). is_vcpu_in vs (vcpu_of vm vcpu) ≡ false) stands.vms outside)))

pub away_stay : (w : World) (g : Vcpu) (stay : Stay) (csr : Csr) → PlanStands w g stay → resident_at stay ≡ None
    → (is_some (entered_at stay) && is_file_csr csr) ≡ false → serves (home_in stay) csr ≡ false
away_stay w g (stays.InMemory rest kept) csr plan e none = ap (λ b. b && is_file_csr csr) (entered_as_kept w g (stays.InMemory rest kept) plan) ∙ none
away_stay w g (stays.Resident p) csr plan e none = let bad : ◌≡◌ {A = Option GuestPlace} (Some p) None = e in absurd (cc)
away_stay w g (stays.Moving plan) csr stands e none = moving_away (moving_of plan).home stands.3
  where
    moving_away : (there : Home) → is_moving there ≡ true → serves there csr ≡ false
    moving_away (OnWay way at) moving = refl
    moving_away there moving = absurd (cc)

pub guest_away : (x : CoreState) (vm vcpu : ℕ) (csr : Csr) (op : Op) → is_vcpu_in x.world.vms (vcpu_of vm vcpu) ≡ true
    → resident_at (record_of x (vcpu_of vm vcpu)).stay ≡ None → (is_some (entered_at (record_of x (vcpu_of vm vcpu)).stay) && is_file_csr csr) ≡ false
    → CoreTakes x x (GuestCsr vm vcpu csr op) (Refused Away)
guest_away x vm vcpu csr op inside away none = refused x (GuestCsr vm vcpu csr op) (Refused Away) (λ h stands.
    let g = vcpu_of vm vcpu in
    let there = there_in x h g stands inside in
    guest_refusal h vm vcpu csr op stands.there ∙ cond-false _ _ _ (ap not there)
    ∙ cond-true _ _ _ (ap not (ap (λ t. serves t csr) (sym (stands.vcpus g there).same_home)
    ∙ away_stay x.world g (record_of x g).stay csr (stands.vcpus g there).plan away none)))
