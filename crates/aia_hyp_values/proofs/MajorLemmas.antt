-- What becomes of the majors of a virtual hart, and what they answer.
use Rattle.std.proofs.Common.{◌≡◌, ◌≢◌, ℕ, ◌<◌, Bool, true, false, ◌&&◌, not, cond, get_or, List, length, ◌∷◌, Option, Some, None, inl, inr, refl, sym, ap, subst, ◌∙◌}
use Rattle.std.proofs.lemmas.List.{get_or-set_same, get_or-set_other, length-set, set-get_or}
use Rattle.std.proofs.lemmas.Bool.{cases_Bool, cond-true, cond-false, false≢true}
use Rattle.std.specs.Prelude.{Result, Ok, Err, OnOk, OnErr}
use Rattle.std.specs.Result.{result_err}
use Rattle.aia_regs.specs.declared.access.Csr.{Csr}
use Rattle.aia_regs.specs.declared.access.Csr.TheVariants as csrs
use Rattle.aia_regs.specs.declared.access.Op.{Op}
use Rattle.aia_csr.specs.declared.csr_access.CsrAccess.{CsrAccess}
use Rattle.aia_word.specs.Top.{top_value}
use Rattle.aia_file.specs.InterruptFile.{InterruptFile, SameFile, top_of, signals}
use Rattle.aia_file.specs.FileState.{shown}
use Rattle.aia_file.specs.Imsic.{file_at}
use Rattle.aia_file.specs.Mrif.{mrif_in}
use Rattle.aia_major.specs.VsMajor.{VsMajorState, is_major, is_hvictl, with_injection, with_hviprio1, with_hvictl, with_sip, with_sie, stopi_value, sip_value, sie_value}
use Rattle.aia_major.specs.Kept.{majors_shown}
use Rattle.aia_vcpu.specs.declared.place.GuestPlace.{GuestPlace}
use Rattle.aia_vcpu.specs.declared.vm.Vm.{Vm}
use Rattle.aia_vcpu.specs.Vms.{Vcpu, vcpu_of, is_vcpu, is_vcpu_in, slot_of, notice_hart}
use Rattle.aia_fabric_values.specs.World.{World}
use Rattle.aia_fabric_values.specs.Whole.{IsWhole}
use Rattle.aia_fabric_values.specs.Changes.{spot_of}
use Rattle.aia_model.specs.declared.answer.Answer.{Answer}
use Rattle.aia_model.specs.declared.answer.Answer.TheVariants.{Okay, Wide, Refused}
use Rattle.aia_model.specs.declared.refusal.Refusal.{Refusal}
use Rattle.aia_model.specs.declared.refusal.Refusal.TheVariants.{Range}
use Rattle.aia_model.specs.declared.line.Line.{Line}
use Rattle.aia_model.specs.declared.line.Line.TheVariants.{GuestCsr, Inject, Hvictl, Hviprio}
use Rattle.aia_model.specs.Event.{Event, History, has_machine, file_words}
use Rattle.aia_model.specs.Event.Event.{Accepted}
use Rattle.aia_model.specs.Vms.{vms_of, has_vcpu}
use Rattle.aia_model.specs.FileAfter.{select_after, file_after}
use Rattle.aia_model.specs.FileAfter.FileDeed.{Accesses, Rests}
use Rattle.aia_model.specs.GuestFile.{guest_deed, guest_file, guest_select}
use Rattle.aia_model.specs.MajorOf.{majors_after}
use Rattle.aia_model.specs.ReachOf.{in_force_of}
use Rattle.aia_model.specs.HomeOf.{home}
use Rattle.aia_model.specs.Notice.{noticed, a_look_saw}
use Rattle.aia_model.specs.FileOf.{FileName, deed_at}
use Rattle.aia_model.specs.Refusal.{refusal, raises_illegal, raises_virtual}
use Rattle.aia_model.specs.Move.{line_deed}
use Rattle.aia_model.specs.Move.LineDeed.{NoMove}
use Rattle.aia_model.specs.Answer.{accepted_answer, guest_csr_value}
use Rattle.aia_model.proofs.AnswerLemmas.{inject_refusal, hvictl_refusal, hviprio_refusal}
use Rattle.aia_vcpu.proofs.VmLemmas.{same_vcpu}
use Rattle.aia_model.proofs.MoveLemmas.{is_itself, is_another}
use Rattle.aia_hyp_values.specs.Core.{VcpuRecord}
use Rattle.aia_hyp_values.specs.Core.{CoreState, no_record, record_of, hand_in, resident_at, MajorsDone}
use Rattle.aia_hyp_values.specs.HostFiles.{FileDone, host_spot, select_place}
use Rattle.aia_hyp_values.specs.Stands.{VcpuStands, CoreStands, CoreTakes, answer_by}
use Rattle.aia_move_values.specs.Touches.{SameMachine}
use Rattle.aia_hyp_values.proofs.VcpuLemmas.{is_quiet_line, IsQuiet, SameFor, IsHeld, same_view, quiet_line, guest_done, guest_rests, MajorsRest}
use Rattle.aia_hyp_values.proofs.StandsLemmas.{count_after}
use Rattle.aia_hyp_values.proofs.EventLemmas.{Changes, as_it_was, accepted, refused}
use Rattle.aia_fabric_values.proofs.FrameLemmas.{none_rest}
use Rattle.aia_hyp_values.proofs.GuestStores.{slots_apart}
use Rattle.aia_hyp_values.proofs.GuestAccesses.{there_in, access_by, refusal_there, own_is, is_home_at}

-- ---- an event that is something to the majors of one virtual hart alone

pub record IsOfMajors (h : History) (event : Event) (g : Vcpu) (done : VsMajorState → VsMajorState) : Type 0 where
  pub quiet : IsQuiet h event
  pub none : noticed h event ≡ None
  pub host : (f : FileName) → deed_at f h event ≡ Rests
  pub file : (s : ℕ) (file : InterruptFile) → file_after s (guest_deed g h event) file ≡ file
  pub select : (s : ℕ) → select_after (guest_deed g h event) s ≡ s
  pub others : (other : Vcpu) → is_vcpu other g ≡ false → guest_deed other h event ≡ Rests
  pub other_majors : (other : Vcpu) → is_vcpu other g ≡ false → MajorsRest other event
  pub own : (m : VsMajorState) → majors_after g event m ≡ done m

-- what it leaves of the core: all but the majors of that one
pub record HasMajors (x y : CoreState) (g : Vcpu) (done : VsMajorState → VsMajorState) : Type 0 where
  pub world : y.world ≡ x.world
  pub leases : y.leases ≡ x.leases
  pub selects : y.selects ≡ x.selects
  pub passes : y.passes ≡ x.passes
  pub low : slot_of x.world.vms g < length x.vcpus
  pub is_done : MajorsDone x.vcpus y.vcpus (slot_of x.world.vms g) done

module _ (x y : CoreState) (h : History) (event : Event) (g : Vcpu) (done : VsMajorState → VsMajorState) (c : HasMajors x y g done)
    (e : IsOfMajors h event g done) where
  same_slot : (other : Vcpu) → slot_of y.world.vms other ≡ slot_of x.world.vms other
  same_slot other = ap (λ (w : World). slot_of w.vms other) c.world

  -- its record, and the others'
  own_record : record_of y g ≡ record (record_of x g) { majors = (get_or y.vcpus (slot_of x.world.vms g) no_record).majors }
  own_record = (λ k. get_or (c.is_done.rest k) (same_slot g k) no_record) ∙ get_or-set_same x.vcpus (slot_of x.world.vms g) _ no_record c.low

  own_majors : majors_shown (record_of y g).majors ≡ done (majors_shown (record_of x g).majors)
  own_majors = (λ k. majors_shown (get_or y.vcpus (same_slot g k) no_record).majors) ∙ c.is_done.majors

  other_record : (other : Vcpu) → slot_of x.world.vms other ≢ slot_of x.world.vms g → record_of y other ≡ record_of x other
  other_record other ne = (λ k. get_or (c.is_done.rest k) (same_slot other k) no_record)
      ∙ get_or-set_other x.vcpus (slot_of x.world.vms g) (slot_of x.world.vms other) _ no_record ne

  machine : SameMachine x.world y.world
  machine = record {
    n = ap (λ (w : World). w.n) c.world;
    vms = ap (λ (w : World). w.vms) c.world;
    harts = ap (λ (w : World). w.imsic.harts) c.world;
    guests = ap (λ (w : World). w.imsic.guests) c.world;
  }

  shows : (other : Vcpu) → SameFor x.world y.world other (home h other)
  shows other = subst (λ (w : World). SameFor x.world w other (home h other)) (sym c.world)
      (record { n = refl; files = λ p held. refl; slot = refl; word0 = refl; word1 = refl; in_force = refl; stage = refl })

  pub majors_change : CoreStands x h → has_vcpu h g ≡ true → Changes x y h event
  majors_change stands there = record {
    quiet = e.quiet;
    rest = none_rest x.world y.world c.world;
    leases = c.leases;
    passes = c.passes;
    records = ap (λ (rs : List VcpuRecord). length rs) c.is_done.rest ∙ length-set x.vcpus (slot_of x.world.vms g) _;
    count = ap (λ (w : World). w.notices) c.world ∙ ap (λ who. count_after who x.world.notices) (sym e.none);
    host = λ f inside. subst (FileDone x y f) (sym (e.host f)) (record {
      file = subst (λ (w : World). SameFile (shown (file_at w.imsic (host_spot f))) (shown (file_at x.world.imsic (host_spot f)))) (sym c.world)
          (as_it_was (shown (file_at x.world.imsic (host_spot f))));
      select = ap (λ xs. get_or xs (select_place f) 0) c.selects;
    });
    vcpus = λ other inside stood. elim (cases_Bool (is_vcpu other g)) [
      | inl is ↦
          let it = same_vcpu other g is in
          subst (VcpuStands y (event ∷ h)) (sym it) (own_stands (subst (VcpuStands x h) it stood))
      | inr ne ↦ guest_rests x y h event other e.quiet.stays machine (e.others other ne) (e.other_majors other ne)
          (other_record other (slots_apart x h g other stands there inside (λ z. false≢true (sym ne ∙ ap (λ z. is_vcpu z g) z ∙ is_itself g))))
          (shows other) stood
    ];
    free_files = λ p inside none. ap (λ (w : World). file_at w.imsic (spot_of p)) c.world;
    no_vcpu = λ other outside. e.others other (missing other outside);
    no_majors = λ other outside. e.other_majors other (missing other outside);
    no_slot = λ q past few. ap (λ (w : World). mrif_in w.memory q) c.world;
  }
    where
      missing : (other : Vcpu) → has_vcpu h other ≡ false → is_vcpu other g ≡ false
      missing other outside = is_another other g (λ z. false≢true (sym outside ∙ ap (has_vcpu h) z ∙ there))

      own_stands : VcpuStands x h g → VcpuStands y (event ∷ h) g
      own_stands stood = guest_done x y h event g e.quiet.stays machine (ap (λ (r : VcpuRecord). r.stay) own_record)
          (ap (λ (r : VcpuRecord). r.select) own_record ∙ sym (e.select (record_of x g).select))
          (own_majors ∙ sym (e.own (majors_shown (record_of x g).majors)))
          (λ held. subst IsHeld (λ k. record {
            words = file_words h;
            slot = slot_of (vms_of h) g;
            hart = notice_hart (vms_of h) g;
            reach = in_force_of h g;
            shows = sym (same_view x.world y.world g (home h g) (shows g)) k;
            there = home h g;
            hand = hand_in (record_of x g).stay;
            file = sym (e.file (guest_select h g) (guest_file h g)) k;
            saw = a_look_saw h g;
          }) held) stood

-- nothing is done to them
pub majors_stay : (x : CoreState) (g : Vcpu) → slot_of x.world.vms g < length x.vcpus → HasMajors x x g (λ m. m)
majors_stay x g low = record {
  world = refl;
  leases = refl;
  selects = refl;
  passes = refl;
  low = low;
  is_done = record { rest = sym (set-get_or x.vcpus (slot_of x.world.vms g) no_record); majors = refl };
}

-- ---- the events of majors

own_test : {A : Type 0} (vm vcpu : ℕ) (a b : A) → cond (is_vcpu (vcpu_of vm vcpu) (vcpu_of vm vcpu)) a b ≡ a
own_test vm vcpu a b = cond-true _ _ _ (is_itself (vcpu_of vm vcpu))

pub injects : (h : History) (vm vcpu bit : ℕ) (level : Bool)
    → IsOfMajors h (Accepted (Inject vm vcpu bit level)) (vcpu_of vm vcpu) (with_injection bit level)
injects h vm vcpu bit level = record {
  quiet = quiet_line h (Inject vm vcpu bit level) refl;
  none = refl;
  host = λ f. refl;
  file = λ s file. refl;
  select = λ s. refl;
  others = λ other ne. refl;
  other_majors = λ other ne m. cond-false _ _ _ ne;
  own = λ m. own_test vm vcpu _ _;
}

pub writes_hvictl : (h : History) (vm vcpu value : ℕ) → IsOfMajors h (Accepted (Hvictl vm vcpu value)) (vcpu_of vm vcpu) (with_hvictl value)
writes_hvictl h vm vcpu value = record {
  quiet = quiet_line h (Hvictl vm vcpu value) refl;
  none = refl;
  host = λ f. refl;
  file = λ s file. refl;
  select = λ s. refl;
  others = λ other ne. refl;
  other_majors = λ other ne m. cond-false _ _ _ ne;
  own = λ m. own_test vm vcpu _ _;
}

pub writes_hviprio : (h : History) (vm vcpu value : ℕ) → IsOfMajors h (Accepted (Hviprio vm vcpu value)) (vcpu_of vm vcpu) (with_hviprio1 value)
writes_hviprio h vm vcpu value = record {
  quiet = quiet_line h (Hviprio vm vcpu value) refl;
  none = refl;
  host = λ f. refl;
  file = λ s file. refl;
  select = λ s. refl;
  others = λ other ne. refl;
  other_majors = λ other ne m. cond-false _ _ _ ne;
  own = λ m. own_test vm vcpu _ _;
}

-- an access to a CSR of majors is nothing to the file
module _ (h : History) (vm vcpu : ℕ) (op : Op) where
  pub accesses_sip : IsOfMajors h (Accepted (GuestCsr vm vcpu csrs.Sip op)) (vcpu_of vm vcpu) (with_sip op)
  accesses_sip = record {
    quiet = quiet_line h (GuestCsr vm vcpu csrs.Sip op) refl;
    none = refl;
    host = λ f. refl;
    file = λ s file. ap (λ d. file_after s d file) (own_test vm vcpu (Accesses csrs.Sip op) Rests);
    select = λ s. ap (λ d. select_after d s) (own_test vm vcpu (Accesses csrs.Sip op) Rests);
    others = λ other ne. cond-false _ _ _ ne;
    other_majors = λ other ne m. cond-false _ _ _ ne;
    own = λ m. own_test vm vcpu _ _;
  }

  pub accesses_sie : IsOfMajors h (Accepted (GuestCsr vm vcpu csrs.Sie op)) (vcpu_of vm vcpu) (with_sie op)
  accesses_sie = record {
    quiet = quiet_line h (GuestCsr vm vcpu csrs.Sie op) refl;
    none = refl;
    host = λ f. refl;
    file = λ s file. ap (λ d. file_after s d file) (own_test vm vcpu (Accesses csrs.Sie op) Rests);
    select = λ s. ap (λ d. select_after d s) (own_test vm vcpu (Accesses csrs.Sie op) Rests);
    others = λ other ne. cond-false _ _ _ ne;
    other_majors = λ other ne m. cond-false _ _ _ ne;
    own = λ m. own_test vm vcpu _ _;
  }

  pub accesses_topi : IsOfMajors h (Accepted (GuestCsr vm vcpu csrs.Topi op)) (vcpu_of vm vcpu) (λ m. m)
  accesses_topi = record {
    quiet = quiet_line h (GuestCsr vm vcpu csrs.Topi op) refl;
    none = refl;
    host = λ f. refl;
    file = λ s file. ap (λ d. file_after s d file) (own_test vm vcpu (Accesses csrs.Topi op) Rests);
    select = λ s. ap (λ d. select_after d s) (own_test vm vcpu (Accesses csrs.Topi op) Rests);
    others = λ other ne. cond-false _ _ _ ne;
    other_majors = λ other ne m. refl;
    own = λ m. refl;
  }

-- ---- what the core promises

there_too : (x : CoreState) (h : History) (vm vcpu : ℕ) (b : Bool) → CoreStands x h → is_vcpu_in x.world.vms (vcpu_of vm vcpu) ≡ b
    → has_vcpu h (vcpu_of vm vcpu) ≡ b
there_too x h vm vcpu b stands is = subst (λ (vs : List Vm). is_vcpu_in vs (vcpu_of vm vcpu) ≡ b) stands.vms is

-- a line that is refused where the virtual hart isn't there, or a value is none that it takes
abbrev takes_value : History → ℕ → ℕ → Bool → Option Answer
takes_value h vm vcpu takes = cond (not (has_vcpu h (vcpu_of vm vcpu) && takes)) (Some (Refused Range)) None

takes_it : (h : History) (vm vcpu : ℕ) (takes : Bool) → has_vcpu h (vcpu_of vm vcpu) ≡ true → takes ≡ true → takes_value h vm vcpu takes ≡ None
takes_it h vm vcpu takes there e = λ k. cond (not (there k && e k)) (Some (Refused Range)) None

not_there : (h : History) (vm vcpu : ℕ) (takes : Bool) → has_vcpu h (vcpu_of vm vcpu) ≡ false → takes_value h vm vcpu takes ≡ Some (Refused Range)
not_there h vm vcpu takes there = ap (λ b. cond (not (b && takes)) (Some (Refused Range)) None) there

not_taken : (h : History) (vm vcpu : ℕ) (takes : Bool) → has_vcpu h (vcpu_of vm vcpu) ≡ true → takes ≡ false
    → takes_value h vm vcpu takes ≡ Some (Refused Range)
not_taken h vm vcpu takes there e = λ k. cond (not (there k && e k)) (Some (Refused Range)) None

-- a line of the hypervisor on majors, whatever it is
pub record IsMajorsLine (line : Line) (vm vcpu : ℕ) (takes : Bool) (done : VsMajorState → VsMajorState) : Type 0 where
  pub plain : is_quiet_line line ≡ true
  pub still : line_deed line ≡ NoMove
  pub refusal_is : (h : History) → has_machine h ≡ true → refusal h line ≡ takes_value h vm vcpu takes
  pub okay : (h : History) → accepted_answer h line ≡ Okay
  pub is_of : (h : History) → IsOfMajors h (Accepted line) (vcpu_of vm vcpu) done

pub inject_line : (vm vcpu bit : ℕ) (level : Bool) → IsMajorsLine (Inject vm vcpu bit level) vm vcpu (is_major bit) (with_injection bit level)
inject_line vm vcpu bit level = record {
  plain = refl;
  still = refl;
  refusal_is = λ h machine. inject_refusal h vm vcpu bit level machine;
  okay = λ h. refl;
  is_of = λ h. injects h vm vcpu bit level;
}

pub hvictl_line : (vm vcpu value : ℕ) → IsMajorsLine (Hvictl vm vcpu value) vm vcpu (is_hvictl value) (with_hvictl value)
hvictl_line vm vcpu value = record {
  plain = refl;
  still = refl;
  refusal_is = λ h machine. hvictl_refusal h vm vcpu value machine;
  okay =
      λ h. refl;
  is_of = λ h. writes_hvictl h vm vcpu value;
}

and_true : (b : Bool) → (b && true) ≡ b
and_true true = refl
and_true false = refl

pub hviprio_line : (vm vcpu value : ℕ) → IsMajorsLine (Hviprio vm vcpu value) vm vcpu true (with_hviprio1 value)
hviprio_line vm vcpu value = record {
  plain = refl;
  still = refl;
  refusal_is = λ h machine. hviprio_refusal h vm vcpu value machine
      ∙ ap (λ b. cond (not b) (Some (Refused Range)) None) (sym (and_true (has_vcpu h (vcpu_of vm vcpu))));
  okay = λ h. refl;
  is_of = λ h. writes_hviprio h vm vcpu value;
}

module _ (x y : CoreState) (line : Line) (vm vcpu : ℕ) (takes : Bool) (done : VsMajorState → VsMajorState)
    (l : IsMajorsLine line vm vcpu takes done) where
  pub majors_taken : takes ≡ true → is_vcpu_in x.world.vms (vcpu_of vm vcpu) ≡ true → HasMajors x y (vcpu_of vm vcpu) done → CoreTakes x y line Okay
  majors_taken e there c = accepted x y line Okay l.plain l.still (λ h stands.
      let inside = there_too x h vm vcpu true stands there in (
        l.refusal_is h stands.there ∙ takes_it h vm vcpu takes inside e,
        sym (l.okay h),
        majors_change x y h (Accepted line) (vcpu_of vm vcpu) done c (l.is_of h) stands inside,
      ))

  pub no_such : is_vcpu_in x.world.vms (vcpu_of vm vcpu) ≡ false → CoreTakes x x line (Refused Range)
  no_such outside = refused x line (Refused Range)
      (λ h stands. l.refusal_is h stands.there ∙ not_there h vm vcpu takes (there_too x h vm vcpu false stands outside))

  pub none_taken : takes ≡ false → is_vcpu_in x.world.vms (vcpu_of vm vcpu) ≡ true → CoreTakes x x line (Refused Range)
  none_taken e there = refused x line (Refused Range)
      (λ h stands. l.refusal_is h stands.there ∙ not_taken h vm vcpu takes (there_too x h vm vcpu true stands there) e)

-- by what the call on its record gives
pub majors_answered : (x y : CoreState) (line : Line) (vm vcpu : ℕ) (takes : Bool) (done : VsMajorState → VsMajorState)
    → IsMajorsLine line vm vcpu takes done → (given : Result (Unit {0}) Refusal) → result_err given ≡ cond takes None (Some Range)
    → OnOk given (MajorsDone x.vcpus y.vcpus (slot_of x.world.vms (vcpu_of vm vcpu)) done) → OnErr given (y.vcpus ≡ x.vcpus)
    → is_vcpu_in x.world.vms (vcpu_of vm vcpu) ≡ true → slot_of x.world.vms (vcpu_of vm vcpu) < length x.vcpus → y.world ≡ x.world
    → y.leases ≡ x.leases → y.selects ≡ x.selects → y.passes ≡ x.passes → CoreTakes x y line (answer_by (λ _. Okay) given)
majors_answered x y line vm vcpu true done l (Ok u) e ok err there low world leases selects passes =
    majors_taken x y line vm vcpu true done l refl there
    (record { world = world; leases = leases; selects = selects; passes = passes; low = low; is_done = ok })
majors_answered x y line vm vcpu false done l (Err word) e ok err there low world leases selects passes =
    let is : word ≡ Range = cc in
    let same : y ≡ x = λ k. record { world = world k; leases = leases k; vcpus = err k; selects = selects k; passes = passes k } in
    subst (λ (z : CoreState). CoreTakes x z line (Refused word)) (sym same)
    (subst (λ w. CoreTakes x x line (Refused w)) (sym is) (none_taken x x line vm vcpu false done l refl there))
majors_answered x y line vm vcpu false done l (Ok u) e ok err there low world leases selects passes = absurd (cc)
majors_answered x y line vm vcpu true done l (Err word) e ok err there low world leases selects passes = absurd (cc)

-- an access of a resident virtual hart to a CSR of its majors
module _ (x y : CoreState) (vm vcpu : ℕ) (csr : Csr) (op : Op) (p : GuestPlace) (access : CsrAccess) (value : ℕ)
    (done : VsMajorState → VsMajorState) where
  pub majors_accessed : is_vcpu_in x.world.vms (vcpu_of vm vcpu) ≡ true → resident_at (record_of x (vcpu_of vm vcpu)).stay ≡ Some p
      → access ≡ access_by (record_of x (vcpu_of vm vcpu)) csr op → raises_illegal access ≡ false → raises_virtual access ≡ false
      → ((h : History) → IsOfMajors h (Accepted (GuestCsr vm vcpu csr op)) (vcpu_of vm vcpu) done)
      → ((h : History) → CoreStands x h → has_vcpu h (vcpu_of vm vcpu) ≡ true → value ≡ guest_csr_value h (vcpu_of vm vcpu) csr)
      → HasMajors x y (vcpu_of vm vcpu) done → CoreTakes x y (GuestCsr vm vcpu csr op) (Wide value)
  majors_accessed inside at table legal kept is_of reads c = accepted x y (GuestCsr vm vcpu csr op) (Wide value) refl refl (λ h stands.
      let there = there_in x h (vcpu_of vm vcpu) stands inside in (
        refusal_there x h vm vcpu csr op p access stands there at table ∙ cond-false _ _ _ legal ∙ cond-false _ _ _ kept,
        ap Wide (reads h stands there),
        majors_change x y h (Accepted (GuestCsr vm vcpu csr op)) (vcpu_of vm vcpu) done c (is_of h) stands there,
      ))

-- what is read, by the file of a virtual hart that is resident
module _ (x : CoreState) (g : Vcpu) (p : GuestPlace) (whole : IsWhole x.world) (at : resident_at (record_of x g).stay ≡ Some p) (h : History)
    (stands : CoreStands x h) (there : has_vcpu h g ≡ true) where
  own_file_is : shown (file_at x.world.imsic (spot_of p)) ≡ guest_file h g
  own_file_is = own_is x h g p stands whole there (is_home_at x h g p stands there at)

  pub stopi_read : stopi_value (majors_shown (record_of x g).majors) (top_value (top_of (shown (file_at x.world.imsic (spot_of p)))))
      (signals (shown (file_at x.world.imsic (spot_of p)))) ≡ guest_csr_value h g csrs.Topi
  stopi_read = λ k. stopi_value ((stands.vcpus g there).majors k) (top_value (top_of (own_file_is k))) (signals (own_file_is k))

  pub sip_read : sip_value (majors_shown (record_of x g).majors) (signals (shown (file_at x.world.imsic (spot_of p)))) ≡ guest_csr_value h g csrs.Sip
  sip_read = λ k. sip_value ((stands.vcpus g there).majors k) (signals (own_file_is k))

  pub sie_read : sie_value (majors_shown (record_of x g).majors) ≡ guest_csr_value h g csrs.Sie
  sie_read = ap sie_value (stands.vcpus g there).majors
