-- What was said to a virtual hart is what the events that concern its VM say.
use Rattle.std.proofs.Common.{◌≡◌, ℕ, Bool, true, false, nat_eq, List, [], ◌∷◌, Option, Some, None, inl, inr, refl, sym, ap, subst, ◌∙◌}
use Rattle.std.proofs.lemmas.Bool.{cases_Bool, cond-true, cond-false}
use Rattle.aia_vcpu.specs.Vms.{Vcpu}
use Rattle.aia_model.specs.Event.{Event, History}
use Rattle.aia_model.specs.Event.Event.{Accepted, Began, Stepped, Delivered, Landed, Relayed}
use Rattle.aia_model.specs.Flight.{flight, flying}
use Rattle.aia_vcpu.specs.Vms.{is_vcpu}
use Rattle.aia_model.specs.declared.line.Line.{Line}
use Rattle.aia_model.specs.declared.line.Line.TheVariants.{Machine, Send, GuestCsr, Ipi, Inject, Hvictl, Hviprio, LoadPart}
use Rattle.aia_model.specs.declared.line.Line.TheVariants as lines
use Rattle.aia_model.specs.declared.msi.Msi.{Msi}
use Rattle.aia_model.specs.Passes.{passes_of, nth_pass, passed_by}
use Rattle.aia_model.specs.GuestFile.{goes_to_guest}
use Rattle.aia_model.specs.Script.{history_of}
use Rattle.aia_isolation.specs.Said.{Said, said_by, passed_said, with_any, said}
use Rattle.aia_isolation.specs.Guest.{guest_by}
use Rattle.aia_model.specs.StateOf.{state_of}
use Rattle.aia_isolation.specs.Replies.{replies, sets_up, is_of_flight, script_replies}
use Rattle.aia_isolation.specs.Concerns.{is_event_for, forward_for, event_for, events_for}
use Rattle.aia_isolation.proofs.GuestLemmas.{is_by_said, said_step}
use Rattle.aia_isolation.proofs.ReplyLemmas.{same_replies}
use Rattle.aia_isolation.proofs.SetupLemmas.{SameFor, itself_for, for_then, both_for, left_for, other_vm, other_landing, same_said}
use Rattle.aia_isolation.proofs.AlikeLemmas.{unsaid}
use Rattle.aia_isolation.proofs.ScriptLemmas.{same_scripts}

-- Whether the events that concern a VM set up the machine as the history does, leave the same
-- stores of the VM in flight, and say what it says.
abbrev IsByEvents : (v : ℕ) (g : Vcpu) → History → Type 0
IsByEvents v g h = SameFor v (events_for v h) h × (said (events_for v h) g ≡ said h g)

events_step : (v : ℕ) (event : Event) (past : History) → events_for v (event ∷ past) ≡ with_any (event_for v past event) (events_for v past)
unfolding events_for
events_step v event past = refl

-- ---- an event that concerns the VM, as another one does or itself

-- what an event says is what another says
own_event : (v : ℕ) (g : Vcpu) (event its : Event) (past : History) → g.vm ≡ v → event_for v past event ≡ Some its
    → SameFor v (its ∷ past) (event ∷ past) → said_by g past its ≡ said_by g past event → IsByEvents v g past → IsByEvents v g (event ∷ past)
own_event v g event its past own is same says by =
    subst (λ x. SameFor v x (event ∷ past) × (said x g ≡ said (event ∷ past) g))
    (sym (events_step v event past ∙ ap (λ o. with_any o (events_for v past)) is)) (
      for_then v (its ∷ events_for v past) (its ∷ past) (event ∷ past) (both_for v its (events_for v past) past by.0) same,
      said_step its (events_for v past) g ∙ ap (λ o. with_any o (said (events_for v past) g))
          (same_said its (events_for v past) past g (subst (λ w. SameFor w (events_for v past) past) (sym own) by.0))
          ∙ ap (with_any (said_by g past its)) by.1 ∙ ap (λ o. with_any o (said past g)) says ∙ sym (said_step event past g),
    )

-- ---- one that does not

other_event : (v : ℕ) (g : Vcpu) (event : Event) (past : History) → event_for v past event ≡ None → sets_up event ≡ false
    → is_of_flight v event ≡ false → said_by g past event ≡ None → IsByEvents v g past → IsByEvents v g (event ∷ past)
other_event v g event past none quiet still silent by =
    subst (λ x. SameFor v x (event ∷ past) × (said x g ≡ said (event ∷ past) g))
    (sym (events_step v event past ∙ ap (λ o. with_any o (events_for v past)) none)) (
      for_then v (events_for v past) past (event ∷ past) by.0 (left_for v event past quiet still),
      by.1 ∙ sym (said_step event past g ∙ ap (λ o. with_any o (said past g)) silent),
    )

-- ---- a line, a landing

other_setup : (line : Line) (v : ℕ) → is_event_for v (Accepted line) ≡ false → sets_up (Accepted line) ≡ false
other_setup (lines.Pass source vm vcpu identity) v e = absurd (cc)
other_setup (Machine harts guests n sources) v e = absurd (cc)
other_setup (lines.Vm vcpus mask hart) v e = absurd (cc)
other_setup line v e = refl

other_flight : (line : Line) (v : ℕ) → is_event_for v (Accepted line) ≡ false → is_of_flight v (Accepted line) ≡ false
other_flight (lines.Pass source vm vcpu identity) v e = refl
other_flight (Send vm addr value) v e = e
other_flight line v e = refl

other_said : (line : Line) (v : ℕ) (past : History) (g : Vcpu) → is_event_for v (Accepted line) ≡ false → g.vm ≡ v
    → ◌≡◌ {A = Option Said} (said_by g past (Accepted line)) None
other_said (lines.Pass source vm vcpu identity) v past g e its = refl
other_said (Machine harts guests n sources) v past g e its = absurd (cc)
other_said (lines.Msi vm addr value) v past g e its = unsaid (lines.Msi vm addr value) v past g e its
other_said (Ipi vm vcpu to value) v past g e its = unsaid (Ipi vm vcpu to value) v past g e its
other_said (GuestCsr vm vcpu csr op) v past g e its = unsaid (GuestCsr vm vcpu csr op) v past g e its
other_said (Inject vm vcpu bit level) v past g e its = unsaid (Inject vm vcpu bit level) v past g e its
other_said (Hviprio vm vcpu value) v past g e its = unsaid (Hviprio vm vcpu value) v past g e its
other_said (Hvictl vm vcpu value) v past g e its = unsaid (Hvictl vm vcpu value) v past g e its
other_said (LoadPart vm vcpu part) v past g e its = unsaid (LoadPart vm vcpu part) v past g e its
other_said line v past g e its = refl

line_event : (v : ℕ) (g : Vcpu) (line : Line) (past : History) → g.vm ≡ v → IsByEvents v g past → IsByEvents v g (Accepted line ∷ past)
line_event v g line past its by = by_test (is_event_for v (Accepted line)) refl
  where
    by_test : (b : Bool) → is_event_for v (Accepted line) ≡ b → IsByEvents v g (Accepted line ∷ past)
    by_test true own = own_event v g (Accepted line) (Accepted line) past its (cond-true _ _ _ own) (itself_for v (Accepted line ∷ past)) refl by
    by_test false other = other_event v g (Accepted line) past (cond-false _ _ _ other) (other_setup line v other) (other_flight line v other)
        (other_said line v past g other its) by

landing_event : (v : ℕ) (g : Vcpu) (vm n : ℕ) (past : History) → g.vm ≡ v → IsByEvents v g past → IsByEvents v g (Landed vm n ∷ past)
landing_event v g vm n past its by = elim (cases_Bool (nat_eq vm v)) [
  | inl own ↦ own_event v g (Landed vm n) (Landed vm n) past its (cond-true _ _ _ own) (itself_for v (Landed vm n ∷ past)) refl by
  | inr other ↦ other_event v g (Landed vm n) past (cond-false _ _ _ other) refl other (other_landing v vm past g (flying past vm n) other its) by
]

-- ---- a forward

not_its : (v : ℕ) (g x : Vcpu) → nat_eq x.vm v ≡ false → g.vm ≡ v → is_vcpu g x ≡ false
not_its v g x other its = other_vm v x.vm x.vcpu g other its

-- the MSI of a pass, that is given to the VM as its interrupt, whether it was delivered or given on
forward_event : (v : ℕ) (g : Vcpu) (event : Event) (past : History) (o : Option ℕ) → g.vm ≡ v → event_for v past event ≡ forward_for v past o
    → said_by g past event ≡ passed_said g past o
    → ((p : ℕ) → SameFor v (Relayed p ∷ past) (event ∷ past)) → sets_up event ≡ false → is_of_flight v event ≡ false → IsByEvents v g past
    → IsByEvents v g (event ∷ past)
forward_event v g event past None its is says same quiet still by = other_event v g event past is quiet still says by
forward_event v g event past (Some p) its is says same quiet still by = elim (cases_Bool (nat_eq (nth_pass past p).to.vm v)) [
  | inl own ↦ own_event v g event (Relayed p) past its (is ∙ cond-true _ _ _ own) (same p) (sym says) by
  | inr other ↦ other_event v g event past (is ∙ cond-false _ _ _ other) quiet still
      (says ∙ cond-false _ _ _ (not_its v g (nth_pass past p).to other its)) by
]

delivered_event : (v : ℕ) (g : Vcpu) (msi : Msi) (past : History) → g.vm ≡ v → IsByEvents v g past → IsByEvents v g (Delivered msi ∷ past)
unfolding passes_of flight
delivered_event v g msi past its by = elim (cases_Bool (goes_to_guest past msi)) [
  | inl there ↦ forward_event v g (Delivered msi) past (passed_by past msi.source) its (cond-true _ _ _ there) (cond-true _ _ _ there)
      (λ p. ((refl, refl, refl), refl)) refl refl by
  | inr away ↦ other_event v g (Delivered msi) past (cond-false _ _ _ away) refl refl (cond-false _ _ _ away) by
]

relayed_same : (v p q : ℕ) (past : History) → SameFor v (Relayed q ∷ past) (Relayed p ∷ past)
unfolding passes_of flight
relayed_same v p q past = ((refl, refl, refl), refl)

-- ---- all of them

is_by_events : (v : ℕ) (g : Vcpu) (h : History) → g.vm ≡ v → IsByEvents v g h
unfolding events_for said
is_by_events v g [] its = (itself_for v [], refl)
is_by_events v g (Accepted line ∷ past) its = line_event v g line past its (is_by_events v g past its)
is_by_events v g (Landed vm n ∷ past) its = landing_event v g vm n past its (is_by_events v g past its)
is_by_events v g (Delivered msi ∷ past) its = delivered_event v g msi past its (is_by_events v g past its)
is_by_events v g (Relayed p ∷ past) its = forward_event v g (Relayed p) past (Some p) its refl refl (λ q. relayed_same v p q past) refl refl
    (is_by_events v g past its)
is_by_events v g (Began move ∷ past) its = other_event v g (Began move) past refl refl refl refl (is_by_events v g past its)
is_by_events v g (Stepped x ∷ past) its = other_event v g (Stepped x) past refl refl refl refl (is_by_events v g past its)

events_said : (h k : History) (g : Vcpu) → events_for g.vm h ≡ events_for g.vm k → said h g ≡ said k g
events_said h k g e = sym (is_by_events g.vm g h refl).1 ∙ ap (λ x. said x g) e ∙ (is_by_events g.vm g k refl).1

pub events_guest : (h k : History) (g : Vcpu) → events_for g.vm h ≡ events_for g.vm k → state_of h g ≡ state_of k g
events_guest h k g e = is_by_said h g ∙ ap guest_by (events_said h k g e) ∙ sym (is_by_said k g)

pub events_replies : (h k : History) (g : Vcpu) → events_for g.vm h ≡ events_for g.vm k → replies h g ≡ replies k g
events_replies h k g e = same_replies h k g g (events_said h k g e)

pub events_scripts : (script other : List ℕ) (g : Vcpu) → events_for g.vm (history_of script) ≡ events_for g.vm (history_of other)
    → script_replies script g ≡ script_replies other g
events_scripts script other g e = same_scripts script other g g (events_said (history_of script) (history_of other) g e)
