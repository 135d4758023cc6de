-- No identity becomes pending at a virtual hart but by a line that asks for it, lands a store that
-- does, or forwards a source that is passed to it as this identity.
use Rattle.std.proofs.Common.{◌≡◌, ◌⊎◌, ℕ, Bool, true, false, cond, nat_eq, is_none, List, [], ◌∷◌, length, slice_index_or, Option, Some, None, inl, inr, refl, sym, ap, subst, ◌∙◌}
use Rattle.std.specs.Int.{is_in_range}
use Rattle.std.specs.List.{Contains}
use Rattle.std.proofs.lemmas.Bool.{cases_Bool, eqb-true, false≢true}
use Rattle.aia_word.specs.Sets.{least_of}
use Rattle.aia_regs.specs.Request.{requested, request_said}
use Rattle.aia_regs.specs.BitUpdate.{settle, names}
use Rattle.aia_regs.proofs.ListLemmas.{here, later, nowhere}
use Rattle.aia_file.specs.InterruptFile.{InterruptFile}
use Rattle.aia_vcpu.specs.Vms.{Vcpu, is_vcpu}
use Rattle.aia_vcpu.proofs.VmLemmas.{same_vcpu}
use Rattle.aia_model.specs.declared.line.Line.{Line}
use Rattle.aia_model.specs.declared.line.Line.TheVariants.{Machine, Wire, Load, Store}
use Rattle.aia_model.specs.declared.msi.Msi.{Msi}
use Rattle.aia_model.specs.Move.{line_deed}
use Rattle.aia_model.specs.Event.{History, has_machine}
use Rattle.aia_model.specs.Event.Event.{Delivered, Relayed}
use Rattle.aia_model.specs.Passes.{PassedSource, no_pass, passes_of, nth_pass, passed_by}
use Rattle.aia_model.specs.Aim.{pass_reach}
use Rattle.aia_model.specs.FileAfter.{select_by, file_by}
use Rattle.aia_model.specs.GuestFile.{goes_to_guest, guest_file}
use Rattle.aia_model.specs.Sent.{msis_sent_by}
use Rattle.aia_model.specs.Histories.{IsHistory}
use Rattle.aia_model.specs.Refusal.{refusal}
use Rattle.aia_model.specs.Answer.{after, line_taken, given_on, msi_taken, delivered}
use Rattle.aia_model.proofs.AnswerLemmas.{after_by}
use Rattle.aia_model.proofs.RefusalLemmas.{machine_allowed}
use Rattle.aia_model.proofs.SentLemmas.{may_send, none_sent_by}
use Rattle.aia_laws.specs.Requests.{Asks, does_steps}
use Rattle.aia_laws.proofs.AfterLemmas.{by_refusal, none_forwarded}
use Rattle.aia_laws.proofs.RequestLemmas.{none_unasked}
use Rattle.aia_laws.proofs.FlightRequests.{unasked_within}
use Rattle.aia_laws.proofs.ForwardLemmas.{line_asks}
use Rattle.aia_isolation.specs.Forwarded.{ForwardsAs, AddsBy}

-- ---- what one MSI of a pass asks for

-- a store of an identity asks for no other one
stored_itself : (n x i : ℕ) → settle (request_said n 0 x i) false ≡ true → x ≡ i
stored_itself n x i e = elim (cases_Bool (names (requested n 0 x) i)) [
  | inl it ↦ by_range (is_in_range 1 n x) it
  | inr other ↦ absurd (false≢true (rw other at e))
]
  where
    by_range : (b : Bool) → names (cond b (Some x) None) i ≡ true → x ≡ i
    by_range true e = eqb-true x i e
    by_range false e = absurd (false≢true e)

-- A pass is to a virtual hart as identity i.
abbrev IsPassAs : List PassedSource → ℕ → Vcpu → ℕ → Type 0
IsPassAs xs p g i = ((slice_index_or xs p no_pass).to ≡ g) × ((slice_index_or xs p no_pass).identity ≡ i)

relay_adds : (p : ℕ) (h : History) (g : Vcpu) (i : ℕ) → (guest_file h g).pending i ≡ false → (guest_file (Relayed p ∷ h) g).pending i ≡ true
    → IsPassAs (passes_of h) p g i
unfolding file_by
relay_adds p h g i was now = elim (cases_Bool (is_vcpu g (nth_pass h p).to)) [
  | inl own ↦
      (sym (same_vcpu g (nth_pass h p).to own), stored_itself (guest_file h g).n (nth_pass h p).identity i (rw (own, was) at now))
  | inr other ↦ absurd (false≢true (sym was ∙ (rw other at now)))
]

msi_adds : (msi : Msi) (h : History) (g : Vcpu) (i : ℕ) → (guest_file h g).pending i ≡ false → (guest_file (Delivered msi ∷ h) g).pending i ≡ true
    → (p : ℕ) × (passed_by h msi.source ≡ Some p) × IsPassAs (passes_of h) p g i
unfolding file_by
msi_adds msi h g i was now = by_page (goes_to_guest h msi) refl
  where
    by_pass : (o : Option ℕ) → passed_by h msi.source ≡ o → goes_to_guest h msi ≡ true
        → (p : ℕ) × (passed_by h msi.source ≡ Some p) × IsPassAs (passes_of h) p g i
    by_pass None e there = absurd (false≢true (sym was ∙ (rw (there, e) at now)))
    by_pass (Some p) e there = elim (cases_Bool (is_vcpu g (nth_pass h p).to)) [
      | inl own ↦ (
        p,
        e,
        (
          sym (same_vcpu g (nth_pass h p).to own),
          stored_itself (guest_file h g).n (nth_pass h p).identity i (rw (there, e, own, was) at now),
        ),
      )
      | inr other ↦ absurd (false≢true (sym was ∙ (rw (there, e, other) at now)))
    ]

    by_page : (b : Bool) → goes_to_guest h msi ≡ b → (p : ℕ) × (passed_by h msi.source ≡ Some p) × IsPassAs (passes_of h) p g i
    by_page true there = by_pass (passed_by h msi.source) refl there
    by_page false there = absurd (false≢true (sym was ∙ (rw there at now)))

-- ---- all that a line sends

delivered_passes : (msi : Msi) (h : History) → passes_of (Delivered msi ∷ h) ≡ passes_of h
unfolding passes_of
delivered_passes msi h = refl

relayed_passes : (p : ℕ) (h : History) → passes_of (Relayed p ∷ h) ≡ passes_of h
unfolding passes_of
relayed_passes p h = refl

-- one MSI, whatever pass it is of, passes none
given_passes : (o : Option ℕ) (msi : Msi) (h : History) → passes_of (given_on o (Delivered msi ∷ h)) ≡ passes_of h
given_passes None msi h = delivered_passes msi h
given_passes (Some p) msi h = either (is_none (pass_reach (Delivered msi ∷ h) p))
  where
    either : (b : Bool) → passes_of (cond b (Relayed p ∷ Delivered msi ∷ h) (Delivered msi ∷ h)) ≡ passes_of h
    either true = relayed_passes p (Delivered msi ∷ h) ∙ delivered_passes msi h
    either false = delivered_passes msi h

-- the number of a source's pass turns on the passes alone
pub same_number : (h k : History) (o : Option ℕ) → passes_of h ≡ passes_of k → passed_by h o ≡ passed_by k o
same_number h k None e = refl
same_number h k (Some s) e = ap (λ (xs : List PassedSource). least_of (λ p. nat_eq (slice_index_or xs p no_pass).source s) 0 (length xs)) e

given_adds : (o : Option ℕ) (h : History) (g : Vcpu) (i : ℕ) → (guest_file h g).pending i ≡ false → (guest_file (given_on o h) g).pending i ≡ true
    → (p : ℕ) × (o ≡ Some p) × IsPassAs (passes_of h) p g i
given_adds None h g i was now = absurd (false≢true (sym was ∙ now))
given_adds (Some p) h g i was now = by_reach (is_none (pass_reach h p)) now
  where
    by_reach : (b : Bool) → (guest_file (cond b (Relayed p ∷ h) h) g).pending i ≡ true → (q : ℕ) × (Some p ≡ Some q) × IsPassAs (passes_of h) q g i
    by_reach true now = (p, refl, relay_adds p h g i was now)
    by_reach false now = absurd (false≢true (sym was ∙ now))

-- one MSI, delivered and, where its pass leads to memory, given on
taken_adds : (msi : Msi) (h : History) (g : Vcpu) (i : ℕ) → (guest_file h g).pending i ≡ false → (guest_file (msi_taken msi h) g).pending i ≡ true
    → (p : ℕ) × (passed_by h msi.source ≡ Some p) × IsPassAs (passes_of h) p g i
taken_adds msi h g i was now = by_first ((guest_file (Delivered msi ∷ h) g).pending i) refl
  where
    by_first : (b : Bool) → (guest_file (Delivered msi ∷ h) g).pending i ≡ b
        → (p : ℕ) × (passed_by h msi.source ≡ Some p) × IsPassAs (passes_of h) p g i
    by_first true first = msi_adds msi h g i was first
    by_first false first =
        let given = given_adds (passed_by h msi.source) (Delivered msi ∷ h) g i first now in
        (given.0, given.1, subst (λ xs. IsPassAs xs given.0 g i) (delivered_passes msi h) given.2)

-- Among some MSIs is one of a source that is passed to a virtual hart as identity i.
record IsSentAs (xs : List Msi) (h : History) (g : Vcpu) (i : ℕ) : Type 0 where
  msi : Msi
  p : ℕ
  sent : Contains xs msi
  passed : passed_by h msi.source ≡ Some p
  is : IsPassAs (passes_of h) p g i

delivered_adds : (sent : List Msi) (h : History) (g : Vcpu) (i : ℕ) → (guest_file h g).pending i ≡ false
    → (guest_file (delivered sent h) g).pending i ≡ true → IsSentAs sent h g i
delivered_adds [] h g i was now = absurd (false≢true (sym was ∙ now))
delivered_adds (msi ∷ rest) h g i was now = by_first ((guest_file (msi_taken msi h) g).pending i) refl
    (λ first. delivered_adds rest (msi_taken msi h) g i first now)
  where
    by_first : (b : Bool) → (guest_file (msi_taken msi h) g).pending i ≡ b
        → ((guest_file (msi_taken msi h) g).pending i ≡ false → IsSentAs rest (msi_taken msi h) g i) → IsSentAs (msi ∷ rest) h g i
    by_first true first in_rest =
        let one = taken_adds msi h g i was first in
        record { msi = msi; p = one.0; sent = here msi rest; passed = one.1; is = one.2 }
    by_first false first in_rest =
        let one = in_rest first in
        record {
          msi = one.msi;
          p = one.p;
          sent = later msi one.msi rest one.sent;
          passed = sym (same_number (msi_taken msi h) h one.msi.source (given_passes (passed_by h msi.source) msi h)) ∙ one.passed;
          is = subst (λ xs. IsPassAs xs one.p g i) (given_passes (passed_by h msi.source) msi h) one.is;
        }

-- ---- a line

-- one that sends MSIs does nothing else to a virtual hart, and passes none
line_quiet : (h : History) (line : Line) (g : Vcpu) → has_machine h ≡ true → refusal h line ≡ None → may_send line ≡ true
    → (guest_file (line_taken h line) g ≡ guest_file h g) × (passes_of (line_taken h line) ≡ passes_of h)
unfolding select_by file_by passes_of
line_quiet h (Machine harts guests n sources) g stands e sends =
    absurd (false≢true (sym (machine_allowed h harts guests n sources e).0 ∙ stands))
line_quiet h (Wire source level) g stands e sends = (refl, refl)
line_quiet h (Load addr) g stands e sends = (refl, refl)
line_quiet h (Store addr value) g stands e sends = (refl, refl)
line_quiet h line g stands e sends = absurd (false≢true sends)

pub only_asked_or_forwarded : (h : History) (line : Line) (g : Vcpu) (i : ℕ) → has_machine h ≡ true → does_steps (line_deed line) ≡ false
    → (guest_file h g).pending i ≡ false → (guest_file (after h line) g).pending i ≡ true
    → (refusal h line ≡ None) × (Asks h line g i ⊎ ForwardsAs h line g i)
only_asked_or_forwarded h line g i stands one was = by_sending (may_send line) refl
  where
    sent_as : refusal h line ≡ None → may_send line ≡ true → (guest_file (after h line) g).pending i ≡ true → ForwardsAs h line g i
    sent_as e sends now =
        let quiet = line_quiet h line g stands e sends in
        let sent = delivered_adds (msis_sent_by h line) (line_taken h line) g i (ap (λ (file : InterruptFile). file.pending i) quiet.0 ∙ was)
        (sym (ap (λ x. (guest_file x g).pending i) (after_by h line None e)) ∙ now) in
        let is = subst (λ xs. IsPassAs xs sent.p g i) quiet.1 sent.is in
        record {
          msi = sent.msi;
          p = sent.p;
          sent = sent.sent;
          passed = sym (same_number (line_taken h line) h sent.msi.source quiet.1) ∙ sent.passed;
          to = is.0;
          identity = is.1;
        }

    by_sending : (b : Bool) → may_send line ≡ b → (guest_file (after h line) g).pending i ≡ true
        → (refusal h line ≡ None) × (Asks h line g i ⊎ ForwardsAs h line g i)
    by_sending true sends = by_refusal
        (λ x. (guest_file x g).pending i ≡ true → (refusal h line ≡ None) × (Asks h line g i ⊎ ForwardsAs h line g i)) h line
        (λ now. absurd (false≢true (sym was ∙ now))) (λ e now. (e, inr (sent_as e sends now)))
    by_sending false silent = λ now.
        let asked = none_unasked h line g i stands (none_forwarded h line g silent) one was now in (asked.0, inl asked.1)

pub every_line_adds : (h : History) (line : Line) (g : Vcpu) (i : ℕ) → has_machine h ≡ true → (guest_file h g).pending i ≡ false
    → (guest_file (after h line) g).pending i ≡ true → (refusal h line ≡ None) × AddsBy h line g i
every_line_adds h line g i stands was now = elim (cases_Bool (does_steps (line_deed line))) [
  | inl does ↦ let landed = unasked_within h line g i does was now in (landed.0, inr (inr (landed.1, landed.2)))
  | inr one ↦ let added = only_asked_or_forwarded h line g i stands one was now in (added.0, by_cause added.1)
]
  where
    by_cause : Asks h line g i ⊎ ForwardsAs h line g i → AddsBy h line g i
    by_cause (inl asks) = inl asks
    by_cause (inr forwards) = inr (inl forwards)

-- and what is forwarded does become pending
pub forwarded_pending : (h : History) (line : Line) (g : Vcpu) (i : ℕ) → IsHistory h → has_machine h ≡ true → refusal h line ≡ None
    → ForwardsAs h line g i → (guest_file (after h line) g).pending i ≡ true
forwarded_pending h line g i good stands e forwards = by_sending (may_send line) refl
  where
    by_sending : (b : Bool) → may_send line ≡ b → (guest_file (after h line) g).pending i ≡ true
    by_sending true sends =
        let quiet = line_quiet h line g stands e sends in
        let is = subst (λ xs. IsPassAs xs forwards.p g i) (sym quiet.1) (forwards.to, forwards.identity) in
        subst (λ j. (guest_file (after h line) g).pending j ≡ true) is.1
        (subst (λ x. (guest_file (after h line) x).pending (nth_pass (line_taken h line) forwards.p).identity ≡ true) is.0
        (line_asks h line forwards.msi forwards.p good e forwards.sent
        (same_number (line_taken h line) h forwards.msi.source quiet.1 ∙ forwards.passed)))
    by_sending false silent = nowhere forwards.msi (subst (λ xs. Contains xs forwards.msi) (none_sent_by h line silent) forwards.sent)
