-- No line about moves changes more of a virtual hart than what is pending there, and that only
-- where stores land.
use Rattle.std.proofs.Common.{◌≡◌, ◌≢◌, ℕ, false, ◌∷◌, Option, Some, None, inl, inr, refl, ap, ◌∙◌}
use Rattle.std.proofs.lemmas.Bool.{cases_Bool}
use Rattle.aia_file.specs.InterruptFile.{InterruptFile}
use Rattle.aia_vcpu.specs.Vms.{Vcpu, is_vcpu}
use Rattle.aia_model.specs.declared.line.Line.{Line}
use Rattle.aia_model.specs.Move.{LineDeed, line_deed}
use Rattle.aia_model.specs.Move.LineDeed.{NoMove, Whole, Begins, Steps, Lands}
use Rattle.aia_model.specs.Event.{History}
use Rattle.aia_model.specs.Event.Event.{Began, Stepped, Landed}
use Rattle.aia_model.specs.FileAfter.{select_by, file_by}
use Rattle.aia_model.specs.Flight.{Sending, flying}
use Rattle.aia_model.specs.GuestFile.{sent_to, guest_file, guest_select}
use Rattle.aia_model.specs.MajorOf.{majors_of}
use Rattle.aia_model.specs.Answer.{after, deed_taken, line_taken}
use Rattle.aia_laws.specs.Requests.{does_steps, steps_vm}
use Rattle.aia_laws.proofs.AfterLemmas.{IsSameGuest, by_refusal, taken_same, begun_same, stepped_same, none_forwarded, moves_send_none}
use Rattle.aia_laws.proofs.FlightRequests.{IsKept, line_kept}

-- A virtual hart has the same after one history as after another, but for what is pending.
abbrev pub IsSameButPending : History → History → Vcpu → Type 0
IsSameButPending new old g = (guest_select new g ≡ guest_select old g) × (majors_of new g ≡ majors_of old g)
    × ((guest_file new g).n ≡ (guest_file old g).n) × ((guest_file new g).enabled ≡ (guest_file old g).enabled)
    × ((guest_file new g).threshold ≡ (guest_file old g).threshold) × ((guest_file new g).delivery ≡ (guest_file old g).delivery)

and_rest : (new mid old : History) (g : Vcpu) → IsSameButPending new mid g → IsSameButPending mid old g → IsSameButPending new old g
and_rest new mid old g (select, majors, n, enabled, threshold, delivery) (select', majors', n', enabled', threshold', delivery') =
    (select ∙ select', majors ∙ majors', n ∙ n', enabled ∙ enabled', threshold ∙ threshold', delivery ∙ delivery')

rest_of : (new old : History) (g : Vcpu) → IsSameGuest new old g → IsSameButPending new old g
rest_of new old g (file, select, majors) = (
  select,
  majors,
  ap (λ (f : InterruptFile). f.n) file,
  ap (λ (f : InterruptFile). f.enabled) file,
  ap (λ (f : InterruptFile). f.threshold) file,
  ap (λ (f : InterruptFile). f.delivery) file,
)

landing_rest : (vm k : ℕ) (h : History) (g : Vcpu) → IsSameButPending (Landed vm k ∷ h) h g
unfolding select_by file_by majors_of
landing_rest vm k h g = by_store (flying h vm k) refl
  where
    by_store : (o : Option Sending) → flying h vm k ≡ o → IsSameButPending (Landed vm k ∷ h) h g
    by_store None e = rw e (refl, refl, refl, refl, refl, refl)
    by_store (Some s) e = elim (cases_Bool (is_vcpu g (sent_to vm s))) [
      | inl own ↦ rw (e, own) (refl, refl, refl, refl, refl, refl)
      | inr other ↦ rw (e, other) (refl, refl, refl, refl, refl, refl)
    ]

rest_kept : (old : History) (vm : ℕ) (g : Vcpu) → IsKept (λ h. IsSameButPending h old g) vm
rest_kept old vm g = record {
  lands = λ k h q. and_rest (Landed vm k ∷ h) h old g (landing_rest vm k h g) q;
  steps = λ x h q. and_rest (Stepped x ∷ h) h old g (rest_of (Stepped x ∷ h) h g (stepped_same x h g)) q;
  begins = λ move h q. and_rest (Began move ∷ h) h old g (rest_of (Began move ∷ h) h g (begun_same move h g)) q;
}

-- a beginning, or a landing by a line of its own
one_rest : (h : History) (line : Line) (deed : LineDeed) (g : Vcpu) → deed ≢ NoMove → does_steps deed ≡ false
    → IsSameButPending (deed_taken h line deed) h g
one_rest h line NoMove g moves one = absurd (moves refl)
one_rest h line (Whole move) g moves one = absurd (cc)
one_rest h line (Begins move) g moves one = rest_of (Began move ∷ h) h g (begun_same move h g)
one_rest h line (Steps x) g moves one = absurd (cc)
one_rest h line (Lands vm k) g moves one = landing_rest vm k h g

line_rest : (h : History) (line : Line) (g : Vcpu) → line_deed line ≢ NoMove → IsSameButPending (line_taken h line) h g
line_rest h line g moves = elim (cases_Bool (does_steps (line_deed line))) [
  | inl does ↦ line_kept (λ x. IsSameButPending x h g) h line does (rest_kept h (steps_vm (line_deed line)) g) (refl, refl, refl, refl, refl, refl)
  | inr one ↦ one_rest h line (line_deed line) g moves one
]

pub moved_rest : (h : History) (line : Line) (g : Vcpu) → line_deed line ≢ NoMove → IsSameButPending (after h line) h g
moved_rest h line g moves = by_refusal (λ x. IsSameButPending x h g) h line (refl, refl, refl, refl, refl, refl) (λ e.
    and_rest (after h line) (line_taken h line) h g
    (rest_of (after h line) (line_taken h line) g (taken_same h line g (none_forwarded h line g (moves_send_none line moves)) e))
    (line_rest h line g moves))
