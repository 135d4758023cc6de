-- Histories after which no source is passed: none was before, no MSI is given on, and no step of a
-- move aims a source.
use Rattle.std.proofs.Common.{◌≡◌, ℕ, zero, suc, Bool, true, false, cond, is_none, nat_eq, nat_lt, ◌+◌, slice_index_or, List, [], ◌∷◌, ◌++◌, length, Option, Some, None, refl, ap, subst, ◌∙◌, arith}
use Rattle.std.proofs.lemmas.Bool.{and_right}
use Rattle.std.proofs.lemmas.Bool.Decides.{nat_tests}
use Rattle.aia_word.specs.Sets.{least_of}
use Rattle.aia_vcpu.specs.Vms.{Vcpu}
use Rattle.aia_vcpu.specs.Aims.{is_aiming, aims_done}
use Rattle.aia_vcpu.specs.Routes.{is_at_fence}
use Rattle.aia_model.specs.declared.answer.Answer.{Answer}
use Rattle.aia_model.specs.declared.line.Line.{Line}
use Rattle.aia_model.specs.declared.line.Line.TheVariants as lines
use Rattle.aia_model.specs.declared.msi.Msi.{Msi}
use Rattle.aia_model.specs.declared.parsed.Parsed.{Parsed}
use Rattle.aia_model.specs.declared.parsed.Parsed.TheVariants as parsed
use Rattle.aia_model.specs.Move.{mover, LineDeed, line_deed}
use Rattle.aia_model.specs.Move.LineDeed.{NoMove, Whole, Begins, Steps, Lands}
use Rattle.aia_model.specs.Event.{Event, History, file_words}
use Rattle.aia_model.specs.Event.Event.{Accepted, Began, Stepped, Delivered, Landed, Relayed}
use Rattle.aia_model.specs.Flight.{flight}
use Rattle.aia_model.specs.Passes.{PassedSource, no_pass, passes_of, passed_by, passes_to, passes_for}
use Rattle.aia_model.specs.Aim.{pass_reach}
use Rattle.aia_model.specs.HomeOf.{home}
use Rattle.aia_model.specs.Refusal.{refusal}
use Rattle.aia_model.specs.Sent.{msis_sent_by}
use Rattle.aia_model.specs.Answer.{after, after_accepted, deed_taken, line_taken, steps_of, step_taken, steps_taken, oldest_landed, landed_first, delivered, given_on, msi_taken}
use Rattle.aia_model.specs.Reading.{reading}
use Rattle.aia_model.specs.Script.{after_text, after_texts}
use Rattle.aia_model.proofs.AnswerLemmas.{after_by}

abbrev pub IsUnpassed : History → Type 0
IsUnpassed h = passes_of h ≡ []

-- ---- none was passed before

none_appended : (xs : List PassedSource) (x : PassedSource) → xs ++ x ∷ [] ≡ [] → xs ≡ []
none_appended [] x e = refl
none_appended (y ∷ ys) x e = absurd (cc)

pub unpassed_event : (event : Event) (h : History) → IsUnpassed (event ∷ h) → IsUnpassed h
unfolding passes_of
unpassed_event (Accepted (lines.Pass source vm vcpu identity)) h e = none_appended (passes_of h) _ e
unpassed_event (Accepted line) h e = e
unpassed_event (Began move) h e = e
unpassed_event (Stepped x) h e = e
unpassed_event (Delivered msi) h e = e
unpassed_event (Landed vm k) h e = e
unpassed_event (Relayed p) h e = e

unpassed_landed : (count vm : ℕ) (h : History) → IsUnpassed (oldest_landed count vm h) → IsUnpassed h
unpassed_landed zero vm h e = e
unpassed_landed (suc count) vm h e = unpassed_event (Landed vm 0) h (unpassed_landed count vm (Landed vm 0 ∷ h) e)

unpassed_first : (x : Vcpu) (h : History) → IsUnpassed (landed_first x h) → IsUnpassed h
unpassed_first x h = by_fence (is_at_fence (home h x))
  where
    by_fence : (b : Bool) → IsUnpassed (cond b (oldest_landed (length (flight h x.vm)) x.vm h) h) → IsUnpassed h
    by_fence true e = unpassed_landed (length (flight h x.vm)) x.vm h e
    by_fence false e = e

unpassed_steps : (count : ℕ) (x : Vcpu) (h : History) → IsUnpassed (steps_taken count x h) → IsUnpassed h
unpassed_steps zero x h e = e
unpassed_steps (suc count) x h e = unpassed_first x h (unpassed_event (Stepped x) (landed_first x h) (unpassed_steps count x (step_taken x h) e))

unpassed_given : (o : Option ℕ) (h : History) → IsUnpassed (given_on o h) → IsUnpassed h
unpassed_given None h e = e
unpassed_given (Some p) h e = by_reach (is_none (pass_reach h p)) e
  where
    by_reach : (b : Bool) → IsUnpassed (cond b (Relayed p ∷ h) h) → IsUnpassed h
    by_reach true e = unpassed_event (Relayed p) h e
    by_reach false e = e

pub unpassed_sent : (sent : List Msi) (h : History) → IsUnpassed (delivered sent h) → IsUnpassed h
unpassed_sent [] h e = e
unpassed_sent (msi ∷ later) h e = unpassed_event (Delivered msi) h
    (unpassed_given (passed_by h msi.source) (Delivered msi ∷ h) (unpassed_sent later (msi_taken msi h) e))

pub unpassed_deed : (h : History) (line : Line) (deed : LineDeed) → IsUnpassed (deed_taken h line deed) → IsUnpassed h
unpassed_deed h line NoMove e = unpassed_event (Accepted line) h e
unpassed_deed h line (Whole move) e = unpassed_event (Began move) h
    (unpassed_steps (steps_of (file_words h) move + passes_for h (mover move)) (mover move) (Began move ∷ h) e)
unpassed_deed h line (Begins move) e = unpassed_event (Began move) h e
unpassed_deed h line (Steps x) e = unpassed_first x h (unpassed_event (Stepped x) (landed_first x h) e)
unpassed_deed h line (Lands vm k) e = unpassed_event (Landed vm k) h e

pub unpassed_accepted : (h : History) (line : Line) → IsUnpassed (after_accepted h line) → IsUnpassed (line_taken h line)
unpassed_accepted h line e = unpassed_sent (msis_sent_by h line) (line_taken h line) e

pub unpassed_after : (h : History) (line : Line) → IsUnpassed (after h line) → IsUnpassed h
unpassed_after h line e = by_word (refusal h line) refl
  where
    by_word : (word : Option Answer) → refusal h line ≡ word → IsUnpassed h
    by_word None is = unpassed_deed h line (line_deed line) (unpassed_accepted h line (subst IsUnpassed (after_by h line None is) e))
    by_word (Some word) is = subst IsUnpassed (after_by h line (Some word) is) e

unpassed_text : (h : History) (text : Parsed) → IsUnpassed (after_text h text) → IsUnpassed h
unpassed_text h (parsed.Line line) e = unpassed_after h line e
unpassed_text h parsed.Skip e = e
unpassed_text h parsed.Bad e = e

pub unpassed_texts : (h : History) (texts : List (List ℕ)) → IsUnpassed (after_texts h texts) → IsUnpassed h
unpassed_texts h [] e = e
unpassed_texts h (text ∷ texts) e = unpassed_text h (reading text) (unpassed_texts (after_text h (reading text)) texts e)

pub none_passed_first : IsUnpassed []
unfolding passes_of
none_passed_first = refl

-- ---- nor by an event that passes none

abbrev pub passes_source : Line → Bool
passes_source (lines.Pass source vm vcpu identity) = true
passes_source line = false

abbrev pub is_passing : Event → Bool
is_passing (Accepted line) = passes_source line
is_passing event = false

pub unpassed_on : (event : Event) (h : History) → is_passing event ≡ false → IsUnpassed h → IsUnpassed (event ∷ h)
unfolding passes_of
unpassed_on (Accepted (lines.Pass source vm vcpu identity)) h other e = absurd (cc)
unpassed_on (Accepted line) h other e = e
unpassed_on (Began move) h other e = e
unpassed_on (Stepped x) h other e = e
unpassed_on (Delivered msi) h other e = e
unpassed_on (Landed vm k) h other e = e
unpassed_on (Relayed p) h other e = e

-- a line that passes a source, accepted, leaves one passed
one_appended : (xs : List PassedSource) (x : PassedSource) → xs ++ x ∷ [] ≡ [] → ⊥
one_appended [] x e = cc
one_appended (y ∷ ys) x e = cc

passing_passes : (h : History) (line : Line) → IsUnpassed (Accepted line ∷ h) → passes_source line ≡ false
unfolding passes_of
passing_passes h (lines.Pass source vm vcpu identity) e = absurd (one_appended (passes_of h) _ e)
passing_passes h line e = refl

pub accepted_passes_none : (h : History) (line : Line) → IsUnpassed (after_accepted h line) → passes_source line ≡ false
accepted_passes_none h (lines.Pass source vm vcpu identity) e =
    passing_passes h (lines.Pass source vm vcpu identity) (unpassed_accepted h (lines.Pass source vm vcpu identity) e)
accepted_passes_none h line e = refl

-- ---- no MSI is given on, no step aims

none_in : (P : ℕ → Bool) → least_of P 0 0 ≡ None
unfolding least_of
none_in P = refl

pub none_passed_by : (h : History) (o : Option ℕ) → IsUnpassed h → passed_by h o ≡ None
none_passed_by h None e = refl
none_passed_by h (Some s) e = ap (λ (xs : List PassedSource). least_of (λ p. nat_eq (slice_index_or xs p no_pass).source s) 0 (length xs))
    e ∙ none_in _

pub taken_alone : (msi : Msi) (h : History) → IsUnpassed h → msi_taken msi h ≡ Delivered msi ∷ h
taken_alone msi h e = ap (λ o. given_on o (Delivered msi ∷ h)) (none_passed_by h msi.source e)

pub no_passes_for : (h : History) (g : Vcpu) → IsUnpassed h → passes_for h g ≡ 0
no_passes_for h g e = ap (passes_to g) e

pub none_aims : (h : History) (g : Vcpu) → IsUnpassed h → is_aiming (passes_for h g) (home h g) ≡ false
none_aims h g e = ap (λ n. is_aiming n (home h g)) (no_passes_for h g e)
    ∙ and_right _ (nat_lt (aims_done (home h g)) 0) (none_below (aims_done (home h g)))
  where
    none_below : (a : ℕ) → nat_lt a 0 ≡ false
    none_below a = grind (arith, nat_tests)
