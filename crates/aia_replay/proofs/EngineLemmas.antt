-- What the first lines make of an engine.
use Rattle.std.proofs.Common.{◌≡◌, ℕ, ◌-◌, ◌^◌, min, true, false, not, [], ◌∷◌, Option, Some, None, MatchOption, refl, sym, ap, subst, ◌∙◌}
use Rattle.std.proofs.lemmas.Bool.{cond-true, cond-false}
use Rattle.aia_model.specs.declared.line.Line.{Line}
use Rattle.aia_model.specs.declared.line.Line.TheVariants.{Machine as MachineLine}
use Rattle.aia_model.specs.declared.answer.Answer.{Answer}
use Rattle.aia_model.specs.declared.answer.Answer.TheVariants.{Okay, NoMachine, Refused}
use Rattle.aia_model.specs.declared.refusal.Refusal.TheVariants.{Range}
use Rattle.aia_model.specs.Event.{History}
use Rattle.aia_model.specs.Notice.{notices_sent}
use Rattle.aia_model.specs.Event.Event.{Accepted}
use Rattle.aia_model.specs.Refusal.{refusal, is_machine_size}
use Rattle.aia_model.specs.Answer.{answer, after, history_after}
use Rattle.aia_model.proofs.AnswerLemmas.{answered, after_by, machine_refusal}
use Rattle.aia_aplic_values.proofs.SendingLemmas.{none_begun}
use Rattle.aia_model.specs.Act.Act.{Made}
use Rattle.aia_replay.specs.declared.machine.Machine.{Machine}
use Rattle.aia_replay.specs.Stands.{EngineStandsForSome, EngineState, MachineHolds, MachineStands, StandsFor, Serves}
use Rattle.aia_replay.proofs.DeliveryLemmas.{after_delivery, all_sent}
use Rattle.aia_model.specs.Histories.{IsHistory}
use Rattle.aia_model.proofs.HistoryLemmas.{after_happens}

-- ---- with no machine

empty_history : (engine : EngineState) (h : History) → engine ≡ None → StandsFor engine h → h ≡ []
empty_history engine h none stands = subst (λ (o : Option Machine). MatchOption o (h ≡ []) (λ m. MachineStands m h)) none stands

still_none : (engine : EngineState) (h : History) → engine ≡ None → h ≡ [] → StandsFor engine h
still_none engine h none empty = subst (λ (o : Option Machine). MatchOption o (h ≡ []) (λ m. MachineStands m h)) (sym none) empty

-- no notice was sent
pub none_sent : (engine : EngineState) (h : History) → engine ≡ None → StandsFor engine h → 0 ≡ min (notices_sent h) (2 ^ 64 - 1)
unfolding notices_sent
none_sent engine h none stands = sym (ap (λ x. min (notices_sent x) (2 ^ 64 - 1)) (empty_history engine h none stands))

-- a line that is refused where no machine stands
pub refused_first : (old new : EngineState) (line : Line) (word : Answer) → old ≡ None → new ≡ None → refusal [] line ≡ Some word
    → Serves old new line word
refused_first old new line word was now is = record {
  answers = λ h stands. sym (ap (λ x. answer x line) (empty_history old h was stands) ∙ answered [] line (Some word) is);
  stands = λ h stands. still_none new (after h line) now (ap (λ x. after x line) (empty_history old h was stands) ∙ after_by [] line (Some word) is);
}

-- only a `machine` line is not refused so
pub needs_machine : (line : Line) → ((harts guests n sources : ℕ) → line ≡ MachineLine harts guests n sources → ⊥) → refusal [] line ≡ Some NoMachine
needs_machine (MachineLine harts guests n sources) other = absurd (other harts guests n sources refl)
needs_machine line other = refl

pub size_refused : (harts guests n sources : ℕ) → is_machine_size harts guests n sources ≡ false
    → refusal [] (MachineLine harts guests n sources) ≡ Some (Refused Range)
size_refused harts guests n sources out = machine_refusal [] harts guests n sources ∙ cond-true _ _ _ (ap not out)

-- ---- the machine is made

made_accepted : (harts guests n sources : ℕ) → is_machine_size harts guests n sources ≡ true → refusal [] (MachineLine harts guests n sources) ≡ None
made_accepted harts guests n sources size = machine_refusal [] harts guests n sources ∙ cond-false _ _ _ (ap not size)

made_stands : (m : Machine) (harts guests n sources : ℕ) → is_machine_size harts guests n sources ≡ true
    → MachineHolds m (Accepted (MachineLine harts guests n sources) ∷ []) (Made harts sources ∷ [])
    → MachineStands m (history_after None [] (MachineLine harts guests n sources))
made_stands m harts guests n sources size holds =
    let line = MachineLine harts guests n sources in
    record {
      holds = after_delivery m [] line None (all_sent m (Accepted line ∷ []) (Made harts sources ∷ []) (none_begun harts sources) holds);
      happens = subst IsHistory (after_by [] line None (made_accepted harts guests n sources size)) (after_happens [] line tt);
    }

pub made_stands_for_some : (m : Machine) (harts guests n sources : ℕ) → is_machine_size harts guests n sources ≡ true
    → MachineHolds m (Accepted (MachineLine harts guests n sources) ∷ []) (Made harts sources ∷ []) → EngineStandsForSome m
made_stands_for_some m harts guests n sources size holds =
    record { past = history_after None [] (MachineLine harts guests n sources); stands = made_stands m harts guests n sources size holds }

pub machine_made : (old new : EngineState) (m : Machine) (harts guests n sources : ℕ) → old ≡ None → new ≡ Some m
    → is_machine_size harts guests n sources ≡ true
    → MachineHolds m (Accepted (MachineLine harts guests n sources) ∷ []) (Made harts sources ∷ [])
    → Serves old new (MachineLine harts guests n sources) Okay
machine_made old new m harts guests n sources was now size holds =
    let line = MachineLine harts guests n sources in
    let accepted = made_accepted harts guests n sources size in
    let stands = made_stands m harts guests n sources size holds in
    record {
      answers = λ h given. sym (ap (λ x. answer x line) (empty_history old h was given) ∙ answered [] line None accepted);
      stands = λ h given. subst (StandsFor new) (sym (ap (λ x. after x line) (empty_history old h was given) ∙ after_by [] line None accepted))
          (subst (λ (o : Option Machine). MatchOption o (history_after None [] line ≡ []) (λ m. MachineStands m (history_after None [] line)))
          (sym now) stands);
    }
