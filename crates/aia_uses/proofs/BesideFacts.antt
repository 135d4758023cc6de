-- Histories that look alike to a VM, what tells of passes, and what a pass changes in none of that.
use Rattle.std.proofs.Common.{◌≡◌, ◌⊎◌, ◌∷◌, ◌∙◌, ℕ, true, Option, Some, None, refl, sym, ap, inl, inr}
use Rattle.std.proofs.lemmas.Bool.{false≢true}
use Rattle.aia_model.specs.declared.answer.Answer.{Answer}
use Rattle.aia_model.specs.declared.answer.Answer.TheVariants as answers
use Rattle.aia_model.specs.declared.refusal.Refusal.TheVariants as refusals
use Rattle.aia_model.specs.declared.line.Line.TheVariants as lines
use Rattle.aia_model.specs.Event.{History}
use Rattle.aia_model.specs.Event.Event.{Accepted}
use Rattle.aia_model.specs.FileAfter.{select_by, file_by}
use Rattle.aia_model.specs.MajorOf.{majors_of}
use Rattle.aia_model.specs.HomeOf.{home}
use Rattle.aia_model.specs.Flight.{flight}
use Rattle.aia_isolation.specs.Beside.{LooksAlike, tells_of_passes}

pub full_or_passed : (word : Option Answer) → tells_of_passes word ≡ true
    → (word ≡ Some (answers.Refused refusals.Full)) ⊎ (word ≡ Some (answers.Refused refusals.Passed))
full_or_passed None e = absurd (false≢true e)
full_or_passed (Some answers.Okay) e = absurd (false≢true e)
full_or_passed (Some (answers.Narrow a)) e = absurd (false≢true e)
full_or_passed (Some (answers.Wide a)) e = absurd (false≢true e)
full_or_passed (Some answers.Moving) e = absurd (false≢true e)
full_or_passed (Some answers.Done) e = absurd (false≢true e)
full_or_passed (Some (answers.Pins a b c d)) e = absurd (false≢true e)
full_or_passed (Some (answers.Entry a)) e = absurd (false≢true e)
full_or_passed (Some (answers.Part a)) e = absurd (false≢true e)
full_or_passed (Some answers.Bad) e = absurd (false≢true e)
full_or_passed (Some answers.NoMachine) e = absurd (false≢true e)
full_or_passed (Some answers.Again) e = absurd (false≢true e)
full_or_passed (Some (answers.Refused refusals.Range)) e = absurd (false≢true e)
full_or_passed (Some (answers.Refused refusals.Full)) e = inl refl
full_or_passed (Some (answers.Refused refusals.Busy)) e = absurd (false≢true e)
full_or_passed (Some (answers.Refused refusals.Home)) e = absurd (false≢true e)
full_or_passed (Some (answers.Refused refusals.Entered)) e = absurd (false≢true e)
full_or_passed (Some (answers.Refused refusals.Parked)) e = absurd (false≢true e)
full_or_passed (Some (answers.Refused refusals.NoFile)) e = absurd (false≢true e)
full_or_passed (Some (answers.Refused refusals.Passed)) e = inr refl
full_or_passed (Some (answers.Refused refusals.Unready)) e = absurd (false≢true e)
full_or_passed (Some (answers.Refused refusals.Idle)) e = absurd (false≢true e)
full_or_passed (Some (answers.Refused refusals.Away)) e = absurd (false≢true e)
full_or_passed (Some (answers.Refused refusals.Illegal)) e = absurd (false≢true e)
full_or_passed (Some (answers.Refused refusals.Virtual)) e = absurd (false≢true e)
full_or_passed (Some (answers.Refused refusals.Fault)) e = absurd (false≢true e)
full_or_passed (Some (answers.Refused refusals.Guarded)) e = absurd (false≢true e)
full_or_passed (Some (answers.Refused refusals.Other)) e = absurd (false≢true e)
full_or_passed (Some (answers.Refused refusals.NotValid)) e = absurd (false≢true e)
full_or_passed (Some (answers.Refused refusals.GFault)) e = absurd (false≢true e)

pub then_told : (word other : Option Answer) → (word ≡ other) ⊎ ((tells_of_passes word ≡ true) ⊎ (tells_of_passes other ≡ true)) → word ≡ None
    → (other ≡ None) ⊎ ((other ≡ Some (answers.Refused refusals.Full)) ⊎ (other ≡ Some (answers.Refused refusals.Passed)))
then_told word other (inl same) none = inl (sym same ∙ none)
then_told word other (inr (inl tells)) none = absurd (false≢true (sym (ap tells_of_passes none) ∙ tells))
then_told word other (inr (inr tells)) none = inr (full_or_passed other tells)

pub pass_unseen : (v : ℕ) (h : History) (source vm vcpu identity : ℕ)
    → LooksAlike v (Accepted (lines.Pass source vm vcpu identity) ∷ h) h
unfolding select_by file_by majors_of home flight
pass_unseen v h source vm vcpu identity = record { machine = refl; vms = refl; homes = λ x. refl; flights = refl; guests = λ x own. refl }
