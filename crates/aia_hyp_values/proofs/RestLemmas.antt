-- What is kept of a virtual hart says whether it is parked, and whether it is entered: no other
-- lemma of this crate tells a `Stay` apart by how it rests.
use Rattle.std.proofs.Common.{◌≡◌, is_some, true, false, Option, Some, refl, ap, ◌∙◌}
use Rattle.std.specs.Prelude.{Result, Ok, Err}
use Rattle.std.proofs.lemmas.Bool.{cond-true}
use Rattle.aia_vcpu.specs.Vms.{Vcpu}
use Rattle.aia_vcpu.specs.declared.rest.Rest.TheVariants.{Parked, Entered}
use Rattle.aia_vcpu.specs.Home.{Home, is_moving, is_entered, runs}
use Rattle.aia_vcpu.specs.Home.Home.{OnWay}
use Rattle.aia_fabric_values.specs.World.{World}
use Rattle.aia_move_values.specs.declared.who.KeptNumbers.{KeptNumbers}
use Rattle.aia_move_values.specs.PlanState.{moving_of}
use Rattle.aia_model.specs.declared.answer.Answer.{Answer}
use Rattle.aia_model.specs.declared.answer.Answer.TheVariants.{Refused}
use Rattle.aia_model.specs.declared.refusal.Refusal.{Refusal}
use Rattle.aia_model.specs.declared.refusal.Refusal.TheVariants as words
use Rattle.aia_model.proofs.RefusalLemmas.{unless_parked}
use Rattle.aia_hyp_values.specs.Core.{Stay}
use Rattle.aia_hyp_values.specs.declared.vcpu.Stay.TheVariants as stays
use Rattle.aia_hyp_values.specs.Core.{home_in, entered_at, parked_at, runs_in}
use Rattle.aia_hyp_values.specs.Stands.{PlanStands}

-- ---- it is parked, or the word that refuses it says where it is

pub parked_is : (stay : Stay) (kept : KeptNumbers) → parked_at stay ≡ Ok kept → stay ≡ stays.InMemory Parked kept
parked_is (stays.InMemory Parked kept) other e = ap (stays.InMemory Parked) (of_ok kept other e)
  where
    of_ok : (a b : KeptNumbers) → ◌≡◌ {A = Result KeptNumbers Refusal} (Ok a) (Ok b) → a ≡ b
    of_ok a b e = cc
parked_is (stays.InMemory Entered kept) other e = absurd (cc)
parked_is (stays.Resident lease) other e = absurd (cc)
parked_is (stays.Moving plan) other e = absurd (cc)

of_err : (a b : Refusal) → ◌≡◌ {A = Result KeptNumbers Refusal} (Err a) (Err b) → a ≡ b
of_err a b e = cc

-- whatever else may refuse it then
pub word_is : (w : World) (g : Vcpu) (stay : Stay) (word : Refusal) (later : Option Answer) → PlanStands w g stay → parked_at stay ≡ Err word
    → unless_parked (home_in stay) later ≡ Some (Refused word)
word_is w g (stays.InMemory Parked kept) word later plan e = absurd (cc)
word_is w g (stays.InMemory Entered kept) word later plan e = ap (λ r. Some (Refused r)) (of_err words.Entered word e)
word_is w g (stays.Resident lease) word later plan e = ap (λ r. Some (Refused r)) (of_err words.Home word e)
word_is w g (stays.Moving plan) word later planned e = cond-true _ _ _ planned.3 ∙ ap (λ r. Some (Refused r)) (of_err words.Busy word e)

-- ---- it is entered, or runs

pub entered_as_kept : (w : World) (g : Vcpu) (stay : Stay) → PlanStands w g stay → is_entered (home_in stay) ≡ is_some (entered_at stay)
entered_as_kept w g (stays.InMemory Parked kept) p = refl
entered_as_kept w g (stays.InMemory Entered kept) p = refl
entered_as_kept w g (stays.Resident lease) p = refl
entered_as_kept w g (stays.Moving plan) p = on_the_move (moving_of plan).home p.3
  where
    on_the_move : (there : Home) → is_moving there ≡ true → is_entered there ≡ false
    on_the_move (OnWay way at) moving = refl
    on_the_move there moving = absurd (cc)

pub runs_as_kept : (w : World) (g : Vcpu) (stay : Stay) → PlanStands w g stay → runs (home_in stay) ≡ runs_in stay
runs_as_kept w g (stays.InMemory Parked kept) p = refl
runs_as_kept w g (stays.InMemory Entered kept) p = refl
runs_as_kept w g (stays.Resident lease) p = refl
runs_as_kept w g (stays.Moving plan) p = on_the_move (moving_of plan).home p.3
  where
    on_the_move : (there : Home) → is_moving there ≡ true → runs there ≡ false
    on_the_move (OnWay way at) moving = refl
    on_the_move there moving = absurd (cc)
