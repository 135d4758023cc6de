-- What it means that bytes are read as a plan, or that a text of them is bad. Vocabulary: a law
-- says that the reading of PlanText means this.
use Rattle.std.specs.Prelude.{◌≡◌, ℕ, ◌+◌, ◌≤◌, ◌⊎◌, if◌then◌else◌, List, [], ◌∷◌, ◌++◌, length, map, Some, None}
use Rattle.aia_model.specs.Text.{is_skipped}
use Rattle.aia_plan.specs.Plan.{WrittenPlan}
use Rattle.aia_script.specs.StepText.{step_of}
use Rattle.aia_audit.specs.declared.limits.TheConstants.{PLAN_STEPS}
use Rattle.aia_audit.specs.PlanText.{PlanRead}
use Rattle.aia_audit.specs.PlanText.PlanRead.{Steps, BadAt}

-- The texts that are not skipped.
abbrev pub unskipped : List (List ℕ) → List (List ℕ)
unskipped [] = []
unskipped (text ∷ texts) = if is_skipped text then unskipped texts else text ∷ unskipped texts

-- Texts spell the steps of a plan, one each, and they are not too many.
pub record Spell (words : ℕ) (texts : List (List ℕ)) (plan : WrittenPlan) : Type 0 where
  pub steps : map (step_of words) texts ≡ map Some plan
  pub few : length texts ≤ PLAN_STEPS

-- The k-th of texts, counted from 1, is the first that spells no step, or is one step too many.
pub record IsBadAt (words : ℕ) (texts : List (List ℕ)) (k : ℕ) : Type 0 where
  pub before : List (List ℕ)
  pub text : List ℕ
  pub others : List (List ℕ)
  pub split : texts ≡ before ++ text ∷ others
  pub place : k ≡ length before + 1
  pub plan : WrittenPlan
  pub good : Spell words before plan
  pub bad : (step_of words text ≡ None) ⊎ (length before ≡ PLAN_STEPS)

-- What a reading says of the texts that were read.
abbrev pub Means : ℕ → List (List ℕ) → PlanRead → Type 0
Means words texts (Steps plan) = Spell words texts plan
Means words texts (BadAt k) = IsBadAt words texts k
