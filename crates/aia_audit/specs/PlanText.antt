-- What is printed of the bytes of a plan, one step a line. Profile.
use Rattle.std.specs.Prelude.{ℕ, suc, nat_lt, if◌then◌else◌, List, [], ◌∷◌, ◌++◌, length, Option, Some, None, codes}
use Rattle.aia_model.specs.Text.{texts_of, is_skipped}
use Rattle.aia_model.specs.AnswerText.{decimal_text}
use Rattle.aia_plan.specs.Plan.{WrittenPlan}
use Rattle.aia_plan.specs.declared.step.Kind.{Kind}
use Rattle.aia_plan.specs.declared.step.Step.{Step}
use Rattle.aia_script.specs.StepText.{step_of}
use Rattle.aia_audit.specs.declared.limits.TheConstants.{PLAN_STEPS}
use Rattle.aia_audit.specs.declared.verdict.Verdict.{Verdict}
use Rattle.aia_audit.specs.declared.verdict.Verdict.TheVariants.{Accepted, Refused}
use Rattle.aia_audit.specs.Verdicts.{verdict_on}

-- What texts are read as: a plan; or it is known that the K-th text that is not skipped, counted
-- from 1, is the first that spells no step, or is one step too many.
pub data PlanRead : Type 0 where
  Steps : (plan : WrittenPlan) → PlanRead
  BadAt : (k : ℕ) → PlanRead

-- A plan with one text more that is not skipped. As many texts as it has steps came before.
abbrev pub with_step : WrittenPlan → Option Step → PlanRead
with_step plan None = BadAt (suc (length plan))
with_step plan (Some step) =
    if nat_lt (length plan) PLAN_STEPS then Steps (plan ++ step ∷ [])
    else BadAt (suc (length plan))

-- What is read with one text more, of files of so many words; a text that is skipped in a script
-- is skipped here too.
abbrev pub with_text : ℕ → PlanRead → List ℕ → PlanRead
with_text words (BadAt k) text = BadAt k
with_text words (Steps plan) text =
    if is_skipped text then Steps plan else with_step plan (step_of words text)

abbrev pub with_texts : ℕ → PlanRead → List (List ℕ) → PlanRead
with_texts words read [] = read
with_texts words read (text ∷ texts) = with_texts words (with_text words read text) texts

-- What bytes are read as, cut into texts as those of a script are.
abbrev pub plan_of : ℕ → List ℕ → PlanRead
plan_of words bytes = with_texts words (Steps []) (texts_of bytes)

-- How a verdict is spelled.
abbrev pub verdict_word : Verdict → List ℕ
verdict_word Accepted = codes "accepted"
verdict_word (Refused part) = codes "refused " ++ decimal_text part

-- What is answered: the verdict on the plan, or which text is bad.
abbrev pub read_word : Kind → ℕ → PlanRead → List ℕ
read_word kind words (Steps plan) = verdict_word (verdict_on kind words plan)
read_word kind words (BadAt k) = codes "bad " ++ decimal_text k

-- All that is printed for the bytes of a plan: one line.
abbrev pub audit_text : Kind → ℕ → List ℕ → List ℕ
audit_text kind words bytes = read_word kind words (plan_of words bytes) ++ 10 ∷ []
