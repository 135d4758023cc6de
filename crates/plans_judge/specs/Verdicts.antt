-- The verdict on a plan. Profile.
use Rattle.std.specs.Prelude.{ℕ, zero, suc, true, false, List, [], ◌∷◌, Option, Some, None, slice_get, option_map}
use Rattle.plans_rules.specs.declared.rule.Rule.{Rule}
use Rattle.plans_rules.specs.declared.rule.Rule.TheVariants.{Routes, Words, Blank, Numbers, Freeing, Notice}
use Rattle.plans_rules.specs.declared.step.AnyStep.{AnyStep}
use Rattle.plans_rules.specs.Setting.{Setting}
use Rattle.plans_rules.specs.Rules.{Done, lets, lets_end}
use Rattle.plans_judge.specs.declared.judging.Part.{Part}
use Rattle.plans_judge.specs.declared.judging.Part.TheVariants.{Safety, Telling}
use Rattle.plans_judge.specs.declared.judging.Break.{Break}
use Rattle.plans_judge.specs.declared.verdict.Judgement.{Judgement}
use Rattle.plans_judge.specs.declared.verdict.Judgement.TheVariants.{Accepted, Refused}

-- The first of some rules that does not let a step stand.
abbrev pub refusing : List Rule → Setting → AnyStep → Done → Option Rule
refusing [] d x done = None
refusing (rule ∷ others) d x done = elim (lets rule d x done) [
  | true ↦ refusing others d x done
  | false ↦ Some rule
]

-- The first of some rules that does not let a plan end.
abbrev pub refusing_end : List Rule → Setting → Done → Option Rule
refusing_end [] d done = None
refusing_end (rule ∷ others) d done = elim (lets_end rule d done) [
  | true ↦ refusing_end others d done
  | false ↦ Some rule
]

-- The break of a rule with so many steps before it.
abbrev pub at_step : ℕ → Rule → Break
at_step before rule = record { rule = rule; before = before }

-- The first break of some rules in the steps that are left, after so many.
abbrev pub first_break : List Rule → Setting → Done → ℕ → List AnyStep → Option Break
first_break rules d done before [] = option_map (at_step before) (refusing_end rules d done)
first_break rules d done before (x ∷ rest) = elim (refusing rules d x done) [
  | None ↦ first_break rules d (x ∷ done) (suc before) rest
  | Some rule ↦ Some (at_step before rule)
]

-- The rules of safety; the rule on notices.
abbrev pub rules_of : Part → List Rule
rules_of Safety = Routes ∷ Words ∷ Blank ∷ Numbers ∷ Freeing ∷ []
rules_of Telling = Notice ∷ []

-- The first break of those rules in a plan.
abbrev pub break_in : Part → Setting → List AnyStep → Option Break
break_in part d plan = first_break (rules_of part) d [] 0 plan

-- The verdict by a break.
abbrev pub refused_by : Break → Judgement
refused_by broken = Refused broken.rule broken.before

-- The first break of the rules of safety; if there is none, that of the rule on notices.
abbrev pub verdict_on : Setting → List AnyStep → Judgement
verdict_on d plan = elim (break_in Safety d plan) [
  | Some broken ↦ refused_by broken
  | None ↦ elim (break_in Telling d plan) [
    | Some broken ↦ refused_by broken
    | None ↦ Accepted
  ]
]

-- The first steps of a plan, so many, the newest first.
abbrev pub past : List AnyStep → ℕ → Done
past plan zero = []
past plan (suc k) = elim (slice_get plan k) [ None ↦ past plan k | Some x ↦ x ∷ past plan k ]
