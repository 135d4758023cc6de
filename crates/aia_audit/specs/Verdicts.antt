-- The verdict on a plan. Profile.
use Rattle.std.specs.Prelude.{ℕ, Option, Some, None}
use Rattle.aia_plan.specs.Plan.{WrittenPlan}
use Rattle.aia_plan.specs.Rule.{failing}
use Rattle.aia_plan.specs.declared.step.Kind.{Kind}
use Rattle.aia_audit.specs.declared.verdict.Verdict.{Verdict}
use Rattle.aia_audit.specs.declared.verdict.Verdict.TheVariants.{Accepted, Refused}

-- The verdict, by the part of the rule that a plan fails, if it fails one.
abbrev pub verdict_by : Option ℕ → Verdict
verdict_by None = Accepted
verdict_by (Some part) = Refused part

-- The verdict on the plan of a move of a kind, of files of so many words.
abbrev pub verdict_on : Kind → ℕ → WrittenPlan → Verdict
verdict_on kind words plan = verdict_by (failing kind words plan)
