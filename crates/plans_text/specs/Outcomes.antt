-- What comes of plans: the worst that comes of any of them. Profile.
use Rattle.std.specs.Prelude.{ℕ, if◌then◌else◌, nat_le}
use Rattle.plans_judge.specs.declared.verdict.Judgement.{Judgement}
use Rattle.plans_judge.specs.declared.verdict.Judgement.TheVariants.{Accepted, Refused}
use Rattle.plans_text.specs.declared.outcome.FileOutcome.{FileOutcome}
use Rattle.plans_text.specs.declared.outcome.FileOutcome.TheVariants as outcomes

-- How bad an outcome is: no plan is the least, and a bad line the most.
abbrev pub badness : FileOutcome → ℕ
badness outcomes.NoPlan = 0
badness outcomes.Accepted = 1
badness outcomes.Refused = 2
badness outcomes.BadLine = 3

-- The worse of two.
abbrev pub worse : FileOutcome → FileOutcome → FileOutcome
worse one other = if nat_le (badness other) (badness one) then one else other

-- What comes of a plan by the verdict on it.
abbrev pub outcome_of : Judgement → FileOutcome
outcome_of Accepted = outcomes.Accepted
outcome_of (Refused rule before) = outcomes.Refused
