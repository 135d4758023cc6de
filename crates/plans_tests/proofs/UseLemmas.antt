-- What the definitions of lists of plans say of each plan.
use Rattle.std.specs.Prelude.{◌≡◌, ℕ, true, List, [], ◌∷◌}
use Rattle.std.specs.List.{AllByRecursion}
use Rattle.plans_rules.specs.declared.rule.Rule.{Rule}
use Rattle.plans_rules.specs.declared.rule.Rule.TheVariants.{Notice}
use Rattle.plans_rules.specs.declared.step.AnyStep.{AnyStep}
use Rattle.plans_rules.specs.Setting.{Setting}
use Rattle.plans_rules.specs.Safe.{IsTold}
use Rattle.plans_rules.specs.Rules.{accepts, broken}
use Rattle.plans_rules.specs.Rows.{AreAccepted, BreakAlone, LeaveUntold}

pub each_accepted : (widths : List ℕ) (settings : ℕ → Setting) (plans : ℕ → List AnyStep) → AreAccepted widths settings plans
    → AllByRecursion (λ words. accepts (settings words) (plans words) ≡ true) widths
each_accepted [] settings plans are = tt
each_accepted (words ∷ widths) settings plans are = (are.0, each_accepted widths settings plans are.1)

pub each_breaks : (rule : Rule) (d : Setting) (plans : List (List AnyStep)) → BreakAlone rule d plans
    → AllByRecursion (λ (plan : List AnyStep). broken d plan ≡ rule ∷ []) plans
each_breaks rule d [] break = tt
each_breaks rule d (plan ∷ plans) break = (break.0, each_breaks rule d plans break.1)

pub each_untold : (d : Setting) (plans : List (List AnyStep)) → LeaveUntold d plans
    → AllByRecursion (λ (plan : List AnyStep). (broken d plan ≡ Notice ∷ []) × (¬ IsTold d plan)) plans
each_untold d [] leave = tt
each_untold d (plan ∷ plans) leave = ((leave.0, leave.1), each_untold d plans leave.2)
