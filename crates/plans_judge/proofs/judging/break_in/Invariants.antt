use Rattle.std.proofs.Common.{◌≡◌, drop}
use Rattle.plans_rules.specs.Setting.{setting_of}
use Rattle.plans_judge.specs.Table.{Stands}
use Rattle.plans_judge.specs.Verdicts.{break_in, first_break, rules_of, past}
use Rattle.plans_judge.proofs.judging.break_in.Given as goal

abbrev pub invariant-loop-before : goal.invariant-loop-before
invariant-loop-before l =
    Stands l.table l.producers (past l.plan l.before)
    × (l.table.terms ≡ l.fn.terms)
    × (first_break (rules_of l.part) (setting_of l.producers l.fn.terms) (past l.plan l.before) l.before (drop l.before l.plan) ≡ break_in l.part
    (setting_of l.producers l.fn.terms) l.plan)
