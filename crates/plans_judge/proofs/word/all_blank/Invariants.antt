use Rattle.std.proofs.Common.{◌≡◌}
use Rattle.plans_rules.specs.Setting.{all_below}
use Rattle.plans_judge.specs.Table.{is_blank_at}
use Rattle.plans_judge.proofs.word.all_blank.Given as goal

abbrev pub invariant-loop-word : goal.invariant-loop-word
invariant-loop-word l = l.holds ≡ all_below (is_blank_at l.words) l.word
