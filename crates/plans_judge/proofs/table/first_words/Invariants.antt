use Rattle.std.proofs.Common.{◌≡◌}
use Rattle.std.specs.Prelude.{replicate}
use Rattle.plans_judge.specs.Table.{word_first}
use Rattle.plans_judge.proofs.table.first_words.Given as goal

abbrev pub invariant-loop-word : goal.invariant-loop-word
invariant-loop-word l = l.words.items ≡ replicate l._word (word_first l.terms.is_fresh)
