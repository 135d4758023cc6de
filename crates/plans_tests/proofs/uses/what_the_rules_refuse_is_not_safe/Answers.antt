use Rattle.std.proofs.Common.{sym, ◌∙◌}
use Rattle.std.proofs.lemmas.Bool.{false≢true}
use Rattle.plans_tests.proofs.uses.what_the_rules_refuse_is_not_safe.Goals as goal

pub returns-clause-moves : goal.returns-clause-moves
returns-clause-moves c = λ d plan inside breaks safe. false≢true (sym breaks ∙ c.the_rules_are_exact.ensures.only d plan inside safe)

pub returns-clause-accepts : goal.returns-clause-accepts
returns-clause-accepts c = λ d plan elsewhere inside breaks safe. false≢true
    (sym breaks ∙ c.the_rules_are_exact.ensures.elsewhere d plan elsewhere inside safe)
