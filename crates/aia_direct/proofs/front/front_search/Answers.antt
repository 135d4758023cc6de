use Rattle.std.proofs.Common.{sym, ap, ◌∙◌}
use Rattle.aia_regs.specs.Top.{topi_value}
use Rattle.aia_domain.specs.Domain.{IsPairOfSource}
use Rattle.aia_direct.proofs.FrontLemmas.{first_of_rising, first_all}
use Rattle.aia_direct.proofs.front.front_search.Goals as goal

pub returns-in-Some-clause-top : goal.returns-in-Some-clause-top
returns-in-Some-clause-top g c =
    c.shown_through.ensures ∙ ap topi_value (first_of_rising c.args.ithreshold (c.in-Some.priority, c.in-Some.s)
    (g.T.Front.pairs c.args.front.now) c.at.ensures.rising (sym c.in-Some.is ∙ c.at.ensures.pair))

pub returns-in-Some-clause-small : goal.returns-in-Some-clause-small
returns-in-Some-clause-small g c = first_all IsPairOfSource c.args.ithreshold (g.T.Front.pairs c.args.front.now) c.at.ensures.small
