use Rattle.std.proofs.Common.{sym, ap, subst, ◌∙◌, IfSome}
use Rattle.aia_regs.specs.Top.{topi_value}
use Rattle.aia_domain.specs.Domain.{IsPairOfSource, candidates}
use Rattle.aia_direct.specs.Idc.{IdcState}
use Rattle.aia_direct.specs.Front.{first_through}
use Rattle.aia_direct.proofs.TopLemmas.{top_is_first}
use Rattle.aia_direct.proofs.idc.topi_counted.Goals as goal

pub returns-clause-value : goal.returns-clause-value
returns-clause-value g c =
    c.front_search.ensures.top ∙ ap topi_value (
    ap (λ (x : IdcState). first_through x.ithreshold (candidates c.args.domain.now c.args.hart)) c.idc.view_is
    ∙ sym (top_is_first c.args.idc.now c.args.domain.now c.args.hart)
    )

pub returns-clause-small : goal.returns-clause-small
returns-clause-small g c = subst (λ o. IfSome o IsPairOfSource) (
    ap (λ (x : IdcState). first_through x.ithreshold (candidates c.args.domain.now c.args.hart)) c.idc.view_is
    ∙ sym (top_is_first c.args.idc.now c.args.domain.now c.args.hart)
    ) c.front_search.ensures.small
