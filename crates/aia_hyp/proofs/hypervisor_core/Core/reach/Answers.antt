use Rattle.std.proofs.Common.{sym, ◌∙◌}
use Rattle.aia_hyp_values.proofs.PageLemmas.{host_is_free}
use Rattle.aia_hyp.proofs.hypervisor_core.Core.reach.Goals as goal

pub returns-then-is_host-clause-refused : goal.returns-then-is_host-clause-refused
returns-then-is_host-clause-refused c =
    rw (← c.self.view_is) (host_is_free c.self.inside.fabric.imsic c.args.addr c.locate-spot.result c.locate-spot.ensures.few.0
    c.locate-spot.ensures.spot (sym c.is_host.ensures ∙ c.if-is_host.true) c.if-addr-ne0.false)
