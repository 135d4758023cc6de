use Rattle.std.proofs.Common.{sym, subst}
use Rattle.aia_replay.specs.Stands.{SendsNone}
use Rattle.aia_replay.proofs.MachineLemmas.{store_sends_none}
use Rattle.aia_replay.proofs.machine.may_send.Goals as goal

pub returns-in-Store : goal.returns-in-Store
returns-in-Store c = λ none. subst SendsNone (sym c.in-Store.is)
    (store_sends_none c.in-Store.addr _ c.domain_at.result c.domain_at.ensures c.is_some.result c.is_some.ensures none)
