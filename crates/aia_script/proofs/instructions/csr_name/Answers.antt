use Rattle.std.proofs.Common.{rules}
use Rattle.aia_script.proofs.NameLemmas.{name_there}
use Rattle.aia_script.proofs.instructions.csr_name.Goals as goal

pub returns-then-eq : goal.returns-then-eq
returns-then-eq c = name_there c.csr_names-name-items.result.now c.loop-name.name-index _ _ c.args.csr c.loop-name-test.true
    (search (rules, c.if-eq.ensures)) c.loop-name.invariant
