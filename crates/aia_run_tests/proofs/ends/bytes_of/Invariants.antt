use Rattle.aia_io.specs.Ends.{Gives}
use Rattle.aia_run_tests.proofs.ends.bytes_of.Given as goal

-- the bytes so far are what the source gave since the call
abbrev pub invariant-loop : goal.invariant-loop
invariant-loop g l = Gives (g.S.Source.supply l.fn.source) (g.S.Source.supply l.source) l.bytes.items
