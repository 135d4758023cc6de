use Rattle.aia_pool.proofs.LeaseLemmas.{out_here, out_elsewhere}
use Rattle.aia_pool.proofs.laws.each_file_is_handed_out_by_itself.Goals as goal

pub returns-clause-own : goal.returns-clause-own
returns-clause-own c = out_here

pub returns-clause-others : goal.returns-clause-others
returns-clause-others c = out_elsewhere
