use Rattle.aia_regs.proofs.TableLemmas.{both_ways, no_register, at_most_one}
use Rattle.aia_regs.proofs.laws.domain_register_map.Goals as goal

pub returns : goal.returns
returns c = record { both_ways = both_ways; nothing = no_register; at_most_one = at_most_one }
