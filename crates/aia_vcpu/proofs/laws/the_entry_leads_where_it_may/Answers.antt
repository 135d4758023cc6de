use Rattle.aia_vcpu.proofs.RouteLemmas.{names_reach, reach_on, reach_fence, reach_fenced, reach_ended, reach_lands, peers_may, reach_drained}
use Rattle.aia_vcpu.proofs.laws.the_entry_leads_where_it_may.Goals as goal

pub returns-clause-named : goal.returns-clause-named
returns-clause-named c = names_reach

pub returns-clause-other_step : goal.returns-clause-other_step
returns-clause-other_step c = reach_on

pub returns-clause-fence : goal.returns-clause-fence
returns-clause-fence c = reach_fence

pub returns-clause-fenced : goal.returns-clause-fenced
returns-clause-fenced c = reach_fenced

pub returns-clause-last : goal.returns-clause-last
returns-clause-last c = reach_ended

pub returns-clause-lands : goal.returns-clause-lands
returns-clause-lands c = reach_lands

pub returns-clause-peers : goal.returns-clause-peers
returns-clause-peers c = peers_may

pub returns-clause-drained : goal.returns-clause-drained
returns-clause-drained c = reach_drained
