use Rattle.plans_rules.specs.Rows.{widths}
use Rattle.plans_rules.specs.Plans.{kvm_leaves, kvm_moves, kvm_producers, kvm_leave, kvm_arrive, kvm_shift}
use Rattle.plans_tests.proofs.UseLemmas.{each_accepted}
use Rattle.plans_tests.proofs.uses.what_is_accepted_of_kvm.Goals as goal

pub returns-clause-leave : goal.returns-clause-leave
returns-clause-leave c = each_accepted widths (kvm_leaves kvm_producers) kvm_leave c.the_plans_of_kvm_keep_the_rules.ensures.leave

pub returns-clause-arrive : goal.returns-clause-arrive
returns-clause-arrive c = each_accepted widths (kvm_moves kvm_producers) kvm_arrive c.the_plans_of_kvm_keep_the_rules.ensures.arrive

pub returns-clause-shift : goal.returns-clause-shift
returns-clause-shift c = each_accepted widths (kvm_moves kvm_producers) kvm_shift c.the_plans_of_kvm_keep_the_rules.ensures.shift
