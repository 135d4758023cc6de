use Rattle.std.proofs.Common.{ap, length}
use Rattle.plans_tests.proofs.uses.what_order_breaks_of_kvm.Goals as goal

pub returns-clause-read_early : goal.returns-clause-read_early
returns-clause-read_early c = ap (λ rules. length rules) c.orders_matter_to_kvm.ensures.read_early

pub returns-clause-zeroed_late : goal.returns-clause-zeroed_late
returns-clause-zeroed_late c = ap (λ rules. length rules) c.orders_matter_to_kvm.ensures.zeroed_late

pub returns-clause-put_over : goal.returns-clause-put_over
returns-clause-put_over c = ap (λ rules. length rules) c.orders_matter_to_kvm.ensures.put_over

pub returns-clause-told_early : goal.returns-clause-told_early
returns-clause-told_early c = ap (λ rules. length rules) c.orders_matter_to_kvm.ensures.told_early

pub returns-clause-untold : goal.returns-clause-untold
returns-clause-untold c = λ told. absurd (c.orders_matter_to_kvm.ensures.untold told)
