use Rattle.plans_rules.specs.Rows.{widths}
use Rattle.plans_rules.specs.Plans.{kvm_leaves, kvm_moves, with_devices, entry_led, kvm_leave_with, kvm_arrive_with, kvm_shift_with}
use Rattle.std.proofs.Common.{ap, length}
use Rattle.plans_tests.proofs.UseLemmas.{each_accepted}
use Rattle.plans_tests.proofs.uses.what_is_refused_of_kvm_with_devices.Goals as goal

pub returns-clause-leave : goal.returns-clause-leave
returns-clause-leave c = ap (λ rules. length rules) c.devices_want_their_entry_written.ensures.leave

pub returns-clause-arrive : goal.returns-clause-arrive
returns-clause-arrive c = ap (λ rules. length rules) c.devices_want_their_entry_written.ensures.arrive

pub returns-clause-shift : goal.returns-clause-shift
returns-clause-shift c = ap (λ rules. length rules) c.devices_want_their_entry_written.ensures.shift

pub returns-clause-mended_leave : goal.returns-clause-mended_leave
returns-clause-mended_leave c = each_accepted widths (kvm_leaves with_devices)
    (kvm_leave_with entry_led) c.devices_want_their_entry_written.ensures.mended_leave

pub returns-clause-mended_arrive : goal.returns-clause-mended_arrive
returns-clause-mended_arrive c = each_accepted widths (kvm_moves with_devices)
    (kvm_arrive_with entry_led) c.devices_want_their_entry_written.ensures.mended_arrive

pub returns-clause-mended_shift : goal.returns-clause-mended_shift
returns-clause-mended_shift c = each_accepted widths (kvm_moves with_devices)
    (kvm_shift_with entry_led) c.devices_want_their_entry_written.ensures.mended_shift
