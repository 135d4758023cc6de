-- The rows of plans, computed on the rules.
use Rattle.std.proofs.Common.{true, false, [], ◌∷◌, refl}
use Rattle.plans_rules.specs.declared.setting.NumberSpot.TheVariants.{InNew}
use Rattle.plans_rules.specs.declared.rule.Rule.TheVariants.{Routes, Words, Blank, Numbers, Freeing}
use Rattle.plans_rules.specs.Plans.{kvm_leave, kvm_arrive, kvm_shift, kvm_leave_with, kvm_arrive_with, kvm_shift_with, entry_led, kvm_producers, with_devices, kvm_moves, kvm_leaves}
use Rattle.plans_rules.specs.Rows.{widths, AreAccepted, BreakAlone, LeaveUntold, plainly, with_numbers, to_memory, unset, heeded, all_moved, break_routes, break_words, break_blank, break_numbers, break_freeing, break_freeing_with_numbers, looked_early, looked_first, posted_first, told_early, looked_last, written_late, written_last, told_shut, shut_again, copied_again, taken_back, unstored, unposted}
use Rattle.plans_rules.proofs.Untold.{looked_early_leaves_untold, looked_first_leaves_untold, posted_first_leaves_untold, told_early_leaves_untold, untold_leaves_untold, looked_last_leaves_untold, written_late_leaves_untold, written_last_leaves_untold, told_shut_leaves_untold, shut_again_leaves_untold, copied_again_leaves_untold, taken_back_leaves_untold, unposted_leaves_untold}

pub kvm_leave_rows : AreAccepted widths (kvm_leaves kvm_producers) kvm_leave
kvm_leave_rows = (refl, (refl, (refl, (refl, (refl, (refl, tt))))))

pub kvm_arrive_rows : AreAccepted widths (kvm_moves kvm_producers) kvm_arrive
kvm_arrive_rows = (refl, (refl, (refl, (refl, (refl, (refl, tt))))))

pub kvm_shift_rows : AreAccepted widths (kvm_moves kvm_producers) kvm_shift
kvm_shift_rows = (refl, (refl, (refl, (refl, (refl, (refl, tt))))))

pub mended_leave_rows : AreAccepted widths (kvm_leaves with_devices) (kvm_leave_with entry_led)
mended_leave_rows = (refl, (refl, (refl, (refl, (refl, (refl, tt))))))

pub mended_arrive_rows : AreAccepted widths (kvm_moves with_devices) (kvm_arrive_with entry_led)
mended_arrive_rows = (refl, (refl, (refl, (refl, (refl, (refl, tt))))))

pub mended_shift_rows : AreAccepted widths (kvm_moves with_devices) (kvm_shift_with entry_led)
mended_shift_rows = (refl, (refl, (refl, (refl, (refl, (refl, tt))))))

pub routes_rows : BreakAlone Routes (plainly true) break_routes
routes_rows = (refl, (refl, (refl, (refl, (refl, (refl, (refl, tt)))))))

pub words_rows : BreakAlone Words (plainly true) break_words
words_rows = (refl, (refl, (refl, (refl, (refl, (refl, (refl, (refl, (refl, tt)))))))))

pub blank_rows : BreakAlone Blank (plainly false) break_blank
blank_rows = (refl, tt)

pub numbers_rows : BreakAlone Numbers with_numbers break_numbers
numbers_rows = (refl, (refl, (refl, (refl, (refl, tt)))))

pub freeing_rows : BreakAlone Freeing (plainly true) break_freeing
freeing_rows = (refl, (refl, tt))

pub freeing_number_rows : BreakAlone Freeing with_numbers break_freeing_with_numbers
freeing_number_rows = (refl, (refl, tt))

pub notice_rows : LeaveUntold to_memory (looked_early ∷ looked_first ∷ posted_first ∷ told_early ∷ all_moved ∷ [])
notice_rows = (
  refl,
  looked_early_leaves_untold,
  (refl, looked_first_leaves_untold, (refl, posted_first_leaves_untold, (refl, told_early_leaves_untold, (refl, untold_leaves_untold, tt)))),
)

pub unset_rows : LeaveUntold unset (looked_last ∷ written_late ∷ written_last ∷ [])
unset_rows = (refl, looked_last_leaves_untold, (refl, written_late_leaves_untold, (refl, written_last_leaves_untold, tt)))

pub heeded_rows : LeaveUntold (heeded InNew) (told_shut ∷ shut_again ∷ [])
heeded_rows = (refl, told_shut_leaves_untold, (refl, shut_again_leaves_untold, tt))

pub copied_rows : LeaveUntold to_memory (copied_again ∷ [])
copied_rows = (refl, copied_again_leaves_untold, tt)

pub taken_rows : LeaveUntold to_memory (taken_back ∷ [])
taken_rows = (refl, taken_back_leaves_untold, tt)

pub unposted_rows : LeaveUntold unstored (unposted ∷ [])
unposted_rows = (refl, unposted_leaves_untold, tt)
