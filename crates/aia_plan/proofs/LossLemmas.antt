-- A plan that loses something is not safe; and that the plans of the laws do.
use Rattle.std.proofs.Common.{◌≡◌, ℕ, zero, suc, ◌<◌, Bool, true, refl, sym, ◌∙◌, arith, lit<}
use Rattle.std.proofs.lemmas.List.Elements.{All-nil}
use Rattle.std.proofs.lemmas.Bool.{false≢true}
use Rattle.aia_plan.specs.Plan.{WrittenPlan, is_step}
use Rattle.aia_plan.specs.Rule.{stands}
use Rattle.aia_plan.specs.declared.step.Step.TheVariants.{Fence, GFence, TakeP, TakeE}
use Rattle.aia_plan.specs.Transit.{Flight, no_bits}
use Rattle.aia_plan.specs.Transit.TransitSide.{Old}
use Rattle.aia_plan.specs.Safe.{IsStart, IsMoved, IsSafe}
use Rattle.aia_plan.specs.Losses.{RunOf, end_of, Loses, Doubles, LosesEnable, begun, only, all_steps, fence_too_early, fence_too_early_run, gfence_too_early, gfence_too_early_run, taken_before_fence, taken_before_fence_run, taken_before_gfence, taken_before_gfence_run, taken_together, enables_put_twice, leave_without_notice, leave_by_remap, taken_again}
use Rattle.aia_plan.proofs.Behind.{Before}
use Rattle.aia_plan.proofs.RunKept.{left_is_safe}

-- ---- what is lost is not moved

moved : (words : ℕ) (plan : WrittenPlan) (i : ℕ) (r : RunOf words plan i) → IsSafe words plan → IsMoved words r.start (end_of r)
moved words plan i r safe = safe r.start r.run r.begins r.steps

pub lost_unsafe : (words : ℕ) (plan : WrittenPlan) (i : ℕ) → Loses words plan i → IsSafe words plan → ⊥
lost_unsafe words plan i (r, due, lost) safe = false≢true (sym lost ∙ (moved words plan i r safe).pending i r.within ∙ due)

pub doubled_unsafe : (words : ℕ) (plan : WrittenPlan) (i : ℕ) → Doubles words plan i → IsSafe words plan → ⊥
doubled_unsafe words plan i (r, due, doubled) safe = false≢true (sym due ∙ sym ((moved words plan i r safe).pending i r.within) ∙ doubled)

pub enable_unsafe : (words : ℕ) (plan : WrittenPlan) (i : ℕ) → LosesEnable words plan i → IsSafe words plan → ⊥
enable_unsafe words plan i (r, was, lost) safe = false≢true (sym lost ∙ (moved words plan i r safe).enabled i r.within ∙ was)

-- ---- runs

starts : (words : ℕ) (pending enabled : ℕ → Bool) → IsStart words (begun pending enabled)
starts words pending enabled = record {
  routes = record {
    entry_written = refl;
    entry_in_force = refl;
    record_written = refl;
    record_in_force = refl;
    flights =
        All-nil (λ (f : Flight). f.side ≡ Old);
  };
  no_pending = λ i inside. refl;
  no_enabled = λ i inside. refl;
  nothing_carried = λ bit. refl;
  no_enables_carried = λ bit. refl;
  due = λ i. refl;
}

pub fence_too_early_loses : Loses 1 fence_too_early 5
fence_too_early_loses = (
  record {
    start = begun no_bits no_bits;
    run = fence_too_early_run;
    begins = starts 1 no_bits no_bits;
    steps = refl;
    within = omega arith;
  },
  refl,
  refl,
)

pub gfence_too_early_loses : Loses 1 gfence_too_early 5
gfence_too_early_loses = (
  record {
    start = begun no_bits no_bits;
    run = gfence_too_early_run;
    begins = starts 1 no_bits no_bits;
    steps = refl;
    within = omega arith;
  },
  refl,
  refl,
)

pub taken_before_fence_loses : Loses 1 taken_before_fence 5
taken_before_fence_loses = (
  record {
    start = begun no_bits no_bits;
    run = taken_before_fence_run;
    begins = starts 1 no_bits no_bits;
    steps = refl;
    within = omega arith;
  },
  refl,
  refl,
)

pub taken_before_gfence_loses : Loses 1 taken_before_gfence 5
taken_before_gfence_loses = (
  record {
    start = begun no_bits no_bits;
    run = taken_before_gfence_run;
    begins = starts 1 no_bits no_bits;
    steps =
        refl;
    within = omega arith;
  },
  refl,
  refl,
)

pub taken_together_loses : Loses 2 taken_together 69
taken_together_loses = (
  record {
    start = begun (only 69) no_bits;
    run = all_steps taken_together;
    begins = starts 2 (only 69) no_bits;
    steps =
        refl;
    within = omega arith;
  },
  refl,
  refl,
)

pub taken_together_doubles : Doubles 2 taken_together 5
taken_together_doubles = (
  record {
    start = begun (only 69) no_bits;
    run = all_steps taken_together;
    begins = starts 2 (only 69) no_bits;
    steps =
        refl;
    within = omega arith;
  },
  refl,
  refl,
)

pub enables_put_twice_loses : LosesEnable 1 enables_put_twice 5
enables_put_twice_loses = (
  record {
    start = begun no_bits (only 5);
    run = all_steps enables_put_twice;
    begins = starts 1 no_bits (only 5);
    steps =
        refl;
    within = omega arith;
  },
  refl,
  refl,
)

-- ---- plans that are refused, and safe

low : (P : ℕ → Type 0) → P 0 → (w : ℕ) → w < 1 → P w
low P first zero inside = first
low P first (suc w) inside = absurd (omega arith)

pub leave_without_notice_is_safe : IsSafe 1 leave_without_notice
leave_without_notice_is_safe =
    left_is_safe 1 leave_without_notice
    (record {
      one_word0 = refl;
      one_fence = refl;
      one_gfence = refl;
      one_record = refl;
      word0_first = refl;
      record_first = refl;
      fence_first = low (λ w. Before (is_step Fence) (is_step (TakeP w)) leave_without_notice) refl;
      gfence_first = low (λ w. Before (is_step GFence) (is_step (TakeP w)) leave_without_notice) refl;
      one_enables = low (λ w. Before (is_step (TakeE w)) (is_step (TakeE w)) leave_without_notice) refl;
      inside = (tt, (tt, (tt, (tt, (tt, (lit< tt, (lit< tt, (lit< tt, (lit< tt, (tt, (tt, tt)))))))))));
      pending_paired = refl;
      enables_paired = refl;
    })
    (record {
      word0 = refl;
      fence = refl;
      record_step = refl;
      gfence = refl;
      pending = low (λ w. stands (TakeP w) leave_without_notice ≡ true) refl;
      enables = low (λ w. stands (TakeE w) leave_without_notice ≡ true) refl;
    })

pub leave_by_remap_is_safe : IsSafe 1 leave_by_remap
leave_by_remap_is_safe =
    left_is_safe 1 leave_by_remap
    (record {
      one_word0 = refl;
      one_fence = refl;
      one_gfence = refl;
      one_record = refl;
      word0_first = refl;
      record_first = refl;
      fence_first = low (λ w. Before (is_step Fence) (is_step (TakeP w)) leave_by_remap) refl;
      gfence_first = low (λ w. Before (is_step GFence) (is_step (TakeP w)) leave_by_remap) refl;
      one_enables = low (λ w. Before (is_step (TakeE w)) (is_step (TakeE w)) leave_by_remap) refl;
      inside = (tt, (tt, (tt, (tt, (tt, (tt, (lit< tt, (lit< tt, (lit< tt, (lit< tt, (tt, (tt, tt))))))))))));
      pending_paired = refl;
      enables_paired = refl;
    })
    (record {
      word0 = refl;
      fence = refl;
      record_step = refl;
      gfence = refl;
      pending = low (λ w. stands (TakeP w) leave_by_remap ≡ true) refl;
      enables = low (λ w. stands (TakeE w) leave_by_remap ≡ true) refl;
    })

pub taken_again_is_safe : IsSafe 1 taken_again
taken_again_is_safe =
    left_is_safe 1 taken_again
    (record {
      one_word0 = refl;
      one_fence = refl;
      one_gfence = refl;
      one_record = refl;
      word0_first = refl;
      record_first = refl;
      fence_first = low (λ w. Before (is_step Fence) (is_step (TakeP w)) taken_again) refl;
      gfence_first = low (λ w. Before (is_step GFence) (is_step (TakeP w)) taken_again) refl;
      one_enables = low (λ w. Before (is_step (TakeE w)) (is_step (TakeE w)) taken_again) refl;
      inside = (tt, (tt, (tt, (tt, (lit< tt, (lit< tt, (lit< tt, (lit< tt, (lit< tt, (lit< tt, (tt, (tt, tt))))))))))));
      pending_paired = refl;
      enables_paired = refl;
    })
    (record {
      word0 = refl;
      fence = refl;
      record_step = refl;
      gfence = refl;
      pending = low (λ w. stands (TakeP w) taken_again ≡ true) refl;
      enables = low (λ w. stands (TakeE w) taken_again ≡ true) refl;
    })
