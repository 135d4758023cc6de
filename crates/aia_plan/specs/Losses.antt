-- Runs after which an interrupt is lost, or was never asked for, or an enable is lost; plans that
-- look right and have such runs; and plans that the rule refuses though they are safe. Vocabulary:
-- the laws of this crate speak of them.
use Rattle.std.specs.Prelude.{◌≡◌, ℕ, ◌/◌, ◌<◌, Bool, true, false, not, ◌&&◌, nat_eq, List, [], ◌∷◌, ◌++◌, map}
use Rattle.aia_plan.specs.Plan.{WrittenPlan}
use Rattle.aia_plan.specs.Rule.{parts_kept}
use Rattle.aia_plan.specs.declared.step.Kind.{Kind}
use Rattle.aia_plan.specs.Transit.{Transit, Happening, is_identity, no_bits, all_happened, steps_in}
use Rattle.aia_plan.specs.Transit.TransitSide.{Old}
use Rattle.aia_plan.specs.Transit.Happening.{Does, Stores, PeerStores}
use Rattle.aia_plan.specs.Safe.{IsStart}
use Rattle.aia_plan.specs.declared.step.Step.TheVariants.{Quiet, Word1, Word0, Fence, Map, Unmap, Remap, GFence, TakeP, PutP, TakeE, PutE, TakeT, PutT, Post, Wake}

-- A plan of a move fails just one part of the rule.
abbrev pub FailsAlone : ℕ → Kind → ℕ → WrittenPlan → Type 0
FailsAlone part kind words plan =
    parts_kept kind words plan ≡ map (λ p. not (nat_eq p part)) (1 ∷ 2 ∷ 3 ∷ 4 ∷ [])

-- A run of a plan, and what is left at its end of an identity of a file of so many words.
pub record RunOf (words : ℕ) (plan : WrittenPlan) (i : ℕ) : Type 0 where
  pub start : Transit
  pub run : List Happening
  pub begins : IsStart words start
  pub steps : steps_in run ≡ plan
  pub within : i / 64 < words

abbrev pub end_of : {words : ℕ} {plan : WrittenPlan} {i : ℕ} → RunOf words plan i → Transit
end_of r = all_happened r.run r.start

-- An interrupt is lost: it is due, and is not pending in the new place.
abbrev pub Loses : ℕ → WrittenPlan → ℕ → Type 0
Loses words plan i =
    (r : RunOf words plan i) × ((end_of r).due i ≡ true) × ((end_of r).new_pending i ≡ false)

-- An interrupt is doubled: it is pending in the new place, and is not due.
abbrev pub Doubles : ℕ → WrittenPlan → ℕ → Type 0
Doubles words plan i =
    (r : RunOf words plan i) × ((end_of r).due i ≡ false) × ((end_of r).new_pending i ≡ true)

-- An enable is lost: the identity was enabled at the start, and is not in the new place.
abbrev pub LosesEnable : ℕ → WrittenPlan → ℕ → Type 0
LosesEnable words plan i =
    (r : RunOf words plan i) × ((is_identity i && r.start.old_enabled i) ≡ true)
    × ((end_of r).new_enabled i ≡ false)

-- ---- starts

-- A start with these identities pending and enabled, and no store in flight.
abbrev pub begun : (ℕ → Bool) → (ℕ → Bool) → Transit
begun pending enabled = record {
  old_pending = pending;
  old_enabled = enabled;
  new_pending = no_bits;
  new_enabled = no_bits;
  carried_pending = no_bits;
  carried_enables = no_bits;
  entry_written = Old;
  entry_in_force = Old;
  record_written = Old;
  record_in_force = Old;
  flights = [];
  due = λ i. is_identity i && pending i;
}

-- The set that has one identity.
abbrev pub only : ℕ → ℕ → Bool
only x i = nat_eq x i

-- Each step of a plan, and nothing between.
abbrev pub all_steps : WrittenPlan → List Happening
all_steps [] = []
all_steps (step ∷ later) = Does step ∷ all_steps later

-- ---- plans of an arrival that look right

-- The enables of word 0 are moved, and the file is woken.
abbrev pub enables_and_wake : WrittenPlan
enables_and_wake = TakeE 0 ∷ PutE 0 ∷ PutT ∷ Wake ∷ []

-- The fence comes before what it is to put in force.
abbrev pub fence_too_early : WrittenPlan
fence_too_early = Fence ∷ Word0 ∷ Map ∷ GFence ∷ TakeP 0 ∷ PutP 0 ∷ enables_and_wake

abbrev pub fence_too_early_run : List Happening
fence_too_early_run =
    all_steps (Fence ∷ Word0 ∷ Map ∷ GFence ∷ TakeP 0 ∷ []) ++ Stores 5 ∷ []
    ++ all_steps (PutP 0 ∷ enables_and_wake)

-- So does the G fence.
abbrev pub gfence_too_early : WrittenPlan
gfence_too_early = Word0 ∷ Fence ∷ GFence ∷ Map ∷ TakeP 0 ∷ PutP 0 ∷ enables_and_wake

abbrev pub gfence_too_early_run : List Happening
gfence_too_early_run =
    all_steps (Word0 ∷ Fence ∷ GFence ∷ Map ∷ TakeP 0 ∷ []) ++ PeerStores 5 ∷ []
    ++ all_steps (PutP 0 ∷ enables_and_wake)

-- The pending word is taken while devices still reach the old place.
abbrev pub taken_before_fence : WrittenPlan
taken_before_fence = Word0 ∷ Map ∷ GFence ∷ TakeP 0 ∷ PutP 0 ∷ Fence ∷ enables_and_wake

abbrev pub taken_before_fence_run : List Happening
taken_before_fence_run =
    all_steps (Word0 ∷ Map ∷ GFence ∷ TakeP 0 ∷ []) ++ Stores 5 ∷ []
    ++ all_steps (PutP 0 ∷ Fence ∷ enables_and_wake)

-- It is taken while other virtual harts still do.
abbrev pub taken_before_gfence : WrittenPlan
taken_before_gfence = Word0 ∷ Fence ∷ Map ∷ TakeP 0 ∷ PutP 0 ∷ GFence ∷ enables_and_wake

abbrev pub taken_before_gfence_run : List Happening
taken_before_gfence_run =
    all_steps (Word0 ∷ Fence ∷ Map ∷ TakeP 0 ∷ []) ++ PeerStores 5 ∷ []
    ++ all_steps (PutP 0 ∷ GFence ∷ enables_and_wake)

-- Both pending words of a file of two are taken, and then put.
abbrev pub taken_together : WrittenPlan
taken_together =
    Word0 ∷ Fence ∷ Map ∷ GFence ∷ TakeP 0 ∷ TakeP 1 ∷ PutP 0 ∷ PutP 1
    ∷ TakeE 1 ∷ PutE 1 ∷ enables_and_wake

-- The enables are put a second time.
abbrev pub enables_put_twice : WrittenPlan
enables_put_twice = Word0 ∷ Fence ∷ Map ∷ GFence ∷ TakeP 0 ∷ PutP 0 ∷ TakeE 0 ∷ PutE 0
    ∷ PutE 0 ∷ PutT ∷ Wake ∷ []

-- ---- plans that the rule refuses, though they are safe

-- A leave that does not say where notices go; one that writes the record by the step of a shift.
abbrev pub leave_without_notice : WrittenPlan
leave_without_notice = Quiet ∷ Word0 ∷ Fence ∷ Unmap ∷ GFence ∷ TakeP 0 ∷ PutP 0
    ∷ TakeE 0 ∷ PutE 0 ∷ TakeT ∷ Post ∷ []

abbrev pub leave_by_remap : WrittenPlan
leave_by_remap = Quiet ∷ Word1 ∷ Word0 ∷ Fence ∷ Remap ∷ GFence ∷ TakeP 0 ∷ PutP 0
    ∷ TakeE 0 ∷ PutE 0 ∷ TakeT ∷ Post ∷ []

-- A pending word is taken and put again, when nothing can be left of it.
abbrev pub taken_again : WrittenPlan
taken_again = Word0 ∷ Fence ∷ Map ∷ GFence ∷ TakeP 0 ∷ PutP 0 ∷ TakeP 0 ∷ PutP 0
    ∷ enables_and_wake
