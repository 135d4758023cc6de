-- The rule that a plan has to keep, in four parts. That a plan which keeps it is safe (module Safe)
-- is proved: so nobody has to believe the rule. Profile.
use Rattle.std.specs.Prelude.{ℕ, zero, suc, Bool, true, false, not, ◌&&◌, ◌||◌, nat_eq, if◌then◌else◌, List, [], ◌∷◌, Option, Some, None}
use Rattle.std.specs.List.{list_any, list_all}
use Rattle.aia_plan.specs.Plan.{WrittenPlan, is_step}
use Rattle.aia_plan.specs.declared.step.Kind.{Kind}
use Rattle.aia_plan.specs.declared.step.Kind.TheVariants as kinds
use Rattle.aia_plan.specs.declared.step.Step.{Step}
use Rattle.aia_plan.specs.declared.step.Step.TheVariants.{Word1, Word0, Fence, Map, Unmap, Remap, GFence, TakeP, PutP, TakeE, PutE}

-- ---- how often a step stands, and in which order

-- Whether a step writes the G-stage record.
abbrev pub is_record : Step → Bool
is_record x = is_step Map x || (is_step Unmap x || is_step Remap x)

-- Whether a step stands in a plan; never; exactly once.
abbrev pub stands : Step → WrittenPlan → Bool
stands step plan = list_any (is_step step) plan

abbrev pub is_never : Step → WrittenPlan → Bool
is_never step plan = not (stands step plan)

abbrev pub is_once : Step → WrittenPlan → Bool
is_once step [] = false
is_once step (x ∷ later) = if is_step step x then is_never step later else is_once step later

-- Whether the second of two steps never stands before the first: so, where each stands once, the
-- first comes before the second.
abbrev pub comes_before : Step → Step → WrittenPlan → Bool
comes_before first second [] = true
comes_before first second (x ∷ later) =
    not (is_step second x && stands first later) && comes_before first second later

-- Whether all numbers below one pass.
abbrev pub all_below : (ℕ → Bool) → ℕ → Bool
all_below passes zero = true
all_below passes (suc count) = passes count && all_below passes count

-- ---- part 1: the routes are turned

-- The step by which a move of each kind writes the G-stage record, and those of the other kinds.
abbrev pub own_record : Kind → Step
own_record kinds.Leave = Unmap
own_record kinds.Arrive = Map
own_record kinds.Shift = Remap

abbrev pub other_records : Kind → List Step
other_records kinds.Leave = Map ∷ Remap ∷ []
other_records kinds.Arrive = Unmap ∷ Remap ∷ []
other_records kinds.Shift = Map ∷ Unmap ∷ []

-- A leave says where notices go, once, before the entry leads to memory; no other move does.
abbrev pub names_notice : Kind → WrittenPlan → Bool
names_notice kinds.Leave plan = is_once Word1 plan && comes_before Word1 Word0 plan
names_notice kind plan = is_never Word1 plan

-- The entry and the G-stage record are each written once and then put in force once.
abbrev pub turns_routes : Kind → WrittenPlan → Bool
turns_routes kind plan =
    is_once Word0 plan && is_once Fence plan && comes_before Word0 Fence plan
    && is_once (own_record kind) plan && list_all (λ step. is_never step plan) (other_records kind)
    && is_once GFence plan && comes_before (own_record kind) GFence plan
    && names_notice kind plan

-- ---- part 2: the pending words are taken late

-- Each pending word is taken once, after both fences.
abbrev pub takes_late : ℕ → WrittenPlan → Bool
takes_late words plan =
    all_below (λ w. is_once (TakeP w) plan && comes_before Fence (TakeP w) plan
    && comes_before GFence (TakeP w) plan) words

-- ---- parts 3 and 4: what is taken is put

-- Whether a word is the one that is there.
abbrev pub names : Option ℕ → ℕ → Bool
names None w = false
names (Some v) w = nat_eq v w

-- The word of the pending set, or of the enabled set, that a step takes; that it puts.
abbrev pub takes_pending : Step → Option ℕ
takes_pending (TakeP w) = Some w
takes_pending step = None

abbrev pub puts_pending : Step → Option ℕ
puts_pending (PutP w) = Some w
puts_pending step = None

abbrev pub takes_enables : Step → Option ℕ
takes_enables (TakeE w) = Some w
takes_enables step = None

abbrev pub puts_enables : Step → Option ℕ
puts_enables (PutE w) = Some w
puts_enables step = None

-- Whether two words are one, or neither is there.
abbrev pub is_same : Option ℕ → Option ℕ → Bool
is_same None None = true
is_same (Some v) (Some w) = nat_eq v w
is_same v w = false

-- Whether each step that takes a word is followed at once by one that puts it, and no other step
-- puts one; given the word that the step before the first took.
abbrev pub are_paired : (Step → Option ℕ) → (Step → Option ℕ) → Option ℕ → WrittenPlan → Bool
are_paired takes puts taken [] = is_same taken None
are_paired takes puts taken (x ∷ later) =
    is_same taken (puts x) && are_paired takes puts (takes x) later

-- Part 3: each pending word that is taken is put at once, and no other is put.
abbrev pub puts_at_once : WrittenPlan → Bool
puts_at_once plan = are_paired takes_pending puts_pending None plan

-- Part 4: each word of the enables is taken once, and put at once, and no other is put.
abbrev pub moves_enables : ℕ → WrittenPlan → Bool
moves_enables words plan =
    all_below (λ w. is_once (TakeE w) plan) words
    && are_paired takes_enables puts_enables None plan

-- ---- the rule

-- The number of the first of several tests that fails, counted from a number on; None where all
-- hold.
abbrev pub first_failing : ℕ → List Bool → Option ℕ
first_failing part [] = None
first_failing part (holds ∷ later) = if holds then first_failing (suc part) later else Some part

-- Of each part, whether the plan of a move of a kind between files of so many words keeps it.
abbrev pub parts_kept : Kind → ℕ → WrittenPlan → List Bool
parts_kept kind words plan =
    turns_routes kind plan ∷ takes_late words plan ∷ puts_at_once plan
    ∷ moves_enables words plan ∷ []

-- The least part of the rule that a plan fails; None where it keeps the rule.
abbrev pub failing : Kind → ℕ → WrittenPlan → Option ℕ
failing kind words plan = first_failing 1 (parts_kept kind words plan)
