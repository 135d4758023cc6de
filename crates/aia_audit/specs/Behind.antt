-- What the checker keeps of the steps after a step, while it reads a plan from its end.
-- Vocabulary.
use Rattle.std.specs.Prelude.{ℕ, Bool, true, false, not, ◌&&◌, List, [], ◌∷◌, Option, Some, None}
use Rattle.std.specs.List.{list_any, list_all}
use Rattle.aia_regs.specs.declared.limits.TheConstants.{FILE_WORDS}
use Rattle.aia_word.specs.Sets.{word_of}
use Rattle.aia_plan.specs.Plan.{WrittenPlan, is_step}
use Rattle.aia_plan.specs.Rule.{is_record, names, stands, other_records, is_same, takes_pending, puts_pending, takes_enables, puts_enables}
use Rattle.aia_plan.specs.declared.step.Kind.{Kind}
use Rattle.aia_plan.specs.declared.step.Kind.TheVariants as kinds
use Rattle.aia_plan.specs.declared.step.Step.{Step}
use Rattle.aia_plan.specs.declared.step.Step.TheVariants.{Word1, Word0, Fence, GFence}
use Rattle.aia_audit.specs.declared.behind.Behind.{Behind}
use Rattle.aia_audit.specs.declared.routes.Routes.{Routes}
use Rattle.aia_audit.specs.declared.takes.Takes.{Takes}

-- ---- the steps that turn the routes

-- Whether a step of a plan writes the G-stage record.
abbrev pub has_record : WrittenPlan → Bool
has_record plan = list_any is_record plan

-- Pairs of tests: a step that passes the second must have none after it that passes the first. So
-- a step stands once, and one comes before another.
abbrev pub orders : List ((Step → Bool) × (Step → Bool))
orders =
    (is_step Word1, is_step Word1) ∷ (is_step Word1, is_step Word0)
    ∷ (is_step Word0, is_step Word0) ∷ (is_step Word0, is_step Fence)
    ∷ (is_step Fence, is_step Fence) ∷ (is_record, is_record)
    ∷ (is_record, is_step GFence) ∷ (is_step GFence, is_step GFence) ∷ []

-- Whether a step may stand before others.
abbrev pub fits_before : Step → WrittenPlan → Bool
fits_before x later = list_all (λ pair. not (pair.1 x && list_any pair.0 later)) orders

-- Whether each step of a plan may stand before those after it.
abbrev pub are_in_order : WrittenPlan → Bool
are_in_order [] = true
are_in_order (x ∷ later) = are_in_order later && fits_before x later

-- Whether a move of a kind says where notices go.
abbrev pub is_leave : Kind → Bool
is_leave kinds.Leave = true
is_leave kind = false

-- What is kept of the steps that turn the routes.
abbrev pub routes_behind : Kind → WrittenPlan → Routes
routes_behind kind plan = record {
  word1 = stands Word1 plan;
  word0 = stands Word0 plan;
  fence = stands Fence plan;
  any_record = has_record plan;
  other_record = list_any (λ step. stands step plan) (other_records kind);
  gfence = stands GFence plan;
  in_order = are_in_order plan;
}

-- ---- the steps that take and put words of a set

-- Whether a step of a plan takes word w.
abbrev pub is_taken : (Step → Option ℕ) → ℕ → WrittenPlan → Bool
is_taken takes w plan = list_any (λ x. names (takes x) w) plan

-- Whether a step may stand before those after it, by the word that it takes, if it takes one: a
-- test of them lets it, and none of them takes that word again.
abbrev pub may_take : Option ℕ → Bool → (ℕ → Bool) → Bool
may_take None may again = true
may_take (Some w) may again = may && not (again w)

-- Whether each step of a plan that takes a word may stand before those after it.
abbrev pub all_may_take : (Step → Option ℕ) → (WrittenPlan → Bool) → WrittenPlan → Bool
all_may_take takes may [] = true
all_may_take takes may (x ∷ later) =
    may_take (takes x) (may later) (λ w. is_taken takes w later) && all_may_take takes may later

-- The word that the first step puts.
abbrev pub first_put : (Step → Option ℕ) → WrittenPlan → Option ℕ
first_put puts [] = None
first_put puts (x ∷ later) = puts x

-- Whether each step that takes a word has one that puts it right after it, and no other step but
-- the first puts one.
abbrev pub are_paired_behind : (Step → Option ℕ) → (Step → Option ℕ) → WrittenPlan → Bool
are_paired_behind takes puts [] = true
are_paired_behind takes puts (x ∷ later) =
    is_same (takes x) (first_put puts later) && are_paired_behind takes puts later

-- What is kept of the steps that take and put words of a set.
abbrev pub takes_behind : (Step → Option ℕ) → (Step → Option ℕ) → (WrittenPlan → Bool)
    → WrittenPlan → Takes
takes_behind takes puts may plan = record {
  taken = word_of (λ w. is_taken takes w plan) 0 FILE_WORDS;
  in_order = all_may_take takes may plan;
  put = first_put puts plan;
  is_paired = are_paired_behind takes puts plan;
}

-- Pending words may be taken where no fence is after.
abbrev pub is_late : WrittenPlan → Bool
is_late later = not (stands Fence later) && not (stands GFence later)

-- Enables may be taken before all steps.
abbrev pub is_any_time : WrittenPlan → Bool
is_any_time later = true

-- What is kept of the steps about pending words.
abbrev pub pending_behind : WrittenPlan → Takes
pending_behind = takes_behind takes_pending puts_pending is_late

-- What is kept of those about enables.
abbrev pub enables_behind : WrittenPlan → Takes
enables_behind = takes_behind takes_enables puts_enables is_any_time

-- ---- all of it

-- All that is kept.
abbrev pub behind : Kind → WrittenPlan → Behind
behind kind plan = record {
  routes = routes_behind kind plan;
  pending = pending_behind plan;
  enables = enables_behind plan;
}
