-- Part 1 of the rule, as the checker tells it.
use Rattle.std.proofs.Common.{◌≡◌, Bool, true, false, not, ◌&&◌, ◌||◌, List, [], ◌∷◌, refl, sym, ap, ◌∙◌}
use Rattle.std.specs.List.{list_any, list_all}
use mathlib.Core.Bool.{beq}
use Rattle.std.proofs.lemmas.Bool.{and_parts, and_from, not-true, false≢true}
use Rattle.aia_plan.specs.declared.step.Kind.{Kind}
use Rattle.aia_plan.specs.declared.step.Kind.TheVariants.{Leave, Arrive, Shift}
use Rattle.aia_plan.specs.declared.step.Step.{Step}
use Rattle.aia_plan.specs.declared.step.Step.TheVariants.{Word1, Word0, Fence, GFence}
use Rattle.aia_plan.specs.Plan.{WrittenPlan, is_step}
use Rattle.aia_plan.specs.Rule.{stands, is_once, comes_before, own_record, other_records, names_notice, turns_routes, is_record}
use Rattle.aia_plan.proofs.Behind.{before, Before}
use Rattle.aia_plan.proofs.RuleIsSafe.{comes_before-before, none_before, once_is, once_stands, once_before, in_order, NoOther, any_record, record_before_record, record_before, all_turns}
use Rattle.aia_audit.specs.Behind.{has_record, orders, fits_before, are_in_order, is_leave}
use Rattle.aia_word.proofs.SetLemmas.{both_ways}

-- ---- all pairs in order

-- a test of each member that is two tests
both_all : {X : Type 0} (p q : X → Bool) (xs : List X) → list_all (λ x. p x && q x) xs ≡ (list_all q xs && list_all p xs)
both_all p q [] = refl
both_all p q (x ∷ xs) = ap (λ b. (p x && q x) && b) (both_all p q xs) ∙ exchange (p x) (q x) (list_all q xs) (list_all p xs)
  where
    exchange : (a b c d : Bool) → ((a && b) && (c && d)) ≡ ((b && c) && (a && d))
    exchange true true c d = refl
    exchange true false c d = refl
    exchange false true true d = refl
    exchange false true false d = refl
    exchange false false c d = refl

pub in_order_is : (plan : WrittenPlan) → are_in_order plan ≡ list_all (λ pair. before pair.0 pair.1 plan) orders
in_order_is [] = refl
in_order_is (x ∷ later) =
    ap (λ b. b && fits_before x later) (in_order_is later)
    ∙ sym (both_all (λ pair. not (pair.1 x && list_any pair.0 later)) (λ pair. before pair.0 pair.1 later) orders)

-- what that says of each pair
pub record Ordered (plan : WrittenPlan) : Type 0 where
  pub one_word1 : Before (is_step Word1) (is_step Word1) plan
  pub word1_first : Before (is_step Word1) (is_step Word0) plan
  pub one_word0 : Before (is_step Word0) (is_step Word0) plan
  pub word0_first : Before (is_step Word0) (is_step Fence) plan
  pub one_fence : Before (is_step Fence) (is_step Fence) plan
  pub one_record : Before is_record is_record plan
  pub record_first : Before is_record (is_step GFence) plan
  pub one_gfence : Before (is_step GFence) (is_step GFence) plan

all_ordered : (plan : WrittenPlan) → are_in_order plan ≡ true → Ordered plan
all_ordered plan e =
    let p1 = and_parts (before (is_step Word1) (is_step Word1) plan) _ (sym (in_order_is plan) ∙ e) in
    let p2 = and_parts (before (is_step Word1) (is_step Word0) plan) _ p1.1 in
    let p3 = and_parts (before (is_step Word0) (is_step Word0) plan) _ p2.1 in
    let p4 = and_parts (before (is_step Word0) (is_step Fence) plan) _ p3.1 in
    let p5 = and_parts (before (is_step Fence) (is_step Fence) plan) _ p4.1 in
    let p6 = and_parts (before is_record is_record plan) _ p5.1 in
    let p7 = and_parts (before is_record (is_step GFence) plan) _ p6.1 in
    let p8 = and_parts (before (is_step GFence) (is_step GFence) plan) true p7.1 in
    record {
      one_word1 = p1.0;
      word1_first = p2.0;
      one_word0 = p3.0;
      word0_first = p4.0;
      one_fence = p5.0;
      one_record = p6.0;
      record_first = p7.0;
      one_gfence = p8.0;
    }

so_in_order : (plan : WrittenPlan) → Ordered plan → are_in_order plan ≡ true
so_in_order plan o =
    in_order_is plan
    ∙ and_from _ _ o.one_word1 (and_from _ _ o.word1_first (and_from _ _ o.one_word0 (and_from _ _ o.word0_first
    (and_from _ _ o.one_fence (and_from _ _ o.one_record (and_from _ _ o.record_first (and_from _ true o.one_gfence refl)))))))

-- ---- what else it says

once_from : (step : Step) (plan : WrittenPlan) → stands step plan ≡ true → Before (is_step step) (is_step step) plan → is_once step plan ≡ true
once_from step plan there once = once_is step plan ∙ and_from _ _ there (comes_before-before step step plan ∙ once)

none_all : {X : Type 0} (p : X → Bool) (xs : List X) → not (list_any p xs) ≡ list_all (λ x. not (p x)) xs
none_all p [] = refl
none_all p (x ∷ xs) = neither (p x) (list_any p xs) ∙ ap (λ b. not (p x) && b) (none_all p xs)
  where
    neither : (a b : Bool) → not (a || b) ≡ (not a && not b)
    neither true b = refl
    neither false b = refl

same_tests : (a b : Bool) → beq a b ≡ true → a ≡ b
same_tests true true e = refl
same_tests false false e = refl
same_tests true false e = absurd (false≢true e)
same_tests false true e = absurd (false≢true e)

same_itself : (a b : Bool) → a ≡ b → beq a b ≡ true
same_itself true true e = refl
same_itself false false e = refl
same_itself true false e = absurd (false≢true (sym e))
same_itself false true e = absurd (false≢true e)

notice_named : (kind : Kind) (plan : WrittenPlan) → stands Word1 plan ≡ is_leave kind → Ordered plan → names_notice kind plan ≡ true
notice_named Leave plan there o = and_from _ _ (once_from Word1 plan there o.one_word1) (comes_before-before Word1 Word0 plan ∙ o.word1_first)
notice_named Arrive plan there o = ap not there
notice_named Shift plan there o = ap not there

pub record Notice (kind : Kind) (plan : WrittenPlan) : Type 0 where
  pub there : stands Word1 plan ≡ is_leave kind
  pub once : Before (is_step Word1) (is_step Word1) plan
  pub first : Before (is_step Word1) (is_step Word0) plan

never_there : (plan : WrittenPlan) → not (stands Word1 plan) ≡ true → (stands Word1 plan ≡ false)
never_there plan e = not-true (stands Word1 plan) e

notice_told : (kind : Kind) (plan : WrittenPlan) → names_notice kind plan ≡ true → Notice kind plan
notice_told Leave plan e =
    let both = and_parts (is_once Word1 plan) (comes_before Word1 Word0 plan) e in
    record { there = once_stands Word1 plan both.0; once = once_before Word1 plan both.0; first = in_order Word1 Word0 plan both.1 }
notice_told Arrive plan e = record {
  there = never_there plan e;
  once = in_order Word1 Word1 plan (none_before Word1 Word1 plan (never_there plan e));
  first = in_order Word1 Word0 plan (none_before Word1 Word0 plan (never_there plan e));
}
notice_told Shift plan e = record {
  there = never_there plan e;
  once = in_order Word1 Word1 plan (none_before Word1 Word1 plan (never_there plan e));
  first = in_order Word1 Word0 plan (none_before Word1 Word0 plan (never_there plan e));
}

-- ---- part 1

-- as the checker tells it
abbrev pub are_turned : Kind → WrittenPlan → Bool
are_turned kind plan =
    are_in_order plan && stands Word0 plan && stands Fence plan && has_record plan
    && not (list_any (λ step. stands step plan) (other_records kind)) && stands GFence plan
    && beq (stands Word1 plan) (is_leave kind)

told_turns : (kind : Kind) (plan : WrittenPlan) → are_turned kind plan ≡ true → turns_routes kind plan ≡ true
told_turns kind plan e =
    let p6 = and_parts _ (beq (stands Word1 plan) (is_leave kind)) e in
    let p5 = and_parts _ (stands GFence plan) p6.0 in
    let p4 = and_parts _ (not (list_any (λ step. stands step plan) (other_records kind))) p5.0 in
    let p3 = and_parts _ (has_record plan) p4.0 in
    let p2 = and_parts _ (stands Fence plan) p3.0 in
    let p1 = and_parts (are_in_order plan) (stands Word0 plan) p2.0 in
    let o = all_ordered plan p1.0 in
    let others : NoOther kind (λ step. stands step plan) = sym (none_all (λ step. stands step plan) (other_records kind)) ∙ p4.1 in
    let own = sym (any_record kind plan others) ∙ p3.1 in
    and_from _ _ (and_from _ _ (and_from _ _ (and_from _ _ (and_from _ _ (and_from _ _ (and_from _ _
    (once_from Word0 plan p1.1 o.one_word0)
    (once_from Fence plan p2.1 o.one_fence))
    (comes_before-before Word0 Fence plan ∙ o.word0_first))
    (once_is (own_record kind) plan ∙ and_from _ _ own (sym (record_before_record kind plan others) ∙ o.one_record)))
    others)
    (once_from GFence plan p5.1 o.one_gfence))
    (sym (record_before kind GFence plan others) ∙ o.record_first))
    (notice_named kind plan (same_tests (stands Word1 plan) (is_leave kind) p6.1) o)

turns_told : (kind : Kind) (plan : WrittenPlan) → turns_routes kind plan ≡ true → are_turned kind plan ≡ true
turns_told kind plan e =
    let t = all_turns kind plan e in
    let n = notice_told kind plan (and_parts _ (names_notice kind plan) e).1 in
    and_from _ _ (and_from _ _ (and_from _ _ (and_from _ _ (and_from _ _ (and_from _ _
    (so_in_order plan (record {
      one_word1 = n.once;
      word1_first = n.first;
      one_word0 = once_before Word0 plan t.word0;
      word0_first = in_order Word0 Fence plan t.word0_first;
      one_fence = once_before Fence plan t.fence;
      one_record = record_before_record kind plan t.others
          ∙ (and_parts (stands (own_record kind) plan) (comes_before (own_record kind) (own_record kind) plan)
          (sym (once_is (own_record kind) plan) ∙ t.own)).1;
      record_first = record_before kind GFence plan t.others ∙ t.own_first;
      one_gfence = once_before GFence plan t.gfence;
    }))
    (once_stands Word0 plan t.word0))
    (once_stands Fence plan t.fence))
    (any_record kind plan t.others ∙ once_stands (own_record kind) plan t.own))
    (none_all (λ step. stands step plan) (other_records kind) ∙ t.others))
    (once_stands GFence plan t.gfence))
    (same_itself (stands Word1 plan) (is_leave kind) n.there)

pub turned : (kind : Kind) (plan : WrittenPlan) → are_turned kind plan ≡ turns_routes kind plan
turned kind plan = both_ways (are_turned kind plan) (turns_routes kind plan) (told_turns kind plan) (turns_told kind plan)
