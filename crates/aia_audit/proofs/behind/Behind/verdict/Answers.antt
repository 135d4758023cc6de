use Rattle.std.proofs.Common.{ap, ◌∙◌, ◌&&◌}
use Rattle.aia_plan.specs.Plan.{IsInside}
use Rattle.aia_plan.specs.Rule.{takes_pending, puts_pending, takes_enables, puts_enables, turns_routes, takes_late, puts_at_once, moves_enables, all_below, is_once}
use Rattle.aia_plan.specs.declared.step.Step.TheVariants.{TakeE}
use Rattle.aia_plan.proofs.Throughout.{by_recursion}
use Rattle.aia_audit.specs.declared.behind.Behind.{Behind}
use Rattle.aia_audit.specs.Behind.{is_late, is_any_time}
use Rattle.aia_audit.proofs.BehindLemmas.{same_parts}
use Rattle.aia_audit.proofs.LateLemmas.{taken_late, taken_once}
use Rattle.aia_audit.proofs.behind.Behind.verdict.Goals as goal

pub returns : goal.returns
returns c plan inside same =
    let words = c.args.words in
    let each = by_recursion (IsInside words) plan inside in
    let pending = ap (λ (b : Behind). b.pending) same in
    let enables = ap (λ (b : Behind). b.enables) same in
    c.by_parts.ensures
    ∙ same_parts _ (turns_routes c.args.kind plan) _ (takes_late words plan) _ (puts_at_once plan) _ (moves_enables words plan)
    (c.are_turned.ensures plan (ap (λ (b : Behind). b.routes) same))
    (c.are_taken-2.ensures takes_pending puts_pending is_late plan pending ∙ taken_late words plan each)
    (c.are_put-2.ensures takes_pending puts_pending is_late plan pending)
    (ap (λ b. b && c.are_put.result) (c.are_taken.ensures takes_enables puts_enables is_any_time plan enables ∙ taken_once words plan each)
    ∙ ap (λ b. all_below (λ w. is_once (TakeE w) plan) words && b) (c.are_put.ensures takes_enables puts_enables is_any_time plan enables))
