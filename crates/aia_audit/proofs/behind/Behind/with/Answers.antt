use Rattle.std.proofs.Common.{ap, refl, not, ◌&&◌, ◌∙◌}
use Rattle.aia_plan.specs.Rule.{takes_pending, puts_pending, takes_enables, puts_enables}
use Rattle.aia_audit.specs.declared.behind.Behind.{Behind}
use Rattle.aia_audit.specs.Behind.{is_late, is_any_time}
use Rattle.aia_audit.proofs.BehindLemmas.{same_behind}
use Rattle.aia_audit.proofs.behind.Behind.with.Goals as goal

pub returns : goal.returns
returns c later same =
    same_behind _ _ _ _ _ _
    (c.with.ensures later (ap (λ (b : Behind). b.routes) same))
    (c.with-2.ensures takes_pending puts_pending is_late c.args.step later c.takes_pending.ensures c.puts_pending.ensures
    (c.lets_take-is_late.ensures ∙ ap (λ (b : Behind). not b.routes.fence && not b.routes.gfence) same) (ap (λ (b : Behind). b.pending) same))
    (c.with-3.ensures takes_enables puts_enables is_any_time c.args.step later c.takes_enables.ensures c.puts_enables.ensures refl
    (ap (λ (b : Behind). b.enables) same))
