use Rattle.std.proofs.Common.{◌<◌, ◌≤◌, length, subst, ◌∙◌, arith}
use Rattle.aia_aplic_values.specs.Side.{SideState}
use Rattle.aia_aplic_values.proofs.SideLemmas.{side-claimed, side-unclaimed, topi_there}
use Rattle.aia_aplic.proofs.side.Side.claimi.Goals as goal

pub returns-then-hart-len-clause-reads : goal.returns-then-hart-len-clause-reads
returns-then-hart-len-clause-reads c = λ past name stands.
    let low : c.args.hart < length c.args.self.now.controls =
    subst (λ (a : SideState). c.args.hart < length a.controls) c.self.view_is (omega (arith, c.if-hart-len.true, c.len.ensures)) in
    c.claim.ensures.value ∙ topi_there c.args.hart c.args.self.now past name low stands

pub returns-then-hart-len-clause-stands : goal.returns-then-hart-len-clause-stands
returns-then-hart-len-clause-stands c = λ past name stands.
    let low : c.args.hart < length c.args.self.now.controls =
    subst (λ (a : SideState). c.args.hart < length a.controls) c.self.view_is (omega (arith, c.if-hart-len.true, c.len.ensures)) in
    side-claimed c.args.hart c.args.self.now c.claim.new.self.domain c.claim.new.self.controls past name low c.claim.ensures.controls
    c.claim.ensures.sources c.claim.ensures.domain stands

pub returns-else-hart-len-clause-stands : goal.returns-else-hart-len-clause-stands
returns-else-hart-len-clause-stands c = λ past name stands.
    let beyond : length c.args.self.now.controls ≤ c.args.hart =
    subst (λ (a : SideState). length a.controls ≤ c.args.hart) c.self.view_is (omega (arith, c.if-hart-len.false, c.len.ensures)) in
    side-unclaimed c.args.hart c.args.self.now past name beyond stands
