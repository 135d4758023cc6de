use Rattle.std.proofs.Common.{◌≡◌, true, sym, subst}
use Rattle.aia_vcpu.specs.Vms.{vcpu_of}
use Rattle.aia_vcpu.specs.Home.{is_moving}
use Rattle.aia_hyp_values.specs.Core.{CoreState, record_of, home_in}
use Rattle.aia_hyp_values.specs.Moves.{MoveGoes, MoveInPlace, IsAtItsLast}
use Rattle.aia_hyp.proofs.hypervisor_core.Core.step_of.Goals as goal

pub returns-then-step_in_place-clause-goes : goal.returns-then-step_in_place-clause-goes
returns-then-step_in_place-clause-goes g c = subst
    (λ b. MoveInPlace c.args.self.now c.step_in_place.new.self (vcpu_of c.args.found.vm c.args.found.vcpu) b) c.if-step_in_place.true
    c.step_in_place.ensures.makes

pub finish_move-requires-clause-moving : goal.finish_move-requires-clause-moving
finish_move-requires-clause-moving g c =
    let none = subst (λ b. MoveInPlace c.args.self.now c.step_in_place.new.self (vcpu_of c.args.found.vm c.args.found.vcpu) b)
    c.if-step_in_place.false c.step_in_place.ensures.makes in
    subst (λ (x : CoreState). is_moving (home_in (record_of x (vcpu_of c.args.found.vm c.args.found.vcpu)).stay) ≡ true)
    (sym none.0) c.requires.moving

pub finish_move-requires-clause-last : goal.finish_move-requires-clause-last
finish_move-requires-clause-last g c =
    let none = subst (λ b. MoveInPlace c.args.self.now c.step_in_place.new.self (vcpu_of c.args.found.vm c.args.found.vcpu) b)
    c.if-step_in_place.false c.step_in_place.ensures.makes in
    subst (λ (x : CoreState). IsAtItsLast x (vcpu_of c.args.found.vm c.args.found.vcpu)) (sym none.0) none.1

pub returns-clause-goes : goal.returns-clause-goes
returns-clause-goes g c =
    let none = subst (λ b. MoveInPlace c.args.self.now c.step_in_place.new.self (vcpu_of c.args.found.vm c.args.found.vcpu) b)
    c.if-step_in_place.false c.step_in_place.ensures.makes in
    subst (λ (x : CoreState). MoveGoes x c.finish_move.new.self (vcpu_of c.args.found.vm c.args.found.vcpu) true) none.0 c.finish_move.ensures.goes
