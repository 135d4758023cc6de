use Rattle.std.proofs.Common.{◌≡◌, ◌+◌, ◌<◌, ◌≤◌, true, false, sym, ap, ◌∙◌, subst, arith}
use Rattle.std.proofs.lemmas.Bool.{ltb-true, ltb-false}
use Rattle.aia_vcpu.specs.Home.{one_more}
use Rattle.aia_vcpu.specs.Plans.{steps_done}
use Rattle.aia_vcpu.specs.Phases.{begins}
use Rattle.aia_vcpu.specs.Phases.Phase.{AllDone}
use Rattle.aia_move_values.specs.Move.{Moving, width}
use Rattle.aia_move_values.specs.Turns.{IsAtAims}
use Rattle.aia_move_values.proofs.StepLemmas.{executed_on}
use Rattle.aia_move.specs.PlanViews.{phase_at}
use Rattle.aia_move_values.specs.Plan.{past_phase}
use Rattle.aia_move_values.specs.Plan.{NextStepIsOf, next_phase}
use Rattle.aia_move_values.proofs.PhaseLemmas.{in_plan, phase_none, aims_to, not_last, then_in, goes_access}
use Rattle.aia_move.proofs.moves.Move+D+unit.go_on.Given.{Over}
use Rattle.aia_move.proofs.moves.Move+D+unit.go_on.Goals.{After-next-2}
use Rattle.aia_move.proofs.moves.Move+D+unit.go_on.Goals as goal

pub returns-then-aims-clause-phase : goal.returns-then-aims-clause-phase
returns-then-aims-clause-phase g c =
    let s = c.args.self.now in
    let none = phase_none (phase_at c.args.phase.now) (sym c.aims.ensures ∙ c.if-aims.true) in
    let aiming : IsAtAims s = subst (λ p. NextStepIsOf p (width c.args.fabric.now) s) none c.requires.phase in
    subst (λ p. NextStepIsOf p (width c.args.fabric.now) c.aim.new.self) (sym (c.next.ensures ∙ ap (next_phase c.aim.new.self) none))
    (aims_to c.args.fabric.now s c.aim.new.self (omega (arith, c.recall.ensures.all, c.recall.ensures.some)) aiming c.aim.ensures.goes)

pub stays-stays-requires : goal.stays-stays-requires
stays-stays-requires g c = in_plan (phase_at c.args.phase.now) (width c.args.fabric.now) c.args.self.now (sym c.aims.ensures ∙ c.if-aims.false)
    c.requires.phase

module _ (g : Over) (c : After-next-2 g) where
  low : c.stays-stays.result ≡ true → steps_done c.args.self.now.home + 1 < begins (width c.args.fabric.now) c.args.self.now.home
      (past_phase (phase_at c.args.phase.now))
  low e = ltb-true _ _ (sym c.stays-stays.ensures ∙ e)

  high : c.stays-stays.result ≡ false → begins (width c.args.fabric.now) c.args.self.now.home
      (past_phase (phase_at c.args.phase.now)) ≤ steps_done c.args.self.now.home + 1
  high e = ltb-false _ _ (sym c.stays-stays.ensures ∙ e)

  more : steps_done c.args.self.now.home + 1 < begins (width c.args.fabric.now) c.args.self.now.home AllDone
  more = not_last (phase_at c.args.phase.now) _ (width c.args.fabric.now) c.args.self.now (sym c.aims.ensures ∙ c.if-aims.false) c.requires.phase
      low (sym c.ends.ensures ∙ c.if-ends.false)

  some : 1 ≤ width c.args.fabric.now
  some = omega (arith, c.recall.ensures.all, c.recall.ensures.some)

pub returns-clause-goes : goal.returns-clause-goes
returns-clause-goes g c =
    goes_access c.args.fabric.now c.access.new.fabric c.args.self.now _ (phase_at c.args.phase.now) (some g c) c.requires.phase
    (sym c.aims.ensures ∙ c.if-aims.false)
    (executed_on c.args.fabric.now c.access.new.fabric c.args.self.now c.access.new.self _ c.requires.fits (some g c) c.access.ensures (more g c)
    (ap (λ (y : Moving). record y { home = one_more y.home }) c.self.view_is))

pub returns-clause-phase : goal.returns-clause-phase
returns-clause-phase g c =
    let w = c.args.fabric.now in
    let s = c.args.self.now in
    let once = executed_on w c.access.new.fabric s c.access.new.self _ c.requires.fits (some g c) c.access.ensures (more g c)
    (ap (λ (y : Moving). record y { home = one_more y.home }) c.self.view_is) in
    then_in w c.access.new.fabric s _ (some g c) once (phase_at c.args.phase.now) _ (sym c.aims.ensures ∙ c.if-aims.false) c.requires.phase
    (low g c) (high g c) (more g c) (phase_at c.next-2.result) c.next-2.ensures
