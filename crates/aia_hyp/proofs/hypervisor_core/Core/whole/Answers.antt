use Rattle.std.proofs.Common.{◌≡◌, Err, sym, ap, ◌∙◌, subst, rules}
use Rattle.aia_fabric_values.specs.World.{World}
use Rattle.aia_model.specs.declared.line.Line.TheVariants as lines
use Rattle.aia_model.specs.declared.answer.Answer.TheVariants.{Okay, Refused}
use Rattle.aia_model.specs.declared.refusal.Refusal.TheVariants as words
use Rattle.aia_model.specs.Event.{History}
use Rattle.aia_model.specs.Refusal.{refusal}
use Rattle.aia_hyp_values.specs.Core.{CoreState}
use Rattle.aia_fabric_values.specs.Found.{IsFound}
use Rattle.aia_hyp_values.specs.Moves.{UnlessRefused, WholeAims}
use Rattle.aia_hyp_values.specs.Stands.{StandsForSome, CoreStands, CoreTakes}
use Rattle.aia_hyp_values.proofs.BeginCore.{no_move}
use Rattle.aia_hyp_values.proofs.MoveWhole.{first_step, next_step, all_steps, all_aims, none_aims, refused_whole}
use Rattle.aia_hyp_values.proofs.TargetsLines.{whole_targets}
use Rattle.aia_hyp.proofs.hypervisor_core.Core.whole.Goals as goal

pub returns-in_default-clause-takes : goal.returns-in_default-clause-takes
returns-in_default-clause-takes g c = rw (← c.self.view_is)
    (refused_whole _ _ c.args.vm c.args.vcpu c.args.want words.Range (no_move _ c.args.vm c.args.vcpu c.args.want c.in_default.ensures.none))

pub returns-in_err-begin_of-clause-takes : goal.returns-in_err-begin_of-clause-takes
returns-in_err-begin_of-clause-takes g c =
    let named = c.in-Some.ensures.named in
    let gives : c.from_residual.result ≡ Err c.in_err-begin_of.field-0.0 = search rules in
    rw (gives) (subst (λ vm. CoreTakes c.args.self.now c.begin_of.new.self (lines.Move vm c.args.vcpu c.args.want)
    (Refused c.in_err-begin_of.field-0.0)) named.0
    (subst (λ vcpu. CoreTakes c.args.self.now c.begin_of.new.self (lines.Move c.in-Some.found.vm vcpu c.args.want)
    (Refused c.in_err-begin_of.field-0.0)) named.1
    (refused_whole c.args.self.now c.begin_of.new.self c.in-Some.found.vm c.in-Some.found.vcpu c.args.want c.in_err-begin_of.field-0.0
    c.in_err-begin_of.ensures.begins)))

pub returns-in_err-begin_of-clause-aims : goal.returns-in_err-begin_of-clause-aims
returns-in_err-begin_of-clause-aims g c =
    let named = c.in-Some.ensures.named in
    let told = c.args.targets.now in
    subst (λ vm. (h : History) → CoreStands c.args.self.now h
    → UnlessRefused (refusal h (lines.Move vm c.args.vcpu c.args.want))
    (WholeAims g.T.Targets.aimed h vm c.args.vcpu c.args.want told told) (told ≡ told)) named.0
    (subst (λ vcpu. (h : History) → CoreStands c.args.self.now h
    → UnlessRefused (refusal h (lines.Move c.in-Some.found.vm vcpu c.args.want))
    (WholeAims g.T.Targets.aimed h c.in-Some.found.vm vcpu c.args.want told told) (told ≡ told)) named.1
    (none_aims g.T.Targets.aimed told c.args.self.now c.begin_of.new.self c.in-Some.found.vm c.in-Some.found.vcpu c.args.want
    c.in_err-begin_of.field-0.0 c.in_err-begin_of.ensures.begins))

pub loop-found-init : goal.loop-found-init
loop-found-init g c = (
  first_step g.T.Targets.aimed c.args.targets.now c.args.self.now c.begin_of.new.self c.in-Some.found c.args.want c.in_ok-begin_of.ensures.begins
      (subst (λ (x : CoreState). StandsForSome x) c.self.view_is c.self.invariant)
      (subst (λ (w : World). IsFound w c.in-Some.found) (sym c.in_ok-begin_of.ensures.world)
      (subst (λ (x : CoreState). IsFound x.world c.in-Some.found) c.self.view_is c.in-Some.ensures.there)),
  ap (λ (w : World). w.imsic.harts) c.in_ok-begin_of.ensures.world ∙ c.requires,
)

pub loop-found-preserved : goal.loop-found-preserved
loop-found-preserved g c = (
  next_step g.T.Targets.aimed c.args.targets.now c.loop-found.targets c.step_of.new.targets c.args.self.now c.loop-found.self c.step_of.new.self
      c.in-Some.found c.args.want c.loop-found.invariant.0 c.loop-found-test.ensures.goes c.loop-found-test.ensures.aims
      c.loop-found-test.ensures.found,
  c.loop-found-test.ensures.harts,
)

pub returns-clause-takes : goal.returns-clause-takes
returns-clause-takes g c =
    let named = c.in-Some.ensures.named in
    subst (λ vm. CoreTakes c.args.self.now c.step_of.new.self (lines.Move vm c.args.vcpu c.args.want) Okay) named.0
    (subst (λ vcpu. CoreTakes c.args.self.now c.step_of.new.self (lines.Move c.in-Some.found.vm vcpu c.args.want) Okay) named.1
    (all_steps g.T.Targets.aimed c.args.targets.now c.loop-found.targets c.args.self.now c.loop-found.self c.step_of.new.self c.in-Some.found
    c.args.want c.loop-found.invariant.0 c.loop-found-test.ensures.goes))

pub returns-clause-aims : goal.returns-clause-aims
returns-clause-aims g c =
    let named = c.in-Some.ensures.named in
    let told = c.args.targets.now in
    subst (λ vm. (h : History) → CoreStands c.args.self.now h
    → UnlessRefused (refusal h (lines.Move vm c.args.vcpu c.args.want))
    (WholeAims g.T.Targets.aimed h vm c.args.vcpu c.args.want told c.step_of.new.targets) (c.step_of.new.targets ≡ told)) named.0
    (subst (λ vcpu. (h : History) → CoreStands c.args.self.now h
    → UnlessRefused (refusal h (lines.Move c.in-Some.found.vm vcpu c.args.want))
    (WholeAims g.T.Targets.aimed h c.in-Some.found.vm vcpu c.args.want told c.step_of.new.targets) (c.step_of.new.targets ≡ told)) named.1
    (all_aims g.T.Targets.aimed told c.loop-found.targets c.step_of.new.targets c.args.self.now c.loop-found.self c.step_of.new.self
    c.in-Some.found c.args.want c.loop-found.invariant.0 c.loop-found-test.ensures.goes c.loop-found-test.ensures.aims))

pub returns-in_err-begin_of-clause-targets : goal.returns-in_err-begin_of-clause-targets
returns-in_err-begin_of-clause-targets g c = λ h good stands told.
    whole_targets g.T.Targets.map g.T.Targets.aimed g.met.T.Targets.aims_one h c.args.vm c.args.vcpu c.args.want c.args.targets.now c.args.targets.now
    good (returns-in_err-begin_of-clause-aims g c h stands) told

pub returns-clause-targets : goal.returns-clause-targets
returns-clause-targets g c = λ h good stands told.
    whole_targets g.T.Targets.map g.T.Targets.aimed g.met.T.Targets.aims_one h c.args.vm c.args.vcpu c.args.want c.args.targets.now
    c.step_of.new.targets good (returns-clause-aims g c h stands) told
