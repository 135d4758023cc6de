use Rattle.std.proofs.Common.{rules, ◌≡◌, Option, None, Some, Err, ap, ◌∙◌}
use Rattle.aia_model.specs.declared.refusal.Refusal.{Refusal}
use Rattle.aia_model.specs.declared.refusal.Refusal.TheVariants.{Fault}
use Rattle.aia_hyp_values.proofs.PageLemmas.{in_a_region}
use Rattle.aia_hyp_values.proofs.StoreLemmas.{load_refused, loaded}
use Rattle.aia_hyp.proofs.hypervisor_core.Core.load.Goals as goal

pub returns-in_err-reach-clause-takes : goal.returns-in_err-reach-clause-takes
returns-in_err-reach-clause-takes c = λ outside.
    let same : c.from_residual.result ≡ Err c.in_err-reach.field-0.0 = search rules in
    rw same (load_refused c.args.self.now c.args.addr c.in_err-reach.field-0.0 outside c.in_err-reach.ensures.refused)

pub returns-in_err-reach-clause-refused : goal.returns-in_err-reach-clause-refused
returns-in_err-reach-clause-refused c = λ there.
    let same : c.from_residual.result ≡ Err c.in_err-reach.field-0.0 = search rules in
    let word : Some c.in_err-reach.field-0.0 ≡ Some Fault = c.in_err-reach.ensures.refused
    ∙ in_a_region c.args.self.now.world.imsic c.args.addr there in
    let fault : c.in_err-reach.field-0.0 ≡ Fault = cc in same ∙ ap (λ (w : Refusal). Err w) fault

pub returns-clause-takes : goal.returns-clause-takes
returns-clause-takes c = λ outside. loaded c.args.self.now c.args.addr outside c.in_ok-reach.ensures.refused

pub returns-clause-refused : goal.returns-clause-refused
returns-clause-refused c = λ there.
    let bad : ◌≡◌ {A = Option Refusal} None (Some Fault) = c.in_ok-reach.ensures.refused
    ∙ in_a_region c.args.self.now.world.imsic c.args.addr there in absurd (cc)
