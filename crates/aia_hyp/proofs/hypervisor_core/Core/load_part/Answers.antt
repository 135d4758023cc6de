use Rattle.std.proofs.Common.{rules, ◌≡◌, ◌-◌, ◌*◌, true, false, ap, sym, subst, ◌∙◌, arith}
use Rattle.std.specs.Prelude.{Err}
use Rattle.aia_model.specs.declared.answer.Answer.TheVariants.{Refused}
use Rattle.aia_model.specs.declared.line.Line.TheVariants.{LoadPart}
use Rattle.aia_model.specs.Image.{is_loadable}
use Rattle.aia_hyp_values.specs.Core.{CoreState, parked_at}
use Rattle.aia_fabric_values.specs.Found.{IsFound}
use Rattle.aia_hyp_values.specs.Stands.{StandsForSome, CoreTakes}
use Rattle.aia_hyp_values.proofs.MoveCalls.{who_low}
use Rattle.aia_hyp_values.proofs.ImageLines.{no_vcpu_to_load, not_loadable, not_parked_to_load, found_stay}
use Rattle.aia_hyp.proofs.hypervisor_core.Core.load_part.Goals as goal

pub returns-in_default : goal.returns-in_default
returns-in_default c = rw (← c.self.view_is) (no_vcpu_to_load _ c.args.vm c.args.vcpu c.args.part.now c.in_default.ensures.none)

pub returns-then-not-is_loadable : goal.returns-then-not-is_loadable
returns-then-not-is_loadable c =
    let n : 64 * c.words.result - 1 ≡ c.self.inside.fabric.n = omega (arith, c.words.ensures.all) in
    let bad : is_loadable c.self.inside.fabric.n c.args.part.now ≡ false = ap (λ n. is_loadable n c.args.part.now) (sym n)
    ∙ sym c.is_loadable.ensures ∙ c.if-not-is_loadable.true in
    rw (← c.self.view_is) (not_loadable _ c.args.vm c.args.vcpu c.args.part.now bad)

pub parked-requires : goal.parked-requires
parked-requires c =
    who_low c.args.self.now c.in-Some.found (subst StandsForSome c.self.view_is c.self.invariant)
    (subst (λ (z : CoreState). IsFound z.world c.in-Some.found) c.self.view_is c.in-Some.ensures.there)

pub returns-in_err-kept : goal.returns-in_err-kept
returns-in_err-kept c =
    let x = c.args.self.now in
    let found = c.in-Some.found in
    let part = c.args.part.now in
    let word = c.in_err-kept.field-0.0 in
    let same : c.from_residual.result ≡ Err word = search rules in
    let is = subst (λ (z : CoreState). IsFound z.world found) c.self.view_is c.in-Some.ensures.there in
    let named = c.in-Some.ensures.named in
    let n : 64 * c.words.result - 1 ≡ c.self.inside.fabric.n = omega (arith, c.words.ensures.all) in
    let fits : is_loadable c.self.inside.fabric.n part ≡ true = ap (λ n. is_loadable n part) (sym n) ∙ sym c.is_loadable.ensures
    ∙ c.if-not-is_loadable.false in
    let good = subst (λ (z : CoreState). is_loadable z.world.n part ≡ true) c.self.view_is fits in
    let stay = found_stay x found is c.parked.result parked_at c.parked.ensures in
    rw same
    (subst (λ vm. CoreTakes x x (LoadPart vm c.args.vcpu part) (Refused word)) named.0
    (subst (λ vcpu. CoreTakes x x (LoadPart found.vm vcpu part) (Refused word)) named.1
    (not_parked_to_load x found.vm found.vcpu part word is.there good (sym stay ∙ c.in_err-kept.was))))
