use Rattle.std.proofs.Common.{rules, ◌≡◌, ◌+◌, ◌/◌, ◌<◌, ap, sym, subst, ◌∙◌, arith}
use Rattle.std.specs.Prelude.{Err}
use Rattle.aia_fabric_values.specs.Whole.{IsWhole}
use Rattle.aia_vcpu.specs.Vms.{vcpu_of}
use Rattle.aia_model.specs.declared.answer.Answer.TheVariants as kinds
use Rattle.aia_model.specs.declared.answer.Answer.TheVariants.{Refused}
use Rattle.aia_model.specs.declared.line.Line.TheVariants.{Save}
use Rattle.aia_model.specs.Image.{part_of}
use Rattle.aia_vcpu.specs.declared.rest.Rest.TheVariants.{Parked}
use Rattle.aia_hyp_values.specs.declared.vcpu.Stay.TheVariants as stays
use Rattle.aia_hyp_values.specs.Core.{CoreState, record_of, parked_at}
use Rattle.aia_hyp_values.specs.Images.{state_in}
use Rattle.aia_fabric_values.specs.Found.{IsFound}
use Rattle.aia_hyp_values.specs.Stands.{StandsForSome, CoreTakes}
use Rattle.aia_hyp_values.proofs.MoveCalls.{who_low}
use Rattle.aia_hyp_values.proofs.ImageLines.{no_vcpu_to_save, no_such_part, not_parked_to_save, saves, found_few, found_stay, small_number}
use Rattle.aia_hyp_values.proofs.RestLemmas.{parked_is}
use Rattle.aia_hyp.proofs.hypervisor_core.Core.save.Goals.{In_ok-kept}
use Rattle.aia_hyp.proofs.hypervisor_core.Core.save.Goals as goal

pub returns-in_default : goal.returns-in_default
returns-in_default c = rw (← c.self.view_is) (no_vcpu_to_save _ c.args.vm c.args.vcpu c.args.k c.in_default.ensures.none)

pub returns-then-k-from : goal.returns-then-k-from
returns-then-k-from c = rw (← c.self.view_is) (no_such_part _ c.args.vm c.args.vcpu c.args.k
    (omega (arith, c.if-k-from.true, c.from.ensures, c.words.ensures.value)))

pub parked-requires : goal.parked-requires
parked-requires c =
    who_low c.args.self.now c.in-Some.found (subst StandsForSome c.self.view_is c.self.invariant)
    (subst (λ (z : CoreState). IsFound z.world c.in-Some.found) c.self.view_is c.in-Some.ensures.there)

pub returns-in_err-kept : goal.returns-in_err-kept
returns-in_err-kept c =
    let x = c.args.self.now in
    let found = c.in-Some.found in
    let k = c.args.k in
    let word = c.in_err-kept.field-0.0 in
    let same : c.from_residual.result ≡ Err word = search rules in
    let is = subst (λ (z : CoreState). IsFound z.world found) c.self.view_is c.in-Some.ensures.there in
    let named = c.in-Some.ensures.named in
    let inside : k < (c.self.inside.fabric.n + 1) / 64 + 3 = omega (arith, c.if-k-from.false, c.from.ensures, c.words.ensures.value) in
    let low : k < (x.world.n + 1) / 64 + 3 = subst (λ (z : CoreState). k < (z.world.n + 1) / 64 + 3) c.self.view_is inside in
    let stay = found_stay x found is c.parked.result parked_at c.parked.ensures in
    rw same
    (subst (λ vm. CoreTakes x x (Save vm c.args.vcpu k) (Refused word)) named.0
    (subst (λ vcpu. CoreTakes x x (Save found.vm vcpu k) (Refused word)) named.1
    (not_parked_to_save x found.vm found.vcpu k word is.there low (sym stay ∙ c.in_err-kept.was))))

pub part-requires-clause-slot : goal.part-requires-clause-slot
part-requires-clause-slot c = found_few c.self.inside.fabric c.in-Some.found c.words.ensures.whole c.in-Some.ensures.there

pub part-requires-clause-there : goal.part-requires-clause-there
part-requires-clause-there c =
    who_low c.args.self.now c.in-Some.found (subst StandsForSome c.self.view_is c.self.invariant)
    (subst (λ (z : CoreState). IsFound z.world c.in-Some.found) c.self.view_is c.in-Some.ensures.there)

parked_there : (c : In_ok-kept) → (record_of c.args.self.now (vcpu_of c.in-Some.found.vm c.in-Some.found.vcpu)).stay ≡ stays.InMemory Parked
    c.in_ok-kept.kept
parked_there c =
    let is = subst (λ (z : CoreState). IsFound z.world c.in-Some.found) c.self.view_is c.in-Some.ensures.there in
    parked_is _ c.in_ok-kept.kept (sym (found_stay c.args.self.now c.in-Some.found is c.parked.result parked_at c.parked.ensures) ∙ c.in_ok-kept.was)

pub part-requires-clause-small : goal.part-requires-clause-small
part-requires-clause-small c =
    let x = c.args.self.now in
    let found = c.in-Some.found in
    let is = subst (λ (z : CoreState). IsFound z.world found) c.self.view_is c.in-Some.ensures.there in
    small_number x (vcpu_of found.vm found.vcpu) c.in_ok-kept.kept (subst StandsForSome c.self.view_is c.self.invariant)
    (subst (λ (z : CoreState). IsWhole z.world) c.self.view_is c.words.ensures.whole) is.there (parked_there c)

pub returns : goal.returns
returns c =
    let x = c.args.self.now in
    let found = c.in-Some.found in
    let k = c.args.k in
    let kept = c.in_ok-kept.kept in
    let is = subst (λ (z : CoreState). IsFound z.world found) c.self.view_is c.in-Some.ensures.there in
    let named = c.in-Some.ensures.named in
    let inside : k < (c.self.inside.fabric.n + 1) / 64 + 3 = omega (arith, c.if-k-from.false, c.from.ensures, c.words.ensures.value) in
    let low : k < (x.world.n + 1) / 64 + 3 = subst (λ (z : CoreState). k < (z.world.n + 1) / 64 + 3) c.self.view_is inside in
    let stay = found_stay x found is c.parked.result parked_at c.parked.ensures in
    let whole = subst (λ (z : CoreState). IsWhole z.world) c.self.view_is c.words.ensures.whole in
    subst (λ vm. CoreTakes x x (Save vm c.args.vcpu k) (kinds.Part c.part.result)) named.0
    (subst (λ vcpu. CoreTakes x x (Save found.vm vcpu k) (kinds.Part c.part.result)) named.1
    (saves x found.vm found.vcpu k kept c.part.result is.there whole (parked_is _ kept (sym stay ∙ c.in_ok-kept.was)) low
    (c.part.ensures ∙ ap (λ q. part_of (state_in x q kept) k) is.slot)))
