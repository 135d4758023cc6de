use Rattle.std.proofs.Common.{rules, ◌≡◌, ◌≤◌, subst, Option, None, Some, Err, refl, sym, ap, ◌∙◌}
use Rattle.aia_file.specs.Imsic.{ImsicState, IsThere}
use Rattle.aia_file.specs.Map.{spot_at}
use Rattle.aia_model.specs.Act.{domain_at}
use Rattle.aia_model.specs.declared.answer.Answer.TheVariants.{Okay}
use Rattle.aia_model.specs.declared.line.Line.TheVariants.{Store}
use Rattle.aia_model.specs.declared.refusal.Refusal.{Refusal}
use Rattle.aia_model.specs.declared.refusal.Refusal.TheVariants.{Fault}
use Rattle.aia_hyp_values.specs.Core.{CoreState}
use Rattle.aia_hyp_values.specs.Stands.{CoreTakes, core_refusal}
use Rattle.aia_hyp_values.proofs.EventLemmas.{still}
use Rattle.aia_hyp_values.proofs.PageLemmas.{in_a_region, is_outside}
use Rattle.aia_hyp_values.proofs.StoreLemmas.{store_refused, stored}
use Rattle.aia_hyp.proofs.hypervisor_core.Core.store.Goals.{After-host_store}
use Rattle.aia_hyp.proofs.hypervisor_core.Core.store.Goals as goal
use Rattle.aia_regs.specs.declared.limits.TheConstants.{HARTS}

taken : (c : After-host_store) → domain_at c.args.addr ≡ None
    → CoreTakes (record {
      world = c.self.inside.fabric;
      leases = c.self.inside.pool;
      vcpus = c.self.inside.vcpus.items;
      selects =
          c.self.inside.selects;
      passes = c.self.inside.passes;
    })
    (record {
      world = c.host_store.new.self;
      leases = c.self.inside.pool;
      vcpus = c.self.inside.vcpus.items;
      selects = c.self.inside.selects;
      passes = c.self.inside.passes;
    }) (Store c.args.addr c.args.value) Okay
taken c outside =
    let spot = c.in_ok-spot.spot in
    let x : CoreState = record {
      world = c.self.inside.fabric;
      leases = c.self.inside.pool;
      vcpus = c.self.inside.vcpus.items;
      selects =
          c.self.inside.selects;
      passes = c.self.inside.passes;
    } in
    let is : x ≡ c.args.self.now = c.self.view_is in
    let free = subst (λ (z : CoreState). ◌≡◌ {A = Option Refusal} None
    (core_refusal (spot_at z.world.imsic.harts z.world.imsic.guests c.args.addr) c.args.addr)) (sym is) c.in_ok-spot.ensures.refused in
    let few = subst (λ (z : CoreState). z.world.imsic.harts ≤ HARTS) (sym is) c.in_ok-spot.ensures.few in
    let at = subst (λ (z : CoreState). spot ≡ spot_at z.world.imsic.harts z.world.imsic.guests c.args.addr) (sym is) c.in_ok-spot.ensures.at in
    let there = subst (λ (z : CoreState). IsThere z.world.imsic spot) (sym is) c.in_ok-spot.ensures.there in
    stored _ _ c.args.addr c.args.value spot outside free (record {
      few = few;
      at = at;
      host = c.in_ok-spot.ensures.host;
      there = there;
      lands = c.host_store.ensures.lands.lands;
      others = c.host_store.ensures.rest ∙ ap (λ (i : ImsicState). record c.self.inside.fabric { imsic = i }) c.host_store.ensures.lands.others;
      leases = refl;
      vcpus = refl;
      selects = refl;
      passes = refl;
    })

-- a place that is a file's lies outside the regions of the APLIC
out : (c : After-host_store) → domain_at c.args.addr ≡ None
out c = is_outside c.args.self.now.world.imsic c.args.addr c.in_ok-spot.ensures.refused

pub invariant_of-self : goal.invariant_of-self
invariant_of-self c = still _ _ _ _ (taken c (out c)) c.self.invariant

pub returns-in_err-spot-clause-takes : goal.returns-in_err-spot-clause-takes
returns-in_err-spot-clause-takes c = λ outside.
    let same : c.from_residual.result ≡ Err c.in_err-spot.field-0.0 = search rules in
    rw same (store_refused c.args.self.now c.args.addr c.args.value c.in_err-spot.field-0.0 outside c.in_err-spot.ensures.refused)

pub returns-in_err-spot-clause-refused : goal.returns-in_err-spot-clause-refused
returns-in_err-spot-clause-refused c = λ there.
    let same : c.from_residual.result ≡ Err c.in_err-spot.field-0.0 = search rules in
    let word : Some c.in_err-spot.field-0.0 ≡ Some Fault = c.in_err-spot.ensures.refused
    ∙ in_a_region c.args.self.now.world.imsic c.args.addr there in
    let fault : c.in_err-spot.field-0.0 ≡ Fault = cc in same ∙ ap (λ (w : Refusal). Err w) fault

pub returns-clause-takes : goal.returns-clause-takes
returns-clause-takes c = λ outside. rw (← c.self.view_is) (taken c outside)

pub returns-clause-refused : goal.returns-clause-refused
returns-clause-refused c = λ there.
    let bad : ◌≡◌ {A = Option Refusal} None (Some Fault) = c.in_ok-spot.ensures.refused
    ∙ in_a_region c.args.self.now.world.imsic c.args.addr there in absurd (cc)

pub returns-clause-unchanged : goal.returns-clause-unchanged
returns-clause-unchanged c = λ there.
    let bad : ◌≡◌ {A = Option Refusal} None (Some Fault) = c.in_ok-spot.ensures.refused
    ∙ in_a_region c.args.self.now.world.imsic c.args.addr there in absurd (cc)
