use Rattle.std.proofs.Common.{◌≡◌, ◌≤◌, true, refl, sym, ap, subst, ◌∙◌}
use Rattle.aia_file.specs.Imsic.{ImsicState, IsThere}
use Rattle.aia_file.specs.Map.{spot_at}
use Rattle.aia_regs.specs.declared.limits.TheConstants.{HARTS}
use Rattle.aia_model.specs.Event.Event.{Delivered}
use Rattle.aia_hyp_values.specs.Core.{CoreState}
use Rattle.aia_hyp_values.specs.Passes.{number_of_pass}
use Rattle.aia_hyp_values.specs.HostFiles.{is_host_spot}
use Rattle.aia_hyp_values.specs.Stands.{CoreHears, MayGo}
use Rattle.aia_hyp_values.proofs.NameLemmas.{not_nowhere}
use Rattle.aia_hyp_values.proofs.StoreLemmas.{msi_landed, msi_dropped}
use Rattle.aia_hyp_values.proofs.ForwardLemmas.{hears_on}
use Rattle.aia_hyp.proofs.hypervisor_core.Core.hear.Goals.{After-host_store}
use Rattle.aia_hyp.proofs.hypervisor_core.Core.hear.Goals as goal

heard : (c : After-host_store) → CoreHears (record {
  world = c.self.inside.fabric;
  leases = c.self.inside.pool;
  vcpus = c.self.inside.vcpus.items;
  selects = c.self.inside.selects;
  passes =
      c.self.inside.passes;
}) (record {
  world = c.host_store.new.self;
  leases = c.self.inside.pool;
  vcpus = c.self.inside.vcpus.items;
  selects =
      c.self.inside.selects;
  passes = c.self.inside.passes;
}) c.args.msi
heard c =
    let spot = c.args.spot in
    let same = c.self.view_is in
    let host : is_host_spot spot ≡ true = sym c.is_host.ensures ∙ c.if-is_host.true in
    msi_landed _ _ c.args.msi spot (record {
      few = c.recall.ensures.whole.harts;
      at = c.requires.at ∙ ap (λ (z : CoreState). spot_at z.world.imsic.harts z.world.imsic.guests c.args.msi.address) (sym same);
      host = host;
      there = subst (λ (z : CoreState). IsThere z.world.imsic spot) (sym same) (c.requires.there (not_nowhere spot host));
      lands = c.host_store.ensures.lands.lands;
      others = c.host_store.ensures.rest ∙ ap (λ (i : ImsicState). record c.self.inside.fabric { imsic = i }) c.host_store.ensures.lands.others;
      leases = refl;
      vcpus = refl;
      selects = refl;
      passes = refl;
    }) (ap (λ (z : CoreState). number_of_pass z.passes c.args.msi.source) same ∙ c.requires.none)

pub invariant_of-self : goal.invariant_of-self
invariant_of-self c = hears_on _ _ c.args.msi (ap (λ (z : CoreState). number_of_pass z.passes c.args.msi.source) c.self.view_is ∙ c.requires.none)
    (subst (λ (z : CoreState). MayGo z (Delivered c.args.msi)) (sym c.self.view_is) c.requires.may) (heard c)

pub returns-then-is_host : goal.returns-then-is_host
returns-then-is_host c = rw (← c.self.view_is) (heard c)

pub returns-else-is_host : goal.returns-else-is_host
returns-else-is_host c = msi_dropped c.args.self.now c.args.msi c.args.spot
    (subst (λ (z : CoreState). z.world.imsic.harts ≤ HARTS) c.self.view_is
    c.recall.ensures.whole.harts) c.requires.at (sym c.is_host.ensures ∙ c.if-is_host.false)
    c.requires.none
