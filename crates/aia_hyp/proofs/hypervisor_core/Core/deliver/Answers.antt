use Rattle.std.proofs.Common.{◌≡◌, sym, subst, ◌∙◌}
use Rattle.aia_file.specs.Map.{spot_at}
use Rattle.aia_fabric_values.specs.Whole.{IsWhole}
use Rattle.aia_hyp_values.specs.Core.{CoreState}
use Rattle.aia_hyp_values.proofs.ForwardLemmas.{then_relays, relayed_too, landed_alone}
use Rattle.aia_hyp.proofs.hypervisor_core.Core.deliver.Goals as goal

pub relay-requires : goal.relay-requires
relay-requires c = then_relays c.args.self.now c.land_forward.new.self c.in-Some.number c.args.msi c.locate-spot.result (record {
  whole = subst (λ (z : CoreState). IsWhole z.world) c.self.view_is c.recall.ensures.whole;
  at = subst (λ (z : CoreState). c.locate-spot.result ≡ spot_at z.world.imsic.harts z.world.imsic.guests c.args.msi.address) c.self.view_is
      c.locate-spot.ensures.spot;
  pass = sym c.pass_of.ensures.passes ∙ c.in-Some.is;
}) (sym c.is_host.ensures ∙ c.if-is_host.true) c.requires c.land_forward.ensures

pub returns-then-is_host : goal.returns-then-is_host
returns-then-is_host c = relayed_too c.args.self.now c.land_forward.new.self c.relay.new.self c.in-Some.number c.args.msi
    c.locate-spot.result (record {
      whole = subst (λ (z : CoreState). IsWhole z.world) c.self.view_is c.recall.ensures.whole;
      at = subst (λ (z : CoreState). c.locate-spot.result ≡ spot_at z.world.imsic.harts z.world.imsic.guests c.args.msi.address) c.self.view_is
          c.locate-spot.ensures.spot;
      pass = sym c.pass_of.ensures.passes ∙ c.in-Some.is;
    }) (sym c.is_host.ensures ∙ c.if-is_host.true) c.land_forward.ensures c.relay.ensures

pub returns-else-is_host : goal.returns-else-is_host
returns-else-is_host c = landed_alone c.args.self.now c.land_forward.new.self c.in-Some.number c.args.msi c.locate-spot.result (record {
  whole = subst (λ (z : CoreState). IsWhole z.world) c.self.view_is c.recall.ensures.whole;
  at = subst (λ (z : CoreState). c.locate-spot.result ≡ spot_at z.world.imsic.harts z.world.imsic.guests c.args.msi.address) c.self.view_is
      c.locate-spot.ensures.spot;
  pass = sym c.pass_of.ensures.passes ∙ c.in-Some.is;
}) (sym c.is_host.ensures ∙ c.if-is_host.false) c.land_forward.ensures
