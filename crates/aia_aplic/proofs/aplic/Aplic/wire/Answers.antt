use Rattle.std.proofs.Common.{sym, subst, ◌∙◌}
use Rattle.aia_model.specs.declared.domain_name.DomainName.TheVariants.{Root, Child}
use Rattle.aia_aplic_values.specs.Aplic.{AplicState, AplicStands}
use Rattle.aia_aplic_values.proofs.AddressSteps.{addresses_driven}
use Rattle.aia_aplic.proofs.aplic.Aplic.wire.Goals as goal

pub returns : goal.returns
returns c = λ past stands.
    let now : AplicStands (record { root = c.self.inside.root; child = c.self.inside.child; addresses = c.self.inside.addresses }) past =
    subst (λ (a : AplicState). AplicStands a past) (sym c.self.view_is) stands in
    record {
      root = c.wire.ensures past Root now.root;
      child = c.wire-2.ensures past Child now.child;
      addresses = now.addresses ∙ sym (addresses_driven c.args.s c.args.level past);
    }
