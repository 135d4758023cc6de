use Rattle.std.proofs.Common.{◌∷◌, sym, subst, ◌∙◌}
use Rattle.aia_model.specs.declared.domain_name.DomainName.TheVariants.{Root, Child}
use Rattle.aia_aplic_values.specs.Aplic.{AplicState, AplicStands}
use Rattle.aia_aplic_values.proofs.AddressSteps.{addresses_loaded}
use Rattle.aia_aplic_values.proofs.SideLemmas.{child-side_loaded}
use Rattle.aia_aplic.proofs.aplic.Aplic.load_root.Goals as goal

pub returns-clause-stands : goal.returns-clause-stands
returns-clause-stands c = λ past stands.
    let now : AplicStands (record { root = c.self.inside.root; child = c.self.inside.child; addresses = c.self.inside.addresses }) past =
    subst (λ (a : AplicState). AplicStands a past) (sym c.self.view_is) stands in
    record {
      root = c.load-read.ensures.stands past Root now.root;
      child = child-side_loaded c.args.reg c.self.inside.child past now.child;
      addresses = now.addresses ∙ sym (addresses_loaded Root c.args.reg past);
    }
