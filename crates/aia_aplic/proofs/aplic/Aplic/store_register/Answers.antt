use Rattle.std.proofs.Common.{◌∷◌, sym, subst, ◌∙◌}
use Rattle.aia_model.specs.declared.domain_name.DomainName.{DomainName}
use Rattle.aia_model.specs.declared.domain_name.DomainName.TheVariants.{Child}
use Rattle.aia_model.specs.Act.Act.{Written}
use Rattle.aia_aplic_values.specs.Aplic.{AplicState, AplicStands}
use Rattle.aia_aplic_values.proofs.AddressSteps.{addresses_child}
use Rattle.aia_aplic_values.proofs.SideLemmas.{root-side_other}
use Rattle.aia_aplic.proofs.aplic.Aplic.store_register.Goals as goal

pub returns-in-Child : goal.returns-in-Child
returns-in-Child c = λ past stands.
    let now : AplicStands (record { root = c.self.inside.root; child = c.self.inside.child; addresses = c.self.inside.addresses }) past =
    subst (λ (a : AplicState). AplicStands a past) (sym c.self.view_is) stands in
    subst (λ (d : DomainName). AplicStands (record { root = c.self.inside.root; child = c.store.new.self; addresses = c.self.inside.addresses })
    (Written d c.args.reg c.args.value ∷ past)) (sym c.in-Child.is) (record {
      root = root-side_other c.args.reg c.args.value c.self.inside.root past now.root;
      child = c.store.ensures past Child now.child;
      addresses = now.addresses ∙ sym (addresses_child c.args.reg c.args.value past);
    })
