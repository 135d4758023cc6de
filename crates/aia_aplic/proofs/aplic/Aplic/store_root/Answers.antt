use Rattle.std.proofs.Common.{◌∷◌, sym, ap, subst, ◌∙◌}
use Rattle.aia_model.specs.declared.domain_name.DomainName.TheVariants.{Root, Child}
use Rattle.aia_regs.specs.declared.domain_registers.DomainReg.{DomainReg}
use Rattle.aia_model.specs.Act.Act.{Written}
use Rattle.aia_aplic_values.specs.Side.{SideStands}
use Rattle.aia_aplic_values.specs.Aplic.{AplicState, AplicStands}
use Rattle.aia_msiaddr.specs.Registers.{address_written}
use Rattle.aia_aplic_values.proofs.AddressSteps.{addresses_root}
use Rattle.aia_aplic_values.proofs.SideLemmas.{child-side_other}
use Rattle.aia_aplic.proofs.aplic.Aplic.store_root.Goals as goal

pub returns-in_default : goal.returns-in_default
returns-in_default c = λ past stands.
    let now : AplicStands (record { root = c.self.inside.root; child = c.self.inside.child; addresses = c.self.inside.addresses }) past =
    subst (λ (a : AplicState). AplicStands a past) (sym c.self.view_is) stands in
    record {
      root = c.store-2.ensures past Root now.root;
      child = child-side_other c.args.reg c.args.value c.self.inside.child past c.in_default.not-SourceCfg now.child;
      addresses = c.store.ensures ∙ ap (address_written c.args.reg c.args.value) now.addresses ∙ sym (addresses_root c.args.reg c.args.value past);
    }

pub returns-in-SourceCfg : goal.returns-in-SourceCfg
returns-in-SourceCfg c = λ past stands.
    let now : AplicStands (record { root = c.self.inside.root; child = c.self.inside.child; addresses = c.self.inside.addresses }) past =
    subst (λ (a : AplicState). AplicStands a past) (sym c.self.view_is) stands in
    record {
      root = c.store-2.ensures past Root now.root;
      child = subst (λ (r : DomainReg). SideStands c.delegate.new.self (Written Root r c.args.value ∷ past) Child) (sym c.in-SourceCfg.is)
          (c.delegate.ensures past c.args.value c.delegates.ensures now.child);
      addresses = c.store.ensures ∙ ap (address_written c.args.reg c.args.value) now.addresses ∙ sym (addresses_root c.args.reg c.args.value past);
    }
