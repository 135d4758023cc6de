use Rattle.std.proofs.Common.{ℕ, not, Some, sym, ap, ◌∙◌}
use Rattle.aia_regs.specs.declared.domain_registers.DomainReg.{DomainReg}
use Rattle.aia_source.specs.Registers.{is_by_msi}
use Rattle.aia_model.specs.declared.domain_name.DomainName.{DomainName}
use Rattle.aia_model.specs.declared.domain_name.DomainName.TheVariants.{Child}
use Rattle.aia_model.specs.Passable.{redirects_by}
use Rattle.aia_replay.proofs.AimLemmas.{keeps_msis}
use Rattle.aia_replay.proofs.machine.Machine.redirects.Goals as goal

pub returns-in-DomainCfg : goal.returns-in-DomainCfg
returns-in-DomainCfg c = λ h stands some.
    ap (λ b. not b) (c.is_by_msi.ensures ∙ ap (λ (v : ℕ). is_by_msi v) c.domaincfg_kept.ensures
    ∙ sym (keeps_msis c.args.self.now h c.args.value stands some))
    ∙ sym (ap (λ (d : DomainName). redirects_by h (Some d) c.args.register c.args.value) c.in-Child.is
    ∙ ap (λ (r : DomainReg). redirects_by h (Some Child) r c.args.value) c.in-DomainCfg.is)
