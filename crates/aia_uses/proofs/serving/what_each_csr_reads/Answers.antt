use Rattle.aia_regs.specs.declared.access.Csr.TheVariants.{Select, Reg, Topei, Topi, Sip, Sie}
use Rattle.aia_regs.specs.declared.access.Op.TheVariants.{Read}
use Rattle.std.proofs.Common.{ap, ◌∙◌}
use Rattle.aia_word.specs.Top.{top_value}
use Rattle.aia_vcpu.specs.Vms.{vcpu_of}
use Rattle.aia_model.specs.declared.answer.Answer.TheVariants.{Wide}
use Rattle.aia_uses.specs.Worked.{asked}
use Rattle.aia_uses.proofs.Facts.{read_allowed, top_asked}
use Rattle.aia_uses.proofs.serving.what_each_csr_reads.Goals as goal

pub returns-clause-select : goal.returns-clause-select
returns-clause-select c = λ h g op ok. c.a_guest_reads_what_is_its_own.ensures h g Select op ok

pub returns-clause-reg : goal.returns-clause-reg
returns-clause-reg c = λ h g op ok. c.a_guest_reads_what_is_its_own.ensures h g Reg op ok

pub returns-clause-topei : goal.returns-clause-topei
returns-clause-topei c = λ h g op ok. c.a_guest_reads_what_is_its_own.ensures h g Topei op ok

pub returns-clause-topi : goal.returns-clause-topi
returns-clause-topi c = λ h g op ok. c.a_guest_reads_what_is_its_own.ensures h g Topi op ok

pub returns-clause-sip : goal.returns-clause-sip
returns-clause-sip c = λ h g op ok. c.a_guest_reads_what_is_its_own.ensures h g Sip op ok

pub returns-clause-sie : goal.returns-clause-sie
returns-clause-sie c = λ h g op ok. c.a_guest_reads_what_is_its_own.ensures h g Sie op ok

pub returns-clause-one : goal.returns-clause-one
returns-clause-one c = c.a_guest_reads_what_is_its_own.ensures asked (vcpu_of 0 0) Topei Read read_allowed ∙ ap
    (λ top. Wide (top_value top)) top_asked
