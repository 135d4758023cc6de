use Rattle.std.proofs.Common.{refl}
use Rattle.aia_regs.specs.declared.access.Csr.TheVariants.{Topei}
use Rattle.aia_regs.specs.declared.access.Op.TheVariants.{Write}
use Rattle.aia_vcpu.specs.Vms.{vcpu_of}
use Rattle.aia_laws.specs.Claims.{HasCsr, HasSameFile}
use Rattle.aia_uses.specs.Worked.{asked, entered}
use Rattle.aia_uses.proofs.Facts.{serves_it, serves_in_memory, same_file, same_select}
use Rattle.aia_uses.proofs.serving.it_claims_from_memory.Goals as goal

has_it : HasCsr asked (vcpu_of 0 0) Topei
has_it = record { machine = refl; there = refl; served = serves_it }

has_it_in_memory : HasCsr entered (vcpu_of 0 0) Topei
has_it_in_memory = record { machine = refl; there = refl; served = serves_in_memory }

same : HasSameFile entered asked (vcpu_of 0 0)
same = record { file = same_file; select = same_select }

pub returns-clause-answered : goal.returns-clause-answered
returns-clause-answered c = (c.a_guest_reads_from_memory_what_it_would_in_a_file.ensures entered asked (vcpu_of 0 0) Topei (Write 0) tt
    has_it_in_memory has_it same).0

pub returns-clause-left : goal.returns-clause-left
returns-clause-left c = (c.a_guest_reads_from_memory_what_it_would_in_a_file.ensures entered asked (vcpu_of 0 0) Topei (Write 0) tt has_it_in_memory
    has_it same).1.file
