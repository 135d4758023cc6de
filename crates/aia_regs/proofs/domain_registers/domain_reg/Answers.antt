-- Where no range of the table has the offset, and the delivery controls of harts.
use Rattle.std.proofs.Common.{◌≡◌, ℕ, ◌+◌, ◌-◌, ◌*◌, ◌/◌, ◌%◌, ◌≤◌, sym, ap, ◌∙◌, arith}
use Rattle.aia_regs.specs.DomainRegisters.{domain_register_of}
use Rattle.aia_regs.proofs.TableLemmas.{unaligned, beyond}
use Rattle.aia_regs.proofs.domain_registers.domain_reg.Goals as goal

pub returns-then-not-is_multiple_of : goal.returns-then-not-is_multiple_of
returns-then-not-is_multiple_of c =
    sym (unaligned c.args.offset (λ e. let tested = c.is_multiple_of.ensures.1 e in cc))

control_place : (offset : ℕ) → 0x4000 ≤ offset → 0x4000 + 32 * ((offset - 0x4000) / 32) + offset % 32 ≡ offset
control_place offset from = omega arith

pub returns-in-16384-to-32767 : goal.returns-in-16384-to-32767
returns-in-16384-to-32767 c = c.control_reg.ensures ∙ ap domain_register_of (control_place c.args.offset (omega arith))

pub returns-in_default-7 : goal.returns-in_default-7
returns-in_default-7 c = sym (beyond c.args.offset (omega arith))
