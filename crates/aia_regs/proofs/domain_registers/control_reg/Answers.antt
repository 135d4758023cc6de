-- Each place of a hart's delivery control has the register with that offset; the others are reserved.
use Rattle.std.proofs.Common.{sym, arith}
use Rattle.aia_regs.specs.declared.domain_registers.DomainReg.TheVariants.{IDelivery, IForce, IThreshold, TopI, ClaimI}
use Rattle.aia_regs.proofs.TableLemmas.{named_by_offset, control, reserved_control}
use Rattle.aia_regs.proofs.domain_registers.control_reg.Goals as goal

pub returns-in-0 : goal.returns-in-0
returns-in-0 c = sym (named_by_offset (IDelivery c.args.hart) _ (control 0x4000 c.args.hart _ c.requires.few (omega arith)))

pub returns-in-4 : goal.returns-in-4
returns-in-4 c = sym (named_by_offset (IForce c.args.hart) _ (control 0x4004 c.args.hart _ c.requires.few (omega arith)))

pub returns-in-8 : goal.returns-in-8
returns-in-8 c = sym (named_by_offset (IThreshold c.args.hart) _ (control 0x4008 c.args.hart _ c.requires.few (omega arith)))

pub returns-in-24 : goal.returns-in-24
returns-in-24 c = sym (named_by_offset (TopI c.args.hart) _ (control 0x4018 c.args.hart _ c.requires.few (omega arith)))

pub returns-in-28 : goal.returns-in-28
returns-in-28 c = sym (named_by_offset (ClaimI c.args.hart) _ (control 0x401c c.args.hart _ c.requires.few (omega arith)))

pub returns-in_default : goal.returns-in_default
returns-in_default c = sym (reserved_control c.args.hart c.args.place c.requires.aligned c.requires.inside (omega arith) (omega arith)
    (omega arith) (omega arith) (omega arith))
