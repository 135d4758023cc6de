use Rattle.std.proofs.Common.{◌-◌, ◌/◌, sym, arith}
use Rattle.aia_fabric_values.proofs.PlaceLemmas.{no_slot, slot_by_number}
use Rattle.aia_fabric.proofs.map.slot_at.Goals as goal
use Rattle.aia_fabric.proofs.map.slot_at.Goals.{else-addr-eq0-via-then-addr-eq0+else-slot-from, else-addr-eq0-via-else-addr-eq0}
use Rattle.aia_regs.specs.declared.address_map.TheConstants.{MEMORY, SLOT}

pub returns-then-addr-lt-MEMORY-clause-value : goal.returns-then-addr-lt-MEMORY-clause-value
returns-then-addr-lt-MEMORY-clause-value c = sym (no_slot c.args.addr (λ q low e. omega arith))

pub returns-then-slot-from-clause-value : goal.returns-then-slot-from-clause-value
returns-then-slot-from-clause-value c = sym (slot_by_number c.args.addr ((c.args.addr - MEMORY) / SLOT) (omega arith) (omega arith))

pub returns-else-addr-eq0-clause-value : goal.returns-else-addr-eq0-clause-value
returns-else-addr-eq0-clause-value c = sym (no_slot c.args.addr (λ q low e. elim c.else-addr-eq0.branch [
  | else-addr-eq0-via-then-addr-eq0+else-slot-from w ↦ omega arith
  | else-addr-eq0-via-else-addr-eq0 w ↦ omega arith
]))
