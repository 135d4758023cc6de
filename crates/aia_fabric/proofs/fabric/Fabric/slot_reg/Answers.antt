use Rattle.std.proofs.Common.{rules, sym, ◌∙◌}
use Rattle.aia_regs.specs.Operations.{FitsOp}
use Rattle.aia_file.specs.InterruptFile.{accessed}
use Rattle.aia_mrif.proofs.AccessLemmas.{accessed_by_write, read_leaves}
use Rattle.aia_fabric.specs.contracts.fabric.Fabric.{the_view}
use Rattle.aia_fabric_values.specs.SlotAccess.{file_of_slot}
use Rattle.aia_fabric_values.proofs.SlotDeeds.{slot_whole, slot_done, nothing_done}
use Rattle.aia_fabric.proofs.fabric.Fabric.slot_reg.Goals as goal
use Rattle.aia_fabric.proofs.fabric.Fabric.slot_reg.Goals.{then-is_writing, else-is_writing}

pub invariant_of-self : goal.invariant_of-self
invariant_of-self c = elim c.if-is_writing.branch [
  | then-is_writing b ↦ rw (b.self-inside-is) (slot_whole (the_view c.self.inside) c.args.q b.write_reg.new.self.ram.now c.self.invariant
      b.write_reg.ensures.rest)
  | else-is_writing b ↦ rw (b.self-inside-is) c.self.invariant
]

pub returns-clause-done : goal.returns-clause-done
returns-clause-done c =
    let w = the_view c.self.inside in
    let file = file_of_slot w c.args.q 0 in
    let fits : FitsOp c.args.op = search rules in
    rw (← c.self.view_is) (elim c.if-is_writing.branch [
      | then-is_writing b ↦
          let lands = rw (b.write_reg.ensures.same_slot, b.written.ensures) at b.write_reg.ensures.after in
          rw (b.self-inside-is) (slot_done w c.args.q 0 (accessed c.args.reg c.args.op) b.write_reg.new.self.ram.now
          (accessed_by_write c.args.op c.args.reg c.read_reg-before.result file _ c.requires.sets fits c.read_reg-before.ensures lands)
          b.write_reg.ensures.rest)
      | else-is_writing b ↦
          rw (b.self-inside-is) (slot_done w c.args.q 0 (accessed c.args.reg c.args.op) w.memory
          (read_leaves c.args.op c.args.reg file c.requires.sets (sym c.is_writing.ensures ∙ b.if-is_writing.false))
          (nothing_done w.memory c.args.q w.n))
    ])
