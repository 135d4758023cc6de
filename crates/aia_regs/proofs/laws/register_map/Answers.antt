use Rattle.aia_regs.specs.declared.file_registers.FileReg.TheVariants.{Delivery, Threshold, Pending, Enable, Reserved, Odd, Outside}
use Rattle.aia_regs.proofs.RegisterLemmas.{row_of}
use Rattle.aia_regs.proofs.laws.register_map.Goals as goal

pub returns : goal.returns
returns c = record {
  delivery = row_of Delivery;
  threshold = row_of Threshold;
  pending = λ select k. row_of (Pending k) select;
  enable = λ select k. row_of (Enable k) select;
  reserved = row_of Reserved;
  odd = row_of Odd;
  outside = row_of Outside;
}
