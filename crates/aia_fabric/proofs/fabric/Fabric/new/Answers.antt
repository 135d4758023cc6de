use Rattle.std.proofs.Common.{rules, refl, arith}
use Rattle.aia_file.specs.Mrif.{pending_place, enable_place}
use Rattle.aia_fabric_values.proofs.WholeLemmas.{zero_bit}
use Rattle.aia_fabric.proofs.fabric.Fabric.new.Goals as goal
use Rattle.aia_regs.specs.declared.limits.TheConstants.{MEMORY_WORDS}

pub invariant_of-result : goal.invariant_of-result
invariant_of-result c = record {
  harts = search rules;
  guests = search rules;
  files = search rules;
  greatest = search rules;
  width = search rules;
  memory = search rules;
  no_pending_zero = λ q low. zero_bit c.in_ok-ram.ram MEMORY_WORDS (pending_place q 0) c.in_ok-ram.ensures (omega arith);
  no_enabled_zero = λ q low. zero_bit c.in_ok-ram.ram MEMORY_WORDS (enable_place q 0) c.in_ok-ram.ensures (omega arith);
  few = search rules;
  tables = search rules;
  flights = search rules;
  vcpus = search rules;
  vms = search rules;
  stages = refl;
}

pub returns : goal.returns
returns c = record {
  world = rw (c.in_ok-ram.ensures, c.new-4.ensures, c.in_ok-iommu.ensures, c.new-5.ensures, c.new-6.ensures) refl;
  hart_count = search rules;
  guest_count = search rules;
  files = c.in_ok-imsic.ensures.empty;
}
