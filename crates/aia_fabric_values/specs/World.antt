-- All that stores reach: the interrupt files, memory, the MSI page tables and the G-stage records;
-- and the stores that are in flight.
-- Vocabulary.
use Rattle.std.specs.Prelude.{◌≡◌, ℕ, List, [], slice_index_or, None}
use Rattle.aia_file.specs.Imsic.{ImsicState}
use Rattle.aia_entry.specs.Tables.{TableState}
use Rattle.aia_vcpu.specs.declared.vm.Vm.{Vm}
use Rattle.aia_vcpu.specs.Vms.{Vcpu, slot_of}
use Rattle.aia_fabric_values.specs.declared.flying.Flying.{Flying}
use Rattle.aia_fabric_values.specs.declared.stage.Stage.{Stage}

-- The greatest identity of each file, the files, the words of memory, the VMs with their tables,
-- the stores in flight of each VM, the oldest first, the G-stage record of each virtual hart, by
-- its number over all VMs, and how many notices were sent.
pub record World : Type 0 where
  pub n : ℕ
  pub imsic : ImsicState
  pub memory : List ℕ
  pub vms : List Vm
  pub tables : List TableState
  pub flights : List (List Flying)
  pub stages : List Stage
  pub notices : ℕ

-- Nothing changes but what stores change: what the files hold, memory, and the count of notices.
abbrev pub OnlyStores : World → World → Type 0
OnlyStores w u = u ≡ record w {
  imsic = record w.imsic { files = u.imsic.files };
  memory = u.memory;
  notices = u.notices;
}

-- The stores in flight of a VM, the oldest first.
abbrev pub flight_of : World → ℕ → List Flying
flight_of w vm = slice_index_or w.flights vm []

-- A record that names nothing.
abbrev pub no_stage : Stage
no_stage = record { written = None; in_force = None }

-- The G-stage record of a virtual hart.
-- The hypervisor extension 1.0.
abbrev pub stage_of : World → Vcpu → Stage
stage_of w g = slice_index_or w.stages (slot_of w.vms g) no_stage
