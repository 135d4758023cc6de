-- The MSI page tables of all VMs, what of them is in force, and where it leads the stores of
-- devices.
-- AIA 1.0, IOMMU Support for MSIs to Virtual Machines, "MSI page tables".
use Rattle.std.specs.Prelude.{ℕ, ◌+◌, ◌*◌, ◌/◌, List, [], replicate, slice_index, slice_index_or, slice_set, if◌then◌else◌}
use Rattle.aia_entry.specs.declared.entry.Entry.{Entry}
use Rattle.aia_entry.specs.declared.entry.Entry.TheVariants.{Basic, Mrif, NotValid, Custom, Misconfigured}
use Rattle.aia_entry.specs.declared.table.Route.{Route}
use Rattle.aia_entry.specs.declared.table.Route.TheVariants.{Other, Fault, To}
use Rattle.aia_regs.specs.declared.limits.TheConstants.{ENTRIES}
use Rattle.aia_entry.specs.Format.{decoded}
use Rattle.aia_entry.specs.Translation.{file_number, is_msi_address}

-- The table of a VM: the mask of its MSI addresses, the byte of memory at which the table begins,
-- and for each file the entry in force.
pub record TableState : Type 0 where
  pub mask : ℕ
  pub start : ℕ
  pub in_force : List Entry

-- A table as it is made: no entry is valid.
abbrev pub new_table : ℕ → ℕ → TableState
new_table mask start =
    record { mask = mask; start = start; in_force = replicate ENTRIES NotValid }

-- A table with no entry. Vocabulary: that of a VM that does not stand.
abbrev pub no_table : TableState
no_table = record { mask = 0; start = 0; in_force = [] }

-- The table of a VM.
abbrev pub table_of : List TableState → ℕ → TableState
table_of tables vm = slice_index_or tables vm no_table

-- ---- the entry in force

-- The entry in force for a file. Vocabulary: past the last one, one that is not valid.
abbrev pub entry_in_force : TableState → ℕ → Entry
entry_in_force table file = slice_index_or table.in_force file NotValid

-- Where an entry leads: to its place, or nowhere.
abbrev pub leads_by : Entry → Route
leads_by (Basic page) = To (Basic page)
leads_by (Mrif addr page identity) = To (Mrif addr page identity)
leads_by NotValid = Fault NotValid
leads_by Custom = Fault Custom
leads_by Misconfigured = Fault Misconfigured

-- Where a store of a device at an address goes: by the entry in force for the file that the address
-- names.
abbrev pub route_of : TableState → ℕ → Route
route_of table addr =
    if is_msi_address table.mask addr
    then leads_by (entry_in_force table (file_number table.mask addr))
    else Other

-- ---- the entry in memory

-- The byte of memory at which the entry of a file begins. Profile: two words of eight bytes an
-- entry.
abbrev pub entry_byte : TableState → ℕ → ℕ
entry_byte table file = table.start + 16 * file

-- What the two words of an entry say in memory.
abbrev pub written_entry : List ℕ → TableState → ℕ → Entry
written_entry words table file =
    decoded (slice_index words (entry_byte table file / 8))
    (slice_index words ((entry_byte table file + 8) / 8))

-- A table after a fence of a file: the entry is in force as it is written.
abbrev pub fenced : List ℕ → ℕ → TableState → TableState
fenced words file table =
    record table { in_force = slice_set table.in_force file (written_entry words table file) }

-- All tables after a fence of a file of a VM.
abbrev pub fenced_at : List TableState → ℕ → ℕ → List ℕ → List TableState
fenced_at tables vm file words = slice_set tables vm (fenced words file (table_of tables vm))
