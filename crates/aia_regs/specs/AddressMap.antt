-- Where the interrupt files of harts, the domains of the APLIC and the memory lie. Profile: all
-- addresses of the map.
use Rattle.std.specs.Prelude.{ℕ, ◌+◌, ◌*◌, Bool, ◌&&◌, nat_le, nat_lt}
use Rattle.aia_regs.specs.declared.address_map.TheConstants.{ROOT_DOMAIN, REGION, MACHINE_FILES, SUPERVISOR_FILES, HART_STRIDE, PAGE, MEMORY, MEMORY_END, SLOT, TABLES, TABLE}

-- The first address of the page of a hart's machine-level file.
abbrev pub machine_page : ℕ → ℕ
machine_page hart = MACHINE_FILES + hart * PAGE

-- The first address of the page of a hart's supervisor file.
abbrev pub supervisor_page : ℕ → ℕ
supervisor_page hart = SUPERVISOR_FILES + hart * HART_STRIDE

-- The first address of the page of a hart's guest file: the guest files 1, 2 .. follow the
-- supervisor file.
abbrev pub guest_page : ℕ → ℕ → ℕ
guest_page hart file = supervisor_page hart + file * PAGE

-- Whether an address lies in the 4-KiB page that begins at `page`.
-- AIA 1.0, IMSIC, "Memory region for an interrupt file": each file is a page.
abbrev pub is_in_page : ℕ → ℕ → Bool
is_in_page page addr = nat_le page addr && nat_lt addr (page + PAGE)

-- Whether an address lies in the control region of 32 KiB that begins at `base`: the root domain's,
-- or its child's, right after it.
-- AIA 1.0, APLIC, "Memory-mapped control region for an interrupt domain".
abbrev pub is_in_region : ℕ → ℕ → Bool
is_in_region base addr = nat_le base addr && nat_lt addr (base + REGION)

abbrev pub root_region : ℕ
root_region = ROOT_DOMAIN

abbrev pub child_region : ℕ
child_region = ROOT_DOMAIN + REGION

-- Whether an address lies in memory. Its slots come first, then the MSI page tables of VMs.
abbrev pub is_in_memory : ℕ → Bool
is_in_memory addr = nat_le MEMORY addr && nat_lt addr MEMORY_END

-- The first address of a slot, which keeps a memory-resident interrupt file.
abbrev pub slot_address : ℕ → ℕ
slot_address q = MEMORY + q * SLOT

-- The first address of the MSI page table of a VM.
abbrev pub table_address : ℕ → ℕ
table_address vm = TABLES + vm * TABLE
