-- Which addresses are MSI addresses of a VM, and which interrupt file of the VM each of them names.
-- AIA 1.0, IOMMU Support for MSIs to Virtual Machines: address pattern, address mask.
use Rattle.std.specs.Prelude.{◌≡◌, ℕ, ◌/◌, ◌^◌, Bool, true, ◌&&◌, nat_eq, nat_lt, bit_or}
use Rattle.std.specs.Int.{is_in_range}
use Rattle.aia_word.specs.Packed.{extract, ones}
use Rattle.aia_regs.specs.declared.address_map.TheConstants.{PAGE, PATTERN}
use Rattle.aia_regs.specs.declared.limits.TheConstants.{MASK_ONES, MASK_BITS}

-- Whether a number may be the mask of a VM's page numbers. Profile: it has one to four ones, all
-- below bit 15.
abbrev pub is_mask : ℕ → Bool
is_mask mask = is_in_range 1 MASK_ONES (ones 64 mask) && nat_lt mask (2 ^ MASK_BITS)

abbrev pub IsMask : ℕ → Type 0
IsMask mask = is_mask mask ≡ true

-- The number of the page in which an address lies.
abbrev pub page_number : ℕ → ℕ
page_number addr = addr / PAGE

-- Whether an address is an MSI address of a VM with this mask: its page and the pattern agree where
-- the mask has a 0. Profile: the same pattern for all VMs.
abbrev pub is_msi_address : ℕ → ℕ → Bool
is_msi_address mask addr = nat_eq (bit_or (page_number addr) mask) (bit_or PATTERN mask)

-- The number of the interrupt file that it names: the bits of its page at the ones of the mask,
-- packed.
abbrev pub file_number : ℕ → ℕ → ℕ
file_number mask addr = extract (page_number addr) mask
