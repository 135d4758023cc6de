-- The file in whose page an address lies. Profile: where the pages lie.
use Rattle.std.specs.Prelude.{ℕ, Bool, true, false, is_some, Option}
use Rattle.std.specs.Option.{option_map_or}
use Rattle.aia_word.specs.Sets.{least_of}
use Rattle.aia_regs.specs.AddressMap.{machine_page, supervisor_page, guest_page, is_in_page}
use Rattle.aia_file.specs.declared.spot.Spot.{Spot}
use Rattle.aia_file.specs.declared.spot.Spot.TheVariants.{MachineFile, SupervisorFile, GuestFile, Nowhere}

-- The hart in the page of whose machine-level file an address lies, of so many harts.
abbrev pub machine_file_at : ℕ → ℕ → Option ℕ
machine_file_at harts addr = least_of (λ hart. is_in_page (machine_page hart) addr) 0 harts

-- The hart in the page of whose supervisor file it lies.
abbrev pub supervisor_file_at : ℕ → ℕ → Option ℕ
supervisor_file_at harts addr = least_of (λ hart. is_in_page (supervisor_page hart) addr) 0 harts

-- The guest file of a hart in whose page it lies, of the guest files 1 to `guests`.
abbrev pub guest_file_at : ℕ → ℕ → ℕ → Option ℕ
guest_file_at guests hart addr = least_of (λ file. is_in_page (guest_page hart file) addr) 1 guests

-- The hart in the page of one of whose guest files it lies.
abbrev pub guest_hart_at : ℕ → ℕ → ℕ → Option ℕ
guest_hart_at harts guests addr =
    least_of (λ hart. is_some (guest_file_at guests hart addr)) 0 harts

-- ---- the map: pages of machine-level, supervisor and guest files, which are all apart

-- The guest file of a hart in whose page an address lies; Nowhere where it lies in none.
abbrev pub guest_spot_of : ℕ → ℕ → ℕ → Spot
guest_spot_of guests addr hart =
    option_map_or (GuestFile hart) (guest_file_at guests hart addr) Nowhere

-- The same of any hart.
abbrev pub guest_spot_at : ℕ → ℕ → ℕ → Spot
guest_spot_at harts guests addr =
    option_map_or (guest_spot_of guests addr) (guest_hart_at harts guests addr) Nowhere

-- The file in whose page an address lies, of a machine of so many harts and guest files a hart;
-- Nowhere where it lies in none.
abbrev pub spot_at : ℕ → ℕ → ℕ → Spot
spot_at harts guests addr =
    option_map_or MachineFile (machine_file_at harts addr)
    (option_map_or SupervisorFile (supervisor_file_at harts addr)
    (guest_spot_at harts guests addr))

-- Whether a spot is a file, in whose page an address may lie; and whether it is a guest file.
abbrev pub is_page : Spot → Bool
is_page Nowhere = false
is_page spot = true

abbrev pub is_guest_page : Spot → Bool
is_guest_page (GuestFile hart file) = true
is_guest_page spot = false
