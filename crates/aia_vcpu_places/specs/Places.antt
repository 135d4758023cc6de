-- What the places of one virtual hart show. Nothing else of the world is said of it. Vocabulary.
use Rattle.std.specs.Prelude.{◌≡◌, ℕ, ◌+◌, ◌/◌, ◌<◌, ◌≤◌, Bool, false, Option, Some, None}
use Rattle.aia_regs.specs.declared.address_map.TheConstants.{PAGE}
use Rattle.aia_regs.specs.AddressMap.{supervisor_page, guest_page, slot_address}
use Rattle.aia_file.specs.InterruptFile.{InterruptFile}
use Rattle.aia_file.specs.Mrif.{Mrif}
use Rattle.aia_entry.specs.declared.entry.Entry.{Entry}
use Rattle.aia_entry.specs.declared.entry.Entry.TheVariants as entries
use Rattle.aia_entry.specs.Format.{basic_word, mrif_word, notice_word}
use Rattle.aia_vcpu.specs.declared.place.GuestPlace.{GuestPlace}
use Rattle.aia_vcpu.specs.declared.end.End.{End}
use Rattle.aia_vcpu.specs.Home.{Home, old_end, new_end}
use Rattle.aia_vcpu.specs.Home.Home.{Resident, OnWay}
use Rattle.aia_vcpu.specs.declared.end.End.TheVariants.{File, Memory}
use Rattle.aia_vcpu.specs.BySteps.{own_file, next_file}
use Rattle.aia_regs.specs.declared.limits.TheConstants.{HARTS, GUEST_FILES}

-- Its own file, and the other one of a shift, each the empty file where it has none; its slot; its
-- entry of the MSI page table, both words as they are written and what is in force; its G-stage
-- record, as it is written and in force.
pub record Places : Type 0 where
  pub own : InterruptFile
  pub next : InterruptFile
  pub slot : Mrif
  pub word0 : ℕ
  pub word1 : ℕ
  pub in_force : Entry
  pub stage : Option GuestPlace
  pub stage_in_force : Option GuestPlace

-- ---- its places by what a move does with them

-- The two sets of a place.
pub record TwoSets : Type 0 where
  pub pending : ℕ → Bool
  pub enabled : ℕ → Bool

abbrev pub of_file : InterruptFile → TwoSets
of_file file = record { pending = file.pending; enabled = file.enabled }

abbrev pub of_slot : Mrif → TwoSets
of_slot slot = record { pending = slot.pending; enabled = slot.enabled }

abbrev pub no_sets : TwoSets
no_sets = record { pending = λ i. false; enabled = λ i. false }

-- The old end of a move, its new end by what it leads from, and the slot of memory where it is
-- neither end. The file at one end is its own; where both ends are files the new one is the next.
abbrev pub old_sets : Places → End → TwoSets
old_sets v File = of_file v.own
old_sets v Memory = of_slot v.slot

abbrev pub new_sets : Places → End → End → TwoSets
new_sets v from Memory = of_slot v.slot
new_sets v Memory File = of_file v.own
new_sets v File File = of_file v.next

abbrev pub spare_sets : Places → End → End → TwoSets
spare_sets v File File = of_slot v.slot
spare_sets v from to = no_sets

-- The place where it is, or that a move leaves.
abbrev pub old_place : Places → Home → TwoSets
old_place v (Resident p) = of_file v.own
old_place v (OnWay way at) = old_sets v (old_end way)
old_place v there = of_slot v.slot

-- The place to which a move leads.
abbrev pub new_place : Places → Home → TwoSets
new_place v (OnWay way at) = new_sets v (old_end way) (new_end way)
new_place v there = no_sets

-- The slot of memory where it is neither the old place nor the new one.
abbrev pub spare_place : Places → Home → TwoSets
spare_place v (Resident p) = of_slot v.slot
spare_place v (OnWay way at) = spare_sets v (old_end way) (new_end way)
spare_place v there = no_sets

-- ---- its routes

-- The entry that leads to a guest file, or to slot q, whose notices go to a hart, with the slot's
-- number, counted from 1, as identity.
abbrev pub leads_to : ℕ → ℕ → Option GuestPlace → Entry
leads_to q notice_hart None =
    entries.Mrif (slot_address q) (supervisor_page notice_hart / PAGE) (q + 1)
leads_to q notice_hart (Some p) = entries.Basic (guest_page p.hart p.file / PAGE)

-- Word 0 of that entry; and word 1, which a basic entry has too, from the VM's making on.
abbrev pub entry_word : ℕ → Option GuestPlace → ℕ
entry_word q None = mrif_word (slot_address q)
entry_word q (Some p) = basic_word (guest_page p.hart p.file / PAGE)

abbrev pub second_word : ℕ → ℕ → ℕ
second_word q notice_hart = notice_word (supervisor_page notice_hart / PAGE) (q + 1)

-- A guest file that a machine may have: they are numbered from 1. Profile: how many harts and guest
-- files there are.
abbrev pub IsInMap : GuestPlace → Type 0
IsInMap p = (p.hart < HARTS) × (p.file ≤ GUEST_FILES) × (1 ≤ p.file)

-- The guest files of a home are such ones.
pub record FilesFit (there : Home) : Type 0 where
  pub own : (p : GuestPlace) → own_file there ≡ Some p → IsInMap p
  pub next : (p : GuestPlace) → next_file there ≡ Some p → IsInMap p
