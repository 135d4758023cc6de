-- Where stores for a virtual hart go, and which of its interrupts in memory the host is told of, by
-- what its move has made. Profile: the plans of moves.
use Rattle.std.specs.Prelude.{◌≡◌, ◌⊎◌, ℕ, ◌/◌, Bool, true, false, not, ◌&&◌, nat_lt, if◌then◌else◌, Option, Some, None, ◌||◌}
use Rattle.aia_vcpu.specs.declared.place.GuestPlace.{GuestPlace}
use Rattle.aia_vcpu.specs.declared.end.End.{End}
use Rattle.aia_vcpu.specs.Home.{Home, left, old_end, new_end}
use Rattle.aia_vcpu.specs.Home.Home.{InMemory, Resident, OnWay}
use Rattle.aia_vcpu.specs.declared.end.End.TheVariants.{File, Memory}
use Rattle.aia_vcpu.specs.Plans.{is_begun, is_made, is_early_made, is_early_next}
use Rattle.aia_vcpu.specs.declared.access.Access.TheVariants.{WriteEntry, Fence, Map, GFence, TakeEnables, PutEnables}
use Rattle.aia_vcpu.specs.BySteps.{new_file, is_drained}

-- The guest file where it is, or that its move leaves; None: its slot of memory.
abbrev pub origin : Home → Option GuestPlace
origin (InMemory rest) = None
origin (Resident p) = Some p
origin (OnWay way at) = left way

-- Whether its move has written word 0 of the entry; and fenced it. Whether it has written the
-- G-stage record; and fenced it.
abbrev pub is_written : Home → Bool
is_written there = is_early_made there WriteEntry

abbrev pub is_closed : Home → Bool
is_closed there = is_early_made there Fence

abbrev pub is_stage_written : Home → Bool
is_stage_written there = is_early_made there Map

abbrev pub is_stage_closed : Home → Bool
is_stage_closed there = is_early_made there GFence

-- The guest file that the entry of the MSI page table names as it is written; None: its slot.
abbrev pub entry_names : Home → Option GuestPlace
entry_names there = if is_written there then new_file there else origin there

-- Whether its next step is the fence of the entry.
abbrev pub is_at_fence : Home → Bool
is_at_fence there = is_early_next there Fence

-- Where stores of devices may go: where it was, as long as the fence is to come; and where its move
-- leads, once the entry is written. The entry in force leads to such a place: a law says so.
-- Answers don't depend on this; laws and contracts do. AIA 1.0, IOMMU Support for MSIs to Virtual
-- Machines: an entry may be fetched before it is fenced.
abbrev pub MayReach : Home → Option GuestPlace → Type 0
MayReach there place = ((place ≡ origin there) × (is_closed there ≡ false))
    ⊎ ((place ≡ new_file there) × (is_written there ≡ true))

-- What the entry in force leads to after a step of its move, given what it led to before: a fence
-- puts in force what the entry names.
abbrev pub reach_stepped : Home → Option GuestPlace → Option GuestPlace
reach_stepped there was = if is_at_fence there then entry_names there else was

-- The same in one table, by whether the entry was fetched again since the newest step: where it was
-- until the fence, or until such a fetch once the entry is written.
abbrev pub devices_by : Bool → Home → Option GuestPlace
devices_by refetched there =
    if is_closed there || (is_written there && refetched) then new_file there else origin there

-- The guest file that its G-stage record names as it is written; None: nothing.
abbrev pub stage_names : Home → Option GuestPlace
stage_names there = if is_stage_written there then new_file there else origin there

-- Whether its next step is the fence of the record; and what the record in force names after a step
-- of its move, given what it named before.
abbrev pub is_at_gfence : Home → Bool
is_at_gfence there = is_early_next there GFence

abbrev pub stage_stepped : Home → Option GuestPlace → Option GuestPlace
stage_stepped there was = if is_at_gfence there then stage_names there else was

-- The guest file that stores of the virtual harts of its VM reach, its own too, as its record in
-- force says; None: its slot of memory.
-- The hypervisor extension 1.0: address translation.
abbrev pub peers_reach : Home → Option GuestPlace
peers_reach there = if is_stage_closed there then new_file there else origin there

-- Where a store may land, of files with so many words: where it was, as long as no word was taken
-- there; and where its move leads, once a step of the move is done.
abbrev pub MayLand : ℕ → Home → Option GuestPlace → Type 0
MayLand words there place = ((place ≡ origin there) × (is_drained words there 0 ≡ false))
    ⊎ ((place ≡ new_file there) × (is_begun there ≡ true))

-- Whether the slot has the enables of a word in a move between two ends, by whether they are taken
-- from the old one, and put in the new one.
abbrev pub watches : End → End → Bool → Bool → Bool
watches from Memory taken put = put
watches Memory File taken put = not taken
watches File File taken put = false

-- Whether a store to the slot sends a notice for those identities of word w that are enabled, of
-- files with so many words: for one whose interrupts rest in memory, in a leave from the step on
-- that puts the word's enables into the slot, and in an arrival until the step that takes them.
-- Past the last word of a file it may say anything: no identity there is enabled.
abbrev pub is_watched : ℕ → Home → ℕ → Bool
is_watched words (InMemory rest) w = nat_lt w words
is_watched words (Resident p) w = false
is_watched words (OnWay way at) w = watches (old_end way) (new_end way)
    (is_made words (OnWay way at) (TakeEnables w)) (is_made words (OnWay way at) (PutEnables w))

-- Whether a store to the slot of a virtual hart sends a notice, given which identities are enabled
-- and the one that the store asks for: where that one is enabled, and its word is watched.
-- AIA 1.0, IOMMU Support for MSIs to Virtual Machines, "Memory-resident interrupt files". Profile:
-- also where the identity was pending already.
abbrev pub sends_notice : ℕ → Home → (ℕ → Bool) → Option ℕ → Bool
sends_notice words there enabled None = false
sends_notice words there enabled (Some i) = enabled i && is_watched words there (i / 64)
