-- Where each part of the interrupts of a virtual hart is kept, by what its move has made. Profile:
-- the plans of moves.
use Rattle.std.specs.Prelude.{ℕ, ◌-◌, Bool, true, false, not, ◌&&◌, if◌then◌else◌, Option, Some, None}
use Rattle.aia_vcpu.specs.declared.place.GuestPlace.{GuestPlace}
use Rattle.aia_vcpu.specs.Home.{is_file, Way, Home, left, led_to, old_end, new_end}
use Rattle.aia_vcpu.specs.Home.Home.{InMemory, Resident, OnWay}
use Rattle.aia_vcpu.specs.declared.end.End.TheVariants.{File, Memory}
use Rattle.aia_vcpu.specs.Plans.{plan_step, steps_done, is_made, is_next, is_early_made}
use Rattle.aia_vcpu.specs.declared.access.Access.TheVariants.{TakeDelivery, TakePending, TakeEnables, PutEnables, Look, TakeThreshold, PutThreshold}

-- ---- its places

-- Of what a move leaves and what it leads to: the guest file that it leaves, or to which it leads
-- from memory; and the other one, where both are guest files.
abbrev pub first_file : Option GuestPlace → Option GuestPlace → Option GuestPlace
first_file None to = to
first_file (Some p) to = Some p

abbrev pub second_file : Option GuestPlace → Option GuestPlace → Option GuestPlace
second_file None to = None
second_file (Some p) to = to

abbrev pub own_of : Way → Option GuestPlace
own_of way = first_file (left way) (led_to way)

abbrev pub next_of : Way → Option GuestPlace
next_of way = second_file (left way) (led_to way)

-- The guest file that it is in, leaves or arrives in; the other file of a shift.
abbrev pub own_file : Home → Option GuestPlace
own_file (InMemory rest) = None
own_file (Resident p) = Some p
own_file (OnWay way at) = own_of way

abbrev pub next_file : Home → Option GuestPlace
next_file (OnWay way at) = next_of way
next_file there = None

-- The guest file that a move leaves; None where it leaves memory.
abbrev pub old_file : Home → Option GuestPlace
old_file (OnWay way at) = left way
old_file there = None

-- The guest file that a move leads to; None where it leads to memory.
abbrev pub new_file : Home → Option GuestPlace
new_file (OnWay way at) = led_to way
new_file there = None

-- ---- the two sets, word by word

-- Whether word w of the pending set is taken from the old place; whether word w of the enabled set
-- is; whether that is put in the new place.
abbrev pub is_drained : ℕ → Home → ℕ → Bool
is_drained words there w = is_made words there (TakePending w)

abbrev pub is_enable_taken : ℕ → Home → ℕ → Bool
is_enable_taken words there w = is_made words there (TakeEnables w)

abbrev pub is_enable_put : ℕ → Home → ℕ → Bool
is_enable_put words there w = is_made words there (PutEnables w)

-- ---- the numbers

-- Whether eidelivery stands in its own file: of a leave and of a shift, until it is taken.
abbrev pub delivery_in_own : Home → Bool
delivery_in_own (InMemory rest) = false
delivery_in_own (Resident p) = true
delivery_in_own (OnWay way at) =
    is_file (old_end way) && not (is_early_made (OnWay way at) TakeDelivery)

-- Whether eithreshold stands in its own file, or in the other one; else the move carries it, or the
-- hypervisor keeps it.
abbrev pub threshold_in_own : ℕ → Home → Bool
threshold_in_own words (InMemory rest) = false
threshold_in_own words (Resident p) = true
threshold_in_own words (OnWay way at) =
    if is_file (old_end way) then not (is_made words (OnWay way at) TakeThreshold)
    else is_made words (OnWay way at) PutThreshold

abbrev pub threshold_in_next : ℕ → Home → Bool
threshold_in_next words (OnWay way at) = is_file (old_end way) && is_file (new_end way)
    && is_made words (OnWay way at) PutThreshold
threshold_in_next words there = false

-- ---- the looks of a leave

abbrev pub is_leaving : Home → Bool
is_leaving (OnWay way at) = not (is_file (new_end way))
is_leaving there = false

-- The step that looks at word w.
abbrev pub look_step : ℕ → ℕ → ℕ
look_step words w = plan_step File Memory words (Look w)

-- At which word the next step looks, where it looks at one: as many looks are made before it.
abbrev pub look_word : ℕ → Home → ℕ
look_word words there = steps_done there - look_step words 0

-- Whether the next step looks at a word of which something holds.
abbrev pub look_sees : ℕ → Home → (ℕ → Bool) → Bool
look_sees words there holds =
    is_next words there (Look (look_word words there)) && holds (look_word words there)
