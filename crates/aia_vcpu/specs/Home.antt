-- The home of a virtual hart: where its interrupts are kept, and what a move makes of it. Profile.
use Rattle.std.specs.Prelude.{ℕ, ◌+◌, Bool, true, false, ◌&&◌, ◌||◌, nat_eq, Option, Some, None}
use Rattle.aia_vcpu.specs.declared.place.GuestPlace.{GuestPlace}
use Rattle.aia_vcpu.specs.declared.end.End.{End}
use Rattle.aia_vcpu.specs.declared.end.End.TheVariants.{File, Memory}
use Rattle.aia_vcpu.specs.declared.rest.Rest.{Rest}
use Rattle.aia_vcpu.specs.declared.rest.Rest.TheVariants.{Parked, Entered}

-- Whether two guest files are the same.
abbrev pub is_place : GuestPlace → GuestPlace → Bool
is_place p q = nat_eq p.hart q.hart && nat_eq p.file q.file

-- How far a move has come: how many of its steps are done, without those that aim a passed source,
-- and how many of those that aim one.
pub record Progress : Type 0 where
  pub steps : ℕ
  pub aims : ℕ

-- No step is done yet.
abbrev pub at_first : Progress
at_first = record { steps = 0; aims = 0 }

-- The way of a move: from a guest file to memory, from memory to a guest file, or from one guest
-- file to another.
pub data Way : Type 0 where
  Outward : (from : GuestPlace) → Way
  Inward : (to : GuestPlace) → Way
  Across : (from to : GuestPlace) → Way

-- The interrupts of the virtual hart rest in memory, and it is parked or runs from there (`Rest`);
-- or it is resident in a guest file; or it is moved.
pub data Home : Type 0 where
  InMemory : (rest : Rest) → Home
  Resident : (in_file : GuestPlace) → Home
  OnWay : (way : Way) (at : Progress) → Home

-- ---- the ends of a move

abbrev pub is_file : End → Bool
is_file File = true
is_file Memory = false

-- The guest file that a way leaves, and the one to which it leads; None: its slot of memory.
abbrev pub left : Way → Option GuestPlace
left (Outward from) = Some from
left (Inward to) = None
left (Across from to) = Some from

abbrev pub led_to : Way → Option GuestPlace
led_to (Outward from) = None
led_to (Inward to) = Some to
led_to (Across from to) = Some to

-- Its two ends.
abbrev pub end_at : Option GuestPlace → End
end_at None = Memory
end_at (Some p) = File

abbrev pub old_end : Way → End
old_end way = end_at (left way)

abbrev pub new_end : Way → End
new_end way = end_at (led_to way)

-- ---- which it is

abbrev pub is_entered : Home → Bool
is_entered (InMemory Entered) = true
is_entered there = false

abbrev pub is_resident : Home → Bool
is_resident (Resident p) = true
is_resident there = false

abbrev pub is_moving : Home → Bool
is_moving (OnWay way at) = true
is_moving there = false

-- Whether it runs: in a guest file, or from memory.
abbrev pub runs : Home → Bool
runs there = is_resident there || is_entered there

-- Whether its interrupts rest in memory, where no move carries them.
abbrev pub rests_in_memory : Home → Bool
rests_in_memory (InMemory rest) = true
rests_in_memory there = false

-- Whether a way leaves a guest file, or leads to it.
abbrev pub is_end_of : GuestPlace → Way → Bool
is_end_of p (Outward from) = is_place p from
is_end_of p (Inward to) = is_place p to
is_end_of p (Across from to) = is_place p from || is_place p to

-- Whether it holds a guest file: a move holds those at its ends until its last step is done.
abbrev pub holds : GuestPlace → Home → Bool
holds p (InMemory rest) = false
holds p (Resident q) = is_place p q
holds p (OnWay way at) = is_end_of p way

-- ---- it begins to run from memory, or ceases to

-- Where its interrupts rest in memory, they stay there, and it rests as `rest` says from then on:
-- it begins to run from there, or ceases to.
abbrev pub resting : Rest → Home → Home
resting rest (InMemory before) = InMemory rest
resting rest there = there

-- ---- its moves

-- It begins to leave its file, to arrive in a file, to shift to another one.
abbrev pub leaving : Home → Home
leaving (Resident p) = OnWay (Outward p) at_first
leaving there = there

abbrev pub arriving : GuestPlace → Home → Home
arriving to (InMemory Parked) = OnWay (Inward to) at_first
arriving to there = there

abbrev pub shifting : GuestPlace → Home → Home
shifting to (Resident p) = OnWay (Across p to) at_first
shifting to there = there

-- Its move ends: it is in the guest file to which that led, or its interrupts rest in memory and it
-- is parked.
abbrev pub at_rest : Option GuestPlace → Home
at_rest None = InMemory Parked
at_rest (Some to) = Resident to

abbrev pub ended : Home → Home
ended (OnWay way at) = at_rest (led_to way)
ended there = there

-- One more step of it is done.
abbrev pub one_further : Progress → Progress
one_further at = record at { steps = at.steps + 1 }

abbrev pub one_more : Home → Home
one_more (OnWay way at) = OnWay way (one_further at)
one_more there = there
