-- Images of virtual harts, in the core.
use Rattle.std.specs.Prelude.{ℕ, slice_index_or}
use Rattle.aia_major.specs.Kept.{majors_shown}
use Rattle.aia_move_values.specs.declared.who.KeptNumbers.{KeptNumbers}
use Rattle.aia_model.specs.Image.{GuestState}
use Rattle.aia_hyp_values.specs.Core.{CoreState, no_record}
use Rattle.aia_hyp_values.specs.Memory.{file_in_memory}

-- All that the interrupts of the virtual hart of a slot are, where they rest in memory, by the two
-- numbers that are kept beside it.
abbrev pub state_in : CoreState → ℕ → KeptNumbers → GuestState
state_in x slot kept = record {
  select = (slice_index_or x.vcpus slot no_record).select;
  file = file_in_memory x.world slot kept;
  majors = majors_shown (slice_index_or x.vcpus slot no_record).majors;
}
