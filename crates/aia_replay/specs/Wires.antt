-- The APLIC of a machine as the targets that moves see, and what an aim makes of it. Vocabulary.
use Rattle.std.specs.Prelude.{ℕ}
use Rattle.aia_model.specs.Act.{Past}
use Rattle.aia_aplic_values.specs.Aplic.{AplicState, AplicStands}
use Rattle.aia_aplic_values.specs.Passing.{with_aim, hart_count, target_in, is_passable_in}
use Rattle.aia_move_values.specs.Targets.{TargetMap, AimsOne}

-- The target of each source is the one that the child domain keeps; a source is ready where MSIs to
-- guests may be made of it.
abbrev pub targets_of : AplicState → TargetMap
targets_of a = record { harts = hart_count a; target = target_in a; ready = is_passable_in a }

-- A source is aimed at a target: the APLIC stands for the past with that aim, and moves see the
-- source aimed.
pub record WiresAim (old : AplicState) (source target : ℕ) (new : AplicState) : Type 0 where
  pub stands : (past : Past) → AplicStands old past → AplicStands new (with_aim past source target)
  pub one : AimsOne (targets_of old) source target (targets_of new)
