-- What has happened as tests pass a source: a machine of one hart with one guest file and two wired
-- sources, of which MSIs to guests may be made of the first, and a VM of one virtual hart.
use Rattle.std.specs.Prelude.{ℕ, nat_eq, if◌then◌else◌, [], ◌∷◌}
use Rattle.aia_move_values.specs.Targets.{TargetMap}
use Rattle.aia_model.specs.declared.line.Line.TheVariants as lines
use Rattle.aia_model.specs.Event.{History}
use Rattle.aia_model.specs.Event.Event.{Accepted}
use Rattle.aia_hyp_values.specs.Example.{accepted, passable_lines}

-- The machine is made, and the stores that make its first source passable are done.
abbrev pub stored : History
stored = accepted (lines.Machine 1 1 63 2 ∷ passable_lines) []

-- The VM is made, too.
abbrev pub made : History
made = Accepted (lines.Vm 1 8 0) ∷ stored

-- The targets of its sources, as moves see them, given that of the first.
abbrev pub one_ready : ℕ → TargetMap
one_ready t = record {
  harts = 1;
  target = λ s. if nat_eq s 1 then t else 0;
  ready = λ s. nat_eq s 1;
}
