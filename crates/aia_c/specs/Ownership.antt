-- What C's handle owns: nothing where it is closed, else an engine in a block of C's heap.
use Rattle.std.specs.Prelude.{◌≡◌, Option, Some, None}
use Rattle.std.specs.Box.Ownership.{box_owns}
use Rattle.std.specs.Coded.{Coded, coded_option}
use Rattle.std.specs.declared.alloc.Global.{Global}
use Rattle.std.specs.contracts.impls.GlobalAllocator.TheImpl.{ghosts}
use Rattle.aia_replay.specs.Stands.{EngineState}
use Rattle.aia_replay.specs.contracts.engine.Engine.{the_row}
use base.Fml.{Fml, ftrue, fex}
use denote.RawPtr.{Ptr, null_ptr}

-- C's heap is one, whatever the handle of it by which the block was taken.
abbrev pub handle_owns : Ptr → Option EngineState → Fml
handle_owns at None = fex (at ≡ null_ptr) (λ _. ftrue)
handle_owns at (Some engine) =
    fex Global (λ heap. box_owns (ghosts.dealloc_token heap) the_row at engine)

abbrev pub held_coded : Coded (Option EngineState)
held_coded = coded_option the_row.coded
