-- What a plan knows of the world, between two of its steps.
use Rattle.std.specs.Prelude.{Bool, Option}
use Rattle.aia_file.specs.InterruptFile.{InterruptFile}
use Rattle.aia_vcpu.specs.declared.place.GuestPlace.{GuestPlace}
use Rattle.aia_vcpu_places.specs.Holds.{Holds}
use Rattle.aia_fabric_values.specs.World.{World}
use Rattle.aia_move_values.specs.Views.{places_of}
use Rattle.aia_move_values.specs.Move.{mover, width, MoveFits}
use Rattle.aia_move_values.specs.PlanState.{PlanState, moving_of}
use Rattle.aia_move_values.specs.Plan.{IsInPhase}

-- Its next step can be made, and is a step of its phase; and the places of the virtual hart that is
-- moved hold an interrupt file. `reach`: where its entry in force leads; `saw`: a look of the leave
-- under way saw something.
pub record Knows (w : World) (plan : PlanState) (reach : Option GuestPlace) (file : InterruptFile)
    (saw : Bool) : Type 0 where
  pub fits : MoveFits w (moving_of plan)
  pub phase : IsInPhase (width w) plan
  pub holds : Holds (width w) (moving_of plan).who.found.slot (moving_of plan).who.found.notice
      reach
      (places_of w (mover (moving_of plan)) (moving_of plan).home) (moving_of plan).home
      (moving_of plan).hand file saw
