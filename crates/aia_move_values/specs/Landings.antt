-- What lands before a step of a move.
use Rattle.std.specs.Prelude.{◌≡◌, true, false}
use Rattle.aia_vcpu.specs.Routes.{is_at_fence}
use Rattle.aia_fabric_values.specs.World.{World}
use Rattle.aia_fabric_values.specs.Whole.{IsWhole}
use Rattle.aia_fabric_values.specs.Flights.{LandsAll}
use Rattle.aia_move_values.specs.Move.{Moving}
use Rattle.aia_move_values.specs.Touches.{SameMachine}

-- Where the next step of a move is the fence of the entry, all stores in flight of the VM land
-- first, the oldest first; elsewhere none does. The machine stays as it is.
pub record LandsFirst (w : World) (m : Moving) (landed : World) : Type 0 where
  pub fence : is_at_fence m.home ≡ true → LandsAll w landed m.who.found.vm × IsWhole landed
  pub other : is_at_fence m.home ≡ false → landed ≡ w
  pub same : SameMachine w landed

-- What is so once they have landed.
pub record OnceLanded (w : World) (m : Moving) (P : World → Type 0) : Type 0 where
  pub landed : World
  pub first : LandsFirst w m landed
  pub then : P landed
