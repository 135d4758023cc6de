-- What a plan knows, in another world of the same machine.
use Rattle.std.proofs.Common.{◌≡◌, ◌+◌, ◌/◌, Bool, List, sym, ap, subst, ◌∙◌}
use Rattle.aia_entry.specs.Tables.{TableState}
use Rattle.aia_fabric_values.specs.World.{World}
use Rattle.aia_move_values.specs.Move.{Moving, width}
use Rattle.aia_move_values.specs.PlanState.{PlanState}
use Rattle.aia_move_values.specs.Plan.{IsInPhase}
use Rattle.aia_move_values.specs.Touches.{SameMachine, OnlyAccesses, Touches}

pub phase_still : (w u : World) (plan : PlanState) → SameMachine w u → IsInPhase (width w) plan → IsInPhase (width u) plan
phase_still w u plan same phase = subst (λ n. IsInPhase ((n + 1) / 64) plan) (sym same.n) phase

-- an access of a move is one of the same machine, and so is a step
pub only_accesses : (w u : World) → OnlyAccesses w u → SameMachine w u
only_accesses w u rest = record {
  n = ap (λ (x : World). x.n) rest;
  vms = ap (λ (x : World). x.vms) rest;
  harts = ap (λ (x : World). x.imsic.harts) rest;
  guests = ap (λ (x : World). x.imsic.guests) rest;
}

pub machine_touched : (sent : Bool) (w u : World) (m : Moving) → Touches sent w u m → SameMachine w u
machine_touched sent w u m touches = only_accesses w u touches.rest

-- a world with other tables
pub only_tables : (w u : World) (tables : List TableState) → u ≡ record w { tables = tables } → OnlyAccesses w u
only_tables w u tables e = e ∙ ap (λ (x : World). record w
    { imsic = record w.imsic { files = x.imsic.files }; memory = x.memory; tables = x.tables; stages = x.stages; notices = x.notices }) (sym e)

-- and a world that is as it was
pub no_accesses : (w u : World) → u ≡ w → OnlyAccesses w u
no_accesses w u e = e ∙ ap (λ (x : World). record w
    { imsic = record w.imsic { files = x.imsic.files }; memory = x.memory; tables = x.tables; stages = x.stages; notices = x.notices }) (sym e)
