-- When a plan is safe: it loses nothing, doubles nothing and leaves nothing behind, whatever
-- devices and other virtual harts do, and wherever between its steps. Profile.
use Rattle.std.specs.Prelude.{◌≡◌, ℕ, ◌/◌, ◌<◌, false, ◌&&◌, List, All}
use Rattle.aia_plan.specs.Plan.{WrittenPlan}
use Rattle.aia_plan.specs.Transit.{TransitSide, Flight, Transit, Happening, is_identity, all_happened, steps_in}
use Rattle.aia_plan.specs.Transit.TransitSide.{Old, New}

-- All routes, written and in force, and all stores in flight lead to one place.
pub record AllLeadTo (side : TransitSide) (z : Transit) : Type 0 where
  pub entry_written : z.entry_written ≡ side
  pub entry_in_force : z.entry_in_force ≡ side
  pub record_written : z.record_written ≡ side
  pub record_in_force : z.record_in_force ≡ side
  pub flights : All (λ (f : Flight). f.side ≡ side) z.flights

-- How a move begins, of a file of so many words: all leads to the old place, the new one is empty,
-- nothing is carried, and due is what is pending in the old place. Which identities are pending and
-- enabled there, and which stores are in flight, is free.
pub record IsStart (words : ℕ) (z : Transit) : Type 0 where
  pub routes : AllLeadTo Old z
  pub no_pending : (i : ℕ) → i / 64 < words → z.new_pending i ≡ false
  pub no_enabled : (i : ℕ) → i / 64 < words → z.new_enabled i ≡ false
  pub nothing_carried : (bit : ℕ) → z.carried_pending bit ≡ false
  pub no_enables_carried : (bit : ℕ) → z.carried_enables bit ≡ false
  pub due : (i : ℕ) → z.due i ≡ (is_identity i && z.old_pending i)

-- How a move has to end: all leads to the new place; there just what is due is pending, and just
-- what was enabled at the start is enabled; the old place is empty.
pub record IsMoved (words : ℕ) (start z : Transit) : Type 0 where
  pub routes : AllLeadTo New z
  pub pending : (i : ℕ) → i / 64 < words → z.new_pending i ≡ z.due i
  pub enabled : (i : ℕ) → i / 64 < words
      → z.new_enabled i ≡ (is_identity i && start.old_enabled i)
  pub none_pending : (i : ℕ) → i / 64 < words → z.old_pending i ≡ false
  pub none_enabled : (i : ℕ) → i / 64 < words → z.old_enabled i ≡ false

-- A plan is safe: from every start, whatever happens before, between and after its steps, the move
-- ends so.
abbrev pub IsSafe : ℕ → WrittenPlan → Type 0
IsSafe words plan =
    (start : Transit) (run : List Happening) → IsStart words start → steps_in run ≡ plan
    → IsMoved words start (all_happened run start)
