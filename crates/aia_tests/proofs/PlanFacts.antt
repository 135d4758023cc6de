-- A step of a plan leaves who is moved as it is; after one in place the next can be made still.
use Rattle.std.proofs.Common.{◌≡◌, [], Bool, true, false, Option, Some, None, sym, ap, subst, ◌∙◌}
use Rattle.std.specs.Prelude.{⊤}
use Rattle.aia_fabric_values.specs.World.{World}
use Rattle.aia_move_values.specs.declared.turn.Next.{Next}
use Rattle.aia_move_values.specs.declared.turn.Next.TheVariants.{Again, Finished}
use Rattle.aia_move_values.specs.declared.who.Who.{Who}
use Rattle.aia_move_values.specs.Move.{Moving, width, MoveFits}
use Rattle.aia_move_values.specs.Targets.{PassAim, next_aim}
use Rattle.aia_move_values.specs.PlanState.{PlanState, moving_of}
use Rattle.aia_move_values.specs.Plan.{IsInPhase, MatchNext, StepsTo, StepsInPlace}

pub none_still : (aim : Option PassAim) (w u : World) (m : Moving) (next : Next PlanState) → StepsTo aim w m u next → m.who.passes.items ≡ []
    → MatchNext next (λ p. (moving_of p).who.passes.items ≡ []) (λ o. ⊤)
none_still None w u m (Again p) steps none = ap (λ (who : Who). who.passes.items) steps.then.same_who ∙ none
none_still None w u m (Finished o) steps none = tt
none_still (Some aim) w u m (Again p) steps none = ap (λ (x : Moving). x.who.passes.items) steps.moved ∙ none
none_still (Some aim) w u m (Finished o) steps none = tt

module _ (w u : World) (plan later : PlanState) where
  pub none_in_place : (made : Bool) → StepsInPlace made w plan u later → (moving_of plan).who.passes.items ≡ []
      → (moving_of later).who.passes.items ≡ []
  none_in_place true steps none = none_still (next_aim (moving_of plan)) w u (moving_of plan) (Again later) steps.0 none
  none_in_place false steps none = ap (λ (p : PlanState). (moving_of p).who.passes.items) steps.1 ∙ none

  pub fits_in_place : (made : Bool) → StepsInPlace made w plan u later → MoveFits w (moving_of plan) → MoveFits u (moving_of later)
  fits_in_place true steps fits = steps.1
  fits_in_place false steps fits = subst (λ (p : PlanState). MoveFits u (moving_of p)) (sym steps.1)
      (subst (λ (x : World). MoveFits x (moving_of plan)) (sym steps.0) fits)

  pub phase_in_place : (made : Bool) → StepsInPlace made w plan u later → IsInPhase (width w) plan → IsInPhase (width u) later
  phase_in_place true steps phase = steps.2
  phase_in_place false steps phase = subst (λ (p : PlanState). IsInPhase (width u) p) (sym steps.1)
      (subst (λ (x : World). IsInPhase (width x) plan) (sym steps.0) phase)
