-- A step of a plan that is rehearsed is that step of the state for which the rehearsal stands.
use Rattle.std.proofs.Common.{◌≡◌, refl, sym, subst}
use Rattle.aia_regs.specs.declared.file_registers.FileReg.TheVariants.{Delivery, Threshold}
use Rattle.aia_fabric_values.specs.World.{World}
use Rattle.aia_fabric_values.specs.Whole.{IsWhole}
use Rattle.aia_move_values.specs.Move.{width}
use Rattle.aia_plan.specs.Plan.{IsInside}
use Rattle.aia_plan.specs.declared.step.Step.{Step}
use Rattle.aia_plan.specs.declared.step.Step.TheVariants.{Quiet, Word1, Word0, Fence, Map, Unmap, Remap, GFence, TakeP, PutP, TakeE, PutE, Look, TakeT, PutT, Post, Wake}
use Rattle.aia_plan.specs.Transit.{Transit, stepped}
use Rattle.aia_rehearsal.specs.Rehearsed.{Rehearsed}
use Rattle.aia_rehearsal.specs.Steps.{Makes, hand_after, after}
use Rattle.aia_rehearsal.specs.Stands.{StandsFor}
use Rattle.aia_rehearsal.proofs.RouteSteps.{take_pending, take_enables, put_pending, put_enables, number_put, posted, write_notice, write_entry, write_record, fence_record, seen_more}
use Rattle.aia_rehearsal.proofs.FlightSteps.{fenced}

module _ (w u : World) (r : Rehearsed) (z : Transit) (whole : IsWhole w) (s : StandsFor w r z) where
  pub step_stands : (step : Step) → IsInside (width w) step → Makes step r w u → StandsFor u (after step r w) (stepped step z)
  step_stands Quiet inside makes = number_put w r z whole s u r.passage.old Delivery 0 (hand_after Quiet r w) (λ file. refl) s.of.old makes refl refl
  step_stands Word1 inside e = subst (λ (x : World). StandsFor x r z) (sym e) (write_notice w r z whole s)
  step_stands Word0 inside e = subst (λ (x : World). StandsFor x r (stepped Word0 z)) (sym e) (write_entry w r z whole s)
  step_stands Fence inside makes = fenced w u r z whole s makes
  step_stands Map inside e = subst (λ (x : World). StandsFor x r (stepped Map z)) (sym e) (write_record w r z whole s)
  step_stands Unmap inside e = subst (λ (x : World). StandsFor x r (stepped Unmap z)) (sym e) (write_record w r z whole s)
  step_stands Remap inside e = subst (λ (x : World). StandsFor x r (stepped Remap z)) (sym e) (write_record w r z whole s)
  step_stands GFence inside e = subst (λ (x : World). StandsFor x r (stepped GFence z)) (sym e) (fence_record w r z whole s)
  step_stands (TakeP k) inside makes = subst (λ (x : World). StandsFor x (after (TakeP k) r w) (stepped (TakeP k) z)) (sym makes.1)
      (take_pending w r z whole s k inside makes.0)
  step_stands (PutP k) inside makes = subst (λ (x : World). StandsFor x (after (PutP k) r w) (stepped (PutP k) z)) (sym makes.1)
      (put_pending w r z whole s k inside makes.0)
  step_stands (TakeE k) inside makes = subst (λ (x : World). StandsFor x (after (TakeE k) r w) (stepped (TakeE k) z)) (sym makes.1)
      (take_enables w r z whole s k inside makes.0)
  step_stands (PutE k) inside makes = subst (λ (x : World). StandsFor x (after (PutE k) r w) (stepped (PutE k) z)) (sym makes.1)
      (put_enables w r z whole s k inside makes.0)
  step_stands (Look k) inside e = subst (λ (x : World). StandsFor x (after (Look k) r w) z) (sym e)
      (seen_more w r z whole s (hand_after (Look k) r w) refl refl)
  step_stands TakeT inside makes = number_put w r z whole s u r.passage.old Threshold 0 (hand_after TakeT r w) (λ file. refl) s.of.old makes refl refl
  step_stands PutT inside makes = number_put w r z whole s u r.passage.new Threshold r.hand.threshold r.hand (λ file. refl) s.of.new makes refl refl
  step_stands Post inside makes = posted w r z whole s u r.hand.seen makes
  step_stands Wake inside makes = number_put w r z whole s u r.passage.new Delivery r.hand.delivery r.hand (λ file. refl) s.of.new makes refl refl

pub rehearsed : (w u : World) (r t : Rehearsed) (step : Step) → IsWhole w → IsInside (width w) step → Makes step r w u → t ≡ after step r w
    → (z : Transit) → StandsFor w r z → StandsFor u t (stepped step z)
rehearsed w u r t step whole inside makes e z s =
    subst (λ (x : Rehearsed). StandsFor u x (stepped step z)) (sym e) (step_stands w u r z whole s step inside makes)
