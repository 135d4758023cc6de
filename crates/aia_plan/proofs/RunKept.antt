-- A whole run: from how a move begins to how it has to end.
use Rattle.std.proofs.Common.{◌≡◌, ℕ, ◌/◌, ◌<◌, Bool, true, false, ◌&&◌, ◌||◌, List, [], ◌∷◌, Option, None, inl, refl, sym, ap, subst, ◌∙◌}
use Rattle.std.specs.List.{list_any, AllByRecursion}
use Rattle.std.proofs.lemmas.Bool.{false≢true}
use Rattle.aia_plan.specs.declared.step.Step.{Step}
use Rattle.aia_plan.specs.declared.step.Step.TheVariants.{Word0, Fence, GFence, TakeP, TakeE}
use Rattle.aia_plan.specs.Plan.{WrittenPlan}
use Rattle.aia_plan.specs.Rule.{stands, takes_pending, takes_enables, puts_enables, is_record}
use Rattle.aia_plan.specs.Transit.{TransitSide, Flight, Transit, Happening, is_identity, stepped, all_happened, steps_in}
use Rattle.aia_plan.specs.Transit.TransitSide.{Old, New}
use Rattle.aia_plan.specs.Transit.Happening.{Does, Stores, Sends, Lands, Refetches, PeerStores}
use Rattle.aia_plan.specs.Safe.{IsStart, IsMoved, IsSafe}
use Rattle.aia_plan.proofs.Throughout.{by_recursion, by_place}
use Rattle.aia_plan.proofs.BoolLaws.{or_none, nothing_left}
use Rattle.aia_plan.proofs.Invariant.{side_if, MayLead, Between, kept}
use Rattle.aia_plan.proofs.StepKept.{step_kept}
use Rattle.aia_plan.proofs.Behind.{Left, left_after, pending_carried, enables_carried, none_carried, guard_of}

-- ---- a run

step_run : (words : ℕ) (first : ℕ → Bool) (c e : Option ℕ) (x : Step) (rest : WrittenPlan) (z : Transit) → Left words c e (x ∷ rest)
    → Between words first c e (x ∷ rest) z → Between words first (takes_pending x) (takes_enables x) rest (stepped x z)
step_run words first c e x rest z left v = step_kept words first x rest z (guard_of words c e x rest left)
    (subst (λ k. Between words first k (puts_enables x) (x ∷ rest) z) (pending_carried words c e x rest left)
    (subst (λ k. Between words first c k (x ∷ rest) z) (enables_carried words c e x rest left) v))

runs : (words : ℕ) (first : ℕ → Bool) (c e : Option ℕ) (run : List Happening) (z : Transit) → Left words c e (steps_in run)
    → Between words first c e (steps_in run) z → Between words first None None [] (all_happened run z)
runs words first c e [] z left v =
    subst (λ k. Between words first k None [] z) (none_carried words c e left).0
    (subst (λ k. Between words first c k [] z) (none_carried words c e left).1 v)
runs words first c e (Does x ∷ later) z left v =
    runs words first (takes_pending x) (takes_enables x) later (stepped x z) (left_after words c e x (steps_in later) left)
    (step_run words first c e x (steps_in later) z left v)
runs words first c e (Stores x ∷ later) z left v = runs words first c e later _ left (kept words first c e (steps_in later) (Stores x) z tt v)
runs words first c e (PeerStores x ∷ later) z left v = runs words first c e later _ left (kept words first c e (steps_in later) (PeerStores x) z tt v)
runs words first c e (Sends x ∷ later) z left v = runs words first c e later _ left (kept words first c e (steps_in later) (Sends x) z tt v)
runs words first c e (Lands k ∷ later) z left v = runs words first c e later _ left (kept words first c e (steps_in later) (Lands k) z tt v)
runs words first c e (Refetches ∷ later) z left v = runs words first c e later _ left (kept words first c e (steps_in later) Refetches z tt v)

-- ---- how it begins

-- What has to stand in a plan.
pub record HoldsAll (words : ℕ) (plan : WrittenPlan) : Type 0 where
  pub word0 : stands Word0 plan ≡ true
  pub fence : stands Fence plan ≡ true
  pub record_step : list_any is_record plan ≡ true
  pub gfence : stands GFence plan ≡ true
  pub pending : (w : ℕ) → w < words → stands (TakeP w) plan ≡ true
  pub enables : (w : ℕ) → w < words → stands (TakeE w) plan ≡ true

old_leads : (fence word0 : Bool) (s : TransitSide) → fence ≡ true → s ≡ Old → MayLead fence word0 s
old_leads true word0 s e old = inl old
old_leads false word0 s e old = absurd (false≢true e)

all_old : (fence word0 : Bool) (fs : List Flight) → fence ≡ true → AllByRecursion (λ (f : Flight). f.side ≡ Old) fs
    → AllByRecursion (λ (f : Flight). MayLead fence word0 f.side) fs
all_old fence word0 [] e all = tt
all_old fence word0 (f ∷ later) e all = (old_leads fence word0 f.side e all.0, all_old fence word0 later e all.1)

none_yet : (due is old new : Bool) → due ≡ (is && old) → new ≡ false → due ≡ ((is && (old || false)) || new)
none_yet due is old new e none = e ∙ sym (or_none (is && old)) ∙ ap (λ x. (is && x) || false) (sym (or_none old))
    ∙ ap (λ x. (is && (old || false)) || x) (sym none)

begins : (words : ℕ) (plan : WrittenPlan) (z : Transit) → HoldsAll words plan → IsStart words z → Between words z.old_enabled None None plan z
begins words plan z has start = record {
  routed = record {
    entry_written = start.routes.entry_written ∙ ap side_if (sym has.word0);
    entry_in_force = old_leads (stands Fence plan) (stands Word0 plan) z.entry_in_force has.fence start.routes.entry_in_force;
    record_written = start.routes.record_written ∙ ap side_if (sym has.record_step);
    record_in_force = start.routes.record_in_force ∙ ap side_if (sym has.gfence);
    flights = all_old (stands Fence plan) (stands Word0 plan) z.flights has.fence
        (by_recursion (λ (f : Flight). f.side ≡ Old) z.flights start.routes.flights);
    order = λ none. absurd (false≢true (sym none ∙ has.fence));
  };
  pended = record {
    union = λ i inside. none_yet (z.due i) (is_identity i) (z.old_pending i) (z.new_pending i) (start.due i) (start.no_pending i inside);
    drained = λ i inside taken. absurd (false≢true (sym taken ∙ has.pending (i / 64) inside));
    late = λ w inside taken. absurd (false≢true (sym taken ∙ has.pending w inside));
  };
  enabled = record {
    union = λ i inside. none_yet (is_identity i && z.old_enabled i) (is_identity i) (z.old_enabled i) (z.new_enabled i) refl
        (start.no_enabled i inside);
    fresh = λ i inside e. start.no_enabled i inside;
    gone = λ w here. absurd (false≢true here);
    drained = λ i inside taken. absurd (false≢true (sym taken ∙ has.enables (i / 64) inside));
  };
}

-- ---- how it ends

ends : (words : ℕ) (start z : Transit) → Between words start.old_enabled None None [] z → IsMoved words start z
ends words start z v = record {
  routes = record {
    entry_written = v.routed.entry_written;
    entry_in_force = v.routed.entry_in_force;
    record_written = v.routed.record_written;
    record_in_force = v.routed.record_in_force;
    flights = by_place (λ (f : Flight). f.side ≡ New) z.flights v.routed.flights;
  };
  pending = λ i inside. nothing_left (z.due i) (is_identity i) (z.old_pending i) (z.new_pending i) (v.pended.union i inside)
      (v.pended.drained i inside refl);
  enabled = λ i inside. nothing_left (is_identity i && start.old_enabled i) (is_identity i) (z.old_enabled i) (z.new_enabled i)
      (v.enabled.union i inside) (v.enabled.drained i inside refl);
  none_pending = λ i inside. v.pended.drained i inside refl;
  none_enabled = λ i inside. v.enabled.drained i inside refl;
}

pub left_is_safe : (words : ℕ) (plan : WrittenPlan) → Left words None None plan → HoldsAll words plan → IsSafe words plan
left_is_safe words plan left has start run begun same =
    ends words start _ (runs words start.old_enabled None None run start
    (subst (Left words None None) (sym same) left)
    (subst (λ k. Between words start.old_enabled None None k start) (sym same) (begins words plan start has begun)))
