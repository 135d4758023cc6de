-- A plan of our shape that keeps its rule keeps the rule on routes.
use Rattle.std.proofs.Common.{◌≡◌, ℕ, ◌<◌, Bool, true, false, not, ◌&&◌, nat_eq, [], ◌∷◌, refl, sym, ap}
use Rattle.std.proofs.lemmas.Bool.{false≢true}
use Rattle.aia_plan.specs.Plan.{WrittenPlan, is_step}
use Rattle.aia_plan.specs.Rule.{stands, comes_before, own_record, is_record}
use Rattle.aia_plan.specs.declared.step.Kind.{Kind}
use Rattle.aia_plan.specs.declared.step.Kind.TheVariants as kinds
use Rattle.aia_plan.specs.declared.step.Step.{Step as OurStep}
use Rattle.aia_plan.specs.declared.step.Step.TheVariants.{Word0, Fence, Map, Unmap, Remap, GFence, TakeP}
use Rattle.plans_rules.specs.declared.step.WhichSet.TheVariants.{Pending}
use Rattle.plans_rules.specs.declared.rule.Rule.TheVariants.{Routes}
use Rattle.plans_rules.specs.declared.step.AnyStep.TheVariants as steps
use Rattle.plans_rules.specs.Rules.{Done, is_turned, is_drained, is_still, all_led, any_old, lets_rest}
use Rattle.plans_of_aia.proofs.Flags.{AllUnpaused, old_holds, none_old}
use Rattle.plans_rules.proofs.BoolLaws.{by_case, all_of, and_left, and_right, and_of, or_left, or_false, not_true}
use Rattle.plans_of_aia.specs.Translated.{access_of, onto, translated, shape_setting}
use Rattle.plans_of_aia.proofs.Onward.{turned_on, drained_on, unpaused_on, emptied_on, emptied_now}

-- What is known of a word: it is taken still, or is empty; and both fences come before its take.
pub record Late (words w : ℕ) (rest : WrittenPlan) (done : Done) : Type 0 where
  pub emptied : stands (TakeP w) rest ≡ false → old_holds (shape_setting words) Pending w done ≡ false
  pub fence : comes_before Fence (TakeP w) rest ≡ true
  pub gfence : comes_before GFence (TakeP w) rest ≡ true

-- What is still to come of the routes, or was done.
pub record Led (kind : Kind) (words : ℕ) (rest : WrittenPlan) (done : Done) : Type 0 where
  pub entry : stands Word0 rest ≡ false → is_turned 0 done ≡ true
  pub fence : stands Fence rest ≡ false → is_drained 0 done ≡ true
  pub map : stands (own_record kind) rest ≡ false → is_turned 1 done ≡ true
  pub gfence : stands GFence rest ≡ false → is_drained 1 done ≡ true
  pub entry_first : comes_before Word0 Fence rest ≡ true
  pub map_first : comes_before (own_record kind) GFence rest ≡ true
  pub late : (w : ℕ) → w < words → Late words w rest done
  pub unpaused : AllUnpaused done

-- a step that writes no record is none of those that do
no_record : (kind : Kind) (x : OurStep) → is_record x ≡ false → is_step (own_record kind) x ≡ false
no_record kinds.Leave Unmap e = absurd (false≢true (sym e))
no_record kinds.Leave x e = refl
no_record kinds.Arrive Map e = absurd (false≢true (sym e))
no_record kinds.Arrive x e = refl
no_record kinds.Shift Remap e = absurd (false≢true (sym e))
no_record kinds.Shift x e = refl

-- the second of two steps stands here, so the first does not later
none_later : (first second : OurStep) (x : OurStep) (later : WrittenPlan) → comes_before first second (x ∷ later) ≡ true → is_step second x ≡ true
    → stands first later ≡ false
none_later first second x later e here = by_and (is_step second x) (stands first later) here (and_left _ (comes_before first second later) e)
  where
    by_and : (a b : Bool) → a ≡ true → not (a && b) ≡ true → b ≡ false
    by_and true b p q = not_true b q
    by_and false b p q = absurd (false≢true p)

later_order : (first second x : OurStep) (later : WrittenPlan) → comes_before first second (x ∷ later) ≡ true → comes_before first second later ≡ true
later_order first second x later e = and_right _ (comes_before first second later) e

-- of a word, after a step that is not its take
late_on : (words w : ℕ) (x : OurStep) (later : WrittenPlan) (done : Done) → is_step (TakeP w) x ≡ false → Late words w (x ∷ later) done
    → Late words w later (onto (access_of x) done)
late_on words w x later done other late = record {
  emptied = λ none. emptied_on (shape_setting words) Pending w (access_of x) done
      (late.emptied (or_false (is_step (TakeP w) x) (stands (TakeP w) later) other none));
  fence = later_order Fence (TakeP w) x later late.fence;
  gfence = later_order GFence (TakeP w) x later late.gfence;
}

-- a step that is about no route
led_on : (kind : Kind) (words : ℕ) (x : OurStep) (later : WrittenPlan) (done : Done) → is_step Word0 x ≡ false → is_step Fence x ≡ false
    → is_record x ≡ false → is_step GFence x ≡ false
    → ((w : ℕ) → w < words → Late words w later (onto (access_of x) done)) → Led kind words (x ∷ later) done
    → Led kind words later (onto (access_of x) done)
led_on kind words x later done no_entry no_fence no_map no_gfence late led = record {
  entry = λ none. turned_on 0 (access_of x) done (led.entry (or_false (is_step Word0 x) (stands Word0 later) no_entry none));
  fence = λ none. drained_on 0 (access_of x) done (led.fence (or_false (is_step Fence x) (stands Fence later) no_fence none));
  map = λ none. turned_on 1 (access_of x) done (led.map
      (or_false (is_step (own_record kind) x) (stands (own_record kind) later) (no_record kind x no_map) none));
  gfence = λ none. drained_on 1 (access_of x) done (led.gfence (or_false (is_step GFence x) (stands GFence later) no_gfence none));
  entry_first = later_order Word0 Fence x later led.entry_first;
  map_first = later_order (own_record kind) GFence x later led.map_first;
  late = late;
  unpaused = unpaused_on x done led.unpaused;
}

all_late_on : (kind : Kind) (words : ℕ) (x : OurStep) (later : WrittenPlan) (done : Done) → ((w : ℕ) → is_step (TakeP w) x ≡ false)
    → Led kind words (x ∷ later) done → (w : ℕ) → w < words → Late words w later (onto (access_of x) done)
all_late_on kind words x later done other led = λ w low. late_on words w x later done (other w) (led.late w low)

-- the record is written
map_led : (kind : Kind) (words : ℕ) (x : OurStep) (later : WrittenPlan) (done : Done) → is_step Word0 x ≡ false → is_step Fence x ≡ false
    → is_step GFence x ≡ false → is_turned 1 (onto (access_of x) done) ≡ true
    → ((w : ℕ) → is_step (TakeP w) x ≡ false) → Led kind words (x ∷ later) done → Led kind words later (onto (access_of x) done)
map_led kind words x later done no_entry no_fence no_gfence turned other led = record {
  entry = λ none. turned_on 0 (access_of x) done (led.entry (or_false (is_step Word0 x) (stands Word0 later) no_entry none));
  fence = λ none. drained_on 0 (access_of x) done (led.fence (or_false (is_step Fence x) (stands Fence later) no_fence none));
  map = λ none. turned;
  gfence = λ none. drained_on 1 (access_of x) done (led.gfence (or_false (is_step GFence x) (stands GFence later) no_gfence none));
  entry_first = later_order Word0 Fence x later led.entry_first;
  map_first = later_order (own_record kind) GFence x later led.map_first;
  late = all_late_on kind words x later done other led;
  unpaused = unpaused_on x done led.unpaused;
}

-- both producers are led once both fences are behind
both_led : (words : ℕ) (done : Done) → is_drained 0 done ≡ true → is_drained 1 done ≡ true → all_led (shape_setting words) done ≡ true
both_led words done e f = rw (e, f) refl

-- so nobody stores into the old place
both_still : (words : ℕ) (done : Done) → is_drained 0 done ≡ true → is_drained 1 done ≡ true → is_still (shape_setting words) Pending done ≡ true
both_still words done e f = rw (e, f) refl

-- a pending word is taken
take_led : (kind : Kind) (words v : ℕ) (later : WrittenPlan) (done : Done) → Led kind words (TakeP v ∷ later) done → (w : ℕ) → w < words
    → Late words w later (steps.Take Pending v ∷ done)
take_led kind words v later done led w low =
    let late = led.late w low in
    by_case (nat_eq v w)
    (λ same.
    let none0 = none_later Fence (TakeP w) (TakeP v) later late.fence same in
    let none1 = none_later GFence (TakeP w) (TakeP v) later late.gfence same in
    record {
      emptied = λ none. emptied_now (shape_setting words) Pending v w done same (both_still words done (led.fence none0) (led.gfence none1));
      fence = later_order Fence (TakeP w) (TakeP v) later late.fence;
      gfence = later_order GFence (TakeP w) (TakeP v) later late.gfence;
    })
    (λ other. late_on words w (TakeP v) later done other late)

pub routes_kept : (kind : Kind) (words : ℕ) (rest : WrittenPlan) (done : Done) → Led kind words rest done
    → lets_rest Routes (shape_setting words) done (translated rest) ≡ true
routes_kept kind words [] done led =
    and_of (all_led (shape_setting words) done) _ (both_led words done (led.fence refl) (led.gfence refl))
    (all_of (λ w. not (any_old (shape_setting words) Pending w done)) words
    (λ w low. ap not (none_old (shape_setting words) Pending w done led.unpaused ((led.late w low).emptied refl))))
routes_kept kind words (Word0 ∷ later) done led = routes_kept kind words later (steps.Route 0 ∷ done) (record {
  entry = λ none. refl;
  fence = λ none. drained_on 0 (access_of Word0) done (led.fence none);
  map = λ none. turned_on 1 (access_of Word0) done
      (led.map (or_false (is_step (own_record kind) Word0) (stands (own_record kind) later) (no_record kind Word0 refl) none));
  gfence = λ none. drained_on 1 (access_of Word0) done (led.gfence none);
  entry_first = later_order Word0 Fence Word0 later led.entry_first;
  map_first = later_order (own_record kind) GFence Word0 later led.map_first;
  late = all_late_on kind words Word0 later done (λ w. refl) led;
  unpaused = unpaused_on Word0 done led.unpaused;
})
routes_kept kind words (Fence ∷ later) done led =
    let turned = led.entry (none_later Word0 Fence Fence later led.entry_first refl) in
    routes_kept kind words later (steps.Fence 0 ∷ done) (record {
      entry = λ none. turned_on 0 (access_of Fence) done turned;
      fence = λ none. or_left (is_turned 0 done) _ turned;
      map = λ none. turned_on 1 (access_of Fence) done
          (led.map (or_false (is_step (own_record kind) Fence) (stands (own_record kind) later) (no_record kind Fence refl) none));
      gfence = λ none. drained_on 1 (access_of Fence) done (led.gfence none);
      entry_first = later_order Word0 Fence Fence later led.entry_first;
      map_first = later_order (own_record kind) GFence Fence later led.map_first;
      late = all_late_on kind words Fence later done (λ w. refl) led;
      unpaused = unpaused_on Fence done led.unpaused;
    })
routes_kept kind words (GFence ∷ later) done led =
    let none = none_later (own_record kind) GFence GFence later led.map_first refl in
    let turned = led.map (or_false (is_step (own_record kind) GFence) (stands (own_record kind) later) (no_record kind GFence refl) none) in
    routes_kept kind words later (steps.Fence 1 ∷ done) (record {
      entry = λ gone. turned_on 0 (access_of GFence) done (led.entry gone);
      fence = λ gone. drained_on 0 (access_of GFence) done (led.fence gone);
      map = λ gone. turned_on 1 (access_of GFence) done turned;
      gfence = λ gone. or_left (is_turned 1 done) _ turned;
      entry_first = later_order Word0 Fence GFence later led.entry_first;
      map_first = later_order (own_record kind) GFence GFence later led.map_first;
      late = all_late_on kind words GFence later done (λ w. refl) led;
      unpaused = unpaused_on GFence done led.unpaused;
    })
routes_kept kind words (Map ∷ later) done led =
    routes_kept kind words later (steps.Route 1 ∷ done) (map_led kind words Map later done refl refl refl refl (λ w. refl) led)
routes_kept kind words (Unmap ∷ later) done led =
    routes_kept kind words later (steps.Route 1 ∷ done) (map_led kind words Unmap later done refl refl refl refl (λ w. refl) led)
routes_kept kind words (Remap ∷ later) done led =
    routes_kept kind words later (steps.Route 1 ∷ done) (map_led kind words Remap later done refl refl refl refl (λ w. refl) led)
routes_kept kind words (TakeP v ∷ later) done led =
    routes_kept kind words later (steps.Take Pending v ∷ done)
    (led_on kind words (TakeP v) later done refl refl refl refl (take_led kind words v later done led) led)
routes_kept kind words (x ∷ later) done led =
    routes_kept kind words later (onto (access_of x) done)
    (led_on kind words x later done refl refl refl refl (all_late_on kind words x later done (λ w. refl) led) led)
