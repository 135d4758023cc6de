-- What was reached stays reached, and where a producer that is paused is led.
use Rattle.std.proofs.Common.{◌≡◌, ℕ, ◌<◌, Bool, true, false, not, ◌&&◌, ◌||◌, nat_eq, length, ◌∷◌, [], Option, Some, None, refl, sym, ap, subst, inl, inr}
use Rattle.std.specs.Prelude.{slice_get, get_or}
use Rattle.std.specs.List.{list_any}
use Rattle.std.proofs.lemmas.Bool.{eqb-true, false≢true}
use Rattle.std.proofs.lemmas.Option.{slice_get-get_or}
use Rattle.plans_rules.specs.declared.step.WhichSet.{WhichSet}
use Rattle.plans_rules.specs.declared.step.WhichSet.TheVariants.{Pending, Enabled}
use Rattle.plans_rules.specs.declared.setting.RouteKind.{RouteKind}
use Rattle.plans_rules.specs.declared.setting.RouteKind.TheVariants.{Routed, Switched}
use Rattle.plans_rules.specs.declared.step.AnyStep.{AnyStep}
use Rattle.plans_rules.specs.declared.step.AnyStep.TheVariants.{Fence, Switch, Pause, Resume}
use Rattle.plans_rules.specs.Setting.{Setting}
use Rattle.plans_rules.specs.Rules.{turns, fences, switches, pauses, resumes, Done, is_turned, is_fenced, is_forced, is_paused, is_drained, is_led, is_led_as, is_led_if_any, is_calm, is_reached, is_still}
use Rattle.plans_rules.proofs.BoolLaws.{or_right, or_left, or_cases, and_of, and_left, and_right, added_stays, all_of, all_at, any_more, by_case}

either_more : (a b c e : Bool) → (a ≡ true → c ≡ true) → (b ≡ true → e ≡ true) → (a || b) ≡ true → (c || e) ≡ true
either_more true b c e f g is = or_left c e (f refl)
either_more false b c e f g is = or_right c e (g is)

-- ---- a route that is in force

pub forced_more : (p : ℕ) (x : AnyStep) (done : Done) → is_forced p done ≡ true → is_forced p (x ∷ done) ≡ true
forced_more p x done e = either_more (is_fenced p done) _ _ _ (added_stays (fences p x) _ _) (or_right (switches p x) _) e

pub drained_more : (p : ℕ) (x : AnyStep) (done : Done) → is_drained p done ≡ true → is_drained p (x ∷ done) ≡ true
drained_more p x done e = or_right (fences p x && is_turned p done) _
    (or_right (pauses p x && is_forced p done) _ (or_right (switches p x && is_paused p done) _ e))

fenced_now : (m t c s : Bool) → (m && t) ≡ true → ((elim m [ true ↦ t || c | false ↦ c ]) || s) ≡ true
fenced_now true t c s e = or_left (t || c) s (or_left t c e)
fenced_now false t c s e = absurd (false≢true e)

pub drained_forced : (p : ℕ) (done : Done) → is_drained p done ≡ true → is_forced p done ≡ true
drained_forced p [] e = absurd (false≢true e)
drained_forced p (x ∷ done) e = elim (or_cases (fences p x && is_turned p done) _ e) [
  | inl fenced ↦ fenced_now (fences p x) (is_turned p done) (is_fenced p done) _ fenced
  | inr later ↦ elim (or_cases (pauses p x && is_forced p done) _ later) [
    | inl paused ↦ forced_more p x done (and_right (pauses p x) _ paused)
    | inr last ↦ elim (or_cases (switches p x && is_paused p done) _ last) [
      | inl switched ↦ or_right (is_fenced p (x ∷ done)) _ (or_left (switches p x) _ (and_left (switches p x) _ switched))
      | inr before ↦ forced_more p x done (drained_forced p done before)
    ]
  ]
]

switches_turns : (p : ℕ) (x : AnyStep) → switches p x ≡ true → turns p x ≡ true
switches_turns p (Switch q) e = e
switches_turns p x e = absurd (false≢true e)

forced_step : (m t c a s n b : Bool) → (s ≡ true → a ≡ true) → ((c || n) ≡ true → t ≡ true) → (t ≡ true → b ≡ true)
    → ((elim m [ true ↦ t || c | false ↦ c ]) || (s || n)) ≡ true → (a || b) ≡ true
forced_step true true c a s n b here before turned e = or_right a b (turned refl)
forced_step true false true a s n b here before turned e = or_right a b (turned (before refl))
forced_step false t true a s n b here before turned e = or_right a b (turned (before refl))
forced_step true false false a true n b here before turned e = or_left a b (here refl)
forced_step false t false a true n b here before turned e = or_left a b (here refl)
forced_step true false false a false n b here before turned e = or_right a b (turned (before e))
forced_step false t false a false n b here before turned e = or_right a b (turned (before e))

pub forced_turned : (p : ℕ) (done : Done) → is_forced p done ≡ true → is_turned p done ≡ true
forced_turned p [] e = absurd (false≢true e)
forced_turned p (x ∷ done) e = forced_step (fences p x) (is_turned p done) (is_fenced p done) (turns p x) (switches p x) _ (is_turned p done)
    (switches_turns p x) (forced_turned p done) (λ t. t) e

pub led_forced : (k : Option RouteKind) (p : ℕ) (done : Done) → is_led_as k p done ≡ true → is_forced p done ≡ true
led_forced None p done e = absurd (false≢true e)
led_forced (Some Routed) p done e = drained_forced p done e
led_forced (Some Switched) p done e = e

-- a producer that is paused has nothing in flight, so its route in force leads it
pub paused_drained : (p : ℕ) (done : Done) → is_paused p done ≡ true → is_forced p done ≡ true → is_drained p done ≡ true
paused_drained p [] paused e = absurd (false≢true paused)
paused_drained p (Pause q ∷ done) paused e = pause_law (nat_eq q p) (is_paused p done) (is_forced p done) (is_drained p done) paused e
    (paused_drained p done)
  where
    pause_law : (m was c l : Bool) → (m || was) ≡ true → c ≡ true → (was ≡ true → c ≡ true → l ≡ true) → ((m && c) || l) ≡ true
    pause_law true was c l e f h = or_left c l f
    pause_law false was c l e f h = h e f
paused_drained p (Resume q ∷ done) paused e = paused_drained p done (and_right (not (nat_eq q p)) _ paused) e
paused_drained p (Switch q ∷ done) paused e =
    switch_law (nat_eq q p) (is_fenced p done) (list_any (switches p) done) (is_paused p done) (is_drained p done) paused e (paused_drained p done)
  where
    switch_law : (m c s was l : Bool) → was ≡ true → (c || (m || s)) ≡ true → (was ≡ true → (c || s) ≡ true → l ≡ true) → ((m && was) || l) ≡ true
    switch_law true c s was l e f h = or_left was l e
    switch_law false c s was l e f h = h e f
paused_drained p (Fence q ∷ done) paused e =
    fence_law (nat_eq q p) (is_turned p done) (is_fenced p done) (list_any (switches p) done) (is_drained p done) e (paused_drained p done paused)
  where
    fence_law : (m t c s l : Bool) → ((elim m [ true ↦ t || c | false ↦ c ]) || s) ≡ true → ((c || s) ≡ true → l ≡ true) → ((m && t) || l) ≡ true
    fence_law true true c s l e h = refl
    fence_law true false c s l e h = h e
    fence_law false t c s l e h = h e
paused_drained p (x ∷ done) paused e = paused_drained p done paused e

pub led_as_more : (k : Option RouteKind) (p : ℕ) (x : AnyStep) (done : Done) → is_led_as k p done ≡ true → is_led_as k p (x ∷ done) ≡ true
led_as_more None p x done e = e
led_as_more (Some Routed) p x done e = drained_more p x done e
led_as_more (Some Switched) p x done e = forced_more p x done e

-- ---- who stores where

-- a step that does not resume a producer leaves it calm
pub calm_more : (d : Setting) (p : ℕ) (x : AnyStep) (done : Done) → resumes p x ≡ false → is_calm d p done ≡ true → is_calm d p (x ∷ done) ≡ true
calm_more d p x done none e = either_more (is_led d p done) _ _ _ (led_as_more (slice_get d.producers p) p x done)
    (λ paused. or_right (pauses p x) _ (and_of (not (resumes p x)) _ (ap not none) paused)) e

pub still_more : (d : Setting) (s : WhichSet) (x : AnyStep) (done : Done) → ((p : ℕ) → resumes p x ≡ false) → is_still d s done ≡ true
    → is_still d s (x ∷ done) ≡ true
still_more d Pending x done none e = all_of _ (length d.producers)
    (λ p low. calm_more d p x done (none p) (all_at (λ q. is_calm d q done) (length d.producers) p e low))
still_more d Enabled x done none e = refl

-- one that is led may be resumed
led_there : (o : Option RouteKind) (k : RouteKind) (p : ℕ) (done : Done) → o ≡ Some k
    → (elim o [ None ↦ true | Some kind ↦ is_led_as (Some kind) p done ]) ≡ true → is_led_as o p done ≡ true
led_there None k p done same e = absurd (cc)
led_there (Some kind) k p done same e = e

resumed_calm : (d : Setting) (q p : ℕ) (done : Done) → p < length d.producers → is_led_if_any d q done ≡ true → is_calm d p done ≡ true
    → is_calm d p (Resume q ∷ done) ≡ true
resumed_calm d q p done low led e = by_case (nat_eq q p)
    (λ same. or_left _ _ (led_as_more (slice_get d.producers p) p (Resume q) done
    (led_there (slice_get d.producers p) (get_or d.producers p Routed) p done (slice_get-get_or d.producers p Routed low)
    (subst (λ r. is_led_if_any d r done ≡ true) (eqb-true q p same) led))))
    (λ other. calm_more d p (Resume q) done other e)

pub still_resumed : (d : Setting) (q : ℕ) (done : Done) → is_led_if_any d q done ≡ true → is_still d Pending done ≡ true
    → is_still d Pending (Resume q ∷ done) ≡ true
still_resumed d q done led e = all_of _ (length d.producers)
    (λ p low. resumed_calm d q p done low led (all_at (λ r. is_calm d r done) (length d.producers) p e low))

-- a step that pauses nobody leaves all of them that may store into the new place
pub reached_more : (d : Setting) (s : WhichSet) (x : AnyStep) (done : Done) → ((p : ℕ) → pauses p x ≡ false) → is_reached d s done ≡ true
    → is_reached d s (x ∷ done) ≡ true
reached_more d Pending x done none e = any_more _ _ (length d.producers) (λ p reached. reaches_law (turns p x) (is_turned p done) (pauses p x)
    (resumes p x) (is_paused p done) (none p) reached) e
  where
    reaches_law : (t was p r paused : Bool) → p ≡ false → (was && not paused) ≡ true → ((t || was) && not (p || (not r && paused))) ≡ true
    reaches_law t true true r paused none e = absurd (false≢true (sym none))
    reaches_law t true false r true none e = absurd (false≢true e)
    reaches_law t true false true false none e = and_of (t || true) true (or_right t true refl) refl
    reaches_law t true false false false none e = and_of (t || true) true (or_right t true refl) refl
    reaches_law t false p r paused none e = absurd (false≢true e)
reached_more d Enabled x done none e = e
