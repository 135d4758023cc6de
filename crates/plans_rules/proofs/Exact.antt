-- A plan that is safe keeps the rules of safety: so they refuse only what can lose something.
use Rattle.std.proofs.Common.{◌≡◌, ℕ, ◌/◌, ◌*◌, ◌<◌, Bool, true, false, not, ◌&&◌, ◌||◌, nat_eq, length, List, [], ◌∷◌, Option, Some, None, inl, inr, refl, sym, ap, subst, ◌∙◌, arith}
use Rattle.std.specs.List.{list_any, AllByRecursion}
use Rattle.plans_rules.specs.declared.rule.Rule.{Rule}
use Rattle.plans_rules.specs.declared.rule.Rule.TheVariants.{Routes, Blank, Words, Numbers, Freeing, Notice}
use Rattle.std.specs.Prelude.{slice_get}
use Rattle.std.proofs.lemmas.Bool.{eq-eqb, false≢true}
use Rattle.std.proofs.lemmas.Option.{slice_get_within}
use Rattle.plans_rules.specs.declared.step.AnyPlace.TheVariants.{Old, New}
use Rattle.plans_rules.specs.declared.step.WhichSet.{WhichSet}
use Rattle.plans_rules.specs.declared.step.WhichSet.TheVariants.{Pending, Enabled}
use Rattle.plans_rules.specs.declared.step.Number.{Number}
use Rattle.plans_rules.specs.declared.step.Number.TheVariants.{Threshold, Delivery}
use Rattle.plans_rules.specs.declared.setting.NumberSpot.{NumberSpot}
use Rattle.plans_rules.specs.declared.setting.NumberSpot.TheVariants.{InOld, InHand, InNew}
use Rattle.plans_rules.specs.declared.setting.RouteKind.{RouteKind}
use Rattle.plans_rules.specs.declared.setting.RouteKind.TheVariants.{Routed, Switched}
use Rattle.plans_rules.specs.declared.step.AnyStep.{AnyStep}
use Rattle.plans_rules.specs.declared.step.AnyStep.TheVariants.{Fence, Pause, Resume, Zero, Take, Copy, Join, Put, ZeroNumber, TakeNumber, CopyNumber, Free}
use Rattle.plans_rules.specs.Setting.{Setting, is_old, same_spot, names}
use Rattle.plans_rules.specs.Machine.{AnyFlight, AnyMachine, landed, flight_landed, all_landed, flights_of, flights_beside, stepped, one_landed}
use Rattle.plans_rules.specs.Machine.By.{Written, InForce}
use Rattle.plans_rules.specs.Safe.{IsProducer, IsRouted, IsStartOfAny, number_in, IsSafe, IsInFile}
use Rattle.plans_rules.specs.Rules.{fences, pauses, switches, empties, lifts, fills, blanks, frees, Done, is_turned, is_fenced, is_forced, is_paused, is_drained, is_led, is_led_as, is_led_if_any, all_led, is_calm, reaches, is_reached, is_still, brought, may_stand, only_old, only_hand, only_new, any_old, is_blank, was_shut, is_shut, has_number, lets, lets_end, lets_rest}
use Rattle.plans_rules.proofs.BoolLaws.{by_case, false_of, true_of, clash, not_true, and_left, and_right, and_of, or_left, or_right, or_false_left, or_false_right, or_cases, all_of, all_find, any_find}
use Rattle.plans_rules.proofs.Reached.{forced_turned, paused_drained}
use Rattle.plans_rules.proofs.Safety.{IsOfSafety}
use Rattle.plans_rules.proofs.States.{Live, live_step, live_store, live_land, At, at_step, at_is, no_old, no_hand, end_new, end_old, lost, worth, Plain, Flying, plain_step, sent, flying_on, Witness, stored, kind_of, unled_routed, unled_switched, unforced_old, unled_old, running, fence_same, Unshut, unshut_step}
use Rattle.plans_rules.proofs.Brought.{two_find, old_after, hand_after, new_after, came, stored_cases}

-- ---- a step

-- whoever is neither led nor paused stores there again
again : (d : Setting) (s : WhichSet) (i : ℕ) (done : Done) (rest : List AnyStep) → is_still d s done ≡ false → ((j : ℕ) → Plain d done rest j)
    → ((p j : ℕ) → IsRouted d p → is_drained p done ≡ false → is_paused p done ≡ false → Flying d done rest p j) → At d rest s i true true false false
again d Enabled i done rest busy plain flying = absurd (false≢true (sym busy))
again d Pending i done rest busy plain flying =
    let found = all_find (λ p. is_calm d p done) (length d.producers) busy in
    unled_old d done rest found.0 i found.1 (or_false_left _ _ found.2) (or_false_right (is_led d found.0 done) _ found.2) (plain i)
    (flying found.0 i)

-- whoever is turned and not paused stores into the new place
there : (d : Setting) (s : WhichSet) (i : ℕ) (done : Done) (rest : List AnyStep) → is_reached d s done ≡ true → ((j : ℕ) → Plain d done rest j)
    → At d rest s i true false true false
there d Enabled i done rest reached plain = absurd (false≢true reached)
there d Pending i done rest reached plain =
    let found = any_find (λ p. reaches p done) (length d.producers) reached in
    stored d done rest found.0 i Written New found.1 (not_true _ (and_right (is_turned found.0 done) _ found.2)) (plain i)
    (((plain i).ways found.0).ahead (and_left (is_turned found.0 done) _ found.2))

-- where one may stand after a step, one does in a state
stands_next : (d : Setting) (x : AnyStep) (done : Done) (rest : List AnyStep) (s : WhichSet) (i : ℕ) (o h n : Bool) → Witness d done (x ∷ rest)
    → ((j : ℕ) → Plain d (x ∷ done) rest j)
    → ((p j : ℕ) → IsRouted d p → is_drained p (x ∷ done) ≡ false → is_paused p (x ∷ done) ≡ false → Flying d (x ∷ done) rest p j)
    → may_stand d s (i / 64) (x ∷ done) o h n ≡ true
    → At d rest s i true o n h
stands_next d x done rest s i o h n v plain flying may =
    elim (or_cases (brought (empties s (i / 64) x) (lifts s (i / 64) x) (fills s (i / 64) x) (blanks s (i / 64) x)
    (may_stand d s (i / 64) done) o h n)
    _ may) [
      | inl brought_there ↦ (let from = came (empties s (i / 64) x) (lifts s (i / 64) x) (fills s (i / 64) x) (blanks s (i / 64) x)
          (may_stand d s (i / 64) done) o h n brought_there in
          at_is d rest s i true _ _ _ _ _ _ from.old from.new from.hand
          (at_step d x rest s i true from.a from.b from.k (v.stands s i from.a from.k from.b from.stood)))
      | inr alone ↦ elim (stored_cases d s (x ∷ done) o h n alone) [
        | inl old ↦ at_is d rest s i true _ _ _ _ _ _ (sym old.0) (sym old.2) (sym old.1)
            (again d s i (x ∷ done) rest old.3 plain flying)
        | inr new ↦ at_is d rest s i true _ _ _ _ _ _ (sym new.0) (sym new.2) (sym new.1)
            (there d s i (x ∷ done) rest new.3 plain)
      ]
    ]

keep_new : (f z : Bool) → z ≡ false → new_after f z false true ≡ true
keep_new f true e = absurd (false≢true (sym e))
keep_new true false e = refl
keep_new false false e = refl

over_new : (f z : Bool) → z ≡ true → new_after f z false true ≡ false
over_new true true e = refl
over_new false true e = refl
over_new f false e = absurd (false≢true e)

over_hand : (l f : Bool) → l ≡ true → hand_after l f false true ≡ false
over_hand true f e = refl
over_hand false f e = absurd (false≢true e)

from_hand : (l f : Bool) → f ≡ true → hand_after l f false true ≡ false
from_hand true f e = refl
from_hand false true e = refl
from_hand false false e = absurd (false≢true e)

now_new : (f z : Bool) → f ≡ true → new_after f z true false ≡ true
now_new true z e = refl
now_new false z e = absurd (false≢true e)

wiped_old : (e : Bool) → e ≡ true → old_after e true ≡ false
wiped_old true e = refl
wiped_old false e = absurd (false≢true e)

not_of : (b : Bool) → (b ≡ true → ⊥) → not b ≡ true
not_of true h = absurd (h refl)
not_of false h = refl

undrained : (p : ℕ) (x : AnyStep) (done : Done) → is_drained p (x ∷ done) ≡ false → is_drained p done ≡ false
undrained p x done e = or_false_right (switches p x && is_paused p done) _
    (or_false_right (pauses p x && is_forced p done) _ (or_false_right (fences p x && is_turned p done) _ e))

-- a store that is in flight to the old place by a route which is in force elsewhere was so before the step
flew : (p : ℕ) (x : AnyStep) (done : Done) → is_drained p (x ∷ done) ≡ false → is_paused p (x ∷ done) ≡ false → is_forced p (x ∷ done) ≡ true
    → (fences p x ≡ false) × (is_paused p done ≡ false)
flew p (Fence q) done undrained runs forced =
    (fence_law (nat_eq q p) (is_turned p done) (is_fenced p done) (list_any (switches p) done) _ (forced_turned p done) undrained forced, runs)
  where
    fence_law : (m t c s l : Bool) → ((c || s) ≡ true → t ≡ true) → ((m && t) || l) ≡ false → ((elim m [ true ↦ t || c | false ↦ c ]) || s) ≡ true
        → m ≡ false
    fence_law true true c s l h e f = absurd (false≢true (sym e))
    fence_law true false c s l h e f = absurd (false≢true (h f))
    fence_law false t c s l h e f = refl
flew p (Pause q) done undrained runs forced = (refl, or_false_right (nat_eq q p) _ runs)
flew p (Resume q) done undrained runs forced = (refl, false_of _ (λ paused. clash _ (paused_drained p done paused forced) undrained))
flew p x done undrained runs forced = (refl, runs)

witness_step : (d : Setting) (x : AnyStep) (done : Done) (rest : List AnyStep) → Witness d done (x ∷ rest) → Witness d (x ∷ done) rest
witness_step d x done rest v =
    let plain : ((j : ℕ) → Plain d (x ∷ done) rest j) = λ j. plain_step d x done rest j (v.plain j) in
    let flying : ((p j : ℕ) → IsRouted d p → is_drained p (x ∷ done) ≡ false → is_paused p (x ∷ done) ≡ false → Flying d (x ∷ done) rest p j) =
    λ p j routed e runs. by_case (is_forced p (x ∷ done))
    (λ forced. let before = flew p x done e runs forced in
    flying_on d x done rest p j before.0 (or_false_left _ _ runs) (v.flying p j routed (undrained p x done e) before.1))
    (λ unforced. sent d (x ∷ done) rest p j routed unforced runs (plain j)) in
    record {
      plain = plain;
      flying = flying;
      stands = λ s i o h n may. stands_next d x done rest s i o h n v plain flying may;
      dirty = λ s i e. at_is d rest s i false _ _ _ _ _ _ (no_old (empties s (i / 64) x))
          (keep_new (fills s (i / 64) x) (blanks s (i / 64) x) (or_false_left _ _ e)) (no_hand (lifts s (i / 64) x) (fills s (i / 64) x))
          (at_step d x rest s i false false true false (v.dirty s i (or_false_right (blanks s (i / 64) x) _ e)));
      unshut = unshut_step d x done rest v.unshut;
    }

-- ---- a step that the rules don't let stand loses something

first_of_word : (w : ℕ) → (64 * w) / 64 ≡ w
first_of_word w = omega arith

below_words : (d : Setting) (w : ℕ) → w < d.words → (64 * w) / 64 < d.words
below_words d w e = subst (λ u. u < d.words) (sym (first_of_word w)) e

named_itself : (s : WhichSet) (w : ℕ) → names s w s ((64 * w) / 64) ≡ true
named_itself Pending w = eq-eqb w ((64 * w) / 64) (sym (first_of_word w))
named_itself Enabled w = eq-eqb w ((64 * w) / 64) (sym (first_of_word w))

-- what is known of a word is known of the word of its first identity
at_first : (P : ℕ → Type 0) (w : ℕ) → P w → P ((64 * w) / 64)
at_first P w h = subst P (sym (first_of_word w)) h

-- one of the first identity of a word, where that may stand so
stands_first : (d : Setting) (rest : List AnyStep) (s : WhichSet) (w : ℕ) (done : Done) (o h n : Bool) → Witness d done rest
    → may_stand d s w done o h n ≡ true → At d rest s (64 * w) true o n h
stands_first d rest s w done o h n v e = v.stands s (64 * w) o h n (at_first (λ u. may_stand d s u done o h n ≡ true) w e)

lift_loses : (d : Setting) (x : AnyStep) (s : WhichSet) (w : ℕ) (done : Done) (rest : List AnyStep) → w < d.words
    → lifts s ((64 * w) / 64) x ≡ true → fills s ((64 * w) / 64) x ≡ false → Witness d done (x ∷ rest) → only_hand d s w done ≡ true → ⊥
lift_loses d x s w done rest inside m other v e =
    lost d rest s (64 * w) (below_words d w inside)
    (at_is d rest s (64 * w) true _ _ _ _ _ _ (no_old (empties s ((64 * w) / 64) x))
    (unfilled (fills s ((64 * w) / 64) x) (blanks s ((64 * w) / 64) x) other)
    (over_hand (lifts s ((64 * w) / 64) x) (fills s ((64 * w) / 64) x) m)
    (at_step d x rest s (64 * w) true false false true (stands_first d (x ∷ rest) s w done false true false v e)))
  where
    unfilled : (f z : Bool) → f ≡ false → new_after f z true false ≡ false
    unfilled true z e = absurd (false≢true (sym e))
    unfilled false true e = refl
    unfilled false false e = refl

over_loses : (d : Setting) (x : AnyStep) (s : WhichSet) (w : ℕ) (done : Done) (rest : List AnyStep) → w < d.words
    → blanks s ((64 * w) / 64) x ≡ true → Witness d done (x ∷ rest) → only_new d s w done ≡ true → ⊥
over_loses d x s w done rest inside m v e =
    lost d rest s (64 * w) (below_words d w inside)
    (at_is d rest s (64 * w) true _ _ _ _ _ _ (no_old (empties s ((64 * w) / 64) x))
    (over_new (fills s ((64 * w) / 64) x) (blanks s ((64 * w) / 64) x) m) (no_hand (lifts s ((64 * w) / 64) x) (fills s ((64 * w) / 64) x))
    (at_step d x rest s (64 * w) true false true false (stands_first d (x ∷ rest) s w done false false true v e)))

wipe_loses : (d : Setting) (s : WhichSet) (w : ℕ) (done : Done) (rest : List AnyStep) → w < d.words → Witness d done (Zero Old s w ∷ rest)
    → only_old d s w done ≡ true → ⊥
wipe_loses d s w done rest inside v e =
    lost d rest s (64 * w) (below_words d w inside)
    (at_is d rest s (64 * w) true _ _ _ _ _ _ (wiped_old (names s w s ((64 * w) / 64)) (named_itself s w)) refl refl
    (at_step d (Zero Old s w) rest s (64 * w) true true false false (stands_first d (Zero Old s w ∷ rest) s w done true false false v e)))

words_kept : (d : Setting) (x : AnyStep) (done : Done) (rest : List AnyStep) → IsInFile d.words x → Witness d done (x ∷ rest)
    → lets Words d x done ≡ true
words_kept d (Take s w) done rest inside v = not_of _ (λ e. lift_loses d (Take s w) s w done rest inside (named_itself s w) refl v e)
words_kept d (Copy s w) done rest inside v = not_of _ (λ e. lift_loses d (Copy s w) s w done rest inside (named_itself s w) refl v e)
words_kept d (Put s w) done rest inside v = not_of _ (λ e. over_loses d (Put s w) s w done rest inside (named_itself s w) v e)
words_kept d (Zero Old s w) done rest inside v = not_of _ (λ e. wipe_loses d s w done rest inside v e)
words_kept d (Zero New s w) done rest inside v = not_of _ (λ e. over_loses d (Zero New s w) s w done rest inside (named_itself s w) v e)
words_kept d (ZeroNumber Old n) done rest inside v = refl
words_kept d (ZeroNumber New n) done rest inside v = refl
words_kept d x done rest inside v = refl

-- what is joined to a word that is not blank: it stays there with what is left over, or both are overwritten
mixed : (d : Setting) (rest : List AnyStep) (s : WhichSet) (i : ℕ) → i / 64 < d.words → At d rest s i true false true false
    → At d rest s i false false true false → ⊥
mixed d [] s i inside new dirty = false≢true (sym (end_new d s i false false true false inside dirty))
mixed d (x ∷ rest) s i inside new dirty = by_case (blanks s (i / 64) x)
    (λ m. lost d rest s i inside (at_is d rest s i true _ _ _ _ _ _ (no_old (empties s (i / 64) x))
    (over_new (fills s (i / 64) x) (blanks s (i / 64) x) m) (no_hand (lifts s (i / 64) x) (fills s (i / 64) x))
    (at_step d x rest s i true false true false new)))
    (λ m. mixed d rest s i inside (on true m new) (on false m dirty))
  where
    on : (q : Bool) → blanks s (i / 64) x ≡ false → At d (x ∷ rest) s i q false true false → At d rest s i q false true false
    on q m v = at_is d rest s i q _ _ _ _ _ _ (no_old (empties s (i / 64) x))
        (keep_new (fills s (i / 64) x) (blanks s (i / 64) x) m) (no_hand (lifts s (i / 64) x) (fills s (i / 64) x))
        (at_step d x rest s i q false true false v)

join_loses : (d : Setting) (s : WhichSet) (w : ℕ) (done : Done) (rest : List AnyStep) → w < d.words → Witness d done (Join s w ∷ rest)
    → only_hand d s w done ≡ true → is_blank d s w done ≡ false → ⊥
join_loses d s w done rest inside v held e =
    let m = names s w s ((64 * w) / 64) in
    mixed d rest s (64 * w) (below_words d w inside)
    (at_is d rest s (64 * w) true _ _ _ _ _ _ refl (now_new (names s w s ((64 * w) / 64)) false (named_itself s w))
    (from_hand false (names s w s ((64 * w) / 64)) (named_itself s w))
    (at_step d (Join s w) rest s (64 * w) true false false true (stands_first d (Join s w ∷ rest) s w done false true false v held)))
    (at_is d rest s (64 * w) false _ _ _ _ _ _ refl (keep_new (names s w s ((64 * w) / 64)) false refl) (no_hand false (names s w s ((64 * w) / 64)))
    (at_step d (Join s w) rest s (64 * w) false false true false (v.dirty s (64 * w) (at_first (λ u. is_blank d s u done ≡ false) w e))))

blank_kept : (d : Setting) (x : AnyStep) (done : Done) (rest : List AnyStep) → IsInFile d.words x → Witness d done (x ∷ rest)
    → lets Blank d x done ≡ true
blank_kept d (Join s w) done rest inside v = join_law (only_hand d s w done) (is_blank d s w done) (join_loses d s w done rest inside v)
  where
    join_law : (h c : Bool) → (h ≡ true → c ≡ false → ⊥) → (not h || c) ≡ true
    join_law false c e = refl
    join_law true true e = refl
    join_law true false e = absurd (e refl refl)
blank_kept d (Zero Old s w) done rest inside v = refl
blank_kept d (Zero New s w) done rest inside v = refl
blank_kept d (ZeroNumber Old n) done rest inside v = refl
blank_kept d (ZeroNumber New n) done rest inside v = refl
blank_kept d x done rest inside v = refl

-- the old place is reached after it was freed
landed_strayed : (d : Setting) (fs : List AnyFlight) (z : AnyMachine) → z.strayed ≡ true → (all_landed d fs z).strayed ≡ true
landed_strayed d [] z e = e
landed_strayed d (f ∷ later) z e = landed_strayed d later (flight_landed d f z) (or_left z.strayed _ e)

strayed_on : (d : Setting) (x : AnyStep) (z : AnyMachine) → z.strayed ≡ true → (stepped d x z).strayed ≡ true
strayed_on d (Fence p) z e = landed_strayed d (flights_of p z.flights) z e
strayed_on d (Pause p) z e = landed_strayed d (flights_of p z.flights) z e
strayed_on d (Take s w) z e = or_left z.strayed _ e
strayed_on d (Copy s w) z e = or_left z.strayed _ e
strayed_on d Free z e = or_left z.strayed _ e
strayed_on d (Zero Old s w) z e = or_left z.strayed _ e
strayed_on d (Zero New s w) z e = e
strayed_on d (ZeroNumber Old n) z e = or_left z.strayed _ e
strayed_on d (ZeroNumber New n) z e = e
strayed_on d (TakeNumber n) z e = or_left z.strayed _ e
strayed_on d (CopyNumber n) z e = or_left z.strayed _ e
strayed_on d x z e = e

stray_loses : (d : Setting) (start : AnyMachine) (rest : List AnyStep) (z : AnyMachine) → Live d start rest z → z.strayed ≡ true → ⊥
stray_loses d start [] z live e = clash z.strayed e (live [] tt refl).strayed
stray_loses d start (x ∷ rest) z live e = stray_loses d start rest (stepped d x z) (live_step d start x rest z live) (strayed_on d x z e)

stray_bit : (s o f : Bool) → o ≡ true → f ≡ true → (s || (o && f)) ≡ true
stray_bit s true f e g = or_right s f g
stray_bit s false f e g = absurd (false≢true e)

-- who is neither led nor paused reaches it
unled_strays : (d : Setting) (done : Done) (rest : List AnyStep) (p : ℕ) → Witness d done rest → IsProducer d p → is_led d p done ≡ false
    → is_paused p done ≡ false → list_any frees done ≡ true → ⊥
unled_strays d done rest p v declared unled runs freed =
    elim (kind_of d p declared) [
      | inl routed ↦ (let fly : Flying d done rest p 0 = v.flying p 0 (declared, routed) (unled_routed d p done routed unled) runs in
          stray_loses d fly.start rest _ (live_land d fly.start rest fly.z 0 fly.live)
          (subst (λ fs. (one_landed d (slice_get fs 0) fly.z).strayed ≡ true) (sym fly.flights)
          (stray_bit fly.z.strayed true fly.z.freed refl (fly.freed ∙ freed))))
      | inr switched ↦ (let plain : Plain d done rest 0 = v.plain 0 in
          stray_loses d plain.at.start rest _ (live_store d plain.at.start rest plain.at.z p InForce 0 declared plain.at.live)
          (ap (λ (y : AnyMachine). y.strayed) (running (plain.at.z.paused p) plain.at.z (landed d (plain.at.z.in_force p) 0 plain.at.z)
          (plain.paused p ∙ runs))
          ∙ stray_bit plain.at.z.strayed (is_old (plain.at.z.in_force p)) plain.at.z.freed
          (ap is_old (unforced_old d done rest p 0 (unled_switched d p done switched unled) plain)) (plain.freed ∙ freed)))
    ]

free_loses : (d : Setting) (done : Done) (rest : List AnyStep) → Witness d done (Free ∷ rest) → is_still d Pending done ≡ false → ⊥
free_loses d done rest v e =
    let found = all_find (λ p. is_calm d p done) (length d.producers) e in
    unled_strays d (Free ∷ done) rest found.0 (witness_step d Free done rest v) found.1
    (free_unled (slice_get d.producers found.0) found.0 (or_false_left _ _ found.2)) (or_false_right (is_led d found.0 done) _ found.2) refl
  where
    free_unled : (k : Option RouteKind) (p : ℕ) → is_led_as k p done ≡ false → is_led_as k p (Free ∷ done) ≡ false
    free_unled None p e = e
    free_unled (Some Routed) p e = e
    free_unled (Some Switched) p e = e

resume_loses : (d : Setting) (q : ℕ) (done : Done) (rest : List AnyStep) → Witness d done (Resume q ∷ rest) → list_any frees done ≡ true
    → is_led_if_any d q done ≡ false → ⊥
resume_loses d q done rest v freed e =
    let unled = unled_kind (slice_get d.producers q) e in
    unled_strays d (Resume q ∷ done) rest q (witness_step d (Resume q) done rest v)
    (slice_get_within d.producers q unled.0 unled.1)
    unled.2 (ap (λ m. not m && is_paused q done) (eq-eqb q q refl)) freed
  where
    unled_kind : (o : Option RouteKind) → (elim o [ None ↦ true | Some kind ↦ is_led_as (Some kind) q done ]) ≡ false
        → (k : RouteKind) × (o ≡ Some k) × (is_led_as o q (Resume q ∷ done) ≡ false)
    unled_kind None e = absurd (false≢true (sym e))
    unled_kind (Some Routed) e = (Routed, refl, e)
    unled_kind (Some Switched) e = (Switched, refl, e)

reach_loses : (d : Setting) (x : AnyStep) (done : Done) (rest : List AnyStep)
    → ((z : AnyMachine) → (stepped d x z).strayed ≡ (z.strayed || z.freed)) → Witness d done (x ∷ rest) → list_any frees done ≡ true → ⊥
reach_loses d x done rest reaches v e =
    let plain : Plain d done (x ∷ rest) 0 = v.plain 0 in
    stray_loses d plain.at.start rest (stepped d x plain.at.z) (live_step d plain.at.start x rest plain.at.z plain.at.live)
    (reaches plain.at.z ∙ or_right plain.at.z.strayed _ (plain.freed ∙ e))

-- a number that is left in a place that was given back stays there, or the place is reached again
left_loses : (d : Setting) (start : AnyMachine) (rest : List AnyStep) (z : AnyMachine) (n : Number) → d.is_inherited ≡ true → Live d start rest z
    → z.flights ≡ [] → z.freed ≡ true → z.old_number n ≡ 1 → ⊥
left_loses d start [] z n inherited live none freed e = zero_is_one (sym ((live [] tt refl).inherited inherited freed n) ∙ e)
  where
    zero_is_one : ◌≡◌ {A = ℕ} 0 1 → ⊥
    zero_is_one f = omega (arith, f)
left_loses d start (TakeNumber m ∷ rest) z n inherited live none freed e =
    stray_loses d start rest _ (live_step d start (TakeNumber m) rest z live) (or_right z.strayed _ freed)
left_loses d start (ZeroNumber Old m ∷ rest) z n inherited live none freed e =
    stray_loses d start rest _ (live_step d start (ZeroNumber Old m) rest z live) (or_right z.strayed _ freed)
left_loses d start (ZeroNumber New m ∷ rest) z n inherited live none freed e =
    left_loses d start rest (stepped d (ZeroNumber New m) z) n inherited (live_step d start (ZeroNumber New m) rest z live) none freed e
left_loses d start (Zero Old s w ∷ rest) z n inherited live none freed e =
    left_loses d start rest (stepped d (Zero Old s w) z) n inherited (live_step d start (Zero Old s w) rest z live) none freed e
left_loses d start (Zero New s w ∷ rest) z n inherited live none freed e =
    left_loses d start rest (stepped d (Zero New s w) z) n inherited (live_step d start (Zero New s w) rest z live) none freed e
left_loses d start (Fence p ∷ rest) z n inherited live none freed e =
    let same = fence_same d p z (ap (flights_of p) none) in
    left_loses d start rest (stepped d (Fence p) z) n inherited (live_step d start (Fence p) rest z live) (ap (flights_beside p) none)
    (ap (λ (y : AnyMachine). y.freed) same ∙ freed) (ap (λ (y : AnyMachine). y.old_number n) same ∙ e)
left_loses d start (Pause p ∷ rest) z n inherited live none freed e =
    let same = fence_same d p z (ap (flights_of p) none) in
    left_loses d start rest (stepped d (Pause p) z) n inherited (live_step d start (Pause p) rest z live) (ap (flights_beside p) none)
    (ap (λ (y : AnyMachine). y.freed) same ∙ freed) (ap (λ (y : AnyMachine). y.old_number n) same ∙ e)
left_loses d start (Free ∷ rest) z n inherited live none freed e =
    left_loses d start rest (stepped d Free z) n inherited (live_step d start Free rest z live) none refl e
left_loses d start (x ∷ rest) z n inherited live none freed e =
    left_loses d start rest (stepped d x z) n inherited (live_step d start x rest z live) none freed e

shut_loses : (d : Setting) (done : Done) (rest : List AnyStep) (n : Number) → Witness d done (Free ∷ rest) → d.is_inherited ≡ true
    → was_shut n done ≡ false → ⊥
shut_loses d done rest n v inherited e =
    let u : Unshut d done (Free ∷ rest) = v.unshut in
    left_loses d u.start rest (stepped d Free u.z) n inherited (live_step d u.start Free rest u.z u.live) u.flights refl
    (u.numbers n ∙ ap (λ b. worth (not b)) e)

shut_kept : (d : Setting) (done : Done) (rest : List AnyStep) → Witness d done (Free ∷ rest) → is_shut d done ≡ true
shut_kept d done rest v = where_inherited d.is_inherited _ _ (λ is. true_of _ (shut_loses d done rest Threshold v is))
    (λ is. true_of _ (shut_loses d done rest Delivery v is))
  where
    where_inherited : (m a b : Bool) → (m ≡ true → a ≡ true) → (m ≡ true → b ≡ true) → (elim m [ true ↦ a && b | false ↦ true ]) ≡ true
    where_inherited true a b f g = and_of a b (f refl) (g refl)
    where_inherited false a b f g = refl

freeing_kept : (d : Setting) (x : AnyStep) (done : Done) (rest : List AnyStep) → Witness d done (x ∷ rest) → lets Freeing d x done ≡ true
freeing_kept d Free done rest v = and_of _ _ (true_of _ (free_loses d done rest v))
    (and_of _ _ (not_of _ (reach_loses d Free done rest (λ z. refl) v)) (shut_kept d done rest v))
freeing_kept d (Resume p) done rest v = resume_law (list_any frees done) (is_led_if_any d p done) (resume_loses d p done rest v)
  where
    resume_law : (freed led : Bool) → (freed ≡ true → led ≡ false → ⊥) → (not freed || led) ≡ true
    resume_law false led e = refl
    resume_law true true e = refl
    resume_law true false e = absurd (e refl refl)
freeing_kept d (Copy s w) done rest v = not_of _ (reach_loses d (Copy s w) done rest (λ z. refl) v)
freeing_kept d (Take s w) done rest v = not_of _ (reach_loses d (Take s w) done rest (λ z. refl) v)
freeing_kept d (Zero Old s w) done rest v = not_of _ (reach_loses d (Zero Old s w) done rest (λ z. refl) v)
freeing_kept d (Zero New s w) done rest v = refl
freeing_kept d (TakeNumber n) done rest v = not_of _ (reach_loses d (TakeNumber n) done rest (λ z. refl) v)
freeing_kept d (CopyNumber n) done rest v = not_of _ (reach_loses d (CopyNumber n) done rest (λ z. refl) v)
freeing_kept d (ZeroNumber Old n) done rest v = not_of _ (reach_loses d (ZeroNumber Old n) done rest (λ z. refl) v)
freeing_kept d (ZeroNumber New n) done rest v = refl
freeing_kept d x done rest v = refl

-- ---- an end that the rules don't let stand

old_loses : (d : Setting) (s : WhichSet) (w : ℕ) (done : Done) → w < d.words → Witness d done [] → any_old d s w done ≡ true → ⊥
old_loses d s w done inside v e =
    let found = two_find (λ h n. may_stand d s w done true h n) e in
    false≢true (sym (end_old d s (64 * w) true true found.1 found.0 (below_words d w inside)
    (stands_first d [] s w done true found.0 found.1 v found.2)))

hand_loses : (d : Setting) (s : WhichSet) (w : ℕ) (done : Done) → w < d.words → Witness d done [] → only_hand d s w done ≡ true → ⊥
hand_loses d s w done inside v e = false≢true (end_new d s (64 * w) true false false true (below_words d w inside)
    (stands_first d [] s w done false true false v e))

dirty_loses : (d : Setting) (s : WhichSet) (w : ℕ) (done : Done) → w < d.words → Witness d done [] → is_blank d s w done ≡ false → ⊥
dirty_loses d s w done inside v e = false≢true (sym (end_new d s (64 * w) false false true false (below_words d w inside)
    (v.dirty s (64 * w) (at_first (λ u. is_blank d s u done ≡ false) w e))))

-- a route that is not in force in the end
unforced_loses : (d : Setting) (done : Done) (p : ℕ) → Witness d done [] → IsProducer d p → is_forced p done ≡ false → ⊥
unforced_loses d done p v declared e =
    let plain : Plain d done [] 0 = v.plain 0 in
    false≢true (ap is_old (sym ((plain.at.live [] tt refl).in_force p declared) ∙ unforced_old d done [] p 0 e plain))

unled_loses : (d : Setting) (done : Done) → Witness d done [] → all_led d done ≡ false → ⊥
unled_loses d done v e =
    let found = all_find (λ p. is_led d p done) (length d.producers) e in
    elim (kind_of d found.0 found.1) [
      | inl routed ↦ (let undrained = unled_routed d found.0 done routed found.2 in
          by_case (is_paused found.0 done)
          (λ paused. unforced_loses d done found.0 v found.1
          (false_of _ (λ forced. clash _ (paused_drained found.0 done paused forced) undrained)))
          (λ runs. let fly : Flying d done [] found.0 0 = v.flying found.0 0 (found.1, routed) undrained runs in
          false≢true (sym (ap is_old (subst (AllByRecursion (λ (f : AnyFlight). f.place ≡ New)) fly.flights (fly.live [] tt refl).flights).0))))
      | inr switched ↦ unforced_loses d done found.0 v found.1 (unled_switched d found.0 done switched found.2)
    ]

number_loses : (d : Setting) (done : Done) (n : Number) → Witness d done [] → has_number d n d.number_to done ≡ false → ⊥
number_loses d done n v e =
    let plain : Plain d done [] 0 = v.plain 0 in
    zero_one (sym (ap worth e) ∙ sym (plain.numbers n d.number_to) ∙ (plain.at.live [] tt refl).numbers n ∙ plain.begun n)
  where
    zero_one : ◌≡◌ {A = ℕ} 0 1 → ⊥
    zero_one e = omega (arith, e)

step_kept : (rule : Rule) (d : Setting) (x : AnyStep) (done : Done) (rest : List AnyStep) → IsOfSafety rule → IsInFile d.words x
    → Witness d done (x ∷ rest) → lets rule d x done ≡ true
step_kept Notice d x done rest of inside v = absurd of
step_kept Words d x done rest of inside v = words_kept d x done rest inside v
step_kept Blank d x done rest of inside v = blank_kept d x done rest inside v
step_kept Freeing d x done rest of inside v = freeing_kept d x done rest v
step_kept Routes d x done rest of inside v = refl
step_kept Numbers d x done rest of inside v = refl

end_kept : (rule : Rule) (d : Setting) (done : Done) → IsOfSafety rule → Witness d done [] → lets_end rule d done ≡ true
end_kept Notice d done of v = absurd of
end_kept Blank d done of v = all_of _ d.words (λ w inside. and_of _ _ (true_of _ (dirty_loses d Pending w done inside v))
    (true_of _ (dirty_loses d Enabled w done inside v)))
end_kept Freeing d done of v = refl
end_kept Routes d done of v = and_of _ _ (true_of _ (unled_loses d done v))
    (all_of _ d.words (λ w inside. not_of _ (old_loses d Pending w done inside v)))
end_kept Words d done of v = all_of _ d.words (λ w inside. and_of _ _ (not_of _ (hand_loses d Pending w done inside v))
    (and_of _ _ (not_of _ (old_loses d Enabled w done inside v)) (not_of _ (hand_loses d Enabled w done inside v))))
end_kept Numbers d done of v = and_of _ _ (true_of _ (number_loses d done Threshold v)) (true_of _ (number_loses d done Delivery v))

rest_kept : (rule : Rule) (d : Setting) (done : Done) (rest : List AnyStep) → IsOfSafety rule → AllByRecursion (IsInFile d.words) rest
    → Witness d done rest → lets_rest rule d done rest ≡ true
rest_kept rule d done [] of inside v = end_kept rule d done of v
rest_kept rule d done (x ∷ rest) of (here, later) v =
    and_of _ _ (step_kept rule d x done rest of here v)
    (rest_kept rule d (x ∷ done) rest of later (witness_step d x done rest v))

-- ---- its beginning

abbrev beginning : Setting → (WhichSet → ℕ → Bool) → (WhichSet → ℕ → Bool) → AnyMachine
beginning d before rest = record {
  old = before;
  new = rest;
  hand = λ s i. false;
  due = before;
  old_number = λ n. worth (same_spot d.number_from InOld);
  new_number = λ n. worth (same_spot d.number_from InNew);
  hand_number = λ n. worth (same_spot d.number_from InHand);
  written = λ p. Old;
  in_force = λ p. Old;
  flights = [];
  freed = false;
  strayed = false;
  noticed = true;
  seen = false;
  told = false;
  paused = λ p. false;
}

it_begins : (d : Setting) (before rest : WhichSet → ℕ → Bool) → (d.is_fresh ≡ true → (s : WhichSet) (i : ℕ) → rest s i ≡ false)
    → IsStartOfAny d (beginning d before rest)
it_begins d before rest fresh = record {
  written = λ p e. refl;
  in_force = λ p e. refl;
  paused = λ p e. refl;
  flights = tt;
  due = λ s i. refl;
  hand = λ s i. refl;
  fresh = fresh;
  freed = refl;
  strayed = refl;
  noticed = λ e. refl;
}

-- A set of one bit is `names` of its number, as it is for a word.
abbrev nothing : WhichSet → ℕ → Bool
nothing s i = false

one_there : (s : WhichSet) (i : ℕ) → names s i s i ≡ true
one_there Pending i = eq-eqb i i refl
one_there Enabled i = eq-eqb i i refl

from_start : (d : Setting) (plan : List AnyStep) (start : AnyMachine) → IsSafe d plan → IsStartOfAny d start → Live d start plan start
from_start d plan start safe is run can e = safe start run is (record { steps = e; others = can })

begin_plain : (d : Setting) (plan : List AnyStep) (i : ℕ) → IsSafe d plan → Plain d [] plan i
begin_plain d plan i safe = record {
  at = record {
    start = beginning d nothing nothing;
    z = beginning d nothing nothing;
    live = from_start d plan _ safe (it_begins d nothing nothing (λ e s i. refl));
    flights = refl;
    base = λ e. refl;
    due = λ e. refl;
    old = refl;
    new = refl;
    hand = refl;
  };
  ways = λ p. record { calm = λ e. refl; ahead = λ e. absurd (false≢true e); behind = λ e f. refl };
  numbers = λ n spot. started spot;
  begun = λ n. begun d.number_from;
  freed = refl;
  paused = λ p. refl;
}
  where
    started : (spot : NumberSpot) → number_in spot Threshold (beginning d nothing nothing) ≡ worth (same_spot d.number_from spot)
    started InOld = refl
    started InHand = refl
    started InNew = refl

    begun : (spot : NumberSpot) → number_in spot Threshold (beginning (record d { number_from = spot }) nothing nothing) ≡ 1
    begun InOld = refl
    begun InHand = refl
    begun InNew = refl

begin : (d : Setting) (plan : List AnyStep) → IsSafe d plan → Witness d [] plan
begin d plan safe = record {
  plain = λ i. begin_plain d plan i safe;
  flying = λ p i routed e runs. sent d [] plan p i routed refl refl (begin_plain d plan i safe);
  stands = λ s i o h n may. (let there = begun_there o h n may in at_is d plan s i true _ _ _ _ _ _ (sym there.0)
      (sym there.2) (sym there.1) (record {
        start = beginning d (names s i) nothing;
        z = beginning d (names s i) nothing;
        live = from_start d plan _ safe (it_begins d (names s i) nothing (λ e s i. refl));
        flights = refl;
        base = λ e. one_there s i;
        due = λ e. one_there s i;
        old = one_there s i;
        new = refl;
        hand = refl;
      }));
  dirty = λ s i e. record {
    start = beginning d nothing (names s i);
    z = beginning d nothing (names s i);
    live = from_start d plan _ safe (it_begins d nothing (names s i) (λ fresh. clash d.is_fresh fresh e));
    flights = refl;
    base = λ e. refl;
    due = λ e. refl;
    old = refl;
    new = one_there s i;
    hand = refl;
  };
  unshut = record {
    start = begun_numbers;
    z = begun_numbers;
    live = from_start d plan _ safe (record {
      written = λ p e. refl;
      in_force = λ p e. refl;
      paused = λ p e. refl;
      flights = tt;
      due = λ s i. refl;
      hand = λ s i. refl;
      fresh = λ e s i. refl;
      freed = refl;
      strayed = refl;
      noticed = λ e. refl;
    });
    flights = refl;
    freed = refl;
    numbers = λ n. refl;
  };
}
  where
    begun_numbers : AnyMachine
    begun_numbers = record (beginning d nothing nothing) { old_number = λ n. 1 }

    begun_there : (o h n : Bool) → (o && (not h && not n)) ≡ true → (o ≡ true) × (h ≡ false) × (n ≡ false)
    begun_there true true n e = absurd (false≢true e)
    begun_there true false true e = absurd (false≢true e)
    begun_there true false false e = (refl, refl, refl)
    begun_there false h n e = absurd (false≢true e)

-- **A safe plan keeps each rule of safety.**
pub safe_keeps : (rule : Rule) (d : Setting) (plan : List AnyStep) → IsOfSafety rule → AllByRecursion (IsInFile d.words) plan → IsSafe d plan
    → lets_rest rule d [] plan ≡ true
safe_keeps rule d plan of inside safe = rest_kept rule d [] plan of inside (begin d plan safe)
