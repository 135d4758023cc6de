-- A run of a plan that keeps the rules, happening by happening.
use Rattle.std.proofs.Common.{◌≡◌, ℕ, ◌/◌, ◌<◌, Bool, true, false, not, ◌&&◌, ◌||◌, if◌then◌else◌, nat_eq, length, List, [], ◌∷◌, Option, Some, None, ◌⊎◌, inl, inr, refl, sym, ap, subst, ◌∙◌}
use Rattle.std.specs.List.{list_any, AllByRecursion}
use Rattle.plans_rules.specs.declared.rule.Rule.{Rule}
use Rattle.plans_rules.specs.declared.rule.Rule.TheVariants.{Routes, Blank, Words, Numbers, Freeing, Notice}
use Rattle.std.specs.Prelude.{slice_get}
use Rattle.std.proofs.lemmas.Bool.{eqb-true, false≢true}
use Rattle.plans_rules.specs.declared.step.AnyPlace.{AnyPlace}
use Rattle.plans_rules.specs.declared.step.AnyPlace.TheVariants.{Old, New}
use Rattle.plans_rules.specs.declared.step.WhichSet.{WhichSet}
use Rattle.plans_rules.specs.declared.step.WhichSet.TheVariants.{Pending, Enabled}
use Rattle.plans_rules.specs.declared.step.Number.{Number}
use Rattle.plans_rules.specs.declared.step.Number.TheVariants.{Threshold, Delivery}
use Rattle.plans_rules.specs.declared.setting.NumberSpot.{NumberSpot}
use Rattle.plans_rules.specs.declared.setting.NumberSpot.TheVariants.{InOld, InHand, InNew}
use Rattle.plans_rules.specs.declared.setting.RouteKind.{RouteKind}
use Rattle.plans_rules.specs.declared.setting.RouteKind.TheVariants.{Routed, Switched}
use Rattle.plans_rules.specs.declared.step.AnyStep.{AnyStep}
use Rattle.plans_rules.specs.declared.step.AnyStep.TheVariants.{Route, Fence, Switch, Pause, Resume, Zero, Take, Copy, Join, Put, ZeroNumber, TakeNumber, CopyNumber, PutNumber, Free}
use Rattle.plans_rules.specs.Setting.{Setting, same_bank, same_number, same_spot, names}
use Rattle.plans_rules.specs.Machine.{AnyFlight, AnyMachine, flight_landed, all_landed, flights_of, flights_beside, led_to, stepped, AnyHappening, all_happened, steps_in}
use Rattle.plans_rules.specs.Machine.AnyHappening.{Does, Stores, Sends, Lands, Refetches}
use Rattle.plans_rules.specs.Safe.{IsProducer, CanHappen, IsRun, IsStartOfAny, number_in, IsMovedByAny, IsSafe}
use Rattle.plans_rules.specs.Rules.{empties, lifts, fills, blanks, shuts, resumes, switches, frees, Done, is_turned, is_fenced, is_forced, is_paused, is_led_as, is_led, all_led, is_still, any_of_two, brought, may_stand, only_old, only_hand, only_new, any_old, is_blank, was_shut, is_shut, has_number, lets, lets_end, lets_rest}
use Rattle.plans_rules.proofs.BoolLaws.{false_of, clash, not_true, and_left, and_right, and_of, and_false_right, or_left, or_right, or_false, or_cases, added_cases, all_at}
use Rattle.plans_rules.proofs.Reached.{led_forced, still_more, still_resumed}
use Rattle.plans_rules.proofs.Brought.{Places, two_at, two_find, old_after, hand_after, new_after, brought_at, take_somewhere, copy_somewhere, join_somewhere, put_somewhere, wipe_somewhere, zero_somewhere, not_left, blank_before, hand_more, new_more, old_more, hand_cases}
use Rattle.plans_rules.proofs.Between.{Kept, Leads, MayLand, Flies, Invariant, old_is_new, all_mapped, fly_all, between}

-- ---- a step

-- The rules of safety.
abbrev pub IsOfSafety : Rule → Type 0
IsOfSafety Notice = ⊥
IsOfSafety rule = Unit {0}

-- What they say of a step.
abbrev pub Guard : Setting → AnyStep → Done → Type 0
Guard d x done = (rule : Rule) → IsOfSafety rule → lets rule d x done ≡ true

route_law : (m t l now : Bool) (w f : AnyPlace) → (now ≡ true → l ≡ true) → Leads t l w f → Leads (m || t) now (if m then New else w) f
route_law true t l now w f same v = record { before = λ e. absurd (false≢true (sym e)); after = λ e. refl; led = λ e. ((v.led (same e)).0, refl) }
route_law false t l now w f same v = record { before = v.before; after = v.after; led = λ e. v.led (same e) }

switch_law : (m t l now : Bool) (w f : AnyPlace) → (now ≡ true → (m ≡ true) ⊎ (l ≡ true)) → Leads t l w f
    → Leads (m || t) now (if m then New else w) (if m then New else f)
switch_law true t l now w f same v = record { before = λ e. absurd (false≢true (sym e)); after = λ e. refl; led = λ e. (refl, refl) }
switch_law false t l now w f same v = record {
  before = v.before;
  after = v.after;
  led =
      λ e. elim (same e) [ inl m ↦ absurd (false≢true m) | inr led ↦ v.led led ];
}

fence_law : (m t l now : Bool) (there w f : AnyPlace) → (m ≡ true → there ≡ w) → (now ≡ true → ((m ≡ true) × (t ≡ true)) ⊎ (l ≡ true))
    → Leads t l w f → Leads t now w (if m then there else f)
fence_law true t l now there w f same cases v = record {
  before = λ e. ((v.before e).0, same refl ∙ (v.before e).0);
  after = v.after;
  led = λ e. elim (cases e) [ inl both ↦ (same refl ∙ v.after both.1, both.1) | inr led ↦ (same refl ∙ v.after (v.led led).1, (v.led led).1) ];
}
fence_law false t l now there w f same cases v = record {
  before = v.before;
  after = v.after;
  led = λ e. elim (cases e) [ inl both ↦ absurd (false≢true both.0) | inr led ↦ v.led led ];
}

-- how each step puts a route in force
switched_cases : (f m s : Bool) → (f || (m || s)) ≡ true → (m ≡ true) ⊎ ((f || s) ≡ true)
switched_cases true m s e = inr refl
switched_cases false true s e = inl refl
switched_cases false false s e = inr e

forced_by_switch : (p q : ℕ) (done : Done) → is_forced p (Switch q ∷ done) ≡ true → (nat_eq q p ≡ true) ⊎ (is_forced p done ≡ true)
forced_by_switch p q done e = switched_cases (is_fenced p done) (nat_eq q p) _ e

forced_by_fence : (p q : ℕ) (done : Done) → is_forced p (Fence q ∷ done) ≡ true
    → ((nat_eq q p ≡ true) × (is_turned p done ≡ true)) ⊎ (is_forced p done ≡ true)
forced_by_fence p q done e = elim (or_cases _ (list_any (switches p) done) e) [
  | inl fenced ↦ elim (added_cases (nat_eq q p) _ _ fenced) [ inl now ↦ inl now | inr before ↦ inr (or_left (is_fenced p done) _ before) ]
  | inr switched ↦ inr (or_right (is_fenced p done) _ switched)
]

-- and how it leads a routed producer that has something in flight
beside_cases : (m a l : Bool) → ((m && a) || l) ≡ true → m ≡ false → l ≡ true
beside_cases true a l e other = absurd (false≢true (sym other))
beside_cases false a l e other = e

-- at its own kind
at_routed : (k : Option RouteKind) (p : ℕ) (x : AnyStep) (done : Done) → k ≡ Some Routed
    → (is_led_as (Some Routed) p (x ∷ done) ≡ true → is_led_as (Some Routed) p done ≡ true) → is_led_as k p (x ∷ done) ≡ true → is_led_as k p done ≡ true
at_routed k p x done e h led =
    subst (λ k. is_led_as k p done ≡ true) (sym e) (h (subst (λ k. is_led_as k p (x ∷ done) ≡ true) e led))

-- a routed producer's flights, at a step that turns it
turned_flight : (m t l now : Bool) (place : AnyPlace) → (now ≡ true → l ≡ true) → MayLand t l place → MayLand (m || t) now place
turned_flight m t l now place same may = (λ e. false_of now (λ led. clash l (same led) (may.0 e)), λ e. or_right m t (may.1 e))

fly_route : (d : Setting) (q : ℕ) (done : Done) (f : AnyFlight) → Flies d done f → Flies d (Route q ∷ done) f
fly_route d q done f may = (
  may.0,
  may.1,
  turned_flight (nat_eq q f.producer) _ _ _ f.place
      (at_routed (slice_get d.producers f.producer) f.producer (Route q) done may.0.1 (λ led. led)) may.2,
)

fly_switch : (d : Setting) (q : ℕ) (done : Done) (f : AnyFlight) → Flies d done f → Flies d (Switch q ∷ done) f
fly_switch d q done f may = (
  may.0,
  may.1,
  turned_flight (nat_eq q f.producer) _ _ _ f.place
      (at_routed (slice_get d.producers f.producer) f.producer (Switch q) done may.0.1
      (λ led. elim (or_cases (nat_eq q f.producer && is_paused f.producer done) _ led) [
        | inl both ↦ clash (is_paused f.producer done) (and_right (nat_eq q f.producer) _ both) may.1
        | inr before ↦ before
      ])) may.2,
)

-- one that is resumed was not paused, if it has something in flight
fly_resume : (d : Setting) (q : ℕ) (done : Done) (f : AnyFlight) → Flies d done f → Flies d (Resume q ∷ done) f
fly_resume d q done f may = (
  may.0,
  and_false_right (not (nat_eq q f.producer)) _ may.1,
  (
    λ e. false_of _ (λ led. clash _
        (at_routed (slice_get d.producers f.producer) f.producer (Resume q) done may.0.1 (λ led. led) led) (may.2.0 e)),
    may.2.1,
  ),
)

-- the flights of a producer, and those beside, at its fence
pub of_all : (P : AnyFlight → Type 0) → (p : ℕ) (fs : List AnyFlight) → AllByRecursion P fs → AllByRecursion P (flights_of p fs)
of_all P p [] all = all
of_all P p (f ∷ later) (first, others) = of_law (nat_eq p f.producer) (of_all P p later others)
  where
    of_law : (m : Bool) → AllByRecursion P (flights_of p later) → AllByRecursion P (if m then f ∷ flights_of p later else flights_of p later)
    of_law true rest = (first, rest)
    of_law false rest = rest

beside_all : (P Q : AnyFlight → Type 0) → (p : ℕ) (fs : List AnyFlight) → ((f : AnyFlight) → nat_eq p f.producer ≡ false → P f → Q f)
    → AllByRecursion P fs → AllByRecursion Q (flights_beside p fs)
beside_all P Q p [] h all = tt
beside_all P Q p (f ∷ later) h (first, others) = beside_law (nat_eq p f.producer) (λ e. h f e first) (beside_all P Q p later h others)
  where
    beside_law : (m : Bool) → (m ≡ false → Q f) → AllByRecursion Q (flights_beside p later)
        → AllByRecursion Q (if m then flights_beside p later else f ∷ flights_beside p later)
    beside_law true here rest = rest
    beside_law false here rest = (here refl, rest)

fly_fence : (d : Setting) (q : ℕ) (done : Done) (f : AnyFlight) → nat_eq q f.producer ≡ false → Flies d done f → Flies d (Fence q ∷ done) f
fly_fence d q done f other may = (
  may.0,
  may.1,
  (
    λ e. false_of _ (λ led. clash _ (at_routed (slice_get d.producers f.producer) f.producer (Fence q) done may.0.1
        (λ led. beside_cases (nat_eq q f.producer) _ _ led other) led) (may.2.0 e)),
    may.2.1,
  ),
)

fly_pause : (d : Setting) (q : ℕ) (done : Done) (f : AnyFlight) → nat_eq q f.producer ≡ false → Flies d done f → Flies d (Pause q ∷ done) f
fly_pause d q done f other may = (
  may.0,
  or_false (nat_eq q f.producer) _ other may.1,
  (
    λ e. false_of _ (λ led. clash _ (at_routed (slice_get d.producers f.producer) f.producer (Pause q) done may.0.1
        (λ led. beside_cases (nat_eq q f.producer) _ _ led other) led) (may.2.0 e)),
    may.2.1,
  ),
)

-- a word that is named is the word
pub bank_is : (s t : WhichSet) → same_bank s t ≡ true → s ≡ t
bank_is Pending Pending e = refl
bank_is Pending Enabled e = absurd (false≢true e)
bank_is Enabled Pending e = absurd (false≢true e)
bank_is Enabled Enabled e = refl

pub named : (P : WhichSet → ℕ → Type 0) (s : WhichSet) (w : ℕ) (t : WhichSet) (v : ℕ) → P s w → names s w t v ≡ true → P t v
named P s w t v h m = subst (λ u. P u v) (bank_is s t (and_left (same_bank s t) _ m))
    (subst (λ u. P s u) (eqb-true w v (and_right (same_bank s t) _ m)) h)

-- nothing due is nowhere after a step that the rule on words lets stand
somewhere_step : (d : Setting) (s : WhichSet) (w : ℕ) (x : AnyStep) (done : Done) → lets Words d x done ≡ true
    → may_stand d s w done false false false ≡ false → may_stand d s w (x ∷ done) false false false ≡ false
somewhere_step d s w (Take t u) done guard none = or_false _ _ (take_somewhere (names t u s w) (may_stand d s w done)
    (named (λ t v. only_hand d t v done ≡ false) t u s w (not_true _ guard)) none) refl
somewhere_step d s w (Copy t u) done guard none = or_false _ _ (copy_somewhere (names t u s w) (may_stand d s w done)
    (named (λ t v. only_hand d t v done ≡ false) t u s w (not_true _ guard)) none) refl
somewhere_step d s w (Join t u) done guard none = or_false _ _ (join_somewhere (names t u s w) (may_stand d s w done) none) refl
somewhere_step d s w (Put t u) done guard none = or_false _ _ (put_somewhere (names t u s w) (may_stand d s w done)
    (named (λ t v. only_new d t v done ≡ false) t u s w (not_true _ guard)) none) refl
somewhere_step d s w (Zero Old t u) done guard none = or_false _ _ (wipe_somewhere (names t u s w) (may_stand d s w done)
    (named (λ t v. only_old d t v done ≡ false) t u s w (not_true _ guard)) none) refl
somewhere_step d s w (Zero New t u) done guard none = or_false _ _ (zero_somewhere (names t u s w) (may_stand d s w done)
    (named (λ t v. only_new d t v done ≡ false) t u s w (not_true _ guard)) none) refl
somewhere_step d s w (ZeroNumber Old n) done guard none = or_false _ _ none refl
somewhere_step d s w (ZeroNumber New n) done guard none = or_false _ _ none refl
somewhere_step d s w x done guard none = or_false _ _ none refl

-- the bits at a step
kept_step : (e l f z : Bool) (stands now : Places) (c q a b k : Bool)
    → ((o h n : Bool) → brought e l f z stands o h n ≡ true → now o h n ≡ true) → Kept stands c q a b k
    → Kept now (z || c) q (old_after e a) (new_after f z k b) (hand_after l f a k)
kept_step e l f z stands now c q a b k more v = record {
  cover = λ due. (let in_ = v.cover due in record {
    o = old_after e in_.o;
    h = hand_after l f in_.o in_.h;
    n = new_after f z in_.h in_.n;
    may = more _ _ _ (brought_at e l f z stands in_.o in_.h in_.n in_.may);
    old = old_more e in_.o a in_.old;
    hand = hand_more l f in_.o in_.h a k in_.old in_.hand;
    new = new_more f z in_.h in_.n k b in_.hand in_.new;
  });
  from_old = λ is. (let there = not_left e a is in (
    (v.from_old there.1).0,
    (let found = two_find (stands true) (v.from_old there.1).1 in two_at (now true) _ _ (more true _ _
        (subst (λ o. brought e l f z stands o (hand_after l f true found.0) (new_after f z found.0 found.1) ≡ true)
        (and_of (not e) true (ap not there.0) refl) (brought_at e l f z stands true found.0 found.1 found.2)))),
  ));
  from_hand = λ is. elim (hand_cases l f a k is) [
    | inl lifted ↦ (
      (v.from_old lifted.1).0,
      (let found = two_find (stands true) (v.from_old lifted.1).1 in two_at (λ o n. now o true n) _ _ (more _ true _
          (subst (λ h. brought e l f z stands (old_after e true) h (new_after f z found.0 found.1) ≡ true)
          (or_left (l && true) _ (and_of l true lifted.0 refl)) (brought_at e l f z stands true found.0 found.1 found.2)))),
    )
    | inr held ↦ (
      (v.from_hand held.2).0,
      (let found = two_find (λ o n. stands o true n) (v.from_hand held.2).1 in two_at (λ o n. now o true n) _ _ (more _ true _
          (subst (λ h. brought e l f z stands (old_after e found.0) h (new_after f z true found.1) ≡ true)
          (or_right (l && found.0) _ (and_of (not l) _ (ap not held.0) (and_of (not f) true (ap not held.1) refl)))
          (brought_at e l f z stands found.0 true found.1 found.2)))),
    )
  ];
  from_new = λ blank is. elim (or_cases (f && k) _ is) [
    | inl filled ↦ (v.from_hand (and_right f k filled)).0
    | inr there ↦ (let both = not_left z b there in v.from_new (blank_before z c both.0 blank) both.1)
  ];
}

-- where one may stand after a step more, at least
more_stands : (d : Setting) (s : WhichSet) (w : ℕ) (x : AnyStep) (done : Done) (o h n : Bool)
    → brought (empties s w x) (lifts s w x) (fills s w x) (blanks s w x) (may_stand d s w done) o h n ≡ true → may_stand d s w (x ∷ done) o h n ≡ true
more_stands d s w x done o h n e = or_left _ _ e

kept_next : (d : Setting) (x : AnyStep) (done : Done) (s : WhichSet) (i : ℕ) (q a b k : Bool)
    → Kept (may_stand d s (i / 64) done) (is_blank d s (i / 64) done) q a b k
    → Kept (may_stand d s (i / 64) (x ∷ done)) (is_blank d s (i / 64) (x ∷ done)) q (old_after (empties s (i / 64) x) a)
    (new_after (fills s (i / 64) x) (blanks s (i / 64) x) k b) (hand_after (lifts s (i / 64) x) (fills s (i / 64) x) a k)
kept_next d x done s i q a b k v = kept_step (empties s (i / 64) x) (lifts s (i / 64) x) (fills s (i / 64) x) (blanks s (i / 64) x)
    (may_stand d s (i / 64) done) (may_stand d s (i / 64) (x ∷ done)) _ q a b k (more_stands d s (i / 64) x done) v

-- the numbers of the old place
shut_law : (m was : Bool) (value : ℕ) → (was ≡ true → value ≡ 0) → (m || was) ≡ true → (if m then 0 else value) ≡ 0
shut_law true was value h e = refl
shut_law false was value h e = h e

shut_kept : (d : Setting) (start : AnyMachine) (x : AnyStep) (done : Done) (z : AnyMachine) → Invariant d start done z
    → list_any frees (x ∷ done) ≡ list_any frees done → d.is_inherited ≡ true → list_any frees (x ∷ done) ≡ true → (n : Number)
    → was_shut n (x ∷ done) ≡ true
shut_kept d start x done z v same inherited freed n = or_right (shuts n x) _ (v.left inherited (sym same ∙ freed) n)

-- the numbers
pub spot_is : (a b : NumberSpot) → same_spot a b ≡ true → a ≡ b
spot_is InOld InOld e = refl
spot_is InHand InHand e = refl
spot_is InNew InNew e = refl
spot_is InOld InHand e = absurd (false≢true e)
spot_is InOld InNew e = absurd (false≢true e)
spot_is InHand InOld e = absurd (false≢true e)
spot_is InHand InNew e = absurd (false≢true e)
spot_is InNew InOld e = absurd (false≢true e)
spot_is InNew InHand e = absurd (false≢true e)

-- what all spots that have a number say of it
abbrev pub Tells : Setting → Number → Done → AnyMachine → ℕ → Type 0
Tells d n done z value = (spot : NumberSpot) → has_number d n spot done ≡ true → number_in spot n z ≡ value

number_taken : (d : Setting) (m n : Number) (done : Done) (z : AnyMachine) (value : ℕ) → Tells d n done z value
    → Tells d n (TakeNumber m ∷ done) (stepped d (TakeNumber m) z) value
number_taken d Threshold Threshold done z value v InOld e = absurd (false≢true e)
number_taken d Threshold Threshold done z value v InHand e = v InOld e
number_taken d Threshold Threshold done z value v InNew e = v InNew e
number_taken d Delivery Delivery done z value v InOld e = absurd (false≢true e)
number_taken d Delivery Delivery done z value v InHand e = v InOld e
number_taken d Delivery Delivery done z value v InNew e = v InNew e
number_taken d Threshold Delivery done z value v spot e = v spot e
number_taken d Delivery Threshold done z value v spot e = v spot e

number_copied : (d : Setting) (m n : Number) (done : Done) (z : AnyMachine) (value : ℕ) → Tells d n done z value
    → Tells d n (CopyNumber m ∷ done) (stepped d (CopyNumber m) z) value
number_copied d Threshold Threshold done z value v InOld e = v InOld e
number_copied d Threshold Threshold done z value v InHand e = v InOld e
number_copied d Threshold Threshold done z value v InNew e = v InNew e
number_copied d Delivery Delivery done z value v InOld e = v InOld e
number_copied d Delivery Delivery done z value v InHand e = v InOld e
number_copied d Delivery Delivery done z value v InNew e = v InNew e
number_copied d Threshold Delivery done z value v spot e = v spot e
number_copied d Delivery Threshold done z value v spot e = v spot e

number_put : (d : Setting) (m n : Number) (done : Done) (z : AnyMachine) (value : ℕ) → Tells d n done z value
    → Tells d n (PutNumber m ∷ done) (stepped d (PutNumber m) z) value
number_put d Threshold Threshold done z value v InOld e = v InOld e
number_put d Threshold Threshold done z value v InHand e = v InHand e
number_put d Threshold Threshold done z value v InNew e = v InHand e
number_put d Delivery Delivery done z value v InOld e = v InOld e
number_put d Delivery Delivery done z value v InHand e = v InHand e
number_put d Delivery Delivery done z value v InNew e = v InHand e
number_put d Threshold Delivery done z value v spot e = v spot e
number_put d Delivery Threshold done z value v spot e = v spot e

zeroed_old : (d : Setting) (m n : Number) (done : Done) (z : AnyMachine) (value : ℕ) → Tells d n done z value
    → Tells d n (ZeroNumber Old m ∷ done) (stepped d (ZeroNumber Old m) z) value
zeroed_old d Threshold Threshold done z value v InOld e = absurd (false≢true e)
zeroed_old d Threshold Threshold done z value v InHand e = v InHand e
zeroed_old d Threshold Threshold done z value v InNew e = v InNew e
zeroed_old d Delivery Delivery done z value v InOld e = absurd (false≢true e)
zeroed_old d Delivery Delivery done z value v InHand e = v InHand e
zeroed_old d Delivery Delivery done z value v InNew e = v InNew e
zeroed_old d Threshold Delivery done z value v spot e = v spot e
zeroed_old d Delivery Threshold done z value v spot e = v spot e

zeroed_new : (d : Setting) (m n : Number) (done : Done) (z : AnyMachine) (value : ℕ) → Tells d n done z value
    → Tells d n (ZeroNumber New m ∷ done) (stepped d (ZeroNumber New m) z) value
zeroed_new d Threshold Threshold done z value v InOld e = v InOld e
zeroed_new d Threshold Threshold done z value v InHand e = v InHand e
zeroed_new d Threshold Threshold done z value v InNew e = absurd (false≢true e)
zeroed_new d Delivery Delivery done z value v InOld e = v InOld e
zeroed_new d Delivery Delivery done z value v InHand e = v InHand e
zeroed_new d Delivery Delivery done z value v InNew e = absurd (false≢true e)
zeroed_new d Threshold Delivery done z value v spot e = v spot e
zeroed_new d Delivery Threshold done z value v spot e = v spot e

-- the place is not yet given back
unstrayed : (d : Setting) (start : AnyMachine) (done : Done) (z : AnyMachine) → Invariant d start done z → not (list_any frees done) ≡ true
    → (z.strayed || z.freed) ≡ false
unstrayed d start done z v e = or_false z.strayed z.freed v.strayed (v.freed ∙ not_true _ e)

-- what is safe stays safe at a step that frees nothing and resumes nobody
safe_more : (d : Setting) (start : AnyMachine) (x : AnyStep) (done : Done) (z : AnyMachine) → Invariant d start done z
    → ((p : ℕ) → resumes p x ≡ false) → list_any frees done ≡ true → is_still d Pending (x ∷ done) ≡ true
safe_more d start x done z v none e = still_more d Pending x done none (v.safe e)

resumed_law : (freed led : Bool) → (not freed || led) ≡ true → freed ≡ true → led ≡ true
resumed_law true led e f = e
resumed_law false led e f = absurd (false≢true f)

landed_paused : (d : Setting) (fs : List AnyFlight) (z : AnyMachine) (p : ℕ) → (all_landed d fs z).paused p ≡ z.paused p
landed_paused d [] z p = refl
landed_paused d (f ∷ later) z p = landed_paused d later (flight_landed d f z) p

landed_written : (d : Setting) (fs : List AnyFlight) (z : AnyMachine) (p : ℕ) → (all_landed d fs z).written p ≡ z.written p
landed_written d [] z p = refl
landed_written d (f ∷ later) z p = landed_written d later (flight_landed d f z) p

-- the old place is given back with nothing left to its next owner
left_shut : (inherited threshold delivery : Bool) → (elim inherited [ true ↦ threshold && delivery | false ↦ true ]) ≡ true → inherited ≡ true
    → (threshold ≡ true) × (delivery ≡ true)
left_shut true threshold delivery e is = (and_left threshold _ e, and_right threshold _ e)
left_shut false threshold delivery e is = absurd (false≢true is)

freed_shut : (d : Setting) (done : Done) → is_shut d done ≡ true → d.is_inherited ≡ true → (n : Number) → was_shut n done ≡ true
freed_shut d done e is Threshold = (left_shut d.is_inherited _ _ e is).0
freed_shut d done e is Delivery = (left_shut d.is_inherited _ _ e is).1

-- **A step that the rules let stand keeps the invariant.**
pub does : (d : Setting) (start : AnyMachine) (done : Done) (x : AnyStep) (z : AnyMachine) → Guard d x done → Invariant d start done z
    → Invariant d start (x ∷ done) (stepped d x z)
does d start done (Route q) z guard v = record {
  leads = λ p declared. route_law (nat_eq q p) _ _ _ (z.written p) (z.in_force p) (λ e. e) (v.leads p declared);
  paused = v.paused;
  flights = all_mapped (Flies d done) (Flies d (Route q ∷ done)) (fly_route d q done) z.flights v.flights;
  kept = λ s i. kept_next d (Route q) done s i _ _ _ _ (v.kept s i);
  somewhere = λ s w. somewhere_step d s w (Route q) done (guard Words tt) (v.somewhere s w);
  enables = v.enables;
  freed = v.freed;
  safe = safe_more d start (Route q) done z v (λ p. refl);
  strayed = v.strayed;
  shut = v.shut;
  left = shut_kept d start (Route q) done z v refl;
  numbers = v.numbers;
}
does d start done (Switch q) z guard v = record {
  leads = λ p declared. switch_law (nat_eq q p) _ _ _ (z.written p) (z.in_force p) (forced_by_switch p q done) (v.leads p declared);
  paused = v.paused;
  flights = all_mapped (Flies d done) (Flies d (Switch q ∷ done)) (fly_switch d q done) z.flights v.flights;
  kept = λ s i. kept_next d (Switch q) done s i _ _ _ _ (v.kept s i);
  somewhere = λ s w. somewhere_step d s w (Switch q) done (guard Words tt) (v.somewhere s w);
  enables = v.enables;
  freed = v.freed;
  safe = safe_more d start (Switch q) done z v (λ p. refl);
  strayed = v.strayed;
  shut = v.shut;
  left = shut_kept d start (Switch q) done z v refl;
  numbers = v.numbers;
}
does d start done (Zero Old t u) z guard v = record {
  leads = v.leads;
  paused = v.paused;
  flights = v.flights;
  kept = λ s i. kept_next d (Zero Old t u) done s i _ _ _ _ (v.kept s i);
  somewhere = λ s w. somewhere_step d s w (Zero Old t u) done (guard Words tt) (v.somewhere s w);
  enables = v.enables;
  freed = v.freed;
  safe = safe_more d start (Zero Old t u) done z v (λ p. refl);
  strayed = unstrayed d start done z v (guard Freeing tt);
  shut = v.shut;
  left = shut_kept d start (Zero Old t u) done z v refl;
  numbers = v.numbers;
}
does d start done (Zero New t u) z guard v = record {
  leads = v.leads;
  paused = v.paused;
  flights = v.flights;
  kept = λ s i. kept_next d (Zero New t u) done s i _ _ _ _ (v.kept s i);
  somewhere = λ s w. somewhere_step d s w (Zero New t u) done (guard Words tt) (v.somewhere s w);
  enables = v.enables;
  freed = v.freed;
  safe = safe_more d start (Zero New t u) done z v (λ p. refl);
  strayed = v.strayed;
  shut = v.shut;
  left = shut_kept d start (Zero New t u) done z v refl;
  numbers = v.numbers;
}
does d start done (Take t u) z guard v = record {
  leads = v.leads;
  paused = v.paused;
  flights = v.flights;
  kept = λ s i. kept_next d (Take t u) done s i _ _ _ _ (v.kept s i);
  somewhere = λ s w. somewhere_step d s w (Take t u) done (guard Words tt) (v.somewhere s w);
  enables = v.enables;
  freed = v.freed;
  safe = safe_more d start (Take t u) done z v (λ p. refl);
  strayed = unstrayed d start done z v (guard Freeing tt);
  shut = v.shut;
  left = shut_kept d start (Take t u) done z v refl;
  numbers = v.numbers;
}
does d start done (Copy t u) z guard v = record {
  leads = v.leads;
  paused = v.paused;
  flights = v.flights;
  kept = λ s i. kept_next d (Copy t u) done s i _ _ _ _ (v.kept s i);
  somewhere = λ s w. somewhere_step d s w (Copy t u) done (guard Words tt) (v.somewhere s w);
  enables = v.enables;
  freed = v.freed;
  safe = safe_more d start (Copy t u) done z v (λ p. refl);
  strayed = unstrayed d start done z v (guard Freeing tt);
  shut = v.shut;
  left = shut_kept d start (Copy t u) done z v refl;
  numbers = v.numbers;
}
does d start done (ZeroNumber Old n) z guard v = record {
  leads = v.leads;
  paused = v.paused;
  flights = v.flights;
  kept = λ s i. kept_next d (ZeroNumber Old n) done s i _ _ _ _ (v.kept s i);
  somewhere = λ s w. somewhere_step d s w (ZeroNumber Old n) done (guard Words tt) (v.somewhere s w);
  enables = v.enables;
  freed = v.freed;
  safe = safe_more d start (ZeroNumber Old n) done z v (λ p. refl);
  strayed = unstrayed d start done z v (guard Freeing tt);
  shut = λ m. shut_law (same_number n m) (was_shut m done) (z.old_number m) (v.shut m);
  left = shut_kept d start (ZeroNumber Old n) done z v refl;
  numbers = λ m. zeroed_old d n m done z (number_in d.number_from m start) (v.numbers m);
}
does d start done (ZeroNumber New n) z guard v = record {
  leads = v.leads;
  paused = v.paused;
  flights = v.flights;
  kept = λ s i. kept_next d (ZeroNumber New n) done s i _ _ _ _ (v.kept s i);
  somewhere = λ s w. somewhere_step d s w (ZeroNumber New n) done (guard Words tt) (v.somewhere s w);
  enables = v.enables;
  freed = v.freed;
  safe = safe_more d start (ZeroNumber New n) done z v (λ p. refl);
  strayed = v.strayed;
  shut = v.shut;
  left = shut_kept d start (ZeroNumber New n) done z v refl;
  numbers = λ m. zeroed_new d n m done z (number_in d.number_from m start) (v.numbers m);
}
does d start done (TakeNumber n) z guard v = record {
  leads = v.leads;
  paused = v.paused;
  flights = v.flights;
  kept = λ s i. kept_next d (TakeNumber n) done s i _ _ _ _ (v.kept s i);
  somewhere = λ s w. somewhere_step d s w (TakeNumber n) done (guard Words tt) (v.somewhere s w);
  enables = v.enables;
  freed = v.freed;
  safe = safe_more d start (TakeNumber n) done z v (λ p. refl);
  strayed = unstrayed d start done z v (guard Freeing tt);
  shut = λ m. shut_law (same_number n m) (was_shut m done) (z.old_number m) (v.shut m);
  left = shut_kept d start (TakeNumber n) done z v refl;
  numbers = λ m. number_taken d n m done z (number_in d.number_from m start) (v.numbers m);
}
does d start done (CopyNumber n) z guard v = record {
  leads = v.leads;
  paused = v.paused;
  flights = v.flights;
  kept = λ s i. kept_next d (CopyNumber n) done s i _ _ _ _ (v.kept s i);
  somewhere = λ s w. somewhere_step d s w (CopyNumber n) done (guard Words tt) (v.somewhere s w);
  enables = v.enables;
  freed = v.freed;
  safe = safe_more d start (CopyNumber n) done z v (λ p. refl);
  strayed = unstrayed d start done z v (guard Freeing tt);
  shut = v.shut;
  left = shut_kept d start (CopyNumber n) done z v refl;
  numbers = λ m. number_copied d n m done z (number_in d.number_from m start) (v.numbers m);
}
does d start done (PutNumber n) z guard v = record {
  leads = v.leads;
  paused = v.paused;
  flights = v.flights;
  kept = λ s i. kept_next d (PutNumber n) done s i _ _ _ _ (v.kept s i);
  somewhere = λ s w. somewhere_step d s w (PutNumber n) done (guard Words tt) (v.somewhere s w);
  enables = v.enables;
  freed = v.freed;
  safe = safe_more d start (PutNumber n) done z v (λ p. refl);
  strayed = v.strayed;
  shut = v.shut;
  left = shut_kept d start (PutNumber n) done z v refl;
  numbers = λ m. number_put d n m done z (number_in d.number_from m start) (v.numbers m);
}
does d start done Free z guard v = record {
  leads = v.leads;
  paused = v.paused;
  flights = v.flights;
  kept = λ s i. kept_next d Free done s i _ _ _ _ (v.kept s i);
  somewhere = λ s w. somewhere_step d s w Free done (guard Words tt) (v.somewhere s w);
  enables = v.enables;
  freed = refl;
  safe = λ e. still_more d Pending Free done (λ p. refl) (and_left (is_still d Pending done) _ (guard Freeing tt));
  strayed = unstrayed d start done z v (and_left (not (list_any frees done)) _ (and_right (is_still d Pending done) _ (guard Freeing tt)));
  shut = v.shut;
  left = λ inherited freed n. freed_shut d done
      (and_right (not (list_any frees done)) _ (and_right (is_still d Pending done) _ (guard Freeing tt))) inherited n;
  numbers = v.numbers;
}
does d start done (Fence q) z guard v =
    let u : Invariant d start done (all_landed d (flights_of q z.flights) z) =
    fly_all d start done (flights_of q z.flights) z (of_all (Flies d done) q z.flights v.flights) v in
    record {
      leads = λ p declared. subst (λ w. Leads (is_turned p done) (is_forced p (Fence q ∷ done)) w (led_to q (z.written q) z.in_force p))
          (sym (landed_written d (flights_of q z.flights) z p))
          (fence_law (nat_eq q p) _ _ _ (z.written q) (z.written p) (z.in_force p) (λ m. ap z.written (eqb-true q p m))
          (forced_by_fence p q done) (v.leads p declared));
      paused = λ p declared. landed_paused d (flights_of q z.flights) z p ∙ v.paused p declared;
      flights = beside_all (Flies d done) (Flies d (Fence q ∷ done)) q z.flights (fly_fence d q done) v.flights;
      kept = λ s i. kept_next d (Fence q) done s i _ _ _ _ (u.kept s i);
      somewhere = λ s w. somewhere_step d s w (Fence q) done (guard Words tt) (v.somewhere s w);
      enables = u.enables;
      freed = u.freed;
      safe = safe_more d start (Fence q) done z v (λ p. refl);
      strayed = u.strayed;
      shut = u.shut;
      left = shut_kept d start (Fence q) done z v refl;
      numbers = u.numbers;
    }
does d start done (Pause q) z guard v =
    let u : Invariant d start done (all_landed d (flights_of q z.flights) z) =
    fly_all d start done (flights_of q z.flights) z (of_all (Flies d done) q z.flights v.flights) v in
    record {
      leads = u.leads;
      paused = λ p declared. pause_law (nat_eq q p) (z.paused p) (is_paused p done) (v.paused p declared);
      flights = beside_all (Flies d done) (Flies d (Pause q ∷ done)) q z.flights (fly_pause d q done) v.flights;
      kept = λ s i. kept_next d (Pause q) done s i _ _ _ _ (u.kept s i);
      somewhere = λ s w. somewhere_step d s w (Pause q) done (guard Words tt) (v.somewhere s w);
      enables = u.enables;
      freed = u.freed;
      safe = safe_more d start (Pause q) done z v (λ p. refl);
      strayed = u.strayed;
      shut = u.shut;
      left = shut_kept d start (Pause q) done z v refl;
      numbers = u.numbers;
    }
  where
    pause_law : (m was now : Bool) → was ≡ now → ◌≡◌ {A = Bool} (if m then true else was) (m || (true && now))
    pause_law true was now e = refl
    pause_law false was now e = e
does d start done (Resume q) z guard v = record {
  leads = v.leads;
  paused = λ p declared. resume_law (nat_eq q p) (z.paused p) (is_paused p done) (v.paused p declared);
  flights = all_mapped (Flies d done) (Flies d (Resume q ∷ done)) (fly_resume d q done) z.flights v.flights;
  kept = λ s i. kept_next d (Resume q) done s i _ _ _ _ (v.kept s i);
  somewhere = λ s w. somewhere_step d s w (Resume q) done (guard Words tt) (v.somewhere s w);
  enables = v.enables;
  freed = v.freed;
  safe = λ e. still_resumed d q done (resumed_law (list_any frees done) _ (guard Freeing tt) e) (v.safe e);
  strayed = v.strayed;
  shut = v.shut;
  left = shut_kept d start (Resume q) done z v refl;
  numbers = v.numbers;
}
  where
    resume_law : (m was now : Bool) → was ≡ now → ◌≡◌ {A = Bool} (if m then false else was) (not m && now)
    resume_law true was now e = refl
    resume_law false was now e = e
does d start done x z guard v = record {
  leads = v.leads;
  paused = v.paused;
  flights = v.flights;
  kept = λ s i. kept_next d x done s i _ _ _ _ (v.kept s i);
  somewhere = λ s w. somewhere_step d s w x done (guard Words tt) (v.somewhere s w);
  enables = v.enables;
  freed = v.freed;
  safe = safe_more d start x done z v (λ p. refl);
  strayed = v.strayed;
  shut = v.shut;
  left = shut_kept d start x done z v refl;
  numbers = v.numbers;
}

-- ---- a whole run

-- What they say of the steps that are left, and of the end.
abbrev pub GuardRest : Setting → Done → List AnyStep → Type 0
GuardRest d done rest = (rule : Rule) → IsOfSafety rule → lets_rest rule d done rest ≡ true

abbrev pub GuardEnd : Setting → Done → Type 0
GuardEnd d done = (rule : Rule) → IsOfSafety rule → lets_end rule d done ≡ true

-- What a run leads to.
pub record Finished (d : Setting) (start z : AnyMachine) : Type 0 where
  pub done : Done
  pub guard : GuardEnd d done
  pub invariant : Invariant d start done z

pub runs : (d : Setting) (start : AnyMachine) (done : Done) (run : List AnyHappening) (z : AnyMachine) → AllByRecursion (CanHappen d) run
    → GuardRest d done (steps_in run) → Invariant d start done z → Finished d start (all_happened d run z)
runs d start done [] z can guards v = record { done = done; guard = guards; invariant = v }
runs d start done (Does x ∷ later) z can guards v =
    runs d start (x ∷ done) later (stepped d x z) can.1 (λ rule of. and_right (lets rule d x done) _ (guards rule of))
    (does d start done x z (λ rule of. and_left (lets rule d x done) _ (guards rule of)) v)
runs d start done (Stores p by x ∷ later) z can guards v = runs d start done later _ can.1 guards (between d start done (Stores p by x) z tt can.0 v)
runs d start done (Sends p by x ∷ later) z can guards v = runs d start done later _ can.1 guards (between d start done (Sends p by x) z tt can.0 v)
runs d start done (Lands k ∷ later) z can guards v = runs d start done later _ can.1 guards (between d start done (Lands k) z tt can.0 v)
runs d start done (Refetches p ∷ later) z can guards v = runs d start done later _ can.1 guards (between d start done (Refetches p) z tt can.0 v)

-- ---- its beginning and its end

old_lead : (k : Option RouteKind) (p : ℕ) → is_led_as k p [] ≡ false
old_lead None p = refl
old_lead (Some Routed) p = refl
old_lead (Some Switched) p = refl

pub begins : (d : Setting) (z : AnyMachine) → IsStartOfAny d z → Invariant d z [] z
begins d z is = record {
  leads = λ p declared. record {
    before = λ e. (is.written p declared, is.in_force p declared);
    after = λ e. absurd (false≢true e);
    led = λ e. absurd (false≢true e);
  };
  paused = is.paused;
  flights = all_mapped _ (Flies d []) (λ f old. (
    old.0,
    refl,
    (λ e. old_lead (slice_get d.producers f.producer) f.producer, λ e. old_is_new f.place old.1 e),
  )) z.flights is.flights;
  kept = λ s i. record {
    cover = λ e. record {
      o = true;
      h = false;
      n = false;
      may = refl;
      old = λ f. sym (is.due s i) ∙ e;
      hand = λ f. absurd (false≢true f);
      new = λ f. absurd (false≢true f);
    };
    from_old = λ e. (is.due s i ∙ e, two_at (λ h n. may_stand d s (i / 64) [] true h n) false false refl);
    from_hand = λ e. clash (z.hand s i) e (is.hand s i);
    from_new = λ fresh e. clash (z.new s i) e (is.fresh fresh s i);
  };
  somewhere = λ s w. refl;
  enables = λ i. is.due Enabled i;
  freed = is.freed;
  safe = λ e. absurd (false≢true e);
  strayed = is.strayed;
  shut = λ n e. absurd (false≢true e);
  left = λ inherited e. absurd (false≢true e);
  numbers = λ n spot e. ap (λ k. number_in k n z) (sym (spot_is d.number_from spot e));
}

-- a bit whose word is moved: nothing due may stand in the old place, nor in the hand alone, nor nowhere
alone_new : (stands : Places) (o h n : Bool) → any_of_two (stands true) ≡ false → stands false true false ≡ false
    → stands false false false ≡ false → stands o h n ≡ true → n ≡ true
alone_new stands o h true left alone none may = refl
alone_new stands true h false left alone none may = clash (any_of_two (stands true)) (two_at (stands true) h false may) left
alone_new stands false true false left alone none may = clash (stands false true false) may alone
alone_new stands false false false left alone none may = clash (stands false false false) may none

moved : (stands : Places) (c q a b k : Bool) → any_of_two (stands true) ≡ false → stands false true false ≡ false
    → stands false false false ≡ false → c ≡ true → Kept stands c q a b k → b ≡ q
moved stands c true a b k left alone none blank v =
    let in_ = v.cover refl in in_.new (alone_new stands in_.o in_.h in_.n left alone none in_.may)
moved stands c false a b k left alone none blank v = false_of b (λ is. absurd (false≢true (v.from_new blank is)))

-- What an end that the rules let stand says of a word.
pub record Ended (d : Setting) (s : WhichSet) (w : ℕ) (done : Done) : Type 0 where
  pub left : any_old d s w done ≡ false
  pub alone : only_hand d s w done ≡ false
  pub blank : is_blank d s w done ≡ true

pub ended : (d : Setting) (done : Done) (s : WhichSet) (w : ℕ) → GuardEnd d done → w < d.words → Ended d s w done
ended d done Pending w guard inside = record {
  left = not_true _ (all_at (λ w. not (any_old d Pending w done)) d.words w (and_right (all_led d done) _ (guard Routes tt)) inside);
  alone = not_true _ (and_left (not (only_hand d Pending w done)) _ (all_at
      (λ w. not (only_hand d Pending w done) && (not (any_old d Enabled w done) && not (only_hand d Enabled w done))) d.words w
      (guard Words tt) inside));
  blank = and_left (is_blank d Pending w done) _
      (all_at (λ w. is_blank d Pending w done && is_blank d Enabled w done) d.words w (guard Blank tt) inside);
}
ended d done Enabled w guard inside =
    let enables = and_right (not (only_hand d Pending w done)) _ (all_at
    (λ w. not (only_hand d Pending w done) && (not (any_old d Enabled w done) && not (only_hand d Enabled w done))) d.words w
    (guard Words tt) inside) in
    record {
      left = not_true _ (and_left (not (any_old d Enabled w done)) _ enables);
      alone = not_true _ (and_right (not (any_old d Enabled w done)) _ enables);
      blank = and_right (is_blank d Pending w done) _
          (all_at (λ w. is_blank d Pending w done && is_blank d Enabled w done) d.words w (guard Blank tt) inside);
    }

pub moved_end : (d : Setting) (start z : AnyMachine) (done : Done) (s : WhichSet) (i : ℕ) → Invariant d start done z → Ended d s (i / 64) done
    → z.new s i ≡ z.due s i
moved_end d start z done s i v end = moved (may_stand d s (i / 64) done) _ _ _ _ _ end.left end.alone (v.somewhere s (i / 64)) end.blank (v.kept s i)

left_over : (d : Setting) (start z : AnyMachine) (done : Done) (s : WhichSet) (i : ℕ) → Invariant d start done z → Ended d s (i / 64) done
    → z.old s i ≡ false
left_over d start z done s i v end = false_of (z.old s i) (λ is. clash _ ((v.kept s i).from_old is).1 end.left)

number_end : (d : Setting) (done : Done) (n : Number) → GuardEnd d done → has_number d n d.number_to done ≡ true
number_end d done Threshold guard = and_left _ _ (guard Numbers tt)
number_end d done Delivery guard = and_right (has_number d Threshold d.number_to done) _ (guard Numbers tt)

lands_new : (place : AnyPlace) (t l : Bool) → l ≡ true → MayLand t l place → place ≡ New
lands_new Old t l led may = absurd (false≢true (sym (may.0 refl) ∙ led))
lands_new New t l led may = refl

ends : (d : Setting) (start z : AnyMachine) → Finished d start z → IsMovedByAny d start z
ends d start z fin =
    let v : Invariant d start fin.done z = fin.invariant in
    let all : all_led d fin.done ≡ true = and_left (all_led d fin.done) _ (fin.guard Routes tt) in
    let led : (p : ℕ) → IsProducer d p → is_led d p fin.done ≡ true =
    λ p declared. all_at (λ p. is_led d p fin.done) (length d.producers) p all declared in
    let forced : (p : ℕ) → IsProducer d p → is_forced p fin.done ≡ true =
    λ p declared. led_forced (slice_get d.producers p) p fin.done (led p declared) in
    record {
      pending = λ i inside. moved_end d start z fin.done Pending i v (ended d fin.done Pending (i / 64) fin.guard inside);
      enabled = λ i inside. moved_end d start z fin.done Enabled i v (ended d fin.done Enabled (i / 64) fin.guard inside) ∙ v.enables i;
      none_left = λ s i inside. left_over d start z fin.done s i v (ended d fin.done s (i / 64) fin.guard inside);
      numbers = λ n. v.numbers n d.number_to (number_end d fin.done n fin.guard);
      written = λ p declared. (v.leads p declared).after ((v.leads p declared).led (forced p declared)).1;
      in_force = λ p declared. ((v.leads p declared).led (forced p declared)).0;
      flights = all_mapped (Flies d fin.done) _ (λ f may. lands_new f.place _ _ (led f.producer may.0.0) may.2) z.flights v.flights;
      strayed = v.strayed;
      inherited = λ is freed n. v.shut n (v.left is (sym v.freed ∙ freed) n);
    }

pub finishes : (d : Setting) (plan : List AnyStep) (start : AnyMachine) (run : List AnyHappening) → GuardRest d [] plan → IsStartOfAny d start
    → IsRun d plan run → Finished d start (all_happened d run start)
finishes d plan start run guards at_start is =
    runs d start [] run start is.others (subst (GuardRest d []) (sym is.steps) guards) (begins d start at_start)

-- **A plan that keeps the rules of safety is safe.**
pub guarded_is_safe : (d : Setting) (plan : List AnyStep) → GuardRest d [] plan → IsSafe d plan
guarded_is_safe d plan guards start run at_start is = ends d start _ (finishes d plan start run guards at_start is)
