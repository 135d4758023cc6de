-- Where a step brings an identity, and where a store alone makes one stand.
use Rattle.std.proofs.Common.{◌≡◌, ℕ, Bool, true, false, not, ◌&&◌, ◌||◌, length, [], ◌∷◌, ◌⊎◌, inl, inr, refl, sym, ap}
use Rattle.std.proofs.lemmas.Bool.{false≢true}
use Rattle.plans_rules.specs.declared.step.WhichSet.{WhichSet}
use Rattle.plans_rules.specs.declared.step.WhichSet.TheVariants.{Pending, Enabled}
use Rattle.plans_rules.specs.Setting.{Setting}
use Rattle.plans_rules.specs.Rules.{Done, empties, lifts, fills, blanks, is_turned, is_reached, is_still, alike, brings, any_of_two, any_of_three, brought, stored_alone, may_stand, only_old, only_new}
use Rattle.plans_rules.proofs.BoolLaws.{and_left, and_right, and_of, or_left, or_right, or_false, or_cases, any_find}

-- ---- any of some places

abbrev pub Places : Type 0
Places = Bool → Bool → Bool → Bool

pub two_at : (passes : Bool → Bool → Bool) (k b : Bool) → passes k b ≡ true → any_of_two passes ≡ true
two_at passes true true e = or_left _ _ e
two_at passes true false e = or_right (passes true true) _ (or_left _ _ e)
two_at passes false true e = or_right (passes true true) _ (or_right (passes true false) _ (or_left _ _ e))
two_at passes false false e = or_right (passes true true) _ (or_right (passes true false) _ (or_right (passes false true) _ e))

pub two_find : (passes : Bool → Bool → Bool) → any_of_two passes ≡ true → (k : Bool) × (b : Bool) × (passes k b ≡ true)
two_find passes e = elim (or_cases (passes true true) _ e) [
  | inl now ↦ (true, true, now)
  | inr later ↦ elim (or_cases (passes true false) _ later) [
    | inl now ↦ (true, false, now)
    | inr last ↦ elim (or_cases (passes false true) _ last) [ inl now ↦ (false, true, now) | inr end ↦ (false, false, end) ]
  ]
]

pub three_at : (passes : Places) (a k b : Bool) → passes a k b ≡ true → any_of_three passes ≡ true
three_at passes true k b e = or_left _ _ (two_at (passes true) k b e)
three_at passes false k b e = or_right (any_of_two (passes true)) _ (two_at (passes false) k b e)

pub three_find : (passes : Places) → any_of_three passes ≡ true → (a : Bool) × (k : Bool) × (b : Bool) × (passes a k b ≡ true)
three_find passes e = elim (or_cases (any_of_two (passes true)) _ e) [
  | inl now ↦ (let found = two_find (passes true) now in (true, found.0, found.1, found.2))
  | inr later ↦ (let found = two_find (passes false) later in (false, found.0, found.1, found.2))
]

-- ---- a step

abbrev pub old_after : Bool → Bool → Bool
old_after e a = not e && a

abbrev pub hand_after : Bool → Bool → Bool → Bool → Bool
hand_after l f a k = (l && a) || (not l && (not f && k))

abbrev pub new_after : Bool → Bool → Bool → Bool → Bool
new_after f z k b = (f && k) || (not z && b)

alike_self : (b : Bool) → alike b b ≡ true
alike_self true = refl
alike_self false = refl

alike_is : (a b : Bool) → alike a b ≡ true → a ≡ b
alike_is true b e = sym e
alike_is false true e = absurd (false≢true e)
alike_is false false e = refl

brings_there : (e l f z a k b : Bool) → brings e l f z a k b (old_after e a) (hand_after l f a k) (new_after f z k b) ≡ true
brings_there e l f z a k b = and_of _ _ (alike_self (old_after e a)) (and_of _ _ (alike_self (hand_after l f a k)) (alike_self (new_after f z k b)))

brought_by : (e l f z : Bool) (stands : Places) (a k b : Bool) → stands a k b ≡ true
    → any_of_three (λ c m n. brings e l f z c m n (old_after e a) (hand_after l f a k) (new_after f z k b) && stands c m n) ≡ true
brought_by e l f z stands a k b is =
    three_at (λ c m n. brings e l f z c m n (old_after e a) (hand_after l f a k) (new_after f z k b) && stands c m n) a k b
    (and_of _ _ (brings_there e l f z a k b) is)

-- where one may stand after the step, if one stood there before
pub brought_at : (e l f z : Bool) (stands : Places) (a k b : Bool) → stands a k b ≡ true
    → brought e l f z stands (old_after e a) (hand_after l f a k) (new_after f z k b) ≡ true
brought_at true l f z stands a k b is = brought_by true l f z stands a k b is
brought_at false true f z stands a k b is = brought_by false true f z stands a k b is
brought_at false false true z stands a k b is = brought_by false false true z stands a k b is
brought_at false false false true stands a k b is = brought_by false false false true stands a k b is
brought_at false false false false stands a k b is = is

-- where one stood before, if one may stand there after it
pub record Came (e l f z : Bool) (stands : Places) (o h n : Bool) : Type 0 where
  pub a : Bool
  pub k : Bool
  pub b : Bool
  pub stood : stands a k b ≡ true
  pub old : old_after e a ≡ o
  pub hand : hand_after l f a k ≡ h
  pub new : new_after f z k b ≡ n

came_by : (e l f z : Bool) (stands : Places) (o h n : Bool) → any_of_three (λ a k b. brings e l f z a k b o h n && stands a k b) ≡ true
    → Came e l f z stands o h n
came_by e l f z stands o h n is =
    let found = three_find (λ a k b. brings e l f z a k b o h n && stands a k b) is in
    let there = and_left (brings e l f z found.0 found.1 found.2 o h n) _ found.3 in
    let later = and_right (alike o (old_after e found.0)) _ there in
    record {
      a = found.0;
      k = found.1;
      b = found.2;
      stood = and_right (brings e l f z found.0 found.1 found.2 o h n) _ found.3;
      old = sym (alike_is o (old_after e found.0) (and_left _ _ there));
      hand = sym (alike_is h (hand_after l f found.0 found.1) (and_left _ _ later));
      new = sym (alike_is n (new_after f z found.1 found.2) (and_right (alike h (hand_after l f found.0 found.1)) _ later));
    }

pub came : (e l f z : Bool) (stands : Places) (o h n : Bool) → brought e l f z stands o h n ≡ true → Came e l f z stands o h n
came true l f z stands o h n is = came_by true l f z stands o h n is
came false true f z stands o h n is = came_by false true f z stands o h n is
came false false true z stands o h n is = came_by false false true z stands o h n is
came false false false true stands o h n is = came_by false false false true stands o h n is
came false false false false stands o h n is = record { a = o; k = h; b = n; stood = is; old = refl; hand = refl; new = refl }

-- ---- a store alone

pub stored_cases : (d : Setting) (s : WhichSet) (done : Done) (o h n : Bool) → stored_alone d s done o h n ≡ true
    → ((o ≡ true) × (h ≡ false) × (n ≡ false) × (is_still d s done ≡ false))
    ⊎ ((o ≡ false) × (h ≡ false) × (n ≡ true) × (is_reached d s done ≡ true))
stored_cases d s done o true n e = absurd (false≢true e)
stored_cases d s done true false true e = absurd (false≢true e)
stored_cases d s done true false false e = inl (refl, refl, refl, in_old (is_still d s done) e)
  where
    in_old : (still : Bool) → (not still || false) ≡ true → still ≡ false
    in_old true f = absurd (false≢true f)
    in_old false f = refl
stored_cases d s done false false true e = inr (refl, refl, refl, e)
stored_cases d s done false false false e = absurd (false≢true e)

pub busy_old : (d : Setting) (s : WhichSet) (w : ℕ) (done : Done) → is_still d s done ≡ false → only_old d s w done ≡ true
busy_old d s w [] e = refl
busy_old d s w (x ∷ done) e = or_right (brought (empties s w x) (lifts s w x) (fills s w x) (blanks s w x) (may_stand d s w done) true false false) _
    (or_left _ _ (ap not e))

pub reached_none : (d : Setting) (s : WhichSet) → is_reached d s [] ≡ true → ⊥
reached_none d Pending e = false≢true (any_find (λ p. is_turned p []) (length d.producers) e).2
reached_none d Enabled e = false≢true e

pub reached_new : (d : Setting) (s : WhichSet) (w : ℕ) (done : Done) → is_reached d s done ≡ true → only_new d s w done ≡ true
reached_new d s w [] e = absurd (reached_none d s e)
reached_new d s w (x ∷ done) e = or_right (brought (empties s w x) (lifts s w x) (fills s w x) (blanks s w x)
    (may_stand d s w done) false false true) _ e

-- ---- nothing due is nowhere

abbrev pub nowhere : Places → Bool
nowhere stands = stands false false false

pub take_somewhere : (m : Bool) (stands : Places) → (m ≡ true → stands false true false ≡ false) → nowhere stands ≡ false
    → nowhere (brought m m false false stands) ≡ false
take_somewhere true stands alone none = or_false (stands false true false) _ (alone refl) none
take_somewhere false stands alone none = none

pub copy_somewhere : (m : Bool) (stands : Places) → (m ≡ true → stands false true false ≡ false) → nowhere stands ≡ false
    → nowhere (brought false m false false stands) ≡ false
copy_somewhere true stands alone none = or_false (stands false true false) _ (alone refl) none
copy_somewhere false stands alone none = none

pub join_somewhere : (m : Bool) (stands : Places) → nowhere stands ≡ false → nowhere (brought false false m false stands) ≡ false
join_somewhere true stands none = none
join_somewhere false stands none = none

pub put_somewhere : (m : Bool) (stands : Places) → (m ≡ true → stands false false true ≡ false) → nowhere stands ≡ false
    → nowhere (brought false false m m stands) ≡ false
put_somewhere true stands alone none = or_false (stands false false true) _ (alone refl) none
put_somewhere false stands alone none = none

pub wipe_somewhere : (m : Bool) (stands : Places) → (m ≡ true → stands true false false ≡ false) → nowhere stands ≡ false
    → nowhere (brought m false false false stands) ≡ false
wipe_somewhere true stands alone none = or_false (stands true false false) _ (alone refl) none
wipe_somewhere false stands alone none = none

pub zero_somewhere : (m : Bool) (stands : Places) → (m ≡ true → stands false false true ≡ false) → nowhere stands ≡ false
    → nowhere (brought false false false m stands) ≡ false
zero_somewhere true stands alone none = or_false (stands false false true) _ (alone refl) none
zero_somewhere false stands alone none = none

-- ---- the bits at a step

pub not_left : (z b : Bool) → (not z && b) ≡ true → (z ≡ false) × (b ≡ true)
not_left true b e = absurd (false≢true e)
not_left false b e = (refl, e)

pub blank_before : (z c : Bool) → z ≡ false → (z || c) ≡ true → c ≡ true
blank_before true c e f = absurd (false≢true (sym e))
blank_before false c e f = f

pub hand_more : (l f o h a k : Bool) → (o ≡ true → a ≡ true) → (h ≡ true → k ≡ true) → hand_after l f o h ≡ true → hand_after l f a k ≡ true
hand_more true f o h a k old hand e = or_left _ _ (old (elim (or_cases o false e) [ inl is ↦ is | inr none ↦ absurd (false≢true none) ]))
hand_more false true o h a k old hand e = absurd (false≢true e)
hand_more false false o h a k old hand e = hand e

pub new_more : (f z h n k b : Bool) → (h ≡ true → k ≡ true) → (n ≡ true → b ≡ true) → new_after f z h n ≡ true → new_after f z k b ≡ true
new_more true z h n k b hand new e = elim (or_cases h _ e) [
  | inl is ↦ or_left k _ (hand is)
  | inr is ↦ (let both = not_left z n is in or_right k _ (and_of (not z) b (ap not both.0) (new both.1)))
]
new_more false z h n k b hand new e = let both = not_left z n e in and_of (not z) b (ap not both.0) (new both.1)

pub old_more : (e o a : Bool) → (o ≡ true → a ≡ true) → old_after e o ≡ true → old_after e a ≡ true
old_more e o a old is = let both = not_left e o is in and_of (not e) a (ap not both.0) (old both.1)

-- where one is in the hand after it, it was in the old place, or in the hand
pub hand_cases : (l f a k : Bool) → hand_after l f a k ≡ true → ((l ≡ true) × (a ≡ true)) ⊎ ((l ≡ false) × (f ≡ false) × (k ≡ true))
hand_cases true f a k e = elim (or_cases a false e) [ inl is ↦ inl (refl, is) | inr none ↦ absurd (false≢true none) ]
hand_cases false true a k e = absurd (false≢true e)
hand_cases false false a k e = inr (refl, refl, e)
