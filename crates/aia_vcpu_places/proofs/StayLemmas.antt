-- What a step of a move does not touch: numbers, routes, and whether a look saw something.
use Rattle.std.proofs.Common.{◌≡◌, ℕ, ◌+◌, ◌*◌, ◌/◌, ◌<◌, ◌≤◌, Bool, true, false, ◌||◌, if◌then◌else◌, nat_eq, nat_lt, Option, refl, sym, ap, ◌∙◌, arith}
use Rattle.std.proofs.lemmas.Bool.Decides.{nat_tests}
use Rattle.aia_file.specs.InterruptFile.{InterruptFile}
use Rattle.aia_vcpu.specs.declared.place.GuestPlace.{GuestPlace}
use Rattle.aia_vcpu.specs.declared.end.End.{End}
use Rattle.aia_vcpu.specs.Home.{is_file, Home, Progress}
use Rattle.aia_vcpu.specs.Home.Home.{OnWay}
use Rattle.aia_vcpu.specs.declared.end.End.TheVariants.{File, Memory}
use Rattle.aia_vcpu.specs.Home.Way.{Outward}
use Rattle.aia_vcpu.specs.Plans.{steps_done, step_of, first_take, is_last_made, is_next, plan_step, is_begun}
use Rattle.aia_vcpu.specs.declared.access.Access.TheVariants.{TakePending, TakeEnables, Look, TakeThreshold}
use Rattle.aia_vcpu.specs.Routes.{entry_names, stage_names, peers_reach, MayReach}
use Rattle.aia_vcpu.specs.BySteps.{is_drained, is_enable_taken, is_enable_put, delivery_in_own, threshold_in_own, threshold_in_next, look_word}
use Rattle.aia_vcpu_places.specs.Places.{Places, of_file, old_sets, old_place, new_place, spare_place, entry_word}
use Rattle.aia_vcpu_places.specs.Holds.{Hand, HoldsSets, HoldsNumbers, HoldsRoutes, sees}
use Rattle.aia_vcpu_places.proofs.SetSteps.{HoldsAt}

-- ---- the sets of a home, and over plain numbers

-- a file that a move leaves is its own
pub own_sets : (v : Places) (from : End) → is_file from ≡ true → old_sets v from ≡ of_file v.own
own_sets v File e = refl
own_sets v Memory e = absurd (cc)

-- the bounds of what is made
record Bounds (words : ℕ) (there : Home) : Type 0 where
  drained : (j : ℕ) → is_drained words there j ≡ nat_lt (first_take there + 2 * j) (steps_done there)
  carried : (j : ℕ) → is_last_made words there (TakePending j) ≡ nat_eq (steps_done there) (first_take there + 2 * j + 1)
  disabled : (j : ℕ) → is_enable_taken words there j ≡ nat_lt (step_of words there (TakeEnables 0) + 2 * j) (steps_done there)
  carried_enables : (j : ℕ) → is_last_made words there (TakeEnables j) ≡ nat_eq (steps_done there) (step_of words there (TakeEnables 0) + 2 * j + 1)
  moved : (j : ℕ) → is_enable_put words there j ≡ nat_lt (step_of words there (TakeEnables 0) + 2 * j + 1) (steps_done there)

bounds : (words : ℕ) (there : Home) → Bounds words there
bounds words (OnWay way at) = record {
  drained = λ j. grind (arith, nat_tests);
  carried = λ j. grind (arith, nat_tests);
  disabled =
      λ j. grind (arith, nat_tests);
  carried_enables = λ j. grind (arith, nat_tests);
  moved = λ j. grind (arith, nat_tests);
}
bounds words there = record {
  drained = λ j. grind (arith, nat_tests);
  carried = λ j. grind (arith, nat_tests);
  disabled =
      λ j. grind (arith, nat_tests);
  carried_enables = λ j. grind (arith, nat_tests);
  moved = λ j. grind (arith, nat_tests);
}

pub of_sets : (words word : ℕ) (v : Places) (there : Home) (file : InterruptFile) → HoldsSets words v there word file
    → HoldsAt words (first_take there) (step_of words there (TakeEnables 0)) (steps_done there) word (old_place v there) (new_place v there) file
of_sets words word v there file p = let b = bounds words there in record {
  union = λ i l. rw (b.carried (i / 64)) at (p.union i l);
  drained = λ i l. rw (b.drained (i / 64)) at (p.drained i l);
  old_enables = λ i l. rw (b.disabled (i / 64)) at (p.old_enables i l);
  carried_enables = λ i l. rw (b.carried_enables (i / 64)) at (p.carried_enables i l);
  new_enables = λ i l. rw (b.moved (i / 64)) at (p.new_enables i l);
}

abbrev pub IsSpare : ℕ → Places → Home → Type 0
IsSpare words v there = (i : ℕ) → i / 64 < words → ((spare_place v there).pending i ≡ false) × ((spare_place v there).enabled i ≡ false)

abbrev pub IsFresh : ℕ → Places → Home → Type 0
IsFresh words v there = steps_done there ≡ 0 → (i : ℕ) → i / 64 < words → (new_place v there).pending i ≡ false

abbrev pub IsPast : ℕ → Places → Type 0
IsPast words v = (i : ℕ) → words ≤ i / 64 → (v.own.pending i ≡ false) × (v.own.enabled i ≡ false)
    × (v.next.pending i ≡ false) × (v.next.enabled i ≡ false) × (v.slot.enabled i ≡ false)

-- no step is done: said of their number, and as a test
none_done : (there : Home) → is_begun there ≡ false → steps_done there ≡ 0
none_done there e = grind (arith, nat_tests)

unbegun : (there : Home) → steps_done there ≡ 0 → is_begun there ≡ false
unbegun there e = grind (arith, nat_tests)

pub is_fresh : (words word : ℕ) (v : Places) (there : Home) (file : InterruptFile) → HoldsSets words v there word file → IsFresh words v there
is_fresh words word v there file p = λ z. p.fresh (unbegun there z)

pub to_sets : (words word : ℕ) (v : Places) (there : Home) (file : InterruptFile)
    → HoldsAt words (first_take there) (step_of words there (TakeEnables 0)) (steps_done there) word (old_place v there) (new_place v there) file
    → IsFresh words v there → IsSpare words v there → IsPast words v → HoldsSets words v there word file
to_sets words word v there file p fresh spare past = let b = bounds words there in record {
  fresh = λ z. fresh (none_done there z);
  union = λ i l. rw (sym (b.carried (i / 64))) at (p.union i l);
  drained = λ i l. rw (sym (b.drained (i / 64))) at (p.drained i l);
  old_enables = λ i l. rw (sym (b.disabled (i / 64))) at (p.old_enables i l);
  carried_enables = λ i l. rw (sym (b.carried_enables (i / 64))) at (p.carried_enables i l);
  new_enables = λ i l. rw (sym (b.moved (i / 64))) at (p.new_enables i l);
  spare = spare;
  past = past;
}

-- a word that is put is none past the last
pub elsewhere : (i w words : ℕ) → w < words → words ≤ i / 64 → (x y : Bool) → (if nat_eq (i / 64) w then x else y) ≡ y
elsewhere i w words low past x y = let other : nat_eq (i / 64) w ≡ false = grind (arith, nat_tests) in ap (λ b. if b then x else y) other

-- ---- the numbers

pub record SameNumbers (v u : Places) : Type 0 where
  pub own_delivery : u.own.delivery ≡ v.own.delivery
  pub next_delivery : u.next.delivery ≡ v.next.delivery
  pub own_threshold : u.own.threshold ≡ v.own.threshold
  pub next_threshold : u.next.threshold ≡ v.next.threshold

pub record SameKept (hand now : Hand) : Type 0 where
  pub delivery : now.delivery ≡ hand.delivery
  pub threshold : now.threshold ≡ hand.threshold

pub same_kept : (hand : Hand) → SameKept hand hand
same_kept hand = record { delivery = refl; threshold = refl }

pub other_word : (hand now : Hand) → now ≡ record hand { word = now.word } → SameKept hand now
other_word hand now e = record { delivery = ap (λ (h : Hand). h.delivery) e; threshold = ap (λ (h : Hand). h.threshold) e }

pub record NumbersStay (words : ℕ) (there later : Home) : Type 0 where
  pub delivery : delivery_in_own later ≡ delivery_in_own there
  pub own : threshold_in_own words later ≡ threshold_in_own words there
  pub next : threshold_in_next words later ≡ threshold_in_next words there

pub numbers_stay : (words : ℕ) (v u : Places) (there later : Home) (hand now : Hand) (file : InterruptFile) → NumbersStay words there later
    → SameNumbers v u → SameKept hand now
    → HoldsNumbers words v there hand file → HoldsNumbers words u later now file
numbers_stay words v u there later hand now file stay same kept p = record {
  own_delivery = same.own_delivery ∙ p.own_delivery ∙ ap (λ b. if b then file.delivery else 0) (sym stay.delivery);
  next_delivery = same.next_delivery ∙ p.next_delivery;
  kept_delivery = λ e. kept.delivery ∙ p.kept_delivery (sym stay.delivery ∙ e);
  own_threshold = same.own_threshold ∙ p.own_threshold ∙ ap (λ b. if b then file.threshold else 0) (sym stay.own);
  next_threshold = same.next_threshold ∙ p.next_threshold ∙ ap (λ b. if b then file.threshold else 0) (sym stay.next);
  kept_threshold = λ e. kept.threshold ∙ p.kept_threshold
      (ap (λ b. b || threshold_in_next words there) (sym stay.own) ∙ ap (λ b. threshold_in_own words later || b) (sym stay.next) ∙ e);
}

-- ---- the routes

pub record SameRoutes (v u : Places) : Type 0 where
  pub word0 : u.word0 ≡ v.word0
  pub word1 : u.word1 ≡ v.word1
  pub in_force : u.in_force ≡ v.in_force
  pub stage : u.stage ≡ v.stage
  pub stage_in_force : u.stage_in_force ≡ v.stage_in_force

pub record RoutesStay (there later : Home) : Type 0 where
  pub entry : entry_names later ≡ entry_names there
  pub may : (place : Option GuestPlace) → MayReach there place → MayReach later place
  pub stage : stage_names later ≡ stage_names there
  pub peers : peers_reach later ≡ peers_reach there

pub routes_stay : (q hart : ℕ) (reach : Option GuestPlace) (v u : Places) (there later : Home) → RoutesStay there later → SameRoutes v u
    → HoldsRoutes q hart reach v there → HoldsRoutes q hart reach u later
routes_stay q hart reach v u there later stay same p = record {
  word0 = same.word0 ∙ p.word0 ∙ ap (entry_word q) (sym stay.entry);
  word1 = same.word1 ∙ p.word1;
  in_force = same.in_force ∙ p.in_force;
  may = stay.may reach p.may;
  stage = same.stage ∙ p.stage ∙ sym stay.stage;
  stage_in_force = same.stage_in_force ∙ p.stage_in_force ∙ sym stay.peers;
}

-- ---- the looks

pub or_false : (b : Bool) → (b || false) ≡ b
or_false true = refl
or_false false = refl

pub unseen-before : (words : ℕ) (from : GuestPlace) (at : Progress) (file : InterruptFile) → at.steps < plan_step File Memory words (Look 0)
    → sees words (OnWay (Outward from) at) file ≡ false
unseen-before words from at file low = let none : is_next words (OnWay (Outward from) at)
    (Look (look_word words (OnWay (Outward from) at))) ≡ false = grind (arith, nat_tests) in rw none refl

pub unseen-after : (words : ℕ) (from : GuestPlace) (at : Progress) (file : InterruptFile) → plan_step File Memory words TakeThreshold ≤ at.steps
    → sees words (OnWay (Outward from) at) file ≡ false
unseen-after words from at file high = let none : is_next words (OnWay (Outward from) at)
    (Look (look_word words (OnWay (Outward from) at))) ≡ false = grind (arith, nat_tests) in rw none refl

pub seen_stays : (words : ℕ) (there : Home) (file : InterruptFile) (had has saw : Bool) → has ≡ had → sees words there file ≡ false → had ≡ saw
    → has ≡ (saw || sees words there file)
seen_stays words there file had has saw same none p = same ∙ p ∙ sym (or_false saw) ∙ ap (λ b. saw || b) (sym none)
