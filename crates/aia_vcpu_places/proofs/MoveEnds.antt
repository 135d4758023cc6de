-- A move begins, and ends: the places hold the same file, and the file that is left is empty.
use Rattle.std.proofs.Common.{◌≡◌, ℕ, ◌+◌, ◌*◌, ◌/◌, ◌%◌, ◌≤◌, ◌<◌, Bool, true, false, ◌&&◌, ◌||◌, if◌then◌else◌, nat_lt, Option, Some, None, refl, sym, ap, ◌∙◌, subst, inl, inr, arith}
use Rattle.std.proofs.Math.Nat.{mod-eq_of_lt}
use Rattle.std.proofs.lemmas.Bool.{eqb-true, false≢true}
use Rattle.std.proofs.lemmas.Bool.Decides.{nat_tests}
use Rattle.aia_file.specs.InterruptFile.{InterruptFile}
use Rattle.aia_vcpu.specs.declared.place.GuestPlace.{GuestPlace}
use Rattle.aia_vcpu.specs.declared.end.End.{End}
use Rattle.aia_vcpu.specs.Home.{is_file, end_at, Way, left, led_to, old_end, new_end, Home, Progress, at_first, at_rest, ended}
use Rattle.aia_vcpu.specs.declared.rest.Rest.{Rest}
use Rattle.aia_vcpu.specs.declared.rest.Rest.TheVariants.{Parked}
use Rattle.aia_vcpu.specs.Home.Home.{InMemory, Resident, OnWay}
use Rattle.aia_vcpu.specs.declared.end.End.TheVariants.{File, Memory}
use Rattle.aia_vcpu.specs.Home.Way.{Outward, Inward, Across}
use Rattle.aia_vcpu.specs.Plans.{IsNext, plan_step, plan_steps, steps_done, is_at_last, is_made, is_early_made}
use Rattle.aia_vcpu.specs.declared.access.Access.{Access}
use Rattle.aia_vcpu.specs.declared.access.Access.TheVariants.{TakePending, TakeEnables, TakeThreshold, WriteEntry, Map, GFence}
use Rattle.aia_vcpu.specs.Phases.{has_come}
use Rattle.aia_vcpu.specs.Phases.Phase.{LastPhase}
use Rattle.aia_vcpu.specs.BySteps.{old_file, new_file, delivery_in_own, threshold_in_own, threshold_in_next, is_leaving}
use Rattle.aia_vcpu.specs.Routes.{origin, entry_names, stage_names, peers_reach, is_written, is_closed, is_at_fence, reach_stepped, MayReach}
use Rattle.aia_vcpu.proofs.HomeLemmas.{not_the_last}
use Rattle.aia_vcpu.proofs.PlanLemmas.{last_access, last_is}
use Rattle.aia_vcpu.proofs.RouteLemmas.{reach_ended}
use Rattle.aia_vcpu_places.specs.Places.{Places, of_file, of_slot, no_sets, old_place, new_place}
use Rattle.aia_vcpu_places.specs.Holds.{IsWithin, Hand, HoldsSets, HoldsNumbers, HoldsRoutes, Holds, IsEmpty}
use Rattle.aia_vcpu_places.specs.Steps.{StepMade, places_after, CarriedAfter, places_ended}
use Rattle.aia_vcpu_places.proofs.PhaseLemmas.{last_knows}
use Rattle.aia_vcpu_places.proofs.SetSteps.{HoldsAt, begin-holds, stand-holds, old_is_empty, new_has_all}
use Rattle.aia_vcpu_places.proofs.StayLemmas.{IsSpare, IsPast, of_sets, to_sets, SameRoutes, routes_stay}

-- ---- the last access: it puts eidelivery in a new file, or posts the notice

takes_nothing : (to : End) (there : Home) (v : Places) (hand now : Hand) → CarriedAfter (last_access to) there v hand now → now ≡ hand
takes_nothing File there v hand now e = e
takes_nothing Memory there v hand now e = e

-- ---- it ends

unchosen : (k m : ℕ) (x y : Option GuestPlace) → m < k → y ≡ (if nat_lt m k then y else x)
unchosen k m x y high = let late : nat_lt m k ≡ true = grind (arith, nat_tests) in sym (ap (λ b. if b then y else x) late)

-- where it has led is where it rests, and nothing is looked at there
rests_named : (to : Option GuestPlace) → (entry_names (at_rest to) ≡ to) × (stage_names (at_rest to) ≡ to) × (peers_reach (at_rest to) ≡ to)
rests_named None = (refl, refl, refl)
rests_named (Some p) = (refl, refl, refl)

rests_unseen : (to : Option GuestPlace) (seen : Bool) → (is_leaving (at_rest to) && seen) ≡ (is_leaving (at_rest to) && false)
rests_unseen None seen = refl
rests_unseen (Some p) seen = refl

module _ (n words q hart : ℕ) (reach : Option GuestPlace) (at : Progress) (v : Places) (hand : Hand) (file : InterruptFile) (saw : Bool)
    (within : IsWithin n words file) where
  -- the places after it
  abbrev after : Way → Places
  after way = places_ended n (OnWay way at) (places_after q hart (last_access (new_end way)) (OnWay way at) v hand)

  rests-sets : (way : Way) → HoldsSets words v (OnWay way at) hand.word file
      → ((i : ℕ) → i / 64 < words → ((old_place v (OnWay way at)).pending i ≡ false) × ((old_place v (OnWay way at)).enabled i ≡ false))
      → ((i : ℕ) → i / 64 < words → (file.pending i ≡ (new_place v (OnWay way at)).pending i)
      × ((new_place v (OnWay way at)).enabled i ≡ file.enabled i)) → HoldsSets words (after way) (at_rest (led_to way)) hand.word file
  rests-sets (Outward from) s old new = to_sets words hand.word (after (Outward from)) (InMemory Parked) file
      (stand-holds words hand.word (of_slot v.slot) file new) (λ z i l. refl) (λ i l. (refl, refl))
      (λ i l. let p = s.past i l in (refl, refl, p.2, p.3, p.4))
  rests-sets (Inward to) s old new = to_sets words hand.word (after (Inward to)) (Resident to) file
      (stand-holds words hand.word (of_file v.own) file new) (λ z i l. refl) old s.past
  rests-sets (Across from to) s old new = to_sets words hand.word (after (Across from to)) (Resident to) file
      (stand-holds words hand.word (of_file v.next) file new) (λ z i l. refl) s.spare (λ i l. let p = s.past i l in (p.2, p.3, refl, refl, p.4))

  whole : hand.delivery ≡ file.delivery → hand.delivery % 2 ≡ file.delivery
  whole e = ap (λ x. x % 2) e ∙ mod-eq_of_lt within.delivery

  rests-numbers : (way : Way) → at.steps + 1 ≡ plan_steps (old_end way) (new_end way) words → HoldsNumbers words v (OnWay way at) hand file
      → HoldsNumbers words (after way) (at_rest (led_to way)) hand file
  rests-numbers (Outward from) e p = record {
    own_delivery = refl;
    next_delivery = p.next_delivery;
    kept_delivery = λ z. p.kept_delivery (grind (arith, nat_tests));
    own_threshold = refl;
    next_threshold = p.next_threshold;
    kept_threshold = λ z. p.kept_threshold (grind (arith, nat_tests));
  }
  rests-numbers (Inward to) e p = record {
    own_delivery = whole (p.kept_delivery refl);
    next_delivery = p.next_delivery;
    kept_delivery = λ z. absurd (cc);
    own_threshold = let in_own : threshold_in_own words (OnWay (Inward to) at) ≡ true = grind (arith, nat_tests) in p.own_threshold
        ∙ ap (λ b. if b then file.threshold else 0) in_own;
    next_threshold = p.next_threshold;
    kept_threshold = λ z. absurd (cc);
  }
  rests-numbers (Across from to) e p = record {
    own_delivery = whole (p.kept_delivery (grind (arith, nat_tests)));
    next_delivery = refl;
    kept_delivery = λ z. absurd (cc);
    own_threshold = let in_next : threshold_in_next words (OnWay (Across from to) at) ≡ true = grind (arith, nat_tests) in p.next_threshold
        ∙ ap (λ b. if b then file.threshold else 0) in_next;
    next_threshold = refl;
    kept_threshold = λ z. absurd (cc);
  }

  rests-routes : (way : Way) → SameRoutes v (after way)
  rests-routes (Outward from) = record { word0 = refl; word1 = refl; in_force = refl; stage = refl; stage_in_force = refl }
  rests-routes (Inward to) = record { word0 = refl; word1 = refl; in_force = refl; stage = refl; stage_in_force = refl }
  rests-routes (Across from to) = record { word0 = refl; word1 = refl; in_force = refl; stage = refl; stage_in_force = refl }

  rests : (way : Way) → is_at_last words (OnWay way at) ≡ true → Holds words q hart reach v (OnWay way at) hand file saw
      → Holds words q hart reach (after way) (at_rest (led_to way)) hand file false
  rests way last h =
      let there = OnWay way at in
      let first = plan_step (old_end way) (new_end way) 0 (TakePending 0) in
      let enables = plan_step (old_end way) (new_end way) words (TakeEnables 0) in
      let e : at.steps + 1 ≡ plan_steps (old_end way) (new_end way) words = eqb-true _ _ last in
      let high : enables + 2 * words ≤ at.steps = omega (arith, e, not_the_last way words) in
      let both = of_sets words hand.word v there file h.sets in
      let named = rests_named (led_to way) in
      record {
        sets = rests-sets way h.sets
            (old_is_empty words first enables (old_place v there) (new_place v there) file at.steps hand.word (omega arith) both high)
            (new_has_all words first enables (old_place v there) (new_place v there) file at.steps hand.word (omega arith) both high);
        numbers = rests-numbers way e h.numbers;
        routes = routes_stay q hart reach v (after way) there (at_rest (led_to way)) (record {
          entry = named.0 ∙ unchosen at.steps (plan_step (old_end way) (new_end way) 0 WriteEntry) (left way) (led_to way) (omega (arith, e));
          may = λ place m. reach_ended words there place last m;
          stage = named.1 ∙ unchosen at.steps (plan_step (old_end way) (new_end way) 0 Map) (left way) (led_to way) (omega (arith, high));
          peers = named.2 ∙ unchosen at.steps (plan_step (old_end way) (new_end way) 0 GFence) (left way) (led_to way) (omega (arith, high));
        }) (rests-routes way) h.routes;
        looks = rests_unseen (led_to way) hand.seen;
      }

unfenced : (there : Home) (was : Option GuestPlace) → is_at_fence there ≡ false → reach_stepped there was ≡ was
unfenced there was other = ap (λ b. if b then entry_names there else was) other

pub move_ended : (n words q hart : ℕ) (reach : Option GuestPlace) (access : Access) (there : Home) (v : Places) (hand : Hand) (u : Places)
    (now : Hand) (file : InterruptFile) (saw : Bool) → IsWithin n words file
    → IsNext words there access → is_at_last words there ≡ true → StepMade q hart access there v hand u now
    → Holds words q hart reach v there hand file saw
    → Holds words q hart (reach_stepped there reach) (places_ended n there u) (ended there) now file false
move_ended n words q hart reach access (OnWay way at) v hand u now file saw within next last made h =
    let there = OnWay way at in
    let which = last_is words way at access next last in
    let carried : now ≡ hand = takes_nothing (new_end way) there v hand now (subst (λ a. CarriedAfter a there v hand now) which made.carried) in
    let places : u ≡ places_after q hart (last_access (new_end way)) there v hand = made.places
    ∙ ap (λ a. places_after q hart a there v hand) which in
    subst (λ o. Holds words q hart o (places_ended n there u) (ended there) now file false) (sym (unfenced there reach (grind (arith, nat_tests))))
    (subst (λ (x : Places). Holds words q hart reach (places_ended n there x) (ended there) now file false) (sym places)
    (subst (λ (x : Hand). Holds words q hart reach (places_ended n there (places_after q hart (last_access (new_end way)) there v hand))
    (ended there) x file false) (sym carried) (rests n words q hart reach at v hand file saw within way last h)))
move_ended n words q hart reach access there v hand u now file saw within next last made h = absurd (cc)

-- ---- the file that is left

-- the last access is not made there
left_alone : (q hart : ℕ) (way : Way) (at : Progress) (v : Places) (hand : Hand) (p : GuestPlace) → left way ≡ Some p
    → (places_after q hart (last_access (new_end way)) (OnWay way at) v hand).own ≡ v.own
left_alone q hart (Outward from) at v hand p e = refl
left_alone q hart (Inward to) at v hand p e = absurd (cc)
left_alone q hart (Across from to) at v hand p e = refl

-- it comes after the threshold is taken
threshold_first : (from to : End) (words : ℕ) → is_file from ≡ true → plan_step from to words TakeThreshold + 1 < plan_steps from to words
threshold_first File File words e = omega arith
threshold_first File Memory words e = omega arith
threshold_first Memory to words e = absurd (cc)

pub left_empty : (words q hart : ℕ) (reach : Option GuestPlace) (access : Access) (there : Home) (v : Places) (hand : Hand) (u : Places)
    (now : Hand) (file : InterruptFile) (saw : Bool) (p : GuestPlace) → old_file there ≡ Some p
    → IsNext words there access → is_at_last words there ≡ true → StepMade q hart access there v hand u now
    → Holds words q hart reach v there hand file saw
    → IsEmpty u.own
left_empty words q hart reach access (OnWay way at) v hand u now file saw p leaves next last made h =
    let there = OnWay way at in
    let late = threshold_first (old_end way) (new_end way) words (ap (λ o. is_file (end_at o)) leaves) in
    let come : has_come words there LastPhase ≡ true = grind (arith, nat_tests) in
    let taken : is_made words there TakeThreshold ≡ true = grind (arith, nat_tests) in
    let knows = last_knows words q hart reach v there hand file saw p leaves come h in
    let places : u ≡ places_after q hart (last_access (new_end way)) there v hand = made.places
    ∙ ap (λ a. places_after q hart a there v hand) (last_is words way at access next last) in
    let same : u.own ≡ v.own = ap (λ (x : Places). x.own) places ∙ left_alone q hart way at v hand p leaves in
    subst IsEmpty (sym same) (record {
      pending = knows.0.pending;
      enabled = knows.0.enabled;
      delivery = knows.0.delivery;
      threshold = knows.1
          ∙ ap (λ b. if b then 0 else file.threshold) taken;
    })
left_empty words q hart reach access there v hand u now file saw p leaves next last made h = absurd (cc)

-- ---- it begins

resting_may : (there later : Home) (place : Option GuestPlace) → origin later ≡ origin there → is_closed later ≡ false → is_written there ≡ false
    → MayReach there place → MayReach later place
resting_may there later place same unclosed unwritten (inl p) = inl (p.0 ∙ sym same, unclosed)
resting_may there later place same unclosed unwritten (inr p) = let no : true ≡ false = sym p.1 ∙ unwritten in absurd (cc)

-- at rest nothing is written yet
begin-routes : (q hart : ℕ) (reach : Option GuestPlace) (v u : Places) (there : Home) (way : Way) → steps_done there ≡ 0 → origin there ≡ left way
    → SameRoutes v u → HoldsRoutes q hart reach v there → HoldsRoutes q hart reach u (OnWay way at_first)
begin-routes q hart reach v u there way rests same routes h = routes_stay q hart reach v u there (OnWay way at_first) (record {
  entry = unwritten WriteEntry;
  may = λ place m. resting_may there (OnWay way at_first) place (sym same) (grind (arith, nat_tests)) (grind (arith, nat_tests)) m;
  stage = unwritten Map;
  peers = unwritten GFence;
}) routes h
  where
    unwritten : (access : Access) → (if is_early_made (OnWay way at_first) access then led_to way else left way)
        ≡ (if is_early_made there access then new_file there else origin there)
    unwritten access =
        let early : is_early_made there access ≡ false = grind (arith, nat_tests) in
        let none : is_early_made (OnWay way at_first) access ≡ false = grind (arith, nat_tests) in
        ap (λ b. if b then led_to way else left way) none ∙ sym same ∙ sym (ap (λ b. if b then new_file there else origin there) early)

module _ (n words q hart : ℕ) (reach : Option GuestPlace) (v : Places) (hand now : Hand) (file : InterruptFile) (saw : Bool) where
  -- what the old place has stays, and the new place is empty
  begin-sets : (way : Way) (u : Places) → HoldsAt words 0 0 0 hand.word (old_place u (OnWay way at_first)) no_sets file
      → ((i : ℕ) → i / 64 < words → ((new_place u (OnWay way at_first)).pending i ≡ false) × ((new_place u (OnWay way at_first)).enabled i ≡ false))
      → IsSpare words u (OnWay way at_first) → IsPast words u → HoldsSets words u (OnWay way at_first) now.word file
  begin-sets way u old none spare past = to_sets words now.word u (OnWay way at_first) file
      (begin-holds words (plan_step (old_end way) (new_end way) 0 (TakePending 0)) (plan_step (old_end way) (new_end way) words (TakeEnables 0))
      (old_place u (OnWay way at_first)) (new_place u (OnWay way at_first)) file hand.word now.word none old) (λ z i l. (none i l).0) spare past

  -- both numbers stand in the file that is left
  begin-numbers : (way : Way) (u : Places) → is_file (old_end way) ≡ true → u.own.delivery ≡ file.delivery → u.own.threshold ≡ file.threshold
      → u.next.delivery ≡ 0 → u.next.threshold ≡ 0 → HoldsNumbers words u (OnWay way at_first) now file
  begin-numbers way u leaves delivery threshold next_delivery next_threshold =
      let quiet : delivery_in_own (OnWay way at_first) ≡ true = grind (arith, nat_tests) in
      let in_own : threshold_in_own words (OnWay way at_first) ≡ true = grind (arith, nat_tests) in
      let not_in_next : threshold_in_next words (OnWay way at_first) ≡ false = grind (arith, nat_tests) in
      record {
        own_delivery = delivery ∙ sym (ap (λ b. if b then file.delivery else 0) quiet);
        next_delivery = next_delivery;
        kept_delivery = λ z. absurd (false≢true (sym z ∙ quiet));
        own_threshold = threshold ∙ sym (ap (λ b. if b then file.threshold else 0) in_own);
        next_threshold = next_threshold ∙ sym (ap (λ b. if b then file.threshold else 0) not_in_next);
        kept_threshold = λ z. absurd (false≢true (sym z ∙ ap (λ b. b || threshold_in_next words (OnWay way at_first)) in_own));
      }

  -- nothing was seen yet
  pub leave_begins : (p : GuestPlace) → now.seen ≡ false → Holds words q hart reach v (Resident p) hand file saw
      → Holds words q hart reach v (OnWay (Outward p) at_first) now file false
  leave_begins p unseen h = record {
    sets = begin-sets (Outward p) v (of_sets words hand.word v (Resident p) file h.sets) h.sets.spare (λ i l. (refl, refl)) h.sets.past;
    numbers = begin-numbers (Outward p) v refl h.numbers.own_delivery h.numbers.own_threshold h.numbers.next_delivery h.numbers.next_threshold;
    routes = begin-routes q hart reach v v (Resident p) (Outward p) refl refl
        (record { word0 = refl; word1 = refl; in_force = refl; stage = refl; stage_in_force = refl }) h.routes;
    looks = unseen;
  }

  -- the new file is empty; all else of the places is as it was
  pub shift_begins : (p to : GuestPlace) (u : Places) → u ≡ record v { next = u.next } → IsEmpty u.next
      → Holds words q hart reach v (Resident p) hand file saw → Holds words q hart reach u (OnWay (Across p to) at_first) now file false
  shift_begins p to u same empty h = subst (λ (x : Places). Holds words q hart reach x (OnWay (Across p to) at_first) now file false)
      (sym same) (record {
        sets = begin-sets (Across p to) (record v { next = u.next }) (of_sets words hand.word v (Resident p) file h.sets)
            (λ i l. (empty.pending i, empty.enabled i)) h.sets.spare
            (λ i l. let p = h.sets.past i l in (p.0, p.1, empty.pending i, empty.enabled i, p.4));
        numbers = begin-numbers (Across p to) (record v { next = u.next }) refl h.numbers.own_delivery h.numbers.own_threshold empty.delivery
            empty.threshold;
        routes = begin-routes q hart reach v (record v { next = u.next }) (Resident p) (Across p to) refl refl
            (record { word0 = refl; word1 = refl; in_force = refl; stage = refl; stage_in_force = refl }) h.routes;
        looks = refl;
      })

  -- the numbers that were kept are carried
  pub arrive_begins : {rest : Rest} (to : GuestPlace) (u : Places) → u ≡ record v { own = u.own } → IsEmpty u.own → now.delivery ≡ hand.delivery
      → now.threshold ≡ hand.threshold → Holds words q hart reach v (InMemory rest) hand file saw
      → Holds words q hart reach u (OnWay (Inward to) at_first) now file false
  arrive_begins {rest = rest} to u same empty delivery threshold h =
      subst (λ (x : Places). Holds words q hart reach x (OnWay (Inward to) at_first) now file false) (sym same) (record {
        sets = begin-sets (Inward to) (record v { own = u.own }) (of_sets words hand.word v (InMemory rest) file h.sets)
            (λ i l. (empty.pending i, empty.enabled i)) (λ i l. (refl, refl))
            (λ i l. let p = h.sets.past i l in (empty.pending i, empty.enabled i, p.2, p.3, p.4));
        numbers = record {
          own_delivery = empty.delivery;
          next_delivery = h.numbers.next_delivery;
          kept_delivery = λ z. delivery ∙ h.numbers.kept_delivery refl;
          own_threshold = empty.threshold ∙ sym (ap (λ b. if b then file.threshold else 0) not_in_own);
          next_threshold = h.numbers.next_threshold;
          kept_threshold = λ z. threshold ∙ h.numbers.kept_threshold refl;
        };
        routes = begin-routes q hart reach v (record v { own = u.own }) (InMemory rest) (Inward to) refl refl
            (record { word0 = refl; word1 = refl; in_force = refl; stage = refl; stage_in_force = refl }) h.routes;
        looks = refl;
      })
    where
      not_in_own : threshold_in_own words (OnWay (Inward to) at_first) ≡ false
      not_in_own = grind (arith, nat_tests)
