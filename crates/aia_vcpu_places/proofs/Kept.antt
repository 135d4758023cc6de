-- Each access of a move, but the last one, keeps what the places hold, whatever its way.
use Rattle.std.proofs.Common.{◌≡◌, ◌⊎◌, Option, ℕ, ◌+◌, ◌*◌, ◌/◌, ◌<◌, ◌≤◌, Bool, true, false, ◌&&◌, ◌||◌, if◌then◌else◌, nat_eq, nat_lt, inl, inr, refl, sym, ap, ◌∙◌, subst, arith}
use Rattle.std.proofs.lemmas.Bool.{ltb-true, and_right, false≢true}
use Rattle.std.proofs.lemmas.Bool.Decides.{nat_tests}
use Rattle.aia_regs.specs.declared.access.Op.TheVariants as ops
use Rattle.aia_regs.specs.declared.file_registers.FileReg.TheVariants.{Delivery, Threshold}
use Rattle.aia_file.specs.InterruptFile.{InterruptFile, accessed}
use Rattle.aia_vcpu.specs.declared.place.GuestPlace.{GuestPlace}
use Rattle.aia_vcpu.specs.Home.{Way, left, led_to, old_end, new_end, Home, Progress, one_further}
use Rattle.aia_vcpu.specs.Home.Home.{OnWay}
use Rattle.aia_vcpu.specs.Home.Way.{Outward, Inward, Across}
use Rattle.aia_vcpu.specs.Plans.{IsNext, is_at_last, one_at_file, plan_step, plan_has}
use Rattle.aia_vcpu.specs.declared.access.Access.{Access}
use Rattle.aia_vcpu.specs.declared.access.Access.TheVariants.{TakeDelivery, PutDelivery, WriteNotice, WriteEntry, Fence, Map, GFence, TakePending, PutPending, TakeEnables, PutEnables, Look, TakeThreshold, PutThreshold, Post}
use Rattle.aia_vcpu.proofs.PhaseLemmas.{sets_first}
use Rattle.aia_vcpu.proofs.RouteLemmas.{reach_on, reach_fenced, reach_after}
use Rattle.aia_vcpu_places.specs.Places.{Places, TwoSets, of_file, of_slot, old_place, new_place, spare_place, FilesFit}
use Rattle.aia_vcpu_places.specs.Holds.{IsWithin, Hand, HoldsSets, HoldsNumbers, Holds, sees, meets}
use Rattle.aia_vcpu.specs.BySteps.{is_leaving}
use Rattle.aia_vcpu.specs.Routes.{entry_names, stage_names, peers_reach}
use Rattle.aia_vcpu_places.specs.Steps.{with_old, with_new, places_after, CarriedAfter, without_word, joined_by, replaced_by}
use Rattle.aia_vcpu_places.proofs.SetSteps.{HoldsAt, before-holds, after-holds, take_pending-holds, put_pending-holds, take_enables-holds, put_enables-holds}
use Rattle.aia_vcpu_places.proofs.StayLemmas.{of_sets, to_sets, SameNumbers, SameKept, same_kept, other_word, NumbersStay, numbers_stay, SameRoutes, RoutesStay, routes_stay, seen_stays, unseen-before, unseen-after, elsewhere}
use Rattle.aia_vcpu_places.proofs.StepLemmas.{take_delivery-numbers, take_threshold-numbers, put_own_threshold-numbers, put_next_threshold-numbers, write_entry-routes, fence-routes, map-routes, gfence-routes}
use Rattle.aia_vcpu_places.proofs.EntryLemmas.{new_fits}
use Rattle.aia_vcpu_places.proofs.LookLemmas.{look_meets}
use Rattle.aia_regs.specs.declared.limits.TheConstants.{HARTS, SLOTS}

-- ---- the sets of both places

-- the same sets in all three places
record SameSets (v u : Places) : Type 0 where
  own : of_file u.own ≡ of_file v.own
  next : of_file u.next ≡ of_file v.next
  slot : of_slot u.slot ≡ of_slot v.slot

module _ (v u : Places) (same : SameSets v u) (at later : Progress) where
  old_same : (way : Way) → old_place u (OnWay way later) ≡ old_place v (OnWay way at)
  old_same (Outward from) = same.own
  old_same (Inward to) = same.slot
  old_same (Across from to) = same.own

  new_same : (way : Way) → new_place u (OnWay way later) ≡ new_place v (OnWay way at)
  new_same (Outward from) = same.slot
  new_same (Inward to) = same.own
  new_same (Across from to) = same.next

  spare_same : (way : Way) → spare_place u (OnWay way later) ≡ spare_place v (OnWay way at)
  spare_same (Outward from) = refl
  spare_same (Inward to) = refl
  spare_same (Across from to) = same.slot

-- what a step leaves empty past the last word
abbrev KeepsPast : ℕ → TwoSets → TwoSets → Type 0
KeepsPast words was sets = (i : ℕ) → words ≤ i / 64 → (was.pending i ≡ false → sets.pending i ≡ false)
    × (was.enabled i ≡ false → sets.enabled i ≡ false)

module _ (words : ℕ) (at : Progress) (v : Places) (word next : ℕ) (file : InterruptFile) where
  -- both places as a step leaves them, over plain numbers
  abbrev At : Way → ℕ → ℕ → TwoSets → TwoSets → Type 0
  At way done held old new = HoldsAt words (plan_step (old_end way) (new_end way) 0 (TakePending 0))
      (plan_step (old_end way) (new_end way) words (TakeEnables 0)) done held old new file

  sets_still : (way : Way) (u : Places) → SameSets v u → HoldsSets words v (OnWay way at) word file
      → At way (at.steps + 1) next (old_place v (OnWay way at)) (new_place v (OnWay way at))
      → HoldsSets words u (OnWay way (one_further at)) next file
  sets_still way u same s h =
      to_sets words next u (OnWay way (one_further at)) file
      (subst (λ o. At way (at.steps + 1) next o (new_place u (OnWay way (one_further at)))) (sym (old_same v u same at (one_further at) way))
      (subst (λ n. At way (at.steps + 1) next (old_place v (OnWay way at)) n) (sym (new_same v u same at (one_further at) way)) h))
      (λ z i l. absurd (omega arith))
      (λ i l. (
        ap (λ (x : TwoSets). x.pending i) (spare_same v u same at (one_further at) way)
            ∙ (s.spare i l).0,
        ap (λ (x : TwoSets). x.enabled i) (spare_same v u same at (one_further at) way) ∙ (s.spare i l).1,
      ))
      (λ i l. (
        ap (λ (x : TwoSets). x.pending i) same.own ∙ (s.past i l).0,
        ap (λ (x : TwoSets). x.enabled i) same.own ∙ (s.past i l).1,
        ap (λ (x : TwoSets). x.pending i) same.next ∙ (s.past i l).2,
        ap (λ (x : TwoSets). x.enabled i) same.next ∙ (s.past i l).3,
        ap (λ (x : TwoSets). x.enabled i) same.slot ∙ (s.past i l).4,
      ))

  old_set : (way : Way) (sets : TwoSets) → KeepsPast words (old_place v (OnWay way at)) sets → HoldsSets words v (OnWay way at) word file
      → At way (at.steps + 1) next sets (new_place v (OnWay way at))
      → HoldsSets words (with_old (OnWay way at) v sets) (OnWay way (one_further at)) next file
  old_set (Outward from) sets keeps s h = to_sets words next (with_old (OnWay (Outward from) at) v sets) (OnWay (Outward from) (one_further at))
      file h (λ z i l. absurd (omega arith)) s.spare (λ i l. let p = s.past i l in ((keeps i l).0 p.0, (keeps i l).1 p.1, p.2, p.3, p.4))
  old_set (Inward to) sets keeps s h = to_sets words next (with_old (OnWay (Inward to) at) v sets) (OnWay (Inward to) (one_further at)) file h
      (λ z i l. absurd (omega arith)) s.spare (λ i l. let p = s.past i l in (p.0, p.1, p.2, p.3, (keeps i l).1 p.4))
  old_set (Across from to) sets keeps s h = to_sets words next (with_old (OnWay (Across from to) at) v sets)
      (OnWay (Across from to) (one_further at)) file h (λ z i l. absurd (omega arith)) s.spare
      (λ i l. let p = s.past i l in ((keeps i l).0 p.0, (keeps i l).1 p.1, p.2, p.3, p.4))

  new_set : (way : Way) (sets : TwoSets) → KeepsPast words (new_place v (OnWay way at)) sets → HoldsSets words v (OnWay way at) word file
      → At way (at.steps + 1) next (old_place v (OnWay way at)) sets
      → HoldsSets words (with_new (OnWay way at) v sets) (OnWay way (one_further at)) next file
  new_set (Outward from) sets keeps s h = to_sets words next (with_new (OnWay (Outward from) at) v sets) (OnWay (Outward from) (one_further at))
      file h (λ z i l. absurd (omega arith)) s.spare (λ i l. let p = s.past i l in (p.0, p.1, p.2, p.3, (keeps i l).1 p.4))
  new_set (Inward to) sets keeps s h = to_sets words next (with_new (OnWay (Inward to) at) v sets) (OnWay (Inward to) (one_further at)) file h
      (λ z i l. absurd (omega arith)) s.spare (λ i l. let p = s.past i l in ((keeps i l).0 p.0, (keeps i l).1 p.1, p.2, p.3, p.4))
  new_set (Across from to) sets keeps s h = to_sets words next (with_new (OnWay (Across from to) at) v sets)
      (OnWay (Across from to) (one_further at)) file h (λ z i l. absurd (omega arith)) s.spare
      (λ i l. let p = s.past i l in (p.0, p.1, (keeps i l).0 p.2, (keeps i l).1 p.3, p.4))

-- ---- the numbers, the routes and the looks, at a step that does not touch them

moving-numbers : (words : ℕ) (way : Way) (at : Progress) → one_at_file (old_end way) ≤ at.steps
    → at.steps < plan_step (old_end way) (new_end way) words TakeThreshold → NumbersStay words (OnWay way at) (OnWay way (one_further at))
moving-numbers words (Outward from) at some low = record { delivery = grind (arith, nat_tests); own = grind (arith, nat_tests); next = refl }
moving-numbers words (Inward to) at some low = record { delivery = refl; own = grind (arith, nat_tests); next = refl }
moving-numbers words (Across from to) at some low =
    record { delivery = grind (arith, nat_tests); own = grind (arith, nat_tests); next = grind (arith, nat_tests) }

chosen : (m k : ℕ) (x y : Option GuestPlace) → nat_eq k m ≡ false → (if nat_lt m (k + 1) then x else y) ≡ (if nat_lt m k then x else y)
chosen m k x y other = ap (λ b. if b then x else y) (grind (arith, nat_tests))

-- whether the next step writes or fences no route
record IsOther (way : Way) (at : Progress) : Type 0 where
  entry : nat_eq at.steps (plan_step (old_end way) (new_end way) 0 WriteEntry) ≡ false
  fence : nat_eq at.steps (plan_step (old_end way) (new_end way) 0 Fence) ≡ false
  map : nat_eq at.steps (plan_step (old_end way) (new_end way) 0 Map) ≡ false
  gfence : nat_eq at.steps (plan_step (old_end way) (new_end way) 0 GFence) ≡ false

moving-routes : (way : Way) (at : Progress) → IsOther way at → RoutesStay (OnWay way at) (OnWay way (one_further at))
moving-routes way at other = record {
  entry = chosen (plan_step (old_end way) (new_end way) 0 WriteEntry) at.steps (led_to way) (left way) other.entry;
  may = λ place m. reach_on (OnWay way at) place other.fence m;
  stage = chosen (plan_step (old_end way) (new_end way) 0 Map) at.steps (led_to way) (left way) other.map;
  peers = chosen (plan_step (old_end way) (new_end way) 0 GFence) at.steps (led_to way) (left way) other.gfence;
}

-- before the entry is written; past the fence of the record
early : (way : Way) (at : Progress) → at.steps < plan_step (old_end way) (new_end way) 0 WriteEntry → IsOther way at
early way at low = record {
  entry = grind (arith, nat_tests);
  fence = grind (arith, nat_tests);
  map = grind (arith, nat_tests);
  gfence =
      grind (arith, nat_tests);
}

late : (way : Way) (at : Progress) → plan_step (old_end way) (new_end way) 0 GFence < at.steps → IsOther way at
late way at high = record {
  entry = grind (arith, nat_tests);
  fence = grind (arith, nat_tests);
  map = grind (arith, nat_tests);
  gfence =
      grind (arith, nat_tests);
}

looks_still : (words : ℕ) (way : Way) (at : Progress) (file : InterruptFile) (had has saw : Bool) → has ≡ had
    → (at.steps < plan_step (old_end way) (new_end way) words (Look 0)) ⊎ (plan_step (old_end way) (new_end way) words TakeThreshold ≤ at.steps)
    → (is_leaving (OnWay way at) && had) ≡ (is_leaving (OnWay way at) && saw)
    → (is_leaving (OnWay way (one_further at)) && has) ≡ (is_leaving (OnWay way (one_further at)) && (saw || sees words (OnWay way at) file))
looks_still words (Outward from) at file had has saw same (inl low) h =
    seen_stays words (OnWay (Outward from) at) file had has saw same (unseen-before words from at file low) h
looks_still words (Outward from) at file had has saw same (inr high) h =
    seen_stays words (OnWay (Outward from) at) file had has saw same (unseen-after words from at file high) h
looks_still words (Inward to) at file had has saw same when h = refl
looks_still words (Across from to) at file had has saw same when h = refl

-- a step that carries a word leaves the numbers and the routes
with_old-numbers : (way : Way) (at : Progress) (v : Places) (sets : TwoSets) → SameNumbers v (with_old (OnWay way at) v sets)
with_old-numbers (Outward from) at v sets = record { own_delivery = refl; next_delivery = refl; own_threshold = refl; next_threshold = refl }
with_old-numbers (Inward to) at v sets = record { own_delivery = refl; next_delivery = refl; own_threshold = refl; next_threshold = refl }
with_old-numbers (Across from to) at v sets = record { own_delivery = refl; next_delivery = refl; own_threshold = refl; next_threshold = refl }

with_new-numbers : (way : Way) (at : Progress) (v : Places) (sets : TwoSets) → SameNumbers v (with_new (OnWay way at) v sets)
with_new-numbers (Outward from) at v sets = record { own_delivery = refl; next_delivery = refl; own_threshold = refl; next_threshold = refl }
with_new-numbers (Inward to) at v sets = record { own_delivery = refl; next_delivery = refl; own_threshold = refl; next_threshold = refl }
with_new-numbers (Across from to) at v sets = record { own_delivery = refl; next_delivery = refl; own_threshold = refl; next_threshold = refl }

with_old-routes : (way : Way) (at : Progress) (v : Places) (sets : TwoSets) → SameRoutes v (with_old (OnWay way at) v sets)
with_old-routes (Outward from) at v sets = record { word0 = refl; word1 = refl; in_force = refl; stage = refl; stage_in_force = refl }
with_old-routes (Inward to) at v sets = record { word0 = refl; word1 = refl; in_force = refl; stage = refl; stage_in_force = refl }
with_old-routes (Across from to) at v sets = record { word0 = refl; word1 = refl; in_force = refl; stage = refl; stage_in_force = refl }

with_new-routes : (way : Way) (at : Progress) (v : Places) (sets : TwoSets) → SameRoutes v (with_new (OnWay way at) v sets)
with_new-routes (Outward from) at v sets = record { word0 = refl; word1 = refl; in_force = refl; stage = refl; stage_in_force = refl }
with_new-routes (Inward to) at v sets = record { word0 = refl; word1 = refl; in_force = refl; stage = refl; stage_in_force = refl }
with_new-routes (Across from to) at v sets = record { word0 = refl; word1 = refl; in_force = refl; stage = refl; stage_in_force = refl }

-- ---- each access

module _ (words q hart : ℕ) (reach : Option GuestPlace) (way : Way) (at : Progress) (n : ℕ) (v : Places) (hand now : Hand) (file : InterruptFile)
    (saw : Bool)
    (within : IsWithin n words file) (own : v.own.n ≡ n) (next : v.next.n ≡ n) (fits : FilesFit (OnWay way at)) (low : q < SLOTS)
    (few : hart < HARTS) where
  abbrev there : Home
  there = OnWay way at

  abbrev later : Home
  later = OnWay way (one_further at)

  abbrev first : ℕ
  first = plan_step (old_end way) (new_end way) 0 (TakePending 0)

  abbrev enables : ℕ
  enables = plan_step (old_end way) (new_end way) words (TakeEnables 0)

  at_places : HoldsSets words v there hand.word file → HoldsAt words first enables at.steps hand.word (old_place v there) (new_place v there) file
  at_places s = of_sets words hand.word v there file s

  -- a step before the first word, or after the last, that leaves all sets
  before : (u : Places) → SameSets v u → at.steps < first → HoldsSets words v there hand.word file → HoldsSets words u later now.word file
  before u same l s = sets_still words at v hand.word now.word file way u same s
      (before-holds words first enables at.steps hand.word now.word (old_place v there) (new_place v there) file (omega arith) (at_places s) l)

  after : (u : Places) → SameSets v u → enables + 2 * words ≤ at.steps → HoldsSets words v there hand.word file
      → HoldsSets words u later now.word file
  after u same l s = sets_still words at v hand.word now.word file way u same s
      (after-holds words first enables at.steps hand.word now.word (old_place v there) (new_place v there) file (omega arith) (at_places s) l)

  -- a step whose numbers, routes and looks stay, among those that carry words
  carries : (u : Places) → SameNumbers v u → SameRoutes v u → SameKept hand now → now.seen ≡ hand.seen → first ≤ at.steps
      → at.steps < plan_step (old_end way) (new_end way) words (Look 0)
      → HoldsSets words u later now.word file → Holds words q hart reach v there hand file saw
      → Holds words q hart reach u later now file (saw || sees words there file)
  carries u numbers routes kept seen past below sets h = record {
    sets = sets;
    numbers = numbers_stay words v u there later hand now file (moving-numbers words way at (omega arith) (under below)) numbers kept h.numbers;
    routes = routes_stay q hart reach v u there later (moving-routes way at (late way at (omega arith))) routes h.routes;
    looks = looks_still words way at file hand.seen now.seen saw seen (inl below) h.looks;
  }
    where
      under : at.steps < plan_step (old_end way) (new_end way) words (Look 0) → at.steps < plan_step (old_end way) (new_end way) words TakeThreshold
      under l = omega (arith, l, sets_first (new_end way) words)

  -- the routes at each of the steps that write or fence one
  stage_on : nat_eq at.steps (plan_step (old_end way) (new_end way) 0 Map) ≡ false → stage_names later ≡ stage_names there
  stage_on other = chosen (plan_step (old_end way) (new_end way) 0 Map) at.steps (led_to way) (left way) other

  peers_on : nat_eq at.steps (plan_step (old_end way) (new_end way) 0 GFence) ≡ false → peers_reach later ≡ peers_reach there
  peers_on other = chosen (plan_step (old_end way) (new_end way) 0 GFence) at.steps (led_to way) (left way) other

  entry_on : nat_eq at.steps (plan_step (old_end way) (new_end way) 0 WriteEntry) ≡ false → entry_names later ≡ entry_names there
  entry_on other = chosen (plan_step (old_end way) (new_end way) 0 WriteEntry) at.steps (led_to way) (left way) other

  done_new : (step k : ℕ) → nat_lt step k ≡ true → (if nat_lt step k then led_to way else left way) ≡ led_to way
  done_new step k e = ap (λ b. if b then led_to way else left way) e

  -- a step before the first word that is no take of delivery leaves numbers and looks
  still_numbers : (u : Places) → SameNumbers v u → SameKept hand now → one_at_file (old_end way) ≤ at.steps → at.steps < first
      → HoldsNumbers words v there hand file → HoldsNumbers words u later now file
  still_numbers u same kept some l p = numbers_stay words v u there later hand now file (moving-numbers words way at some (omega arith)) same kept p

  still_looks : now.seen ≡ hand.seen → at.steps < first → Holds words q hart reach v there hand file saw
      → (is_leaving later && now.seen) ≡ (is_leaving later && (saw || sees words there file))
  still_looks seen l h = looks_still words way at file hand.seen now.seen saw seen (inl (omega arith)) h.looks

  pub kept_by : (access : Access) → IsNext words there access → is_at_last words there ≡ false → CarriedAfter access there v hand now
      → Holds words q hart reach v there hand file saw
      → Holds words q hart (reach_after access there reach) (places_after q hart access there v hand) later now file (saw || sees words there file)
  kept_by WriteNotice step more carried h =
      let e : at.steps ≡ one_at_file (old_end way) = step.step in
      record {
        sets = before (places_after q hart WriteNotice there v hand) (record { own = refl; next = refl; slot = refl }) (omega arith) h.sets;
        numbers = still_numbers (places_after q hart WriteNotice there v hand)
            (record { own_delivery = refl; next_delivery = refl; own_threshold = refl; next_threshold = refl }) (rw carried (same_kept hand))
            (omega arith) (omega arith) h.numbers;
        routes = routes_stay q hart reach v (places_after q hart WriteNotice there v hand) there later
            (moving-routes way at (early way at (notice_early way e step.has)))
            (record { word0 = refl; word1 = sym h.routes.word1; in_force = refl; stage = refl; stage_in_force = refl }) h.routes;
        looks = still_looks (ap (λ (h : Hand). h.seen) carried) (omega arith) h;
      }
    where
      notice_early : (way : Way) → at.steps ≡ one_at_file (old_end way) → plan_has (old_end way) (new_end way) words WriteNotice ≡ true
          → at.steps < plan_step (old_end way) (new_end way) 0 WriteEntry
      notice_early (Outward from) e has = omega (arith, e)
      notice_early (Inward to) e has = absurd (cc)
      notice_early (Across from to) e has = absurd (cc)
  kept_by WriteEntry step more carried h =
      let e : at.steps ≡ plan_step (old_end way) (new_end way) 0 WriteEntry = step.step in
      record {
        sets = before (places_after q hart WriteEntry there v hand) (record { own = refl; next = refl; slot = refl }) (omega arith) h.sets;
        numbers = still_numbers (places_after q hart WriteEntry there v hand)
            (record { own_delivery = refl; next_delivery = refl; own_threshold = refl; next_threshold = refl }) (rw carried (same_kept hand))
            (omega arith) (omega arith) h.numbers;
        routes = write_entry-routes q hart reach v there later (led_to way) h.routes
            (done_new (plan_step (old_end way) (new_end way) 0 WriteEntry) (at.steps + 1) (grind (arith, nat_tests)))
            (λ place m. reach_on there place (grind (arith, nat_tests)) m) (stage_on (grind (arith, nat_tests)))
            (peers_on (grind (arith, nat_tests)));
        looks = still_looks (ap (λ (h : Hand). h.seen) carried) (omega arith) h;
      }
  kept_by Fence step more carried h =
      let e : at.steps ≡ plan_step (old_end way) (new_end way) 0 Fence = step.step in
      record {
        sets = before (places_after q hart Fence there v hand) (record { own = refl; next = refl; slot = refl }) (omega arith) h.sets;
        numbers = still_numbers (places_after q hart Fence there v hand)
            (record { own_delivery = refl; next_delivery = refl; own_threshold = refl; next_threshold = refl }) (rw carried (same_kept hand))
            (omega arith) (omega arith) h.numbers;
        routes = fence-routes q hart reach v there later (led_to way) h.routes
            (done_new (plan_step (old_end way) (new_end way) 0 WriteEntry) at.steps (grind (arith, nat_tests)))
            (done_new (plan_step (old_end way) (new_end way) 0 WriteEntry) (at.steps + 1) (grind (arith, nat_tests)))
            (reach_fenced there (grind (arith, nat_tests))) (stage_on (grind (arith, nat_tests))) (peers_on (grind (arith, nat_tests))) low few
            (new_fits way at fits);
        looks = still_looks (ap (λ (h : Hand). h.seen) carried) (omega arith) h;
      }
  kept_by Map step more carried h =
      let e : at.steps ≡ plan_step (old_end way) (new_end way) 0 Map = step.step in
      record {
        sets = before (places_after q hart Map there v hand) (record { own = refl; next = refl; slot = refl }) (omega arith) h.sets;
        numbers = still_numbers (places_after q hart Map there v hand)
            (record { own_delivery = refl; next_delivery = refl; own_threshold = refl; next_threshold = refl }) (rw carried (same_kept hand))
            (omega arith) (omega arith) h.numbers;
        routes = map-routes q hart reach v there later (led_to way) h.routes (entry_on (grind (arith, nat_tests)))
            (λ place m. reach_on there place (grind (arith, nat_tests)) m)
            (done_new (plan_step (old_end way) (new_end way) 0 Map) (at.steps + 1) (grind (arith, nat_tests))) (peers_on (grind (arith, nat_tests)));
        looks = still_looks (ap (λ (h : Hand). h.seen) carried) (omega arith) h;
      }
  kept_by GFence step more carried h =
      let e : at.steps ≡ plan_step (old_end way) (new_end way) 0 GFence = step.step in
      record {
        sets = before (places_after q hart GFence there v hand) (record { own = refl; next = refl; slot = refl }) (omega arith) h.sets;
        numbers = still_numbers (places_after q hart GFence there v hand)
            (record { own_delivery = refl; next_delivery = refl; own_threshold = refl; next_threshold = refl }) (rw carried (same_kept hand))
            (omega arith) (omega arith) h.numbers;
        routes = gfence-routes q hart reach v there later (led_to way) h.routes (entry_on (grind (arith, nat_tests)))
            (λ place m. reach_on there place (grind (arith, nat_tests)) m)
            (done_new (plan_step (old_end way) (new_end way) 0 Map) at.steps (grind (arith, nat_tests)))
            (done_new (plan_step (old_end way) (new_end way) 0 Map) (at.steps + 1) (grind (arith, nat_tests)))
            (done_new (plan_step (old_end way) (new_end way) 0 GFence) (at.steps + 1) (grind (arith, nat_tests)));
        looks = still_looks (ap (λ (h : Hand). h.seen) carried) (omega arith) h;
      }
  kept_by (TakePending w) step more carried h =
      let few_words : w < words = ltb-true _ _ step.has in
      let e : at.steps ≡ first + 2 * w = omega (arith, step.step) in
      let sets = record (old_place v there) { pending = without_word w (old_place v there).pending } in
      carries (with_old there v sets) (with_old-numbers way at v sets) (with_old-routes way at v sets) (other_word hand now carried.1)
      (ap (λ (h : Hand). h.seen) carried.1) (omega arith) (omega arith)
      (old_set words at v hand.word now.word file way sets (λ i l. (λ e. and_right _ _ e, λ e. e)) h.sets
      (take_pending-holds words first enables at.steps hand.word now.word (old_place v there) (new_place v there) file (omega arith)
      (at_places h.sets) w few_words e carried.0)) h
  kept_by (PutPending w) step more carried h =
      let few_words : w < words = ltb-true _ _ step.has in
      let e : at.steps ≡ first + 1 + 2 * w = omega (arith, step.step) in
      let sets = record (new_place v there) { pending = joined_by w hand.word (new_place v there).pending } in
      carries (with_new there v sets) (with_new-numbers way at v sets) (with_new-routes way at v sets) (rw carried (same_kept hand))
      (ap (λ (h : Hand). h.seen) carried) (omega arith) (omega arith)
      (new_set words at v hand.word now.word file way sets (λ i l. (λ e. elsewhere i w words few_words l _ _ ∙ e, λ e. e)) h.sets
      (put_pending-holds words first enables at.steps hand.word now.word (old_place v there) (new_place v there) file (omega arith)
      (at_places h.sets) w few_words e)) h
  kept_by (TakeEnables w) step more carried h =
      let few_words : w < words = ltb-true _ _ step.has in
      let e : at.steps ≡ enables + 2 * w = omega (arith, step.step) in
      let sets = record (old_place v there) { enabled = without_word w (old_place v there).enabled } in
      carries (with_old there v sets) (with_old-numbers way at v sets) (with_old-routes way at v sets) (other_word hand now carried.1)
      (ap (λ (h : Hand). h.seen) carried.1) (omega arith) (omega arith)
      (old_set words at v hand.word now.word file way sets (λ i l. (λ e. e, λ e. and_right _ _ e)) h.sets
      (take_enables-holds words first enables at.steps hand.word now.word (old_place v there) (new_place v there) file (omega arith)
      (at_places h.sets) w few_words e carried.0)) h
  kept_by (PutEnables w) step more carried h =
      let few_words : w < words = ltb-true _ _ step.has in
      let e : at.steps ≡ enables + 1 + 2 * w = omega (arith, step.step) in
      let sets = record (new_place v there) { enabled = replaced_by w hand.word (new_place v there).enabled } in
      carries (with_new there v sets) (with_new-numbers way at v sets) (with_new-routes way at v sets) (rw carried (same_kept hand))
      (ap (λ (h : Hand). h.seen) carried) (omega arith) (omega arith)
      (new_set words at v hand.word now.word file way sets (λ i l. (λ e. e, λ e. elsewhere i w words few_words l _ _ ∙ e)) h.sets
      (put_enables-holds words first enables at.steps hand.word now.word (old_place v there) (new_place v there) file (omega arith)
      (at_places h.sets) w few_words e)) h
  kept_by TakeDelivery step more carried h =
      record {
        sets = before (places_after q hart TakeDelivery there v hand) (record { own = refl; next = refl; slot = refl })
            (omega (arith, step.step)) h.sets;
        numbers = taken way step.has step.step h.numbers carried;
        routes = routes_stay q hart reach v (places_after q hart TakeDelivery there v hand) there later
            (moving-routes way at (early way at (first_early way step.has step.step)))
            (record { word0 = refl; word1 = refl; in_force = refl; stage = refl; stage_in_force = refl }) h.routes;
        looks = still_looks (ap (λ (h : Hand). h.seen) carried) (omega (arith, step.step)) h;
      }
    where
      first_early : (way : Way) → plan_has (old_end way) (new_end way) words TakeDelivery ≡ true → at.steps ≡ 0
          → at.steps < plan_step (old_end way) (new_end way) 0 WriteEntry
      first_early (Outward from) has e = omega (arith, e)
      first_early (Inward to) has e = absurd (cc)
      first_early (Across from to) has e = omega (arith, e)

      taken : (way : Way) → plan_has (old_end way) (new_end way) words TakeDelivery ≡ true → at.steps ≡ 0
          → HoldsNumbers words v (OnWay way at) hand file → now ≡ record hand { delivery = v.own.delivery }
          → HoldsNumbers words (record v { own = accessed Delivery (ops.Write 0) v.own }) (OnWay way (one_further at)) now file
      taken (Outward from) has e p c = take_delivery-numbers words v (OnWay (Outward from) at) (OnWay (Outward from) (one_further at)) hand now
          file p (rw e refl) (rw e refl) (grind (arith, nat_tests)) (grind (arith, nat_tests)) refl refl c
      taken (Inward to) has e p c = absurd (cc)
      taken (Across from to) has e p c = take_delivery-numbers words v (OnWay (Across from to) at) (OnWay (Across from to) (one_further at)) hand
          now file p (rw e refl) (rw e refl) (grind (arith, nat_tests)) (grind (arith, nat_tests)) (grind (arith, nat_tests))
          (grind (arith, nat_tests)) c
  kept_by (Look w) step more carried h =
      record {
        sets = after v (record { own = refl; next = refl; slot = refl }) (omega (arith, step.step)) h.sets;
        numbers = numbers_stay words v v there later hand now file
            (moving-numbers words way at (omega (arith, step.step)) (below way step.has step.step))
            (record { own_delivery = refl; next_delivery = refl; own_threshold = refl; next_threshold = refl })
            (record { delivery = ap (λ (h : Hand). h.delivery) carried.4; threshold = ap (λ (h : Hand). h.threshold) carried.4 }) h.numbers;
        routes = routes_stay q hart reach v v there later (moving-routes way at (late way at (omega (arith, step.step))))
            (record { word0 = refl; word1 = refl; in_force = refl; stage = refl; stage_in_force = refl }) h.routes;
        looks = looked way step.has step.step carried h;
      }
    where
      below : (way : Way) → plan_has (old_end way) (new_end way) words (Look w) ≡ true
          → at.steps ≡ plan_step (old_end way) (new_end way) words (Look w) → at.steps < plan_step (old_end way) (new_end way) words TakeThreshold
      below (Outward from) has e = let l : w < words = ltb-true _ _ has in omega (arith, l, e)
      below (Inward to) has e = absurd (cc)
      below (Across from to) has e = absurd (cc)

      looked : (way : Way) → plan_has (old_end way) (new_end way) words (Look w) ≡ true
          → at.steps ≡ plan_step (old_end way) (new_end way) words (Look w) → CarriedAfter (Look w) (OnWay way at) v hand now
          → Holds words q hart reach v (OnWay way at) hand file saw
          → (is_leaving (OnWay way (one_further at)) && now.seen)
          ≡ (is_leaving (OnWay way (one_further at)) && (saw || sees words (OnWay way at) file))
      looked (Outward from) has e c h =
          let sees : meets c.0 c.1 ≡ sees words (OnWay (Outward from) at) file =
          look_meets words w hand.word c.0 c.1 from at (of_file v.own) (of_slot v.slot) file
          (of_sets words hand.word v (OnWay (Outward from) at) file h.sets) e (ltb-true _ _ has) c.2 c.3 in
          ap (λ (h : Hand). h.seen) c.4 ∙ ap (λ b. b || meets c.0 c.1) h.looks ∙ ap (λ b. saw || b) sees
      looked (Inward to) has e c h = refl
      looked (Across from to) has e c h = refl
  kept_by TakeThreshold step more carried h =
      let e : at.steps ≡ plan_step (old_end way) (new_end way) words TakeThreshold = step.step in
      let enough = sets_first (new_end way) words in
      record {
        sets = after (places_after q hart TakeThreshold there v hand) (record { own = refl; next = refl; slot = refl })
            (omega (arith, e, enough)) h.sets;
        numbers = taken way step.has e h.numbers carried;
        routes = routes_stay q hart reach v (places_after q hart TakeThreshold there v hand) there later
            (moving-routes way at (late way at (omega (arith, e))))
            (record { word0 = refl; word1 = refl; in_force = refl; stage = refl; stage_in_force = refl }) h.routes;
        looks = looks_still words way at file hand.seen now.seen saw (ap (λ (h : Hand). h.seen) carried) (inr (omega (arith, e))) h.looks;
      }
    where
      taken : (way : Way) → plan_has (old_end way) (new_end way) words TakeThreshold ≡ true
          → at.steps ≡ plan_step (old_end way) (new_end way) words TakeThreshold → HoldsNumbers words v (OnWay way at) hand file
          → now ≡ record hand { threshold = v.own.threshold }
          → HoldsNumbers words (record v { own = accessed Threshold (ops.Write 0) v.own }) (OnWay way (one_further at)) now file
      taken (Outward from) has e p c = take_threshold-numbers words v (OnWay (Outward from) at) (OnWay (Outward from) (one_further at)) hand now
          file p (grind (arith, nat_tests)) (grind (arith, nat_tests)) (grind (arith, nat_tests)) (grind (arith, nat_tests)) refl refl c
      taken (Inward to) has e p c = absurd (cc)
      taken (Across from to) has e p c = take_threshold-numbers words v (OnWay (Across from to) at) (OnWay (Across from to) (one_further at)) hand
          now file p (grind (arith, nat_tests)) (grind (arith, nat_tests)) (grind (arith, nat_tests)) (grind (arith, nat_tests))
          (grind (arith, nat_tests)) (grind (arith, nat_tests)) c
  kept_by PutThreshold step more carried h =
      let e : at.steps ≡ plan_step (old_end way) (new_end way) words PutThreshold = step.step in
      let enough = sets_first (new_end way) words in
      record {
        sets = after (places_after q hart PutThreshold there v hand) (same_sets way) (omega (arith, e, enough)) h.sets;
        numbers = put way step.has e h.numbers (ap (λ (h : Hand). h.delivery) carried);
        routes = routes_stay q hart reach v (places_after q hart PutThreshold there v hand) there later
            (moving-routes way at (late way at (omega (arith, e)))) (same_routes way) h.routes;
        looks = looks_still words way at file hand.seen now.seen saw (ap (λ (h : Hand). h.seen) carried) (inr (omega (arith, e))) h.looks;
      }
    where
      same_sets : (way : Way) → SameSets v (places_after q hart PutThreshold (OnWay way at) v hand)
      same_sets (Outward from) = record { own = refl; next = refl; slot = refl }
      same_sets (Inward to) = record { own = refl; next = refl; slot = refl }
      same_sets (Across from to) = record { own = refl; next = refl; slot = refl }

      same_routes : (way : Way) → SameRoutes v (places_after q hart PutThreshold (OnWay way at) v hand)
      same_routes (Outward from) = record { word0 = refl; word1 = refl; in_force = refl; stage = refl; stage_in_force = refl }
      same_routes (Inward to) = record { word0 = refl; word1 = refl; in_force = refl; stage = refl; stage_in_force = refl }
      same_routes (Across from to) = record { word0 = refl; word1 = refl; in_force = refl; stage = refl; stage_in_force = refl }

      put : (way : Way) → plan_has (old_end way) (new_end way) words PutThreshold ≡ true
          → at.steps ≡ plan_step (old_end way) (new_end way) words PutThreshold → HoldsNumbers words v (OnWay way at) hand file
          → now.delivery ≡ hand.delivery
          → HoldsNumbers words (places_after q hart PutThreshold (OnWay way at) v hand) (OnWay way (one_further at)) now file
      put (Outward from) has e p c = absurd (cc)
      put (Inward to) has e p c = put_own_threshold-numbers words v (OnWay (Inward to) at) (OnWay (Inward to) (one_further at)) hand now file p n
          within own refl refl (grind (arith, nat_tests)) (grind (arith, nat_tests)) refl refl c
      put (Across from to) has e p c = put_next_threshold-numbers words v (OnWay (Across from to) at) (OnWay (Across from to) (one_further at))
          hand now file p n within next (grind (arith, nat_tests)) (grind (arith, nat_tests)) (grind (arith, nat_tests))
          (grind (arith, nat_tests)) (grind (arith, nat_tests)) (grind (arith, nat_tests)) c
  -- the last access of a move
  kept_by Post step more carried h = absurd (false≢true (sym more ∙ last way step.has step.step))
    where
      last : (way : Way) → plan_has (old_end way) (new_end way) words Post ≡ true → at.steps ≡ plan_step (old_end way) (new_end way) words Post
          → is_at_last words (OnWay way at) ≡ true
      last (Outward from) has e = grind (arith, nat_tests)
      last (Inward to) has e = absurd (cc)
      last (Across from to) has e = absurd (cc)
  kept_by PutDelivery step more carried h = absurd (false≢true (sym more ∙ last way step.has step.step))
    where
      last : (way : Way) → plan_has (old_end way) (new_end way) words PutDelivery ≡ true
          → at.steps ≡ plan_step (old_end way) (new_end way) words PutDelivery → is_at_last words (OnWay way at) ≡ true
      last (Outward from) has e = absurd (cc)
      last (Inward to) has e = grind (arith, nat_tests)
      last (Across from to) has e = grind (arith, nat_tests)
