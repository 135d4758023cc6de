-- A store lands where a route leads, in one of the files or in the slot: the places hold the file
-- with the request; and the host is to be told as the definitions say.
use Rattle.std.proofs.Common.{◌≡◌, ◌≢◌, ℕ, ◌/◌, ◌<◌, ◌≤◌, Bool, true, false, ◌||◌, cond, if◌then◌else◌, Option, Some, None, refl, sym, ap, subst, ◌∙◌, inl, inr, arith}
use Rattle.std.specs.Int.{is_in_range}
use Rattle.std.proofs.lemmas.Bool.{cases_eq, ltb-true, ltb-false}
use Rattle.std.proofs.lemmas.Bool.Decides.{nat_tests}
use Rattle.aia_regs.specs.BitUpdate.{settle, names}
use Rattle.aia_regs.specs.BitUpdate.BitUpdate.{Ask, Nothing}
use Rattle.aia_regs.specs.Request.{number_written, implemented, requested}
use Rattle.aia_file.specs.InterruptFile.{InterruptFile, landed}
use Rattle.aia_file.specs.Mrif.{after_store}
use Rattle.aia_vcpu.specs.declared.access.Access.TheVariants.{TakePending, TakeEnables}
use Rattle.aia_vcpu.specs.Plans.{plan_step, step_of, steps_done, first_take}
use Rattle.aia_vcpu.specs.declared.place.GuestPlace.{GuestPlace}
use Rattle.aia_vcpu.proofs.HomeLemmas.{is_itself_place, left_is_own}
use Rattle.aia_vcpu.specs.Home.{Way, left, led_to, old_end, new_end, Home, Progress, is_place}
use Rattle.aia_vcpu.specs.declared.rest.Rest.{Rest}
use Rattle.aia_vcpu.specs.Home.Home.{InMemory, Resident, OnWay}
use Rattle.aia_vcpu.specs.Home.Way.{Outward, Inward, Across}
use Rattle.aia_vcpu.specs.Routes.{entry_names, peers_reach, MayReach, MayLand, is_written}
use Rattle.aia_vcpu.proofs.RouteLemmas.{names_reach, reach_lands, peers_may}
use Rattle.aia_entry.specs.Format.{decoded}
use Rattle.aia_vcpu_places.proofs.EntryLemmas.{entry_back, new_fits}
use Rattle.aia_vcpu_places.specs.Places.{Places, TwoSets, old_place, new_place, entry_word, IsInMap, FilesFit}
use Rattle.aia_vcpu_places.specs.Holds.{IsWithin, Hand, Holds}
use Rattle.aia_vcpu_places.specs.Stores.{places_landed, HasApart, AreApart}
use Rattle.aia_vcpu_places.proofs.SetSteps.{HoldsAt, lands_in_old-holds, lands_in_new-holds}
use Rattle.aia_vcpu_places.proofs.StayLemmas.{IsSpare, IsFresh, IsPast, of_sets, to_sets, is_fresh}
use Rattle.aia_regs.specs.declared.limits.TheConstants.{HARTS, IDENTITIES, SLOTS, FILE_WORDS}
use Rattle.aia_word.proofs.SetLemmas.{both_ways}
use Rattle.aia_regs.proofs.RequestLemmas.{asked_or}

-- ---- what a store asks for

in_both : (x i n : ℕ) → n ≤ IDENTITIES → i ≤ n → x ≡ i → is_in_range 1 IDENTITIES x ≡ is_in_range 1 n x
in_both x i n few low e = both_ways _ _ (λ t. grind (arith, nat_tests)) (λ t. grind (arith, nat_tests))

not_named : (b : Bool) (x i : ℕ) → x ≢ i → names (cond b (Some x) None) i ≡ false
not_named true x i ne = grind (arith, nat_tests)
not_named false x i ne = refl

-- more identities, and the same up to n
same_names : (o : Option ℕ) (n i : ℕ) → n ≤ IDENTITIES → i ≤ n → names (implemented IDENTITIES o) i ≡ names (implemented n o) i
same_names None n i few low = refl
same_names (Some x) n i few low = elim (cases_eq x i) [
  | inl e ↦ let same : is_in_range 1 IDENTITIES x ≡ is_in_range 1 n x = in_both x i n few low e in ap (λ b. names (cond b (Some x) None) i) same
  | inr ne ↦ not_named (is_in_range 1 IDENTITIES x) x i ne ∙ sym (not_named (is_in_range 1 n x) x i ne)
]

-- none past n
past_names : (o : Option ℕ) (n i : ℕ) → n < i → names (implemented n o) i ≡ false
past_names None n i high = refl
past_names (Some x) n i high = elim (cases_eq x i) [
  | inl e ↦ let out : is_in_range 1 n x ≡ false = grind (arith, nat_tests) in ap (λ b. names (cond b (Some x) None) i) out
  | inr ne ↦ not_named (is_in_range 1 n x) x i ne
]

-- ---- where it lands

module _ (n words q hart offset value : ℕ) (reach : Option GuestPlace) (v : Places) (hand : Hand) (file : InterruptFile) (saw : Bool)
    (within : IsWithin n words file) (few : words ≤ FILE_WORDS) where
  -- what it asks for, of this file
  abbrev wanted : ℕ → Bool
  wanted i = names (requested file.n offset value) i

  in_file : (i : ℕ) → i / 64 < words → (landed offset value file).pending i ≡ (wanted i || file.pending i)
  in_file i l = asked_or (wanted i) (file.pending i)

  in_own : v.own.n ≡ n → (i : ℕ) → i / 64 < words → (landed offset value v.own).pending i ≡ (wanted i || v.own.pending i)
  in_own size i l = asked_or (names (requested v.own.n offset value) i) (v.own.pending i)
      ∙ ap (λ m. names (requested m offset value) i || v.own.pending i) (size ∙ sym within.greatest)

  in_next : v.next.n ≡ n → (i : ℕ) → i / 64 < words → (landed offset value v.next).pending i ≡ (wanted i || v.next.pending i)
  in_next size i l = asked_or (names (requested v.next.n offset value) i) (v.next.pending i)
      ∙ ap (λ m. names (requested m offset value) i || v.next.pending i) (size ∙ sym within.greatest)

  in_slot : (i : ℕ) → i / 64 < words → (after_store offset value v.slot).pending i ≡ (wanted i || v.slot.pending i)
  in_slot i l = asked_or (names (requested IDENTITIES offset value) i) (v.slot.pending i) ∙ ap (λ b. b || v.slot.pending i)
      (same_names (number_written offset value) n i (omega (arith, within.all_words)) (omega (arith, within.all_words))
      ∙ ap (λ m. names (requested m offset value) i) (sym within.greatest))

  out_of : (size : ℕ) (set : ℕ → Bool) (i : ℕ) → size ≡ n → words ≤ i / 64 → set i ≡ false
      → settle (cond (names (requested size offset value) i) Ask Nothing) (set i) ≡ false
  out_of size set i same past none =
      asked_or (names (requested size offset value) i) (set i) ∙ ap (λ m. names (requested m offset value) i || set i) same
      ∙ ap (λ b. b || set i) (past_names (number_written offset value) n i (omega (arith, within.all_words))) ∙ none

  -- the places as it leaves them
  abbrev in_own_file : Places
  in_own_file = record v { own = landed offset value v.own }

  abbrev in_next_file : Places
  in_next_file = record v { next = landed offset value v.next }

  abbrev in_memory : Places
  in_memory = record v { slot = after_store offset value v.slot }

  abbrev Lands : Home → Places → Type 0
  Lands there u = Holds words q hart reach v there hand file saw → Holds words q hart reach u there hand (landed offset value file) saw

  abbrev AsSets : Home → TwoSets → TwoSets → Type 0
  AsSets there old new = HoldsAt words (first_take there) (step_of words there (TakeEnables 0)) (steps_done there) hand.word old new
      (landed offset value file)

  same_rest : (there : Home) (u : Places) → AsSets there (old_place u there) (new_place u there) → IsFresh words u there → IsSpare words u there
      → IsPast words u → u.own.delivery ≡ v.own.delivery → u.own.threshold ≡ v.own.threshold → u.next.delivery ≡ v.next.delivery
      → u.next.threshold ≡ v.next.threshold
      → u.word0 ≡ v.word0 → u.word1 ≡ v.word1 → u.in_force ≡ v.in_force → u.stage ≡ v.stage → u.stage_in_force ≡ v.stage_in_force → Lands there u
  same_rest there u sets fresh spare past od ot nd nt w0 w1 f s sf h = record {
    sets = to_sets words hand.word u there (landed offset value file) sets fresh spare past;
    numbers = record {
      own_delivery = od ∙ h.numbers.own_delivery;
      next_delivery = nd ∙ h.numbers.next_delivery;
      kept_delivery = h.numbers.kept_delivery;
      own_threshold = ot ∙ h.numbers.own_threshold;
      next_threshold = nt ∙ h.numbers.next_threshold;
      kept_threshold = h.numbers.kept_threshold;
    };
    routes = record {
      word0 = w0 ∙ h.routes.word0;
      word1 = w1 ∙ h.routes.word1;
      in_force = f ∙ h.routes.in_force;
      may = h.routes.may;
      stage = s
          ∙ h.routes.stage;
      stage_in_force = sf ∙ h.routes.stage_in_force;
    };
    looks = h.looks;
  }

  own-lands : (there : Home) → v.own.n ≡ n → AsSets there (old_place in_own_file there) (new_place in_own_file there)
      → IsFresh words in_own_file there → IsSpare words in_own_file there → Lands there in_own_file
  own-lands there size sets fresh spare h = same_rest there in_own_file sets fresh spare
      (λ i l. let p = h.sets.past i l in (out_of v.own.n v.own.pending i size l p.0, p.1, p.2, p.3, p.4)) refl refl refl refl refl refl
      refl refl refl h

  next-lands : (there : Home) → v.next.n ≡ n → AsSets there (old_place in_next_file there) (new_place in_next_file there)
      → IsFresh words in_next_file there → IsSpare words in_next_file there → Lands there in_next_file
  next-lands there size sets fresh spare h = same_rest there in_next_file sets fresh spare
      (λ i l. let p = h.sets.past i l in (p.0, p.1, out_of v.next.n v.next.pending i size l p.2, p.3, p.4)) refl refl refl refl refl refl
      refl refl refl h

  memory-lands : (there : Home) → AsSets there (old_place in_memory there) (new_place in_memory there) → IsFresh words in_memory there
      → IsSpare words in_memory there → Lands there in_memory
  memory-lands there sets fresh spare h = same_rest there in_memory sets fresh spare h.sets.past refl refl refl refl refl refl refl refl refl h

  -- it lands in the old place, of which nothing was taken, or in the new place
  module _ (there : Home) (h : Holds words q hart reach v there hand file saw) (after : ℕ → Bool) where
    in_old : steps_done there ≤ first_take there → ((i : ℕ) → i / 64 < words → after i ≡ (wanted i || (old_place v there).pending i))
        → AsSets there (record (old_place v there) { pending = after }) (new_place v there)
    in_old early asks = lands_in_old-holds words (first_take there) (step_of words there (TakeEnables 0)) (steps_done there) hand.word
        (old_place v there) (new_place v there) file (of_sets words hand.word v there file h.sets) wanted after (landed offset value file).pending
        in_file early asks

    in_new : ((i : ℕ) → i / 64 < words → after i ≡ (wanted i || (new_place v there).pending i))
        → AsSets there (old_place v there) (record (new_place v there) { pending = after })
    in_new asks = lands_in_new-holds words (first_take there) (step_of words there (TakeEnables 0)) (steps_done there) hand.word
        (old_place v there) (new_place v there) file (of_sets words hand.word v there file h.sets) wanted after (landed offset value file).pending
        in_file asks

  abbrev Kept : Option GuestPlace → Home → Type 0
  Kept place there = Lands there (places_landed place there offset value v)

  parked-lands : (rest : Rest) → Kept None (InMemory rest)
  parked-lands rest h = memory-lands (InMemory rest) (in_old (InMemory rest) h in_memory.slot.pending (omega arith) in_slot) (λ z i l. refl)
      (λ i l. (refl, refl)) h

  resident-lands : (p : GuestPlace) → v.own.n ≡ n → Kept (Some p) (Resident p)
  resident-lands p size h = own-lands (Resident p) size (in_old (Resident p) h in_own_file.own.pending (omega arith) (in_own size))
      (λ z i l. refl) h.sets.spare h

  old-lands : (way : Way) (at : Progress) → v.own.n ≡ n → HasApart way → at.steps ≤ plan_step (old_end way) (new_end way) 0 (TakePending 0)
      → Kept (left way) (OnWay way at)
  old-lands (Outward from) at size apart early h = let there = OnWay (Outward from) at in
      own-lands there size (in_old there h in_own_file.own.pending early (in_own size)) (is_fresh words hand.word v there file h.sets) h.sets.spare h
  old-lands (Inward to) at size apart early h = let there = OnWay (Inward to) at in
      memory-lands there (in_old there h in_memory.slot.pending early in_slot) (is_fresh words hand.word v there file h.sets) h.sets.spare h
  old-lands (Across from to) at size apart early h = let there = OnWay (Across from to) at in
      rw apart (own-lands there size (in_old there h in_own_file.own.pending early (in_own size)) (is_fresh words hand.word v there file h.sets)
      h.sets.spare h)

  new-lands : (way : Way) (at : Progress) → v.own.n ≡ n → v.next.n ≡ n → 0 < at.steps → Kept (led_to way) (OnWay way at)
  new-lands (Outward from) at size next_size some h = let there = OnWay (Outward from) at in
      memory-lands there (in_new there h in_memory.slot.pending in_slot) (λ z i l. absurd (omega arith)) h.sets.spare h
  new-lands (Inward to) at size next_size some h = let there = OnWay (Inward to) at in
      own-lands there size (in_new there h in_own_file.own.pending (in_own size)) (λ z i l. absurd (omega arith)) h.sets.spare h
  new-lands (Across from to) at size next_size some h = let there = OnWay (Across from to) at in
      rw (is_itself_place to) (next-lands there next_size (in_new there h in_next_file.next.pending (in_next next_size))
      (λ z i l. absurd (omega arith)) h.sets.spare h)

  -- wherever a store may land
  pub lands : (there : Home) → v.own.n ≡ n → v.next.n ≡ n → AreApart there → (place : Option GuestPlace) → MayLand words there place
      → Kept place there
  lands (InMemory rest) size next_size apart place (inl p) = subst (λ o. Kept o (InMemory rest)) (sym p.0) (parked-lands rest)
  lands (InMemory rest) size next_size apart place (inr p) = absurd (cc)
  lands (Resident in_file) size next_size apart place (inl p) = subst (λ o. Kept o (Resident in_file)) (sym p.0) (resident-lands in_file size)
  lands (Resident in_file) size next_size apart place (inr p) = absurd (cc)
  lands (OnWay way at) size next_size apart place (inl p) =
      subst (λ o. Kept o (OnWay way at)) (sym p.0) (old-lands way at size apart (ltb-false _ _ p.1))
  lands (OnWay way at) size next_size apart place (inr p) =
      subst (λ o. Kept o (OnWay way at)) (sym p.0) (new-lands way at size next_size (ltb-true _ _ p.1))

  -- a device's, one in flight, and that of a peer
  pub device_lands : (there : Home) → v.own.n ≡ n → v.next.n ≡ n → AreApart there → Kept reach there
  device_lands there size next_size apart h = lands there size next_size apart reach (reach_lands words there reach h.routes.may) h

  pub flying_lands : (there : Home) → v.own.n ≡ n → v.next.n ≡ n → AreApart there → (place : Option GuestPlace) → MayReach there place
      → Kept place there
  flying_lands there size next_size apart place may = lands there size next_size apart place (reach_lands words there place may)

  pub peer_lands : (there : Home) → v.own.n ≡ n → v.next.n ≡ n → AreApart there → Kept (peers_reach there) there
  peer_lands there size next_size apart = lands there size next_size apart (peers_reach there) (peers_may words there)

-- an entry is fetched before its fence
pub refetch_kept : (words q hart : ℕ) (reach : Option GuestPlace) (v : Places) (there : Home) (hand : Hand) (file : InterruptFile) (saw : Bool)
    → FilesFit there → q < SLOTS → hart < HARTS
    → Holds words q hart reach v there hand file saw
    → Holds words q hart (entry_names there) (record v { in_force = decoded v.word0 v.word1 }) there hand file saw
refetch_kept words q hart reach v there hand file saw fits low few h = record {
  sets = to_sets words hand.word (record v { in_force = decoded v.word0 v.word1 }) there file (of_sets words hand.word v there file h.sets)
      (is_fresh words hand.word v there file h.sets) h.sets.spare h.sets.past;
  numbers = record {
    own_delivery = h.numbers.own_delivery;
    next_delivery = h.numbers.next_delivery;
    kept_delivery = h.numbers.kept_delivery;
    own_threshold = h.numbers.own_threshold;
    next_threshold = h.numbers.next_threshold;
    kept_threshold = h.numbers.kept_threshold;
  };
  routes = record {
    word0 = h.routes.word0;
    word1 = h.routes.word1;
    in_force = ap (λ w. decoded w v.word1) h.routes.word0 ∙ ap (λ w. decoded (entry_word q (entry_names there)) w) h.routes.word1
        ∙ entry_back q hart (entry_names there) low few (names_fit there fits);
    may = names_reach there;
    stage = h.routes.stage;
    stage_in_force = h.routes.stage_in_force;
  };
  looks = h.looks;
}
  where
    chosen_fits : (b : Bool) (x y : Option GuestPlace) → ((p : GuestPlace) → x ≡ Some p → IsInMap p) → ((p : GuestPlace) → y ≡ Some p → IsInMap p)
        → (p : GuestPlace) → (if b then x else y) ≡ Some p → IsInMap p
    chosen_fits true x y f g = f
    chosen_fits false x y f g = g

    names_fit : (there : Home) → FilesFit there → (p : GuestPlace) → entry_names there ≡ Some p → IsInMap p
    names_fit (Resident r) fits p e = fits.own p e
    names_fit (OnWay way at) fits p e = chosen_fits (is_written (OnWay way at)) (led_to way) (left way) (new_fits way at fits)
        (λ f z. fits.own f (left_is_own way f z)) p e
    names_fit there fits p e = absurd (cc)

-- the files keep their sizes
pub places_landed-sizes : (n offset value : ℕ) (reach : Option GuestPlace) (there : Home) (v : Places) → v.own.n ≡ n → v.next.n ≡ n
    → ((places_landed reach there offset value v).own.n ≡ n) × ((places_landed reach there offset value v).next.n ≡ n)
places_landed-sizes n offset value None there v own next = (own, next)
places_landed-sizes n offset value (Some p) (OnWay (Across from to) at) v own next = either (is_place p to)
  where
    either : (b : Bool) → ((cond b (record v { next = landed offset value v.next }) (record v { own = landed offset value v.own })).own.n ≡ n)
        × ((cond b (record v { next = landed offset value v.next }) (record v { own = landed offset value v.own })).next.n ≡ n)
    either true = (own, next)
    either false = (own, next)
places_landed-sizes n offset value (Some p) there v own next = (own, next)
