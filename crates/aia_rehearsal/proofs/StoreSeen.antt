-- What a store makes of the places of a rehearsal: it adds its identity where it leads, and changes
-- nothing else of what the rehearsal shows.
use Rattle.std.proofs.Common.{◌≡◌, ◌≢◌, ℕ, ◌+◌, ◌*◌, ◌/◌, ◌<◌, ◌≤◌, Bool, true, false, ◌&&◌, ◌||◌, cond, nat_eq, inl, inr, get_or, Option, Some, None, refl, sym, ap, ◌∙◌, subst, arith}
use Rattle.std.specs.Prelude.{unwrap_or}
use Rattle.std.proofs.lemmas.Bool.{cases_Bool, eqb-true, eq-eqb}
use Rattle.std.proofs.lemmas.Bool.Decides.{nat_tests}
use Rattle.std.specs.Int.{is_in_range}
use Rattle.aia_regs.specs.declared.limits.TheConstants.{VCPUS, IDENTITIES}
use Rattle.aia_regs.specs.BitUpdate.{names, settle}
use Rattle.aia_regs.specs.BitUpdate.BitUpdate.{Ask, Nothing}
use Rattle.aia_regs.specs.Request.{number_written, implemented, requested, request_said}
use Rattle.aia_file.specs.InterruptFile.{is_greatest_identity}
use Rattle.aia_file.specs.FileState.{shown}
use Rattle.aia_file.specs.declared.spot.Spot.{Spot}
use Rattle.aia_file.specs.declared.spot.Spot.TheVariants.{MachineFile, SupervisorFile, GuestFile, Nowhere}
use Rattle.aia_file.specs.Imsic.{ImsicState, IsThere, file_at}
use Rattle.aia_file.proofs.PlaceLemmas.{kept_elsewhere}
use Rattle.aia_file.specs.declared.stored.Stored.{Stored}
use Rattle.aia_file.specs.declared.stored.Stored.TheVariants.{Discarded, Quiet, Notice}
use Rattle.aia_file.specs.Mrif.{mrif_in, stored}
use Rattle.aia_entry.specs.Tables.{table_of, entry_in_force}
use Rattle.aia_vcpu.specs.declared.place.GuestPlace.{GuestPlace}
use Rattle.aia_vcpu.proofs.HomeLemmas.{same_place}
use Rattle.aia_vcpu_places.specs.Places.{TwoSets, of_file, of_slot}
use Rattle.aia_fabric_values.specs.World.{World, OnlyStores, stage_of}
use Rattle.aia_fabric_values.specs.Whole.{IsWhole}
use Rattle.aia_fabric_values.specs.Making.{entry_word_place}
use Rattle.aia_fabric_values.specs.Stores.{StoresIn, StoresInGuestFile, Posts, NoticedAt, NoticedBy, StoresInSlot, with_store}
use Rattle.aia_fabric_values.specs.Changes.{spot_of, with_state}
use Rattle.aia_fabric_values.proofs.FrameLemmas.{none_rest, stores_rest, slot_rest}
use Rattle.aia_fabric_values.proofs.PlaceLemmas.{slot_takes_store, other_slot_stays}
use Rattle.aia_move_values.proofs.StoreViews.{entry_words_kept}
use Rattle.aia_move_values.proofs.ViewLemmas.{spots_apart, has_slot}
use Rattle.aia_fabric_values.proofs.WholeLemmas.{width_at}
use Rattle.aia_move_values.specs.Move.{width}
use Rattle.aia_plan.specs.Transit.{is_identity, with_one}
use Rattle.aia_rehearsal.specs.declared.place.Place as ends
use Rattle.aia_rehearsal.specs.declared.place.Place.TheVariants.{File, Slot}
use Rattle.aia_rehearsal.specs.Rehearsed.{Passage, mover_of, at_of, IsFileThere}
use Rattle.aia_rehearsal.specs.Stands.{sets_at, routes_of, is_file_at, identity_asked}
use Rattle.aia_file.proofs.SizeLemmas.{few_identities}

-- ---- the identity for which a store asks

asks_for : (number : Option ℕ) (n i : ℕ) → i ≤ n → n ≤ IDENTITIES
    → names (implemented n number) i ≡ (is_identity i && nat_eq (unwrap_or (implemented IDENTITIES number) 0) i)
asks_for None n i low few = by_number i
  where
    by_number : (i : ℕ) → false ≡ (is_identity i && nat_eq 0 i)
    by_number i = grind (arith, nat_tests)
asks_for (Some x) n i low few = elim (cases_Bool (is_in_range 1 n x)) [
  | inl inside ↦ let within : is_in_range 1 IDENTITIES x ≡ true = grind (arith, nat_tests) in rw (inside, within) (grind (arith, nat_tests))
  | inr outside ↦ rw (outside) (elim (cases_Bool (is_in_range 1 IDENTITIES x)) [
    | inl within ↦ rw (within) (grind (arith, nat_tests))
    | inr past ↦ rw (past) (grind (arith, nat_tests))
  ])
]

settled : (asks was : Bool) → settle (cond asks Ask Nothing) was ≡ (was || asks)
settled true true = refl
settled true false = refl
settled false true = refl
settled false false = refl

added : (n offset value i : ℕ) (was : ℕ → Bool) → i ≤ n → n ≤ IDENTITIES
    → settle (request_said n offset value i) (was i) ≡ with_one (identity_asked offset value) was i
added n offset value i was low few = settled (names (requested n offset value) i) (was i)
    ∙ ap (λ b. was i || b) (asks_for (number_written offset value) n i low few)

all_words : (n : ℕ) → is_greatest_identity n ≡ true → (n + 1) / 64 * 64 ≡ n + 1
all_words n greatest = grind (arith, nat_tests)

-- ---- what a store shows

-- an identity is added to the pending set
pub record Adds (words : ℕ) (was now : TwoSets) (x : ℕ) : Type 0 where
  pub pending : (i : ℕ) → i / 64 < words → now.pending i ≡ with_one x was.pending i
  pub enabled : (i : ℕ) → now.enabled i ≡ was.enabled i

-- it leads to the places that pass a test
pub record Seen (w u : World) (p : Passage) (hits : ends.Place → Bool) (offset value : ℕ) : Type 0 where
  pub rest : OnlyStores w u
  pub routes : routes_of u (mover_of p) ≡ routes_of w (mover_of p)
  pub hit : (b : ends.Place) → IsFileThere w b → hits b ≡ true
      → Adds (width w) (sets_at w (at_of p.who.found.slot b)) (sets_at u (at_of p.who.found.slot b)) (identity_asked offset value)
  pub missed : (b : ends.Place) → IsFileThere w b → hits b ≡ false → sets_at u (at_of p.who.found.slot b) ≡ sets_at w (at_of p.who.found.slot b)

abbrev pub file_hit : Spot → ends.Place → Bool
file_hit spot (File b) = is_file_at b spot
file_hit spot Slot = false

abbrev pub slot_hit : Option ℕ → ℕ → ends.Place → Bool
slot_hit o q (File b) = false
slot_hit o q Slot = names o q

module _ (w u : World) (p : Passage) (offset value : ℕ) (whole : IsWhole w) where
  abbrev q : ℕ
  q = p.who.found.slot

  pub seen_none : (hits : ends.Place → Bool) → ((b : ends.Place) → hits b ≡ false) → u ≡ w → Seen w u p hits offset value
  seen_none hits none e = record {
    rest = none_rest w u e;
    routes = ap (λ (x : World). routes_of x (mover_of p)) e;
    hit = λ b there led. let both = none b in absurd (cc);
    missed = λ b there none. ap (λ (x : World). sets_at x (at_of p.who.found.slot b)) e;
  }

  few : w.n ≤ IDENTITIES
  few = few_identities w.n whole.greatest

  inside : (i : ℕ) → i / 64 < width w → i ≤ w.n
  inside i low = let all = all_words w.n whole.greatest in omega (arith, low, all)

  routes_by : OnlyStores w u → get_or u.memory (entry_word_place (mover_of p).vm (mover_of p).vcpu) 0 ≡ get_or w.memory
      (entry_word_place (mover_of p).vm (mover_of p).vcpu) 0
      → get_or u.memory (entry_word_place (mover_of p).vm (mover_of p).vcpu + 1) 0 ≡ get_or w.memory
      (entry_word_place (mover_of p).vm (mover_of p).vcpu + 1) 0 → routes_of u (mover_of p) ≡ routes_of w (mover_of p)
  routes_by rest first second =
      let tables = ap (λ (x : World). entry_in_force (table_of x.tables (mover_of p).vm) (mover_of p).vcpu) rest in
      let stages : stage_of u (mover_of p) ≡ stage_of w (mover_of p) = ap (λ (x : World). stage_of x (mover_of p)) rest in
      λ k. record { word0 = first k; word1 = second k; in_force = tables k; stage = stages k }

  -- ---- in a guest file

  in_file : (a : GuestPlace) → IsThere w.imsic (spot_of a) → StoresIn w u (spot_of a) offset value → Seen w u p (file_hit (spot_of a)) offset value
  in_file a there stores = record {
    rest = stores_rest w u (spot_of a) offset value stores;
    routes = ap (λ (x : World). routes_of x (mover_of p)) one_state;
    hit = hit;
    missed = missed;
  }
    where
      one_state : u ≡ with_state w (spot_of a) (file_at u.imsic (spot_of a))
      one_state = stores.rest ∙ ap (λ (j : ImsicState). record w { imsic = j }) stores.lands.others

      here : Adds (width w) (of_file (shown (file_at w.imsic (spot_of a)))) (of_file (shown (file_at u.imsic (spot_of a))))
          (identity_asked offset value)
      here = record {
        pending = λ i low. stores.lands.lands.pending i
            ∙ ap (λ n. settle (request_said n offset value i) ((shown (file_at w.imsic (spot_of a))).pending i)) (width_at w (spot_of a) whole there)
            ∙ added w.n offset value i (shown (file_at w.imsic (spot_of a))).pending (inside i low) few;
        enabled = stores.lands.lands.enabled;
      }

      hit : (b : ends.Place) → IsFileThere w b → file_hit (spot_of a) b ≡ true
          → Adds (width w) (sets_at w (at_of p.who.found.slot b)) (sets_at u (at_of p.who.found.slot b)) (identity_asked offset value)
      hit Slot standing led = absurd (cc)
      hit (File b) standing led = subst (λ (x : GuestPlace). Adds (width w) (of_file (shown (file_at w.imsic (spot_of x))))
          (of_file (shown (file_at u.imsic (spot_of x)))) (identity_asked offset value)) (sym (same_place b a led)) here

      missed : (b : ends.Place) → IsFileThere w b → file_hit (spot_of a) b ≡ false
          → sets_at u (at_of p.who.found.slot b) ≡ sets_at w (at_of p.who.found.slot b)
      missed Slot standing none = ap (λ (x : World). of_slot (mrif_in x.memory p.who.found.slot)) one_state
      missed (File b) standing none = ap (λ (x : World). of_file (shown (file_at x.imsic (spot_of b)))) one_state
          ∙ ap (λ f. of_file (shown f)) (kept_elsewhere w.imsic (spot_of a) (spot_of b) (file_at u.imsic (spot_of a)) there standing
          (spots_apart b a none))

  no_file : (spot : Spot) → ((b : GuestPlace) → is_file_at b spot ≡ false) → (b : ends.Place) → file_hit spot b ≡ false
  no_file spot none (File b) = none b
  no_file spot none Slot = refl

  pub at_spot : (spot : Spot) → (spot ≢ Nowhere → IsThere w.imsic spot) → StoresInGuestFile w u spot offset value
      → Seen w u p (file_hit spot) offset value
  at_spot (GuestFile hart file) there stores = in_file (record { hart = hart; file = file }) (there (λ e. absurd (cc))) stores
  at_spot (MachineFile hart) there e = seen_none (file_hit (MachineFile hart)) (no_file (MachineFile hart) (λ b. refl)) e
  at_spot (SupervisorFile hart) there e = seen_none (file_hit (SupervisorFile hart)) (no_file (SupervisorFile hart) (λ b. refl)) e
  at_spot Nowhere there e = seen_none (file_hit Nowhere) (no_file Nowhere (λ b. refl)) e

  -- ---- in a slot

  -- the notice leaves memory and guest files as they were
  record Noticed (s : ℕ) : Type 0 where
    memory : u.memory ≡ (with_store w s offset value).memory
    files : (b : GuestPlace) → IsThere w.imsic (spot_of b) → file_at u.imsic (spot_of b) ≡ file_at w.imsic (spot_of b)

  module _ (s : ℕ) (spot : Spot) (identity : ℕ) (there : spot ≢ Nowhere → IsThere w.imsic spot) where
    abbrev mid : World
    mid = with_store w s offset value

    noticed_none : u ≡ mid → Noticed s
    noticed_none e = record { memory = ap (λ (x : World). x.memory) e; files = λ b inside. ap (λ (x : World). file_at x.imsic (spot_of b)) e }

    noticed_posts : (host : Spot) → IsThere w.imsic host → ((b : GuestPlace) → spot_of b ≢ host) → Posts mid u host identity → Noticed s
    noticed_posts host standing other posts = record {
      memory = ap (λ (x : World). x.memory) posts.rest;
      files = λ b inside. ap (λ (i : ImsicState). file_at i (spot_of b)) posts.lands.others
          ∙ kept_elsewhere w.imsic host (spot_of b) (file_at u.imsic host) standing inside (other b);
    }

    noticed_at : (host : Spot) → host ≡ spot → NoticedAt mid u host identity → Noticed s
    noticed_at (MachineFile hart) is posts = noticed_posts (MachineFile hart) (subst (IsThere w.imsic) (sym is) (there (λ e. absurd (cc))))
        (λ b e. absurd (cc)) posts
    noticed_at (SupervisorFile hart) is posts = noticed_posts (SupervisorFile hart) (subst (IsThere w.imsic) (sym is) (there (λ e. absurd (cc))))
        (λ b e. absurd (cc)) posts
    noticed_at (GuestFile hart file) is e = noticed_none e
    noticed_at Nowhere is e = noticed_none e

    noticed_by : (became : Stored) → NoticedBy became mid u spot identity → Noticed s
    noticed_by Notice n = noticed_at spot refl n
    noticed_by Quiet e = noticed_none e
    noticed_by Discarded e = noticed_none e

    in_slot : s < VCPUS → StoresInSlot w u (Some s) spot identity offset value → Seen w u p (slot_hit (Some s) q) offset value
    in_slot low stores = record {
      rest = rest;
      routes = routes_by rest (ap (λ words. get_or words (entry_word_place (mover_of p).vm (mover_of p).vcpu) 0) noticed.memory ∙ kept.0)
          (ap (λ words. get_or words (entry_word_place (mover_of p).vm (mover_of p).vcpu + 1) 0) noticed.memory ∙ kept.1);
      hit = hit;
      missed = missed;
    }
      where
        rest : OnlyStores w u
        rest = slot_rest w u (Some s) spot identity offset value stores

        noticed : Noticed s
        noticed = noticed_by (stored (mrif_in w.memory s) (requested IDENTITIES offset value)) stores

        kept : (get_or (with_store w s offset value).memory (entry_word_place (mover_of p).vm (mover_of p).vcpu) 0 ≡ get_or w.memory
            (entry_word_place (mover_of p).vm (mover_of p).vcpu) 0)
            × (get_or (with_store w s offset value).memory (entry_word_place (mover_of p).vm (mover_of p).vcpu + 1) 0 ≡ get_or w.memory
            (entry_word_place (mover_of p).vm (mover_of p).vcpu + 1) 0)
        kept = entry_words_kept w (mover_of p) s offset value whole low

        here : Adds (width w) (of_slot (mrif_in w.memory s)) (of_slot (mrif_in u.memory s)) (identity_asked offset value)
        here =
            let takes = slot_takes_store w.memory s offset value (has_slot w s whole low) in
            record {
              pending = λ i inside_word. ap (λ words. (mrif_in words s).pending i) noticed.memory ∙ takes.pending i
                  ∙ added IDENTITIES offset value i (mrif_in w.memory s).pending
                  (let fits = few in let low_i = inside i inside_word in omega (arith, low_i, fits)) (omega arith);
              enabled = λ i. ap (λ words. (mrif_in words s).enabled i) noticed.memory ∙ takes.enabled i;
            }

        hit : (b : ends.Place) → IsFileThere w b → slot_hit (Some s) q b ≡ true
            → Adds (width w) (sets_at w (at_of p.who.found.slot b)) (sets_at u (at_of p.who.found.slot b)) (identity_asked offset value)
        hit (File b) standing led = absurd (cc)
        hit Slot standing led = subst (λ n. Adds (width w) (of_slot (mrif_in w.memory n)) (of_slot (mrif_in u.memory n))
            (identity_asked offset value)) (eqb-true s q led) here

        missed : (b : ends.Place) → IsFileThere w b → slot_hit (Some s) q b ≡ false
            → sets_at u (at_of p.who.found.slot b) ≡ sets_at w (at_of p.who.found.slot b)
        missed (File b) standing none = ap (λ f. of_file (shown f)) (noticed.files b standing)
        missed Slot standing none = ap (λ words. of_slot (mrif_in words q)) noticed.memory
            ∙ ap of_slot (other_slot_stays w.memory s q offset value (λ e. let same : nat_eq s q ≡ true = eq-eqb s q e in absurd (cc)))

  no_slot : (b : ends.Place) → slot_hit None q b ≡ false
  no_slot (File b) = refl
  no_slot Slot = refl

  pub at_slot : (o : Option ℕ) (spot : Spot) (identity : ℕ) → ((s : ℕ) → o ≡ Some s → s < VCPUS) → (spot ≢ Nowhere → IsThere w.imsic spot)
      → StoresInSlot w u o spot identity offset value → Seen w u p (slot_hit o q) offset value
  at_slot None spot identity low there e = seen_none (slot_hit None q) no_slot e
  at_slot (Some s) spot identity low there stores = in_slot s spot identity there (low s refl) stores
