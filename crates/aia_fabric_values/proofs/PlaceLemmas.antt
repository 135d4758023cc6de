-- Which slot an address names, which file a page or a record names, and what a store to a slot
-- leaves.
use Rattle.std.proofs.Common.{◌≡◌, ◌≢◌, ℕ, ◌+◌, ◌-◌, ◌*◌, ◌/◌, ◌<◌, ◌≤◌, true, ◌&&◌, nat_eq, nat_lt, List, length, Option, Some, None, ◌⊎◌, inl, inr, refl, sym, ap, ◌∙◌, arith}
use Rattle.std.specs.Int.{is_in_range}
use Rattle.std.proofs.lemmas.List.{length-set}
use Rattle.std.proofs.lemmas.Bool.{eqb-true, eq-eqb, ne_eqb, cases_lt, cond-true}
use Rattle.std.proofs.lemmas.Bool.Decides.{nat_tests}
use Rattle.aia_word.proofs.LeastLemmas.{least_of-found, least_of-none, least_of_is}
use Rattle.aia_regs.specs.declared.address_map.TheConstants.{SUPERVISOR_FILES, HART_STRIDE, PAGE}
use Rattle.aia_regs.specs.declared.limits.TheConstants.{HARTS, GUEST_FILES, IDENTITIES, SLOTS}
use Rattle.aia_regs.specs.AddressMap.{supervisor_page, slot_address}
use Rattle.aia_regs.specs.Request.{requested}
use Rattle.aia_regs.proofs.RequestLemmas.{requested_in_range}
use Rattle.aia_file.specs.declared.spot.Spot.TheVariants.{SupervisorFile, Nowhere}
use Rattle.aia_file.specs.Imsic.{ImsicState, IsThere}
use Rattle.aia_file.proofs.MapLemmas.{in_page, spot_of_host, past_hosts}
use Rattle.aia_vcpu.specs.declared.place.GuestPlace.{GuestPlace}
use Rattle.aia_file.specs.Mrif.{mrif_in, pending_place, after_store}
use Rattle.aia_file.specs.Words.{HasSlot, SameMrif, words_after_store}
use Rattle.aia_file.proofs.SlotLemmas.{landed, other_words}
use Rattle.aia_fabric_values.specs.Stores.{page_spot, slot_at, named_spot}
use Rattle.aia_fabric_values.specs.Changes.{spot_of}

-- ---- slots by address

pub slot_found : (q : ℕ) → q < SLOTS → slot_at (slot_address q) ≡ Some q
slot_found q low =
    least_of-found (λ x. nat_eq (slot_address x) (slot_address q)) 0 SLOTS q (omega arith) (omega arith)
    (eq-eqb (slot_address q) (slot_address q) refl)
    (λ j a b. ne_eqb (slot_address j) (slot_address q) (λ e. omega arith))

pub slot_begins : (addr q : ℕ) → slot_at addr ≡ Some q → (q < SLOTS) × (addr ≡ slot_address q)
slot_begins addr q found =
    let least = least_of_is (λ x. nat_eq (slot_address x) addr) 0 SLOTS q found in
    (omega (arith, least.1), sym (eqb-true (slot_address q) addr least.2))

pub slot_by_number : (addr q : ℕ) → q < SLOTS → addr ≡ slot_address q → slot_at addr ≡ Some q
slot_by_number addr q low is = ap slot_at is ∙ slot_found q low

pub no_slot : (addr : ℕ) → ((q : ℕ) → q < SLOTS → addr ≢ slot_address q) → slot_at addr ≡ None
no_slot addr none = least_of-none (λ x. nat_eq (slot_address x) addr) 0 SLOTS
    (λ j a b. ne_eqb (slot_address j) addr (λ e. none j (omega arith) (sym e)))

-- ---- files by page

pub host_page : (i : ImsicState) (hart : ℕ) → hart < i.harts → i.harts ≤ HARTS → page_spot i (supervisor_page hart / PAGE) ≡ SupervisorFile hart
host_page i hart there few =
    let page : supervisor_page hart / PAGE * PAGE ≡ supervisor_page hart = omega arith in
    spot_of_host i.harts i.guests (supervisor_page hart / PAGE * PAGE) hart few there
    (in_page (supervisor_page hart) (supervisor_page hart / PAGE * PAGE) (omega arith) (omega arith))

-- past the pages of all files there is none
pub page_past : (i : ImsicState) (page : ℕ) → i.harts ≤ HARTS → i.guests ≤ GUEST_FILES → supervisor_page HARTS / PAGE ≤ page
    → page_spot i page ≡ Nowhere
page_past i page few fewer past = past_hosts i.harts i.guests (page * PAGE) ((page * PAGE - SUPERVISOR_FILES) / HART_STRIDE) few fewer refl
    (omega arith) (omega arith)

-- ---- a store to a slot

-- the memory-resident interrupt file in the slot has taken it
pub slot_takes_store : (words : List ℕ) (q offset value : ℕ) → HasSlot words q
    → SameMrif (mrif_in (words_after_store words q (requested IDENTITIES offset value)) q) (after_store offset value (mrif_in words q))
slot_takes_store words q offset value there = landed words (words_after_store words q (requested IDENTITIES offset value)) q offset value there refl

-- that in another slot is equal
pub other_slot_stays : (words : List ℕ) (q r offset value : ℕ) → q ≢ r
    → mrif_in (words_after_store words q (requested IDENTITIES offset value)) r ≡ mrif_in words r
other_slot_stays words q r offset value other =
    by_request (requested IDENTITIES offset value) (λ i e. (requested_in_range IDENTITIES offset value i e).1)
  where
    apart : (place : ℕ) → 64 * q ≤ place → place < 64 * (q + 1) → (place < 64 * r) ⊎ (64 * (r + 1) ≤ place)
    apart place low high = elim (cases_lt q r) [
      | inl less ↦ inl (omega arith)
      | inr more ↦ inr (omega (arith, other))
    ]

    by_request : (o : Option ℕ) → ((i : ℕ) → o ≡ Some i → i ≤ IDENTITIES) → mrif_in (words_after_store words q o) r ≡ mrif_in words r
    by_request None small = refl
    by_request (Some i) small =
        let few = small i refl in
        other_words words r (pending_place q (i / 64)) _ (apart (pending_place q (i / 64)) (omega arith) (omega arith))

-- memory keeps its size
pub store_keeps_size : (words : List ℕ) (q : ℕ) (o : Option ℕ) → length (words_after_store words q o) ≡ length words
store_keeps_size words q None = refl
store_keeps_size words q (Some i) = length-set words (pending_place q (i / 64)) _

-- ---- the guest file that a record names

pub named_guest : (i : ImsicState) (p : GuestPlace) → IsThere i (spot_of p) → named_spot i p ≡ spot_of p
named_guest i p inside = let named : (nat_lt p.hart i.harts && is_in_range 1 i.guests p.file) ≡ true =
    grind (arith, nat_tests, inside.0, inside.1, inside.2) in cond-true _ _ _ named
