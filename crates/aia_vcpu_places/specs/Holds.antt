-- When the places of a virtual hart hold its interrupt file, by what its move has made.
use Rattle.std.specs.Prelude.{◌≡◌, ℕ, ◌+◌, ◌*◌, ◌/◌, ◌%◌, ◌<◌, ◌≤◌, Bool, false, not, ◌&&◌, ◌||◌, is_some, if◌then◌else◌, Option}
use Rattle.aia_word.specs.Sets.{has_bit, least_of}
use Rattle.aia_file.specs.InterruptFile.{InterruptFile, is_live}
use Rattle.aia_file.specs.Mrif.{Mrif}
use Rattle.aia_vcpu.specs.declared.place.GuestPlace.{GuestPlace}
use Rattle.aia_vcpu.specs.Home.{Home}
use Rattle.aia_vcpu.specs.Plans.{is_begun, is_last_made}
use Rattle.aia_vcpu.specs.declared.access.Access.TheVariants.{TakePending, TakeEnables}
use Rattle.aia_vcpu.specs.Routes.{entry_names, stage_names, peers_reach, MayReach}
use Rattle.aia_vcpu.specs.BySteps.{is_drained, is_enable_taken, is_enable_put, look_sees, delivery_in_own, threshold_in_own, threshold_in_next, is_leaving}
use Rattle.aia_vcpu_places.specs.Places.{Places, old_place, new_place, spare_place, leads_to, entry_word, second_word}

-- What is true of every interrupt file of the identities 1 to n, 64 in each of so many words, that
-- a history gives.
pub record IsWithin (n words : ℕ) (file : InterruptFile) : Type 0 where
  pub greatest : file.n ≡ n
  pub all_words : n + 1 ≡ 64 * words
  pub delivery : file.delivery < 2
  pub threshold : file.threshold ≤ n
  pub pending : (i : ℕ) → words ≤ i / 64 → file.pending i ≡ false
  pub enabled : (i : ℕ) → words ≤ i / 64 → file.enabled i ≡ false

-- What a move carries, or the hypervisor keeps of a virtual hart whose interrupts rest in memory: a
-- word of a set, eidelivery, eithreshold, and whether a look of the leave under way saw something.
pub record Hand : Type 0 where
  pub word : ℕ
  pub delivery : ℕ
  pub threshold : ℕ
  pub seen : Bool

-- ---- the sets

-- The places and the carried word hold both sets of a file of so many words. The pending set is the
-- union of what they have of it; of each word of the enabled set one has all, the others nothing. A
-- pending word that was taken from the old place stays empty there, and at the beginning the new
-- place is empty; so is the spare one at all times. Past these words nothing is pending or enabled,
-- but what may be pending in the slot.
pub record HoldsSets (words : ℕ) (v : Places) (there : Home) (word : ℕ) (file : InterruptFile)
    : Type 0 where
  pub union : (i : ℕ) → i / 64 < words → file.pending i
      ≡ ((old_place v there).pending i || ((new_place v there).pending i
      || (is_last_made words there (TakePending (i / 64)) && has_bit word (i % 64))))
  pub drained : (i : ℕ) → i / 64 < words
      → (is_drained words there (i / 64) && (old_place v there).pending i) ≡ false
  pub fresh : is_begun there ≡ false
      → (i : ℕ) → i / 64 < words → (new_place v there).pending i ≡ false
  pub old_enables : (i : ℕ) → i / 64 < words → (old_place v there).enabled i
      ≡ (not (is_enable_taken words there (i / 64)) && file.enabled i)
  pub carried_enables : (i : ℕ) → i / 64 < words
      → (is_last_made words there (TakeEnables (i / 64)) && has_bit word (i % 64))
      ≡ (is_last_made words there (TakeEnables (i / 64)) && file.enabled i)
  pub new_enables : (i : ℕ) → i / 64 < words → (new_place v there).enabled i
      ≡ (is_enable_put words there (i / 64) && file.enabled i)
  pub spare : (i : ℕ) → i / 64 < words → ((spare_place v there).pending i ≡ false)
      × ((spare_place v there).enabled i ≡ false)
  pub past : (i : ℕ) → words ≤ i / 64 → (v.own.pending i ≡ false) × (v.own.enabled i ≡ false)
      × (v.next.pending i ≡ false) × (v.next.enabled i ≡ false) × (v.slot.enabled i ≡ false)

-- ---- the numbers

-- eidelivery and eithreshold stand in one file, or are carried or kept; no file that a move holds
-- has eidelivery 1, but at its beginning.
pub record HoldsNumbers (words : ℕ) (v : Places) (there : Home) (hand : Hand) (file : InterruptFile)
    : Type 0 where
  pub own_delivery : v.own.delivery ≡ (if delivery_in_own there then file.delivery else 0)
  pub next_delivery : v.next.delivery ≡ 0
  pub kept_delivery : delivery_in_own there ≡ false → hand.delivery ≡ file.delivery
  pub own_threshold : v.own.threshold
      ≡ (if threshold_in_own words there then file.threshold else 0)
  pub next_threshold : v.next.threshold
      ≡ (if threshold_in_next words there then file.threshold else 0)
  pub kept_threshold : (threshold_in_own words there || threshold_in_next words there) ≡ false
      → hand.threshold ≡ file.threshold

-- ---- the routes

-- The routes are written as the move has made them, and so is the record in force; the entry in
-- force leads to a place to which it may lead. Of the virtual hart of slot q, whose notices go to a
-- hart.
pub record HoldsRoutes (q notice_hart : ℕ) (reach : Option GuestPlace) (v : Places) (there : Home)
    : Type 0 where
  pub word0 : v.word0 ≡ entry_word q (entry_names there)
  pub word1 : v.word1 ≡ second_word q notice_hart
  pub in_force : v.in_force ≡ leads_to q notice_hart reach
  pub may : MayReach there reach
  pub stage : v.stage ≡ stage_names there
  pub stage_in_force : v.stage_in_force ≡ peers_reach there

-- ---- the looks

-- Whether the next step of a home is a look that sees an identity which is pending and enabled.
abbrev pub sees : ℕ → Home → InterruptFile → Bool
sees words there file = look_sees words there (is_live file)

-- Whether two words have a one in common.
abbrev pub meets : ℕ → ℕ → Bool
meets p e = is_some (least_of (λ b. has_bit p b && has_bit e b) 0 64)

-- ---- a slot

-- A slot has both sets of a file of so many words, and no enables above them. What else may be
-- pending there stays for good.
pub record HasSets (words : ℕ) (slot : Mrif) (file : InterruptFile) : Type 0 where
  pub inside : (i : ℕ) → i / 64 < words
      → (slot.pending i ≡ file.pending i) × (slot.enabled i ≡ file.enabled i)
  pub above : (i : ℕ) → words ≤ i / 64 → slot.enabled i ≡ false

-- ---- all of it

-- The places hold a file; `reach`: where the entry in force leads; `saw`: a look of the leave under
-- way saw something.
pub record Holds (words q notice_hart : ℕ) (reach : Option GuestPlace) (v : Places) (there : Home)
    (hand : Hand) (file : InterruptFile) (saw : Bool) : Type 0 where
  pub sets : HoldsSets words v there hand.word file
  pub numbers : HoldsNumbers words v there hand file
  pub routes : HoldsRoutes q notice_hart reach v there
  pub looks : (is_leaving there && hand.seen) ≡ (is_leaving there && saw)

-- ---- a file that nobody holds

-- No identity is pending or enabled, and both numbers are 0.
pub record IsEmpty (file : InterruptFile) : Type 0 where
  pub pending : (i : ℕ) → file.pending i ≡ false
  pub enabled : (i : ℕ) → file.enabled i ≡ false
  pub delivery : file.delivery ≡ 0
  pub threshold : file.threshold ≡ 0
