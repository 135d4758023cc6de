-- The world stays whole as one file, or one word of a slot, is written.
use Rattle.std.proofs.Common.{◌≡◌, ℕ, ◌<◌, false, List, length, get_or, inl, inr, ap, ◌∙◌, arith}
use Rattle.std.specs.Prelude.{slice_index}
use Rattle.std.proofs.Math.ListN.{set}
use Rattle.std.proofs.lemmas.Bool.{cases_eq}
use Rattle.std.proofs.lemmas.Grind.{get_or-set_at}
use Rattle.std.proofs.lemmas.List.{length-set, get_or-set_other}
use Rattle.std.proofs.lemmas.List.Elements.{All-get_or, All-set}
use Rattle.aia_word.specs.Sets.{has_bit}
use Rattle.aia_regs.specs.declared.limits.TheConstants.{VCPUS, FILE_WORDS}
use Rattle.aia_file.specs.FileState.{FileState}
use Rattle.aia_file.specs.declared.spot.Spot.{Spot}
use Rattle.aia_file.specs.Imsic.{place_of, file_at, with_file, no_file}
use Rattle.aia_file.specs.Mrif.{pending_place, enable_place}
use Rattle.aia_fabric_values.specs.World.{World}
use Rattle.aia_fabric_values.specs.Whole.{IsWhole}

-- a file of as many identities stands in the place of another
pub file_whole : (w : World) (spot : Spot) (file : FileState) → IsWhole w → place_of w.imsic spot < length w.imsic.files
    → file.n ≡ (file_at w.imsic spot).n
    → IsWhole (record w { imsic = with_file w.imsic spot file })
file_whole w spot file whole within same =
    let IsWide = λ (f : FileState). f.n ≡ w.n in
    let place = place_of w.imsic spot in
    record {
      harts = whole.harts;
      guests = whole.guests;
      files = length-set w.imsic.files place file ∙ whole.files;
      greatest = whole.greatest;
      width = All-set IsWide w.imsic.files place file (same ∙ All-get_or IsWide w.imsic.files place no_file within whole.width) whole.width;
      memory = whole.memory;
      no_pending_zero = whole.no_pending_zero;
      no_enabled_zero = whole.no_enabled_zero;
      few = whole.few;
      tables = whole.tables;
      flights = whole.flights;
      vcpus = whole.vcpus;
      vms = λ v low. let is = whole.vms v low in record
          { mask = is.mask; numbers = is.numbers; notice_hart = is.notice_hart; same_mask = is.same_mask; start = is.start; entries = is.entries };
      stages = whole.stages;
    }

-- memory of as many words, without identity 0 in any slot
pub memory_whole : (w : World) (words : List ℕ) → IsWhole w → length words ≡ length w.memory
    → ((q : ℕ) → q < VCPUS → has_bit (slice_index words (pending_place q 0)) 0 ≡ false)
    → ((q : ℕ) → q < VCPUS → has_bit (slice_index words (enable_place q 0)) 0 ≡ false) → IsWhole (record w { memory = words })
memory_whole w words whole size pending enabled = record {
  harts = whole.harts;
  guests = whole.guests;
  files = whole.files;
  greatest = whole.greatest;
  width = whole.width;
  memory = size ∙ whole.memory;
  no_pending_zero = pending;
  no_enabled_zero = enabled;
  few = whole.few;
  tables = whole.tables;
  flights = whole.flights;
  vcpus = whole.vcpus;
  vms = λ v low. let is = whole.vms v low in record
      { mask = is.mask; numbers = is.numbers; notice_hart = is.notice_hart; same_mask = is.same_mask; start = is.start; entries = is.entries };
  stages = whole.stages;
}

-- a bit of a word is clear still where that word, or another, is written
clear_still : (words : List ℕ) (place at v : ℕ) → at < length words → has_bit (get_or words place 0) 0 ≡ false
    → (place ≡ at → has_bit v 0 ≡ false) → has_bit (slice_index (set words at v) place) 0 ≡ false
clear_still words place at v within was zero = elim (cases_eq place at) [
  | inl e ↦ ap (λ x. has_bit x 0) (get_or-set_at words at place v 0 e within) ∙ zero e
  | inr ne ↦ ap (λ x. has_bit x 0) (get_or-set_other words at place v 0 ne) ∙ was
]

module _ (w : World) (q k v : ℕ) (whole : IsWhole w) (there : q < VCPUS) (low : k < FILE_WORDS) (zero : k ≡ 0 → has_bit v 0 ≡ false) where
  -- word k of the pending set of a slot
  pub pending_whole : IsWhole (record w { memory = set w.memory (pending_place q k) v })
  pending_whole = memory_whole w (set w.memory (pending_place q k) v) whole (length-set w.memory (pending_place q k) v)
      (λ p lt. clear_still w.memory (pending_place p 0) (pending_place q k) v (omega (arith, whole.memory, there, low))
      (whole.no_pending_zero p lt) (λ e. zero (omega (arith, e))))
      (λ p lt. clear_still w.memory (enable_place p 0) (pending_place q k) v (omega (arith, whole.memory, there, low))
      (whole.no_enabled_zero p lt) (λ e. absurd (omega (arith, e))))

  -- and of the enabled set
  pub enables_whole : IsWhole (record w { memory = set w.memory (enable_place q k) v })
  enables_whole = memory_whole w (set w.memory (enable_place q k) v) whole (length-set w.memory (enable_place q k) v)
      (λ p lt. clear_still w.memory (pending_place p 0) (enable_place q k) v (omega (arith, whole.memory, there, low))
      (whole.no_pending_zero p lt) (λ e. absurd (omega (arith, e))))
      (λ p lt. clear_still w.memory (enable_place p 0) (enable_place q k) v (omega (arith, whole.memory, there, low)) (whole.no_enabled_zero p lt)
      (λ e. zero (omega (arith, e))))
