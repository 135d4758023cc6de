-- A memory-resident interrupt file by its words. Vocabulary.
use Rattle.std.specs.Prelude.{◌≡◌, ℕ, ◌+◌, ◌*◌, ◌/◌, ◌%◌, ◌^◌, ◌<◌, ◌≤◌, List, length, slice_index, slice_set, bit_and, bit_or, Option, Some, None}
use Rattle.std.specs.Int.{bit_not, is_in_range, w64}
use Rattle.aia_word.specs.Sets.{has_bit}
use Rattle.aia_regs.specs.declared.limits.TheConstants.{SLOT_WORDS}
use Rattle.aia_regs.specs.declared.file_registers.FileReg.{FileReg}
use Rattle.aia_regs.specs.declared.file_registers.FileReg.TheVariants.{Pending, Enable}
use Rattle.aia_file.specs.Mrif.{Mrif, pending_place, enable_place}

-- Memory has all words of slot q.
abbrev pub HasSlot : List ℕ → ℕ → Type 0
HasSlot words q = SLOT_WORDS * (q + 1) ≤ length words

-- Memory after a store to slot q, given the identity that it names: the bit of that one is set in
-- its pending word, and all else stays.
abbrev pub words_after_store : List ℕ → ℕ → Option ℕ → List ℕ
words_after_store words q None = words
words_after_store words q (Some i) =
    slice_set words (pending_place q (i / 64))
    (bit_or (slice_index words (pending_place q (i / 64))) (2 ^ (i % 64)))

-- Memory after a claim at slot q, given the identity that was on top: the bit of that one is
-- cleared in its pending word, and all else stays.
abbrev pub words_after_claim : List ℕ → ℕ → Option ℕ → List ℕ
words_after_claim words q None = words
words_after_claim words q (Some i) =
    slice_set words (pending_place q (i / 64))
    (bit_and (slice_index words (pending_place q (i / 64))) (bit_not w64 (2 ^ (i % 64))))

-- Two MRIFs are the same: they have the same members.
pub record SameMrif (a b : Mrif) : Type 0 where
  pub pending : (i : ℕ) → a.pending i ≡ b.pending i
  pub enabled : (i : ℕ) → a.enabled i ≡ b.enabled i

-- The index of a register of the sets, and the word of memory that it shows of slot q.
abbrev pub index_of : FileReg → ℕ
index_of (Pending k) = k
index_of (Enable k) = k
index_of r = 0

abbrev pub register_place : ℕ → FileReg → ℕ
register_place q (Pending k) = pending_place q (k / 2)
register_place q (Enable k) = enable_place q (k / 2)
register_place q r = 0

-- A word has ones for just the identities from 1 to n among the 64 from `first` on.
abbrev pub MasksIdentities : ℕ → ℕ → ℕ → Type 0
MasksIdentities mask first n =
    (b : ℕ) → b < 64 → has_bit mask b ≡ is_in_range 1 n (first + b)
