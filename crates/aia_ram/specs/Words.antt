-- Memory as a row of 64-bit words, each of eight bytes, little-endian. Vocabulary.
use Rattle.std.specs.Prelude.{◌≡◌, ℕ, zero, suc, ◌/◌, ◌%◌, ◌<◌, List, [], ◌∷◌, length, drop}
use Rattle.byteorder.specs.Endian.{little_number, little_bytes}

-- The word in the first eight bytes, the lowest byte first.
unfoldable pub word_in : List ℕ → ℕ
word_in bytes = little_number 8 bytes

-- The eight bytes of a word, the lowest first.
unfoldable pub bytes_in : ℕ → List ℕ
bytes_in v = little_bytes 8 v

-- The first `count` words of a row of bytes.
abbrev pub words_of : ℕ → List ℕ → List ℕ
words_of zero bytes = []
words_of (suc count) bytes = word_in bytes ∷ words_of count (drop 8 bytes)

-- A word of the row begins at byte `at`: `at` is a multiple of 8, and the row has that word.
abbrev pub HasWordAt : List ℕ → ℕ → Type 0
HasWordAt words at = (at % 8 ≡ 0) × (at / 8 < length words)
