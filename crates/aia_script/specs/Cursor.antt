-- The words that a cursor, which is the code's `Words`, has left.
use Rattle.std.specs.Prelude.{ℕ, nat_eq, if◌then◌else◌, List, [], ◌∷◌, Option, Some, None}
use Rattle.std.specs.Borrow.{Bor}
use Rattle.aia_model.specs.Text.{words_of}
use Rattle.aia_script.specs.declared.words.Words.{Words}

-- The words of the text that is left, where any is.
abbrev pub words_of_rest : Option (Bor (List ℕ)) → List (List ℕ)
words_of_rest None = []
words_of_rest (Some text) = words_of text.now

-- The words that a cursor has left.
abbrev pub left : Words → List (List ℕ)
left words = words_of_rest words.rest

-- The words after a word that ends where a text begins; None where it goes on there.
abbrev pub words_after : List ℕ → Option (List (List ℕ))
words_after [] = Some []
words_after (c ∷ cs) = if nat_eq c 32 then Some (words_of cs) else None

-- The first word of a text, up to its first space; and the words after that space.
unfoldable pub first_word : List ℕ → List ℕ
first_word [] = []
first_word (c ∷ cs) = if nat_eq c 32 then [] else c ∷ first_word cs

unfoldable pub after_first : List ℕ → List (List ℕ)
after_first [] = []
after_first (c ∷ cs) = if nat_eq c 32 then words_of cs else after_first cs
