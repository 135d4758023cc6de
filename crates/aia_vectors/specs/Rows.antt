-- What a row says: the lines of a script, each beside its answer, as two texts of bytes.
use Rattle.std.specs.Prelude.{ℕ, List, [], ◌∷◌, ◌++◌, flat_map}
use Rattle.std.specs.List.{join_by}

-- A text that a constant has.
abbrev pub ConstantText : Type 0
ConstantText = record { now : List ℕ }

-- A text and an LF.
abbrev pub ended : List ℕ → List ℕ
ended text = text ++ 10 ∷ []

-- What is printed of an answer: it and an LF; of none, nothing.
abbrev pub ended_if_any : List ℕ → List ℕ
ended_if_any [] = []
ended_if_any text = ended text

-- The script of a row: each of its lines and an LF.
abbrev pub script_of : List (ConstantText × ConstantText) → List ℕ
script_of row = flat_map (λ (line, answer). ended line.now) row

-- The same, with no LF after the last line.
abbrev pub unended_script_of : List (ConstantText × ConstantText) → List ℕ
unended_script_of row = join_by (λ (line, answer). line.now) (10 ∷ []) row

-- The answers of a row: each of them and an LF.
abbrev pub answers_of : List (ConstantText × ConstantText) → List ℕ
answers_of row = flat_map (λ (line, answer). ended_if_any answer.now) row
