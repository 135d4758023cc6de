-- Which number draws which line.
use Rattle.std.proofs.Common.{◌≡◌, ℕ, zero, suc, ◌+◌, ◌-◌, ◌<◌, length, get_or, Some, slice_get, inl, inr, refl, sym, ap, ◌∙◌, arith, length-append}
use Rattle.std.proofs.lemmas.Bool.{cases_lt}
use Rattle.std.proofs.lemmas.Option.{slice_get-get_or}
use Rattle.aia_generate.specs.Generated.{next_number, head_lines, line_drawn, body_lines, line_at, generated}
use Rattle.aia_generate.specs.Sequence.{later_number, drawing_number}
use Rattle.aia_generate.proofs.PlaceLemmas.{in_first, in_second}
use Rattle.aia_generate.proofs.LineLemmas.{line_at-head, line_at-body}

body_lines-length : (count x : ℕ) → length (body_lines count x) ≡ count
unfolding body_lines
body_lines-length zero x = refl
body_lines-length (suc count) x = ap suc (body_lines-length count (next_number x))

body_line : (count x k : ℕ) → k < count → slice_get (body_lines count x) k ≡ Some (line_drawn (later_number (k + 1) x))
unfolding body_lines
body_line zero x k within = absurd (omega arith)
body_line (suc count) x zero within = refl
body_line (suc count) x (suc k) within =
    let e : suc (k + 1) ≡ suc k + 1 = omega arith in
    body_line count (next_number x) k (omega arith) ∙ ap (λ n. Some (line_drawn (later_number n x))) e

pub generated-length : (count seed : ℕ) → length (generated count seed) ≡ 31 + count
unfolding generated
generated-length count seed = length-append head_lines (body_lines count seed) ∙ ap (λ n. 31 + n) (body_lines-length count seed)

pub generated-line : (count seed k : ℕ) → k < 31 + count → slice_get (generated count seed) k ≡ Some (line_at (drawing_number seed (k + 1)) (k + 1))
unfolding generated
generated-line count seed k within =
    elim (cases_lt k 31) [
      | inl h ↦
          in_first head_lines (body_lines count seed) k h
          ∙ slice_get-get_or head_lines k (line_drawn (drawing_number seed (k + 1))) h
          ∙ (let e : k ≡ (k + 1) - 1 = omega arith in ap (λ n. Some (get_or head_lines n (line_drawn (drawing_number seed (k + 1))))) e)
          ∙ ap Some (sym (line_at-head (drawing_number seed (k + 1)) (k + 1) (omega arith)))
      | inr h ↦
          in_second head_lines (body_lines count seed) k h
          ∙ body_line count seed (k - 31) (omega arith)
          ∙ (let e : (k - 31) + 1 ≡ (k + 1) - 31 = omega arith in ap (λ n. Some (line_drawn (later_number n seed))) e)
          ∙ ap Some (sym (line_at-body (drawing_number seed (k + 1)) (k + 1) (omega arith)))
    ]
