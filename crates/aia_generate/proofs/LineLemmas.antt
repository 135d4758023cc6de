-- Lines by their numbers, what is left of them, and that each is listed.
use Rattle.std.proofs.Common.{◌≡◌, ℕ, zero, suc, ◌+◌, ◌-◌, ◌/◌, ◌%◌, ◌^◌, ◌<◌, ◌≤◌, Bool, true, false, cond, nat_eq, nat_lt, nat_le, List, [], ◌∷◌, ◌++◌, get_or, drop, Option, unwrap_or, slice_get, inl, inr, refl, sym, ap, ◌∙◌, arith, rules, add-one, drop-cons}
use Rattle.std.specs.List.{All, AllByRecursion}
use Rattle.std.proofs.lemmas.List.Elements.{All-append, All-from_recursion}
use Rattle.std.proofs.lemmas.Bool.{cases_lt, cond-true, cond-false, le-leb, lt-leb}
use Rattle.std.proofs.lemmas.List.{drop_all}
use Rattle.std.proofs.lemmas.Option.{unwrap_or-slice_get, slice_get_past}
use Rattle.aia_model.specs.declared.line.Line.{Line}
use Rattle.aia_model.specs.Forms.{IsListed}
use Rattle.aia_generate.specs.declared.lines.GeneratedLines.{GeneratedLines}
use Rattle.aia_generate.specs.Generated.{next_number, head_lines, line_of_form, line_drawn, body_lines, line_at}
use Rattle.aia_generate.specs.Lines.{lines_left}

-- a line of the head, and one of the body
pub line_at-head : (x k : ℕ) → k ≤ 31 → line_at x k ≡ get_or head_lines (k - 1) (line_drawn x)
line_at-head x k within = cond-true _ _ _ (le-leb k 31 within)

pub line_at-body : (x k : ℕ) → 31 < k → line_at x k ≡ line_drawn x
line_at-body x k past = cond-false _ _ _ (lt-leb k 31 past)

-- a line by its place in the head, where it is there
pub line_at-place : (x k : ℕ) → 1 ≤ k → line_at x k ≡ unwrap_or (slice_get head_lines (k - 1)) (line_drawn x)
line_at-place x k some =
    elim (cases_lt k 32) [
      | inl h ↦ line_at-head x k (omega arith) ∙ sym (unwrap_or-slice_get head_lines (k - 1) (line_drawn x))
      | inr h ↦ line_at-body x k h ∙ ap (λ (o : Option Line). unwrap_or o (line_drawn x))
          (sym (slice_get_past head_lines (k - 1) (let past : 31 ≤ k - 1 = omega arith in past)))
    ]

-- ---- each is listed

either_listed : (b : Bool) (x y : Line) → IsListed x → IsListed y → IsListed (cond b x y)
either_listed true x y first second = first
either_listed false x y first second = second

line_of_form-listed : (form v c b i : ℕ) → IsListed (line_of_form form v c b i)
line_of_form-listed form v c b i =
    either_listed (nat_lt form 2) _ _ (search rules)
    (either_listed (nat_eq form 2) _ _ (search rules)
    (either_listed (nat_eq form 3) _ _ (search rules)
    (either_listed (nat_eq form 4) _ _ (search rules)
    (either_listed (nat_eq form 5) _ _ (search rules)
    (either_listed (nat_lt form 9) _ _ (search rules) (search rules))))))

line_drawn-listed : (x : ℕ) → IsListed (line_drawn x)
line_drawn-listed x = line_of_form-listed (x / 2 ^ 33 % 10) (x / 2 ^ 33 / 10 % 2) (x / 2 ^ 33 / 20 % 2) (x / 2 ^ 33 / 40 % 2) (x / 2 ^ 33 / 80 % 64)

head_lines-listed : AllByRecursion IsListed head_lines
head_lines-listed = search rules

one_listed : (lines : List Line) (k : ℕ) (default : Line) → AllByRecursion IsListed lines → IsListed default → IsListed (get_or lines k default)
one_listed [] k default all one = one
one_listed (line ∷ lines) zero default all one = all.0
one_listed (line ∷ lines) (suc k) default all one = one_listed lines k default all.1 one

pub line_at-listed : (x k : ℕ) → IsListed (line_at x k)
line_at-listed x k =
    either_listed (nat_le k 31) _ _ (one_listed head_lines (k - 1) (line_drawn x) head_lines-listed (line_drawn-listed x)) (line_drawn-listed x)

body_lines-listed : (count x : ℕ) → AllByRecursion IsListed (body_lines count x)
unfolding body_lines
body_lines-listed zero x = tt
body_lines-listed (suc count) x = (line_drawn-listed (next_number x), body_lines-listed count (next_number x))

-- ---- what is left

no_body : (left number : ℕ) → left < 1 → body_lines left number ≡ []
unfolding body_lines
no_body zero number none = refl
no_body (suc left) number none = absurd (omega arith)

first_of_body : (left later number : ℕ) → left ≡ later + 1
    → body_lines left number ≡ line_drawn (next_number number) ∷ body_lines later (next_number number)
unfolding body_lines
first_of_body left later number more = ap (λ n. body_lines n number) (more ∙ add-one later)

pub lines_left-none : (lines : GeneratedLines) → 31 ≤ lines.given → lines.left < 1 → lines_left lines ≡ []
unfolding lines_left
lines_left-none lines past none =
    ap (λ (head : List Line). head ++ body_lines lines.left lines.number) (drop_all lines.given head_lines past)
    ∙ no_body lines.left lines.number none

pub lines_left-head : (lines : GeneratedLines) (line : Line) (next : GeneratedLines) → lines.given < 31 → next.given ≡ lines.given + 1
    → next.left ≡ lines.left → next.number ≡ lines.number → line ≡ line_at next.number next.given → lines_left lines ≡ line ∷ lines_left next
unfolding lines_left
lines_left-head lines line next within given left number is =
    let here : next.given - 1 ≡ lines.given = omega arith in
    let at_place : line ≡ get_or head_lines lines.given (line_drawn next.number) = is ∙ line_at-head next.number next.given (omega arith)
    ∙ ap (λ place. get_or head_lines place (line_drawn next.number)) here in
    ap (λ (head : List Line). head ++ body_lines lines.left lines.number) (drop-cons head_lines lines.given (line_drawn next.number) within)
    ∙ ap (λ (x : Line). x ∷ (drop (suc lines.given) head_lines ++ body_lines lines.left lines.number)) (sym at_place)
    ∙ ap (λ n. line ∷ (drop n head_lines ++ body_lines lines.left lines.number)) (sym (given ∙ add-one lines.given))
    ∙ ap (λ n. line ∷ (drop next.given head_lines ++ body_lines n lines.number)) (sym left)
    ∙ ap (λ n. line ∷ (drop next.given head_lines ++ body_lines next.left n)) (sym number)

pub lines_left-body : (lines : GeneratedLines) (line : Line) (next : GeneratedLines) → 31 ≤ lines.given → 31 < next.given
    → lines.left ≡ next.left + 1 → next.number ≡ next_number lines.number → line ≡ line_at next.number next.given
    → lines_left lines ≡ line ∷ lines_left next
unfolding lines_left
lines_left-body lines line next past given left number is =
    ap (λ (head : List Line). head ++ body_lines lines.left lines.number) (drop_all lines.given head_lines past)
    ∙ first_of_body lines.left next.left lines.number left
    ∙ ap (λ n. line_drawn n ∷ body_lines next.left n) (sym number)
    ∙ ap (λ (x : Line). x ∷ body_lines next.left next.number) (sym (is ∙ line_at-body next.number next.given given))
    ∙ ap (λ (head : List Line). line ∷ (head ++ body_lines next.left next.number))
    (sym (drop_all next.given head_lines (let along : 31 ≤ next.given = omega arith in along)))

-- ---- each of these is listed

drop-listed : (lines : List Line) (places : ℕ) → AllByRecursion IsListed lines → AllByRecursion IsListed (drop places lines)
drop-listed lines zero all = all
drop-listed [] (suc places) all = all
drop-listed (line ∷ lines) (suc places) all = drop-listed lines places all.1

pub lines_left-listed : (lines : GeneratedLines) → All IsListed (lines_left lines)
unfolding lines_left
lines_left-listed lines =
    All-append IsListed (drop lines.given head_lines) (body_lines lines.left lines.number)
    (All-from_recursion IsListed (drop lines.given head_lines) (drop-listed head_lines lines.given head_lines-listed))
    (All-from_recursion IsListed (body_lines lines.left lines.number) (body_lines-listed lines.left lines.number))
