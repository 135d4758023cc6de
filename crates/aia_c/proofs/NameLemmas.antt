-- The word of a code, and the answer that has the code.
use Rattle.std.proofs.Common.{◌≡◌, ℕ, ◌+◌, ◌-◌, ◌<◌, ◌≤◌, Bool, true, false, List, [], ◌∷◌, ◌++◌, length, take, refl, sym, ap, ◌∙◌, arith, pos, negsuc}
use Rattle.std.specs.Prelude.{ℤ, Option, Some, int_lt, unsigned_abs, nat_eq, if◌then◌else◌}
use Rattle.std.proofs.lemmas.Bool.{false≢true, eqb-true}
use Rattle.std.proofs.lemmas.List.{append-nil, length-append}
use Rattle.std.proofs.Math.Seq.{take-append-add}
use Rattle.std.proofs.lemmas.Option.{none-some, same_Some}
use Rattle.aia_model.specs.declared.answer.Answer.{Answer}
use Rattle.aia_model.specs.declared.answer.Answer.TheVariants as answers
use Rattle.aia_model.specs.declared.refusal.Refusal.{Refusal}
use Rattle.aia_model.specs.declared.refusal.Refusal.TheVariants as words
use Rattle.aia_model.specs.Answer.{answer_word, answer_text}
use Rattle.aia_model.specs.declared.limits.TheConstants.{ANSWER_BYTES}
use Rattle.aia_c.specs.declared.code.Code.TheVariants.{Done, NoRoom}
use Rattle.aia_c.specs.Codes.{number, refusal_number, code_of, answer_at, answer_of}
use Rattle.aia_c.specs.Calls.{Names, SpellsCode}

pub from_zero : (code : ℤ) → int_lt code (pos 0) ≡ false → answer_at (unsigned_abs code) ≡ answer_of code
from_zero (pos n) low = refl
from_zero (negsuc n) low = absurd (false≢true (sym low))

pub few_room : (named : ℤ) (bytes : List ℕ) (room : ℕ) (code : ℤ) → room < ANSWER_BYTES → code ≡ number NoRoom → bytes ≡ []
    → Names named bytes room code
few_room named bytes room code low says nothing = record { cramped = λ few. (says, nothing); spells = λ enough. absurd (omega (arith, low, enough)) }

pub enough_room : (named : ℤ) (bytes : List ℕ) (room : ℕ) (code : ℤ) → ANSWER_BYTES ≤ room → SpellsCode (answer_of named) bytes code
    → Names named bytes room code
enough_room named bytes room code high is = record { cramped = λ few. absurd (omega (arith, few, high)); spells = λ enough. is }

-- ---- the answer of a code

named : (word : Refusal) → answer_of (refusal_number word) ≡ Some (answers.Refused word)
named words.Range = refl
named words.Full = refl
named words.Busy = refl
named words.Home = refl
named words.Entered = refl
named words.Parked = refl
named words.NoFile = refl
named words.Passed = refl
named words.Unready = refl
named words.Idle = refl
named words.Away = refl
named words.Illegal = refl
named words.Virtual = refl
named words.Fault = refl
named words.Guarded = refl
named words.Other = refl
named words.NotValid = refl
named words.GFault = refl

pub each_answer : (answer : Answer) → ¬ (code_of answer ≡ Done) → answer_of (number (code_of answer)) ≡ Some answer
each_answer answers.Okay not_done = absurd (not_done refl)
each_answer (answers.Narrow value) not_done = absurd (not_done refl)
each_answer (answers.Wide value) not_done = absurd (not_done refl)
each_answer answers.Moving not_done = refl
each_answer answers.Done not_done = absurd (not_done refl)
each_answer (answers.Pins root child machine supervisor) not_done = absurd (not_done refl)
each_answer (answers.Entry entry) not_done = absurd (not_done refl)
each_answer (answers.Part part) not_done = absurd (not_done refl)
each_answer answers.Bad not_done = refl
each_answer answers.NoMachine not_done = refl
each_answer answers.Again not_done = refl
each_answer (answers.Refused word) not_done = named word

-- a row of the table: its own number, or the rows below it
row_by : (n k : ℕ) (own answer : Answer) (below : Option Answer) → number (code_of own) ≡ pos k
    → (below ≡ Some answer → number (code_of answer) ≡ pos n)
    → (test : Bool) → nat_eq n k ≡ test → (if test then Some own else below) ≡ Some answer → number (code_of answer) ≡ pos n
row_by n k own answer below is later true same found =
    ap (λ (a : Answer). number (code_of a)) (sym (same_Some own answer found)) ∙ is ∙ ap pos (sym (eqb-true n k same))
row_by n k own answer below is later false other found = later found

row : (n k : ℕ) (own answer : Answer) (below : Option Answer) → number (code_of own) ≡ pos k
    → (below ≡ Some answer → number (code_of answer) ≡ pos n)
    → (if nat_eq n k then Some own else below) ≡ Some answer → number (code_of answer) ≡ pos n
row n k own answer below is later found = row_by n k own answer below is later (nat_eq n k) refl found

pub only_its : (code : ℤ) (answer : Answer) → answer_of code ≡ Some answer → number (code_of answer) ≡ code
only_its (negsuc n) answer found = absurd (none-some answer found)
only_its (pos n) answer found =
    row n 16 answers.NoMachine answer _ refl
    (row n 17 answers.Again answer _ refl
    (row n 18 answers.Moving answer _ refl
    (row n 19 answers.Bad answer _ refl
    (row n 32 (answers.Refused words.Range) answer _ refl
    (row n 33 (answers.Refused words.Full) answer _ refl
    (row n 34 (answers.Refused words.Busy) answer _ refl
    (row n 35 (answers.Refused words.Home) answer _ refl
    (row n 36 (answers.Refused words.Entered) answer _ refl
    (row n 37 (answers.Refused words.Parked) answer _ refl
    (row n 38 (answers.Refused words.NoFile) answer _ refl
    (row n 39 (answers.Refused words.Passed) answer _ refl
    (row n 40 (answers.Refused words.Unready) answer _ refl
    (row n 41 (answers.Refused words.Idle) answer _ refl
    (row n 42 (answers.Refused words.Away) answer _ refl
    (row n 43 (answers.Refused words.Illegal) answer _ refl
    (row n 44 (answers.Refused words.Virtual) answer _ refl
    (row n 45 (answers.Refused words.Fault) answer _ refl
    (row n 46 (answers.Refused words.Guarded) answer _ refl
    (row n 47 (answers.Refused words.Other) answer _ refl
    (row n 48 (answers.Refused words.NotValid) answer _ refl
    (row n 49 (answers.Refused words.GFault) answer _ refl
    (λ none. absurd (none-some answer none))))))))))))))))))))))) found

-- ---- the word of an answer, without its line feed

pub some_text : (answer : Answer) (n : ℕ) (items : List ℕ) → n ≡ length items → items ≡ answer_text answer → 1 ≤ n
unfolding answer_text
some_text answer n items long text = omega (arith, long, ap length text, length-append (answer_word answer) (10 ∷ []))

pub word_alone : (answer : Answer) (n : ℕ) (items written rest : List ℕ) → n ≡ length items → items ≡ answer_text answer
    → written ≡ take (n - 1) items → take (n - 1) (written ++ rest) ≡ answer_word answer
unfolding answer_text
word_alone answer n items written rest long text is =
    let word = answer_word answer in
    let size : n - 1 ≡ length word + 0 = omega (arith, long, ap length text, length-append word (10 ∷ [])) in
    let front : take (n - 1) items ≡ word = ap (λ (xs : List ℕ). take (n - 1) xs) text ∙ ap (λ k. take k (word ++ 10 ∷ [])) size
    ∙ take-append-add word (10 ∷ []) 0 ∙ append-nil word in
    ap (λ (xs : List ℕ). take (n - 1) (xs ++ rest)) (is ∙ front) ∙ ap (λ k. take k (word ++ rest)) size
    ∙ take-append-add word rest 0 ∙ append-nil word
