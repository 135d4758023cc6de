-- What calls answer to C: a code, and in some a value. Profile.
use Rattle.std.specs.Prelude.{ℕ, ◌+◌, ℤ, pos, negsuc, nat_eq, if◌then◌else◌, Bool, true, false, List, Option, Some, None, Result, Ok, Err}
use Rattle.aia_model.specs.declared.answer.Answer.{Answer}
use Rattle.aia_model.specs.declared.answer.Answer.TheVariants as answers
use Rattle.aia_model.specs.declared.refusal.Refusal.{Refusal}
use Rattle.aia_model.specs.declared.refusal.Refusal.TheVariants as words
use Rattle.aia_c.specs.declared.code.Code.{Code}
use Rattle.aia_c.specs.declared.code.Code.TheVariants as codes

-- The words of refusals, as numbers.
abbrev pub refusal_number : Refusal → ℤ
refusal_number words.Range = pos 32
refusal_number words.Full = pos 33
refusal_number words.Busy = pos 34
refusal_number words.Home = pos 35
refusal_number words.Entered = pos 36
refusal_number words.Parked = pos 37
refusal_number words.NoFile = pos 38
refusal_number words.Passed = pos 39
refusal_number words.Unready = pos 40
refusal_number words.Idle = pos 41
refusal_number words.Away = pos 42
refusal_number words.Illegal = pos 43
refusal_number words.Virtual = pos 44
refusal_number words.Fault = pos 45
refusal_number words.Guarded = pos 46
refusal_number words.Other = pos 47
refusal_number words.NotValid = pos 48
refusal_number words.GFault = pos 49

-- The codes, as numbers: below 16 what the call itself says, from 16 on what the line is answered.
abbrev pub number : Code → ℤ
number codes.Done = pos 0
number codes.NoMemory = pos 1
number codes.Closed = pos 2
number codes.Open = pos 3
number codes.NoRoom = pos 4
number codes.NoLine = pos 5
number codes.NoMachine = pos 16
number codes.Again = pos 17
number codes.Moving = pos 18
number codes.Bad = pos 19
number (codes.Refused word) = refusal_number word

-- The code of an answer: `Done` of each that says that the line did what it says.
abbrev pub code_of : Answer → Code
code_of answers.NoMachine = codes.NoMachine
code_of answers.Again = codes.Again
code_of answers.Moving = codes.Moving
code_of answers.Bad = codes.Bad
code_of (answers.Refused word) = codes.Refused word
code_of answer = codes.Done

-- The code of what a text answers: `Done` where it is skipped.
abbrev pub text_code : Option Answer → Code
text_code None = codes.Done
text_code (Some answer) = code_of answer

-- The answer whose code is a number, None where the number is no code of an answer; `Done` is the
-- code of many, and has none.
abbrev pub answer_at : ℕ → Option Answer
answer_at n =
    if nat_eq n 16 then Some answers.NoMachine
    else (if nat_eq n 17 then Some answers.Again
    else (if nat_eq n 18 then Some answers.Moving
    else (if nat_eq n 19 then Some answers.Bad
    else (if nat_eq n 32 then Some (answers.Refused words.Range)
    else (if nat_eq n 33 then Some (answers.Refused words.Full)
    else (if nat_eq n 34 then Some (answers.Refused words.Busy)
    else (if nat_eq n 35 then Some (answers.Refused words.Home)
    else (if nat_eq n 36 then Some (answers.Refused words.Entered)
    else (if nat_eq n 37 then Some (answers.Refused words.Parked)
    else (if nat_eq n 38 then Some (answers.Refused words.NoFile)
    else (if nat_eq n 39 then Some (answers.Refused words.Passed)
    else (if nat_eq n 40 then Some (answers.Refused words.Unready)
    else (if nat_eq n 41 then Some (answers.Refused words.Idle)
    else (if nat_eq n 42 then Some (answers.Refused words.Away)
    else (if nat_eq n 43 then Some (answers.Refused words.Illegal)
    else (if nat_eq n 44 then Some (answers.Refused words.Virtual)
    else (if nat_eq n 45 then Some (answers.Refused words.Fault)
    else (if nat_eq n 46 then Some (answers.Refused words.Guarded)
    else (if nat_eq n 47 then Some (answers.Refused words.Other)
    else (if nat_eq n 48 then Some (answers.Refused words.NotValid)
    else (if nat_eq n 49 then Some (answers.Refused words.GFault)
    else None)))))))))))))))))))))

abbrev pub answer_of : ℤ → Option Answer
answer_of (pos n) = answer_at n
answer_of (negsuc n) = None

-- How a call with a text went, and the code of the text's answer where it went well.
abbrev pub went_as : Result Code Code → Code
went_as (Ok code) = codes.Done
went_as (Err code) = code

abbrev pub said_as : Result Code Code → Code
said_as (Ok code) = code
said_as (Err code) = code

-- A value of what a line was served, 0 where something stood in the way.
abbrev pub read_in : (Answer → ℕ) → Result Answer Code → ℕ
read_in of (Ok answer) = of answer
read_in of (Err code) = 0

-- Several values of it: where something stood in the way, those of an answer that has none.
abbrev pub all_read_in : (Answer → List ℕ) → Result Answer Code → List ℕ
all_read_in of (Ok answer) = of answer
all_read_in of (Err code) = of answers.Bad

-- What a load read: the 32 bits, 0 where the answer has none.
abbrev pub narrow_of : Answer → ℕ
narrow_of (answers.Narrow value) = value
narrow_of answer = 0

-- What a CSR read: the 64 bits, 0 where the answer has none.
abbrev pub wide_of : Answer → ℕ
wide_of (answers.Wide value) = value
wide_of answer = 0

-- A bit at its place.
abbrev pub bit_at : ℕ → Bool → ℕ
bit_at place true = place
bit_at place false = 0

-- A hart's signals as bits: 1 of the root domain, 2 of its child, 4 of the machine-level file, 8 of
-- the supervisor file.
abbrev pub pins_of : Answer → ℕ
pins_of (answers.Pins root child machine supervisor) =
    bit_at 1 root + bit_at 2 child + bit_at 4 machine + bit_at 8 supervisor
pins_of answer = 0

-- The number of the code of what a line was served: an answer, or what stood in the way.
abbrev pub number_of : Result Answer Code → ℤ
number_of (Ok answer) = number (code_of answer)
number_of (Err code) = number code
