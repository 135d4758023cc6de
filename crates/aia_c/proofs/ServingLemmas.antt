-- What a call without text answers, by what its line was served.
use Rattle.std.proofs.Common.{◌≡◌, ℕ, false, List, [], refl, sym, ap, ◌∙◌}
use Rattle.std.specs.Prelude.{ℤ, Option, Some, None, Result, Ok, Err}
use Rattle.std.proofs.lemmas.Bool.{false≢true}
use Rattle.aia_model.specs.declared.answer.Answer.{Answer}
use Rattle.std.specs.List.{AllByRecursion}
use Rattle.aia_model.specs.declared.answer.Answer.TheVariants as answers
use Rattle.aia_model.specs.declared.line.Line.{Line}
use Rattle.aia_model.specs.Refusal.{makes_machine}
use Rattle.aia_replay.specs.Stands.{EngineState}
use Rattle.aia_c.specs.declared.code.Code.{Code}
use Rattle.aia_c.specs.Codes.{number, code_of, number_of, read_in, all_read_in}
use Rattle.aia_c.specs.Calls.{Serving, Fetches, FetchesAll}

-- a line that makes no machine wants no memory
fetched : (of : Answer → ℕ) (old new : Option EngineState) (line : Line) (given : Result Answer Code) → makes_machine [] line ≡ false
    → Serving old new line given → Fetches of old new line (number_of given) (read_in of given)
fetched of None new line (Ok answer) plain is = absurd is
fetched of None new line (Err code) plain is = (record { says = ap number is.0; same = is.1 }, refl)
fetched of (Some old) None line given plain is = absurd is
fetched of (Some old) (Some new) line (Ok answer) plain is = record {
  does = record { answers = λ h stands. ap (λ (a : Answer). number (code_of a)) (is.answers h stands); stands = is.stands };
  reads = λ h stands. ap of (is.answers h stands);
}
fetched of (Some old) (Some new) line (Err code) plain is = absurd (false≢true (sym plain ∙ is.1.asks))

pub served : (of : Answer → ℕ) (old new : Option EngineState) (line : Line) (given : Result Answer Code) (code : ℤ) (value : ℕ)
    → Serving old new line given → code ≡ number_of given → value ≡ read_in of given
    → makes_machine [] line ≡ false → Fetches of old new line code value
served of old new line given code value is e f plain = rw (e, f) (fetched of old new line given plain is)

-- the same of several values, which are all 0 where there are none
all_fetched : (of : Answer → List ℕ) (old new : Option EngineState) (line : Line) (given : Result Answer Code)
    → AllByRecursion (λ (value : ℕ). value ≡ 0) (of answers.Bad) → makes_machine [] line ≡ false
    → Serving old new line given → FetchesAll of old new line (number_of given) (all_read_in of given)
all_fetched of None new line (Ok answer) zero plain is = absurd is
all_fetched of None new line (Err code) zero plain is = (record { says = ap number is.0; same = is.1 }, zero)
all_fetched of (Some old) None line given zero plain is = absurd is
all_fetched of (Some old) (Some new) line (Ok answer) zero plain is = record {
  does = record { answers = λ h stands. ap (λ (a : Answer). number (code_of a)) (is.answers h stands); stands = is.stands };
  reads = λ h stands. ap of (is.answers h stands);
}
all_fetched of (Some old) (Some new) line (Err code) zero plain is = absurd (false≢true (sym plain ∙ is.1.asks))

pub all_served : (of : Answer → List ℕ) (old new : Option EngineState) (line : Line) (given : Result Answer Code) (code : ℤ) (values : List ℕ)
    → Serving old new line given → code ≡ number_of given → values ≡ all_read_in of given
    → AllByRecursion (λ (value : ℕ). value ≡ 0) (of answers.Bad)
    → makes_machine [] line ≡ false → FetchesAll of old new line code values
all_served of old new line given code values is e f zero plain = rw (e, f) (all_fetched of old new line given zero plain is)
