-- Scripts one after another are answered as one.
use Rattle.std.proofs.Common.{◌≡◌, ℕ, Bool, true, false, nat_eq, List, [], ◌∷◌, ◌++◌, inl, inr, refl, sym, ap, ◌∙◌, subst}
use Rattle.std.specs.Prelude.{ℤ}
use Rattle.std.specs.List.{onto_first}
use Rattle.std.proofs.lemmas.List.{append_assoc, append-nil}
use Rattle.aia_model.specs.declared.line.Line.{Line}
use Rattle.aia_model.specs.declared.parsed.Parsed.{Parsed}
use Rattle.aia_model.specs.declared.parsed.Parsed.TheVariants as parsed
use Rattle.aia_model.specs.Event.{History}
use Rattle.aia_model.specs.Text.{texts_of}
use Rattle.aia_model.specs.Reading.{reading}
use Rattle.aia_model.specs.Answer.{answer}
use Rattle.aia_model.specs.Script.{printed, text_answer, after_text, after_texts, answers_from}
use Rattle.aia_replay.specs.Runs.{NoEnd, AreWholeLines}
use Rattle.aia_replay.specs.Stands.{EngineState, StandsFor}
use Rattle.aia_replay.proofs.CutLemmas.{texts_front}
use Rattle.aia_c.specs.Calls.{Gives, Answers, Does}
use Rattle.aia_c.specs.Joined.{Call, AreAnswered, AreDone, DoesText, script_of, bytes_of, left_by}

-- ---- texts one after another

first_of_more : (b : ℕ) (texts more : List (List ℕ)) (text : List ℕ) → onto_first b ((text ∷ texts) ++ more) ≡ onto_first b (text ∷ texts) ++ more
first_of_more b texts more text = refl

-- what ends with an LF has a first text
abbrev HasText : List ℕ → Type 0
HasText front = (text : List ℕ) × (texts : List (List ℕ)) × (texts_of (front ++ 10 ∷ []) ≡ text ∷ texts)

some_text_by : (b : ℕ) (front : List ℕ) (is : Bool) → nat_eq b 10 ≡ is → HasText front → HasText (b ∷ front)
some_text_by b front true e some = ([], texts_of (front ++ 10 ∷ []), rw e refl)
some_text_by b front false e some = (b ∷ some.0, some.1, rw e (ap (onto_first b) some.2))

some_text : (front : List ℕ) → HasText front
some_text [] = ([], [], refl)
some_text (b ∷ front) = some_text_by b front (nat_eq b 10) refl (some_text front)

abbrev Splits : List ℕ → List ℕ → Type 0
Splits front rest = texts_of ((front ++ 10 ∷ []) ++ rest) ≡ texts_of (front ++ 10 ∷ []) ++ texts_of rest

splits_by : (b : ℕ) (front rest : List ℕ) (is : Bool) → nat_eq b 10 ≡ is → Splits front rest → Splits (b ∷ front) rest
splits_by b front rest true e splits = rw e (ap (λ (texts : List (List ℕ)). [] ∷ texts) splits)
splits_by b front rest false e splits =
    let some = some_text front in
    let Puts = λ (texts : List (List ℕ)). onto_first b (texts ++ texts_of rest) ≡ onto_first b texts ++ texts_of rest in
    rw e (ap (onto_first b) splits ∙ subst Puts (sym some.2) (first_of_more b some.1 (texts_of rest) some.0))

line_and_more : (front rest : List ℕ) → Splits front rest
line_and_more [] rest = refl
line_and_more (b ∷ front) rest = splits_by b front rest (nat_eq b 10) refl (line_and_more front rest)

-- the texts of whole lines, and of more after them
pub texts_whole : (front rest : List ℕ) → AreWholeLines front → texts_of (front ++ rest) ≡ texts_of front ++ texts_of rest
texts_whole front rest (inl none) = rw none refl
texts_whole front rest (inr (lines, e)) = rw e (line_and_more lines rest)

pub whole_again : (front more : List ℕ) → AreWholeLines front → AreWholeLines more → AreWholeLines (front ++ more)
whole_again front more (inl none) whole = subst AreWholeLines (sym (ap (λ xs. xs ++ more) none)) whole
whole_again front more (inr lines) (inl none) = inr (lines.0, ap (λ xs. front ++ xs) none ∙ append-nil front ∙ lines.1)
whole_again front more whole (inr lines) = inr (front ++ lines.0, ap (λ xs. front ++ xs) lines.1 ∙ sym (append_assoc front lines.0 (10 ∷ [])))

pub answers_more : (h : History) (texts more : List (List ℕ))
    → answers_from h (texts ++ more) ≡ answers_from h texts ++ answers_from (after_texts h texts) more
answers_more h [] more = refl
answers_more h (text ∷ texts) more =
    let first = printed (text_answer h (reading text)) in
    let next = after_text h (reading text) in
    ap (λ xs. first ++ xs) (answers_more next texts more)
    ∙ sym (append_assoc first (answers_from next texts) (answers_from (after_texts next texts) more))

pub after_more : (h : History) (texts more : List (List ℕ)) → after_texts h (texts ++ more) ≡ after_texts (after_texts h texts) more
after_more h [] more = refl
after_more h (text ∷ texts) more = after_more (after_text h (reading text)) texts more

-- ---- scripts one after another

pub nothing_answered : (e : EngineState) → Answers e e [] []
nothing_answered e = record { answers = λ h stands. refl; stands = λ h stands. stands }

pub answered_more : (old mid new : EngineState) (script more bytes others : List ℕ) → AreWholeLines script → Answers old mid script bytes
    → Answers mid new more others → Answers old new (script ++ more) (bytes ++ others)
answered_more old mid new script more bytes others whole one two = record {
  answers = λ h stands.
      let next = after_texts h (texts_of script) in
      ap (λ xs. xs ++ others) (one.answers h stands) ∙ ap (λ xs. answers_from h (texts_of script) ++ xs) (two.answers next (one.stands h stands))
      ∙ sym (answers_more h (texts_of script) (texts_of more)) ∙ ap (answers_from h) (sym (texts_whole script more whole));
  stands = λ h stands.
      let joined = after_more h (texts_of script) (texts_of more) in
      subst (StandsFor new) (sym joined ∙ ap (after_texts h) (sym (texts_whole script more whole)))
      (two.stands (after_texts h (texts_of script)) (one.stands h stands));
}

pub one_line : (old new : EngineState) (text bytes : List ℕ) → NoEnd text → Gives old new text bytes → Answers old new (text ++ 10 ∷ []) bytes
one_line old new text bytes none gives = record {
  answers = λ h stands. gives.answers h stands ∙ sym (append-nil (printed (text_answer h (reading text))))
      ∙ ap (answers_from h) (sym (texts_front text [] none));
  stands = λ h stands. subst (λ (texts : List (List ℕ)). StandsFor new (after_texts h texts)) (sym (texts_front text [] none))
      (gives.stands h stands);
}

pub joined : (calls : List Call) (old : EngineState) → AreAnswered old calls → Answers old (left_by old calls) (script_of calls) (bytes_of calls)
joined [] old all = nothing_answered old
joined (call ∷ calls) old all =
    answered_more old call.engine (left_by call.engine calls) call.script (script_of calls) call.bytes (bytes_of calls) all.0.lines all.0.answers
    (joined calls call.engine all.1)

pub left : (calls : List Call) (old : EngineState) (h : History) → StandsFor old h → AreDone old calls
    → StandsFor (left_by old calls) (after_texts h (texts_of (script_of calls)))
left [] old h stands all = stands
left (call ∷ calls) old h stands all =
    let next = after_texts h (texts_of call.script) in
    let whole = texts_whole call.script (script_of calls) all.0.lines in
    subst (StandsFor (left_by call.engine calls)) (sym (after_more h (texts_of call.script) (texts_of (script_of calls)))
    ∙ ap (after_texts h) (sym whole))
    (left calls call.engine next (all.0.moves h stands) all.1)

pub as_text : (old new : EngineState) (line : Line) (text : List ℕ) (code : ℤ) → NoEnd text → reading text ≡ parsed.Line line
    → Does old new line code → DoesText old new text code
as_text old new line text code none is does = record {
  answers = λ h stands. (answer h line, ap (text_answer h) is, does.answers h stands);
  moves = λ h stands. subst (λ (texts : List (List ℕ)). StandsFor new (after_texts h texts)) (sym (texts_front text [] none))
      (subst (λ (p : Parsed). StandsFor new (after_text h p)) (sym is) (does.stands h stands));
}
