-- What a reader has read, line by line.
use Rattle.std.proofs.Common.{append_assoc, ◌≡◌, ℕ, ◌+◌, ◌<◌, ◌≤◌, false, if◌then◌else◌, nat_eq, List, [], ◌∷◌, ◌++◌, length, take, drop, Option, Some, None, Result, Ok, Err, OnOk, is_ok, refl, sym, ap, subst, ◌∙◌, arith}
use Rattle.std.specs.Prelude.{position}
use Rattle.std.proofs.lemmas.List.{append-nil, length-append}
use Rattle.std.proofs.lemmas.List.Elements.{All-append}
use Rattle.plans_text.specs.declared.line.PlanLine.{PlanLine}
use Rattle.plans_text.specs.declared.line.PlanLine.TheVariants as lines
use Rattle.plans_text.specs.declared.line.Reading.{Reading}
use Rattle.plans_text.specs.declared.line.Reading.TheVariants as readings
use Rattle.plans_text.specs.declared.plan_reader.PlanFileReader.{PlanFileReader}
use Rattle.plans_text.specs.declared.plan_file.PlanFile.{PlanFile}
use Rattle.plans_text.specs.Reading.{Text, reading}
use Rattle.plans_text.specs.declared.outcome.FileOutcome.{FileOutcome}
use Rattle.plans_text.specs.PlanFile.{AreInFile, FileRead, all_answers, all_outcomes, answers, as_read, bad_at, line_read, none_read, outcome, plan_answer, read_of, texts_of, with_line, with_text, with_texts}
use Rattle.plans_text.specs.Streaming.{AreWhole, HasRead, WhateverWasRead, after, ended_answers}
use Rattle.aia_io.specs.Lines.{NoEnd}
use Rattle.aia_io.proofs.CutLemmas.{cut_at_end, front_cut, is_end, last_cut, no_end_at_all, no_end_before}
use Rattle.plans_text.proofs.FileLemmas.{texts_cut}

-- ---- answers that were taken out change nothing of what is read on

line_after : (given text : Text) (x : PlanLine) (r : FileRead) → line_read text x (after given r) ≡ after given (line_read text x r)
line_after given text x r = by_bad r.plan.bad
  where
    by_bad : (o : Option ℕ) → (elim o [ Some bad ↦ after given r | None ↦ record (after given r) { plan = with_line r.lines text x r.plan } ])
        ≡ after given (elim o [ Some bad ↦ r | None ↦ record r { plan = with_line r.lines text x r.plan } ])
    by_bad None = refl
    by_bad (Some bad) = refl

bad_after : (given : Text) (r : FileRead) → (elim r.plan.bad
    [ Some bad ↦ after given r | None ↦ record (after given r) { plan = bad_at r.lines r.plan } ]) ≡ after given
    (elim r.plan.bad [ Some bad ↦ r | None ↦ record r { plan = bad_at r.lines r.plan } ])
bad_after given r = by_bad r.plan.bad
  where
    by_bad : (o : Option ℕ) → (elim o [ Some bad ↦ after given r | None ↦ record (after given r) { plan = bad_at r.lines r.plan } ]) ≡ after given
        (elim o [ Some bad ↦ r | None ↦ record r { plan = bad_at r.lines r.plan } ])
    by_bad None = refl
    by_bad (Some bad) = refl

as_after : (given text : Text) (x : Reading) (r : FileRead) → as_read text x (after given r) ≡ after given (as_read text x r)
as_after given text readings.Skip r = refl
as_after given text readings.Bad r = bad_after given r
as_after given text readings.BadPlan r =
    ap (λ a. record (as_read text readings.BadPlan r) { answers = a }) (append_assoc given r.answers (plan_answer r.plan))
as_after given text (readings.Line lines.Plan) r =
    ap (λ a. record (as_read text (readings.Line lines.Plan) r) { answers = a }) (append_assoc given r.answers (plan_answer r.plan))
as_after given text (readings.Line (lines.Words n)) r = line_after given text (lines.Words n) r
as_after given text (readings.Line lines.Fresh) r = line_after given text lines.Fresh r
as_after given text (readings.Line lines.Memory) r = line_after given text lines.Memory r
as_after given text (readings.Line lines.Heeds) r = line_after given text lines.Heeds r
as_after given text (readings.Line lines.Inherited) r = line_after given text lines.Inherited r
as_after given text (readings.Line lines.NoticesUnset) r = line_after given text lines.NoticesUnset r
as_after given text (readings.Line (lines.Numbers from to)) r = line_after given text (lines.Numbers from to) r
as_after given text (readings.Line (lines.Producer kind)) r = line_after given text (lines.Producer kind) r
as_after given text (readings.Line (lines.Step step)) r = line_after given text (lines.Step step) r

pub text_after : (given text : Text) (r : FileRead) → with_text (after given r) text ≡ after given (with_text r text)
text_after given text r = as_after given text (reading text) (record r { lines = r.lines + 1 })

texts_after : (given : Text) (r : FileRead) (texts : List Text) → with_texts (after given r) texts ≡ after given (with_texts r texts)
texts_after given r [] = refl
texts_after given r (text ∷ texts) = ap (λ y. with_texts y texts) (text_after given text r) ∙ texts_after given (with_text r text) texts

with_texts-append : (r : FileRead) (a b : List Text) → with_texts r (a ++ b) ≡ with_texts (with_texts r a) b
with_texts-append r [] b = refl
with_texts-append r (text ∷ a) b = with_texts-append (with_text r text) a b

-- ---- whole lines

none_whole : AreWhole []
none_whole = λ more. refl

line_whole : (whole line : Text) → AreWhole whole → NoEnd line → texts_of (whole ++ (line ++ 10 ∷ [])) ≡ texts_of whole ++ line ∷ []
line_whole whole line lines none = lines (line ++ 10 ∷ []) ∙ ap (λ ts. texts_of whole ++ ts) (front_cut texts_of texts_cut line [] none)

more_whole : (whole line : Text) → AreWhole whole → NoEnd line → AreWhole (whole ++ (line ++ 10 ∷ []))
more_whole whole line lines none = λ more.
    ap texts_of (append_assoc whole (line ++ 10 ∷ []) more ∙ ap (λ xs. whole ++ xs) (append_assoc line (10 ∷ []) more))
    ∙ lines (line ++ 10 ∷ more) ∙ ap (λ ts. texts_of whole ++ ts) (front_cut texts_of texts_cut line more none)
    ∙ sym (append_assoc (texts_of whole) (line ∷ []) (texts_of more)) ∙ ap (λ ts. ts ++ texts_of more) (sym (line_whole whole line lines none))

-- ---- a line ends

pub line_ended : (old new : PlanFileReader) (line part given bytes : Text) → NoEnd part → line ≡ old.rest.items ++ part
    → read_of new.file ≡ with_text (read_of old.file) line → AreInFile new.file.draft → new.file.lines ≡ old.file.lines + 1
    → new.rest.items ≡ [] → HasRead old given bytes → HasRead new given (bytes ++ (part ++ 10 ∷ []))
line_ended old new line part given bytes none is read inside lines empty h =
    let whole_line : line ≡ h.tail ++ part = is ∙ ap (λ xs. xs ++ part) h.rest in
    let no_end : NoEnd line = subst NoEnd (sym whole_line) (All-append (λ b. nat_eq b 10 ≡ false) h.tail part h.no_end none) in
    record {
      whole = h.whole ++ (line ++ 10 ∷ []);
      tail = [];
      split = ap (λ xs. xs ++ (part ++ 10 ∷ [])) h.split ∙ append_assoc h.whole h.tail (part ++ 10 ∷ [])
          ∙ ap (λ xs. h.whole ++ xs) (sym (append_assoc h.tail part (10 ∷ [])) ∙ ap (λ xs. xs ++ 10 ∷ []) (sym whole_line))
          ∙ sym (append-nil (h.whole ++ (line ++ 10 ∷ [])));
      lines = more_whole h.whole line h.lines no_end;
      no_end = λ k d low. absurd (omega (arith, low));
      rest = empty;
      read = ap (after given) read ∙ sym (text_after given line (read_of old.file)) ∙ ap (λ r. with_text r line) h.read
          ∙ sym (ap (with_texts none_read) (line_whole h.whole line h.lines no_end) ∙ with_texts-append none_read (texts_of h.whole) (line ∷ []));
      inside = inside;
      few = omega (arith, lines, h.few, length-append h.whole (line ++ 10 ∷ []), length-append line (10 ∷ []));
    }

-- ---- a piece, line by line

pub record Fed (old now : PlanFileReader) (piece left : Text) : Type 0 where
  pub done : Text
  pub split : piece ≡ done ++ left
  pub reads : WhateverWasRead old (λ given bytes. HasRead now given (bytes ++ done))

pub fed_nothing : (reader : PlanFileReader) (piece : Text) → Fed reader reader piece piece
fed_nothing reader piece = record {
  done = [];
  split = refl;
  reads = λ given bytes h. subst (HasRead reader given) (sym (append-nil bytes)) h;
}

pub fed_line : (old mid now : PlanFileReader) (piece left more : Text) (end : ℕ) → Fed old mid piece left → Some end ≡ position is_end left
    → more ≡ drop (end + 1) left
    → (NoEnd (take end left) → WhateverWasRead mid (λ given bytes. HasRead now given (bytes ++ (take end left ++ 10 ∷ [])))) → Fed old now piece more
fed_line old mid now piece left more end fed at is reads =
    let cut = cut_at_end left end (sym at) in
    record {
      done = fed.done ++ (take end left ++ 10 ∷ []);
      split = fed.split ∙ ap (λ xs. fed.done ++ xs) (cut ∙ ap (λ xs. take end left ++ 10 ∷ xs) (sym is)
          ∙ sym (append_assoc (take end left) (10 ∷ []) more)) ∙ sym (append_assoc fed.done (take end left ++ 10 ∷ []) more);
      reads = λ given bytes h. subst (HasRead now given) (append_assoc bytes fed.done (take end left ++ 10 ∷ []))
          (reads (no_end_before left end (sym at)) given (bytes ++ fed.done) (fed.reads given bytes h));
    }

-- what is left has no LF, and is kept
pub fed_last : (old mid now : PlanFileReader) (piece left : Text) → Fed old mid piece left → None ≡ position is_end left → now.file ≡ mid.file
    → now.rest.items ≡ mid.rest.items ++ left → WhateverWasRead old (λ given bytes. HasRead now given (bytes ++ piece))
fed_last old mid now piece left fed at same rest = λ given bytes h.
    let m = fed.reads given bytes h in
    record {
      whole = m.whole;
      tail = m.tail ++ left;
      split = ap (λ xs. bytes ++ xs) fed.split ∙ sym (append_assoc bytes fed.done left) ∙ ap (λ xs. xs ++ left) m.split
          ∙ append_assoc m.whole m.tail left;
      lines = m.lines;
      no_end = All-append (λ b. nat_eq b 10 ≡ false) m.tail left m.no_end (no_end_at_all left (sym at));
      rest = rest ∙ ap (λ xs. xs ++ left) m.rest;
      read = ap (λ f. after given (read_of f)) same ∙ m.read;
      inside = subst (λ (f : PlanFile). AreInFile f.draft) (sym same) m.inside;
      few = subst (λ (f : PlanFile). f.lines ≤ length m.whole) (sym same) m.few;
    }

-- what is kept where there is memory for it
pub kept_on : {E : Type 0} (P : Type 0) (r : Result (Unit {0}) E) (old new left : Text) → new ≡ (if is_ok r then old ++ left else old)
    → (new ≡ old ++ left → P) → OnOk r P
kept_on P (Ok x) old new left is holds = holds is
kept_on P (Err x) old new left is holds = tt

-- ---- the end

answers_split : (whole tail : Text) → AreWhole whole
    → answers (whole ++ tail) ≡ all_answers (with_texts (with_texts none_read (texts_of whole)) (texts_of tail))
unfolding answers
answers_split whole tail lines = ap (λ ts. all_answers (with_texts none_read ts)) (lines tail)
    ∙ ap all_answers (with_texts-append none_read (texts_of whole) (texts_of tail))

pub last_of : (old new : FileRead) (text : Text) → 0 < length text → new ≡ with_text old text → NoEnd text → new ≡ with_texts old (texts_of text)
last_of old new [] some is none = absurd (omega (arith, some))
last_of old new (x ∷ xs) some is none = is ∙ sym (ap (with_texts old) (last_cut texts_of texts_cut x xs none))

-- the whole file is read, as the last line is
whole_read : (reader : PlanFileReader) (last : PlanFile) (given bytes : Text)
    → (NoEnd reader.rest.items → read_of last ≡ with_texts (read_of reader.file) (texts_of reader.rest.items)) → HasRead reader given bytes
    → after given (read_of last) ≡ with_texts none_read (texts_of bytes)
whole_read reader last given bytes read h =
    let end : read_of last ≡ with_texts (read_of reader.file) (texts_of h.tail) = read (subst NoEnd (sym h.rest) h.no_end)
    ∙ ap (λ xs. with_texts (read_of reader.file) (texts_of xs)) h.rest in
    ap (after given) end ∙ sym (texts_after given (read_of reader.file) (texts_of h.tail)) ∙ ap (λ s. with_texts s (texts_of h.tail)) h.read
    ∙ sym (ap (λ xs. with_texts none_read (texts_of xs)) h.split ∙ ap (with_texts none_read) (h.lines h.tail)
    ∙ with_texts-append none_read (texts_of h.whole) (texts_of h.tail))

pub ended_whole : (reader : PlanFileReader) (last : PlanFile) (out given bytes : Text)
    → (NoEnd reader.rest.items → read_of last ≡ with_texts (read_of reader.file) (texts_of reader.rest.items)) → out ≡ all_answers (read_of last)
    → HasRead reader given bytes → given ++ out ≡ answers bytes
unfolding answers
ended_whole reader last out given bytes read is h =
    ap (λ xs. given ++ xs) is ∙ sym (append_assoc given (read_of last).answers (plan_answer (read_of last).plan))
    ∙ ap all_answers (whole_read reader last given bytes read h)

pub ended_outcome : (reader : PlanFileReader) (last : PlanFile) (came : FileOutcome) (given bytes : Text)
    → (NoEnd reader.rest.items → read_of last ≡ with_texts (read_of reader.file) (texts_of reader.rest.items))
    → came ≡ all_outcomes (read_of last) → HasRead reader given bytes → came ≡ outcome bytes
unfolding outcome
ended_outcome reader last came given bytes read is h = is ∙ ap all_outcomes (whole_read reader last given bytes read h)

-- ---- what was answered is a front of what is answered in the end

bare : (r : FileRead) → after r.answers (record r { answers = [] }) ≡ r
bare r = ap (λ a. record r { answers = a }) (append-nil r.answers)

pub answers_grow : (whole more : Text) → AreWhole whole → (lost : Text) × (ended_answers whole ++ lost ≡ answers (whole ++ more))
answers_grow whole more lines =
    let r : FileRead = with_texts none_read (texts_of whole) in
    let end : FileRead = with_texts (record r { answers = [] }) (texts_of more) in (
      end.answers ++ plan_answer end.plan,
      sym (append_assoc r.answers end.answers (plan_answer end.plan))
          ∙ ap all_answers (sym (texts_after r.answers (record r { answers = [] }) (texts_of more))
          ∙ ap (λ s. with_texts s (texts_of more)) (bare r)) ∙ sym (answers_split whole more lines),
    )
