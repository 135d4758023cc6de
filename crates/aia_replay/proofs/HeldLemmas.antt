-- What a replayer holds after a line and at the end, and what waits in its buffer.
use Rattle.std.proofs.Common.{◌≡◌, ℕ, ◌<◌, false, ◌&&◌, cond, nat_eq, List, [], ◌∷◌, ◌++◌, length, take, Option, inl, inr, refl, sym, ap, subst, ◌∙◌, append_assoc, arith}
use Rattle.std.specs.Io.KnownBytes.{Appends}
use Rattle.std.proofs.KnownBytes.{Appends-nil, Appends-trans}
use Rattle.std.proofs.lemmas.List.{append-nil, length-take, nil_from_length, take_all}
use Rattle.std.proofs.lemmas.List.Elements.{All-append, All-nil}
use Rattle.std.proofs.lemmas.Bool.{cases_lt, lt-leb}
use Rattle.aia_model.specs.declared.parsed.Parsed.{Parsed}
use Rattle.aia_model.specs.declared.parsed.Parsed.TheVariants.{Skip, Bad, Line}
use Rattle.aia_model.specs.Event.{History}
use Rattle.aia_model.specs.Text.{texts_of, words_of}
use Rattle.aia_model.specs.Reading.{reading, parsed_of, line_at}
use Rattle.aia_model.specs.Script.{answers, answers_from, printed, text_answer, after_text, after_texts}
use Rattle.aia_replay.specs.declared.replayer.Replayer.{Replayer}
use Rattle.aia_replay.specs.declared.buffered.Buffered.{Buffered}
use Rattle.aia_io.specs.Ends.{CutOff}
use Rattle.aia_replay.specs.Buffered.{Gathers}
use Rattle.aia_replay.specs.Stands.{EngineState, StandsFor, ReadsAsMachine}
use Rattle.aia_io.specs.Lines.{NoEnd}
use Rattle.aia_replay.specs.Runs.{AsksMachine, CutsLines}
use Rattle.aia_replay.specs.Streams.{WritesOut, WritesOutFront, HasAnswered, HasStopped, Begins, AnswersText, LacksMemory}
use Rattle.aia_replay.proofs.CutLemmas.{texts_front, texts_last, take_again}

-- ---- what waits in the buffer

-- what passes after what waits
passes_more : (out more : List ℕ) (before mid now : Option (List ℕ)) (written added : List ℕ) → Gathers [] out before mid written
    → Gathers out more mid now added → Gathers [] more before now (written ++ added)
passes_more out more before mid now written added first then = record {
  taken = first.taken ++ then.taken;
  appended = Appends-trans before mid now first.taken then.taken first.appended then.appended;
  together = append_assoc first.taken then.taken more ∙ ap (λ xs. first.taken ++ xs) then.together ∙ sym (append_assoc first.taken out added)
      ∙ ap (λ xs. xs ++ added) first.together;
}

-- all that waits is written
pub all_written : (out : List ℕ) (before mid now : Option (List ℕ)) (written : List ℕ) → Gathers [] out before mid written → Appends mid now out
    → Appends before now written
all_written out before mid now written passed last =
    subst (Appends before now) passed.together (Appends-trans before mid now passed.taken out passed.appended last)

written_out : (out new : List ℕ) (before mid now : Option (List ℕ)) (written : List ℕ) → Gathers [] out before mid written → Appends mid now out
    → new ≡ [] → Gathers [] new before now written
written_out out new before mid now written passed last empty = record {
  taken = written;
  appended = all_written out before mid now written passed last;
  together = ap (λ xs. written ++ xs) empty ∙ append-nil written;
}

-- ---- reading on

-- a text of over 128 bytes is bad, whatever they are
too_long : (b : ℕ) (bytes : List ℕ) → 128 < length (b ∷ bytes) → reading (b ∷ bytes) ≡ Bad
unfolding reading
too_long b bytes long = ap (λ short. cond (short && nat_eq b 35) Skip (cond short (parsed_of (line_at (words_of (b ∷ bytes)))) Bad))
    (lt-leb (length (b ∷ bytes)) 128 long)

-- of a long text the first 129 bytes read the same
reading_take : (text : List ℕ) → reading (take 129 text) ≡ reading text
reading_take [] = refl
reading_take (b ∷ bytes) =
    elim (cases_lt 129 (length (b ∷ bytes))) [
      | inl long ↦ too_long b (take 128 bytes) (omega (arith, length-take 128 bytes)) ∙ sym (too_long b bytes (omega arith))
      | inr short ↦ ap reading (take_all 129 (b ∷ bytes) short)
    ]

-- a part of a line is kept
pub part_kept : (old new : Replayer) (before now : Option (List ℕ)) (bytes part : List ℕ) → NoEnd part
    → new.line.items ≡ take 129 (old.line.items ++ part) → new ≡ record old { line = new.line } → HasAnswered old before now bytes
    → HasAnswered new before now (bytes ++ part)
part_kept old new before now bytes part none line others holds = record {
  history = holds.history;
  written = holds.written;
  whole = holds.whole;
  tail = holds.tail ++ part;
  stands = subst (λ (r : Replayer). StandsFor r.engine holds.history) (sym others) holds.stands;
  gathered = subst (λ (r : Replayer). Gathers [] r.out.bytes.items before now holds.written) (sym others) holds.gathered;
  split = ap (λ xs. xs ++ part) holds.split ∙ append_assoc holds.whole holds.tail part;
  answered = holds.answered;
  lines = holds.lines;
  told = holds.told;
  tells = λ more. ap (λ xs. after_texts holds.history (texts_of xs)) (append_assoc holds.tail part more) ∙ holds.tells (part ++ more)
      ∙ ap (λ xs. after_texts [] (texts_of xs)) (sym (append_assoc bytes part more));
  completes = λ more. ap (λ xs. holds.written ++ answers_from holds.history (texts_of xs)) (append_assoc holds.tail part more)
      ∙ holds.completes (part ++ more) ∙ ap answers (sym (append_assoc bytes part more));
  no_end = All-append (λ b. nat_eq b 10 ≡ false) holds.tail part holds.no_end none;
  line = line ∙ ap (λ xs. take 129 (xs ++ part)) holds.line ∙ take_again holds.tail part 129;
}

-- ---- a line that is read where it stands, as if its parts were kept first

abbrev pub with_part : Replayer → List ℕ → Replayer
with_part r part = record r { line = record r.line { items = take 129 (r.line.items ++ part) } }

pub as_kept : (old new : Replayer) (mid now : Option (List ℕ)) (part : List ℕ) → AnswersText old new mid now (old.line.items ++ part)
    → AnswersText (with_part old part) new mid now (with_part old part).line.items
as_kept old new mid now part answered = record {
  read = record {
    answers = λ h stands. subst (λ (p : Parsed). Gathers old.out.bytes.items new.out.bytes.items mid now (printed (text_answer h p)))
        (sym (reading_take (old.line.items ++ part))) (answered.read.answers h stands);
    stands = λ h stands. subst (λ (p : Parsed). StandsFor new.engine (after_text h p)) (sym (reading_take (old.line.items ++ part)))
        (answered.read.stands h stands);
  };
  empty = answered.empty;
}

pub lacks_kept : (old new : Replayer) (mid now : Option (List ℕ)) (part : List ℕ) → LacksMemory old new mid now (old.line.items ++ part)
    → LacksMemory (with_part old part) new mid now (with_part old part).line.items
lacks_kept old new mid now part lacks = record {
  asks = subst (ReadsAsMachine old.engine) (sym (reading_take (old.line.items ++ part))) lacks.asks;
  same = lacks.same;
  kept = lacks.kept;
}

-- a part was kept, and the line answered then
pub kept_answered : (old kept new : Replayer) (mid now : Option (List ℕ)) (part : List ℕ) → kept.line.items ≡ take 129 (old.line.items ++ part)
    → kept ≡ record old { line = kept.line } → AnswersText kept new mid now kept.line.items → AnswersText old new mid now (old.line.items ++ part)
kept_answered old kept new mid now part line others answered =
    let same : reading kept.line.items ≡ reading (old.line.items ++ part) = ap reading line ∙ reading_take (old.line.items ++ part) in
    let engine : kept.engine ≡ old.engine = ap (λ (r : Replayer). r.engine) others in
    let out : kept.out ≡ old.out = ap (λ (r : Replayer). r.out) others in
    record {
      read = record {
        answers = λ h stands. subst (λ (p : Parsed). Gathers old.out.bytes.items new.out.bytes.items mid now (printed (text_answer h p))) same
            (subst (λ (o : Buffered). Gathers o.bytes.items new.out.bytes.items mid now (printed (text_answer h (reading kept.line.items)))) out
            (answered.read.answers h (subst (λ (e : EngineState). StandsFor e h) (sym engine) stands)));
        stands = λ h stands. subst (λ (p : Parsed). StandsFor new.engine (after_text h p)) same
            (answered.read.stands h (subst (λ (e : EngineState). StandsFor e h) (sym engine) stands));
      };
      empty = answered.empty;
    }

pub kept_lacks : (old kept new : Replayer) (mid now : Option (List ℕ)) (part : List ℕ) → kept.line.items ≡ take 129 (old.line.items ++ part)
    → kept ≡ record old { line = kept.line } → LacksMemory kept new mid now kept.line.items → LacksMemory old new mid now (old.line.items ++ part)
kept_lacks old kept new mid now part line others lacks =
    let same : reading kept.line.items ≡ reading (old.line.items ++ part) = ap reading line ∙ reading_take (old.line.items ++ part) in
    record {
      asks = subst (λ (e : EngineState). ReadsAsMachine e (reading (old.line.items ++ part))) (ap (λ (r : Replayer). r.engine) others)
          (subst (ReadsAsMachine kept.engine) same lacks.asks);
      same = lacks.same ∙ ap (λ (r : Replayer). r.out) others;
      kept = lacks.kept;
    }

-- nothing was kept
pub in_place : (line part : List ℕ) → length line ≡ 0 → line ++ part ≡ part
in_place line part empty = ap (λ xs. xs ++ part) (nil_from_length line empty)

-- ---- what is read of a tail

-- the line that is kept reads as the whole tail, and its answer passes after all that was answered
tail_read : (r : Replayer) (before now : Option (List ℕ)) (bytes : List ℕ) → (holds : HasAnswered r before now bytes)
    → reading r.line.items ≡ reading holds.tail
tail_read r before now bytes holds = ap reading holds.line ∙ reading_take holds.tail

reply_passes : (old new : Replayer) (before mid now : Option (List ℕ)) (bytes : List ℕ) → AnswersText old new mid now old.line.items
    → (holds : HasAnswered old before mid bytes)
    → Gathers [] new.out.bytes.items before now (holds.written ++ printed (text_answer holds.history (reading holds.tail)))
reply_passes old new before mid now bytes line holds =
    let h = holds.history in
    let reply = subst (λ (p : Parsed). Gathers old.out.bytes.items new.out.bytes.items mid now (printed (text_answer h p)))
    (tail_read old before mid bytes holds) (line.read.answers h holds.stands) in
    passes_more old.out.bytes.items new.out.bytes.items before mid now holds.written (printed (text_answer h (reading holds.tail)))
    holds.gathered reply

-- the line's LF is read, and the line answered
pub line_ended : (old new : Replayer) (before mid now : Option (List ℕ)) (bytes : List ℕ) → AnswersText old new mid now old.line.items
    → HasAnswered old before mid bytes → HasAnswered new before now (bytes ++ 10 ∷ [])
line_ended old new before mid now bytes line holds =
    let h = holds.history in
    let reply = printed (text_answer h (reading holds.tail)) in
    let goes = λ (more : List ℕ). let e : (holds.written ++ reply) ++ answers_from (after_text h (reading holds.tail)) (texts_of more) ≡ answers
    ((bytes ++ 10 ∷ []) ++ more) =
    append_assoc holds.written reply (answers_from (after_text h (reading holds.tail)) (texts_of more))
    ∙ sym (ap (λ ts. holds.written ++ answers_from h ts) (texts_front holds.tail more holds.no_end))
    ∙ holds.completes (10 ∷ more) ∙ ap answers (sym (append_assoc bytes (10 ∷ []) more)) in e in
    let tells = λ (more : List ℕ). let e : after_texts (after_text h (reading holds.tail)) (texts_of more) ≡ after_texts []
    (texts_of ((bytes ++ 10 ∷ []) ++ more)) =
    sym (ap (λ ts. after_texts h ts) (texts_front holds.tail more holds.no_end)) ∙ holds.tells (10 ∷ more)
    ∙ ap (λ xs. after_texts [] (texts_of xs)) (sym (append_assoc bytes (10 ∷ []) more)) in e in
    record {
      history = after_text h (reading holds.tail);
      written = holds.written ++ reply;
      whole = bytes ++ 10 ∷ [];
      tail = [];
      stands = subst (λ (p : Parsed). StandsFor new.engine (after_text h p)) (tail_read old before mid bytes holds) (line.read.stands h holds.stands);
      gathered = reply_passes old new before mid now bytes line holds;
      split = sym (append-nil (bytes ++ 10 ∷ []));
      answered = sym (append-nil (holds.written ++ reply)) ∙ goes [] ∙ ap answers (append-nil (bytes ++ 10 ∷ []));
      completes = goes;
      lines = inr (bytes, refl);
      told = tells [] ∙ ap (λ xs. after_texts [] (texts_of xs)) (append-nil (bytes ++ 10 ∷ []));
      tells = tells;
      no_end = All-nil (λ b. nat_eq b 10 ≡ false);
      line = line.empty;
    }

-- the buffer is written out
held_written : (old new : Replayer) (before mid now : Option (List ℕ)) (bytes : List ℕ) → Appends mid now old.out.bytes.items
    → new.out.bytes.items ≡ [] → new ≡ record old { out = new.out } → HasAnswered old before mid bytes → HasAnswered new before now bytes
held_written old new before mid now bytes wrote empty others holds = record {
  history = holds.history;
  written = holds.written;
  whole = holds.whole;
  tail = holds.tail;
  stands = subst (λ (r : Replayer). StandsFor r.engine holds.history) (sym others) holds.stands;
  gathered = written_out old.out.bytes.items new.out.bytes.items before mid now holds.written holds.gathered wrote empty;
  split = holds.split;
  answered = holds.answered;
  completes = holds.completes;
  lines = holds.lines;
  told = holds.told;
  tells = holds.tells;
  no_end = holds.no_end;
  line = ap (λ (r : Replayer). r.line.items) others ∙ holds.line;
}

pub writes_out : (old new : Replayer) (mid now : Option (List ℕ)) → Appends mid now old.out.bytes.items → new.out.bytes.items ≡ []
    → new ≡ record old { out = new.out } → WritesOut old new mid now
writes_out old new mid now wrote empty others = record {
  holds = λ before bytes holds. held_written old new before mid now bytes wrote empty others holds;
  empty = empty;
}

-- ---- the start and the end

pub at_start : (r : Replayer) (before : Option (List ℕ)) → Begins r → HasAnswered r before before []
at_start r before begins = record {
  history = [];
  written = [];
  whole = [];
  tail = [];
  stands = begins.engine;
  gathered = record { taken = []; appended = Appends-nil before; together = begins.out };
  split = refl;
  answered = refl;
  completes = λ more. refl;
  lines = inl refl;
  told = refl;
  tells = λ more. refl;
  no_end = All-nil (λ b. nat_eq b 10 ≡ false);
  line = begins.line;
}

-- nothing is left of a line
pub finished_empty : (r : Replayer) (before mid now : Option (List ℕ)) (bytes : List ℕ) → length r.line.items ≡ 0
    → Appends mid now r.out.bytes.items → HasAnswered r before mid bytes → Appends before now (answers bytes)
finished_empty r before mid now bytes empty wrote holds =
    let tail_empty : holds.tail ≡ [] = nil_from_length holds.tail (omega (arith, empty, ap length holds.line, length-take 129 holds.tail)) in
    subst (Appends before now) (holds.answered ∙ ap answers
    (sym (append-nil holds.whole) ∙ ap (λ t. holds.whole ++ t) (sym tail_empty) ∙ sym holds.split))
    (all_written r.out.bytes.items before mid now holds.written holds.gathered wrote)

pub one_text : (tail : List ℕ) → 0 < length tail → NoEnd tail → texts_of tail ≡ tail ∷ []
one_text [] some none = absurd (omega arith)
one_text (x ∷ xs) some none = texts_last x xs none

last_answered : (r : Replayer) (bytes : List ℕ) (before mid : Option (List ℕ)) → 0 < length r.line.items
    → (holds : HasAnswered r before mid bytes) → holds.written ++ printed (text_answer holds.history (reading holds.tail)) ≡ answers bytes
last_answered r bytes before mid some holds =
    let h = holds.history in
    let reply = printed (text_answer h (reading holds.tail)) in
    let one : texts_of holds.tail ≡ holds.tail ∷ [] =
    one_text holds.tail (omega (arith, ap length holds.line, length-take 129 holds.tail)) holds.no_end in
    ap (λ r. holds.written ++ r) (sym (append-nil reply))
    ∙ sym (ap (λ ts. holds.written ++ answers_from h ts) (ap texts_of (append-nil holds.tail) ∙ one)) ∙ holds.completes []
    ∙ ap answers (append-nil bytes)

-- a last line is answered
pub finished_line : (old new : Replayer) (before mid late now : Option (List ℕ)) (bytes : List ℕ) → 0 < length old.line.items
    → AnswersText old new mid late old.line.items → Appends late now new.out.bytes.items → HasAnswered old before mid bytes
    → Appends before now (answers bytes)
finished_line old new before mid late now bytes some line wrote holds =
    subst (Appends before now) (last_answered old bytes before mid some holds)
    (all_written new.out.bytes.items before late now _ (reply_passes old new before mid late bytes line holds) wrote)

-- ---- where the sink fails, or memory lacks

joined : (a b c d : List ℕ) → (a ++ b) ++ (c ++ d) ≡ (a ++ (b ++ c)) ++ d
joined a b c d = append_assoc a b (c ++ d) ∙ ap (λ xs. a ++ xs) (sym (append_assoc b c d)) ∙ sym (append_assoc a (b ++ c) d)

pub cut_after : (out later all : List ℕ) (before mid now : Option (List ℕ)) (written : List ℕ) → Gathers [] out before mid written
    → CutOff mid now out → written ++ later ≡ all → CutOff before now all
cut_after out later all before mid now written passed cut goes_on = record {
  part = passed.taken ++ cut.part;
  lost = cut.lost ++ later;
  appended = Appends-trans before mid now passed.taken cut.part passed.appended cut.appended;
  together = joined passed.taken cut.part cut.lost later ∙ ap (λ xs. (passed.taken ++ xs) ++ later) cut.together
      ∙ ap (λ xs. xs ++ later) passed.together ∙ goes_on;
}

-- a front of what was held is written
pub holds_cut : (r : Replayer) (before mid now : Option (List ℕ)) (bytes more : List ℕ) → HasAnswered r before mid bytes
    → CutOff mid now r.out.bytes.items → CutsLines before now (bytes ++ more)
holds_cut r before mid now bytes more holds cut = record {
  whole = holds.whole;
  more = holds.tail ++ more;
  split = ap (λ xs. xs ++ more) holds.split ∙ append_assoc holds.whole holds.tail more;
  lines = holds.lines;
  cut = cut_after r.out.bytes.items [] (answers holds.whole) before mid now holds.written holds.gathered cut
      (append-nil holds.written ∙ holds.answered);
}

pub writes_front : (r : Replayer) (mid now : Option (List ℕ)) → CutOff mid now r.out.bytes.items → WritesOutFront r mid now
writes_front r mid now cut = λ before bytes holds. subst (CutsLines before now) (append-nil bytes) (holds_cut r before mid now bytes [] holds cut)

pub holds_cut_all : (r : Replayer) (before mid now : Option (List ℕ)) (bytes : List ℕ) → HasAnswered r before mid bytes
    → CutOff mid now r.out.bytes.items → CutOff before now (answers bytes)
holds_cut_all r before mid now bytes holds cut =
    subst (λ xs. CutOff before now (answers xs)) (append-nil bytes)
    (cut_after r.out.bytes.items _ _ before mid now holds.written holds.gathered cut (holds.completes []))

asks_for : (old : EngineState) (h : History) (text : Parsed) → StandsFor old h → ReadsAsMachine old text → AsksMachine h text
asks_for old h (Line line) stands reads = reads h stands
asks_for old h Skip stands reads = absurd reads
asks_for old h Bad stands reads = absurd reads

-- there is no memory for the machine that the kept line asks for
pub line_stopped : (old new : Replayer) (before mid now : Option (List ℕ)) (bytes more : List ℕ) → LacksMemory old new mid now old.line.items
    → HasAnswered old before mid bytes → HasStopped new before now (bytes ++ more) more
line_stopped old new before mid now bytes more lacks holds =
    record {
      whole = holds.whole;
      text = holds.tail;
      gathered = subst (λ (out : Buffered). Gathers [] out.bytes.items before now (answers holds.whole)) (sym lacks.same)
          (subst (λ k. Gathers [] old.out.bytes.items before k (answers holds.whole)) (sym lacks.kept)
          (subst (Gathers [] old.out.bytes.items before mid) holds.answered holds.gathered));
      split = ap (λ xs. xs ++ more) holds.split ∙ append_assoc holds.whole holds.tail more;
      lines = holds.lines;
      no_end = holds.no_end;
      asks = subst (λ h. AsksMachine h (reading holds.tail)) holds.told
          (subst (AsksMachine holds.history) (tail_read old before mid bytes holds)
          (asks_for old.engine holds.history (reading old.line.items) holds.stands lacks.asks));
    }

pub last_stopped : (old new : Replayer) (before mid now : Option (List ℕ)) (bytes : List ℕ) → LacksMemory old new mid now old.line.items
    → HasAnswered old before mid bytes → HasStopped new before now bytes []
last_stopped old new before mid now bytes lacks holds =
    subst (λ xs. HasStopped new before now xs []) (append-nil bytes) (line_stopped old new before mid now bytes [] lacks holds)

-- the last answer does not go out
pub finished_cut : (old new : Replayer) (before mid late now : Option (List ℕ)) (bytes : List ℕ) → 0 < length old.line.items
    → AnswersText old new mid late old.line.items → CutOff late now new.out.bytes.items → HasAnswered old before mid bytes
    → CutOff before now (answers bytes)
finished_cut old new before mid late now bytes some line cut holds =
    let written = holds.written ++ printed (text_answer holds.history (reading holds.tail)) in
    cut_after new.out.bytes.items [] (answers bytes) before late now written (reply_passes old new before mid late bytes line holds) cut
    (append-nil written ∙ last_answered old bytes before mid some holds)
