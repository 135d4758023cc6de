-- A script is answered text by text.
use Rattle.std.proofs.Common.{◌≡◌, ℕ, ◌+◌, ◌<◌, ◌≤◌, List, [], ◌∷◌, ◌++◌, length, take, drop, Option, inl, inr, refl, sym, ap, ◌∙◌, subst, arith}
use Rattle.std.specs.Prelude.{◌⊎◌, ◌-◌, Result, Ok, Err, OnErr, ℤ}
use borrow.Rule.Slice.PartMut.{put_mid}
use Rattle.std.proofs.lemmas.List.{append_assoc, append-nil, take-append-drop, take_all, drop_all, drop-drop, length-take, length-drop, length-append}
use Rattle.std.proofs.Math.Seq.{take-add, take-append-add, drop-append-add}
use Rattle.aia_model.specs.declared.answer.Answer.{Answer}
use Rattle.aia_model.specs.Text.{texts_of}
use Rattle.aia_model.specs.Reading.{reading}
use Rattle.aia_model.specs.Script.{printed, text_answer, after_texts, answers_from}
use Rattle.aia_replay.specs.Runs.{NoEnd, AreWholeLines}
use Rattle.aia_replay.specs.Stands.{EngineState, StandsFor, ServesText, ReadsAsMachine}
use Rattle.aia_replay.proofs.CutLemmas.{texts_front}
use Rattle.aia_replay.proofs.HeldLemmas.{one_text}
use Rattle.aia_model.specs.declared.limits.TheConstants.{ANSWER_BYTES}
use Rattle.aia_c.specs.Calls.{Gives, Answers, WantsMemory, IsCramped, Reads, Lines, ReadsCode, Texts}
use Rattle.aia_c.proofs.JoinedLemmas.{one_line, answered_more, whole_again}

-- ---- the first text of a script

-- its text is t bytes, and n with the LF; or both are all of the script
abbrev pub Cut : List ℕ → ℕ → ℕ → Type 0
Cut script t n = (take n script ≡ take t script ++ 10 ∷ []) ⊎ ((t ≡ length script) × (n ≡ length script))

pub on_error : {T E P : Type 0} (r : Result T E) → P → OnErr r P
on_error (Ok x) p = tt
on_error (Err e) p = p

gives : (old new : EngineState) (text bytes : List ℕ) (word : Option Answer) → bytes ≡ printed word → ServesText old new (reading text) word
    → Gives old new text bytes
gives old new text bytes word e serves = record { answers = λ h stands. e ∙ ap printed (serves.answers h stands); stands = serves.stands }

last_line : (old new : EngineState) (text bytes : List ℕ) → 0 < length text → NoEnd text → Gives old new text bytes → Answers old new text bytes
last_line old new text bytes some none is = record {
  answers = λ h stands. is.answers h stands ∙ sym (append-nil (printed (text_answer h (reading text))))
      ∙ ap (answers_from h) (sym (one_text text some none));
  stands = λ h stands. subst (λ (texts : List (List ℕ)). StandsFor new (after_texts h texts)) (sym (one_text text some none)) (is.stands h stands);
}

all_taken : (script : List ℕ) (t : ℕ) → t ≡ length script → take t script ≡ script
all_taken script t e = take_all t script (omega (arith, e))

pub first_answered : (old new : EngineState) (script bytes : List ℕ) (t n : ℕ) (word : Option Answer) → 0 < length script → NoEnd (take t script)
    → Cut script t n → bytes ≡ printed word
    → ServesText old new (reading (take t script)) word → Answers old new (take n script) bytes
first_answered old new script bytes t n word some none (inl line) e serves =
    subst (λ (front : List ℕ). Answers old new front bytes) (sym line)
    (one_line old new (take t script) bytes none (gives old new (take t script) bytes word e serves))
first_answered old new script bytes t n word some none (inr all) e serves =
    let long : 0 < length (take t script) = omega (arith, some, ap length (all_taken script t all.0)) in
    subst (λ k. Answers old new (take k script) bytes) (all.0 ∙ sym all.1)
    (last_line old new (take t script) bytes long none (gives old new (take t script) bytes word e serves))

pub first_wants : (old new : EngineState) (script : List ℕ) (t n : ℕ) → 0 < length script → NoEnd (take t script) → Cut script t n → new ≡ old
    → StandsFor new []
    → ReadsAsMachine old (reading (take t script)) → WantsMemory new script
first_wants old new script t n some none (inl line) same stands asks = record {
  none = stands;
  text = take t script;
  more = texts_of (drop n script);
  first = ap texts_of (sym (take-append-drop n script) ∙ ap (λ (front : List ℕ). front ++ drop n script) line
      ∙ append_assoc (take t script) (10 ∷ []) (drop n script))
      ∙ texts_front (take t script) (drop n script) none;
  asks = subst (λ (e : EngineState). ReadsAsMachine e (reading (take t script))) (sym same) asks;
}
first_wants old new script t n some none (inr all) same stands asks =
    let whole = all_taken script t all.0 in
    record {
      none = stands;
      text = take t script;
      more = [];
      first = ap texts_of (sym whole) ∙ one_text (take t script) (omega (arith, some, ap length whole)) none;
      asks = subst (λ (e : EngineState). ReadsAsMachine e (reading (take t script))) (sym same) asks;
    }

-- ---- more and more of it

-- what a front of the script was answered: t bytes of it are taken, and w bytes written to the room
pub record SoFar (old now : EngineState) (script before room : List ℕ) (t w : ℕ) : Type 0 where
  pub taken : t ≤ length script
  pub written : w ≤ length before
  pub same : length room ≡ length before
  pub lines : AreWholeLines (take t script) ⊎ (t ≡ length script)
  pub answers : Answers old now (take t script) (take w room)
  pub rest : drop w room ≡ drop w before

pub nothing_yet : (e : EngineState) (script before : List ℕ) → SoFar e e script before before 0 0
nothing_yet e script before = record {
  taken = omega arith;
  written = omega arith;
  same = refl;
  lines = inl (inl refl);
  answers = record { answers = λ h stands. refl; stands = λ h stands. stands };
  rest = refl;
}

-- the front is whole lines while more is to come
whole_front : {old now : EngineState} {script before room : List ℕ} {t w : ℕ} → SoFar old now script before room t w → t < length script
    → AreWholeLines (take t script)
whole_front {old} {now} {script} {before} {room} {t} {w} s low = elim s.lines [ inl whole ↦ whole | inr all ↦ absurd (omega (arith, low, all)) ]

-- the room with what was written behind its first w bytes
room_is : (a new : List ℕ) (w : ℕ) → put_mid w (length a - w) a new ≡ take w a ++ new
room_is a new w =
    let past : drop (length a - w) (drop w a) ≡ [] = drop_all (length a - w) (drop w a) (omega (arith, length-drop w a)) in
    ap (λ (end : List ℕ). take w a ++ (new ++ end)) past ∙ ap (λ (end : List ℕ). take w a ++ end) (append-nil new)

lines_more : (script rest : List ℕ) (t line : ℕ) → rest ≡ drop t script → t ≤ length script → AreWholeLines (take t script)
    → AreWholeLines (take line rest) ⊎ (line ≡ length rest)
    → AreWholeLines (take (t + line) script) ⊎ (t + line ≡ length script)
lines_more script rest t line is low whole (inl lines) =
    inl (subst AreWholeLines (sym (take-add t line script))
    (whole_again (take t script) (take line (drop t script)) whole (subst (λ (xs : List ℕ). AreWholeLines (take line xs)) is lines)))
lines_more script rest t line is low whole (inr all) = inr (omega (arith, all, ap length is, length-drop t script, low))

-- one text more
pub one_more : (old mid new : EngineState) (script before a rest part room : List ℕ) (t w line x : ℕ) → SoFar old mid script before a t w
    → t < length script → rest ≡ drop t script → part ≡ drop w a
    → line ≤ length rest → x ≤ length part → length room ≡ length part → AreWholeLines (take line rest) ⊎ (line ≡ length rest)
    → Answers mid new (take line rest) (take x room) → drop x room ≡ drop x part
    → SoFar old new script before (put_mid w (length a - w) a room) (t + line) (w + x)
one_more old mid new script before a rest part room t w line x s low is place few small same lines answers kept =
    let whole = whole_front s low in
    let filled = room_is a room w in
    let short : length (take w a) ≡ w = omega (arith, length-take w a, s.written, s.same) in
    let long : length part ≡ length a - w = ap length place ∙ length-drop w a in
    let front : take (w + x) (put_mid w (length a - w) a room) ≡ take w a ++ take x room =
    ap (λ (xs : List ℕ). take (w + x) xs) filled ∙ subst (λ n. take (n + x) (take w a ++ room) ≡ take w a ++ take x room) short
    (take-append-add (take w a) room x) in
    let back : drop (w + x) (put_mid w (length a - w) a room) ≡ drop x room =
    ap (λ (xs : List ℕ). drop (w + x) xs) filled ∙ subst (λ n. drop (n + x) (take w a ++ room) ≡ drop x room) short
    (drop-append-add (take w a) room x) in
    let joined = answered_more old mid new (take t script) (take line rest) (take w a) (take x room) whole s.answers answers in
    let script_front : take t script ++ take line rest ≡ take (t + line) script = ap (λ (xs : List ℕ). take t script ++ take line xs) is
    ∙ sym (take-add t line script) in
    record {
      taken = omega (arith, few, ap length is, length-drop t script, low);
      written = omega (arith, small, long, s.written, s.same);
      same = ap length filled ∙ length-append (take w a) room ∙ omega (arith, short, same, long, s.written, s.same);
      lines = lines_more script rest t line is s.taken whole lines;
      answers = subst (λ (bytes : List ℕ). Answers old new (take (t + line) script) bytes) (sym front)
          (subst (λ (taken : List ℕ). Answers old new taken (take w a ++ take x room)) script_front joined);
      rest = back ∙ kept ∙ ap (λ (xs : List ℕ). drop x xs) (place ∙ s.rest) ∙ drop-drop x w before;
    }

-- ---- room, and what is left

pub more_left : (script : List ℕ) (t : ℕ) → t < length script → drop t script ≡ [] → ⊥
more_left script t low none = absurd (omega (arith, low, ap length none, length-drop t script))

pub few_room : (old new : Option EngineState) (text bytes : List ℕ) (room : ℕ) (code : ℤ) → room < ANSWER_BYTES → IsCramped old new bytes code
    → Lines old new text bytes room code
few_room old new text bytes room code low is = record { cramped = λ few. is; reads = λ enough. absurd (omega (arith, low, enough)) }

pub enough_room : (old new : Option EngineState) (text bytes : List ℕ) (room : ℕ) (code : ℤ) → ANSWER_BYTES ≤ room → Reads old new text bytes code
    → Lines old new text bytes room code
enough_room old new text bytes room code high is = record { cramped = λ few. absurd (omega (arith, few, high)); reads = λ enough. is }

pub few_room_code : (old new : Option EngineState) (text bytes : List ℕ) (room : ℕ) (code : ℤ) → room < ANSWER_BYTES → IsCramped old new bytes code
    → Texts old new text bytes room code
few_room_code old new text bytes room code low is = record { cramped = λ few. is; reads = λ enough. absurd (omega (arith, low, enough)) }

pub enough_room_code : (old new : Option EngineState) (text bytes : List ℕ) (room : ℕ) (code : ℤ) → ANSWER_BYTES ≤ room
    → ReadsCode old new text bytes code → Texts old new text bytes room code
enough_room_code old new text bytes room code high is = record { cramped = λ few. absurd (omega (arith, few, high)); reads = λ enough. is }
