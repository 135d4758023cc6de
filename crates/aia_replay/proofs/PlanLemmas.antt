-- What is read of a plan, text by text and piece by piece.
use Rattle.std.proofs.Common.{◌≡◌, ◌≢◌, ℕ, ◌+◌, ◌<◌, ◌≤◌, Bool, false, ◌&&◌, cond, nat_eq, List, [], ◌∷◌, ◌++◌, length, take, Option, Some, None, IfSome, inl, inr, refl, sym, ap, ap₂, subst, ◌∙◌, append_assoc, arith}
use Rattle.std.specs.Io.KnownBytes.{Appends}
use Rattle.std.proofs.KnownBytes.{Appends-nil}
use Rattle.std.proofs.lemmas.List.{append-nil, length-append, length-take, nil_from_length, take_all}
use Rattle.std.proofs.lemmas.List.Elements.{All-append, All-nil}
use Rattle.std.proofs.lemmas.Bool.{cases_lt, lt-leb}
use Rattle.aia_io.specs.Ends.{Supply, Gives, Rose, CutOff, TakesAll, TakesAtMost}
use Rattle.aia_io.specs.declared.source.Read.TheVariants as reads
use Rattle.aia_io.proofs.SupplyLemmas.{gives_nothing}
use Rattle.aia_model.specs.Text.{texts_of, is_skipped, words_of}
use Rattle.aia_plan.specs.declared.step.Step.{Step}
use Rattle.aia_plan.specs.declared.step.Kind.{Kind}
use Rattle.aia_command.specs.declared.subcommand.Subcommand.TheVariants.{Audit}
use Rattle.aia_script.specs.StepText.{step_of, step_at}
use Rattle.aia_audit.specs.PlanText.{PlanRead, audit_text, plan_of, read_word, with_step, with_text, with_texts}
use Rattle.aia_audit.specs.PlanText.PlanRead.{Steps, BadAt}
use Rattle.aia_io.specs.declared.limits.TheConstants.{SOURCE_BYTES}
use Rattle.aia_replay.specs.declared.plan_reader.PlanReader.{PlanReader}
use Rattle.aia_replay.specs.declared.program.Status.{Status}
use Rattle.aia_replay.specs.declared.program.Status.TheVariants.{Done, ReadFault, WriteFault, Memory, TooLong}
use Rattle.aia_io.specs.Lines.{NoEnd}
use Rattle.aia_replay.specs.Runs.{RunEnds}
use Rattle.aia_replay.specs.Plans.{BeginsPlan, FeedsPlan, FinishesPlan, HoldsPlan, StreamsPlan, plan_read}
use Rattle.aia_io.specs.Taken.{ReadsOn}
use Rattle.aia_replay.proofs.CutLemmas.{texts_front, take_again}
use Rattle.aia_replay.proofs.HeldLemmas.{one_text}
use Rattle.aia_replay.proofs.ProgramLemmas.{all_of}

-- ---- of a long text the first 129 bytes are read the same

long_skipped : (b : ℕ) (bytes : List ℕ) → 128 < length (b ∷ bytes) → is_skipped (b ∷ bytes) ≡ false
long_skipped b bytes long = ap (λ short. short && nat_eq b 35) (lt-leb (length (b ∷ bytes)) 128 long)

long_step : (words : ℕ) (text : List ℕ) → 128 < length text → step_of words text ≡ None
unfolding step_of
long_step words text long = ap (λ short. cond short (step_at words (words_of text)) None) (lt-leb (length text) 128 long)

text_take : (words : ℕ) (read : PlanRead) (text : List ℕ) → with_text words read (take 129 text) ≡ with_text words read text
text_take words read [] = refl
text_take words (BadAt k) (b ∷ bytes) = refl
text_take words (Steps plan) (b ∷ bytes) =
    elim (cases_lt 129 (length (b ∷ bytes))) [
      | inl long ↦
          let short : 128 < length (b ∷ take 128 bytes) = omega (arith, length-take 128 bytes) in
          ap₂ (λ (skipped : Bool) (step : Option Step). cond skipped (Steps plan) (with_step plan step))
          (long_skipped b (take 128 bytes) short ∙ sym (long_skipped b bytes (omega arith)))
          (long_step words (b ∷ take 128 bytes) short ∙ sym (long_step words (b ∷ bytes) (omega arith)))
      | inr short ↦ ap (with_text words (Steps plan)) (take_all 129 (b ∷ bytes) short)
    ]

-- a part was kept of a line, and the line is read then
pub kept_read : (words : ℕ) (read : PlanRead) (line kept part : List ℕ) → kept ≡ take 129 (line ++ part)
    → with_text words read kept ≡ with_text words read (line ++ part)
kept_read words read line kept part is = ap (with_text words read) is ∙ text_take words read (line ++ part)

-- the line that is kept is read as the whole tail
tail_read : (words : ℕ) (read : PlanRead) (line tail part : List ℕ) → line ≡ take 129 tail
    → with_text words read (line ++ part) ≡ with_text words read (tail ++ part)
tail_read words read line tail part is =
    sym (text_take words read (line ++ part)) ∙ ap (with_text words read) (ap (λ xs. take 129 (xs ++ part)) is ∙ take_again tail part 129)
    ∙ text_take words read (tail ++ part)

-- ---- a reader after a part, and after a line

pub begins_holds : (r : PlanReader) (words : ℕ) → BeginsPlan r words → HoldsPlan r words []
begins_holds r words begins = record {
  tail = [];
  width = begins.width;
  no_end = All-nil (λ b. nat_eq b 10 ≡ false);
  line = begins.line;
  completes = λ more. ap (λ read. with_texts words read (texts_of more)) begins.read;
}

plan_part : (old new : PlanReader) (words : ℕ) (bytes part : List ℕ) → NoEnd part → new.line.items ≡ take 129 (old.line.items ++ part)
    → new.plan ≡ old.plan → HoldsPlan old words bytes → HoldsPlan new words (bytes ++ part)
plan_part old new words bytes part none line same holds = record {
  tail = holds.tail ++ part;
  width = ap (λ p. p.words) same ∙ holds.width;
  no_end = All-append (λ b. nat_eq b 10 ≡ false) holds.tail part holds.no_end none;
  line = line ∙ ap (λ xs. take 129 (xs ++ part)) holds.line ∙ take_again holds.tail part 129;
  completes = λ more. ap (λ p. with_texts words (plan_read p) (texts_of ((holds.tail ++ part) ++ more))) same
      ∙ ap (λ xs. with_texts words (plan_read old.plan) (texts_of xs)) (append_assoc holds.tail part more) ∙ holds.completes (part ++ more)
      ∙ ap (plan_of words) (sym (append_assoc bytes part more));
}

-- One reader reads one line more than another, which ends with a part.
pub record ReadsLine (old new : PlanReader) (part : List ℕ) : Type 0 where
  pub read : plan_read new.plan ≡ with_text old.plan.words (plan_read old.plan) (old.line.items ++ part)
  pub empty : new.line.items ≡ []
  pub words : new.plan.words ≡ old.plan.words

plan_line : (old new : PlanReader) (words : ℕ) (bytes part : List ℕ) → NoEnd part → ReadsLine old new part → HoldsPlan old words bytes
    → HoldsPlan new words (bytes ++ (part ++ 10 ∷ []))
plan_line old new words bytes part none reads holds =
    let tail = holds.tail ++ part in
    let whole : NoEnd tail = All-append (λ b. nat_eq b 10 ≡ false) holds.tail part holds.no_end none in
    let read : plan_read new.plan ≡ with_text words (plan_read old.plan) tail =
    reads.read ∙ ap (λ n. with_text n (plan_read old.plan) (old.line.items ++ part)) holds.width
    ∙ tail_read words (plan_read old.plan) old.line.items holds.tail part holds.line in
    record {
      tail = [];
      width = reads.words ∙ holds.width;
      no_end = All-nil (λ b. nat_eq b 10 ≡ false);
      line = reads.empty;
      completes = λ more. ap (λ read. with_texts words read (texts_of more)) read
          ∙ sym (ap (with_texts words (plan_read old.plan))
          (ap texts_of (sym (append_assoc holds.tail part (10 ∷ more))) ∙ texts_front tail more whole))
          ∙ holds.completes (part ++ 10 ∷ more)
          ∙ ap (plan_of words) (ap (λ xs. bytes ++ xs) (sym (append_assoc part (10 ∷ []) more)) ∙ sym (append_assoc bytes (part ++ 10 ∷ []) more));
    }

-- ---- a piece, line by line

-- The lines of a piece as far as `rest` are read.
pub record FedPlan (old new : PlanReader) (piece rest : List ℕ) : Type 0 where
  pub done : List ℕ
  pub split : piece ≡ done ++ rest
  pub feeds : FeedsPlan old new done

pub plan_fed_nothing : (r : PlanReader) (piece : List ℕ) → FedPlan r r piece piece
plan_fed_nothing r piece = record {
  done = [];
  split = refl;
  feeds = λ words bytes holds. subst (HoldsPlan r words) (sym (append-nil bytes)) holds;
}

pub plan_fed_line : (old mid new : PlanReader) (piece rest front more : List ℕ) → FedPlan old mid piece rest → rest ≡ front ++ (10 ∷ more)
    → NoEnd front → ReadsLine mid new front → FedPlan old new piece more
plan_fed_line old mid new piece rest front more fed cut none reads = record {
  done = fed.done ++ (front ++ (10 ∷ []));
  split = fed.split ∙ ap (λ xs. fed.done ++ xs) (cut ∙ sym (append_assoc front (10 ∷ []) more))
      ∙ sym (append_assoc fed.done (front ++ (10 ∷ [])) more);
  feeds = λ words bytes holds. subst (HoldsPlan new words) (append_assoc bytes fed.done (front ++ (10 ∷ [])))
      (plan_line mid new words (bytes ++ fed.done) front none reads (fed.feeds words bytes holds));
}

pub plan_fed_rest : (old mid new : PlanReader) (piece rest : List ℕ) → FedPlan old mid piece rest → NoEnd rest
    → new.line.items ≡ take 129 (mid.line.items ++ rest) → new.plan ≡ mid.plan → FeedsPlan old new piece
plan_fed_rest old mid new piece rest fed none line same =
    λ words bytes holds. subst (HoldsPlan new words) (append_assoc bytes fed.done rest ∙ ap (λ xs. bytes ++ xs) (sym fed.split))
    (plan_part mid new words (bytes ++ fed.done) rest none line same (fed.feeds words bytes holds))

-- ---- the end

-- nothing is left of a line
pub plan_finished : (r : PlanReader) → length r.line.items ≡ 0 → FinishesPlan r r
plan_finished r empty = λ words bytes holds.
    let none : holds.tail ≡ [] = nil_from_length holds.tail (omega (arith, empty, ap length holds.line, length-take 129 holds.tail)) in (
      holds.width,
      sym (ap (λ xs. with_texts words (plan_read r.plan) (texts_of (xs ++ []))) none) ∙ holds.completes []
          ∙ ap (plan_of words) (append-nil bytes),
    )

-- a last line is read
pub plan_finished_line : (old new : PlanReader) → 0 < length old.line.items → ReadsLine old new [] → FinishesPlan old new
plan_finished_line old new some reads = λ words bytes holds.
    let one : texts_of (holds.tail ++ []) ≡ (holds.tail ++ []) ∷ [] = ap texts_of (append-nil holds.tail)
    ∙ one_text holds.tail (omega (arith, ap length holds.line, length-take 129 holds.tail)) holds.no_end
    ∙ ap (λ xs. xs ∷ []) (sym (append-nil holds.tail)) in (
      reads.words ∙ holds.width,
      reads.read ∙ ap (λ n. with_text n (plan_read old.plan) (old.line.items ++ [])) holds.width
          ∙ tail_read words (plan_read old.plan) old.line.items holds.tail [] holds.line
          ∙ sym (ap (with_texts words (plan_read old.plan)) one) ∙ holds.completes [] ∙ ap (plan_of words) (append-nil bytes),
    )

-- ---- the loop

-- So many bytes were read, and the reader holds them.
pub record PlanReadSoFar (r : PlanReader) (words : ℕ) (left rest : Supply) (count : ℕ) : Type 0 where
  pub bytes : List ℕ
  pub taken : Gives left rest bytes
  pub holds : HoldsPlan r words bytes
  pub length : length bytes ≡ count

pub no_plan_read : (r : PlanReader) (words : ℕ) (left : Supply) → BeginsPlan r words → PlanReadSoFar r words left left 0
no_plan_read r words left begins = record { bytes = []; taken = gives_nothing left; holds = begins_holds r words begins; length = refl }

pub plan_piece_more : {old new : PlanReader} {words : ℕ} {left mid rest : Supply} {count : ℕ} (n : ℕ) (buffer : List ℕ)
    → PlanReadSoFar old words left mid count → ReadsOn mid rest buffer (reads.Got n) → FeedsPlan old new (take n buffer)
    → PlanReadSoFar new words left rest (count + n)
plan_piece_more {words = words} {left = left} n buffer so_far took feeds = record {
  bytes = so_far.bytes ++ take n buffer;
  taken = took.1 left so_far.bytes so_far.taken;
  holds = feeds words so_far.bytes so_far.holds;
  length = length-append so_far.bytes (take n buffer) ∙ omega (arith, so_far.length, took.0);
}

pub plan_failed : {r : PlanReader} {words : ℕ} {read : PlanRead} {left mid rest : Supply} {count : ℕ} (buffer : List ℕ)
    → PlanReadSoFar r words left mid count → ReadsOn mid rest buffer reads.Failed → count ≤ SOURCE_BYTES → StreamsPlan ReadFault words read left rest
plan_failed {left = left} buffer so_far kept within = record {
  bytes = so_far.bytes;
  taken = kept left so_far.bytes so_far.taken;
  ends = inr (inl refl);
  whole = λ e. absurd (cc);
  past = λ e. absurd (cc);
  limit = λ other. omega (arith, so_far.length, within);
}

pub plan_too_long : {r : PlanReader} {words : ℕ} {read : PlanRead} {left mid rest : Supply} {count : ℕ} (n : ℕ) (buffer : List ℕ)
    → PlanReadSoFar r words left mid count → ReadsOn mid rest buffer (reads.Got n) → n ≡ 1 → count ≡ SOURCE_BYTES
    → StreamsPlan TooLong words read left rest
plan_too_long {left = left} n buffer so_far took one full = record {
  bytes = so_far.bytes ++ take n buffer;
  taken = took.1 left so_far.bytes so_far.taken;
  ends = inr (inr refl);
  whole = λ e. absurd (cc);
  past = λ e. length-append so_far.bytes (take n buffer) ∙ omega (arith, so_far.length, took.0, one, full);
  limit = λ other. absurd (other refl);
}

pub plan_done : {r : PlanReader} {words : ℕ} {left mid rest : Supply} {count : ℕ} (new : PlanReader) (buffer : List ℕ)
    → PlanReadSoFar r words left mid count → ReadsOn mid rest buffer reads.End → FinishesPlan r new → count ≤ SOURCE_BYTES
    → StreamsPlan Done words (plan_read new.plan) left rest
plan_done {words = words} {left = left} new buffer so_far ended finishes within =
    let all = ended left so_far.bytes so_far.taken in
    record {
      bytes = so_far.bytes;
      taken = all.0;
      ends = inl refl;
      whole = λ e. (all.1, (finishes words so_far.bytes so_far.holds).1);
      past = λ e. absurd (cc);
      limit = λ other. omega (arith, so_far.length, within);
    }

-- ---- how a run of `audit` ends

few_or_one_more : {status : Status} {words : ℕ} {read : PlanRead} {left rest : Supply} → StreamsPlan status words read left rest
    → TakesAtMost (SOURCE_BYTES + 1) left rest
few_or_one_more streams = (
  streams.bytes,
  streams.taken,
  elim streams.ends [
    | inl done ↦ omega (arith, streams.limit (λ e. absurd (cc)))
    | inr other ↦ elim other [
      | inl fault ↦ omega (arith, streams.limit (λ e. absurd (cc)))
      | inr long ↦ omega (arith, streams.past long)
    ]
  ],
)

-- reading ended before the plan did
pub audit_unread : {kind : Kind} {status : Status} {words : ℕ} {read : PlanRead} {left rest : Supply} {a b : ℕ} (before : Option (List ℕ)) (c : ℕ)
    → StreamsPlan status words read left rest → status ≢ Done → (status ≡ ReadFault → Rose a b) → a ≤ b
    → RunEnds (Some (Audit kind words)) status left rest before before a b c c
audit_unread {status = status} before c streams other rose later =
    let not_lacking : status ≢ Memory = λ is. elim streams.ends [
      | inl done ↦ absurd (cc)
      | inr other ↦ elim other [
        | inl fault ↦ absurd (cc)
        | inr long ↦ absurd (cc)
      ]
    ] in
    let not_cut : status ≢ WriteFault = λ is. elim streams.ends [
      | inl done ↦ absurd (cc)
      | inr other ↦ elim other [
        | inl fault ↦ absurd (cc)
        | inr long ↦ absurd (cc)
      ]
    ] in
    record {
      as_asked = record {
        done = λ is. absurd (other is);
        write_fault = λ is. absurd (not_cut is);
        unwritten = λ e f. Appends-nil before;
        memory = λ is. absurd (not_lacking is);
        bound = few_or_one_more streams;
        limit = λ e. (streams.bytes, streams.taken, streams.limit e);
      };
      read_fault = rose;
      write_fault = λ is. absurd (not_cut is);
      too_long = λ is. (streams.bytes, streams.taken, streams.past is);
      memory = λ is. absurd (not_lacking is);
      source_faults = later;
      sink_faults = omega arith;
    }

all_taken : {words : ℕ} {read : PlanRead} {left rest : Supply} → StreamsPlan Done words read left rest → Rose left.ends rest.ends → TakesAll left rest
all_taken {left = left} {rest = rest} streams ended = (ended, all_of left.to_come rest.to_come streams.bytes streams.taken.0 (streams.whole refl).0)

-- what is printed of the plan that was read is printed of all that the source had left
of_script : (P : List ℕ → Type 0) (kind : Kind) (words : ℕ) (read : PlanRead) (left : Option (List ℕ)) (bytes text : List ℕ)
    → IfSome left (λ script. script ≡ bytes) → read ≡ plan_of words bytes → text ≡ read_word kind words read ++ 10 ∷ [] → P text
    → IfSome left (λ plan. P (audit_text kind words plan))
of_script P kind words read None bytes text whole is told holds = tt
of_script P kind words read (Some script) bytes text whole is told holds =
    subst P (told ∙ ap (λ r. read_word kind words r ++ 10 ∷ []) is ∙ ap (audit_text kind words) (sym whole)) holds

pub audit_done : {kind : Kind} {words : ℕ} {read : PlanRead} {left rest : Supply} {text : List ℕ} {before now : Option (List ℕ)} {a b c d : ℕ}
    → StreamsPlan Done words read left rest → Rose left.ends rest.ends → text ≡ read_word kind words read ++ 10 ∷ [] → Appends before now text
    → a ≤ b → c ≤ d
    → RunEnds (Some (Audit kind words)) Done left rest before now a b c d
audit_done {kind} {words} {read} {left} {rest} {text} {before} {now} streams ended told wrote source_later sink_later = record {
  as_asked = record {
    done = λ e. (
      of_script (λ xs. Appends before now xs) kind words read left.to_come streams.bytes text (streams.whole refl).0
          (streams.whole refl).1 told wrote,
      all_taken streams ended,
    );
    write_fault = λ e. absurd (cc);
    unwritten = λ e f. absurd (e refl);
    memory = λ e. absurd (cc);
    bound = few_or_one_more streams;
    limit = λ e. (streams.bytes, streams.taken, streams.limit e);
  };
  read_fault = λ e. absurd (cc);
  write_fault = λ e. absurd (cc);
  too_long = λ e. absurd (cc);
  memory = λ e. absurd (cc);
  source_faults = source_later;
  sink_faults = sink_later;
}

pub audit_cut : {kind : Kind} {words : ℕ} {read : PlanRead} {left rest : Supply} {text : List ℕ} {before now : Option (List ℕ)} {a b c d : ℕ}
    → StreamsPlan Done words read left rest → Rose left.ends rest.ends → text ≡ read_word kind words read ++ 10 ∷ [] → CutOff before now text
    → Rose c d → a ≤ b → c ≤ d
    → RunEnds (Some (Audit kind words)) WriteFault left rest before now a b c d
audit_cut {kind} {words} {read} {left} {rest} {text} {before} {now} streams ended told cut rose source_later sink_later = record {
  as_asked = record {
    done = λ e. absurd (cc);
    write_fault = λ e. (
      of_script (λ xs. CutOff before now xs) kind words read left.to_come streams.bytes text (streams.whole refl).0
          (streams.whole refl).1 told cut,
      all_taken streams ended,
    );
    unwritten = λ e f. absurd (f refl);
    memory = λ e. absurd (cc);
    bound = few_or_one_more streams;
    limit = λ e. (streams.bytes, streams.taken, streams.limit (λ e. absurd (cc)));
  };
  read_fault = λ e. absurd (cc);
  write_fault = λ e. rose;
  too_long = λ e. absurd (cc);
  memory = λ e. absurd (cc);
  source_faults = source_later;
  sink_faults = sink_later;
}
