-- What a run has taken and written so far, and how it ends.
use Rattle.std.proofs.Common.{◌≡◌, ℕ, ◌+◌, ◌≤◌, List, [], ◌∷◌, ◌++◌, length, take, Option, inl, inr, refl, sym, ap, subst, ◌∙◌, arith}
use Rattle.std.specs.Io.KnownBytes.{Appends}
use Rattle.std.proofs.lemmas.List.{append-nil, length-append}
use Rattle.aia_replay.specs.declared.replayer.Replayer.{Replayer}
use Rattle.aia_replay.specs.declared.program.Status.TheVariants.{Done, ReadFault, TooLong}
use Rattle.aia_io.specs.Taken.{ReadsOn}
use Rattle.aia_replay.specs.Runs.{AnswersWhole}
use Rattle.aia_replay.specs.Streams.{WritesOut, WritesOutFront, StreamsFront, HasAnswered, Begins, Feeds, FeedsFront, FeedsStop, Finishes, FinishesFront, FinishesStop, Streams, StreamsStop}
use Rattle.aia_replay.proofs.HeldLemmas.{at_start}
use Rattle.aia_io.specs.Ends.{Supply, Gives}
use Rattle.aia_io.proofs.SupplyLemmas.{gives_nothing}
use Rattle.aia_io.specs.declared.source.Read.TheVariants as reads
use Rattle.aia_io.specs.declared.limits.TheConstants.{SOURCE_BYTES}

-- ---- the loop

-- So many bytes were read, and the replayer holds them.
pub record ReadSoFar (r : Replayer) (left rest : Supply) (before now : Option (List ℕ)) (count : ℕ) : Type 0 where
  pub bytes : List ℕ
  pub taken : Gives left rest bytes
  pub holds : HasAnswered r before now bytes
  pub length : length bytes ≡ count

pub nothing_read : (r : Replayer) (left : Supply) (before : Option (List ℕ)) → Begins r → ReadSoFar r left left before before 0
nothing_read r left before begins = record { bytes = []; taken = gives_nothing left; holds = at_start r before begins; length = refl }

-- what waits is written, before the next read
pub so_far_written : {old new : Replayer} {left rest : Supply} {before mid now : Option (List ℕ)} {count : ℕ} → WritesOut old new mid now
    → ReadSoFar old left rest before mid count → ReadSoFar new left rest before now count
so_far_written {before = before} wrote so_far = record {
  bytes = so_far.bytes;
  taken = so_far.taken;
  holds = wrote.holds before so_far.bytes so_far.holds;
  length = so_far.length;
}

-- a piece more
pub piece_more : {old new : Replayer} {left mid rest : Supply} {before now later : Option (List ℕ)} {count : ℕ} (n : ℕ) (buffer : List ℕ)
    → ReadSoFar old left mid before now count → ReadsOn mid rest buffer (reads.Got n) → Feeds old new now later (take n buffer)
    → ReadSoFar new left rest before later (count + n)
piece_more {left = left} {before = before} n buffer so_far took feeds = record {
  bytes = so_far.bytes ++ take n buffer;
  taken = took.1 left so_far.bytes so_far.taken;
  holds = feeds before so_far.bytes so_far.holds;
  length = length-append so_far.bytes (take n buffer) ∙ omega (arith, so_far.length, took.0);
}

-- ---- how the reading ends

-- where nothing waits, all answers of the whole lines are written
lines_answered : (r : Replayer) (before now : Option (List ℕ)) (bytes : List ℕ) → r.out.bytes.items ≡ [] → HasAnswered r before now bytes
    → AnswersWhole before now bytes
lines_answered r before now bytes empty holds = record {
  whole = holds.whole;
  tail = holds.tail;
  split = holds.split;
  lines = holds.lines;
  no_end = holds.no_end;
  written = subst (Appends before now) (sym (append-nil holds.gathered.taken) ∙ ap (λ xs. holds.gathered.taken ++ xs) (sym empty)
      ∙ holds.gathered.together ∙ holds.answered) holds.gathered.appended;
}

pub reading_failed : {r : Replayer} {left mid rest : Supply} {before now : Option (List ℕ)} {count : ℕ} (buffer : List ℕ) → r.out.bytes.items ≡ []
    → ReadSoFar r left mid before now count → ReadsOn mid rest buffer reads.Failed → count ≤ SOURCE_BYTES → Streams ReadFault left rest before now
reading_failed {r} {left} {mid} {rest} {before} {now} buffer empty so_far kept within = record {
  bytes = so_far.bytes;
  taken = kept left so_far.bytes so_far.taken;
  written = lines_answered r before now so_far.bytes empty so_far.holds;
  whole = λ e. absurd (cc);
  limit = λ other. omega (arith, so_far.length, within);
}

pub reading_too_long : {r : Replayer} {left mid rest : Supply} {before now : Option (List ℕ)} {count : ℕ} (n : ℕ) (buffer : List ℕ)
    → r.out.bytes.items ≡ [] → ReadSoFar r left mid before now count → ReadsOn mid rest buffer (reads.Got n) → n ≡ 1 → count ≡ SOURCE_BYTES
    → Streams TooLong left rest before now
reading_too_long {r} {left} {mid} {rest} {before} {now} n buffer empty so_far took one full = record {
  bytes = so_far.bytes ++ take n buffer;
  taken = took.1 left so_far.bytes so_far.taken;
  written = record {
    within = so_far.bytes;
    beyond = take n buffer;
    split = refl;
    full = so_far.length ∙ full;
    one = took.0 ∙ one;
    answered = lines_answered r before now so_far.bytes empty so_far.holds;
  };
  whole = λ e. absurd (cc);
  limit = λ other. absurd (other refl);
}

pub reading_done : {r : Replayer} {left mid rest : Supply} {before now later : Option (List ℕ)} {count : ℕ} (buffer : List ℕ)
    → ReadSoFar r left mid before now count → ReadsOn mid rest buffer reads.End → Finishes r now later → count ≤ SOURCE_BYTES
    → Streams Done left rest before later
reading_done {left = left} {before = before} buffer so_far ended finishes within = record {
  bytes = so_far.bytes;
  taken = (ended left so_far.bytes so_far.taken).0;
  written = finishes before so_far.bytes so_far.holds;
  whole = λ e. (ended left so_far.bytes so_far.taken).1;
  limit = λ other. omega (arith, so_far.length, within);
}

-- ---- how the reading stops

pub front_at_once : {r : Replayer} {left rest : Supply} {before mid now : Option (List ℕ)} {count : ℕ} → ReadSoFar r left rest before mid count
    → WritesOutFront r mid now → count ≤ SOURCE_BYTES → StreamsFront left rest before now
front_at_once {before = before} so_far front within = record {
  front = record { bytes = so_far.bytes; taken = so_far.taken; cut = inl (front before so_far.bytes so_far.holds) };
  limit = (so_far.bytes, so_far.taken, omega (arith, so_far.length, within));
}

pub front_of_piece : {r : Replayer} {left mid rest : Supply} {before now later : Option (List ℕ)} {count : ℕ} (n : ℕ) (buffer : List ℕ)
    → ReadSoFar r left mid before now count → ReadsOn mid rest buffer (reads.Got n) → FeedsFront r now later (take n buffer)
    → count + n ≤ SOURCE_BYTES → StreamsFront left rest before later
front_of_piece {left = left} {before = before} n buffer so_far took front within =
    let bytes = so_far.bytes ++ take n buffer in
    let taken = took.1 left so_far.bytes so_far.taken in
    record {
      front = record { bytes = bytes; taken = taken; cut = inl (front before so_far.bytes so_far.holds) };
      limit = (bytes, taken, omega (arith, length-append so_far.bytes (take n buffer), so_far.length, took.0, within));
    }

pub front_at_end : {r : Replayer} {left mid rest : Supply} {before now later : Option (List ℕ)} {count : ℕ} (buffer : List ℕ)
    → ReadSoFar r left mid before now count → ReadsOn mid rest buffer reads.End → FinishesFront r now later → count ≤ SOURCE_BYTES
    → StreamsFront left rest before later
front_at_end {left = left} {before = before} buffer so_far ended front within =
    let all = ended left so_far.bytes so_far.taken in
    record {
      front = record { bytes = so_far.bytes; taken = all.0; cut = inr (all.1, front before so_far.bytes so_far.holds) };
      limit = (so_far.bytes, all.0, omega (arith, so_far.length, within));
    }

pub stop_in_piece : {r new : Replayer} {left mid rest : Supply} {before now later : Option (List ℕ)} {count : ℕ} (n : ℕ) (buffer : List ℕ)
    → ReadSoFar r left mid before now count → ReadsOn mid rest buffer (reads.Got n) → FeedsStop r new now later (take n buffer)
    → count + n ≤ SOURCE_BYTES → StreamsStop new left rest before later
stop_in_piece {left = left} {before = before} n buffer so_far took stop within =
    let held = stop before so_far.bytes so_far.holds in
    record {
      bytes = so_far.bytes ++ take n buffer;
      more = 10 ∷ held.0;
      taken = took.1 left so_far.bytes so_far.taken;
      holds = held.1;
      end = inl (held.0, refl);
      limit = omega (arith, length-append so_far.bytes (take n buffer), so_far.length, took.0, within);
    }

pub stop_at_end : {r new : Replayer} {left mid rest : Supply} {before now later : Option (List ℕ)} {count : ℕ} (buffer : List ℕ)
    → ReadSoFar r left mid before now count → ReadsOn mid rest buffer reads.End → FinishesStop r new now later → count ≤ SOURCE_BYTES
    → StreamsStop new left rest before later
stop_at_end {left = left} {before = before} buffer so_far ended stop within =
    let all = ended left so_far.bytes so_far.taken in
    record {
      bytes = so_far.bytes;
      more = [];
      taken = all.0;
      holds = stop before so_far.bytes so_far.holds;
      end = inr (refl, all.1);
      limit = omega (arith, so_far.length, within);
    }
