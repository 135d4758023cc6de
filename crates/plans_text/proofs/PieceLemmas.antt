-- Plans that are read and answered in pieces.
use Rattle.std.proofs.Common.{append_assoc, ◌≡◌, ℕ, ◌+◌, ◌≤◌, inl, inr, List, [], ◌++◌, length, take, Option, Some, None, IfSome, Result, Ok, Err, OnOk, IfOk, refl, sym, ap, subst, ◌∙◌, arith}
use Rattle.std.proofs.lemmas.List.{append-nil, length-append}
use Rattle.std.specs.Io.KnownBytes.{Appends, Keeps, Consumes, IsAtEnd}
use Rattle.std.proofs.KnownBytes.{Appends-nil, Appends-trans, Consumes-whole}
use Rattle.aia_io.specs.Ends.{Supply, Gives, GivesNone, Rose, CutOff}
use Rattle.aia_io.proofs.SupplyLemmas.{gives_nothing, gives_more, gives_no_more}
use Rattle.aia_io.specs.declared.limits.TheConstants.{SOURCE_BYTES}
use Rattle.aia_io.specs.Written.{CutsAll}
use Rattle.plans_text.specs.declared.outcome.FileOutcome.{FileOutcome}
use Rattle.plans_text.specs.PlanFile.{FileRead, answers, outcome}
use Rattle.plans_text.specs.declared.judging.Stop.{Stop}
use Rattle.plans_text.specs.declared.judging.Stop.TheVariants.{Sink, Memory as LacksMemory}
use Rattle.plans_text.specs.declared.program.PlansStatus.{PlansStatus}
use Rattle.plans_text.specs.declared.program.PlansStatus.TheVariants.{Done, ReadFault, TooLong}
use Rattle.plans_text.specs.declared.plan_reader.PlanFileReader.{PlanFileReader}
use Rattle.plans_text.specs.Streaming.{HasRead, NoneWaits, WhateverWasRead}
use Rattle.plans_text.proofs.StreamLemmas.{answers_grow}
use Rattle.plans_text.specs.Runs.{AnswersEnded, EndsJudge, IsFront, Judged, JudgesAll, WhateverWasJudged, WritesPlansFront, stopped}

-- ---- what was written

-- all that a reader gave, and what waits in it, is a front of what is answered of a longer file
pub grown : (reader : PlanFileReader) (given bytes more : List ℕ) → HasRead reader given bytes → (lost : List ℕ)
    × (given ++ lost ≡ answers (bytes ++ more))
grown reader given bytes more h =
    let g = answers_grow h.whole (h.tail ++ more) h.lines in (
      reader.file.answers.items ++ g.0,
      sym (append_assoc given reader.file.answers.items g.0) ∙ ap (λ (r : FileRead). r.answers ++ g.0) h.read ∙ g.1
          ∙ ap answers (sym (append_assoc h.whole h.tail more) ∙ ap (λ xs. xs ++ more) (sym h.split)),
    )

pub judged_front : (reader : PlanFileReader) (before now : Option (List ℕ)) (bytes more : List ℕ) → Judged reader before now bytes
    → CutOff before now (answers (bytes ++ more))
judged_front reader before now bytes more j =
    let g = grown reader j.given bytes more j.read in
    record { part = j.given; lost = g.0; appended = j.written; together = g.1 }

-- a front of what follows, too
pub cut_more : (before mid now : Option (List ℕ)) (given text lost all : List ℕ) → Appends before mid given → CutOff mid now text
    → (given ++ text) ++ lost ≡ all → CutOff before now all
cut_more before mid now given text lost all a c e = record {
  part = given ++ c.part;
  lost = c.lost ++ lost;
  appended = Appends-trans before mid now given c.part a c.appended;
  together = append_assoc given c.part (c.lost ++ lost)
      ∙ ap (λ xs. given ++ xs) (sym (append_assoc c.part c.lost lost) ∙ ap (λ xs. xs ++ lost) c.together) ∙ sym (append_assoc given text lost) ∙ e;
}

-- ---- a piece

pub piece_lacks : (reader : PlanFileReader) (now : Option (List ℕ)) (piece : List ℕ)
    → WhateverWasJudged reader now (λ before bytes. IsFront before now (bytes ++ piece))
piece_lacks reader now piece = λ before bytes j more. subst (λ xs. CutOff before now (answers xs)) (sym (append_assoc bytes piece more))
    (judged_front reader before now bytes (piece ++ more) j)

pub piece_written : (old fed new : PlanFileReader) (mid now : Option (List ℕ)) (piece text : List ℕ)
    → WhateverWasRead old (λ given bytes. HasRead fed given (bytes ++ piece))
    → WhateverWasRead fed (λ given bytes. HasRead new (given ++ text) bytes) → NoneWaits new
    → Appends mid now text → WhateverWasJudged old mid (λ before bytes. Judged new before now (bytes ++ piece))
piece_written old fed new mid now piece text feeds takes none wrote = λ before bytes j. record {
  given = j.given ++ text;
  read = takes j.given (bytes ++ piece) (feeds j.given bytes j.read);
  none = none;
  written = Appends-trans before mid now j.given text j.written wrote;
}

pub piece_cut : (old fed new : PlanFileReader) (mid now : Option (List ℕ)) (piece text : List ℕ)
    → WhateverWasRead old (λ given bytes. HasRead fed given (bytes ++ piece)) → WhateverWasRead fed (λ given bytes. HasRead new (given ++ text) bytes)
    → CutOff mid now text → WhateverWasJudged old mid (λ before bytes. IsFront before now (bytes ++ piece))
piece_cut old fed new mid now piece text feeds takes cut = λ before bytes j more.
    let g = grown new (j.given ++ text) (bytes ++ piece) more (takes j.given (bytes ++ piece) (feeds j.given bytes j.read)) in
    cut_more before mid now j.given text g.0 _ j.written cut g.1

-- ---- the end

pub last_written : (reader : PlanFileReader) (mid now : Option (List ℕ)) (text : List ℕ) (came : FileOutcome)
    → WhateverWasRead reader (λ given bytes. given ++ text ≡ answers bytes) → WhateverWasRead reader (λ given bytes. came ≡ outcome bytes)
    → Appends mid now text
    → WhateverWasJudged reader mid (λ before bytes. Appends before now (answers bytes) × (came ≡ outcome bytes))
last_written reader mid now text came ends comes wrote =
    λ before bytes j. (
      subst (Appends before now) (ends j.given bytes j.read) (Appends-trans before mid now j.given text j.written wrote),
      comes j.given bytes j.read,
    )

pub last_given : (reader : PlanFileReader) (mid now : Option (List ℕ)) (text : List ℕ) (said : FileOutcome) (given : Result FileOutcome Stop)
    → WhateverWasRead reader (λ given bytes. given ++ text ≡ answers bytes) → WhateverWasRead reader (λ given bytes. said ≡ outcome bytes)
    → OnOk given (Appends mid now text) → IfOk given (λ came. came ≡ said)
    → IfOk given (λ came. WhateverWasJudged reader mid (λ before bytes. Appends before now (answers bytes) × (came ≡ outcome bytes)))
last_given reader mid now text said (Ok came) ends comes wrote is =
    last_written reader mid now text came ends (λ given bytes h. is ∙ comes given bytes h) wrote
last_given reader mid now text said (Err stop) ends comes wrote is = tt

pub last_cut : (reader : PlanFileReader) (mid now : Option (List ℕ)) (text : List ℕ)
    → WhateverWasRead reader (λ given bytes. given ++ text ≡ answers bytes) → CutOff mid now text
    → WhateverWasJudged reader mid (λ before bytes. CutOff before now (answers bytes))
last_cut reader mid now text ends cut = λ before bytes j. cut_more before mid now j.given text [] _ j.written cut
    (append-nil (j.given ++ text) ∙ ends j.given bytes j.read)

pub last_lacks : (reader : PlanFileReader) (now : Option (List ℕ)) → WhateverWasJudged reader now (λ before bytes. CutOff before now (answers bytes))
last_lacks reader now = λ before bytes j. subst (λ xs. CutOff before now (answers xs)) (append-nil bytes) (judged_front reader before now bytes [] j)

-- ---- a whole run

-- So much was taken and judged.
pub record SoFar (reader : PlanFileReader) (left mid : Supply) (before now : Option (List ℕ)) (taken : ℕ) : Type 0 where
  pub bytes : List ℕ
  pub gave : Gives left mid bytes
  pub ends : mid.ends ≡ left.ends
  pub size : length bytes ≡ taken
  pub within : taken ≤ SOURCE_BYTES
  pub judged : Judged reader before now bytes

pub nothing_yet : (reader : PlanFileReader) (left : Supply) (before : Option (List ℕ)) → HasRead reader [] [] → NoneWaits reader
    → SoFar reader left left before before 0
nothing_yet reader left before h none = record {
  bytes = [];
  gave = gives_nothing left;
  ends = refl;
  size = refl;
  within = omega arith;
  judged = record { given = []; read = h; none = none; written = Appends-nil before };
}

-- few lines were read
pub few_lines : (reader : PlanFileReader) (left mid : Supply) (before now : Option (List ℕ)) (taken : ℕ) → SoFar reader left mid before now taken
    → reader.file.lines ≤ SOURCE_BYTES
few_lines reader left mid before now taken so =
    let h = so.judged.read in
    omega (arith, h.few, ap length h.split, length-append h.whole h.tail, so.size, so.within)

pub so_far_more : (old new : PlanFileReader) (left mid rest : Supply) (before middle now : Option (List ℕ)) (taken n : ℕ) (piece : List ℕ)
    → SoFar old left mid before middle taken → Gives mid rest (take n piece) → rest.ends ≡ mid.ends → length (take n piece) ≡ n
    → taken + n ≤ SOURCE_BYTES
    → WhateverWasJudged old middle (λ before bytes. Judged new before now (bytes ++ take n piece)) → SoFar new left rest before now (taken + n)
so_far_more old new left mid rest before middle now taken n piece so gave same size within judged = record {
  bytes = so.bytes ++ take n piece;
  gave = gives_more left mid rest so.bytes (take n piece) so.gave gave;
  ends = same ∙ so.ends;
  size = omega (arith, length-append so.bytes (take n piece), so.size, size);
  within = within;
  judged = judged before so.bytes so.judged;
}

-- what the source tells of a file begins with what it gave
cuts_told : (left mid before now : Option (List ℕ)) (bytes : List ℕ) → Consumes left mid bytes → IsFront before now bytes
    → IfSome left (λ file. CutOff before now (answers file))
cuts_told None mid before now bytes took front = tt
cuts_told (Some file) None before now bytes took front = absurd took
cuts_told (Some file) (Some more) before now bytes took front = subst (λ xs. CutOff before now (answers xs)) (sym took) (front more)

at_once : (before now : Option (List ℕ)) (bytes : List ℕ) → IsFront before now bytes → CutOff before now (answers bytes)
at_once before now bytes front = subst (λ xs. CutOff before now (answers xs)) (append-nil bytes) (front [])

none_left : (left mid rest : Option (List ℕ)) (bytes : List ℕ) → Consumes left mid bytes → IsAtEnd mid → Keeps mid rest
    → IfSome left (λ file. rest ≡ Some [])
none_left None mid rest bytes took ended kept = tt
none_left (Some file) None rest bytes took ended kept = absurd took
none_left (Some file) (Some more) None bytes took ended kept = absurd kept
none_left (Some file) (Some more) (Some last) bytes took ended kept = ap Some (kept ∙ ended)

-- what holds of the bytes that were taken to the end holds of the file
of_file : (P : List ℕ → Type 0) (left : Option (List ℕ)) (bytes : List ℕ) → IfSome left (λ file. file ≡ bytes) → P bytes → IfSome left P
of_file P None bytes whole h = tt
of_file P (Some file) bytes whole h = subst P (sym whole) h

whole_front : (before now : Option (List ℕ)) (all : List ℕ) → Appends before now all → CutOff before now all
whole_front before now all wrote = record { part = all; lost = []; appended = wrote; together = append-nil all }

same_outcome : (one other : FileOutcome) → ◌≡◌ {A = PlansStatus} (Done one) (Done other) → one ≡ other
same_outcome one other e = cc

pub ends_done : (reader : PlanFileReader) (left mid rest : Supply) (before middle now : Option (List ℕ)) (came : FileOutcome) (taken a b c d : ℕ)
    → SoFar reader left mid before middle taken → IsAtEnd mid.to_come → GivesNone mid rest → Rose mid.ends rest.ends
    → WhateverWasJudged reader middle (λ before bytes. Appends before now (answers bytes) × (came ≡ outcome bytes))
    → EndsJudge (Done came) left rest before now a b c d
ends_done reader left mid rest before middle now came taken a b c d so ended none rose last =
    let all = gives_no_more left mid rest so.bytes so.gave none in
    let file = Consumes-whole left.to_come mid.to_come so.bytes (λ file. file ≡ so.bytes) so.gave.0 ended refl in
    let (wrote, comes) = last before so.bytes so.judged in
    let judged : JudgesAll came left rest before now = record {
      taken = (subst (λ n. Rose n rest.ends) so.ends rose, none_left left.to_come mid.to_come rest.to_come so.bytes so.gave.0 ended none.0);
      written = of_file (λ file. Appends before now (answers file)) left.to_come so.bytes file wrote;
      came = of_file (λ file. came ≡ outcome file) left.to_come so.bytes file comes;
    } in
    record {
      done = λ other e. subst (λ (o : FileOutcome). JudgesAll o left rest before now) (same_outcome came other e) judged;
      write_fault = λ e. absurd (cc);
      memory = λ e. absurd (cc);
      read_fault = λ e. absurd (cc);
      too_long = λ e. absurd (cc);
      front = of_file (λ file. CutOff before now (answers file)) left.to_come so.bytes file (whole_front before now (answers so.bytes) wrote);
      bound = (so.bytes, all, omega (arith, so.size, so.within));
      usage = λ e. absurd (cc);
    }

stops : (stop : Stop) (left rest : Supply) (before now : Option (List ℕ)) (a b c d : ℕ) → WritesPlansFront left rest before now
    → CutsAll answers left before now → (stop ≡ Sink → Rose c d) → EndsJudge (stopped stop) left rest before now a b c d
stops Sink left rest before now a b c d w front rose = record {
  done = λ other e. absurd (cc);
  write_fault = λ e. (w, rose refl);
  memory = λ e. absurd (cc);
  read_fault = λ e. absurd (cc);
  too_long = λ e. absurd (cc);
  front = front;
  bound = (w.bytes, w.taken, omega (arith, w.within));
  usage = λ e. absurd (cc);
}
stops LacksMemory left rest before now a b c d w front rose = record {
  done = λ other e. absurd (cc);
  write_fault = λ e. absurd (cc);
  memory = λ e. w;
  read_fault = λ e. absurd (cc);
  too_long = λ e. absurd (cc);
  front = front;
  bound = (w.bytes, w.taken, omega (arith, w.within));
  usage = λ e. absurd (cc);
}

pub stops_last : (status : PlansStatus) (stop : Stop) (reader : PlanFileReader) (left mid rest : Supply) (before middle now : Option (List ℕ))
    (taken a b c d : ℕ) → SoFar reader left mid before middle taken → IsAtEnd mid.to_come → GivesNone mid rest
    → WhateverWasJudged reader middle (λ before bytes. CutOff before now (answers bytes)) → (stop ≡ Sink → Rose c d) → status ≡ stopped stop
    → EndsJudge status left rest before now a b c d
stops_last status stop reader left mid rest before middle now taken a b c d so ended none last rose is =
    let all = gives_no_more left mid rest so.bytes so.gave none in
    let file = Consumes-whole left.to_come mid.to_come so.bytes (λ file. file ≡ so.bytes) so.gave.0 ended refl in
    let cut = last before so.bytes so.judged in
    subst (λ s. EndsJudge s left rest before now a b c d) (sym is)
    (stops stop left rest before now a b c d (record { bytes = so.bytes; taken = all; within = omega (arith, so.size, so.within); cut = cut })
    (of_file (λ file. CutOff before now (answers file)) left.to_come so.bytes file cut) rose)

pub stops_piece : (status : PlansStatus) (stop : Stop) (reader : PlanFileReader) (left mid rest : Supply) (before middle now : Option (List ℕ))
    (taken n a b c d : ℕ) (piece : List ℕ) → SoFar reader left mid before middle taken → Gives mid rest (take n piece) → length (take n piece) ≡ n
    → taken + n ≤ SOURCE_BYTES
    → WhateverWasJudged reader middle (λ before bytes. IsFront before now (bytes ++ take n piece)) → (stop ≡ Sink → Rose c d)
    → status ≡ stopped stop → EndsJudge status left rest before now a b c d
stops_piece status stop reader left mid rest before middle now taken n a b c d piece so gave size within fronts rose is =
    let all = gives_more left mid rest so.bytes (take n piece) so.gave gave in
    let front = fronts before so.bytes so.judged in
    subst (λ s. EndsJudge s left rest before now a b c d) (sym is)
    (stops stop left rest before now a b c d (record {
      bytes = so.bytes ++ take n piece;
      taken = all;
      within = omega (arith, length-append so.bytes (take n piece), so.size, size, within);
      cut = at_once before now (so.bytes ++ take n piece) front;
    })
    (cuts_told left.to_come rest.to_come before now (so.bytes ++ take n piece) all.0 front) rose)

-- no answer waits where reading ends early
ended_so : (reader : PlanFileReader) (before now : Option (List ℕ)) (bytes : List ℕ) → Judged reader before now bytes → AnswersEnded before now bytes
ended_so reader before now bytes j =
    let h = j.read in
    record {
      whole = h.whole;
      tail = h.tail;
      split = h.split;
      lines = h.lines;
      no_end = h.no_end;
      written = subst (Appends before now) (sym (append-nil j.given) ∙ ap (λ xs. j.given ++ xs) (sym j.none)
          ∙ ap (λ (r : FileRead). r.answers) h.read) j.written;
    }

pub ends_failed : (reader : PlanFileReader) (left mid rest : Supply) (before now : Option (List ℕ)) (taken a b c d : ℕ)
    → SoFar reader left mid before now taken → GivesNone mid rest → Rose a b → EndsJudge ReadFault left rest before now a b c d
ends_failed reader left mid rest before now taken a b c d so none rose =
    let all = gives_no_more left mid rest so.bytes so.gave none in
    record {
      done = λ other e. absurd (cc);
      write_fault = λ e. absurd (cc);
      memory = λ e. absurd (cc);
      read_fault = λ e. (
        record {
          bytes = so.bytes;
          beyond = [];
          taken = subst (Gives left rest) (sym (append-nil so.bytes)) all;
          within =
              omega (arith, so.size, so.within);
          past = refl;
          answered = ended_so reader before now so.bytes so.judged;
        },
        rose,
      );
      too_long = λ e. absurd (cc);
      front = cuts_told left.to_come mid.to_come before now so.bytes so.gave.0 (λ more. judged_front reader before now so.bytes more so.judged);
      bound = (so.bytes, all, omega (arith, so.size, so.within));
      usage = λ e. absurd (cc);
    }

pub ends_past : (reader : PlanFileReader) (left mid rest : Supply) (before now : Option (List ℕ)) (n a b c d : ℕ) (piece : List ℕ)
    → SoFar reader left mid before now SOURCE_BYTES → Gives mid rest (take n piece) → length (take n piece) ≡ n → n ≡ 1
    → EndsJudge TooLong left rest before now a b c d
ends_past reader left mid rest before now n a b c d piece so gave size one =
    let all = gives_more left mid rest so.bytes (take n piece) so.gave gave in
    let long : length (so.bytes ++ take n piece) ≡ SOURCE_BYTES + 1 = omega (arith, length-append so.bytes (take n piece), so.size, size, one) in
    record {
      done = λ other e. absurd (cc);
      write_fault = λ e. absurd (cc);
      memory = λ e. absurd (cc);
      read_fault = λ e. absurd (cc);
      too_long = λ e. (
        record {
          bytes = so.bytes;
          beyond = take n piece;
          taken = all;
          within = omega (arith, so.size, so.within);
          past = size
              ∙ one;
          answered = ended_so reader before now so.bytes so.judged;
        },
        (so.bytes ++ take n piece, all, long),
      );
      front = cuts_told left.to_come mid.to_come before now so.bytes so.gave.0 (λ more. judged_front reader before now so.bytes more so.judged);
      bound = (so.bytes ++ take n piece, all, omega (arith, long));
      usage = λ e. absurd (cc);
    }

pub rose_since : (a m b : ℕ) → a ≤ m → Rose m b → Rose a b
rose_since a m b low rose = elim rose [ inl more ↦ inl (omega (arith, low, more)) | inr full ↦ inr full ]
