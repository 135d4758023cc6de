-- What the endings of a run mean for its source, and the one word that is taken.
use Rattle.std.proofs.Common.{◌≡◌, ◌≢◌, ◌↔◌, ℕ, ◌+◌, ◌≤◌, List, [], ◌∷◌, ◌++◌, length, Option, Some, None, IfSome, inl, inr, refl, sym, ap, subst, ◌∙◌, arith}
use Rattle.std.proofs.lemmas.List.{append-nil, length-append}
use Rattle.std.specs.Io.KnownBytes.{Appends, Consumes}
use Rattle.aia_command.specs.declared.subcommand.Subcommand.{Subcommand}
use Rattle.aia_command.specs.declared.subcommand.Subcommand.TheVariants.{Replay, Generate}
use Rattle.aia_model.specs.Script.{answers}
use Rattle.aia_replay.specs.declared.program.Status.{Status}
use Rattle.aia_replay.specs.declared.program.Status.TheVariants.{Done, Usage, ReadFault, WriteFault, Memory, TooLong}
use Rattle.aia_io.specs.declared.limits.TheConstants.{SOURCE_BYTES}
use Rattle.aia_replay.specs.Runs.{AnswersWhole, WritesLines, CutsLines, StopsAtMachine, IsDoneOrMemory, RunEnds}
use Rattle.aia_io.specs.Taken.{IsAllLeft}
use Rattle.aia_io.specs.Ends.{Supply, Gives, Rose, CutOff, TakesAtMost}
use Rattle.aia_replay.specs.declared.replayer.Replayer.{Replayer}
use Rattle.aia_replay.specs.Streams.{Streams, StreamsFront, StreamsStop, WrittenFor, GoesPast}
use Rattle.aia_replay.proofs.HeldLemmas.{all_written, cut_after}

nothing_left : (bytes rest : List ℕ) → bytes ≡ bytes ++ rest → rest ≡ []
nothing_left bytes [] e = refl
nothing_left bytes (x ∷ rest) e = absurd (omega (arith, ap length e, length-append bytes (x ∷ rest)))

pub all_of : (left rest : Option (List ℕ)) (bytes : List ℕ) → Consumes left rest bytes → IfSome left (λ script. script ≡ bytes)
    → IfSome left (λ script. rest ≡ Some [])
all_of None rest bytes took whole = tt
all_of (Some script) None bytes took whole = absurd took
all_of (Some script) (Some more) bytes took whole = ap Some (nothing_left bytes more (sym whole ∙ took))

past_length : (before now : Option (List ℕ)) (bytes : List ℕ) → GoesPast before now bytes → length bytes ≡ SOURCE_BYTES + 1
past_length before now bytes past = ap length past.split ∙ length-append past.within past.beyond ∙ omega (arith, past.full, past.one)

few_or_past : (status : Status) (before now : Option (List ℕ)) (bytes : List ℕ) → (status ≢ TooLong → length bytes ≤ SOURCE_BYTES)
    → WrittenFor status before now bytes → length bytes ≤ SOURCE_BYTES + 1
few_or_past Done before now bytes few written = omega (arith, few (λ e. absurd (cc)))
few_or_past ReadFault before now bytes few written = omega (arith, few (λ e. absurd (cc)))
few_or_past TooLong before now bytes few past = omega (arith, past_length before now bytes past)
few_or_past Usage before now bytes few written = absurd written
few_or_past WriteFault before now bytes few written = absurd written
few_or_past Memory before now bytes few written = absurd written

one_more : (left rest : Supply) → TakesAtMost SOURCE_BYTES left rest → TakesAtMost (SOURCE_BYTES + 1) left rest
one_more left rest few = (few.0, few.1, omega (arith, few.2))

-- ---- what was written

answers_written : (left before now : Option (List ℕ)) (bytes : List ℕ) → IfSome left (λ script. script ≡ bytes)
    → Appends before now (answers bytes) → IfSome left (λ script. Appends before now (answers script))
answers_written None before now bytes whole wrote = tt
answers_written (Some script) before now bytes whole wrote = subst (λ xs. Appends before now (answers xs)) (sym whole) wrote

lines_at_fault : (left rest : Supply) (before now : Option (List ℕ)) (bytes : List ℕ) → Gives left rest bytes → AnswersWhole before now bytes
    → WritesLines 0 left rest before now
lines_at_fault left rest before now bytes took read = record {
  bytes = bytes;
  beyond = [];
  taken = subst (Gives left rest) (sym (append-nil bytes)) took;
  past = refl;
  answered = read;
}

lines_at_limit : (left rest : Supply) (before now : Option (List ℕ)) (bytes : List ℕ) → Gives left rest bytes → GoesPast before now bytes
    → WritesLines 1 left rest before now
lines_at_limit left rest before now bytes took past = record {
  bytes = past.within;
  beyond = past.beyond;
  taken = subst (Gives left rest) past.split took;
  past = past.one;
  answered = past.answered;
}

-- what waits is written, and is all that was answered
pub stopped : (r : Replayer) (left rest : Supply) (before mid now : Option (List ℕ)) → StreamsStop r left rest before mid
    → Appends mid now r.out.bytes.items → StopsAtMachine left rest before now
stopped r left rest before mid now stop wrote =
    let holds = stop.holds in
    record {
      whole = holds.whole;
      text = holds.text;
      more = stop.more;
      taken = subst (Gives left rest) holds.split stop.taken;
      lines = holds.lines;
      no_end = holds.no_end;
      end = elim stop.end [
        | inl goes_on ↦ inl goes_on
        | inr last ↦ inr (
          last.0,
          subst (IsAllLeft left)
              (holds.split ∙ ap (λ xs. holds.whole ++ xs) (ap (λ xs. holds.text ++ xs) last.0 ∙ append-nil holds.text)) last.1,
        )
      ];
      asks = holds.asks;
      written = all_written r.out.bytes.items before mid now _ holds.gathered wrote;
    }

pub stopped_front : (r : Replayer) (left rest : Supply) (before mid now : Option (List ℕ)) → StreamsStop r left rest before mid
    → CutOff mid now r.out.bytes.items → StreamsFront left rest before now
stopped_front r left rest before mid now stop cut =
    let holds = stop.holds in
    let lines : CutsLines before now stop.bytes = record {
      whole = holds.whole;
      more = holds.text ++ stop.more;
      split = holds.split;
      lines = holds.lines;
      cut = cut_after r.out.bytes.items [] (answers holds.whole) before mid now (answers holds.whole) holds.gathered cut
          (append-nil (answers holds.whole));
    } in
    record {
      front = record { bytes = stop.bytes; taken = stop.taken; cut = inl lines };
      limit = (stop.bytes, stop.taken, stop.limit);
    }

-- ---- how a run ends

-- where the reading ended
pub ends_read : {status : Status} {left rest : Supply} {before now : Option (List ℕ)} {a b c d : ℕ} → Streams status left rest before now
    → (status ≡ Done → Rose left.ends rest.ends) → (status ≡ ReadFault → Rose a b) → a ≤ b → c ≤ d
    → RunEnds (Some Replay) status left rest before now a b c d
ends_read {status} {left} {rest} {before} {now} streams ended rose source_later sink_later =
    let bytes = streams.bytes in
    let took = streams.taken in
    let wrote = λ (s : Status) (is : status ≡ s). let w : WrittenFor s before now bytes =
    subst (λ s. WrittenFor s before now bytes) is streams.written in w in
    record {
      as_asked = record {
        done = λ is. answers_written left.to_come before now bytes (streams.whole is) (wrote Done is);
        all = λ is. (ended is, all_of left.to_come rest.to_come bytes took.0 (streams.whole is));
        read_fault = λ is. lines_at_fault left rest before now bytes took (wrote ReadFault is);
        too_long = λ is. lines_at_limit left rest before now bytes took (wrote TooLong is);
        write_fault = λ is. absurd (wrote WriteFault is);
        bound = (bytes, took, few_or_past status before now bytes streams.limit streams.written);
        limit = λ other. (bytes, took, streams.limit other);
      };
      read_fault = rose;
      write_fault = λ is. absurd (wrote WriteFault is);
      too_long = λ is. (bytes, took, past_length before now bytes (wrote TooLong is));
      memory = λ is. absurd (wrote Memory is);
      source_faults = source_later;
      sink_faults = sink_later;
    }

-- where the sink failed
pub ends_cut : {left rest : Supply} {before now : Option (List ℕ)} {a b c d : ℕ} → StreamsFront left rest before now → Rose c d → a ≤ b → c ≤ d
    → RunEnds (Some Replay) WriteFault left rest before now a b c d
ends_cut {left} {rest} cut rose source_later sink_later = record {
  as_asked = record {
    done = λ e. absurd (cc);
    all = λ e. absurd (cc);
    read_fault = λ e. absurd (cc);
    too_long = λ e. absurd (cc);
    write_fault = λ e. cut.front;
    bound = one_more left rest cut.limit;
    limit = λ e. cut.limit;
  };
  read_fault = λ e. absurd (cc);
  write_fault = λ e. rose;
  too_long = λ e. absurd (cc);
  memory = λ e. absurd (cc);
  source_faults = source_later;
  sink_faults = sink_later;
}

-- where memory lacked, and what waited is written
pub ends_stopped : {r : Replayer} {left rest : Supply} {before mid now : Option (List ℕ)} {a b c d : ℕ} → StreamsStop r left rest before mid
    → Appends mid now r.out.bytes.items → a ≤ b → c ≤ d → RunEnds (Some Replay) Memory left rest before now a b c d
ends_stopped {r} {left} {rest} {before} {mid} {now} stop wrote source_later sink_later =
    let few : TakesAtMost SOURCE_BYTES left rest = (stop.bytes, stop.taken, stop.limit) in
    record {
      as_asked = record {
        done = λ e. absurd (cc);
        all = λ e. absurd (cc);
        read_fault = λ e. absurd (cc);
        too_long = λ e. absurd (cc);
        write_fault = λ e. absurd (cc);
        bound = one_more left rest few;
        limit = λ e. few;
      };
      read_fault = λ e. absurd (cc);
      write_fault = λ e. absurd (cc);
      too_long = λ e. absurd (cc);
      memory = λ e. inr (stopped r left rest before mid now stop wrote);
      source_faults = source_later;
      sink_faults = sink_later;
    }

-- ---- a generated script

pub generate_usage : {asked : Option Subcommand} {count seed : ℕ} {status : Status} {left rest : Supply} {before now : Option (List ℕ)}
    {a b c d : ℕ} → asked ≡ Some (Generate count seed) → RunEnds (Some (Generate count seed)) status left rest before now a b c d
    → (status ≡ Usage) ↔ (asked ≡ None)
generate_usage asks ends = (
  λ is. elim ends.as_asked.ends [
    | inl done ↦ absurd (cc)
    | inr other ↦ elim other [
      | inl fault ↦ absurd (cc)
      | inr memory ↦ absurd (cc)
    ]
  ],
  λ none. absurd (cc),
)

pub generate_complete : {count seed : ℕ} {status : Status} {left rest : Supply} {before now : Option (List ℕ)} {a b c d : ℕ}
    → RunEnds (Some (Generate count seed)) status left rest before now a b c d → (¬ Rose c d) → IsDoneOrMemory status
generate_complete ends no_fault = elim ends.as_asked.ends [
  | inl done ↦ inl done
  | inr other ↦ elim other [
    | inl fault ↦ absurd (no_fault (ends.write_fault fault))
    | inr memory ↦ inr memory
  ]
]
