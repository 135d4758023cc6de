-- The engine after one line more, and the summary of the lines that it answered.
use Rattle.std.proofs.Common.{◌≡◌, ℕ, ◌-◌, ◌^◌, ◌≤◌, min, List, [], ◌∷◌, ◌++◌, Option, Some, inl, inr, refl, sym, subst, ◌∙◌, arith}
use Rattle.std.specs.Io.KnownBytes.{Appends}
use Rattle.aia_io.specs.Ends.{Supply, Rose, CutOff}
use Rattle.aia_command.specs.declared.subcommand.Subcommand.TheVariants.{Generate}
use Rattle.aia_model.specs.declared.answer.Answer.{Answer}
use Rattle.aia_model.specs.declared.line.Line.{Line}
use Rattle.aia_model.specs.Answer.{after_lines}
use Rattle.aia_model.specs.Notice.{notices_sent}
use Rattle.aia_generate.specs.declared.tally.Tally.{Tally}
use Rattle.aia_generate.specs.Generated.{generated}
use Rattle.aia_generate.specs.Tally.{Tallies}
use Rattle.aia_generate.specs.Summary.{summary_text, summary}
use Rattle.aia_generate.proofs.DrawLemmas.{generated-length}
use Rattle.aia_generate.proofs.NoticeLemmas.{few_notices}
use Rattle.aia_generate.proofs.TallyLemmas.{after_lines-append, generated_told}
use Rattle.aia_replay.specs.declared.program.Status.TheVariants.{Done, WriteFault}
use Rattle.aia_replay.specs.Runs.{RunEnds}
use Rattle.aia_replay.specs.Stands.{EngineState, StandsFor, Serves}

pub stands_one_more : (old new : EngineState) (lines : List Line) (line : Line) (given : Answer) → StandsFor old (after_lines [] lines)
    → Serves old new line given → StandsFor new (after_lines [] (lines ++ line ∷ []))
stands_one_more old new lines line given stands serves =
    subst (StandsFor new) (sym (after_lines-append [] lines line)) (serves.stands (after_lines [] lines) stands)

-- ---- the summary

-- what is printed of the tally of a generated script, and of its notices, is its summary
pub is_summary : (t : Tally) (count seed notices : ℕ) → count ≤ 100000 → Tallies t (generated count seed)
    → notices ≡ min (notices_sent (after_lines [] (generated count seed))) (2 ^ 64 - 1)
    → summary_text t.lines t.claims notices t.sum ≡ summary count seed
is_summary t count seed notices few tallies counted =
    let lines = generated-length count seed in
    let sent = few_notices (generated count seed) in
    let exact : min (notices_sent (after_lines [] (generated count seed))) (2 ^ 64 - 1) ≡ notices_sent (after_lines [] (generated count seed)) =
    omega (arith, lines, sent, few) in
    generated_told t count seed notices tallies (omega (arith, lines, few)) (counted ∙ exact)

pub summary_written : {count seed : ℕ} {text : List ℕ} {before now : Option (List ℕ)} {a b : ℕ} (left : Supply) (faults : ℕ)
    → text ≡ summary count seed → Appends before now text → a ≤ b
    → RunEnds (Some (Generate count seed)) Done left left before now faults faults a b
summary_written {before = before} {now = now} left faults told wrote later = record {
  as_asked = record {
    ends = inl refl;
    unread = refl;
    done = λ e. subst (Appends before now) told wrote;
    write_fault = λ e. absurd (cc);
    memory = λ e. absurd (cc);
  };
  read_fault = λ e. absurd (cc);
  write_fault = λ e. absurd (cc);
  too_long = λ e. absurd (cc);
  memory = λ e. absurd (cc);
  source_faults = omega arith;
  sink_faults = later;
}

pub summary_cut : {count seed : ℕ} {text : List ℕ} {before now : Option (List ℕ)} {a b : ℕ} (left : Supply) (faults : ℕ)
    → text ≡ summary count seed → CutOff before now text → Rose a b → a ≤ b
    → RunEnds (Some (Generate count seed)) WriteFault left left before now faults faults a b
summary_cut {before = before} {now = now} left faults told cut rose later = record {
  as_asked = record {
    ends = inr (inl refl);
    unread = refl;
    done = λ e. absurd (cc);
    write_fault = λ e. subst (CutOff before now) told cut;
    memory = λ e. absurd (cc);
  };
  read_fault = λ e. absurd (cc);
  write_fault = λ e. rose;
  too_long = λ e. absurd (cc);
  memory = λ e. absurd (cc);
  source_faults = omega arith;
  sink_faults = later;
}
