-- What a replayer holds after a piece, line by line.
use Rattle.std.proofs.Common.{◌≡◌, ℕ, List, [], ◌∷◌, ◌++◌, take, Option, refl, sym, ap, subst, ◌∙◌, append_assoc}
use Rattle.std.proofs.lemmas.List.{append-nil}
use Rattle.aia_replay.specs.declared.replayer.Replayer.{Replayer}
use Rattle.aia_io.specs.Ends.{CutOff}
use Rattle.aia_io.specs.Lines.{NoEnd}
use Rattle.aia_replay.specs.Runs.{CutsLines}
use Rattle.aia_replay.specs.Streams.{HasAnswered, HasStopped, Feeds, FeedsFront, FeedsStop, AnswersText, LacksMemory}
use Rattle.aia_replay.proofs.HeldLemmas.{part_kept, line_ended, holds_cut, line_stopped, with_part, as_kept, lacks_kept}

-- ---- a piece, line by line

-- The lines of a piece as far as `rest` are answered.
pub record Fed (old new : Replayer) (mid now : Option (List ℕ)) (piece rest : List ℕ) : Type 0 where
  pub done : List ℕ
  pub split : piece ≡ done ++ rest
  pub feeds : Feeds old new mid now done

pub fed_nothing : (r : Replayer) (now : Option (List ℕ)) (piece : List ℕ) → Fed r r now now piece piece
fed_nothing r now piece = record {
  done = [];
  split = refl;
  feeds = λ before bytes holds. subst (HasAnswered r before now) (sym (append-nil bytes)) holds;
}

-- the bytes of a line are kept, which is cut off at its LF
kept_at : (old mid kept : Replayer) (before first late : Option (List ℕ)) (bytes piece rest front : List ℕ)
    → (fed : Fed old mid first late piece rest) → NoEnd front
    → kept.line.items ≡ take 129 (mid.line.items ++ front) → kept ≡ record mid { line = kept.line } → HasAnswered old before first bytes
    → HasAnswered kept before late ((bytes ++ fed.done) ++ front)
kept_at old mid kept before first late bytes piece rest front fed none line others holds =
    part_kept mid kept before late (bytes ++ fed.done) front none line others (fed.feeds before bytes holds)

-- a line more
pub fed_line : (old mid new : Replayer) (first late now : Option (List ℕ)) (piece rest front more : List ℕ) → Fed old mid first late piece rest
    → rest ≡ front ++ (10 ∷ more) → NoEnd front
    → AnswersText mid new late now (mid.line.items ++ front) → Fed old new first now piece more
fed_line old mid new first late now piece rest front more fed cut none answered = record {
  done = fed.done ++ (front ++ (10 ∷ []));
  split = fed.split ∙ ap (λ xs. fed.done ++ xs) (cut ∙ sym (append_assoc front (10 ∷ []) more))
      ∙ sym (append_assoc fed.done (front ++ (10 ∷ [])) more);
  feeds = λ before bytes holds. subst (HasAnswered new before now)
      (ap (λ xs. xs ++ (10 ∷ [])) (append_assoc bytes fed.done front) ∙ append_assoc bytes (fed.done ++ front) (10 ∷ [])
      ∙ ap (λ xs. bytes ++ xs) (append_assoc fed.done front (10 ∷ [])))
      (line_ended (with_part mid front) new before late now ((bytes ++ fed.done) ++ front) (as_kept mid new late now front answered)
      (kept_at old mid (with_part mid front) before first late bytes piece rest front fed none refl refl holds));
}

all_of_piece : (bytes done front more rest piece : List ℕ) → piece ≡ done ++ rest → rest ≡ front ++ (10 ∷ more)
    → ((bytes ++ done) ++ front) ++ (10 ∷ more) ≡ bytes ++ piece
all_of_piece bytes done front more rest piece split cut =
    append_assoc (bytes ++ done) front (10 ∷ more) ∙ ap (λ xs. (bytes ++ done) ++ xs) (sym cut) ∙ append_assoc bytes done rest
    ∙ ap (λ xs. bytes ++ xs) (sym split)

pub fed_front : (old mid : Replayer) (first late now : Option (List ℕ)) (piece rest front more : List ℕ) → Fed old mid first late piece rest
    → rest ≡ front ++ (10 ∷ more) → NoEnd front
    → CutOff late now mid.out.bytes.items → FeedsFront old first now piece
fed_front old mid first late now piece rest front more fed cut none off =
    λ before bytes holds. subst (CutsLines before now) (all_of_piece bytes fed.done front more rest piece fed.split cut)
    (holds_cut (with_part mid front) before late now ((bytes ++ fed.done) ++ front) (10 ∷ more)
    (kept_at old mid (with_part mid front) before first late bytes piece rest front fed none refl refl holds) off)

pub fed_stop : (old mid new : Replayer) (first late now : Option (List ℕ)) (piece rest front more : List ℕ) → Fed old mid first late piece rest
    → rest ≡ front ++ (10 ∷ more) → NoEnd front
    → LacksMemory mid new late now (mid.line.items ++ front) → FeedsStop old new first now piece
fed_stop old mid new first late now piece rest front more fed cut none lacks =
    λ before bytes holds. (
      more,
      subst (λ xs. HasStopped new before now xs (10 ∷ more)) (all_of_piece bytes fed.done front more rest piece fed.split cut)
          (line_stopped (with_part mid front) new before late now ((bytes ++ fed.done) ++ front) (10 ∷ more)
          (lacks_kept mid new late now front lacks) (kept_at old mid (with_part mid front) before first late bytes piece rest front fed none
          refl refl holds)),
    )

-- what is left of the last line
pub fed_rest : (old mid new : Replayer) (first now : Option (List ℕ)) (piece rest : List ℕ) → Fed old mid first now piece rest → NoEnd rest
    → new.line.items ≡ take 129 (mid.line.items ++ rest) → new ≡ record mid { line = new.line } → Feeds old new first now piece
fed_rest old mid new first now piece rest fed none line others =
    λ before bytes holds. subst (HasAnswered new before now) (append_assoc bytes fed.done rest ∙ ap (λ xs. bytes ++ xs) (sym fed.split))
    (kept_at old mid new before first now bytes piece rest rest fed none line others holds)
