-- Bytes that are cut at LF, and read text by text.
use Rattle.std.proofs.Common.{append_assoc, ◌≡◌, ℕ, ◌+◌, ◌<◌, List, [], ◌∷◌, ◌++◌, length, take, drop, Some, None, refl, sym, ap, ◌∙◌, arith}
use Rattle.std.specs.Prelude.{position}
use Rattle.std.proofs.lemmas.List.{length-map}
use Rattle.std.proofs.lemmas.Option.{slice_get-map}
use Rattle.aia_io.proofs.CutLemmas.{CutsAtEnds, cut_at_end, front_cut, is_end, last_cut, no_end_at_all, no_end_before}
use Rattle.plans_text.specs.PlanFile.{FileRead, none_read, with_text, with_texts, all_answers, all_outcomes, answers, outcome, texts_of}

pub ruleset place_lemmas = (slice_get-map, length-map)

-- a file's texts are its bytes cut at LF
pub texts_cut : CutsAtEnds texts_of
texts_cut = record { none = refl; more = λ b bytes. refl }

-- the first text was read, and the others are left
pub text_more : (old new : FileRead) (rest : List ℕ) (i : ℕ) (all : FileRead) → Some i ≡ position is_end rest → new ≡ with_text old (take i rest)
    → with_texts old (texts_of rest) ≡ all → with_texts new (texts_of (drop (i + 1) rest)) ≡ all
text_more old new rest i all at is so =
    ap (λ r. with_texts r (texts_of (drop (i + 1) rest))) is
    ∙ sym (ap (with_texts old) (ap texts_of (cut_at_end rest i (sym at))
    ∙ front_cut texts_of texts_cut (take i rest) (drop (i + 1) rest) (no_end_before rest i (sym at))))
    ∙ so

-- what is left has no LF
pub last_text : (old new : FileRead) (rest : List ℕ) → None ≡ position is_end rest → 0 < length rest → new ≡ with_text old rest
    → new ≡ with_texts old (texts_of rest)
last_text old new [] at some is = absurd (omega (arith, some))
last_text old new (b ∷ bytes) at some is = is ∙ sym (ap (with_texts old) (last_cut texts_of texts_cut b bytes (no_end_at_all (b ∷ bytes) (sym at))))

pub no_text : (old : FileRead) (rest : List ℕ) → length rest ≡ 0 → old ≡ with_texts old (texts_of rest)
no_text old [] none = refl
no_text old (b ∷ bytes) none = absurd (omega (arith, none))

pub whole : (bytes : List ℕ) (read : FileRead) → read ≡ with_texts none_read (texts_of bytes) → all_answers read ≡ answers bytes
unfolding answers
whole bytes read e = ap all_answers e

pub whole_outcome : (bytes : List ℕ) (read : FileRead) → read ≡ with_texts none_read (texts_of bytes) → all_outcomes read ≡ outcome bytes
unfolding outcome
whole_outcome bytes read e = ap all_outcomes e

pub three_parts : (a b c d first second third : List ℕ) → b ≡ a ++ first → c ≡ b ++ second → d ≡ c ++ third → d ≡ a ++ (first ++ (second ++ third))
three_parts a b c d first second third e f g =
    g ∙ ap (λ xs. xs ++ third) (f ∙ ap (λ xs. xs ++ second) e) ∙ append_assoc (a ++ first) second third ∙ append_assoc a first (second ++ third)
