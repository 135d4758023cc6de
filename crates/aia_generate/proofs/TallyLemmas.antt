-- A tally of lines, and of one more.
use Rattle.std.proofs.Common.{◌≡◌, ℕ, ◌+◌, ◌%◌, ◌^◌, ◌<◌, ◌≤◌, List, [], ◌∷◌, ◌++◌, length, Option, Some, None, refl, sym, ap, ◌∙◌, arith, length-append, append-nil, subst}
use Rattle.std.proofs.Math.Nat.{mod-add-mod}
use Rattle.aia_model.specs.declared.line.Line.{Line}
use Rattle.aia_model.specs.declared.answer.Answer.{Answer}
use Rattle.aia_model.specs.Event.{History}
use Rattle.aia_model.specs.Notice.{notices_sent}
use Rattle.aia_model.specs.Answer.{answer, after, after_lines}
use Rattle.aia_generate.specs.declared.tally.Tally.{Tally}
use Rattle.aia_generate.specs.Summary.{claim_of, with_claim, claims_from, total, summary_text, summary_of, summary}
use Rattle.aia_generate.specs.Generated.{generated}
use Rattle.aia_generate.specs.Tally.{counted, tally_after, Tallies}

-- the history after one line more
pub after_lines-append : (h : History) (lines : List Line) (line : Line) → after_lines h (lines ++ line ∷ []) ≡ after (after_lines h lines) line
after_lines-append h [] line = refl
after_lines-append h (x ∷ lines) line = after_lines-append (after h x) lines line

with_claim-append : (claim : Option ℕ) (xs ys : List ℕ) → with_claim claim (xs ++ ys) ≡ with_claim claim xs ++ ys
with_claim-append None xs ys = refl
with_claim-append (Some i) xs ys = refl

-- what one line more claims comes after what the lines before claimed
claims_from-append : (h : History) (lines : List Line) (line : Line)
    → claims_from h (lines ++ line ∷ []) ≡ claims_from h lines ++ with_claim (claim_of line (answer (after_lines h lines) line)) []
unfolding claims_from
claims_from-append h [] line = refl
claims_from-append h (x ∷ lines) line =
    ap (with_claim (claim_of x (answer h x))) (claims_from-append (after h x) lines line)
    ∙ with_claim-append (claim_of x (answer h x)) (claims_from (after h x) lines)
    (with_claim (claim_of line (answer (after_lines (after h x) lines) line)) [])

total-append : (xs : List ℕ) (i : ℕ) → total (xs ++ i ∷ []) ≡ total xs + i
total-append [] i = omega arith
total-append (x ∷ xs) i = let more : total (xs ++ i ∷ []) ≡ total xs + i = total-append xs i in omega arith

counted_more : (n : ℕ) → counted (counted n + 1) ≡ counted (n + 1)
counted_more n = omega arith

tallied : (t : Tally) (lines : List Line) (line : Line) (claim : Option ℕ)
    → claims_from [] (lines ++ line ∷ []) ≡ claims_from [] lines ++ with_claim claim [] → Tallies t lines
    → Tallies (tally_after t claim) (lines ++ line ∷ [])
tallied t lines line None more of_lines =
    let same : claims_from [] (lines ++ line ∷ []) ≡ claims_from [] lines = more ∙ append-nil (claims_from [] lines) in
    record {
      all_lines = ap (λ n. counted (n + 1)) of_lines.all_lines ∙ counted_more (length lines) ∙ ap counted (sym (length-append lines (line ∷ [])));
      all_claims = of_lines.all_claims ∙ ap (λ claims. counted (length claims)) (sym same);
      all_summed = of_lines.all_summed ∙ ap (λ claims. total claims % 2 ^ 64) (sym same);
    }
tallied t lines line (Some i) more of_lines =
    record {
      all_lines = ap (λ n. counted (n + 1)) of_lines.all_lines ∙ counted_more (length lines) ∙ ap counted (sym (length-append lines (line ∷ [])));
      all_claims = ap (λ n. counted (n + 1)) of_lines.all_claims ∙ counted_more (length (claims_from [] lines))
          ∙ ap counted (sym (ap length more ∙ length-append (claims_from [] lines) (i ∷ [])));
      all_summed = ap (λ n. (n + i) % 2 ^ 64) of_lines.all_summed ∙ mod-add-mod (total (claims_from [] lines)) (2 ^ 64) i
          ∙ ap (λ n. n % 2 ^ 64) (sym (ap total more ∙ total-append (claims_from [] lines) i));
    }

pub tally_of_more : (t u : Tally) (lines : List Line) (line : Line) (given : Answer) → u ≡ tally_after t (claim_of line given) → Tallies t lines
    → given ≡ answer (after_lines [] lines) line → Tallies u (lines ++ line ∷ [])
tally_of_more t u lines line given after_it of_lines is =
    subst (λ (v : Tally). Tallies v (lines ++ line ∷ [])) (sym after_it)
    (tallied t lines line (claim_of line given)
    (claims_from-append [] lines line ∙ ap (λ (a : Answer). claims_from [] lines ++ with_claim (claim_of line a) []) (sym is)) of_lines)

-- ---- exact counts

with_claim-length : (claim : Option ℕ) (xs : List ℕ) → length (with_claim claim xs) ≤ length xs + 1
with_claim-length None xs = omega arith
with_claim-length (Some i) xs = omega arith

-- no more identities are claimed than there are lines
claims_from-length : (h : History) (lines : List Line) → length (claims_from h lines) ≤ length lines
unfolding claims_from
claims_from-length h [] = omega arith
claims_from-length h (line ∷ lines) =
    let claim : Option ℕ = claim_of line (answer h line) in
    let first : length (with_claim (claim_of line (answer h line)) (claims_from (after h line) lines)) ≤ length
    (claims_from (after h line) lines) + 1 = with_claim-length (claim_of line (answer h line)) (claims_from (after h line) lines) in
    let later : length (claims_from (after h line) lines) ≤ length lines = claims_from-length (after h line) lines in
    omega arith

-- the numbers of a tally of lines that are fewer than a count can say
pub exact_lines : (t : Tally) (lines : List Line) → Tallies t lines → length lines < 2 ^ 64 → t.lines ≡ length lines
exact_lines t lines of_lines few = of_lines.all_lines ∙ (let e : counted (length lines) ≡ length lines = omega arith in e)

pub exact_claims : (t : Tally) (lines : List Line) → Tallies t lines → length lines < 2 ^ 64 → t.claims ≡ length (claims_from [] lines)
exact_claims t lines of_lines few =
    let fewer : length (claims_from [] lines) ≤ length lines = claims_from-length [] lines in
    of_lines.all_claims ∙ (let e : counted (length (claims_from [] lines)) ≡ length (claims_from [] lines) = omega arith in e)

-- so the text of its numbers is the summary of the lines
pub summary_told : (t : Tally) (lines : List Line) (notices : ℕ) → Tallies t lines → length lines < 2 ^ 64
    → notices ≡ notices_sent (after_lines [] lines) → summary_text t.lines t.claims notices t.sum ≡ summary_of lines
summary_told t lines notices of_lines few sent =
    ap (λ n. summary_text n t.claims notices t.sum) (exact_lines t lines of_lines few)
    ∙ ap (λ n. summary_text (length lines) n notices t.sum) (exact_claims t lines of_lines few)
    ∙ ap (λ n. summary_text (length lines) (length (claims_from [] lines)) n t.sum) sent
    ∙ ap (summary_text (length lines) (length (claims_from [] lines)) (notices_sent (after_lines [] lines))) of_lines.all_summed

pub generated_told : (t : Tally) (count seed notices : ℕ) → Tallies t (generated count seed) → length (generated count seed) < 2 ^ 64
    → notices ≡ notices_sent (after_lines [] (generated count seed)) → summary_text t.lines t.claims notices t.sum ≡ summary count seed
unfolding summary
generated_told t count seed notices = summary_told t (generated count seed) notices
