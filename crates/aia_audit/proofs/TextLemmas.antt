-- What the reading of a plan's texts means.
use Rattle.std.proofs.Common.{◌≡◌, ℕ, suc, ◌<◌, Bool, true, false, nat_lt, if◌then◌else◌, List, [], ◌∷◌, ◌++◌, length, map, Option, Some, None, ◌⊎◌, inl, inr, refl, sym, ap, subst, ◌∙◌, arith}
use Rattle.std.proofs.lemmas.List.{append_assoc, append-nil, length-append, map-append, length-map}
use Rattle.std.proofs.lemmas.Bool.{ltb-true, ltb-false}
use Rattle.aia_model.specs.Text.{texts_of, is_skipped}
use Rattle.aia_plan.specs.Plan.{WrittenPlan}
use Rattle.aia_plan.specs.declared.step.Step.{Step}
use Rattle.aia_script.specs.StepText.{step_of}
use Rattle.aia_audit.specs.declared.limits.TheConstants.{PLAN_STEPS}
use Rattle.aia_audit.specs.PlanText.{with_step, with_texts, plan_of}
use Rattle.aia_audit.specs.PlanText.PlanRead.{Steps, BadAt}
use Rattle.aia_audit.specs.PlanTexts.{unskipped, Spell, IsBadAt, Means}

-- once a text is bad, nothing more is read
bad_stays : (words k : ℕ) (texts : List (List ℕ)) → with_texts words (BadAt k) texts ≡ BadAt k
bad_stays words k [] = refl
bad_stays words k (text ∷ texts) = bad_stays words k texts

same_length : (words : ℕ) (texts : List (List ℕ)) (plan : WrittenPlan) → Spell words texts plan → length texts ≡ length plan
same_length words texts plan s = sym (length-map texts (step_of words)) ∙ ap length s.steps ∙ length-map plan Some

bad_here : (words : ℕ) (before : List (List ℕ)) (plan : WrittenPlan) (text : List ℕ) (others : List (List ℕ)) → Spell words before plan
    → (step_of words text ≡ None) ⊎ (length before ≡ PLAN_STEPS) → IsBadAt words (before ++ text ∷ others) (suc (length plan))
bad_here words before plan text others good bad =
    let same = same_length words before plan good in
    record {
      before = before;
      text = text;
      others = others;
      split = refl;
      place = omega (arith, same);
      plan = plan;
      good = good;
      bad = bad;
    }

spell_more : (words : ℕ) (before : List (List ℕ)) (plan : WrittenPlan) (text : List ℕ) (step : Step) → Spell words before plan
    → step_of words text ≡ Some step → length plan < PLAN_STEPS → Spell words (before ++ text ∷ []) (plan ++ step ∷ [])
spell_more words before plan text step s e room =
    let same = same_length words before plan s in
    let longer = length-append before (text ∷ []) in
    record {
      steps =
          map-append (step_of words) before (text ∷ [])
          ∙ ap (λ xs. xs ++ step_of words text ∷ []) s.steps
          ∙ ap (λ x. map Some plan ++ x ∷ []) e
          ∙ sym (map-append Some plan (step ∷ []));
      few = omega (arith, same, longer, room);
    }

-- What is read of the texts after some that spell a plan.
abbrev pub ReadsOn : ℕ → List (List ℕ) → Type 0
ReadsOn words texts = (before : List (List ℕ)) (plan : WrittenPlan) → Spell words before plan
    → Means words (before ++ unskipped texts) (with_texts words (Steps plan) texts)

step_more : (words : ℕ) (before : List (List ℕ)) (plan : WrittenPlan) (text : List ℕ) (texts : List (List ℕ)) (step : Step) → Spell words before plan
    → ReadsOn words texts → step_of words text ≡ Some step
    → (room : Bool) → nat_lt (length plan) PLAN_STEPS ≡ room
    → Means words (before ++ text ∷ unskipped texts) (with_texts words (if room then Steps (plan ++ step ∷ []) else BadAt (suc (length plan))) texts)
step_more words before plan text texts step s on e true room =
    subst (λ ts. Means words ts (with_texts words (Steps (plan ++ step ∷ [])) texts)) (append_assoc before (text ∷ []) (unskipped texts))
    (on (before ++ text ∷ []) (plan ++ step ∷ []) (spell_more words before plan text step s e (ltb-true (length plan) PLAN_STEPS room)))
step_more words before plan text texts step s on e false room =
    let same = same_length words before plan s in
    let none_left = ltb-false (length plan) PLAN_STEPS room in
    subst (Means words (before ++ text ∷ unskipped texts)) (sym (bad_stays words (suc (length plan)) texts))
    (bad_here words before plan text (unskipped texts) s (inr (omega (arith, same, none_left, s.few))))

text_more : (words : ℕ) (before : List (List ℕ)) (plan : WrittenPlan) (text : List ℕ) (texts : List (List ℕ))
    → Spell words before plan → ReadsOn words texts
    → (skipped : Bool) (found : Option Step) → step_of words text ≡ found
    → Means words (before ++ (if skipped then unskipped texts else text ∷ unskipped texts))
    (with_texts words (if skipped then Steps plan else with_step plan found) texts)
text_more words before plan text texts s on true found e = on before plan s
text_more words before plan text texts s on false None e =
    subst (Means words (before ++ text ∷ unskipped texts)) (sym (bad_stays words (suc (length plan)) texts))
    (bad_here words before plan text (unskipped texts) s (inl e))
text_more words before plan text texts s on false (Some step) e =
    step_more words before plan text texts step s on e (nat_lt (length plan) PLAN_STEPS) refl

reads_on : (words : ℕ) (texts : List (List ℕ)) → ReadsOn words texts
reads_on words [] before plan s = subst (λ ts. Spell words ts plan) (sym (append-nil before)) s
reads_on words (text ∷ texts) before plan s = text_more words before plan text texts s (reads_on words texts) (is_skipped text)
    (step_of words text) refl

pub plan_means : (words : ℕ) (bytes : List ℕ) → Means words (unskipped (texts_of bytes)) (plan_of words bytes)
plan_means words bytes = reads_on words (texts_of bytes) [] [] (record { steps = refl; few = omega arith })
