-- The steps of so many words, appended word by word.
use Rattle.std.proofs.Common.{◌≡◌, ℕ, suc, ◌+◌, ◌-◌, ◌<◌, ◌++◌, sym, ap, ◌∙◌, arith}
use Rattle.aia_plan.specs.Plan.{WrittenPlan, each_word}
use Rattle.std.proofs.lemmas.List.{append_assoc}

each_more : (of_word : ℕ → WrittenPlan) (w words : ℕ) → w < words
    → each_word of_word w (words - w) ≡ of_word w ++ each_word of_word (w + 1) (words - (w + 1))
each_more of_word w words low =
    let e : words - w ≡ suc (words - (w + 1)) = omega arith in
    let n : suc w ≡ w + 1 = omega arith in
    ap (each_word of_word w) e ∙ ap (λ k. of_word w ++ each_word of_word k (words - (w + 1))) n

pub each_pushed : (of_word : ℕ → WrittenPlan) (w words : ℕ) (now next whole : WrittenPlan) → w < words → next ≡ now ++ of_word w
    → now ++ each_word of_word w (words - w) ≡ whole → next ++ each_word of_word (w + 1) (words - (w + 1)) ≡ whole
each_pushed of_word w words now next whole low e h =
    ap (λ xs. xs ++ each_word of_word (w + 1) (words - (w + 1))) e
    ∙ append_assoc now (of_word w) (each_word of_word (w + 1) (words - (w + 1)))
    ∙ ap (λ xs. now ++ xs) (sym (each_more of_word w words low))
    ∙ h
