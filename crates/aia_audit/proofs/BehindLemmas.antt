-- All that stands behind a step, put together of its parts.
use Rattle.std.proofs.Common.{◌≡◌, ℕ, Bool, true, false, [], ◌∷◌, Option, Some, None, refl, ap, ◌∙◌}
use Rattle.std.proofs.lemmas.Bool.{false≢true}
use Rattle.aia_plan.specs.Rule.{first_failing}
use Rattle.aia_audit.specs.declared.verdict.Verdict.{Verdict}
use Rattle.aia_audit.specs.declared.verdict.Verdict.TheVariants.{Accepted, Refused}
use Rattle.aia_audit.specs.Verdicts.{verdict_by}
use Rattle.aia_audit.specs.declared.behind.Behind.{Behind}
use Rattle.aia_audit.specs.declared.routes.Routes.{Routes}
use Rattle.aia_audit.specs.declared.takes.Takes.{Takes}

abbrev pub made : Routes → Takes → Takes → Behind
made routes pending enables = record { routes = routes; pending = pending; enables = enables }

pub same_behind : (r s : Routes) (p q e f : Takes) → r ≡ s → p ≡ q → e ≡ f → made r p e ≡ made s q f
same_behind r s p q e f same_r same_p same_e =
    ap (λ x. made x p e) same_r ∙ ap (λ x. made s x e) same_p ∙ ap (λ x. made s q x) same_e

-- the verdict by the parts
pub same_parts : (a1 b1 a2 b2 a3 b3 a4 b4 : Bool) → a1 ≡ b1 → a2 ≡ b2 → a3 ≡ b3 → a4 ≡ b4
    → verdict_by (first_failing 1 (a1 ∷ a2 ∷ a3 ∷ a4 ∷ [])) ≡ verdict_by (first_failing 1 (b1 ∷ b2 ∷ b3 ∷ b4 ∷ []))
same_parts a1 b1 a2 b2 a3 b3 a4 b4 e1 e2 e3 e4 =
    ap (λ x. verdict_by (first_failing 1 (x ∷ a2 ∷ a3 ∷ a4 ∷ []))) e1
    ∙ ap (λ x. verdict_by (first_failing 1 (b1 ∷ x ∷ a3 ∷ a4 ∷ []))) e2
    ∙ ap (λ x. verdict_by (first_failing 1 (b1 ∷ b2 ∷ x ∷ a4 ∷ []))) e3
    ∙ ap (λ x. verdict_by (first_failing 1 (b1 ∷ b2 ∷ b3 ∷ x ∷ []))) e4

-- a plan that is accepted keeps the rule
pub accepted_keeps : (part : Option ℕ) → verdict_by part ≡ Accepted → part ≡ None
accepted_keeps None e = refl
accepted_keeps (Some r) e = absurd (false≢true (ap is_accepted e))
  where
    is_accepted : Verdict → Bool
    is_accepted Accepted = true
    is_accepted (Refused part) = false
