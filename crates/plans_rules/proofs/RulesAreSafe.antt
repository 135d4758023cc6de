-- The checker's yes implies that a plan is safe, and tells.
use Rattle.std.proofs.Common.{◌≡◌, Bool, true, false, List, [], ◌∷◌, ap}
use Rattle.std.specs.List.{All}
use Rattle.plans_rules.proofs.Throughout.{recursively}
use Rattle.plans_rules.specs.declared.rule.Rule.TheVariants.{Routes, Blank, Words, Numbers, Freeing, Notice}
use Rattle.plans_rules.specs.declared.step.AnyStep.{AnyStep}
use Rattle.plans_rules.specs.Setting.{Setting, all_below}
use Rattle.plans_rules.specs.Rules.{Done, is_reported, lets_rest, keeps, moves, accepts}
use Rattle.plans_rules.specs.Safe.{IsInFile, IsSafe, IsTold}
use Rattle.plans_rules.proofs.BoolLaws.{and_left, and_right, and_of}
use Rattle.plans_rules.proofs.Safety.{GuardRest, guarded_is_safe}
use Rattle.plans_rules.proofs.Telling as telling
use Rattle.plans_rules.proofs.Telling.{guarded_is_told}
use Rattle.plans_rules.proofs.Exact.{safe_keeps}

pub five_kept : (d : Setting) (plan : List AnyStep) → moves d plan ≡ true → GuardRest d [] plan
five_kept d plan e Routes of = and_left (keeps Routes d plan) _ e
five_kept d plan e Words of = and_left (keeps Words d plan) _ (and_right (keeps Routes d plan) _ e)
five_kept d plan e Blank of = and_left (keeps Blank d plan) _ (and_right (keeps Words d plan) _ (and_right (keeps Routes d plan) _ e))
five_kept d plan e Numbers of = and_left (keeps Numbers d plan) _
    (and_right (keeps Blank d plan) _ (and_right (keeps Words d plan) _ (and_right (keeps Routes d plan) _ e)))
five_kept d plan e Freeing of = and_right (keeps Numbers d plan) _
    (and_right (keeps Blank d plan) _ (and_right (keeps Words d plan) _ (and_right (keeps Routes d plan) _ e)))
five_kept d plan e Notice of = absurd of

all_kept : (d : Setting) (plan : List AnyStep) → accepts d plan ≡ true → telling.GuardRest d [] plan
all_kept d plan e Notice = and_right (moves d plan) _ e
all_kept d plan e Routes = five_kept d plan (and_left (moves d plan) _ e) Routes tt
all_kept d plan e Words = five_kept d plan (and_left (moves d plan) _ e) Words tt
all_kept d plan e Blank = five_kept d plan (and_left (moves d plan) _ e) Blank tt
all_kept d plan e Numbers = five_kept d plan (and_left (moves d plan) _ e) Numbers tt
all_kept d plan e Freeing = five_kept d plan (and_left (moves d plan) _ e) Freeing tt

-- **For every number of words, every list of producers and every run: a plan that keeps the five rules is safe.**
pub rules_are_safe : (d : Setting) (plan : List AnyStep) → moves d plan ≡ true → IsSafe d plan
rules_are_safe d plan e = guarded_is_safe d plan (five_kept d plan e)

-- **And no other is.**
pub only_these : (d : Setting) (plan : List AnyStep) → All (IsInFile d.words) plan → IsSafe d plan → moves d plan ≡ true
only_these d plan inside safe =
    let each = recursively (IsInFile d.words) plan inside in
    and_of _ _ (safe_keeps Routes d plan tt each safe)
    (and_of _ _ (safe_keeps Words d plan tt each safe)
    (and_of _ _ (safe_keeps Blank d plan tt each safe)
    (and_of _ _ (safe_keeps Numbers d plan tt each safe) (safe_keeps Freeing d plan tt each safe))))

-- **A plan into memory that keeps the sixth too tells its host.**
pub rules_are_told : (d : Setting) (plan : List AnyStep) → d.in_memory ≡ true → accepts d plan ≡ true → IsTold d plan
rules_are_told d plan memory e = guarded_is_told d plan memory (all_kept d plan e)

-- where nobody is told of anything the rule on notices lets all stand
notice_lets_rest : (d : Setting) (done : Done) (rest : List AnyStep) → d.in_memory ≡ false → lets_rest Notice d done rest ≡ true
notice_lets_rest d done [] e = ap asked e
  where
    asked : Bool → Bool
    asked m = elim m [ true ↦ all_below (λ w. is_reported d w done) d.words | false ↦ true ]
notice_lets_rest d done (x ∷ rest) e = notice_lets_rest d (x ∷ done) rest e

-- **Elsewhere than in memory a plan that is safe is accepted.**
pub safe_is_accepted : (d : Setting) (plan : List AnyStep) → d.in_memory ≡ false → All (IsInFile d.words) plan → IsSafe d plan → accepts d plan ≡ true
safe_is_accepted d plan e inside safe = and_of _ _ (only_these d plan inside safe) (notice_lets_rest d [] plan e)
