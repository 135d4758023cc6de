-- The plans of homes, told in the words of anybody's plans and in those of our shape.
use Rattle.std.proofs.Common.{◌≡◌, ℕ, zero, suc, true, List, [], ◌∷◌, ◌++◌, map, refl, sym, ap, ◌∙◌}
use Rattle.std.specs.Prelude.{IfSome}
use Rattle.std.proofs.lemmas.List.{append_assoc, map-append}
use Rattle.std.specs.List.{All, AllByRecursion}
use Rattle.aia_vcpu.specs.declared.end.End.TheVariants.{File, Memory}
use Rattle.aia_vcpu.specs.declared.access.Access.{Access}
use Rattle.aia_vcpu.specs.declared.access.Access.TheVariants as accesses
use Rattle.aia_vcpu.specs.Plans as home
use Rattle.aia_plan.specs.Plan.{WrittenPlan, each_word, all_words, first_steps, last_steps, core_plan}
use Rattle.aia_plan.specs.declared.step.Kind.{Kind}
use Rattle.aia_plan.specs.declared.step.Kind.TheVariants as kinds
use Rattle.aia_plan.specs.declared.step.Step.TheVariants as ours
use Rattle.aia_plan.proofs.Throughout.{by_place}
use Rattle.plans_rules.specs.declared.step.AnyStep.{AnyStep}
use Rattle.plans_rules.specs.Setting.{Setting}
use Rattle.plans_rules.specs.Rows.{widths, AreAccepted}
use Rattle.plans_rules.specs.Rules.{moves}
use Rattle.plans_rules.specs.Safe.{IsSafe, IsTold}
use Rattle.plans_rules.proofs.BoolLaws.{and_left}
use Rattle.plans_rules.proofs.RulesAreSafe.{rules_are_safe, rules_are_told}
use Rattle.plans_of_aia.specs.Translated.{access_of}
use Rattle.plans_of_aia.specs.Told.{told, told_plan, joined_plan, told_setting, shaped, shaped_plan}

-- ---- they keep the rules of anybody's plans, for each number of words that a file may have

pub leave_keeps : AreAccepted widths (told_setting File Memory) (told_plan File Memory)
leave_keeps = (refl, (refl, (refl, (refl, (refl, (refl, tt))))))

pub arrive_keeps : AreAccepted widths (told_setting Memory File) (told_plan Memory File)
arrive_keeps = (refl, (refl, (refl, (refl, (refl, (refl, tt))))))

pub shift_keeps : AreAccepted widths (told_setting File File) (told_plan File File)
shift_keeps = (refl, (refl, (refl, (refl, (refl, (refl, tt))))))

pub leave_joins : AreAccepted widths (told_setting File Memory) (joined_plan File Memory)
leave_joins = (refl, (refl, (refl, (refl, (refl, (refl, tt))))))

pub arrive_joins : AreAccepted widths (told_setting Memory File) (joined_plan Memory File)
arrive_joins = (refl, (refl, (refl, (refl, (refl, (refl, tt))))))

pub shift_joins : AreAccepted widths (told_setting File File) (joined_plan File File)
shift_joins = (refl, (refl, (refl, (refl, (refl, (refl, tt))))))

-- ---- so they are safe, and tell

accepted_safe : (sizes : List ℕ) (settings : ℕ → Setting) (plans : ℕ → List AnyStep) → AreAccepted sizes settings plans
    → AllByRecursion (λ words. IsSafe (settings words) (plans words)) sizes
accepted_safe [] settings plans kept = tt
accepted_safe (words ∷ others) settings plans kept = (
  rules_are_safe (settings words) (plans words) (and_left (moves (settings words) (plans words)) _ kept.0),
  accepted_safe others settings plans kept.1,
)

accepted_told : (sizes : List ℕ) (settings : ℕ → Setting) (plans : ℕ → List AnyStep) → ((words : ℕ) → (settings words).in_memory ≡ true)
    → AreAccepted sizes settings plans → AllByRecursion (λ words. IsTold (settings words) (plans words)) sizes
accepted_told [] settings plans memory kept = tt
accepted_told (words ∷ others) settings plans memory kept =
    (rules_are_told (settings words) (plans words) (memory words) kept.0, accepted_told others settings plans memory kept.1)

all_safe : (settings : ℕ → Setting) (plans : ℕ → List AnyStep) → AreAccepted widths settings plans
    → All (λ words. IsSafe (settings words) (plans words)) widths
all_safe settings plans kept = by_place (λ words. IsSafe (settings words) (plans words)) widths (accepted_safe widths settings plans kept)

pub leave_safe : All (λ words. IsSafe (told_setting File Memory words) (told_plan File Memory words)) widths
leave_safe = all_safe (told_setting File Memory) (told_plan File Memory) leave_keeps

pub arrive_safe : All (λ words. IsSafe (told_setting Memory File words) (told_plan Memory File words)) widths
arrive_safe = all_safe (told_setting Memory File) (told_plan Memory File) arrive_keeps

pub shift_safe : All (λ words. IsSafe (told_setting File File words) (told_plan File File words)) widths
shift_safe = all_safe (told_setting File File) (told_plan File File) shift_keeps

pub leave_tells : All (λ words. IsTold (told_setting File Memory words) (told_plan File Memory words)) widths
leave_tells =
    by_place (λ words. IsTold (told_setting File Memory words) (told_plan File Memory words)) widths
    (accepted_told widths (told_setting File Memory) (told_plan File Memory) (λ words. refl) leave_keeps)

-- ---- the plans of our shape

module _ (kind : Kind) where
  each_shaped : (of_word : ℕ → List Access) (w count : ℕ)
      → map (shaped kind) (home.each_word of_word w count) ≡ each_word (λ w. map (shaped kind) (of_word w)) w count
  each_shaped of_word w zero = refl
  each_shaped of_word w (suc count) =
      map-append (shaped kind) (of_word w) (home.each_word of_word (suc w) count)
      ∙ ap (λ xs. map (shaped kind) (of_word w) ++ xs) (each_shaped of_word (suc w) count)

  -- all words, and what comes after them
  words_shaped : (words : ℕ) (later : List Access) → map (shaped kind) (home.all_words words ++ later) ≡ all_words words ++ map (shaped kind) later
  words_shaped words later =
      let pending : ℕ → List Access = λ w. accesses.TakePending w ∷ accesses.PutPending w ∷ [] in
      let enables : ℕ → List Access = λ w. accesses.TakeEnables w ∷ accesses.PutEnables w ∷ [] in
      map-append (shaped kind) (home.all_words words) later
      ∙ ap (λ xs. xs ++ map (shaped kind) later)
      (map-append (shaped kind) (home.each_word pending 0 words) (home.each_word enables 0 words)
      ∙ ap (λ xs. xs ++ map (shaped kind) (home.each_word enables 0 words)) (each_shaped pending 0 words)
      ∙ ap (λ xs. each_word (λ w. ours.TakeP w ∷ ours.PutP w ∷ []) 0 words ++ xs) (each_shaped enables 0 words))

  looks_shaped : (words : ℕ) (later : List Access)
      → map (shaped kind) (home.each_word (λ w. accesses.Look w ∷ []) 0 words ++ later) ≡ each_word (λ w. ours.Look w ∷ []) 0 words ++ map
      (shaped kind) later
  looks_shaped words later =
      map-append (shaped kind) (home.each_word (λ w. accesses.Look w ∷ []) 0 words) later
      ∙ ap (λ xs. xs ++ map (shaped kind) later) (each_shaped (λ w. accesses.Look w ∷ []) 0 words)

pub core_is_shaped : (kind : Kind) (words : ℕ) → core_plan kind words ≡ shaped_plan kind words
core_is_shaped kinds.Leave words =
    let looks : WrittenPlan = each_word (λ w. ours.Look w ∷ []) 0 words in
    let last : List Access = home.last_part File Memory 0 in
    ap (λ later. first_steps kinds.Leave ++ later)
    (append_assoc (all_words words) looks (last_steps kinds.Leave)
    ∙ sym (words_shaped kinds.Leave words (home.each_word (λ w. accesses.Look w ∷ []) 0 words ++ last)
    ∙ ap (λ later. all_words words ++ later) (looks_shaped kinds.Leave words last)))
core_is_shaped kinds.Arrive words =
    ap (λ later. first_steps kinds.Arrive ++ later) (sym (words_shaped kinds.Arrive words (home.last_part Memory File 0)))
core_is_shaped kinds.Shift words =
    ap (λ later. first_steps kinds.Shift ++ later) (sym (words_shaped kinds.Shift words (home.last_part File File 0)))

-- ---- one access is the same step by both ways

pub told_alike : (kind : Kind) (access : Access) → IfSome (access_of (shaped kind access)) (λ step. told access ≡ step)
told_alike kinds.Leave accesses.Map = refl
told_alike kinds.Arrive accesses.Map = refl
told_alike kinds.Shift accesses.Map = refl
told_alike kind accesses.WriteNotice = refl
told_alike kind accesses.WriteEntry = refl
told_alike kind accesses.Fence = refl
told_alike kind accesses.GFence = refl
told_alike kind (accesses.TakePending w) = refl
told_alike kind (accesses.PutPending w) = refl
told_alike kind (accesses.TakeEnables w) = refl
told_alike kind (accesses.PutEnables w) = refl
told_alike kind (accesses.Look w) = refl
told_alike kind accesses.Post = refl
told_alike kind access = tt
