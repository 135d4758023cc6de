-- What a break says, and what it says that there is none.
use Rattle.std.proofs.Common.{◌≡◌, ◌≢◌, ℕ, suc, ◌+◌, ◌<◌, true, false, length, drop, List, [], ◌∷◌, Option, Some, None, Result, Ok, ◌⊎◌, inl, inr, refl, sym, ap, ap₂, subst, ◌∙◌, arith}
use Rattle.std.specs.Prelude.{get_or, option_map}
use Rattle.std.specs.List.{All, AllByRecursion}
use Rattle.std.proofs.lemmas.Bool.{false≢true}
use Rattle.std.proofs.lemmas.List.{drop_more, drop_all}
use Rattle.std.proofs.lemmas.Option.{slice_get-get_or, same_Some}
use Rattle.plans_rules.specs.declared.rule.Rule.{Rule}
use Rattle.plans_rules.specs.declared.rule.Rule.TheVariants.{Routes, Words, Blank, Numbers, Freeing, Notice}
use Rattle.plans_rules.specs.declared.step.AnyStep.{AnyStep}
use Rattle.plans_rules.specs.Setting.{Setting, setting_of}
use Rattle.plans_rules.specs.declared.setting.RouteKind.{RouteKind}
use Rattle.plans_rules.specs.declared.setting.Terms.{Terms}
use Rattle.plans_rules.specs.Rules.{Done, lets, lets_end, lets_rest, moves, accepts}
use Rattle.plans_rules.specs.Safe.{IsInFile, IsSafe, IsTold}
use Rattle.plans_rules.proofs.BoolLaws.{and_of, and_left, and_right, and_false_left, and_false_right}
use Rattle.plans_rules.proofs.Safety.{IsOfSafety}
use Rattle.plans_rules.proofs.RulesAreSafe.{five_kept, rules_are_safe, only_these, rules_are_told}
use Rattle.plans_judge.specs.declared.judging.Part.TheVariants.{Safety, Telling}
use Rattle.plans_judge.specs.declared.judging.Break.{Break}
use Rattle.plans_judge.specs.declared.verdict.Judgement.{Judgement}
use Rattle.plans_judge.specs.declared.verdict.Judgement.TheVariants.{Accepted, Refused}
use Rattle.plans_judge.specs.Verdicts.{refusing, refusing_end, at_step, first_break, rules_of, break_in, refused_by, verdict_on, past}

-- ---- no break: all rules are kept

abbrev AllLet : Setting → AnyStep → Done → List Rule → Type 0
AllLet d x done rules = AllByRecursion (λ rule. lets rule d x done ≡ true) rules

abbrev AllLetRest : Setting → Done → List AnyStep → List Rule → Type 0
AllLetRest d done rest rules = AllByRecursion (λ rule. lets_rest rule d done rest ≡ true) rules

none_refuse : (rules : List Rule) (d : Setting) (x : AnyStep) (done : Done) → refusing rules d x done ≡ None → AllLet d x done rules
none_refuse [] d x done e = tt
none_refuse (rule ∷ others) d x done e =
    elim (lets rule d x done) as (λ b. lets rule d x done ≡ b
    → ◌≡◌ {A = Option Rule} (elim b [ true ↦ refusing others d x done | false ↦ Some rule ]) None → AllLet d x done (rule ∷ others)) [
      | true ↦ λ is e. (is, none_refuse others d x done e)
      | false ↦ λ is e. absurd (cc)
    ] refl e

none_refuse_end : (rules : List Rule) (d : Setting) (done : Done) → refusing_end rules d done ≡ None → AllLetRest d done [] rules
none_refuse_end [] d done e = tt
none_refuse_end (rule ∷ others) d done e =
    elim (lets_end rule d done) as (λ b. lets_end rule d done ≡ b
    → ◌≡◌ {A = Option Rule} (elim b [ true ↦ refusing_end others d done | false ↦ Some rule ]) None → AllLetRest d done [] (rule ∷ others)) [
      | true ↦ λ is e. (is, none_refuse_end others d done e)
      | false ↦ λ is e. absurd (cc)
    ] refl e

all_more : (rules : List Rule) (d : Setting) (x : AnyStep) (done : Done) (rest : List AnyStep) → AllLet d x done rules
    → AllLetRest d (x ∷ done) rest rules → AllLetRest d done (x ∷ rest) rules
all_more [] d x done rest here later = tt
all_more (rule ∷ others) d x done rest here later = (and_of _ _ here.0 later.0, all_more others d x done rest here.1 later.1)

mapped_none : (before : ℕ) (o : Option Rule) → option_map (at_step before) o ≡ None → o ≡ None
mapped_none before None e = refl
mapped_none before (Some rule) e = absurd (cc)

none_break : (rules : List Rule) (d : Setting) (done : Done) (before : ℕ) (rest : List AnyStep) → first_break rules d done before rest ≡ None
    → AllLetRest d done rest rules
none_break rules d done before [] e = none_refuse_end rules d done (mapped_none before (refusing_end rules d done) e)
none_break rules d done before (x ∷ rest) e =
    elim (refusing rules d x done) as (λ o. refusing rules d x done ≡ o
    → ◌≡◌ {A = Option Break} (elim o [ None ↦ first_break rules d (x ∷ done) (suc before) rest | Some rule ↦ Some (at_step before rule) ])
    None → AllLetRest d done (x ∷ rest) rules) [
      | None ↦ λ is e. all_more rules d x done rest (none_refuse rules d x done is) (none_break rules d (x ∷ done) (suc before) rest e)
      | Some rule ↦ λ is e. absurd (cc)
    ] refl e

-- ---- a break: its rule is not kept

some_refuse : (rules : List Rule) (d : Setting) (x : AnyStep) (done : Done) (rule : Rule) → refusing rules d x done ≡ Some rule
    → lets rule d x done ≡ false
some_refuse [] d x done rule e = absurd (cc)
some_refuse (first ∷ others) d x done rule e =
    elim (lets first d x done) as (λ b. lets first d x done ≡ b
    → ◌≡◌ {A = Option Rule} (elim b [ true ↦ refusing others d x done | false ↦ Some first ]) (Some rule) → lets rule d x done ≡ false) [
      | true ↦ λ is e. some_refuse others d x done rule e
      | false ↦ λ is e. subst (λ r. lets r d x done ≡ false) (same_Some first rule e) is
    ] refl e

some_refuse_end : (rules : List Rule) (d : Setting) (done : Done) (rule : Rule) → refusing_end rules d done ≡ Some rule → lets_end rule d done ≡ false
some_refuse_end [] d done rule e = absurd (cc)
some_refuse_end (first ∷ others) d done rule e =
    elim (lets_end first d done) as (λ b. lets_end first d done ≡ b
    → ◌≡◌ {A = Option Rule} (elim b [ true ↦ refusing_end others d done | false ↦ Some first ]) (Some rule) → lets_end rule d done ≡ false) [
      | true ↦ λ is e. some_refuse_end others d done rule e
      | false ↦ λ is e. subst (λ r. lets_end r d done ≡ false) (same_Some first rule e) is
    ] refl e

mapped_some : (before : ℕ) (o : Option Rule) (broken : Break) → option_map (at_step before) o ≡ Some broken → o ≡ Some broken.rule
mapped_some before None broken e = absurd (cc)
mapped_some before (Some rule) broken e = ap Some (ap (λ (b : Break). b.rule) (same_Some (at_step before rule) broken e))

some_break : (rules : List Rule) (d : Setting) (done : Done) (before : ℕ) (rest : List AnyStep) (broken : Break)
    → first_break rules d done before rest ≡ Some broken → lets_rest broken.rule d done rest ≡ false
some_break rules d done before [] broken e = some_refuse_end rules d done broken.rule (mapped_some before (refusing_end rules d done) broken e)
some_break rules d done before (x ∷ rest) broken e =
    elim (refusing rules d x done) as (λ o. refusing rules d x done ≡ o
    → ◌≡◌ {A = Option Break} (elim o [ None ↦ first_break rules d (x ∷ done) (suc before) rest | Some rule ↦ Some (at_step before rule) ])
    (Some broken) → lets_rest broken.rule d done (x ∷ rest) ≡ false) [
      | None ↦ λ is e. and_false_right (lets broken.rule d x done) _ (some_break rules d (x ∷ done) (suc before) rest broken e)
      | Some rule ↦ λ is e. and_false_left (lets broken.rule d x done) _
          (some_refuse rules d x done broken.rule (is ∙ ap Some (ap (λ (b : Break). b.rule) (same_Some (at_step before rule) broken e))))
    ] refl e

-- ---- the verdict

five_moves : (d : Setting) (plan : List AnyStep) → AllLetRest d [] plan (rules_of Safety) → moves d plan ≡ true
five_moves d plan all = and_of _ _ all.0 (and_of _ _ all.1.0 (and_of _ _ all.1.1.0 (and_of _ _ all.1.1.1.0 all.1.1.1.1.0)))

abbrev part_verdict : Option Break → Option Break → Judgement
part_verdict safety telling = elim safety [
  | Some broken ↦ refused_by broken
  | None ↦ elim telling [ Some broken ↦ refused_by broken | None ↦ Accepted ]
]

accepted_none : (s t : Option Break) → part_verdict s t ≡ Accepted → (s ≡ None) × (t ≡ None)
accepted_none None None e = (refl, refl)
accepted_none None (Some broken) e = absurd (cc)
accepted_none (Some broken) t e = absurd (cc)

-- the break that a refusal has
broken_is : (broken : Break) (rule : Rule) (before : ℕ) → refused_by broken ≡ Refused rule before → Some broken ≡ Some (at_step before rule)
broken_is broken rule before e =
    let same : broken.rule ≡ rule = cc in
    let place : broken.before ≡ before = cc in
    ap₂ (λ r n. Some (at_step n r)) same place

refused_some : (s t : Option Break) (rule : Rule) (before : ℕ) → part_verdict s t ≡ Refused rule before
    → (s ≡ Some (at_step before rule)) ⊎ ((s ≡ None) × (t ≡ Some (at_step before rule)))
refused_some None None rule before e = absurd (cc)
refused_some None (Some broken) rule before e = inr (refl, broken_is broken rule before e)
refused_some (Some broken) t rule before e = inl (broken_is broken rule before e)

pub accepted_keeps : (d : Setting) (plan : List AnyStep) → verdict_on d plan ≡ Accepted → accepts d plan ≡ true
accepted_keeps d plan e =
    let nones = accepted_none (break_in Safety d plan) (break_in Telling d plan) e in
    and_of _ _ (five_moves d plan (none_break (rules_of Safety) d [] 0 plan nones.0)) (none_break (rules_of Telling) d [] 0 plan nones.1).0

-- ---- the rule of a break is one of the rules that were asked

refuse_of : (P : Rule → Type 0) (rules : List Rule) (d : Setting) (x : AnyStep) (done : Done) (rule : Rule) → AllByRecursion P rules
    → refusing rules d x done ≡ Some rule → P rule
refuse_of P [] d x done rule all e = absurd (cc)
refuse_of P (first ∷ others) d x done rule all e =
    elim (lets first d x done) as (λ b. ◌≡◌ {A = Option Rule} (elim b [ true ↦ refusing others d x done | false ↦ Some first ])
    (Some rule) → P rule) [
      | true ↦ λ e. refuse_of P others d x done rule all.1 e
      | false ↦ λ e. subst P (same_Some first rule e) all.0
    ] e

refuse_end_of : (P : Rule → Type 0) (rules : List Rule) (d : Setting) (done : Done) (rule : Rule) → AllByRecursion P rules
    → refusing_end rules d done ≡ Some rule → P rule
refuse_end_of P [] d done rule all e = absurd (cc)
refuse_end_of P (first ∷ others) d done rule all e =
    elim (lets_end first d done) as (λ b. ◌≡◌ {A = Option Rule} (elim b [ true ↦ refusing_end others d done | false ↦ Some first ])
    (Some rule) → P rule) [
      | true ↦ λ e. refuse_end_of P others d done rule all.1 e
      | false ↦ λ e. subst P (same_Some first rule e) all.0
    ] e

break_of : (P : Rule → Type 0) (rules : List Rule) (d : Setting) (done : Done) (before : ℕ) (rest : List AnyStep) (broken : Break)
    → AllByRecursion P rules → first_break rules d done before rest ≡ Some broken → P broken.rule
break_of P rules d done before [] broken all e =
    refuse_end_of P rules d done broken.rule all (mapped_some before (refusing_end rules d done) broken e)
break_of P rules d done before (x ∷ rest) broken all e =
    elim (refusing rules d x done) as (λ o. refusing rules d x done ≡ o
    → ◌≡◌ {A = Option Break} (elim o [ None ↦ first_break rules d (x ∷ done) (suc before) rest | Some rule ↦ Some (at_step before rule) ])
    (Some broken) → P broken.rule) [
      | None ↦ λ is e. break_of P rules d (x ∷ done) (suc before) rest broken all e
      | Some rule ↦ λ is e. refuse_of P rules d x done broken.rule all
          (is ∙ ap Some (ap (λ (b : Break). b.rule) (same_Some (at_step before rule) broken e)))
    ] refl e

pub notice_keeps : (d : Setting) (plan : List AnyStep) (before : ℕ) → verdict_on d plan ≡ Refused Notice before → moves d plan ≡ true
notice_keeps d plan before e = elim (refused_some (break_in Safety d plan) (break_in Telling d plan) Notice before e) [
  | inl broken ↦ absurd (break_of IsOfSafety (rules_of Safety) d [] 0 plan (at_step before Notice) (tt, (tt, (tt, (tt, (tt, tt))))) broken)
  | inr nones ↦ five_moves d plan (none_break (rules_of Safety) d [] 0 plan nones.0)
]

pub broken_unsafe : (d : Setting) (plan : List AnyStep) (rule : Rule) (before : ℕ) → All (IsInFile d.words) plan
    → verdict_on d plan ≡ Refused rule before → rule ≢ Notice → IsSafe d plan → ⊥
broken_unsafe d plan rule before inside e ne safe = elim (refused_some (break_in Safety d plan) (break_in Telling d plan) rule before e) [
  | inl broken ↦ false≢true (sym (some_break (rules_of Safety) d [] 0 plan (at_step before rule) broken)
      ∙ five_kept d plan (only_these d plan inside safe) rule
      (break_of IsOfSafety (rules_of Safety) d [] 0 plan (at_step before rule) (tt, (tt, (tt, (tt, (tt, tt))))) broken))
  | inr nones ↦ ne (break_of (λ r. r ≡ Notice) (rules_of Telling) d [] 0 plan (at_step before rule) (refl, tt) nones.1)
]

no_break : (o : Option Break) → ((broken : Break) → o ≡ Some broken → ⊥) → o ≡ None
no_break None none = refl
no_break (Some broken) none = absurd (none broken refl)

-- where all of some rules are kept there is no break of them
kept_unbroken : (rules : List Rule) (d : Setting) (plan : List AnyStep) → AllByRecursion (λ rule. lets_rest rule d [] plan ≡ true) rules
    → first_break rules d [] 0 plan ≡ None
kept_unbroken rules d plan all = no_break (first_break rules d [] 0 plan) (λ broken e. false≢true (sym (some_break rules d [] 0 plan broken e)
    ∙ break_of (λ rule. lets_rest rule d [] plan ≡ true) rules d [] 0 plan broken all e))

pub keeps_accepted : (d : Setting) (plan : List AnyStep) → accepts d plan ≡ true → verdict_on d plan ≡ Accepted
keeps_accepted d plan e =
    let five = five_kept d plan (and_left (moves d plan) _ e) in
    ap₂ part_verdict
    (kept_unbroken (rules_of Safety) d plan (five Routes tt, (five Words tt, (five Blank tt, (five Numbers tt, (five Freeing tt, tt))))))
    (kept_unbroken (rules_of Telling) d plan (and_right (moves d plan) _ e, tt))

-- ---- what a verdict is worth

pub ok_is : {A E : Type 0} (a b : A) → ◌≡◌ {A = Result A E} (Ok a) (Ok b) → a ≡ b
ok_is a b e = cc

pub accepted_safe : (d : Setting) (plan : List AnyStep) → verdict_on d plan ≡ Accepted → IsSafe d plan
accepted_safe d plan e = rules_are_safe d plan (and_left (moves d plan) _ (accepted_keeps d plan e))

pub accepted_told : (d : Setting) (plan : List AnyStep) → verdict_on d plan ≡ Accepted → d.in_memory ≡ true → IsTold d plan
accepted_told d plan e memory = rules_are_told d plan memory (accepted_keeps d plan e)

pub notice_safe : (d : Setting) (plan : List AnyStep) (before : ℕ) → verdict_on d plan ≡ Refused Notice before → IsSafe d plan
notice_safe d plan before e = rules_are_safe d plan (notice_keeps d plan before e)

-- ---- the loop over the steps

pub past_next : (plan : List AnyStep) (k : ℕ) (x : AnyStep) → k < length plan → get_or plan k x ∷ past plan k ≡ past plan (k + 1)
past_next plan k x low = sym (ap (after plan k) (slice_get-get_or plan k x low)) ∙ ap (past plan) (next k)
  where
    after : (plan : List AnyStep) (k : ℕ) → Option AnyStep → Done
    after plan k o = elim o [ None ↦ past plan k | Some y ↦ y ∷ past plan k ]

    next : (k : ℕ) → suc k ≡ k + 1
    next k = omega arith

abbrev Left : List Rule → Setting → List AnyStep → ℕ → Option Break
Left rules d plan k = first_break rules d (past plan k) k (drop k plan)

pub break_here : (rules : List Rule) (d : Setting) (plan : List AnyStep) (k : ℕ) (x : AnyStep) (rule : Rule) → k < length plan
    → refusing rules d (get_or plan k x) (past plan k) ≡ Some rule
    → Left rules d plan k ≡ Some (at_step k rule)
break_here rules d plan k x rule low e =
    ap (first_break rules d (past plan k) k) (drop_more plan k x low)
    ∙ ap (λ o. chosen o) e
  where
    chosen : Option Rule → Option Break
    chosen o = elim o [ None ↦ first_break rules d (get_or plan k x ∷ past plan k) (suc k) (drop (k + 1) plan) | Some rule ↦ Some (at_step k rule) ]

pub break_later : (rules : List Rule) (d : Setting) (plan : List AnyStep) (k : ℕ) (x : AnyStep) → k < length plan
    → refusing rules d (get_or plan k x) (past plan k) ≡ None
    → Left rules d plan (k + 1) ≡ Left rules d plan k
break_later rules d plan k x low e =
    sym (ap (first_break rules d (past plan k) k) (drop_more plan k x low)
    ∙ ap (λ o. chosen o) e
    ∙ ap (λ done. first_break rules d done (suc k) (drop (k + 1) plan)) (past_next plan k x low)
    ∙ ap (λ n. first_break rules d (past plan (k + 1)) n (drop (k + 1) plan)) (next k))
  where
    chosen : Option Rule → Option Break
    chosen o = elim o [ None ↦ first_break rules d (get_or plan k x ∷ past plan k) (suc k) (drop (k + 1) plan) | Some rule ↦ Some (at_step k rule) ]

    next : (k : ℕ) → suc k ≡ k + 1
    next k = omega arith

-- the same for a loop whose table keeps terms of its own
pub goes_on : (rules : List Rule) (producers : List RouteKind) (t terms : Terms) (plan : List AnyStep) (k : ℕ) (x : AnyStep) (o : Option Rule)
    → t ≡ terms → k < length plan
    → o ≡ refusing rules (setting_of producers t) (get_or plan k x) (past plan k) → o ≡ None
    → Left rules (setting_of producers terms) plan (k + 1) ≡ Left rules (setting_of producers terms) plan k
goes_on rules producers t terms plan k x o same low e none =
    subst (λ u. Left rules (setting_of producers u) plan (k + 1) ≡ Left rules (setting_of producers u) plan k) same
    (break_later rules (setting_of producers t) plan k x low (sym e ∙ none))

-- and ends
pub comes_to_end : (rules : List Rule) (producers : List RouteKind) (t terms : Terms) (plan : List AnyStep) (k : ℕ) (o : Option Break) → t ≡ terms
    → k ≡ length plan
    → o ≡ first_break rules (setting_of producers t) (past plan (length plan)) (length plan) [] → o ≡ Left rules (setting_of producers terms) plan k
comes_to_end rules producers t terms plan k o same whole e =
    e ∙ ap (λ u. first_break rules (setting_of producers u) (past plan (length plan)) (length plan) []) same
    ∙ ap (first_break rules (setting_of producers terms) (past plan (length plan)) (length plan)) (sym (drop_all (length plan) plan (omega arith)))
    ∙ ap (Left rules (setting_of producers terms) plan) (sym whole)
