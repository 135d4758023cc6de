-- What words ask for is what they spell.
use Rattle.std.proofs.Common.{◌≡◌, ◌∙◌, ◌≤◌, ◌<◌, ◌^◌, ◌-◌, ◌⊎◌, inl, inr, ℕ, Bool, true, false, nat_eq, List, [], ◌∷◌, ◌++◌, refl, sym, ap, ap₂, arith, cond, Option, Some, None}
use Rattle.std.specs.Prelude.{codes, is_some, slice_get, option_and_then, fold}
use Rattle.std.specs.Str.{bytes_eq}
use Rattle.std.specs.Str.Parse.{IsNumeral, digits_value}
use Rattle.std.specs.Fmt.{decimal}
use Rattle.std.proofs.lemmas.Bool.{eqb-true}
use Rattle.std.proofs.lemmas.Fmt.{decimal_is_IsNumeral}
use Rattle.std.proofs.lemmas.Slice.Eq.{bytes_eq-Decides}
use Rattle.clap.specs.Kinds.{Kinds, or_else}
use Rattle.clap.specs.Walk.{Text, Walk, finished, idle, nothing_held, settled, subcommand_met, walk, walked}
use Rattle.clap.specs.Simple.{App, built, entered, names_of, with_subcommand}
use Rattle.clap.specs.Faults.{check_fault, defaults_fault, entered_fault, settle_fault, turn_fault, walk_fault}
use Rattle.clap.specs.declared.error.kind.ErrorKind.{ErrorKind}
use Rattle.clap.specs.declared.error.kind.ErrorKind.TheVariants as kind
use Rattle.clap.proofs.WalkLemmas.{walk_stopped}
use Rattle.aia_regs.specs.declared.limits.TheConstants.{FILE_WORDS}
use Rattle.aia_plan.specs.Plan.{IsWidth}
use Rattle.aia_plan.specs.declared.step.Kind.{Kind}
use Rattle.aia_plan.specs.declared.step.Kind.TheVariants.{Leave, Arrive, Shift}
use Rattle.aia_command.specs.declared.limits.TheConstants.{MOST_LINES}
use Rattle.aia_command.specs.declared.subcommand.Subcommand.{Subcommand}
use Rattle.aia_command.specs.declared.subcommand.Subcommand.TheVariants.{Replay, Generate, Audit}
use Rattle.aia_io.specs.Commands.{bare_command, unless_refused}
use Rattle.aia_command.specs.CommandLine.{audit_command, audit_of, generate_command, generate_of, kind_named, named, number_of, number_up_to, replay_command, subcommand_of, the_command, width_of}
use Rattle.aia_command.specs.Spelled.{audit_spelled, generate_spelled, replay_spelled, kind_word, subcommand_spelled, without_delimiter}
use Rattle.aia_command.proofs.NumberLemmas.{digits_are_number, no_number, number_up_to-some}
use Rattle.aia_command.proofs.TurnLemmas.{Delimits, IsArgument, IsRefused, standing, turn, turn-delimited}
use Rattle.aia_command.proofs.ArgumentLemmas.{asked_from-audit, asked_from-generate, asked_from-replay, audit_leaf, fault_from, found_from, generate_leaf, replay_leaf}
use Rattle.aia_plan.proofs.CorePlans.{at_most_32}

-- The command as building leaves it.
abbrev whole : App
whole = built (with_subcommand (with_subcommand (with_subcommand (bare_command (codes "aia")) replay_command.top) generate_command.top)
    audit_command.top)

abbrev first : Walk
first = standing [] None 1 false

-- What words ask for, by where the walk over them ends and by the errors of the words.
abbrev asked_at : Walk → Kinds → Option Subcommand
asked_at end kinds = unless_refused (or_else kinds
    (or_else (entered_fault whole end.stopped) (or_else (settle_fault whole.top.rules whole.top.args_override_self end.held)
    (or_else (defaults_fault (settled whole.top.rules end.held).rows whole.top.rules)
    (check_fault whole.top (finished whole.top.rules end.held) (is_some (entered whole end.stopped)))))))
    (named (entered whole end.stopped))

asked_by_walk : (words : List Text) → subcommand_of words ≡ asked_at (walk whole.top.rules (names_of whole) nothing_held words)
    (walk_fault whole.top (names_of whole) first words)
unfolding subcommand_of the_command
asked_by_walk words = refl

-- ---- where a subcommand is met

abbrev met : Text → List Text → Walk
met name words = record first { stopped = Some (name, words) }

-- The words after it are left to it.
left_to_it : (name : Text) (seen words : List Text) → walk_fault whole.top (names_of whole) (met name seen) words ≡ []
unfolding walk_fault walked
left_to_it name seen [] = refl
left_to_it name seen (word ∷ words) = left_to_it name (seen ++ word ∷ []) words

asked_where_met : (name : Text) (words : List Text) → turn_fault whole.top (names_of whole) first name ≡ []
    → walked whole.top.rules (names_of whole) first name ≡ met name []
    → subcommand_of (name ∷ words) ≡ asked_at (met name words) []
unfolding walk_fault
asked_where_met name words no_fault goes = asked_by_walk (name ∷ words)
    ∙ ap₂ asked_at (ap (λ w. fold (walked whole.top.rules (names_of whole)) w words) goes
    ∙ sym (walk_stopped whole.top.rules (names_of whole) first name [] words))
    (ap₂ (λ kinds w. or_else kinds (walk_fault whole.top (names_of whole) w words)) no_fault goes ∙ left_to_it name [] words)

nothing_more : (kinds : Kinds) (asked : Option Subcommand) → unless_refused (or_else kinds []) asked ≡ unless_refused kinds asked
nothing_more [] asked = refl
nothing_more (k ∷ ks) asked = refl

after_replay : (words : List Text) → subcommand_of (codes "replay" ∷ words) ≡ replay_spelled (without_delimiter words)
unfolding walked walk_fault defaults_fault
after_replay words = asked_where_met (codes "replay") words refl refl ∙ nothing_more (fault_from replay_leaf first words) (Some Replay)
    ∙ asked_from-replay words

after_generate : (words : List Text) → subcommand_of (codes "gen" ∷ words) ≡ generate_spelled (without_delimiter words)
unfolding walked walk_fault defaults_fault
after_generate words = asked_where_met (codes "gen") words refl refl
    ∙ nothing_more (fault_from generate_leaf first words) (generate_of (found_from generate_leaf first words))
    ∙ asked_from-generate words

after_audit : (words : List Text) → subcommand_of (codes "audit" ∷ words) ≡ audit_spelled (without_delimiter words)
unfolding walked walk_fault defaults_fault
after_audit words = asked_where_met (codes "audit") words refl refl
    ∙ nothing_more (fault_from audit_leaf first words) (audit_of (found_from audit_leaf first words)) ∙ asked_from-audit words

-- ---- where none is met

refused_by_fault : (words : List Text) (k : ErrorKind) (ks : Kinds) → walk_fault whole.top (names_of whole) first words ≡ k ∷ ks
    → subcommand_of words ≡ None
refused_by_fault words k ks fault = asked_by_walk words ∙ ap (asked_at (walk whole.top.rules (names_of whole) nothing_held words)) fault

-- No word has a place after a delimiter that comes first.
refused_after_delimiter : (words : List Text)
    → asked_at (fold (walked whole.top.rules (names_of whole)) (standing [] None 1 true) words)
    (walk_fault whole.top (names_of whole) (standing [] None 1 true) words) ≡ None
unfolding walk_fault defaults_fault
refused_after_delimiter [] = refl
refused_after_delimiter (word ∷ words) =
    ap (λ kinds. asked_at (fold (walked whole.top.rules (names_of whole)) (standing [] None 1 true) (word ∷ words))
    (or_else kinds (walk_fault whole.top (names_of whole) (walked whole.top.rules (names_of whole) (standing [] None 1 true) word) words)))
    (turn-delimited whole.top (names_of whole) [] None 1 word).0

refused_where_none : (name : Text) (words : List Text) → subcommand_met (names_of whole) idle name ≡ None → subcommand_of (name ∷ words) ≡ None
unfolding walk_fault
refused_where_none name words none = elim (turn whole.top (names_of whole) [] None 1 (λ n. refl) (λ x. refl) name none) [
  | Delimits is no_fault goes ↦ asked_by_walk (name ∷ words)
      ∙ ap₂ (λ kinds w. asked_at (fold (walked whole.top.rules (names_of whole)) w words)
      (or_else kinds (walk_fault whole.top (names_of whole) w words))) no_fault goes
      ∙ refused_after_delimiter words
  | IsRefused k fault rest is not ↦ refused_by_fault (name ∷ words) k []
      (ap (λ kinds. or_else kinds (walk_fault whole.top (names_of whole) (walked whole.top.rules (names_of whole) first name) words)) fault)
  | IsArgument not fault goes ↦
      refused_by_fault (name ∷ words) kind.UnknownArgument (kind.InvalidSubcommand ∷ [])
      (ap (λ kinds. or_else kinds (walk_fault whole.top (names_of whole) (walked whole.top.rules (names_of whole) first name) words)) fault)
]

-- ---- all words

differ : (xs ys : Text) → bytes_eq xs ys ≡ false → bytes_eq ys xs ≡ false
differ xs ys not = go (bytes_eq ys xs) refl
  where
    go : (b : Bool) → bytes_eq ys xs ≡ b → bytes_eq ys xs ≡ false
    go true is =
        let same : bytes_eq xs ys ≡ true = (bytes_eq-Decides xs ys).1 (sym ((bytes_eq-Decides ys xs).0 is)) in
        cc
    go false is = is

pub asked_as_spelled : (words : List Text) → subcommand_of words ≡ subcommand_spelled words
unfolding walk_fault defaults_fault
asked_as_spelled [] = asked_by_walk []
asked_as_spelled (name ∷ words) = go (bytes_eq name (codes "replay")) (bytes_eq name (codes "gen")) (bytes_eq name (codes "audit")) refl refl refl
  where
    go : (b d f : Bool) → bytes_eq name (codes "replay") ≡ b → bytes_eq name (codes "gen") ≡ d → bytes_eq name (codes "audit") ≡ f
        → subcommand_of (name ∷ words) ≡ subcommand_spelled (name ∷ words)
    go true d f is second third = rw is (ap (λ (word : Text). subcommand_of (word ∷ words)) ((bytes_eq-Decides name (codes "replay")).0 is)
        ∙ after_replay words)
    go false true f not is third = rw (not, is) (ap (λ (word : Text). subcommand_of (word ∷ words)) ((bytes_eq-Decides name (codes "gen")).0 is)
        ∙ after_generate words)
    go false false true not neither is = rw (not, neither, is)
        (ap (λ (word : Text). subcommand_of (word ∷ words)) ((bytes_eq-Decides name (codes "audit")).0 is) ∙ after_audit words)
    go false false false not neither none =
        rw (not, neither, none) (refused_where_none name words
        (rw (differ name (codes "replay") not, differ name (codes "gen") neither, differ name (codes "audit") none) refl))

-- ---- what follows for words that are taken

not_both : {X : Type 0} (x : X) → None ≡ Some x → ⊥
not_both x is = absurd (cc)

pub first_word : (words : List Text) (asked : Subcommand) → subcommand_of words ≡ Some asked
    → (slice_get words 0 ≡ Some (codes "replay")) ⊎ ((slice_get words 0 ≡ Some (codes "gen")) ⊎ (slice_get words 0 ≡ Some (codes "audit")))
first_word [] asked is = absurd (not_both asked (sym (asked_as_spelled []) ∙ is))
first_word (name ∷ words) asked is = go (bytes_eq name (codes "replay")) (bytes_eq name (codes "gen")) (bytes_eq name (codes "audit")) refl refl refl
  where
    go : (b d f : Bool) → bytes_eq name (codes "replay") ≡ b → bytes_eq name (codes "gen") ≡ d → bytes_eq name (codes "audit") ≡ f
        → (slice_get (name ∷ words) 0 ≡ Some (codes "replay"))
        ⊎ ((slice_get (name ∷ words) 0 ≡ Some (codes "gen")) ⊎ (slice_get (name ∷ words) 0 ≡ Some (codes "audit")))
    go true d f same second third = inl (ap Some ((bytes_eq-Decides name (codes "replay")).0 same))
    go false true f not same third = inr (inl (ap Some ((bytes_eq-Decides name (codes "gen")).0 same)))
    go false false true not neither same = inr (inr (ap Some ((bytes_eq-Decides name (codes "audit")).0 same)))
    go false false false not neither none =
        let refused : ◌≡◌ {A = Option Subcommand} None (Some asked) = rw (not, neither, none) at (sym (asked_as_spelled (name ∷ words)) ∙ is) in
        absurd (not_both asked refused)

-- The numbers that are asked for are spelled by two words.
abbrev AreSpelled : ℕ → ℕ → Type 0
AreSpelled count seed = (first second : Text) × (number_up_to MOST_LINES first ≡ Some count) × (number_of second ≡ Some seed)

generate_spelled-some : (arguments : List Text) (count seed : ℕ) → generate_spelled arguments ≡ Some (Generate count seed) → AreSpelled count seed
generate_spelled-some [] count seed is = absurd (not_both _ is)
generate_spelled-some (first ∷ []) count seed is = absurd (not_both _ is)
generate_spelled-some (first ∷ second ∷ third ∷ more) count seed is = absurd (not_both _ is)
generate_spelled-some (first ∷ second ∷ []) count seed is = go (number_up_to MOST_LINES first) (number_of second) refl refl is
  where
    go : (lines number : Option ℕ) → number_up_to MOST_LINES first ≡ lines → number_of second ≡ number
        → option_and_then (λ x. option_and_then (λ y. Some (Generate x y)) number) lines ≡ Some (Generate count seed) → AreSpelled count seed
    go None number e f is = absurd (not_both _ is)
    go (Some x) None e f is = absurd (not_both _ is)
    go (Some x) (Some y) e f is =
        let same_count : x ≡ count = cc in
        let same_seed : y ≡ seed = cc in
        (first, second, e ∙ ap Some same_count, f ∙ ap Some same_seed)

replay_spelled-some : (arguments : List Text) (count seed : ℕ) → replay_spelled arguments ≡ Some (Generate count seed) → ⊥
replay_spelled-some [] count seed is = absurd (cc)
replay_spelled-some (word ∷ words) count seed is = not_both _ is

audit_spelled-numbers : (arguments : List Text) (count seed : ℕ) → audit_spelled arguments ≡ Some (Generate count seed) → ⊥
audit_spelled-numbers [] count seed is = not_both _ is
audit_spelled-numbers (first ∷ []) count seed is = not_both _ is
audit_spelled-numbers (first ∷ second ∷ third ∷ more) count seed is = not_both _ is
audit_spelled-numbers (first ∷ second ∷ []) count seed is = go (kind_named first) (option_and_then width_of (number_of second)) is
  where
    go : (named : Option Kind) (width : Option ℕ) → option_and_then (λ x. option_and_then (λ y. Some (Audit x y)) width) named ≡ Some
        (Generate count seed) → ⊥
    go None width is = not_both _ is
    go (Some x) None is = not_both _ is
    go (Some x) (Some y) is = absurd (cc)

numbers_spelled : (words : List Text) (count seed : ℕ) → subcommand_of words ≡ Some (Generate count seed) → AreSpelled count seed
numbers_spelled [] count seed is = absurd (not_both _ (sym (asked_as_spelled []) ∙ is))
numbers_spelled (name ∷ words) count seed is =
    go (bytes_eq name (codes "replay")) (bytes_eq name (codes "gen")) (bytes_eq name (codes "audit")) (sym (asked_as_spelled (name ∷ words)) ∙ is)
  where
    go : (b d f : Bool) → cond b (replay_spelled (without_delimiter words))
        (cond d (generate_spelled (without_delimiter words)) (cond f (audit_spelled (without_delimiter words)) None)) ≡ Some (Generate count seed)
        → AreSpelled count seed
    go true d f is = absurd (replay_spelled-some (without_delimiter words) count seed is)
    go false true f is = generate_spelled-some (without_delimiter words) count seed is
    go false false true is = absurd (audit_spelled-numbers (without_delimiter words) count seed is)
    go false false false is = absurd (not_both _ is)

pub count_in_range : (words : List Text) (count seed : ℕ) → subcommand_of words ≡ Some (Generate count seed) → count ≤ MOST_LINES
count_in_range words count seed is =
    let spelled = numbers_spelled words count seed is in
    ((number_up_to-some MOST_LINES count spelled.0).0 spelled.2).2

pub seed_in_range : (words : List Text) (count seed : ℕ) → subcommand_of words ≡ Some (Generate count seed) → seed < 2 ^ 64
seed_in_range words count seed is =
    let spelled = numbers_spelled words count seed is in
    ((number_up_to-some (2 ^ 64 - 1) seed spelled.1).0 spelled.3).3

-- ---- numbers are taken

not_delimiter : (most n : ℕ) (text : Text) → number_up_to most text ≡ Some n → bytes_eq text (45 ∷ 45 ∷ []) ≡ false
not_delimiter most n text is = go (bytes_eq text (45 ∷ 45 ∷ [])) refl
  where
    go : (b : Bool) → bytes_eq text (45 ∷ 45 ∷ []) ≡ b → b ≡ false
    go true same = absurd (not_both n (sym (no_number most (45 ∷ []))
        ∙ ap (number_up_to most) (sym ((bytes_eq-Decides text (45 ∷ 45 ∷ [])).0 same)) ∙ is))
    go false other = refl

numbers_asked : (first second : Text) (count seed : ℕ) → number_up_to MOST_LINES first ≡ Some count → number_of second ≡ Some seed
    → subcommand_of (codes "gen" ∷ first ∷ second ∷ []) ≡ Some (Generate count seed)
numbers_asked first second count seed is also = after_generate (first ∷ second ∷ [])
    ∙ rw (not_delimiter MOST_LINES count first is, not_delimiter (2 ^ 64 - 1) seed second also, is, also) refl

pub digits_asked : (first second : Text) → IsNumeral 10 first → IsNumeral 10 second → digits_value 10 first ≤ MOST_LINES
    → digits_value 10 second < 2 ^ 64
    → subcommand_of (codes "gen" ∷ first ∷ second ∷ []) ≡ Some (Generate (digits_value 10 first) (digits_value 10 second))
digits_asked first second numeral also most fits =
    numbers_asked first second _ _ (digits_are_number MOST_LINES first numeral most (omega arith))
    (digits_are_number (2 ^ 64 - 1) second also (omega arith) fits)

pub printed_asked : (count seed : ℕ) → count ≤ MOST_LINES → seed < 2 ^ 64
    → subcommand_of (codes "gen" ∷ decimal count ∷ decimal seed ∷ []) ≡ Some (Generate count seed)
printed_asked count seed most fits =
    let first = decimal_is_IsNumeral count (omega arith) in
    let second = decimal_is_IsNumeral seed fits in
    digits_asked (decimal count) (decimal seed) first.0 second.0 (rw first.1 most) (rw second.1 fits)
    ∙ ap₂ (λ x y. Some (Generate x y)) first.1 second.1

-- ---- a width is taken, and no other number

width_is : (number words : ℕ) → width_of number ≡ Some words → IsWidth words
width_is number words is = go (nat_eq number 1) (nat_eq number 2) (nat_eq number 4) (nat_eq number 8)
    (nat_eq number 16) (nat_eq number FILE_WORDS) refl
    refl refl refl refl refl
  where
    same : (width : ℕ) → nat_eq number width ≡ true → width_of number ≡ Some number → words ≡ width
    same width e taken = let one : number ≡ words = cc in sym one ∙ eqb-true number width e

    go : (a b c d e f : Bool) → nat_eq number 1 ≡ a → nat_eq number 2 ≡ b → nat_eq number 4 ≡ c → nat_eq number 8 ≡ d → nat_eq number 16 ≡ e
        → nat_eq number FILE_WORDS ≡ f → IsWidth words
    go true b c d e f ea eb ec ed ee ef = inl (same 1 ea (rw ea refl))
    go false true c d e f ea eb ec ed ee ef = inr (inl (same 2 eb (rw (ea, eb) refl)))
    go false false true d e f ea eb ec ed ee ef = inr (inr (inl (same 4 ec (rw (ea, eb, ec) refl))))
    go false false false true e f ea eb ec ed ee ef = inr (inr (inr (inl (same 8 ed (rw (ea, eb, ec, ed) refl)))))
    go false false false false true f ea eb ec ed ee ef = inr (inr (inr (inr (inl (same 16 ee (rw (ea, eb, ec, ed, ee) refl))))))
    go false false false false false true ea eb ec ed ee ef = inr (inr (inr (inr (inr (same FILE_WORDS ef (rw (ea, eb, ec, ed, ee, ef) refl))))))
    go false false false false false false ea eb ec ed ee ef =
        let refused : ◌≡◌ {A = Option ℕ} None (Some words) = rw (ea, eb, ec, ed, ee, ef) at is in
        absurd (not_both words refused)

audit_spelled-width : (arguments : List Text) (kind : Kind) (words : ℕ) → audit_spelled arguments ≡ Some (Audit kind words) → IsWidth words
audit_spelled-width [] kind words is = absurd (not_both _ is)
audit_spelled-width (first ∷ []) kind words is = absurd (not_both _ is)
audit_spelled-width (first ∷ second ∷ third ∷ more) kind words is = absurd (not_both _ is)
audit_spelled-width (first ∷ second ∷ []) kind words is = go (kind_named first) (number_of second) is
  where
    inner : (x : Kind) (number : ℕ) (width : Option ℕ) → width_of number ≡ width
        → option_and_then (λ y. Some (Audit x y)) width ≡ Some (Audit kind words) → IsWidth words
    inner x number None e is = absurd (not_both _ is)
    inner x number (Some y) e is = let same : y ≡ words = cc in width_is number words (e ∙ ap Some same)

    go : (named : Option Kind) (number : Option ℕ)
        → option_and_then (λ x. option_and_then (λ y. Some (Audit x y)) (option_and_then width_of number)) named ≡ Some (Audit kind words)
        → IsWidth words
    go None number is = absurd (not_both _ is)
    go (Some x) None is = absurd (not_both _ is)
    go (Some x) (Some n) is = inner x n (width_of n) refl is

generate_spelled-audit : (arguments : List Text) (kind : Kind) (words : ℕ) → generate_spelled arguments ≡ Some (Audit kind words) → ⊥
generate_spelled-audit [] kind words is = not_both _ is
generate_spelled-audit (first ∷ []) kind words is = not_both _ is
generate_spelled-audit (first ∷ second ∷ third ∷ more) kind words is = not_both _ is
generate_spelled-audit (first ∷ second ∷ []) kind words is = go (number_up_to MOST_LINES first) (number_of second) is
  where
    go : (lines number : Option ℕ) → option_and_then (λ x. option_and_then (λ y. Some (Generate x y)) number) lines ≡ Some (Audit kind words) → ⊥
    go None number is = not_both _ is
    go (Some x) None is = not_both _ is
    go (Some x) (Some y) is = absurd (cc)

replay_spelled-audit : (arguments : List Text) (kind : Kind) (words : ℕ) → replay_spelled arguments ≡ Some (Audit kind words) → ⊥
replay_spelled-audit [] kind words is = absurd (cc)
replay_spelled-audit (word ∷ more) kind words is = not_both _ is

pub width_in_range : (words : List Text) (kind : Kind) (width : ℕ) → subcommand_of words ≡ Some (Audit kind width) → IsWidth width
width_in_range [] kind width is = absurd (not_both _ (sym (asked_as_spelled []) ∙ is))
width_in_range (name ∷ words) kind width is = go (bytes_eq name (codes "replay")) (bytes_eq name (codes "gen")) (bytes_eq name (codes "audit"))
    (sym (asked_as_spelled (name ∷ words)) ∙ is)
  where
    go : (b d f : Bool) → cond b (replay_spelled (without_delimiter words))
        (cond d (generate_spelled (without_delimiter words)) (cond f (audit_spelled (without_delimiter words)) None)) ≡ Some (Audit kind width)
        → IsWidth width
    go true d f is = absurd (replay_spelled-audit (without_delimiter words) kind width is)
    go false true f is = absurd (generate_spelled-audit (without_delimiter words) kind width is)
    go false false true is = audit_spelled-width (without_delimiter words) kind width is
    go false false false is = absurd (not_both _ is)

-- ---- each kind is taken, with each width

width_of-width : (words : ℕ) → IsWidth words → width_of words ≡ Some words
width_of-width words is = elim is [
  | inl one ↦ rw one refl
  | inr more ↦ elim more [
    | inl two ↦ rw two refl
    | inr more ↦ elim more [
      | inl four ↦ rw four refl
      | inr more ↦ elim more [
        | inl eight ↦ rw eight refl
        | inr more ↦ elim more [
          | inl sixteen ↦ rw sixteen refl
          | inr thirty_two ↦ rw thirty_two refl
        ]
      ]
    ]
  ]
]

kind_asked : (kind : Kind) (words : ℕ) (width : Text) → number_of width ≡ Some words → width_of words ≡ Some words
    → audit_spelled (without_delimiter (kind_word kind ∷ width ∷ [])) ≡ Some (Audit kind words)
kind_asked Leave words width number is = rw (not_delimiter (2 ^ 64 - 1) words width number, number, is) refl
kind_asked Arrive words width number is = rw (not_delimiter (2 ^ 64 - 1) words width number, number, is) refl
kind_asked Shift words width number is = rw (not_delimiter (2 ^ 64 - 1) words width number, number, is) refl

pub audit_asked : (kind : Kind) (words : ℕ) → IsWidth words
    → subcommand_of (codes "audit" ∷ kind_word kind ∷ decimal words ∷ []) ≡ Some (Audit kind words)
audit_asked kind words is =
    let small = at_most_32 words is in
    let spelled = decimal_is_IsNumeral words (omega (arith, small)) in
    let fits : words < 2 ^ 64 = omega (arith, small) in
    let number : number_of (decimal words) ≡ Some words =
    digits_are_number (2 ^ 64 - 1) (decimal words) spelled.0 (rw spelled.1 (omega (arith, small))) (rw spelled.1 fits) ∙ ap Some spelled.1 in
    after_audit (kind_word kind ∷ decimal words ∷ []) ∙ kind_asked kind words (decimal words) number (width_of-width words is)
