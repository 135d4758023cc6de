-- What stands out, where one identity alone is pending.
use Rattle.std.proofs.Common.{◌≡◌, ℕ, zero, suc, ◌+◌, ◌*◌, ◌/◌, ◌%◌, ◌<◌, Bool, true, false, not, ◌&&◌, ◌||◌, nat_eq, nat_lt, List, refl, sym, ap, ap₂, ◌∙◌, arith, inl, inr}
use Rattle.std.proofs.lemmas.Bool.{cases_eq, eqb-true, eqb-false, eq-eqb, false≢true}
use Rattle.plans_rules.specs.declared.step.WhichSet.TheVariants.{Enabled}
use Rattle.plans_rules.specs.declared.setting.RouteKind.{RouteKind}
use Rattle.plans_rules.specs.declared.setting.Terms.{Terms}
use Rattle.plans_rules.specs.Setting.{setting_of, any_below}
use Rattle.plans_rules.specs.Machine.{AnyMachine, any_stands_out, lets_out, stands_out, word_stands_out}
use Rattle.plans_counterexamples.specs.declared.watch.Watch.{Watch}
use Rattle.plans_counterexamples.specs.declared.untold.UntoldRun.{UntoldRun}
use Rattle.plans_counterexamples.specs.Trace.{worth}
use Rattle.plans_counterexamples.specs.Untold.{IsWatched, watch_lets, watch_out}

none_law : (a b : Bool) → a ≡ false → b ≡ false → (elim a [ true ↦ true | false ↦ b ]) ≡ false
none_law true b e f = absurd (false≢true (sym e))
none_law false b e f = f

one_law : (a b : Bool) → b ≡ false → (elim a [ true ↦ true | false ↦ b ]) ≡ a
one_law true b e = refl
one_law false b e = e

skip_law : (a b c : Bool) → a ≡ false → b ≡ c → (elim a [ true ↦ true | false ↦ b ]) ≡ c
skip_law true b c e f = absurd (false≢true (sym e))
skip_law false b c e f = f

any_none : (f : ℕ → Bool) (n : ℕ) → ((k : ℕ) → k < n → f k ≡ false) → any_below f n ≡ false
any_none f zero h = refl
any_none f (suc n) h = none_law (f n) _ (h n (omega arith)) (any_none f n (λ k low. h k (omega (arith, low))))

any_one : (f : ℕ → Bool) (i n : ℕ) → i < n → ((k : ℕ) → k < n → (i ≡ k → ⊥) → f k ≡ false) → any_below f n ≡ f i
any_one f i zero low h = absurd (omega (arith, low))
any_one f i (suc n) low h = elim (cases_eq i n) [
  | inl same ↦ one_law (f n) _ (any_none f n (λ k below. h k (omega (arith, below)) (λ e. omega (arith, e, same, below)))) ∙ ap f (sym same)
  | inr other ↦ skip_law (f n) _ _ (h n (omega arith) other) (any_one f i n (omega (arith, low, other)) (λ k below. h k (omega (arith, below))))
]

-- ---- one identity

lets_law : (heeds delivery threshold : Bool) (i : ℕ)
    → (elim heeds [ true ↦ nat_eq (worth delivery) 1 && (nat_eq (worth threshold) 0 || nat_lt i (worth threshold)) | false ↦ true ])
    ≡ (not heeds || (delivery && (not threshold || nat_lt i 1)))
lets_law false delivery threshold i = refl
lets_law true false threshold i = refl
lets_law true true false i = refl
lets_law true true true i = refl

pub lets_same : (producers : List RouteKind) (terms : Terms) (u : UntoldRun) (w : Watch) (z : AnyMachine) → IsWatched u w z
    → lets_out (setting_of producers terms) z.new_number u.identity ≡ watch_lets terms u.identity w
lets_same producers terms u w z v =
    ap₂ (λ d t. elim terms.heeds [ true ↦ nat_eq d 1 && (nat_eq t 0 || nat_lt u.identity t) | false ↦ true ]) v.enabled.new_number
    v.pending.new_number ∙ lets_law terms.heeds w.enabled.new_number w.pending.new_number u.identity

pub out_same : (producers : List RouteKind) (terms : Terms) (u : UntoldRun) (w : Watch) (z : AnyMachine) → IsWatched u w z
    → stands_out (setting_of producers terms) z.new z.new_number u.identity ≡ watch_out terms u.identity w
out_same producers terms u w z v =
    ap₂ (λ p e. p && (e && lets_out (setting_of producers terms) z.new_number u.identity)) v.pending.new v.enabled.new
    ∙ ap (λ l. w.pending.new && (w.enabled.new && l)) (lets_same producers terms u w z v)

out_other : (producers : List RouteKind) (terms : Terms) (u : UntoldRun) (w : Watch) (z : AnyMachine) (i : ℕ) → (u.identity ≡ i → ⊥)
    → IsWatched u w z → stands_out (setting_of producers terms) z.new z.new_number i ≡ false
out_other producers terms u w z i other v = ap (λ p. p && (z.new Enabled i && lets_out (setting_of producers terms) z.new_number i)) (v.new i other)

-- ---- a word, and all

pub word_same : (producers : List RouteKind) (terms : Terms) (u : UntoldRun) (w : Watch) (z : AnyMachine) (word : ℕ) → IsWatched u w z
    → word_stands_out (setting_of producers terms) z.new z.new_number word ≡ (nat_eq word (u.identity / 64) && watch_out terms u.identity w)
word_same producers terms u w z word v = by_test (nat_eq word (u.identity / 64)) refl
  where
    by_test : (b : Bool) → nat_eq word (u.identity / 64) ≡ b
        → word_stands_out (setting_of producers terms) z.new z.new_number word ≡ (b && watch_out terms u.identity w)
    by_test true e =
        let same = eqb-true word (u.identity / 64) e in
        let here : 64 * word + u.identity % 64 ≡ u.identity = omega (arith, same) in
        any_one (λ b. stands_out (setting_of producers terms) z.new z.new_number (64 * word + b)) (u.identity % 64) 64 (omega arith)
        (λ k low other. out_other producers terms u w z (64 * word + k) (λ f. other (omega (arith, f, here))) v)
        ∙ ap (λ i. stands_out (setting_of producers terms) z.new z.new_number i) here ∙ out_same producers terms u w z v
    by_test false e =
        let apart = eqb-false word (u.identity / 64) e in
        any_none (λ b. stands_out (setting_of producers terms) z.new z.new_number (64 * word + b)) 64
        (λ k low. out_other producers terms u w z (64 * word + k) (λ f. apart (omega (arith, f, low))) v)

pub any_same : (producers : List RouteKind) (terms : Terms) (u : UntoldRun) (w : Watch) (z : AnyMachine) → u.identity / 64 < terms.words
    → IsWatched u w z → any_stands_out (setting_of producers terms) z.new z.new_number ≡ watch_out terms u.identity w
any_same producers terms u w z inside v =
    any_one (λ k. word_stands_out (setting_of producers terms) z.new z.new_number k) (u.identity / 64) terms.words inside
    (λ k low other. word_same producers terms u w z k v ∙ ap (λ b. b && watch_out terms u.identity w) (apart k other))
    ∙ word_same producers terms u w z (u.identity / 64) v
    ∙ ap (λ b. b && watch_out terms u.identity w) (eq-eqb (u.identity / 64) (u.identity / 64) refl)
  where
    apart : (k : ℕ) → (u.identity / 64 ≡ k → ⊥) → nat_eq k (u.identity / 64) ≡ false
    apart k other = by_test (nat_eq k (u.identity / 64)) refl
      where
        by_test : (b : Bool) → nat_eq k (u.identity / 64) ≡ b → b ≡ false
        by_test true e = absurd (other (sym (eqb-true k (u.identity / 64) e)))
        by_test false e = refl
