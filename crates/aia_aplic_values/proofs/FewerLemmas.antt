-- With each MSI that is sent fewer wait.
use Rattle.std.proofs.Common.{◌≡◌, ℕ, zero, suc, ◌+◌, ◌<◌, ◌≤◌, Bool, true, false, cond, ◌&&◌, nat_eq, List, [], ◌∷◌, count_by, Option, Some, None, refl, sym, ap, subst, ◌∙◌, arith}
use Rattle.std.proofs.lemmas.Bool.{eq-eqb, and_parts}
use Rattle.std.proofs.lemmas.Option.{same_Some}
use Rattle.std.proofs.lemmas.List.Recursion.{is_count_by}
use Rattle.aia_source.specs.Wired.{rectified}
use Rattle.aia_source.specs.Wired.SourceDeed.{Forwarded}
use Rattle.aia_domain.specs.InterruptSource.{InterruptSourceState, EachSource, changed_at, with_deed, waits, waits_at}
use Rattle.aia_domain.specs.Domain.{DomainState, with_sources, is_ready}
use Rattle.aia_model.proofs.WaitingLemmas.{is_forwarded}

-- a change after which no more wait
abbrev NoMore : (ℕ → InterruptSourceState → InterruptSourceState) → Type 0
NoMore change = (i : ℕ) (x : InterruptSourceState) → waits (change i x) ≡ true → waits x ≡ true

counted : (a b : Bool) (m n : ℕ) → (a ≡ true → b ≡ true) → m ≤ n → cond a (1 + m) m ≤ cond b (1 + n) n
counted true true m n less below = omega (arith, below)
counted true false m n less below = let bad : false ≡ true = less refl in absurd (cc)
counted false true m n less below = omega (arith, below)
counted false false m n less below = below

counted_less : (a b : Bool) (m n : ℕ) → (a ≡ true → b ≡ true) → m < n → cond a (1 + m) m < cond b (1 + n) n
counted_less true true m n less below = omega (arith, below)
counted_less true false m n less below = let bad : false ≡ true = less refl in absurd (cc)
counted_less false true m n less below = omega (arith, below)
counted_less false false m n less below = below

counted_one : (a b : Bool) (m n : ℕ) → a ≡ false → b ≡ true → m ≤ n → cond a (1 + m) m < cond b (1 + n) n
counted_one true b m n none some below = absurd (cc)
counted_one false true m n none some below = omega (arith, below)
counted_one false false m n none some below = absurd (cc)

-- how many of a list wait
count : List InterruptSourceState → ℕ
count [] = 0
count (x ∷ xs) = cond (waits x) (1 + count xs) (count xs)

count_is : (xs : List InterruptSourceState) → count xs ≡ count_by waits xs
unfolding count
count_is xs = is_count_by count waits refl (λ x xs. refl) xs

no_more : (old new : List InterruptSourceState) (change : ℕ → InterruptSourceState → InterruptSourceState) → EachSource old new change
    → NoMore change → count new ≤ count old
unfolding count
no_more [] [] change each less = omega arith
no_more [] (y ∷ ys) change each less = let e : ◌≡◌ {A = Option InterruptSourceState} (Some y) None = each 0 in absurd (cc)
no_more (x ∷ xs) [] change each less = let e : ◌≡◌ {A = Option InterruptSourceState} None (Some (change 0 x)) = each 0 in absurd (cc)
no_more (x ∷ xs) (y ∷ ys) change each less =
    let is : y ≡ change 0 x = same_Some y (change 0 x) (each 0) in
    counted (waits y) (waits x) (count ys) (count xs) (λ e. less 0 x (sym (ap waits is) ∙ e))
    (no_more xs ys (λ i. change (suc i)) (λ i. each (suc i)) (λ i. less (suc i)))

one_less : (old new : List InterruptSourceState) (change : ℕ → InterruptSourceState → InterruptSourceState) (s : ℕ) → EachSource old new change
    → NoMore change → waits_at old s ≡ true → ((x : InterruptSourceState) → waits (change s x) ≡ false) → count new < count old
unfolding count
one_less [] new change s each less here falls = absurd (cc)
one_less (x ∷ xs) [] change s each less here falls = let e : ◌≡◌ {A = Option InterruptSourceState} None (Some (change 0 x)) = each 0 in absurd (cc)
one_less (x ∷ xs) (y ∷ ys) change zero each less here falls =
    let is : y ≡ change 0 x = same_Some y (change 0 x) (each 0) in
    counted_one (waits y) (waits x) (count ys) (count xs) (ap waits is ∙ falls x) here
    (no_more xs ys (λ i. change (suc i)) (λ i. each (suc i)) (λ i. less (suc i)))
one_less (x ∷ xs) (y ∷ ys) change (suc s) each less here falls =
    let is : y ≡ change 0 x = same_Some y (change 0 x) (each 0) in
    counted_less (waits y) (waits x) (count ys) (count xs) (λ e. less 0 x (sym (ap waits is) ∙ e))
    (one_less xs ys (λ i. change (suc i)) s (λ i. each (suc i)) (λ i. less (suc i)) here falls)

-- a source that is forwarded
falls_now : (x : InterruptSourceState) → waits (with_deed true Forwarded x) ≡ false
falls_now x = ap (λ (p : Bool). p && x.enabled) (is_forwarded x.source.mode true (rectified x.source.mode x.source.wire) x.source.pending)

fewer_at : (b : Bool) (x : InterruptSourceState) → waits (cond b (with_deed true Forwarded x) x) ≡ true → waits x ≡ true
fewer_at true x e = let bad : false ≡ true = sym (falls_now x) ∙ e in absurd (cc)
fewer_at false x e = e

falls_at : (s : ℕ) (x : InterruptSourceState) → waits (changed_at s (with_deed true Forwarded) s x) ≡ false
falls_at s x = ap (λ b. waits (cond b (with_deed true Forwarded x) x)) (eq-eqb s s refl) ∙ falls_now x

pub fewer_forwarded : (s : ℕ) (d e : DomainState) → is_ready d s ≡ true → EachSource d.sources e.sources (changed_at s (with_deed true Forwarded))
    → e ≡ with_sources d e.sources
    → cond e.genmsi_waits 1 0 + count_by waits e.sources < cond d.genmsi_waits 1 0 + count_by waits d.sources
fewer_forwarded s d e ready each rest =
    let less = one_less d.sources e.sources (changed_at s (with_deed true Forwarded)) s each (λ i x. fewer_at (nat_eq s i) x)
    (and_parts (d.msi && d.on) (waits_at d.sources s) ready).1 (falls_at s) in
    let fewer : count_by waits e.sources < count_by waits d.sources =
    subst (λ n. count_by waits e.sources < n) (count_is d.sources) (subst (λ n. n < count d.sources) (count_is e.sources) less) in
    let same : cond e.genmsi_waits 1 0 ≡ cond d.genmsi_waits 1 0 = ap (λ (x : DomainState). cond x.genmsi_waits 1 0) rest in
    subst (λ n. n + count_by waits e.sources < cond d.genmsi_waits 1 0 + count_by waits d.sources) (sym same) (omega (arith, fewer))
