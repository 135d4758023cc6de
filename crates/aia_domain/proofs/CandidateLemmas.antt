-- The candidates of a hart as a set, and their order.
use Rattle.std.proofs.Common.{◌≡◌, ℕ, ◌-◌, ◌<◌, ◌≤◌, Bool, true, false, cond, nat_le, List, [], length, Some, refl, sym, ap, subst, ◌∙◌, arith}
use Rattle.std.specs.List.{Contains, AllPairs}
use Rattle.std.proofs.lemmas.Bool.{cond-false, lt-leb, leb-false}
use Rattle.std.proofs.lemmas.Option.{none-some, same_Some}
use Rattle.aia_regs.specs.Top.{Pair, NamesItself, pair_if}
use Rattle.aia_regs.proofs.ListLemmas.{nowhere}
use Rattle.aia_domain.specs.Order.{comes_before, ordered}
use Rattle.aia_domain.proofs.OrderedLemmas.{ordered_from, ordered_has, ordered_strict}
use Rattle.aia_domain.specs.InterruptSource.{InterruptSourceState, waiting_pair_at, source_at}
use Rattle.aia_domain.specs.Domain.{DomainState, candidates}

pub own_number : (sources : List InterruptSourceState) (hart : ℕ) → NamesItself (waiting_pair_at sources hart)
own_number sources hart s q is = at _ is
  where
    at : (b : Bool) → pair_if b (source_at sources s).target s ≡ Some q → q.1 ≡ s
    at false e = absurd (none-some q e)
    at true e = sym (ap (λ (p : Pair). p.1) (same_Some _ q e))

pub candidates_strict : (d : DomainState) (hart : ℕ) → AllPairs (λ p q. comes_before p q ≡ true) (candidates d hart)
candidates_strict d hart = at (nat_le d.harts hart) d.msi
  where
    at : (b m : Bool) → AllPairs (λ p q. comes_before p q ≡ true)
        (cond b [] (cond m [] (ordered (waiting_pair_at d.sources hart) 1 (length d.sources - 1))))
    at true m = λ i j d low within. absurd (omega arith)
    at false true = λ i j d low within. absurd (omega arith)
    at false false = ordered_strict (waiting_pair_at d.sources hart) 1 (length d.sources - 1) (own_number d.sources hart)

pub candidates_from : (d : DomainState) (hart : ℕ) (p : Pair) → Contains (candidates d hart) p → (hart < d.harts) × (d.msi ≡ false) × (1 ≤ p.1)
    × (p.1 < length d.sources) × (waiting_pair_at d.sources hart p.1 ≡ Some p)
candidates_from d hart p m = at (nat_le d.harts hart) d.msi refl refl m
  where
    at : (b m : Bool) → nat_le d.harts hart ≡ b → d.msi ≡ m
        → Contains (cond b [] (cond m [] (ordered (waiting_pair_at d.sources hart) 1 (length d.sources - 1)))) p → (hart < d.harts)
        × (d.msi ≡ false) × (1 ≤ p.1) × (p.1 < length d.sources) × (waiting_pair_at d.sources hart p.1 ≡ Some p)
    at true m e f n = nowhere p n
    at false true e f n = nowhere p n
    at false false e f n =
        let r = ordered_from (waiting_pair_at d.sources hart) 1 (length d.sources - 1) p n in
        let own = own_number d.sources hart r.0 p r.3 in
        (leb-false d.harts hart e, f, omega (arith, own, r.1), omega (arith, own, r.2), ap (waiting_pair_at d.sources hart) own ∙ r.3)

pub candidates_have : (d : DomainState) (hart : ℕ) (p : Pair) → hart < d.harts → d.msi ≡ false → 1 ≤ p.1 → p.1 < length d.sources
    → waiting_pair_at d.sources hart p.1 ≡ Some p → Contains (candidates d hart) p
candidates_have d hart p there direct low high is =
    subst (λ xs. Contains xs p) (sym (cond-false _ _ _ (lt-leb d.harts hart there) ∙ cond-false _ _ _ direct))
    (ordered_has (waiting_pair_at d.sources hart) 1 (length d.sources - 1) p.1 p low (omega (arith, high)) is)
