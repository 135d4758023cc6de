-- What is on top for a hart, by the first of its candidates, and what topi shows of it.
use Rattle.std.proofs.Common.{◌≡◌, ℕ, ◌-◌, ◌≤◌, Bool, true, false, cond, not, ◌||◌, nat_eq, nat_le, List, [], length, slice_get, Option, Some, None, is_some, is_none, IfSome, inr, refl, sym, ap, ◌∙◌, arith}
use Rattle.std.specs.Option.{option_map}
use Rattle.std.proofs.lemmas.Bool.{eq-eqb, ne_eqb}
use Rattle.std.proofs.lemmas.Option.{none-some}
use Rattle.aia_regs.specs.Fields.{field, with_field}
use Rattle.aia_regs.proofs.FieldLemmas.{got, other_field}
use Rattle.aia_regs.specs.Top.{Pair, least_pair, topi_value}
use Rattle.aia_source.specs.Wired.SourceDeed.{Claimed}
use Rattle.aia_regs.proofs.TopLemmas.{least_found}
use Rattle.aia_word.specs.Top.{lets_through}
use Rattle.aia_domain.specs.Order.{ordered}
use Rattle.aia_domain.specs.InterruptSource.{InterruptSourceState, waiting_pair_at, EachSource, changed_at, with_deed}
use Rattle.aia_domain.specs.Domain.{DomainState, candidates, IsPairOfSource}
use Rattle.aia_domain.proofs.CandidateLemmas.{own_number}
use Rattle.aia_direct.specs.Idc.{IdcState, top_shown, claimed_top}
use Rattle.aia_direct.specs.Front.{if_through, through, first_through}
use Rattle.aia_direct.proofs.FrontLemmas.{first_is_least}

-- ---- the first candidate that is let through is on top

-- a pair that is let through is that of the source
through_is : (threshold : ℕ) (o : Option Pair) (q : Pair) → if_through threshold o ≡ Some q → o ≡ Some q
through_is threshold None q e = e
through_is threshold (Some p) q e = at (lets_through threshold p.0) e
  where
    at : (b : Bool) → cond b (Some p) None ≡ Some q → Some p ≡ Some q
    at true e = e
    at false e = absurd (none-some q e)

pub top_is_first : (c : IdcState) (d : DomainState) (hart : ℕ) → top_shown c d hart ≡ first_through c.ithreshold (candidates d hart)
top_is_first c d hart = at d.msi (nat_le d.harts hart)
  where
    least : least_pair (through c.ithreshold (waiting_pair_at d.sources hart)) 1 (length d.sources - 1) ≡ first_through c.ithreshold
        (ordered (waiting_pair_at d.sources hart) 1 (length d.sources - 1))
    least = sym (first_is_least c.ithreshold (waiting_pair_at d.sources hart) 1 (length d.sources - 1) (own_number d.sources hart))

    at : (msi away : Bool) → cond (msi || away) None
        (least_pair (through c.ithreshold (waiting_pair_at d.sources hart)) 1 (length d.sources - 1)) ≡ first_through c.ithreshold
        (cond away [] (cond msi [] (ordered (waiting_pair_at d.sources hart) 1 (length d.sources - 1))))
    at true true = refl
    at true false = refl
    at false true = refl
    at false false = least

-- no source has the number 0
some_on_top : (c : IdcState) (d : DomainState) (hart : ℕ) (p : Pair) → top_shown c d hart ≡ Some p → 1 ≤ p.1
some_on_top c d hart p = at (d.msi || nat_le d.harts hart)
  where
    at : (b : Bool) → cond b None (least_pair (through c.ithreshold (waiting_pair_at d.sources hart)) 1 (length d.sources - 1)) ≡ Some p → 1 ≤ p.1
    at true e = absurd (none-some p e)
    at false e = (least_found (through c.ithreshold (waiting_pair_at d.sources hart)) 1 (length d.sources - 1) p
        (λ s q held. own_number d.sources hart s q (through_is c.ithreshold (waiting_pair_at d.sources hart s) q held)) e).low

-- ---- what topi shows of it

topi_number : (p : Pair) → IsPairOfSource p → field (topi_value (Some p)) 25 16 ≡ p.1
topi_number p small =
    other_field (with_field 0 25 16 p.1) 7 0 p.0 25 16 (omega arith) (omega arith) small.0 (inr (omega arith))
    ∙ got 0 25 16 p.1 (omega (arith, small.1))

topi_some : (p : Pair) → IsPairOfSource p → 1 ≤ p.1 → topi_value (Some p) ≡ 0 → ⊥
topi_some p small some none = let number = sym (topi_number p small) ∙ ap (λ t. field t 25 16) none in omega (arith, some, number)

told : (top : ℕ) (o : Option Pair) → top ≡ topi_value o → IfSome o IsPairOfSource → ((p : Pair) → o ≡ Some p → 1 ≤ p.1)
    → not (nat_eq top 0) ≡ is_some o
told top None is small some = ap not (eq-eqb top 0 is)
told top (Some p) is small some = ap not (ne_eqb top 0 (λ none. topi_some p small (some p refl) (sym is ∙ none)))

pub top_is_some : (c : IdcState) (d : DomainState) (hart top : ℕ) → top ≡ topi_value (top_shown c d hart)
    → IfSome (top_shown c d hart) IsPairOfSource → not (nat_eq top 0) ≡ is_some (top_shown c d hart)
top_is_some c d hart top is small = told top (top_shown c d hart) is small (some_on_top c d hart)

none_told : (o : Option Pair) → is_some o ≡ false → o ≡ None
none_told None e = refl
none_told (Some p) e = absurd (cc)

-- where topi reads 0, nothing is on top; else it shows the number of the source that is
pub none_on_top : (c : IdcState) (d : DomainState) (hart top : ℕ) → top ≡ topi_value (top_shown c d hart)
    → IfSome (top_shown c d hart) IsPairOfSource → top ≡ 0 → top_shown c d hart ≡ None
none_on_top c d hart top is small none = none_told (top_shown c d hart) (sym (top_is_some c d hart top is small) ∙ ap not (eq-eqb top 0 none))

number_told : (top : ℕ) (o : Option Pair) → top ≡ topi_value o → IfSome o IsPairOfSource → (top ≡ 0 → ⊥) → (is_none o ≡ false)
    × (changed_at (field top 25 16) (with_deed false Claimed) ≡ claimed_top o)
number_told top None is small some = absurd (some is)
number_told top (Some p) is small some = (refl, ap (λ n. changed_at n (with_deed false Claimed)) (ap (λ t. field t 25 16) is ∙ topi_number p small))

pub some_claimed : (c : IdcState) (d : DomainState) (hart top : ℕ) → top ≡ topi_value (top_shown c d hart)
    → IfSome (top_shown c d hart) IsPairOfSource → (top ≡ 0 → ⊥) → (is_none (top_shown c d hart) ≡ false)
    × (changed_at (field top 25 16) (with_deed false Claimed) ≡ claimed_top (top_shown c d hart))
some_claimed c d hart top = number_told top (top_shown c d hart)

-- and where nothing is on top, a claim changes no source
unchanged : (s : ℕ) (x : Option InterruptSourceState) → x ≡ option_map (claimed_top None s) x
unchanged s None = refl
unchanged s (Some x) = refl

pub none_claimed : (o : Option Pair) (sources : List InterruptSourceState) → o ≡ None → EachSource sources sources (claimed_top o)
none_claimed o sources none s = unchanged s (slice_get sources s)
    ∙ ap (λ (p : Option Pair). option_map (claimed_top p s) (slice_get sources s)) (sym none)
