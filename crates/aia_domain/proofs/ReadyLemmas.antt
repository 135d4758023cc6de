-- The sources to be forwarded, from a number on: one of them, another source, none.
use Rattle.std.proofs.Common.{◌≡◌, ℕ, suc, ◌+◌, ◌-◌, ◌<◌, ◌≤◌, Bool, true, false, cond, [], ◌∷◌, length, ap, ◌∙◌, arith}
use Rattle.std.specs.List.{Contains, AllPairs, filter, range_with_len}
use Rattle.std.proofs.lemmas.List.Kept.{AllPairs-filter}
use Rattle.aia_regs.proofs.ListLemmas.{in_filter, filter_has, in_range, range_has, range_rises}
use Rattle.aia_domain.specs.Domain.{DomainState, is_ready, ready_from}

from_step : (d : DomainState) (s : ℕ) → s < length d.sources → ready_from d s ≡ cond (is_ready d s) (s ∷ ready_from d (s + 1)) (ready_from d (s + 1))
unfolding ready_from
from_step d s within = let e : length d.sources - s ≡ suc (length d.sources - (s + 1)) = omega arith in
    ap (λ n. filter (is_ready d) (range_with_len s n)) e

pub ready_here : (d : DomainState) (s : ℕ) → s < length d.sources → is_ready d s ≡ true → ready_from d s ≡ s ∷ ready_from d (s + 1)
ready_here d s within here = from_step d s within ∙ ap (λ (b : Bool). cond b (s ∷ ready_from d (s + 1)) (ready_from d (s + 1))) here

pub ready_later : (d : DomainState) (s : ℕ) → s < length d.sources → is_ready d s ≡ false → ready_from d s ≡ ready_from d (s + 1)
ready_later d s within here = from_step d s within ∙ ap (λ (b : Bool). cond b (s ∷ ready_from d (s + 1)) (ready_from d (s + 1))) here

pub ready_end : (d : DomainState) (s : ℕ) → length d.sources ≤ s → ready_from d s ≡ []
unfolding ready_from
ready_end d s past = let e : length d.sources - s ≡ 0 = omega arith in ap (λ n. filter (is_ready d) (range_with_len s n)) e

pub ruleset ready_lemmas = (ready_here, ready_later, ready_end)

-- ---- the list as a set

pub from_members : (d : DomainState) (from s : ℕ) → Contains (ready_from d from) s → (from ≤ s) × (s < length d.sources) × (is_ready d s ≡ true)
unfolding ready_from
from_members d from s m =
    let r = in_filter (is_ready d) (range_with_len from (length d.sources - from)) s m in
    let within = in_range from (length d.sources - from) s r.0 in
    (within.0, omega (arith, within.0, within.1), r.1)

pub from_each : (d : DomainState) (from s : ℕ) → from ≤ s → s < length d.sources → is_ready d s ≡ true → Contains (ready_from d from) s
unfolding ready_from
from_each d from s low high is = filter_has (is_ready d) (range_with_len from (length d.sources - from)) s
    (range_has from (length d.sources - from) s low (omega (arith, low, high))) is

pub from_rising : (d : DomainState) (from : ℕ) → AllPairs (λ x y. x < y) (ready_from d from)
unfolding ready_from
from_rising d from = AllPairs-filter (λ x y. x < y) (is_ready d) (range_with_len from (length d.sources - from))
    (range_rises from (length d.sources - from))
