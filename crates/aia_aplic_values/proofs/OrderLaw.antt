-- Which senders there are, and in which order; which of them wait.
use Rattle.std.proofs.Common.{◌≡◌, ℕ, zero, suc, ◌+◌, ◌<◌, ◌≤◌, true, List, [], ◌∷◌, inl, inr, refl, subst, arith}
use Rattle.std.specs.List.{All, AllPairs, Contains, flat_map, range_with_len}
use Rattle.std.proofs.lemmas.Bool.{cases_eq}
use Rattle.std.proofs.lemmas.List.Elements.{All-cons, All-weaker, All-contains}
use Rattle.std.proofs.lemmas.List.Kept.{AllPairs-cons, AllPairs-filter}
use Rattle.aia_regs.proofs.ListLemmas.{here, later, in_filter, filter_has}
use Rattle.aia_model.specs.declared.domain_name.DomainName.{DomainName}
use Rattle.aia_model.specs.declared.sender.Sender.{Sender}
use Rattle.aia_model.specs.Act.{Past}
use Rattle.aia_model.specs.declared.domain_name.DomainName.TheVariants.{Root, Child}
use Rattle.aia_model.specs.declared.sender.Sender.TheVariants.{ByGenMsi, BySource}
use Rattle.aia_model.specs.SourceOf.{sources_in, genmsi_waits}
use Rattle.aia_model.specs.Sent.{forwards, all_senders, has_msi, senders}
use Rattle.aia_aplic_values.specs.Senders.{SendsBefore}

-- ---- the sources of both domains

abbrev sources_from : ℕ → ℕ → List Sender
sources_from from count = flat_map (λ s. BySource Root s ∷ BySource Child s ∷ []) (range_with_len from count)

-- a sender is a source of such a number
abbrev IsSourceFrom : ℕ → ℕ → Sender → Type 0
IsSourceFrom from count (ByGenMsi d) = ⊥
IsSourceFrom from count (BySource d s) = (from ≤ s) × (s < from + count)

one_more : (from count : ℕ) (y : Sender) → IsSourceFrom (from + 1) count y → IsSourceFrom from (suc count) y
one_more from count (ByGenMsi d) r = r
one_more from count (BySource d s) r = (omega (arith, r.0), omega (arith, r.1))

sources_are : (from count : ℕ) → All (IsSourceFrom from count) (sources_from from count)
sources_are from zero = λ k d low. absurd (omega (arith, low))
sources_are from (suc count) =
    All-cons (IsSourceFrom from (suc count)) (BySource Root from) (BySource Child from ∷ sources_from (from + 1) count) (omega arith, omega arith)
    (All-cons (IsSourceFrom from (suc count)) (BySource Child from) (sources_from (from + 1) count) (omega arith, omega arith)
    (All-weaker (IsSourceFrom (from + 1) count) (IsSourceFrom from (suc count)) (one_more from count) (sources_from (from + 1) count)
    (sources_are (from + 1) count)))

sources_have : (from count : ℕ) (d : DomainName) (s : ℕ) → from ≤ s → s < from + count → Contains (sources_from from count) (BySource d s)
sources_have from zero d s low high = absurd (omega (arith, low, high))
sources_have from (suc count) d s low high = elim (cases_eq from s) [
  | inl e ↦ subst (λ n. Contains (sources_from from (suc count)) (BySource d n)) e (first d)
  | inr ne ↦ later (BySource Root from) (BySource d s) (BySource Child from ∷ sources_from (from + 1) count)
      (later (BySource Child from) (BySource d s) (sources_from (from + 1) count)
      (sources_have (from + 1) count d s (omega (arith, low)) (omega (arith, high))))
]
  where
    first : (d : DomainName) → Contains (sources_from from (suc count)) (BySource d from)
    first Root = here (BySource Root from) (BySource Child from ∷ sources_from (from + 1) count)
    first Child = later (BySource Root from) (BySource Child from) (BySource Child from ∷ sources_from (from + 1) count)
        (here (BySource Child from) (sources_from (from + 1) count))

before_later : (d : DomainName) (from count : ℕ) (y : Sender) → IsSourceFrom (from + 1) count y → SendsBefore (BySource d from) y
before_later d from count (ByGenMsi e) r = absurd r
before_later Root from count (BySource Root t) r = omega (arith, r.0)
before_later Root from count (BySource Child t) r = inl (omega (arith, r.0))
before_later Child from count (BySource Root t) r = omega (arith, r.0)
before_later Child from count (BySource Child t) r = omega (arith, r.0)

sources_in_order : (from count : ℕ) → AllPairs SendsBefore (sources_from from count)
sources_in_order from zero = λ i j d low within. absurd (omega (arith, within))
sources_in_order from (suc count) =
    AllPairs-cons SendsBefore (BySource Root from) (BySource Child from ∷ sources_from (from + 1) count)
    (All-cons (SendsBefore (BySource Root from)) (BySource Child from) (sources_from (from + 1) count) (inr refl) (rest Root))
    (AllPairs-cons SendsBefore (BySource Child from) (sources_from (from + 1) count) (rest Child) (sources_in_order (from + 1) count))
  where
    rest : (d : DomainName) → All (SendsBefore (BySource d from)) (sources_from (from + 1) count)
    rest d = All-weaker (IsSourceFrom (from + 1) count) (SendsBefore (BySource d from)) (before_later d from count)
        (sources_from (from + 1) count) (sources_are (from + 1) count)

-- ---- all senders

before_sources : (d : DomainName) (count : ℕ) → All (SendsBefore (ByGenMsi d)) (sources_from 1 count)
before_sources d count = All-weaker (IsSourceFrom 1 count) (SendsBefore (ByGenMsi d)) (before d) (sources_from 1 count) (sources_are 1 count)
  where
    before : (d : DomainName) (y : Sender) → IsSourceFrom 1 count y → SendsBefore (ByGenMsi d) y
    before d (ByGenMsi e) r = absurd r
    before Root (BySource e t) r = tt
    before Child (BySource e t) r = tt

pub all_in_order : (count : ℕ) → AllPairs SendsBefore (all_senders count)
unfolding all_senders
all_in_order count =
    AllPairs-cons SendsBefore (ByGenMsi Root) (ByGenMsi Child ∷ sources_from 1 count)
    (All-cons (SendsBefore (ByGenMsi Root)) (ByGenMsi Child) (sources_from 1 count) tt (before_sources Root count))
    (AllPairs-cons SendsBefore (ByGenMsi Child) (sources_from 1 count) (before_sources Child count) (sources_in_order 1 count))

pub all_genmsi : (count : ℕ) (d : DomainName) → Contains (all_senders count) (ByGenMsi d)
unfolding all_senders
all_genmsi count Root = here (ByGenMsi Root) (ByGenMsi Child ∷ sources_from 1 count)
all_genmsi count Child = later (ByGenMsi Root) (ByGenMsi Child) (ByGenMsi Child ∷ sources_from 1 count) (here (ByGenMsi Child) (sources_from 1 count))

pub all_sources : (count : ℕ) (d : DomainName) (s : ℕ) → 1 ≤ s → s ≤ count → Contains (all_senders count) (BySource d s)
unfolding all_senders
all_sources count d s low high = later (ByGenMsi Root) (BySource d s) (ByGenMsi Child ∷ sources_from 1 count)
    (later (ByGenMsi Child) (BySource d s) (sources_from 1 count) (sources_have 1 count d s low (omega (arith, high))))

-- genmsi, or a source that is there
abbrev IsThere : ℕ → Sender → Type 0
IsThere count (ByGenMsi d) = Unit {0}
IsThere count (BySource d s) = (1 ≤ s) × (s ≤ count)

all_there : (count : ℕ) → All (IsThere count) (all_senders count)
unfolding all_senders
all_there count = All-cons (IsThere count) (ByGenMsi Root) (ByGenMsi Child ∷ sources_from 1 count) tt
    (All-cons (IsThere count) (ByGenMsi Child) (sources_from 1 count) tt
    (All-weaker (IsSourceFrom 1 count) (IsThere count) there (sources_from 1 count) (sources_are 1 count)))
  where
    there : (y : Sender) → IsSourceFrom 1 count y → IsThere count y
    there (ByGenMsi d) r = tt
    there (BySource d s) r = (r.0, omega (arith, r.1))

pub source_there : (count : ℕ) (d : DomainName) (s : ℕ) → Contains (all_senders count) (BySource d s) → (1 ≤ s) × (s ≤ count)
source_there count d s m = All-contains (IsThere count) (all_senders count) (BySource d s) (all_there count) m

-- ---- those that wait

pub source_among : (past : Past) (d : DomainName) (s : ℕ) → Contains (senders past) (BySource d s) → (1 ≤ s) × (s ≤ sources_in past)
    × (forwards past d s ≡ true)
source_among past d s m =
    let r = in_filter (has_msi past) (all_senders (sources_in past)) (BySource d s) m in
    let there = source_there (sources_in past) d s r.0 in
    (there.0, there.1, r.1)

pub among_source : (past : Past) (d : DomainName) (s : ℕ) → 1 ≤ s → s ≤ sources_in past → forwards past d s ≡ true
    → Contains (senders past) (BySource d s)
among_source past d s low high ready = filter_has (has_msi past) (all_senders (sources_in past)) (BySource d s)
    (all_sources (sources_in past) d s low high) ready

pub genmsi_among : (past : Past) (d : DomainName) → Contains (senders past) (ByGenMsi d) → genmsi_waits past d ≡ true
genmsi_among past d m = (in_filter (has_msi past) (all_senders (sources_in past)) (ByGenMsi d) m).1

pub among_genmsi : (past : Past) (d : DomainName) → genmsi_waits past d ≡ true → Contains (senders past) (ByGenMsi d)
among_genmsi past d busy = filter_has (has_msi past) (all_senders (sources_in past)) (ByGenMsi d) (all_genmsi (sources_in past) d) busy

pub senders_in_order : (past : Past) → AllPairs SendsBefore (senders past)
senders_in_order past = AllPairs-filter SendsBefore (has_msi past) (all_senders (sources_in past)) (all_in_order (sources_in past))
