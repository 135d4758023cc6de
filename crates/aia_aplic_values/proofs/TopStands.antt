-- What a hart is shown by a domain that stands for the past.
use Rattle.std.proofs.Common.{◌≡◌, ℕ, zero, suc, ◌+◌, ◌-◌, ◌<◌, ◌≤◌, Bool, true, false, cond, ◌&&◌, ◌||◌, nat_eq, length, Option, None, refl, sym, ap, ◌∙◌, arith}
use Rattle.std.proofs.Math.Bool.{or-false}
use Rattle.std.proofs.lemmas.Bool.{lt-leb}
use Rattle.std.proofs.lemmas.Option.{slice_get-get_or}
use Rattle.aia_word.specs.Top.{lets_through}
use Rattle.aia_regs.specs.Top.{Pair, lesser, least_pair, priority_of, hart_of, pair_if}
use Rattle.aia_regs.proofs.TopLemmas.{least_pair-none, least_pair-suc}
use Rattle.aia_domain.specs.InterruptSource.{new_source, source_at, waiting_pair, waiting_pair_at}
use Rattle.aia_domain.specs.Domain.{DomainState}
use Rattle.aia_direct.specs.Front.{if_through, through}
use Rattle.aia_direct.specs.Idc.{IdcState, top_shown}
use Rattle.aia_model.specs.declared.domain_name.DomainName.{DomainName}
use Rattle.aia_model.specs.Act.{Past}
use Rattle.aia_model.specs.SourceOf.{harts_in, sources_in, is_active_in, enabled, target, pending, delivers_by_msis, ithreshold_of, pair_in, top}
use Rattle.aia_aplic_values.specs.Side.{source_of, DomainStands}
use Rattle.aia_aplic_values.proofs.Steps.{source-idle}

least_same : (f g : ℕ → Option Pair) (from count : ℕ) → ((s : ℕ) → from ≤ s → s < from + count → f s ≡ g s)
    → least_pair f from count ≡ least_pair g from count
least_same f g from zero same = least_pair-none f from ∙ sym (least_pair-none g from)
least_same f g from (suc count) same =
    least_pair-suc f from count ∙ ap (λ o. lesser o (least_pair f (suc from) count)) (same from (omega arith) (omega arith))
    ∙ ap (lesser (g from)) (least_same f g (suc from) count (λ s a b. same s (omega arith) (omega arith))) ∙ sym (least_pair-suc g from count)

nothing : (b : Bool) → ◌≡◌ {A = Option Pair} None (cond b None None)
nothing true = refl
nothing false = refl

-- by the tests of either side, in their orders; what is not owned has no enable bit
same_pair : (threshold : ℕ) (p e h a : Bool) (t s : ℕ) → (a ≡ false → e ≡ false)
    → if_through threshold (pair_if ((p && e) && h) t s) ≡ cond (a && e && h && lets_through threshold (priority_of t)) (pair_if p t s) None
same_pair threshold true true true true t s idle = refl
same_pair threshold true true false true t s idle = refl
same_pair threshold true false h true t s idle = refl
same_pair threshold false true true true t s idle = nothing (lets_through threshold (priority_of t))
same_pair threshold false true false true t s idle = refl
same_pair threshold false false h true t s idle = refl
same_pair threshold true true h false t s idle = absurd (cc (idle refl))
same_pair threshold true false h false t s idle = refl
same_pair threshold false e h false t s idle = refl

pub top-stands : (c : IdcState) (d : DomainState) (past : Past) (name : DomainName) (hart : ℕ) → hart < harts_in past → DomainStands d past name
    → c.ithreshold ≡ ithreshold_of past name hart → top_shown c d hart ≡ top past name hart
top-stands c d past name hart there stands limit =
    ap (λ (b : Bool). cond b None (least_pair (through c.ithreshold (waiting_pair_at d.sources hart)) 1 (length d.sources - 1)))
    (ap (λ (away : Bool). d.msi || away) (lt-leb d.harts hart (omega (arith, there, stands.harts))) ∙ or-false d.msi ∙ stands.msi)
    ∙ ap (cond (delivers_by_msis past name) None) least
  where
    each : (s : ℕ) → 1 ≤ s → s < 1 + sources_in past
        → through c.ithreshold (waiting_pair_at d.sources hart) s ≡ pair_in (pending past name) past name hart s
    each s low high =
        let within : s < length d.sources = omega (arith, stands.count) in
        let is : source_at d.sources s ≡ source_of past name s =
        stands.each s (source_at d.sources s) (slice_get-get_or d.sources s new_source within) in
        ap (λ x. if_through c.ithreshold (waiting_pair hart s x)) is ∙ ap (λ n. if_through n (waiting_pair hart s (source_of past name s))) limit
        ∙ same_pair (ithreshold_of past name hart) (pending past name s) (enabled past name s) (nat_eq (hart_of (target past name s)) hart)
        (is_active_in past name s) (target past name s) s
        ((source-idle past name s).enabled)

    least : least_pair (through c.ithreshold (waiting_pair_at d.sources hart)) 1 (length d.sources - 1) ≡ least_pair
        (pair_in (pending past name) past name hart) 1 (sources_in past)
    least = let n : length d.sources - 1 ≡ sources_in past = omega (arith, stands.count) in
        ap (least_pair (through c.ithreshold (waiting_pair_at d.sources hart)) 1) n ∙ least_same _ _ 1 (sources_in past) each
