-- What is kept tells what waits first.
use Rattle.std.proofs.Common.{IsFalse, ◌||◌, ◌≡◌, ℕ, zero, suc, ◌<◌, ◌≤◌, Bool, true, false, ◌&&◌, ◌↔◌, length, slice_get, get_or, Option, Some, None, IfSome, ◌⊎◌, inl, inr, refl, sym, ap, subst, ◌∙◌, arith}
use Rattle.std.specs.List.{Contains}
use Rattle.std.proofs.lemmas.Bool.{cases_lt, and_parts, and_right, or_parts}
use Rattle.std.specs.Option.{option_map, option_map_or}
use Rattle.std.proofs.lemmas.Option.{slice_get_past, slice_get-get_or}
use Rattle.aia_domain.specs.InterruptSource.{InterruptSourceState, waits, waits_at}
use Rattle.aia_domain.specs.Domain.{DomainState}
use Rattle.aia_domain.specs.Domain as kept
use Rattle.aia_model.specs.declared.domain_name.DomainName.{DomainName}
use Rattle.aia_model.specs.Act.{Past}
use Rattle.aia_model.specs.declared.domain_name.DomainName.TheVariants.{Root, Child}
use Rattle.aia_model.specs.declared.sender.Sender.{Sender}
use Rattle.aia_model.specs.declared.sender.Sender.TheVariants.{ByGenMsi, BySource}
use Rattle.aia_model.specs.SourceOf.{sources_in, is_on, delivers_by_msis, enabled, pending, genmsi_waits}
use Rattle.aia_model.specs.Sent.{forwards, all_senders, has_msi}
use Rattle.aia_aplic_values.specs.Side.{source_of, DomainStands}
use Rattle.aia_aplic_values.specs.Aplic.{AplicState, AplicStands, side}
use Rattle.aia_aplic_values.specs.Bits.{IsFirstSource, source_sender}
use Rattle.aia_aplic_values.specs.Sending.{IsFirst, does_wait, asks_by_genmsi}
use Rattle.aia_aplic_values.proofs.Steps.{source-idle}
use Rattle.aia_aplic_values.proofs.Reading.{mode-zero}
use Rattle.aia_aplic_values.specs.Senders.{SendsBefore}
use Rattle.aia_regs.proofs.ListLemmas.{filter_none, filter_first}
use Rattle.aia_aplic_values.proofs.OrderLaw.{all_in_order, all_genmsi, all_sources, source_there}

-- ---- what is kept tells what is ready

pub ready_within : (d : DomainState) (s : ℕ) → kept.is_ready d s ≡ true → s < length d.sources
ready_within d s ready = elim (cases_lt s (length d.sources)) [
  | inl p ↦ p
  | inr p ↦ let none : false ≡ true = sym (ap (λ (o : Option InterruptSourceState). option_map_or waits o false) (slice_get_past d.sources s p))
      ∙ (and_parts (d.msi && d.on) (waits_at d.sources s) ready).1 in absurd (cc)
]

regroup : (a b c d : Bool) → (a && b && c && d) ≡ (a && b && (c && d))
regroup true true true d = refl
regroup true true false d = refl
regroup true false c d = refl
regroup false b c d = refl

pub ready_is : (d : DomainState) (past : Past) (name : DomainName) (s : ℕ) → DomainStands d past name → s < suc (sources_in past)
    → kept.is_ready d s ≡ forwards past name s
ready_is d past name s stands low =
    let within : s < length d.sources = subst (λ n. s < n) (sym stands.count) low in
    let found : slice_get d.sources s ≡ Some (get_or d.sources s (source_of past name s)) =
    slice_get-get_or d.sources s (source_of past name s) within in
    ap (λ m. m && d.on && waits_at d.sources s) stands.msi ∙ ap (λ o. delivers_by_msis past name && o && waits_at d.sources s) stands.on
    ∙ ap (λ (o : Option InterruptSourceState). delivers_by_msis past name && is_on past name && option_map_or waits o false)
    (found ∙ ap (λ (x : InterruptSourceState). Some x) (stands.each s (get_or d.sources s (source_of past name s)) found))
    ∙ sym (regroup (delivers_by_msis past name) (is_on past name) (pending past name s) (enabled past name s))

-- no source has the number 0
ready_zero : (past : Past) (name : DomainName) → forwards past name 0 ≡ false
ready_zero past name =
    regroup (delivers_by_msis past name) (is_on past name) (pending past name 0) (enabled past name 0)
    ∙ ap (λ (b : Bool). delivers_by_msis past name && is_on past name && (b && enabled past name 0))
    ((source-idle past name 0).pending (mode-zero past name))
    ∙ and_right (delivers_by_msis past name && is_on past name) false refl

not_zero : (past : Past) (name : DomainName) (s : ℕ) → forwards past name s ≡ true → 1 ≤ s
not_zero past name zero ready = let bad : false ≡ true = sym (ready_zero past name) ∙ ready in absurd (cc)
not_zero past name (suc s) ready = omega arith

-- ---- whether one of two domains has a source that is ready

pub ready_in_first : (a : Bool) (X Y : Type 0) → a ≡ true → (a ≡ false) ↔ X → (a ≡ false) ↔ (X × Y)
ready_in_first a X Y is first = (λ none. let bad : ◌≡◌ {A = Bool} true false = sym is ∙ none in absurd (cc), λ none. first.1 none.0)

pub ready_in_other : (a b : Bool) (X Y : Type 0) → a ≡ false → (a ≡ false) ↔ X → (b ≡ false) ↔ Y → (b ≡ false) ↔ (X × Y)
ready_in_other a b X Y not_first first other = (λ none. (first.0 not_first, other.0 none), λ none. other.1 none.1)

-- ---- what waits first

-- one that has an MSI to send, while none before it has
first_is : (past : Past) (x : Sender) → Contains (all_senders (sources_in past)) x → has_msi past x ≡ true
    → ((y : Sender) → Contains (all_senders (sources_in past)) y → SendsBefore y x → has_msi past y ≡ false) → IsFirst (Some x) past
first_is past x there sends none = filter_first SendsBefore (has_msi past) (all_senders (sources_in past)) x (all_in_order (sources_in past))
    there sends none

pub root_genmsi_first : (a : AplicState) (past : Past) → a.root.domain.genmsi_waits ≡ true → AplicStands a past → IsFirst (Some (ByGenMsi Root)) past
root_genmsi_first a past busy stands = first_is past (ByGenMsi Root) (all_genmsi (sources_in past) Root)
    (sym stands.root.domain.genmsi_waits ∙ busy) none
  where
    none : (y : Sender) → Contains (all_senders (sources_in past)) y → SendsBefore y (ByGenMsi Root) → has_msi past y ≡ false
    none (ByGenMsi Root) m before = absurd before
    none (ByGenMsi Child) m before = absurd before
    none (BySource d s) m before = absurd before

pub child_genmsi_first : (a : AplicState) (past : Past) → a.root.domain.genmsi_waits ≡ false → a.child.domain.genmsi_waits ≡ true
    → AplicStands a past → IsFirst (Some (ByGenMsi Child)) past
child_genmsi_first a past idle busy stands = first_is past (ByGenMsi Child) (all_genmsi (sources_in past) Child)
    (sym stands.child.domain.genmsi_waits ∙ busy) none
  where
    none : (y : Sender) → Contains (all_senders (sources_in past)) y → SendsBefore y (ByGenMsi Child) → has_msi past y ≡ false
    none (ByGenMsi Root) m before = sym stands.root.domain.genmsi_waits ∙ idle
    none (ByGenMsi Child) m before = absurd before
    none (BySource d s) m before = absurd before

-- no genmsi waits
genmsi_idle : (a : AplicState) (past : Past) (d : DomainName) → a.root.domain.genmsi_waits ≡ false → a.child.domain.genmsi_waits ≡ false
    → AplicStands a past → genmsi_waits past d ≡ false
genmsi_idle a past Root idle quiet stands = sym stands.root.domain.genmsi_waits ∙ idle
genmsi_idle a past Child idle quiet stands = sym stands.child.domain.genmsi_waits ∙ quiet

-- a source that is there is ready where what is kept says so
ready_there : (a : AplicState) (past : Past) (d : DomainName) (s : ℕ) → AplicStands a past
    → Contains (all_senders (sources_in past)) (BySource d s) → forwards past d s ≡ kept.is_ready (side a d).domain s
ready_there a past Root s stands m = let there = source_there (sources_in past) Root s m in
    sym (ready_is a.root.domain past Root s stands.root.domain (omega (arith, there.1)))
ready_there a past Child s stands m = let there = source_there (sources_in past) Child s m in
    sym (ready_is a.child.domain past Child s stands.child.domain (omega (arith, there.1)))

-- a source that is ready is there
ready_source : (a : AplicState) (past : Past) (d : DomainName) (s : ℕ) → AplicStands a past → kept.is_ready (side a d).domain s ≡ true
    → Contains (all_senders (sources_in past)) (BySource d s)
ready_source a past Root s stands ready =
    let low : s < suc (sources_in past) = subst (λ n. s < n) stands.root.domain.count (ready_within a.root.domain s ready) in
    all_sources (sources_in past) Root s (not_zero past Root s (sym (ready_is a.root.domain past Root s stands.root.domain low) ∙ ready))
    (omega (arith, low))
ready_source a past Child s stands ready =
    let low : s < suc (sources_in past) = subst (λ n. s < n) stands.child.domain.count (ready_within a.child.domain s ready) in
    all_sources (sources_in past) Child s (not_zero past Child s (sym (ready_is a.child.domain past Child s stands.child.domain low) ∙ ready))
    (omega (arith, low))

pub source_first : (a : AplicState) (past : Past) (found : Option (DomainName × ℕ)) → a.root.domain.genmsi_waits ≡ false
    → a.child.domain.genmsi_waits ≡ false → IsFirstSource (kept.is_ready a.root.domain) (kept.is_ready a.child.domain) found → AplicStands a past
    → IsFirst (option_map source_sender found) past
source_first a past None idle quiet first stands = filter_none (has_msi past) (all_senders (sources_in past)) none
  where
    none : (y : Sender) → Contains (all_senders (sources_in past)) y → has_msi past y ≡ false
    none (ByGenMsi d) m = genmsi_idle a past d idle quiet stands
    none (BySource Root s) m = ready_there a past Root s stands m ∙ first.0 s
    none (BySource Child s) m = ready_there a past Child s stands m ∙ first.1 s
source_first a past (Some (Root, s)) idle quiet first stands =
    let there = ready_source a past Root s stands first.0 in
    first_is past (BySource Root s) there (ready_there a past Root s stands there ∙ first.0) none
  where
    none : (y : Sender) → Contains (all_senders (sources_in past)) y → SendsBefore y (BySource Root s) → has_msi past y ≡ false
    none (ByGenMsi d) m before = genmsi_idle a past d idle quiet stands
    none (BySource Root t) m before = ready_there a past Root t stands m ∙ first.1 t before
    none (BySource Child t) m before = ready_there a past Child t stands m ∙ first.2 t before
source_first a past (Some (Child, s)) idle quiet first stands =
    let there = ready_source a past Child s stands first.0 in
    first_is past (BySource Child s) there (ready_there a past Child s stands there ∙ first.0) none
  where
    up_to : (t : ℕ) → (t < s) ⊎ (t ≡ s) → t ≤ s
    up_to t (inl low) = omega (arith, low)
    up_to t (inr e) = omega (arith, e)

    none : (y : Sender) → Contains (all_senders (sources_in past)) y → SendsBefore y (BySource Child s) → has_msi past y ≡ false
    none (ByGenMsi d) m before = genmsi_idle a past d idle quiet stands
    none (BySource Root t) m before = ready_there a past Root t stands m ∙ first.1 t (up_to t before)
    none (BySource Child t) m before = ready_there a past Child t stands m ∙ first.2 t before

-- and it waits in what is kept
pub first_waits : (a : AplicState) (found : Option (DomainName × ℕ))
    → IsFirstSource (kept.is_ready a.root.domain) (kept.is_ready a.child.domain) found
    → IfSome (option_map source_sender found) (λ sender. does_wait a sender ≡ true)
first_waits a None first = tt
first_waits a (Some (Root, s)) first = first.0
first_waits a (Some (Child, s)) first = first.0

-- where no sender waits there is no first one
pub none_is_first : (a : AplicState) (past : Past) → ((sender : Sender) → does_wait a sender ≡ false) → AplicStands a past → IsFirst None past
none_is_first a past none stands = source_first a past None (none (ByGenMsi Root)) (none (ByGenMsi Child))
    ((λ s. none (BySource Root s)), (λ s. none (BySource Child s))) stands

-- ---- whether any sender waits

none_of_both : (x y : Bool) → x ≡ false → y ≡ false → (x || y) ≡ false
none_of_both x y first second = rw (first, second) refl

pub genmsi_does_wait : (a : AplicState) (r : Bool) → r ≡ asks_by_genmsi a → r ≡ true → IsFalse r ↔ ((sender : Sender) → does_wait a sender ≡ false)
genmsi_does_wait a false busy e = absurd (cc e)
genmsi_does_wait a true busy e = (
  (λ never. absurd (cc never)),
  (λ none. absurd (cc (busy, none_of_both a.root.domain.genmsi_waits a.child.domain.genmsi_waits (none (ByGenMsi Root)) (none (ByGenMsi Child))))),
)

pub ready_does_wait : (a : AplicState) (r : Bool) → asks_by_genmsi a ≡ false
    → IsFalse r ↔ (((s : ℕ) → kept.is_ready a.root.domain s ≡ false) × ((s : ℕ) → kept.is_ready a.child.domain s ≡ false))
    → IsFalse r ↔ ((sender : Sender) → does_wait a sender ≡ false)
ready_does_wait a r idle ready = ((λ no. none (ready.0 no)), (λ waits. ready.1 ((λ s. waits (BySource Root s)), (λ s. waits (BySource Child s)))))
  where
    quiet : (a.root.domain.genmsi_waits ≡ false) × (a.child.domain.genmsi_waits ≡ false)
    quiet = or_parts a.root.domain.genmsi_waits a.child.domain.genmsi_waits idle

    none : ((s : ℕ) → kept.is_ready a.root.domain s ≡ false) × ((s : ℕ) → kept.is_ready a.child.domain s ≡ false) → (sender : Sender)
        → does_wait a sender ≡ false
    none sources (ByGenMsi Root) = quiet.0
    none sources (ByGenMsi Child) = quiet.1
    none sources (BySource Root s) = sources.0 s
    none sources (BySource Child s) = sources.1 s
