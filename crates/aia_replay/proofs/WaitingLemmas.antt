-- What waits in an APLIC, by what it stands for; and lines after which nothing waits.
use Rattle.std.proofs.Common.{◌≡◌, ℕ, zero, suc, ◌<◌, ◌≤◌, Bool, true, false, cond, ◌&&◌, [], ◌∷◌, Option, Some, None, inl, inr, refl, sym, ap, subst, ◌∙◌, length, arith}
use Rattle.std.specs.List.{Contains}
use Rattle.std.specs.Option.{option_map}
use Rattle.std.proofs.lemmas.Bool.{cases_Bool, and_parts, and_from, and_right, false≢true}
use Rattle.aia_regs.specs.BitUpdate.{settle}
use Rattle.aia_regs.specs.declared.domain_registers.DomainReg.{DomainReg}
use Rattle.aia_regs.specs.declared.domain_registers.DomainReg.TheVariants.{ClaimI}
use Rattle.aia_regs.proofs.ListLemmas.{nowhere, filter_has, filter_none}
use Rattle.aia_source.specs.declared.mode.Mode.{Mode}
use Rattle.aia_source.specs.declared.mode.Mode.TheVariants.{Inactive, Detached, RisingEdge, FallingEdge, LevelHigh, LevelLow}
use Rattle.aia_source.specs.Wired.{says}
use Rattle.aia_source.specs.Wired.SourceDeed.{Claimed, Untouched}
use Rattle.aia_model.specs.declared.line.Line.{Line}
use Rattle.aia_model.specs.declared.line.Line.TheVariants.{Load, Store}
use Rattle.aia_model.specs.declared.domain_name.DomainName.{DomainName}
use Rattle.aia_model.specs.declared.domain_name.DomainName.TheVariants.{Root, Child}
use Rattle.aia_model.specs.declared.sender.Sender.{Sender}
use Rattle.aia_model.specs.declared.sender.Sender.TheVariants.{ByGenMsi, BySource}
use Rattle.aia_model.specs.Event.{History}
use Rattle.aia_model.specs.Act.{Past, is_domain, newest, domain_at, register_at}
use Rattle.aia_model.specs.Act.Act.{Loaded}
use Rattle.aia_model.specs.SourceOf.{sources_in, is_active_in, wire_of, mode, input, is_on, delivers_by_msis, enabled, pending, genmsi_waits}
use Rattle.aia_model.specs.Sent.{forwards, all_senders, has_msi, senders, with_act, acts_of}
use Rattle.aia_model.proofs.WaitingLemmas.{none_waits}
use Rattle.aia_aplic_values.specs.Aplic.{AplicState, AplicStands}
use Rattle.aia_aplic_values.specs.Sending.{does_wait}
use Rattle.aia_aplic_values.proofs.Steps.{source-idle}
use Rattle.aia_aplic_values.proofs.Reading.{mode-zero}
use Rattle.aia_aplic_values.proofs.FirstLemmas.{ready_is, ready_within}
use Rattle.aia_aplic_values.proofs.OrderLaw.{all_genmsi, all_sources}
use Rattle.aia_replay.specs.Stands.{SendsNone, act_taken}

-- ---- what waits is among what has an MSI to send

-- no source 0 is pending, so what is forwarded is there
both_end : (a b c : Bool) → c ≡ false → (d : Bool) → (a && b && c && d) ≡ false
both_end true true c e d = ap (λ x. x && d) e
both_end true false c e d = refl
both_end false b c e d = refl

is_there : (past : Past) (name : DomainName) (s : ℕ) → s ≤ sources_in past → forwards past name s ≡ true
    → Contains (all_senders (sources_in past)) (BySource name s)
is_there past name zero few ready = absurd (false≢true (sym (both_end (delivers_by_msis past name) (is_on past name) (pending past name 0)
    ((source-idle past name 0).pending (mode-zero past name)) (enabled past name 0)) ∙ ready))
is_there past name (suc s) few ready = all_sources (sources_in past) name (suc s) (omega arith) few

has_none : {A : Type 0} (past : Past) (sender : Sender) → senders past ≡ [] → Contains (all_senders (sources_in past)) sender
    → has_msi past sender ≡ true → A
has_none past sender none there has = nowhere sender (subst (λ xs. Contains xs sender) none
    (filter_has (has_msi past) (all_senders (sources_in past)) sender there has))

pub none_does_wait : (a : AplicState) (past : Past) → AplicStands a past → senders past ≡ [] → (sender : Sender) → does_wait a sender ≡ false
none_does_wait a past stands none sender = elim (cases_Bool (does_wait a sender)) [
  | inl is ↦ waits sender is
  | inr is ↦ is
]
  where
    waits : (y : Sender) → does_wait a y ≡ true → does_wait a sender ≡ false
    waits (ByGenMsi Root) is = has_none past (ByGenMsi Root) none (all_genmsi (sources_in past) Root) (sym stands.root.domain.genmsi_waits ∙ is)
    waits (ByGenMsi Child) is = has_none past (ByGenMsi Child) none (all_genmsi (sources_in past) Child) (sym stands.child.domain.genmsi_waits ∙ is)
    waits (BySource Root s) is =
        let low : s < suc (sources_in past) = subst (λ n. s < n) stands.root.domain.count (ready_within a.root.domain s is) in
        let ready : forwards past Root s ≡ true = sym (ready_is a.root.domain past Root s stands.root.domain low) ∙ is in
        has_none past (BySource Root s) none (is_there past Root s (omega (arith, low)) ready) ready
    waits (BySource Child s) is =
        let low : s < suc (sources_in past) = subst (λ n. s < n) stands.child.domain.count (ready_within a.child.domain s is) in
        let ready : forwards past Child s ≡ true = sym (ready_is a.child.domain past Child s stands.child.domain low) ∙ is in
        has_none past (BySource Child s) none (is_there past Child s (omega (arith, low)) ready) ready

-- ---- a load makes nothing wait

was_pending : (m : Mode) (msi r b was : Bool) → settle (says m msi r r (cond b Claimed Untouched)) was ≡ true → was ≡ true
was_pending Inactive msi r b was e = absurd (false≢true e)
was_pending Detached msi r true was e = absurd (false≢true e)
was_pending RisingEdge msi true true was e = absurd (false≢true e)
was_pending RisingEdge msi false true was e = absurd (false≢true e)
was_pending FallingEdge msi true true was e = absurd (false≢true e)
was_pending FallingEdge msi false true was e = absurd (false≢true e)
was_pending LevelHigh msi r true was e = e
was_pending LevelLow msi r true was e = e
was_pending Detached msi r false was e = e
was_pending RisingEdge msi r false was e = e
was_pending FallingEdge msi r false was e = e
was_pending LevelHigh msi r false was e = e
was_pending LevelLow msi r false was e = e

ready_before : (m : Mode) (msi on r b was active enables : Bool)
    → (msi && on && settle (says m msi r r (cond b Claimed Untouched)) was && (active && active && enables)) ≡ true
    → (msi && on && was && enables) ≡ true
ready_before m msi on r b was active enables e =
    let all = and_parts (msi && on && settle (says m msi r r (cond b Claimed Untouched)) was) (active && active && enables) e in
    let some = and_parts (msi && on) (settle (says m msi r r (cond b Claimed Untouched)) was) all.0 in
    and_from (msi && on && was) enables (and_from (msi && on) was some.0 (was_pending m msi r b was some.1))
    (and_parts (active && active) enables all.1).1

loaded_source : (e : DomainName) (reg : DomainReg) (past : Past) (d : DomainName) (s : ℕ) → forwards (Loaded e reg ∷ past) d s ≡ true
    → forwards past d s ≡ true
unfolding newest wire_of enabled pending
loaded_source e (ClaimI hart) past Root s = ready_before (mode past Root s) (delivers_by_msis past Root) (is_on past Root) (input past Root s)
    _ (pending past Root s) (is_active_in past Root s) (enabled past Root s)
loaded_source e (ClaimI hart) past Child s = ready_before (mode past Child s) (delivers_by_msis past Child) (is_on past Child) (input past Child s)
    _ (pending past Child s) (is_active_in past Child s) (enabled past Child s)
loaded_source e reg past Root s = ready_before (mode past Root s) (delivers_by_msis past Root) (is_on past Root) (input past Root s)
    false (pending past Root s) (is_active_in past Root s) (enabled past Root s)
loaded_source e reg past Child s = ready_before (mode past Child s) (delivers_by_msis past Child) (is_on past Child) (input past Child s)
    false (pending past Child s) (is_active_in past Child s) (enabled past Child s)

loaded_before : (e : DomainName) (reg : DomainReg) (x : Sender) (past : Past) → has_msi (Loaded e reg ∷ past) x ≡ true → has_msi past x ≡ true
unfolding genmsi_waits
loaded_before e reg (ByGenMsi d) past is = is
loaded_before e reg (BySource d s) past is = loaded_source e reg past d s is

same_sources : (e : DomainName) (reg : DomainReg) (past : Past) → sources_in (Loaded e reg ∷ past) ≡ sources_in past
unfolding newest
same_sources e reg past = refl

none_loaded : (e : DomainName) (reg : DomainReg) (past : Past) → senders past ≡ [] → senders (Loaded e reg ∷ past) ≡ []
none_loaded e reg past before = filter_none (has_msi (Loaded e reg ∷ past)) (all_senders (sources_in (Loaded e reg ∷ past))) none
  where
    none : (x : Sender) → Contains (all_senders (sources_in (Loaded e reg ∷ past))) x → has_msi (Loaded e reg ∷ past) x ≡ false
    none x m = elim (cases_Bool (has_msi (Loaded e reg ∷ past) x)) [
      | inl is ↦ has_none past x before (subst (λ n. Contains (all_senders n) x) (same_sources e reg past) m) (loaded_before e reg x past is)
      | inr is ↦ is
    ]

pub load_sends_none : (addr : ℕ) → SendsNone (Load addr)
load_sends_none addr h = by_domain (domain_at addr)
  where
    by_domain : (o : Option DomainName) → senders (with_act (option_map (λ d. Loaded d (register_at addr)) o) (acts_of h)) ≡ []
    by_domain None = none_waits h
    by_domain (Some d) = none_loaded d (register_at addr) (acts_of h) (none_waits h)

-- a line that is nothing to the APLIC
pub silent_sends_none : (line : Line) → ((h : History) → act_taken None h line ≡ acts_of h) → SendsNone line
silent_sends_none line silent h = ap senders (silent h) ∙ none_waits h
