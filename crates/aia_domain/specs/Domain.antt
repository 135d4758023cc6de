-- A domain as it is kept: what a store makes of it, and what a load reads.
-- AIA 1.0, APLIC, where no comment names another source; a heading of that chapter is named without
-- it.
use Rattle.std.specs.Prelude.{◌≡◌, ℕ, suc, ◌-◌, ◌*◌, ◌^◌, ◌<◌, ◌≤◌, Bool, true, false, ◌&&◌, if◌then◌else◌, List, length, All, filter}
use Rattle.std.specs.List.{range_with_len}
use Rattle.aia_word.specs.Sets.{word_of}
use Rattle.aia_regs.specs.declared.domain_registers.DomainReg.{DomainReg}
use Rattle.aia_regs.specs.declared.domain_registers.DomainReg.TheVariants.{DomainCfg, SourceCfg, SetIp, InClrIp, SetIe, GenMsi, Target}
use Rattle.aia_source.specs.Registers.{domaincfg_kept, domaincfg_read, enables, is_by_msi, touch, genmsi_kept, same_bool}
use Rattle.aia_regs.specs.declared.limits.TheConstants.{SOURCES}
use Rattle.aia_regs.specs.Top.{Pair}
use Rattle.aia_domain.specs.declared.interrupt_source.SourceBit.TheVariants as bits
use Rattle.aia_domain.specs.InterruptSource.{InterruptSourceState, new_source, changed_at, changed_if_named, touched, switched, aimed, sourcecfg_written, waits_at, candidates_of, sourcecfg_at, target_at, bit_at_source}

-- Whether it is a leaf of the tree of domains, which has no child; how many harts there are; IE and
-- DM; genmsi, and whether an MSI that it asked for is still to be sent; the sources.
-- "Interrupt domains".
pub record DomainState : Type 0 where
  pub leaf : Bool
  pub harts : ℕ
  pub on : Bool
  pub msi : Bool
  pub genmsi : ℕ
  pub genmsi_waits : Bool
  pub sources : List InterruptSourceState

-- A domain as a machine begins: all its sources are inactive. Profile.
pub record IsNewDomain (source_count hart_count : ℕ) (is_leaf : Bool) (d : DomainState)
    : Type 0 where
  pub leaf : d.leaf ≡ is_leaf
  pub harts : d.harts ≡ hart_count
  pub on : d.on ≡ false
  pub msi : d.msi ≡ false
  pub genmsi : d.genmsi ≡ 0
  pub genmsi_waits : d.genmsi_waits ≡ false
  pub count : length d.sources ≡ suc source_count
  pub each : All (λ x. x ≡ new_source) d.sources

-- The same but for its sources.
abbrev pub with_sources : DomainState → List InterruptSourceState → DomainState
with_sources d sources = record d { sources = sources }

-- ---- a store

-- A domaincfg is written: where the delivery mode changes, each source hears of it.
abbrev pub configured_by : ℕ → Bool → ℕ → InterruptSourceState → InterruptSourceState
configured_by cfg msi s x = if same_bool msi (is_by_msi cfg) then x else switched (is_by_msi cfg) x

-- What a store of v to a register makes of source s. Number 0 names no source.
-- "Memory-mapped control region for an interrupt domain".
abbrev pub source_changed : Bool → ℕ → Bool → DomainReg → ℕ → ℕ → InterruptSourceState
    → InterruptSourceState
source_changed leaf harts msi DomainCfg v s x = configured_by (domaincfg_kept v) msi s x
source_changed leaf harts msi (SourceCfg i) v s x =
    changed_if_named i (sourcecfg_written leaf msi v) s x
source_changed leaf harts msi (Target i) v s x = changed_at i (aimed harts msi v) s x
source_changed leaf harts msi reg v s x = touched msi (touch reg v s) x

-- The same in a domain.
abbrev pub source_after : DomainState → DomainReg → ℕ → ℕ → InterruptSourceState
    → InterruptSourceState
source_after d reg v s x = source_changed d.leaf d.harts d.msi reg v s x

-- What a store makes of the domain itself: domaincfg writes IE and DM; genmsi is written only where
-- the domain delivers by MSIs, and a change of that makes it 0.
-- Profile: what direct delivery and a change make of genmsi.
abbrev pub domaincfg_written : Bool → Bool → Bool → DomainState → DomainState
domaincfg_written same on msi d =
    if same then record d { on = on }
    else record d { on = on; msi = msi; genmsi = 0; genmsi_waits = false }

abbrev pub domain_after : DomainReg → ℕ → DomainState → DomainState
domain_after DomainCfg v d =
    domaincfg_written (same_bool d.msi (is_by_msi (domaincfg_kept v)))
    (enables (domaincfg_kept v)) (is_by_msi (domaincfg_kept v)) d
domain_after GenMsi v d =
    if d.msi then record d { genmsi = genmsi_kept d.harts v; genmsi_waits = true } else d
domain_after reg v d = d

-- ---- a load

-- What a load of a register reads: 0 where none is there. The registers of the harts' delivery and
-- of MSI addresses are not kept here.
-- "Memory-mapped control region for an interrupt domain".
abbrev pub domain_read : DomainState → DomainReg → ℕ
domain_read d DomainCfg = domaincfg_read d.on d.msi
domain_read d (SourceCfg i) = sourcecfg_at d.sources d.leaf i
domain_read d (SetIp k) = word_of (bit_at_source d.sources bits.Pending) (32 * k) 32
domain_read d (InClrIp k) = word_of (bit_at_source d.sources bits.Input) (32 * k) 32
domain_read d (SetIe k) = word_of (bit_at_source d.sources bits.Enable) (32 * k) 32
domain_read d GenMsi = d.genmsi
domain_read d (Target i) = target_at d.sources i
domain_read d reg = 0

-- ---- what is to be sent

-- Whether a source is to be forwarded: the domain delivers by MSIs and is enabled, and the source
-- is pending and enabled.
-- "Interrupt forwarding by MSIs".
abbrev pub is_ready : DomainState → ℕ → Bool
is_ready d s = d.msi && d.on && waits_at d.sources s

-- The sources that are to be forwarded, from a number on, rising.
unfoldable pub ready_from : DomainState → ℕ → List ℕ
ready_from d from = filter (is_ready d) (range_with_len from (length d.sources - from))

-- ---- the candidates of a hart

-- The pairs of priority and number of the sources that wait and are aimed at a hart, in rising
-- order; none where the domain delivers by MSIs, and where the hart isn't there.
-- "Interrupt delivery directly by the APLIC".
abbrev pub candidates : DomainState → ℕ → List Pair
candidates d hart = candidates_of d.harts d.msi d.sources hart

-- A pair that a register has room for: 8 bits of priority, and a number of a source that may be
-- there.
abbrev pub IsPairOfSource : Pair → Type 0
IsPairOfSource p = (p.0 < 2 ^ 8) × (p.1 ≤ SOURCES)
