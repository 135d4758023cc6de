-- A hart's interrupt delivery control in a domain: what is on top for it, a claim, and its signal.
-- AIA 1.0, APLIC, "Interrupt delivery directly by the APLIC".
use Rattle.std.specs.Prelude.{ℕ, ◌-◌, Bool, false, not, ◌&&◌, ◌||◌, nat_le, is_some, is_none, if◌then◌else◌, length, Option, None}
use Rattle.aia_regs.specs.declared.domain_registers.DomainReg.{DomainReg}
use Rattle.aia_regs.specs.declared.domain_registers.DomainReg.TheVariants.{IDelivery, IForce, IThreshold}
use Rattle.aia_regs.specs.Fields.{field, bit_number}
use Rattle.aia_word.specs.Sets.{has_bit}
use Rattle.aia_source.specs.Wired.SourceDeed.{Claimed}
use Rattle.aia_regs.specs.Top.{Pair, least_pair, is_top}
use Rattle.aia_domain.specs.InterruptSource.{InterruptSourceState, with_deed, waiting_pair_at}
use Rattle.aia_domain.specs.Domain.{DomainState}
use Rattle.aia_direct.specs.Front.{through}

-- idelivery, iforce and ithreshold.
pub record IdcState : Type 0 where
  pub idelivery : Bool
  pub iforce : Bool
  pub ithreshold : ℕ

-- A control as a machine begins. Profile.
abbrev pub new_idc : IdcState
new_idc = record { idelivery = false; iforce = false; ithreshold = 0 }

-- What its registers read, and what a write of each keeps.
-- Profile: a priority has 8 bits.
abbrev pub control_read : IdcState → DomainReg → ℕ
control_read c (IDelivery hart) = bit_number c.idelivery
control_read c (IForce hart) = bit_number c.iforce
control_read c (IThreshold hart) = c.ithreshold
control_read c reg = 0

abbrev pub control_written : DomainReg → ℕ → IdcState → IdcState
control_written (IDelivery hart) v c = record c { idelivery = has_bit v 0 }
control_written (IForce hart) v c = record c { iforce = has_bit v 0 }
control_written (IThreshold hart) v c = record c { ithreshold = field v 7 0 }
control_written reg v c = c

-- ---- what is on top

-- The least pair of the domain's sources that are pending, enabled and aimed at the hart, of those
-- whose priority the threshold lets through; none where the domain delivers by MSIs, and for a hart
-- that isn't there.
-- Profile: none by MSIs.
abbrev pub top_shown : IdcState → DomainState → ℕ → Option Pair
top_shown c d hart =
    if d.msi || nat_le d.harts hart then None
    else least_pair (through c.ithreshold (waiting_pair_at d.sources hart)) 1
    (length d.sources - 1)

-- ---- a claim and the signal

-- What a claim makes of a source, given what is on top: it claims the source that is shown.
abbrev pub claimed_top : Option Pair → ℕ → InterruptSourceState → InterruptSourceState
claimed_top top s x = if is_top top s then with_deed false Claimed x else x

-- What it makes of the control: where it shows nothing in a domain that delivers directly, iforce
-- becomes 0.
-- Profile: by MSIs it does nothing.
abbrev pub control_claimed : Bool → Option Pair → IdcState → IdcState
control_claimed msi top c = if not msi && is_none top then record c { iforce = false } else c

-- Whether the hart is signalled: the domain delivers directly and is enabled, the control delivers,
-- and a source is on top or iforce is 1.
abbrev pub signals_hart : IdcState → DomainState → ℕ → Bool
signals_hart c d hart =
    not d.msi && d.on && c.idelivery && (c.iforce || is_some (top_shown c d hart))
