-- What a domain keeps with the delivery controls of its harts, and when it stands for a past.
-- Vocabulary.
use Rattle.std.specs.Prelude.{◌≡◌, ℕ, suc, Bool, nat_eq, List, length, All, slice_get, Some}
use Rattle.aia_domain.specs.InterruptSource.{InterruptSourceState}
use Rattle.aia_domain.specs.Domain.{DomainState, IsNewDomain}
use Rattle.aia_direct.specs.Idc.{IdcState, new_idc}
use Rattle.aia_model.specs.declared.domain_name.DomainName.{DomainName}
use Rattle.aia_model.specs.Act.{Past, is_domain}
use Rattle.aia_model.specs.declared.domain_name.DomainName.TheVariants.{Child}
use Rattle.aia_model.specs.SourceOf.{harts_in, sources_in, wire_of, is_delegated, mode, is_on, delivers_by_msis, enabled, target, pending, genmsi_of, genmsi_waits, idelivery_of, iforce_of, ithreshold_of}

-- What the past makes of a source in a domain.
abbrev pub source_of : Past → DomainName → ℕ → InterruptSourceState
source_of past d s = record {
  source = record { mode = mode past d s; wire = wire_of past s; pending = pending past d s };
  enabled = enabled past d s;
  target = target past d s;
  delegated = is_delegated past s;
}

-- What a domain keeps is what the past makes of it.
pub record DomainStands (d : DomainState) (past : Past) (name : DomainName) : Type 0 where
  pub leaf : d.leaf ≡ is_domain name Child
  pub harts : d.harts ≡ harts_in past
  pub on : d.on ≡ is_on past name
  pub msi : d.msi ≡ delivers_by_msis past name
  pub genmsi : d.genmsi ≡ genmsi_of past name
  pub genmsi_waits : d.genmsi_waits ≡ genmsi_waits past name
  pub count : length d.sources ≡ suc (sources_in past)
  pub each : (s : ℕ) (x : InterruptSourceState) → slice_get d.sources s ≡ Some x
      → x ≡ source_of past name s

-- What the past makes of a hart's delivery control in a domain.
abbrev pub control : Past → DomainName → ℕ → IdcState
control past d hart = record {
  idelivery = nat_eq (idelivery_of past d hart) 1;
  iforce = nat_eq (iforce_of past d hart) 1;
  ithreshold = ithreshold_of past d hart;
}

-- The delivery controls that are kept are what the past makes of them.
pub record ControlsStand (controls : List IdcState) (past : Past) (name : DomainName) : Type 0 where
  pub count : length controls ≡ harts_in past
  pub each : (hart : ℕ) (c : IdcState) → slice_get controls hart ≡ Some c
      → c ≡ control past name hart

-- A domain with the delivery controls of its harts.
pub record SideState : Type 0 where
  pub domain : DomainState
  pub controls : List IdcState

pub record SideStands (a : SideState) (past : Past) (name : DomainName) : Type 0 where
  pub domain : DomainStands a.domain past name
  pub controls : ControlsStand a.controls past name

-- How a domain with its controls begins.
pub record IsNewSide (source_count hart_count : ℕ) (leaf : Bool) (a : SideState) : Type 0 where
  pub domain : IsNewDomain source_count hart_count leaf a.domain
  pub count : length a.controls ≡ hart_count
  pub each : All (λ c. c ≡ new_idc) a.controls
