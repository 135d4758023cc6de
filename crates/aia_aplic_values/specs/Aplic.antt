-- What an APLIC keeps, and when it stands for a past. Vocabulary.
use Rattle.std.specs.Prelude.{◌≡◌, ℕ, true, false}
use Rattle.aia_model.specs.declared.domain_name.DomainName.{DomainName}
use Rattle.aia_model.specs.Act.{Past}
use Rattle.aia_model.specs.declared.domain_name.DomainName.TheVariants.{Root, Child}
use Rattle.aia_msiaddr.specs.Registers.{AddressRegisters, new_addresses}
use Rattle.aia_model.specs.AddressOf.{addresses_of}
use Rattle.aia_aplic_values.specs.Side.{SideState, SideStands, IsNewSide}

-- Both domains, and the registers of MSI addresses.
pub record AplicState : Type 0 where
  pub root : SideState
  pub child : SideState
  pub addresses : AddressRegisters

-- One domain of the two.
abbrev pub side : AplicState → DomainName → SideState
side a Root = a.root
side a Child = a.child

-- All is kept as the past makes it.
pub record AplicStands (a : AplicState) (past : Past) : Type 0 where
  pub root : SideStands a.root past Root
  pub child : SideStands a.child past Child
  pub addresses : a.addresses ≡ addresses_of past

-- An APLIC as a machine begins.
pub record IsNewAplic (source_count hart_count : ℕ) (a : AplicState) : Type 0 where
  pub root : IsNewSide source_count hart_count false a.root
  pub child : IsNewSide source_count hart_count true a.child
  pub addresses : a.addresses ≡ new_addresses
