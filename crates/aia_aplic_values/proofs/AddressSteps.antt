-- What each act makes of the registers of MSI addresses.
use Rattle.std.proofs.Common.{◌≡◌, ℕ, Bool, true, [], ◌∷◌, refl}
use Rattle.std.proofs.lemmas.Bool.{cond-true}
use Rattle.aia_regs.specs.declared.domain_registers.DomainReg.{DomainReg}
use Rattle.aia_model.specs.declared.domain_name.DomainName.{DomainName}
use Rattle.aia_model.specs.declared.sender.Sender.{Sender}
use Rattle.aia_model.specs.Act.{Act, Past}
use Rattle.aia_model.specs.declared.domain_name.DomainName.TheVariants.{Root, Child}
use Rattle.aia_model.specs.Act.Act.{Made, Driven, Written, Loaded, Sent, Aimed}
use Rattle.aia_msiaddr.specs.Registers.{new_addresses, are_locked, address_written}
use Rattle.aia_model.specs.AddressOf.{addresses_of}

pub addresses_made : (h n : ℕ) → new_addresses ≡ addresses_of (Made h n ∷ [])
unfolding addresses_of
addresses_made h n = refl

pub addresses_driven : (t : ℕ) (level : Bool) (past : Past) → addresses_of (Driven t level ∷ past) ≡ addresses_of past
unfolding addresses_of
addresses_driven t level past = refl

pub addresses_loaded : (d : DomainName) (reg : DomainReg) (past : Past) → addresses_of (Loaded d reg ∷ past) ≡ addresses_of past
unfolding addresses_of
addresses_loaded d reg past = refl

pub addresses_sent : (sender : Sender) (past : Past) → addresses_of (Sent sender ∷ past) ≡ addresses_of past
unfolding addresses_of
addresses_sent sender past = refl

pub addresses_aimed : (t v : ℕ) (past : Past) → addresses_of (Aimed t v ∷ past) ≡ addresses_of past
unfolding addresses_of
addresses_aimed t v past = refl

pub addresses_child : (reg : DomainReg) (v : ℕ) (past : Past) → addresses_of (Written Child reg v ∷ past) ≡ addresses_of past
unfolding addresses_of
addresses_child reg v past = refl

pub addresses_root : (reg : DomainReg) (v : ℕ) (past : Past) → addresses_of (Written Root reg v ∷ past) ≡ address_written reg v (addresses_of past)
unfolding addresses_of
addresses_root reg v past = refl

-- a lock holds
pub locked_stay : (past : Past) (a : Act) → are_locked (addresses_of past) ≡ true → addresses_of (a ∷ past) ≡ addresses_of past
unfolding addresses_of
locked_stay past (Made h n) locked = refl
locked_stay past (Driven t level) locked = refl
locked_stay past (Written Root reg v) locked = cond-true _ _ _ locked
locked_stay past (Written Child reg v) locked = refl
locked_stay past (Loaded d reg) locked = refl
locked_stay past (Sent sender) locked = refl
locked_stay past (Aimed t v) locked = refl
