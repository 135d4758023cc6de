-- What the next MSI is, and what is left of those that wait. Vocabulary.
use Rattle.std.specs.Prelude.{◌≡◌, ℕ, ◌+◌, Bool, ◌||◌, count_by, if◌then◌else◌, List, [], ◌∷◌, Option, Some, None}
use Rattle.aia_domain.specs.InterruptSource.{waits}
use Rattle.aia_domain.specs.Domain.{DomainState, is_ready}
use Rattle.aia_model.specs.declared.msi.Msi.{Msi}
use Rattle.aia_model.specs.Act.{Past}
use Rattle.aia_model.specs.declared.sender.Sender.{Sender}
use Rattle.aia_model.specs.declared.sender.Sender.TheVariants.{ByGenMsi, BySource}
use Rattle.aia_model.specs.Act.Act.{Sent}
use Rattle.aia_model.specs.Sent.{senders, domain_of_sender, msi_of}
use Rattle.aia_aplic_values.specs.Side.{SideState}
use Rattle.aia_aplic_values.specs.Aplic.{AplicState, AplicStands, side}

-- A sender is the first of all that waits, or nothing waits.
abbrev pub IsFirst : Option Sender → Past → Type 0
IsFirst None past = senders past ≡ []
IsFirst (Some sender) past = (later : List Sender) × (senders past ≡ sender ∷ later)

-- Whether a sender waits in what is kept: in a domain, and in that of the sender.
abbrev pub waits_in : DomainState → Sender → Bool
waits_in d (ByGenMsi e) = d.genmsi_waits
waits_in d (BySource e s) = is_ready d s

abbrev pub does_wait : AplicState → Sender → Bool
does_wait a sender = waits_in (side a (domain_of_sender sender)).domain sender

-- Whether an MSI that genmsi asked for waits, in either domain.
abbrev pub asks_by_genmsi : AplicState → Bool
asks_by_genmsi a = a.root.domain.genmsi_waits || a.child.domain.genmsi_waits

-- A sender is a source, and not genmsi.
abbrev pub IsBySource : Sender → Type 0
IsBySource (BySource d s) = Unit {0}
IsBySource (ByGenMsi d) = ⊥

-- How many MSIs a domain may have to send: what was asked for by genmsi, and one for each source
-- that is pending and enabled.
abbrev pub waiting_in : SideState → ℕ
waiting_in a = (if a.domain.genmsi_waits then 1 else 0) + count_by waits a.domain.sources

abbrev pub waiting : AplicState → ℕ
waiting a = waiting_in a.root + waiting_in a.child

-- An MSI is that of the first sender, which has sent it now; or nothing waits, and nothing is
-- changed.
pub record IsSent (new : AplicState) (given : Msi) (past : Past) : Type 0 where
  pub sender : Sender
  pub later : List Sender
  pub first : senders past ≡ sender ∷ later
  pub msi : given ≡ msi_of past sender
  pub stands : AplicStands new (Sent sender ∷ past)

abbrev pub Next : AplicState → Option Msi → Past → Type 0
Next new None past = (senders past ≡ []) × AplicStands new past
Next new (Some msi) past = IsSent new msi past
