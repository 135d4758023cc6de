-- What the sending of an MSI makes of a source, and of the controls of harts.
use Rattle.std.proofs.Common.{◌≡◌, ℕ, Bool, false, cond, ◌&&◌, nat_eq, ◌∷◌, refl, ◌∙◌}
use Rattle.aia_source.specs.Wired.SourceDeed.{Forwarded}
use Rattle.aia_domain.specs.InterruptSource.{with_deed}
use Rattle.aia_model.specs.declared.domain_name.DomainName.{DomainName}
use Rattle.aia_model.specs.declared.sender.Sender.{Sender}
use Rattle.aia_model.specs.Act.{Past, is_domain, newest}
use Rattle.aia_model.specs.declared.domain_name.DomainName.TheVariants.{Root, Child}
use Rattle.aia_model.specs.declared.sender.Sender.TheVariants.{ByGenMsi, BySource}
use Rattle.aia_model.specs.Act.Act.{Sent}
use Rattle.aia_model.specs.SourceOf.{harts_in, wire_of, delivers_by_msis}
use Rattle.aia_aplic_values.specs.Side.{source_of, control}
use Rattle.aia_aplic_values.proofs.Steps.{source-step, source-idle, step-nothing, done_if}

-- a source of the domain is forwarded
pub forwarded : (t : ℕ) (past : Past) (d : DomainName) (s : ℕ)
    → source_of (Sent (BySource d t) ∷ past) d s ≡ cond (nat_eq t s && delivers_by_msis past d)
    (with_deed (delivers_by_msis past d) Forwarded (source_of past d s)) (source_of past d s)
unfolding newest wire_of
forwarded t past Root s = source-step (Sent (BySource Root t)) past Root s
    ∙ done_if (nat_eq t s && delivers_by_msis past Root) (delivers_by_msis past Root) Forwarded (source_of past Root s) (source-idle past Root s)
forwarded t past Child s = source-step (Sent (BySource Child t)) past Child s
    ∙ done_if (nat_eq t s && delivers_by_msis past Child) (delivers_by_msis past Child) Forwarded (source_of past Child s) (source-idle past Child s)

-- whether a sender is a source of the domain, and whether it is the domain's genmsi
abbrev pub is_source_in : Sender → DomainName → Bool
is_source_in (BySource e t) d = is_domain e d
is_source_in (ByGenMsi e) d = false

abbrev pub is_genmsi_of : Sender → DomainName → Bool
is_genmsi_of (ByGenMsi e) d = is_domain e d
is_genmsi_of (BySource e t) d = false

pub sent_elsewhere : (sender : Sender) (past : Past) (d : DomainName) (s : ℕ) → is_source_in sender d ≡ false
    → source_of (Sent sender ∷ past) d s ≡ source_of past d s
unfolding newest wire_of
sent_elsewhere (ByGenMsi e) past Root s other = source-step (Sent (ByGenMsi e)) past Root s
    ∙ step-nothing (delivers_by_msis past Root) (source_of past Root s) (source-idle past Root s)
sent_elsewhere (ByGenMsi e) past Child s other = source-step (Sent (ByGenMsi e)) past Child s
    ∙ step-nothing (delivers_by_msis past Child) (source_of past Child s) (source-idle past Child s)
sent_elsewhere (BySource Root t) past Root s other = cc
sent_elsewhere (BySource Child t) past Child s other = cc
sent_elsewhere (BySource Child t) past Root s other = source-step (Sent (BySource Child t)) past Root s
    ∙ step-nothing (delivers_by_msis past Root) (source_of past Root s) (source-idle past Root s)
sent_elsewhere (BySource Root t) past Child s other = source-step (Sent (BySource Root t)) past Child s
    ∙ step-nothing (delivers_by_msis past Child) (source_of past Child s) (source-idle past Child s)

pub sent_control : (sender : Sender) (past : Past) (d : DomainName) (h : ℕ) → control (Sent sender ∷ past) d h ≡ control past d h
unfolding newest
sent_control sender past d h = refl

-- the harts stay
pub harts_sent : (sender : Sender) (past : Past) → harts_in (Sent sender ∷ past) ≡ harts_in past
unfolding newest
harts_sent sender past = refl
