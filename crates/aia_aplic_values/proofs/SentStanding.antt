-- A domain that stood for the past stands for the one in which an MSI is sent.
use Rattle.std.proofs.Common.{◌≡◌, ℕ, Bool, true, false, cond, ◌&&◌, nat_eq, ◌∷◌, slice_get, refl, sym, subst, ◌∙◌}
use Rattle.aia_domain.specs.InterruptSource.{InterruptSourceState, with_deed, changed_at, EachSource}
use Rattle.aia_domain.specs.Domain.{DomainState, with_sources}
use Rattle.aia_model.specs.declared.domain_name.DomainName.{DomainName}
use Rattle.aia_model.specs.Act.{Past, newest}
use Rattle.aia_model.specs.declared.domain_name.DomainName.TheVariants.{Root, Child}
use Rattle.aia_model.specs.Act.Act.{Sent}
use Rattle.aia_model.specs.SourceOf.{harts_in, sources_in, is_on, delivers_by_msis, genmsi_of, genmsi_waits}
use Rattle.aia_aplic_values.specs.Side.{source_of, DomainStands}
use Rattle.std.proofs.lemmas.Iterator.Adapters.{option_map_id}
use Rattle.aia_source.specs.Wired.SourceDeed.{Forwarded}
use Rattle.aia_model.specs.declared.sender.Sender.{Sender}
use Rattle.aia_model.specs.declared.sender.Sender.TheVariants.{ByGenMsi, BySource}
use Rattle.aia_aplic_values.proofs.SentSteps.{forwarded, sent_elsewhere, is_source_in, is_genmsi_of}
use Rattle.aia_aplic_values.proofs.Standing.{Keeps, stands-after, still-stands, IsQuiet, keeps_quiet}

quiet_sent : (sender : Sender) (past : Past) (name : DomainName) → is_genmsi_of sender name ≡ false → IsQuiet (Sent sender) past name
unfolding newest genmsi_waits
quiet_sent (BySource e t) past name other = (refl, refl, refl, refl, refl, refl)
quiet_sent (ByGenMsi Root) past Child other = (refl, refl, refl, refl, refl, refl)
quiet_sent (ByGenMsi Child) past Root other = (refl, refl, refl, refl, refl, refl)
quiet_sent (ByGenMsi Root) past Root other = cc
quiet_sent (ByGenMsi Child) past Child other = cc

-- of the other domain
pub sent-stands_other : (sender : Sender) (d : DomainState) (past : Past) (name : DomainName) → is_genmsi_of sender name ≡ false
    → is_source_in sender name ≡ false → DomainStands d past name → DomainStands d (Sent sender ∷ past) name
sent-stands_other sender d past name genmsi source stands =
    still-stands (Sent sender) d past name (keeps_quiet (Sent sender) d d past name (quiet_sent sender past name genmsi) refl stands)
    (λ s low. sent_elsewhere sender past name s source) stands

-- of a source
pub forwarded-stands : (t : ℕ) (d e : DomainState) (past : Past) (name : DomainName) → delivers_by_msis past name ≡ true
    → EachSource d.sources e.sources (changed_at t (with_deed true Forwarded)) → e ≡ with_sources d e.sources
    → DomainStands d past name → DomainStands e (Sent (BySource name t) ∷ past) name
forwarded-stands t d e past name by_msi each rest stands =
    stands-after (Sent (BySource name t)) d e past name (changed_at t (with_deed true Forwarded))
    (keeps_quiet (Sent (BySource name t)) d e past name (quiet_sent (BySource name t) past name refl) rest stands) each
    (λ s low. by_mode (nat_eq t s) (delivers_by_msis past name) (source_of past name s) by_msi ∙ sym (forwarded t past name s)) stands
  where
    by_mode : (b msi : Bool) (x : InterruptSourceState) → msi ≡ true
        → cond b (with_deed true Forwarded x) x ≡ cond (b && msi) (with_deed msi Forwarded x) x
    by_mode true true x e = refl
    by_mode true false x e = cc
    by_mode false msi x e = refl

-- of genmsi
sent_genmsi : (past : Past) (name : DomainName) → (harts_in (Sent (ByGenMsi name) ∷ past) ≡ harts_in past)
    × (sources_in (Sent (ByGenMsi name) ∷ past) ≡ sources_in past) × (is_on (Sent (ByGenMsi name) ∷ past) name ≡ is_on past name)
    × (delivers_by_msis (Sent (ByGenMsi name) ∷ past) name ≡ delivers_by_msis past name)
    × (genmsi_of (Sent (ByGenMsi name) ∷ past) name ≡ genmsi_of past name) × (genmsi_waits (Sent (ByGenMsi name) ∷ past) name ≡ false)
unfolding newest genmsi_waits
sent_genmsi past Root = (refl, refl, refl, refl, refl, refl)
sent_genmsi past Child = (refl, refl, refl, refl, refl, refl)

pub genmsi_sent-stands : (d e : DomainState) (past : Past) (name : DomainName) → e ≡ record d { genmsi_waits = false } → DomainStands d past name
    → DomainStands e (Sent (ByGenMsi name) ∷ past) name
genmsi_sent-stands d e past name is stands =
    let says = sent_genmsi past name in
    let keeps : Keeps d (record d { genmsi_waits = false }) (Sent (ByGenMsi name)) past name = record {
      leaf = refl;
      harts = refl;
      harts_in = says.0;
      sources_in = says.1;
      on = stands.on ∙ sym says.2;
      msi = stands.msi ∙ sym says.3;
      genmsi = stands.genmsi ∙ sym says.4;
      genmsi_waits = sym says.5;
    } in
    subst (λ (x : DomainState). DomainStands x (Sent (ByGenMsi name) ∷ past) name) (sym is)
    (stands-after (Sent (ByGenMsi name)) d (record d { genmsi_waits = false }) past name (λ s x. x) keeps
    (λ s. sym (option_map_id (slice_get d.sources s))) (λ s low. sym (sent_elsewhere (ByGenMsi name) past name s refl)) stands)
