-- What an aim makes of a source, of the domains, and of what may be passed.
use Rattle.std.proofs.Common.{◌≡◌, ◌≢◌, ℕ, ◌<◌, ◌≤◌, Bool, true, false, cond, ◌&&◌, nat_eq, ◌∷◌, inl, inr, refl, sym, ap, ◌∙◌, arith, Option}
use Rattle.std.proofs.lemmas.Bool.{cases_eq, eq-eqb, cond-true}
use Rattle.std.specs.Option.{option_map_or}
use Rattle.aia_source.specs.Wired.{is_active}
use Rattle.aia_domain.specs.InterruptSource.{InterruptSourceState, EachSource, changed_at, with_target, is_active_at}
use Rattle.aia_domain.specs.Domain.{DomainState, with_sources}
use Rattle.aia_model.specs.declared.domain_name.DomainName.{DomainName}
use Rattle.aia_model.specs.declared.domain_name.DomainName.TheVariants.{Root, Child}
use Rattle.aia_model.specs.Act.{Past, newest}
use Rattle.aia_model.specs.Act.Act.{Aimed}
use Rattle.aia_model.specs.AddressOf.{addresses_of, are_for_guests}
use Rattle.aia_model.specs.SourceOf.{harts_in, sources_in, is_source, wire_of, is_active_in, delivers_by_msis, target, genmsi_waits}
use Rattle.aia_aplic_values.specs.Side.{source_of, control, DomainStands, SideState, SideStands}
use Rattle.aia_aplic_values.specs.Aplic.{AplicState, AplicStands}
use Rattle.aia_aplic_values.specs.Passing.{is_passable_source, is_passable_in}
use Rattle.aia_aplic_values.proofs.Steps.{source-step, source-idle, step-nothing, aimed_if}
use Rattle.aia_aplic_values.proofs.Standing.{IsQuiet, keeps_quiet, stands-after, still-stands}
use Rattle.aia_aplic_values.proofs.Reading.{place, mode-zero, there, not_there, zero_not}
use Rattle.aia_aplic_values.proofs.ControlSteps.{controls-still}
use Rattle.aia_aplic_values.proofs.AddressSteps.{addresses_aimed}

-- ---- a source

aimed_child : (t v : ℕ) (past : Past) (s : ℕ) → source_of (Aimed t v ∷ past) Child s ≡ changed_at t (with_target v) s (source_of past Child s)
unfolding newest wire_of
aimed_child t v past s = source-step (Aimed t v) past Child s
    ∙ aimed_if (nat_eq t s) (delivers_by_msis past Child) v (source_of past Child s) (source-idle past Child s)

aimed_root : (t v : ℕ) (past : Past) (s : ℕ) → source_of (Aimed t v ∷ past) Root s ≡ source_of past Root s
unfolding newest wire_of
aimed_root t v past s = source-step (Aimed t v) past Root s
    ∙ step-nothing (delivers_by_msis past Root) (source_of past Root s) (source-idle past Root s)

-- the target of an active one is what it is given
pub aim_targets : (past : Past) (s v : ℕ) → is_active_in past Child s ≡ true → target (Aimed s v ∷ past) Child s ≡ v
aim_targets past s v on =
    ap (λ (x : InterruptSourceState). x.target) (aimed_child s v past s)
    ∙ ap (λ b. (cond b (with_target v (source_of past Child s)) (source_of past Child s)).target) (eq-eqb s s refl)
    ∙ cond-true _ _ _ on

-- ---- the domains

aimed_control : (t v : ℕ) (past : Past) (d : DomainName) (h : ℕ) → control (Aimed t v ∷ past) d h ≡ control past d h
unfolding newest
aimed_control t v past d h = refl

aimed_harts : (t v : ℕ) (past : Past) → harts_in (Aimed t v ∷ past) ≡ harts_in past
unfolding newest
aimed_harts t v past = refl

quiet_aimed : (t v : ℕ) (past : Past) (name : DomainName) → IsQuiet (Aimed t v) past name
unfolding newest genmsi_waits
quiet_aimed t v past name = (refl, refl, refl, refl, refl, refl)

pub child-aimed : (t v : ℕ) (a : SideState) (e : DomainState) (past : Past) → EachSource a.domain.sources e.sources (changed_at t (with_target v))
    → e ≡ with_sources a.domain e.sources
    → SideStands a past Child → SideStands (record { domain = e; controls = a.controls }) (Aimed t v ∷ past) Child
child-aimed t v a e past each rest stands = record {
  domain = stands-after (Aimed t v) a.domain e past Child (changed_at t (with_target v))
      (keeps_quiet (Aimed t v) a.domain e past Child (quiet_aimed t v past Child) rest stands.domain) each (λ s low. sym (aimed_child t v past s))
      stands.domain;
  controls = controls-still (Aimed t v) a.controls past Child (aimed_harts t v past) (λ h low. aimed_control t v past Child h) stands.controls;
}

root-aimed : (t v : ℕ) (a : SideState) (past : Past) → SideStands a past Root → SideStands a (Aimed t v ∷ past) Root
root-aimed t v a past stands = record {
  domain = still-stands (Aimed t v) a.domain past Root
      (keeps_quiet (Aimed t v) a.domain a.domain past Root (quiet_aimed t v past Root) refl stands.domain) (λ s low. aimed_root t v past s)
      stands.domain;
  controls = controls-still (Aimed t v) a.controls past Root (aimed_harts t v past) (λ h low. aimed_control t v past Root h) stands.controls;
}

pub aplic-aimed : (t v : ℕ) (a : AplicState) (new : SideState) (past : Past)
    → (SideStands a.child past Child → SideStands new (Aimed t v ∷ past) Child) → AplicStands a past
    → AplicStands (record { root = a.root; child = new; addresses = a.addresses }) (Aimed t v ∷ past)
aplic-aimed t v a new past aims stands = record {
  root = root-aimed t v a.root past stands.root;
  child = aims stands.child;
  addresses = stands.addresses ∙ sym (addresses_aimed t v past);
}

-- ---- what may be passed

active-stands : (d : DomainState) (past : Past) (name : DomainName) (s : ℕ) → DomainStands d past name
    → is_active_at d.sources s ≡ (is_source past s && is_active_in past name s)
active-stands d past name s stands = elim (place d past name s stands) [
  | inl p ↦ ap (λ (o : Option InterruptSourceState). option_map_or (λ (x : InterruptSourceState). is_active x.source.mode) o false) p.1
      ∙ elim (cases_eq s 0) [
        | inl e ↦ ap (is_active_in past name) e ∙ mode-zero past name
            ∙ sym (ap (λ (b : Bool). b && is_active_in past name s) (zero_not (sources_in past) s e))
        | inr ne ↦ sym (ap (λ (b : Bool). b && is_active_in past name s) (there (sources_in past) s p.0 ne))
      ]
  | inr p ↦ ap (λ (o : Option InterruptSourceState). option_map_or (λ (x : InterruptSourceState). is_active x.source.mode) o false) p.1
      ∙ sym (ap (λ (b : Bool). b && is_active_in past name s) (not_there (sources_in past) s p.0))
]

and_grouped : (a b c d : Bool) → (a && b && c && d) ≡ (a && (b && c && d))
and_grouped true b c d = refl
and_grouped false b c d = refl

pub passable-stands : (a : AplicState) (past : Past) (s : ℕ) → AplicStands a past → is_passable_in a s ≡ is_passable_source past s
passable-stands a past s stands =
    ap (λ b. b && a.child.domain.msi && are_for_guests a.addresses) (active-stands a.child.domain past Child s stands.child.domain)
    ∙ ap (λ m. is_source past s && is_active_in past Child s && m && are_for_guests a.addresses) stands.child.domain.msi
    ∙ ap (λ r. is_source past s && is_active_in past Child s && delivers_by_msis past Child && are_for_guests r) stands.addresses
    ∙ and_grouped (is_source past s) (is_active_in past Child s) (delivers_by_msis past Child) (are_for_guests (addresses_of past))
