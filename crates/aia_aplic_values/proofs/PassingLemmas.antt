-- What an aim makes of what an APLIC keeps, and how that is what the past says.
use Rattle.std.proofs.Common.{◌≡◌, ◌≢◌, ℕ, suc, ◌≤◌, Bool, true, false, cond, ◌&&◌, nat_eq, inl, inr, refl, sym, ap, ◌∙◌, arith, Option, Some, None, option_map}
use Rattle.std.proofs.lemmas.Bool.{eq-eqb, ne_eqb, cond-true, false≢true, and_parts}
use Rattle.std.specs.Option.{option_map_or}
use Rattle.std.specs.Int.{is_in_range}
use Rattle.std.proofs.lemmas.Bool.Decides.{nat_tests}
use Rattle.aia_source.specs.Wired.{is_active}
use Rattle.aia_domain.specs.InterruptSource.{InterruptSourceState, EachSource, changed_at, with_target, is_active_at}
use Rattle.aia_domain.specs.Domain.{DomainState, with_sources}
use Rattle.aia_model.specs.declared.domain_name.DomainName.TheVariants.{Child}
use Rattle.aia_model.specs.Act.{Past}
use Rattle.aia_model.specs.AddressOf.{are_for_guests}
use Rattle.aia_model.specs.SourceOf.{harts_in, sources_in, is_source, target}
use Rattle.aia_aplic_values.specs.Side.{SideState}
use Rattle.aia_aplic_values.specs.Aplic.{AplicState, AplicStands}
use Rattle.aia_aplic_values.specs.Passing.{hart_count, target_in, is_passable_in, AimsIn}
use Rattle.aia_aplic_values.proofs.Reading.{place}

-- ---- one source

mode_stays : (b : Bool) (v : ℕ) (x : InterruptSourceState) → is_active (cond b (with_target v x) x).source.mode ≡ is_active x.source.mode
mode_stays true v x = refl
mode_stays false v x = refl

active_stays : (t v s : ℕ) (o : Option InterruptSourceState)
    → option_map_or (λ (x : InterruptSourceState). is_active x.source.mode) (option_map (changed_at t (with_target v) s) o) false ≡ option_map_or
    (λ (x : InterruptSourceState). is_active x.source.mode) o false
active_stays t v s None = refl
active_stays t v s (Some x) = mode_stays (nat_eq t s) v x

target_given : (t v : ℕ) (o : Option InterruptSourceState) → option_map_or (λ (x : InterruptSourceState). is_active x.source.mode) o false ≡ true
    → option_map_or (λ (x : InterruptSourceState). x.target) (option_map (changed_at t (with_target v) t) o) 0 ≡ v
target_given t v None on = absurd (false≢true on)
target_given t v (Some x) on = ap (λ b. (cond b (with_target v x) x).target) (eq-eqb t t refl) ∙ cond-true _ _ _ on

target_stays : (t v s : ℕ) → s ≢ t → (o : Option InterruptSourceState)
    → option_map_or (λ (x : InterruptSourceState). x.target) (option_map (changed_at t (with_target v) s) o) 0 ≡ option_map_or
    (λ (x : InterruptSourceState). x.target) o 0
target_stays t v s other None = refl
target_stays t v s other (Some x) = ap (λ b. (cond b (with_target v x) x).target) (ne_eqb t s (λ e. other (sym e)))

-- ---- an APLIC

-- an aim of one that may be passed
pub aimed-aims : (t v : ℕ) (a : AplicState) (new : SideState)
    → EachSource a.child.domain.sources new.domain.sources (changed_at t (with_target v))
    → new.domain ≡ with_sources a.child.domain new.domain.sources
    → is_passable_in a t ≡ true → AimsIn a t v (record { root = a.root; child = new; addresses = a.addresses })
aimed-aims t v a new each rest is = record {
  harts = ap (λ (d : DomainState). d.harts) rest;
  passable = λ s.
      ap (λ (m : Bool). is_active_at new.domain.sources s && m && are_for_guests a.addresses) (ap (λ (d : DomainState). d.msi) rest)
      ∙ ap (λ (b : Bool). b && a.child.domain.msi && are_for_guests a.addresses)
      (ap (λ (o : Option InterruptSourceState). option_map_or (λ (x : InterruptSourceState). is_active x.source.mode) o false) (each s)
      ∙ active_stays t v s _);
  aimed = λ passable. ap (λ (o : Option InterruptSourceState). option_map_or (λ (x : InterruptSourceState). x.target) o 0) (each t)
      ∙ target_given t v _ (and_parts _ a.child.domain.msi (and_parts _ (are_for_guests a.addresses) is).0).0;
  stays = λ unready. absurd (false≢true (sym unready ∙ is));
  others = λ s other. ap (λ (o : Option InterruptSourceState). option_map_or (λ (x : InterruptSourceState). x.target) o 0) (each s)
      ∙ target_stays t v s other _;
}

-- ---- the past

pub harts-stand : (a : AplicState) (past : Past) → AplicStands a past → hart_count a ≡ harts_in past
harts-stand a past stands = stands.child.domain.harts

low_source : (n s : ℕ) → is_in_range 1 n s ≡ true → suc n ≤ s → true ≡ false
low_source n s there past = grind (arith, nat_tests)

pub target_in-stands : (a : AplicState) (past : Past) (s : ℕ) → AplicStands a past → is_source past s ≡ true → target_in a s ≡ target past Child s
target_in-stands a past s stands there = elim (place a.child.domain past Child s stands.child.domain) [
  | inl p ↦ ap (λ (o : Option InterruptSourceState). option_map_or (λ (x : InterruptSourceState). x.target) o 0) p.1
  | inr p ↦ absurd (false≢true (sym (low_source (sources_in past) s there p.0)))
]
