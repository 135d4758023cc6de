-- What a level of a wire makes of a source.
use Rattle.std.proofs.Common.{◌≡◌, ℕ, Bool, true, false, cond, nat_eq, ◌∷◌, None, ◌∙◌}
use Rattle.aia_regs.specs.BitUpdate.BitUpdate.{Nothing}
use Rattle.aia_source.specs.Wired.{done, is_active}
use Rattle.aia_source.specs.Wired.SourceDeed.{LevelGiven, Untouched}
use Rattle.aia_domain.specs.InterruptSource.{InterruptSourceState, wired, changed_at}
use Rattle.aia_model.specs.declared.domain_name.DomainName.{DomainName}
use Rattle.aia_model.specs.Act.{Past, newest}
use Rattle.aia_model.specs.declared.domain_name.DomainName.TheVariants.{Root, Child}
use Rattle.aia_model.specs.Act.Act.{Driven}
use Rattle.aia_model.specs.SourceOf.{wire_of, delivers_by_msis}
use Rattle.aia_aplic_values.specs.Side.{source_of}
use Rattle.aia_aplic_values.proofs.Steps.{stepped, source-step, source-idle, IsIdle, step-nothing, same_enable, same_target}

step-driven : (msi level : Bool) (x : InterruptSourceState) → IsIdle x
    → stepped x.source.mode level msi msi x.delegated None Nothing LevelGiven x ≡ wired msi level x
step-driven msi level x idle = λ i. record {
  source = done msi LevelGiven x.source.mode level x.source;
  enabled = same_enable (is_active x.source.mode) x.enabled idle.enabled i;
  target = same_target (is_active x.source.mode) msi x.target idle.target i;
  delegated = x.delegated;
}

moved : (b msi level : Bool) (x : InterruptSourceState) → IsIdle x
    → stepped x.source.mode (cond b level x.source.wire) msi msi x.delegated None Nothing (cond b LevelGiven Untouched) x ≡ cond b
    (wired msi level x) x
moved true msi level x idle = step-driven msi level x idle
moved false msi level x idle = step-nothing msi x idle

pub driven : (t : ℕ) (level : Bool) (past : Past) (d : DomainName) (s : ℕ)
    → source_of (Driven t level ∷ past) d s ≡ changed_at t (wired (delivers_by_msis past d) level) s (source_of past d s)
unfolding newest wire_of
driven t level past Root s = source-step (Driven t level) past Root s
    ∙ moved (nat_eq t s) (delivers_by_msis past Root) level (source_of past Root s) (source-idle past Root s)
driven t level past Child s = source-step (Driven t level) past Child s
    ∙ moved (nat_eq t s) (delivers_by_msis past Child) level (source_of past Child s) (source-idle past Child s)
