-- What it is to be on top for a hart, said of the set of sources. Vocabulary.
use Rattle.std.specs.Prelude.{◌≡◌, ℕ, ◌≤◌, true, false}
use Rattle.aia_regs.specs.Top.{Pair, ComesFirst, priority_of}
use Rattle.aia_model.specs.declared.domain_name.DomainName.{DomainName}
use Rattle.aia_model.specs.Act.{Past}
use Rattle.aia_model.specs.SourceOf.{sources_in, target, pending, delivers_by_msis, is_for}

-- A pair is that of a pending source that is the hart's, in a domain that delivers directly, and
-- comes before the pair of each such source: by priority, then by number.
-- AIA 1.0, APLIC, "Interrupt delivery directly by the APLIC".
pub record IsOnTop (past : Past) (d : DomainName) (hart : ℕ) (p : Pair) : Type 0 where
  pub direct : delivers_by_msis past d ≡ false
  pub some : 1 ≤ p.1
  pub within : p.1 ≤ sources_in past
  pub waits : pending past d p.1 ≡ true
  pub here : is_for past d hart p.1 ≡ true
  pub priority : p.0 ≡ priority_of (target past d p.1)
  pub least : (s : ℕ) → 1 ≤ s → s ≤ sources_in past → pending past d s ≡ true
      → is_for past d hart s ≡ true → ComesFirst p (priority_of (target past d s), s)
