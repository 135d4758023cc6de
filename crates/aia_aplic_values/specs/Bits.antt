-- Which of two sets of sources has the least one. Vocabulary.
use Rattle.std.specs.Prelude.{◌≡◌, ℕ, ◌<◌, ◌≤◌, Bool, true, false, Option, Some, None}
use Rattle.aia_regs.specs.declared.limits.TheConstants.{SOURCES}
use Rattle.aia_model.specs.declared.domain_name.DomainName.{DomainName}
use Rattle.aia_model.specs.declared.domain_name.DomainName.TheVariants.{Root, Child}
use Rattle.aia_model.specs.declared.sender.Sender.{Sender}
use Rattle.aia_model.specs.declared.sender.Sender.TheVariants.{BySource}

-- A domain and a number are those of the least source of two sets, p that of the root domain and q
-- that of its child; at the same number the root domain's; or both sets are empty.
abbrev pub IsFirstSource : (ℕ → Bool) → (ℕ → Bool) → Option (DomainName × ℕ) → Type 0
IsFirstSource p q None = ((s : ℕ) → p s ≡ false) × ((s : ℕ) → q s ≡ false)
IsFirstSource p q (Some (Root, s)) =
    (p s ≡ true) × ((t : ℕ) → t < s → p t ≡ false) × ((t : ℕ) → t < s → q t ≡ false)
IsFirstSource p q (Some (Child, s)) =
    (q s ≡ true) × ((t : ℕ) → t ≤ s → p t ≡ false) × ((t : ℕ) → t < s → q t ≡ false)

-- Each member of a set is the number of a source that may be there.
abbrev pub AreSources : (ℕ → Bool) → Type 0
AreSources members = (s : ℕ) → members s ≡ true → s ≤ SOURCES

-- The sender of a domain's source.
abbrev pub source_sender : DomainName × ℕ → Sender
source_sender found = BySource found.0 found.1
