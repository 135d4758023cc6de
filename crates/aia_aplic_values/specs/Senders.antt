-- The order in which senders send. Vocabulary.
use Rattle.std.specs.Prelude.{◌≡◌, ◌<◌, ◌⊎◌}
use Rattle.aia_model.specs.declared.sender.Sender.{Sender}
use Rattle.aia_model.specs.declared.domain_name.DomainName.TheVariants.{Root, Child}
use Rattle.aia_model.specs.declared.sender.Sender.TheVariants.{ByGenMsi, BySource}

-- One sends before another: genmsi before the sources, a source before those with greater numbers,
-- and the root domain before its child. Profile.
abbrev pub SendsBefore : Sender → Sender → Type 0
SendsBefore (ByGenMsi Root) (ByGenMsi Child) = Unit {0}
SendsBefore (ByGenMsi d) (ByGenMsi e) = ⊥
SendsBefore (ByGenMsi d) (BySource e t) = Unit {0}
SendsBefore (BySource d s) (ByGenMsi e) = ⊥
SendsBefore (BySource Root s) (BySource Child t) = (s < t) ⊎ (s ≡ t)
SendsBefore (BySource d s) (BySource e t) = s < t
