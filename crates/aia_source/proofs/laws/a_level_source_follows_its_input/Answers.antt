use Rattle.aia_source.proofs.SourceLemmas.{level_follows, level_stays}
use Rattle.aia_source.proofs.laws.a_level_source_follows_its_input.Goals as goal

pub returns-clause-wired : goal.returns-clause-wired
returns-clause-wired c = λ s wire lawful level. level_follows s.mode s.wire wire s.pending lawful level

pub returns-clause-stays : goal.returns-clause-stays
returns-clause-stays c = λ s deed other lawful level. level_stays s.mode s.wire s.pending deed other lawful level
