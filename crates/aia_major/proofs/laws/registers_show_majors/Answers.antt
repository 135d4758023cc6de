use Rattle.aia_major.specs.VsMajor.{is_pending}
use Rattle.aia_major.proofs.RegisterLemmas.{majors_word-bit}
use Rattle.aia_major.proofs.laws.registers_show_majors.Goals as goal

pub returns-clause-sip : goal.returns-clause-sip
returns-clause-sip c = λ m signal j. majors_word-bit (is_pending m signal) j

pub returns-clause-sie : goal.returns-clause-sie
returns-clause-sie c = λ m j. majors_word-bit m.enabled j
