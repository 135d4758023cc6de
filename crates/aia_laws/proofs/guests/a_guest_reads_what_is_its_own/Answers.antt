use Rattle.std.proofs.Common.{None}
use Rattle.aia_model.specs.declared.line.Line.TheVariants.{GuestCsr}
use Rattle.aia_model.proofs.AnswerLemmas.{answered}
use Rattle.aia_laws.proofs.guests.a_guest_reads_what_is_its_own.Goals as goal

pub returns : goal.returns
returns c = λ h g csr op e. answered h (GuestCsr g.vm g.vcpu csr op) None e
