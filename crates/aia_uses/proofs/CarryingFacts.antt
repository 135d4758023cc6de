-- What was said to a virtual hart at a worked history, and what later events say.
use Rattle.std.proofs.Common.{◌≡◌, true, [], refl}
use Rattle.aia_word.specs.Sets.{word_of, least_of}
use Rattle.aia_word.specs.Packed.{packed, ones}
use Rattle.aia_vcpu.specs.Vms.{Vcpu, vcpu_of}
use Rattle.aia_model.specs.Event.{History, has_machine}
use Rattle.aia_model.specs.FileAfter.{select_by, file_by}
use Rattle.aia_model.specs.MajorOf.{majors_of}
use Rattle.aia_model.specs.HomeOf.{home}
use Rattle.aia_model.specs.Flight.{flight}
use Rattle.aia_model.specs.Passes.{passes_of}
use Rattle.aia_model.specs.Histories.{IsHistory}
use Rattle.aia_isolation.specs.Images.{said_after, HeardNothing}
use Rattle.aia_uses.specs.Worked.{made}

pub made_happens : IsHistory made
unfolding word_of least_of packed ones select_by file_by majors_of home flight passes_of
made_happens = (refl, (refl, tt))

pub made_stands : has_machine made ≡ true
made_stands = refl

pub none_heard : HeardNothing made (vcpu_of 0 0)
none_heard = (refl, (refl, tt))

pub none_since : (h : History) (g : Vcpu) → said_after h [] g ≡ []
unfolding said_after
none_since h g = refl
