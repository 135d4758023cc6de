use Rattle.std.proofs.Common.{[]}
use Rattle.aia_uses.proofs.CarryingFacts.{none_since}
use Rattle.aia_uses.proofs.carrying.what_one_save_gives.Goals as goal

pub returns-clause-parts : goal.returns-clause-parts
returns-clause-parts c = λ h since g k quiet ok. c.the_parts_of_one_save_are_of_one_image.ensures.parts h since g.vm g.vcpu k quiet ok

pub returns-clause-at_once : goal.returns-clause-at_once
returns-clause-at_once c = λ h g k ok. c.the_parts_of_one_save_are_of_one_image.ensures.parts h [] g.vm g.vcpu k (none_since h g) ok

pub returns-clause-silent : goal.returns-clause-silent
returns-clause-silent c = λ h x g k. c.the_parts_of_one_save_are_of_one_image.ensures.silent h x.vm x.vcpu k g
