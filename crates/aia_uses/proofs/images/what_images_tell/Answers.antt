use Rattle.aia_uses.proofs.ImageFacts.{same_parts}
use Rattle.aia_uses.proofs.images.what_images_tell.Goals as goal

pub returns-clause-tell : goal.returns-clause-tell
returns-clause-tell c = λ x y one other same. c.images_tell_states.ensures.tell x y one other same

pub returns-clause-told : goal.returns-clause-told
returns-clause-told c = λ x y k e low. c.images_tell_states.ensures.told x y e k low

pub returns-clause-read : goal.returns-clause-read
returns-clause-read c = λ h other g x csr select file majors.
    c.images_tell_states.ensures.read h other g x csr (same_parts h other g x select file majors)
