use Rattle.std.proofs.Common.{ap}
use Rattle.aia_model.specs.Image.{GuestState, part_of}
use Rattle.aia_laws.proofs.ImageLemmas.{images_same}
use Rattle.aia_laws.proofs.LoadLemmas.{same_reads}
use Rattle.aia_laws.proofs.images.images_tell_states.Goals as goal

pub returns-clause-tell : goal.returns-clause-tell
returns-clause-tell c = images_same

pub returns-clause-told : goal.returns-clause-told
returns-clause-told c = λ x y e k low. ap (λ (s : GuestState). part_of s k) e

pub returns-clause-read : goal.returns-clause-read
returns-clause-read c = same_reads
