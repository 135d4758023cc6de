use Rattle.std.proofs.Common.{ap, ◌∙◌}
use Rattle.aia_major.specs.VsMajor.{majors_word}
use Rattle.aia_major.proofs.vs_major.VsMajor.sip.Goals as goal

pub returns : goal.returns
returns c = c.word.ensures ∙ ap majors_word c.pending.ensures
