use Rattle.std.proofs.Common.{nat_eq, ap, ◌∙◌}
use Rattle.aia_major.specs.VsMajor.{majors_word}
use Rattle.aia_major.proofs.vs_major.fits_hvip.Goals as goal

pub returns : goal.returns
returns c =
    ap (λ n. nat_eq n c.args.v) (c.word.ensures ∙ ap majors_word (λ i j. c.of_word.ensures j i))
