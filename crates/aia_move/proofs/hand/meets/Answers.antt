use Rattle.aia_vcpu_places.proofs.LookLemmas.{meets-and}
use Rattle.aia_move.proofs.hand.meets.Goals as goal

pub returns : goal.returns
returns c = meets-and c.args.p c.args.e c.ranges.p.fits
