use Rattle.aia_mrif.proofs.AccessLemmas.{masked_shows}
use Rattle.aia_mrif.proofs.access.shown.Goals as goal

pub returns : goal.returns
returns c =
    masked_shows c.args.ram.now c.args.q c.args.n c.register_at.result c.load.result c.identities.result c.index_of.result c.args.reg
    c.requires.sets c.register_at.ensures c.load.ensures c.index_of.ensures c.identities.ensures c.load.type_inv
