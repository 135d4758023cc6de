use Rattle.aia_mrif.proofs.AccessLemmas.{put_writes, put_keeps}
use Rattle.aia_mrif.proofs.slot.SlotMut.write_reg.Goals as goal

pub returns-clause-after : goal.returns-clause-after
returns-clause-after c =
    put_writes c.args.self.now.ram.now c.args.self.now.q c.args.n c.register_at-at.result c.load-word.result c.identities-mask.result
    c.index_of.result c.args.reg c.requires.sets c.register_at-at.ensures c.load-word.ensures c.index_of.ensures c.identities-mask.ensures
    c.store.new.self c.args.v c.merged.result c.args.self.now.there c.merged.ensures c.store.ensures

pub returns-clause-rest : goal.returns-clause-rest
returns-clause-rest c =
    put_keeps c.args.self.now.ram.now c.args.self.now.q c.args.n c.register_at-at.result c.load-word.result c.identities-mask.result
    c.index_of.result c.args.reg c.requires.sets c.register_at-at.ensures c.load-word.ensures c.index_of.ensures c.identities-mask.ensures
    c.store.new.self c.args.v c.merged.result c.args.self.now.there c.merged.ensures c.store.ensures
