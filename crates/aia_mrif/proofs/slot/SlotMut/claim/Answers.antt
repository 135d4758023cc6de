use Rattle.std.proofs.Common.{◌%◌}
use Rattle.aia_mrif.proofs.ClaimLemmas.{top_here, claim_done, claim_keeps}
use Rattle.aia_mrif.proofs.slot.SlotMut.claim.Goals as goal

pub clear-requires : goal.clear-requires
clear-requires c = (top_here c.args.self.now.ram.now c.args.self.now.q c.args.n c.args.threshold c.top-top.result c.requires c.top-top.ensures
    c.if-top-ne0.true).2

pub returns-then-top-ne0-clause-after : goal.returns-then-top-ne0-clause-after
returns-then-top-ne0-clause-after c =
    let here = top_here c.args.self.now.ram.now c.args.self.now.q c.args.n c.args.threshold c.top-top.result c.requires c.top-top.ensures
    c.if-top-ne0.true in
    rw (c.clear.ensures.words, c.clear.ensures.same_slot)
    (claim_done c.args.self.now.ram.now c.args.self.now.q (c.top-top.result % 65536) c.args.self.now.there here.2 c.args.n
    c.args.threshold here.0)

pub returns-then-top-ne0-clause-rest : goal.returns-then-top-ne0-clause-rest
returns-then-top-ne0-clause-rest c =
    let here = top_here c.args.self.now.ram.now c.args.self.now.q c.args.n c.args.threshold c.top-top.result c.requires c.top-top.ensures
    c.if-top-ne0.true in
    rw (c.clear.ensures.words) (claim_keeps c.args.self.now.ram.now c.args.self.now.q (c.top-top.result % 65536) c.args.self.now.there here.2
    c.args.n here.1)
