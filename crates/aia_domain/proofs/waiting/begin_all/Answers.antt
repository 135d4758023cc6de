use Rattle.std.proofs.Common.{Bool, ◌-◌, length, sym, subst}
use Rattle.aia_domain.specs.InterruptSource.{pairs_for}
use Rattle.aia_domain.specs.Waiting.{AllHave}
use Rattle.aia_domain.proofs.WaitingLemmas.{cleared_have}
use Rattle.aia_domain.proofs.waiting.begin_all.Goals as goal

pub put_all-requires-clause-empty : goal.put_all-requires-clause-empty
put_all-requires-clause-empty c = cleared_have (length c.args.sources.now - 1) c.args.fronts.now c.clear_all.new.fronts c.requires.room
    c.clear_all.ensures

pub returns-then-msi-clause-lists : goal.returns-then-msi-clause-lists
returns-then-msi-clause-lists c =
    subst (λ (m : Bool). AllHave (pairs_for m c.args.sources.now) (length c.args.sources.now - 1) c.clear_all.new.fronts) (sym c.if-msi.true)
    (cleared_have (length c.args.sources.now - 1) c.args.fronts.now c.clear_all.new.fronts c.requires.room c.clear_all.ensures)
