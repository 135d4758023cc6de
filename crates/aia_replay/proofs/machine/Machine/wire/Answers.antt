use Rattle.std.proofs.Common.{refl, sym, ◌∙◌}
use Rattle.aia_replay.proofs.MachineLemmas.{no_wire, wire_driven}
use Rattle.aia_replay.proofs.machine.Machine.wire.Goals as goal

pub returns-then-not-has_source : goal.returns-then-not-has_source
returns-then-not-has_source c = no_wire c.args.self.now c.args.source c.args.level
    (λ past stands. sym (c.has_source.ensures.there past stands) ∙ c.if-not-has_source.true)

pub returns : goal.returns
returns c = wire_driven c.args.self.now _ c.args.source c.args.level refl
    (λ past stands. sym (c.has_source.ensures.there past stands) ∙ c.if-not-has_source.false) c.wire.ensures
