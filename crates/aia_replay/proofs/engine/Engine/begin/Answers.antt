use Rattle.std.proofs.Common.{refl, sym, ap, is_some, Option, ◌∙◌}
use Rattle.aia_replay.specs.declared.machine.Machine.{Machine}
use Rattle.aia_replay.proofs.EngineLemmas.{refused_first, size_refused, machine_made, made_stands_for_some}
use Rattle.aia_replay.proofs.engine.Engine.begin.Goals as goal

pub returns-in_default-clause-serves : goal.returns-in_default-clause-serves
returns-in_default-clause-serves c = refused_first c.args.self.now _ _ _ c.requires c.requires
    (size_refused c.args.harts c.args.guests c.args.n c.args.sources
    (sym c.in_ok-machine.ensures.size ∙ ap (λ (o : Option Machine). is_some o) c.in_default.is))

pub returns-clause-serves : goal.returns-clause-serves
returns-clause-serves c =
    let fresh = rw c.in-Some.is at c.in_ok-machine.ensures.new in
    rw c.insert.ensures.value (machine_made c.args.self.now _ c.in-Some.machine c.args.harts c.args.guests c.args.n c.args.sources
    c.requires refl (sym c.in_ok-machine.ensures.size ∙ ap (λ (o : Option Machine). is_some o) c.in-Some.is) fresh)

pub invariant_of-self : goal.invariant_of-self
invariant_of-self c =
    let fresh = rw c.in-Some.is at c.in_ok-machine.ensures.new in
    rw c.insert.ensures.value (made_stands_for_some c.in-Some.machine c.args.harts c.args.guests c.args.n c.args.sources
    (sym c.in_ok-machine.ensures.size ∙ ap (λ (o : Option Machine). is_some o) c.in-Some.is) fresh)
