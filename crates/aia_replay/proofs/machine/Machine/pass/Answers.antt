use Rattle.std.proofs.Common.{sym, ◌∙◌}
use Rattle.aia_replay.proofs.AimLemmas.{pass_taken_by, same_harts_there, tells_of, may_pass}
use Rattle.aia_replay.proofs.MachineLemmas.{no_pass_of}
use Rattle.aia_replay.proofs.machine.Machine.pass.Goals as goal

pub returns-then-not-has_source : goal.returns-then-not-has_source
returns-then-not-has_source c = no_pass_of c.args.self.now c.args.source c.args.vm c.args.vcpu c.args.identity
    (λ past stands. sym (c.has_source.ensures.there past stands) ∙ c.if-not-has_source.true)

pub pass-requires-clause-harts : goal.pass-requires-clause-harts
pass-requires-clause-harts c = same_harts_there c.args.self.now c.requires

pub pass-requires-clause-may : goal.pass-requires-clause-may
pass-requires-clause-may c = may_pass c.args.self.now c.args.source
    (λ past stands. sym (c.has_source.ensures.there past stands) ∙ c.if-not-has_source.false) c.requires

pub returns : goal.returns
returns c =
    rw c.okay.ensures
    (pass_taken_by c.args.self.now _ c.args.source c.args.vm c.args.vcpu c.args.identity _
    (λ h stands. tells_of c.args.self.now h c.args.source
    (λ past there. sym (c.has_source.ensures.there past there) ∙ c.if-not-has_source.false) stands) c.pass.ensures.takes c.pass.ensures.aims)
