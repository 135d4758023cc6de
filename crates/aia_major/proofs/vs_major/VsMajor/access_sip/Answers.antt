-- To write the number that the instruction writes is to do its access.
use Rattle.std.proofs.Common.{rules, ap, ◌∙◌}
use Rattle.aia_regs.specs.Operations.{FitsOp, written}
use Rattle.aia_major.specs.Kept.{majors_shown, sip_written}
use Rattle.aia_major.proofs.RegisterLemmas.{sip_access}
use Rattle.aia_major.proofs.vs_major.VsMajor.access_sip.Goals as goal

pub returns-clause-after : goal.returns-clause-after
returns-clause-after c =
    let fits : FitsOp c.args.op = search rules in
    c.write_sip.ensures ∙ ap (λ v. sip_written v (majors_shown c.args.self.now)) (c.written.ensures ∙ ap (written c.args.op) c.sip-before.ensures)
    ∙ sip_access c.args.op (majors_shown c.args.self.now) c.args.signal fits
