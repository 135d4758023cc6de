use Rattle.std.proofs.Common.{◌&&◌, is_some, Option, sym, ap, ◌∙◌}
use Rattle.aia_move_values.specs.declared.who.KeptNumbers.{KeptNumbers}
use Rattle.aia_csr.specs.CsrAccess.{is_file_csr}
use Rattle.aia_hyp_values.specs.Core.{VcpuRecord}
use Rattle.aia_hyp_values.specs.Core.{entered_at}
use Rattle.aia_hyp_values.proofs.GuestAccesses.{guest_away}
use Rattle.aia_hyp.proofs.hypervisor_core.Core.away_access.Goals as goal

pub returns-in_default : goal.returns-in_default
returns-in_default c = guest_away c.args.self.now c.args.found.vm c.args.found.vcpu c.args.csr c.args.op c.requires.found.there c.requires.away
    (ap (λ (o : Option KeptNumbers). is_some o && is_file_csr c.args.csr)
    (sym (c.entered.ensures ∙ ap (λ (r : VcpuRecord). entered_at r.stay) c.record_of.ensures) ∙ c.in-Some.is) ∙ sym c.is_file_csr.ensures
    ∙ c.if-is_file_csr.false)

pub returns-in_default-2 : goal.returns-in_default-2
returns-in_default-2 c = guest_away c.args.self.now c.args.found.vm c.args.found.vcpu c.args.csr c.args.op c.requires.found.there c.requires.away
    (ap (λ (o : Option KeptNumbers). is_some o && is_file_csr c.args.csr)
    (sym (c.entered.ensures ∙ ap (λ (r : VcpuRecord). entered_at r.stay) c.record_of.ensures) ∙ c.in_default.is))
