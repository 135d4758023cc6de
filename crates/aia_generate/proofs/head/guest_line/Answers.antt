use Rattle.std.proofs.Common.{◌<◌, ◌∙◌, arith}
use Rattle.aia_model.specs.declared.line.Line.TheVariants.{GuestCsr}
use Rattle.aia_generate.proofs.HeadLemmas.{past_arrival}
use Rattle.aia_generate.proofs.head.guest_line.Goals as goal

pub returns : goal.returns
returns c =
    let past : 0 < c.args.place = omega arith in
    past_arrival c.args.vm c.args.vcpu c.args.place past
    ∙ c.ready_access-csr.ensures (GuestCsr c.args.vm c.args.vcpu)
