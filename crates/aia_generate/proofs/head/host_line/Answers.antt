use Rattle.aia_model.specs.declared.line.Line.TheVariants.{HostCsr}
use Rattle.aia_generate.proofs.head.host_line.Goals as goal

pub returns : goal.returns
returns c = c.ready_access-csr.ensures (HostCsr c.args.hart)
