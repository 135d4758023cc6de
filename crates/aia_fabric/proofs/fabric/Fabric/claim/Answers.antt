use Rattle.std.proofs.Common.{ap, ◌∙◌}
use Rattle.aia_file.specs.FileState.{FileState}
use Rattle.aia_fabric_values.proofs.WrittenWhole.{file_whole}
use Rattle.aia_fabric.proofs.fabric.Fabric.claim.Goals as goal

pub invariant_of-self : goal.invariant_of-self
invariant_of-self c =
    file_whole _ c.args.spot c.claim.new.self c.self.invariant c.file_mut.ensures.within
    (c.claim.ensures.after.n ∙ ap (λ (f : FileState). f.n) c.file_mut.ensures.value)
