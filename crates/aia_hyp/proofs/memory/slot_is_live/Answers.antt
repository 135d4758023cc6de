use Rattle.std.proofs.Common.{refl}
use Rattle.aia_file.specs.InterruptFile.{InterruptFile, top_of}
use Rattle.aia_file.proofs.TopLemmas.{top_is_some}
use Rattle.aia_fabric_values.specs.World.{World}
use Rattle.aia_fabric_values.specs.SlotAccess.{file_of_slot}
use Rattle.aia_hyp.proofs.memory.slot_is_live.Goals as goal

pub returns-clause-value : goal.returns-clause-value
returns-clause-value c =
    let w : World = c.args.fabric.now in
    let file : InterruptFile = file_of_slot w c.args.slot 0 in
    top_is_some file.n file.pending file.enabled 0 c.slot_top.result (top_of file) refl c.slot_top.ensures.value
