use Rattle.std.proofs.Common.{◌≡◌, ◌+◌}
use Rattle.aia_file.specs.Mrif.{mrif_in}
use Rattle.aia_file.specs.SlotFile.{slot_file}
use Rattle.aia_mrif.proofs.SummaryLemmas.{SummarizesFirst}
use Rattle.aia_mrif.proofs.view.summary.Given as goal

abbrev pub invariant-loop-k : goal.invariant-loop-k
invariant-loop-k g l =
    SummarizesFirst l.k l.summary (slot_file l.fn.n 0 (mrif_in l.fn.ram l.fn.q)).pending (slot_file l.fn.n 0 (mrif_in l.fn.ram l.fn.q)).enabled
    × (l.steps ≡ l.fn.steps + l.k)
