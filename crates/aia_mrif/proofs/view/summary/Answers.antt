use Rattle.std.proofs.Common.{◌≡◌, ◌+◌, ◌/◌, ◌<◌, subst, arith}
use Rattle.aia_file.specs.Mrif.{mrif_in}
use Rattle.aia_file.specs.SlotFile.{slot_file}
use Rattle.aia_file.proofs.SizeLemmas.{few_identities}
use Rattle.aia_mrif.proofs.SummaryLemmas.{SummarizesFirst, none_summarized, live_added, dead_added, all_summarized, file_identities}
use Rattle.aia_mrif.proofs.view.summary.Goals as goal
use Rattle.aia_mrif.proofs.view.summary.Goals.{then-pending-enabled-ne0, else-pending-enabled-ne0}

pub loop-k-init : goal.loop-k-init
loop-k-init g c =
    let file = slot_file c.args.n 0 (mrif_in c.args.ram.now c.args.q) in
    (none_summarized file.pending file.enabled, omega arith)

pub loop-k-preserved : goal.loop-k-preserved
loop-k-preserved g c =
    let file = slot_file c.args.n 0 (mrif_in c.args.ram.now c.args.q) in
    let few = few_identities c.args.n c.requires.greatest in
    let low : c.loop-k.k < 64 = omega (arith, few, c.loop-k-test.true) in
    let words = c.pair-pending.ensures in
    let summary : SummarizesFirst (c.loop-k.k + 1) c.if-pending-enabled-ne0.summary file.pending file.enabled =
    elim c.if-pending-enabled-ne0.branch [
      | then-pending-enabled-ne0 w ↦ live_added file.pending file.enabled c.loop-k.k c.loop-k.summary c.if-pending-enabled-ne0.summary
          c.pair-pending.result.0 c.pair-pending.result.1 words.pending_word words.enable_word c.loop-k.invariant.0 low
          w.if-pending-enabled-ne0.true w.summary-is
      | else-pending-enabled-ne0 w ↦ dead_added file.pending file.enabled c.loop-k.k c.loop-k.summary c.if-pending-enabled-ne0.summary
          c.pair-pending.result.0 c.pair-pending.result.1 words.pending_word words.enable_word c.loop-k.invariant.0
          w.if-pending-enabled-ne0.false w.summary-is
    ] in
    (summary, omega (arith, c.count_one.ensures, c.loop-k.invariant.1))

pub returns-clause-summary : goal.returns-clause-summary
returns-clause-summary g c =
    let file = slot_file c.args.n 0 (mrif_in c.args.ram.now c.args.q) in
    let end : c.loop-k.k ≡ (c.args.n + 1) / 64 = omega (arith, c.loop-k-test.false, c.loop-k.auto.k-end) in
    all_summarized file.pending file.enabled ((c.args.n + 1) / 64) c.loop-k.summary (file_identities c.args.n _ c.requires.greatest)
    (subst (λ k. SummarizesFirst k c.loop-k.summary file.pending file.enabled) end c.loop-k.invariant.0)
