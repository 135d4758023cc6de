use Rattle.std.proofs.Common.{◌∙◌}
use Rattle.aia_replay.proofs.TallyLemmas.{is_summary, summary_written, summary_cut}
use Rattle.aia_replay.proofs.generator.summarize_by.Goals as goal

pub returns-in-Ok-write_all : goal.returns-in-Ok-write_all
returns-in-Ok-write_all g c =
    let told = c.as_slice.ensures.value ∙ (c.summary.ensures.text
    ∙ is_summary c.in-Ok.tally c.args.count c.args.seed c.notices.result c.requires.few c.in-Ok.ensures.tallies
    (c.notices.ensures _ c.in-Ok.ensures.stands)) in
    λ left faults. summary_written left faults told c.in-Ok-write_all.ensures.ok c.in-Ok-write_all.ensures.later

pub returns-in-Err : goal.returns-in-Err
returns-in-Err g c =
    let told = c.as_slice.ensures.value ∙ (c.summary.ensures.text
    ∙ is_summary c.in-Ok.tally c.args.count c.args.seed c.notices.result c.requires.few c.in-Ok.ensures.tallies
    (c.notices.ensures _ c.in-Ok.ensures.stands)) in
    λ left faults. summary_cut left faults told c.in-Err.ensures.cut c.in-Err.ensures.err c.in-Err.ensures.later
