use Rattle.std.proofs.Common.{sym, ◌∙◌}
use Rattle.aia_model.proofs.Spelled.{reading_only, reading_found, reading_skips, skips_found, reading_bad, bad_is_not_skipped, bad_spells_none, spelled_listed}
use Rattle.aia_script.proofs.parse.parse_line.Goals as goal

pub returns-clause-line : goal.returns-clause-line
returns-clause-line c =
    let text = c.args.text.now in
    λ line. (λ is. reading_found text line (sym c.read.ensures ∙ is), λ spelled. c.read.ensures ∙ reading_only text line spelled)

pub returns-clause-skip : goal.returns-clause-skip
returns-clause-skip c =
    let text = c.args.text.now in
    (λ is. skips_found text (sym c.read.ensures ∙ is), λ skipped. c.read.ensures ∙ reading_skips text skipped)

pub returns-clause-bad : goal.returns-clause-bad
returns-clause-bad c =
    let text = c.args.text.now in (
      λ is. (bad_is_not_skipped text (sym c.read.ensures ∙ is), λ line. bad_spells_none text line (sym c.read.ensures ∙ is)),
      λ rest. c.read.ensures ∙ reading_bad text rest.0 rest.1,
    )

pub returns-clause-listed : goal.returns-clause-listed
returns-clause-listed c =
    let text = c.args.text.now in
    λ line is. spelled_listed text line (reading_found text line (sym c.read.ensures ∙ is))
