use Rattle.std.proofs.Common.{◌<◌, ◌≤◌, sym, ◌∙◌, arith}
use Rattle.std.proofs.lemmas.Option.{slice_get_past}
use Rattle.aia_generate.specs.Generated.{head_lines}
use Rattle.aia_generate.proofs.HeadLemmas.{guest_lines, host_lines}
use Rattle.aia_generate.proofs.head.head_line.Goals as goal

pub returns-in-3-to-22 : goal.returns-in-3-to-22
returns-in-3-to-22 c =
    let low : 3 ≤ c.args.place = omega arith in
    let high : c.args.place < 23 = omega arith in
    sym (guest_lines c.args.place low high ∙ c.guest_line.ensures)

pub returns-in-23-to-30 : goal.returns-in-23-to-30
returns-in-23-to-30 c =
    let low : 23 ≤ c.args.place = omega arith in
    let high : c.args.place < 31 = omega arith in
    sym (host_lines c.args.place low high ∙ c.host_line.ensures)

pub returns-in_default : goal.returns-in_default
returns-in_default c =
    let past : 31 ≤ c.args.place = omega arith in
    sym (slice_get_past head_lines c.args.place past)
