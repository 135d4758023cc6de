use Rattle.std.proofs.Common.{◌≡◌, ◌∙◌, rules}
use Rattle.aia_generate.specs.Summary.{summary_text}
use Rattle.aia_generate.proofs.TallyLemmas.{summary_told}
use Rattle.aia_generate.proofs.print.summary.Goals as goal

pub returns-clause-of_lines : goal.returns-clause-of_lines
returns-clause-of_lines c = λ lines of_lines few sent.
    let told : c.push_line-4.new.out.items ≡ summary_text c.args.tally.now.lines c.args.tally.now.claims c.args.notices c.args.tally.now.sum =
    search rules in
    told ∙ summary_told c.args.tally.now lines c.args.notices of_lines few sent
