use Rattle.std.proofs.Common.{ap, ◌∙◌}
use Rattle.aia_generate.specs.Tally.{tally_after}
use Rattle.aia_generate.proofs.TallyLemmas.{tally_of_more}
use Rattle.aia_generate.proofs.tally.Tally.count.Goals as goal

pub returns-clause-of_lines : goal.returns-clause-of_lines
returns-clause-of_lines c = λ lines of_lines is. tally_of_more c.args.self.now _ lines c.args.line.now c.args.given.now
    (c.count_claim.ensures ∙ ap (tally_after c.args.self.now) c.claim_of.ensures) of_lines is
