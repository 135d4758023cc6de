use Rattle.std.proofs.Common.{sym, ap, ◌∙◌, arith}
use Rattle.aia_model.specs.Passes.{PassedSource}
use Rattle.aia_hyp_values.proofs.PassLemmas.{first_of_source, none_of_source}
use Rattle.aia_hyp.proofs.passes.Passes.number_of.Goals as goal

pub returns-then-at-source : goal.returns-then-at-source
returns-then-at-source c = first_of_source c.args.self.now c.args.source c.loop-number.number
    (omega (arith, c.loop-number-test.true, c.count-number-end.ensures.value))
    (ap (λ (p : PassedSource). p.source) (sym c.at.ensures) ∙ c.if-at-source.true) c.loop-number.invariant

pub returns : goal.returns
returns c = none_of_source c.args.self.now c.args.source c.loop-number.number
    (omega (arith, c.loop-number-test.false, c.count-number-end.ensures.value)) c.loop-number.invariant
