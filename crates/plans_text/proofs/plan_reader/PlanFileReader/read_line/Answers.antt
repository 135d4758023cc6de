use Rattle.std.proofs.Common.{◌∙◌}
use Rattle.plans_text.proofs.StreamLemmas.{line_ended}
use Rattle.plans_text.proofs.plan_reader.PlanFileReader.read_line.Goals as goal

pub returns-clause-read : goal.returns-clause-read
returns-clause-read c = λ none given bytes h.
    line_ended c.args.self.now _ c.deref.result.now c.args.part.now given bytes none
    (c.deref.ensures.value ∙ c.in_ok-extend_from_slice.ensures.items) c.in_ok-add_text.ensures.read c.in_ok-add_text.ensures.inside
    c.in_ok-add_text.ensures.lines c.clear.ensures.items h
