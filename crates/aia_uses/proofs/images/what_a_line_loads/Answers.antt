use Rattle.std.proofs.Common.{ap}
use Rattle.aia_uses.proofs.images.what_a_line_loads.Goals as goal

pub returns-clause-own : goal.returns-clause-own
returns-clause-own c = λ h g part ok. ap (λ state. state.file) (c.a_line_loads_its_part.ensures.own h g part ok)

pub returns-clause-others : goal.returns-clause-others
returns-clause-others c = λ h x g part other ok. ap (λ state. state.file) (c.a_line_loads_its_part.ensures.others h x g part other ok)
