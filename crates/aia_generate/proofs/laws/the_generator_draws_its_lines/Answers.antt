use Rattle.aia_generate.proofs.DrawLemmas.{generated-length, generated-line}
use Rattle.aia_generate.proofs.laws.the_generator_draws_its_lines.Goals as goal

pub returns-clause-line : goal.returns-clause-line
returns-clause-line c = generated-line

pub returns-clause-length : goal.returns-clause-length
returns-clause-length c = generated-length
