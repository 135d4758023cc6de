use Rattle.aia_generate.proofs.LineLemmas.{lines_left-listed}
use Rattle.aia_generate.proofs.lines.generated_lines.Goals as goal

pub returns-clause-listed : goal.returns-clause-listed
returns-clause-listed c = lines_left-listed _
