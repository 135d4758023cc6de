use Rattle.aia_isolation.proofs.ImageLemmas.{goes_on, answers_on, stays_on, scripts_go_on}
use Rattle.aia_isolation.proofs.images.an_image_carries_a_virtual_hart_on.Goals as goal

pub returns-clause-state : goal.returns-clause-state
returns-clause-state c = goes_on

pub returns-clause-answered : goal.returns-clause-answered
returns-clause-answered c = answers_on

pub returns-clause-next : goal.returns-clause-next
returns-clause-next c = stays_on

pub returns-clause-scripts : goal.returns-clause-scripts
returns-clause-scripts c = scripts_go_on
