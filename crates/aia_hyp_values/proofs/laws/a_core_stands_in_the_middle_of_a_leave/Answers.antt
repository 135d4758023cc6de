use Rattle.aia_hyp_values.proofs.ExampleLemmas.{leaving_stands, leaving_whole, stayer_home, leaver_home, passed_one, leaving_lines}
use Rattle.aia_hyp_values.proofs.laws.a_core_stands_in_the_middle_of_a_leave.Goals as goal

pub returns-clause-stands : goal.returns-clause-stands
returns-clause-stands c = leaving_stands

pub returns-clause-whole : goal.returns-clause-whole
returns-clause-whole c = leaving_whole

pub returns-clause-stays : goal.returns-clause-stays
returns-clause-stays c = stayer_home

pub returns-clause-leaves : goal.returns-clause-leaves
returns-clause-leaves c = leaver_home

pub returns-clause-passed : goal.returns-clause-passed
returns-clause-passed c = passed_one

pub returns-clause-lines : goal.returns-clause-lines
returns-clause-lines c = leaving_lines
