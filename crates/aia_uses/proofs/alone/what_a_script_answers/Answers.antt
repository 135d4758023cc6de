use Rattle.aia_uses.proofs.alone.what_a_script_answers.Goals as goal

pub returns-clause-answered : goal.returns-clause-answered
returns-clause-answered c = λ script g. c.scripts_that_say_the_same_answer_the_same.ensures.answered script g

pub returns-clause-two_scripts : goal.returns-clause-two_scripts
returns-clause-two_scripts c = λ script other g x same. c.scripts_that_say_the_same_answer_the_same.ensures.two_scripts script other g x same
