-- What follows the name of a step, given a step of that name. Vocabulary.
use Rattle.aia_plan.specs.declared.step.Step.{Step}
use Rattle.aia_plan.specs.declared.step.Step.TheVariants.{TakeP, PutP, TakeE, PutE, Look}
use Rattle.aia_script.specs.StepText.{StepForm}
use Rattle.aia_script.specs.StepText.StepForm.{Alone, OfWord}

-- A number of a word, for a step that has one; else nothing.
abbrev pub form_of : Step → StepForm
form_of (TakeP w) = OfWord TakeP
form_of (PutP w) = OfWord PutP
form_of (TakeE w) = OfWord TakeE
form_of (PutE w) = OfWord PutE
form_of (Look w) = OfWord Look
form_of step = Alone step
