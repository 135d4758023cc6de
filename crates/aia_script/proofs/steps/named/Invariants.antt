use Rattle.std.proofs.Common.{◌≡◌, map, drop}
use Rattle.aia_model.specs.Grammar.{row_of}
use Rattle.aia_script.specs.Cursor.{first_word}
use Rattle.aia_script.specs.StepForm.{form_of}
use Rattle.aia_script.specs.StepText.{step_forms}
use Rattle.aia_script.proofs.steps.named.Given as goal

abbrev pub invariant-loop-name : goal.invariant-loop-name
invariant-loop-name l = row_of (map (λ row. (row.0.now, form_of row.1)) (drop l.name-index l.name-items)) (first_word l.text) ≡ row_of step_forms
    (first_word l.text)
