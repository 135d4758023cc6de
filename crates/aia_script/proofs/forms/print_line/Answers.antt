use Rattle.std.proofs.Common.{List, ℕ, ap, subst, sym, ◌∙◌}
use Rattle.aia_model.specs.Forms.{Spells}
use Rattle.aia_model.specs.Reading.{reading}
use Rattle.aia_model.proofs.Printed.{printed_read, printed_spelled}
use Rattle.aia_script.proofs.forms.print_line.Goals as goal

pub returns-clause-again : goal.returns-clause-again
returns-clause-again c = ap reading c.push_line.ensures.text ∙ printed_read c.args.line.now c.requires.listed c.push_line.ensures.range

pub returns-clause-spells : goal.returns-clause-spells
returns-clause-spells c = subst (λ (text : List ℕ). Spells text c.args.line.now) (sym c.push_line.ensures.text)
    (printed_spelled c.args.line.now c.requires.listed c.push_line.ensures.range)
