use Rattle.std.proofs.Common.{rules, ◌≡◌, Some, sym, ap, ◌∙◌}
use Rattle.aia_model.specs.declared.line.Line.TheVariants as lines
use Rattle.aia_model.specs.Text.{◌>>=◌}
use Rattle.aia_model.specs.Forms.{part, part_shape}
use Rattle.aia_model.specs.Reading.{read}
use Rattle.aia_script.specs.Cursor.{left}
use Rattle.aia_script.proofs.FormLemmas.{loaded_part}
use Rattle.aia_script.proofs.forms.load_part_of.Goals as goal

pub returns : goal.returns
returns c =
    let words = left c.args.words.now in
    let found : read part_shape part words ≡ Some c.in_ok-part.part = search rules in
    sym (loaded_part c.args.vm c.args.vcpu words ∙ ap (λ o. o >>= λ x. Some (lines.LoadPart c.args.vm c.args.vcpu x)) found)
