use Rattle.std.proofs.Common.{◌≡◌, map, drop}
use Rattle.aia_model.specs.Grammar.{row_of, named}
use Rattle.aia_script.specs.Cursor.{first_word}
use Rattle.aia_script.proofs.instructions.named.Given as goal

abbrev pub invariant-loop-name : goal.invariant-loop-name
invariant-loop-name l = row_of (map (λ row. (row.0.now, row.1)) (drop l.name-index l.name-items)) (first_word l.text) ≡ named l.fn.level
    (first_word l.text)
