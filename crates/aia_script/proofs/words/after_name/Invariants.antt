use Rattle.std.proofs.Common.{◌≡◌, drop}
use Rattle.aia_model.specs.Grammar.{is_word}
use Rattle.aia_script.specs.Cursor.{first_word, after_first}
use Rattle.aia_script.proofs.words.after_name.Given as goal

abbrev pub invariant-loop-at : goal.invariant-loop-at
invariant-loop-at l = record {
  word : is_word (first_word (drop l.at l.text)) (drop l.at l.name) ≡ is_word (first_word l.text) l.name;
  after : after_first (drop l.at l.text) ≡ after_first l.text;
}
