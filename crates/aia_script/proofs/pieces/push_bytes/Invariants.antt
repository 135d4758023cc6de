use Rattle.std.proofs.Common.{◌≡◌, ◌+◌, ◌*◌, ◌≤◌, ◌++◌}
use Rattle.arrayvec.specs.ArrayVec.{array_vec_len}
use Rattle.aia_model.specs.AnswerText.{hex_digits}
use Rattle.aia_script.proofs.pieces.push_bytes.Given as goal

abbrev pub invariant-loop-place : goal.invariant-loop-place
invariant-loop-place g l = record {
  text : l.out.items ++ hex_digits (2 * l.place) l.value ≡ l.fn.out.items ++ hex_digits (2 * l.count) l.value;
  few : l.place ≤ 8;
  room : array_vec_len l.out + 2 * l.place ≡ array_vec_len l.fn.out + 2 * l.count;
}
