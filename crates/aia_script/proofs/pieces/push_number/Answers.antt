use Rattle.std.proofs.Common.{◌≡◌, ◌≤◌, length, ap, arith}
use Rattle.std.specs.Int.Digits.{digits_of}
use Rattle.arrayvec.specs.ArrayVec.{array_vec_len}
use Rattle.aia_script.specs.Digits.{base}
use Rattle.aia_script.proofs.PrintLemmas.{few_digits}
use Rattle.aia_script.proofs.pieces.push_number.Goals as goal

pub push_all_digits-requires : goal.push_all_digits-requires
push_all_digits-requires g c =
    let few : length (digits_of (base c.args.radix) c.args.value) ≤ 20 = few_digits c.args.radix c.args.value (omega arith) in
    let none : array_vec_len c.new-digits.result ≡ 0 = ap length c.new-digits.ensures in
    omega arith
