use Rattle.std.proofs.Common.{◌≡◌, ◌+◌, ◌/◌, ◌<◌, length, arith}
use Rattle.std.specs.Int.Digits.{digits_of}
use Rattle.aia_script.specs.Digits.{base}
use Rattle.aia_script.proofs.PrintLemmas.{digits_above, digit_appended, smaller, digit_low}
use Rattle.aia_script.proofs.pieces.+push_all_digits.Goals as goal

pub push_all_digits-requires : goal.push_all_digits-requires
push_all_digits-requires t c =
    let above : length (digits_of (base c.args.radix) c.args.value) ≡ length
    (digits_of (base c.args.radix) (c.args.value / c.base-base.result)) + 1 =
    digits_above c.args.radix c.base-base.result c.args.value c.base-base.ensures c.if-value-gt0.true in
    let less : c.args.value / c.base-base.result < c.args.value =
    smaller c.args.radix c.base-base.result c.args.value c.base-base.ensures c.if-value-gt0.true in
    (omega arith, omega arith)

pub digit_character-requires : goal.digit_character-requires
digit_character-requires t c = digit_low c.args.radix c.base-base.result c.args.value c.base-base.ensures

pub push-requires : goal.push-requires
push-requires t c =
    let above : length (digits_of (base c.args.radix) c.args.value) ≡ length
    (digits_of (base c.args.radix) (c.args.value / c.base-base.result)) + 1 =
    digits_above c.args.radix c.base-base.result c.args.value c.base-base.ensures c.if-value-gt0.true in
    (omega arith, omega arith)

pub returns-then-value-gt0-clause-text : goal.returns-then-value-gt0-clause-text
returns-then-value-gt0-clause-text t c =
    digit_appended c.push.new.self.items c.push_all_digits.new.out.items c.args.out.now.items c.args.radix c.base-base.result c.args.value
    c.digit_character.result c.base-base.ensures c.if-value-gt0.true c.push_all_digits.ensures.text c.push.ensures.items c.digit_character.ensures

pub returns-then-value-gt0-clause-length : goal.returns-then-value-gt0-clause-length
returns-then-value-gt0-clause-length t c =
    let above : length (digits_of (base c.args.radix) c.args.value) ≡ length
    (digits_of (base c.args.radix) (c.args.value / c.base-base.result)) + 1 =
    digits_above c.args.radix c.base-base.result c.args.value c.base-base.ensures c.if-value-gt0.true in
    omega arith
