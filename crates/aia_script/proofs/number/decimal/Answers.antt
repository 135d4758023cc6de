use Rattle.std.proofs.Common.{◌≡◌, ◌+◌, ◌-◌, ◌*◌, length, drop, sym, ap, ◌∙◌, arith}
use Rattle.aia_script.specs.declared.number.Radix.TheVariants.{Decimal}
use Rattle.aia_script.specs.Digits.{ended, below_limit, number_from}
use Rattle.aia_script.proofs.SpelledLemmas.{digit_taken, digits_end, text_ends, from_there, within_limit, stays_large, none_below, is_below}
use Rattle.aia_script.proofs.number.decimal.Goals as goal

pub returns-in_default : goal.returns-in_default
returns-in_default c =
    let text = c.args.text.now in
    let at = c.loop-at.at in
    let n = c.loop-at.number in
    c.ended.ensures
    ∙ ap (ended n) (from_there at text)
    ∙ sym (within_limit n (drop at text) c.loop-at.invariant.low)
    ∙ sym (ap below_limit (digits_end Decimal (length text - at) n at text c.loop-at-test.true (sym c.digit.ensures.value ∙ c.in_default.is)))
    ∙ c.loop-at.invariant.same

pub returns-in_err-number : goal.returns-in_err-number
returns-in_err-number c =
    let text = c.args.text.now in
    let at = c.loop-at.at in
    let n = c.loop-at.number in
    let digit = c.in-Some.digit in
    rw c.from_residual.ensures (sym (stays_large Decimal (length text - (at + 1)) (n * 10 + digit) (drop (at + 1) text)
    (none_below _ _ (sym c.with_digit.ensures ∙ c.in_err-number.was)))
    ∙ sym (ap below_limit (digit_taken Decimal (length text) n at digit text c.loop-at-test.true c.loop-at-test.true
    (sym c.digit.ensures.value ∙ c.in-Some.is)))
    ∙ c.loop-at.invariant.same)

pub loop-at-preserved : goal.loop-at-preserved
loop-at-preserved c =
    let text = c.args.text.now in
    let at = c.loop-at.at in
    let n = c.loop-at.number in
    let digit = c.in-Some.digit in
    let is = is_below _ _ _ (sym c.with_digit.ensures ∙ c.in_ok-number.was) in
    record {
      same = ap (λ m. below_limit (number_from Decimal (length text - (at + 1)) m (drop (at + 1) text))) (sym is.0)
          ∙ sym (ap below_limit (digit_taken Decimal (length text) n at digit text c.loop-at-test.true c.loop-at-test.true
          (sym c.digit.ensures.value ∙ c.in-Some.is)))
          ∙ c.loop-at.invariant.same;
      low = omega arith;
    }

pub returns : goal.returns
returns c =
    let text = c.args.text.now in
    let at = c.loop-at.at in
    let n = c.loop-at.number in
    let all : length text ≡ at = omega arith in
    c.ended-2.ensures
    ∙ ap (ended n) (from_there (length text) text)
    ∙ ap (λ k. ended n (drop k text)) all
    ∙ sym (within_limit n (drop at text) c.loop-at.invariant.low)
    ∙ sym (ap below_limit (text_ends Decimal (length text - at) n at text c.loop-at-test.false))
    ∙ c.loop-at.invariant.same
