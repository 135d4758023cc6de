use Rattle.std.proofs.Common.{◌≡◌, ◌-◌, ◌^◌, ◌<◌, length, drop, inl, inr, sym, subst, ap, ◌∙◌, rules, arith}
use Rattle.std.proofs.lemmas.Bool.{cases_lt}
use Rattle.std.specs.Option.{IfSome}
use Rattle.aia_script.specs.declared.number.Radix.TheVariants.{Hexadecimal}
use Rattle.aia_script.specs.Digits.{ended, below_limit, number_from}
use Rattle.aia_script.proofs.SpelledLemmas.{digit_taken, digits_end, text_ends, no_room, from_there, within_limit, room_for}
use Rattle.aia_script.proofs.number.hexadecimal.Goals as goal

low_digit : (c : goal.In-Some) → c.in-Some.digit < 16
low_digit c = subst (λ o. IfSome o (λ digit. digit < 16)) c.in-Some.is c.digit.ensures.below

pub returns-in_default : goal.returns-in_default
returns-in_default c =
    let text = c.args.text.now in
    let at = c.loop-at.at in
    let n = c.loop-at.number in
    let there : at < length text = omega (arith, c.min-most.ensures) in
    let fits : n < 2 ^ 64 = search rules in
    c.ended.ensures
    ∙ ap (ended n) (from_there at text)
    ∙ sym (within_limit n (drop at text) fits)
    ∙ sym (ap below_limit (digits_end Hexadecimal (15 - at) n at text there (sym c.digit.ensures.value ∙ c.in_default.is)))
    ∙ c.loop-at.invariant.same

pub overflow_mul-number : goal.overflow_mul-number
overflow_mul-number c =
    let fits = room_for c.loop-at.number c.loop-at.at c.in-Some.digit c.loop-at.invariant.low (omega (arith, c.min-most.ensures)) (low_digit c) in
    omega (arith, fits.1)

pub overflow_add-number : goal.overflow_add-number
overflow_add-number c =
    let fits = room_for c.loop-at.number c.loop-at.at c.in-Some.digit c.loop-at.invariant.low (omega (arith, c.min-most.ensures)) (low_digit c) in
    omega (arith, fits.1)

pub loop-at-preserved : goal.loop-at-preserved
loop-at-preserved c =
    let text = c.args.text.now in
    let at = c.loop-at.at in
    let n = c.loop-at.number in
    record {
      same = sym (ap below_limit (digit_taken Hexadecimal 15 n at c.in-Some.digit text (omega (arith, c.min-most.ensures))
          (omega (arith, c.min-most.ensures)) (sym c.digit.ensures.value ∙ c.in-Some.is)))
          ∙ c.loop-at.invariant.same;
      low = (room_for n at c.in-Some.digit c.loop-at.invariant.low (omega (arith, c.min-most.ensures)) (low_digit c)).0;
    }

pub returns : goal.returns
returns c =
    let text = c.args.text.now in
    let at = c.loop-at.at in
    let n = c.loop-at.number in
    let all : c.min-most.result ≡ at = omega arith in
    let fits : n < 2 ^ 64 = search rules in
    let last : number_from Hexadecimal (15 - at) n (drop at text) ≡ ended n (drop at text) =
    elim (cases_lt at (length text)) [
      | inl there ↦ let none : 15 - at ≡ 0 = omega (arith, c.min-most.ensures) in ap (λ k. number_from Hexadecimal k n (drop at text)) none
          ∙ no_room Hexadecimal n (drop at text)
      | inr past ↦ text_ends Hexadecimal (15 - at) n at text past
    ] in
    c.ended-2.ensures
    ∙ ap (ended n) (from_there c.min-most.result text)
    ∙ ap (λ k. ended n (drop k text)) all
    ∙ sym (within_limit n (drop at text) fits)
    ∙ sym (ap below_limit last)
    ∙ c.loop-at.invariant.same
