use Rattle.std.proofs.Common.{◌≡◌, ◌+◌, ◌*◌, ◌-◌, cond, sym, ap, ◌∙◌, arith}
use Rattle.std.proofs.Math.Nat.{add_comm}
use Rattle.aia_word.specs.Sets.{word_of}
use Rattle.aia_domain.specs.InterruptSource.{bit_at_source}
use Rattle.aia_domain.proofs.WordLemmas.{word_of-none, word_of-more, word_of-fits}
use Rattle.aia_domain.proofs.by_number.word_shown.Goals as goal

pub loop-place-init : goal.loop-place-init
loop-place-init c = sym (word_of-none (bit_at_source c.args.sources.now c.args.which) (32 * c.args.k + 32))

pub overflow_mul-word : goal.overflow_mul-word
overflow_mul-word c =
    omega (
      arith,
      c.loop-place.invariant,
      word_of-fits (bit_at_source c.args.sources.now c.args.which) (32 * c.args.k + c.loop-place.place)
          c.loop-place.place 32 c.loop-place-test.true c.loop-place.auto.place (omega arith),
    )

pub overflow_add-word : goal.overflow_add-word
overflow_add-word c =
    omega (
      arith,
      c.loop-place.invariant,
      c.bit_of.ensures.small,
      word_of-fits (bit_at_source c.args.sources.now c.args.which) (32 * c.args.k + c.loop-place.place) c.loop-place.place 32
          c.loop-place-test.true c.loop-place.auto.place (omega arith),
    )

pub loop-place-preserved : goal.loop-place-preserved
loop-place-preserved c =
    let at : c.from.result * c.from-2.result + c.from-in-loop-place.result ≡ 32 * c.args.k + (c.loop-place.place - 1) =
    ap (λ x. x * c.from-2.result + c.from-in-loop-place.result) c.from.ensures ∙ ap (λ x. 32 * x + c.from-in-loop-place.result) c.from-2.ensures
    ∙ ap (λ x. 32 * c.args.k + x) c.from-in-loop-place.ensures in
    let bit : c.bit_of.result ≡ cond (bit_at_source c.args.sources.now c.args.which (32 * c.args.k + (c.loop-place.place - 1))) 1 0 =
    c.bit_of.ensures.value ∙ ap (λ s. cond (bit_at_source c.args.sources.now c.args.which s) 1 0) at in
    ap (λ x. 2 * x + c.bit_of.result) c.loop-place.invariant
    ∙ ap (λ x. 2 * word_of (bit_at_source c.args.sources.now c.args.which) (32 * c.args.k + c.loop-place.place) (32 - c.loop-place.place) + x) bit
    ∙ add_comm _ _ ∙ sym (word_of-more (bit_at_source c.args.sources.now c.args.which) (32 * c.args.k) c.loop-place.place 32
    c.loop-place-test.true c.loop-place.auto.place)
