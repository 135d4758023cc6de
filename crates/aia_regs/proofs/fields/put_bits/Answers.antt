-- To take the old field out and to put the new one in.
use Rattle.std.proofs.Common.{ℕ, ◌^◌, ◌<◌, ap, sym, subst, ◌∙◌, arith}
use Rattle.std.specs.Int.{bit_at}
use Rattle.aia_regs.specs.Fields.{field}
use Rattle.aia_regs.proofs.FieldLemmas.{got, put_fits, exchange_shifted, others_stay}
use Rattle.aia_regs.proofs.fields.put_bits.Goals as goal

pub overflow_add-result : goal.overflow_add-result
overflow_add-result c =
    let e = exchange_shifted c.args.x c.args.hi c.args.lo c.args.v c.bits.result c.requires.order c.requires.within c.requires.fits (omega arith)
    c.bits.ensures.value in
    omega (arith, e, put_fits c.args.x c.args.hi c.args.lo c.args.v 64 c.requires.order c.requires.within c.requires.fits (omega arith))

pub returns-clause-value : goal.returns-clause-value
returns-clause-value c = exchange_shifted c.args.x c.args.hi c.args.lo c.args.v c.bits.result c.requires.order c.requires.within c.requires.fits
    (omega arith) c.bits.ensures.value

pub returns-clause-put : goal.returns-clause-put
returns-clause-put c = ap (λ y. field y c.args.hi c.args.lo) (returns-clause-value c) ∙ got c.args.x c.args.hi c.args.lo c.args.v c.requires.fits

pub returns-clause-others : goal.returns-clause-others
returns-clause-others c = λ i out. ap (λ y. bit_at y i) (returns-clause-value c)
    ∙ others_stay c.args.x c.args.hi c.args.lo c.args.v i c.requires.order c.requires.fits out

pub returns-clause-word : goal.returns-clause-word
returns-clause-word c = λ within fits. subst (λ (y : ℕ). y < 2 ^ 32) (sym (returns-clause-value c))
    (put_fits c.args.x c.args.hi c.args.lo c.args.v 32 c.requires.order within c.requires.fits fits)
