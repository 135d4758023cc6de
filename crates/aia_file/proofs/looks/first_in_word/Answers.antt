use Rattle.std.proofs.Common.{sym, ap, ◌∙◌}
use Rattle.aia_word.specs.Sets.{has_bit}
use Rattle.aia_word.proofs.BitLemmas.{has_bit-zero}
use Rattle.aia_file.proofs.LookLemmas.{first_found, first_held_back, first_none}
use Rattle.aia_file.proofs.looks.first_in_word.Goals as goal

pub returns-in_err-least-clause-first : goal.returns-in_err-least-clause-first
returns-in_err-least-clause-first c = c.from_residual.ensures
    ∙ first_none c.args.k c.args.live c.args.threshold (λ b. ap (λ x. has_bit x b) c.in_err-least.ensures ∙ has_bit-zero b)

pub returns-then-lets_through-clause-first : goal.returns-then-lets_through-clause-first
returns-then-lets_through-clause-first c =
    let bit = c.in_ok-least.ensures in first_found c.args.k c.args.live c.args.threshold c.in_ok-least.field-0 bit.0 bit.1 bit.2
    (sym c.if-lets_through.ensures)

pub returns-else-lets_through-clause-first : goal.returns-else-lets_through-clause-first
returns-else-lets_through-clause-first c =
    let bit = c.in_ok-least.ensures in first_held_back c.args.k c.args.live c.args.threshold c.in_ok-least.field-0 bit.0 bit.2
    (sym c.if-lets_through.ensures)
