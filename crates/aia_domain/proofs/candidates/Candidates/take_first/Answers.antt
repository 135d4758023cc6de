use Rattle.std.proofs.Common.{◌≡◌, drop, reverse, sym, subst, rules, arith}
use Rattle.aia_domain.specs.Order.{IsRising}
use Rattle.aia_domain.proofs.OrderLemmas.{rising_rest}
use Rattle.aia_domain.proofs.FallingLemmas.{popped_first}
use Rattle.aia_domain.proofs.candidates.Candidates.take_first.Goals as goal

rest_is : (c : goal.After-pop-pair) → reverse c.pop-pair.new.self.items ≡ drop 1 (reverse c.self.inside.falling.items)
rest_is c = popped_first c.self.inside.falling.items c.pop-pair.new.self.items c.pop-pair.result c.pop-pair.ensures.items
    (λ some. c.pop-pair.ensures.variant.1 (search (rules, some)))

pub invariant_of-self : goal.invariant_of-self
invariant_of-self c = (
  omega (arith, c.pop-pair.ensures.capacity),
  search (rules, c.pop-pair.ensures.len),
  subst IsRising (sym (rest_is c)) (rising_rest (reverse c.self.inside.falling.items) c.self.invariant.2),
)
