use Rattle.std.proofs.Common.{◌≡◌, ◌∷◌, ◌<◌, length, reverse, sym, ap, subst, ◌∙◌, rules, arith}
use Rattle.std.proofs.lemmas.List.{length-reverse}
use Rattle.aia_domain.specs.Order.{IsRising, put_in}
use Rattle.aia_domain.proofs.OrderLemmas.{put_rising}
use Rattle.aia_domain.proofs.FallingLemmas.{pushed_first}
use Rattle.aia_domain.proofs.candidates.Candidates.put_first.Goals as goal

put_is : (c : goal.After-push_reserved) → reverse c.push_reserved.new.self.items ≡ c.args.pair ∷ reverse c.self.inside.falling.items
put_is c = ap reverse c.push_reserved.ensures.items ∙ pushed_first c.args.pair c.self.inside.falling.items

pub push_reserved-requires : goal.push_reserved-requires
push_reserved-requires c =
    let room : length (reverse c.self.inside.falling.items) < c.self.inside.room =
    subst (λ v. length v.pairs < v.room) (sym c.self.view_is) c.requires.room in
    search (rules, room, length-reverse c.self.inside.falling.items, c.self.invariant.0)

pub invariant_of-self : goal.invariant_of-self
invariant_of-self c =
    let room : length (reverse c.self.inside.falling.items) < c.self.inside.room =
    subst (λ v. length v.pairs < v.room) (sym c.self.view_is) c.requires.room in
    let first = subst (λ v. put_in c.args.pair v.pairs ≡ c.args.pair ∷ v.pairs) (sym c.self.view_is) c.requires.first in (
      omega (arith, c.push_reserved.ensures.capacity, c.self.invariant.0),
      omega (arith, ap length (put_is c), room, length-reverse c.push_reserved.new.self.items),
      subst IsRising (first ∙ sym (put_is c)) (put_rising c.args.pair (reverse c.self.inside.falling.items) c.self.invariant.2),
    )

pub returns : goal.returns
returns c = search (rules, put_is c)
