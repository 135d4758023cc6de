use Rattle.std.proofs.Common.{◌≡◌, ◌<◌, length, reverse, sym, ap, subst, ◌∙◌, rules, arith}
use Rattle.std.specs.List.{insert}
use Rattle.std.proofs.lemmas.List.{length-reverse}
use Rattle.aia_domain.specs.Order.{IsRising, put_in}
use Rattle.aia_domain.proofs.OrderLemmas.{put_length, put_rising}
use Rattle.aia_domain.proofs.FallingLemmas.{put_falling}
use Rattle.aia_domain.proofs.candidates.Candidates.put_within.Goals as goal

put_is : (c : goal.In-Ok) → reverse c.insert.new.self.items ≡ put_in c.args.pair (reverse c.self.inside.falling.items)
put_is c =
    ap reverse (c.in-Ok.ensures.items ∙ ap (λ xs. insert xs c.place_of-place.result c.args.pair) (sym c.deref.ensures.value))
    ∙ put_falling c.args.pair c.deref.result.now c.place_of-place.result c.place_of-place.ensures.within c.place_of-place.ensures.point
    ∙ ap (λ xs. put_in c.args.pair (reverse xs)) c.deref.ensures.value

pub invariant_of-self : goal.invariant_of-self
invariant_of-self c =
    let longer = ap length (put_is c) ∙ put_length c.args.pair (reverse c.self.inside.falling.items) in
    let room : length (reverse c.self.inside.falling.items) < c.self.inside.room =
    subst (λ v. length v.pairs < v.room) (sym c.self.view_is) c.requires.room in (
      omega (arith, c.in-Ok.ensures.capacity),
      omega (arith, longer, room, length-reverse c.insert.new.self.items),
      subst IsRising (sym (put_is c)) (put_rising c.args.pair (reverse c.self.inside.falling.items) c.self.invariant.2),
    )

pub returns : goal.returns
returns c = search (rules, put_is c)
