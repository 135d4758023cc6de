use Rattle.std.proofs.Common.{rules, ◌≡◌, List, ◌-◌, reverse, true, false, sym, ap, subst, ◌∙◌, arith}
use Rattle.std.specs.List.Sorted.{IsPartitionPoint}
use Rattle.aia_regs.specs.Top.{Pair}
use Rattle.aia_domain.specs.Order.{comes_before, is_pair, IsRising}
use Rattle.aia_domain.proofs.FallingLemmas.{removed_rises, out_falling, out_of_falling}
use Rattle.aia_domain.proofs.candidates.Candidates.take_within.Goals.{else-place-gt0-via-then-place-gt0+else-eq, else-place-gt0-via-else-place-gt0}
use Rattle.aia_domain.proofs.candidates.Candidates.take_within.Goals as goal

pub invariant_of-self : goal.invariant_of-self
invariant_of-self c = (
  omega (arith, c.remove-pair.ensures.capacity),
  omega (arith, c.remove-pair.ensures.len),
  subst (λ (xs : List Pair). IsRising (reverse xs)) (sym c.remove-pair.ensures.items)
      (removed_rises c.self.inside.falling.items (c.place_of-place.result - 1) c.args.pair c.self.invariant.2
      (omega (arith, c.place_of-place.ensures.within, c.if-place-gt0.true))),
)

pub returns-then-eq : goal.returns-then-eq
returns-then-eq c =
    let point = subst (λ (xs : List Pair). IsPartitionPoint (λ q. comes_before q c.args.pair ≡ false) (λ q. comes_before q c.args.pair ≡ true) xs
    c.place_of-place.result) c.deref.ensures.value c.place_of-place.ensures.point in
    let is = sym (ap (is_pair c.args.pair) c.index.ensures) ∙ sym c.eq.ensures ∙ c.if-eq.true in
    search (
      rules,
      ap reverse c.remove-pair.ensures.items
          ∙ out_falling c.args.pair c.self.inside.falling.items c.place_of-place.result c.index.result.now c.self.invariant.2 c.if-place-gt0.true
          (omega (arith, c.place_of-place.ensures.within)) point is,
    )

pub returns-else-place-gt0 : goal.returns-else-place-gt0
returns-else-place-gt0 c =
    let point = subst (λ (xs : List Pair). IsPartitionPoint (λ q. comes_before q c.args.pair ≡ false) (λ q. comes_before q c.args.pair ≡ true) xs
    c.place_of-place.result) c.deref.ensures.value c.place_of-place.ensures.point in
    let nowhere = out_of_falling c.args.pair c.self.inside.falling.items c.place_of-place.result c.self.invariant.2
    (omega (arith, c.place_of-place.ensures.within)) point in
    elim c.else-place-gt0.branch [
      | else-place-gt0-via-then-place-gt0+else-eq w ↦
          search (rules, nowhere (λ some. (w.index.result.now, sym (ap (is_pair c.args.pair) w.index.ensures) ∙ sym w.eq.ensures ∙ w.if-eq.false)))
      | else-place-gt0-via-else-place-gt0 w ↦ search (rules, nowhere (λ some. absurd (omega (arith, some, w.if-place-gt0.false))))
    ]
