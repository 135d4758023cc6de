use Rattle.std.proofs.Common.{◌≡◌, ◌-◌, length, subst, refl, arith}
use Rattle.aia_domain.specs.Order.{ordered}
use Rattle.aia_domain.specs.InterruptSource.{EachAt, waiting_pair_at}
use Rattle.aia_domain.specs.Waiting.{AllHave, pair_of_aim, with_pair}
use Rattle.aia_domain.proofs.WaitingLemmas.{put_first, none_put, room_left}
use Rattle.aia_domain.proofs.waiting.put_all.Goals as goal

pub loop-s-init : goal.loop-s-init
loop-s-init c = record {
  have = none_put c.args.sources.now (length c.args.sources.now - 1) c.args.fronts.now c.requires.empty;
  low = c.requires.some;
}

pub put_into-requires : goal.put_into-requires
put_into-requires c = record {
  room = room_left c.args.sources.now c.loop-s.s (length c.args.sources.now - 1) (λ hart. pair_of_aim hart (c.loop-s.s - 1) c.aim_at.result)
      c.loop-s.fronts (omega (arith, c.loop-s-test.true)) (omega arith) refl c.loop-s.invariant.have;
}

pub loop-s-preserved : goal.loop-s-preserved
loop-s-preserved c = record {
  have =
      put_first c.args.sources.now c.loop-s.s (length c.args.sources.now - 1) c.loop-s.fronts c.put_into.new.fronts
      (omega (arith, c.loop-s-test.true)) (omega arith)
      (subst (λ o. EachAt c.loop-s.fronts c.put_into.new.fronts (λ hart. with_pair (pair_of_aim hart (c.loop-s.s - 1) o))) c.aim_at.ensures
      c.put_into.ensures) c.loop-s.invariant.have;
  low = omega (arith, c.loop-s-test.true);
}

pub returns : goal.returns
returns c =
    let one : c.loop-s.s ≡ 1 = omega (arith, c.loop-s-test.false, c.loop-s.invariant.low) in
    subst (λ s. AllHave (λ hart. ordered (waiting_pair_at c.args.sources.now hart) s (length c.args.sources.now - s))
    (length c.args.sources.now - 1) c.loop-s.fronts) one c.loop-s.invariant.have
