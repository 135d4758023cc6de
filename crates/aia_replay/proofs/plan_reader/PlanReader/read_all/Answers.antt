use Rattle.std.proofs.Common.{arith, refl, subst, ◌∙◌}
use Rattle.aia_io.specs.Ends.{Rose}
use Rattle.aia_replay.proofs.PlanLemmas.{no_plan_read, plan_piece_more, plan_failed, plan_too_long, plan_done}
use Rattle.aia_replay.proofs.plan_reader.PlanReader.read_all.Goals as goal

pub loop-n-init : goal.loop-n-init
loop-n-init g c = record {
  so_far = no_plan_read c.args.self.now c.args.self.now.plan.words (g.S.Source.supply c.args.source.now) c.requires;
  inside = c.requires.inside;
  same_ends = refl;
  within = omega arith;
  source_later = omega arith;
}

pub loop-n-preserved : goal.loop-n-preserved
loop-n-preserved g c = record {
  so_far = plan_piece_more c.in-Got.n c.read_piece.new.piece c.loop-n.invariant.so_far c.in-Got.ensures.taken c.feed.ensures.feeds;
  inside = c.feed.ensures.inside;
  same_ends = c.in-Got.ensures.bytes.3 ∙ c.loop-n.invariant.same_ends;
  within = c.in-Got.ensures.limit;
  source_later = omega (arith, c.in-Got.ensures.cause);
}

pub returns-in-TooLong-clause-streams : goal.returns-in-TooLong-clause-streams
returns-in-TooLong-clause-streams g c =
    plan_too_long 1 c.read_piece.new.piece c.loop-n.invariant.so_far c.in-TooLong.ensures.taken refl c.in-TooLong.ensures.limit

pub returns-in-End-clause-streams : goal.returns-in-End-clause-streams
returns-in-End-clause-streams g c = plan_done c.finish.new.self c.read_piece.new.piece c.loop-n.invariant.so_far c.in-End.ensures.taken
    c.finish.ensures.finishes c.loop-n.invariant.within

pub returns-in-End-clause-ended : goal.returns-in-End-clause-ended
returns-in-End-clause-ended g c = λ is. subst (λ n. Rose n (g.S.Source.supply c.read_piece.new.source).ends) c.loop-n.invariant.same_ends
    c.in-End.ensures.bytes.2

pub returns-in-End-clause-words : goal.returns-in-End-clause-words
returns-in-End-clause-words g c = (c.finish.ensures.finishes _ _ c.loop-n.invariant.so_far.holds).0

pub returns-in-Failed-clause-streams : goal.returns-in-Failed-clause-streams
returns-in-Failed-clause-streams g c = plan_failed c.read_piece.new.piece c.loop-n.invariant.so_far c.in-Failed.ensures.taken
    c.loop-n.invariant.within
