use Rattle.std.proofs.Common.{rules, arith, refl, subst, ◌∙◌}
use Rattle.aia_io.specs.Ends.{Rose}
use Rattle.aia_replay.proofs.StreamLemmas.{nothing_read, so_far_written, piece_more, reading_failed, reading_too_long, reading_done, front_at_once, front_of_piece, front_at_end, stop_in_piece, stop_at_end}
use Rattle.aia_replay.proofs.replayer.Replayer.read_all.Goals as goal

pub loop-source-init : goal.loop-source-init
loop-source-init g c = record {
  so_far = nothing_read c.args.self.now (g.S.Source.supply c.args.source.now) (g.K.Sink.taken c.args.sink.now) c.requires;
  same_ends = refl;
  within = omega arith;
  source_later = omega arith;
  sink_later = omega arith;
}

pub loop-source-preserved : goal.loop-source-preserved
loop-source-preserved g c =
    let so_far = so_far_written c.in_ok-write_out.ensures.held c.loop-source.invariant.so_far in
    record {
      so_far = piece_more c.in-Got.n c.read_piece.new.piece so_far c.in-Got.ensures.taken c.in_ok-feed-in-Got.ensures.ok;
      same_ends = c.in-Got.ensures.bytes.3 ∙ c.loop-source.invariant.same_ends;
      within = c.in-Got.ensures.limit;
      source_later = omega (arith, c.in-Got.ensures.cause);
      sink_later = omega (arith, c.in_ok-feed-in-Got.ensures.later, c.in_ok-write_out.ensures.later);
    }

pub returns-in-TooLong-clause-ok : goal.returns-in-TooLong-clause-ok
returns-in-TooLong-clause-ok g c =
    let so_far = so_far_written c.in_ok-write_out.ensures.held c.loop-source.invariant.so_far in
    reading_too_long 1 c.read_piece.new.piece c.in_ok-write_out.ensures.held.empty so_far c.in-TooLong.ensures.taken refl c.in-TooLong.ensures.limit

pub returns-in-End-clause-ok : goal.returns-in-End-clause-ok
returns-in-End-clause-ok g c =
    let so_far = so_far_written c.in_ok-write_out.ensures.held c.loop-source.invariant.so_far in
    reading_done c.read_piece.new.piece so_far c.in-End.ensures.taken c.in_ok-finish-in-End.ensures.ok c.loop-source.invariant.within

pub returns-in-End-clause-ended : goal.returns-in-End-clause-ended
returns-in-End-clause-ended g c = λ is. subst (λ n. Rose n (g.S.Source.supply c.read_piece.new.source).ends) c.loop-source.invariant.same_ends
    c.in-End.ensures.bytes.2

pub returns-in-Failed-clause-ok : goal.returns-in-Failed-clause-ok
returns-in-Failed-clause-ok g c =
    let so_far = so_far_written c.in_ok-write_out.ensures.held c.loop-source.invariant.so_far in
    reading_failed c.read_piece.new.piece c.in_ok-write_out.ensures.held.empty so_far c.in-Failed.ensures.taken c.loop-source.invariant.within

pub returns-in_err-write_out-clause-cut : goal.returns-in_err-write_out-clause-cut
returns-in_err-write_out-clause-cut g c = λ is. front_at_once c.loop-source.invariant.so_far c.in_err-write_out.ensures.front
    c.loop-source.invariant.within

pub returns-in_err-feed-in-Got-clause-cut : goal.returns-in_err-feed-in-Got-clause-cut
returns-in_err-feed-in-Got-clause-cut g c = λ is.
    let so_far = so_far_written c.in_ok-write_out.ensures.held c.loop-source.invariant.so_far in
    front_of_piece c.in-Got.n c.read_piece.new.piece so_far c.in-Got.ensures.taken (c.in_err-feed-in-Got.ensures.cut (search rules))
    c.in-Got.ensures.limit

pub returns-in_err-feed-in-Got-clause-memory : goal.returns-in_err-feed-in-Got-clause-memory
returns-in_err-feed-in-Got-clause-memory g c = λ is.
    let so_far = so_far_written c.in_ok-write_out.ensures.held c.loop-source.invariant.so_far in
    stop_in_piece c.in-Got.n c.read_piece.new.piece so_far c.in-Got.ensures.taken (c.in_err-feed-in-Got.ensures.memory (search rules))
    c.in-Got.ensures.limit

pub returns-in_err-finish-in-End-clause-cut : goal.returns-in_err-finish-in-End-clause-cut
returns-in_err-finish-in-End-clause-cut g c = λ is.
    let so_far = so_far_written c.in_ok-write_out.ensures.held c.loop-source.invariant.so_far in
    front_at_end c.read_piece.new.piece so_far c.in-End.ensures.taken (c.in_err-finish-in-End.ensures.cut (search rules))
    c.loop-source.invariant.within

pub returns-in_err-finish-in-End-clause-memory : goal.returns-in_err-finish-in-End-clause-memory
returns-in_err-finish-in-End-clause-memory g c = λ is.
    let so_far = so_far_written c.in_ok-write_out.ensures.held c.loop-source.invariant.so_far in
    stop_at_end c.read_piece.new.piece so_far c.in-End.ensures.taken (c.in_err-finish-in-End.ensures.memory (search rules))
    c.loop-source.invariant.within
