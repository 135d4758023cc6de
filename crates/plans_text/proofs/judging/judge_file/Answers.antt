use Rattle.std.proofs.Common.{arith, refl, subst, ap, Err}
use Rattle.plans_text.proofs.PieceLemmas.{SoFar, few_lines, rose_since, ends_done, ends_failed, ends_past, so_far_more, stops_last, stops_piece}
use Rattle.plans_text.proofs.judging.judge_file.Goals as goal

pub returns-in-TooLong : goal.returns-in-TooLong
returns-in-TooLong g c = record {
  ends = ends_past c.loop-n.reader _ _ _ _ _ 1 _ _ _ _ c.read_piece.new.piece
      (subst (SoFar c.loop-n.reader _ _ _ _) c.in-TooLong.ensures.limit c.loop-n.invariant.so_far) c.in-TooLong.ensures.bytes.2
      c.in-TooLong.ensures.taken.0 refl;
}

pub returns-in-Err : goal.returns-in-Err
returns-in-Err g c =
    let n = c.in-Got.n in
    record {
      ends = stops_piece c.stopped.result c.in-Err.stop c.loop-n.reader _ _ _ _ _ _ c.loop-n.taken n _ _ _ _ c.read_piece.new.piece
          c.loop-n.invariant.so_far c.in-Got.ensures.bytes.2
          c.in-Got.ensures.taken.0 c.in-Got.ensures.limit c.in-Err.ensures.cut
          (λ e. rose_since _ _ _ c.loop-n.invariant.sink_later (c.in-Err.ensures.fault (ap Err e))) c.stopped.ensures;
    }

pub loop-n-preserved : goal.loop-n-preserved
loop-n-preserved g c =
    let n = c.in-Got.n in
    record {
      so_far = so_far_more c.loop-n.reader c.judge_piece.new.reader _ _ _ _ _ _ c.loop-n.taken n c.read_piece.new.piece c.loop-n.invariant.so_far
          c.in-Got.ensures.bytes.2 c.in-Got.ensures.bytes.3
          c.in-Got.ensures.taken.0 c.in-Got.ensures.limit c.in_default.ensures.ok;
      source_later = omega (arith, c.in-Got.ensures.cause, c.loop-n.invariant.source_later);
      sink_later = omega (arith, c.judge_piece.ensures.later, c.loop-n.invariant.sink_later);
    }

pub returns-in-Ok : goal.returns-in-Ok
returns-in-Ok g c = record {
  ends = ends_done c.loop-n.reader _ _ _ _ _ _ _ _ _ _ _ _ c.loop-n.invariant.so_far c.in-End.ensures.bytes.0 c.in-End.ensures.bytes.1
      c.in-End.ensures.bytes.2 c.in-Ok.ensures.ok;
}

pub returns-in-Failed : goal.returns-in-Failed
returns-in-Failed g c = record {
  ends = ends_failed c.loop-n.reader _ _ _ _ _ _ _ _ _ _ c.loop-n.invariant.so_far c.in-Failed.ensures.bytes.0
      (rose_since _ _ _ c.loop-n.invariant.source_later c.in-Failed.ensures.cause.1);
}

pub judge_piece-requires : goal.judge_piece-requires
judge_piece-requires g c =
    let so = c.loop-n.invariant.so_far in
    let n = c.in-Got.n in
    record {
      ready = so.judged.read.inside;
      room = omega (arith, few_lines c.loop-n.reader _ _ _ _ _ so, c.in-Got.ensures.taken.0, c.in-Got.ensures.bytes.1);
    }

pub judge_last-requires : goal.judge_last-requires
judge_last-requires g c =
    let so = c.loop-n.invariant.so_far in
    record { ready = so.judged.read.inside; room = omega (arith, few_lines c.loop-n.reader _ _ _ _ _ so) }

pub returns-in-Err-judge_last : goal.returns-in-Err-judge_last
returns-in-Err-judge_last g c = record {
  ends = stops_last c.stopped-in-Err-judge_last.result c.in-Err-judge_last.stop c.loop-n.reader _ _ _ _ _ _ c.loop-n.taken _ _ _ _
      c.loop-n.invariant.so_far c.in-End.ensures.bytes.0 c.in-End.ensures.bytes.1 c.in-Err-judge_last.ensures.cut
      (λ e. rose_since _ _ _ c.loop-n.invariant.sink_later (c.in-Err-judge_last.ensures.fault (ap Err e))) c.stopped-in-Err-judge_last.ensures;
}
