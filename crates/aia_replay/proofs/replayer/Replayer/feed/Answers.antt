use Rattle.std.proofs.Common.{rules, ◌≡◌, ◌+◌, ◌∷◌, ◌++◌, take, Some, sym, ap, ◌∙◌, arith}
use Rattle.std.specs.Prelude.{position}
use Rattle.aia_io.proofs.CutLemmas.{is_end, cut_at_end, no_end_before, no_end_at_all}
use Rattle.aia_io.proofs.PieceLemmas.{all_of_rest}
use Rattle.aia_replay.proofs.FeedLemmas.{fed_nothing, fed_line, fed_front, fed_stop, fed_rest}
use Rattle.aia_replay.proofs.replayer.Replayer.feed.Goals as goal

pub loop-end-init : goal.loop-end-init
loop-end-init g c = record { fed = fed_nothing c.args.self.now (g.K.Sink.taken c.args.sink.now) c.args.piece.now; later = omega arith }

pub loop-end-preserved : goal.loop-end-preserved
loop-end-preserved g c =
    let rest = c.loop-end.rest.now in
    let end = c.in-Some.end in
    let at : position is_end rest ≡ Some end = sym c.in-Some.ensures in
    record {
      fed = fed_line c.args.self.now c.loop-end.self c.answer_line.new.self _ (g.K.Sink.taken c.loop-end.sink) _ c.args.piece.now rest
          (take end rest) _ c.loop-end.invariant.fed
          (cut_at_end rest end at ∙ ap (λ xs. take end rest ++ (10 ∷ xs)) (sym (all_of_rest rest (end + 1)))) (no_end_before rest end at)
          c.in_ok-answer_line.ensures.ok;
      later = omega (arith, c.in_ok-answer_line.ensures.later);
    }

pub returns-clause-ok : goal.returns-clause-ok
returns-clause-ok g c =
    fed_rest c.args.self.now c.loop-end.self c.keep.new.self (g.K.Sink.taken c.args.sink.now) (g.K.Sink.taken c.loop-end.sink) c.args.piece.now
    c.loop-end.rest.now c.loop-end.invariant.fed
    (no_end_at_all c.loop-end.rest.now (sym c.in_default.ensures)) c.keep.ensures.line c.keep.ensures.others

pub returns-in_err-answer_line-clause-cut : goal.returns-in_err-answer_line-clause-cut
returns-in_err-answer_line-clause-cut g c = λ is.
    let rest = c.loop-end.rest.now in
    let end = c.in-Some.end in
    let at : position is_end rest ≡ Some end = sym c.in-Some.ensures in
    let ended = c.in_err-answer_line.ensures.cut (search rules) in
    fed_front c.args.self.now c.loop-end.self (g.K.Sink.taken c.args.sink.now) (g.K.Sink.taken c.loop-end.sink)
    (g.K.Sink.taken c.answer_line.new.sink) c.args.piece.now rest (take end rest) _ c.loop-end.invariant.fed
    (cut_at_end rest end at) (no_end_before rest end at) ended

pub returns-in_err-answer_line-clause-memory : goal.returns-in_err-answer_line-clause-memory
returns-in_err-answer_line-clause-memory g c = λ is.
    let rest = c.loop-end.rest.now in
    let end = c.in-Some.end in
    let at : position is_end rest ≡ Some end = sym c.in-Some.ensures in
    let ended = c.in_err-answer_line.ensures.memory (search rules) in
    fed_stop c.args.self.now c.loop-end.self c.answer_line.new.self (g.K.Sink.taken c.args.sink.now) (g.K.Sink.taken c.loop-end.sink)
    (g.K.Sink.taken c.answer_line.new.sink) c.args.piece.now rest (take end rest) _ c.loop-end.invariant.fed
    (cut_at_end rest end at) (no_end_before rest end at) ended
