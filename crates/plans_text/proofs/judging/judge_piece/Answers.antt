use Rattle.std.proofs.Common.{subst}
use Rattle.std.proofs.lemmas.Result.{on_ok_weaker, on_err_weaker}
use Rattle.std.specs.Io.KnownBytes.{Appends}
use Rattle.aia_io.specs.Ends.{CutOff}
use Rattle.plans_text.proofs.PieceLemmas.{piece_written, piece_cut, piece_lacks}
use Rattle.plans_text.proofs.judging.judge_piece.Goals as goal

pub returns-in-Ok-clause-ok : goal.returns-in-Ok-clause-ok
returns-in-Ok-clause-ok g c =
    on_ok_weaker c.give.result (λ wrote. piece_written c.args.reader.now _ c.take_answers.new.self (g.K.Sink.taken c.args.sink.now) _
    c.args.piece.now c.take_answers.result.items c.in-Ok.ensures c.take_answers.ensures.read c.take_answers.ensures.none
    (subst (Appends (g.K.Sink.taken c.args.sink.now) _) c.deref.ensures.value wrote)) c.give.ensures.ok

pub returns-in-Ok-clause-cut : goal.returns-in-Ok-clause-cut
returns-in-Ok-clause-cut g c =
    on_err_weaker c.give.result (λ cut. piece_cut c.args.reader.now _ c.take_answers.new.self (g.K.Sink.taken c.args.sink.now) _ c.args.piece.now
    c.take_answers.result.items c.in-Ok.ensures c.take_answers.ensures.read
    (subst (CutOff (g.K.Sink.taken c.args.sink.now) _) c.deref.ensures.value cut)) c.give.ensures.cut

pub returns-in-Err-clause-cut : goal.returns-in-Err-clause-cut
returns-in-Err-clause-cut g c = piece_lacks c.args.reader.now (g.K.Sink.taken c.args.sink.now) c.args.piece.now
