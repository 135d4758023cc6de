use Rattle.std.proofs.lemmas.Result.{on_ok_weaker}
use Rattle.aia_replay.proofs.HeldLemmas.{kept_answered, kept_lacks}
use Rattle.aia_replay.proofs.replayer.Replayer.answer_line.Goals as goal

pub returns-then-not-is_empty-clause-ok : goal.returns-then-not-is_empty-clause-ok
returns-then-not-is_empty-clause-ok g c =
    on_ok_weaker c.answer_kept.result (kept_answered c.args.self.now c.keep.new.self c.answer_kept.new.self (g.K.Sink.taken c.args.sink.now)
    (g.K.Sink.taken c.answer_kept.new.sink) c.args.part.now c.keep.ensures.line c.keep.ensures.others) c.answer_kept.ensures.ok

pub returns-then-not-is_empty-clause-memory : goal.returns-then-not-is_empty-clause-memory
returns-then-not-is_empty-clause-memory g c = λ is.
    kept_lacks c.args.self.now c.keep.new.self c.answer_kept.new.self (g.K.Sink.taken c.args.sink.now) (g.K.Sink.taken c.answer_kept.new.sink)
    c.args.part.now c.keep.ensures.line c.keep.ensures.others (c.answer_kept.ensures.memory is)
