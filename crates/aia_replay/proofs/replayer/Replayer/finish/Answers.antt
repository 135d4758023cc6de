use Rattle.std.proofs.Common.{rules, sym}
use Rattle.std.proofs.lemmas.Bool.{eqb-true}
use Rattle.std.specs.Io.KnownBytes.{Appends}
use Rattle.aia_io.specs.Ends.{CutOff}
use Rattle.aia_replay.specs.Streams.{AnswersText}
use Rattle.aia_io.proofs.PieceLemmas.{not_empty}
use Rattle.aia_replay.proofs.HeldLemmas.{finished_empty, finished_line, finished_cut, holds_cut_all, last_stopped}
use Rattle.aia_replay.proofs.replayer.Replayer.finish.Goals as goal
use Rattle.aia_replay.proofs.replayer.Replayer.finish.Goals.{then-not-is_empty+in_ok-answer_kept, else-not-is_empty}

pub returns-clause-ok : goal.returns-clause-ok
returns-clause-ok g c = λ before bytes holds.
    let r = c.if-not-is_empty.self in
    let now = g.K.Sink.taken c.write_out.new.sink in
    let out = c.in_ok-write_out.ensures.ok in
    elim c.if-not-is_empty.branch [
      | then-not-is_empty+in_ok-answer_kept w ↦
          let answered : AnswersText c.args.self.now r (g.K.Sink.taken c.args.sink.now) (g.K.Sink.taken c.if-not-is_empty.sink)
          c.args.self.now.line.items = rw (w.self-is, w.sink-is) w.in_ok-answer_kept.ensures.ok in
          finished_line c.args.self.now r before (g.K.Sink.taken c.args.sink.now) (g.K.Sink.taken c.if-not-is_empty.sink) now bytes
          (not_empty _ w.if-not-is_empty.ensures) answered out holds
      | else-not-is_empty w ↦
          let wrote : Appends (g.K.Sink.taken c.args.sink.now) now c.args.self.now.out.bytes.items = rw (w.self-is, w.sink-is) at out in
          finished_empty c.args.self.now before (g.K.Sink.taken c.args.sink.now) now bytes (eqb-true _ 0 (sym w.if-not-is_empty.ensures)) wrote holds
    ]

pub returns-in_err-answer_kept-clause-cut : goal.returns-in_err-answer_kept-clause-cut
returns-in_err-answer_kept-clause-cut g c = λ is before bytes holds.
    holds_cut_all c.args.self.now before (g.K.Sink.taken c.args.sink.now) (g.K.Sink.taken c.answer_kept.new.sink) bytes holds
    (c.in_err-answer_kept.ensures.cut (search rules))

pub returns-in_err-answer_kept-clause-memory : goal.returns-in_err-answer_kept-clause-memory
returns-in_err-answer_kept-clause-memory g c = λ is before bytes holds.
    last_stopped c.args.self.now c.answer_kept.new.self before (g.K.Sink.taken c.args.sink.now) (g.K.Sink.taken c.answer_kept.new.sink) bytes
    (c.in_err-answer_kept.ensures.memory (search rules)) holds

pub returns-in_err-write_out-clause-cut : goal.returns-in_err-write_out-clause-cut
returns-in_err-write_out-clause-cut g c = λ is before bytes holds.
    let r = c.if-not-is_empty.self in
    let now = g.K.Sink.taken c.write_out.new.sink in
    let cut = c.in_err-write_out.ensures.cut in
    elim c.if-not-is_empty.branch [
      | then-not-is_empty+in_ok-answer_kept w ↦
          let answered : AnswersText c.args.self.now r (g.K.Sink.taken c.args.sink.now) (g.K.Sink.taken c.if-not-is_empty.sink)
          c.args.self.now.line.items = rw (w.self-is, w.sink-is) w.in_ok-answer_kept.ensures.ok in
          finished_cut c.args.self.now r before (g.K.Sink.taken c.args.sink.now) (g.K.Sink.taken c.if-not-is_empty.sink) now bytes
          (not_empty _ w.if-not-is_empty.ensures) answered cut holds
      | else-not-is_empty w ↦
          let off : CutOff (g.K.Sink.taken c.args.sink.now) now c.args.self.now.out.bytes.items = rw (w.self-is, w.sink-is) at cut in
          holds_cut_all c.args.self.now before (g.K.Sink.taken c.args.sink.now) now bytes holds off
    ]
