use Rattle.std.proofs.Common.{rules, arith}
use Rattle.aia_replay.proofs.ProgramLemmas.{ends_read, ends_cut, ends_stopped, stopped, stopped_front}
use Rattle.aia_replay.proofs.program.replay_by.Goals as goal

pub returns-in-Ok-clause-ends : goal.returns-in-Ok-clause-ends
returns-in-Ok-clause-ends g c = ends_read c.in-Ok.ensures.ok (search rules) (search rules) (omega (arith, c.in-Ok.ensures.later))
    (omega (arith, c.in-Ok.ensures.later))

pub returns-in-Err-Sink-clause-ends : goal.returns-in-Err-Sink-clause-ends
returns-in-Err-Sink-clause-ends g c = ends_cut (c.in-Err-Sink.ensures.cut (search rules)) (search rules)
    (omega (arith, c.in-Err-Sink.ensures.later)) (omega (arith, c.in-Err-Sink.ensures.later))

pub returns-in-Ok-write_out-clause-ends : goal.returns-in-Ok-write_out-clause-ends
returns-in-Ok-write_out-clause-ends g c = ends_stopped (c.in-Err-Memory.ensures.memory (search rules)) c.in-Ok-write_out.ensures.ok
    (omega (arith, c.in-Err-Memory.ensures.later)) (omega (arith, c.in-Err-Memory.ensures.later, c.in-Ok-write_out.ensures.later))

pub returns-in-Ok-write_out-clause-machine : goal.returns-in-Ok-write_out-clause-machine
returns-in-Ok-write_out-clause-machine g c = λ is. stopped c.read_all.new.self _ _ _ _ _ (c.in-Err-Memory.ensures.memory (search rules))
    c.in-Ok-write_out.ensures.ok

pub returns-in-Err-clause-ends : goal.returns-in-Err-clause-ends
returns-in-Err-clause-ends g c = ends_cut (stopped_front c.read_all.new.self (g.S.Source.supply c.args.source.now)
    (g.S.Source.supply c.read_all.new.source) (g.K.Sink.taken c.args.sink.now) (g.K.Sink.taken c.read_all.new.sink)
    (g.K.Sink.taken c.write_out.new.sink) (c.in-Err-Memory.ensures.memory (search rules)) c.in-Err.ensures.cut) (search rules)
    (omega (arith, c.in-Err-Memory.ensures.later)) (omega (arith, c.in-Err-Memory.ensures.later, c.in-Err.ensures.later))
