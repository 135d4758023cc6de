use Rattle.std.proofs.Common.{Result, Ok, Err, refl}
use Rattle.std.specs.Result.{OnOk}
use Rattle.std.proofs.lemmas.Result.{on_err_weaker}
use Rattle.aia_replay.proofs.HeldLemmas.{writes_out, writes_front}
use Rattle.aia_replay.proofs.replayer.Replayer.write_out.Goals as goal

on_both_ok : {T E P Q R : Type 0} (r : Result T E) → (P → Q → R) → OnOk r P → OnOk r Q → OnOk r R
on_both_ok (Ok value) f p q = f p q
on_both_ok (Err error) f p q = tt

pub returns-clause-held : goal.returns-clause-held
returns-clause-held g c = on_both_ok c.write_out.result
    (λ wrote empty. writes_out c.args.self.now _ (g.K.Sink.taken c.args.sink.now) (g.K.Sink.taken c.write_out.new.sink) wrote empty refl)
    c.write_out.ensures.ok c.write_out.ensures.empty

pub returns-clause-front : goal.returns-clause-front
returns-clause-front g c = on_err_weaker c.write_out.result
    (writes_front c.args.self.now (g.K.Sink.taken c.args.sink.now) (g.K.Sink.taken c.write_out.new.sink)) c.write_out.ensures.cut
