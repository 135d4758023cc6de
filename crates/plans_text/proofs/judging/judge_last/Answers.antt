use Rattle.std.proofs.lemmas.Result.{on_err_weaker}
use Rattle.plans_text.proofs.PieceLemmas.{last_given, last_cut, last_lacks}
use Rattle.plans_text.proofs.judging.judge_last.Goals as goal

pub returns-in-Ok-clause-ok : goal.returns-in-Ok-clause-ok
returns-in-Ok-clause-ok g c = last_given c.args.reader (g.K.Sink.taken c.args.sink.now) _ c.in-Ok.last.text.items c.in-Ok.last.outcome
    c.give_last.result c.in-Ok.ensures.text c.in-Ok.ensures.outcome c.give_last.ensures.ok c.give_last.ensures.came

pub returns-in-Ok-clause-cut : goal.returns-in-Ok-clause-cut
returns-in-Ok-clause-cut g c = on_err_weaker c.give_last.result
    (last_cut c.args.reader (g.K.Sink.taken c.args.sink.now) _ c.in-Ok.last.text.items c.in-Ok.ensures.text) c.give_last.ensures.cut

pub returns-in-Err-clause-cut : goal.returns-in-Err-clause-cut
returns-in-Err-clause-cut g c = last_lacks c.args.reader (g.K.Sink.taken c.args.sink.now)
