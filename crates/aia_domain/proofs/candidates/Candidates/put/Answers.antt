use Rattle.std.proofs.Common.{sym, ◌∙◌, rules}
use Rattle.aia_domain.proofs.OrderLemmas.{put_ahead}
use Rattle.aia_domain.proofs.candidates.Candidates.put.Goals as goal

pub put_first-requires : goal.put_first-requires
put_first-requires c = record {
  room = c.requires.room;
  first =
      put_ahead c.args.pair c.args.self.now.pairs (sym c.goes_first.ensures ∙ c.if-goes_first.true);
}

pub returns-then-goes_first : goal.returns-then-goes_first
returns-then-goes_first c = search (rules, put_ahead c.args.pair c.args.self.now.pairs (sym c.goes_first.ensures ∙ c.if-goes_first.true))
