use Rattle.std.proofs.Common.{sym, ◌∙◌, rules}
use Rattle.aia_domain.proofs.OrderLemmas.{first_out}
use Rattle.aia_domain.proofs.candidates.Candidates.take_out.Goals as goal

pub returns-then-is_first : goal.returns-then-is_first
returns-then-is_first c = search (rules, first_out c.args.pair c.args.self.now.pairs (sym c.is_first.ensures ∙ c.if-is_first.true))
