use Rattle.aia_word.specs.Sets.{is_in}
use Rattle.aia_domain.proofs.ReadyBitsLemmas.{other_words}
use Rattle.aia_domain.proofs.ready_bits.ReadyBits.set.Goals as goal

pub refreshed-self-inside-requires-clause-others : goal.refreshed-self-inside-requires-clause-others
refreshed-self-inside-requires-clause-others c =
    other_words c.self.inside.summary c.args.s c.args.ready (is_in c.self.inside.words) (is_in c.put.new.words) c.self.invariant.1 c.put.ensures
