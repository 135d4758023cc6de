use Rattle.std.proofs.Common.{◌*◌, ap, ◌∙◌}
use Rattle.aia_word.specs.Sets.{has_bit, is_in}
use Rattle.aia_word.proofs.SetLemmas.{has_bit-word_of}
use Rattle.aia_domain.proofs.ready_bits.refreshed.Goals as goal

pub returns : goal.returns
returns c = c.refreshed.ensures (is_in c.args.words.now)
    (λ b low. ap (λ w. has_bit w b) c.word.ensures ∙ has_bit-word_of (is_in c.args.words.now) (64 * c.args.k) 64 b low) c.requires.others
