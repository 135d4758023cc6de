use Rattle.std.proofs.Common.{◌*◌, ◌&&◌, ap, ◌∙◌}
use Rattle.std.specs.Prelude.{bit_and}
use Rattle.aia_word.specs.Sets.{has_bit, word_of}
use Rattle.aia_file.proofs.SummaryLemmas.{bit_of_both}
use Rattle.aia_file.proofs.summary.refreshed_by.Goals as goal

pub returns : goal.returns
returns c p e pending enabled others =
    c.refreshed.ensures (λ i. p i && e i)
    (λ b low. ap (λ x. has_bit (bit_and x c.args.enabled) b) pending
    ∙ ap (λ y. has_bit (bit_and (word_of p (64 * c.args.k) 64) y) b) enabled ∙ bit_of_both p e c.args.k b low)
    others
