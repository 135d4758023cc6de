use Rattle.std.proofs.Common.{◌≡◌, ◌+◌, ◌*◌, ◌/◌, sym, arith}
use Rattle.aia_hyp_values.proofs.WordLemmas.{word_seen, live_word}
use Rattle.aia_hyp.proofs.slot_words.is_live.Goals as goal

pub returns : goal.returns
returns c =
    let w = c.args.fabric.now in
    let words = c.recall.ensures in
    let look = c.look-pending.ensures in
    let all : w.n + 1 ≡ 64 * ((w.n + 1) / 64) = sym words.all in
    live_word w c.args.slot c.args.w c.look-pending.result.0 c.look-pending.result.1
    (word_seen w c.args.slot c.args.w c.look-pending.result.0 c.look-pending.result.1 words.whole c.requires.slot all c.requires.word
    (omega (arith, words.few, c.requires.word)) look.pending look.enabled look.pending_fits look.enable_fits)
