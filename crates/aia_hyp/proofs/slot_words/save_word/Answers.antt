use Rattle.std.proofs.Common.{◌≡◌, ◌+◌, ◌*◌, ◌/◌, sym, ap, ◌∙◌, arith}
use Rattle.aia_model.specs.declared.part.Part.TheVariants as parts
use Rattle.aia_hyp_values.proofs.WordLemmas.{word_seen, word_is_part}
use Rattle.aia_hyp.proofs.slot_words.save_word.Goals as goal

pub returns : goal.returns
returns c =
    let w = c.args.fabric.now in
    let words = c.recall.ensures in
    let look = c.look-pending.ensures in
    let all : w.n + 1 ≡ 64 * ((w.n + 1) / 64) = sym words.all in
    ap (λ k. parts.Word k c.look-pending.result.0 c.look-pending.result.1) c.from.ensures
    ∙ word_is_part w c.args.slot c.args.w c.look-pending.result.0 c.look-pending.result.1
    (word_seen w c.args.slot c.args.w c.look-pending.result.0 c.look-pending.result.1 words.whole c.requires.slot all c.requires.word
    (omega (arith, words.few, c.requires.word)) look.pending look.enabled look.pending_fits look.enable_fits)
