use Rattle.std.proofs.Common.{◌≡◌, ◌<◌, length, drop, sym, ap, ◌∙◌, arith}
use Rattle.aia_model.specs.Grammar.{is_word}
use Rattle.aia_script.specs.Cursor.{words_after, first_word, after_first}
use Rattle.aia_script.proofs.SpelledLemmas.{from_there}
use Rattle.aia_script.proofs.WordLemmas.{differs, cut_short, one_more, after_one_more, name_found, name_goes_on}
use Rattle.aia_script.proofs.words.after_name.Goals as goal

pub returns-then-text-at-clause-other : goal.returns-then-text-at-clause-other
returns-then-text-at-clause-other c =
    let there : c.loop-at.at < length c.args.text.now = omega arith in
    sym c.loop-at.invariant.word
    ∙ differs c.args.text.now c.args.name.now c.loop-at.at there c.loop-at-test.true c.if-text-at.true

pub returns-then-name-at-eq32-clause-other : goal.returns-then-name-at-eq32-clause-other
returns-then-name-at-eq32-clause-other c =
    let there : c.loop-at.at < length c.args.text.now = omega arith in
    sym c.loop-at.invariant.word
    ∙ cut_short c.args.text.now c.args.name.now c.loop-at.at there c.loop-at-test.true (c.if-text-at.false ∙ c.if-name-at-eq32.true)

pub loop-at-preserved : goal.loop-at-preserved
loop-at-preserved c =
    let there : c.loop-at.at < length c.args.text.now = omega arith in
    record {
      word = one_more c.args.text.now c.args.name.now c.loop-at.at there c.loop-at-test.true c.if-text-at.false c.if-name-at-eq32.false
          ∙ c.loop-at.invariant.word;
      after = after_one_more c.args.text.now c.loop-at.at there (λ space. c.if-name-at-eq32.false (sym c.if-text-at.false ∙ space))
          ∙ c.loop-at.invariant.after;
    }

all_bytes : (c : goal.After-words_after) → c.loop-at.at ≡ length c.args.name.now
all_bytes c = omega arith

word_whole : (c : goal.After-words_after) → is_word (first_word (drop (length c.args.name.now) c.args.text.now))
    (drop (length c.args.name.now) c.args.name.now) ≡ is_word (first_word c.args.text.now) c.args.name.now
word_whole c = ap (λ at. is_word (first_word (drop at c.args.text.now)) (drop at c.args.name.now)) (sym (all_bytes c)) ∙ c.loop-at.invariant.word

pub returns-clause-found : goal.returns-clause-found
returns-clause-found c =
    let text = c.args.text.now in
    let name = c.args.name.now in
    name_found text name c.words_after.result (word_whole c)
    (ap (λ at. after_first (drop at text)) (sym (all_bytes c)) ∙ c.loop-at.invariant.after)
    (c.words_after.ensures ∙ ap words_after (from_there (length name) text))

pub returns-clause-other : goal.returns-clause-other
returns-clause-other c =
    let text = c.args.text.now in
    let name = c.args.name.now in
    name_goes_on text name c.words_after.result (word_whole c)
    (c.words_after.ensures ∙ ap words_after (from_there (length name) text))
