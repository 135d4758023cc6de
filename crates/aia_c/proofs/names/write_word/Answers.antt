use Rattle.std.proofs.Common.{ℕ, ◌-◌, List, take, ap, ◌∙◌}
use Rattle.aia_c.proofs.NameLemmas.{some_text, word_alone}
use Rattle.aia_c.proofs.names.write_word.Goals as goal

pub overflow_sub-word : goal.overflow_sub-word
overflow_sub-word c = some_text c.args.answer.now _ c.print_answer.new.out.items c.len-word.ensures.value c.print_answer.ensures.text

pub returns-clause-word : goal.returns-clause-word
returns-clause-word c =
    word_alone c.args.answer.now _ c.print_answer.new.out.items _ _ c.len-word.ensures.value c.print_answer.ensures.text
    (c.copy_from_slice.ensures.after ∙ ap (λ (xs : List ℕ). take (c.len-word.result - 1) xs) c.as_slice.ensures.value)
