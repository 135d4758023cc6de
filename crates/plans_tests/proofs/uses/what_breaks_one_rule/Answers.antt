use Rattle.std.specs.Prelude.{true, false, [], ◌∷◌}
use Rattle.plans_rules.specs.declared.rule.Rule.TheVariants as rules
use Rattle.plans_rules.specs.declared.setting.NumberSpot.TheVariants as spot
use Rattle.plans_rules.specs.Rows.{all_moved, break_blank, break_freeing, break_freeing_with_numbers, break_numbers, break_routes, break_words, heeded, looked_early, looked_first, looked_last, plainly, posted_first, shut_again, to_memory, told_early, told_shut, unset, with_numbers, written_last, written_late}
use Rattle.std.proofs.Common.{ap, length}
use Rattle.plans_tests.proofs.UseLemmas.{each_breaks, each_untold}
use Rattle.plans_tests.proofs.uses.what_breaks_one_rule.Goals as goal

pub returns-clause-none : goal.returns-clause-none
returns-clause-none c = ap (λ rules. length rules) c.each_rule_is_needed.ensures.none

pub returns-clause-freeing_early : goal.returns-clause-freeing_early
returns-clause-freeing_early c = ap (λ rules. length rules) c.each_rule_is_needed.ensures.freeing_early

pub returns-clause-freeing_resumed : goal.returns-clause-freeing_resumed
returns-clause-freeing_resumed c = ap (λ rules. length rules) c.each_rule_is_needed.ensures.freeing_resumed

pub returns-clause-routes : goal.returns-clause-routes
returns-clause-routes c = each_breaks rules.Routes (plainly true) break_routes c.each_rule_is_needed.ensures.routes

pub returns-clause-words : goal.returns-clause-words
returns-clause-words c = each_breaks rules.Words (plainly true) break_words c.each_rule_is_needed.ensures.words

pub returns-clause-blank : goal.returns-clause-blank
returns-clause-blank c = each_breaks rules.Blank (plainly false) break_blank c.each_rule_is_needed.ensures.blank

pub returns-clause-numbers : goal.returns-clause-numbers
returns-clause-numbers c = each_breaks rules.Numbers with_numbers break_numbers c.each_rule_is_needed.ensures.numbers

pub returns-clause-freeing : goal.returns-clause-freeing
returns-clause-freeing c = each_breaks rules.Freeing (plainly true) break_freeing c.each_rule_is_needed.ensures.freeing

pub returns-clause-freeing_numbers : goal.returns-clause-freeing_numbers
returns-clause-freeing_numbers c = each_breaks rules.Freeing with_numbers break_freeing_with_numbers c.each_rule_is_needed.ensures.freeing_numbers

pub returns-clause-notice : goal.returns-clause-notice
returns-clause-notice c = each_untold to_memory (looked_early ∷ looked_first ∷ posted_first ∷ told_early ∷ all_moved ∷ [])
    c.each_rule_is_needed.ensures.notice

pub returns-clause-notice_unset : goal.returns-clause-notice_unset
returns-clause-notice_unset c = each_untold unset (looked_last ∷ written_late ∷ written_last ∷ [])
    c.each_rule_is_needed.ensures.notice_unset

pub returns-clause-notice_heeded : goal.returns-clause-notice_heeded
returns-clause-notice_heeded c = each_untold (heeded spot.InNew) (told_shut ∷ shut_again ∷ [])
    c.each_rule_is_needed.ensures.notice_heeded
