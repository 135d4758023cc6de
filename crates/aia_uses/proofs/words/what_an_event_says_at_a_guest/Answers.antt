use Rattle.std.proofs.Common.{[], ◌∷◌, sym, ap, ◌∙◌}
use Rattle.aia_laws.specs.Told.{is_ask, guest_pending_said}
use Rattle.aia_laws.specs.Newest.{or_before, newest, guest_enable_said}
use Rattle.aia_uses.proofs.words.what_an_event_says_at_a_guest.Goals as goal

pub returns-clause-asked : goal.returns-clause-asked
unfolding newest
returns-clause-asked c = λ past event g i good said.
    c.the_newest_word_decides_at_a_guest.ensures.pending (event ∷ past) g i good
    ∙ ap (λ word. is_ask (or_before word (newest (λ past event. guest_pending_said past event g i) past))) said

pub returns-clause-cleared : goal.returns-clause-cleared
unfolding newest
returns-clause-cleared c = λ past event g i good said.
    c.the_newest_word_decides_at_a_guest.ensures.pending (event ∷ past) g i good
    ∙ ap (λ word. is_ask (or_before word (newest (λ past event. guest_pending_said past event g i) past))) said

pub returns-clause-kept : goal.returns-clause-kept
unfolding newest
returns-clause-kept c = λ past event g i good said.
    c.the_newest_word_decides_at_a_guest.ensures.pending (event ∷ past) g i good
    ∙ ap (λ word. is_ask (or_before word (newest (λ past event. guest_pending_said past event g i) past))) said
    ∙ sym (c.the_newest_word_decides_at_a_guest.ensures.pending past g i good.1)

pub returns-clause-at_first : goal.returns-clause-at_first
unfolding newest
returns-clause-at_first c = λ g i. c.the_newest_word_decides_at_a_guest.ensures.pending [] g i tt

pub returns-clause-enabled : goal.returns-clause-enabled
unfolding newest
returns-clause-enabled c = λ past event g i good said.
    c.the_newest_word_decides_at_a_guest.ensures.enabled (event ∷ past) g i good
    ∙ ap (λ word. is_ask (or_before word (newest (λ past event. guest_enable_said past event g i) past))) said

pub returns-clause-disabled : goal.returns-clause-disabled
unfolding newest
returns-clause-disabled c = λ past event g i good said.
    c.the_newest_word_decides_at_a_guest.ensures.enabled (event ∷ past) g i good
    ∙ ap (λ word. is_ask (or_before word (newest (λ past event. guest_enable_said past event g i) past))) said

pub returns-clause-left : goal.returns-clause-left
unfolding newest
returns-clause-left c = λ past event g i good said.
    c.the_newest_word_decides_at_a_guest.ensures.enabled (event ∷ past) g i good
    ∙ ap (λ word. is_ask (or_before word (newest (λ past event. guest_enable_said past event g i) past))) said
    ∙ sym (c.the_newest_word_decides_at_a_guest.ensures.enabled past g i good.1)
