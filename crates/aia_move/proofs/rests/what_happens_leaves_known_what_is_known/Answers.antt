use Rattle.aia_move_values.proofs.WayRests.{rests_on, happens_all, happens_within, made_all}
use Rattle.aia_move.proofs.rests.what_happens_leaves_known_what_is_known.Goals as goal

pub returns-clause-at_rest : goal.returns-clause-at_rest
returns-clause-at_rest c = rests_on

pub returns-clause-moved : goal.returns-clause-moved
returns-clause-moved c = happens_all

pub returns-clause-within : goal.returns-clause-within
returns-clause-within c = happens_within

pub returns-clause-made : goal.returns-clause-made
returns-clause-made c = made_all
