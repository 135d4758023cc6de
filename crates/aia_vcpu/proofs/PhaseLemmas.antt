-- What a move has made that has come to a phase.
use Rattle.std.proofs.Common.{◌≡◌, ℕ, ◌+◌, ◌*◌, ◌<◌, ◌≤◌, true, false, Option, sym, ◌∙◌, inl, inr, arith}
use Rattle.std.proofs.lemmas.Bool.Decides.{nat_tests}
use Rattle.aia_vcpu.specs.declared.place.GuestPlace.{GuestPlace}
use Rattle.aia_vcpu.specs.declared.end.End.{End}
use Rattle.aia_vcpu.specs.Home.{Home, old_end, new_end, is_moving}
use Rattle.aia_vcpu.specs.Home.Home.{OnWay}
use Rattle.aia_vcpu.specs.declared.end.End.TheVariants.{File, Memory}
use Rattle.aia_vcpu.specs.Plans.{word_steps, plan_step, is_last_made, steps_done, pending_step, enables_step}
use Rattle.aia_vcpu.specs.declared.access.Access.TheVariants.{TakePending, TakeEnables}
use Rattle.aia_vcpu.specs.Phases.{phase_begins, has_come}
use Rattle.aia_vcpu.specs.Phases.Phase.{ClosingPhase, DrainPhase, EnablePhase, LookPhase, LastPhase}
use Rattle.aia_vcpu.specs.BySteps.{new_file, is_drained, is_enable_taken, is_enable_put}
use Rattle.aia_vcpu.specs.Routes.{is_closed, is_stage_closed, MayReach}

-- the word that is carried was taken by the last step
pub carried_pending : (words w : ℕ) (there : Home) → is_last_made words there (TakePending w) ≡ true → steps_done there ≡ pending_step there w + 1
carried_pending words w (OnWay way at) e = grind (arith, nat_tests)
carried_pending words w there e = absurd (cc)

pub carried_enables : (words w : ℕ) (there : Home) → is_last_made words there (TakeEnables w) ≡ true
    → steps_done there ≡ enables_step words there w + 1
carried_enables words w (OnWay way at) e = grind (arith, nat_tests)
carried_enables words w there e = absurd (cc)

-- where the entry is closed, what may be in force leads to the new place
pub closed_reach : (there : Home) (place : Option GuestPlace) → is_closed there ≡ true → MayReach there place → place ≡ new_file there
closed_reach there place closed (inl p) = let no : true ≡ false = sym closed ∙ p.1 in absurd (cc)
closed_reach there place closed (inr p) = p.0

pub closing_closed : (words : ℕ) (there : Home) → is_moving there ≡ true → has_come words there ClosingPhase ≡ true → is_closed there ≡ true
closing_closed words (OnWay way at) moves come = grind (arith, nat_tests)
closing_closed words there moves come = absurd (cc)

pub drain_closed : (words : ℕ) (there : Home) → is_moving there ≡ true → has_come words there DrainPhase ≡ true → (is_closed there ≡ true)
    × (is_stage_closed there ≡ true)
drain_closed words (OnWay way at) moves come = (grind (arith, nat_tests), grind (arith, nat_tests))
drain_closed words there moves come = absurd (cc)

pub enable_drained : (words w : ℕ) (there : Home) → is_moving there ≡ true → w < words → has_come words there EnablePhase ≡ true
    → (is_drained words there w ≡ true) × (is_last_made words there (TakePending w) ≡ false)
enable_drained words w (OnWay way at) moves low come = (grind (arith, nat_tests), grind (arith, nat_tests))
enable_drained words w there moves low come = absurd (cc)

-- the looks come directly after both sets, and the numbers after the looks
pub looks_begin : (from to : End) (words : ℕ) → phase_begins from to words LookPhase ≡ plan_step from to words (TakeEnables 0) + 2 * words
looks_begin from File words = omega arith
looks_begin from Memory words = omega arith

pub sets_first : (to : End) (words : ℕ) → 4 * words ≤ word_steps to words
sets_first File words = omega arith
sets_first Memory words = omega arith

pub looks_moved : (words w : ℕ) (there : Home) → is_moving there ≡ true → w < words → has_come words there LookPhase ≡ true
    → (is_enable_taken words there w ≡ true) × (is_enable_put words there w ≡ true)
looks_moved words w (OnWay way at) moves low come = let begin = looks_begin (old_end way) (new_end way) words in
    (grind (arith, nat_tests), grind (arith, nat_tests))
looks_moved words w there moves low come = absurd (cc)

-- a phase comes after those before it
pub after_enable : (words : ℕ) (there : Home) → is_moving there ≡ true → has_come words there LookPhase ≡ true
    → has_come words there EnablePhase ≡ true
after_enable words (OnWay way at) moves come = let begin = looks_begin (old_end way) (new_end way) words in grind (arith, nat_tests)
after_enable words there moves come = absurd (cc)

pub after_looks : (words : ℕ) (there : Home) → is_moving there ≡ true → has_come words there LastPhase ≡ true → has_come words there LookPhase ≡ true
after_looks words (OnWay way at) moves come =
    let begin = looks_begin (old_end way) (new_end way) words in
    let enough = sets_first (new_end way) words in
    grind (arith, nat_tests)
after_looks words there moves come = absurd (cc)
