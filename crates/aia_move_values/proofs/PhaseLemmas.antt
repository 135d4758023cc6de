-- The phases of a plan: where its steps aim passed sources, and what they leave; which phase comes
-- after a step; what a step makes, and one in place, by the phase that the plan is in.
use Rattle.std.proofs.Common.{◌≡◌, ◌≢◌, ℕ, ◌+◌, ◌<◌, ◌≤◌, Bool, true, false, ◌&&◌, if◌then◌else◌, nat_lt, refl, sym, ap, ◌∙◌, subst, arith, Option, Some, None, ◌/◌}
use Rattle.std.specs.Prelude.{is_none, not}
use Rattle.std.proofs.lemmas.Bool.{eq-eqb, eqb-true, ne_eqb, and_parts, false≢true, ltb-true, ltb-false}
use Rattle.aia_vcpu.specs.declared.end.End.{End}
use Rattle.aia_vcpu.specs.Home.{old_end, new_end, is_file, Home, is_moving, one_more}
use Rattle.aia_vcpu.specs.Home.Way.{Outward, Inward, Across}
use Rattle.aia_vcpu.specs.Home.Home.{OnWay}
use Rattle.aia_vcpu.specs.declared.end.End.TheVariants.{File, Memory}
use Rattle.aia_vcpu.specs.Plans.{steps_done, is_last_made, is_at_last}
use Rattle.aia_vcpu.specs.declared.access.Access.{Access}
use Rattle.aia_vcpu.specs.Phases.{Phase, following, phase_begins, begins, after_shared}
use Rattle.aia_vcpu.specs.Phases.Phase.{FirstPhase, ClosingPhase, DrainPhase, EnablePhase, LookPhase, LastPhase, AllDone}
use Rattle.aia_vcpu.specs.BySteps.{own_file, next_file}
use Rattle.aia_vcpu.specs.Aims.{aims_done, aims_step, is_aiming, aimed, aimed_further}
use Rattle.aia_vcpu.specs.Routes.{is_at_fence}
use Rattle.aia_fabric_values.specs.World.{World}
use Rattle.aia_move_values.specs.declared.turn.Closed.{Closed}
use Rattle.aia_move_values.specs.declared.turn.Closed.TheVariants as closed
use Rattle.aia_move_values.specs.Move.{Moving, width, MoveFits}
use Rattle.aia_move_values.specs.Targets.{aims, pass_count, has_unaimed, one_aimed, aim_if, next_aim}
use Rattle.aia_move_values.specs.declared.turn.Outcome.{Outcome}
use Rattle.aia_move_values.specs.Turns.{IsIn, IsAtAims, GoesOn, AimsOn, EndsAs, MatchClosed}
use Rattle.aia_move_values.specs.Landings.{OnceLanded}
use Rattle.aia_vcpu.proofs.PhaseLemmas.{looks_begin, sets_first}
use Rattle.aia_vcpu.proofs.RouteLemmas.{unlast}
use Rattle.aia_move_values.proofs.PhaseSteps.{middle, begins_on, past_fence}
use Rattle.aia_move_values.proofs.LandingLemmas.{none_lands}
use Rattle.aia_move_values.specs.declared.turn.Next.TheVariants.{Finished}
use Rattle.aia_move_values.specs.PlanState.{PlanState, moving_of, phase_of}
use Rattle.aia_move_values.specs.Plan.{past_phase, is_last}
use Rattle.aia_move_values.specs.Plan.{is_in_aim, IsInDrain, NextStepIsOf, IsInPhase, IsLastOf, next_phase, StepsTo, GoesTo, GoesInPlace, GoesInPhase, GoesOnIn}

-- ---- when a step aims

-- just before the first word is taken it aims while a source is left
aims_at : (words passes : ℕ) (there : Home) → is_moving there ≡ true → steps_done there ≡ begins words there DrainPhase
    → is_aiming passes there ≡ nat_lt (aims_done there) passes
aims_at words passes (OnWay way at) moves e = ap (λ b. b && nat_lt at.aims passes) (eq-eqb at.steps (aims_step (OnWay way at)) (omega (arith, e)))
aims_at words passes there moves e = absurd (cc)

-- elsewhere none does
none_aims : (words passes : ℕ) (there : Home) → (is_moving there ≡ true → steps_done there ≢ begins words there DrainPhase)
    → is_aiming passes there ≡ false
none_aims words passes (OnWay way at) other = ap (λ b. b && nat_lt at.aims passes)
    (ne_eqb at.steps (aims_step (OnWay way at)) (λ same. other refl (omega (arith, same))))
none_aims words passes there other = refl

-- ---- a step aims in its phase alone

no_aim_in_first : (words : ℕ) (m : Moving) → IsIn FirstPhase words m → aims m ≡ false
no_aim_in_first words m is = none_aims words _ m.home (λ moves e. let mid = middle words m.home moves in omega arith)

no_aim_in_closing : (words : ℕ) (m : Moving) → IsIn ClosingPhase words m → aims m ≡ false
no_aim_in_closing words m is = none_aims words _ m.home (λ moves e. let mid = middle words m.home moves in omega arith)

no_aim_in_enable : (words : ℕ) (m : Moving) → 1 ≤ words → IsIn EnablePhase words m → aims m ≡ false
no_aim_in_enable words m some is = none_aims words _ m.home (λ moves e. let mid = middle words m.home moves in omega arith)

no_aim_in_look : (words : ℕ) (m : Moving) → 1 ≤ words → IsIn LookPhase words m → aims m ≡ false
no_aim_in_look words m some is = none_aims words _ m.home (λ moves e. let mid = middle words m.home moves in omega arith)

-- what is last comes after the looks, which a leave alone has
looks_before_last : (words : ℕ) (there : Home) → begins words there LookPhase ≤ begins words there LastPhase
looks_before_last words (OnWay way at) = let looks = looks_begin (old_end way) (new_end way) words in let enough =
    sets_first (new_end way) words in omega (arith, looks, enough)
looks_before_last words there = omega arith

no_aim_in_last : (words : ℕ) (m : Moving) → 1 ≤ words → IsIn LastPhase words m → aims m ≡ false
no_aim_in_last words m some is = none_aims words _ m.home
    (λ moves e. let mid = middle words m.home moves in omega (arith, looks_before_last words m.home))

-- so a step aims where it is a step of no phase (of AllDone none is)
pub step_aims : (phase : Option Phase) (words : ℕ) (m : Moving) → 1 ≤ words → NextStepIsOf phase words m → aims m ≡ is_none phase
step_aims None words m some is = is
step_aims (Some FirstPhase) words m some is = no_aim_in_first words m is
step_aims (Some ClosingPhase) words m some is = no_aim_in_closing words m is
step_aims (Some DrainPhase) words m some is = is.aimed
step_aims (Some EnablePhase) words m some is = no_aim_in_enable words m some is
step_aims (Some LookPhase) words m some is = no_aim_in_look words m some is
step_aims (Some LastPhase) words m some is = no_aim_in_last words m some is
step_aims (Some phase) words m some is = absurd (omega (arith, is.0, is.1))

pub phase_aims : (words : ℕ) (plan : PlanState) → 1 ≤ words → IsInPhase words plan → aims (moving_of plan) ≡ is_in_aim plan
phase_aims words plan = step_aims (phase_of plan) words (moving_of plan)

-- a plan that takes words of the pending set, where no source is left to aim
pub drains : (words : ℕ) (m : Moving) → IsIn DrainPhase words m → aims m ≡ false → IsInPhase words (record { moving = m; phase = Some DrainPhase })
drains words m is none = record { phase = is; aimed = none }

-- ---- what an aim leaves

aimed_own : (there : Home) → own_file (aimed there) ≡ own_file there
aimed_own (OnWay way at) = refl
aimed_own there = refl

aimed_next : (there : Home) → next_file (aimed there) ≡ next_file there
aimed_next (OnWay way at) = refl
aimed_next there = refl

aimed_carried : (words : ℕ) (there : Home) (access : Access) → is_last_made words (aimed there) access ≡ is_last_made words there access
aimed_carried words (OnWay way at) access = refl
aimed_carried words there access = refl

pub aim_fits : (w : World) (m : Moving) → MoveFits w m → MoveFits w (one_aimed m)
aim_fits w m fits = record {
  there = fits.there;
  slot = fits.slot;
  notice = fits.notice;
  own = λ p e. fits.own p (sym (aimed_own m.home) ∙ e);
  next = λ p e. fits.next p (sym (aimed_next m.home) ∙ e);
  no_pending_zero = λ e. fits.no_pending_zero (sym (aimed_carried (width w) m.home _) ∙ e);
  no_enabled_zero = λ e. fits.no_enabled_zero (sym (aimed_carried (width w) m.home _) ∙ e);
}

pub move_aims : (w : World) (s t : Moving) → MoveFits w s → t ≡ one_aimed s → AimsOn w s t
move_aims w s t fits moved = record { moved = moved; fits = subst (λ x. MoveFits w x) (sym moved) (aim_fits w s fits) }

-- ---- from the fence of the G-stage record on

-- in each phase the home moves
moves_in : (phase : Phase) (words : ℕ) (there : Home) → (begins words there phase ≤ steps_done there)
    × (steps_done there < begins words there (following phase)) → is_moving there ≡ true
moves_in phase words (OnWay way at) is = refl
moves_in phase words there is = absurd (omega (arith, is.1))

at_aims : (words : ℕ) (x : Moving) → is_moving x.home ≡ true → steps_done x.home ≡ begins words x.home DrainPhase → has_unaimed x ≡ true → IsAtAims x
at_aims words x moves at left = aims_at words _ x.home moves at ∙ left

drain_begins : (words : ℕ) (x : Moving) → is_moving x.home ≡ true → 1 ≤ words → steps_done x.home ≡ begins words x.home DrainPhase
    → has_unaimed x ≡ false → IsInDrain words x
drain_begins words x moves some at none =
    let mid = middle words x.home moves in
    record { phase = (omega (arith, at), omega (arith, at, some, mid.drains)); aimed = aims_at words _ x.home moves at ∙ none }

still_moves : (there : Home) → is_moving there ≡ true → is_moving (one_more there) ≡ true
still_moves (OnWay way at) moves = refl
still_moves there moves = moves

begins_still : (w u : World) (m t : Moving) (phase : Phase) → GoesOn w m u t → begins (width u) t.home phase ≡ begins (width w) m.home phase
begins_still w u m t phase goes = ap (λ n. begins n t.home phase) goes.width ∙ ap (λ h. begins (width w) h phase) goes.goes.home
    ∙ begins_on (width w) m.home phase

-- a step that is not the last one of its phase
still_in : (phase : Phase) (w u : World) (m t : Moving) → IsIn phase (width w) m → GoesOn w m u t
    → steps_done m.home + 1 < begins (width w) m.home (following phase) → IsIn phase (width u) t
still_in phase w u m t is goes more = (
  omega (arith, begins_still w u m t phase goes, goes.steps, is),
  omega (arith, begins_still w u m t (following phase) goes, goes.steps, more),
)

-- the phase after the last step of the G-stage record's
pub closed_phase : (w u : World) (m t : Moving) (next : Closed Moving Moving) → 1 ≤ width w → IsIn ClosingPhase (width w) m → GoesOn w m u t
    → IsLastOf ClosingPhase (width w) m
    → MatchClosed next (λ x. (x ≡ t) × (has_unaimed x ≡ true)) (λ x. (x ≡ t) × (has_unaimed x ≡ false))
    → MatchClosed next IsAtAims (IsInDrain (width u))
closed_phase w u m t next some is goes last r = by_next next r
  where
    at : steps_done t.home ≡ begins (width u) t.home DrainPhase
    at = omega (arith, begins_still w u m t DrainPhase goes, goes.steps, last)

    here : is_moving t.home ≡ true
    here = ap is_moving goes.goes.home ∙ still_moves m.home (moves_in ClosingPhase (width w) m.home is)

    by_next : (next : Closed Moving Moving) → MatchClosed next (λ x. (x ≡ t) × (has_unaimed x ≡ true)) (λ x. (x ≡ t) × (has_unaimed x ≡ false))
        → MatchClosed next IsAtAims (IsInDrain (width u))
    by_next (closed.Aim x) r = subst IsAtAims (sym r.0) (at_aims (width u) t here at (subst (λ y. has_unaimed y ≡ true) r.0 r.1))
    by_next (closed.Aimed x) r = subst (λ y. IsInDrain (width u) y) (sym r.0)
        (drain_begins (width u) t here (omega (arith, goes.width, some)) at (subst (λ y. has_unaimed y ≡ false) r.0 r.1))

-- once a word is taken, none is aimed
pub still_drains : (w u : World) (m t : Moving) → IsIn DrainPhase (width w) m → GoesOn w m u t
    → steps_done m.home + 1 < begins (width w) m.home (following DrainPhase) → IsInDrain (width u) t
still_drains w u m t is goes more = record {
  phase = still_in DrainPhase w u m t is goes more;
  aimed = none_aims (width u) _ t.home (λ moves e. omega (arith, e, begins_still w u m t DrainPhase goes, goes.steps, is));
}

-- ---- after the enabled set

-- the phase that follows in a plan begins where this one ends: a phase between, which the plan does
-- not have, has no steps
after_begins : (words : ℕ) (there : Home) → is_moving there ≡ true → 1 ≤ words
    → (begins words there (after_shared there) ≡ begins words there (following EnablePhase))
    × (begins words there (following EnablePhase) < begins words there (following (after_shared there)))
after_begins words (OnWay way at) moves some = by_end (old_end way) (new_end way)
  where
    by_end : (from to : End)
        → (phase_begins from to words (if is_file to then LastPhase else LookPhase) ≡ phase_begins from to words LookPhase)
        × (phase_begins from to words LookPhase < phase_begins from to words (following (if is_file to then LastPhase else LookPhase)))
    by_end from File = (refl, omega arith)
    by_end from Memory = (refl, omega (arith, some))
after_begins words there moves some = absurd (cc)

pub is_after : (phase : Phase) (words : ℕ) (m : Moving) → is_moving m.home ≡ true → phase ≡ after_shared m.home → 1 ≤ words
    → steps_done m.home ≡ begins words m.home (following EnablePhase) → IsIn phase words m
is_after phase words m moves follows some at =
    let begun = after_begins words m.home moves some in
    subst (λ p. IsIn p words m) (sym follows) (omega (arith, at, begun.0), omega (arith, at, begun.1))

-- ---- past the first phase

-- no store in flight lands there (AllDone has no steps)
no_fence : (phase : Phase) (words : ℕ) (m : Moving) → phase ≢ FirstPhase → NextStepIsOf (Some phase) words m → is_at_fence m.home ≡ false
no_fence FirstPhase words m other is = absurd (other refl)
no_fence ClosingPhase words m other is = past_fence words m.home is.0
no_fence DrainPhase words m other is = let mid = middle words m.home (moves_in DrainPhase words m.home is.phase) in
    past_fence words m.home (omega arith)
no_fence EnablePhase words m other is = let mid = middle words m.home (moves_in EnablePhase words m.home is) in past_fence words m.home (omega arith)
no_fence LookPhase words m other is = let mid = middle words m.home (moves_in LookPhase words m.home is) in past_fence words m.home (omega arith)
no_fence LastPhase words m other is = let mid = middle words m.home (moves_in LastPhase words m.home is) in
    past_fence words m.home (omega (arith, looks_before_last words m.home))
no_fence phase words m other is = absurd (omega (arith, is.0, is.1))

-- ---- what a step makes

-- of a step that goes on, by its phase
module _ (w u : World) where
  pub goes_on_in : (phase : Phase) (m t : Moving) → NextStepIsOf (Some phase) (width w) m → OnceLanded w m (λ landed. GoesOn landed m u t)
      → GoesOnIn phase w m u t
  goes_on_in FirstPhase m t is once = once
  goes_on_in phase m t is once = subst (λ landed. GoesOn landed m u t) (once.first.other (no_fence phase (width w) m (λ e. cc) is)) once.then

  -- it stays in the phase but after the last of its steps
  pub stays_in : (phase : Phase) (m t : Moving) → NextStepIsOf (Some phase) (width w) m → GoesOnIn phase w m u t
      → steps_done m.home + 1 < begins (width w) m.home (following phase) → NextStepIsOf (Some phase) (width u) t
  stays_in FirstPhase m t is once more =
      let wide : width once.landed ≡ width w = ap (λ n. (n + 1) / 64) once.first.same.n in
      still_in FirstPhase once.landed u m t (subst (λ n. IsIn FirstPhase n m) (sym wide) is) once.then
      (subst (λ n. steps_done m.home + 1 < begins n m.home ClosingPhase) (sym wide) more)
  stays_in DrainPhase m t is goes more = still_drains w u m t is.phase goes more
  stays_in phase m t is goes more = still_in phase w u m t is goes more

pub last_of : (phase : Phase) (words : ℕ) (m : Moving) → NextStepIsOf (Some phase) words m
    → begins words m.home (following phase) ≤ steps_done m.home + 1 → IsLastOf phase words m
last_of DrainPhase words m is low = omega (arith, is.phase.1, low)
last_of phase words m is low = omega (arith, is.1, low)

-- no phase ends after the plan
pub within_plan : (phase : Phase) (words : ℕ) (there : Home) → begins words there (following phase) ≤ begins words there AllDone
within_plan phase words (OnWay way at) = by_end phase (old_end way) (new_end way)
  where
    by_end : (phase : Phase) (from to : End) → phase_begins from to words (following phase) ≤ phase_begins from to words AllDone
    by_end FirstPhase from to = omega (arith, sets_first to words)
    by_end ClosingPhase from to = omega (arith, sets_first to words)
    by_end DrainPhase from to = omega (arith, sets_first to words)
    by_end EnablePhase from to = omega (arith, looks_begin from to words, sets_first to words)
    by_end LookPhase from to = omega arith
    by_end phase from to = omega arith
within_plan phase words there = omega arith

-- a plan has a step more, in each phase
pub in_plan : (phase : Option Phase) (words : ℕ) (m : Moving) → is_none phase ≡ false → NextStepIsOf phase words m
    → steps_done m.home < begins words m.home AllDone
in_plan None words m some is = absurd (cc)
in_plan (Some DrainPhase) words m some is = omega (arith, is.phase.1, within_plan DrainPhase words m.home)
in_plan (Some phase) words m some is = omega (arith, is.1, within_plan phase words m.home)

-- a step of a phase, by whether the one after it is of the phase too
pub in_phase : (w u : World) (phase : Option Phase) (m t : Moving) (stays : Bool) → is_none phase ≡ false → NextStepIsOf phase (width w) m
    → OnceLanded w m (λ landed. GoesOn landed m u t)
    → stays ≡ nat_lt (steps_done m.home + 1) (begins (width w) m.home (past_phase phase)) → GoesInPhase phase stays w m u t
in_phase w u None m t stays some is once e = absurd (cc)
in_phase w u (Some phase) m t true some is once e =
    let goes = goes_on_in w u phase m t is once in
    (goes, stays_in w u phase m t is goes (ltb-true _ _ (sym e)))
in_phase w u (Some phase) m t false some is once e = (goes_on_in w u phase m t is once, last_of phase (width w) m is (ltb-false _ _ (sym e)))

-- ---- the phase that a plan comes to

module _ (w u : World) (m t : Moving) (some : 1 ≤ width w) (once : OnceLanded w m (λ landed. GoesOn landed m u t)) where
  wide : width u ≡ width w
  wide = once.then.width ∙ ap (λ n. (n + 1) / 64) once.first.same.n

  begun : (phase : Phase) → begins (width u) t.home phase ≡ begins (width w) m.home phase
  begun phase = begins_still once.landed u m t phase once.then ∙ ap (λ n. begins ((n + 1) / 64) m.home phase) once.first.same.n

  still : is_moving m.home ≡ true → is_moving t.home ≡ true
  still moves = ap is_moving once.then.goes.home ∙ still_moves m.home moves

  -- with the last step of its phase, which is not that of the plan
  pub comes_to : (phase : Phase) → NextStepIsOf (Some phase) (width w) m → IsLastOf phase (width w) m
      → steps_done m.home + 1 < begins (width w) m.home AllDone → NextStepIsOf (next_phase t (Some phase)) (width u) t
  comes_to FirstPhase is last more =
      let moves = moves_in FirstPhase (width w) m.home is in
      let mid = middle (width u) t.home (still moves) in
      let steps = once.then.steps in
      let at = begun ClosingPhase in
      (omega (arith, at, steps, last), omega (arith, at, steps, last, mid.closes))
  comes_to ClosingPhase is last more =
      let here = still (moves_in ClosingPhase (width w) m.home is) in
      let at : steps_done t.home ≡ begins (width u) t.home DrainPhase = omega (arith, begun DrainPhase, once.then.steps, last) in
      past (has_unaimed t) refl here at
    where
      past : (b : Bool) → has_unaimed t ≡ b → is_moving t.home ≡ true → steps_done t.home ≡ begins (width u) t.home DrainPhase
          → NextStepIsOf (if b then None else Some DrainPhase) (width u) t
      past true left here at = at_aims (width u) t here at left
      past false left here at = drain_begins (width u) t here (omega (arith, wide, some)) at left
  comes_to DrainPhase is last more =
      let mid = middle (width u) t.home (still (moves_in DrainPhase (width w) m.home is.phase)) in
      let steps = once.then.steps in
      let at = begun EnablePhase in
      (omega (arith, at, steps, last), omega (arith, at, steps, last, mid.ends, wide, some))
  comes_to EnablePhase is last more =
      let here = still (moves_in EnablePhase (width w) m.home is) in
      let at = begun LookPhase in
      after t.home refl (is_after (after_shared t.home) (width u) t here refl (omega (arith, wide, some)) (omega (arith, at, once.then.steps, last)))
    where
      after : (there : Home) → there ≡ t.home → IsIn (after_shared there) (width u) t → NextStepIsOf (Some (after_shared there)) (width u) t
      after (OnWay (Outward from) at) e is = is
      after (OnWay way at) e is = is
      after there e is = is
  comes_to LookPhase is last more =
      let steps = once.then.steps in
      let at = begun LastPhase in
      let done = begun AllDone in
      (omega (arith, at, steps, last), omega (arith, done, steps, more))
  comes_to LastPhase is last more = absurd (omega (arith, last, more))
  comes_to phase is last more = absurd (omega (arith, is.0, is.1))

  -- after any step of a phase, by whether one more of it is left
  pub then_in : (phase : Option Phase) (stays : Bool) → is_none phase ≡ false → NextStepIsOf phase (width w) m
      → (stays ≡ true → steps_done m.home + 1 < begins (width w) m.home (past_phase phase))
      → (stays ≡ false → begins (width w) m.home (past_phase phase) ≤ steps_done m.home + 1)
      → steps_done m.home + 1 < begins (width w) m.home AllDone → (after : Option Phase) → after ≡ (if stays then phase else next_phase t phase)
      → NextStepIsOf after (width u) t
  then_in phase stays some_phase is low high more after e =
      subst (λ p. NextStepIsOf p (width u) t) (sym e) (by_phase phase stays some_phase is low high more)
    where
      by_phase : (phase : Option Phase) (stays : Bool) → is_none phase ≡ false → NextStepIsOf phase (width w) m
          → (stays ≡ true → steps_done m.home + 1 < begins (width w) m.home (past_phase phase))
          → (stays ≡ false → begins (width w) m.home (past_phase phase) ≤ steps_done m.home + 1)
          → steps_done m.home + 1 < begins (width w) m.home AllDone → NextStepIsOf (if stays then phase else next_phase t phase) (width u) t
      by_phase None stays some_phase is low high more = absurd (cc)
      by_phase (Some phase) true some_phase is low high more = stays_in w u phase m t is (goes_on_in w u phase m t is once) (low refl)
      by_phase (Some phase) false some_phase is low high more = comes_to phase is (last_of phase (width w) m is (high refl)) more

-- with an aim
pub phase_none : (phase : Option Phase) → is_none phase ≡ true → phase ≡ None
phase_none None is = refl
phase_none (Some phase) is = absurd (cc)

pub aims_to : (w : World) (m t : Moving) → 1 ≤ width w → IsAtAims m → AimsOn w m t → NextStepIsOf (next_phase t None) (width w) t
aims_to w m t some aiming on = by_home m.home refl aiming
  where
    moved : t.home ≡ aimed m.home
    moved = ap (λ (x : Moving). x.home) on.moved

    past : (b : Bool) → has_unaimed t ≡ b → is_moving t.home ≡ true → steps_done t.home ≡ begins (width w) t.home DrainPhase
        → NextStepIsOf (if b then None else Some DrainPhase) (width w) t
    past true left here at = at_aims (width w) t here at left
    past false left here at = drain_begins (width w) t here some at left

    by_home : (there : Home) → m.home ≡ there → is_aiming (pass_count m.who) there ≡ true → NextStepIsOf (next_phase t None) (width w) t
    by_home (OnWay way at) e is =
        let here : t.home ≡ OnWay way (aimed_further at) = moved ∙ ap aimed e in
        let steps : at.steps ≡ aims_step (OnWay way at) = eqb-true _ _ (and_parts _ _ is).0 in
        past (has_unaimed t) refl (ap is_moving here) (subst (λ there. steps_done there ≡ begins (width w) there DrainPhase) (sym here)
        (omega (arith, steps)))
    by_home there e is = absurd (cc)

-- ---- the last step

-- a phase but the last one ends before the plan does
ends_before : (phase : Phase) (words : ℕ) (there : Home) → is_moving there ≡ true → (phase ≡ LastPhase → ⊥) → (phase ≡ AllDone → ⊥)
    → begins words there (following phase) < begins words there AllDone
ends_before phase words (OnWay way at) moves other done = by_end phase (old_end way) (new_end way) other done
  where
    by_end : (phase : Phase) (from to : End) → (phase ≡ LastPhase → ⊥) → (phase ≡ AllDone → ⊥)
        → phase_begins from to words (following phase) < phase_begins from to words AllDone
    by_end FirstPhase from File other done = omega arith
    by_end FirstPhase from Memory other done = omega arith
    by_end ClosingPhase from File other done = omega arith
    by_end ClosingPhase from Memory other done = omega arith
    by_end DrainPhase from File other done = omega arith
    by_end DrainPhase from Memory other done = omega arith
    by_end EnablePhase from File other done = omega arith
    by_end EnablePhase from Memory other done = omega arith
    by_end LookPhase from File other done = omega arith
    by_end LookPhase from Memory other done = omega arith
    by_end LastPhase from to other done = absurd (other refl)
    by_end AllDone from to other done = absurd (done refl)
ends_before phase words there moves other done = absurd (cc)

-- a step of a phase that is not the last one of the plan
pub not_last : (phase : Option Phase) (stays : Bool) (words : ℕ) (m : Moving) → is_none phase ≡ false → NextStepIsOf phase words m
    → (stays ≡ true → steps_done m.home + 1 < begins words m.home (past_phase phase)) → (not stays && is_last phase) ≡ false
    → steps_done m.home + 1 < begins words m.home AllDone
not_last None stays words m some is low other = absurd (cc)
not_last (Some phase) true words m some is low other = omega (arith, low refl, within_plan phase words m.home)
not_last (Some FirstPhase) false words m some is low other =
    omega (arith, is.1, ends_before FirstPhase words m.home (moves_in FirstPhase words m.home is) (λ e. cc) (λ e. cc))
not_last (Some ClosingPhase) false words m some is low other =
    omega (arith, is.1, ends_before ClosingPhase words m.home (moves_in ClosingPhase words m.home is) (λ e. cc) (λ e. cc))
not_last (Some DrainPhase) false words m some is low other =
    omega (arith, is.phase.1, ends_before DrainPhase words m.home (moves_in DrainPhase words m.home is.phase) (λ e. cc) (λ e. cc))
not_last (Some EnablePhase) false words m some is low other =
    omega (arith, is.1, ends_before EnablePhase words m.home (moves_in EnablePhase words m.home is) (λ e. cc) (λ e. cc))
not_last (Some LookPhase) false words m some is low other =
    omega (arith, is.1, ends_before LookPhase words m.home (moves_in LookPhase words m.home is) (λ e. cc) (λ e. cc))
not_last (Some LastPhase) false words m some is low other = absurd (cc)
not_last (Some AllDone) false words m some is low other = absurd (omega (arith, is.0, is.1))

pub at_last : (words : ℕ) (there : Home) → steps_done there + 1 ≡ begins words there AllDone → is_at_last words there ≡ true
at_last words (OnWay way at) e = eq-eqb _ _ e
at_last words there e = absurd (omega (arith, e))

pub last_step : (words : ℕ) (there : Home) → is_at_last words there ≡ true → steps_done there + 1 ≡ begins words there AllDone
last_step words (OnWay way at) e = eqb-true _ _ e
last_step words there e = absurd (cc)

-- the step of the last phase after which none is left
pub is_last_step : (phase : Option Phase) (stays : Bool) (words : ℕ) (m : Moving) → NextStepIsOf phase words m
    → (stays ≡ false → begins words m.home (past_phase phase) ≤ steps_done m.home + 1)
    → (not stays && is_last phase) ≡ true → is_at_last words m.home ≡ true
is_last_step (Some LastPhase) false words m is high ends = at_last words m.home (omega (arith, is.1, high refl))
is_last_step (Some LastPhase) true words m is high ends = absurd (cc)
is_last_step phase stays words m is high ends = absurd (false≢true (and_parts (not stays) (is_last phase) ends).1)

-- it aims nothing, and no store in flight lands before it
pub last_aims_none : (words : ℕ) (m : Moving) → is_at_last words m.home ≡ true → aims m ≡ false
last_aims_none words m last = none_aims words _ m.home (λ moves e. far m.home moves (last_step words m.home last) e)
  where
    far : (there : Home) → is_moving there ≡ true → steps_done there + 1 ≡ begins words there AllDone
        → steps_done there ≡ begins words there DrainPhase → ⊥
    far (OnWay (Outward from) at) moves ends here = omega (arith, ends, here)
    far (OnWay (Inward to) at) moves ends here = omega (arith, ends, here)
    far (OnWay (Across from to) at) moves ends here = omega (arith, ends, here)
    far there moves ends here = absurd (cc)

no_fence_last : (words : ℕ) (there : Home) → is_at_last words there ≡ true → is_at_fence there ≡ false
no_fence_last words there last = by_fence (is_at_fence there) refl
  where
    by_fence : (b : Bool) → is_at_fence there ≡ b → is_at_fence there ≡ false
    by_fence true at = absurd (false≢true (sym (unlast words there at) ∙ last))
    by_fence false other = other

pub finishes : (w u : World) (m : Moving) (o : Outcome) → is_at_last (width w) m.home ≡ true → EndsAs w m u o
    → StepsTo (next_aim m) w m u (Finished o)
finishes w u m o last ends = subst (λ b. StepsTo (aim_if b m) w m u (Finished o)) (sym (last_aims_none (width w) m last))
    (none_lands w m (λ landed. EndsAs landed m u o) (no_fence_last (width w) m.home last) ends)

-- ---- a step in place

-- an access
pub goes_access : (w u : World) (m t : Moving) (phase : Option Phase) → 1 ≤ width w → NextStepIsOf phase (width w) m → is_none phase ≡ false
    → OnceLanded w m (λ landed. GoesOn landed m u t) → GoesInPlace true w m u t
goes_access w u m t phase some is accesses once = (
  subst (λ b. GoesTo (aim_if b m) w m u t) (sym (step_aims phase (width w) m some is ∙ accesses))
      (record { landed = once.landed; first = once.first; then = once.then.goes }),
  once.then.fits,
)

-- an aim
pub goes_aiming : (w : World) (m t : Moving) → IsAtAims m → AimsOn w m t → GoesInPlace true w m w t
goes_aiming w m t aiming on = (subst (λ b. GoesTo (aim_if b m) w m w t) (sym aiming) (record { world = refl; moved = on.moved }), on.fits)
