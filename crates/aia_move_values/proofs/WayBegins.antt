-- A plan that begins knows all that is known of its virtual hart at rest, and as it ends all is
-- known of that one at rest again.
use Rattle.std.proofs.Common.{◌≡◌, ℕ, ◌+◌, ◌/◌, Bool, true, false, Option, Some, None, inl, inr, refl, sym, ◌∙◌, subst}
use Rattle.std.proofs.lemmas.Bool.{false≢true}
use Rattle.aia_file.specs.InterruptFile.{InterruptFile}
use Rattle.aia_file.specs.Imsic.{IsThere}
use Rattle.aia_vcpu.specs.declared.place.GuestPlace.{GuestPlace}
use Rattle.aia_vcpu.specs.declared.rest.Rest.{Rest}
use Rattle.aia_vcpu.specs.declared.access.Access.{Access}
use Rattle.aia_vcpu.specs.declared.access.Access.TheVariants.{TakePending, TakeEnables}
use Rattle.aia_vcpu.specs.Home.{Home, Way, at_first, ended, holds}
use Rattle.aia_vcpu.specs.Home.Home.{InMemory, Resident, OnWay}
use Rattle.aia_vcpu.specs.Home.Way.{Outward, Inward, Across}
use Rattle.aia_vcpu.specs.Plans.{is_last_made}
use Rattle.aia_vcpu.specs.Routes.{origin, reach_stepped, MayReach}
use Rattle.aia_vcpu.proofs.HomeLemmas.{own_is_held, next_is_held, either_file}
use Rattle.aia_vcpu_places.specs.Holds.{Holds, Hand, IsWithin, IsEmpty}
use Rattle.aia_vcpu_places.specs.Stores.{AreApart}
use Rattle.aia_vcpu_places.proofs.MoveEnds.{leave_begins, shift_begins, arrive_begins}
use Rattle.aia_fabric_values.specs.declared.at.At.TheVariants.{File}
use Rattle.aia_fabric_values.specs.World.{World}
use Rattle.aia_fabric_values.specs.Whole.{IsWhole}
use Rattle.aia_fabric_values.specs.Changes.{spot_of, file_in}
use Rattle.aia_move_values.specs.declared.who.Who.{Who}
use Rattle.aia_move_values.specs.declared.who.KeptNumbers.{KeptNumbers}
use Rattle.aia_move_values.specs.Views.{places_of}
use Rattle.aia_move_values.specs.Move.{Moving, mover, width, MoveFits, Ends}
use Rattle.aia_move_values.specs.PlanState.{PlanState, moving_of}
use Rattle.aia_move_values.specs.Plan.{IsInPhase, begun, empty_hand, kept_hand}
use Rattle.aia_move_values.specs.Targets.{TargetMap}
use Rattle.aia_move_values.specs.Touches.{sends}
use Rattle.aia_move_values.specs.Ways.{KnowsWays, KnowsTargets, KnowsAll, NothingLeadsTo}
use Rattle.aia_move_values.specs.WorldChanges.{KnowsAtRest}
use Rattle.aia_move_values.proofs.MachineLemmas.{machine_touched}
use Rattle.aia_move_values.proofs.MoveKept.{ends_kept}
use Rattle.aia_move_values.proofs.StepLemmas.{fits_still}
use Rattle.aia_move_values.proofs.TouchLemmas.{step_touches}
use Rattle.aia_move_values.proofs.WayMoves.{ended_held}
use Rattle.aia_move_values.proofs.WayEnds.{begun_targets, ends_all, not_moving}
use Rattle.aia_move_values.proofs.WayEnds as ways

-- ---- it begins

module _ (w : World) (map : TargetMap) (plan : PlanState) (who : Who) (hand : Hand) (file : InterruptFile) (phase : IsInPhase (width w) plan)
    (fits : MoveFits w (moving_of plan)) where
  begun_all : (way : Way) (now : Hand) (reach : Option GuestPlace) → moving_of plan ≡ begun who way now
      → Holds (width w) who.found.slot who.found.notice reach (places_of w (mover (begun who way now)) (OnWay way at_first)) (OnWay way at_first) now
      file false → KnowsWays w (begun who way now) → KnowsTargets map (begun who way now) → KnowsAll w map plan reach file false
  begun_all way now reach is held ways targets = record {
    places = record {
      fits = fits;
      phase = phase;
      holds = subst (λ (m : Moving). Holds (width w) m.who.found.slot m.who.found.notice reach (places_of w (mover m) m.home) m.home m.hand file
          false)
          (sym is) held;
    };
    ways = subst (λ (m : Moving). KnowsWays w m) (sym is) ways;
    targets = subst (λ (m : Moving). KnowsTargets map m) (sym is) targets;
  }

  abbrev rest_of : Home → Moving
  rest_of there = record { who = who; home = there; hand = hand }

  pub leave_all : (p : GuestPlace) → KnowsAtRest w map (rest_of (Resident p)) file → moving_of plan ≡ begun who (Outward p) empty_hand
      → KnowsAll w map plan (Some p) file false
  leave_all p rest is = begun_all (Outward p) empty_hand (Some p) is
      (leave_begins 0 (width w) who.found.slot who.found.notice (Some p) (places_of w (mover (rest_of (Resident p))) (Resident p)) hand empty_hand
      file
      false p refl rest.holds)
      (ways.leave_begins w who hand empty_hand p rest.ways) (begun_targets map who hand empty_hand (Resident p) (Outward p) refl refl rest.targets)

  pub arrive_all : (rests : Rest) (to : GuestPlace) (kept : KeptNumbers) → KnowsAtRest w map (rest_of (InMemory rests)) file
      → NothingLeadsTo w (File (spot_of to)) → IsEmpty (file_in w (Some to)) → kept.delivery ≡ hand.delivery → kept.threshold ≡ hand.threshold
      → moving_of plan ≡ begun who (Inward to) (kept_hand kept) → KnowsAll w map plan None file false
  arrive_all rests to kept rest free empty delivery threshold is = begun_all (Inward to) (kept_hand kept) None is
      (arrive_begins 0 (width w) who.found.slot who.found.notice None (places_of w (mover (rest_of (InMemory rests))) (InMemory rests)) hand
      (kept_hand kept) file false to (places_of w (mover (rest_of (InMemory rests))) (OnWay (Inward to) at_first)) refl empty delivery threshold
      rest.holds)
      (ways.arrive_begins w who hand (kept_hand kept) rests to free rest.ways)
      (begun_targets map who hand (kept_hand kept) (InMemory rests) (Inward to) refl refl rest.targets)

  pub shift_all : (p to : GuestPlace) → KnowsAtRest w map (rest_of (Resident p)) file → NothingLeadsTo w (File (spot_of to))
      → IsEmpty (file_in w (Some to)) → moving_of plan ≡ begun who (Across p to) empty_hand → KnowsAll w map plan (Some p) file false
  shift_all p to rest free empty is = begun_all (Across p to) empty_hand (Some p) is
      (shift_begins 0 (width w) who.found.slot who.found.notice (Some p) (places_of w (mover (rest_of (Resident p))) (Resident p)) hand empty_hand
      file
      false p to (places_of w (mover (rest_of (Resident p))) (OnWay (Across p to) at_first)) refl empty rest.holds)
      (ways.shift_begins w who hand empty_hand p to free rest.ways)
      (begun_targets map who hand empty_hand (Resident p) (Across p to) refl refl rest.targets)

-- ---- it ends

none_made : (words : ℕ) (there : Home) (access : Access) → is_last_made words (ended there) access ≡ false
none_made words (OnWay (Outward from) at) access = refl
none_made words (OnWay (Inward to) at) access = refl
none_made words (OnWay (Across from to) at) access = refl
none_made words (InMemory rest) access = refl
none_made words (Resident p) access = refl

one_reach : (there : Home) (reach : Option GuestPlace) → MayReach (ended there) reach → reach ≡ origin (ended there)
one_reach (OnWay (Outward from) at) reach (inl old) = old.0
one_reach (OnWay (Inward to) at) reach (inl old) = old.0
one_reach (OnWay (Across from to) at) reach (inl old) = old.0
one_reach (InMemory rest) reach (inl old) = old.0
one_reach (Resident p) reach (inl old) = old.0
one_reach (OnWay (Outward from) at) reach (inr new) = absurd (false≢true new.1)
one_reach (OnWay (Inward to) at) reach (inr new) = absurd (false≢true new.1)
one_reach (OnWay (Across from to) at) reach (inr new) = absurd (false≢true new.1)
one_reach (InMemory rest) reach (inr new) = absurd (false≢true new.1)
one_reach (Resident p) reach (inr new) = absurd (false≢true new.1)

pub ends_at_rest : (w u : World) (map : TargetMap) (plan : PlanState) (reach : Option GuestPlace) (file : InterruptFile) (saw : Bool) (hand : Hand)
    → IsWhole w → AreApart (moving_of plan).home → IsWithin w.n (width w) file → KnowsAll w map plan reach file saw → Ends w (moving_of plan) u hand
    → KnowsAtRest u map (record (moving_of plan) { home = ended (moving_of plan).home; hand = hand }) file
ends_at_rest w u map plan reach file saw hand whole two within all ends =
    let m = moving_of plan in
    let t : Moving = record m { home = ended m.home; hand = hand } in
    let fits = all.places.fits in
    let same = machine_touched (sends ends.step.access m.hand) w u m (step_touches w u m hand whole fits ends.step) in
    let held = ends_kept w u m whole fits two reach file saw hand ends within all.places.holds in
    let at_end = ends_all w u map plan reach file saw hand whole two within all ends in
    let there : (p : GuestPlace) → holds p t.home ≡ true → IsThere w.imsic (spot_of p) = λ p holding.
    elim (either_file p m.home (ended_held m.home p holding)) [ inl own ↦ fits.own p own | inr next ↦ fits.next p next ] in
    let fits_then : MoveFits w t = record {
      there = fits.there;
      slot = fits.slot;
      notice = fits.notice;
      own = λ p e. there p (own_is_held t.home p e);
      next = λ p e. there p (next_is_held t.home p e);
      no_pending_zero = λ e. absurd (false≢true (sym (none_made (width w) m.home (TakePending 0)) ∙ e));
      no_enabled_zero = λ e. absurd (false≢true (sym (none_made (width w) m.home (TakeEnables 0)) ∙ e));
    } in
    record {
      rests = not_moving m.home;
      fits = fits_still w u t same fits_then;
      holds = subst (λ n. Holds ((n + 1) / 64) t.who.found.slot t.who.found.notice (origin t.home) (places_of u (mover t) t.home) t.home hand file
          false)
          (sym same.n)
          (subst (λ (place : Option GuestPlace). Holds (width w) t.who.found.slot t.who.found.notice place (places_of u (mover t) t.home) t.home hand
          file false) (one_reach m.home (reach_stepped m.home reach) held.routes.may) held);
      ways = at_end.ways;
      targets = at_end.targets;
    }
