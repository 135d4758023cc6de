-- The steps of its own move keep what a plan knows.
use Rattle.std.proofs.Common.{◌≡◌, ℕ, ◌+◌, ◌/◌, ◌<◌, Bool, true, false, ◌||◌, if◌then◌else◌, [], length, Option, Some, None, refl, sym, ap, ◌∙◌, subst, arith}
use Rattle.std.specs.Prelude.{slice_get}
use Rattle.aia_file.specs.InterruptFile.{InterruptFile}
use Rattle.aia_vcpu.specs.declared.place.GuestPlace.{GuestPlace}
use Rattle.aia_vcpu.specs.Vms.{vcpu_of}
use Rattle.aia_vcpu.specs.Home.{Home, one_more}
use Rattle.aia_vcpu.specs.Home.Home.{InMemory, Resident, OnWay}
use Rattle.aia_vcpu.specs.Routes.{MayReach, is_at_fence, reach_stepped}
use Rattle.aia_vcpu.specs.Aims.{aimed}
use Rattle.aia_vcpu.proofs.RouteLemmas.{reach_on}
use Rattle.aia_vcpu.proofs.PassLemmas.{aimed_reach}
use Rattle.aia_vcpu_places.specs.Holds.{Holds, Hand, IsWithin, sees}
use Rattle.aia_vcpu_places.specs.Places.{leads_to}
use Rattle.aia_vcpu_places.specs.Stores.{AreApart}
use Rattle.aia_fabric_values.specs.declared.at.At.{At}
use Rattle.aia_fabric_values.specs.declared.flying.Flying.{Flying}
use Rattle.aia_fabric_values.specs.World.{World, flight_of}
use Rattle.aia_fabric_values.specs.Whole.{IsWhole}
use Rattle.aia_fabric_values.specs.Changes.{with_fence}
use Rattle.aia_fabric_values.proofs.FlightLemmas.{fence_leaves_none}
use Rattle.aia_fabric_values.proofs.WholeLemmas.{vcpu_entry}
use Rattle.aia_move_values.specs.Views.{places_of}
use Rattle.aia_move_values.specs.declared.who.Who.{Who}
use Rattle.aia_move_values.specs.Move.{Moving, mover, width, MoveFits, Goes}
use Rattle.aia_move_values.specs.PlanState.{PlanState, moving_of}
use Rattle.aia_move_values.specs.Plan.{IsInPhase, GoesAiming}
use Rattle.aia_move_values.specs.Targets.{TargetMap, AimsOne, aims, aim_of, one_aimed}
use Rattle.aia_move_values.specs.Touches.{sends}
use Rattle.aia_move_values.specs.Landings.{LandsFirst}
use Rattle.aia_move_values.specs.Ways.{leads_here, IsItsFlight, KnowsWays, KnowsTargets, KnowsAll, landed_before}
use Rattle.aia_move_values.specs.Ways as ways
use Rattle.aia_move_values.proofs.LandingLemmas.{landed_whole}
use Rattle.aia_move_values.proofs.MachineLemmas.{machine_touched}
use Rattle.aia_move_values.proofs.MoveKept.{goes_kept, aims_kept}
use Rattle.aia_move_values.proofs.TouchLemmas.{step_touches}
use Rattle.aia_move_values.proofs.WayFences.{all_land, flight_within}
use Rattle.aia_move_values.proofs.KnowsLemmas.{InPhase}
use Rattle.aia_move_values.proofs.WayFrames.{so_of, all_of}
use Rattle.aia_move_values.proofs.WayMoves.{ways_stepped, touched_flights}
use Rattle.aia_move_values.proofs.WayTargets.{goes_aimed, own_aimed}

-- ---- a move that has come further has the same places

place_further : (m : Moving) (hand : Hand) (at : Option At) → leads_here (record m { home = one_more m.home; hand = hand }) at ≡ leads_here m at
place_further m hand at = by_home m.home at
  where
    by_home : (there : Home) (at : Option At) → leads_here (record m { home = one_more there; hand = hand }) at ≡ leads_here
        (record m { home = there }) at
    by_home (OnWay way so_far) at = refl
    by_home (InMemory rest) at = refl
    by_home (Resident p) at = refl

place_aimed : (m : Moving) (at : Option At) → leads_here (one_aimed m) at ≡ leads_here m at
place_aimed m at = by_home m.home at
  where
    by_home : (there : Home) (at : Option At) → leads_here (record m { home = aimed there }) at ≡ leads_here (record m { home = there }) at
    by_home (OnWay way so_far) at = refl
    by_home (InMemory rest) at = refl
    by_home (Resident p) at = refl

-- so a plan knows the same ways
pub come_further : (w : World) (m t : Moving) → ((at : Option At) → leads_here t at ≡ true → leads_here m at ≡ true) → mover t ≡ mover m
    → ((v k : ℕ) (s : Flying) → slice_get (flight_of w v) k ≡ Some s → IsItsFlight m v s → IsItsFlight t v s) → KnowsWays w m → KnowsWays w t
come_further w m t here who flying knows = record {
  entries = λ g led. knows.entries g (here _ led) ∙ sym who;
  written = λ g there led. knows.written g there (here _ led) ∙ sym who;
  records = λ g there led. knows.records g there (here _ led) ∙ sym who;
  named = λ g there led. knows.named g there (here _ led) ∙ sym who;
  flying = λ v k s is led. flying v k s is (knows.flying v k s is (here _ led));
}

-- ---- it makes an access

module _ (w : World) (map : TargetMap) (plan : PlanState) (reach : Option GuestPlace) (file : InterruptFile) (saw : Bool) (whole : IsWhole w)
    (apart : AreApart (moving_of plan).home) (within : IsWithin w.n (width w) file) (all : KnowsAll w map plan reach file saw) where
  abbrev m : Moving
  m = moving_of plan

  -- what lands first
  first_lands : (landed : World) → LandsFirst w m landed → KnowsAll landed map plan reach (landed_before w m m file) saw
  first_lands landed first = by_fence (is_at_fence m.home) refl
    where
      there : m.who.found.vm < length w.flights
      there = let stands = (vcpu_entry w m.who.found.vm m.who.found.vcpu whole all.places.fits.there).0 in omega (arith, stands, whole.flights)

      by_fence : (b : Bool) → is_at_fence m.home ≡ b
          → KnowsAll landed map plan reach (if b then ways.landed_flight w m (flight_of w m.who.found.vm) file else file) saw
      by_fence true at = all_of landed map plan reach (ways.landed_flight w m (flight_of w m.who.found.vm) file) saw
          (all_land w map (InPhase plan) m reach file saw m.who.found.vm there apart within (so_of w map plan reach file saw all) landed
          (first.fence at).0)
      by_fence false none = subst (λ (x : World). KnowsAll x map plan reach file saw) (sym (first.other none)) all

  within_first : IsWithin w.n (width w) (landed_before w m m file)
  within_first = by_fence (is_at_fence m.home)
    where
      by_fence : (b : Bool) → IsWithin w.n (width w) (if b then ways.landed_flight w m (flight_of w m.who.found.vm) file else file)
      by_fence true = flight_within w.n (width w) w m (flight_of w m.who.found.vm) file within
      by_fence false = within

  none_left : (landed : World) → LandsFirst w m landed → is_at_fence m.home ≡ true → flight_of landed m.who.found.vm ≡ []
  none_left landed first at =
      let stands = (vcpu_entry w m.who.found.vm m.who.found.vcpu whole all.places.fits.there).0 in
      let both = first.fence at in
      fence_leaves_none w (with_fence landed m.who.found.vm m.who.found.vcpu) m.who.found.vm m.who.found.vcpu whole stands
      (record { landed = landed; lands = both.0; whole = both.1; fenced = refl })

  -- a store in flight is one for it still
  flies_on : (landed : World) → LandsFirst w m landed → (t : Moving) → t.who ≡ m.who → t.home ≡ one_more m.home → (v k : ℕ) (s : Flying)
      → slice_get (flight_of landed v) k ≡ Some s → IsItsFlight m v s → IsItsFlight t v s
  flies_on landed first t who home v k s is its = by_fence (is_at_fence m.home) refl
    where
      by_fence : (b : Bool) → is_at_fence m.home ≡ b → IsItsFlight t v s
      by_fence true at =
          let no : None ≡ Some s = ap (λ xs. slice_get xs k) (sym (none_left landed first at)) ∙ ap
          (λ x. slice_get (flight_of landed x) k) (sym its.vm)
          ∙ is in absurd (cc)
      by_fence false none = subst (λ (x : Moving). IsItsFlight x v s) refl (record {
        vm = its.vm ∙ ap (λ (x : Who). x.found.vm) (sym who);
        place = its.place;
        entry = its.entry ∙ ap (λ (x : Who). leads_to x.found.slot x.found.notice its.place) (sym who);
        may = subst (λ (h : Home). MayReach h its.place) (sym home) (reach_on m.home its.place none its.may);
      })

  pub goes_all : (landed u : World) (later : PlanState) → LandsFirst w m landed → Goes landed m u (moving_of later) → aims m ≡ false
      → MoveFits u (moving_of later) → IsInPhase (width u) later
      → KnowsAll u map later (reach_stepped m.home reach) (landed_before w m m file) (saw || sees (width w) m.home (landed_before w m m file))
  goes_all landed u later first goes none fits phase =
      let t = moving_of later in
      let before = first_lands landed first in
      let whole_then = landed_whole w m landed whole first in
      let wide : width landed ≡ width w = ap (λ n. (n + 1) / 64) first.same.n in
      let inside : IsWithin landed.n (width landed) (landed_before w m m file) =
      subst (λ n. IsWithin n ((n + 1) / 64) (landed_before w m m file)) (sym first.same.n) within_first in
      let touches = step_touches landed u m t.hand whole_then before.places.fits goes.step in
      let same = machine_touched (sends goes.step.access m.hand) landed u m touches in
      let held = goes_kept landed u m whole_then before.places.fits apart reach (landed_before w m m file) saw t goes inside before.places.holds in
      let stepped = ways_stepped (sends goes.step.access m.hand) landed u m m before.places.fits touches before.ways
      (record { entry = λ led. refl; written = λ led. refl; in_force = λ led. refl; named = λ led. refl }) in
      record {
        places = record {
          fits = fits;
          phase = phase;
          holds = subst (λ n. Holds ((n + 1) / 64) t.who.found.slot t.who.found.notice (reach_stepped m.home reach)
              (places_of u (mover t) t.home) t.home
              t.hand (landed_before w m m file) (saw || sees (width w) m.home (landed_before w m m file))) (sym (same.n))
              (subst (λ words. Holds (width landed) t.who.found.slot t.who.found.notice (reach_stepped m.home reach) (places_of u (mover t) t.home)
              t.home t.hand (landed_before w m m file) (saw || sees words m.home (landed_before w m m file))) wide held);
        };
        ways = come_further u m t (λ at led. sym (further_place t goes.same_who goes.home at) ∙ led)
            (ap (λ (x : Who). vcpu_of x.found.vm x.found.vcpu) goes.same_who)
            (λ v k s is. flies_on landed first t goes.same_who goes.home v k s
            (ap (λ xs. slice_get xs k) (sym (touched_flights (sends goes.step.access m.hand) landed u m v touches)) ∙ is)) stepped;
        targets = goes_aimed map m t (width landed) none goes.more goes.home goes.same_who before.targets;
      }
    where
      further_place : (t : Moving) → t.who ≡ m.who → t.home ≡ one_more m.home → (at : Option At) → leads_here t at ≡ leads_here m at
      further_place t who home at = ap (λ (x : Who). leads_here (record t { who = x }) at) who
          ∙ ap (λ (h : Home). leads_here (record t { who = m.who; home = h }) at) home ∙ place_further m t.hand at

-- ---- it aims a passed source

pub aims_all : (w u : World) (old new : TargetMap) (plan later : PlanState) (reach : Option GuestPlace) (file : InterruptFile) (saw : Bool)
    → KnowsAll w old plan reach file saw → GoesAiming w (moving_of plan) u (moving_of later) → aims (moving_of plan) ≡ true
    → AimsOne old (aim_of (moving_of plan)).source (aim_of (moving_of plan)).target new → MoveFits u (moving_of later) → IsInPhase (width u) later
    → KnowsAll u new later reach file saw
aims_all w u old new plan later reach file saw all goes aiming one fits phase = record {
  places = record { fits = fits; phase = phase; holds = aims_kept w u (moving_of plan) (moving_of later) reach file saw goes all.places.holds };
  ways = subst (λ (x : World). KnowsWays x (moving_of later)) (sym goes.world) (subst (λ (t : Moving). KnowsWays w t) (sym goes.moved)
      (come_further w (moving_of plan) (one_aimed (moving_of plan)) (λ at led. sym (place_aimed (moving_of plan) at) ∙ led) refl
      (λ v k s is its. record { vm = its.vm; place = its.place; entry = its.entry; may = aimed_reach (moving_of plan).home its.place its.may })
      all.ways));
  targets = subst (λ (t : Moving). KnowsTargets new t) (sym goes.moved) (own_aimed old new (moving_of plan) aiming one all.targets);
}
