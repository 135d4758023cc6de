-- What is known of ways and targets as a move begins, and as it ends.
use Rattle.std.proofs.Common.{◌≡◌, ℕ, Bool, true, false, ◌||◌, nat_lt, Option, Some, None, ◌⊎◌, inl, inr, refl, sym, ap, ◌∙◌, subst, arith}
use Rattle.std.proofs.lemmas.Bool.{false≢true}
use Rattle.std.proofs.lemmas.Bool.Decides.{nat_tests}
use Rattle.aia_file.specs.InterruptFile.{InterruptFile}
use Rattle.aia_file.specs.declared.spot.Spot.TheVariants.{MachineFile, SupervisorFile, GuestFile, Nowhere}
use Rattle.aia_vcpu.specs.declared.place.GuestPlace.{GuestPlace}
use Rattle.aia_vcpu.specs.declared.rest.Rest.{Rest}
use Rattle.aia_vcpu.specs.Home.{Home, Way, is_place, is_moving, at_first, ended, left, led_to}
use Rattle.aia_vcpu.specs.Home.Home.{InMemory, Resident, OnWay}
use Rattle.aia_vcpu.specs.Home.Way.{Outward, Inward, Across}
use Rattle.aia_vcpu.specs.Plans.{is_at_last, steps_done}
use Rattle.aia_vcpu.specs.Phases.{begins}
use Rattle.aia_vcpu.specs.Phases.Phase.{DrainPhase}
use Rattle.aia_vcpu.specs.BySteps.{new_file}
use Rattle.aia_vcpu.specs.Routes.{origin, entry_names, stage_names, peers_reach, MayReach, reach_stepped}
use Rattle.aia_vcpu.specs.Aims.{aims_step, pass_reaches, target_to}
use Rattle.aia_vcpu.proofs.HomeLemmas.{same_place}
use Rattle.aia_vcpu.proofs.RouteLemmas.{reach_ended, leaving_reach, shifting_reach}
use Rattle.aia_vcpu.proofs.PassLemmas.{rest_aimed}
use Rattle.aia_vcpu.proofs.PhaseLemmas.{closed_reach, drain_closed}
use Rattle.aia_vcpu_places.specs.Holds.{Hand, IsWithin}
use Rattle.aia_vcpu_places.specs.Places.{IsInMap, FilesFit, leads_to}
use Rattle.aia_vcpu_places.specs.Stores.{AreApart}
use Rattle.aia_fabric_values.specs.declared.at.At.{At}
use Rattle.aia_fabric_values.specs.declared.at.At.TheVariants.{File, Slot}
use Rattle.aia_fabric_values.specs.World.{World, stage_of}
use Rattle.aia_fabric_values.specs.Whole.{IsWhole}
use Rattle.aia_fabric_values.specs.Changes.{spot_of}
use Rattle.aia_move_values.specs.declared.who.Who.{Who}
use Rattle.aia_move_values.specs.Move.{Moving, mover, width, Ends}
use Rattle.aia_move_values.specs.PlanState.{PlanState, moving_of}
use Rattle.aia_move_values.specs.Plan.{begun}
use Rattle.aia_move_values.specs.Targets.{TargetMap, pass_count, pass_in}
use Rattle.aia_move_values.specs.Touches.{sends}
use Rattle.aia_move_values.specs.Ways.{led_by_entry, led_by_record, entry_of, written_of, leads_here, KnowsWays, KnowsTargets, KnowsAll, NothingLeadsTo, AtItsEnd}
use Rattle.aia_move_values.proofs.MachineLemmas.{machine_touched}
use Rattle.aia_move_values.proofs.MoveKept.{files_fit, slot_few, notice_low, ends_kept}
use Rattle.aia_move_values.proofs.PhaseLemmas.{last_aims_none}
use Rattle.aia_move_values.proofs.TouchLemmas.{step_touches}
use Rattle.aia_move_values.proofs.WayMoves.{ended_held, ways_stepped, words_say}
use Rattle.aia_move_values.proofs.WaySteps.{come_further}
use Rattle.aia_move_values.proofs.WayShut.{HasDrained, le_test, passes_new, targets_shut, nothing_leads}

-- ---- a move ends

-- all but the last step come after both routes are closed
drained_last : (words : ℕ) (there : Home) → is_at_last words there ≡ true → HasDrained words there
drained_last words (OnWay (Outward from) at) last = record { moves = refl; come = grind (arith, nat_tests) }
drained_last words (OnWay (Inward to) at) last = record { moves = refl; come = grind (arith, nat_tests) }
drained_last words (OnWay (Across from to) at) last = record { moves = refl; come = grind (arith, nat_tests) }
drained_last words (InMemory rest) last = absurd (cc)
drained_last words (Resident p) last = absurd (cc)

-- at rest all leads to where the move led
record LeadsTo (there : Home) (to : Option GuestPlace) : Type 0 where
  entry : entry_names there ≡ to
  stage : stage_names there ≡ to
  peers : peers_reach there ≡ to
  reached : (place : Option GuestPlace) → MayReach there place → place ≡ to

at_rest : (there : Home) → is_moving there ≡ true → LeadsTo (ended there) (new_file there)
at_rest (OnWay (Outward from) at) moves = record { entry = refl; stage = refl; peers = refl; reached = λ place may. one_reach place may }
  where
    one_reach : (place : Option GuestPlace) → MayReach (ended (OnWay (Outward from) at)) place → place ≡ None
    one_reach place (inl old) = old.0
    one_reach place (inr new) = absurd (false≢true new.1)
at_rest (OnWay (Inward to) at) moves = record { entry = refl; stage = refl; peers = refl; reached = λ place may. one_reach place may }
  where
    one_reach : (place : Option GuestPlace) → MayReach (ended (OnWay (Inward to) at)) place → place ≡ Some to
    one_reach place (inl old) = old.0
    one_reach place (inr new) = absurd (false≢true new.1)
at_rest (OnWay (Across from to) at) moves = record { entry = refl; stage = refl; peers = refl; reached = λ place may. one_reach place may }
  where
    one_reach : (place : Option GuestPlace) → MayReach (ended (OnWay (Across from to) at)) place → place ≡ Some to
    one_reach place (inl old) = old.0
    one_reach place (inr new) = absurd (false≢true new.1)
at_rest (InMemory rest) moves = absurd (cc)
at_rest (Resident p) moves = absurd (cc)

none_below : (r : ℕ) → nat_lt r 0 ≡ false
none_below r = grind (arith, nat_tests)

rest_reach : (r : ℕ) (there : Home) → is_moving there ≡ true → pass_reaches r (ended there) ≡ new_file there
rest_reach r (OnWay (Outward from) at) moves = rw (none_below r) refl
rest_reach r (OnWay (Inward to) at) moves = rw (none_below r) refl
rest_reach r (OnWay (Across from to) at) moves = rw (none_below r) refl
rest_reach r (InMemory rest) moves = absurd (cc)
rest_reach r (Resident p) moves = absurd (cc)

pub not_moving : (there : Home) → is_moving (ended there) ≡ false
not_moving (OnWay (Outward from) at) = refl
not_moving (OnWay (Inward to) at) = refl
not_moving (OnWay (Across from to) at) = refl
not_moving (InMemory rest) = refl
not_moving (Resident p) = refl

pub ends_all : (w u : World) (map : TargetMap) (plan : PlanState) (reach : Option GuestPlace) (file : InterruptFile) (saw : Bool) (hand : Hand)
    → IsWhole w → AreApart (moving_of plan).home → IsWithin w.n (width w) file → KnowsAll w map plan reach file saw → Ends w (moving_of plan) u hand
    → AtItsEnd u map (moving_of plan) hand
ends_all w u map plan reach file saw hand whole two within all ends =
    let m = moving_of plan in
    let fits = all.places.fits in
    let has = drained_last (width w) m.home ends.last in
    let none = last_aims_none (width w) m ends.last in
    let touches = step_touches w u m hand whole fits ends.step in
    let same = machine_touched (sends ends.step.access m.hand) w u m touches in
    let held = ends_kept w u m whole fits two reach file saw hand ends within all.places.holds in
    let there = at_rest m.home has.moves in
    let ways = ways_stepped (sends ends.step.access m.hand) w u m m fits touches all.ways
    (record { entry = λ led. refl; written = λ led. refl; in_force = λ led. refl; named = λ led. refl }) in
    let closed = drain_closed (width w) m.home has.moves (le_test (begins (width w) m.home DrainPhase) (steps_done m.home) has.come) in
    let own = leads_to m.who.found.slot m.who.found.notice in
    record {
      shut = record {
        ways = nothing_leads w u m whole fits same two has.moves ways
            (held.routes.in_force ∙ ap own (there.reached (reach_stepped m.home reach) held.routes.may))
            (words_say u (mover m) m.who.found.slot m.who.found.notice (ended m.home) (slot_few w m whole fits) (notice_low w m whole fits)
            (in_map m.home (files_fit w m whole fits) has.moves) held.routes.word0 held.routes.word1 ∙ ap own there.entry)
            (held.routes.stage_in_force ∙ there.peers) (held.routes.stage ∙ there.stage)
            (λ place may. closed_reach m.home place closed.0 may);
        targets = targets_shut w map m whole fits two has none all.targets;
      };
      ways = come_further u m (record m { home = ended m.home; hand = hand }) (ended_here m hand) refl
          (λ v k s is its. record {
            vm = its.vm;
            place = its.place;
            entry = its.entry;
            may = reach_ended
                (width w) m.home its.place ends.last its.may;
          })
          ways;
      targets = record {
        passes = all.targets.passes;
        come = rest_aimed (pass_count m.who) (ended m.home) (not_moving m.home);
        once = all.targets.once;
        ready = all.targets.ready;
        aimed = λ r low. all.targets.aimed r low
            ∙ ap (target_to m.who.found.notice (pass_in m.who r).number (pass_in m.who r).identity)
            (passes_new w map m whole fits two has none all.targets r low ∙ sym (rest_reach r m.home has.moves));
      };
    }
  where
    ended_here : (m : Moving) (hand : Hand) (at : Option At) → leads_here (record m { home = ended m.home; hand = hand }) at ≡ true
        → leads_here m at ≡ true
    ended_here m hand None led = led
    ended_here m hand (Some (Slot q)) led = led
    ended_here m hand (Some (File (GuestFile h f))) led = ended_held m.home (record { hart = h; file = f }) led
    ended_here m hand (Some (File (MachineFile h))) led = led
    ended_here m hand (Some (File (SupervisorFile h))) led = led
    ended_here m hand (Some (File Nowhere)) led = led

    in_map : (there : Home) → FilesFit there → is_moving there ≡ true → (p : GuestPlace) → entry_names (ended there) ≡ Some p → IsInMap p
    in_map (OnWay (Outward from) at) fit moves p e = absurd (cc)
    in_map (OnWay (Inward to) at) fit moves p e = fit.own p e
    in_map (OnWay (Across from to) at) fit moves p e = fit.next p e
    in_map (InMemory rest) fit moves p e = absurd (cc)
    in_map (Resident q) fit moves p e = absurd (cc)

-- ---- a move begins

-- the places of a move that begins: those that the virtual hart has, and a file to which nothing leads
module _ (w : World) (who : Who) (hand now : Hand) where
  abbrev resting : Home → Moving
  resting there = record { who = who; home = there; hand = hand }

  begun_ways : (there : Home) (way : Way) → ((at : Option At) → leads_here (begun who way now) at ≡ true
      → (leads_here (resting there) at ≡ true) ⊎ ((p : GuestPlace) × (led_to way ≡ Some p) × (at ≡ Some (File (spot_of p)))))
      → ((place : Option GuestPlace) → MayReach there place → MayReach (OnWay way at_first) place)
      → ((p : GuestPlace) → led_to way ≡ Some p → NothingLeadsTo w (File (spot_of p))) → KnowsWays w (resting there) → KnowsWays w (begun who way now)
  begun_ways there way here may free knows = record {
    entries = λ g led. elim (here (led_by_entry w (entry_of w g)) led) [
      | inl old ↦ knows.entries g old
      | inr new ↦ absurd ((free new.0 new.1).entries g new.2)
    ];
    written = λ g stands led. elim (here (led_by_entry w (written_of w g)) led) [
      | inl old ↦ knows.written g stands old
      | inr new ↦ absurd ((free new.0 new.1).written g stands new.2)
    ];
    records = λ g stands led. elim (here (led_by_record w g (stage_of w g).in_force) led) [
      | inl old ↦ knows.records g stands old
      | inr new ↦ absurd ((free new.0 new.1).records g stands new.2)
    ];
    named = λ g stands led. elim (here (led_by_record w g (stage_of w g).written) led) [
      | inl old ↦ knows.named g stands old
      | inr new ↦ absurd ((free new.0 new.1).named g stands new.2)
    ];
    flying = λ v k s is led. elim (here (led_by_entry w s.entry) led) [
      | inl old ↦ let its = knows.flying v k s is old in
          record { vm = its.vm; place = its.place; entry = its.entry; may = may its.place its.may }
      | inr new ↦ absurd ((free new.0 new.1).flights v k s is new.2)
    ];
  }

  pub leave_begins : (p : GuestPlace) → KnowsWays w (resting (Resident p)) → KnowsWays w (begun who (Outward p) now)
  leave_begins p = begun_ways (Resident p) (Outward p) (λ at led. inl (same_here at led)) (λ place may. leaving_reach (Resident p) place may)
      (λ q e. absurd (cc))
    where
      same_here : (at : Option At) → leads_here (begun who (Outward p) now) at ≡ true → leads_here (resting (Resident p)) at ≡ true
      same_here None led = led
      same_here (Some (Slot q)) led = led
      same_here (Some (File (GuestFile h f))) led = led
      same_here (Some (File (MachineFile h))) led = led
      same_here (Some (File (SupervisorFile h))) led = led
      same_here (Some (File Nowhere)) led = led

  pub arrive_begins : (rest : Rest) (to : GuestPlace) → NothingLeadsTo w (File (spot_of to)) → KnowsWays w (resting (InMemory rest))
      → KnowsWays w (begun who (Inward to) now)
  arrive_begins rest to free = begun_ways (InMemory rest) (Inward to) here (λ place may. begins_reach place may)
      (λ q e. let same : to ≡ q = cc in subst (λ (x : GuestPlace). NothingLeadsTo w (File (spot_of x))) same free)
    where
      here : (at : Option At) → leads_here (begun who (Inward to) now) at ≡ true
          → (leads_here (resting (InMemory rest)) at ≡ true) ⊎ ((p : GuestPlace) × (Some to ≡ Some p) × (at ≡ Some (File (spot_of p))))
      here None led = inl led
      here (Some (Slot q)) led = inl led
      here (Some (File (GuestFile h f))) led =
          inr (to, refl, ap (λ (x : GuestPlace). Some (File (spot_of x))) (same_place (record { hart = h; file = f }) to led))
      here (Some (File (MachineFile h))) led = inl led
      here (Some (File (SupervisorFile h))) led = inl led
      here (Some (File Nowhere)) led = inl led

      begins_reach : (place : Option GuestPlace) → MayReach (InMemory rest) place → MayReach (OnWay (Inward to) at_first) place
      begins_reach place (inl old) = inl (old.0, refl)
      begins_reach place (inr new) = absurd (false≢true new.1)

  pub shift_begins : (p to : GuestPlace) → NothingLeadsTo w (File (spot_of to)) → KnowsWays w (resting (Resident p))
      → KnowsWays w (begun who (Across p to) now)
  shift_begins p to free = begun_ways (Resident p) (Across p to) here (λ place may. shifting_reach to (Resident p) place may)
      (λ q e. let same : to ≡ q = cc in subst (λ (x : GuestPlace). NothingLeadsTo w (File (spot_of x))) same free)
    where
      either : (a b : Bool) → (a || b) ≡ true → (a ≡ true) ⊎ (b ≡ true)
      either true b e = inl refl
      either false b e = inr e

      here : (at : Option At) → leads_here (begun who (Across p to) now) at ≡ true
          → (leads_here (resting (Resident p)) at ≡ true) ⊎ ((q : GuestPlace) × (Some to ≡ Some q) × (at ≡ Some (File (spot_of q))))
      here None led = inl led
      here (Some (Slot q)) led = inl led
      here (Some (File (GuestFile h f))) led = elim (either (is_place (record { hart = h; file = f }) p)
          (is_place (record { hart = h; file = f }) to) led) [
            | inl old ↦ inl old
            | inr new ↦ inr (to, refl, ap (λ (x : GuestPlace). Some (File (spot_of x))) (same_place (record { hart = h; file = f }) to new))
          ]
      here (Some (File (MachineFile h))) led = inl led
      here (Some (File (SupervisorFile h))) led = inl led
      here (Some (File Nowhere)) led = inl led

-- and its targets
pub begun_targets : (map : TargetMap) (who : Who) (hand now : Hand) (there : Home) (way : Way) → is_moving there ≡ false → origin there ≡ left way
    → KnowsTargets map (record { who = who; home = there; hand = hand }) → KnowsTargets map (begun who way now)
begun_targets map who hand now there way rests same knows = record {
  passes = knows.passes;
  come = record { late = λ e. absurd (false≢true (sym (none_below 0) ∙ e)); all = λ e. absurd (begins_low way e) };
  once = knows.once;
  ready = knows.ready;
  aimed = λ r low. knows.aimed r low ∙ ap (target_to who.found.notice (pass_in who r).number (pass_in who r).identity)
      (resting_reach r there rests ∙ same ∙ sym (first_reach r way));
}
  where
    resting_reach : (r : ℕ) (there : Home) → is_moving there ≡ false → pass_reaches r there ≡ origin there
    resting_reach r (InMemory rest) rests = rw (none_below r) refl
    resting_reach r (Resident p) rests = rw (none_below r) refl
    resting_reach r (OnWay way at) rests = absurd (cc)

    first_reach : (r : ℕ) (way : Way) → pass_reaches r (OnWay way at_first) ≡ left way
    first_reach r way = rw (none_below r) refl

    begins_low : (way : Way) → nat_lt (aims_step (OnWay way at_first)) 0 ≡ true → ⊥
    begins_low way e = false≢true (sym (none_below (aims_step (OnWay way at_first))) ∙ e)
