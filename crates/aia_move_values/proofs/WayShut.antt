-- Once a plan is past its aims nothing leads to the old place of its move.
use Rattle.std.proofs.Common.{◌≡◌, ◌≢◌, ℕ, ◌+◌, ◌/◌, ◌<◌, ◌≤◌, Bool, true, false, ◌&&◌, if◌then◌else◌, nat_eq, nat_lt, nat_le, is_none, Option, Some, None, inl, inr, refl, sym, ap, ◌∙◌, arith}
use Rattle.std.proofs.lemmas.Bool.{cases_Bool, cases_eq, cond-false, eq-eqb, ne_eqb, false≢true, lt-ltb}
use Rattle.std.proofs.lemmas.Bool.Decides.{nat_tests}
use Rattle.std.proofs.lemmas.List.Elements.{All-get_or}
use Rattle.aia_regs.specs.declared.limits.TheConstants.{IDENTITIES, PASSES, FIRST_PASS_IDENTITY}
use Rattle.aia_file.specs.InterruptFile.{InterruptFile, is_greatest_identity}
use Rattle.aia_file.specs.Imsic.{IsThere}
use Rattle.aia_file.specs.declared.spot.Spot.TheVariants.{GuestFile}
use Rattle.aia_vcpu.specs.declared.place.GuestPlace.{GuestPlace}
use Rattle.aia_vcpu.specs.Vms.{Vcpu}
use Rattle.aia_vcpu.specs.Home.{Home, is_place, is_moving, holds, old_end, new_end}
use Rattle.aia_vcpu.specs.Home.Home.{InMemory, Resident, OnWay}
use Rattle.aia_vcpu.specs.Home.Way.{Outward, Inward, Across}
use Rattle.aia_vcpu.specs.Plans.{steps_done}
use Rattle.aia_vcpu.specs.Phases.{Phase, begins}
use Rattle.aia_vcpu.specs.Phases.Phase.{FirstPhase, ClosingPhase, DrainPhase, EnablePhase, LookPhase, LastPhase, AllDone}
use Rattle.aia_vcpu.specs.BySteps.{new_file}
use Rattle.aia_vcpu.specs.Routes.{origin, entry_names, stage_names, MayReach, is_stage_written, is_stage_closed, peers_reach}
use Rattle.aia_vcpu.specs.Aims.{aims_done, aims_step, is_aiming, pass_reaches, target_of, target_to, AreAimed}
use Rattle.aia_vcpu.proofs.HomeLemmas.{is_itself_place, origin_is_held, new_is_held, either_file}
use Rattle.aia_vcpu.proofs.RouteLemmas.{names_reach}
use Rattle.aia_vcpu.proofs.PhaseLemmas.{closed_reach, drain_closed, looks_begin}
use Rattle.aia_regs.specs.Top.{hart_of, guest_of}
use Rattle.aia_vcpu_places.specs.Places.{IsInMap, leads_to}
use Rattle.aia_vcpu_places.specs.Stores.{AreApart}
use Rattle.aia_fabric_values.specs.declared.at.At.{At}
use Rattle.aia_fabric_values.specs.declared.at.At.TheVariants.{File}
use Rattle.aia_fabric_values.specs.World.{World, stage_of}
use Rattle.aia_fabric_values.specs.Whole.{IsWhole}
use Rattle.aia_fabric_values.specs.Changes.{spot_of}
use Rattle.aia_move_values.specs.declared.who.Pass.{Pass}
use Rattle.aia_move_values.specs.declared.who.Who.{Who}
use Rattle.aia_move_values.specs.Move.{Moving, mover, width, MoveFits, old_at, new_at, place_at}
use Rattle.aia_move_values.specs.PlanState.{PlanState, moving_of, phase_of}
use Rattle.aia_move_values.specs.Plan.{NextStepIsOf}
use Rattle.aia_move_values.specs.Targets.{TargetMap, ArePasses, pass_count, pass_in, no_pass, aims}
use Rattle.aia_move_values.specs.Ways.{led_by_entry, led_by_record, led_by_target, entry_of, written_of, is_its_place, leads_here, KnowsWays, KnowsTargets, KnowsAll, is_past_aims, NothingLeadsTo, OldPlaceIsShut}
use Rattle.aia_move_values.proofs.MoveKept.{files_fit, slot_few}
use Rattle.aia_move_values.proofs.PhaseLemmas.{step_aims}
use Rattle.aia_move_values.proofs.ViewLemmas.{same_place}
use Rattle.aia_move_values.specs.Touches.{SameMachine}
use Rattle.aia_move_values.proofs.WayLemmas.{led_own, led_recorded, led_same, recorded_same}
use Rattle.aia_move_values.proofs.WayMoves.{written_is}
use Rattle.aia_entry.specs.declared.entry.Entry.{Entry}
use Rattle.aia_vcpu.proofs.VmLemmas.{same_slot}

-- ---- it has come to the pending set

drain_first : (words : ℕ) (there : Home) → (begins words there DrainPhase ≤ begins words there EnablePhase)
    × (begins words there DrainPhase ≤ begins words there LookPhase) × (begins words there DrainPhase ≤ begins words there LastPhase)
drain_first words (OnWay way at) =
    let looks = looks_begin (old_end way) (new_end way) words in
    (omega arith, omega (arith, looks), omega arith)
drain_first words there = (omega arith, omega arith, omega arith)

-- it is being moved, and has done so many steps
pub record HasDrained (words : ℕ) (there : Home) : Type 0 where
  pub moves : is_moving there ≡ true
  pub come : begins words there DrainPhase ≤ steps_done there

by_phase : (words : ℕ) (there : Home) (phase past : Phase) → begins words there DrainPhase ≤ begins words there phase
    → begins words there phase ≤ steps_done there → steps_done there < begins words there past → HasDrained words there
by_phase words (OnWay way at) phase past before come more = record { moves = refl; come = omega (arith, before, come) }
by_phase words there phase past before come more = absurd (omega (arith, more))

drained : (words : ℕ) (m : Moving) (phase : Option Phase) → is_past_aims phase ≡ true → NextStepIsOf phase words m → HasDrained words m.home
drained words m (Some DrainPhase) past is = by_phase words m.home DrainPhase EnablePhase (omega arith) is.phase.0 is.phase.1
drained words m (Some EnablePhase) past is = by_phase words m.home EnablePhase LookPhase (drain_first words m.home).0 is.0 is.1
drained words m (Some LookPhase) past is = by_phase words m.home LookPhase LastPhase (drain_first words m.home).1 is.0 is.1
drained words m (Some LastPhase) past is = by_phase words m.home LastPhase AllDone (drain_first words m.home).2 is.0 is.1
drained words m (Some FirstPhase) past is = absurd (cc)
drained words m (Some ClosingPhase) past is = absurd (cc)
drained words m (Some AllDone) past is = absurd (cc)
drained words m None past is = absurd (cc)

past_is_some : (phase : Option Phase) → is_past_aims phase ≡ true → is_none phase ≡ false
past_is_some None past = absurd (cc)
past_is_some (Some p) past = refl

-- so all that is passed is aimed
all_aimed : (passes words : ℕ) (there : Home) → HasDrained words there → is_aiming passes there ≡ false → AreAimed passes there
    → passes ≤ aims_done there
all_aimed passes words (OnWay way at) has none come = elim (cases_eq at.steps (aims_step (OnWay way at))) [
  | inl here ↦ let at_step : nat_eq at.steps (aims_step (OnWay way at)) ≡ true = eq-eqb at.steps (aims_step (OnWay way at)) here in
      not_less at.aims passes (fewer_none (nat_eq at.steps (aims_step (OnWay way at))) (nat_lt at.aims passes) at_step none)
  | inr other ↦ not_less at.aims passes (come.all (lt-ltb (aims_step (OnWay way at)) at.steps (omega (arith, has.come, other))))
]
  where
    not_less : (a b : ℕ) → nat_lt a b ≡ false → b ≤ a
    not_less a b e = grind (arith, nat_tests)

    fewer_none : (here fewer : Bool) → here ≡ true → (here && fewer) ≡ false → fewer ≡ false
    fewer_none true fewer e none = none
    fewer_none false fewer e none = absurd (cc)
all_aimed passes words there has none come = absurd (false≢true has.moves)

-- ---- the two ends are two

ends_apart : (m : Moving) → AreApart m.home → is_moving m.home ≡ true → old_at m ≢ new_at m
ends_apart m two moves = by_home m.home two moves
  where
    by_home : (there : Home) → AreApart there → is_moving there ≡ true
        → old_at (record m { home = there }) ≢ new_at (record m { home = there })
    by_home (OnWay (Outward from) at) two moves e = absurd (cc)
    by_home (OnWay (Inward to) at) two moves e = absurd (cc)
    by_home (OnWay (Across from to) at) two moves e =
        let spots : spot_of from ≡ spot_of to = cc in
        let same = same_place from to spots in
        absurd (false≢true (sym two ∙ ap (λ (x : GuestPlace). is_place from x) (sym same) ∙ is_itself_place from))
    by_home (InMemory rest) two moves e = absurd (cc)
    by_home (Resident p) two moves e = absurd (cc)

-- the old end is one of its places
old_is_its : (m : Moving) → is_moving m.home ≡ true → leads_here m (Some (old_at m)) ≡ true
old_is_its m moves = by_home m.home moves
  where
    itself : (x : ℕ) → nat_eq x x ≡ true
    itself x = eq-eqb x x refl

    by_home : (there : Home) → is_moving there ≡ true → leads_here (record m { home = there }) (Some (old_at (record m { home = there }))) ≡ true
    by_home (OnWay (Outward from) at) moves = is_itself_place from
    by_home (OnWay (Inward to) at) moves = itself m.who.found.slot
    by_home (OnWay (Across from to) at) moves = origin_is_held (OnWay (Across from to) at) from refl
    by_home (InMemory rest) moves = absurd (cc)
    by_home (Resident p) moves = absurd (cc)

pub new_is : (m : Moving) → is_moving m.home ≡ true → place_at (new_file m.home) m.who.found.slot ≡ new_at m
new_is m moves = by_home m.home moves
  where
    by_home : (there : Home) → is_moving there ≡ true → place_at (new_file there) m.who.found.slot ≡ new_at (record m { home = there })
    by_home (OnWay way at) moves = refl
    by_home (InMemory rest) moves = absurd (cc)
    by_home (Resident p) moves = absurd (cc)

-- ---- where a target leads

pub le_test : (a b : ℕ) → a ≤ b → nat_le a b ≡ true
le_test a b e = grind (arith, nat_tests, e)

some_words : (n : ℕ) → is_greatest_identity n ≡ true → 1 ≤ (n + 1) / 64
some_words n greatest = let some : 63 ≤ n = grind (arith, nat_tests) in omega (arith, some)

pass_held : (there : Home) (r : ℕ) (p : GuestPlace) → pass_reaches r there ≡ Some p → holds p there ≡ true
pass_held there r p e = by_test (nat_lt r (aims_done there)) e
  where
    by_test : (b : Bool) → (if b then new_file there else origin there) ≡ Some p → holds p there ≡ true
    by_test true is = new_is_held there p is
    by_test false is = origin_is_held there p is

pub target_leads : (slot notice number identity : ℕ) (place : Option GuestPlace) → identity ≤ IDENTITIES → number < PASSES
    → ((p : GuestPlace) → place ≡ Some p → IsInMap p)
    → led_by_target slot (target_to notice number identity place) ≡ place_at place slot
target_leads slot notice number identity None few low fits =
    let guest : guest_of (target_of notice 0 (FIRST_PASS_IDENTITY + number)) ≡ 0 = omega (arith, low) in
    rw guest refl
target_leads slot notice number identity (Some p) few low fits =
    let is = fits p refl in
    let guest : guest_of (target_of p.hart p.file identity) ≡ p.file = omega (arith, few, is.0, is.1, is.2) in
    let hart : hart_of (target_of p.hart p.file identity) ≡ p.hart = omega (arith, few, is.0, is.1, is.2) in
    let some : nat_eq (guest_of (target_of p.hart p.file identity)) 0 ≡ false = ne_eqb _ 0 (λ e. omega (arith, e, guest, is.2)) in
    cond-false _ _ _ some ∙ (λ k. File (GuestFile (hart k) (guest k)))

each_pass : (who : Who) → ArePasses who → (r : ℕ) → r < pass_count who → ((pass_in who r).identity ≤ IDENTITIES) × ((pass_in who r).number < PASSES)
each_pass who all r low = All-get_or (λ (p : Pass). (p.identity ≤ IDENTITIES) × (p.number < PASSES)) who.passes.items r no_pass low all

-- that of a pass leads where the pass does
pub pass_leads : (w : World) (map : TargetMap) (o : Moving) → IsWhole w → MoveFits w o → KnowsTargets map o → (r : ℕ) → r < pass_count o.who
    → led_by_target o.who.found.slot (map.target (pass_in o.who r).source) ≡ place_at (pass_reaches r o.home) o.who.found.slot
pass_leads w map o whole fits knows r low =
    let each = each_pass o.who knows.passes r low in
    ap (led_by_target o.who.found.slot) (knows.aimed r low)
    ∙ target_leads o.who.found.slot o.who.found.notice (pass_in o.who r).number (pass_in o.who r).identity (pass_reaches r o.home) each.0 each.1
    (λ p e. inside p (pass_held o.home r p e))
  where
    inside : (p : GuestPlace) → holds p o.home ≡ true → IsInMap p
    inside p held = let fit = files_fit w o whole fits in elim (either_file p o.home held) [ inl own ↦ fit.own p own | inr next ↦ fit.next p next ]

-- ---- nothing leads to the old place

-- a record that is in force as it leads to the new place names that
stage_first : (there : Home) → is_stage_closed there ≡ true → is_stage_written there ≡ true
stage_first (OnWay way at) closed = grind (arith, nat_tests)
stage_first (InMemory rest) closed = absurd (cc)
stage_first (Resident p) closed = absurd (cc)

-- in a world of the same machine, where all its own routes lead to the new place
module _ (w u : World) (m : Moving) (whole : IsWhole w) (fits : MoveFits w m) (same : SameMachine w u) (two : AreApart m.home)
    (moves : is_moving m.home ≡ true) (ways : KnowsWays u m) where
  new_there : (p : GuestPlace) → new_file m.home ≡ Some p → IsThere w.imsic (spot_of p)
  new_there p e = elim (either_file p m.home (new_is_held m.home p e)) [ inl own ↦ fits.own p own | inr next ↦ fits.next p next ]

  not_new : (at : Option At) → at ≡ Some (place_at (new_file m.home) m.who.found.slot) → at ≢ Some (old_at m)
  not_new at new old =
      let both : Some (old_at m) ≡ Some (place_at (new_file m.home) m.who.found.slot) = sym old ∙ new in
      ends_apart m two moves (some_is both ∙ new_is m moves)
    where
      some_is : Some (old_at m) ≡ Some (place_at (new_file m.home) m.who.found.slot) → old_at m ≡ place_at (new_file m.home) m.who.found.slot
      some_is e = cc

  here : (at : Option At) → at ≡ Some (old_at m) → leads_here m at ≡ true
  here at is = ap (leads_here m) is ∙ old_is_its m moves

  entry_new : (e : Entry) → e ≡ leads_to m.who.found.slot m.who.found.notice (new_file m.home)
      → led_by_entry u e ≡ Some (place_at (new_file m.home) m.who.found.slot)
  entry_new e is = led_same w u same e ∙ ap (led_by_entry w) is
      ∙ led_own w m.who.found.slot m.who.found.notice (new_file m.home) whole (slot_few w m whole fits) new_there

  record_new : (place : Option GuestPlace) → place ≡ new_file m.home
      → led_by_record u (mover m) place ≡ Some (place_at (new_file m.home) m.who.found.slot)
  record_new place is = recorded_same w u same (mover m) place ∙ ap (led_by_record w (mover m)) is
      ∙ led_recorded w (mover m) (new_file m.home) new_there ∙ ap (λ q. Some (place_at (new_file m.home) q)) (sym fits.slot)

  pub nothing_leads : entry_of u (mover m) ≡ leads_to m.who.found.slot m.who.found.notice (new_file m.home)
      → written_of u (mover m) ≡ leads_to m.who.found.slot m.who.found.notice (new_file m.home) → (stage_of u (mover m)).in_force ≡ new_file m.home
      → (stage_of u (mover m)).written ≡ new_file m.home → ((place : Option GuestPlace) → MayReach m.home place → place ≡ new_file m.home)
      → NothingLeadsTo u (old_at m)
  nothing_leads entry written in_force named reached = record {
    entries = λ g is.
        let own = ways.entries g (here (led_by_entry u (entry_of u g)) is) in
        not_new (led_by_entry u (entry_of u g)) (ap (λ (x : Vcpu). led_by_entry u (entry_of u x)) own ∙ entry_new (entry_of u (mover m)) entry) is;
    written = λ g there is.
        let own = ways.written g there (here (led_by_entry u (written_of u g)) is) in
        not_new (led_by_entry u (written_of u g)) (ap (λ (x : Vcpu). led_by_entry u (written_of u x)) own
        ∙ entry_new (written_of u (mover m)) written) is;
    records = λ g there is.
        let own = ways.records g there (here (led_by_record u g (stage_of u g).in_force) is) in
        not_new (led_by_record u g (stage_of u g).in_force) (ap (λ (x : Vcpu). led_by_record u x (stage_of u x).in_force) own
        ∙ record_new (stage_of u (mover m)).in_force in_force) is;
    named = λ g there is.
        let own = ways.named g there (here (led_by_record u g (stage_of u g).written) is) in
        not_new (led_by_record u g (stage_of u g).written) (ap (λ (x : Vcpu). led_by_record u x (stage_of u x).written) own
        ∙ record_new (stage_of u (mover m)).written named) is;
    flights = λ v k s flies is.
        let its = ways.flying v k s flies (here (led_by_entry u s.entry) is) in
        not_new (led_by_entry u s.entry) (entry_new s.entry (its.entry
        ∙ ap (leads_to m.who.found.slot m.who.found.notice) (reached its.place its.may))) is;
  }

-- what is passed to it leads to the new place
module _ (w : World) (map : TargetMap) (m : Moving) (whole : IsWhole w) (fits : MoveFits w m) (two : AreApart m.home)
    (has : HasDrained (width w) m.home) (none : aims m ≡ false) (targets : KnowsTargets map m) where
  pub passes_new : (r : ℕ) → r < pass_count m.who → pass_reaches r m.home ≡ new_file m.home
  passes_new r low =
      let aimed = all_aimed (pass_count m.who) (width w) m.home has none targets.come in
      rw (lt-ltb r (aims_done m.home) (omega (arith, low, aimed))) refl

  pub targets_shut : (r : ℕ) → r < pass_count m.who
      → led_by_target m.who.found.slot (map.target (pass_in m.who r).source) ≢ old_at m
  targets_shut r low is = ends_apart m two has.moves (sym is ∙ pass_leads w map m whole fits targets r low
      ∙ ap (λ o. place_at o m.who.found.slot) (passes_new r low) ∙ new_is m has.moves)

pub shut : (w : World) (map : TargetMap) (plan : PlanState) (reach : Option GuestPlace) (file : InterruptFile) (saw : Bool) → IsWhole w
    → AreApart (moving_of plan).home → is_past_aims (phase_of plan) ≡ true → KnowsAll w map plan reach file saw
    → OldPlaceIsShut w map (moving_of plan)
shut w map plan reach file saw whole two past all =
    let m = moving_of plan in
    let has = drained (width w) m (phase_of plan) past all.places.phase in
    let none = step_aims (phase_of plan) (width w) m (some_words w.n whole.greatest) all.places.phase ∙ past_is_some (phase_of plan) past in
    let closed = drain_closed (width w) m.home has.moves (le_test (begins (width w) m.home DrainPhase) (steps_done m.home) has.come) in
    let routes = all.places.holds.routes in
    let reached : (place : Option GuestPlace) → MayReach m.home place
    → place ≡ new_file m.home = λ place may. closed_reach m.home place closed.0 may in
    let in_force : peers_reach m.home ≡ new_file m.home = rw closed.1 refl in
    let named : stage_names m.home ≡ new_file m.home = rw (stage_first m.home closed.1) refl in
    record {
      ways = nothing_leads w w m whole all.places.fits (record { n = refl; vms = refl; harts = refl; guests = refl }) two has.moves all.ways
          (routes.in_force ∙ ap (leads_to m.who.found.slot m.who.found.notice) (reached reach routes.may))
          (written_is w m reach whole all.places.fits routes
          ∙ ap (leads_to m.who.found.slot m.who.found.notice) (reached (entry_names m.home) (names_reach m.home)))
          (routes.stage_in_force ∙ in_force) (routes.stage ∙ named) reached;
      targets = targets_shut w map m whole all.places.fits two has none all.targets;
    }

-- ---- what is passed to another one

pub others_apart : (w : World) (map : TargetMap) (m o : Moving) → IsWhole w → MoveFits w m → MoveFits w o → KnowsTargets map o → mover o ≢ mover m
    → ((p : GuestPlace) → holds p m.home ≡ true → holds p o.home ≡ false) → (r : ℕ) → r < pass_count o.who
    → is_its_place m (led_by_target o.who.found.slot (map.target (pass_in o.who r).source)) ≡ false
others_apart w map m o whole mine fits knows two_harts files r low =
    ap (is_its_place m) (pass_leads w map o whole fits knows r low) ∙ elsewhere (pass_reaches r o.home) (pass_held o.home r)
  where
    slots : nat_eq o.who.found.slot m.who.found.slot ≡ false
    slots = ne_eqb o.who.found.slot m.who.found.slot (λ e. two_harts (same_slot w.vms (mover o) (mover m) fits.there mine.there
        (sym fits.slot ∙ e ∙ mine.slot)))

    elsewhere : (place : Option GuestPlace) → ((p : GuestPlace) → place ≡ Some p → holds p o.home ≡ true)
        → is_its_place m (place_at place o.who.found.slot) ≡ false
    elsewhere None held = slots
    elsewhere (Some p) held = elim (cases_Bool (holds p m.home)) [
      | inl is ↦ absurd (false≢true (sym (files p is) ∙ held p refl))
      | inr none ↦ none
    ]
