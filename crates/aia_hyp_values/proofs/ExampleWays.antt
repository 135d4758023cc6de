-- The example: its targets stand for the history, and the plan of the leave knows all, with two
-- stores in flight.
use Rattle.std.proofs.Common.{◌≡◌, ℕ, ◌<◌, true, false, nat_eq, List, [], ◌∷◌, ◌++◌, length, None, refl, sym, ap, subst, ◌∙◌, arith, ◌≤◌, ◌/◌, Option, Some}
use Rattle.std.specs.Int.{is_in_range}
use Rattle.std.proofs.lemmas.Bool.{ne_eqb}
use Rattle.std.proofs.lemmas.Bool.Decides.{nat_tests}
use Rattle.aia_word.specs.Sets.{least_of}
use Rattle.aia_vcpu.specs.Aims.{target_to}
use Rattle.aia_file.specs.Imsic.{IsThere}
use Rattle.aia_file.specs.InterruptFile.{InterruptFile, landed}
use Rattle.aia_vcpu.specs.declared.place.GuestPlace.{GuestPlace}
use Rattle.aia_vcpu_places.specs.Holds.{IsWithin}
use Rattle.aia_fabric_values.specs.declared.flying.Flying.{Flying}
use Rattle.aia_fabric_values.specs.World.{World}
use Rattle.aia_fabric_values.specs.Whole.{IsWhole}
use Rattle.aia_fabric_values.specs.Changes.{spot_of}
use Rattle.aia_fabric_values.specs.Flights.{Lands}
use Rattle.aia_move_values.specs.Ways.{led_by_entry, leads_here, landed_if, KnowsAll, OldPlaceIsShut}
use Rattle.aia_move_values.proofs.WayLemmas.{led_own}
use Rattle.aia_move_values.proofs.WayShut.{shut}
use Rattle.aia_move_values.specs.PlanState.{moving_of}
use Rattle.aia_move_values.proofs.KnowsLemmas.{InPhase}
use Rattle.aia_move_values.proofs.WayFrames.{so_of, all_of}
use Rattle.aia_move_values.proofs.WayKnows.{sent_by, landed_all}
use Rattle.aia_model.specs.declared.line.Line.{Line}
use Rattle.aia_model.specs.Event.{History}
use Rattle.aia_model.specs.Answer.{after, after_lines}
use Rattle.aia_model.specs.Histories.{IsHistory}
use Rattle.aia_model.specs.Passes.{PassedSource, passes_of, nth_pass}
use Rattle.aia_model.specs.Aim.{pass_reach, target_for}
use Rattle.aia_model.specs.HomeOf.{home}
use Rattle.aia_model.specs.Sent.{acts_of}
use Rattle.aia_model.specs.Passable.{is_passable}
use Rattle.aia_model.specs.GuestFile.{guest_file}
use Rattle.aia_model.specs.Notice.{a_look_saw}
use Rattle.aia_model.proofs.HistoryLemmas.{after_happens}
use Rattle.aia_model.proofs.PassesStandLemmas.{passes_stand}
use Rattle.aia_vcpu.specs.Home.{is_moving}
use Rattle.aia_vcpu.specs.Home.Home.{Resident}
use Rattle.aia_move_values.specs.WorldChanges.{KnowsAtRest}
use Rattle.aia_hyp_values.specs.Passes.{own_passes}
use Rattle.aia_hyp_values.specs.Example.{leaver, stayer, leaving_history, earlier_lines, leave_lines, leaving_core, stayer_file, example_files, leave_under_way, leave_plan, sent_to_leaver, sent_to_stayer, example_world, flying_world, example_targets, leaver_interrupts, stayer_at_rest}
use Rattle.aia_hyp_values.specs.Targets.{TargetsStand}
use Rattle.aia_hyp_values.proofs.ExampleLemmas.{leaving_stands, leaving_whole, leaving_lines, passed_one, leaver_reach, leaver_has, leaver_saw}
use Rattle.aia_hyp_values.proofs.WaysInCore.{all_in_core, rest_in_core}

-- ---- the history is one of a script's lines

lines_happen : (lines : List Line) (h : History) → IsHistory h → IsHistory (after_lines h lines)
lines_happen [] h good = good
lines_happen (line ∷ later) h good = lines_happen later (after h line) (after_happens h line good)

pub leaving_happens : IsHistory leaving_history
leaving_happens = subst IsHistory leaving_lines (lines_happen (earlier_lines ++ leave_lines) [] tt)

-- ---- its targets

one_pass : (p : ℕ) → p < length (passes_of leaving_history) → p ≡ 0
one_pass p low = omega (arith, low, ap (λ (xs : List PassedSource). length xs) passed_one)

first_source : (nth_pass leaving_history 0).source ≡ 1
unfolding passes_of
first_source = refl

first_target : target_for leaving_history 0 (nth_pass leaving_history 0).to (nth_pass leaving_history 0).identity (pass_reach leaving_history 0)
    ≡ target_to 0 0 5 None
unfolding passes_of home least_of
first_target = refl

only_source : (s : ℕ) → is_in_range 1 1 s ≡ true → s ≡ 1
only_source s inside = grind (arith, nat_tests)

source_ready : is_passable (acts_of leaving_history) 1 ≡ true
source_ready = ap (is_passable (acts_of leaving_history)) (sym first_source)
    ∙ ((passes_stand leaving_history leaving_happens).pass 0 (omega (arith, ap (λ (xs : List PassedSource). length xs) passed_one))).passable

pub example_targets_stand : TargetsStand example_targets leaving_history
example_targets_stand = record {
  harts = refl;
  tells = λ s inside. let is = only_source s inside in
      ap (λ n. nat_eq n 1) is ∙ sym (ap (is_passable (acts_of leaving_history)) is ∙ source_ready);
  ready = λ p low. ap (λ k. nat_eq (nth_pass leaving_history k).source 1) (one_pass p low) ∙ ap (λ s. nat_eq s 1) first_source;
  aimed = λ p low. sym (ap (λ k. target_for leaving_history k (nth_pass leaving_history k).to (nth_pass leaving_history k).identity
      (pass_reach leaving_history k)) (one_pass p low) ∙ first_target);
}

-- ---- the plan

all_known : KnowsAll example_world example_targets leave_plan None leaver_interrupts false
all_known =
    subst (λ file. KnowsAll example_world example_targets leave_plan None file false) leaver_has
    (subst (λ saw. KnowsAll example_world example_targets leave_plan None (guest_file leaving_history leaver) saw) leaver_saw
    (subst (λ reach. KnowsAll example_world example_targets leave_plan reach (guest_file leaving_history leaver) (a_look_saw leaving_history leaver))
    leaver_reach (all_in_core leaving_core leaving_history leaver leave_plan leaving_stands leaving_whole refl refl example_targets leaving_happens
    example_targets_stand)))

pub flying_known : KnowsAll flying_world example_targets leave_plan None leaver_interrupts false
flying_known =
    let so = so_of example_world example_targets leave_plan None leaver_interrupts false all_known in
    let first = sent_by example_world example_targets (InPhase leave_plan) (moving_of leave_plan) None leaver_interrupts false so leaver 0 3
    sent_to_leaver.entry refl in
    all_of flying_world example_targets leave_plan None leaver_interrupts false
    (sent_by (record example_world { flights = (sent_to_leaver ∷ []) ∷ [] }) example_targets (InPhase leave_plan) (moving_of leave_plan) None
    leaver_interrupts false first stayer 0 5 sent_to_stayer.entry refl)

-- ---- what that gives

flying_whole : IsWhole flying_world
flying_whole = record {
  harts = leaving_whole.harts;
  guests = leaving_whole.guests;
  files = leaving_whole.files;
  greatest = leaving_whole.greatest;
  width = leaving_whole.width;
  memory = leaving_whole.memory;
  no_pending_zero = leaving_whole.no_pending_zero;
  no_enabled_zero = leaving_whole.no_enabled_zero;
  few = leaving_whole.few;
  tables = leaving_whole.tables;
  flights = refl;
  vcpus = leaving_whole.vcpus;
  vms = λ v low. let is = leaving_whole.vms v low in
      record { mask = is.mask; numbers = is.numbers; notice_hart = is.notice_hart; same_mask = is.same_mask; start = is.start; entries = is.entries };
  stages = leaving_whole.stages;
}

-- nothing leads to the file that it leaves
pub flying_shut : OldPlaceIsShut flying_world example_targets leave_under_way
flying_shut = shut flying_world example_targets leave_plan None leaver_interrupts false flying_whole tt refl flying_known

past_one : (i : ℕ) → 1 ≤ i / 64 → nat_eq 1 i ≡ false
past_one i past = ne_eqb 1 i (λ e. omega (arith, e, past))

interrupts_within : IsWithin 63 1 leaver_interrupts
interrupts_within = record {
  greatest = refl;
  all_words = refl;
  delivery = omega arith;
  threshold = omega arith;
  pending = past_one;
  enabled = past_one;
}

-- the store for it lands in its interrupt file, and the other one elsewhere
leads_to_slot : leads_here leave_under_way (led_by_entry flying_world sent_to_leaver.entry) ≡ true
leads_to_slot = ap (leads_here leave_under_way) (led_own flying_world 1 0 None flying_whole (omega arith) (λ p e. absurd (cc)))

leads_elsewhere : leads_here leave_under_way (led_by_entry flying_world sent_to_stayer.entry) ≡ false
leads_elsewhere = ap (leads_here leave_under_way) (led_own flying_world 0 0 (Some stayer_file) flying_whole (omega arith)
    (λ p e. let same : stayer_file ≡ p = cc in
    subst (λ (q : GuestPlace). IsThere example_files (spot_of q)) same (omega arith, omega arith, omega arith)))

abbrev landed_of : Flying → InterruptFile
landed_of s = landed_if (leads_here leave_under_way (led_by_entry flying_world s.entry)) s.offset s.value leaver_interrupts

pub own_lands : (u : World) → Lands flying_world u 0 0 → KnowsAll u example_targets leave_plan None (landed 0 3 leaver_interrupts) false
own_lands u l =
    let same : sent_to_leaver ≡ l.store = cc_first sent_to_leaver l.store l.is in
    subst (λ file. KnowsAll u example_targets leave_plan None file false)
    (ap landed_of (sym same) ∙ ap (λ b. landed_if b 0 3 leaver_interrupts) leads_to_slot)
    (all_of u example_targets leave_plan None (landed_of l.store) false
    (landed_all flying_world u example_targets (InPhase leave_plan) (moving_of leave_plan) None leaver_interrupts false flying_whole tt
    interrupts_within (so_of flying_world example_targets leave_plan None leaver_interrupts false flying_known) 0 0 l))
  where
    cc_first : (a b : Flying) → ◌≡◌ {A = Option Flying} (Some a) (Some b) → a ≡ b
    cc_first a b e = cc

pub other_lands : (u : World) → Lands flying_world u 0 1 → KnowsAll u example_targets leave_plan None leaver_interrupts false
other_lands u l =
    let same : sent_to_stayer ≡ l.store = cc_second sent_to_stayer l.store l.is in
    subst (λ file. KnowsAll u example_targets leave_plan None file false)
    (ap landed_of (sym same) ∙ ap (λ b. landed_if b 0 5 leaver_interrupts) leads_elsewhere)
    (all_of u example_targets leave_plan None (landed_of l.store) false
    (landed_all flying_world u example_targets (InPhase leave_plan) (moving_of leave_plan) None leaver_interrupts false flying_whole tt
    interrupts_within (so_of flying_world example_targets leave_plan None leaver_interrupts false flying_known) 0 1 l))
  where
    cc_second : (a b : Flying) → ◌≡◌ {A = Option Flying} (Some a) (Some b) → a ≡ b
    cc_second a b e = cc

-- ---- the one at rest

none_passed : own_passes 0 stayer (passes_of leaving_history) ≡ []
unfolding passes_of
none_passed = refl

stayer_home : home leaving_history stayer ≡ Resident stayer_file
stayer_home = sym (leaving_stands.vcpus stayer refl).same_home

pub stayer_rests : KnowsAtRest example_world example_targets stayer_at_rest (guest_file leaving_history stayer)
stayer_rests = rest_in_core leaving_core example_targets leaving_history stayer stayer_at_rest leaving_happens
    (record { core = leaving_stands; targets = example_targets_stand }) leaving_whole refl (ap is_moving stayer_home)
    (record { own = refl; same_home = sym stayer_home; slot = refl; notice = refl; passes = sym none_passed }) refl
