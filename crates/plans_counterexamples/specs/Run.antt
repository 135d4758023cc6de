-- A run of a plan with one store at most, and that it loses something. Profile.
use Rattle.std.specs.Prelude.{ℕ, zero, suc, ◌/◌, Bool, true, false, not, ◌&&◌, ◌||◌, nat_eq, nat_lt, if◌then◌else◌, List, [], ◌∷◌, ◌++◌, length, Option, Some, None, slice_get}
use Rattle.plans_rules.specs.declared.step.WhichSet.{WhichSet}
use Rattle.plans_rules.specs.declared.step.WhichSet.TheVariants.{Pending, Enabled}
use Rattle.plans_rules.specs.declared.step.AnyPlace.{AnyPlace}
use Rattle.plans_rules.specs.declared.step.AnyPlace.TheVariants.{Old}
use Rattle.plans_rules.specs.declared.step.AnyStep.{AnyStep}
use Rattle.plans_rules.specs.declared.rule.Rule.{Rule}
use Rattle.plans_rules.specs.declared.rule.Rule.TheVariants as rules
use Rattle.plans_rules.specs.Rules.{empties}
use Rattle.plans_rules.specs.declared.setting.RouteKind.{RouteKind}
use Rattle.plans_rules.specs.declared.setting.RouteKind.TheVariants.{Routed}
use Rattle.plans_rules.specs.declared.setting.NumberSpot.{NumberSpot}
use Rattle.plans_rules.specs.declared.setting.NumberSpot.TheVariants.{InOld, InHand, InNew}
use Rattle.plans_rules.specs.declared.setting.Terms.{Terms}
use Rattle.plans_rules.specs.Setting.{Setting, is_old, is_pending, same_bank, same_spot}
use Rattle.plans_rules.specs.Machine.{By, AnyMachine, Sets, AnyHappening, all_happened}
use Rattle.plans_rules.specs.Machine.By.{Written as AsWritten, InForce as AsInForce}
use Rattle.plans_rules.specs.Machine.AnyHappening.{Does, Stores, Sends, Lands}
use Rattle.plans_rules.specs.Safe.{IsMovedByAny, IsRun, IsStartOfAny}
use Rattle.plans_counterexamples.specs.declared.trace.Case.{Case}
use Rattle.plans_counterexamples.specs.declared.trace.StoreRoute.{StoreRoute}
use Rattle.plans_counterexamples.specs.declared.trace.StoreRoute.TheVariants.{Written, InForce}
use Rattle.plans_counterexamples.specs.declared.trace.Trace.{Trace}
use Rattle.plans_counterexamples.specs.declared.run.Run.{Run}
use Rattle.plans_counterexamples.specs.declared.run.Fate.{Fate}
use Rattle.plans_counterexamples.specs.declared.run.Fate.TheVariants as fates
use Rattle.plans_counterexamples.specs.declared.run.Extra.TheVariants as extras
use Rattle.plans_counterexamples.specs.Trace.{trace_first, begins_old, begins_new, trace_stored, unless_paused, flight_landed, worth}

-- ---- how a run begins

-- One identity of a set, if it is there at all.
abbrev pub one_bit : Bool → WhichSet → ℕ → Sets
one_bit is_there s i t j = is_there && (same_bank s t && nat_eq i j)

-- The identity that is followed, and no other one; each number is 1 where the numbers are, and 0
-- elsewhere, but in the old place 1 too, if the run has numbers left there; all leads to the old
-- place.
abbrev pub start_of : Setting → Run → AnyMachine
start_of d run = record {
  old = one_bit (begins_old run.begin) run.case.bank run.case.identity;
  new = one_bit (begins_new run.begin) run.case.bank run.case.identity;
  hand = λ s i. false;
  due = one_bit (begins_old run.begin) run.case.bank run.case.identity;
  old_number = λ n. worth (run.left || same_spot d.number_from InOld);
  new_number = λ n. worth (same_spot d.number_from InNew);
  hand_number = λ n. worth (same_spot d.number_from InHand);
  written = λ p. Old;
  in_force = λ p. Old;
  paused = λ p. false;
  flights = [];
  freed = false;
  strayed = false;
  noticed = d.notices_go;
  seen = false;
  told = false;
}

-- ---- what happens in it

-- A route of a store, as the machine names it.
abbrev pub by_of : StoreRoute → By
by_of Written = AsWritten
by_of InForce = AsInForce

-- What comes between the steps where so many are before it.
abbrev pub extra_at : Run → ℕ → List AnyHappening
extra_at run k = elim run.extra [
  | extras.Nothing ↦ []
  | extras.Stores before route ↦
      if nat_eq before k then Stores run.case.producer (by_of route) run.case.identity ∷ [] else []
  | extras.Sends before lands ↦
      (if nat_eq before k then Sends run.case.producer AsInForce run.case.identity ∷ [] else [])
      ++ (if nat_eq lands k then Lands 0 ∷ [] else [])
]

-- The step after so many, if the plan has one.
abbrev pub step_at : List AnyStep → ℕ → List AnyHappening
step_at plan k = elim (slice_get plan k) [ None ↦ [] | Some x ↦ Does x ∷ [] ]

-- What happens in the first steps of a plan, so many, with what comes before each.
abbrev pub run_upto : List AnyStep → Run → ℕ → List AnyHappening
run_upto plan run zero = []
run_upto plan run (suc k) = run_upto plan run k ++ (extra_at run k ++ step_at plan k)

-- All that happens in the run.
abbrev pub happenings : List AnyStep → Run → List AnyHappening
happenings plan run = run_upto plan run (length plan) ++ extra_at run (length plan)

-- ---- it loses something

-- It is a run of the machine from a start, and does not end as it has to.
pub record Loses (d : Setting) (plan : List AnyStep) (run : Run) : Type 0 where
  pub begins : IsStartOfAny d (start_of d run)
  pub happens : IsRun d plan (happenings plan run)
  pub ends : ¬ IsMovedByAny d (start_of d run)
      (all_happened d (happenings plan run) (start_of d run))

-- ---- as the trace tells it

-- What is followed of a run, at the start.
abbrev pub trace_begun : Run → Terms → Trace
trace_begun run terms = trace_first run.begin run.left terms

-- What is followed, once the store is sent, unless its producer is paused, and once it has landed.
abbrev pub trace_sent : Bool → Trace → Trace
trace_sent comes t = elim comes [
  | true ↦ unless_paused t (record t { flight = Some t.in_force })
  | false ↦ t
]

abbrev pub trace_flown : Case → Bool → Trace → Trace
trace_flown c comes t = elim comes [
  | true ↦ record (flight_landed c t.flight t) { flight = None }
  | false ↦ t
]

-- What is followed, once that has come which the run has after so many steps.
abbrev pub trace_extra : Run → ℕ → Trace → Trace
trace_extra run k t = elim run.extra [
  | extras.Nothing ↦ t
  | extras.Stores before route ↦ elim (nat_eq before k) [
    | true ↦ trace_stored run.case route t
    | false ↦ t
  ]
  | extras.Sends before lands ↦
      trace_flown run.case (nat_eq lands k) (trace_sent (nat_eq before k) t)
]

-- Whether the number stands in a spot as at the start.
abbrev pub trace_number : NumberSpot → Trace → Bool
trace_number spot t = elim spot [
  | InOld ↦ t.old_number
  | InHand ↦ t.hand_number
  | InNew ↦ t.new_number
]

-- Whether the bit has to stand in the new place in the end.
abbrev pub trace_wanted : Run → Trace → Bool
trace_wanted run t = elim run.case.bank [ Pending ↦ t.due | Enabled ↦ begins_old run.begin ]

-- Whether one of two is so, and the other is not.
abbrev pub differ : Bool → Bool → Bool
differ true b = not b
differ false b = b

-- Whether a store is in flight to the old place.
abbrev pub is_flying_old : Option AnyPlace → Bool
is_flying_old None = false
is_flying_old (Some place) = is_old place

-- Whether the bit does not stand where it has to in the end.
abbrev pub is_bad_bit : Run → Trace → Bool
is_bad_bit run t = differ t.new (trace_wanted run t) || t.old

-- Whether the next owner of the old place finds the number there, which it takes over.
abbrev pub is_left : Terms → Trace → Bool
is_left terms t = terms.is_inherited && (t.freed && t.old_number)

-- Whether the run has no store, and the route in force of the producer that it follows, one of so
-- many, leads to the old place.
abbrev pub is_unled : Run → ℕ → Trace → Bool
is_unled run producers t = elim run.extra [
  | extras.Nothing ↦ nat_lt run.case.producer producers && is_old t.in_force
  | extras.Stores before route ↦ false
  | extras.Sends before lands ↦ false
]

-- Whether the run of a plan with so many producers does not end as it has to, by what was followed.
abbrev pub is_bad_end : Run → ℕ → Terms → Trace → Bool
is_bad_end run producers terms t =
    is_bad_bit run t
    || (not (trace_number terms.number_to t)
    || (is_flying_old t.flight
    || ((t.strayed || is_left terms t) || is_unled run producers t)))

-- ---- it shows that a rule is broken

-- Whether the bit has to stand in the new place in the end, and does not.
abbrev pub is_missing : Run → Trace → Bool
is_missing run t = trace_wanted run t && not t.new

-- Whether a pending bit is left in the old place.
abbrev pub is_left_old : Run → Trace → Bool
is_left_old run t = is_pending run.case.bank && t.old

-- Whether an end shows that a rule of safety is broken: a pending bit is left in the old place, or,
-- of a run without a store, the producer's route leads there; a bit is missing, or an enable is
-- left there; a bit is missing, or left over in the new place; the number is not where it has to
-- be; the old place is reached after it was given back, or the number is left there. No such end
-- shows that the rule on notices is.
abbrev pub shows : Rule → Run → ℕ → Terms → Trace → Bool
shows rules.Routes run producers terms t = is_left_old run t || is_unled run producers t
shows rules.Words run producers terms t =
    (is_missing run t && not t.old) || (not (is_pending run.case.bank) && t.old)
shows rules.Blank run producers terms t = differ t.new (trace_wanted run t)
shows rules.Numbers run producers terms t = not (trace_number terms.number_to t)
shows rules.Freeing run producers terms t = t.strayed || is_left terms t
shows rules.Notice run producers terms t = false

-- The last step, of so many, that leaves nothing of a word in the old place, if there is one: by
-- how many are before it.
abbrev pub last_emptied : List AnyStep → WhichSet → ℕ → ℕ → Option ℕ
last_emptied plan s w zero = None
last_emptied plan s w (suc k) = elim (slice_get plan k) [
  | None ↦ last_emptied plan s w k
  | Some x ↦ if empties s w x then Some k else last_emptied plan s w k
]

-- Why the bit is left in the old place: its producer's route leads there to the end, or nothing
-- takes its word, or what takes it comes too early.
abbrev pub left_by : List AnyStep → Run → ℕ → Trace → Fate
left_by plan run producers t = elim (nat_lt run.case.producer producers && is_old t.in_force) [
  | true ↦ fates.NotLed
  | false ↦ elim (last_emptied plan run.case.bank (run.case.identity / 64) (length plan)) [
    | None ↦ fates.NotTaken
    | Some before ↦ fates.TakenEarly before
  ]
]

-- What becomes of the bit: it is left in the old place, it is left over in the new one, it is only
-- in the hand, or it is nowhere.
abbrev pub bit_fate : List AnyStep → Run → ℕ → Trace → Fate
bit_fate plan run producers t = elim t.old [
  | true ↦ left_by plan run producers t
  | false ↦ elim t.new [
    | true ↦ fates.LeftOver
    | false ↦ elim t.hand [ true ↦ fates.Held | false ↦ fates.Gone ]
  ]
]

-- What becomes of what is followed: the route of the producer leads to the old place still, and the
-- bit is not there; the number is not where it has to be; the old place is reached after it was
-- given back, or the number is left there; or what becomes of the bit.
abbrev pub fate_of : Rule → List AnyStep → Run → ℕ → Trace → Fate
fate_of rules.Routes plan run producers t = elim (is_left_old run t) [
  | true ↦ bit_fate plan run producers t
  | false ↦ fates.Unled
]
fate_of rules.Numbers plan run producers t = fates.Misplaced
fate_of rules.Freeing plan run producers t = elim t.strayed [
  | true ↦ fates.Strayed
  | false ↦ fates.Inherited
]
fate_of rule plan run producers t = bit_fate plan run producers t

-- Whether a producer is there, and is routed.
abbrev pub is_routed : Option RouteKind → Bool
is_routed (Some Routed) = true
is_routed kind = false

-- Whether there can be such a run: the identity is one of the file's, it stands in the new place at
-- the start only where that is not fresh, and its store, if it has one, is one that can happen.
abbrev pub can_be : Run → Terms → List RouteKind → Bool
can_be run terms producers =
    nat_lt (run.case.identity / 64) terms.words
    && ((not (begins_new run.begin) || not terms.is_fresh)
    && (elim run.extra [
      | extras.Nothing ↦ true
      | extras.Stores before route ↦ nat_lt run.case.producer (length producers)
      | extras.Sends before lands ↦ is_routed (slice_get producers run.case.producer)
    ]))
