-- The plans of a file, and what is answered: a line for each plan, in their order, and after that
-- of a refused one a line about a run. Profile.
use Rattle.std.specs.Prelude.{ℕ, ◌+◌, ◌-◌, Bool, true, false, ◌&&◌, nat_eq, nat_lt, nat_le, if◌then◌else◌, List, [], ◌∷◌, ◌++◌, length, map, Option, Some, None, codes, decimal, slice_get}
use Rattle.std.specs.List.{All, onto_first}
use Rattle.plans_rules.specs.declared.setting.RouteKind.{RouteKind}
use Rattle.plans_rules.specs.declared.setting.NumberSpot.{NumberSpot}
use Rattle.plans_rules.specs.declared.setting.NumberSpot.TheVariants.{InOld, InHand, InNew}
use Rattle.plans_rules.specs.declared.setting.Terms.{Terms}
use Rattle.plans_rules.specs.declared.rule.Rule.{Rule}
use Rattle.plans_rules.specs.declared.rule.Rule.TheVariants as rules
use Rattle.plans_rules.specs.declared.step.AnyStep.{AnyStep}
use Rattle.plans_rules.specs.declared.step.AnyStep.TheVariants as steps
use Rattle.plans_rules.specs.Setting.{setting_of}
use Rattle.plans_rules.specs.Safe.{IsInFile}
use Rattle.plans_judge.specs.declared.verdict.Judgement.{Judgement}
use Rattle.plans_judge.specs.declared.verdict.Judgement.TheVariants.{Accepted, Refused}
use Rattle.plans_judge.specs.Verdicts.{verdict_on}
use Rattle.plans_rules.specs.declared.step.WhichSet.{WhichSet}
use Rattle.plans_rules.specs.declared.step.WhichSet.TheVariants.{Pending, Enabled}
use Rattle.plans_counterexamples.specs.declared.trace.Begin.{Begin}
use Rattle.plans_counterexamples.specs.declared.trace.Begin.TheVariants as begins
use Rattle.plans_counterexamples.specs.declared.trace.StoreRoute.{StoreRoute}
use Rattle.plans_counterexamples.specs.declared.trace.StoreRoute.TheVariants.{Written, InForce}
use Rattle.plans_counterexamples.specs.declared.run.Extra.{Extra}
use Rattle.plans_counterexamples.specs.declared.run.Extra.TheVariants as extras
use Rattle.plans_counterexamples.specs.declared.run.Run.{Run}
use Rattle.plans_counterexamples.specs.declared.run.Fate.{Fate}
use Rattle.plans_counterexamples.specs.declared.run.Fate.TheVariants as fates
use Rattle.plans_counterexamples.specs.declared.search.Losing.{Losing}
use Rattle.plans_rules.specs.declared.step.Number.{Number}
use Rattle.plans_rules.specs.declared.step.Number.TheVariants.{Threshold, Delivery}
use Rattle.plans_counterexamples.specs.declared.untold.Store.{Store}
use Rattle.plans_counterexamples.specs.declared.untold.UntoldRun.{UntoldRun}
use Rattle.plans_counterexamples.specs.Search.{losing_run_of}
use Rattle.plans_counterexamples.specs.UntoldSearch.{untold_run_of}
use Rattle.plans_text.specs.declared.shown.Shown.{Shown}
use Rattle.plans_text.specs.declared.shown.Shown.TheVariants as shows
use Rattle.plans_text.specs.declared.limits.TheConstants.{WORDS, PRODUCERS, STEPS}
use Rattle.plans_text.specs.declared.draft.Mark.{Mark}
use Rattle.plans_text.specs.declared.draft.Draft.{Draft}
use Rattle.plans_text.specs.declared.plan_file.PlanFile.{PlanFile}
use Rattle.plans_text.specs.declared.line.PlanLine.{PlanLine}
use Rattle.plans_text.specs.declared.line.PlanLine.TheVariants as lines
use Rattle.plans_text.specs.declared.line.Reading.{Reading}
use Rattle.plans_text.specs.declared.line.Reading.TheVariants as readings
use Rattle.plans_text.specs.declared.outcome.FileOutcome.{FileOutcome}
use Rattle.plans_text.specs.declared.outcome.FileOutcome.TheVariants.{BadLine, NoPlan}
use Rattle.plans_text.specs.Outcomes.{outcome_of, worse}
use Rattle.plans_text.specs.Reading.{Text, reading}

-- ---- a plan, as far as it is read

-- Where a step was read: the number of its line in the file, from 1 on, and the line's text.
pub record StepLine : Type 0 where
  pub line : ℕ
  pub text : Text

-- A plan, as far as it is read.
pub record PlanAsRead : Type 0 where
  -- whether any line of it was read
  pub is_begun : Bool
  -- the number of its first bad line, if it has one
  pub bad : Option ℕ
  pub producers : List RouteKind
  pub terms : Terms
  pub steps : List AnyStep
  -- where each step was read
  pub places : List StepLine

-- What is declared where nothing is: one word, a place that is no memory and may hold anything,
-- notices that go to the host, and numbers that move from the old place to the new one.
abbrev pub first_terms : Terms
first_terms = record {
  words = 1;
  is_fresh = false;
  in_memory = false;
  heeds = false;
  notices_go = true;
  is_inherited = false;
  number_from = InOld;
  number_to = InNew;
}

-- A plan of which nothing is read.
abbrev pub no_plan : PlanAsRead
no_plan = record {
  is_begun = false;
  bad = None;
  producers = [];
  terms = first_terms;
  steps = [];
  places = [];
}

-- A plan with a bad line.
abbrev pub bad_at : ℕ → PlanAsRead → PlanAsRead
bad_at line plan = record plan { is_begun = true; bad = Some line }

-- ---- declarations, which stand before the first step

-- What is declared with one declaration more; None where the line is none, or its number out of
-- range.
abbrev pub terms_with : PlanLine → Terms → Option Terms
terms_with (lines.Words n) terms =
    if nat_lt 0 n && nat_le n WORDS then Some (record terms { words = n }) else None
terms_with lines.Fresh terms = Some (record terms { is_fresh = true })
terms_with lines.Memory terms = Some (record terms { in_memory = true })
terms_with lines.Heeds terms = Some (record terms { heeds = true })
terms_with lines.Inherited terms = Some (record terms { is_inherited = true })
terms_with lines.NoticesUnset terms = Some (record terms { notices_go = false })
terms_with (lines.Numbers from to) terms = Some (record terms {
  number_from = from;
  number_to = to;
})
terms_with line terms = None

-- A plan for which that is declared now, if it is good; a declaration comes before the first step.
abbrev pub with_terms : ℕ → Option Terms → PlanAsRead → PlanAsRead
with_terms line None plan = bad_at line plan
with_terms line (Some terms) plan =
    if nat_eq (length plan.steps) 0 then record plan { is_begun = true; terms = terms }
    else bad_at line plan

-- A plan with one producer more.
abbrev pub with_producer : ℕ → RouteKind → PlanAsRead → PlanAsRead
with_producer line kind plan =
    if nat_eq (length plan.steps) 0 && nat_lt (length plan.producers) PRODUCERS then record plan {
      is_begun = true;
      producers = plan.producers ++ kind ∷ [];
    } else bad_at line plan

-- ---- steps

-- Whether a step names words of the file and producers that are declared.
abbrev pub is_known : ℕ → ℕ → AnyStep → Bool
is_known words producers (steps.Route p) = nat_lt p producers
is_known words producers (steps.Fence p) = nat_lt p producers
is_known words producers (steps.Switch p) = nat_lt p producers
is_known words producers (steps.Pause p) = nat_lt p producers
is_known words producers (steps.Resume p) = nat_lt p producers
is_known words producers (steps.Zero place s w) = nat_lt w words
is_known words producers (steps.Take s w) = nat_lt w words
is_known words producers (steps.Copy s w) = nat_lt w words
is_known words producers (steps.Join s w) = nat_lt w words
is_known words producers (steps.Put s w) = nat_lt w words
is_known words producers (steps.Look w) = nat_lt w words
is_known words producers step = true

-- A plan with one step more, from this line of the file.
abbrev pub with_step : ℕ → Text → AnyStep → PlanAsRead → PlanAsRead
with_step line text step plan =
    if is_known plan.terms.words (length plan.producers) step && nat_lt (length plan.steps) STEPS
    then record plan {
      is_begun = true;
      steps = plan.steps ++ step ∷ [];
      places = plan.places ++ record { line = line; text = text } ∷ [];
    } else bad_at line plan

-- A plan with one line more, of this number and this text.
abbrev pub with_line : ℕ → Text → PlanLine → PlanAsRead → PlanAsRead
with_line line text (lines.Step step) plan = with_step line text step plan
with_line line text (lines.Producer kind) plan = with_producer line kind plan
with_line line text x plan = with_terms line (terms_with x plan.terms) plan

-- ---- what is answered of a plan

-- The word of a rule.
abbrev pub rule_word : Rule → Text
rule_word rules.Routes = codes "routes"
rule_word rules.Words = codes "words"
rule_word rules.Blank = codes "blank"
rule_word rules.Numbers = codes "numbers"
rule_word rules.Freeing = codes "freeing"
rule_word rules.Notice = codes "notice"

-- Where a rule is broken: at a step, whose line is given as it was read, or in the end.
abbrev pub place_text : Option StepLine → Text
place_text None = codes " in the end"
place_text (Some place) =
    codes " at line " ++ (decimal place.line ++ (codes ": " ++ place.text))

-- ---- the run that is shown of a plan that loses something, in a line of its own

-- How it is said in which set the identity stands.
abbrev pub bank_word : WhichSet → Text
bank_word Pending = codes " is pending "
bank_word Enabled = codes " is enabled "

-- Where it stands at the start.
abbrev pub begin_word : Begin → Text
begin_word begins.Nowhere = codes "nowhere at the start"
begin_word begins.InOld = codes "in the old place at the start"
begin_word begins.InNew = codes "in the new place at the start"

-- By which route a store goes.
abbrev pub route_word : StoreRoute → Text
route_word Written = codes " by its written route"
route_word InForce = codes " by its route in force"

-- After which line a store comes.
abbrev pub behind_text : Option StepLine → Text
behind_text None = codes " before the first step"
behind_text (Some place) = codes " behind line " ++ decimal place.line

-- The same of one that has so many steps before it.
abbrev pub between_text : List StepLine → ℕ → Text
between_text places before =
    if nat_eq before 0 then behind_text None else behind_text (slice_get places (before - 1))

-- What comes between the steps of the run.
abbrev pub extra_text : List StepLine → ℕ → Extra → Text
extra_text places producer extras.Nothing = []
extra_text places producer (extras.Stores before route) =
    codes "; producer " ++ (decimal producer ++ (codes " stores it"
    ++ (between_text places before ++ route_word route)))
extra_text places producer (extras.Sends before lands) =
    codes "; a store of producer " ++ (decimal producer ++ (codes " for it is sent"
    ++ (between_text places before ++ (codes ", and lands" ++ (between_text places lands
    ++ codes ", or sooner, at its fence")))))

-- Which identity is followed, in which set, and where it stands at the start.
abbrev pub case_text : Run → Text
case_text run =
    decimal run.case.identity ++ (bank_word run.case.bank ++ begin_word run.begin)

-- How a number is named.
abbrev pub number_word : Number → Text
number_word Threshold = codes "threshold"
number_word Delivery = codes "delivery"

-- Which line it is that a step with so many steps before it stands at.
abbrev pub line_text : List StepLine → ℕ → Text
line_text places before = elim (slice_get places before) [
  | None ↦ codes "a line"
  | Some place ↦ codes "line " ++ decimal place.line
]

-- What becomes in the end of what is followed: a sentence, of the identity or of a number.
abbrev pub fate_text : List StepLine → Run → Fate → Text
fate_text places run fates.NotLed =
    codes "; in the end it is in the old place, where the route of producer "
    ++ (decimal run.case.producer ++ codes " leads still")
fate_text places run fates.NotTaken =
    codes "; in the end it is in the old place, since nothing takes its word"
fate_text places run (fates.TakenEarly before) =
    codes "; in the end it is in the old place, since "
    ++ (line_text places before ++ codes " takes its word too early")
fate_text places run fates.Unled =
    codes "; in the end the route in force of producer "
    ++ (decimal run.case.producer ++ codes " leads to the old place still")
fate_text places run fates.Held = codes "; in the end it is in the hand alone: it is lost"
fate_text places run fates.Gone = codes "; in the end it is nowhere: it is lost"
fate_text places run fates.LeftOver =
    codes "; in the end it is in the new place, where nobody asked for it"
fate_text places run fates.Misplaced =
    codes "; in the end " ++ (number_word run.case.number
    ++ codes " is not where it has to be, as it was")
fate_text places run fates.Strayed =
    codes "; the old place is reached after it was given back"
fate_text places run fates.Inherited =
    codes "; in the end " ++ (number_word run.case.number
    ++ codes " is left in the old place for its next owner")

-- What is shown where no run is found: others were not looked for.
abbrev pub none_text : Text
none_text = 10 ∷ codes "  run: none was found among those that are tried"

-- The run that is shown, if one is found.
abbrev pub run_text : List StepLine → Option Losing → Text
run_text places None = none_text
run_text places (Some found) =
    (10 ∷ codes "  run: identity ")
    ++ (case_text found.run ++ (extra_text places found.run.case.producer found.run.extra
    ++ fate_text places found.run found.fate))

-- ---- the run that is shown of a plan that may leave its host untold

-- How a spot is named.
abbrev pub spot_word : NumberSpot → Text
spot_word InOld = codes " in the old place"
spot_word InHand = codes " in the hand"
spot_word InNew = codes " in the new place"

-- The store of such a run, if it has one.
abbrev pub store_text : List StepLine → Option Store → Text
store_text places None = codes ", and pending there"
store_text places (Some store) =
    extra_text places store.producer (extras.Stores store.before store.route)

-- Where the threshold lets the identity through at the start.
abbrev pub threshold_text : Option NumberSpot → Text
threshold_text None = codes "1 everywhere"
threshold_text (Some spot) = codes "0" ++ (spot_word spot ++ codes " and 1 elsewhere")

-- Where delivery is 1 at the start.
abbrev pub delivery_text : NumberSpot → Text
delivery_text spot =
    codes "; at the start delivery is 1" ++ (spot_word spot
    ++ codes " and 0 elsewhere, and the threshold is ")

-- How it ends; the numbers are named where a notice heeds them.
abbrev pub untold_end_text : Bool → UntoldRun → Text
untold_end_text true run =
    delivery_text run.delivery ++ (threshold_text run.threshold
    ++ (codes "; in the end it is pending, enabled and let through in the new place"
    ++ codes ", and the host was not told, or that was taken back"))
untold_end_text false run =
    codes "; in the end it is pending and enabled in the new place"
    ++ codes ", and the host was not told, or that was taken back"

-- How the run shown for an untold host begins.
abbrev pub untold_begin_text : UntoldRun → Text
untold_begin_text run =
    (10 ∷ codes "  run: identity ")
    ++ (decimal run.identity ++ codes " is enabled in the old place at the start")

-- The run that is shown, if one is found.
abbrev pub untold_text : List StepLine → Bool → Option UntoldRun → Text
untold_text places heeds None =
    none_text ++ codes "; the rule may ask for more than that the host is told"
untold_text places heeds (Some run) =
    untold_begin_text run ++ (store_text places run.store ++ untold_end_text heeds run)

-- ---- what is shown of a verdict

-- The text of what is shown.
abbrev pub shown_text : List StepLine → Shown → Text
shown_text places shows.Nothing = []
shown_text places (shows.Losing run) = run_text places run
shown_text places (shows.Untold run heeds) = untold_text places heeds run

-- The text of a verdict, with what is shown of it.
abbrev pub verdict_text : List StepLine → Shown → Judgement → Text
verdict_text places shown Accepted = codes "accepted"
verdict_text places shown (Refused rule before) =
    codes "refused " ++ (rule_word rule ++ (place_text (slice_get places before)
    ++ shown_text places shown))

-- Of a plan that breaks a rule of safety a run that loses something; of one that breaks the rule on
-- notices one that leaves the host untold.
abbrev pub shown_of : List RouteKind → Terms → List AnyStep → Judgement → Shown
shown_of producers terms plan Accepted = shows.Nothing
shown_of producers terms plan (Refused rules.Notice before) =
    shows.Untold (untold_run_of producers terms plan) terms.heeds
shown_of producers terms plan (Refused rule before) =
    shows.Losing (losing_run_of rule producers terms plan before)

-- The text of the verdict on a plan.
abbrev pub found_text : List StepLine → List RouteKind → Terms → List AnyStep → Judgement → Text
found_text places producers terms plan verdict =
    verdict_text places (shown_of producers terms plan verdict) verdict

-- What is answered of a plan: its first bad line, or the verdict.
abbrev pub bad_or_verdict : Option ℕ → PlanAsRead → Text
bad_or_verdict (Some line) plan = codes "bad line " ++ decimal line
bad_or_verdict None plan =
    found_text plan.places plan.producers plan.terms plan.steps
    (verdict_on (setting_of plan.producers plan.terms) plan.steps)

-- What is answered of a plan that ends, with its LF: nothing, where it did not begin.
abbrev pub plan_answer : PlanAsRead → Text
plan_answer plan =
    if plan.is_begun then bad_or_verdict plan.bad plan ++ 10 ∷ [] else []

-- What comes of a plan that ends: a bad line, or what the verdict says; no plan, where it did not
-- begin.
abbrev pub bad_or_outcome : Option ℕ → PlanAsRead → FileOutcome
bad_or_outcome (Some line) plan = BadLine
bad_or_outcome None plan =
    outcome_of (verdict_on (setting_of plan.producers plan.terms) plan.steps)

abbrev pub plan_outcome : PlanAsRead → FileOutcome
plan_outcome plan = if plan.is_begun then bad_or_outcome plan.bad plan else NoPlan

-- ---- a file

-- The plan that is being read, how many lines were read, and of the plans before it the answers and
-- what came of them.
pub record FileRead : Type 0 where
  pub plan : PlanAsRead
  pub lines : ℕ
  pub answers : Text
  pub outcome : FileOutcome

-- Nothing is read yet.
abbrev pub none_read : FileRead
none_read = record { plan = no_plan; lines = 0; answers = []; outcome = NoPlan }

-- What came of all plans, once the last one ends too.
abbrev pub all_outcomes : FileRead → FileOutcome
all_outcomes read = worse read.outcome (plan_outcome read.plan)

-- A plan begins: the one before it ends. Where the line that begins it is bad, so is the plan.
abbrev pub plan_begun : FileRead → FileRead
plan_begun read = record {
  plan = record no_plan { is_begun = true };
  lines = read.lines;
  answers = read.answers ++ plan_answer read.plan;
  outcome = all_outcomes read;
}

abbrev pub bad_plan_begun : FileRead → FileRead
bad_plan_begun read = record (plan_begun read) { plan = bad_at read.lines (plan_begun read).plan }

-- A line that is no `plan`; after a bad one nothing more is read of a plan.
abbrev pub line_read : Text → PlanLine → FileRead → FileRead
line_read text line read = elim read.plan.bad [
  | Some bad ↦ read
  | None ↦ record read { plan = with_line read.lines text line read.plan }
]

-- What is read with one text more, by what that says; of a bad one its plan is bad.
abbrev pub as_read : Text → Reading → FileRead → FileRead
as_read text readings.Skip read = read
as_read text readings.Bad read = elim read.plan.bad [
  | Some bad ↦ read
  | None ↦ record read { plan = bad_at read.lines read.plan }
]
as_read text readings.BadPlan read = bad_plan_begun read
as_read text (readings.Line lines.Plan) read = plan_begun read
as_read text (readings.Line line) read = line_read text line read

-- The same, by the text.
abbrev pub with_text : FileRead → Text → FileRead
with_text read text = as_read text (reading text) (record read { lines = read.lines + 1 })

-- What is read with more texts, the first first.
abbrev pub with_texts : FileRead → List Text → FileRead
with_texts read [] = read
with_texts read (text ∷ texts) = with_texts (with_text read text) texts

-- All answers, once the last plan ends too.
abbrev pub all_answers : FileRead → Text
all_answers read = read.answers ++ plan_answer read.plan

-- The texts of a file: its bytes cut at LF, and a last text where bytes stand after the last LF.
abbrev pub texts_of : Text → List Text
texts_of [] = []
texts_of (b ∷ bytes) = if nat_eq b 10 then [] ∷ texts_of bytes else onto_first b (texts_of bytes)

-- What is answered of the bytes of a file.
unfoldable pub answers : Text → Text
answers bytes = all_answers (with_texts none_read (texts_of bytes))

-- What comes of the plans of a file, by its bytes.
unfoldable pub outcome : Text → FileOutcome
outcome bytes = all_outcomes (with_texts none_read (texts_of bytes))

-- ---- what the program's values stand for

-- Where a step was read, as the program keeps it.
abbrev pub place_of : Mark → StepLine
place_of mark = record { line = mark.line; text = mark.text.items }

-- The plan that a draft of the program is.
abbrev pub plan_of : Draft → PlanAsRead
plan_of draft = record {
  is_begun = draft.is_begun;
  bad = draft.bad;
  producers = draft.producers.items;
  terms = draft.terms;
  steps = draft.steps.items;
  places = map place_of draft.marks.items;
}

-- The words that the steps name are words of the file.
abbrev pub AreInFile : Draft → Type 0
AreInFile draft = All (IsInFile draft.terms.words) draft.steps.items

-- What is read, as the program keeps it.
abbrev pub read_of : PlanFile → FileRead
read_of file = record {
  plan = plan_of file.draft;
  lines = file.lines;
  answers = file.answers.items;
  outcome = file.outcome;
}
