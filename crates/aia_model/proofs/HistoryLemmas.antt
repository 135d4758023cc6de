-- Histories whose every event may happen: that of each script is one.
use Rattle.std.proofs.Common.{◌≡◌, ℕ, zero, suc, ◌+◌, ◌-◌, ◌<◌, ◌≤◌, Bool, true, false, ◌&&◌, if◌then◌else◌, nat_eq, nat_lt, is_none, is_some, length, List, [], ◌∷◌, Option, Some, None, inl, inr, refl, sym, ap, subst, ◌∙◌, arith}
use Rattle.std.proofs.lemmas.Bool.{cases_Bool, cases_eq, cases_lt, not-false, eqb-true, eq-eqb, ltb-true, ltb-false, lt-ltb, and_parts, and_from, false≢true}
use Rattle.aia_vcpu.specs.Vms.{Vcpu, vcpu_of}
use Rattle.aia_vcpu.specs.Home.{Home, is_moving, led_to, at_rest, old_end, new_end}
use Rattle.aia_vcpu.specs.Plans.{plan_steps}
use Rattle.aia_vcpu.specs.Aims.{aims_step, AreAimed, further}
use Rattle.aia_vcpu.specs.Home.Home.{InMemory, Resident, OnWay}
use Rattle.aia_model.specs.declared.line.Line.{Line}
use Rattle.aia_model.specs.declared.line.Line.TheVariants.{Machine, Step, Send, Land}
use Rattle.aia_model.specs.declared.line.Line.TheVariants as lines
use Rattle.aia_model.specs.declared.want.Want.{Want}
use Rattle.aia_model.specs.declared.answer.Answer.{Answer}
use Rattle.aia_model.specs.declared.msi.Msi.{Msi}
use Rattle.aia_model.specs.declared.parsed.Parsed.{Parsed}
use Rattle.aia_model.specs.declared.parsed.Parsed.TheVariants as parsed
use Rattle.aia_model.specs.Move.{WantedMove, mover, wanted_move}
use Rattle.aia_model.specs.Event.{History, has_machine, file_words}
use Rattle.aia_model.specs.Event.Event.{Accepted, Began, Stepped, Delivered, Landed, Relayed}
use Rattle.aia_model.specs.Vms.{has_vcpu}
use Rattle.aia_model.specs.Passes.{passes_of, passed_by, passes_for}
use Rattle.aia_model.specs.HomeOf.{home}
use Rattle.aia_model.specs.Aim.{pass_reach}
use Rattle.aia_model.specs.PassesStand.{AreForwards}
use Rattle.aia_model.specs.Refusal.{refusal}
use Rattle.aia_model.specs.Sent.{msis_sent_by}
use Rattle.aia_model.specs.Answer.{after, history_after, line_taken, whole_move, steps_of, delivered, step_taken, steps_taken, oldest_landed, landed_first, given_on, msi_taken}
use Rattle.aia_model.specs.Reading.{reading}
use Rattle.aia_model.specs.Text.{texts_of}
use Rattle.aia_model.specs.Script.{after_text, after_texts, history_of}
use Rattle.aia_model.proofs.AnswerLemmas.{after_by}
use Rattle.aia_model.proofs.BeginLemmas.{may_begin, IsBegun, begun, moves_its_own}
use Rattle.aia_vcpu.specs.Vms.{is_vcpu_in}
use Rattle.aia_vcpu.specs.BySteps.{new_file}
use Rattle.aia_vcpu.specs.declared.place.GuestPlace.{GuestPlace}
use Rattle.aia_vcpu.specs.Routes.{is_at_fence, is_closed, origin, MayReach}
use Rattle.aia_vcpu.proofs.HomeLemmas.{not_the_last}
use Rattle.aia_model.specs.Flight.{Sending, flight, flying}
use Rattle.aia_model.specs.GuestFile.{sent_to}
use Rattle.aia_model.specs.ReachOf.{sent_into, MayFly, AllMayFly, IsForOne, AllAreForOne}
use Rattle.aia_model.proofs.FlightLemmas.{all_at, none_flies, flights_on, none_for_one, sent_on, first_gone, lands_first, home_landed_first, same_first, words_first, home_stepped, passes_stepped}
use Rattle.aia_model.proofs.PassesStandLemmas.{all_aimed_in}
use Rattle.aia_model.proofs.SentLemmas.{line_forwards, forwards_then, forwards_given, number_found}
use Rattle.aia_model.specs.Histories.{MayHappen, IsHistory}
use Rattle.aia_model.proofs.RefusalLemmas.{machine_stands, step_allowed, land_allowed, send_allowed}

-- ---- a whole move: all its steps may happen

-- how many steps of its move a home has left
abbrev steps_left : ℕ → ℕ → Home → ℕ
steps_left passes words (OnWay way at) = (plan_steps (old_end way) (new_end way) words - at.steps) + (passes - at.aims)
steps_left passes words there = 0

none_left : (passes words : ℕ) (to : Option GuestPlace) → steps_left passes words (at_rest to) ≡ 0
none_left passes words None = refl
none_left passes words (Some p) = refl

-- over plain numbers: t steps come before the first that aims, of `all`, k are done, a aims
aim_less : (t all passes k a count : ℕ) → t < all → (nat_eq k t && nat_lt a passes) ≡ true → (all - k) + (passes - a) ≡ suc count
    → (all - k) + (passes - (a + 1)) ≡ count
aim_less t all passes k a count low aiming e =
    let parts = and_parts (nat_eq k t) (nat_lt a passes) aiming in
    let here = eqb-true k t parts.0 in
    let some = ltb-true a passes parts.1 in omega (arith, low, here, some, e)

all_aimed : (t passes k a : ℕ) → t ≤ k → (nat_lt t k ≡ true → nat_lt a passes ≡ false) → (nat_eq k t && nat_lt a passes) ≡ false → passes ≤ a
all_aimed t passes k a past aimed on = elim (cases_eq k t) [
  | inl here ↦ by_here here (nat_lt a passes) refl
  | inr other ↦ ltb-false a passes (aimed (lt-ltb t k (omega (arith, past, other))))
]
  where
    by_here : k ≡ t → (b : Bool) → nat_lt a passes ≡ b → passes ≤ a
    by_here here false is = ltb-false a passes is
    by_here here true is = absurd (false≢true (sym on ∙ and_from _ _ (eq-eqb k t here) is))

last_less : (t all passes k a count : ℕ) → t < all → k + 1 ≡ all → (nat_lt t k ≡ true → nat_lt a passes ≡ false)
    → (nat_eq k t && nat_lt a passes) ≡ false → (all - k) + (passes - a) ≡ suc count → 0 ≡ count
last_less t all passes k a count low last aimed on e = let none = all_aimed t passes k a (omega (arith, low, last)) aimed on in
    omega (arith, last, none, e)

step_less : (t all passes k a count : ℕ) → t < all → (nat_lt t k ≡ true → nat_lt a passes ≡ false) → (nat_eq k t && nat_lt a passes) ≡ false
    → (all - k) + (passes - a) ≡ suc count → (all - (k + 1)) + (passes - a) ≡ count
step_less t all passes k a count low aimed on e = elim (cases_lt k all) [
  | inl within ↦ omega (arith, within, e)
  | inr past ↦ let none = all_aimed t passes k a (omega (arith, low, past)) aimed on in absurd (omega (arith, past, none, e))
]

one_less : (passes words count : ℕ) (there : Home) → AreAimed passes there → steps_left passes words there ≡ suc count → (is_moving there ≡ true)
    × (steps_left passes words (further passes words there) ≡ count)
one_less passes words count (OnWay way at) aimed e = elim (cases_Bool (nat_eq at.steps (aims_step (OnWay way at)) && nat_lt at.aims passes)) [
  | inl aims ↦ (
    refl,
    rw aims (aim_less (aims_step (OnWay way at)) (plan_steps (old_end way) (new_end way) words) passes at.steps at.aims count
        (omega (arith, not_the_last way words)) aims e),
  )
  | inr on ↦ elim (cases_Bool (nat_eq (at.steps + 1) (plan_steps (old_end way) (new_end way) words))) [
    | inl last ↦ (
      refl,
      rw (on, last) (none_left passes words (led_to way)
          ∙ last_less (aims_step (OnWay way at)) (plan_steps (old_end way) (new_end way) words) passes at.steps at.aims count
          (omega (arith, not_the_last way words)) (eqb-true _ _ last) aimed.all on e),
    )
    | inr more ↦ (
      refl,
      rw (on, more) (step_less (aims_step (OnWay way at)) (plan_steps (old_end way) (new_end way) words) passes at.steps at.aims
          count (omega (arith, not_the_last way words)) aimed.all on e),
    )
  ]
]
one_less passes words count (InMemory rest) aimed e = absurd (omega (arith, e))
one_less passes words count (Resident p) aimed e = absurd (omega (arith, e))

-- landings may happen, as many as there are stores in flight
landings_happen : (count vm : ℕ) (h : History) (xs : List Sending) → flight h vm ≡ xs → length xs ≡ count → IsHistory h
    → IsHistory (oldest_landed count vm h)
landings_happen zero vm h xs is e good = good
landings_happen (suc count) vm h [] is e good = absurd (cc)
landings_happen (suc count) vm h (x ∷ xs) is e good =
    let same : length xs ≡ count = let more : suc (length xs) ≡ suc count = e in cc in
    let low : 0 < length (flight h vm) = rw is (omega (arith, e)) in
    landings_happen count vm (Landed vm 0 ∷ h) xs (first_gone vm h x xs is) same (low, good)

pub first_happens : (g : Vcpu) (h : History) → IsHistory h → IsHistory (landed_first g h)
first_happens g h good = by_fence (is_at_fence (home h g)) refl
  where
    by_fence : (b : Bool) → is_at_fence (home h g) ≡ b → IsHistory (landed_first g h)
    by_fence true e = rw e (landings_happen (length (flight h g.vm)) g.vm h (flight h g.vm) refl refl good)
    by_fence false e = rw e good

-- a step with the landings before it
there_still : (g x : Vcpu) (h : History) → has_vcpu h x ≡ true → has_vcpu (landed_first g h) x ≡ true
there_still g x h there = ap (λ vms. is_vcpu_in vms x) (same_first g h).0 ∙ there

pub step_happens : (g : Vcpu) (h : History) → has_vcpu h g ≡ true → is_moving (home h g) ≡ true → IsHistory h → IsHistory (step_taken g h)
step_happens g h there moves good = (
  (there_still g g h there, ap is_moving (home_landed_first g g h) ∙ moves, lands_first g h),
  first_happens g h good,
)

steps_happen : (count : ℕ) (g : Vcpu) (h : History) → has_vcpu h g ≡ true → steps_left (passes_for h g) (file_words h) (home h g) ≡ count
    → IsHistory h → IsHistory (steps_taken count g h)
steps_happen zero g h there left good = good
steps_happen (suc count) g h there left good =
    let one = one_less (passes_for h g) (file_words h) count (home h g) (all_aimed_in h good g) left in
    steps_happen count g (step_taken g h) (there_still g g h there)
    (ap (λ n. steps_left n (file_words (landed_first g h)) (home (step_taken g h) g)) (passes_stepped g g h)
    ∙ ap (λ w. steps_left (passes_for h g) w (home (step_taken g h) g)) (words_first g h)
    ∙ ap (steps_left (passes_for h g) (file_words h)) (home_stepped g h) ∙ one.1) (step_happens g h there one.0 good)

move_left : (passes words : ℕ) (move : WantedMove) (there : Home) → IsBegun move there → steps_left passes words there ≡ steps_of words move + passes
move_left passes words move there its = ap (steps_left passes words) its.at_home ∙ omega (arith, its.steps words)

move_happens : (h : History) (vm vcpu : ℕ) (want : Want) → refusal h (lines.Move vm vcpu want) ≡ None → IsHistory h
    → IsHistory (whole_move h (wanted_move (vcpu_of vm vcpu) want))
unfolding passes_of
move_happens h vm vcpu want e good =
    let move = wanted_move (vcpu_of vm vcpu) want in
    let may = may_begin h vm vcpu want e in
    steps_happen (steps_of (file_words h) move + passes_for h (mover move)) (mover move) (Began move ∷ h) may.0
    (ap (λ g. steps_left (passes_for h (mover move)) (file_words h) (home (Began move ∷ h) g)) (moves_its_own (vcpu_of vm vcpu) want)
    ∙ move_left (passes_for h (mover move)) (file_words h) move (home (Began move ∷ h) (vcpu_of vm vcpu)) (begun h vm vcpu want e))
    (may, good)

-- ---- what a script does is such a history

pub line_happens : (h : History) (line : Line) → refusal h line ≡ None → IsHistory h → IsHistory (line_taken h line)
line_happens h (lines.Move vm vcpu want) e good = move_happens h vm vcpu want e good
line_happens h (lines.Begin vm vcpu want) e good = (may_begin h vm vcpu want e, good)
line_happens h (Step vm vcpu) e good = let may = step_allowed h vm vcpu e in step_happens (vcpu_of vm vcpu) h may.0 may.1 good
line_happens h (Land vm k) e good = (land_allowed h vm k e, good)
line_happens h line e good = (e, good)

stands_first : (g : Vcpu) (h : History) → has_machine h ≡ true → has_machine (landed_first g h) ≡ true
stands_first g h stands = ap (λ o. is_some o) (same_first g h).1 ∙ stands

stands_stepped : (count : ℕ) (g : Vcpu) (h : History) → has_machine h ≡ true → has_machine (steps_taken count g h) ≡ true
stands_stepped zero g h stands = stands
stands_stepped (suc count) g h stands = stands_stepped count g (step_taken g h) (stands_first g h stands)

-- after an accepted line a machine stands
pub stands_then : (h : History) (line : Line) → refusal h line ≡ None → has_machine (line_taken h line) ≡ true
stands_then h (Machine harts guests n sources) e = refl
stands_then h (lines.Move vm vcpu want) e =
    let move = wanted_move (vcpu_of vm vcpu) want in
    stands_stepped (steps_of (file_words h) move + passes_for h (mover move)) (mover move) _
    (not-false _ (machine_stands h (lines.Move vm vcpu want) e))
stands_then h (Step vm vcpu) e = stands_first (vcpu_of vm vcpu) h (not-false _ (machine_stands h (Step vm vcpu) e))
stands_then h line e = not-false _ (machine_stands h line e)

same_reach : (msi : Msi) (h : History) (p : ℕ) → (pass_reach (Delivered msi ∷ h) p ≡ pass_reach h p) × (passes_of (Delivered msi ∷ h) ≡ passes_of h)
unfolding passes_of home
same_reach msi h p = (refl, refl)

-- an MSI is delivered, and given on where its pass reaches memory
pub msi_by_pass : (P : History → Type 0) (msi : Msi) (h : History) → P (Delivered msi ∷ h)
    → ((p : ℕ) → passed_by h msi.source ≡ Some p → pass_reach (Delivered msi ∷ h) p ≡ None → P (Relayed p ∷ Delivered msi ∷ h)) → P (msi_taken msi h)
msi_by_pass P msi h file memory = by_pass (passed_by h msi.source) refl
  where
    by_reach : (p : ℕ) (o : Option GuestPlace) → passed_by h msi.source ≡ Some p → pass_reach (Delivered msi ∷ h) p ≡ o
        → P (if is_none o then Relayed p ∷ Delivered msi ∷ h else Delivered msi ∷ h)
    by_reach p None e r = memory p e r
    by_reach p (Some q) e r = file

    by_pass : (o : Option ℕ) → passed_by h msi.source ≡ o → P (given_on o (Delivered msi ∷ h))
    by_pass None e = file
    by_pass (Some p) e = by_reach p (pass_reach (Delivered msi ∷ h) p) e refl

pub given_happens : (p : ℕ) (msi : Msi) (h : History) → passed_by h msi.source ≡ Some p → pass_reach (Delivered msi ∷ h) p ≡ None
    → IsHistory (Delivered msi ∷ h) → IsHistory (Relayed p ∷ Delivered msi ∷ h)
given_happens p msi h e r good = ((subst (λ xs. p < length xs) (sym (same_reach msi h p).1) (number_found h msi.source p e), r), good)

pub msi_happens : (h : History) (msi : Msi) → MayHappen h (Delivered msi) → IsHistory h → IsHistory (msi_taken msi h)
msi_happens h msi may good = msi_by_pass IsHistory msi h (may, good) (λ p e r. given_happens p msi h e r (may, good))

msis_happen : (sent : List Msi) (h : History) → has_machine h ≡ true → AreForwards h sent → IsHistory h → IsHistory (delivered sent h)
msis_happen [] h stands all good = good
msis_happen (msi ∷ later) h stands all good = msi_by_pass (λ k. IsHistory (delivered later k)) msi h
    (msis_happen later (Delivered msi ∷ h) stands (forwards_then msi h later all.1) ((stands, all.0), good))
    (λ p e r. msis_happen later (Relayed p ∷ Delivered msi ∷ h) stands
    (forwards_given p (Delivered msi ∷ h) later (forwards_then msi h later all.1)) (given_happens p msi h e r ((stands, all.0), good)))

pub after_happens : (h : History) (line : Line) → IsHistory h → IsHistory (after h line)
after_happens h line good = subst IsHistory (sym (after_by h line (refusal h line) refl)) (by_refusal (refusal h line) refl)
  where
    by_refusal : (word : Option Answer) → refusal h line ≡ word → IsHistory (history_after word h line)
    by_refusal None e = msis_happen (msis_sent_by h line) (line_taken h line) (stands_then h line e) (line_forwards h line e good)
        (line_happens h line e good)
    by_refusal (Some word) e = good

text_happens : (h : History) (text : Parsed) → IsHistory h → IsHistory (after_text h text)
text_happens h (parsed.Line line) good = after_happens h line good
text_happens h parsed.Skip good = good
text_happens h parsed.Bad good = good

texts_happen : (h : History) (texts : List (List ℕ)) → IsHistory h → IsHistory (after_texts h texts)
texts_happen h [] good = good
texts_happen h (text ∷ texts) good = texts_happen (after_text h (reading text)) texts (text_happens h (reading text) good)

pub script_happens : (script : List ℕ) → IsHistory (history_of script)
script_happens script = texts_happen [] (texts_of script) tt

-- ---- where the stores in flight of such a history go, and for whom

pub flights_may : (h : History) → IsHistory h → AllMayFly h
flights_may [] good = none_flies
flights_may (Stepped x ∷ h) good = flights_on h (Stepped x) good.0.2 (flights_may h good.1)
flights_may (Accepted line ∷ h) good = flights_on h (Accepted line) tt (flights_may h good.1)
flights_may (Began move ∷ h) good = flights_on h (Began move) tt (flights_may h good.1)
flights_may (Delivered msi ∷ h) good = flights_on h (Delivered msi) tt (flights_may h good.1)
flights_may (Relayed p ∷ h) good = flights_on h (Relayed p) tt (flights_may h good.1)
flights_may (Landed vm k ∷ h) good = flights_on h (Landed vm k) tt (flights_may h good.1)

pub flights_for_one : (h : History) → IsHistory h → AllAreForOne h
flights_for_one [] good = none_for_one
flights_for_one (Accepted (Send vm addr value) ∷ h) good =
    sent_on h (Accepted (Send vm addr value)) (send_allowed h vm addr value good.0) (flights_for_one h good.1)
flights_for_one (Accepted line ∷ h) good = sent_on h (Accepted line) tt (flights_for_one h good.1)
flights_for_one (Began move ∷ h) good = sent_on h (Began move) tt (flights_for_one h good.1)
flights_for_one (Stepped x ∷ h) good = sent_on h (Stepped x) tt (flights_for_one h good.1)
flights_for_one (Delivered msi ∷ h) good = sent_on h (Delivered msi) tt (flights_for_one h good.1)
flights_for_one (Relayed p ∷ h) good = sent_on h (Relayed p) tt (flights_for_one h good.1)
flights_for_one (Landed vm k ∷ h) good = sent_on h (Landed vm k) tt (flights_for_one h good.1)

pub flying_there : (h : History) (vm k : ℕ) (s : Sending) → IsHistory h → flying h vm k ≡ Some s → has_vcpu h (sent_to vm s) ≡ true
flying_there h vm k s good e = (all_at (IsForOne h vm) k (flight h vm) s e (flights_for_one h good vm)).there

-- once the entry is fenced, the old place is reached by none
pub flying_closed : (h : History) (vm k : ℕ) (s : Sending) → IsHistory h → flying h vm k ≡ Some s → is_closed (home h (sent_to vm s)) ≡ true
    → sent_into vm s ≡ new_file (home h (sent_to vm s))
flying_closed h vm k s good e closed = elim (all_at (MayFly h vm) k (flight h vm) s e (flights_may h good vm)) [
  | inl old ↦ absurd (false≢true (sym old.1 ∙ closed))
  | inr new ↦ new.0
]

-- at rest each goes where it is
rest_reach : (there : Home) (into : Option GuestPlace) → is_moving there ≡ false → MayReach there into → into ≡ origin there
rest_reach there into rests (inl old) = old.0
rest_reach (InMemory rest) into rests (inr new) = absurd (cc)
rest_reach (Resident p) into rests (inr new) = absurd (cc)
rest_reach (OnWay way at) into rests (inr new) = absurd (cc)

pub flying_rests : (h : History) (vm k : ℕ) (s : Sending) → IsHistory h → flying h vm k ≡ Some s → is_moving (home h (sent_to vm s)) ≡ false
    → sent_into vm s ≡ origin (home h (sent_to vm s))
flying_rests h vm k s good e rests = rest_reach (home h (sent_to vm s)) (sent_into vm s) rests
    (all_at (MayFly h vm) k (flight h vm) s e (flights_may h good vm))
