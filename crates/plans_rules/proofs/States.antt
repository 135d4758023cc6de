-- What a plan's machine may come to, and what such a state shows of a bit.
use Rattle.std.proofs.Common.{◌≡◌, ℕ, ◌/◌, ◌<◌, Bool, true, false, not, ◌&&◌, ◌||◌, if◌then◌else◌, nat_eq, List, [], ◌∷◌, Some, ◌⊎◌, inl, inr, refl, sym, ap, subst, ◌∙◌}
use Rattle.std.specs.List.{list_any, AllByRecursion}
use Rattle.std.specs.Prelude.{slice_get, get_or}
use Rattle.std.proofs.lemmas.Option.{slice_get-get_or}
use Rattle.std.proofs.lemmas.Bool.{eq-eqb, eqb-true, false≢true}
use Rattle.plans_rules.specs.declared.step.AnyPlace.{AnyPlace}
use Rattle.plans_rules.specs.declared.step.AnyPlace.TheVariants.{Old, New}
use Rattle.plans_rules.specs.declared.step.WhichSet.{WhichSet}
use Rattle.plans_rules.specs.declared.step.WhichSet.TheVariants.{Pending, Enabled}
use Rattle.plans_rules.specs.declared.step.Number.{Number}
use Rattle.plans_rules.specs.declared.step.Number.TheVariants.{Threshold, Delivery}
use Rattle.plans_rules.specs.declared.setting.NumberSpot.{NumberSpot}
use Rattle.plans_rules.specs.declared.setting.NumberSpot.TheVariants.{InOld, InHand, InNew}
use Rattle.plans_rules.specs.declared.setting.RouteKind.{RouteKind}
use Rattle.plans_rules.specs.declared.setting.RouteKind.TheVariants.{Routed, Switched}
use Rattle.plans_rules.specs.declared.step.AnyStep.{AnyStep}
use Rattle.plans_rules.specs.declared.step.AnyStep.TheVariants.{Route, Fence, Switch, Pause, Resume, Zero, ZeroNumber, TakeNumber, CopyNumber, PutNumber, Free}
use Rattle.plans_rules.specs.Setting.{Setting, is_old, is_pending, same_number}
use Rattle.plans_rules.specs.Machine.{AnyMachine, landed, all_landed, flights_of, flights_beside, stepped, By, route_of, one_landed, all_but, AnyHappening, happened, all_happened, steps_in}
use Rattle.plans_rules.specs.Machine.By.{InForce}
use Rattle.plans_rules.specs.Machine.AnyHappening.{Does, Stores, Sends, Lands}
use Rattle.plans_rules.specs.Safe.{IsProducer, IsRouted, CanHappen, number_in, IsMovedByAny}
use Rattle.plans_rules.specs.Rules.{fences, pauses, switches, empties, lifts, fills, blanks, frees, Done, is_turned, is_fenced, is_forced, is_paused, is_drained, is_led_as, is_led, may_stand, is_blank, was_shut, has_number}
use Rattle.plans_rules.proofs.BoolLaws.{or_false_left, or_false_right}
use Rattle.plans_rules.proofs.Brought.{old_after, hand_after, new_after}

-- ---- all runs of what is left of a plan end well

abbrev pub Live : Setting → AnyMachine → List AnyStep → AnyMachine → Type 0
Live d start rest z = (run : List AnyHappening) → AllByRecursion (CanHappen d) run → steps_in run ≡ rest → IsMovedByAny d start (all_happened d run z)

pub live_step : (d : Setting) (start : AnyMachine) (x : AnyStep) (rest : List AnyStep) (z : AnyMachine) → Live d start (x ∷ rest) z
    → Live d start rest (stepped d x z)
live_step d start x rest z live run can e = live (Does x ∷ run) (tt, can) (ap (λ r. x ∷ r) e)

pub live_store : (d : Setting) (start : AnyMachine) (rest : List AnyStep) (z : AnyMachine) (p : ℕ) (by : By) (x : ℕ) → IsProducer d p
    → Live d start rest z → Live d start rest (happened d (Stores p by x) z)
live_store d start rest z p by x declared live run can e = live (Stores p by x ∷ run) (declared, can) e

live_send : (d : Setting) (start : AnyMachine) (rest : List AnyStep) (z : AnyMachine) (p : ℕ) (by : By) (x : ℕ) → IsRouted d p
    → Live d start rest z → Live d start rest (happened d (Sends p by x) z)
live_send d start rest z p by x routed live run can e = live (Sends p by x ∷ run) (routed, can) e

pub live_land : (d : Setting) (start : AnyMachine) (rest : List AnyStep) (z : AnyMachine) (k : ℕ) → Live d start rest z
    → Live d start rest (happened d (Lands k) z)
live_land d start rest z k live run can e = live (Lands k ∷ run) (tt, can) e

-- ---- a bit in a state that can be reached

pub record At (d : Setting) (rest : List AnyStep) (s : WhichSet) (i : ℕ) (q a b k : Bool) : Type 0 where
  pub start : AnyMachine
  pub z : AnyMachine
  pub live : Live d start rest z
  pub flights : z.flights ≡ []
  pub base : is_pending s ≡ false → start.old s i ≡ q
  pub due : is_pending s ≡ true → z.due s i ≡ q
  pub old : z.old s i ≡ a
  pub new : z.new s i ≡ b
  pub hand : z.hand s i ≡ k

-- a step lands nothing
abbrev LandsNone : AnyStep → AnyMachine → Type 0
LandsNone (Fence p) z = flights_of p z.flights ≡ []
LandsNone (Pause p) z = flights_of p z.flights ≡ []
LandsNone x z = Unit {0}

lands_none : (x : AnyStep) (z : AnyMachine) → z.flights ≡ [] → LandsNone x z
lands_none (Fence p) z e = ap (flights_of p) e
lands_none (Pause p) z e = ap (flights_of p) e
lands_none x z e = tt

pub fence_same : (d : Setting) (p : ℕ) (z : AnyMachine) → flights_of p z.flights ≡ [] → all_landed d (flights_of p z.flights) z ≡ z
fence_same d p z e = subst (λ fs. all_landed d fs z ≡ z) (sym e) refl

old_bit : (d : Setting) (x : AnyStep) (z : AnyMachine) (s : WhichSet) (i : ℕ) → LandsNone x z
    → (stepped d x z).old s i ≡ old_after (empties s (i / 64) x) (z.old s i)
old_bit d (Fence p) z s i e = ap (λ (y : AnyMachine). y.old s i) (fence_same d p z e)
old_bit d (Pause p) z s i e = ap (λ (y : AnyMachine). y.old s i) (fence_same d p z e)
old_bit d (Zero Old t w) z s i e = refl
old_bit d (Zero New t w) z s i e = refl
old_bit d (ZeroNumber Old n) z s i e = refl
old_bit d (ZeroNumber New n) z s i e = refl
old_bit d x z s i e = refl

new_bit : (d : Setting) (x : AnyStep) (z : AnyMachine) (s : WhichSet) (i : ℕ) → LandsNone x z
    → (stepped d x z).new s i ≡ new_after (fills s (i / 64) x) (blanks s (i / 64) x) (z.hand s i) (z.new s i)
new_bit d (Fence p) z s i e = ap (λ (y : AnyMachine). y.new s i) (fence_same d p z e)
new_bit d (Pause p) z s i e = ap (λ (y : AnyMachine). y.new s i) (fence_same d p z e)
new_bit d (Zero Old t w) z s i e = refl
new_bit d (Zero New t w) z s i e = refl
new_bit d (ZeroNumber Old n) z s i e = refl
new_bit d (ZeroNumber New n) z s i e = refl
new_bit d x z s i e = refl

hand_bit : (d : Setting) (x : AnyStep) (z : AnyMachine) (s : WhichSet) (i : ℕ) → LandsNone x z
    → (stepped d x z).hand s i ≡ hand_after (lifts s (i / 64) x) (fills s (i / 64) x) (z.old s i) (z.hand s i)
hand_bit d (Fence p) z s i e = ap (λ (y : AnyMachine). y.hand s i) (fence_same d p z e)
hand_bit d (Pause p) z s i e = ap (λ (y : AnyMachine). y.hand s i) (fence_same d p z e)
hand_bit d (Zero Old t w) z s i e = refl
hand_bit d (Zero New t w) z s i e = refl
hand_bit d (ZeroNumber Old n) z s i e = refl
hand_bit d (ZeroNumber New n) z s i e = refl
hand_bit d x z s i e = refl

due_bit : (d : Setting) (x : AnyStep) (z : AnyMachine) (s : WhichSet) (i : ℕ) → LandsNone x z → (stepped d x z).due s i ≡ z.due s i
due_bit d (Fence p) z s i e = ap (λ (y : AnyMachine). y.due s i) (fence_same d p z e)
due_bit d (Pause p) z s i e = ap (λ (y : AnyMachine). y.due s i) (fence_same d p z e)
due_bit d (Zero Old t w) z s i e = refl
due_bit d (Zero New t w) z s i e = refl
due_bit d (ZeroNumber Old n) z s i e = refl
due_bit d (ZeroNumber New n) z s i e = refl
due_bit d x z s i e = refl

pub still_none : (d : Setting) (x : AnyStep) (z : AnyMachine) → z.flights ≡ [] → (stepped d x z).flights ≡ []
still_none d (Fence p) z e = ap (flights_beside p) e
still_none d (Pause p) z e = ap (flights_beside p) e
still_none d (Zero Old t w) z e = e
still_none d (Zero New t w) z e = e
still_none d (ZeroNumber Old n) z e = e
still_none d (ZeroNumber New n) z e = e
still_none d x z e = e

-- after a step
pub at_step : (d : Setting) (x : AnyStep) (rest : List AnyStep) (s : WhichSet) (i : ℕ) (q a b k : Bool) → At d (x ∷ rest) s i q a b k
    → At d rest s i q (old_after (empties s (i / 64) x) a) (new_after (fills s (i / 64) x) (blanks s (i / 64) x) k b)
    (hand_after (lifts s (i / 64) x) (fills s (i / 64) x) a k)
at_step d x rest s i q a b k v =
    let z : AnyMachine = v.z in
    record {
      start = v.start;
      z = stepped d x v.z;
      live = live_step d v.start x rest v.z v.live;
      flights = still_none d x v.z v.flights;
      base = v.base;
      due = λ e. due_bit d x v.z s i (lands_none x v.z v.flights) ∙ v.due e;
      old = old_bit d x v.z s i (lands_none x v.z v.flights) ∙ ap (old_after (empties s (i / 64) x)) v.old;
      new = new_bit d x v.z s i (lands_none x v.z v.flights)
          ∙ ap (λ y. new_after (fills s (i / 64) x) (blanks s (i / 64) x) y (v.z.new s i)) v.hand
          ∙ ap (new_after (fills s (i / 64) x) (blanks s (i / 64) x) k) v.new;
      hand = hand_bit d x v.z s i (lands_none x v.z v.flights)
          ∙ ap (λ y. hand_after (lifts s (i / 64) x) (fills s (i / 64) x) y (v.z.hand s i)) v.old
          ∙ ap (hand_after (lifts s (i / 64) x) (fills s (i / 64) x) a) v.hand;
    }

-- the same state, with the bits said otherwise
pub at_is : (d : Setting) (rest : List AnyStep) (s : WhichSet) (i : ℕ) (q a b k a' b' k' : Bool) → a ≡ a' → b ≡ b' → k ≡ k' → At d rest s i q a b k
    → At d rest s i q a' b' k'
at_is d rest s i q a b k a' b' k' e f g v = record
    { start = v.start; z = v.z; live = v.live; flights = v.flights; base = v.base; due = v.due; old = v.old ∙ e; new = v.new ∙ f; hand = v.hand ∙ g }

-- bits that are nowhere stay so
pub no_old : (e : Bool) → old_after e false ≡ false
no_old true = refl
no_old false = refl

pub no_new : (f z : Bool) → new_after f z false false ≡ false
no_new true true = refl
no_new true false = refl
no_new false true = refl
no_new false false = refl

pub no_hand : (l f : Bool) → hand_after l f false false ≡ false
no_hand true f = refl
no_hand false true = refl
no_hand false false = refl

step_nowhere : (d : Setting) (x : AnyStep) (rest : List AnyStep) (s : WhichSet) (i : ℕ) (q : Bool) → At d (x ∷ rest) s i q false false false
    → At d rest s i q false false false
step_nowhere d x rest s i q v = at_is d rest s i q _ _ _ _ _ _ (no_old (empties s (i / 64) x))
    (no_new (fills s (i / 64) x) (blanks s (i / 64) x)) (no_hand (lifts s (i / 64) x) (fills s (i / 64) x))
    (at_step d x rest s i q false false false v)

-- at the end the bit stands where it has to
pub end_new : (d : Setting) (s : WhichSet) (i : ℕ) (q a b k : Bool) → i / 64 < d.words → At d [] s i q a b k → b ≡ q
end_new d Pending i q a b k inside v = sym v.new ∙ (v.live [] tt refl).pending i inside ∙ v.due refl
end_new d Enabled i q a b k inside v = sym v.new ∙ (v.live [] tt refl).enabled i inside ∙ v.base refl

pub end_old : (d : Setting) (s : WhichSet) (i : ℕ) (q a b k : Bool) → i / 64 < d.words → At d [] s i q a b k → a ≡ false
end_old d s i q a b k inside v = sym v.old ∙ (v.live [] tt refl).none_left s i inside

-- **What is due can't be nowhere.**
pub lost : (d : Setting) (rest : List AnyStep) (s : WhichSet) (i : ℕ) → i / 64 < d.words → At d rest s i true false false false → ⊥
lost d [] s i inside v = false≢true (end_new d s i true false false false inside v)
lost d (x ∷ rest) s i inside v = lost d rest s i inside (step_nowhere d x rest s i true v)

-- ---- routes, numbers, and stores in flight in such states

abbrev pub worth : Bool → ℕ
worth true = 1
worth false = 0

pub record Ways (t c s : Bool) (written in_force : AnyPlace) : Type 0 where
  pub calm : t ≡ false → written ≡ Old
  pub ahead : t ≡ true → written ≡ New
  pub behind : c ≡ false → s ≡ false → in_force ≡ Old

pub record Plain (d : Setting) (done : Done) (rest : List AnyStep) (i : ℕ) : Type 0 where
  pub at : At d rest Pending i false false false false
  pub ways : (p : ℕ) → Ways (is_turned p done) (is_fenced p done) (list_any (switches p) done) (at.z.written p) (at.z.in_force p)
  pub numbers : (n : Number) (spot : NumberSpot) → number_in spot n at.z ≡ worth (has_number d n spot done)
  pub begun : (n : Number) → number_in d.number_from n at.start ≡ 1
  pub freed : at.z.freed ≡ list_any frees done
  pub paused : (p : ℕ) → at.z.paused p ≡ is_paused p done

-- A store of p, which is not paused, is in flight to the old place.
pub record Flying (d : Setting) (done : Done) (rest : List AnyStep) (p i : ℕ) : Type 0 where
  pub start : AnyMachine
  pub z : AnyMachine
  pub live : Live d start rest z
  pub flights : z.flights ≡ record { producer = p; place = Old; identity = i } ∷ []
  pub due : z.due Pending i ≡ false
  pub old : z.old Pending i ≡ false
  pub new : z.new Pending i ≡ false
  pub hand : z.hand Pending i ≡ false
  pub freed : z.freed ≡ list_any frees done

ways_route : (m t c s : Bool) (w f : AnyPlace) → Ways t c s w f → Ways (m || t) c s (if m then New else w) f
ways_route true t c s w f v = record { calm = λ e. absurd (false≢true (sym e)); ahead = λ e. refl; behind = v.behind }
ways_route false t c s w f v = v

ways_switch : (m t c s : Bool) (w f : AnyPlace) → Ways t c s w f → Ways (m || t) c (m || s) (if m then New else w) (if m then New else f)
ways_switch true t c s w f v = record { calm = λ e. absurd (false≢true (sym e)); ahead = λ e. refl; behind = λ e g. absurd (false≢true (sym g)) }
ways_switch false t c s w f v = v

ways_fence : (m t c s : Bool) (there w f : AnyPlace) → (m ≡ true → there ≡ w) → Ways t c s w f
    → Ways t (elim m [ true ↦ t || c | false ↦ c ]) s w (if m then there else f)
ways_fence true t c s there w f same v = record { calm = v.calm; ahead = v.ahead; behind = λ e g. same refl ∙ v.calm (or_false_left t c e) }
ways_fence false t c s there w f same v = v

ways_step : (d : Setting) (x : AnyStep) (done : Done) (z : AnyMachine) (p : ℕ) → LandsNone x z
    → Ways (is_turned p done) (is_fenced p done) (list_any (switches p) done) (z.written p) (z.in_force p)
    → Ways (is_turned p (x ∷ done)) (is_fenced p (x ∷ done)) (list_any (switches p) (x ∷ done)) ((stepped d x z).written p)
    ((stepped d x z).in_force p)
ways_step d (Route q) done z p e v = ways_route (nat_eq q p) _ _ _ (z.written p) (z.in_force p) v
ways_step d (Switch q) done z p e v = ways_switch (nat_eq q p) _ _ _ (z.written p) (z.in_force p) v
ways_step d (Fence q) done z p e v =
    subst (λ w. Ways (is_turned p done) (is_fenced p (Fence q ∷ done)) (list_any (switches p) done) w
    (if nat_eq q p then z.written q else z.in_force p)) (sym (ap (λ (y : AnyMachine). y.written p) (fence_same d q z e)))
    (ways_fence (nat_eq q p) _ _ _ (z.written q) (z.written p) (z.in_force p) (λ m. ap z.written (eqb-true q p m)) v)
ways_step d (Pause q) done z p e v =
    subst (λ (y : AnyMachine). Ways (is_turned p done) (is_fenced p done) (list_any (switches p) done) (y.written p) (y.in_force p))
    (sym (fence_same d q z e)) v
ways_step d (Zero Old s w) done z p e v = v
ways_step d (Zero New s w) done z p e v = v
ways_step d (ZeroNumber Old n) done z p e v = v
ways_step d (ZeroNumber New n) done z p e v = v
ways_step d x done z p e v = v

abbrev Worths : Setting → Done → AnyMachine → Number → Type 0
Worths d done z n = (spot : NumberSpot) → number_in spot n z ≡ worth (has_number d n spot done)

worth_step : (d : Setting) (x : AnyStep) (done : Done) (z : AnyMachine) (n : Number) → LandsNone x z → Worths d done z n
    → Worths d (x ∷ done) (stepped d x z) n
worth_step d (TakeNumber Threshold) done z Threshold e v InOld = refl
worth_step d (TakeNumber Threshold) done z Threshold e v InHand = v InOld
worth_step d (TakeNumber Threshold) done z Threshold e v InNew = v InNew
worth_step d (TakeNumber Delivery) done z Delivery e v InOld = refl
worth_step d (TakeNumber Delivery) done z Delivery e v InHand = v InOld
worth_step d (TakeNumber Delivery) done z Delivery e v InNew = v InNew
worth_step d (TakeNumber Threshold) done z Delivery e v spot = v spot
worth_step d (TakeNumber Delivery) done z Threshold e v spot = v spot
worth_step d (CopyNumber Threshold) done z Threshold e v InOld = v InOld
worth_step d (CopyNumber Threshold) done z Threshold e v InHand = v InOld
worth_step d (CopyNumber Threshold) done z Threshold e v InNew = v InNew
worth_step d (CopyNumber Delivery) done z Delivery e v InOld = v InOld
worth_step d (CopyNumber Delivery) done z Delivery e v InHand = v InOld
worth_step d (CopyNumber Delivery) done z Delivery e v InNew = v InNew
worth_step d (CopyNumber Threshold) done z Delivery e v spot = v spot
worth_step d (CopyNumber Delivery) done z Threshold e v spot = v spot
worth_step d (PutNumber Threshold) done z Threshold e v InOld = v InOld
worth_step d (PutNumber Threshold) done z Threshold e v InHand = v InHand
worth_step d (PutNumber Threshold) done z Threshold e v InNew = v InHand
worth_step d (PutNumber Delivery) done z Delivery e v InOld = v InOld
worth_step d (PutNumber Delivery) done z Delivery e v InHand = v InHand
worth_step d (PutNumber Delivery) done z Delivery e v InNew = v InHand
worth_step d (PutNumber Threshold) done z Delivery e v spot = v spot
worth_step d (PutNumber Delivery) done z Threshold e v spot = v spot
worth_step d (ZeroNumber Old Threshold) done z Threshold e v InOld = refl
worth_step d (ZeroNumber Old Threshold) done z Threshold e v InHand = v InHand
worth_step d (ZeroNumber Old Threshold) done z Threshold e v InNew = v InNew
worth_step d (ZeroNumber Old Delivery) done z Delivery e v InOld = refl
worth_step d (ZeroNumber Old Delivery) done z Delivery e v InHand = v InHand
worth_step d (ZeroNumber Old Delivery) done z Delivery e v InNew = v InNew
worth_step d (ZeroNumber Old Threshold) done z Delivery e v spot = v spot
worth_step d (ZeroNumber Old Delivery) done z Threshold e v spot = v spot
worth_step d (ZeroNumber New Threshold) done z Threshold e v InOld = v InOld
worth_step d (ZeroNumber New Threshold) done z Threshold e v InHand = v InHand
worth_step d (ZeroNumber New Threshold) done z Threshold e v InNew = refl
worth_step d (ZeroNumber New Delivery) done z Delivery e v InOld = v InOld
worth_step d (ZeroNumber New Delivery) done z Delivery e v InHand = v InHand
worth_step d (ZeroNumber New Delivery) done z Delivery e v InNew = refl
worth_step d (ZeroNumber New Threshold) done z Delivery e v spot = v spot
worth_step d (ZeroNumber New Delivery) done z Threshold e v spot = v spot
worth_step d (Zero Old s w) done z n e v spot = v spot
worth_step d (Zero New s w) done z n e v spot = v spot
worth_step d (Fence p) done z n e v spot = ap (number_in spot n) (fence_same d p z e) ∙ v spot
worth_step d (Pause p) done z n e v spot = ap (number_in spot n) (fence_same d p z e) ∙ v spot
worth_step d x done z n e v spot = v spot

freed_step : (d : Setting) (x : AnyStep) (done : Done) (z : AnyMachine) → LandsNone x z → z.freed ≡ list_any frees done
    → (stepped d x z).freed ≡ list_any frees (x ∷ done)
freed_step d (Fence p) done z e v = ap (λ (y : AnyMachine). y.freed) (fence_same d p z e) ∙ v
freed_step d (Pause p) done z e v = ap (λ (y : AnyMachine). y.freed) (fence_same d p z e) ∙ v
freed_step d Free done z e v = refl
freed_step d (Zero Old s w) done z e v = v
freed_step d (Zero New s w) done z e v = v
freed_step d (ZeroNumber Old n) done z e v = v
freed_step d (ZeroNumber New n) done z e v = v
freed_step d x done z e v = v

paused_step : (d : Setting) (x : AnyStep) (done : Done) (z : AnyMachine) (p : ℕ) → LandsNone x z → z.paused p ≡ is_paused p done
    → (stepped d x z).paused p ≡ is_paused p (x ∷ done)
paused_step d (Fence q) done z p e v = ap (λ (y : AnyMachine). y.paused p) (fence_same d q z e) ∙ v
paused_step d (Pause q) done z p e v = pause_law (nat_eq q p) (z.paused p) (is_paused p done) v
  where
    pause_law : (m was now : Bool) → was ≡ now → ◌≡◌ {A = Bool} (if m then true else was) (m || (true && now))
    pause_law true was now e = refl
    pause_law false was now e = e
paused_step d (Resume q) done z p e v = resume_law (nat_eq q p) (z.paused p) (is_paused p done) v
  where
    resume_law : (m was now : Bool) → was ≡ now → ◌≡◌ {A = Bool} (if m then false else was) (not m && now)
    resume_law true was now e = refl
    resume_law false was now e = e
paused_step d (Zero Old s w) done z p e v = v
paused_step d (Zero New s w) done z p e v = v
paused_step d (ZeroNumber Old n) done z p e v = v
paused_step d (ZeroNumber New n) done z p e v = v
paused_step d x done z p e v = v

pub plain_step : (d : Setting) (x : AnyStep) (done : Done) (rest : List AnyStep) (i : ℕ) → Plain d done (x ∷ rest) i → Plain d (x ∷ done) rest i
unfolding step_nowhere at_is at_step
plain_step d x done rest i v =
    let none = lands_none x v.at.z v.at.flights in
    record {
      at = step_nowhere d x rest Pending i false v.at;
      ways = λ p. ways_step d x done v.at.z p none (v.ways p);
      numbers = λ n. worth_step d x done v.at.z n none (v.numbers n);
      begun = v.begun;
      freed = freed_step d x done v.at.z none v.freed;
      paused = λ p. paused_step d x done v.at.z p none (v.paused p);
    }

-- whoever is not paused does what it may
pub running : (b : Bool) (z y : AnyMachine) → b ≡ false → (if b then z else y) ≡ y
running true z y e = absurd (false≢true (sym e))
running false z y e = refl

-- where the route is not in force a store is sent to the old place
pub sent : (d : Setting) (done : Done) (rest : List AnyStep) (p i : ℕ) → IsRouted d p → is_forced p done ≡ false → is_paused p done ≡ false
    → Plain d done rest i → Flying d done rest p i
sent d done rest p i routed unforced runs v = record {
  start = v.at.start;
  z = after;
  live = subst (λ (y : AnyMachine). Live d v.at.start rest y) (running (v.at.z.paused p) v.at.z after (v.paused p ∙ runs))
      (live_send d v.at.start rest v.at.z p InForce i routed v.at.live);
  flights = ap (λ w. record { producer = p; place = w; identity = i } ∷ v.at.z.flights)
      ((v.ways p).behind (or_false_left _ _ unforced) (or_false_right (is_fenced p done) _ unforced))
      ∙ ap (λ fs. record { producer = p; place = Old; identity = i } ∷ fs) v.at.flights;
  due = v.at.due refl;
  old = v.at.old;
  new = v.at.new;
  hand = v.at.hand;
  freed = v.freed;
}
  where
    after : AnyMachine
    after = record v.at.z { flights = record { producer = p; place = v.at.z.in_force p; identity = i } ∷ v.at.z.flights }

other_none : (d : Setting) (q p i : ℕ) → nat_eq q p ≡ false → flights_of q (record { producer = p; place = Old; identity = i } ∷ []) ≡ []
other_none d q p i e = ap (λ m. if m then record { producer = p; place = Old; identity = i } ∷ [] else []) e

other_beside : (d : Setting) (q p i : ℕ) → nat_eq q p ≡ false
    → flights_beside q (record { producer = p; place = Old; identity = i } ∷ []) ≡ record { producer = p; place = Old; identity = i } ∷ []
other_beside d q p i e = ap (λ m. if m then [] else record { producer = p; place = Old; identity = i } ∷ []) e

lands_other : (d : Setting) (x : AnyStep) (z : AnyMachine) (p i : ℕ) → fences p x ≡ false → pauses p x ≡ false
    → z.flights ≡ record { producer = p; place = Old; identity = i } ∷ [] → LandsNone x z
lands_other d (Fence q) z p i e g f = ap (flights_of q) f ∙ other_none d q p i e
lands_other d (Pause q) z p i e g f = ap (flights_of q) f ∙ other_none d q p i g
lands_other d x z p i e g f = tt

still_other : (d : Setting) (x : AnyStep) (z : AnyMachine) (p i : ℕ) → fences p x ≡ false → pauses p x ≡ false
    → z.flights ≡ record { producer = p; place = Old; identity = i } ∷ []
    → (stepped d x z).flights ≡ record { producer = p; place = Old; identity = i } ∷ []
still_other d (Fence q) z p i e g f = ap (flights_beside q) f ∙ other_beside d q p i e
still_other d (Pause q) z p i e g f = ap (flights_beside q) f ∙ other_beside d q p i g
still_other d (Zero Old s w) z p i e g f = f
still_other d (Zero New s w) z p i e g f = f
still_other d (ZeroNumber Old n) z p i e g f = f
still_other d (ZeroNumber New n) z p i e g f = f
still_other d x z p i e g f = f

pub flying_on : (d : Setting) (x : AnyStep) (done : Done) (rest : List AnyStep) (p i : ℕ) → fences p x ≡ false → pauses p x ≡ false
    → Flying d done (x ∷ rest) p i → Flying d (x ∷ done) rest p i
flying_on d x done rest p i other more v =
    let z : AnyMachine = v.z in
    let none = lands_other d x v.z p i other more v.flights in
    let e = empties Pending (i / 64) x in
    let l = lifts Pending (i / 64) x in
    let f = fills Pending (i / 64) x in
    let b = blanks Pending (i / 64) x in
    record {
      start = v.start;
      z = stepped d x v.z;
      live = live_step d v.start x rest v.z v.live;
      flights = still_other d x v.z p i other more v.flights;
      due = due_bit d x v.z Pending i none ∙ v.due;
      old = old_bit d x v.z Pending i none ∙ ap (old_after e) v.old ∙ no_old e;
      new = new_bit d x v.z Pending i none ∙ ap (λ y. new_after f b y (v.z.new Pending i)) v.hand ∙ ap (new_after f b false) v.new ∙ no_new f b;
      hand = hand_bit d x v.z Pending i none ∙ ap (λ y. hand_after l f y (v.z.hand Pending i)) v.old ∙ ap (hand_after l f false) v.hand ∙ no_hand l f;
      freed = freed_step d x done v.z none v.freed;
    }

-- ---- numbers that are left in the old place

pub record Unshut (d : Setting) (done : Done) (rest : List AnyStep) : Type 0 where
  pub start : AnyMachine
  pub z : AnyMachine
  pub live : Live d start rest z
  pub flights : z.flights ≡ []
  pub freed : z.freed ≡ list_any frees done
  pub numbers : (n : Number) → z.old_number n ≡ worth (not (was_shut n done))

unshut_law : (m was : Bool) (value : ℕ) → value ≡ worth (not was) → (if m then 0 else value) ≡ worth (not (m || was))
unshut_law true was value e = refl
unshut_law false was value e = e

unshut_number : (d : Setting) (x : AnyStep) (done : Done) (z : AnyMachine) (n : Number) → LandsNone x z
    → z.old_number n ≡ worth (not (was_shut n done))
    → (stepped d x z).old_number n ≡ worth (not (was_shut n (x ∷ done)))
unshut_number d (TakeNumber m) done z n e v = unshut_law (same_number m n) (was_shut n done) (z.old_number n) v
unshut_number d (ZeroNumber Old m) done z n e v = unshut_law (same_number m n) (was_shut n done) (z.old_number n) v
unshut_number d (ZeroNumber New m) done z n e v = v
unshut_number d (Zero Old s w) done z n e v = v
unshut_number d (Zero New s w) done z n e v = v
unshut_number d (Fence p) done z n e v = ap (λ (y : AnyMachine). y.old_number n) (fence_same d p z e) ∙ v
unshut_number d (Pause p) done z n e v = ap (λ (y : AnyMachine). y.old_number n) (fence_same d p z e) ∙ v
unshut_number d x done z n e v = v

pub unshut_step : (d : Setting) (x : AnyStep) (done : Done) (rest : List AnyStep) → Unshut d done (x ∷ rest) → Unshut d (x ∷ done) rest
unshut_step d x done rest v =
    let none = lands_none x v.z v.flights in
    record {
      start = v.start;
      z = stepped d x v.z;
      live = live_step d v.start x rest v.z v.live;
      flights = still_none d x v.z v.flights;
      freed = freed_step d x done v.z none v.freed;
      numbers = λ n. unshut_number d x done v.z n none (v.numbers n);
    }

-- ---- what was reached can be shown by a state

pub record Witness (d : Setting) (done : Done) (rest : List AnyStep) : Type 0 where
  pub plain : (i : ℕ) → Plain d done rest i
  pub flying : (p i : ℕ) → IsRouted d p → is_drained p done ≡ false → is_paused p done ≡ false → Flying d done rest p i
  pub stands : (s : WhichSet) (i : ℕ) (o h n : Bool) → may_stand d s (i / 64) done o h n ≡ true → At d rest s i true o n h
  pub dirty : (s : WhichSet) (i : ℕ) → is_blank d s (i / 64) done ≡ false → At d rest s i false false true false
  pub unshut : Unshut d done rest

-- whoever is not led can store into the old place
bits_at : (m o a : Bool) → m ≡ true → ((true && m) && o) ≡ o
bits_at true o a e = refl
bits_at false o a e = absurd (false≢true e)

set_bit : (m o a b : Bool) → m ≡ true → o ≡ b → a ≡ false → (((true && m) && o) || a) ≡ b
set_bit true true a true e f g = refl
set_bit true true a false e f g = absurd (false≢true (sym f))
set_bit true false a true e f g = absurd (false≢true f)
set_bit true false a false e f g = g
set_bit false o a b e f g = absurd (false≢true e)

pub stored : (d : Setting) (done : Done) (rest : List AnyStep) (p i : ℕ) (by : By) (place : AnyPlace) → IsProducer d p → is_paused p done ≡ false
    → (v : Plain d done rest i) → route_of by p v.at.z ≡ place → At d rest Pending i true (is_old place) (not (is_old place)) false
stored d done rest p i by place declared runs v e = record {
  start = v.at.start;
  z = after;
  live = subst (λ (y : AnyMachine). Live d v.at.start rest y) (running (v.at.z.paused p) v.at.z after (v.paused p ∙ runs))
      (live_store d v.at.start rest v.at.z p by i declared v.at.live);
  flights = v.at.flights;
  base = λ f. absurd (false≢true (sym f));
  due = λ f. set_bit (nat_eq i i) true (v.at.z.due Pending i) true (eq-eqb i i refl) refl (v.at.due refl);
  old = set_bit (nat_eq i i) (is_old (route_of by p v.at.z)) (v.at.z.old Pending i) (is_old place) (eq-eqb i i refl) (ap is_old e) v.at.old;
  new = set_bit (nat_eq i i) (not (is_old (route_of by p v.at.z))) (v.at.z.new Pending i) (not (is_old place)) (eq-eqb i i refl)
      (ap (λ y. not (is_old y)) e) v.at.new;
  hand = v.at.hand;
}
  where
    after : AnyMachine
    after = landed d (route_of by p v.at.z) i v.at.z

arrived : (d : Setting) (done : Done) (rest : List AnyStep) (p i : ℕ) → Flying d done rest p i → At d rest Pending i true true false false
arrived d done rest p i v = record {
  start = v.start;
  z = record (landed d Old i v.z) { flights = [] };
  live = subst (λ (y : AnyMachine). Live d v.start rest y) same (live_land d v.start rest v.z 0 v.live);
  flights = refl;
  base = λ f. absurd (false≢true (sym f));
  due = λ f. set_bit (nat_eq i i) true (v.z.due Pending i) true (eq-eqb i i refl) refl v.due;
  old = set_bit (nat_eq i i) true (v.z.old Pending i) true (eq-eqb i i refl) refl v.old;
  new = set_bit (nat_eq i i) false (v.z.new Pending i) false (eq-eqb i i refl) refl v.new;
  hand = v.hand;
}
  where
    same : happened d (Lands 0) v.z ≡ record (landed d Old i v.z) { flights = [] }
    same = ap (λ fs. record (one_landed d (slice_get fs 0) v.z) { flights = all_but 0 fs }) v.flights

pub kind_of : (d : Setting) (p : ℕ) → IsProducer d p → (slice_get d.producers p ≡ Some Routed) ⊎ (slice_get d.producers p ≡ Some Switched)
kind_of d p declared = by_kind (get_or d.producers p Routed) (slice_get-get_or d.producers p Routed declared)
  where
    by_kind : (k : RouteKind) → slice_get d.producers p ≡ Some k → (slice_get d.producers p ≡ Some Routed) ⊎ (slice_get d.producers p ≡ Some Switched)
    by_kind Routed e = inl e
    by_kind Switched e = inr e

pub unled_routed : (d : Setting) (p : ℕ) (done : Done) → slice_get d.producers p ≡ Some Routed → is_led d p done ≡ false → is_drained p done ≡ false
unled_routed d p done k e = subst (λ k. is_led_as k p done ≡ false) k e

pub unled_switched : (d : Setting) (p : ℕ) (done : Done) → slice_get d.producers p ≡ Some Switched → is_led d p done ≡ false
    → is_forced p done ≡ false
unled_switched d p done k e = subst (λ k. is_led_as k p done ≡ false) k e

-- the route in force of one that no step puts in force leads to the old place
pub unforced_old : (d : Setting) (done : Done) (rest : List AnyStep) (p i : ℕ) → is_forced p done ≡ false → (v : Plain d done rest i)
    → v.at.z.in_force p ≡ Old
unforced_old d done rest p i none v = (v.ways p).behind (or_false_left _ _ none) (or_false_right (is_fenced p done) _ none)

pub unled_old : (d : Setting) (done : Done) (rest : List AnyStep) (p i : ℕ) → IsProducer d p → is_led d p done ≡ false → is_paused p done ≡ false
    → Plain d done rest i → (IsRouted d p → is_drained p done ≡ false → is_paused p done ≡ false → Flying d done rest p i)
    → At d rest Pending i true true false false
unled_old d done rest p i declared e runs plain flying = elim (kind_of d p declared) [
  | inl routed ↦ arrived d done rest p i (flying (declared, routed) (unled_routed d p done routed e) runs)
  | inr switched ↦ stored d done rest p i InForce Old declared runs plain
      (unforced_old d done rest p i (unled_switched d p done switched e) plain)
]
