-- A plan into memory that keeps the rules tells the host.
use Rattle.std.proofs.Common.{◌≡◌, ℕ, zero, suc, ◌/◌, ◌%◌, ◌*◌, ◌+◌, ◌<◌, Bool, true, false, not, ◌&&◌, ◌||◌, nat_eq, nat_lt, List, [], ◌∷◌, ◌⊎◌, inl, inr, refl, sym, ap, ap₂, subst, ◌∙◌, arith}
use Rattle.std.specs.List.{AllByRecursion}
use Rattle.plans_rules.specs.declared.rule.Rule.{Rule}
use Rattle.plans_rules.specs.declared.rule.Rule.TheVariants.{Notice}
use Rattle.std.specs.Prelude.{slice_get}
use Rattle.std.proofs.lemmas.Bool.{eqb-true, false≢true}
use Rattle.plans_rules.specs.declared.step.AnyPlace.{AnyPlace}
use Rattle.plans_rules.specs.declared.step.AnyPlace.TheVariants.{Old, New}
use Rattle.plans_rules.specs.declared.step.WhichSet.{WhichSet}
use Rattle.plans_rules.specs.declared.step.WhichSet.TheVariants.{Pending, Enabled}
use Rattle.plans_rules.specs.declared.step.Number.{Number}
use Rattle.plans_rules.specs.declared.step.Number.TheVariants.{Threshold, Delivery}
use Rattle.plans_rules.specs.declared.setting.NumberSpot.TheVariants.{InNew}
use Rattle.plans_rules.specs.declared.step.AnyStep.{AnyStep}
use Rattle.plans_rules.specs.declared.step.AnyStep.TheVariants.{Fence, Pause, Zero, ZeroNumber, Look, Post, Tell, Untell, WriteNotice}
use Rattle.plans_rules.specs.Setting.{Setting, is_old}
use Rattle.plans_rules.specs.Machine.{lets_out, stands_out, word_stands_out, AnyFlight, AnyMachine, landed, flight_landed, all_landed, flights_of, stepped, route_of, AnyHappening, one_landed, happened, all_happened, steps_in}
use Rattle.plans_rules.specs.Machine.AnyHappening.{Does, Stores, Sends, Lands, Refetches}
use Rattle.plans_rules.specs.Safe.{CanHappen, IsStartOfAny, number_in, IsTold}
use Rattle.plans_rules.specs.Rules.{looks, posts, tells, untells, Done, may_stand, is_still, only_old, is_there, are_heeded, is_noticed, is_reached, is_settled, is_seen, is_looked, is_reported, lets, lets_end, lets_rest}
use Rattle.plans_rules.proofs.BoolLaws.{false_of, true_of, clash, not_true, and_left, and_right, and_of, or_left, or_right, or_false_left, or_false_right, or_cases, all_at, any_at}
use Rattle.plans_rules.proofs.Brought.{Places, busy_old}
use Rattle.plans_rules.proofs.Safety as safety
use Rattle.plans_rules.proofs.Between.{IsBetween, Invariant, Flies, AllFly, past_of, reach_of, unless, fly, may_by, between}
use Rattle.plans_rules.proofs.Safety.{of_all, does, begins, moved_end, ended}

-- ---- what a settled word says of a machine

-- What all rules say of a step, of the steps that are left, and of the end.
abbrev pub GuardRest : Setting → Done → List AnyStep → Type 0
GuardRest d done rest = (rule : Rule) → lets_rest rule d done rest ≡ true

abbrev pub GuardEnd : Setting → Done → Type 0
GuardEnd d done = (rule : Rule) → lets_end rule d done ≡ true

-- The rules of safety among them.
of_safety : (d : Setting) (done : Done) → GuardEnd d done → safety.GuardEnd d done
of_safety d done guard rule of = guard rule

-- What is_settled says.
pub record Settled (d : Setting) (w : ℕ) (done : Done) : Type 0 where
  pub pending : is_there d Pending w done ≡ true
  pub enabled : is_there d Enabled w done ≡ true
  pub numbers : are_heeded d done ≡ true
  pub notices : is_noticed d done ≡ true

settled_is : (d : Setting) (w : ℕ) (done : Done) → is_settled d w done ≡ true → Settled d w done
settled_is d w done e =
    let later = and_right (is_there d Pending w done) _ e in
    let needed = and_right (is_there d Enabled w done) _ later in
    record {
      pending = and_left (is_there d Pending w done) _ e;
      enabled = and_left (is_there d Enabled w done) _ later;
      numbers = and_left (are_heeded d done) _ needed;
      notices = and_right (are_heeded d done) _ needed;
    }

looked_settled : (d : Setting) (w : ℕ) (done : Done) → is_looked d w done ≡ true → Settled d w done
looked_settled d w [] e = absurd (false≢true e)
looked_settled d w (x ∷ done) e =
    settled_is d w (x ∷ done) (and_right (looks w x || elim (untells x) [ true ↦ is_seen d w done | false ↦ is_looked d w done ]) _ e)

seen_settled : (d : Setting) (w : ℕ) (done : Done) → is_seen d w done ≡ true → Settled d w done
seen_settled d w [] e = absurd (false≢true e)
seen_settled d w (x ∷ done) e =
    settled_is d w (x ∷ done) (and_left (is_settled d w (x ∷ done)) _ (and_right (looks w x || is_seen d w done) _ e))

seen_calm : (d : Setting) (w : ℕ) (done : Done) → is_seen d w done ≡ true → is_reached d Pending done ≡ false
seen_calm d w [] e = absurd (false≢true e)
seen_calm d w (x ∷ done) e = not_true _ (and_right (is_settled d w (x ∷ done)) _ (and_right (looks w x || is_seen d w done) _ e))

-- what was told by one step more
abbrev reported_by : Setting → ℕ → AnyStep → Done → Bool
reported_by d w x done = elim (untells x) [
  | true ↦ is_reported d w done && is_seen d w done
  | false ↦ (posts x && is_looked d w done) || (tells x || is_reported d w done)
]

reported_settled : (d : Setting) (w : ℕ) (done : Done) → is_reported d w done ≡ true → Settled d w done
reported_settled d w [] e = absurd (false≢true e)
reported_settled d w (x ∷ done) e =
    settled_is d w (x ∷ done) (and_right (reported_by d w x done) _ e)

-- what is due of a word that is there stands in the new place
there_at : (stands : Places) (o h n : Bool) → not (stands true false false || (stands false true false || stands true true false)) ≡ true
    → stands false false false ≡ false → stands o h n ≡ true → n ≡ true
there_at stands o h true is none may = refl
there_at stands true false false is none may = clash (stands true false false) may (or_false_left _ _ (not_true _ is))
there_at stands false true false is none may =
    clash (stands false true false) may (or_false_left _ _ (or_false_right (stands true false false) _ (not_true _ is)))
there_at stands true true false is none may =
    clash (stands true true false) may (or_false_right (stands false true false) _ (or_false_right (stands true false false) _ (not_true _ is)))
there_at stands false false false is none may = clash (stands false false false) may none

there_new : (d : Setting) (start : AnyMachine) (done : Done) (z : AnyMachine) (s : WhichSet) (i : ℕ) → Invariant d start done z
    → is_there d s (i / 64) done ≡ true → z.due s i ≡ true → z.new s i ≡ true
there_new d start done z s i v is due =
    let in_ = (v.kept s i).cover due in
    in_.new (there_at (may_stand d s (i / 64) done) in_.o in_.h in_.n is (v.somewhere s (i / 64)) in_.may)

-- and nobody stores into its old place
there_still : (d : Setting) (w : ℕ) (done : Done) → is_there d Pending w done ≡ true → is_still d Pending done ≡ true
there_still d w done is = true_of _ (λ busy. clash (only_old d Pending w done) (busy_old d Pending w done busy) (or_false_left _ _ (not_true _ is)))

-- The numbers as they were at the start.
abbrev first_numbers : Setting → AnyMachine → Number → ℕ
first_numbers d start n = number_in d.number_from n start

lets_same : (h : Bool) (a b : Bool) → (h ≡ true → a ≡ b) → ◌≡◌ {A = Bool} (elim h [ true ↦ a | false ↦ true ]) (elim h [ true ↦ b | false ↦ true ])
lets_same true a b e = e refl
lets_same false a b e = refl

lets_by : (f g : Number → ℕ) (i : ℕ) → f Threshold ≡ g Threshold → f Delivery ≡ g Delivery
    → (nat_eq (f Delivery) 1 && (nat_eq (f Threshold) 0 || nat_lt i (f Threshold)))
    ≡ (nat_eq (g Delivery) 1 && (nat_eq (g Threshold) 0 || nat_lt i (g Threshold)))
lets_by f g i e k = ap (λ t. nat_eq (f Delivery) 1 && (nat_eq t 0 || nat_lt i t)) e
    ∙ ap (λ v. nat_eq v 1 && (nat_eq (g Threshold) 0 || nat_lt i (g Threshold))) k

heeded : (h a b : Bool) → h ≡ true → (elim h [ true ↦ a && b | false ↦ true ]) ≡ true → (a ≡ true) × (b ≡ true)
heeded true a b e both = (and_left a b both, and_right a b both)
heeded false a b e both = absurd (false≢true e)

-- where what is heeded is there, the new place lets out what the numbers of the start do
lets_first : (d : Setting) (start : AnyMachine) (done : Done) (z : AnyMachine) (i : ℕ) → Invariant d start done z → are_heeded d done ≡ true
    → lets_out d z.new_number i ≡ lets_out d (first_numbers d start) i
lets_first d start done z i v is = lets_same d.heeds _ _ (λ h. let both = heeded d.heeds _ _ h is in
    lets_by z.new_number (first_numbers d start) i (v.numbers Threshold InNew both.0) (v.numbers Delivery InNew both.1))

-- Whether one is due in both sets, and the numbers of the start let it through.
abbrev pub due_out : Setting → AnyMachine → AnyMachine → ℕ → Bool
due_out d start z i = stands_out d z.due (first_numbers d start) i

-- such a one of a settled word stands out
out_there : (d : Setting) (start : AnyMachine) (done : Done) (z : AnyMachine) (i : ℕ) → Invariant d start done z → Settled d (i / 64) done
    → due_out d start z i ≡ true → stands_out d z.new z.new_number i ≡ true
out_there d start done z i v settled due =
    let later = and_right (z.due Pending i) _ due in
    and_of (z.new Pending i) _ (there_new d start done z Pending i v settled.pending (and_left (z.due Pending i) _ due))
    (and_of (z.new Enabled i) _ (there_new d start done z Enabled i v settled.enabled (and_left (z.due Enabled i) _ later))
    (lets_first d start done z i v settled.numbers ∙ and_right (z.due Enabled i) _ later))

-- ---- the invariant

pub record Noted (d : Setting) (start : AnyMachine) (done : Done) (z : AnyMachine) : Type 0 where
  pub seen : (i : ℕ) → is_seen d (i / 64) done ≡ true → due_out d start z i ≡ true → z.seen ≡ true
  pub looked : (i : ℕ) → is_looked d (i / 64) done ≡ true → due_out d start z i ≡ true → (z.told || z.seen) ≡ true
  pub reported : (i : ℕ) → i / 64 < d.words → is_reported d (i / 64) done ≡ true → due_out d start z i ≡ true → z.told ≡ true
  pub noticed : is_noticed d done ≡ true → z.noticed ≡ true

-- ---- a store lands

-- m: it is this identity; p, r: that is due, and else stands out; o: in the old place; c: notices go to the host; out: the store's stands out there
land_out : (m o p r c out told : Bool) → (m ≡ true → o ≡ false) → c ≡ true → (m ≡ true → r ≡ true → out ≡ true)
    → ((p && r) ≡ true → told ≡ true) → (((m && true) || p) && r) ≡ true → (told || (not o && (c && out))) ≡ true
land_out true true p r c out told place goes same h due = absurd (false≢true (sym (place refl)))
land_out true false p r c out told place goes same h due = or_right told _ (and_of c _ goes (same refl due))
land_out false o p r c out told place goes same h due = or_left told _ (h due)

-- what a look saw may stand in between
past_seen : (told x seen : Bool) → ((told || seen) || x) ≡ true → ((told || x) || seen) ≡ true
past_seen true x seen e = refl
past_seen false x true e = or_right x true refl
past_seen false x false e = or_left x false e

noted_land : (d : Setting) (start : AnyMachine) (done : Done) (place : AnyPlace) (x : ℕ) (z : AnyMachine)
    → (is_old place ≡ true → is_still d Pending done ≡ false) → (is_old place ≡ false → is_reached d Pending done ≡ true)
    → Invariant d start done z → Noted d start done z → Noted d start done (landed d place x z)
noted_land d start done place x z past reaches w v = record {
  seen = λ i e due. clash _ (reaches (ahead i (seen_settled d (i / 64) done e))) (seen_calm d (i / 64) done e);
  looked = λ i e due. past_seen z.told _ z.seen (tells_host i (z.told || z.seen) (looked_settled d (i / 64) done e) (v.looked i e) due);
  reported = λ i inside e due. tells_host i z.told (reported_settled d (i / 64) done e) (v.reported i inside e) due;
  noticed = v.noticed;
}
  where
    ahead : (i : ℕ) → Settled d (i / 64) done → is_old place ≡ false
    ahead i settled = false_of _ (λ o. clash _ (there_still d (i / 64) done settled.pending) (past o))

    stands : (i : ℕ) → Settled d (i / 64) done → nat_eq x i ≡ true → (z.due Enabled i && lets_out d (first_numbers d start) i) ≡ true
        → (z.new Enabled x && lets_out d z.new_number x) ≡ true
    stands i settled m e = subst (λ j. (z.new Enabled j && lets_out d z.new_number j) ≡ true) (sym (eqb-true x i m))
        (and_of (z.new Enabled i) _ (there_new d start done z Enabled i w settled.enabled (and_left (z.due Enabled i) _ e))
        (lets_first d start done z i w settled.numbers ∙ and_right (z.due Enabled i) _ e))

    tells_host : (i : ℕ) (told : Bool) → Settled d (i / 64) done → (due_out d start z i ≡ true → told ≡ true)
        → due_out d start (landed d place x z) i ≡ true
        → (told || (not (is_old place) && (z.noticed && (z.new Enabled x && lets_out d z.new_number x)))) ≡ true
    tells_host i told settled h due = land_out (nat_eq x i) (is_old place) (z.due Pending i) _ z.noticed _ told
        (λ m. ahead i settled) (v.noticed settled.notices) (stands i settled) h due

-- both invariants
pub record Both (d : Setting) (start : AnyMachine) (done : Done) (z : AnyMachine) : Type 0 where
  pub kept : Invariant d start done z
  pub noted : Noted d start done z

fly_noted : (d : Setting) (start : AnyMachine) (done : Done) (f : AnyFlight) (z : AnyMachine) → Flies d done f → Both d start done z
    → Both d start done (flight_landed d f z)
fly_noted d start done f z may v = record {
  kept = fly d start done f z may v.kept;
  noted = noted_land d start done f.place f.identity z (past_of d done f.producer f.place may.0.0 may.1 may.2)
      (reach_of d done f.producer f.place may.0.0 may.1 may.2) v.kept v.noted;
}

noted_all : (d : Setting) (start : AnyMachine) (done : Done) (fs : List AnyFlight) (z : AnyMachine) → AllFly d done fs → Both d start done z
    → Both d start done (all_landed d fs z)
noted_all d start done [] z all v = v
noted_all d start done (f ∷ later) z (first, others) v = noted_all d start done later (flight_landed d f z) others
    (fly_noted d start done f z first v)

noted_one : (d : Setting) (start : AnyMachine) (done : Done) (z : AnyMachine) (fs : List AnyFlight) (k : ℕ) → AllFly d done fs
    → Both d start done z → Both d start done (one_landed d (slice_get fs k) z)
noted_one d start done z [] k all v = v
noted_one d start done z (f ∷ later) zero (first, others) v = fly_noted d start done f z first v
noted_one d start done z (f ∷ later) (suc k) (first, others) v = noted_one d start done z later k others v

noted_between : (d : Setting) (start : AnyMachine) (done : Done) (x : AnyHappening) (z : AnyMachine) → IsBetween x → CanHappen d x
    → Invariant d start done z → Noted d start done z → Noted d start done (happened d x z)
noted_between d start done (Does step) z is can w v = absurd is
noted_between d start done (Stores p by x) z is can w v =
    unless (Noted d start done) (z.paused p) z (landed d (route_of by p z) x z) v (λ runs. let still = sym (w.paused p can) ∙ runs in
    let may = may_by d by p done z (w.leads p can) in
    noted_land d start done (route_of by p z) x z (past_of d done p (route_of by p z) can still may)
    (reach_of d done p (route_of by p z) can still may) w v)
noted_between d start done (Sends p by x) z is can w v =
    unless (Noted d start done) (z.paused p) z (record z { flights = record { producer = p; place = route_of by p z; identity = x } ∷ z.flights }) v
    (λ runs. record { seen = v.seen; looked = v.looked; reported = v.reported; noticed = v.noticed })
noted_between d start done (Lands k) z is can w v =
    let u = (noted_one d start done z z.flights k w.flights (record { kept = w; noted = v })).noted in
    record { seen = u.seen; looked = u.looked; reported = u.reported; noticed = u.noticed }
noted_between d start done (Refetches p) z is can w v = record { seen = v.seen; looked = v.looked; reported = v.reported; noticed = v.noticed }

-- ---- a step that waits for nothing in flight

abbrev pub IsNoFence : AnyStep → Type 0
IsNoFence (Fence p) = ⊥
IsNoFence (Pause p) = ⊥
IsNoFence x = Unit {0}

-- a step makes nothing due
due_stays : (d : Setting) (x : AnyStep) (z : AnyMachine) → IsNoFence x → (stepped d x z).due ≡ z.due
due_stays d (Fence p) z is = absurd is
due_stays d (Pause p) z is = absurd is
due_stays d (Zero Old s w) z is = refl
due_stays d (Zero New s w) z is = refl
due_stays d (ZeroNumber Old n) z is = refl
due_stays d (ZeroNumber New n) z is = refl
due_stays d x z is = refl

due_before : (d : Setting) (start : AnyMachine) (x : AnyStep) (z : AnyMachine) (i : ℕ) → IsNoFence x
    → due_out d start (stepped d x z) i ≡ true → due_out d start z i ≡ true
due_before d start x z i is due = subst (λ sets. stands_out d sets (first_numbers d start) i ≡ true) (due_stays d x z is) due

-- what was told, or seen, stays so
told_stays : (d : Setting) (x : AnyStep) (z : AnyMachine) → IsNoFence x → untells x ≡ false → z.told ≡ true → (stepped d x z).told ≡ true
told_stays d (Fence p) z is none e = absurd is
told_stays d (Pause p) z is none e = absurd is
told_stays d Untell z is none e = absurd (false≢true (sym none))
told_stays d Post z is none e = or_left z.told _ e
told_stays d Tell z is none e = or_left z.told _ e
told_stays d (Zero Old s w) z is none e = e
told_stays d (Zero New s w) z is none e = e
told_stays d (ZeroNumber Old n) z is none e = e
told_stays d (ZeroNumber New n) z is none e = e
told_stays d x z is none e = e

seen_more : (t s x : Bool) → (t || s) ≡ true → (t || (s || x)) ≡ true
seen_more true s x e = refl
seen_more false s x e = or_left s x e

told_more : (t s x : Bool) → (t || s) ≡ true → ((t || x) || s) ≡ true
told_more t s x e = past_seen t x s (or_left (t || s) x e)

seen_stays : (d : Setting) (x : AnyStep) (z : AnyMachine) → IsNoFence x → untells x ≡ false → (z.told || z.seen) ≡ true
    → ((stepped d x z).told || (stepped d x z).seen) ≡ true
seen_stays d (Fence p) z is none e = absurd is
seen_stays d (Pause p) z is none e = absurd is
seen_stays d Untell z is none e = absurd (false≢true (sym none))
seen_stays d Post z is none e = told_more z.told z.seen z.seen e
seen_stays d Tell z is none e = told_more z.told z.seen _ e
seen_stays d (Look w) z is none e = seen_more z.told z.seen _ e
seen_stays d (Zero Old s w) z is none e = e
seen_stays d (Zero New s w) z is none e = e
seen_stays d (ZeroNumber Old n) z is none e = e
seen_stays d (ZeroNumber New n) z is none e = e
seen_stays d x z is none e = e

-- what a look saw stays seen, and what was told is not taken back then
look_stays : (d : Setting) (x : AnyStep) (z : AnyMachine) → IsNoFence x → z.seen ≡ true → (stepped d x z).seen ≡ true
look_stays d (Fence p) z is e = absurd is
look_stays d (Pause p) z is e = absurd is
look_stays d (Look w) z is e = or_left z.seen _ e
look_stays d (Zero Old s w) z is e = e
look_stays d (Zero New s w) z is e = e
look_stays d (ZeroNumber Old n) z is e = e
look_stays d (ZeroNumber New n) z is e = e
look_stays d x z is e = e

untold_now : (d : Setting) (x : AnyStep) (z : AnyMachine) → untells x ≡ true → z.told ≡ true → z.seen ≡ true → (stepped d x z).told ≡ true
untold_now d Untell z m e saw = and_of z.told z.seen e saw
untold_now d x z m e saw = absurd (false≢true m)

-- where notices go is written once and for all
noticed_stays : (d : Setting) (done : Done) (x : AnyStep) (z : AnyMachine) → IsNoFence x → (is_noticed d done ≡ true → z.noticed ≡ true)
    → is_noticed d (x ∷ done) ≡ true → (stepped d x z).noticed ≡ true
noticed_stays d done (Fence p) z is h e = absurd is
noticed_stays d done (Pause p) z is h e = absurd is
noticed_stays d done WriteNotice z is h e = refl
noticed_stays d done (Zero Old s w) z is h e = h e
noticed_stays d done (Zero New s w) z is h e = h e
noticed_stays d done (ZeroNumber Old n) z is h e = h e
noticed_stays d done (ZeroNumber New n) z is h e = h e
noticed_stays d done x z is h e = h e

-- a look, a post, a tell
place_of : (w i : ℕ) → w ≡ i / 64 → 64 * w + i % 64 ≡ i
place_of w i e = omega arith

word_out : (d : Setting) (z : AnyMachine) (w i : ℕ) → w ≡ i / 64 → stands_out d z.new z.new_number i ≡ true
    → word_stands_out d z.new z.new_number w ≡ true
word_out d z w i e out = any_at (λ b. stands_out d z.new z.new_number (64 * w + b)) 64 (i % 64) (omega arith)
    (ap (stands_out d z.new z.new_number) (place_of w i e) ∙ out)

look_now : (d : Setting) (x : AnyStep) (z : AnyMachine) (i : ℕ) → looks (i / 64) x ≡ true
    → stands_out d (stepped d x z).new (stepped d x z).new_number i ≡ true → (stepped d x z).seen ≡ true
look_now d (Look w) z i m out = or_right z.seen _ (word_out d z w i (eqb-true w (i / 64) m) out)
look_now d x z i m out = absurd (false≢true m)

posted_now : (d : Setting) (x : AnyStep) (z : AnyMachine) → posts x ≡ true → (z.told || z.seen) ≡ true → (stepped d x z).told ≡ true
posted_now d Post z m e = e
posted_now d x z m e = absurd (false≢true m)

told_now : (d : Setting) (x : AnyStep) (z : AnyMachine) (i : ℕ) → i / 64 < d.words → tells x ≡ true
    → stands_out d (stepped d x z).new (stepped d x z).new_number i ≡ true → (stepped d x z).told ≡ true
told_now d Tell z i inside m out = or_right z.told _
    (any_at (word_stands_out d z.new z.new_number) d.words (i / 64) inside (word_out d z (i / 64) i refl out))
told_now d x z i inside m out = absurd (false≢true m)

-- by whether a step takes back what was told
either_cases : (u a b : Bool) → (elim u [ true ↦ a | false ↦ b ]) ≡ true → ((u ≡ true) × (a ≡ true)) ⊎ ((u ≡ false) × (b ≡ true))
either_cases true a b e = inl (refl, e)
either_cases false a b e = inr (refl, e)

-- **A step that the rules let stand keeps what was noted.**
pub notes : (d : Setting) (start : AnyMachine) (done : Done) (x : AnyStep) (z : AnyMachine) → IsNoFence x
    → Invariant d start (x ∷ done) (stepped d x z) → Noted d start done z → Noted d start (x ∷ done) (stepped d x z)
notes d start done x z is w v = record {
  seen = λ i e due. elim (or_cases (looks (i / 64) x) _ (and_left (looks (i / 64) x || is_seen d (i / 64) done) _ e)) [
    | inl now ↦ look_now d x z i now (out_there d start (x ∷ done) (stepped d x z) i w (seen_settled d (i / 64) (x ∷ done) e) due)
    | inr before ↦ look_stays d x z is (v.seen i before (due_before d start x z i is due))
  ];
  looked = λ i e due. elim (or_cases (looks (i / 64) x) _ (and_left
      (looks (i / 64) x || elim (untells x) [ true ↦ is_seen d (i / 64) done | false ↦ is_looked d (i / 64) done ]) _ e)) [
        | inl now ↦ or_right (stepped d x z).told _
            (look_now d x z i now (out_there d start (x ∷ done) (stepped d x z) i w (looked_settled d (i / 64) (x ∷ done) e) due))
        | inr before ↦ elim (either_cases (untells x) _ _ before) [
          | inl back ↦ or_right (stepped d x z).told _ (look_stays d x z is (v.seen i back.1 (due_before d start x z i is due)))
          | inr on ↦ seen_stays d x z is on.0 (v.looked i on.1 (due_before d start x z i is due))
        ]
      ];
  reported = λ i inside e due. elim (either_cases (untells x) _ _ (and_left (reported_by d (i / 64) x done) _ e)) [
    | inl back ↦ untold_now d x z back.0
        (v.reported i inside (and_left (is_reported d (i / 64) done) _ back.1) (due_before d start x z i is due))
        (v.seen i (and_right (is_reported d (i / 64) done) _ back.1) (due_before d start x z i is due))
    | inr on ↦ elim (or_cases (posts x && is_looked d (i / 64) done) _ on.1) [
      | inl now ↦ posted_now d x z (and_left (posts x) _ now) (v.looked i (and_right (posts x) _ now) (due_before d start x z i is due))
      | inr later ↦ elim (or_cases (tells x) _ later) [
        | inl now ↦ told_now d x z i inside now
            (out_there d start (x ∷ done) (stepped d x z) i w (reported_settled d (i / 64) (x ∷ done) e) due)
        | inr before ↦ told_stays d x z is on.0 (v.reported i inside before (due_before d start x z i is due))
      ]
    ]
  ];
  noticed = noticed_stays d done x z is v.noticed;
}

-- a fence, and a pause, only lands stores
notes_landed : (d : Setting) (start : AnyMachine) (done : Done) (p : ℕ) (z : AnyMachine) → Invariant d start done z → Noted d start done z
    → Noted d start done (all_landed d (flights_of p z.flights) z)
notes_landed d start done p z w v =
    (noted_all d start done (flights_of p z.flights) z (of_all (Flies d done) p z.flights w.flights) (record { kept = w; noted = v })).noted

-- what such a step says is noted was noted before it
abbrev SaysLess : Setting → AnyStep → Done → Type 0
SaysLess d x done = (w : ℕ) → (is_seen d w (x ∷ done) ≡ true → is_seen d w done ≡ true)
    × (is_looked d w (x ∷ done) ≡ true → is_looked d w done ≡ true)
    × (is_reported d w (x ∷ done) ≡ true → is_reported d w done ≡ true)

less_of : (a b c x y z : Bool) → ((a && x) ≡ true → a ≡ true) × ((b && y) ≡ true → b ≡ true) × ((c && z) ≡ true → c ≡ true)
less_of a b c x y z = (and_left a x, and_left b y, and_left c z)

-- so what is noted once all has landed is noted behind it, whatever else it does
noted_behind : (d : Setting) (start : AnyMachine) (x : AnyStep) (done : Done) (z u : AnyMachine) → SaysLess d x done
    → (is_noticed d (x ∷ done) ≡ true → is_noticed d done ≡ true) → u.due ≡ z.due → u.seen ≡ z.seen → u.told ≡ z.told → u.noticed ≡ z.noticed
    → Noted d start done u → Noted d start (x ∷ done) z
noted_behind d start x done z u less same due seen told noticed v = record {
  seen = λ i e out. sym seen ∙ v.seen i ((less (i / 64)).0 e) (due_in i out);
  looked = λ i e out. sym (ap₂ (λ a b. a || b) told seen) ∙ v.looked i ((less (i / 64)).1 e) (due_in i out);
  reported = λ i inside e out. sym told ∙ v.reported i inside ((less (i / 64)).2 e) (due_in i out);
  noticed = λ e. sym noticed ∙ v.noticed (same e);
}
  where
    due_in : (i : ℕ) → due_out d start z i ≡ true → due_out d start u i ≡ true
    due_in i out = subst (λ sets. stands_out d sets (first_numbers d start) i ≡ true) (sym due) out

notes_any : (d : Setting) (start : AnyMachine) (done : Done) (x : AnyStep) (z : AnyMachine) → Invariant d start done z
    → Invariant d start (x ∷ done) (stepped d x z) → Noted d start done z → Noted d start (x ∷ done) (stepped d x z)
notes_any d start done (Fence p) z w after v =
    noted_behind d start (Fence p) done _ _ (λ w. less_of _ _ _ _ _ _) (λ e. e) refl refl refl refl (notes_landed d start done p z w v)
notes_any d start done (Pause p) z w after v =
    noted_behind d start (Pause p) done _ _ (λ w. less_of _ _ _ _ _ _) (λ e. e) refl refl refl refl (notes_landed d start done p z w v)
notes_any d start done x z w after v = notes d start done x z tt after v

-- ---- a whole run

pub record Heard (d : Setting) (start z : AnyMachine) : Type 0 where
  pub done : Done
  pub guard : GuardEnd d done
  pub kept : Invariant d start done z
  pub noted : Noted d start done z

hears : (d : Setting) (start : AnyMachine) (done : Done) (run : List AnyHappening) (z : AnyMachine) → AllByRecursion (CanHappen d) run
    → GuardRest d done (steps_in run) → Invariant d start done z → Noted d start done z → Heard d start (all_happened d run z)
hears d start done [] z can guards w v = record { done = done; guard = guards; kept = w; noted = v }
hears d start done (Does x ∷ later) z can guards w v =
    let after = does d start done x z (λ rule of. and_left (lets rule d x done) _ (guards rule)) w in
    hears d start (x ∷ done) later (stepped d x z) can.1 (λ rule. and_right (lets rule d x done) _ (guards rule)) after
    (notes_any d start done x z w after v)
hears d start done (Stores p by x ∷ later) z can guards w v =
    hears d start done later _ can.1 guards (between d start done (Stores p by x) z tt can.0 w)
    (noted_between d start done (Stores p by x) z tt can.0 w v)
hears d start done (Sends p by x ∷ later) z can guards w v =
    hears d start done later _ can.1 guards (between d start done (Sends p by x) z tt can.0 w)
    (noted_between d start done (Sends p by x) z tt can.0 w v)
hears d start done (Lands k ∷ later) z can guards w v =
    hears d start done later _ can.1 guards (between d start done (Lands k) z tt can.0 w) (noted_between d start done (Lands k) z tt can.0 w v)
hears d start done (Refetches p ∷ later) z can guards w v =
    hears d start done later _ can.1 guards (between d start done (Refetches p) z tt can.0 w)
    (noted_between d start done (Refetches p) z tt can.0 w v)

noted_start : (d : Setting) (z : AnyMachine) → IsStartOfAny d z → Noted d z [] z
noted_start d z is = record {
  seen = λ i e due. absurd (false≢true e);
  looked = λ i e due. absurd (false≢true e);
  reported = λ i inside e due. absurd (false≢true e);
  noticed = is.noticed;
}

in_memory_law : (m all : Bool) → m ≡ true → (elim m [ true ↦ all | false ↦ true ]) ≡ true → all ≡ true
in_memory_law true all e f = f
in_memory_law false all e f = absurd (false≢true e)

-- in the end what stands out is due
out_due : (d : Setting) (start : AnyMachine) (done : Done) (z : AnyMachine) (i : ℕ) → GuardEnd d done → Invariant d start done z → i / 64 < d.words
    → are_heeded d done ≡ true → stands_out d z.new z.new_number i ≡ true → due_out d start z i ≡ true
out_due d start done z i guard v inside are out =
    let later = and_right (z.new Pending i) _ out in
    and_of (z.due Pending i) _ (sym (moved_end d start z done Pending i v (ended d done Pending (i / 64) (of_safety d done guard) inside))
    ∙ and_left (z.new Pending i) _ out)
    (and_of (z.due Enabled i) _ (sym (moved_end d start z done Enabled i v (ended d done Enabled (i / 64) (of_safety d done guard) inside))
    ∙ and_left (z.new Enabled i) _ later)
    (sym (lets_first d start done z i v are) ∙ and_right (z.new Enabled i) _ later))

-- **A plan into memory that keeps all rules tells the host.**
pub guarded_is_told : (d : Setting) (plan : List AnyStep) → d.in_memory ≡ true → GuardRest d [] plan → IsTold d plan
guarded_is_told d plan memory guards start run at_start is i inside out =
    let heard = hears d start [] run start is.others (subst (GuardRest d []) (sym is.steps) guards) (begins d start at_start)
    (noted_start d start at_start) in
    let reported = all_at (λ w. is_reported d w heard.done) d.words (i / 64) (in_memory_law d.in_memory _ memory (heard.guard Notice)) inside in
    heard.noted.reported i inside reported
    (out_due d start heard.done _ i heard.guard heard.kept inside (reported_settled d (i / 64) heard.done reported).numbers out)
