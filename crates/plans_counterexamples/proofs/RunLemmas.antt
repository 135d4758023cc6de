-- A run of a plan, and what is followed in it.
use Rattle.std.proofs.Common.{◌≡◌, ℕ, zero, suc, ◌+◌, ◌/◌, ◌<◌, ◌≤◌, Bool, true, false, not, ◌||◌, nat_eq, nat_lt, if◌then◌else◌, length, List, [], ◌∷◌, ◌++◌, Option, Some, None, inl, inr, refl, sym, ap, ap₂, subst, ◌∙◌, arith}
use Rattle.std.specs.Prelude.{get_or, slice_get, take}
use Rattle.std.specs.List.{AllByRecursion}
use Rattle.std.proofs.lemmas.Bool.{eq-eqb, false≢true, ltb-true}
use Rattle.std.proofs.lemmas.List.{append-nil, take_more, take_all}
use Rattle.std.proofs.lemmas.Option.{slice_get-get_or, slice_get_within}
use Rattle.plans_rules.specs.declared.step.WhichSet.{WhichSet}
use Rattle.plans_rules.specs.declared.step.WhichSet.TheVariants.{Pending, Enabled}
use Rattle.plans_rules.specs.declared.step.AnyPlace.{AnyPlace}
use Rattle.plans_rules.specs.declared.step.AnyPlace.TheVariants.{Old, New}
use Rattle.plans_rules.specs.declared.step.AnyStep.{AnyStep}
use Rattle.plans_rules.specs.declared.setting.RouteKind.{RouteKind}
use Rattle.plans_rules.specs.declared.setting.RouteKind.TheVariants.{Routed, Switched}
use Rattle.plans_rules.specs.declared.setting.NumberSpot.{NumberSpot}
use Rattle.plans_rules.specs.declared.setting.NumberSpot.TheVariants.{InOld, InHand, InNew}
use Rattle.plans_rules.specs.declared.setting.Terms.{Terms}
use Rattle.plans_rules.specs.Setting.{Setting, setting_of, is_old, same_spot}
use Rattle.plans_rules.specs.Machine.{AnyFlight, AnyMachine, AnyHappening, landed, all_happened, happened, one_landed, all_but, steps_in, stepped}
use Rattle.plans_rules.specs.Machine.By.{InForce as AsInForce}
use Rattle.plans_rules.specs.Machine.AnyHappening.{Does, Stores, Sends, Lands, Refetches}
use Rattle.plans_rules.specs.Safe.{CanHappen, IsRun, IsStartOfAny, IsMovedByAny, number_in}
use Rattle.plans_rules.proofs.BoolLaws.{not_true, and_left, and_right, or_right, or_cases}
use Rattle.plans_counterexamples.specs.declared.trace.Case.{Case}
use Rattle.plans_counterexamples.specs.declared.trace.StoreRoute.{StoreRoute}
use Rattle.plans_counterexamples.specs.declared.trace.StoreRoute.TheVariants.{Written, InForce}
use Rattle.plans_counterexamples.specs.declared.trace.Trace.{Trace}
use Rattle.plans_counterexamples.specs.declared.run.Run.{Run}
use Rattle.plans_counterexamples.specs.declared.run.Extra.{Extra}
use Rattle.plans_counterexamples.specs.declared.run.Extra.TheVariants as extras
use Rattle.plans_counterexamples.specs.Trace.{Follows, begins_old, begins_new, flights_by, flight_landed, trace_after, trace_landed, trace_stored, unless_paused, worth}
use Rattle.plans_counterexamples.specs.Run.{Loses, can_be, differ, extra_at, by_of, happenings, is_bad_bit, is_bad_end, is_flying_old, is_left, is_unled, is_routed, one_bit, run_upto, start_of, step_at, trace_begun, trace_extra, trace_flown, trace_number, trace_sent, trace_wanted}
use Rattle.plans_counterexamples.proofs.FollowLemmas.{follows_landed, follows_step}

-- ---- lists of happenings

pub all_happened-append : (d : Setting) (a b : List AnyHappening) (z : AnyMachine) → all_happened d (a ++ b) z ≡ all_happened d b (all_happened d a z)
all_happened-append d [] b z = refl
all_happened-append d (x ∷ a) b z = all_happened-append d a b (happened d x z)

steps_in-append : (a b : List AnyHappening) → steps_in (a ++ b) ≡ steps_in a ++ steps_in b
steps_in-append [] b = refl
steps_in-append (Does x ∷ a) b = ap (λ xs. x ∷ xs) (steps_in-append a b)
steps_in-append (Stores p by x ∷ a) b = steps_in-append a b
steps_in-append (Sends p by x ∷ a) b = steps_in-append a b
steps_in-append (Lands k ∷ a) b = steps_in-append a b
steps_in-append (Refetches p ∷ a) b = steps_in-append a b

all-append : (P : AnyHappening → Type 0) (a b : List AnyHappening) → AllByRecursion P a → AllByRecursion P b → AllByRecursion P (a ++ b)
all-append P [] b all more = more
all-append P (x ∷ a) b all more = (all.0, all-append P a b all.1 more)

-- ---- the start

pub follows_begun : (producers : List RouteKind) (terms : Terms) (run : Run)
    → Follows run.case (trace_begun run terms) (start_of (setting_of producers terms) run)
follows_begun producers terms run = record {
  old = there (begins_old run.begin) run.case.bank run.case.identity;
  new = there (begins_new run.begin) run.case.bank run.case.identity;
  hand = refl;
  due = there (begins_old run.begin) run.case.bank run.case.identity;
  old_number = refl;
  new_number = refl;
  hand_number = refl;
  written = refl;
  in_force = refl;
  paused = refl;
  flights = refl;
  freed = refl;
  strayed = refl;
}
  where
    there : (b : Bool) (s : WhichSet) (i : ℕ) → one_bit b s i s i ≡ b
    there false s i = refl
    there true Pending i = eq-eqb i i refl
    there true Enabled i = eq-eqb i i refl

-- ---- the store

flown : (d : Setting) (c : Case) (t : Trace) (z : AnyMachine) → Follows c t z
    → Follows c (record (flight_landed c t.flight t) { flight = None }) (happened d (Lands 0) z)
flown d c t z v =
    subst (λ fs. Follows c (record (flight_landed c t.flight t) { flight = None })
    (record (one_landed d (slice_get fs 0) z) { flights = all_but 0 fs })) (sym v.flights) (by_flight t.flight refl)
  where
    bare : (u : Trace) (y : AnyMachine) (fs : List AnyFlight) → fs ≡ [] → Follows c u y
        → Follows c (record u { flight = None }) (record y { flights = fs })
    bare u y fs e w = record {
      old = w.old;
      new = w.new;
      hand = w.hand;
      due = w.due;
      old_number = w.old_number;
      new_number = w.new_number;
      hand_number = w.hand_number;
      written = w.written;
      in_force = w.in_force;
      paused = w.paused;
      flights = e;
      freed = w.freed;
      strayed = w.strayed;
    }

    by_flight : (f : Option AnyPlace) → t.flight ≡ f
        → Follows c (record (flight_landed c f t) { flight = None })
        (record (one_landed d (slice_get (flights_by c f) 0) z) { flights = all_but 0 (flights_by c f) })
    by_flight None e = bare t z [] refl v
    by_flight (Some place) e = bare (trace_landed c place t) (landed d place c.identity z) [] refl (follows_landed d c place t z v)

-- what a producer does, unless it is paused
pub unless_follows : (c : Case) (t u : Trace) (z y : AnyMachine) (b k : Bool) → k ≡ b → Follows c t z → Follows c u y
    → Follows c (elim b [ true ↦ t | false ↦ u ]) (if k then z else y)
unless_follows c t u z y true true e v w = v
unless_follows c t u z y false false e v w = w
unless_follows c t u z y true false e v w = absurd (false≢true e)
unless_follows c t u z y false true e v w = absurd (false≢true (sym e))

stored : (d : Setting) (c : Case) (route : StoreRoute) (t : Trace) (z : AnyMachine) → Follows c t z
    → Follows c (trace_stored c route t) (happened d (Stores c.producer (by_of route) c.identity) z)
stored d c Written t z v = unless_follows c t (trace_landed c t.written t) z (landed d (z.written c.producer) c.identity z) t.paused
    (z.paused c.producer) v.paused v
    (subst (λ place. Follows c (trace_landed c t.written t) (landed d place c.identity z)) (sym v.written) (follows_landed d c t.written t z v))
stored d c InForce t z v = unless_follows c t (trace_landed c t.in_force t) z (landed d (z.in_force c.producer) c.identity z) t.paused
    (z.paused c.producer) v.paused v
    (subst (λ place. Follows c (trace_landed c t.in_force t) (landed d place c.identity z)) (sym v.in_force) (follows_landed d c t.in_force t z v))

-- Where a store is sent, none is in flight yet.
abbrev pub IsUnsent : Run → ℕ → Trace → Type 0
IsUnsent run k t = (before lands : ℕ) → run.extra ≡ extras.Sends before lands → nat_eq before k ≡ true → t.flight ≡ None

sent : (d : Setting) (c : Case) (t : Trace) (z : AnyMachine) → t.flight ≡ None → Follows c t z
    → Follows c (unless_paused t (record t { flight = Some t.in_force })) (happened d (Sends c.producer AsInForce c.identity) z)
sent d c t z none v = unless_follows c t (record t { flight = Some t.in_force }) z after t.paused (z.paused c.producer) v.paused v (record {
  old = v.old;
  new = v.new;
  hand = v.hand;
  due = v.due;
  old_number = v.old_number;
  new_number = v.new_number;
  hand_number = v.hand_number;
  written = v.written;
  in_force = v.in_force;
  paused = v.paused;
  flights = ap₂ (λ place fs. record { producer = c.producer; place = place; identity = c.identity } ∷ fs) v.in_force
      (v.flights ∙ ap (flights_by c) none);
  freed = v.freed;
  strayed = v.strayed;
})
  where
    after : AnyMachine
    after = record z { flights = record { producer = c.producer; place = z.in_force c.producer; identity = c.identity } ∷ z.flights }

pub follows_extra : (d : Setting) (run : Run) (k : ℕ) (t : Trace) (z : AnyMachine) → IsUnsent run k t → Follows run.case t z
    → Follows run.case (trace_extra run k t) (all_happened d (extra_at run k) z)
follows_extra d run k t z unsent v = by_extra run.extra refl
  where
    stores_at : (b : Bool) (route : StoreRoute) → Follows run.case (elim b [ true ↦ trace_stored run.case route t | false ↦ t ])
        (all_happened d (if b then Stores run.case.producer (by_of route) run.case.identity ∷ [] else []) z)
    stores_at true route = stored d run.case route t z v
    stores_at false route = v

    sent_at : (b : Bool) → (b ≡ true → t.flight ≡ None) → Follows run.case (trace_sent b t)
        (all_happened d (if b then Sends run.case.producer AsInForce run.case.identity ∷ [] else []) z)
    sent_at true none = sent d run.case t z (none refl) v
    sent_at false none = v

    flown_at : (b : Bool) (u : Trace) (y : AnyMachine) → Follows run.case u y
        → Follows run.case (trace_flown run.case b u) (all_happened d (if b then Lands 0 ∷ [] else []) y)
    flown_at true u y w = flown d run.case u y w
    flown_at false u y w = w

    both_at : (before lands : ℕ) → (nat_eq before k ≡ true → t.flight ≡ None)
        → Follows run.case (trace_flown run.case (nat_eq lands k) (trace_sent (nat_eq before k) t))
        (all_happened d ((if nat_eq before k then Sends run.case.producer AsInForce run.case.identity ∷ [] else [])
        ++ (if nat_eq lands k then Lands 0 ∷ [] else [])) z)
    both_at before lands none =
        subst (Follows run.case (trace_flown run.case (nat_eq lands k) (trace_sent (nat_eq before k) t)))
        (sym (all_happened-append d (if nat_eq before k then Sends run.case.producer AsInForce run.case.identity ∷ [] else [])
        (if nat_eq lands k then Lands 0 ∷ [] else []) z))
        (flown_at (nat_eq lands k) _ _ (sent_at (nat_eq before k) none))

    by_extra : (extra : Extra) → run.extra ≡ extra
        → Follows run.case (trace_extra (record run { extra = extra }) k t) (all_happened d (extra_at (record run { extra = extra }) k) z)
    by_extra extras.Nothing is = v
    by_extra (extras.Stores before route) is = stores_at (nat_eq before k) route
    by_extra (extras.Sends before lands) is = both_at before lands (unsent before lands is)

-- ---- the loop over the steps

pub follows_more : (producers : List RouteKind) (terms : Terms) (plan : List AnyStep) (run : Run) (k : ℕ) (x : AnyStep) (t : Trace)
    → k < length plan → IsUnsent run k t
    → Follows run.case t (all_happened (setting_of producers terms) (run_upto plan run k) (start_of (setting_of producers terms) run))
    → Follows run.case (trace_after run.case (get_or plan k x) (trace_extra run k t))
    (all_happened (setting_of producers terms) (run_upto plan run (k + 1)) (start_of (setting_of producers terms) run))
follows_more producers terms plan run k x t low unsent v =
    let d : Setting = setting_of producers terms in
    let start : AnyMachine = start_of d run in
    let here : AnyMachine = all_happened d (extra_at run k) (all_happened d (run_upto plan run k) start) in
    let split : all_happened d (run_upto plan run (suc k)) start ≡ all_happened d (step_at plan k) here =
    all_happened-append d (run_upto plan run k) (extra_at run k ++ step_at plan k) start
    ∙ all_happened-append d (extra_at run k) (step_at plan k) (all_happened d (run_upto plan run k) start) in
    let step : all_happened d (step_at plan k) here ≡ stepped d (get_or plan k x) here =
    ap (λ o. all_happened d (done_by o) here) (slice_get-get_or plan k x low) in
    subst (Follows run.case (trace_after run.case (get_or plan k x) (trace_extra run k t)))
    (sym (ap (λ n. all_happened d (run_upto plan run n) start) (next k) ∙ split ∙ step))
    (follows_step d run.case (get_or plan k x) (trace_extra run k t) here (follows_extra d run k t _ unsent v))
  where
    done_by : Option AnyStep → List AnyHappening
    done_by o = elim o [ None ↦ [] | Some y ↦ Does y ∷ [] ]

    next : (k : ℕ) → k + 1 ≡ suc k
    next k = omega arith

pub follows_end : (producers : List RouteKind) (terms : Terms) (plan : List AnyStep) (run : Run) (t : Trace) → IsUnsent run (length plan) t
    → Follows run.case t (all_happened (setting_of producers terms) (run_upto plan run (length plan)) (start_of (setting_of producers terms) run))
    → Follows run.case (trace_extra run (length plan) t)
    (all_happened (setting_of producers terms) (happenings plan run) (start_of (setting_of producers terms) run))
follows_end producers terms plan run t unsent v =
    let d : Setting = setting_of producers terms in
    subst (Follows run.case (trace_extra run (length plan) t))
    (sym (all_happened-append d (run_upto plan run (length plan)) (extra_at run (length plan)) (start_of d run)))
    (follows_extra d run (length plan) t _ unsent v)

-- ---- it is a run of the plan

routed_is : (o : Option RouteKind) → is_routed o ≡ true → o ≡ Some Routed
routed_is None e = absurd (false≢true e)
routed_is (Some Routed) e = refl
routed_is (Some Switched) e = absurd (false≢true e)

pub below_is : (a b : ℕ) → nat_lt a b ≡ true → a < b
below_is a b e = ltb-true a b e

-- What can_be says of the store.
abbrev pub MayStore : List RouteKind → Run → Extra → Bool
MayStore producers run extra = elim extra [
  | extras.Nothing ↦ true
  | extras.Stores before route ↦ nat_lt run.case.producer (length producers)
  | extras.Sends before lands ↦ is_routed (slice_get producers run.case.producer)
]

none_new : (n fresh : Bool) (s : WhichSet) (i : ℕ) (u : WhichSet) (j : ℕ) → (not n || not fresh) ≡ true → fresh ≡ true → one_bit n s i u j ≡ false
none_new false fresh s i u j e f = refl
none_new true true s i u j e f = absurd (false≢true e)
none_new true false s i u j e f = absurd (false≢true f)

begins_well : (producers : List RouteKind) (terms : Terms) (run : Run) → (not (begins_new run.begin) || not terms.is_fresh) ≡ true
    → IsStartOfAny (setting_of producers terms) (start_of (setting_of producers terms) run)
begins_well producers terms run fresh = record {
  written = λ p is. refl;
  in_force = λ p is. refl;
  paused = λ p is. refl;
  flights = tt;
  due = λ s i. refl;
  hand = λ s i. refl;
  fresh = λ e s i. none_new (begins_new run.begin) terms.is_fresh run.case.bank run.case.identity s i fresh e;
  freed = refl;
  strayed = refl;
  noticed = λ e. e;
}

extra_steps : (run : Run) (k : ℕ) → steps_in (extra_at run k) ≡ []
extra_steps run k = by_extra run.extra
  where
    one_store : (b : Bool) (x : AnyHappening) → steps_in (x ∷ []) ≡ [] → steps_in (if b then x ∷ [] else []) ≡ []
    one_store true x e = e
    one_store false x e = refl

    by_extra : (extra : Extra) → steps_in (extra_at (record run { extra = extra }) k) ≡ []
    by_extra extras.Nothing = refl
    by_extra (extras.Stores before route) = one_store (nat_eq before k) (Stores run.case.producer (by_of route) run.case.identity) refl
    by_extra (extras.Sends before lands) =
        steps_in-append (if nat_eq before k then Sends run.case.producer AsInForce run.case.identity ∷ [] else [])
        (if nat_eq lands k then Lands 0 ∷ [] else [])
        ∙ ap₂ (λ a b. a ++ b) (one_store (nat_eq before k) (Sends run.case.producer AsInForce run.case.identity) refl)
        (one_store (nat_eq lands k) (Lands 0) refl)

steps_upto : (plan : List AnyStep) (run : Run) (k : ℕ) → k ≤ length plan → steps_in (run_upto plan run k) ≡ take k plan
steps_upto plan run zero within = refl
steps_upto [] run (suc k) within = absurd (omega (arith, within))
steps_upto (y ∷ ys) run (suc k) within =
    steps_in-append (run_upto (y ∷ ys) run k) (extra_at run k ++ step_at (y ∷ ys) k)
    ∙ ap₂ (λ a b. a ++ b) (steps_upto (y ∷ ys) run k (omega (arith, within)))
    (steps_in-append (extra_at run k) (step_at (y ∷ ys) k) ∙ ap (λ a. a ++ steps_in (step_at (y ∷ ys) k)) (extra_steps run k)
    ∙ ap (λ o. steps_in (done_by o)) (slice_get-get_or (y ∷ ys) k y (omega (arith, within))))
    ∙ sym (ap (λ n. take n (y ∷ ys)) (next k) ∙ take_more (y ∷ ys) k y (omega (arith, within)))
  where
    done_by : Option AnyStep → List AnyHappening
    done_by o = elim o [ None ↦ [] | Some x ↦ Does x ∷ [] ]

    next : (k : ℕ) → suc k ≡ k + 1
    next k = omega arith

extra_can : (producers : List RouteKind) (terms : Terms) (run : Run) (k : ℕ) → MayStore producers run run.extra ≡ true
    → AllByRecursion (CanHappen (setting_of producers terms)) (extra_at run k)
extra_can producers terms run k may = by_extra run.extra may
  where
    one_store : (b : Bool) (x : AnyHappening) → CanHappen (setting_of producers terms) x
        → AllByRecursion (CanHappen (setting_of producers terms)) (if b then x ∷ [] else [])
    one_store true x can = (can, tt)
    one_store false x can = tt

    by_extra : (extra : Extra) → MayStore producers run extra ≡ true
        → AllByRecursion (CanHappen (setting_of producers terms)) (extra_at (record run { extra = extra }) k)
    by_extra extras.Nothing e = tt
    by_extra (extras.Stores before route) e = one_store (nat_eq before k) (Stores run.case.producer (by_of route) run.case.identity)
        (below_is run.case.producer (length producers) e)
    by_extra (extras.Sends before lands) e =
        let is = routed_is (slice_get producers run.case.producer) e in
        all-append (CanHappen (setting_of producers terms)) (if nat_eq before k then Sends run.case.producer AsInForce run.case.identity ∷ [] else [])
        (if nat_eq lands k then Lands 0 ∷ [] else [])
        (one_store (nat_eq before k) (Sends run.case.producer AsInForce run.case.identity)
        (slice_get_within producers run.case.producer Routed is, is))
        (one_store (nat_eq lands k) (Lands 0) tt)

step_can : (d : Setting) (o : Option AnyStep) → AllByRecursion (CanHappen d) (elim o [ None ↦ [] | Some x ↦ Does x ∷ [] ])
step_can d None = tt
step_can d (Some x) = (tt, tt)

upto_can : (producers : List RouteKind) (terms : Terms) (plan : List AnyStep) (run : Run) (k : ℕ) → MayStore producers run run.extra ≡ true
    → AllByRecursion (CanHappen (setting_of producers terms)) (run_upto plan run k)
upto_can producers terms plan run zero may = tt
upto_can producers terms plan run (suc k) may =
    let d : Setting = setting_of producers terms in
    all-append (CanHappen d) (run_upto plan run k) (extra_at run k ++ step_at plan k) (upto_can producers terms plan run k may)
    (all-append (CanHappen d) (extra_at run k) (step_at plan k) (extra_can producers terms run k may) (step_can d (slice_get plan k)))

pub happens_well : (producers : List RouteKind) (terms : Terms) (plan : List AnyStep) (run : Run) → MayStore producers run run.extra ≡ true
    → IsRun (setting_of producers terms) plan (happenings plan run)
happens_well producers terms plan run may = record {
  steps = steps_in-append (run_upto plan run (length plan)) (extra_at run (length plan))
      ∙ ap₂ (λ a b. a ++ b) (steps_upto plan run (length plan) (omega arith)) (extra_steps run (length plan))
      ∙ append-nil (take (length plan) plan) ∙ take_all (length plan) plan (omega arith);
  others = all-append (CanHappen (setting_of producers terms)) (run_upto plan run (length plan)) (extra_at run (length plan))
      (upto_can producers terms plan run (length plan) may) (extra_can producers terms run (length plan) may);
}

-- ---- it ends as it must not

not_same : (a b : Bool) → differ a b ≡ true → a ≡ b → ⊥
not_same true true e f = false≢true e
not_same false false e f = false≢true e
not_same true false e f = false≢true (sym f)
not_same false true e f = false≢true f

old_new : (place : AnyPlace) → is_old place ≡ true → place ≡ New → ⊥
old_new Old e f = false≢true (sym (ap is_old f))
old_new New e f = false≢true e

start_bit : (b : Bool) (i : ℕ) → one_bit b Enabled i Enabled i ≡ b
start_bit false i = refl
start_bit true i = eq-eqb i i refl

-- the bit that is followed, by its set
right_bit : (producers : List RouteKind) (terms : Terms) (run : Run) (s : WhichSet) (z : AnyMachine) (t : Trace) → s ≡ run.case.bank
    → run.case.identity / 64 < terms.words → IsMovedByAny (setting_of producers terms) (start_of (setting_of producers terms) run) z
    → z.new s run.case.identity ≡ t.new → z.due s run.case.identity ≡ t.due → t.new ≡ elim s [ Pending ↦ t.due | Enabled ↦ begins_old run.begin ]
right_bit producers terms run Pending z t same inside m new due = sym new ∙ m.pending run.case.identity inside ∙ due
right_bit producers terms run Enabled z t same inside m new due =
    sym new ∙ m.enabled run.case.identity inside ∙ ap (λ u. one_bit (begins_old run.begin) u run.case.identity Enabled run.case.identity)
    (sym same) ∙ start_bit (begins_old run.begin) run.case.identity

begun_number : (producers : List RouteKind) (terms : Terms) (run : Run) (from : NumberSpot) → terms.number_from ≡ from
    → number_in from run.case.number (start_of (setting_of producers terms) run) ≡ 1
begun_number producers terms run InOld e = ap (λ f. worth (run.left || same_spot f InOld)) e ∙ ap worth (or_right run.left true refl)
begun_number producers terms run InHand e = ap (λ f. worth (same_spot f InHand)) e
begun_number producers terms run InNew e = ap (λ f. worth (same_spot f InNew)) e

ended_number : (c : Case) (t : Trace) (z : AnyMachine) (spot : NumberSpot) → Follows c t z → number_in spot c.number z ≡ worth (trace_number spot t)
ended_number c t z InOld v = v.old_number
ended_number c t z InHand v = v.hand_number
ended_number c t z InNew v = v.new_number

zero_one : ◌≡◌ {A = ℕ} 0 1 → ⊥
zero_one e = omega (arith, e)

flies_old : (c : Case) (f : Option AnyPlace) → is_flying_old f ≡ true → AllByRecursion (λ (g : AnyFlight). g.place ≡ New) (flights_by c f) → ⊥
flies_old c None e all = false≢true e
flies_old c (Some place) e all = old_new place e all.0

pub true_false : (b : Bool) → b ≡ true → b ≡ false → ⊥
true_false b e f = false≢true (sym f ∙ e)

-- the route in force of a producer that is there leads to the old place
unled_is : (run : Run) (producers : ℕ) (t : Trace) → is_unled run producers t ≡ true → (run.case.producer < producers) × (is_old t.in_force ≡ true)
unled_is run producers t e = by_extra run.extra e
  where
    by_extra : (extra : Extra) → is_unled (record run { extra = extra }) producers t ≡ true
        → (run.case.producer < producers) × (is_old t.in_force ≡ true)
    by_extra extras.Nothing e = (below_is run.case.producer producers (and_left _ _ e), and_right (nat_lt run.case.producer producers) _ e)
    by_extra (extras.Stores before route) e = absurd (false≢true e)
    by_extra (extras.Sends before lands) e = absurd (false≢true e)

ends_badly : (producers : List RouteKind) (terms : Terms) (run : Run) (t : Trace) (z : AnyMachine) → run.case.identity / 64 < terms.words
    → Follows run.case t z → is_bad_end run (length producers) terms t ≡ true
    → IsMovedByAny (setting_of producers terms) (start_of (setting_of producers terms) run) z → ⊥
ends_badly producers terms run t z inside v bad m = elim (or_cases (is_bad_bit run t) _ bad) [
  | inl bit ↦ elim (or_cases (differ t.new (trace_wanted run t)) t.old bit) [
    | inl wrong ↦ not_same t.new (trace_wanted run t) wrong (right_bit producers terms run run.case.bank z t refl inside m v.new v.due)
    | inr left ↦ true_false t.old left (sym v.old ∙ m.none_left run.case.bank run.case.identity inside)
  ]
  | inr last ↦ elim (or_cases (not (trace_number terms.number_to t)) _ last) [
    | inl number ↦ zero_one (sym (ap worth (not_true (trace_number terms.number_to t) number))
        ∙ sym (ended_number run.case t z terms.number_to v) ∙ m.numbers run.case.number ∙ begun_number producers terms run terms.number_from refl)
    | inr more ↦ elim (or_cases (is_flying_old t.flight) _ more) [
      | inl flying ↦ flies_old run.case t.flight flying (subst (AllByRecursion (λ (g : AnyFlight). g.place ≡ New)) v.flights m.flights)
      | inr some ↦ elim (or_cases (t.strayed || is_left terms t) _ some) [
        | inl reached ↦ elim (or_cases t.strayed _ reached) [
          | inl strayed ↦ true_false t.strayed strayed (sym v.strayed ∙ m.strayed)
          | inr left ↦
              let there = and_right terms.is_inherited _ left in
              zero_one (sym (m.inherited (and_left terms.is_inherited _ left) (v.freed ∙ and_left t.freed _ there) run.case.number)
              ∙ v.old_number ∙ ap worth (and_right t.freed _ there))
        ]
        | inr unled ↦
            let is = unled_is run (length producers) t unled in
            old_new t.in_force is.1 (sym v.in_force ∙ m.in_force run.case.producer is.0)
      ]
    ]
  ]
]

pub it_loses : (producers : List RouteKind) (terms : Terms) (plan : List AnyStep) (run : Run) (t : Trace) → can_be run terms producers ≡ true
    → Follows run.case t (all_happened (setting_of producers terms) (happenings plan run) (start_of (setting_of producers terms) run))
    → is_bad_end run (length producers) terms t ≡ true → Loses (setting_of producers terms) plan run
it_loses producers terms plan run t can v bad =
    let inside = below_is (run.case.identity / 64) terms.words (and_left _ _ can) in
    let rest = and_right (nat_lt (run.case.identity / 64) terms.words) _ can in
    let may = and_right (not (begins_new run.begin) || not terms.is_fresh) _ rest in
    record {
      begins = begins_well producers terms run (and_left _ _ rest);
      happens = happens_well producers terms plan run may;
      ends = ends_badly producers terms run t _ inside v bad;
    }
