-- A watch follows the machine, and what it finds leaves the host untold.
use Rattle.std.proofs.Common.{◌≡◌, ℕ, zero, suc, ◌+◌, ◌/◌, ◌<◌, Bool, true, false, not, ◌&&◌, ◌||◌, nat_eq, nat_lt, if◌then◌else◌, length, List, [], ◌∷◌, ◌++◌, Option, Some, None, refl, sym, ap, ap₂, subst, ◌∙◌, arith}
use Rattle.std.specs.Prelude.{get_or, slice_get}
use Rattle.std.proofs.lemmas.Bool.{eq-eqb, ne_eqb, false≢true}
use Rattle.std.proofs.lemmas.Option.{slice_get-get_or, same_Some}
use Rattle.plans_rules.specs.declared.step.WhichSet.TheVariants.{Pending}
use Rattle.plans_rules.specs.declared.step.AnyPlace.{AnyPlace}
use Rattle.plans_rules.specs.declared.step.AnyPlace.TheVariants.{Old, New}
use Rattle.plans_rules.specs.declared.step.AnyStep.{AnyStep}
use Rattle.plans_rules.specs.declared.step.AnyStep.TheVariants as steps
use Rattle.plans_rules.specs.declared.setting.RouteKind.{RouteKind}
use Rattle.plans_rules.specs.declared.setting.NumberSpot.{NumberSpot}
use Rattle.plans_rules.specs.declared.setting.NumberSpot.TheVariants.{InOld, InHand, InNew}
use Rattle.plans_rules.specs.declared.setting.Terms.{Terms}
use Rattle.plans_rules.specs.Setting.{Setting, setting_of, is_old, names}
use Rattle.plans_rules.specs.Machine.{AnyMachine, Sets, landed, all_landed, flights_of, all_happened, route_of, stepped, with_one}
use Rattle.plans_rules.specs.Machine.AnyHappening.{Does, Stores}
use Rattle.plans_rules.specs.Rules.{writes_notice}
use Rattle.plans_rules.specs.Safe.{IsStartOfAny}
use Rattle.plans_rules.proofs.BoolLaws.{and_left, and_right, and_false_right, not_true, or_false}
use Rattle.plans_rules.proofs.States.{still_none}
use Rattle.plans_counterexamples.specs.declared.trace.StoreRoute.{StoreRoute}
use Rattle.plans_counterexamples.specs.declared.trace.StoreRoute.TheVariants.{Written, InForce}
use Rattle.plans_counterexamples.specs.declared.watch.Watch.{Watch}
use Rattle.plans_counterexamples.specs.declared.untold.Store.{Store}
use Rattle.plans_counterexamples.specs.declared.untold.UntoldRun.{UntoldRun}
use Rattle.plans_counterexamples.specs.Search.{first_of, or_else}
use Rattle.plans_counterexamples.specs.UntoldSearch.{is_small, stored_before, stored_by, tried_untold, untold_of, untold_run_of, untold_word, with_delivery, untold_with_numbers}
use Rattle.plans_counterexamples.specs.Run.{by_of, extra_at, run_upto, step_at}
use Rattle.plans_counterexamples.specs.Untold.{IsAlone, IsWatched, LeavesUntold, can_come, can_store, enabled_bit, extra_of, is_unstored, is_untold, pending_bit, producer_of, run_in, watch_sees, watch_told, untold_end, untold_start, watch_after, watch_begun, watch_end, watch_extra, watch_landed, watch_made, watch_out, watch_route, watch_stepped, watch_upto}
use Rattle.plans_counterexamples.proofs.FollowLemmas.{follows_landed, follows_step}
use Rattle.plans_counterexamples.proofs.RunLemmas.{MayStore, all_happened-append, below_is, happens_well, true_false}
use Rattle.plans_counterexamples.proofs.FoundLemmas.{IfFound, either, first}
use Rattle.plans_counterexamples.proofs.OutLemmas.{any_same, lets_same, out_same, word_same}

or_nothing : (b : Bool) → b ≡ (b || false)
or_nothing true = refl
or_nothing false = refl

-- ---- a store lands

alone_landed : (i : ℕ) (here : Bool) (sets : Sets) → IsAlone i sets → IsAlone i (with_one here i sets)
alone_landed i here sets alone = λ j other. ap₂ (λ a b. (a && here) || b) (ne_eqb i j other) (alone j other)

watched_landed : (producers : List RouteKind) (terms : Terms) (u : UntoldRun) (place : AnyPlace) (w : Watch) (z : AnyMachine) → IsWatched u w z
    → IsWatched u (watch_landed terms u.identity (producer_of u.store) place w) (landed (setting_of producers terms) place u.identity z)
watched_landed producers terms u place w z v = record {
  pending = follows_landed (setting_of producers terms) (pending_bit u.identity (producer_of u.store)) place w.pending z v.pending;
  enabled = follows_landed (setting_of producers terms) (enabled_bit u.identity (producer_of u.store)) place w.enabled z v.enabled;
  noticed = v.noticed;
  seen = v.seen;
  told = ap₂ (λ a b. a || (not (is_old place) && b)) v.told
      (ap₂ (λ n b. n && b) v.noticed (ap₂ (λ e l. e && l) v.enabled.new (lets_same producers terms u w z v)));
  old = alone_landed u.identity (is_old place) z.old v.old;
  new = alone_landed u.identity (not (is_old place)) z.new v.new;
  hand = v.hand;
  flights = v.flights;
}

-- ---- a step

fenced : (d : Setting) (p : ℕ) (z : AnyMachine) → z.flights ≡ [] → all_landed d (flights_of p z.flights) z ≡ z
fenced d p z none = ap (λ fs. all_landed d (flights_of p fs) z) none

seen_after : (producers : List RouteKind) (terms : Terms) (u : UntoldRun) (x : AnyStep) (w : Watch) (z : AnyMachine) → IsWatched u w z
    → (stepped (setting_of producers terms) x z).seen ≡ (w.seen || watch_sees terms u.identity x w)
seen_after producers terms u (steps.Look word) w z v = ap₂ (λ a b. a || b) v.seen (word_same producers terms u w z word v)
seen_after producers terms u (steps.Fence p) w z v = ap (λ (y : AnyMachine). y.seen) (fenced (setting_of producers terms) p z v.flights) ∙ v.seen
    ∙ or_nothing w.seen
seen_after producers terms u (steps.Pause p) w z v = ap (λ (y : AnyMachine). y.seen) (fenced (setting_of producers terms) p z v.flights) ∙ v.seen
    ∙ or_nothing w.seen
seen_after producers terms u (steps.Zero Old s k) w z v = v.seen ∙ or_nothing w.seen
seen_after producers terms u (steps.Zero New s k) w z v = v.seen ∙ or_nothing w.seen
seen_after producers terms u (steps.ZeroNumber Old n) w z v = v.seen ∙ or_nothing w.seen
seen_after producers terms u (steps.ZeroNumber New n) w z v = v.seen ∙ or_nothing w.seen
seen_after producers terms u x w z v = v.seen ∙ or_nothing w.seen

told_after : (producers : List RouteKind) (terms : Terms) (u : UntoldRun) (x : AnyStep) (w : Watch) (z : AnyMachine)
    → u.identity / 64 < terms.words → IsWatched u w z → (stepped (setting_of producers terms) x z).told ≡ watch_told terms u.identity x w
told_after producers terms u steps.Untell w z inside v = ap₂ (λ a b. a && b) v.told v.seen
told_after producers terms u steps.Post w z inside v = ap₂ (λ a b. a || b) v.told v.seen
told_after producers terms u steps.Tell w z inside v = ap₂ (λ a b. a || b) v.told (any_same producers terms u w z inside v)
told_after producers terms u (steps.Fence p) w z inside v = ap (λ (y : AnyMachine). y.told) (fenced (setting_of producers terms) p z v.flights)
    ∙ v.told ∙ or_nothing w.told
told_after producers terms u (steps.Pause p) w z inside v = ap (λ (y : AnyMachine). y.told) (fenced (setting_of producers terms) p z v.flights)
    ∙ v.told ∙ or_nothing w.told
told_after producers terms u (steps.Zero Old s k) w z inside v = v.told ∙ or_nothing w.told
told_after producers terms u (steps.Zero New s k) w z inside v = v.told ∙ or_nothing w.told
told_after producers terms u (steps.ZeroNumber Old n) w z inside v = v.told ∙ or_nothing w.told
told_after producers terms u (steps.ZeroNumber New n) w z inside v = v.told ∙ or_nothing w.told
told_after producers terms u x w z inside v = v.told ∙ or_nothing w.told

noticed_after : (producers : List RouteKind) (terms : Terms) (u : UntoldRun) (x : AnyStep) (w : Watch) (z : AnyMachine) → IsWatched u w z
    → (stepped (setting_of producers terms) x z).noticed ≡ (writes_notice x || w.noticed)
noticed_after producers terms u steps.WriteNotice w z v = refl
noticed_after producers terms u (steps.Fence p) w z v =
    ap (λ (y : AnyMachine). y.noticed) (fenced (setting_of producers terms) p z v.flights) ∙ v.noticed
noticed_after producers terms u (steps.Pause p) w z v =
    ap (λ (y : AnyMachine). y.noticed) (fenced (setting_of producers terms) p z v.flights) ∙ v.noticed
noticed_after producers terms u (steps.Zero Old s k) w z v = v.noticed
noticed_after producers terms u (steps.Zero New s k) w z v = v.noticed
noticed_after producers terms u (steps.ZeroNumber Old n) w z v = v.noticed
noticed_after producers terms u (steps.ZeroNumber New n) w z v = v.noticed
noticed_after producers terms u x w z v = v.noticed

old_after : (producers : List RouteKind) (terms : Terms) (u : UntoldRun) (x : AnyStep) (w : Watch) (z : AnyMachine) → IsWatched u w z
    → IsAlone u.identity (stepped (setting_of producers terms) x z).old
old_after producers terms u (steps.Fence p) w z v =
    λ j other. ap (λ (y : AnyMachine). y.old Pending j) (fenced (setting_of producers terms) p z v.flights) ∙ v.old j other
old_after producers terms u (steps.Pause p) w z v =
    λ j other. ap (λ (y : AnyMachine). y.old Pending j) (fenced (setting_of producers terms) p z v.flights) ∙ v.old j other
old_after producers terms u (steps.Zero Old s k) w z v = λ j other. and_false_right (not (names s k Pending (j / 64))) _ (v.old j other)
old_after producers terms u (steps.Zero New s k) w z v = v.old
old_after producers terms u (steps.Take s k) w z v = λ j other. and_false_right (not (names s k Pending (j / 64))) _ (v.old j other)
old_after producers terms u (steps.ZeroNumber Old n) w z v = v.old
old_after producers terms u (steps.ZeroNumber New n) w z v = v.old
old_after producers terms u x w z v = v.old

new_after : (producers : List RouteKind) (terms : Terms) (u : UntoldRun) (x : AnyStep) (w : Watch) (z : AnyMachine) → IsWatched u w z
    → IsAlone u.identity (stepped (setting_of producers terms) x z).new
new_after producers terms u (steps.Fence p) w z v =
    λ j other. ap (λ (y : AnyMachine). y.new Pending j) (fenced (setting_of producers terms) p z v.flights) ∙ v.new j other
new_after producers terms u (steps.Pause p) w z v =
    λ j other. ap (λ (y : AnyMachine). y.new Pending j) (fenced (setting_of producers terms) p z v.flights) ∙ v.new j other
new_after producers terms u (steps.Zero Old s k) w z v = v.new
new_after producers terms u (steps.Zero New s k) w z v = λ j other. and_false_right (not (names s k Pending (j / 64))) _ (v.new j other)
new_after producers terms u (steps.Join s k) w z v =
    λ j other. or_false _ _ (and_false_right (names s k Pending (j / 64)) _ (v.hand j other)) (v.new j other)
new_after producers terms u (steps.Put s k) w z v =
    λ j other. or_false _ _ (and_false_right (names s k Pending (j / 64)) _ (v.hand j other))
    (and_false_right (not (names s k Pending (j / 64))) _ (v.new j other))
new_after producers terms u (steps.ZeroNumber Old n) w z v = v.new
new_after producers terms u (steps.ZeroNumber New n) w z v = v.new
new_after producers terms u x w z v = v.new

hand_after : (producers : List RouteKind) (terms : Terms) (u : UntoldRun) (x : AnyStep) (w : Watch) (z : AnyMachine) → IsWatched u w z
    → IsAlone u.identity (stepped (setting_of producers terms) x z).hand
hand_after producers terms u (steps.Fence p) w z v =
    λ j other. ap (λ (y : AnyMachine). y.hand Pending j) (fenced (setting_of producers terms) p z v.flights) ∙ v.hand j other
hand_after producers terms u (steps.Pause p) w z v =
    λ j other. ap (λ (y : AnyMachine). y.hand Pending j) (fenced (setting_of producers terms) p z v.flights) ∙ v.hand j other
hand_after producers terms u (steps.Zero Old s k) w z v = v.hand
hand_after producers terms u (steps.Zero New s k) w z v = v.hand
hand_after producers terms u (steps.Take s k) w z v =
    λ j other. or_false _ _ (and_false_right (names s k Pending (j / 64)) _ (v.old j other))
    (and_false_right (not (names s k Pending (j / 64))) _ (v.hand j other))
hand_after producers terms u (steps.Copy s k) w z v =
    λ j other. or_false _ _ (and_false_right (names s k Pending (j / 64)) _ (v.old j other))
    (and_false_right (not (names s k Pending (j / 64))) _ (v.hand j other))
hand_after producers terms u (steps.Join s k) w z v = λ j other. and_false_right (not (names s k Pending (j / 64))) _ (v.hand j other)
hand_after producers terms u (steps.Put s k) w z v = λ j other. and_false_right (not (names s k Pending (j / 64))) _ (v.hand j other)
hand_after producers terms u (steps.ZeroNumber Old n) w z v = v.hand
hand_after producers terms u (steps.ZeroNumber New n) w z v = v.hand
hand_after producers terms u x w z v = v.hand

watched_step : (producers : List RouteKind) (terms : Terms) (u : UntoldRun) (x : AnyStep) (w : Watch) (z : AnyMachine)
    → u.identity / 64 < terms.words → IsWatched u w z
    → IsWatched u (watch_after terms u.identity (producer_of u.store) x w) (stepped (setting_of producers terms) x z)
watched_step producers terms u x w z inside v = record {
  pending = follows_step (setting_of producers terms) (pending_bit u.identity (producer_of u.store)) x w.pending z v.pending;
  enabled = follows_step (setting_of producers terms) (enabled_bit u.identity (producer_of u.store)) x w.enabled z v.enabled;
  noticed = noticed_after producers terms u x w z v;
  seen = seen_after producers terms u x w z v;
  told = told_after producers terms u x w z inside v;
  old = old_after producers terms u x w z v;
  new = new_after producers terms u x w z v;
  hand = hand_after producers terms u x w z v;
  flights = still_none (setting_of producers terms) x z v.flights;
}

-- ---- a whole run

watched_begun : (producers : List RouteKind) (terms : Terms) (u : UntoldRun)
    → IsWatched u (watch_begun terms u) (untold_start (setting_of producers terms) u)
watched_begun producers terms u = record {
  pending = record {
    old = itself (is_unstored u.store);
    new = refl;
    hand = refl;
    due = itself (is_unstored u.store);
    old_number = refl;
    new_number = refl;
    hand_number = refl;
    written = refl;
    in_force = refl;
    paused = refl;
    flights = refl;
    freed = refl;
    strayed = refl;
  };
  enabled = record {
    old = itself true;
    new = refl;
    hand = refl;
    due = itself true;
    old_number = refl;
    new_number = refl;
    hand_number = refl;
    written = refl;
    in_force = refl;
    paused = refl;
    flights = refl;
    freed = refl;
    strayed = refl;
  };
  noticed = refl;
  seen = refl;
  told = refl;
  old = λ j other. and_false_right (is_unstored u.store) _ (ne_eqb u.identity j other);
  new = λ j other. refl;
  hand = λ j other. refl;
  flights = refl;
}
  where
    itself : (b : Bool) → (b && nat_eq u.identity u.identity) ≡ b
    itself false = refl
    itself true = eq-eqb u.identity u.identity refl

watched_extra : (producers : List RouteKind) (terms : Terms) (u : UntoldRun) (k : ℕ) (w : Watch) (z : AnyMachine) → IsWatched u w z
    → IsWatched u (watch_extra terms u k w) (all_happened (setting_of producers terms) (extra_at (run_in u) k) z)
watched_extra producers terms u k w z v = by_store u.store v
  where
    d : Setting
    d = setting_of producers terms

    by_route : (store : Store) (route : StoreRoute) → IsWatched (record u { store = Some store }) w z
        → IsWatched (record u { store = Some store }) (watch_landed terms u.identity store.producer (watch_route route w) w)
        (landed (setting_of producers terms) (route_of (by_of route) store.producer z) u.identity z)
    by_route store Written v = subst (λ place. IsWatched (record u { store = Some store })
        (watch_landed terms u.identity store.producer w.pending.written w) (landed (setting_of producers terms) place u.identity z))
        (sym v.pending.written) (watched_landed producers terms (record u { store = Some store }) w.pending.written w z v)
    by_route store InForce v = subst (λ place. IsWatched (record u { store = Some store })
        (watch_landed terms u.identity store.producer w.pending.in_force w) (landed (setting_of producers terms) place u.identity z))
        (sym v.pending.in_force) (watched_landed producers terms (record u { store = Some store }) w.pending.in_force w z v)

    by_pause : (store : Store) (b k : Bool) → k ≡ b → IsWatched (record u { store = Some store }) w z
        → IsWatched (record u { store = Some store }) (elim b
        [ true ↦ w | false ↦ watch_landed terms u.identity store.producer (watch_route store.route w) w ])
        (if k then z else landed (setting_of producers terms) (route_of (by_of store.route) store.producer z) u.identity z)
    by_pause store true true e v = v
    by_pause store false false e v = by_route store store.route v
    by_pause store true false e v = absurd (false≢true e)
    by_pause store false true e v = absurd (false≢true (sym e))

    by_test : (store : Store) (b : Bool) → IsWatched (record u { store = Some store }) w z
        → IsWatched (record u { store = Some store }) (elim b
        [ true ↦ watch_made terms u.identity store.producer store.route w | false ↦ w ])
        (all_happened (setting_of producers terms) (if b then Stores store.producer (by_of store.route) u.identity ∷ [] else []) z)
    by_test store true v = by_pause store w.pending.paused (z.paused store.producer) v.pending.paused v
    by_test store false v = v

    by_store : (o : Option Store) → IsWatched (record u { store = o }) w z
        → IsWatched (record u { store = o }) (watch_extra terms (record u { store = o }) k w)
        (all_happened (setting_of producers terms) (extra_at (run_in (record u { store = o })) k) z)
    by_store None v = v
    by_store (Some store) v = by_test store (nat_eq store.before k) v

watched_one : (producers : List RouteKind) (terms : Terms) (u : UntoldRun) (o : Option AnyStep) (w : Watch) (z : AnyMachine)
    → u.identity / 64 < terms.words → IsWatched u w z
    → IsWatched u (watch_stepped terms u o w) (all_happened (setting_of producers terms) (elim o [ None ↦ [] | Some x ↦ Does x ∷ [] ]) z)
watched_one producers terms u None w z inside v = v
watched_one producers terms u (Some x) w z inside v = watched_step producers terms u x w z inside v

watched_upto : (producers : List RouteKind) (terms : Terms) (plan : List AnyStep) (u : UntoldRun) (k : ℕ) → u.identity / 64 < terms.words
    → IsWatched u (watch_upto terms plan u k) (all_happened (setting_of producers terms) (run_upto plan (run_in u) k)
    (untold_start (setting_of producers terms) u))
watched_upto producers terms plan u zero inside = watched_begun producers terms u
watched_upto producers terms plan u (suc k) inside =
    let d : Setting = setting_of producers terms in
    let before : AnyMachine = all_happened d (run_upto plan (run_in u) k) (untold_start (setting_of producers terms) u) in
    subst (IsWatched u (watch_upto terms plan u (suc k)))
    (sym (all_happened-append d (run_upto plan (run_in u) k) (extra_at (run_in u) k ++ step_at plan k)
    (untold_start (setting_of producers terms) u) ∙ all_happened-append d (extra_at (run_in u) k) (step_at plan k) before))
    (watched_one producers terms u (slice_get plan k) _ _ inside
    (watched_extra producers terms u k _ before (watched_upto producers terms plan u k inside)))

pub watched_whole : (producers : List RouteKind) (terms : Terms) (plan : List AnyStep) (u : UntoldRun) → u.identity / 64 < terms.words
    → IsWatched u (watch_end terms plan u) (untold_end (setting_of producers terms) plan u)
watched_whole producers terms plan u inside =
    let d : Setting = setting_of producers terms in
    subst (IsWatched u (watch_end terms plan u)) (sym
    (all_happened-append d (run_upto plan (run_in u) (length plan)) (extra_at (run_in u) (length plan))
    (untold_start (setting_of producers terms) u)))
    (watched_extra producers terms u (length plan) _ _ (watched_upto producers terms plan u (length plan) inside))

watched_more : (terms : Terms) (plan : List AnyStep) (u : UntoldRun) (k : ℕ) (x : AnyStep) → k < length plan
    → watch_after terms u.identity (producer_of u.store) (get_or plan k x) (watch_extra terms u k (watch_upto terms plan u k)) ≡ watch_upto terms
    plan u (k + 1)
watched_more terms plan u k x low =
    sym (ap (λ o. watch_stepped terms u o (watch_extra terms u k (watch_upto terms plan u k))) (slice_get-get_or plan k x low))
    ∙ ap (watch_upto terms plan u) (next k)
  where
    next : (k : ℕ) → suc k ≡ k + 1
    next k = omega arith

pub watched_next : (terms : Terms) (plan : List AnyStep) (u : UntoldRun) (k p : ℕ) (x : AnyStep) (w r y : Watch) → k < length plan
    → p ≡ producer_of u.store → w ≡ watch_upto terms plan u k → r ≡ watch_extra terms u k w
    → y ≡ watch_after terms u.identity p (get_or plan k x) r → y ≡ watch_upto terms plan u (k + 1)
watched_next terms plan u k p x w r y low e f g h =
    h ∙ ap₂ (λ q v. watch_after terms u.identity q (get_or plan k x) v) e (g ∙ ap (watch_extra terms u k) f) ∙ watched_more terms plan u k x low

-- ---- it leaves the host untold

begins_untold : (d : Setting) (u : UntoldRun) → IsStartOfAny d (untold_start d u)
begins_untold d u = record {
  written = λ p is. refl;
  in_force = λ p is. refl;
  paused = λ p is. refl;
  flights = tt;
  due = λ s i. refl;
  hand = λ s i. refl;
  fresh = λ e s i. refl;
  freed = refl;
  strayed = refl;
  noticed = λ e. e;
}

may_store : (producers : List RouteKind) (u : UntoldRun) → can_store u.store (length producers) ≡ true
    → MayStore producers (run_in u) (extra_of u.store) ≡ true
may_store producers u can = by_store u.store can
  where
    by_store : (o : Option Store) → can_store o (length producers) ≡ true → MayStore producers (run_in (record u { store = o })) (extra_of o) ≡ true
    by_store None e = refl
    by_store (Some store) e = e

pub it_leaves_untold : (producers : List RouteKind) (terms : Terms) (plan : List AnyStep) (u : UntoldRun) (w : Watch)
    → can_come u terms producers ≡ true
    → IsWatched u w (untold_end (setting_of producers terms) plan u) → is_untold terms u w ≡ true → LeavesUntold (setting_of producers terms) plan u
it_leaves_untold producers terms plan u w can v is =
    let inside = below_is (u.identity / 64) terms.words (and_left _ _ can) in
    let out = out_same producers terms u w _ v ∙ and_left (watch_out terms u.identity w) _ is in
    let silent = v.told ∙ not_true w.told (and_right (watch_out terms u.identity w) _ is) in
    record {
      begins = begins_untold (setting_of producers terms) u;
      happens = happens_well producers terms plan (run_in u) (may_store producers u (and_right (nat_lt (u.identity / 64) terms.words) _ can));
      stands = out;
      untold = silent;
      ends = λ knows. true_false _ (knows u.identity inside out) silent;
    }

pub inside_of : (producers : List RouteKind) (terms : Terms) (u : UntoldRun) → can_come u terms producers ≡ true → u.identity / 64 < terms.words
inside_of producers terms u can = below_is (u.identity / 64) terms.words (and_left _ _ can)

-- ---- what is found

tried_leaves : (producers : List RouteKind) (terms : Terms) (plan : List AnyStep) (u : UntoldRun)
    → IfFound (LeavesUntold (setting_of producers terms) plan) (tried_untold producers terms plan u)
unfolding tried_untold
tried_leaves producers terms plan u = λ x e. by_test (can_come u terms producers && is_untold terms u (watch_end terms plan u)) refl x e
  where
    by_test : (b : Bool) → (can_come u terms producers && is_untold terms u (watch_end terms plan u)) ≡ b → (x : UntoldRun)
        → ◌≡◌ {A = Option UntoldRun} (if b then Some u else None) (Some x) → LeavesUntold (setting_of producers terms) plan x
    by_test false is x e = absurd (cc)
    by_test true is x e =
        let can = and_left _ _ is in
        subst (LeavesUntold (setting_of producers terms) plan) (same_Some u x e)
        (it_leaves_untold producers terms plan u (watch_end terms plan u) can
        (watched_whole producers terms plan u (inside_of producers terms u can)) (and_right (can_come u terms producers) _ is))

delivery_leaves : (producers : List RouteKind) (terms : Terms) (plan : List AnyStep) (word : ℕ) (store : Option Store) (delivery : NumberSpot)
    → IfFound (LeavesUntold (setting_of producers terms) plan) (with_delivery producers terms plan word store delivery)
unfolding with_delivery
delivery_leaves producers terms plan word store delivery =
    either _ _ _ (tried_leaves producers terms plan _)
    (either _ _ _ (tried_leaves producers terms plan _)
    (either _ _ _ (tried_leaves producers terms plan _) (tried_leaves producers terms plan _)))

numbers_leave : (producers : List RouteKind) (terms : Terms) (plan : List AnyStep) (word : ℕ) (store : Option Store)
    → IfFound (LeavesUntold (setting_of producers terms) plan) (untold_with_numbers producers terms plan word store)
unfolding untold_with_numbers
numbers_leave producers terms plan word store = by_test terms.heeds
  where
    by_test : (b : Bool) → IfFound (LeavesUntold (setting_of producers terms) plan)
        (if b then or_else (with_delivery producers terms plan word store InOld)
        (or_else (with_delivery producers terms plan word store InHand) (with_delivery producers terms plan word store InNew)) else tried_untold
        producers terms plan (untold_of word store InOld (Some InOld)))
    by_test true = either _ _ _ (delivery_leaves producers terms plan word store InOld)
        (either _ _ _ (delivery_leaves producers terms plan word store InHand) (delivery_leaves producers terms plan word store InNew))
    by_test false = tried_leaves producers terms plan _

before_leaves : (producers : List RouteKind) (terms : Terms) (plan : List AnyStep) (word producer before : ℕ)
    → IfFound (LeavesUntold (setting_of producers terms) plan) (stored_before producers terms plan word producer before)
unfolding stored_before
before_leaves producers terms plan word producer before =
    either _ _ _ (numbers_leave producers terms plan word _) (numbers_leave producers terms plan word _)

by_leaves : (producers : List RouteKind) (terms : Terms) (plan : List AnyStep) (word producer : ℕ)
    → IfFound (LeavesUntold (setting_of producers terms) plan) (stored_by producers terms plan word producer)
unfolding stored_by
by_leaves producers terms plan word producer = first _ _ 0 (length plan + 1) (λ k. before_leaves producers terms plan word producer k)

word_leaves : (producers : List RouteKind) (terms : Terms) (plan : List AnyStep) (word : ℕ)
    → IfFound (LeavesUntold (setting_of producers terms) plan) (untold_word producers terms plan word)
unfolding untold_word
word_leaves producers terms plan word = either _ _ _ (numbers_leave producers terms plan word None)
    (by_test (is_small (length producers) terms.words (length plan)))
  where
    by_test : (b : Bool) → IfFound (LeavesUntold (setting_of producers terms) plan)
        (if b then first_of (stored_by producers terms plan word) 0 (length producers) else None)
    by_test true = first _ _ 0 (length producers) (λ p. by_leaves producers terms plan word p)
    by_test false = λ x e. absurd (cc)

pub found_leaves_untold : (producers : List RouteKind) (terms : Terms) (plan : List AnyStep) (u : UntoldRun)
    → untold_run_of producers terms plan ≡ Some u → LeavesUntold (setting_of producers terms) plan u
unfolding untold_run_of
found_leaves_untold producers terms plan u e =
    first (LeavesUntold (setting_of producers terms) plan) _ 0 terms.words (λ w. word_leaves producers terms plan w) u e
