-- A move that begins stands for a start of the machine of the proof, and one that is moved there
-- has ended well.
use Rattle.std.proofs.Common.{◌≡◌, ◌≢◌, ℕ, ◌/◌, ◌<◌, Bool, true, false, ◌&&◌, ◌||◌, List, [], ◌∷◌, Option, Some, None, inl, inr, refl, sym, ap, ◌∙◌, subst}
use Rattle.std.specs.List.{All, AllByRecursion}
use Rattle.aia_plan.proofs.Throughout.{by_recursion, by_place}
use Rattle.aia_rehearsal.specs.declared.place.Place as ends
use Rattle.std.proofs.lemmas.Bool.{cases_Bool, cases_eq, cond-true, cond-false}
use Rattle.aia_word.specs.Sets.{has_bit}
use Rattle.aia_word.proofs.BitLemmas.{has_bit-zero}
use Rattle.aia_file.specs.Imsic.{ImsicState}
use Rattle.aia_vcpu_places.specs.Places.{leads_to, entry_word}
use Rattle.aia_fabric_values.specs.declared.flying.Flying.{Flying}
use Rattle.aia_fabric_values.specs.World.{World, flight_of}
use Rattle.aia_move_values.specs.Move.{width}
use Rattle.aia_plan.specs.Plan.{IsInside}
use Rattle.aia_plan.specs.Rule.{failing}
use Rattle.aia_plan.specs.Safe.{IsStart, IsMoved}
use Rattle.aia_plan.specs.declared.step.Kind.{Kind}
use Rattle.aia_plan.specs.Transit.{TransitSide, Flight, Transit, is_identity, all_happened}
use Rattle.aia_plan.specs.Transit.TransitSide.{Old, New}
use Rattle.aia_plan.proofs.RuleIsSafe.{rule_is_safe}
use Rattle.aia_rehearsal.specs.Rehearsed.{Passage, Carried, Rehearsed, at, names_on, empty_hand, AreTwo, IsOf}
use Rattle.aia_rehearsal.specs.Stands.{sets_at, leads, side_of, identity_asked, onto_flights, flights_in, StandsFor}
use Rattle.aia_rehearsal.specs.Events.{RehearsedEvent, IsAlone}
use Rattle.aia_rehearsal.specs.Runs.{Runs, steps_in, asked_in, LeadsTo, NoneLeads, state_at, IsBegun, IsOver}
use Rattle.aia_rehearsal.proofs.RunMoves.{all_seen, run_stands, run_steps, run_passage, run_due, run_width}

-- ---- the start

-- no store of a list leads to a place; the stores of a list lead to a side
abbrev NoneTo : ImsicState → ℕ → ends.Place → List Flying → Type 0
NoneTo i slot place stores = AllByRecursion (λ (store : Flying). leads i slot place store.entry ≡ false) stores

abbrev AllOn : TransitSide → List Flight → Type 0
AllOn side flights = AllByRecursion (λ (f : Flight). f.side ≡ side) flights

none_of : (i : ImsicState) (p : Passage) (stores : List Flying) → NoneTo i p.who.found.slot p.old stores → NoneTo i p.who.found.slot p.new stores
    → flights_in i p stores ≡ []
none_of i p [] old new = refl
none_of i p (store ∷ later) old new = rw (old.0, new.0) (none_of i p later old.1 new.1)

all_old : (i : ImsicState) (p : Passage) (stores : List Flying) → NoneTo i p.who.found.slot p.new stores → AllOn Old (flights_in i p stores)
all_old i p [] none = tt
all_old i p (store ∷ later) none = elim (cases_Bool (leads i p.who.found.slot p.old store.entry)) [
  | inl led ↦ rw (led) (refl, all_old i p later none.1)
  | inr not ↦ rw (not, none.0) (all_old i p later none.1)
]

-- where all lead to the new place none leads to the old one
none_old : (i : ImsicState) (p : Passage) (stores : List Flying) → AllOn New (flights_in i p stores) → NoneTo i p.who.found.slot p.old stores
none_old i p [] all = tt
none_old i p (store ∷ later) all = elim (cases_Bool (leads i p.who.found.slot p.old store.entry)) [
  | inl led ↦ let first : AllOn New (record { side = Old; identity = identity_asked store.offset store.value } ∷ flights_in i p later) =
      subst (λ o. AllOn New (onto_flights o store (flights_in i p later))) (cond-true _ _ _ led) all in let no = first.0 in absurd (cc)
  | inr not ↦ (not, none_old i p later (rest (side_of i p store.entry) all))
]
  where
    rest : (o : Option TransitSide) → AllOn New (onto_flights o store (flights_in i p later)) → AllOn New (flights_in i p later)
    rest None all = all
    rest (Some side) all = all.1

-- where none leads to a place, none leads to the old one or the new one
neither_old : (i : ImsicState) (p : Passage) (stores : List Flying) → flights_in i p stores ≡ [] → NoneTo i p.who.found.slot p.old stores
neither_old i p stores none = none_old i p stores (subst (AllOn New) (sym none) tt)

neither_new : (i : ImsicState) (p : Passage) (stores : List Flying) → flights_in i p stores ≡ [] → NoneTo i p.who.found.slot p.new stores
neither_new i p [] none = tt
neither_new i p (store ∷ later) none = elim (cases_Bool (leads i p.who.found.slot p.old store.entry)) [
  | inl led ↦ let no : record { side = Old; identity = identity_asked store.offset store.value } ∷ flights_in i p later ≡ [] =
      subst (λ o. onto_flights o store (flights_in i p later) ≡ []) (cond-true _ _ _ led) none in absurd (cc)
  | inr not ↦ elim (cases_Bool (leads i p.who.found.slot p.new store.entry)) [
    | inl led ↦ let no : record { side = New; identity = identity_asked store.offset store.value } ∷ flights_in i p later ≡ [] =
        subst (λ o. onto_flights o store (flights_in i p later) ≡ []) (cond-false _ _ _ not ∙ cond-true _ _ _ led) none in absurd (cc)
    | inr neither ↦ (
      neither,
      neither_new i p later
          (subst (λ o. onto_flights o store (flights_in i p later) ≡ []) (cond-false _ _ _ not ∙ cond-false _ _ _ neither) none),
    )
  ]
]

-- a fabric whose routes all lead to one side
pub led_stands : (w : World) (r : Rehearsed) (side : TransitSide) → IsOf w r.passage → AreTwo r.passage.old r.passage.new
    → LeadsTo w r.passage side → ((vm : ℕ) → vm ≢ r.passage.who.found.vm → NoneLeads w r.passage Old vm)
    → ((vm : ℕ) → vm ≢ r.passage.who.found.vm → NoneLeads w r.passage New vm)
    → StandsFor w r (state_at side w r)
led_stands w r side of two routes old new = record {
  of = of;
  two = two;
  sets = record {
    old_pending = λ i low. refl;
    old_enabled = λ i low. refl;
    new_pending = λ i low. refl;
    new_enabled = λ i low. refl;
    carried_pending = λ bit low. refl;
    carried_enables = λ bit low. refl;
  };
  routes = record {
    entry_written = routes.word0;
    notice = routes.word1;
    entry_in_force = routes.in_force;
    record_written = routes.record_written;
    record_in_force = routes.record_in_force;
  };
  flights = record {
    own = refl;
    others = λ vm other. none_of w.imsic r.passage (flight_of w vm) (by_recursion _ (flight_of w vm) (old vm other))
        (by_recursion _ (flight_of w vm) (new vm other));
  };
}

module _ (w : World) (r : Rehearsed) (b : IsBegun w r) where
  pub begun_stands : StandsFor w r (state_at Old w r)
  begun_stands = led_stands w r Old b.of b.two b.routes b.others (λ vm other. b.flights vm)

  pub begun_starts : IsStart (width w) (state_at Old w r)
  begun_starts = record {
    routes = record {
      entry_written = refl;
      entry_in_force = refl;
      record_written = refl;
      record_in_force = refl;
      flights =
          by_place _ (flights_in w.imsic r.passage (flight_of w r.passage.who.found.vm))
          (all_old w.imsic r.passage (flight_of w r.passage.who.found.vm)
          (by_recursion _ (flight_of w r.passage.who.found.vm) (b.flights r.passage.who.found.vm)));
    };
    no_pending = b.new_pending;
    no_enabled = b.new_enabled;
    nothing_carried = λ bit. ap (λ (h : Carried). has_bit h.pending bit) b.hand ∙ has_bit-zero bit;
    no_enables_carried = λ bit. ap (λ (h : Carried). has_bit h.enables bit) b.hand ∙ has_bit-zero bit;
    due = λ i. refl;
  }

-- ---- the end

shared : (is a b : Bool) → ((is && a) || (is && b)) ≡ (is && (a || b))
shared true a b = refl
shared false a b = refl

pub accepted_moves : (kind : Kind) (w u : World) (r t : Rehearsed) (events : List RehearsedEvent) (run : Runs events w r u t) → IsBegun w r
    → All (IsInside (width w)) (steps_in events) → failing kind (width w) (steps_in events) ≡ None
    → IsOver w r (asked_in events w r u t run) u
accepted_moves kind w u r t events run b inside accepted =
    let start = state_at Old w r in
    let z = all_happened (all_seen events w r u t run) start in
    let safe = rule_is_safe kind (width w) (steps_in events) inside accepted start (all_seen events w r u t run) (begun_starts w r b)
    (run_steps events w r u t run) in
    let s = run_stands events w r u t run start b.alone (begun_stands w r b) in
    let hand = t.hand in
    let same : t ≡ record r { hand = t.hand } = (let p = run_passage events w r u t run in λ k. record { passage = p k; hand = t.hand }) in
    over z safe (run_width events w r u t run) (λ i. run_due events w r u t run start i b.alone (begun_stands w r b))
    (subst (λ (x : Rehearsed). StandsFor u x z) same s)
  where
    over : (z : Transit) → IsMoved (width w) (state_at Old w r) z → width u ≡ width w
        → ((i : ℕ) → z.due i ≡ ((state_at Old w r).due i || (is_identity i && asked_in events w r u t run i)))
        → StandsFor u (record r { hand = t.hand }) z
        → IsOver w r (asked_in events w r u t run) u
    over z m words due s = record {
      pending = λ i low. sym (s.sets.new_pending i (inner i low)) ∙ m.pending i low ∙ due i
          ∙ shared (is_identity i) ((sets_at w (at Old r.passage)).pending i) (asked_in events w r u t run i);
      enabled = λ i low. sym (s.sets.new_enabled i (inner i low)) ∙ m.enabled i low;
      old_pending = λ i low. sym (s.sets.old_pending i (inner i low)) ∙ m.none_pending i low;
      old_enabled = λ i low. sym (s.sets.old_enabled i (inner i low)) ∙ m.none_enabled i low;
      routes = record {
        word0 = s.routes.entry_written ∙ ap (λ side. entry_word r.passage.who.found.slot (names_on side r.passage)) m.routes.entry_written;
        word1 = s.routes.notice;
        in_force = s.routes.entry_in_force ∙ ap (λ side. leads_to r.passage.who.found.slot r.passage.who.found.notice (names_on side r.passage))
            m.routes.entry_in_force;
        record_written = s.routes.record_written ∙ ap (λ side. names_on side r.passage) m.routes.record_written;
        record_in_force = s.routes.record_in_force ∙ ap (λ side. names_on side r.passage) m.routes.record_in_force;
      };
      flights = λ vm. by_place _ (flight_of u vm) (none_old u.imsic r.passage (flight_of u vm) (elim (cases_eq vm r.passage.who.found.vm) [
        | inl e ↦ subst (λ v. AllOn New (flights_in u.imsic r.passage (flight_of u v))) (sym e)
            (subst (AllOn New) s.flights.own (by_recursion _ z.flights m.routes.flights))
        | inr ne ↦ subst (AllOn New) (sym (s.flights.others vm ne)) tt
      ]));
      others = λ vm other. by_place _ (flight_of u vm) (neither_new u.imsic r.passage (flight_of u vm) (s.flights.others vm other));
    }
      where
        inner : (i : ℕ) → i / 64 < width w → i / 64 < width u
        inner i low = subst (λ n. i / 64 < n) (sym words) low

-- ---- the next move

-- where one has ended the next may begin: from its new place to one that is empty
pub next_begins : (w u : World) (r : Rehearsed) (asked_for : ℕ → Bool) (place : ends.Place) → IsOver w r asked_for u → (t : Rehearsed)
    → t ≡ record { passage = record r.passage { old = r.passage.new; new = place }; hand = empty_hand }
    → IsOf u t.passage → IsAlone u t.passage → AreTwo r.passage.new place → ((vm : ℕ) → NoneLeads u t.passage New vm)
    → ((i : ℕ) → i / 64 < width u → (sets_at u (at New t.passage)).pending i ≡ false)
    → ((i : ℕ) → i / 64 < width u → (sets_at u (at New t.passage)).enabled i ≡ false) → IsBegun u t
next_begins w u r asked_for place o t e of alone two none pending enabled = record {
  of = of;
  alone = alone;
  two = subst (λ (x : Rehearsed). AreTwo x.passage.old x.passage.new) (sym e) two;
  routes = subst (λ (x : Rehearsed). LeadsTo u x.passage Old) (sym e)
      (record {
        word0 = o.routes.word0;
        word1 = o.routes.word1;
        in_force = o.routes.in_force;
        record_written = o.routes.record_written;
        record_in_force = o.routes.record_in_force;
      });
  flights = none;
  others = subst (λ (x : Rehearsed). (vm : ℕ) → vm ≢ x.passage.who.found.vm → NoneLeads u x.passage Old vm) (sym e) o.others;
  new_pending = pending;
  new_enabled = enabled;
  hand = ap (λ (x : Rehearsed). x.hand) e;
}
