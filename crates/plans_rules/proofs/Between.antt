-- What is so between two steps of a plan that keeps the rules, and what stores and landings keep.
use Rattle.std.proofs.Common.{◌≡◌, ℕ, zero, suc, ◌/◌, Bool, true, false, not, ◌&&◌, ◌||◌, if◌then◌else◌, nat_eq, length, List, [], ◌∷◌, refl, sym, ap, ◌∙◌}
use Rattle.std.specs.List.{list_any, AllByRecursion}
use Rattle.std.specs.Prelude.{slice_get}
use Rattle.std.proofs.lemmas.Bool.{eqb-true, false≢true}
use Rattle.plans_rules.specs.declared.step.AnyPlace.{AnyPlace}
use Rattle.plans_rules.specs.declared.step.AnyPlace.TheVariants.{Old, New}
use Rattle.plans_rules.specs.declared.step.WhichSet.{WhichSet}
use Rattle.plans_rules.specs.declared.step.WhichSet.TheVariants.{Pending, Enabled}
use Rattle.plans_rules.specs.declared.step.Number.{Number}
use Rattle.plans_rules.specs.declared.setting.NumberSpot.{NumberSpot}
use Rattle.plans_rules.specs.Setting.{Setting, is_old}
use Rattle.plans_rules.specs.Machine.{AnyFlight, AnyMachine, landed, flight_landed, all_landed, By, route_of, AnyHappening, one_landed, all_but, happened}
use Rattle.plans_rules.specs.Machine.By.{Written, InForce}
use Rattle.plans_rules.specs.Machine.AnyHappening.{Does, Stores, Sends, Lands, Refetches}
use Rattle.plans_rules.specs.Safe.{IsProducer, IsRouted, CanHappen, number_in}
use Rattle.plans_rules.specs.Rules.{frees, Done, is_turned, is_forced, is_paused, is_led, is_calm, reaches, is_reached, is_still, any_of_two, may_stand, is_blank, was_shut, has_number}
use Rattle.plans_rules.proofs.BoolLaws.{false_of, clash, and_of, or_false, all_at, any_at}
use Rattle.plans_rules.proofs.Reached.{led_forced}
use Rattle.plans_rules.proofs.Brought.{Places, two_at, busy_old, reached_new}

-- ---- the invariant

-- Some places in which an identity may stand are among the old one (a), the hand (k), the new one (b).
pub record Within (stands : Places) (a k b : Bool) : Type 0 where
  pub o : Bool
  pub h : Bool
  pub n : Bool
  pub may : stands o h n ≡ true
  pub old : o ≡ true → a ≡ true
  pub hand : h ≡ true → k ≡ true
  pub new : n ≡ true → b ≡ true

-- Of one bit, given where one that is due may stand, and whether its word of the new place is blank (c): it is due (q), and stands in the old place (a),
-- the new one (b), the hand (k).
pub record Kept (stands : Places) (c q a b k : Bool) : Type 0 where
  pub cover : q ≡ true → Within stands a k b
  pub from_old : a ≡ true → (q ≡ true) × (any_of_two (stands true) ≡ true)
  pub from_hand : k ≡ true → (q ≡ true) × (any_of_two (λ o n. stands o true n) ≡ true)
  pub from_new : c ≡ true → b ≡ true → q ≡ true

-- Of one producer: its route is turned (t), and in force (c).
pub record Leads (t c : Bool) (written in_force : AnyPlace) : Type 0 where
  pub before : t ≡ false → (written ≡ Old) × (in_force ≡ Old)
  pub after : t ≡ true → written ≡ New
  pub led : c ≡ true → (in_force ≡ New) × (t ≡ true)

-- Where a store may land.
abbrev pub MayLand : Bool → Bool → AnyPlace → Type 0
MayLand t l place = (place ≡ Old → l ≡ false) × (place ≡ New → t ≡ true)

abbrev pub Flies : Setting → Done → AnyFlight → Type 0
Flies d done f =
    IsRouted d f.producer × (is_paused f.producer done ≡ false) × MayLand (is_turned f.producer done) (is_led d f.producer done) f.place

pub record Invariant (d : Setting) (start : AnyMachine) (done : Done) (z : AnyMachine) : Type 0 where
  pub leads : (p : ℕ) → IsProducer d p → Leads (is_turned p done) (is_forced p done) (z.written p) (z.in_force p)
  pub paused : (p : ℕ) → IsProducer d p → z.paused p ≡ is_paused p done
  pub flights : AllByRecursion (Flies d done) z.flights
  pub kept : (s : WhichSet) (i : ℕ) → Kept (may_stand d s (i / 64) done) (is_blank d s (i / 64) done) (z.due s i) (z.old s i) (z.new s i) (z.hand s i)
  pub somewhere : (s : WhichSet) (w : ℕ) → may_stand d s w done false false false ≡ false
  pub enables : (i : ℕ) → z.due Enabled i ≡ start.old Enabled i
  pub freed : z.freed ≡ list_any frees done
  pub safe : list_any frees done ≡ true → is_still d Pending done ≡ true
  pub strayed : z.strayed ≡ false
  pub shut : (n : Number) → was_shut n done ≡ true → z.old_number n ≡ 0
  pub left : d.is_inherited ≡ true → list_any frees done ≡ true → (n : Number) → was_shut n done ≡ true
  pub numbers : (n : Number) (spot : NumberSpot) → has_number d n spot done ≡ true → number_in spot n z ≡ number_in d.number_from n start

-- ---- a store lands

pub old_is_new : {A : Type 0} (place : AnyPlace) → place ≡ Old → place ≡ New → A
old_is_new place e f = absurd (false≢true (ap is_old (sym f ∙ e)))

pub may_written : (t c l : Bool) (w f : AnyPlace) → (l ≡ true → c ≡ true) → Leads t c w f → MayLand t l w
may_written true c l w f forced v = (λ e. old_is_new w e (v.after refl), λ e. refl)
may_written false c l w f forced v =
    (λ e. false_of l (λ led. absurd (false≢true (v.led (forced led)).1)), λ e. old_is_new w (v.before refl).0 e)

pub may_force : (t c l : Bool) (w f : AnyPlace) → (l ≡ true → c ≡ true) → Leads t c w f → MayLand t l f
may_force true c l w f forced v = (λ e. false_of l (λ led. old_is_new f e (v.led (forced led)).0), λ e. refl)
may_force false c l w f forced v =
    (λ e. false_of l (λ led. absurd (false≢true (v.led (forced led)).1)), λ e. old_is_new f (v.before refl).1 e)

pub may_by : (d : Setting) (by : By) (p : ℕ) (done : Done) (z : AnyMachine) → Leads (is_turned p done) (is_forced p done) (z.written p) (z.in_force p)
    → MayLand (is_turned p done) (is_led d p done) (route_of by p z)
may_by d Written p done z v = may_written _ _ _ (z.written p) (z.in_force p) (led_forced (slice_get d.producers p) p done) v
may_by d InForce p done z v = may_force _ _ _ (z.written p) (z.in_force p) (led_forced (slice_get d.producers p) p done) v

pub land_law : (m o : Bool) (stands : Places) (c q a b k : Bool) → (m ≡ true → o ≡ true → stands true false false ≡ true)
    → (m ≡ true → o ≡ false → stands false false true ≡ true)
    → Kept stands c q a b k → Kept stands c ((m && true) || q) ((m && o) || a) ((m && not o) || b) k
land_law false o stands c q a b k past ahead v = v
land_law true true stands c q a b k past ahead v = record {
  cover = λ e. record {
    o = true;
    h = false;
    n = false;
    may = past refl refl;
    old = λ f. refl;
    hand = λ f. absurd (false≢true f);
    new = λ f. absurd (false≢true f);
  };
  from_old = λ e. (refl, two_at (stands true) false false (past refl refl));
  from_hand = λ e. (refl, (v.from_hand e).1);
  from_new = λ e f. refl;
}
land_law true false stands c q a b k past ahead v = record {
  cover = λ e. record {
    o = false;
    h = false;
    n = true;
    may = ahead refl refl;
    old = λ f. absurd (false≢true f);
    hand = λ f. absurd (false≢true f);
    new = λ f. refl;
  };
  from_old = λ e. (refl, (v.from_old e).1);
  from_hand = λ e. (refl, (v.from_hand e).1);
  from_new = λ e f. refl;
}

-- what a landing does to the bits, with the place known
pub kept_land : (d : Setting) (start : AnyMachine) (done : Done) (place : AnyPlace) (x : ℕ) (z : AnyMachine)
    → (is_old place ≡ true → is_still d Pending done ≡ false) → (is_old place ≡ false → is_reached d Pending done ≡ true)
    → Invariant d start done z → (s : WhichSet) (i : ℕ)
    → Kept (may_stand d s (i / 64) done) (is_blank d s (i / 64) done) ((landed d place x z).due s i) ((landed d place x z).old s i)
    ((landed d place x z).new s i) ((landed d place x z).hand s i)
kept_land d start done place x z past ahead v Pending i =
    land_law (nat_eq x i) (is_old place) _ _ _ _ _ _ (λ m o. busy_old d Pending (i / 64) done (past o))
    (λ m o. reached_new d Pending (i / 64) done (ahead o)) (v.kept Pending i)
kept_land d start done place x z past ahead v Enabled i = v.kept Enabled i

pub land_at : (d : Setting) (start : AnyMachine) (done : Done) (place : AnyPlace) (x : ℕ) (z : AnyMachine)
    → (is_old place ≡ true → is_still d Pending done ≡ false) → (is_old place ≡ false → is_reached d Pending done ≡ true)
    → Invariant d start done z → Invariant d start done (landed d place x z)
land_at d start done place x z past ahead v = record {
  leads = v.leads;
  paused = v.paused;
  flights = v.flights;
  kept = kept_land d start done place x z past ahead v;
  somewhere = v.somewhere;
  enables = v.enables;
  freed = v.freed;
  safe = v.safe;
  strayed = or_false z.strayed _ v.strayed (stray_law (is_old place) z.freed (λ o. v.freed ∙ false_of _ (λ e. clash _ (v.safe e) (past o))));
  shut = v.shut;
  left = v.left;
  numbers = v.numbers;
}
  where
    stray_law : (o f : Bool) → (o ≡ true → f ≡ false) → (o && f) ≡ false
    stray_law true f h = h refl
    stray_law false f h = refl

-- where a producer that is not paused may store, it is not calm, or it reaches the new place
pub past_of : (d : Setting) (done : Done) (p : ℕ) (place : AnyPlace) → IsProducer d p → is_paused p done ≡ false
    → MayLand (is_turned p done) (is_led d p done) place → is_old place ≡ true → is_still d Pending done ≡ false
past_of d done p Old declared running may o = false_of _ (λ all. clash _ (all_at (λ q. is_calm d q done) (length d.producers) p all declared)
    (or_false (is_led d p done) _ (may.0 refl) running))
past_of d done p New declared running may o = absurd (false≢true o)

pub reach_of : (d : Setting) (done : Done) (p : ℕ) (place : AnyPlace) → IsProducer d p → is_paused p done ≡ false
    → MayLand (is_turned p done) (is_led d p done) place → is_old place ≡ false → is_reached d Pending done ≡ true
reach_of d done p Old declared running may o = absurd (false≢true (sym o))
reach_of d done p New declared running may o = any_at (λ q. reaches q done) (length d.producers) p declared
    (and_of (is_turned p done) _ (may.1 refl) (ap not running))

-- where a producer's store may land, it keeps the invariant
pub land : (d : Setting) (start : AnyMachine) (done : Done) (p : ℕ) (place : AnyPlace) (x : ℕ) (z : AnyMachine) → IsProducer d p
    → is_paused p done ≡ false → MayLand (is_turned p done) (is_led d p done) place
    → Invariant d start done z → Invariant d start done (landed d place x z)
land d start done p place x z declared running may v =
    land_at d start done place x z (past_of d done p place declared running may) (reach_of d done p place declared running may) v

-- what a producer does, unless it is paused
pub unless : (P : AnyMachine → Type 0) (b : Bool) (z y : AnyMachine) → P z → (b ≡ false → P y) → P (if b then z else y)
unless P true z y here there = here
unless P false z y here there = there refl

-- ---- between two steps

abbrev pub IsBetween : AnyHappening → Type 0
IsBetween (Does step) = ⊥
IsBetween x = Unit {0}

abbrev pub AllFly : Setting → Done → List AnyFlight → Type 0
AllFly d done fs = AllByRecursion (Flies d done) fs

pub all_mapped : (P Q : AnyFlight → Type 0) → ((f : AnyFlight) → P f → Q f) → (fs : List AnyFlight) → AllByRecursion P fs → AllByRecursion Q fs
all_mapped P Q h [] all = all
all_mapped P Q h (f ∷ later) (first, others) = (h f first, all_mapped P Q h later others)

pub all_kept : (P : AnyFlight → Type 0) → (k : ℕ) (fs : List AnyFlight) → AllByRecursion P fs → AllByRecursion P (all_but k fs)
all_kept P k [] all = all
all_kept P zero (f ∷ later) (first, others) = others
all_kept P (suc k) (f ∷ later) (first, others) = (first, all_kept P k later others)

pub fly : (d : Setting) (start : AnyMachine) (done : Done) (f : AnyFlight) (z : AnyMachine) → Flies d done f → Invariant d start done z
    → Invariant d start done (flight_landed d f z)
fly d start done f z may v = land d start done f.producer f.place f.identity z may.0.0 may.1 may.2 v

pub fly_one : (d : Setting) (start : AnyMachine) (done : Done) (z : AnyMachine) (fs : List AnyFlight) (k : ℕ) → AllFly d done fs
    → Invariant d start done z → Invariant d start done (one_landed d (slice_get fs k) z)
fly_one d start done z [] k all v = v
fly_one d start done z (f ∷ later) zero (first, others) v = fly d start done f z first v
fly_one d start done z (f ∷ later) (suc k) (first, others) v = fly_one d start done z later k others v

pub fly_all : (d : Setting) (start : AnyMachine) (done : Done) (fs : List AnyFlight) (z : AnyMachine) → AllFly d done fs → Invariant d start done z
    → Invariant d start done (all_landed d fs z)
fly_all d start done [] z all v = v
fly_all d start done (f ∷ later) z (first, others) v = fly_all d start done later (flight_landed d f z) others (fly d start done f z first v)

-- other flights, or other routes in force
pub with_flights : (d : Setting) (start : AnyMachine) (done : Done) (z : AnyMachine) (fs : List AnyFlight) → AllFly d done fs
    → Invariant d start done z → Invariant d start done (record z { flights = fs })
with_flights d start done z fs all v = record {
  leads = v.leads;
  paused = v.paused;
  flights = all;
  kept = v.kept;
  somewhere = v.somewhere;
  enables = v.enables;
  freed = v.freed;
  safe = v.safe;
  strayed = v.strayed;
  shut = v.shut;
  left = v.left;
  numbers = v.numbers;
}

pub refetch_law : (m t l : Bool) (there w f : AnyPlace) → (m ≡ true → there ≡ w) → Leads t l w f → Leads t l w (if m then there else f)
refetch_law false t l there w f same v = v
refetch_law true t l there w f same v = record {
  before = λ e. ((v.before e).0, same refl ∙ (v.before e).0);
  after = v.after;
  led = λ e. (same refl ∙ v.after (v.led e).1, (v.led e).1);
}

pub between : (d : Setting) (start : AnyMachine) (done : Done) (x : AnyHappening) (z : AnyMachine) → IsBetween x → CanHappen d x
    → Invariant d start done z → Invariant d start done (happened d x z)
between d start done (Does step) z is can v = absurd is
between d start done (Stores p by x) z is can v = unless (Invariant d start done) (z.paused p) z (landed d (route_of by p z) x z) v
    (λ runs. land d start done p (route_of by p z) x z can (sym (v.paused p can) ∙ runs) (may_by d by p done z (v.leads p can)) v)
between d start done (Sends p by x) z is can v =
    unless (Invariant d start done) (z.paused p) z (record z { flights = record { producer = p; place = route_of by p z; identity = x } ∷ z.flights })
    v (λ runs. with_flights d start done z _ ((can, sym (v.paused p can.0) ∙ runs, may_by d by p done z (v.leads p can.0)), v.flights) v)
between d start done (Lands k) z is can v = with_flights d start done (one_landed d (slice_get z.flights k) z) _
    (all_kept (Flies d done) k z.flights v.flights) (fly_one d start done z z.flights k v.flights v)
between d start done (Refetches p) z is can v = record {
  leads = λ q declared. refetch_law (nat_eq p q) _ _ (z.written p) (z.written q) (z.in_force q) (λ m. ap z.written (eqb-true p q m))
      (v.leads q declared);
  paused = v.paused;
  flights = v.flights;
  kept = v.kept;
  somewhere = v.somewhere;
  enables = v.enables;
  freed = v.freed;
  safe = v.safe;
  strayed = v.strayed;
  shut = v.shut;
  left = v.left;
  numbers = v.numbers;
}
