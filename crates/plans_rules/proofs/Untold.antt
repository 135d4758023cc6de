-- Plans that leave their host untold, each with a run that shows it; and one that nobody has to be told of.
use Rattle.std.proofs.Common.{◌≡◌, ℕ, ◌/◌, ◌<◌, Bool, true, false, ◌&&◌, ◌||◌, if◌then◌else◌, nat_eq, List, [], ◌∷◌, ◌++◌, Option, Some, None, refl, sym, ap, subst, ◌∙◌, arith}
use Rattle.std.specs.Prelude.{slice_get}
use Rattle.std.specs.List.{AllByRecursion}
use Rattle.std.proofs.lemmas.Bool.{false≢true}
use Rattle.plans_rules.specs.declared.step.AnyPlace.TheVariants.{Old, New}
use Rattle.plans_rules.specs.declared.step.WhichSet.{WhichSet}
use Rattle.plans_rules.specs.declared.step.WhichSet.TheVariants.{Pending, Enabled}
use Rattle.plans_rules.specs.declared.step.Number.{Number}
use Rattle.plans_rules.specs.declared.step.Number.TheVariants.{Threshold, Delivery}
use Rattle.plans_rules.specs.declared.setting.NumberSpot.TheVariants.{InHand, InNew}
use Rattle.plans_rules.specs.declared.step.AnyStep.{AnyStep}
use Rattle.plans_rules.specs.declared.step.AnyStep.TheVariants.{Route, Fence, Switch, Zero, Take, Copy, Join, ZeroNumber, TakeNumber, PutNumber, Look, Post, Tell, Untell, WriteNotice, Free}
use Rattle.plans_rules.specs.Setting.{Setting}
use Rattle.plans_rules.specs.Machine.{AnyFlight, AnyMachine, landed, route_of, stands_out, one_landed, AnyHappening, happened, all_happened, steps_in}
use Rattle.plans_rules.specs.Machine.By.{Written, InForce}
use Rattle.plans_rules.specs.Machine.AnyHappening.{Does, Stores, Sends, Lands, Refetches}
use Rattle.plans_rules.specs.Safe.{CanHappen, IsStartOfAny, IsTold}
use Rattle.plans_rules.specs.Plans.{kvm_producers, kvm_leaves, put_numbers}
use Rattle.plans_rules.specs.Rows.{to_memory, unset, heeded, all_moved, numbers_taken, looked_early, looked_first, posted_first, told_early, looked_last, written_late, written_last, told_shut, shut_again, shut_in_the_end, copied_again, taken_back, unstored, unposted, kvm_told_early}

abbrev if_pending : WhichSet → Bool → Bool → Bool
if_pending Pending a b = a
if_pending Enabled a b = b

abbrev nine_or_one : Number → ℕ
nine_or_one Threshold = 9
nine_or_one Delivery = 1

-- In the old place 3 is pending, 1 and 2 are enabled; in the new one is what `rest` says; threshold is 9 and delivery 1 in the old place, both are 7 in the hand; notices go to the host, or not.
abbrev pub start : Bool → (WhichSet → ℕ → Bool) → AnyMachine
start goes rest = record {
  old = λ s i. if_pending s (nat_eq i 3) (nat_eq i 1 || nat_eq i 2);
  new = rest;
  hand = λ s i. false;
  due = λ s i. if_pending s (nat_eq i 3) (nat_eq i 1 || nat_eq i 2);
  old_number = nine_or_one;
  new_number = λ n. 0;
  hand_number = λ n. 7;
  written = λ p. Old;
  in_force = λ p. Old;
  paused = λ p. false;
  flights = [];
  freed = false;
  strayed = false;
  noticed = goes;
  seen = false;
  told = false;
}

abbrev pub nothing : WhichSet → ℕ → Bool
nothing s i = false

pub starts : (d : Setting) (rest : WhichSet → ℕ → Bool) → (d.is_fresh ≡ true → (s : WhichSet) (i : ℕ) → rest s i ≡ false)
    → IsStartOfAny d (start d.notices_go rest)
starts d rest fresh = record {
  written = λ p declared. refl;
  in_force = λ p declared. refl;
  paused = λ p declared. refl;
  flights = tt;
  due = λ s i. refl;
  hand = λ s i. refl;
  fresh = fresh;
  freed = refl;
  strayed = refl;
  noticed = λ e. e;
}

-- a run, all of whose happenings may happen, that leaves 1 untold
untold_by : (d : Setting) (plan : List AnyStep) (run : List AnyHappening) → d.words ≡ 1 → steps_in run ≡ plan → AllByRecursion (CanHappen d) run
    → stands_out d (all_happened d run (start d.notices_go nothing)).new (all_happened d run (start d.notices_go nothing)).new_number 1 ≡ true
    → (all_happened d run (start d.notices_go nothing)).told ≡ false → IsTold d plan → ⊥
untold_by d plan run one steps can out untold told =
    false≢true (sym untold ∙ told (start d.notices_go nothing) run (starts d nothing (λ e s i. refl)) (record { steps = steps; others = can }) 1
    (subst (λ w. 1 / 64 < w) (sym one) (omega arith)) out)

pub looked_early_leaves_untold : IsTold (to_memory) looked_early → ⊥
looked_early_leaves_untold = untold_by (to_memory) looked_early
    (Does (Route 0) ∷ Does (Fence 0) ∷ Stores 0 Written 1 ∷ Does (Take Pending 0) ∷ Does (Join Pending 0) ∷ Does (Look 0) ∷ Does
    (Take Enabled 0) ∷ Does (Join Enabled 0) ∷ Does Post ∷ []) refl refl (tt, (tt, (omega arith, (tt, (tt, (tt, (tt, (tt, (tt, tt))))))))) refl refl

pub looked_first_leaves_untold : IsTold (to_memory) looked_first → ⊥
looked_first_leaves_untold = untold_by (to_memory) looked_first
    (Stores 0 InForce 1 ∷ Does (Route 0) ∷ Does (Fence 0) ∷ Does (Take Enabled 0) ∷ Does (Join Enabled 0) ∷ Does (Look 0) ∷ Does
    (Take Pending 0) ∷ Does (Join Pending 0) ∷ Does Post ∷ []) refl refl (omega arith, (tt, (tt, (tt, (tt, (tt, (tt, (tt, (tt, tt))))))))) refl refl

pub posted_first_leaves_untold : IsTold (to_memory) posted_first → ⊥
posted_first_leaves_untold = untold_by (to_memory) posted_first
    (Stores 0 InForce 1 ∷ Does (Route 0) ∷ Does (Fence 0) ∷ Does (Take Pending 0) ∷ Does (Join Pending 0) ∷ Does (Take Enabled 0) ∷ Does
    (Join Enabled 0) ∷ Does Post ∷ Does (Look 0) ∷ []) refl refl (omega arith, (tt, (tt, (tt, (tt, (tt, (tt, (tt, (tt, tt))))))))) refl refl

pub told_early_leaves_untold : IsTold (to_memory) told_early → ⊥
told_early_leaves_untold = untold_by (to_memory) told_early
    (Stores 0 InForce 1 ∷ Does (Route 0) ∷ Does (Fence 0) ∷ Does (Take Pending 0) ∷ Does (Join Pending 0) ∷ Does Tell ∷ Does
    (Take Enabled 0) ∷ Does (Join Enabled 0) ∷ []) refl refl (omega arith, (tt, (tt, (tt, (tt, (tt, (tt, (tt, tt)))))))) refl refl

pub untold_leaves_untold : IsTold (to_memory) all_moved → ⊥
untold_leaves_untold = untold_by (to_memory) all_moved
    (Stores 0 InForce 1 ∷ Does (Route 0) ∷ Does (Fence 0) ∷ Does (Take Pending 0) ∷ Does (Join Pending 0) ∷ Does (Take Enabled 0) ∷ Does
    (Join Enabled 0) ∷ []) refl refl (omega arith, (tt, (tt, (tt, (tt, (tt, (tt, tt))))))) refl refl

pub looked_last_leaves_untold : IsTold unset looked_last → ⊥
looked_last_leaves_untold = untold_by unset looked_last
    (Does (Route 0) ∷ Does (Fence 0) ∷ Does (Take Pending 0) ∷ Does (Join Pending 0) ∷ Does (Take Enabled 0) ∷ Does (Join Enabled 0) ∷ Does
    (Look 0) ∷ Stores 0 InForce 1 ∷ Does Post ∷ []) refl refl (tt, (tt, (tt, (tt, (tt, (tt, (tt, (omega arith, (tt, tt))))))))) refl refl

pub written_late_leaves_untold : IsTold unset written_late → ⊥
written_late_leaves_untold = untold_by unset written_late
    (Does (Route 0) ∷ Does (Fence 0) ∷ Does (Take Pending 0) ∷ Does (Join Pending 0) ∷ Does (Take Enabled 0) ∷ Does (Join Enabled 0) ∷ Does
    (Look 0) ∷ Stores 0 InForce 1 ∷ Does WriteNotice ∷ Does Post ∷ []) refl refl
    (tt, (tt, (tt, (tt, (tt, (tt, (tt, (omega arith, (tt, (tt, tt)))))))))) refl refl

pub written_last_leaves_untold : IsTold unset written_last → ⊥
written_last_leaves_untold = untold_by unset written_last
    (Does (Route 0) ∷ Does (Fence 0) ∷ Does (Take Pending 0) ∷ Does (Join Pending 0) ∷ Does (Take Enabled 0) ∷ Does (Join Enabled 0) ∷ Does
    Tell ∷ Stores 0 InForce 1 ∷ Does WriteNotice ∷ []) refl refl (tt, (tt, (tt, (tt, (tt, (tt, (tt, (omega arith, (tt, tt))))))))) refl refl

pub shut_again_leaves_untold : IsTold (heeded InNew) shut_again → ⊥
shut_again_leaves_untold = untold_by (heeded InNew) shut_again
    (Does (Route 0) ∷ Does (Fence 0) ∷ Does (Take Pending 0) ∷ Does (Join Pending 0) ∷ Does (Take Enabled 0) ∷ Does (Join Enabled 0) ∷ Does
    (TakeNumber Threshold) ∷ Does (TakeNumber Delivery) ∷ Does (PutNumber Threshold) ∷ Does (PutNumber Delivery) ∷ Does Tell ∷ Does
    (ZeroNumber New Delivery) ∷ Stores 0 InForce 1 ∷ Does (PutNumber Delivery) ∷ []) refl refl
    (tt, (tt, (tt, (tt, (tt, (tt, (tt, (tt, (tt, (tt, (tt, (tt, (omega arith, (tt, tt)))))))))))))) refl refl

pub told_shut_leaves_untold : IsTold (heeded InNew) told_shut → ⊥
told_shut_leaves_untold = untold_by (heeded InNew) told_shut
    (Stores 0 InForce 1 ∷ Does (Route 0) ∷ Does (Fence 0) ∷ Does (Take Pending 0) ∷ Does (Join Pending 0) ∷ Does (Take Enabled 0) ∷ Does
    (Join Enabled 0) ∷ Does (TakeNumber Threshold) ∷ Does (TakeNumber Delivery) ∷ Does (PutNumber Threshold) ∷ Does Tell ∷ Does
    (PutNumber Delivery) ∷ []) refl refl (omega arith, (tt, (tt, (tt, (tt, (tt, (tt, (tt, (tt, (tt, (tt, (tt, tt)))))))))))) refl refl

pub copied_again_leaves_untold : IsTold to_memory copied_again → ⊥
copied_again_leaves_untold = untold_by to_memory copied_again
    (Does (Route 0) ∷ Does (Fence 0) ∷ Does (Copy Pending 0) ∷ Does (Join Pending 0) ∷ Does (Copy Enabled 0) ∷ Does (Join Enabled 0)
    ∷ Does Tell ∷ Does (Zero New Enabled 0) ∷ Stores 0 InForce 1 ∷ Does (Copy Enabled 0) ∷ Does (Join Enabled 0)
    ∷ Does (Zero Old Pending 0) ∷ Does (Zero Old Enabled 0) ∷ []) refl refl
    (tt, (tt, (tt, (tt, (tt, (tt, (tt, (tt, (omega arith, (tt, (tt, (tt, (tt, tt))))))))))))) refl refl

pub taken_back_leaves_untold : IsTold to_memory taken_back → ⊥
taken_back_leaves_untold = untold_by to_memory taken_back
    (Does (Route 0) ∷ Does (Fence 0) ∷ Does (Take Pending 0) ∷ Does (Join Pending 0) ∷ Does (Take Enabled 0) ∷ Does (Join Enabled 0) ∷ Does
    (Look 0) ∷ Stores 0 InForce 1 ∷ Does Post ∷ Does Untell ∷ []) refl refl
    (tt, (tt, (tt, (tt, (tt, (tt, (tt, (omega arith, (tt, (tt, tt)))))))))) refl refl

-- In the old place 1 is pending and enabled, and nothing else.
abbrev standing : AnyMachine
standing = record (start true nothing) {
  old = λ s i. nat_eq i 1;
  due = λ s i. nat_eq i 1;
}

stands_first : IsStartOfAny unstored standing
stands_first = record {
  written = λ p declared. refl;
  in_force = λ p declared. refl;
  paused = λ p declared. refl;
  flights = tt;
  due = λ s i. refl;
  hand = λ s i. refl;
  fresh = λ e s i. refl;
  freed = refl;
  strayed = refl;
  noticed = λ e. e;
}

abbrev unposted_run : List AnyHappening
unposted_run = Does (Take Pending 0) ∷ Does (Join Pending 0) ∷ Does (Take Enabled 0) ∷ Does (Join Enabled 0) ∷ Does (Look 0) ∷ Does Untell ∷ []

pub unposted_leaves_untold : IsTold unstored unposted → ⊥
unposted_leaves_untold told =
    false≢true (sym untold ∙ told standing unposted_run stands_first
    (record { steps = refl; others = (tt, (tt, (tt, (tt, (tt, (tt, tt)))))) }) 1 (omega arith) refl)
  where
    untold : (all_happened unstored unposted_run standing).told ≡ false
    untold = refl

pub kvm_told_early_leaves_untold : IsTold (kvm_leaves kvm_producers 1) kvm_told_early → ⊥
kvm_told_early_leaves_untold = untold_by (kvm_leaves kvm_producers 1) kvm_told_early
    (Does (Switch 0) ∷ Does (Route 1) ∷ Does (Fence 1) ∷ Stores 1 InForce 1 ∷ Does (TakeNumber Delivery) ∷ Does (TakeNumber Threshold) ∷ Does
    (Take Pending 0) ∷ Does (Take Enabled 0) ∷ Does (PutNumber Delivery) ∷ Does (PutNumber Threshold) ∷ Does (Join Pending 0) ∷ Does Tell ∷ Does
    (Join Enabled 0) ∷ Does Free ∷ []) refl refl
    (tt, (tt, (tt, (omega arith, (tt, (tt, (tt, (tt, (tt, (tt, (tt, (tt, (tt, (tt, tt)))))))))))))) refl refl

-- ---- delivery is zeroed last

one_keeps : (d : Setting) (f : Option AnyFlight) (z : AnyMachine) → (one_landed d f z).new_number ≡ z.new_number
one_keeps d None z = refl
one_keeps d (Some f) z = refl

unless_keeps : (b : Bool) (z y : AnyMachine) → y.new_number ≡ z.new_number → (if b then z else y).new_number ≡ z.new_number
unless_keeps true z y e = refl
unless_keeps false z y e = e

no_steps_keep : (d : Setting) (run : List AnyHappening) (z : AnyMachine) → steps_in run ≡ [] → (all_happened d run z).new_number ≡ z.new_number
no_steps_keep d [] z e = refl
no_steps_keep d (Does x ∷ later) z e = absurd (cc)
no_steps_keep d (Stores p by x ∷ later) z e = no_steps_keep d later _ e
    ∙ unless_keeps (z.paused p) z (landed d (route_of by p z) x z) refl
no_steps_keep d (Sends p by x ∷ later) z e = no_steps_keep d later _ e
    ∙ unless_keeps (z.paused p) z (record z { flights = record { producer = p; place = route_of by p z; identity = x } ∷ z.flights }) refl
no_steps_keep d (Lands k ∷ later) z e = no_steps_keep d later _ e ∙ one_keeps d (slice_get z.flights k) z
no_steps_keep d (Refetches p ∷ later) z e = no_steps_keep d later _ e

heads : {X : Type 0} (x y : X) (xs ys : List X) → x ∷ xs ≡ y ∷ ys → x ≡ y
heads x y xs ys e = cc

tails : {X : Type 0} (x y : X) (xs ys : List X) → x ∷ xs ≡ y ∷ ys → xs ≡ ys
tails x y xs ys e = cc

abbrev zeroes : List AnyStep
zeroes = ZeroNumber New Delivery ∷ []

does_last : (d : Setting) (x : AnyStep) (later : List AnyHappening) (z : AnyMachine) → x ≡ ZeroNumber New Delivery → steps_in later ≡ []
    → (all_happened d later (happened d (Does x) z)).new_number Delivery ≡ 0
does_last d x later z e none = no_steps_at ∙ ap (λ y. (happened d (Does y) z).new_number Delivery) e
  where
    no_steps_at : (all_happened d later (happened d (Does x) z)).new_number Delivery ≡ (happened d (Does x) z).new_number Delivery
    no_steps_at = ap (λ (numbers : Number → ℕ). numbers Delivery) (no_steps_keep d later _ none)

zeroed_last : (d : Setting) (xs : List AnyStep) (run : List AnyHappening) (z : AnyMachine) → steps_in run ≡ xs ++ zeroes
    → (all_happened d run z).new_number Delivery ≡ 0
zeroed_last d [] [] z e = absurd (cc)
zeroed_last d (y ∷ ys) [] z e = absurd (cc)
zeroed_last d [] (Does x ∷ later) z e = does_last d x later z (heads _ _ _ _ e) (tails _ _ _ _ e)
zeroed_last d (y ∷ ys) (Does x ∷ later) z e = zeroed_last d ys later _ (tails _ _ _ _ e)
zeroed_last d xs (Stores p by x ∷ later) z e = zeroed_last d xs later _ e
zeroed_last d xs (Sends p by x ∷ later) z e = zeroed_last d xs later _ e
zeroed_last d xs (Lands k ∷ later) z e = zeroed_last d xs later _ e
zeroed_last d xs (Refetches p ∷ later) z e = zeroed_last d xs later _ e

nothing_out : (a b c n : Bool) → n ≡ false → (a && (b && (n && c))) ≡ false
nothing_out true true c n e = ap (λ m. m && c) e
nothing_out true false c n e = refl
nothing_out false b c n e = refl

pub shut_in_the_end_is_told : IsTold (heeded InHand) shut_in_the_end
shut_in_the_end_is_told start run is_start is i inside out =
    let last = zeroed_last (heeded InHand) (all_moved ++ numbers_taken ++ put_numbers ++ Tell ∷ []) run start is.steps in
    absurd (false≢true (sym (nothing_out _ _ _ _ (ap (λ n. nat_eq n 1) last)) ∙ out))
