-- What a step more leaves as it was, of the tests by which the rules on anybody's plan are told.
use Rattle.std.proofs.Common.{◌≡◌, ℕ, Bool, true, false, not, ◌&&◌, nat_eq, [], ◌∷◌, Option, Some, None, refl, sym, arith}
use Rattle.std.proofs.lemmas.Bool.{false≢true, eqb-true}
use Rattle.plans_rules.specs.declared.step.WhichSet.{WhichSet}
use Rattle.plans_rules.specs.declared.step.AnyStep.{AnyStep}
use Rattle.plans_rules.specs.declared.step.AnyStep.TheVariants.{Take, Join, Put}
use Rattle.plans_rules.specs.Setting.{Setting, names}
use Rattle.plans_rules.specs.Rules.{Done, turns, empties, is_turned, is_drained, is_still, is_blank}
use Rattle.plans_of_aia.proofs.Flags.{AllUnpaused, old_holds, hand_holds, is_filled}
use Rattle.plans_rules.proofs.BoolLaws.{or_right}
use Rattle.plans_rules.proofs.Reached.{drained_more}
use Rattle.aia_plan.specs.declared.step.Step.{Step as OurStep}
use Rattle.aia_plan.specs.declared.step.Step.TheVariants as ours
use Rattle.plans_of_aia.specs.Translated.{access_of, onto}

pub same_number : (n : ℕ) → nat_eq n n ≡ true
same_number n = grind arith

pub numbers_are_one : (w v : ℕ) → nat_eq w v ≡ true → w ≡ v
numbers_are_one w v e = eqb-true w v e

pub no_number : {A : Type 0} {w : ℕ} → ◌≡◌ {A = Option ℕ} None (Some w) → A
no_number e = absurd (cc)

-- ---- routes

pub turned_on : (p : ℕ) (step : Option AnyStep) (done : Done) → is_turned p done ≡ true → is_turned p (onto step done) ≡ true
turned_on p None done e = e
turned_on p (Some x) done e = or_right (turns p x) (is_turned p done) e

pub drained_on : (p : ℕ) (step : Option AnyStep) (done : Done) → is_drained p done ≡ true → is_drained p (onto step done) ≡ true
drained_on p None done e = e
drained_on p (Some x) done e = drained_more p x done e

-- no step of ours pauses or resumes anybody
pub unpaused_on : (x : OurStep) (done : Done) → AllUnpaused done → AllUnpaused (onto (access_of x) done)
unpaused_on ours.Word0 done on = (tt, on)
unpaused_on ours.Word1 done on = (tt, on)
unpaused_on ours.Fence done on = (tt, on)
unpaused_on ours.Map done on = (tt, on)
unpaused_on ours.Unmap done on = (tt, on)
unpaused_on ours.Remap done on = (tt, on)
unpaused_on ours.GFence done on = (tt, on)
unpaused_on (ours.TakeP w) done on = (tt, on)
unpaused_on (ours.PutP w) done on = (tt, on)
unpaused_on (ours.TakeE w) done on = (tt, on)
unpaused_on (ours.PutE w) done on = (tt, on)
unpaused_on (ours.Look w) done on = (tt, on)
unpaused_on ours.Post done on = (tt, on)
unpaused_on x done on = on

-- ---- words

emptied_by : (here old still : Bool) → old ≡ false → elim here [ true ↦ old && not still | false ↦ old ] ≡ false
emptied_by true true still e = absurd (false≢true (sym e))
emptied_by true false still e = refl
emptied_by false old still e = e

pub emptied_on : (d : Setting) (s : WhichSet) (w : ℕ) (step : Option AnyStep) (done : Done) → old_holds d s w done ≡ false
    → old_holds d s w (onto step done) ≡ false
emptied_on d s w None done e = e
emptied_on d s w (Some x) done e = emptied_by (empties s w x) (old_holds d s w done) (is_still d s done) e

emptied_late : (here old still : Bool) → here ≡ true → still ≡ true → elim here [ true ↦ old && not still | false ↦ old ] ≡ false
emptied_late true true true e f = refl
emptied_late true false still e f = refl
emptied_late true true false e f = absurd (false≢true f)
emptied_late false old still e f = absurd (false≢true e)

-- a word that is taken while nobody stores is empty
pub emptied_now : (d : Setting) (s : WhichSet) (w v : ℕ) (done : Done) → names s w s v ≡ true → is_still d s done ≡ true
    → old_holds d s v (Take s w ∷ done) ≡ false
emptied_now d s w v done e still = emptied_late (names s w s v) (old_holds d s v done) (is_still d s done) e still

other_of : {A : Type 0} (b : Bool) (x y : A) → b ≡ false → elim b [ true ↦ x | false ↦ y ] ≡ y
other_of true x y e = absurd (false≢true (sym e))
other_of false x y e = refl

one_of : {A : Type 0} (b : Bool) (x y : A) → b ≡ true → elim b [ true ↦ x | false ↦ y ] ≡ x
one_of true x y e = refl
one_of false x y e = absurd (false≢true e)

-- the hand after a take of another word
pub hand_beside : (d : Setting) (s : WhichSet) (w v : ℕ) (done : Done) → names s w s v ≡ false
    → hand_holds d s v (Take s w ∷ done) ≡ hand_holds d s v done
hand_beside d s w v done e = other_of (names s w s v) _ _ e

-- what is in the hand after a word went out of it was there, and is of another word
let_go : (here held : Bool) → elim here [ true ↦ false | false ↦ held ] ≡ true → (here ≡ false) × (held ≡ true)
let_go true held e = absurd (false≢true e)
let_go false held e = (refl, e)

pub hand_joined : (d : Setting) (s : WhichSet) (w v : ℕ) (done : Done) → hand_holds d s v (Join s w ∷ done) ≡ true → (names s w s v ≡ false)
    × (hand_holds d s v done ≡ true)
hand_joined d s w v done e = let_go (names s w s v) (hand_holds d s v done) e

pub hand_put : (d : Setting) (s : WhichSet) (w v : ℕ) (done : Done) → hand_holds d s v (Put s w ∷ done) ≡ true → (names s w s v ≡ false)
    × (hand_holds d s v done ≡ true)
hand_put d s w v done e = let_go (names s w s v) (hand_holds d s v done) e

pub filled_beside : (d : Setting) (s : WhichSet) (w v : ℕ) (done : Done) → names s w s v ≡ false
    → is_filled d s v (Put s w ∷ done) ≡ is_filled d s v done
filled_beside d s w v done e = other_of (names s w s v) _ _ e

-- a place that is fresh is blank
pub fresh_is_blank : (d : Setting) (s : WhichSet) (w : ℕ) (done : Done) → d.is_fresh ≡ true → is_blank d s w done ≡ true
fresh_is_blank d s w [] e = e
fresh_is_blank d s w (x ∷ done) e = or_right _ (is_blank d s w done) (fresh_is_blank d s w done e)
