-- The rules of plans: what each says of a step that stands after the steps `done`, the newest
-- first, and of an end after these. They depend on where an identity of a word that is due *may
-- stand*: one stands in the old place at the start, and steps bring it on; and a store by itself
-- may make one stand in the old place, or in the new one, while it may reach that. Profile.
use Rattle.std.specs.Prelude.{ℕ, length, Bool, true, false, not, ◌&&◌, ◌||◌, nat_eq, List, [], ◌∷◌, Option, Some, None, slice_get}
use Rattle.std.specs.List.{list_any}
use Rattle.plans_rules.specs.declared.step.AnyPlace.TheVariants.{Old, New}
use Rattle.plans_rules.specs.declared.step.WhichSet.{WhichSet}
use Rattle.plans_rules.specs.declared.step.WhichSet.TheVariants.{Pending, Enabled}
use Rattle.plans_rules.specs.declared.step.Number.{Number}
use Rattle.plans_rules.specs.declared.step.Number.TheVariants.{Threshold, Delivery}
use Rattle.plans_rules.specs.declared.setting.NumberSpot.{NumberSpot}
use Rattle.plans_rules.specs.declared.setting.NumberSpot.TheVariants.{InOld, InHand, InNew}
use Rattle.plans_rules.specs.declared.setting.RouteKind.{RouteKind}
use Rattle.plans_rules.specs.declared.setting.RouteKind.TheVariants.{Routed, Switched}
use Rattle.plans_rules.specs.declared.rule.Rule.{Rule}
use Rattle.plans_rules.specs.declared.rule.Rule.TheVariants.{Routes, Blank, Words, Numbers, Freeing, Notice}
use Rattle.plans_rules.specs.declared.step.AnyStep.{AnyStep}
use Rattle.plans_rules.specs.declared.step.AnyStep.TheVariants.{Route, Fence, Switch, Pause, Resume, Zero, Take, Copy, Join, Put, ZeroNumber, TakeNumber, CopyNumber, PutNumber, Look, Post, Tell, Untell, WriteNotice, Free}
use Rattle.plans_rules.specs.Setting.{Setting, same_number, same_spot, names, all_below, any_below}

-- ---- what a step does

-- Whether a step writes a producer's route.
abbrev pub turns : ℕ → AnyStep → Bool
turns p (Route q) = nat_eq q p
turns p (Switch q) = nat_eq q p
turns p x = false

-- Whether it is the fence of the route.
abbrev pub fences : ℕ → AnyStep → Bool
fences p (Fence q) = nat_eq q p
fences p x = false

-- Whether it writes the route and puts it in force at once, with no fence.
abbrev pub switches : ℕ → AnyStep → Bool
switches p (Switch q) = nat_eq q p
switches p x = false

-- Whether a step pauses a producer; whether it resumes it.
abbrev pub pauses : ℕ → AnyStep → Bool
pauses p (Pause q) = nat_eq q p
pauses p x = false

abbrev pub resumes : ℕ → AnyStep → Bool
resumes p (Resume q) = nat_eq q p
resumes p x = false

-- Whether a step leaves nothing of a word in the old place.
abbrev pub empties : WhichSet → ℕ → AnyStep → Bool
empties t v (Take s w) = names s w t v
empties t v (Zero Old s w) = names s w t v
empties t v x = false

-- Whether it brings the word from the old place into the hand, over what the hand has of it.
abbrev pub lifts : WhichSet → ℕ → AnyStep → Bool
lifts t v (Take s w) = names s w t v
lifts t v (Copy s w) = names s w t v
lifts t v x = false

-- Whether it moves the word from the hand to the new place.
abbrev pub fills : WhichSet → ℕ → AnyStep → Bool
fills t v (Join s w) = names s w t v
fills t v (Put s w) = names s w t v
fills t v x = false

-- Whether it leaves nothing in the new place of what stood there before.
abbrev pub blanks : WhichSet → ℕ → AnyStep → Bool
blanks t v (Zero New s w) = names s w t v
blanks t v (Put s w) = names s w t v
blanks t v x = false

-- Whether it leaves a number of the old place 0.
abbrev pub shuts : Number → AnyStep → Bool
shuts n (TakeNumber m) = same_number m n
shuts n (ZeroNumber Old m) = same_number m n
shuts n x = false

-- Whether it gives the old place back.
abbrev pub frees : AnyStep → Bool
frees Free = true
frees x = false

-- Whether it looks at a word.
abbrev pub looks : ℕ → AnyStep → Bool
looks v (Look w) = nat_eq w v
looks v x = false

-- Whether it posts what looks saw.
abbrev pub posts : AnyStep → Bool
posts Post = true
posts x = false

-- Whether it tells the host what stands out.
abbrev pub tells : AnyStep → Bool
tells Tell = true
tells x = false

-- Whether it takes back what the host was told.
abbrev pub untells : AnyStep → Bool
untells Untell = true
untells x = false

-- Whether it writes where notices go.
abbrev pub writes_notice : AnyStep → Bool
writes_notice WriteNotice = true
writes_notice x = false

-- ---- what is reached after steps that are done

-- The steps that are done, the newest first.
abbrev pub Done : Type 0
Done = List AnyStep

-- A producer's route leads to the new place, as it is written.
abbrev pub is_turned : ℕ → Done → Bool
is_turned p done = list_any (turns p) done

-- A fence stood after a step that writes that route: so it is in force.
abbrev pub is_fenced : ℕ → Done → Bool
is_fenced p [] = false
is_fenced p (x ∷ done) = elim (fences p x) [
  | true ↦ is_turned p done || is_fenced p done
  | false ↦ is_fenced p done
]

-- The route leads to the new place in force, by a fence or by a switch.
abbrev pub is_forced : ℕ → Done → Bool
is_forced p done = is_fenced p done || list_any (switches p) done

-- A producer is paused: it was, and was not resumed since.
abbrev pub is_paused : ℕ → Done → Bool
is_paused p [] = false
is_paused p (x ∷ done) = pauses p x || (not (resumes p x) && is_paused p done)

-- The route is in force, and no store of the producer is in flight to the old place: a fence stood
-- after the step that writes it, or the producer was paused once it was in force, or it was
-- switched while the producer was paused.
abbrev pub is_drained : ℕ → Done → Bool
is_drained p [] = false
is_drained p (x ∷ done) =
    (fences p x && is_turned p done)
    || ((pauses p x && is_forced p done) || ((switches p x && is_paused p done) || is_drained p done))

-- All that a producer of a kind stores from now on goes to the new place.
abbrev pub is_led_as : Option RouteKind → ℕ → Done → Bool
is_led_as kind p done = elim kind [
  | None ↦ false
  | Some Routed ↦ is_drained p done
  | Some Switched ↦ is_forced p done
]

-- The same of a producer of the setting.
abbrev pub is_led : Setting → ℕ → Done → Bool
is_led d p done = is_led_as (slice_get d.producers p) p done

-- The same of all producers.
abbrev pub all_led : Setting → Done → Bool
all_led d done = all_below (λ p. is_led d p done) (length d.producers)

-- It is led, if there is such a producer.
abbrev pub is_led_if_any : Setting → ℕ → Done → Bool
is_led_if_any d p done = elim (slice_get d.producers p) [
  | None ↦ true
  | Some kind ↦ is_led_as (Some kind) p done
]

-- A producer may store into the new place.
abbrev pub reaches : ℕ → Done → Bool
reaches p done = is_turned p done && not (is_paused p done)

-- A producer stores nothing into the old place: it is led, or it is paused.
abbrev pub is_calm : Setting → ℕ → Done → Bool
is_calm d p done = is_led d p done || is_paused p done

-- Somebody may store into a set of the new place. Nobody ever stores into the enables.
abbrev pub is_reached : Setting → WhichSet → Done → Bool
is_reached d s done = elim s [
  | Pending ↦ any_below (λ p. reaches p done) (length d.producers)
  | Enabled ↦ false
]

-- Nobody stores into a set of the old place.
abbrev pub is_still : Setting → WhichSet → Done → Bool
is_still d s done = elim s [
  | Pending ↦ all_below (λ p. is_calm d p done) (length d.producers)
  | Enabled ↦ true
]

-- ---- where an identity that is due may stand

-- Whether two truth values are the same.
abbrev pub alike : Bool → Bool → Bool
alike true b = b
alike false b = not b

-- Whether a step that empties the old place of a word (e), lifts it into the hand (l), fills the
-- new place from there (f), or blanks that (z), brings an identity from the old place (a), the
-- hand (k), the new place (b), where it stands there, to just these: the old place (o), the hand
-- (h), the new place (n).
abbrev pub brings : Bool → Bool → Bool → Bool → Bool → Bool → Bool → Bool → Bool → Bool → Bool
brings e l f z a k b o h n =
    alike o (not e && a)
    && (alike h ((l && a) || (not l && (not f && k)))
    && alike n ((f && k) || (not z && b)))

-- Whether a test of places passes for some choice of whether an identity stands in each.
abbrev pub any_of_two : (Bool → Bool → Bool) → Bool
any_of_two passes =
    passes true true || (passes true false || (passes false true || passes false false))

abbrev pub any_of_three : (Bool → Bool → Bool → Bool) → Bool
any_of_three passes = any_of_two (passes true) || any_of_two (passes false)

-- Where such a step may bring an identity from where one may stand.
abbrev pub brought : Bool → Bool → Bool → Bool → (Bool → Bool → Bool → Bool) → Bool → Bool → Bool
    → Bool
brought e l f z stands o h n = elim (e || (l || (f || z))) [
  | true ↦ any_of_three (λ a k b. brings e l f z a k b o h n && stands a k b)
  | false ↦ stands o h n
]

-- Where a store alone may make one stand: in the old place, unless nobody stores there (still), or
-- in the new one, if somebody may (reached).
abbrev pub alone_by : Bool → Bool → Bool → Bool → Bool → Bool
alone_by still reached o h n =
    not h && ((o && (not n && not still)) || (not o && (n && reached)))

abbrev pub stored_alone : Setting → WhichSet → Done → Bool → Bool → Bool → Bool
stored_alone d s done = alone_by (is_still d s done) (is_reached d s done)

-- An identity of word w of a set that is due may stand in just these places: the old one (o), the
-- hand (h), the new one (n). At the start all that is due stands in the old one.
abbrev pub may_stand : Setting → WhichSet → ℕ → Done → Bool → Bool → Bool → Bool
may_stand d s w [] o h n = o && (not h && not n)
may_stand d s w (x ∷ done) o h n =
    brought (empties s w x) (lifts s w x) (fills s w x) (blanks s w x) (may_stand d s w done) o h n
    || stored_alone d s (x ∷ done) o h n

-- One may stand in the old place only, the hand only, the new place only.
abbrev pub only_old : Setting → WhichSet → ℕ → Done → Bool
only_old d s w done = may_stand d s w done true false false

abbrev pub only_hand : Setting → WhichSet → ℕ → Done → Bool
only_hand d s w done = may_stand d s w done false true false

abbrev pub only_new : Setting → WhichSet → ℕ → Done → Bool
only_new d s w done = may_stand d s w done false false true

-- One may stand in the old place, wherever else it stands.
abbrev pub any_old : Setting → WhichSet → ℕ → Done → Bool
any_old d s w done = any_of_two (λ h n. may_stand d s w done true h n)

-- Nothing of a word stands in the new place but what is due: it was fresh, zeroed or put over.
abbrev pub is_blank : Setting → WhichSet → ℕ → Done → Bool
is_blank d s w [] = d.is_fresh
is_blank d s w (x ∷ done) = blanks s w x || is_blank d s w done

-- A number stands in a spot as it was at the start.
abbrev pub has_number : Setting → Number → NumberSpot → Done → Bool
has_number d n spot [] = same_spot d.number_from spot
has_number d n spot (TakeNumber m ∷ done) = elim (same_number m n) [
  | true ↦ elim spot [
    | InOld ↦ false
    | InHand ↦ has_number d n InOld done
    | InNew ↦ has_number d n InNew done
  ]
  | false ↦ has_number d n spot done
]
has_number d n spot (CopyNumber m ∷ done) = elim (same_number m n) [
  | true ↦ elim spot [
    | InOld ↦ has_number d n InOld done
    | InHand ↦ has_number d n InOld done
    | InNew ↦ has_number d n InNew done
  ]
  | false ↦ has_number d n spot done
]
has_number d n spot (PutNumber m ∷ done) = elim (same_number m n) [
  | true ↦ elim spot [
    | InOld ↦ has_number d n InOld done
    | InHand ↦ has_number d n InHand done
    | InNew ↦ has_number d n InHand done
  ]
  | false ↦ has_number d n spot done
]
has_number d n spot (ZeroNumber Old m ∷ done) = elim (same_number m n) [
  | true ↦ elim spot [
    | InOld ↦ false
    | InHand ↦ has_number d n InHand done
    | InNew ↦ has_number d n InNew done
  ]
  | false ↦ has_number d n spot done
]
has_number d n spot (ZeroNumber New m ∷ done) = elim (same_number m n) [
  | true ↦ elim spot [
    | InOld ↦ has_number d n InOld done
    | InHand ↦ has_number d n InHand done
    | InNew ↦ false
  ]
  | false ↦ has_number d n spot done
]
has_number d n spot (x ∷ done) = has_number d n spot done

-- A number of the old place was left 0. Nobody puts another value there.
abbrev pub was_shut : Number → Done → Bool
was_shut n done = list_any (shuts n) done

-- The old place may be given back, as to what its next owner takes over.
abbrev pub is_shut : Setting → Done → Bool
is_shut d done = elim d.is_inherited [
  | true ↦ was_shut Threshold done && was_shut Delivery done
  | false ↦ true
]

-- All of a word that is due stands in the new place: none may stand elsewhere, and not there.
abbrev pub is_there : Setting → WhichSet → ℕ → Done → Bool
is_there d s w done =
    not (only_old d s w done || (only_hand d s w done || may_stand d s w done true true false))

-- Both numbers are in the new place, if they are heeded.
abbrev pub are_heeded : Setting → Done → Bool
are_heeded d done = elim d.heeds [
  | true ↦ has_number d Threshold InNew done && has_number d Delivery InNew done
  | false ↦ true
]

-- Notices go to the host: from the start on, or since it was written where they go.
abbrev pub is_noticed : Setting → Done → Bool
is_noticed d [] = d.notices_go
is_noticed d (x ∷ done) = writes_notice x || is_noticed d done

-- All of a word of both sets stands in the new place, what is heeded is there, and notices go to
-- the host.
abbrev pub is_settled : Setting → ℕ → Done → Bool
is_settled d w done =
    is_there d Pending w done
    && (is_there d Enabled w done && (are_heeded d done && is_noticed d done))

-- A word was looked at, was settled then and since, and nobody may have stored into it since.
abbrev pub is_seen : Setting → ℕ → Done → Bool
is_seen d w [] = false
is_seen d w (x ∷ done) =
    (looks w x || is_seen d w done)
    && (is_settled d w (x ∷ done) && not (is_reached d Pending (x ∷ done)))

-- A word was looked at, and settled then and since. After an `untell` that counts only if nobody
-- may have stored since the look.
abbrev pub is_looked : Setting → ℕ → Done → Bool
is_looked d w [] = false
is_looked d w (x ∷ done) =
    (looks w x || elim (untells x) [ true ↦ is_seen d w done | false ↦ is_looked d w done ])
    && is_settled d w (x ∷ done)

-- A word was told of, or posted after such a look, and settled then and since. After an `untell`
-- that counts only if a look saw the word before, and nobody may have stored since that look.
abbrev pub is_reported : Setting → ℕ → Done → Bool
is_reported d w [] = false
is_reported d w (x ∷ done) =
    elim (untells x) [
      | true ↦ is_reported d w done && is_seen d w done
      | false ↦ (posts x && is_looked d w done) || (tells x || is_reported d w done)
    ]
    && is_settled d w (x ∷ done)

-- ---- the rules

-- Whether a rule lets a step stand.
abbrev pub lets : Rule → Setting → AnyStep → Done → Bool
-- The only place where something due may stand is not overwritten: a word in the hand by a take or
-- a copy, one of the new place by a put, one of either place by zeros.
lets Words d (Take s w) done = not (only_hand d s w done)
lets Words d (Copy s w) done = not (only_hand d s w done)
lets Words d (Put s w) done = not (only_new d s w done)
lets Words d (Zero Old s w) done = not (only_old d s w done)
lets Words d (Zero New s w) done = not (only_new d s w done)
-- What may stand only in the hand is joined to a blank word.
lets Blank d (Join s w) done = not (only_hand d s w done) || is_blank d s w done
-- The old place is given back once, when nobody stores there and nothing is left to its next owner,
-- and not accessed after that; and nobody is resumed then who would store there.
lets Freeing d Free done =
    is_still d Pending done && (not (list_any frees done) && is_shut d done)
lets Freeing d (Resume p) done = not (list_any frees done) || is_led_if_any d p done
lets Freeing d (Take s w) done = not (list_any frees done)
lets Freeing d (Copy s w) done = not (list_any frees done)
lets Freeing d (Zero Old s w) done = not (list_any frees done)
lets Freeing d (TakeNumber n) done = not (list_any frees done)
lets Freeing d (CopyNumber n) done = not (list_any frees done)
lets Freeing d (ZeroNumber Old n) done = not (list_any frees done)
lets rule d x done = true

-- Whether a rule lets a plan end.
abbrev pub lets_end : Rule → Setting → Done → Bool
-- All producers are led to the new place, and no pending word may stand in the old one.
lets_end Routes d done =
    all_led d done && all_below (λ w. not (any_old d Pending w done)) d.words
-- No enables may stand in the old place, and no word only in the hand.
lets_end Words d done =
    all_below (λ w. not (only_hand d Pending w done)
    && (not (any_old d Enabled w done) && not (only_hand d Enabled w done))) d.words
-- Each word of the new place is blank.
lets_end Blank d done =
    all_below (λ w. is_blank d Pending w done && is_blank d Enabled w done) d.words
-- Threshold and delivery are where they have to be.
lets_end Numbers d done =
    has_number d Threshold d.number_to done && has_number d Delivery d.number_to done
-- In memory each word was reported. No step breaks that rule.
lets_end Notice d done = elim d.in_memory [
  | true ↦ all_below (λ w. is_reported d w done) d.words
  | false ↦ true
]
lets_end rule d done = true

-- Whether a rule lets the rest of a plan stand, and the plan end.
abbrev pub lets_rest : Rule → Setting → Done → List AnyStep → Bool
lets_rest rule d done [] = lets_end rule d done
lets_rest rule d done (x ∷ rest) = lets rule d x done && lets_rest rule d (x ∷ done) rest

-- Whether a plan keeps a rule.
abbrev pub keeps : Rule → Setting → List AnyStep → Bool
keeps rule d plan = lets_rest rule d [] plan

-- All rules, in their order.
abbrev pub rules : List Rule
rules = Routes ∷ Words ∷ Blank ∷ Numbers ∷ Freeing ∷ Notice ∷ []

-- Those of some rules that a plan breaks.
abbrev pub broken_of : List Rule → Setting → List AnyStep → List Rule
broken_of [] d plan = []
broken_of (rule ∷ others) d plan = elim (keeps rule d plan) [
  | true ↦ broken_of others d plan
  | false ↦ rule ∷ broken_of others d plan
]

-- All rules that it breaks.
abbrev pub broken : Setting → List AnyStep → List Rule
broken d plan = broken_of rules d plan

-- Whether a plan keeps the five rules of safety.
abbrev pub moves : Setting → List AnyStep → Bool
moves d plan =
    keeps Routes d plan && (keeps Words d plan
    && (keeps Blank d plan && (keeps Numbers d plan && keeps Freeing d plan)))

-- Whether it keeps all six.
abbrev pub accepts : Setting → List AnyStep → Bool
accepts d plan = moves d plan && keeps Notice d plan
