-- What the rules say of the plans of hypervisors, and of plans that break one rule. Profile.
use Rattle.std.specs.Prelude.{◌≡◌, ℕ, true, false, Bool, List, [], ◌∷◌, ◌++◌}
use Rattle.plans_rules.specs.declared.step.AnyPlace.TheVariants.{Old, New}
use Rattle.plans_rules.specs.declared.step.WhichSet.TheVariants.{Pending, Enabled}
use Rattle.plans_rules.specs.declared.step.Number.TheVariants.{Threshold, Delivery}
use Rattle.plans_rules.specs.declared.setting.NumberSpot.{NumberSpot}
use Rattle.plans_rules.specs.declared.setting.NumberSpot.TheVariants.{InOld, InNew}
use Rattle.plans_rules.specs.declared.setting.RouteKind.TheVariants.{Routed}
use Rattle.plans_rules.specs.declared.rule.Rule.{Rule}
use Rattle.plans_rules.specs.declared.rule.Rule.TheVariants.{Notice}
use Rattle.plans_rules.specs.declared.step.AnyStep.{AnyStep}
use Rattle.plans_rules.specs.declared.step.AnyStep.TheVariants.{Route, Fence, Switch, Pause, Resume, Zero, Take, Copy, Join, Put, ZeroNumber, TakeNumber, PutNumber, Look, Post, Tell, Untell, WriteNotice, Free}
use Rattle.plans_rules.specs.Setting.{Setting}
use Rattle.plans_rules.specs.Safe.{IsTold}
use Rattle.plans_rules.specs.Rules.{accepts, broken}
use Rattle.plans_rules.specs.Plans.{zeroed, swapped, joined, put_numbers}

-- How many words of 64 identities the sets of a file may have.
-- AIA 1.0, IMSIC, "Interrupt files and interrupt identities": one less than a multiple of 64.
-- Profile: the powers of two.
abbrev pub widths : List ℕ
widths = 1 ∷ 2 ∷ 4 ∷ 8 ∷ 16 ∷ 32 ∷ []

-- A plan of each of these numbers of words is accepted.
abbrev pub AreAccepted : List ℕ → (ℕ → Setting) → (ℕ → List AnyStep) → Type 0
AreAccepted [] settings plans = Unit {0}
AreAccepted (words ∷ others) settings plans =
    (accepts (settings words) (plans words) ≡ true) × AreAccepted others settings plans

-- Each of these plans breaks a rule, and no other one.
abbrev pub BreakAlone : Rule → Setting → List (List AnyStep) → Type 0
BreakAlone rule d [] = Unit {0}
BreakAlone rule d (plan ∷ plans) = (broken d plan ≡ rule ∷ []) × BreakAlone rule d plans

-- Each of these plans breaks only the rule on notices, and leaves its host untold.
abbrev pub LeaveUntold : Setting → List (List AnyStep) → Type 0
LeaveUntold d [] = Unit {0}
LeaveUntold d (plan ∷ plans) =
    (broken d plan ≡ Notice ∷ []) × (¬ IsTold d plan) × LeaveUntold d plans

-- ---- one producer, which is routed, one word

-- To a new place that is fresh, or not, and with numbers that stay.
abbrev pub plainly : Bool → Setting
plainly is_fresh = record {
  producers = Routed ∷ [];
  words = 1;
  is_fresh = is_fresh;
  in_memory = false;
  heeds = false;
  notices_go = true;
  is_inherited = false;
  number_from = InOld;
  number_to = InOld;
}

-- With numbers that move.
abbrev pub with_numbers : Setting
with_numbers = record (plainly true) { number_to = InNew }

-- To memory, with numbers that stay.
abbrev pub to_memory : Setting
to_memory = record (plainly true) { in_memory = true }

-- The same with notices that go nowhere at the start.
abbrev pub unset : Setting
unset = record to_memory { notices_go = false }

-- With numbers that move to memory, or into the hand, and are heeded there.
abbrev pub heeded : NumberSpot → Setting
heeded number_to = record (plainly true) {
  in_memory = true;
  heeds = true;
  number_to = number_to;
}

-- Two producers, and no words.
abbrev pub without_words : Setting
without_words = record (plainly true) { producers = Routed ∷ Routed ∷ []; words = 0 }

-- The route is written and put in force.
abbrev pub lead : List AnyStep
lead = Route 0 ∷ Fence 0 ∷ []

-- The pending word is taken and joined.
abbrev pub pending_moved : List AnyStep
pending_moved = Take Pending 0 ∷ Join Pending 0 ∷ []

-- The word of the enables is taken and joined.
abbrev pub enables_moved : List AnyStep
enables_moved = Take Enabled 0 ∷ Join Enabled 0 ∷ []

-- All that a plan has to do here, where numbers stay.
abbrev pub all_moved : List AnyStep
all_moved = lead ++ pending_moved ++ enables_moved

-- Both numbers are taken.
abbrev pub numbers_taken : List AnyStep
numbers_taken = TakeNumber Threshold ∷ TakeNumber Delivery ∷ []

-- ---- plans that break one rule

-- Plans that break the rule on routes.
abbrev pub break_routes : List (List AnyStep)
break_routes =
    -- the fence is left out
    (Route 0 ∷ pending_moved ++ enables_moved)
    -- it stands after the take: a store in flight lands there
    ∷ (Route 0 ∷ Take Pending 0 ∷ Fence 0 ∷ Join Pending 0 ∷ enables_moved)
    -- the producer is forgotten
    ∷ (pending_moved ++ enables_moved)
    -- the pending word is forgotten
    ∷ (lead ++ enables_moved)
    -- a route that has a fence is switched: what is in flight is not waited for
    ∷ (Switch 0 ∷ pending_moved ++ enables_moved)
    -- a producer is resumed before its route is in force
    ∷ (Pause 0 ∷ Route 0 ∷ pending_moved ++ enables_moved ++ Resume 0 ∷ Fence 0 ∷ [])
    -- it is paused before its route is written, and never led
    ∷ (Pause 0 ∷ pending_moved ++ enables_moved) ∷ []

-- Plans that break the rule on words.
abbrev pub break_words : List (List AnyStep)
break_words =
    -- the new word is zeroed after it was joined
    (all_moved ++ Zero New Enabled 0 ∷ [])
    -- it is zeroed once the route leads there
    ∷ (Route 0 ∷ Zero New Pending 0 ∷ Fence 0 ∷ pending_moved ++ enables_moved)
    -- the old word is zeroed before it is taken
    ∷ (lead ++ Zero Old Pending 0 ∷ pending_moved ++ enables_moved)
    -- it is taken while it is in the hand
    ∷ (lead ++ Take Pending 0 ∷ pending_moved ++ enables_moved)
    -- it is put once the route leads there
    ∷ (lead ++ Take Pending 0 ∷ Put Pending 0 ∷ enables_moved)
    -- it is put once a producer that is led there is resumed
    ∷ (Pause 0 ∷ Switch 0 ∷ Take Pending 0 ∷ Resume 0 ∷ Put Pending 0 ∷ enables_moved)
    -- it is put over what was moved
    ∷ (all_moved ++ Put Enabled 0 ∷ [])
    -- it stays in the hand
    ∷ (lead ++ Take Pending 0 ∷ enables_moved)
    -- the enables are forgotten
    ∷ (lead ++ pending_moved) ∷ []

-- A plan that breaks the rule on blank words.
abbrev pub break_blank : List (List AnyStep)
break_blank =
    -- a word is joined to what was left over
    (Zero New Enabled 0 ∷ all_moved) ∷ []

-- Plans that break the rule on numbers, with numbers that move.
abbrev pub break_numbers : List (List AnyStep)
break_numbers =
    -- a number is put before it is taken
    (all_moved ++ PutNumber Threshold ∷ numbers_taken ++ PutNumber Delivery ∷ [])
    -- it is taken again while it is in the hand
    ∷ (all_moved ++ TakeNumber Threshold ∷ numbers_taken ++ put_numbers)
    -- it is zeroed where it has come to
    ∷ (all_moved ++ numbers_taken ++ put_numbers ++ ZeroNumber New Threshold ∷ [])
    -- it is zeroed before it is taken
    ∷ (all_moved ++ ZeroNumber Old Threshold ∷ numbers_taken ++ put_numbers)
    -- it is forgotten
    ∷ (all_moved ++ TakeNumber Delivery ∷ PutNumber Delivery ∷ []) ∷ []

-- Plans that break the rule on freeing.
abbrev pub break_freeing : List (List AnyStep)
break_freeing =
    -- a word is taken from what was given back
    (lead ++ pending_moved ++ Free ∷ enables_moved)
    -- a word of it is zeroed
    ∷ (all_moved ++ Free ∷ Zero Old Pending 0 ∷ []) ∷ []

-- Plans that break it with numbers that move.
abbrev pub break_freeing_with_numbers : List (List AnyStep)
break_freeing_with_numbers =
    -- a number is taken from it
    (all_moved ++ TakeNumber Threshold ∷ Free ∷ TakeNumber Delivery ∷ put_numbers)
    -- a number of it is zeroed
    ∷ (all_moved ++ numbers_taken ++ put_numbers ++ Free ∷ ZeroNumber Old Threshold ∷ []) ∷ []

-- The old place is given back before a fence.
abbrev pub freed_early : List AnyStep
freed_early = Route 0 ∷ Fence 0 ∷ Route 1 ∷ Free ∷ Fence 1 ∷ []

-- A producer is resumed after that, before it is led.
abbrev pub resumed_early : List AnyStep
resumed_early =
    Route 1 ∷ Fence 1 ∷ Pause 0 ∷ Free ∷ Resume 0 ∷ Route 0 ∷ Fence 0 ∷ []

-- ---- plans with a pause that break no rule

-- All is moved while the producer is paused, and it is led after that.
abbrev pub moved_in_pause : List AnyStep
moved_in_pause = Pause 0 ∷ pending_moved ++ enables_moved ++ lead ++ Resume 0 ∷ []

-- It is switched while it is paused, so that no fence is needed, and left so.
abbrev pub switched_in_pause : List AnyStep
switched_in_pause = Pause 0 ∷ Switch 0 ∷ pending_moved ++ enables_moved

-- It is paused once it is switched, which waits as a fence does.
abbrev pub paused_behind : List AnyStep
paused_behind = Switch 0 ∷ Pause 0 ∷ pending_moved ++ enables_moved ++ Resume 0 ∷ []

-- The pending word is put while it is paused.
abbrev pub put_in_pause : List AnyStep
put_in_pause =
    Pause 0 ∷ Switch 0 ∷ Take Pending 0 ∷ Put Pending 0 ∷ Resume 0 ∷ enables_moved

-- The old place is given back while one is paused that leads there still.
abbrev pub freed_in_pause : List AnyStep
freed_in_pause =
    Route 1 ∷ Fence 1 ∷ Pause 0 ∷ Free ∷ Route 0 ∷ Fence 0 ∷ Resume 0 ∷ []

-- ---- plans that leave the host untold

-- It looks before the enables are there.
abbrev pub looked_early : List AnyStep
looked_early = lead ++ pending_moved ++ Look 0 ∷ enables_moved ++ Post ∷ []

-- It looks before the pending words are there.
abbrev pub looked_first : List AnyStep
looked_first = lead ++ enables_moved ++ Look 0 ∷ pending_moved ++ Post ∷ []

-- It posts before it looks.
abbrev pub posted_first : List AnyStep
posted_first = all_moved ++ Post ∷ Look 0 ∷ []

-- It tells before the enables are there.
abbrev pub told_early : List AnyStep
told_early = lead ++ pending_moved ++ Tell ∷ enables_moved

-- It tells before delivery is there, which the tell heeds.
abbrev pub told_shut : List AnyStep
told_shut =
    all_moved ++ numbers_taken ++ PutNumber Threshold ∷ Tell ∷ PutNumber Delivery ∷ []

-- It looks at all once all is there, and posts.
abbrev pub looked_last : List AnyStep
looked_last = all_moved ++ Look 0 ∷ Post ∷ []

-- It looks so too, and then writes where notices go.
abbrev pub written_late : List AnyStep
written_late = all_moved ++ Look 0 ∷ WriteNotice ∷ Post ∷ []

-- It writes it once it has told.
abbrev pub written_last : List AnyStep
written_last = all_moved ++ Tell ∷ WriteNotice ∷ []

-- It writes it before it looks.
abbrev pub written_first : List AnyStep
written_first = all_moved ++ WriteNotice ∷ Look 0 ∷ Post ∷ []

-- It zeroes delivery after the tell, and puts it again.
abbrev pub shut_again : List AnyStep
shut_again =
    all_moved ++ numbers_taken ++ put_numbers
    ++ Tell ∷ ZeroNumber New Delivery ∷ PutNumber Delivery ∷ []

-- A word of both sets is copied and joined.
abbrev pub copied : List AnyStep
copied = Copy Pending 0 ∷ Join Pending 0 ∷ Copy Enabled 0 ∷ Join Enabled 0 ∷ []

-- The old word of both sets is zeroed.
abbrev pub old_zeroed : List AnyStep
old_zeroed = Zero Old Pending 0 ∷ Zero Old Enabled 0 ∷ []

-- It tells of copies once they are joined, before the old word is zeroed.
abbrev pub told_of_copies : List AnyStep
told_of_copies = lead ++ copied ++ Tell ∷ old_zeroed

-- It tells so too, zeroes the new enables after that, and copies them again.
abbrev pub copied_again : List AnyStep
copied_again =
    lead ++ copied
    ++ Tell ∷ Zero New Enabled 0 ∷ Copy Enabled 0 ∷ Join Enabled 0 ∷ old_zeroed

-- It looks and posts once all is there, and takes back what was told then.
abbrev pub taken_back : List AnyStep
taken_back = all_moved ++ Look 0 ∷ Post ∷ Untell ∷ []

-- It takes that back before it looks.
abbrev pub taken_back_first : List AnyStep
taken_back_first = all_moved ++ Untell ∷ Look 0 ∷ Post ∷ []

-- It takes that back while the producer is paused, from before the look on.
abbrev pub taken_back_in_pause : List AnyStep
taken_back_in_pause = all_moved ++ Pause 0 ∷ Look 0 ∷ Post ∷ Untell ∷ Resume 0 ∷ []

-- To memory, and nobody stores.
abbrev pub unstored : Setting
unstored = record to_memory { producers = [] }

-- Where nobody stores, it looks and posts, and takes back what was told unless it saw something.
abbrev pub only_looked : List AnyStep
only_looked = pending_moved ++ enables_moved ++ Look 0 ∷ Post ∷ Untell ∷ []

-- It does not post what it saw.
abbrev pub unposted : List AnyStep
unposted = pending_moved ++ enables_moved ++ Look 0 ∷ Untell ∷ []

-- ---- where the rule on notices asks for more

-- Delivery is heeded, is put in the new place, and is zeroed there in the end: so nothing stands
-- out, and nobody has to be told.
abbrev pub shut_in_the_end : List AnyStep
shut_in_the_end =
    all_moved ++ numbers_taken ++ put_numbers ++ Tell ∷ ZeroNumber New Delivery ∷ []

-- ---- edits of KVM's plans, of one word

-- The old file is read before the G stage is fenced.
abbrev pub kvm_read_early : List AnyStep
kvm_read_early =
    zeroed 1 ++ Route 1 ∷ Take Pending 0 ∷ Fence 1 ∷ Switch 0
    ∷ TakeNumber Delivery ∷ TakeNumber Threshold ∷ Take Enabled 0 ∷ Free ∷ joined 1 ++ put_numbers

-- The new file is zeroed once the G stage leads there.
abbrev pub kvm_zeroed_late : List AnyStep
kvm_zeroed_late =
    ZeroNumber New Delivery ∷ ZeroNumber New Threshold ∷ Route 1 ∷ Zero New Pending 0
    ∷ Zero New Enabled 0 ∷ Fence 1 ∷ Switch 0 ∷ swapped 1 ++ Free ∷ joined 1 ++ put_numbers

-- A pending word is put, where it has to be joined.
abbrev pub kvm_put_over : List AnyStep
kvm_put_over =
    Switch 0 ∷ Route 1 ∷ Fence 1 ∷ swapped 1 ++ PutNumber Delivery ∷ PutNumber Threshold
    ∷ Put Pending 0 ∷ Join Enabled 0 ∷ Tell ∷ Free ∷ []

-- The host is told before the enables are there.
abbrev pub kvm_told_early : List AnyStep
kvm_told_early =
    Switch 0 ∷ Route 1 ∷ Fence 1 ∷ swapped 1 ++ PutNumber Delivery ∷ PutNumber Threshold
    ∷ Join Pending 0 ∷ Tell ∷ Join Enabled 0 ∷ Free ∷ []
