-- A source at a level mode, in a domain that delivers directly.
use Rattle.std.proofs.Common.{◌≡◌, ◌≢◌, Bool, true, false, cond, Option, Some, None, refl}
use Rattle.aia_regs.specs.BitUpdate.{settle}
use Rattle.aia_source.specs.declared.mode.Mode.{Mode}
use Rattle.aia_source.specs.declared.mode.Mode.TheVariants.{Inactive, Detached, RisingEdge, FallingEdge, LevelHigh, LevelLow}
use Rattle.aia_source.specs.declared.touch.Touch.{Touch}
use Rattle.aia_source.specs.declared.touch.Touch.TheVariants.{SetPending, ClearPending, SetEnable, ClearEnable}
use Rattle.aia_source.specs.Registers.{deed_of_touch}
use Rattle.aia_source.specs.Wired.{SourceDeed, is_level, rectified, level_says, says}
use Rattle.aia_source.specs.Wired.SourceDeed.{LevelGiven, Set, Cleared, Claimed, Forwarded, Configured, Switched, Untouched}

-- ---- what each deed makes of the pending bit of a source at a level mode

unheard_level : (r was : Bool) (t : Option Touch) → was ≡ r → settle (level_says false r r (deed_of_touch t)) was ≡ r
unheard_level r was None same = same
unheard_level r was (Some SetPending) same = same
unheard_level r was (Some ClearPending) same = same
unheard_level r was (Some SetEnable) same = same
unheard_level r was (Some ClearEnable) same = same

-- a register: it is not heard, and nor is what touches nothing
pub unheard : (m : Mode) (msi r was : Bool) (t : Option Touch) → is_level m ≡ true → msi ≡ false → was ≡ r
    → settle (says m msi r r (deed_of_touch t)) was ≡ r
unheard Inactive msi r was t l e same = cc
unheard Detached msi r was t l e same = cc
unheard RisingEdge msi r was t l e same = cc
unheard FallingEdge msi r was t l e same = cc
unheard LevelHigh true r was t l e same = cc
unheard LevelHigh false r was t l e same = unheard_level r was t same
unheard LevelLow true r was t l e same = cc
unheard LevelLow false r was t l e same = unheard_level r was t same

-- its wire
pub followed : (m : Mode) (msi before r was : Bool) → is_level m ≡ true → was ≡ before → settle (says m msi before r LevelGiven) was ≡ r
followed Inactive msi before r was l same = cc
followed Detached msi before r was l same = cc
followed RisingEdge msi before r was l same = cc
followed FallingEdge msi before r was l same = cc
followed LevelHigh msi true true was l same = same
followed LevelHigh msi true false was l same = refl
followed LevelHigh msi false true was l same = refl
followed LevelHigh msi false false was l same = same
followed LevelLow msi true true was l same = same
followed LevelLow msi true false was l same = refl
followed LevelLow msi false true was l same = refl
followed LevelLow msi false false was l same = same

-- its sourcecfg
pub begun : (m : Mode) (msi before r was : Bool) → is_level m ≡ true → settle (says m msi before r Configured) was ≡ r
begun Inactive msi before r was l = cc
begun Detached msi before r was l = cc
begun RisingEdge msi before r was l = cc
begun FallingEdge msi before r was l = cc
begun LevelHigh msi before true was l = refl
begun LevelHigh msi before false was l = refl
begun LevelLow msi before true was l = refl
begun LevelLow msi before false was l = refl

-- the delivery mode
pub changed : (m : Mode) (msi before r was : Bool) → is_level m ≡ true → settle (says m msi before r Switched) was ≡ r
changed Inactive msi before r was l = cc
changed Detached msi before r was l = cc
changed RisingEdge msi before r was l = cc
changed FallingEdge msi before r was l = cc
changed LevelHigh msi before true was l = refl
changed LevelHigh msi before false was l = refl
changed LevelLow msi before true was l = refl
changed LevelLow msi before false was l = refl

-- a claim
pub claimed : (m : Mode) (msi r was b : Bool) → is_level m ≡ true → msi ≡ false → was ≡ r → settle (says m msi r r (cond b Claimed Untouched)) was ≡ r
claimed Inactive msi r was b l e same = cc
claimed Detached msi r was b l e same = cc
claimed RisingEdge msi r was b l e same = cc
claimed FallingEdge msi r was b l e same = cc
claimed LevelHigh msi r was true l e same = same
claimed LevelHigh msi r was false l e same = same
claimed LevelLow msi r was true l e same = same
claimed LevelLow msi r was false l e same = same

-- ---- each deed but the sending of an MSI leaves the law

pub level_follows : (mode : Mode) (was wire pending : Bool) → (is_level mode ≡ true → pending ≡ rectified mode was) → is_level mode ≡ true
    → settle (says mode false (rectified mode was) (rectified mode wire) LevelGiven) pending ≡ rectified mode wire
level_follows mode was wire pending lawful level = followed mode false (rectified mode was) (rectified mode wire) pending level (lawful level)

pub level_stays : (mode : Mode) (wire pending : Bool) (deed : SourceDeed) → deed ≢ Forwarded
    → (is_level mode ≡ true → pending ≡ rectified mode wire) → is_level mode ≡ true
    → settle (says mode false (rectified mode wire) (rectified mode wire) deed) pending ≡ rectified mode wire
level_stays mode wire pending LevelGiven other lawful level =
    followed mode false (rectified mode wire) (rectified mode wire) pending level (lawful level)
level_stays mode wire pending Set other lawful level = unheard mode false (rectified mode wire) pending (Some SetPending) level refl (lawful level)
level_stays mode wire pending Cleared other lawful level =
    unheard mode false (rectified mode wire) pending (Some ClearPending) level refl (lawful level)
level_stays mode wire pending Claimed other lawful level = claimed mode false (rectified mode wire) pending true level refl (lawful level)
level_stays mode wire pending Forwarded other lawful level = absurd (other refl)
level_stays mode wire pending Configured other lawful level = begun mode false (rectified mode wire) (rectified mode wire) pending level
level_stays mode wire pending Switched other lawful level = changed mode false (rectified mode wire) (rectified mode wire) pending level
level_stays mode wire pending Untouched other lawful level = unheard mode false (rectified mode wire) pending None level refl (lawful level)
