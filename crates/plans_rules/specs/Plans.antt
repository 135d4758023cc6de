-- Plans of a hypervisor: those of Linux KVM. Producer 0 is the host's injectors, producer 1 the
-- other virtual harts, and producer 2 the devices behind an entry of an IOMMU, if there are any.
-- Profile.
use Rattle.std.specs.Prelude.{ℕ, zero, suc, true, false, List, [], ◌∷◌, ◌++◌}
use Rattle.plans_rules.specs.declared.step.AnyPlace.TheVariants.{New}
use Rattle.plans_rules.specs.declared.step.WhichSet.TheVariants.{Pending, Enabled}
use Rattle.plans_rules.specs.declared.step.Number.TheVariants.{Threshold, Delivery}
use Rattle.plans_rules.specs.declared.setting.NumberSpot.TheVariants.{InOld, InNew}
use Rattle.plans_rules.specs.declared.setting.RouteKind.{RouteKind}
use Rattle.plans_rules.specs.declared.setting.RouteKind.TheVariants.{Routed, Switched}
use Rattle.plans_rules.specs.declared.step.AnyStep.{AnyStep}
use Rattle.plans_rules.specs.declared.step.AnyStep.TheVariants.{Route, Fence, Switch, Zero, Take, Join, ZeroNumber, TakeNumber, PutNumber, Tell, Free}
use Rattle.plans_rules.specs.Setting.{Setting}

-- The steps of so many words from word w on.
abbrev pub each : (ℕ → List AnyStep) → ℕ → ℕ → List AnyStep
each steps w zero = []
each steps w (suc count) = steps w ++ each steps (suc w) count

-- The host's injectors, which are switched, and the other virtual harts.
abbrev pub kvm_producers : List RouteKind
kvm_producers = Switched ∷ Routed ∷ []

-- The same with the devices behind an entry.
abbrev pub with_devices : List RouteKind
with_devices = Switched ∷ Routed ∷ Routed ∷ []

-- The new file is zeroed.
abbrev pub zeroed : ℕ → List AnyStep
zeroed words =
    ZeroNumber New Delivery ∷ ZeroNumber New Threshold
    ∷ each (λ w. Zero New Pending w ∷ Zero New Enabled w ∷ []) 0 words

-- The old file is swapped with 0, word by word.
abbrev pub swapped : ℕ → List AnyStep
swapped words =
    TakeNumber Delivery ∷ TakeNumber Threshold
    ∷ each (λ w. Take Pending w ∷ Take Enabled w ∷ []) 0 words

-- What was taken is joined to the new place, word by word.
abbrev pub joined : ℕ → List AnyStep
joined words = each (λ w. Join Pending w ∷ Join Enabled w ∷ []) 0 words

-- Both numbers are put in the new place.
abbrev pub put_numbers : List AnyStep
put_numbers = PutNumber Threshold ∷ PutNumber Delivery ∷ []

-- The copy in memory is read and zeroed: the pending words, then the enables, then the numbers.
abbrev pub copied : ℕ → List AnyStep
copied words =
    each (λ w. Take Pending w ∷ []) 0 words ++ each (λ w. Take Enabled w ∷ []) 0 words
    ++ TakeNumber Threshold ∷ TakeNumber Delivery ∷ []

-- The plan of an arrival, given what is done for the devices behind an entry.
abbrev pub kvm_arrive_with : List AnyStep → ℕ → List AnyStep
kvm_arrive_with devices words =
    zeroed words ++ (Route 1 ∷ Fence 1 ∷ Switch 0 ∷ devices) ++ copied words ++ joined words
    ++ put_numbers

-- The plan of a shift, given the same.
abbrev pub kvm_shift_with : List AnyStep → ℕ → List AnyStep
kvm_shift_with devices words =
    zeroed words ++ (Route 1 ∷ Fence 1 ∷ Switch 0 ∷ devices) ++ swapped words ++ Free ∷ joined words
    ++ put_numbers

-- The plan of a leave, given the same.
abbrev pub kvm_leave_with : List AnyStep → ℕ → List AnyStep
kvm_leave_with devices words =
    (Switch 0 ∷ Route 1 ∷ Fence 1 ∷ devices) ++ swapped words
    ++ PutNumber Delivery ∷ PutNumber Threshold ∷ joined words ++ Tell ∷ Free ∷ []

-- As these plans stand, nothing is done for such devices.
abbrev pub kvm_arrive : ℕ → List AnyStep
kvm_arrive words = kvm_arrive_with [] words

abbrev pub kvm_shift : ℕ → List AnyStep
kvm_shift words = kvm_shift_with [] words

abbrev pub kvm_leave : ℕ → List AnyStep
kvm_leave words = kvm_leave_with [] words

-- The entry is written and put in force.
abbrev pub entry_led : List AnyStep
entry_led = Route 2 ∷ Fence 2 ∷ []

-- What is declared for an arrival and for a shift, with these producers.
abbrev pub kvm_moves : List RouteKind → ℕ → Setting
kvm_moves producers words = record {
  producers = producers;
  words = words;
  is_fresh = false;
  in_memory = false;
  heeds = false;
  notices_go = true;
  is_inherited = false;
  number_from = InOld;
  number_to = InNew;
}

-- What is declared for a leave.
abbrev pub kvm_leaves : List RouteKind → ℕ → Setting
kvm_leaves producers words = record {
  producers = producers;
  words = words;
  is_fresh = true;
  in_memory = true;
  heeds = true;
  notices_go = true;
  is_inherited = false;
  number_from = InOld;
  number_to = InNew;
}
