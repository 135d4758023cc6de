-- What the author of a plan declares beside its steps. Profile.
use Rattle.std.specs.Prelude.{ℕ, zero, suc, Bool, true, false, ◌&&◌, nat_eq, List}
use Rattle.plans_rules.specs.declared.step.AnyPlace.{AnyPlace}
use Rattle.plans_rules.specs.declared.step.AnyPlace.TheVariants.{Old, New}
use Rattle.plans_rules.specs.declared.step.WhichSet.{WhichSet}
use Rattle.plans_rules.specs.declared.step.WhichSet.TheVariants.{Pending, Enabled}
use Rattle.plans_rules.specs.declared.step.Number.{Number}
use Rattle.plans_rules.specs.declared.step.Number.TheVariants.{Threshold, Delivery}
use Rattle.plans_rules.specs.declared.setting.NumberSpot.{NumberSpot}
use Rattle.plans_rules.specs.declared.setting.NumberSpot.TheVariants.{InOld, InHand, InNew}
use Rattle.plans_rules.specs.declared.setting.RouteKind.{RouteKind}
use Rattle.plans_rules.specs.declared.setting.Terms.{Terms}

-- Who stores into the file that is moved, and what its two places are.
pub record Setting : Type 0 where
  -- each producer's kind; producer p is the p-th, from 0 on
  pub producers : List RouteKind
  -- how many words of 64 identities each set has
  pub words : ℕ
  -- whether the new place is known to hold nothing at the start
  pub is_fresh : Bool
  -- whether the new place is memory, so that its host has to be told of what comes there
  pub in_memory : Bool
  -- whether a notice there heeds delivery and threshold
  pub heeds : Bool
  -- whether the notices of the new place go to the host from the start on
  pub notices_go : Bool
  -- whether the next owner of the old place takes its numbers over as they are
  pub is_inherited : Bool
  -- where threshold and delivery are at the start, and where they have to be at the end
  pub number_from : NumberSpot
  pub number_to : NumberSpot

-- The setting of these producers and these terms.
abbrev pub setting_of : List RouteKind → Terms → Setting
setting_of producers terms = record {
  producers = producers;
  words = terms.words;
  is_fresh = terms.is_fresh;
  in_memory = terms.in_memory;
  heeds = terms.heeds;
  notices_go = terms.notices_go;
  is_inherited = terms.is_inherited;
  number_from = terms.number_from;
  number_to = terms.number_to;
}

-- ---- which one it is

-- Whether a place is the old one.
abbrev pub is_old : AnyPlace → Bool
is_old Old = true
is_old New = false

-- Whether a set is that of the pending bits.
abbrev pub is_pending : WhichSet → Bool
is_pending Pending = true
is_pending Enabled = false

-- Whether two sets are the same.
abbrev pub same_bank : WhichSet → WhichSet → Bool
same_bank Pending Pending = true
same_bank Enabled Enabled = true
same_bank s t = false

-- Whether two numbers are the same.
abbrev pub same_number : Number → Number → Bool
same_number Threshold Threshold = true
same_number Delivery Delivery = true
same_number n m = false

-- Whether two spots are the same.
abbrev pub same_spot : NumberSpot → NumberSpot → Bool
same_spot InOld InOld = true
same_spot InHand InHand = true
same_spot InNew InNew = true
same_spot spot other = false

-- Whether word v of set t is word w of set s.
abbrev pub names : WhichSet → ℕ → WhichSet → ℕ → Bool
names s w t v = same_bank s t && nat_eq w v

-- Whether all numbers below one pass; whether any does.
abbrev pub all_below : (ℕ → Bool) → ℕ → Bool
all_below passes zero = true
all_below passes (suc count) = passes count && all_below passes count

abbrev pub any_below : (ℕ → Bool) → ℕ → Bool
any_below passes zero = false
any_below passes (suc count) = elim (passes count) [ true ↦ true | false ↦ any_below passes count ]
