-- What holds between two steps of a plan that keeps the rule, told by the steps that are still to
-- come; and that nothing which may happen between them breaks it.
use Rattle.std.proofs.Common.{◌≡◌, ℕ, zero, suc, ◌/◌, ◌%◌, ◌<◌, Bool, true, false, ◌&&◌, ◌||◌, nat_eq, List, [], ◌∷◌, ◌++◌, Option, ◌⊎◌, inr, refl, sym, ap, ◌∙◌}
use Rattle.std.specs.Prelude.{⊤, slice_get}
use Rattle.std.specs.List.{list_any, AllByRecursion}
use Rattle.std.proofs.lemmas.Bool.{false≢true}
use Rattle.aia_plan.specs.declared.step.Step.TheVariants.{Word0, Fence, GFence, TakeP, TakeE}
use Rattle.aia_plan.specs.Plan.{WrittenPlan}
use Rattle.aia_plan.specs.Rule.{is_record, names, stands}
use Rattle.aia_plan.specs.Transit.{TransitSide, Flight, Transit, Happening, is_identity, landed, all_landed, all_but, one_landed, happened}
use Rattle.aia_plan.specs.Transit.TransitSide.{Old, New}
use Rattle.aia_plan.specs.Transit.Happening.{Does, Stores, Sends, Lands, Refetches, PeerStores}
use Rattle.aia_plan.proofs.BoolLaws.{or_together, land_law}

-- Where a route leads, given whether the step that turns it is still to come.
abbrev pub side_if : Bool → TransitSide
side_if true = Old
side_if false = New

-- Where the entry in force, or a store in flight, may lead, given whether the fence and word 0 are
-- still to come.
abbrev pub MayLead : Bool → Bool → TransitSide → Type 0
MayLead true word0 s = (s ≡ Old) ⊎ (s ≡ side_if word0)
MayLead false word0 s = s ≡ New

-- The routes, given which steps are still to come: word 0, the fence, one that writes the record,
-- the G fence.
pub record Routed (word0 fence record_step gfence : Bool) (entry_as_written entry : TransitSide) (record_as_written stage : TransitSide)
    (flying : List Flight) : Type 0 where
  pub entry_written : entry_as_written ≡ side_if word0
  pub entry_in_force : MayLead fence word0 entry
  pub record_written : record_as_written ≡ side_if record_step
  pub record_in_force : stage ≡ side_if gfence
  pub flights : AllByRecursion (λ (f : Flight). MayLead fence word0 f.side) flying
  pub order : fence ≡ false → word0 ≡ false

-- The pending identities, given the word that is carried, which words are still to be taken, and
-- whether the fences are still to come.
pub record Pended (words : ℕ) (carried : Option ℕ) (later : ℕ → Bool) (fence gfence : Bool) (due old new hand : ℕ → Bool) : Type 0 where
  pub union : (i : ℕ) → i / 64 < words → due i ≡ ((is_identity i && (old i || (names carried (i / 64) && hand (i % 64)))) || new i)
  pub drained : (i : ℕ) → i / 64 < words → later (i / 64) ≡ false → old i ≡ false
  pub late : (w : ℕ) → w < words → later w ≡ false → (fence ≡ false) × (gfence ≡ false)

-- The enables, given the word that is carried, and which words are still to be taken.
pub record Enabled (words : ℕ) (carried : Option ℕ) (later : ℕ → Bool) (first old new hand : ℕ → Bool) : Type 0 where
  pub union : (i : ℕ) → i / 64 < words → (is_identity i && first i)
      ≡ ((is_identity i && (old i || (names carried (i / 64) && hand (i % 64)))) || new i)
  pub fresh : (i : ℕ) → i / 64 < words → (names carried (i / 64) || later (i / 64)) ≡ true → new i ≡ false
  pub gone : (w : ℕ) → names carried w ≡ true → later w ≡ false
  pub drained : (i : ℕ) → i / 64 < words → later (i / 64) ≡ false → old i ≡ false

-- All of it, before the steps of `rest`; c and e are the words of the pending set and of the
-- enabled set that are carried.
pub record Between (words : ℕ) (first : ℕ → Bool) (c e : Option ℕ) (rest : WrittenPlan) (z : Transit) : Type 0 where
  pub routed : Routed (stands Word0 rest) (stands Fence rest) (list_any is_record rest) (stands GFence rest) z.entry_written z.entry_in_force
      z.record_written z.record_in_force z.flights
  pub pended : Pended words c (λ w. stands (TakeP w) rest) (stands Fence rest) (stands GFence rest) z.due z.old_pending z.new_pending
      z.carried_pending
  pub enabled : Enabled words e (λ w. stands (TakeE w) rest) first z.old_enabled z.new_enabled z.carried_enables

-- ---- a store lands

-- A store may land on a side: no word is taken from there yet.
abbrev pub MayLand : ℕ → WrittenPlan → TransitSide → Type 0
MayLand words rest s = (w : ℕ) → w < words → stands (TakeP w) rest ≡ false → s ≡ New

old_is_new : Old ≡ New → ⊥
old_is_new e = false≢true (ap is_new e)
  where
    is_new : TransitSide → Bool
    is_new Old = false
    is_new New = true

pub lands : (words : ℕ) (first : ℕ → Bool) (c e : Option ℕ) (rest : WrittenPlan) (s : TransitSide) (x : ℕ) (z : Transit) → MayLand words rest s
    → Between words first c e rest z → Between words first c e rest (landed s x z)
lands words first c e rest Old x z may v = record {
  routed = v.routed;
  pended = record {
    union = λ i inside. ap (λ d. d || (is_identity i && nat_eq x i)) (v.pended.union i inside)
        ∙ land_law (is_identity i) (z.old_pending i) (names c (i / 64) && z.carried_pending (i % 64)) (z.new_pending i) (nat_eq x i);
    drained = λ i inside taken. absurd (old_is_new (may (i / 64) inside taken));
    late = v.pended.late;
  };
  enabled = v.enabled;
}
lands words first c e rest New x z may v = record {
  routed = v.routed;
  pended = record {
    union = λ i inside. ap (λ d. d || (is_identity i && nat_eq x i)) (v.pended.union i inside)
        ∙ or_together (is_identity i && (z.old_pending i || (names c (i / 64) && z.carried_pending (i % 64)))) (z.new_pending i)
        (is_identity i && nat_eq x i);
    drained = v.pended.drained;
    late = v.pended.late;
  };
  enabled = v.enabled;
}

-- what may lead somewhere may land there
led_new : (fence word0 : Bool) (s : TransitSide) → MayLead fence word0 s → fence ≡ false → s ≡ New
led_new true word0 s led none = absurd (false≢true (sym none))
led_new false word0 s led none = led

pub may_land : (words : ℕ) (first : ℕ → Bool) (c e : Option ℕ) (rest : WrittenPlan) (s : TransitSide) (z : Transit)
    → MayLead (stands Fence rest) (stands Word0 rest) s → Between words first c e rest z → MayLand words rest s
may_land words first c e rest s z led v = λ w inside taken. led_new (stands Fence rest) (stands Word0 rest) s led (v.pended.late w inside taken).0

peers_may_land : (words : ℕ) (first : ℕ → Bool) (c e : Option ℕ) (rest : WrittenPlan) (z : Transit) → Between words first c e rest z
    → MayLand words rest z.record_in_force
peers_may_land words first c e rest z v = λ w inside taken. v.routed.record_in_force ∙ ap side_if (v.pended.late w inside taken).1

-- ---- lists of stores in flight

pub all_changed : (P Q : TransitSide → Type 0) → ((s : TransitSide) → P s → Q s) → (fs : List Flight)
    → AllByRecursion (λ (f : Flight). P f.side) fs → AllByRecursion (λ (f : Flight). Q f.side) fs
all_changed P Q h [] all = tt
all_changed P Q h (f ∷ later) all = (h f.side all.0, all_changed P Q h later all.1)

all_with : (P : TransitSide → Type 0) (fs : List Flight) (f : Flight) → AllByRecursion (λ (f : Flight). P f.side) fs → P f.side
    → AllByRecursion (λ (f : Flight). P f.side) (fs ++ f ∷ [])
all_with P [] f all last = (last, tt)
all_with P (g ∷ later) f all last = (all.0, all_with P later f all.1 last)

all_without : (P : TransitSide → Type 0) (k : ℕ) (fs : List Flight) → AllByRecursion (λ (f : Flight). P f.side) fs
    → AllByRecursion (λ (f : Flight). P f.side) (all_but k fs)
all_without P k [] all = tt
all_without P zero (f ∷ later) all = all.1
all_without P (suc k) (f ∷ later) all = (all.0, all_without P k later all.1)

pub all_land : (words : ℕ) (first : ℕ → Bool) (c e : Option ℕ) (rest : WrittenPlan) (fs : List Flight) (z : Transit)
    → AllByRecursion (λ (f : Flight). MayLand words rest f.side) fs → Between words first c e rest z → Between words first c e rest (all_landed fs z)
all_land words first c e rest [] z all v = v
all_land words first c e rest (f ∷ later) z all v =
    all_land words first c e rest later (landed f.side f.identity z) all.1 (lands words first c e rest f.side f.identity z all.0 v)

one_lands : (words : ℕ) (first : ℕ → Bool) (c e : Option ℕ) (rest : WrittenPlan) (k : ℕ) (fs : List Flight) (z : Transit)
    → AllByRecursion (λ (f : Flight). MayLand words rest f.side) fs → Between words first c e rest z
    → Between words first c e rest (one_landed (slice_get fs k) z)
one_lands words first c e rest k [] z all v = v
one_lands words first c e rest zero (f ∷ later) z all v = lands words first c e rest f.side f.identity z all.0 v
one_lands words first c e rest (suc k) (f ∷ later) z all v = one_lands words first c e rest k later z all.1 v

-- each store in flight may land
pub flights_may_land : (words : ℕ) (first : ℕ → Bool) (c e : Option ℕ) (rest : WrittenPlan) (z : Transit) → Between words first c e rest z
    → AllByRecursion (λ (f : Flight). MayLand words rest f.side) z.flights
flights_may_land words first c e rest z v = all_changed (MayLead (stands Fence rest) (stands Word0 rest)) (MayLand words rest)
    (λ s led. may_land words first c e rest s z led v) z.flights v.routed.flights

-- other stores in flight, that may lead where they do
reflown : (words : ℕ) (first : ℕ → Bool) (c e : Option ℕ) (rest : WrittenPlan) (fs : List Flight) (z : Transit)
    → AllByRecursion (λ (f : Flight). MayLead (stands Fence rest) (stands Word0 rest) f.side) fs → Between words first c e rest z
    → Between words first c e rest (record z { flights = fs })
reflown words first c e rest fs z all v = record {
  routed = record {
    entry_written = v.routed.entry_written;
    entry_in_force = v.routed.entry_in_force;
    record_written = v.routed.record_written;
    record_in_force = v.routed.record_in_force;
    flights = all;
    order = v.routed.order;
  };
  pended = v.pended;
  enabled = v.enabled;
}

refetched : (fence word0 : Bool) (s : TransitSide) → s ≡ side_if word0 → (fence ≡ false → word0 ≡ false) → MayLead fence word0 s
refetched true word0 s e order = inr e
refetched false word0 s e order = e ∙ ap side_if (order refl)

-- ---- what happens between two steps

abbrev pub IsNoStep : Happening → Type 0
IsNoStep (Does step) = ⊥
IsNoStep x = ⊤

pub kept : (words : ℕ) (first : ℕ → Bool) (c e : Option ℕ) (rest : WrittenPlan) (x : Happening) (z : Transit) → IsNoStep x
    → Between words first c e rest z → Between words first c e rest (happened x z)
kept words first c e rest (Does step) z none v = absurd none
kept words first c e rest (Stores x) z none v =
    lands words first c e rest z.entry_in_force x z (may_land words first c e rest z.entry_in_force z v.routed.entry_in_force v) v
kept words first c e rest (PeerStores x) z none v = lands words first c e rest z.record_in_force x z (peers_may_land words first c e rest z v) v
kept words first c e rest (Sends x) z none v =
    reflown words first c e rest _ z (all_with (MayLead (stands Fence rest) (stands Word0 rest)) z.flights _ v.routed.flights
    v.routed.entry_in_force) v
kept words first c e rest (Lands k) z none v =
    reflown words first c e rest _ (one_landed (slice_get z.flights k) z)
    (all_without (MayLead (stands Fence rest) (stands Word0 rest)) k z.flights v.routed.flights)
    (one_lands words first c e rest k z.flights z (flights_may_land words first c e rest z v) v)
kept words first c e rest Refetches z none v = record {
  routed = record {
    entry_written = v.routed.entry_written;
    entry_in_force =
        refetched (stands Fence rest) (stands Word0 rest) z.entry_written v.routed.entry_written v.routed.order;
    record_written =
        v.routed.record_written;
    record_in_force = v.routed.record_in_force;
    flights = v.routed.flights;
    order = v.routed.order;
  };
  pended = v.pended;
  enabled = v.enabled;
}
