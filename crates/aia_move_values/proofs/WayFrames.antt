-- What a change of the world leaves of the ways by which stores come, and that a plan knows them
-- then as before.
use Rattle.std.proofs.Common.{◌≡◌, ℕ, zero, suc, ◌+◌, ◌<◌, Bool, true, List, [], ◌∷◌, ◌++◌, length, get_or, Option, Some, None, ◌⊎◌, inl, inr, refl, sym, ap, ◌∙◌, arith}
use Rattle.std.specs.Prelude.{remove, slice_get, slice_set, slice_index_or}
use Rattle.std.proofs.lemmas.Bool.{cases_eq, cases_lt}
use Rattle.std.proofs.lemmas.List.{get_or-set_same, get_or-set_other, set_past}
use Rattle.aia_regs.specs.declared.limits.TheConstants.{VCPUS}
use Rattle.aia_file.specs.InterruptFile.{InterruptFile}
use Rattle.aia_file.specs.declared.spot.Spot.{Spot}
use Rattle.aia_file.specs.declared.spot.Spot.TheVariants.{MachineFile, SupervisorFile, GuestFile, Nowhere}
use Rattle.aia_file.specs.declared.stored.Stored.{Stored}
use Rattle.aia_file.specs.declared.stored.Stored.TheVariants.{Discarded, Quiet, Notice}
use Rattle.aia_entry.specs.declared.entry.Entry.{Entry}
use Rattle.aia_entry.specs.declared.entry.Entry.TheVariants.{Basic, Mrif, NotValid, Custom, Misconfigured}
use Rattle.aia_entry.specs.declared.table.Route.{Route}
use Rattle.aia_entry.specs.declared.table.Route.TheVariants.{Other, Fault, To}
use Rattle.aia_entry.specs.Format.{decoded}
use Rattle.aia_entry.specs.Tables.{table_of, entry_in_force}
use Rattle.aia_vcpu.specs.declared.place.GuestPlace.{GuestPlace}
use Rattle.aia_vcpu.specs.Vms.{Vcpu, is_vcpu_in, slot_of, notice_identity, notice_hart}
use Rattle.aia_fabric_values.specs.declared.flying.Flying.{Flying}
use Rattle.aia_fabric_values.specs.declared.stage.Stage.{Stage}
use Rattle.aia_fabric_values.specs.World.{World, OnlyStores, flight_of, stage_of}
use Rattle.aia_fabric_values.specs.Whole.{IsWhole}
use Rattle.aia_fabric_values.specs.Making.{entry_word_place}
use Rattle.aia_fabric_values.specs.Flights.{with_flight}
use Rattle.aia_regs.specs.declared.limits.TheConstants.{IDENTITIES}
use Rattle.aia_regs.specs.Request.{requested}
use Rattle.aia_file.specs.Mrif.{mrif_in, stored}
use Rattle.aia_fabric_values.specs.Stores.{StoresInGuestFile, NoticedAt, NoticedBy, StoresInSlot, Reaches, ReachesBy, ReachesByRecord, with_store, page_spot, slot_at, named_spot}
use Rattle.aia_fabric_values.proofs.PlaceLemmas.{slot_begins}
use Rattle.aia_move_values.specs.Move.{Moving}
use Rattle.aia_move_values.specs.Touches.{SameMachine}
use Rattle.aia_move_values.specs.PlanState.{PlanState, moving_of}
use Rattle.aia_move_values.specs.Targets.{TargetMap}
use Rattle.aia_move_values.specs.Ways.{led_by_entry, led_by_record, entry_of, written_of, leads_here, IsItsFlight, KnowsWays, KnowsTargets, KnowsAll}
use Rattle.aia_move_values.proofs.KnowsLemmas.{KnowsPlaces, InPhase, of_plan, to_plan}
use Rattle.aia_move_values.proofs.StoreViews.{entry_words_kept}
use Rattle.aia_move_values.proofs.ViewLemmas.{slot_low}
use Rattle.aia_move_values.proofs.WayLemmas.{led_same, recorded_same}

-- ---- a way is as it was

-- the machine, and the routes of a virtual hart
pub record KeepsRoutes (w u : World) (g : Vcpu) : Type 0 where
  pub entry : entry_of u g ≡ entry_of w g
  pub written : written_of u g ≡ written_of w g
  pub stage : stage_of u g ≡ stage_of w g

module _ (w u : World) (m : Moving) (same : SameMachine w u) where
  entry_here : (e : Entry) → leads_here m (led_by_entry u e) ≡ true → leads_here m (led_by_entry w e) ≡ true
  entry_here e here = ap (leads_here m) (sym (led_same w u same e)) ∙ here

  record_here : (g : Vcpu) (place : Option GuestPlace) → leads_here m (led_by_record u g place) ≡ true
      → leads_here m (led_by_record w g place) ≡ true
  record_here g place here = ap (leads_here m) (sym (recorded_same w u same g place)) ∙ here

  there_before : (g : Vcpu) → is_vcpu_in u.vms g ≡ true → is_vcpu_in w.vms g ≡ true
  there_before g there = ap (λ vms. is_vcpu_in vms g) (sym same.vms) ∙ there

  -- whatever became of its own routes
  pub ways_by : ((g : Vcpu) → KeepsRoutes w u g) → ((v k : ℕ) (s : Flying) → slice_get (flight_of u v) k ≡ Some s
      → leads_here m (led_by_entry w s.entry) ≡ true → IsItsFlight m v s) → KnowsWays w m → KnowsWays u m
  ways_by kept flying knows = record {
    entries = λ g here. knows.entries g (ap (λ e. leads_here m (led_by_entry w e)) (sym (kept g).entry) ∙ entry_here (entry_of u g) here);
    written = λ g there here. knows.written g (there_before g there)
        (ap (λ e. leads_here m (led_by_entry w e)) (sym (kept g).written) ∙ entry_here (written_of u g) here);
    records = λ g there here. knows.records g (there_before g there)
        (ap (λ (s : Stage). leads_here m (led_by_record w g s.in_force)) (sym (kept g).stage) ∙ record_here g (stage_of u g).in_force here);
    named = λ g there here. knows.named g (there_before g there)
        (ap (λ (s : Stage). leads_here m (led_by_record w g s.written)) (sym (kept g).stage) ∙ record_here g (stage_of u g).written here);
    flying = λ v k s is here. flying v k s is (entry_here s.entry here);
  }

-- ---- stores in flight

pub removed_was : (xs : List Flying) (k j : ℕ) (s : Flying) → slice_get (remove xs k) j ≡ Some s → (i : ℕ) × (slice_get xs i ≡ Some s)
removed_was [] zero j s e = (j, e)
removed_was [] (suc k) j s e = (j, e)
removed_was (x ∷ xs) zero j s e = (suc j, e)
removed_was (x ∷ xs) (suc k) zero s e = (0, e)
removed_was (x ∷ xs) (suc k) (suc j) s e = let was = removed_was xs k j s e in (suc was.0, was.1)

pub sent_is : (xs : List Flying) (y s : Flying) (j : ℕ) → slice_get (xs ++ y ∷ []) j ≡ Some s → ((i : ℕ) × (slice_get xs i ≡ Some s)) ⊎ (s ≡ y)
sent_is [] y s zero e = inr (let same : y ≡ s = cc in sym same)
sent_is [] y s (suc j) e = absurd (cc)
sent_is (x ∷ xs) y s zero e = inl (0, e)
sent_is (x ∷ xs) y s (suc j) e = elim (sent_is xs y s j e) [
  | inl was ↦ inl (suc was.0, was.1)
  | inr new ↦ inr new
]

-- those of a VM are other ones
pub flight_set : (flights : List (List Flying)) (vm v : ℕ) (stores : List Flying)
    → ((v ≡ vm) × (slice_index_or (slice_set flights vm stores) v [] ≡ stores))
    ⊎ (slice_index_or (slice_set flights vm stores) v [] ≡ slice_index_or flights v [])
flight_set flights vm v stores = elim (cases_eq v vm) [
  | inl same ↦ elim (cases_lt vm (length flights)) [
    | inl low ↦ inl (same, ap (λ x. slice_index_or (slice_set flights vm stores) x []) same ∙ get_or-set_same flights vm stores [] low)
    | inr past ↦ inr (ap (λ fs. slice_index_or fs v []) (set_past flights vm stores past))
  ]
  | inr other ↦ inr (get_or-set_other flights vm v stores [] other)
]

-- one is taken out, so each was there before
pub taken_was : (w : World) (vm k v j : ℕ) (s : Flying) → slice_get (flight_of (with_flight w vm (remove (flight_of w vm) k)) v) j ≡ Some s
    → (i : ℕ) × (slice_get (flight_of w v) i ≡ Some s)
taken_was w vm k v j s e = elim (flight_set w.flights vm v (remove (flight_of w vm) k)) [
  | inl here ↦ let was = removed_was (flight_of w vm) k j s (ap (λ xs. slice_get xs j) (sym here.1) ∙ e) in
      (was.0, ap (λ x. slice_get (flight_of w x) was.0) here.0 ∙ was.1)
  | inr other ↦ (j, ap (λ xs. slice_get xs j) (sym other) ∙ e)
]

-- ---- what a store leaves

pub stored_machine : (w u : World) → OnlyStores w u → SameMachine w u
stored_machine w u rest = record {
  n = ap (λ (x : World). x.n) rest;
  vms = ap (λ (x : World). x.vms) rest;
  harts = ap (λ (x : World). x.imsic.harts) rest;
  guests = ap (λ (x : World). x.imsic.guests) rest;
}

-- the words of entries
abbrev pub KeepsWords : World → World → Type 0
KeepsWords w u = (g : Vcpu) → (get_or u.memory (entry_word_place g.vm g.vcpu) 0 ≡ get_or w.memory (entry_word_place g.vm g.vcpu) 0)
    × (get_or u.memory (entry_word_place g.vm g.vcpu + 1) 0 ≡ get_or w.memory (entry_word_place g.vm g.vcpu + 1) 0)

pub words_same : (w u : World) → u.memory ≡ w.memory → KeepsWords w u
words_same w u e g = (
  ap (λ words. get_or words (entry_word_place g.vm g.vcpu) 0) e,
  ap (λ words. get_or words (entry_word_place g.vm g.vcpu + 1) 0) e,
)

pub routes_stored : (w u : World) → OnlyStores w u → KeepsWords w u → (g : Vcpu) → KeepsRoutes w u g
routes_stored w u rest words g =
    let both = words g in
    record {
      entry = ap (λ (x : World). entry_in_force (table_of x.tables g.vm) g.vcpu) rest;
      written = λ k. decoded (both.0 k) (both.1 k);
      stage = ap (λ (x : World). stage_of x g) rest;
    }

module _ (w u : World) (offset value : ℕ) (whole : IsWhole w) where
  guest_words : (spot : Spot) → StoresInGuestFile w u spot offset value → KeepsWords w u
  guest_words (GuestFile hart file) s = words_same w u (ap (λ (x : World). x.memory) s.rest)
  guest_words (MachineFile hart) same = words_same w u (ap (λ (x : World). x.memory) same)
  guest_words (SupervisorFile hart) same = words_same w u (ap (λ (x : World). x.memory) same)
  guest_words Nowhere same = words_same w u (ap (λ (x : World). x.memory) same)

  noticed_memory : (x : World) (spot : Spot) (identity : ℕ) → NoticedAt x u spot identity → u.memory ≡ x.memory
  noticed_memory x (MachineFile hart) identity p = ap (λ (y : World). y.memory) p.rest
  noticed_memory x (SupervisorFile hart) identity p = ap (λ (y : World). y.memory) p.rest
  noticed_memory x (GuestFile hart file) identity same = ap (λ (y : World). y.memory) same
  noticed_memory x Nowhere identity same = ap (λ (y : World). y.memory) same

  outcome_memory : (became : Stored) (x : World) (spot : Spot) (identity : ℕ) → NoticedBy became x u spot identity → u.memory ≡ x.memory
  outcome_memory Notice x spot identity p = noticed_memory x spot identity p
  outcome_memory Quiet x spot identity same = ap (λ (y : World). y.memory) same
  outcome_memory Discarded x spot identity same = ap (λ (y : World). y.memory) same

  slot_words : (o : Option ℕ) (spot : Spot) (identity : ℕ) → ((q : ℕ) → o ≡ Some q → q < VCPUS) → StoresInSlot w u o spot identity offset value
      → KeepsWords w u
  slot_words None spot identity low same = words_same w u (ap (λ (x : World). x.memory) same)
  slot_words (Some q) spot identity low s = λ g.
      let memory = outcome_memory (stored (mrif_in w.memory q) (requested IDENTITIES offset value)) (with_store w q offset value) spot identity s in
      let first = words_same (with_store w q offset value) u memory g in
      let then = entry_words_kept w g q offset value whole (low q refl) in
      (first.0 ∙ then.0, first.1 ∙ then.1)

  pub entry_words : (e : Entry) → ReachesBy e w u offset value → KeepsWords w u
  entry_words (Basic page) s = guest_words (page_spot w.imsic page) s
  entry_words (Mrif addr page identity) s = slot_words (slot_at addr) (page_spot w.imsic page) identity
      (λ q e. let low = (slot_begins addr q e).0 in omega (arith, low)) s
  entry_words NotValid same = words_same w u (ap (λ (x : World). x.memory) same)
  entry_words Custom same = words_same w u (ap (λ (x : World). x.memory) same)
  entry_words Misconfigured same = words_same w u (ap (λ (x : World). x.memory) same)

  pub route_words : (r : Route) → Reaches r w u offset value → KeepsWords w u
  route_words (To e) s = entry_words e s
  route_words Other same = words_same w u (ap (λ (x : World). x.memory) same)
  route_words (Fault e) same = words_same w u (ap (λ (x : World). x.memory) same)

pub record_words : (w u : World) (g : Vcpu) (place : Option GuestPlace) (value : ℕ) → IsWhole w → is_vcpu_in w.vms g ≡ true
    → ReachesByRecord place w u g value → KeepsWords w u
record_words w u g (Some p) value whole there s = guest_words w u 0 value whole (named_spot w.imsic p) s
record_words w u g None value whole there s = slot_words w u 0 value whole (Some (slot_of w.vms g)) (SupervisorFile (notice_hart w.vms g))
    (notice_identity w.vms g) (λ q e. let same : slot_of w.vms g ≡ q = cc in let low = slot_low w g whole there in omega (arith, same, low)) s

-- so a plan knows the ways after a store as before it
pub stored_ways : (w u : World) (m : Moving) → OnlyStores w u → KeepsWords w u → KnowsWays w m → KnowsWays u m
stored_ways w u m rest words knows = ways_by w u m (stored_machine w u rest) (routes_stored w u rest words)
    (λ v k s is here. knows.flying v k s (ap (λ (x : World). slice_get (flight_of x v) k) (sym rest) ∙ is) here) knows

-- ---- all that is known of a virtual hart, moved or at rest

pub record KnowsSo (Q : ℕ → Type 0) (w : World) (map : TargetMap) (m : Moving) (reach : Option GuestPlace) (file : InterruptFile) (saw : Bool)
    : Type 0 where
  pub places : KnowsPlaces Q w m reach file saw
  pub ways : KnowsWays w m
  pub targets : KnowsTargets map m

-- of a plan
pub so_of : (w : World) (map : TargetMap) (plan : PlanState) (reach : Option GuestPlace) (file : InterruptFile) (saw : Bool)
    → KnowsAll w map plan reach file saw → KnowsSo (InPhase plan) w map (moving_of plan) reach file saw
so_of w map plan reach file saw all = record { places = of_plan w plan reach file saw all.places; ways = all.ways; targets = all.targets }

pub all_of : (w : World) (map : TargetMap) (plan : PlanState) (reach : Option GuestPlace) (file : InterruptFile) (saw : Bool)
    → KnowsSo (InPhase plan) w map (moving_of plan) reach file saw → KnowsAll w map plan reach file saw
all_of w map plan reach file saw so = record { places = to_plan w plan reach file saw so.places; ways = so.ways; targets = so.targets }
