-- An entry that is read again, and one that is fenced, with what lands before, keep what a plan
-- knows, whosever the entry is.
use Rattle.std.proofs.Common.{◌≡◌, ◌≢◌, ℕ, zero, suc, ◌+◌, ◌/◌, ◌<◌, ◌≤◌, Bool, true, false, cond, nat_eq, List, [], ◌∷◌, ◌++◌, length, Option, Some, None, ◌⊎◌, inl, inr, refl, sym, ap, ◌∙◌, subst, arith}
use Rattle.std.specs.Prelude.{remove, slice_get}
use Rattle.std.proofs.lemmas.Bool.{cases_Bool, cases_eq, ne_eqb, false≢true}
use Rattle.std.proofs.lemmas.Bool.Decides.{nat_tests}
use Rattle.std.proofs.lemmas.List.{append_assoc, append-nil, length-append, length-set}
use Rattle.aia_regs.specs.BitUpdate.{settle, names}
use Rattle.aia_regs.specs.BitUpdate.BitUpdate.{Ask, Nothing}
use Rattle.aia_regs.specs.Request.{requested}
use Rattle.aia_regs.proofs.RequestLemmas.{requested_in_range}
use Rattle.aia_file.specs.InterruptFile.{InterruptFile, landed}
use Rattle.aia_entry.specs.Format.{decoded}
use Rattle.aia_entry.proofs.TableLemmas.{fenced_elsewhere}
use Rattle.aia_vcpu.specs.declared.place.GuestPlace.{GuestPlace}
use Rattle.aia_vcpu.specs.Vms.{Vcpu, vcpu_of, is_vcpu, is_vcpu_in}
use Rattle.aia_vcpu.specs.declared.rest.Rest.TheVariants.{Parked}
use Rattle.aia_vcpu.specs.Home.Home.{InMemory}
use Rattle.aia_vcpu.specs.Routes.{entry_names}
use Rattle.aia_vcpu.proofs.VmLemmas.{same_vcpu}
use Rattle.aia_vcpu_places.specs.Holds.{Holds, IsWithin}
use Rattle.aia_vcpu_places.specs.Places.{Places}
use Rattle.aia_vcpu_places.specs.Stores.{AreApart}
use Rattle.aia_vcpu_places.proofs.StoreLemmas.{refetch_kept}
use Rattle.aia_fabric_values.specs.declared.flying.Flying.{Flying}
use Rattle.aia_fabric_values.specs.World.{World, flight_of}
use Rattle.aia_fabric_values.specs.Whole.{IsWhole}
use Rattle.aia_fabric_values.specs.Changes.{with_fence}
use Rattle.aia_fabric_values.specs.Flights.{Lands, LandsOldest, LandsAll, Fences}
use Rattle.aia_fabric_values.proofs.FlightLemmas.{landed_flight}
use Rattle.aia_fabric_values.proofs.FrameLemmas.{entry_rest}
use Rattle.aia_fabric_values.proofs.WholeLemmas.{vcpu_entry}
use Rattle.aia_move_values.specs.Views.{places_of}
use Rattle.aia_move_values.specs.Move.{Moving, mover, width}
use Rattle.aia_move_values.specs.Targets.{TargetMap}
use Rattle.aia_move_values.specs.Touches.{SameMachine}
use Rattle.aia_move_values.specs.Ways.{led_by_entry, entry_of, written_of, leads_here, KnowsWays, landed_if, reach_fetched}
use Rattle.aia_move_values.specs.Ways as ways
use Rattle.aia_move_values.proofs.KnowsLemmas.{KnowsPlaces, knows_by}
use Rattle.aia_move_values.proofs.LandingLemmas.{same_landed}
use Rattle.aia_move_values.proofs.StepLemmas.{fits_still}
use Rattle.aia_move_values.proofs.MoveKept.{files_fit, slot_few, notice_low}
use Rattle.aia_move_values.proofs.ViewLemmas.{fence-places}
use Rattle.aia_move_values.proofs.WayLemmas.{led_same}
use Rattle.aia_move_values.proofs.WayFrames.{KnowsSo, stored_machine}
use Rattle.aia_move_values.proofs.WayKnows.{landed_all}

-- ---- virtual harts

pub apart_vcpus : (g h : Vcpu) → g ≢ h → (g.vm ≢ h.vm) ⊎ (g.vcpu ≢ h.vcpu)
apart_vcpus g h other = elim (cases_eq g.vm h.vm) [
  | inl same ↦ inr (λ too. other (λ k. vcpu_of (same k) (too k)))
  | inr ne ↦ inl ne
]

pub no_vcpu : (g h : Vcpu) → is_vcpu g h ≡ false → g ≢ h
no_vcpu g h none same = false≢true (sym none ∙ ap (λ (x : Vcpu). is_vcpu x h) same ∙ itself h)
  where
    itself : (h : Vcpu) → is_vcpu h h ≡ true
    itself h = grind (arith, nat_tests)

-- ---- an entry is read again

pub as_written : (w : World) (g : Vcpu) → IsWhole w → is_vcpu_in w.vms g ≡ true → entry_of (with_fence w g.vm g.vcpu) g ≡ written_of w g
as_written w g whole there = ap (λ (v : Places). v.in_force) (fence-places w g (InMemory Parked) whole there)

pub others_kept : (w : World) (g x : Vcpu) → x ≢ g → entry_of (with_fence w g.vm g.vcpu) x ≡ entry_of w x
others_kept w g x other = fenced_elsewhere w.tables g.vm g.vcpu w.memory x.vm x.vcpu (apart_vcpus x g other)

module _ (w : World) (g : Vcpu) (map : TargetMap) (Q : ℕ → Type 0) (m : Moving) (reach : Option GuestPlace) (file : InterruptFile) (saw : Bool)
    (whole : IsWhole w) (there : is_vcpu_in w.vms g ≡ true) (all : KnowsSo Q w map m reach file saw) where
  abbrev fetched : World
  fetched = with_fence w g.vm g.vcpu

  same_machine : SameMachine w fetched
  same_machine = record { n = refl; vms = refl; harts = refl; guests = refl }

  ways_fetched : KnowsWays fetched m
  ways_fetched = record {
    entries = λ x led. elim (cases_Bool (is_vcpu x g)) [
      | inl is ↦ let same = same_vcpu x g is in
          same ∙ all.ways.written g there (ap (λ e. leads_here m (led_by_entry w e)) (sym (ap (entry_of fetched) same
          ∙ as_written w g whole there)) ∙ led)
      | inr none ↦ all.ways.entries x (ap (λ e. leads_here m (led_by_entry w e)) (sym (others_kept w g x (no_vcpu x g none))) ∙ led)
    ];
    written = all.ways.written;
    records = all.ways.records;
    named = all.ways.named;
    flying = all.ways.flying;
  }

  own_fetched : g ≡ mover m → KnowsPlaces Q fetched m (entry_names m.home) file saw
  own_fetched own =
      let seen : places_of fetched (mover m) m.home ≡ record (places_of w (mover m) m.home)
      { in_force = decoded (places_of w (mover m) m.home).word0 (places_of w (mover m) m.home).word1 } =
      subst (λ (x : Vcpu). places_of (with_fence w x.vm x.vcpu) (mover m) m.home ≡ record (places_of w (mover m) m.home)
      { in_force = decoded (places_of w (mover m) m.home).word0 (places_of w (mover m) m.home).word1 }) (sym own)
      (fence-places w (mover m) m.home whole all.places.fits.there) in
      let held = refetch_kept (width w) m.who.found.slot m.who.found.notice reach (places_of w (mover m) m.home) m.home m.hand file saw
      (files_fit w m whole all.places.fits) (slot_few w m whole all.places.fits) (notice_low w m whole all.places.fits) all.places.holds in
      record {
        fits = fits_still w fetched m same_machine all.places.fits;
        phase = subst (λ n. Q ((n + 1) / 64)) (sym same_machine.n) all.places.phase;
        holds = subst (λ (v : Places). Holds (width w) m.who.found.slot m.who.found.notice (entry_names m.home) v m.home m.hand file saw) (sym seen)
            held;
      }

  other_fetched : mover m ≢ g → KnowsPlaces Q fetched m reach file saw
  other_fetched other =
      let entry = others_kept w g (mover m) other in
      let seen : places_of fetched (mover m) m.home ≡ places_of w (mover m) m.home = λ k. record
      (places_of w (mover m) m.home) { in_force = entry k } in
      knows_by w fetched Q m reach saw same_machine file file all.places (places_of w (mover m) m.home) seen all.places.holds

  knows_fetched : (b : Bool) → is_vcpu (mover m) g ≡ b → KnowsPlaces Q fetched m (reach_fetched b m reach) file saw
  knows_fetched true is = own_fetched (sym (same_vcpu (mover m) g is))
  knows_fetched false none = other_fetched (no_vcpu (mover m) g none)

  pub fetched_all : KnowsSo Q fetched map m (reach_fetched (is_vcpu (mover m) g) m reach) file saw
  fetched_all = record { places = knows_fetched (is_vcpu (mover m) g) refl; ways = ways_fetched; targets = all.targets }

-- ---- what lands is within its file

pub landed_within : (n words offset value : ℕ) (file : InterruptFile) → IsWithin n words file → IsWithin n words (landed offset value file)
landed_within n words offset value file w = record {
  greatest = w.greatest;
  all_words = w.all_words;
  delivery = w.delivery;
  threshold = w.threshold;
  pending = λ i past. unasked i past (requested file.n offset value) (λ x e. (requested_in_range file.n offset value x e).1);
  enabled = w.enabled;
}
  where
    unasked : (i : ℕ) → words ≤ i / 64 → (o : Option ℕ) → ((x : ℕ) → o ≡ Some x → x ≤ file.n)
        → settle (cond (names o i) Ask Nothing) (file.pending i) ≡ false
    unasked i past None small = w.pending i past
    unasked i past (Some x) small =
        let low = small x refl in
        let other : nat_eq x i ≡ false = ne_eqb x i (λ e. omega (arith, e, low, past, w.greatest, w.all_words)) in
        ap (λ b. settle (cond b Ask Nothing) (file.pending i)) other ∙ w.pending i past

-- ---- all stores in flight of a VM land

-- the machine is the same
pub same_then : (w u x : World) → SameMachine w u → SameMachine u x → SameMachine w x
same_then w u x first later = record {
  n = later.n ∙ first.n;
  vms = later.vms ∙ first.vms;
  harts = later.harts ∙ first.harts;
  guests = later.guests ∙ first.guests;
}

pub landed_machine : (w u : World) (vm k : ℕ) → Lands w u vm k → SameMachine w u
landed_machine w u vm k l =
    let same = stored_machine w l.stored (entry_rest l.store.entry w l.stored l.store.offset l.store.value l.reaches) in
    subst (λ (x : World). SameMachine w x) (sym l.taken) (record { n = same.n; vms = same.vms; harts = same.harts; guests = same.guests })

landed_lists : (w u : World) (vm k : ℕ) → Lands w u vm k → length u.flights ≡ length w.flights
landed_lists w u vm k l =
    ap (λ (x : World). length x.flights) l.taken
    ∙ length-set l.stored.flights vm (remove (flight_of l.stored vm) k)
    ∙ ap (λ (x : World). length x.flights) (entry_rest l.store.entry w l.stored l.store.offset l.store.value l.reaches)

abbrev if_here : World → Moving → Flying → InterruptFile → InterruptFile
if_here w m s file = landed_if (leads_here m (led_by_entry w s.entry)) s.offset s.value file

one_more_lands : (w : World) (m : Moving) (xs : List Flying) (s : Flying) (file : InterruptFile)
    → ways.landed_flight w m (xs ++ s ∷ []) file ≡ if_here w m s (ways.landed_flight w m xs file)
one_more_lands w m [] s file = refl
one_more_lands w m (x ∷ xs) s file = one_more_lands w m xs s (if_here w m x file)

pub here_within : (n words : ℕ) (b : Bool) (offset value : ℕ) (file : InterruptFile) → IsWithin n words file
    → IsWithin n words (landed_if b offset value file)
here_within n words true offset value file w = landed_within n words offset value file w
here_within n words false offset value file w = w

pub flight_within : (n words : ℕ) (w : World) (m : Moving) (xs : List Flying) (file : InterruptFile) → IsWithin n words file
    → IsWithin n words (ways.landed_flight w m xs file)
flight_within n words w m [] file within = within
flight_within n words w m (s ∷ later) file within = flight_within n words w m later (if_here w m s file)
    (here_within n words (leads_here m (led_by_entry w s.entry)) s.offset s.value file within)

-- so many have landed, of which the others are left
record LandedSo (w u : World) (map : TargetMap) (Q : ℕ → Type 0) (m : Moving) (reach : Option GuestPlace) (file : InterruptFile) (saw : Bool) (vm
    count : ℕ)
    : Type 0 where
  came : List Flying
  left : List Flying
  split : came ++ left ≡ flight_of w vm
  size : length came ≡ count
  flies : flight_of u vm ≡ left
  lists : length u.flights ≡ length w.flights
  same : SameMachine w u
  knows : KnowsSo Q u map m reach (ways.landed_flight w m came file) saw

module _ (w : World) (map : TargetMap) (Q : ℕ → Type 0) (m : Moving) (reach : Option GuestPlace) (file : InterruptFile) (saw : Bool) (vm : ℕ)
    (there : vm < length w.flights) (apart : AreApart m.home) (within : IsWithin w.n (width w) file)
    (all : KnowsSo Q w map m reach file saw) where
  first_left : (left : List Flying) (s : Flying) → slice_get left 0 ≡ Some s → (later : List Flying) × (left ≡ s ∷ later) × (remove left 0 ≡ later)
  first_left [] s e = absurd (cc)
  first_left (x ∷ later) s e = let same : x ≡ s = cc in (later, ap (λ (y : Flying). y ∷ later) same, refl)

  then_lands : (u x : World) (count : ℕ) → LandedSo w u map Q m reach file saw vm count → IsWhole u → Lands u x vm 0
      → LandedSo w x map Q m reach file saw vm (suc count)
  then_lands u x count so whole l =
      let first = first_left so.left l.store (ap (λ xs. slice_get xs 0) (sym so.flies) ∙ l.is) in
      let split : (so.came ++ l.store ∷ []) ++ first.0 ≡ flight_of w vm =
      append_assoc so.came (l.store ∷ []) first.0 ∙ ap (λ xs. so.came ++ xs) (sym first.1) ∙ so.split in
      let inside = flight_within w.n (width w) w m so.came file within in
      let inside_u : IsWithin u.n (width u) (ways.landed_flight w m so.came file) =
      subst (λ n. IsWithin n ((n + 1) / 64) (ways.landed_flight w m so.came file)) (sym so.same.n) inside in
      let after = landed_all u x map Q m reach (ways.landed_flight w m so.came file) saw whole apart inside_u so.knows vm 0 l in
      let same_entry = led_same w u so.same l.store.entry in
      let is : landed_if (leads_here m (led_by_entry u l.store.entry)) l.store.offset l.store.value
      (ways.landed_flight w m so.came file) ≡ ways.landed_flight w m (so.came ++ l.store ∷ []) file =
      ap (λ at. landed_if (leads_here m at) l.store.offset l.store.value
      (ways.landed_flight w m so.came file)) same_entry
      ∙ sym (one_more_lands w m so.came l.store file) in
      record {
        came = so.came ++ l.store ∷ [];
        left = first.0;
        split = split;
        size = omega (arith, length-append so.came (l.store ∷ []), so.size);
        flies = landed_flight u x vm 0 (omega (arith, there, so.lists)) l ∙ ap (λ xs. remove xs 0) so.flies ∙ first.2;
        lists = landed_lists u x vm 0 l ∙ so.lists;
        same = same_then w u x so.same (landed_machine u x vm 0 l);
        knows = subst (λ (f : InterruptFile). KnowsSo Q x map m reach f saw) is after;
      }

  so_many : (count : ℕ) (u : World) → LandsOldest count w u vm → LandedSo w u map Q m reach file saw vm count
  so_many zero u same = subst (λ (x : World). LandedSo w x map Q m reach file saw vm 0) (sym same) (record {
    came = [];
    left = flight_of w vm;
    split = refl;
    size = refl;
    flies = refl;
    lists = refl;
    same = record { n = refl; vms = refl; harts = refl; guests = refl };
    knows = all;
  })
  so_many (suc count) u (mid, before, whole, l) = then_lands mid u count (so_many count mid before) whole l

  none_left : (came left stores : List Flying) → came ++ left ≡ stores → length came ≡ length stores → came ≡ stores
  none_left came [] stores split size = sym (append-nil came) ∙ split
  none_left came (x ∷ left) stores split size =
      absurd (omega (arith, size, ap length split, length-append came (x ∷ left)))

  pub all_land : (u : World) → LandsAll w u vm → KnowsSo Q u map m reach (ways.landed_flight w m (flight_of w vm) file) saw
  all_land u lands =
      let so = so_many (length (flight_of w vm)) u lands in
      subst (λ (xs : List Flying). KnowsSo Q u map m reach (ways.landed_flight w m xs file) saw)
      (none_left so.came so.left (flight_of w vm) so.split so.size) so.knows

-- ---- a fence

pub fenced_all : (w u : World) (g : Vcpu) (map : TargetMap) (Q : ℕ → Type 0) (m : Moving) (reach : Option GuestPlace) (file : InterruptFile) (saw :
    Bool)
    → IsWhole w → AreApart m.home → IsWithin w.n (width w) file → is_vcpu_in w.vms g ≡ true → KnowsSo Q w map m reach file saw
    → Fences w u g.vm g.vcpu
    → KnowsSo Q u map m (reach_fetched (is_vcpu (mover m) g) m reach)
    (ways.landed_flight w m (flight_of w g.vm) file) saw
fenced_all w u g map Q m reach file saw whole apart within there all f =
    let stands = (vcpu_entry w g.vm g.vcpu whole there).0 in
    let landed = all_land w map Q m reach file saw g.vm (omega (arith, stands, whole.flights)) apart within all f.landed f.lands in
    let same = same_landed w f.landed g.vm f.lands in
    subst (λ (x : World). KnowsSo Q x map m (reach_fetched (is_vcpu (mover m) g) m reach)
    (ways.landed_flight w m (flight_of w g.vm) file) saw) (sym f.fenced)
    (fetched_all f.landed g map Q m reach (ways.landed_flight w m (flight_of w g.vm) file) saw f.whole
    (ap (λ vms. is_vcpu_in vms g) same.vms ∙ there) landed)
