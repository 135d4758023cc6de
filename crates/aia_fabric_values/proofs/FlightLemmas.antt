-- What becomes of the stores in flight of a VM as one lands, and as all do.
use Rattle.std.proofs.Common.{◌≡◌, ◌≢◌, ℕ, zero, suc, ◌+◌, ◌<◌, ◌≤◌, List, [], ◌∷◌, length, get_or-set_same, get_or-set_other, refl, sym, ap, subst, ◌∙◌, arith}
use Rattle.std.specs.Prelude.{remove, slice_set, slice_index_or}
use Rattle.std.proofs.lemmas.List.{length-set}
use Rattle.std.proofs.lemmas.List.Edits.{length-remove}
use Rattle.aia_file.specs.FileState.{FileState}
use Rattle.aia_fabric_values.specs.declared.flying.Flying.{Flying}
use Rattle.aia_fabric_values.specs.World.{World, OnlyStores, flight_of}
use Rattle.aia_fabric_values.specs.Whole.{IsWhole}
use Rattle.aia_fabric_values.specs.Flights.{Lands, LandsOldest, LandsAll, Fences}
use Rattle.aia_fabric_values.proofs.FrameLemmas.{entry_rest}

-- a store lands: it is in flight no more, and the VMs are the same
stored_rest : (w u : World) (vm k : ℕ) (l : Lands w u vm k) → OnlyStores w l.stored
stored_rest w u vm k l = entry_rest l.store.entry w l.stored l.store.offset l.store.value l.reaches

landed_flights : (w u : World) (vm k : ℕ) → Lands w u vm k → u.flights ≡ slice_set w.flights vm (remove (flight_of w vm) k)
landed_flights w u vm k l = ap (λ (x : World). x.flights) l.taken
    ∙ ap (λ (x : World). slice_set x.flights vm (remove (flight_of x vm) k)) (stored_rest w u vm k l)

pub landed_vms : (w u : World) (vm k : ℕ) → Lands w u vm k → u.vms ≡ w.vms
landed_vms w u vm k l = ap (λ (x : World). x.vms) l.taken ∙ ap (λ (x : World). x.vms) (stored_rest w u vm k l)

pub landed_flight : (w u : World) (vm k : ℕ) → vm < length w.flights → Lands w u vm k → flight_of u vm ≡ remove (flight_of w vm) k
landed_flight w u vm k there l =
    ap (λ flights. slice_index_or flights vm []) (landed_flights w u vm k l) ∙ get_or-set_same w.flights vm (remove (flight_of w vm) k) [] there

-- so many have landed, and the others are left
pub record HaveLanded (w u : World) (vm count : ℕ) : Type 0 where
  pub lands : LandsOldest count w u vm
  pub left : length (flight_of u vm) + count ≡ length (flight_of w vm)
  pub vms : u.vms ≡ w.vms
  pub lists : length u.flights ≡ length w.flights

pub none_landed : (w : World) (vm : ℕ) → HaveLanded w w vm 0
none_landed w vm = record { lands = refl; left = omega arith; vms = refl; lists = refl }

pub one_landed : (w u x : World) (vm count : ℕ) → vm < length w.flights → 0 < length (flight_of u vm) → HaveLanded w u vm count → IsWhole u
    → Lands u x vm 0 → HaveLanded w x vm (count + 1)
one_landed w u x vm count there some so_far whole l =
    let one : length (flight_of x vm) ≡ length (remove (flight_of u vm) 0) = ap length (landed_flight u x vm 0 (omega (arith, so_far.lists)) l) in
    let more : suc count ≡ count + 1 = omega arith in
    let lands : LandsOldest (suc count) w x vm = (u, so_far.lands, whole, l) in
    record {
      lands = subst (λ n. LandsOldest n w x vm) more lands;
      left = omega (arith, one, length-remove (flight_of u vm) 0 some, so_far.left);
      vms = landed_vms u x vm 0 l ∙ so_far.vms;
      lists = ap length (landed_flights u x vm 0 l) ∙ length-set u.flights vm (remove (flight_of u vm) 0) ∙ so_far.lists;
    }

-- ---- a fence leaves none of its VM in flight, and those of other VMs as they were

have_landed : (count : ℕ) (w u : World) (vm : ℕ) → vm < length w.flights → count ≤ length (flight_of w vm) → LandsOldest count w u vm
    → HaveLanded w u vm count
have_landed zero w u vm there enough same = subst (λ (x : World). HaveLanded w x vm 0) (sym same) (none_landed w vm)
have_landed (suc count) w u vm there enough (mid, before, whole, l) =
    let so_far = have_landed count w mid vm there (omega (arith, enough)) before in
    let more : count + 1 ≡ suc count = omega arith in
    subst (λ n. HaveLanded w u vm n) more (one_landed w mid u vm count there (omega (arith, so_far.left, enough)) so_far whole l)

none_left : (stores : List Flying) → length stores ≡ 0 → stores ≡ []
none_left [] none = refl
none_left (x ∷ stores) none = absurd (omega (arith, none))

pub fence_leaves_none : (w u : World) (vm file : ℕ) → IsWhole w → vm < length w.vms → Fences w u vm file → flight_of u vm ≡ []
fence_leaves_none w u vm file whole there f =
    let landed = have_landed (length (flight_of w vm)) w f.landed vm (omega (arith, there, whole.flights)) (omega arith) f.lands in
    ap (λ (x : World). flight_of x vm) f.fenced ∙ none_left (flight_of f.landed vm) (omega (arith, landed.left))

others_fly : (count : ℕ) (w u : World) (vm other : ℕ) → other ≢ vm → LandsOldest count w u vm → flight_of u other ≡ flight_of w other
others_fly zero w u vm other ne same = ap (λ (x : World). flight_of x other) same
others_fly (suc count) w u vm other ne (mid, before, whole, l) =
    ap (λ flights. slice_index_or flights other []) (landed_flights mid u vm 0 l)
    ∙ get_or-set_other mid.flights vm other (remove (flight_of mid vm) 0) [] ne ∙ others_fly count w mid vm other ne before

pub fence_leaves_others : (w u : World) (vm file other : ℕ) → Fences w u vm file → other ≢ vm → flight_of u other ≡ flight_of w other
fence_leaves_others w u vm file other f ne = ap (λ (x : World). flight_of x other) f.fenced
    ∙ others_fly (length (flight_of w vm)) w f.landed vm other ne f.lands

-- ---- what landings leave as it was

-- the world with other files, another memory, another count of notices and other stores in flight
abbrev with_landed : World → List FileState → List ℕ → ℕ → List (List Flying) → World
with_landed w files memory notices flights = record w
    { imsic = record w.imsic { files = files }; memory = memory; notices = notices; flights = flights }

abbrev pub OnlyLandings : World → World → Type 0
OnlyLandings w u = u ≡ record w { imsic = record w.imsic { files = u.imsic.files }; memory = u.memory; notices = u.notices; flights = u.flights }

by_landed : (w u : World) (files : List FileState) (memory : List ℕ) (notices : ℕ) (flights : List (List Flying))
    → u ≡ with_landed w files memory notices flights → OnlyLandings w u
by_landed w u files memory notices flights e = e ∙ ap (λ (x : World). with_landed w x.imsic.files x.memory x.notices x.flights) (sym e)

landed_rest : (w u : World) (vm k : ℕ) → Lands w u vm k → OnlyLandings w u
landed_rest w u vm k l =
    by_landed w u l.stored.imsic.files l.stored.memory l.stored.notices (slice_set w.flights vm (remove (flight_of w vm) k))
    (l.taken ∙ ap (λ (x : World). record x { flights = slice_set x.flights vm (remove (flight_of x vm) k) }) (stored_rest w u vm k l))

landed_then : (w x u : World) → OnlyLandings w x → OnlyLandings x u → OnlyLandings w u
landed_then w x u first later = later ∙ ap (λ (y : World). with_landed y u.imsic.files u.memory u.notices u.flights) first

pub all_landed_rest : (count : ℕ) (w u : World) (vm : ℕ) → LandsOldest count w u vm → OnlyLandings w u
all_landed_rest zero w u vm same = by_landed w u w.imsic.files w.memory w.notices w.flights same
all_landed_rest (suc count) w u vm (mid, before, whole, l) = landed_then w mid u (all_landed_rest count w mid vm before) (landed_rest mid u vm 0 l)

pub all_landed : (w u : World) (vm count : ℕ) → count ≡ length (flight_of w vm) → HaveLanded w u vm count → LandsAll w u vm
all_landed w u vm count all landed = subst (λ n. LandsOldest n w u vm) all landed.lands
