-- What stays of a rehearsal's standing where the machine and the stores in flight do.
use Rattle.std.proofs.Common.{◌≡◌, ℕ, ◌+◌, ◌/◌, List, [], ◌∷◌, refl, sym, ap, ◌∙◌, subst}
use Rattle.std.specs.Prelude.{slice_index_or}
use Rattle.aia_file.specs.declared.spot.Spot.{Spot}
use Rattle.aia_file.specs.Imsic.{ImsicState, IsThere}
use Rattle.aia_entry.specs.declared.entry.Entry.{Entry}
use Rattle.aia_entry.specs.declared.entry.Entry.TheVariants.{Basic, Mrif, NotValid, Custom, Misconfigured}
use Rattle.aia_vcpu.specs.Vms.{vcpu_of, is_vcpu_in, slot_of, notice_hart}
use Rattle.aia_fabric_values.specs.declared.flying.Flying.{Flying}
use Rattle.aia_fabric_values.specs.World.{World, flight_of}
use Rattle.aia_fabric_values.specs.Stores.{page_spot}
use Rattle.aia_fabric_values.specs.Changes.{spot_of}
use Rattle.aia_move_values.specs.declared.who.Who.{Who}
use Rattle.aia_move_values.specs.Move.{IsWho, width}
use Rattle.aia_move_values.specs.Touches.{SameMachine}
use Rattle.aia_plan.specs.Transit.{Transit}
use Rattle.aia_plan.specs.Transit.TransitSide.{Old, New}
use Rattle.aia_rehearsal.specs.declared.place.Place as ends
use Rattle.aia_rehearsal.specs.declared.place.Place.TheVariants.{File, Slot}
use Rattle.aia_rehearsal.specs.Rehearsed.{Passage, Carried, Rehearsed, mover_of, at, IsFileThere, IsOf}
use Rattle.aia_rehearsal.specs.Stands.{sets_at, routes_of, leads, is_file_at, side_of, flights_in, SetsStand, RoutesStand, StandsFor}

-- ---- the machine stays

file_there : (i j : ImsicState) (spot : Spot) → i.harts ≡ j.harts → i.guests ≡ j.guests → IsThere i spot → IsThere j spot
file_there i j spot harts guests there = subst (λ (x : ImsicState). IsThere x spot) same there
  where
    same : i ≡ record i { harts = j.harts; guests = j.guests }
    same = λ k. record { harts = harts k; guests = guests k; files = i.files }

pub of_same : (w u : World) (p : Passage) → SameMachine w u → IsOf w p → IsOf u p
of_same w u p same of = record {
  who = is_who p.who of.who;
  old = is_there p.old of.old;
  new = is_there p.new of.new;
}
  where
    is_who : (who : Who) → IsWho w who → IsWho u who
    is_who who is = record {
      there = ap (λ vms. is_vcpu_in vms (vcpu_of who.found.vm who.found.vcpu)) same.vms ∙ is.there;
      slot = is.slot ∙ ap (λ vms. slot_of vms (vcpu_of who.found.vm who.found.vcpu)) (sym same.vms);
      notice = is.notice ∙ ap (λ vms. notice_hart vms (vcpu_of who.found.vm who.found.vcpu)) (sym same.vms);
    }

    is_there : (place : ends.Place) → IsFileThere w place → IsFileThere u place
    is_there (File a) there = file_there w.imsic u.imsic (spot_of a) (sym same.harts) (sym same.guests) there
    is_there Slot there = there

-- ---- where entries lead

module _ (i j : ImsicState) (harts : i.harts ≡ j.harts) (guests : i.guests ≡ j.guests) where
  same_page : (page : ℕ) → page_spot i page ≡ page_spot j page
  same_page page = ap (λ (x : ImsicState). page_spot x page) same
    where
      same : i ≡ record i { harts = j.harts; guests = j.guests }
      same = λ k. record { harts = harts k; guests = guests k; files = i.files }

  leads_same : (slot : ℕ) (place : ends.Place) (entry : Entry) → leads i slot place entry ≡ leads j slot place entry
  leads_same slot (File p) (Basic page) = ap (is_file_at p) (same_page page)
  leads_same slot (File p) (Mrif addr page identity) = refl
  leads_same slot (File p) NotValid = refl
  leads_same slot (File p) Custom = refl
  leads_same slot (File p) Misconfigured = refl
  leads_same slot Slot (Basic page) = refl
  leads_same slot Slot (Mrif addr page identity) = refl
  leads_same slot Slot NotValid = refl
  leads_same slot Slot Custom = refl
  leads_same slot Slot Misconfigured = refl

  pub side_same : (p : Passage) (entry : Entry) → side_of i p entry ≡ side_of j p entry
  side_same p entry = rw (leads_same p.who.found.slot p.old entry, leads_same p.who.found.slot p.new entry) refl

  pub flights_same : (p : Passage) (stores : List Flying) → flights_in i p stores ≡ flights_in j p stores
  flights_same p [] = refl
  flights_same p (store ∷ later) = rw (side_same p store.entry, flights_same p later) refl

-- ---- all of it

-- the machine and the stores in flight stay
pub stand_on : (w u : World) (r : Rehearsed) (hand : Carried) (z y : Transit) → SameMachine w u → u.flights ≡ w.flights → y.flights ≡ z.flights
    → SetsStand (width w) (sets_at u (at Old r.passage)) (sets_at u (at New r.passage)) hand y
    → RoutesStand r.passage (routes_of u (mover_of r.passage)) y → StandsFor w r z → StandsFor u (record r { hand = hand }) y
stand_on w u r hand z y same flights fly sets routes s = record {
  of = of_same w u r.passage same s.of;
  two = s.two;
  sets = subst (λ words. SetsStand words (sets_at u (at Old r.passage)) (sets_at u (at New r.passage)) hand y)
      (ap (λ n. (n + 1) / 64) (sym same.n)) sets;
  routes = routes;
  flights = record {
    own = fly ∙ s.flights.own ∙ kept r.passage.who.found.vm;
    others = λ vm other. sym (kept vm) ∙ s.flights.others vm other;
  };
}
  where
    kept : (vm : ℕ) → flights_in w.imsic r.passage (flight_of w vm) ≡ flights_in u.imsic r.passage (flight_of u vm)
    kept vm = flights_same w.imsic u.imsic (sym same.harts) (sym same.guests) r.passage (flight_of w vm)
        ∙ ap (λ lists. flights_in u.imsic r.passage (slice_index_or lists vm [])) (sym flights)

pub same_machine : (w : World) → SameMachine w w
same_machine w = record { n = refl; vms = refl; harts = refl; guests = refl }
