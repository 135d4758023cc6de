-- A store of a VM touches its own places alone, in a core that stands for a history.
use Rattle.std.proofs.Common.{◌≡◌, ◌≢◌, ℕ, ◌%◌, true, List, Option, Some, ◌⊎◌, sym, subst}
use Rattle.aia_regs.specs.declared.address_map.TheConstants.{PAGE}
use Rattle.aia_entry.specs.Tables.{table_of, route_of}
use Rattle.aia_vcpu.specs.declared.place.GuestPlace.{GuestPlace}
use Rattle.aia_vcpu.specs.declared.vm.Vm.{Vm}
use Rattle.aia_vcpu.specs.Vms.{Vcpu, is_vcpu_in, slot_of, notice_hart}
use Rattle.aia_vcpu_places.specs.Places.{leads_to}
use Rattle.aia_vcpu.specs.Home.{holds}
use Rattle.aia_vcpu.specs.Routes.{peers_reach}
use Rattle.aia_fabric_values.specs.World.{World, stage_of}
use Rattle.aia_fabric_values.specs.Whole.{IsWhole}
use Rattle.aia_fabric_values.specs.Stores.{Reaches, ReachesBy, ReachesByRecord}
use Rattle.aia_fabric_values.specs.Flights.{Lands}
use Rattle.aia_move_values.specs.Views.{places_of}
use Rattle.aia_move_values.specs.Own.{TouchesOwn, TouchesOneOf}
use Rattle.aia_move_values.proofs.OwnLemmas.{by_entry, own_entry, device_touches, peer_touches, others_stay}
use Rattle.aia_model.specs.Event.{History}
use Rattle.aia_model.specs.Flight.{Sending, flight, flying}
use Rattle.aia_model.specs.GuestFile.{sent_to}
use Rattle.aia_model.specs.Vms.{has_vm, has_vcpu}
use Rattle.aia_model.specs.HomeOf.{home}
use Rattle.aia_model.specs.ReachOf.{in_force_of, sent_into, IsForOne}
use Rattle.aia_model.proofs.FlightLemmas.{all_at}
use Rattle.aia_hyp_values.specs.Core.{CoreState}
use Rattle.aia_hyp_values.specs.Stands.{CoreStands}
use Rattle.aia_hyp_values.proofs.DeviceLemmas.{leads_to_own}
use Rattle.aia_hyp_values.proofs.GuestStores.{devices_held, flying_held, peers_held}
use Rattle.aia_hyp_values.proofs.LandingLemmas.{reaches_as_sent}
use Rattle.aia_hyp_values.proofs.MoveLines.{in_force}

-- a virtual hart of the history is one of the world
in_world : (x : CoreState) (h : History) (g : Vcpu) → CoreStands x h → has_vcpu h g ≡ true → is_vcpu_in x.world.vms g ≡ true
in_world x h g stands there = subst (λ (vs : List Vm). is_vcpu_in vs g ≡ true) (sym stands.vms) there

pub device_own : (x : CoreState) (h : History) (u : World) (v addr value : ℕ) → CoreStands x h → IsWhole x.world → has_vm h v ≡ true
    → Reaches (route_of (table_of x.world.tables v) addr) x.world u (addr % PAGE) value
    → (u ≡ x.world) ⊎ TouchesOneOf x.world u v (λ g. in_force_of h g)
device_own x h u v addr value stands whole standing reaches =
    device_touches x.world u v addr value (λ g. in_force_of h g) whole (leads_to_own x h v stands standing) reaches

pub peer_own : (x : CoreState) (h : History) (u : World) (g : Vcpu) (value : ℕ) → CoreStands x h → IsWhole x.world → has_vcpu h g ≡ true
    → ReachesByRecord (stage_of x.world g).in_force x.world u g value → TouchesOwn x.world u g (peers_reach (home h g))
peer_own x h u g value stands whole there relays =
    subst (TouchesOwn x.world u g) (in_force x h g stands there).1
    (peer_touches x.world u g (stage_of x.world g).in_force value whole (in_world x h g stands there) relays)

-- what another virtual hart holds is there, and no store for the one reaches it
others_own : (x : CoreState) (h : History) (u : World) (g other : Vcpu) (reach : Option GuestPlace) → CoreStands x h → has_vcpu h g ≡ true
    → has_vcpu h other ≡ true → other ≢ g → ((p : GuestPlace) → reach ≡ Some p → holds p (home h g) ≡ true) → TouchesOwn x.world u g reach
    → places_of u other (home h other) ≡ places_of x.world other (home h other)
others_own x h u g other reach stands there inside ne held touches =
    others_stay x.world u g other reach (home h other) (in_world x h g stands there) (in_world x h other stands inside) ne touches
    (λ p holding. (stands.held other p inside holding, λ e. ne (stands.apart other g p inside there holding (held p e))))

pub device_others : (x : CoreState) (h : History) (u : World) (g other : Vcpu) → CoreStands x h → has_vcpu h g ≡ true → has_vcpu h other ≡ true
    → other ≢ g → TouchesOwn x.world u g (in_force_of h g) → places_of u other (home h other) ≡ places_of x.world other (home h other)
device_others x h u g other stands there inside ne touches =
    others_own x h u g other (in_force_of h g) stands there inside ne (devices_held h g) touches

pub peer_others : (x : CoreState) (h : History) (u : World) (g other : Vcpu) → CoreStands x h → has_vcpu h g ≡ true → has_vcpu h other ≡ true
    → other ≢ g → TouchesOwn x.world u g (peers_reach (home h g)) → places_of u other (home h other) ≡ places_of x.world other (home h other)
peer_others x h u g other stands there inside ne touches =
    others_own x h u g other (peers_reach (home h g)) stands there inside ne (peers_held h g) touches

-- ---- one that was in flight

module _ (x : CoreState) (h : History) (u : World) (v k : ℕ) (s : Sending) (stands : CoreStands x h) (whole : IsWhole x.world)
    (is : flying h v k ≡ Some s) (landing : Lands x.world u v k) where
  one : IsForOne h v s
  one = all_at (IsForOne h v) k (flight h v) s is (stands.for_one v)

  leads : ReachesBy (leads_to (slot_of x.world.vms (sent_to v s)) (notice_hart x.world.vms (sent_to v s)) (sent_into v s)) x.world landing.stored
      (s.addr % PAGE) s.value
  leads = subst (λ (vs : List Vm). ReachesBy (leads_to (slot_of vs (sent_to v s)) (notice_hart vs (sent_to v s)) (sent_into v s)) x.world
      landing.stored (s.addr % PAGE) s.value) (sym stands.vms)
      (reaches_as_sent x h u v k stands landing s is)

  holding : (p : GuestPlace) → sent_into v s ≡ Some p → holds p (home h (sent_to v s)) ≡ true
  holding p e = flying_held h v k s p stands.may_fly is e

  touches : TouchesOwn x.world landing.stored (sent_to v s) (sent_into v s)
  touches = own_entry x.world landing.stored (sent_to v s) (sent_into v s) (s.addr % PAGE) s.value whole
      (in_world x h (sent_to v s) stands one.there) (λ p e. stands.held (sent_to v s) p one.there (holding p e))
      (by_entry (sent_into v s) (slot_of x.world.vms (sent_to v s)) (notice_hart x.world.vms (sent_to v s)) x.world landing.stored (s.addr % PAGE)
      s.value leads)

  others : (g : Vcpu) → has_vcpu h g ≡ true → g ≢ sent_to v s → places_of u g (home h g) ≡ places_of x.world g (home h g)
  others g inside ne = subst (λ (w : World). places_of w g (home h g) ≡ places_of x.world g (home h g)) (sym landing.taken)
      (others_own x h landing.stored (sent_to v s) g (sent_into v s) stands one.there inside ne holding touches)

pub landing_own : (x : CoreState) (h : History) (u : World) (v k : ℕ) (s : Sending) → CoreStands x h → IsWhole x.world → flying h v k ≡ Some s
    → (landing : Lands x.world u v k)
    → TouchesOwn x.world landing.stored (sent_to v s) (sent_into v s)
    × ((g : Vcpu) → has_vcpu h g ≡ true → g ≢ sent_to v s → places_of u g (home h g) ≡ places_of x.world g (home h g))
landing_own x h u v k s stands whole is landing = (touches x h u v k s stands whole is landing, others x h u v k s stands whole is landing)
