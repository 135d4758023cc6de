-- Guest files that are handed out or come back, and the least one of a hart that is free.
use Rattle.std.proofs.Common.{◌≡◌, ℕ, zero, suc, ◌+◌, ◌<◌, ◌≤◌, Bool, true, false, not, cond, Some, refl, sym, ap, ◌∙◌, arith}
use Rattle.std.proofs.lemmas.Bool.{false≢true}
use Rattle.aia_word.specs.Sets.{least_of}
use Rattle.aia_word.proofs.LeastLemmas.{least_of_is}
use Rattle.aia_file.specs.Imsic.{IsThere}
use Rattle.aia_vcpu.specs.declared.place.GuestPlace.{GuestPlace}
use Rattle.aia_pool.specs.Leases.{IsFileThere, is_out, least_free}
use Rattle.aia_fabric_values.specs.Changes.{spot_of}
use Rattle.aia_model.specs.Event.{History, guests_of}
use Rattle.aia_model.specs.HomeOf.{home, guest_place, free_file}
use Rattle.aia_hyp_values.specs.Core.{CoreState}
use Rattle.aia_hyp_values.specs.Stands.{is_held, CoreStands}

-- ---- the least free one

least_alike : (P Q : ℕ → Bool) (from count : ℕ) → ((j : ℕ) → from ≤ j → j < from + count → P j ≡ Q j) → least_of P from count ≡ least_of Q from count
unfolding least_of
least_alike P Q from zero same = refl
least_alike P Q from (suc count) same =
    let here = same from (omega arith) (omega arith) in
    let later = least_alike P Q (suc from) count (λ j low high. same j (omega (arith, low)) (omega (arith, high))) in
    λ k. cond (here k) (Some from) (later k)

-- a guest file of the pool is one of the machine
pub in_pool : (x : CoreState) (h : History) (p : GuestPlace) → CoreStands x h → IsThere x.world.imsic (spot_of p) → IsFileThere x.leases p
in_pool x h p stands there =
    let hart = there.0 in
    let file = there.2 in
    (omega (arith, hart, stands.harts, stands.lease_harts), there.1, omega (arith, file, stands.guests, stands.lease_guests))

pub in_machine : (x : CoreState) (h : History) (p : GuestPlace) → CoreStands x h → IsFileThere x.leases p → IsThere x.world.imsic (spot_of p)
in_machine x h p stands there =
    let hart = there.0 in
    let file = there.2 in
    (omega (arith, hart, stands.harts, stands.lease_harts), there.1, omega (arith, file, stands.guests, stands.lease_guests))

-- the least that is not out is the least that nobody holds
pub same_free : (x : CoreState) (h : History) (hart : ℕ) → CoreStands x h → hart < x.world.imsic.harts
    → least_free x.leases hart ≡ free_file h (home h) hart
same_free x h hart stands low =
    ap (least_of (λ file. not (is_out x.leases (guest_place hart file))) 1) stands.lease_guests
    ∙ least_alike (λ file. not (is_out x.leases (guest_place hart file))) (λ file. not (is_held h (guest_place hart file))) 1 (guests_of h)
    (λ j some few. ap not (stands.leases (guest_place hart j) (low, some, omega (arith, few, stands.guests))))

-- the one that is taken is there, and nobody holds it
pub record IsFreeAt (x : CoreState) (h : History) (hart : ℕ) (p : GuestPlace) : Type 0 where
  pub found : free_file h (home h) hart ≡ Some p.file
  pub hart_of : p.hart ≡ hart
  pub inside : IsThere x.world.imsic (spot_of p)
  pub none : is_held h p ≡ false

pub free_there : (x : CoreState) (h : History) (hart : ℕ) (p : GuestPlace) → CoreStands x h → hart < x.world.imsic.harts
    → least_free x.leases hart ≡ Some p.file → p.hart ≡ hart → IsFreeAt x h hart p
free_there x h hart p stands low found same =
    let least = least_of_is (λ file. not (is_out x.leases (guest_place hart file))) 1 x.leases.guests p.file found in
    let high = least.1 in
    let inside : IsThere x.world.imsic (spot_of p) = (omega (arith, low, same), least.0, omega (arith, high, stands.guests, stands.lease_guests)) in
    let out : is_out x.leases p ≡ false = from_not (is_out x.leases p) (ap (λ t. not (is_out x.leases (guest_place t p.file))) same ∙ least.2) in
    record {
      found = sym (same_free x h hart stands low) ∙ found;
      hart_of = same;
      inside = inside;
      none = sym (stands.leases p inside) ∙ out;
    }
  where
    from_not : (b : Bool) → not b ≡ true → b ≡ false
    from_not true e = absurd (false≢true e)
    from_not false e = refl
