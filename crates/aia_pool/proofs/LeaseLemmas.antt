-- Guest files that are handed out or come back: each has a place of its own among all.
use Rattle.std.proofs.Common.{◌≡◌, ◌+◌, ◌-◌, ◌*◌, ◌<◌, ◌≤◌, Bool, true, false, ◌&&◌, nat_eq, length, sym, ap, ◌∙◌, arith}
use Rattle.std.proofs.lemmas.Bool.{eq-eqb, false≢true}
use Rattle.std.proofs.lemmas.List.{get_or-set_same, get_or-set_other}
use Rattle.std.proofs.lemmas.Nat.{same_from_place, mul-add-lt}
use Rattle.aia_vcpu.specs.declared.place.GuestPlace.{GuestPlace}
use Rattle.aia_vcpu.specs.Home.{is_place}
use Rattle.aia_pool.specs.Leases.{Leases, IsFileThere, lease_place, is_out, with_out}

-- ---- where they stand

placed : (l : Leases) (p : GuestPlace) → 1 ≤ p.file → lease_place l p ≡ p.hart * l.guests + (p.file - 1)
placed l p low = omega (arith, low)

pub lease_within : (l : Leases) (p : GuestPlace) → IsFileThere l p → lease_place l p < l.harts * l.guests
lease_within l p there =
    let low = there.1 in
    let high = there.2 in
    let within = mul-add-lt p.hart l.guests (p.file - 1) l.harts there.0 (omega (arith, low, high)) in
    omega (arith, placed l p low, within)

pub same_lease : (l : Leases) (p q : GuestPlace) → IsFileThere l p → IsFileThere l q → lease_place l p ≡ lease_place l q → is_place p q ≡ true
same_lease l p q here there e =
    let low = here.1 in
    let high = here.2 in
    let small = there.1 in
    let big = there.2 in
    let at = same_from_place p.hart (p.file - 1) q.hart (q.file - 1) l.guests (omega (arith, low, high)) (omega (arith, small, big))
    (sym (placed l p low) ∙ e ∙ placed l q small) in
    let less = at.1 in
    ap (λ b. b && nat_eq p.file q.file) (eq-eqb p.hart q.hart at.0) ∙ eq-eqb p.file q.file (omega (arith, low, small, less))

-- ---- one is handed out, or comes back

pub out_here : (l : Leases) (p : GuestPlace) (b : Bool) → IsFileThere l p → length l.out ≡ l.harts * l.guests → is_out (with_out l p b) p ≡ b
out_here l p b there long =
    let within = lease_within l p there in
    get_or-set_same l.out (lease_place l p) b false (omega (arith, within, long))

pub out_elsewhere : (l : Leases) (p q : GuestPlace) (b : Bool) → IsFileThere l p → IsFileThere l q → is_place q p ≡ false
    → is_out (with_out l p b) q ≡ is_out l q
out_elsewhere l p q b here there apart = get_or-set_other l.out (lease_place l p) (lease_place l q) b false
    (λ e. false≢true (sym apart ∙ same_lease l q p there here e))
