-- Who is moved, and the files of a move, are within the limits of a machine.
use Rattle.std.proofs.Common.{◌≡◌, ℕ, ◌+◌, ◌<◌, ◌≤◌, Bool, true, Option, Some, None, inl, inr, IfSome, refl, sym, ap, ◌∙◌, subst, arith}
use Rattle.std.proofs.lemmas.Bool.{eqb-true}
use Rattle.aia_regs.specs.declared.limits.TheConstants.{HARTS, GUEST_FILES, VCPUS}
use Rattle.aia_file.specs.declared.spot.Spot.TheVariants.{SupervisorFile}
use Rattle.aia_file.specs.Imsic.{IsThere}
use Rattle.aia_vcpu.specs.declared.place.GuestPlace.{GuestPlace}
use Rattle.aia_vcpu.specs.Home.{Way, left, led_to, Home, is_moving, at_first}
use Rattle.aia_vcpu.specs.Home.Home.{OnWay}
use Rattle.aia_vcpu.specs.BySteps.{first_file, own_file, next_file}
use Rattle.aia_vcpu.specs.Plans.{steps_done}
use Rattle.aia_vcpu.specs.Vms.{Vcpu, vcpu_of, vcpus_in, is_vcpu_in, slot_of, notice_hart}
use Rattle.aia_vcpu.proofs.VmLemmas.{slot_below}
use Rattle.aia_vcpu.proofs.HomeLemmas.{next_is_led_to, left_is_own, led_to_is_held}
use Rattle.aia_fabric_values.specs.World.{World}
use Rattle.aia_fabric_values.specs.Whole.{IsWhole}
use Rattle.aia_fabric_values.specs.Stores.{Posts}
use Rattle.aia_fabric_values.specs.Changes.{spot_of, IsPlaceThere}
use Rattle.aia_fabric_values.proofs.WholeLemmas.{notice_hart_there}
use Rattle.aia_move_values.specs.declared.who.Who.{Who}
use Rattle.aia_move_values.specs.Move.{Moving, IsWho, MoveFits, PostsIf, place_at, old_by, new_by, old_at, new_at}

pub small_who : (w : World) (who : Who) → IsWhole w → IsWho w who → (who.found.slot < vcpus_in w.vms) × (who.found.slot < VCPUS)
    × (who.found.notice < HARTS)
small_who w who whole is =
    let slot = is.slot in
    let below = slot_below w.vms (vcpu_of who.found.vm who.found.vcpu) is.there in
    let hart = notice_hart_there w (vcpu_of who.found.vm who.found.vcpu) whole is.there in
    (omega (arith, slot, below), omega (arith, slot, below, whole.vcpus), omega (arith, is.notice, hart, whole.harts))

pub small_file : (w : World) (to : Option GuestPlace) → IsWhole w → ((p : GuestPlace) → to ≡ Some p → IsThere w.imsic (spot_of p))
    → IfSome to (λ p. (p.hart < HARTS) × (p.file ≤ GUEST_FILES))
small_file w None whole there = search
small_file w (Some p) whole there =
    let is = there p refl in
    (omega (arith, is.0, whole.harts), omega (arith, is.2, whole.guests))

-- the notice of the virtual hart of a slot is its own
pub posts_if : (w u : World) (who same : Who) (seen : Bool) → seen ≡ true → same ≡ who → IsWho w who
    → ((g : Vcpu) → is_vcpu_in w.vms g ≡ true → slot_of w.vms g ≡ same.found.slot
    → Posts w u (SupervisorFile (notice_hart w.vms g)) (same.found.slot + 1)) → PostsIf seen w u who.found.notice (who.found.slot + 1)
posts_if w u who same seen on e is posts =
    let slot : same.found.slot ≡ who.found.slot = ap (λ (x : Who). x.found.slot) e in
    rw (on, is.notice) (subst (λ n. Posts w u (SupervisorFile (notice_hart w.vms (vcpu_of who.found.vm who.found.vcpu))) (n + 1)) slot
    (posts (vcpu_of who.found.vm who.found.vcpu) is.there (sym (slot ∙ is.slot))))

-- the slot of a state m, which is seen as s
pub slot_there : (w : World) (m s : Moving) → m ≡ s → IsWhole w → MoveFits w s → m.who.found.slot < VCPUS
slot_there w m s seen whole fits =
    let is : IsWho w s.who = record { there = fits.there; slot = fits.slot; notice = fits.notice } in
    omega (arith, ap (λ (x : Moving). x.who.found.slot) seen, (small_who w s.who whole is).1)

-- ---- the places of a move are there

-- at either end of a way: a file, or the slot
end_there : (w : World) (slot : ℕ) (o : Option GuestPlace) → slot < VCPUS → ((p : GuestPlace) → o ≡ Some p → IsThere w.imsic (spot_of p))
    → IsPlaceThere w (place_at o slot)
end_there w slot None low there = low
end_there w slot (Some p) low there = there p refl

pub old_there : (w : World) (m : Moving) → IsWhole w → MoveFits w m → is_moving m.home ≡ true → IsPlaceThere w (old_at m)
old_there w m whole fits moves = by_home m.home fits.own moves
  where
    by_home : (there : Home) → ((p : GuestPlace) → own_file there ≡ Some p → IsThere w.imsic (spot_of p)) → is_moving there ≡ true
        → IsPlaceThere w (old_by there m.who.found.slot)
    by_home (OnWay way at) own moves = end_there w m.who.found.slot (left way) (slot_there w m m refl whole fits) (λ p e. own p (left_is_own way p e))
    by_home there own moves = absurd (cc)

pub new_there : (w : World) (m : Moving) → IsWhole w → MoveFits w m → is_moving m.home ≡ true → IsPlaceThere w (new_at m)
new_there w m whole fits moves = by_home m.home fits.own fits.next moves
  where
    by_home : (there : Home) → ((p : GuestPlace) → own_file there ≡ Some p → IsThere w.imsic (spot_of p))
        → ((p : GuestPlace) → next_file there ≡ Some p → IsThere w.imsic (spot_of p)) → is_moving there ≡ true
        → IsPlaceThere w (new_by there m.who.found.slot)
    by_home (OnWay way at) own next moves = end_there w m.who.found.slot (led_to way) (slot_there w m m refl whole fits)
        (λ p e. elim (led_to_is_held way p e) [ inl same ↦ own p same | inr same ↦ next p same ])
    by_home there own next moves = absurd (cc)

-- ---- a move begins

some_there : (w : World) (o : Option GuestPlace) (p : GuestPlace) → o ≡ Some p → IfSome o (λ x. IsThere w.imsic (spot_of x))
    → IsThere w.imsic (spot_of p)
some_there w o p e there = subst (λ (o : Option GuestPlace). IfSome o (λ x. IsThere w.imsic (spot_of x))) e there

pub begins_fit : (w : World) (m : Moving) (way : Way) → m.home ≡ OnWay way at_first → IsWho w m.who
    → IfSome (left way) (λ p. IsThere w.imsic (spot_of p)) → IfSome (led_to way) (λ p. IsThere w.imsic (spot_of p)) → MoveFits w m
begins_fit w m way home who old new = record {
  there = who.there;
  slot = who.slot;
  notice = who.notice;
  own = λ p e. own_there (left way) (led_to way) p old new (sym (ap own_file home) ∙ e);
  next = λ p e. some_there w (led_to way) p (next_is_led_to way p (sym (ap next_file home) ∙ e)) new;
  no_pending_zero = λ e. absurd (omega (arith, eqb-true _ _ e, ap steps_done home));
  no_enabled_zero = λ e. absurd (omega (arith, eqb-true _ _ e, ap steps_done home));
}
  where
    own_there : (from to : Option GuestPlace) (p : GuestPlace) → IfSome from (λ p. IsThere w.imsic (spot_of p))
        → IfSome to (λ p. IsThere w.imsic (spot_of p)) → first_file from to ≡ Some p → IsThere w.imsic (spot_of p)
    own_there (Some q) to p old new e = some_there w (Some q) p e old
    own_there None to p old new e = some_there w to p e new
