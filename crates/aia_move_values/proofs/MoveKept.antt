-- A step of a move in the world: the places hold the same interrupt file, before it and after it.
use Rattle.std.proofs.Common.{◌≡◌, ℕ, ◌<◌, Bool, false, ◌||◌, Option, Some, None, refl, sym, ap, subst, arith}
use Rattle.aia_file.specs.InterruptFile.{InterruptFile, empty_file}
use Rattle.aia_file.specs.FileState.{shown}
use Rattle.aia_file.specs.Imsic.{IsThere, file_at}
use Rattle.aia_vcpu.specs.declared.place.GuestPlace.{GuestPlace}
use Rattle.aia_vcpu.specs.Vms.{Vcpu, vcpu_of}
use Rattle.aia_vcpu.specs.Home.{Home, ended, one_more}
use Rattle.aia_vcpu.specs.Home.Home.{OnWay}
use Rattle.aia_vcpu.specs.Home.Way.{Outward, Across}
use Rattle.aia_vcpu.specs.Routes.{reach_stepped}
use Rattle.aia_vcpu.specs.Aims.{aimed}
use Rattle.aia_vcpu.specs.BySteps.{own_file, next_file, old_file}
use Rattle.aia_vcpu_places.specs.Places.{Places, FilesFit}
use Rattle.aia_vcpu_places.specs.Holds.{IsWithin, Hand, Holds, IsEmpty, sees}
use Rattle.aia_vcpu_places.specs.Steps.{places_ended}
use Rattle.aia_vcpu_places.specs.Stores.{AreApart}
use Rattle.aia_vcpu_places.proofs.AccessKept.{access_kept}
use Rattle.aia_vcpu_places.proofs.AimKept.{aimed_kept}
use Rattle.aia_vcpu_places.proofs.MoveEnds.{move_ended, left_empty}
use Rattle.aia_fabric_values.specs.World.{World}
use Rattle.aia_fabric_values.specs.Whole.{IsWhole}
use Rattle.aia_fabric_values.specs.Changes.{spot_of, file_in}
use Rattle.aia_move_values.specs.Views.{places_of}
use Rattle.aia_fabric_values.proofs.WholeLemmas.{width_at, notice_hart_there}
use Rattle.aia_move_values.specs.declared.who.Who.{Who}
use Rattle.aia_move_values.specs.declared.turn.Outcome.{Outcome}
use Rattle.aia_move_values.specs.Plan.{GoesAiming}
use Rattle.aia_move_values.specs.Turns.{EndsAs, LeavesEmpty}
use Rattle.aia_move_values.specs.Move.{Moving, mover, width, MoveFits, Goes, Ends}
use Rattle.aia_move_values.proofs.ViewLemmas.{slot_low}
use Rattle.aia_move_values.proofs.MadeView.{made_view}
use Rattle.aia_move_values.proofs.TouchLemmas.{step_touches}
use Rattle.aia_regs.specs.declared.limits.TheConstants.{HARTS, SLOTS}

-- ---- what is known of the world

pub file_in-size : (w : World) (o : Option GuestPlace) → IsWhole w → ((p : GuestPlace) → o ≡ Some p → IsThere w.imsic (spot_of p))
    → (file_in w o).n ≡ w.n
file_in-size w None whole there = refl
file_in-size w (Some p) whole there = width_at w (spot_of p) whole (there p refl)

pub files_fit : (w : World) (m : Moving) → IsWhole w → MoveFits w m → FilesFit m.home
files_fit w m whole fits = record {
  own = λ p e. let there = fits.own p e in (omega (arith, there.0, whole.harts), omega (arith, there.2, whole.guests), there.1);
  next = λ p e. let there = fits.next p e in (omega (arith, there.0, whole.harts), omega (arith, there.2, whole.guests), there.1);
}

pub notice_low : (w : World) (m : Moving) → IsWhole w → MoveFits w m → m.who.found.notice < HARTS
notice_low w m whole fits = let low = notice_hart_there w (mover m) whole fits.there in omega (arith, low, fits.notice, whole.harts)

pub slot_few : (w : World) (m : Moving) → IsWhole w → MoveFits w m → m.who.found.slot < SLOTS
slot_few w m whole fits = let low = slot_low w (mover m) whole fits.there in omega (arith, low, fits.slot)

-- ---- the places are the same ones with a step more

further : (w : World) (g : Vcpu) (there : Home) → places_of w g (one_more there) ≡ places_of w g there
further w g (OnWay way at) = refl
further w g there = refl

aimed_view : (w : World) (g : Vcpu) (there : Home) → places_of w g (aimed there) ≡ places_of w g there
aimed_view w g (OnWay way at) = refl
aimed_view w g there = refl

at_end : (n : ℕ) (w : World) (g : Vcpu) (there : Home) → w.n ≡ n → places_of w g (ended there) ≡ places_ended n there (places_of w g there)
at_end n w g (OnWay (Outward from) at) e = ap (λ x. record (places_of w g (OnWay (Outward from) at)) { own = empty_file x }) e
at_end n w g (OnWay (Across from to) at) e = ap
    (λ x. record (places_of w g (OnWay (Across from to) at)) { own = (places_of w g (OnWay (Across from to) at)).next; next = empty_file x }) e
at_end n w g there e = refl

module _ (w u : World) (m : Moving) (whole : IsWhole w) (fits : MoveFits w m) (apart : AreApart m.home) (reach : Option GuestPlace)
    (file : InterruptFile) (saw : Bool) where
  -- a step is done, and it is not the last one
  pub goes_kept : (t : Moving) → Goes w m u t → IsWithin w.n (width w) file
      → Holds (width w) m.who.found.slot m.who.found.notice reach (places_of w (mover m) m.home) m.home m.hand file saw
      → Holds (width w) t.who.found.slot t.who.found.notice (reach_stepped m.home reach) (places_of u (mover t) t.home) t.home t.hand file
      (saw || sees (width w) m.home file)
  goes_kept t goes within h =
      let kept : Holds (width w) m.who.found.slot m.who.found.notice (reach_stepped m.home reach) (places_of u (mover m) m.home) (one_more m.home)
      t.hand file (saw || sees (width w) m.home file) =
      access_kept w.n (width w) m.who.found.slot m.who.found.notice reach goes.step.access m.home (places_of w (mover m) m.home) m.hand
      (places_of u (mover m) m.home) t.hand file saw within
      (file_in-size w (own_file m.home) whole fits.own) (file_in-size w (next_file m.home) whole fits.next) (files_fit w m whole fits)
      (slot_few w m whole fits) (notice_low w m whole fits)
      goes.step.is_next goes.more (made_view w u m t.hand whole fits apart goes.step) h in
      let same : Holds (width w) m.who.found.slot m.who.found.notice (reach_stepped m.home reach) (places_of u (mover m) (one_more m.home))
      (one_more m.home) t.hand file (saw || sees (width w) m.home file) =
      subst (λ (v : Places). Holds (width w) m.who.found.slot m.who.found.notice (reach_stepped m.home reach) v (one_more m.home) t.hand file
      (saw || sees (width w) m.home file)) (sym (further u (mover m) m.home)) kept in
      subst (λ (who : Who). Holds (width w) who.found.slot who.found.notice (reach_stepped m.home reach)
      (places_of u (vcpu_of who.found.vm who.found.vcpu) t.home) t.home t.hand file (saw || sees (width w) m.home file)) (sym goes.same_who)
      (subst (λ (there : Home). Holds (width w) m.who.found.slot m.who.found.notice (reach_stepped m.home reach) (places_of u (mover m) there)
      there t.hand file (saw || sees (width w) m.home file)) (sym goes.home) same)

  -- the last one is done, and the move ends
  pub ends_kept : (hand : Hand) → Ends w m u hand → IsWithin w.n (width w) file
      → Holds (width w) m.who.found.slot m.who.found.notice reach (places_of w (mover m) m.home) m.home m.hand file saw
      → Holds (width w) m.who.found.slot m.who.found.notice (reach_stepped m.home reach) (places_of u (mover m) (ended m.home)) (ended m.home)
      hand file false
  ends_kept hand ends within h =
      let touches = step_touches w u m hand whole fits ends.step in
      subst (λ (v : Places). Holds (width w) m.who.found.slot m.who.found.notice (reach_stepped m.home reach) v (ended m.home) hand file false)
      (sym (at_end w.n u (mover m) m.home (ap (λ (x : World). x.n) touches.rest)))
      (move_ended w.n (width w) m.who.found.slot m.who.found.notice reach ends.step.access m.home (places_of w (mover m) m.home) m.hand
      (places_of u (mover m) m.home) hand file saw within
      ends.step.is_next ends.last (made_view w u m hand whole fits apart ends.step) h)

  -- the file that it leaves is empty
  pub ends_empty : (hand : Hand) (p : GuestPlace) → Ends w m u hand → old_file m.home ≡ Some p
      → Holds (width w) m.who.found.slot m.who.found.notice reach (places_of w (mover m) m.home) m.home m.hand file saw
      → IsEmpty (shown (file_at u.imsic (spot_of p)))
  ends_empty hand p ends leaves h =
      subst (λ (f : InterruptFile). IsEmpty f) (ap (λ o. file_in u o) (old_is_own m.home p leaves))
      (left_empty (width w) m.who.found.slot m.who.found.notice reach ends.step.access m.home (places_of w (mover m) m.home) m.hand
      (places_of u (mover m) m.home) hand file saw p leaves
      ends.step.is_next ends.last (made_view w u m hand whole fits apart ends.step) h)
    where
      old_is_own : (there : Home) (p : GuestPlace) → old_file there ≡ Some p → own_file there ≡ Some p
      old_is_own (OnWay (Outward from) at) p e = e
      old_is_own (OnWay (Across from to) at) p e = e
      old_is_own there p e = absurd (cc)

-- a passed source is aimed
pub aims_kept : (w u : World) (m t : Moving) (reach : Option GuestPlace) (file : InterruptFile) (saw : Bool) → GoesAiming w m u t
    → Holds (width w) m.who.found.slot m.who.found.notice reach (places_of w (mover m) m.home) m.home m.hand file saw
    → Holds (width u) t.who.found.slot t.who.found.notice reach (places_of u (mover t) t.home) t.home t.hand file saw
aims_kept w u m t reach file saw goes h =
    let kept = aimed_kept (width w) m.who.found.slot m.who.found.notice reach (places_of w (mover m) m.home) m.home m.hand file saw h in
    let same : Holds (width w) m.who.found.slot m.who.found.notice reach (places_of w (mover m) (aimed m.home)) (aimed m.home) m.hand file saw =
    subst (λ (v : Places). Holds (width w) m.who.found.slot m.who.found.notice reach v (aimed m.home) m.hand file saw)
    (sym (aimed_view w (mover m) m.home)) kept in
    subst (λ (x : Moving). Holds (width u) x.who.found.slot x.who.found.notice reach (places_of u (mover x) x.home) x.home x.hand file saw)
    (sym goes.moved)
    (subst (λ (y : World). Holds (width y) m.who.found.slot m.who.found.notice reach (places_of y (mover m) (aimed m.home)) (aimed m.home) m.hand
    file saw) (sym goes.world) same)

-- so it is after the last step of a plan
pub ended_empty : (w u : World) (m : Moving) (o : Outcome) → IsWhole w → MoveFits w m → AreApart m.home → EndsAs w m u o → LeavesEmpty w m u
ended_empty w u m o whole fits apart ended = λ reach file saw p leaves h. ends_empty w u m whole fits apart reach file saw m.hand p
    ended.ends leaves h
