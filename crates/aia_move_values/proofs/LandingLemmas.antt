-- What lands before a step of a move: all stores in flight of its VM at its fence, none elsewhere.
use Rattle.std.proofs.Common.{◌≡◌, ℕ, Bool, true, false, length, refl, sym, ap, subst, ◌∙◌}
use Rattle.std.proofs.lemmas.Bool.{false≢true}
use Rattle.aia_vcpu.specs.Plans.{is_at_last}
use Rattle.aia_vcpu.proofs.RouteLemmas.{unlast}
use Rattle.aia_vcpu.specs.Routes.{is_at_fence}
use Rattle.aia_fabric_values.specs.World.{World, flight_of}
use Rattle.aia_fabric_values.specs.Whole.{IsWhole}
use Rattle.aia_fabric_values.specs.Flights.{Fences, LandsAll}
use Rattle.aia_fabric_values.proofs.FlightLemmas.{all_landed_rest}
use Rattle.aia_move_values.specs.Move.{Moving}
use Rattle.aia_move_values.specs.Touches.{SameMachine}
use Rattle.aia_move_values.specs.Landings.{LandsFirst, OnceLanded}

pub same_landed : (w u : World) (vm : ℕ) → LandsAll w u vm → SameMachine w u
same_landed w u vm lands =
    let rest = all_landed_rest (length (flight_of w vm)) w u vm lands in
    record {
      n = ap (λ (x : World). x.n) rest;
      vms = ap (λ (x : World). x.vms) rest;
      harts = ap (λ (x : World). x.imsic.harts) rest;
      guests = ap (λ (x : World). x.imsic.guests) rest;
    }

-- at the fence
pub all_first : (w u : World) (m : Moving) (fences : Fences w u m.who.found.vm m.who.found.vcpu) → is_at_fence m.home ≡ true
    → LandsFirst w m fences.landed
all_first w u m fences at = record {
  fence = λ e. (fences.lands, fences.whole);
  other = λ e. absurd (false≢true (sym e ∙ at));
  same = same_landed w fences.landed m.who.found.vm fences.lands;
}

-- and elsewhere
pub none_first : (w : World) (m : Moving) → is_at_fence m.home ≡ false → LandsFirst w m w
none_first w m other = record {
  fence = λ e. absurd (false≢true (sym other ∙ e));
  other = λ e. refl;
  same = record { n = refl; vms = refl; harts = refl; guests = refl };
}

pub none_lands : (w : World) (m : Moving) (P : World → Type 0) → is_at_fence m.home ≡ false → P w → OnceLanded w m P
none_lands w m P other then = record { landed = w; first = none_first w m other; then = then }

-- a whole world is whole still
pub landed_whole : (w : World) (m : Moving) (landed : World) → IsWhole w → LandsFirst w m landed → IsWhole landed
landed_whole w m landed whole first = by_fence (is_at_fence m.home) refl
  where
    by_fence : (b : Bool) → is_at_fence m.home ≡ b → IsWhole landed
    by_fence true at = (first.fence at).1
    by_fence false other = subst IsWhole (sym (first.other other)) whole

-- the last step is none
pub none_at_last : (w : World) (m : Moving) (landed : World) (words : ℕ) → LandsFirst w m landed → is_at_last words m.home ≡ true → landed ≡ w
none_at_last w m landed words first last = by_fence (is_at_fence m.home) refl
  where
    by_fence : (b : Bool) → is_at_fence m.home ≡ b → landed ≡ w
    by_fence true at = absurd (false≢true (sym (unlast words m.home at) ∙ last))
    by_fence false other = first.other other
