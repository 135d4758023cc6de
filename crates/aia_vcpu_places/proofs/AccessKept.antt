-- An access of a move keeps what the places hold; and the files keep their sizes.
use Rattle.std.proofs.Common.{◌≡◌, Option, ℕ, ◌<◌, Bool, true, false, ◌||◌, refl, sym, ◌∙◌, subst}
use Rattle.aia_file.specs.InterruptFile.{InterruptFile}
use Rattle.aia_vcpu.specs.declared.place.GuestPlace.{GuestPlace}
use Rattle.aia_vcpu.specs.Home.{Home, one_more}
use Rattle.aia_vcpu.specs.Plans.{is_at_last, IsNext}
use Rattle.aia_vcpu.specs.declared.access.Access.{Access}
use Rattle.aia_vcpu.specs.Home.Home.{OnWay}
use Rattle.aia_vcpu.specs.Home.Way.{Outward, Across}
use Rattle.aia_vcpu.specs.declared.access.Access.TheVariants.{PutDelivery, TakePending, PutPending, TakeEnables, PutEnables, PutThreshold}
use Rattle.aia_vcpu.specs.Routes.{reach_stepped}
use Rattle.aia_vcpu.proofs.RouteLemmas.{reach_after, reach_next}
use Rattle.aia_vcpu_places.specs.Places.{Places, TwoSets, FilesFit}
use Rattle.aia_vcpu_places.specs.Holds.{IsWithin, Hand, Holds, sees}
use Rattle.aia_vcpu_places.specs.Steps.{with_old, with_new, with_new_file, places_after, StepMade}
use Rattle.aia_vcpu_places.proofs.Kept.{kept_by}
use Rattle.aia_regs.specs.declared.limits.TheConstants.{HARTS, SLOTS}

-- ---- the sizes

module _ (n : ℕ) (v : Places) (own : v.own.n ≡ n) (next : v.next.n ≡ n) where
  with_old-sizes : (there : Home) (sets : TwoSets) → ((with_old there v sets).own.n ≡ n) × ((with_old there v sets).next.n ≡ n)
  with_old-sizes (OnWay (Outward from) at) sets = (own, next)
  with_old-sizes there sets = (own, next)

  with_new-sizes : (there : Home) (sets : TwoSets) → ((with_new there v sets).own.n ≡ n) × ((with_new there v sets).next.n ≡ n)
  with_new-sizes (OnWay (Outward from) at) sets = (own, next)
  with_new-sizes there sets = (own, next)

  with_new_file-sizes : (there : Home) (after : InterruptFile → InterruptFile) → ((file : InterruptFile) → (after file).n ≡ file.n)
      → ((with_new_file there v after).own.n ≡ n) × ((with_new_file there v after).next.n ≡ n)
  with_new_file-sizes (OnWay (Across from to) at) after same = (own, same v.next ∙ next)
  with_new_file-sizes there after same = (same v.own ∙ own, next)

  places_after-sizes : (q hart : ℕ) (access : Access) (there : Home) (hand : Hand) → ((places_after q hart access there v hand).own.n ≡ n)
      × ((places_after q hart access there v hand).next.n ≡ n)
  places_after-sizes q hart PutDelivery there hand = with_new_file-sizes there _ (λ file. refl)
  places_after-sizes q hart (TakePending w) there hand = with_old-sizes there _
  places_after-sizes q hart (PutPending w) there hand = with_new-sizes there _
  places_after-sizes q hart (TakeEnables w) there hand = with_old-sizes there _
  places_after-sizes q hart (PutEnables w) there hand = with_new-sizes there _
  places_after-sizes q hart PutThreshold there hand = with_new_file-sizes there _ (λ file. refl)
  places_after-sizes q hart access there hand = (own, next)

pub sizes_kept : (n q hart : ℕ) (access : Access) (there : Home) (v : Places) (hand : Hand) (u : Places) (now : Hand) → v.own.n ≡ n → v.next.n ≡ n
    → StepMade q hart access there v hand u now
    → (u.own.n ≡ n) × (u.next.n ≡ n)
sizes_kept n q hart access there v hand u now own next made =
    subst (λ (x : Places). (x.own.n ≡ n) × (x.next.n ≡ n)) (sym made.places) (places_after-sizes n v own next q hart access there hand)

-- ---- what they hold

moved_kept : (n words q hart : ℕ) (reach : Option GuestPlace) (access : Access) (there : Home) (v : Places) (hand : Hand) (u : Places)
    (now : Hand) (file : InterruptFile) (saw : Bool) → IsWithin n words file → v.own.n ≡ n → v.next.n ≡ n
    → FilesFit there → q < SLOTS → hart < HARTS → IsNext words there access → is_at_last words there ≡ false
    → StepMade q hart access there v hand u now → Holds words q hart reach v there hand file saw
    → Holds words q hart (reach_after access there reach) (places_after q hart access there v hand) (one_more there) now file
    (saw || sees words there file)
moved_kept n words q hart reach access (OnWay way at) v hand u now file saw within own next fits low few step more made h =
    kept_by words q hart reach way at n v hand now file saw within own next fits low few access step more made.carried h
moved_kept n words q hart reach access there v hand u now file saw within own next fits low few step more made h = let no : false ≡ true =
    step.has in absurd (cc)

-- the last step of a move ends it: MoveEnds
pub access_kept : (n words q hart : ℕ) (reach : Option GuestPlace) (access : Access) (there : Home) (v : Places) (hand : Hand) (u : Places)
    (now : Hand) (file : InterruptFile) (saw : Bool) → IsWithin n words file → v.own.n ≡ n → v.next.n ≡ n
    → FilesFit there → q < SLOTS → hart < HARTS → IsNext words there access → is_at_last words there ≡ false
    → StepMade q hart access there v hand u now → Holds words q hart reach v there hand file saw
    → Holds words q hart (reach_stepped there reach) u (one_more there) now file (saw || sees words there file)
access_kept n words q hart reach access there v hand u now file saw within own next fits low few step more made h =
    subst (λ (x : Places). Holds words q hart (reach_stepped there reach) x (one_more there) now file (saw || sees words there file))
    (sym made.places) (subst (λ o. Holds words q hart o (places_after q hart access there v hand) (one_more there) now file
    (saw || sees words there file)) (reach_next words there access reach step)
    (moved_kept n words q hart reach access there v hand u now file saw within own next fits low few step more made h))
