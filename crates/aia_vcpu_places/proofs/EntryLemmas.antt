-- The words of an entry that leads to a place say that entry; a move leads to a file of the map.
use Rattle.std.proofs.Common.{◌≡◌, ℕ, ◌+◌, ◌/◌, ◌<◌, Option, Some, None, inl, inr, refl, arith}
use Rattle.aia_regs.specs.declared.address_map.TheConstants.{PAGE}
use Rattle.aia_regs.specs.AddressMap.{supervisor_page, guest_page, slot_address}
use Rattle.aia_entry.specs.Format.{decoded}
use Rattle.aia_entry.proofs.FormatLemmas.{basic_back, mrif_back}
use Rattle.aia_vcpu.specs.declared.place.GuestPlace.{GuestPlace}
use Rattle.aia_vcpu.specs.Home.{Way, led_to, Progress}
use Rattle.aia_vcpu.specs.Home.Home.{OnWay}
use Rattle.aia_vcpu.proofs.HomeLemmas.{led_to_is_held}
use Rattle.aia_vcpu_places.specs.Places.{leads_to, entry_word, second_word, IsInMap, FilesFit}
use Rattle.aia_regs.specs.declared.limits.TheConstants.{HARTS, SLOTS}

pub entry_back : (q hart : ℕ) (o : Option GuestPlace) → q < SLOTS → hart < HARTS → ((p : GuestPlace) → o ≡ Some p → IsInMap p)
    → decoded (entry_word q o) (second_word q hart) ≡ leads_to q hart o
entry_back q hart None low few fits = mrif_back (slot_address q) (supervisor_page hart / PAGE) (q + 1) (omega arith) (omega arith) (omega arith)
    (omega arith)
entry_back q hart (Some p) low few fits = let near = fits p refl in basic_back (guest_page p.hart p.file / PAGE) (second_word q hart) (omega arith)

pub new_fits : (way : Way) (at : Progress) → FilesFit (OnWay way at) → (p : GuestPlace) → led_to way ≡ Some p → IsInMap p
new_fits way at fits p e = elim (led_to_is_held way p e) [
  | inl own ↦ fits.own p own
  | inr next ↦ fits.next p next
]
