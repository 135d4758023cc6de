-- A word of a file, and a file, are ones that a machine may have.
use Rattle.std.proofs.Common.{ℕ, ◌<◌, ◌≤◌, arith}
use Rattle.std.proofs.lemmas.Bool.Decides.{nat_tests}
use Rattle.aia_regs.specs.declared.limits.TheConstants.{HARTS, GUEST_FILES, IDENTITIES, FILE_WORDS}
use Rattle.aia_vcpu.specs.declared.place.GuestPlace.{GuestPlace}
use Rattle.aia_fabric_values.specs.World.{World}
use Rattle.aia_fabric_values.specs.Whole.{IsWhole}
use Rattle.aia_move_values.specs.Move.{width}
use Rattle.aia_rehearsal.specs.declared.place.Place.TheVariants.{File}
use Rattle.aia_rehearsal.specs.Rehearsed.{IsFileThere}

pub few_words : (w : World) → IsWhole w → width w ≤ FILE_WORDS
few_words w whole = let greatest = whole.greatest in let few : w.n ≤ IDENTITIES = grind (arith, nat_tests) in omega arith

pub word_in : (w : World) (k : ℕ) → IsWhole w → k < width w → k < FILE_WORDS
word_in w k whole low = let few = few_words w whole in omega (arith, few, low)

-- a file that is there is one that a machine may have
pub file_in_map : (w : World) (p : GuestPlace) → IsWhole w → IsFileThere w (File p) → (p.hart < HARTS) × (p.file ≤ GUEST_FILES)
file_in_map w p whole there = (omega (arith, there.0, whole.harts), omega (arith, there.2, whole.guests))
