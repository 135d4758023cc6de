use Rattle.std.proofs.Common.{◌≡◌, ℕ, ◌&&◌, nat_lt}
use Rattle.std.specs.Int.{is_in_range}
use Rattle.aia_word.specs.Sets.{has_bit}
use Rattle.aia_file.specs.InterruptFile.{signals}
use Rattle.aia_file.specs.FileState.{shown}
use Rattle.aia_file.specs.declared.spot.Spot.TheVariants.{GuestFile}
use Rattle.aia_file.specs.Imsic.{file_at}
use Rattle.aia_imsic.proofs.imsic.Imsic.hgeip.Given as goal

abbrev pub invariant-loop-file : goal.invariant-loop-file
invariant-loop-file l = (j : ℕ) → has_bit l.bits
    j ≡ (nat_lt j l.file && (is_in_range 1 l.self.guests j && signals (shown (file_at l.self (GuestFile l.hart j)))))
