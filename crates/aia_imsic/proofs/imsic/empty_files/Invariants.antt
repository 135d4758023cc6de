use Rattle.std.proofs.Common.{◌≡◌, length, All}
use Rattle.aia_file.specs.InterruptFile.{SameFile, empty_file}
use Rattle.aia_file.specs.FileState.{FileState, shown}
use Rattle.aia_imsic.proofs.imsic.empty_files.Given as goal

abbrev pub invariant-loop-place : goal.invariant-loop-place
invariant-loop-place l = (length l.files.items ≡ l._place) × All (λ (f : FileState). SameFile (shown f) (empty_file l.n)) l.files.items
    × All (λ (f : FileState). f.n ≡ l.n) l.files.items
