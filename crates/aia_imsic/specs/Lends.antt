-- What becomes of all files where one is lent.
use Rattle.std.specs.Borrow.{Lends, MutBor, Fml}
use Rattle.aia_file.specs.FileState.{FileState}
use Rattle.aia_file.specs.contracts.file.File as file
use Rattle.aia_file.specs.declared.spot.Spot.{Spot}
use Rattle.aia_file.specs.Imsic.{ImsicState, with_file}
use Rattle.aia_imsic.specs.contracts.imsic.Imsic.{the_row}

-- The files end as they were, but for the lent one, which ends as the borrower leaves it.
abbrev pub LendsFile : MutBor ImsicState → Spot → MutBor FileState → Fml
LendsFile all spot lent = Lends the_row file.the_row all lent (with_file all.now spot)
