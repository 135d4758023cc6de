-- How many ones the masks of the tests have.
use Rattle.std.proofs.Common.{◌≡◌, refl}
use Rattle.aia_word.specs.Packed.{ones}

pub two_ones : ones 64 0x28 ≡ 2
unfolding ones
two_ones = refl

pub one_one : ones 64 0x8 ≡ 1
unfolding ones
one_one = refl
