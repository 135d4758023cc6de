-- How many identities a file has, at most and at least.
use Rattle.std.proofs.Common.{◌≡◌, ℕ, ◌≤◌, true, arith}
use Rattle.std.proofs.lemmas.Bool.Decides.{nat_tests}
use Rattle.aia_regs.specs.declared.limits.TheConstants.{IDENTITIES}
use Rattle.aia_file.specs.InterruptFile.{is_greatest_identity}

pub few_identities : (n : ℕ) → is_greatest_identity n ≡ true → n ≤ IDENTITIES
few_identities n greatest = grind (arith, nat_tests)

pub enough_identities : (n : ℕ) → is_greatest_identity n ≡ true → 63 ≤ n
enough_identities n greatest = grind (arith, nat_tests)
