-- Which identities register k of a set shows, for an even k: those of word k / 2, but for 0.
use Rattle.std.proofs.Common.{◌≡◌, ◌≢◌, ℕ, ◌+◌, ◌*◌, ◌/◌, ◌%◌, ◌<◌, ◌≤◌, false, not, nat_eq, arith}
use Rattle.std.proofs.lemmas.Bool.Decides.{nat_tests}
use Rattle.aia_regs.specs.FileRegisters.{shows}

-- the identities that it shows are those of one word, but for 0
pub shows_here : (n k i : ℕ) → k % 2 ≡ 0 → 64 * (k / 2) + 63 ≤ n → i / 64 ≡ k / 2 → shows n k i ≡ not (nat_eq i 0)
shows_here n k i even within e = grind (arith, nat_tests)

pub shows_elsewhere : (n k i : ℕ) → k % 2 ≡ 0 → i / 64 ≢ k / 2 → shows n k i ≡ false
shows_elsewhere n k i even ne = grind (arith, nat_tests)

pub shows_none : (n k i : ℕ) → k % 2 ≡ 0 → n < 64 * (k / 2) → shows n k i ≡ false
shows_none n k i even past = grind (arith, nat_tests)
