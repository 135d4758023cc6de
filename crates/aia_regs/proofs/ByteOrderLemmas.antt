-- To reverse the bytes of a word twice gives the word back.
use Rattle.std.proofs.Common.{◌≡◌, ℕ, ◌^◌, ◌<◌, arith}
use Rattle.std.specs.Int.{swap_bytes, w32}

pub swapped_twice : (x : ℕ) → x < 2 ^ 32 → swap_bytes w32 (swap_bytes w32 x) ≡ x
swapped_twice x fits = omega arith
