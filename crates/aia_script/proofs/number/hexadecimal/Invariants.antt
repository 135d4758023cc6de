use Rattle.std.proofs.Common.{◌≡◌, ◌+◌, ◌-◌, ◌^◌, ◌<◌, drop}
use Rattle.aia_script.specs.declared.number.Radix.TheVariants.{Hexadecimal}
use Rattle.aia_script.specs.Digits.{below_limit, number_from}
use Rattle.aia_script.proofs.number.hexadecimal.Given as goal

abbrev pub invariant-loop-at : goal.invariant-loop-at
invariant-loop-at l = record {
  same : below_limit (number_from Hexadecimal (15 - l.at) l.number (drop l.at l.text)) ≡ below_limit (number_from Hexadecimal 15 l.first l.text);
  low : l.number < 16 ^ (l.at + 1);
}
