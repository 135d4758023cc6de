use Rattle.std.proofs.Common.{◌≡◌, ◌-◌, ◌^◌, ◌<◌, length, drop}
use Rattle.aia_script.specs.declared.number.Radix.TheVariants.{Decimal}
use Rattle.aia_script.specs.Digits.{below_limit, number_from}
use Rattle.aia_script.proofs.number.decimal.Given as goal

abbrev pub invariant-loop-at : goal.invariant-loop-at
invariant-loop-at l = record {
  same : below_limit (number_from Decimal (length l.text - l.at) l.number (drop l.at l.text)) ≡ below_limit
      (number_from Decimal (length l.text) l.first l.text);
  low : l.number < 2 ^ 64;
}
