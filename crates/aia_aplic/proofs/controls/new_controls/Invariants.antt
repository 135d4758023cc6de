use Rattle.std.proofs.Common.{◌≡◌, length, All}
use Rattle.aia_direct.specs.Idc.{IdcState, new_idc}
use Rattle.aia_aplic.proofs.controls.new_controls.Given as goal

abbrev pub invariant-loop-hart : goal.invariant-loop-hart
invariant-loop-hart l = (length l.controls.items ≡ l._hart) × All (λ (x : IdcState). x ≡ new_idc) l.controls.items
