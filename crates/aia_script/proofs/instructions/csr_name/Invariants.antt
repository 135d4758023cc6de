use Rattle.std.proofs.Common.{◌≡◌, map, drop}
use Rattle.aia_model.specs.Grammar.{name_among, csr_name}
use Rattle.aia_script.proofs.instructions.csr_name.Given as goal

abbrev pub invariant-loop-name : goal.invariant-loop-name
invariant-loop-name l = name_among (map (λ row. (row.0.now, row.1)) (drop l.name-index l.name-items)) l.csr ≡ csr_name l.fn.level l.csr
