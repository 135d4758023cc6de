use Rattle.std.specs.Prelude.{◌≡◌, ◌++◌, replicate}
use Rattle.aia_hyp_values.specs.Core.{no_record}
use Rattle.aia_hyp.proofs.hypervisor_core.add_records.Given as goal

-- so many records are added
abbrev pub invariant-loop : goal.invariant-loop
invariant-loop l = l.vcpus.items ≡ l.fn.vcpus.items ++ replicate l.counter no_record
