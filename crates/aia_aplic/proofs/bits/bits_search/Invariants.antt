use Rattle.std.proofs.Common.{◌≡◌, ◌+◌, ◌*◌}
use Rattle.aia_model.specs.declared.domain_name.DomainName.TheVariants.{Root, Child}
use Rattle.aia_aplic_values.proofs.BitsLemmas.{ShowNone}
use Rattle.aia_aplic.proofs.bits.bits_search.Given as goal

abbrev pub invariant-loop-k : goal.invariant-loop-k
invariant-loop-k g l =
    ShowNone (g.T.Bits.members l.fn.bits Root) (g.T.Bits.members l.fn.bits Child) l.k × g.T.Bits.IsSamePlace l.fn.bits l.bits
    × (g.T.Bits.members l.bits ≡ g.T.Bits.members l.fn.bits) × (g.T.Bits.count l.bits ≡ g.T.Bits.count l.fn.bits + 2 * l.k)
