use Rattle.std.proofs.Common.{w32, sym, subst}
use Rattle.std.specs.Prelude.{ℤ}
use Rattle.std.proofs.lemmas.Int.{to_z-of_z}
use Rattle.aia_c.specs.Codes.{wide_of}
use Rattle.aia_c.specs.Calls.{Fetches}
use Rattle.aia_c.proofs.ServingLemmas.{served}
use Rattle.aia_c.proofs.serve.read.Goals as goal

pub returns : goal.returns
returns c =
    let fetches = λ (code : ℤ). Fetches wide_of c.args.handle.now.engine c.serve-given.new.handle.engine c.args.line.now code c.wide_in.result in
    subst fetches (sym (to_z-of_z w32 c.number_of.result (record { sfits = c.number_of.type_inv })))
    (served wide_of _ _ _ c.serve-given.result _ _ c.serve-given.ensures c.number_of.ensures c.wide_in.ensures c.requires.plain)
