use Rattle.std.proofs.Common.{refl}
use Rattle.aia_model.specs.Passes.{nth_pass}
use Rattle.aia_uses.proofs.passed.what_is_forwarded_comes.Goals as goal

pub returns : goal.returns
returns c = λ h line msi p good stands ok sent passed.
    c.none_comes_unasked_where_sources_are_passed.ensures.forwarded h line (nth_pass h p).to (nth_pass h p).identity good stands ok
    (record { msi = msi; p = p; sent = sent; passed = passed; to = refl; identity = refl })
