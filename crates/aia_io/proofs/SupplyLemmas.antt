-- What several reads give together.
use Rattle.std.proofs.Common.{ℕ, List, [], ◌++◌, ◌∙◌, arith}
use Rattle.std.proofs.lemmas.List.{length-append}
use Rattle.std.proofs.KnownBytes.{Consumes-nil, Consumes-trans, Consumes-kept}
use Rattle.aia_io.specs.Ends.{Supply, Gives, GivesNone}

pub gives_nothing : (a : Supply) → Gives a a []
gives_nothing a = (Consumes-nil a.to_come, omega arith)

pub gives_more : (a b c : Supply) (bs cs : List ℕ) → Gives a b bs → Gives b c cs → Gives a c (bs ++ cs)
gives_more a b c bs cs first second = (
  Consumes-trans a.to_come b.to_come c.to_come bs cs first.0 second.0,
  omega (arith, length-append bs cs, first.1, second.1),
)

pub gives_no_more : (a b c : Supply) (bs : List ℕ) → Gives a b bs → GivesNone b c → Gives a c bs
gives_no_more a b c bs first none = (Consumes-kept a.to_come b.to_come c.to_come bs first.0 none.0, none.1 ∙ first.1)
