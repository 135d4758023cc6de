-- A fact that holds of each member of a list, said by places and by recursion.
use Rattle.std.proofs.Common.{List, [], ◌∷◌, arith}
use Rattle.std.specs.List.{All, AllByRecursion}
use Rattle.std.proofs.lemmas.List.Elements.{All-tail}

pub recursively : {X : Type 0} (P : X → Type 0) (xs : List X) → All P xs → AllByRecursion P xs
recursively P [] all = tt
recursively P (x ∷ xs) all = (all 0 x (omega arith), recursively P xs (All-tail P x xs all))
