-- A fact that holds of each member of a list, said by places and by recursion.
use Rattle.std.proofs.Common.{zero, suc, List, [], ◌∷◌, arith}
use Rattle.std.specs.List.{All, AllByRecursion}
use Rattle.std.proofs.lemmas.List.Elements.{All-tail}

pub by_recursion : {X : Type 0} (P : X → Type 0) (xs : List X) → All P xs → AllByRecursion P xs
by_recursion P [] all = tt
by_recursion P (x ∷ xs) all = (all 0 x (omega arith), by_recursion P xs (All-tail P x xs all))

pub by_place : {X : Type 0} (P : X → Type 0) (xs : List X) → AllByRecursion P xs → All P xs
by_place P [] all k d inside = absurd (omega arith)
by_place P (x ∷ xs) all zero d inside = all.0
by_place P (x ∷ xs) all (suc k) d inside = by_place P xs all.1 k d (omega arith)
