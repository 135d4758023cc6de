-- Bytes that are cut at LF, and a line that is kept as far as there is room.
use Rattle.std.proofs.Common.{◌≡◌, ℕ, ◌+◌, ◌<◌, Bool, false, List, [], ◌∷◌, ◌++◌, length, take, min, Option, Some, None, inl, inr, refl, sym, ap, ◌∙◌, arith}
use Rattle.std.specs.Prelude.{position}
use Rattle.std.specs.List.{position_or_len}
use Rattle.std.proofs.lemmas.List.{take_all, length-take, length-append, take-append-le}
use Rattle.std.proofs.Math.Seq.{take-length, take-append-add}
use Rattle.std.proofs.lemmas.List.Sums.{fails_before_first, passes_at_first}
use Rattle.std.proofs.lemmas.Bool.{cases_lt, cond-true, cond-false, lt-ltb, le-ltb, false≢true}
use Rattle.memchr.specs.Find.{IsFirstByte}
use Rattle.aia_io.specs.Lines.{NoEnd}
use Rattle.aia_io.proofs.CutLemmas.{front_cut, last_cut}
use Rattle.aia_model.specs.Text.{texts_of}

-- the first place that a search finds
pub first_place : (p : ℕ → Bool) (bytes : List ℕ) (r : Option ℕ) → IsFirstByte p bytes r → r ≡ position p bytes
first_place p bytes None nowhere =
    elim (cases_lt (position_or_len p bytes) (length bytes)) [
      | inl there ↦ absurd (nowhere (position_or_len p bytes) (omega arith) there (passes_at_first p bytes 0 there))
      | inr past ↦ sym (cond-false _ _ _ (le-ltb _ _ past))
    ]
first_place p bytes (Some k) found =
    let before = found.0 in
    elim (cases_lt (position_or_len p bytes) k) [
      | inl sooner ↦ absurd (before.before (position_or_len p bytes) (omega arith) sooner (passes_at_first p bytes 0 (omega (arith, before.high))))
      | inr late ↦ elim (cases_lt k (position_or_len p bytes)) [
        | inl later ↦ absurd (false≢true (sym (fails_before_first p bytes k 0 later) ∙ found.1))
        | inr same ↦
            let is : k ≡ position_or_len p bytes = omega arith in
            let there : position_or_len p bytes < length bytes = omega (arith, before.high) in
            ap Some is ∙ sym (cond-true _ _ _ (lt-ltb _ _ there))
      ]
    ]

-- ---- texts

pub texts_front : (front rest : List ℕ) → NoEnd front → texts_of (front ++ 10 ∷ rest) ≡ front ∷ texts_of rest
texts_front = front_cut texts_of (record { none = refl; more = λ b bytes. refl })

pub texts_last : (x : ℕ) (xs : List ℕ) → NoEnd (x ∷ xs) → texts_of (x ∷ xs) ≡ (x ∷ xs) ∷ []
texts_last = last_cut texts_of (record { none = refl; more = λ b bytes. refl })

-- ---- a line that is kept as far as there is room

-- a part is kept
pub part_fits : (line part : List ℕ) (room n : ℕ) → length line + room ≡ 129 → n ≡ min (length part) room
    → line ++ take n part ≡ take 129 (line ++ part)
part_fits line part room n whole e =
    elim (cases_lt room (length part)) [
      | inl longer ↦ let n_is : n ≡ room = omega arith in ap (λ k. line ++ take k part) n_is
          ∙ sym (ap (λ k. take k (line ++ part)) (sym whole) ∙ take-append-add line part room)
      | inr fits ↦ let n_is : n ≡ length part = omega arith in ap (λ k. line ++ take k part) n_is ∙ ap (λ xs. line ++ xs) (take-length part)
          ∙ sym (take_all 129 (line ++ part) (omega (arith, length-append line part)))
    ]

-- of a line that is kept a part more makes what is kept of the longer line
pub take_again : (tail part : List ℕ) (n : ℕ) → take n (take n tail ++ part) ≡ take n (tail ++ part)
take_again tail part n =
    elim (cases_lt (length tail) n) [
      | inl short ↦ ap (λ xs. take n (xs ++ part)) (take_all n tail (omega arith))
      | inr long ↦ take-append-le n (take n tail) part (omega (arith, length-take n tail))
          ∙ take_all n (take n tail) (omega (arith, length-take n tail)) ∙ sym (take-append-le n tail part long)
    ]
