-- Bytes that are read and written in pieces.
use Rattle.std.proofs.Common.{◌≡◌, ℕ, ◌+◌, ◌-◌, ◌<◌, ◌≤◌, false, nat_eq, List, ◌++◌, length, take, drop, Option, refl, sym, ap, subst, ◌∙◌, arith}
use Rattle.std.proofs.lemmas.Bool.{eqb-false}
use Rattle.std.proofs.lemmas.List.{take-append-drop, take-append-le, length-take}
use Rattle.std.proofs.Math.Seq.{take-add}
use Rattle.std.proofs.lemmas.Grind.{common_steps}
use Rattle.std.specs.Io.KnownBytes.{Appends, Keeps}
use Rattle.std.proofs.KnownBytes.{Appends-trans, Appends-kept, Consumes-whole}
use Rattle.aia_io.specs.Ends.{Supply, Gives, Reads, ReadsFront, CutOff}
use Rattle.aia_io.specs.declared.source.Read.{Read}
use Rattle.aia_io.specs.declared.source.Read.TheVariants as reads
use Rattle.aia_io.proofs.SupplyLemmas.{gives_more, gives_no_more}
use Rattle.aia_io.specs.Taken.{ReadsOn}

-- ---- what one read takes

pub reads_on : (old new : Supply) (buffer rest : List ℕ) (read : Read) → Reads old new buffer read → ReadsOn old new (buffer ++ rest) read
reads_on old new buffer rest (reads.Got n) took =
    let front = take-append-le n buffer rest took.1 in (
      ap length front ∙ omega (arith, length-take n buffer, took.1),
      λ left bytes so_far. subst (λ xs. Gives left new (bytes ++ xs)) (sym front) (gives_more left old new bytes (take n buffer) so_far took.2),
    )
reads_on old new buffer rest reads.End ended =
    λ left bytes so_far. (
      gives_no_more left old new bytes so_far ended.1,
      Consumes-whole left.to_come old.to_come bytes (λ all. all ≡ bytes) so_far.0 ended.0 refl,
    )
reads_on old new buffer rest reads.Failed kept = λ left bytes so_far. gives_no_more left old new bytes so_far kept.0

-- what a read of fewer bytes gives is what one of more may give
pub reads_more : (asked most : ℕ) (old new : Supply) (piece : List ℕ) (read : Read) → asked ≤ most → ReadsFront asked old new piece read
    → ReadsFront most old new piece read
reads_more asked most old new piece (reads.Got n) few took = (took.0, omega (arith, few, took.1), took.2, took.3)
reads_more asked most old new piece reads.End few ended = ended
reads_more asked most old new piece reads.Failed few kept = kept

-- a read of one byte at most gives one
pub one_read : (P : Read → Type 0) (n : ℕ) → n ≡ 1 → P (reads.Got n) → P (reads.Got 1)
one_read P n one holds = subst (λ (k : ℕ). P (reads.Got k)) one holds

-- ---- writing

pub all_of_rest : (bytes : List ℕ) (at : ℕ) → take (length bytes - at) (drop at bytes) ≡ drop at bytes
all_of_rest bytes at = grind (arith, common_steps)

-- what was taken of `bytes[at..]`
pub wrote_more : (before mid now : Option (List ℕ)) (bytes : List ℕ) (at n : ℕ) → Appends before mid (take at bytes)
    → Appends mid now (take n (take (length bytes - at) (drop at bytes))) → Appends before now (take (at + n) bytes)
wrote_more before mid now bytes at n a b =
    subst (Appends before now) (sym (take-add at n bytes))
    (Appends-trans before mid now _ _ a (subst (λ (rest : List ℕ). Appends mid now (take n rest)) (all_of_rest bytes at) b))

-- the sink fails after a part
pub cut_here : (before mid now : Option (List ℕ)) (bytes : List ℕ) (at : ℕ) → Appends before mid (take at bytes) → Keeps mid now
    → CutOff before now bytes
cut_here before mid now bytes at wrote kept = record {
  part = take at bytes;
  lost = drop at bytes;
  appended = Appends-kept before mid now (take at bytes) wrote kept;
  together = take-append-drop at bytes;
}

-- what a test of a length says
pub not_empty : (n : ℕ) → false ≡ nat_eq n 0 → 0 < n
not_empty n e = omega (arith, eqb-false n 0 (sym e))
