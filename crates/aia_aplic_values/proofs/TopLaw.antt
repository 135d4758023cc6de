-- The source on top is the least of the hart's.
use Rattle.std.proofs.Common.{◌≡◌, ℕ, ◌≤◌, Bool, true, false, cond, Option, Some, None, refl, sym, ap, ◌∙◌, arith}
use Rattle.std.proofs.lemmas.Bool.{cond-true, cond-false}
use Rattle.std.proofs.lemmas.Option.{same_Some}
use Rattle.aia_regs.specs.Top.{Pair, least_pair, NamesItself, priority_of, pair_if}
use Rattle.aia_regs.proofs.TopLemmas.{least_found, least_none}
use Rattle.aia_model.specs.declared.domain_name.DomainName.{DomainName}
use Rattle.aia_model.specs.Act.{Past}
use Rattle.aia_model.specs.SourceOf.{sources_in, target, pending, delivers_by_msis, is_for, pair_in, top}
use Rattle.aia_aplic_values.specs.Tops.{IsOnTop}

-- what it is to have a pair
record HasPair (a b : Bool) (t s : ℕ) (q : Pair) : Type 0 where
  for_it : a ≡ true
  member : b ≡ true
  is : q ≡ (priority_of t, s)

has_pair : (a b : Bool) (t s : ℕ) (q : Pair) → cond a (pair_if b t s) None ≡ Some q → HasPair a b t s q
has_pair true true t s q e = record { for_it = refl; member = refl; is = sym (same_Some (priority_of t, s) q e) }
has_pair true false t s q e = absurd (cc)
has_pair false b t s q e = absurd (cc)

pair_of : (past : Past) (d : DomainName) (hart s : ℕ) → pending past d s ≡ true → is_for past d hart s ≡ true
    → pair_in (pending past d) past d hart s ≡ Some (priority_of (target past d s), s)
pair_of past d hart s p f = cond-true _ _ _ f ∙ cond-true _ _ _ p

names_itself : (past : Past) (d : DomainName) (hart : ℕ) → NamesItself (pair_in (pending past d) past d hart)
names_itself past d hart s q e = ap (λ (p : Pair). p.1) ((has_pair (is_for past d hart s) (pending past d s) (target past d s) s q e).is)

-- something is on top in direct delivery alone
chosen : (msi : Bool) (o : Option Pair) (p : Pair) → cond msi None o ≡ Some p → (msi ≡ false) × (o ≡ Some p)
chosen true o p e = absurd (cc)
chosen false o p e = (refl, e)

pub on_top : (past : Past) (d : DomainName) (hart : ℕ) (p : Pair) → top past d hart ≡ Some p → IsOnTop past d hart p
on_top past d hart p e =
    let found = chosen (delivers_by_msis past d) (least_pair (pair_in (pending past d) past d hart) 1 (sources_in past)) p e in
    let least = least_found (pair_in (pending past d) past d hart) 1 (sources_in past) p (names_itself past d hart) found.1 in
    let has = has_pair (is_for past d hart p.1) (pending past d p.1) (target past d p.1) p.1 p least.is in
    record {
      direct = found.0;
      some = least.low;
      within = omega (arith, least.high);
      waits = has.member;
      here = has.for_it;
      priority = ap (λ (q : Pair). q.0) has.is;
      least = λ s low high waits is. least.least s (priority_of (target past d s), s) low (omega arith) (pair_of past d hart s waits is);
    }

-- where nothing is, no pending source is the hart's
no_pair : (a b : Bool) (t s : ℕ) → cond a (pair_if b t s) None ≡ None → a ≡ true → b ≡ false
no_pair true true t s e f = absurd (cc)
no_pair true false t s e f = refl
no_pair false b t s e f = absurd (cc)

pub none_on_top : (past : Past) (d : DomainName) (hart : ℕ) → delivers_by_msis past d ≡ false → top past d hart ≡ None → (s : ℕ) → 1 ≤ s
    → s ≤ sources_in past → is_for past d hart s ≡ true → pending past d s ≡ false
none_on_top past d hart direct e s low high is =
    let empty : least_pair (pair_in (pending past d) past d hart) 1 (sources_in past) ≡ None = sym (cond-false _ _ _ direct) ∙ e in
    no_pair (is_for past d hart s) (pending past d s) (target past d s) s
    (least_none (pair_in (pending past d) past d hart) 1 (sources_in past) (names_itself past d hart) empty s low (omega arith)) is
