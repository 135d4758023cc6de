-- The file of a virtual hart that a history gives, and stores that ask at it.
use Rattle.std.proofs.Common.{◌≡◌, ◌≢◌, ℕ, ◌≤◌, Bool, true, false, cond, Option, Some, None, inl, inr, refl, sym, ap, subst, ◌∙◌, arith}
use Rattle.std.specs.Int.{is_in_range}
use Rattle.std.proofs.lemmas.Bool.{cases_eq, ne_eqb, false≢true}
use Rattle.std.proofs.lemmas.Bool.Decides.{nat_tests}
use Rattle.aia_regs.specs.BitUpdate.{names}
use Rattle.aia_regs.specs.BitUpdate.BitUpdate.{Ask, Nothing}
use Rattle.aia_regs.specs.Request.{number_written, implemented, request_said}
use Rattle.aia_file.specs.InterruptFile.{is_greatest_identity}
use Rattle.aia_regs.specs.declared.limits.TheConstants.{IDENTITIES}

-- ---- a store that asks of more identities says the same of those of the file

said_within_by : (o : Option ℕ) (n i : ℕ) → n ≤ IDENTITIES → i ≤ n
    → cond (names (implemented IDENTITIES o) i) Ask Nothing ≡ cond (names (implemented n o) i) Ask Nothing
said_within_by None n i few low = refl
said_within_by (Some x) n i few low =
    elim (cases_eq x i) [
      | inl e ↦ let same : is_in_range 1 IDENTITIES x ≡ is_in_range 1 n x = in_both x i n few low e in
          ap (λ b. cond (names (cond b (Some x) None) i) Ask Nothing) same
      | inr ne ↦ ap (λ b. cond b Ask Nothing) (not_named (is_in_range 1 IDENTITIES x) x i ne ∙ sym (not_named (is_in_range 1 n x) x i ne))
    ]
  where
    both : (a b : Bool) → (a ≡ true → b ≡ true) → (b ≡ true → a ≡ true) → a ≡ b
    both true b f g = sym (f refl)
    both false true f g = g refl
    both false false f g = refl

    in_both : (x i n : ℕ) → n ≤ IDENTITIES → i ≤ n → x ≡ i → is_in_range 1 IDENTITIES x ≡ is_in_range 1 n x
    in_both x i n few low e = both _ _ (λ t. grind (arith, nat_tests)) (λ t. grind (arith, nat_tests))

    not_named : (b : Bool) (x i : ℕ) → x ≢ i → names (cond b (Some x) None) i ≡ false
    not_named true x i ne = ne_eqb x i ne
    not_named false x i ne = refl

pub said_within : (n offset value i : ℕ) → n ≤ IDENTITIES → i ≤ n → request_said IDENTITIES offset value i ≡ request_said n offset value i
said_within n offset value i few low = said_within_by (number_written offset value) n i few low

-- what holds of each of the six greatest identities that there may be
pub each_size : (P : ℕ → Type 0) → P 63 → P 127 → P 255 → P 511 → P 1023 → P 2047 → (n : ℕ) → is_greatest_identity n ≡ true → P n
each_size P p63 p127 p255 p511 p1023 p2047 n greatest =
    elim (cases_eq n 63) [
      | inl e ↦ subst P (sym e) p63
      | inr n63 ↦
          elim (cases_eq n 127) [
            | inl e ↦ subst P (sym e) p127
            | inr n127 ↦
                elim (cases_eq n 255) [
                  | inl e ↦ subst P (sym e) p255
                  | inr n255 ↦
                      elim (cases_eq n 511) [
                        | inl e ↦ subst P (sym e) p511
                        | inr n511 ↦
                            elim (cases_eq n 1023) [
                              | inl e ↦ subst P (sym e) p1023
                              | inr n1023 ↦
                                  elim (cases_eq n 2047) [
                                    | inl e ↦ subst P (sym e) p2047
                                    | inr n2047 ↦
                                        let none : is_greatest_identity n ≡ false = grind (arith, nat_tests) in
                                        absurd (false≢true (sym none ∙ greatest))
                                  ]
                            ]
                      ]
                ]
          ]
    ]
