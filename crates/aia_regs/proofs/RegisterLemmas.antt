-- The select numbers of each register.
use Rattle.std.proofs.Common.{◌≡◌, ℕ, ◌+◌, ◌-◌, ◌%◌, ◌<◌, ◌≤◌, Bool, true, false, cond, ◌⊎◌, ◌↔◌, inl, inr, refl, ap, subst, arith}
use Rattle.std.specs.Prelude.{◌&&◌, nat_eq}
use Rattle.std.specs.Int.{is_in_range}
use Rattle.std.proofs.lemmas.Bool.{cases_lt, cases_eq, eqb-true}
use Rattle.std.proofs.lemmas.Bool.Decides.{nat_tests}
use Rattle.aia_regs.specs.declared.file_registers.FileReg.{FileReg}
use Rattle.aia_regs.specs.declared.file_registers.FileReg.TheVariants.{Delivery, Threshold, Pending, Enable, Reserved, Odd, Outside}
use Rattle.aia_regs.specs.FileRegisters.{register_of}

-- the select numbers of a register
abbrev pub IsSelectOf : FileReg → ℕ → Type 0
IsSelectOf Delivery select = select ≡ 0x70
IsSelectOf Threshold select = select ≡ 0x72
IsSelectOf (Pending k) select = (k % 2 ≡ 0) × (k < 64) × (select ≡ 0x80 + k)
IsSelectOf (Enable k) select = (k % 2 ≡ 0) × (k < 64) × (select ≡ 0xc0 + k)
IsSelectOf Reserved select = (select ≡ 0x71) ⊎ ((0x73 ≤ select) × (select ≤ 0x7f))
IsSelectOf Odd select = (0x80 ≤ select) × (select ≤ 0xff) × (select % 2 ≡ 1)
IsSelectOf Outside select = (select < 0x70) ⊎ (0xff < select)

row : (select : ℕ) (test : Bool) (here there : FileReg) → (test ≡ true → IsSelectOf here select) → (test ≡ false → IsSelectOf there select)
    → IsSelectOf (cond test here there) select
row select true here there p q = p refl
row select false here there p q = q refl

reserved_row : (select : ℕ) → nat_eq select 0x72 ≡ false → is_in_range 0x71 0x7f select ≡ true → (select ≡ 0x71) ⊎ ((0x73 ≤ select) × (select ≤ 0x7f))
reserved_row select b c =
    elim (cases_eq select 0x71) [
      | inl e ↦ inl e
      | inr ne ↦ inr (grind (arith, nat_tests), grind (arith, nat_tests))
    ]

odd_row : (select : ℕ) → (is_in_range 0x80 0xff select && nat_eq (select % 2) 1) ≡ true → (0x80 ≤ select) × (select ≤ 0xff) × (select % 2 ≡ 1)
odd_row select d = (grind (arith, nat_tests), grind (arith, nat_tests), grind (arith, nat_tests))

pending_row : (select : ℕ) → (is_in_range 0x80 0xff select && nat_eq (select % 2) 1) ≡ false → is_in_range 0x80 0xbf select ≡ true
    → ((select - 0x80) % 2 ≡ 0) × (select - 0x80 < 64) × (select ≡ 0x80 + (select - 0x80))
pending_row select d e = (grind (arith, nat_tests), grind (arith, nat_tests), grind (arith, nat_tests))

enable_row : (select : ℕ) → (is_in_range 0x80 0xff select && nat_eq (select % 2) 1) ≡ false → is_in_range 0xc0 0xff select ≡ true
    → ((select - 0xc0) % 2 ≡ 0) × (select - 0xc0 < 64) × (select ≡ 0xc0 + (select - 0xc0))
enable_row select d f = (grind (arith, nat_tests), grind (arith, nat_tests), grind (arith, nat_tests))

outside_row : (select : ℕ) → nat_eq select 0x70 ≡ false → nat_eq select 0x72 ≡ false → is_in_range 0x71 0x7f select ≡ false
    → is_in_range 0x80 0xbf select ≡ false → is_in_range 0xc0 0xff select ≡ false → (select < 0x70) ⊎ (0xff < select)
outside_row select a b c e f =
    elim (cases_lt select 0x70) [
      | inl p ↦ inl p
      | inr p ↦ inr (grind (arith, nat_tests))
    ]

-- each select number names a register that has it
pub select_named : (select : ℕ) → IsSelectOf (register_of select) select
select_named select =
    row select _ _ _ (eqb-true select 0x70) (λ a.
    row select _ _ _ (eqb-true select 0x72) (λ b.
    row select _ _ _ (reserved_row select b) (λ c.
    row select _ _ _ (odd_row select) (λ d.
    row select _ _ _ (pending_row select d) (λ e.
    row select _ _ _ (enable_row select d) (λ f. outside_row select a b c e f))))))

-- a select number of a register names that register
pub named_by_select : (r : FileReg) (select : ℕ) → IsSelectOf r select → register_of select ≡ r
named_by_select Delivery select h = ap register_of h
named_by_select Threshold select h = ap register_of h
named_by_select (Pending k) select h = pending_named k select h.0 h.1 h.2
  where
    pending_named : (k select : ℕ) → k % 2 ≡ 0 → k < 64 → select ≡ 0x80 + k → register_of select ≡ Pending k
    pending_named k select a b e = grind (arith, nat_tests)
named_by_select (Enable k) select h = enable_named k select h.0 h.1 h.2
  where
    enable_named : (k select : ℕ) → k % 2 ≡ 0 → k < 64 → select ≡ 0xc0 + k → register_of select ≡ Enable k
    enable_named k select a b e = grind (arith, nat_tests)
named_by_select Reserved select h = elim h [ inl e ↦ ap register_of e | inr p ↦ reserved_named select p.0 p.1 ]
  where
    reserved_named : (select : ℕ) → 0x73 ≤ select → select ≤ 0x7f → register_of select ≡ Reserved
    reserved_named select a b = grind (arith, nat_tests)
named_by_select Odd select h = odd_named select h.0 h.1 h.2
  where
    odd_named : (select : ℕ) → 0x80 ≤ select → select ≤ 0xff → select % 2 ≡ 1 → register_of select ≡ Odd
    odd_named select a b e = grind (arith, nat_tests)
named_by_select Outside select h = elim h [ inl p ↦ below_named select p | inr p ↦ above_named select p ]
  where
    below_named : (select : ℕ) → select < 0x70 → register_of select ≡ Outside
    below_named select p = grind (arith, nat_tests)

    above_named : (select : ℕ) → 0xff < select → register_of select ≡ Outside
    above_named select p = grind (arith, nat_tests)

-- both directions of a row
pub row_of : (r : FileReg) (select : ℕ) → (register_of select ≡ r) ↔ IsSelectOf r select
row_of r select = (λ e. subst (λ (x : FileReg). IsSelectOf x select) e (select_named select), named_by_select r select)
