-- Of the table of a domain's registers: each register has one offset, and each offset one register at most.
use Rattle.std.proofs.Common.{◌≡◌, ◌≢◌, ℕ, zero, suc, ◌+◌, ◌-◌, ◌*◌, ◌/◌, ◌%◌, ◌<◌, ◌≤◌, Bool, true, false, not, cond, ◌&&◌, ◌||◌, nat_eq, nat_lt, nat_le, ◌⊎◌, ◌↔◌, inl, inr, List, [], ◌∷◌, Option, Some, None, refl, sym, ap, subst, ◌∙◌, arith}
use Rattle.std.specs.Int.{is_in_range}
use Rattle.std.specs.List.{slice_get}
use Rattle.std.proofs.lemmas.Option.{cond_some}
use Rattle.std.proofs.lemmas.Bool.{cond-true, cond-false, cases_eq, and_parts, false_from_ne_true}
use Rattle.std.proofs.lemmas.Bool.Decides.{nat_tests}
use Rattle.std.proofs.lemmas.Nat.{div-mul-add, mod-mul-add, div-add-mod'}
use Rattle.std.proofs.Math.Nat.{add-mul-mod_self_left, mul-le-mul_left}
use Rattle.aia_regs.specs.declared.limits.TheConstants.{LAST_CONTROL}
use Rattle.aia_regs.specs.declared.domain_registers.DomainReg.{DomainReg}
use Rattle.aia_regs.specs.declared.domain_registers.DomainReg.TheVariants.{DomainCfg, SourceCfg, MMsiAddrCfg, MMsiAddrCfgH, SMsiAddrCfg, SMsiAddrCfgH, SetIp, SetIpNum, InClrIp, ClrIpNum, SetIe, SetIeNum, ClrIe, ClrIeNum, SetIpNumLe, SetIpNumBe, GenMsi, Target, IDelivery, IForce, IThreshold, TopI, ClaimI, Nothing}
use Rattle.aia_regs.specs.DomainRegisters.{Row, table, index_at, has_offset, register_by, domain_register_of, offset_of_index, domain_offset_of}

-- ---- one row

-- register i of a row is at the offset
pub record IsAt (row : Row) (i offset : ℕ) : Type 0 where
  pub from : row.first ≤ i
  pub to : i ≤ row.last
  pub place : offset ≡ row.base + row.stride * i

index_of_place : (base stride i offset : ℕ) → 0 < stride → offset ≡ base + stride * i → (offset - base) / stride ≡ i
index_of_place base stride i offset positive e =
    let d : offset - base ≡ i * stride + 0 = grind arith in
    ap (λ x. x / stride) d ∙ div-mul-add i stride 0 positive

rest_of_place : (base stride i offset : ℕ) → 0 < stride → offset ≡ base + stride * i → (offset - base) % stride ≡ 0
rest_of_place base stride i offset positive e =
    let d : offset - base ≡ i * stride + 0 = grind arith in
    ap (λ x. x % stride) d ∙ mod-mul-add i stride 0 positive

passes : (base offset rest first last i : ℕ) → base ≤ offset → rest ≡ 0 → first ≤ i → i ≤ last
    → (nat_le base offset && nat_eq rest 0 && is_in_range first last i) ≡ true
passes base offset rest first last i a b c d = grind (arith, nat_tests)

passed : (base offset rest first last i : ℕ) → (nat_le base offset && nat_eq rest 0 && is_in_range first last i) ≡ true → (base ≤ offset)
    × (rest ≡ 0) × (first ≤ i) × (i ≤ last)
passed base offset rest first last i h = (grind (arith, nat_tests), grind (arith, nat_tests), grind (arith, nat_tests), grind (arith, nat_tests))

index_here : (row : Row) (i offset : ℕ) → 0 < row.stride → IsAt row i offset → index_at row offset ≡ i
index_here row i offset positive at = index_of_place row.base row.stride i offset positive at.place

has_here : (row : Row) (i offset : ℕ) → 0 < row.stride → IsAt row i offset → has_offset row offset ≡ true
has_here row i offset positive at =
    let e : index_at row offset ≡ i = index_here row i offset positive at in
    let r : (offset - row.base) % row.stride ≡ 0 = rest_of_place row.base row.stride i offset positive at.place in
    let low : row.first ≤ index_at row offset = subst (λ (x : ℕ). row.first ≤ x) (sym e) at.from in
    let high : index_at row offset ≤ row.last = subst (λ (x : ℕ). x ≤ row.last) (sym e) at.to in
    passes row.base offset ((offset - row.base) % row.stride) row.first row.last (index_at row offset) (omega (arith, at.place)) r low high

place_from_index : (base stride offset : ℕ) → base ≤ offset → (offset - base) % stride ≡ 0 → offset ≡ base + stride * ((offset - base) / stride)
place_from_index base stride offset low r =
    let d : (offset - base) / stride * stride + (offset - base) % stride ≡ offset - base = div-add-mod' (offset - base) stride in
    grind arith

is_at : (row : Row) (offset : ℕ) → has_offset row offset ≡ true → IsAt row (index_at row offset) offset
is_at row offset h =
    let p = passed row.base offset ((offset - row.base) % row.stride) row.first row.last (index_at row offset) h in
    record { from = p.2; to = p.3; place = place_from_index row.base row.stride offset p.0 p.1 }

-- ---- two rows

-- the offsets of a row's first register and of its last
abbrev first_offset : Row → ℕ
first_offset row = row.base + row.stride * row.first

abbrev last_offset : Row → ℕ
last_offset row = row.base + row.stride * row.last

-- no offset is in both rows: one ends before the other begins, or they lie interleaved
abbrev are_apart : Row → Row → Bool
are_apart a b = nat_lt (last_offset a) (first_offset b) || nat_lt (last_offset b) (first_offset a) || nat_eq a.stride b.stride && not
    (nat_eq (a.base % a.stride) (b.base % b.stride))

apart_in_numbers : (first_a last_a first_b last_b rest_a rest_b stride_a stride_b offset : ℕ)
    → (nat_lt last_a first_b || nat_lt last_b first_a || nat_eq stride_a stride_b && not (nat_eq rest_a rest_b)) ≡ true → first_a ≤ offset
    → offset ≤ last_a → first_b ≤ offset → offset ≤ last_b → (stride_a ≡ stride_b → rest_a ≡ rest_b) → ⊥
apart_in_numbers first_a last_a first_b last_b rest_a rest_b stride_a stride_b offset test a b c d same =
    elim (cases_eq stride_a stride_b) [
      | inl e ↦ let r : rest_a ≡ rest_b = same e in grind (arith, nat_tests)
      | inr ne ↦ grind (arith, nat_tests)
    ]

from_first : (row : Row) (i offset : ℕ) → IsAt row i offset → first_offset row ≤ offset
from_first row i offset at = omega (arith, at.place, mul-le-mul_left row.stride at.from)

to_last : (row : Row) (i offset : ℕ) → IsAt row i offset → offset ≤ last_offset row
to_last row i offset at = omega (arith, at.place, mul-le-mul_left row.stride at.to)

rest_here : (row : Row) (i offset : ℕ) → IsAt row i offset → offset % row.stride ≡ row.base % row.stride
rest_here row i offset at = ap (λ x. x % row.stride) at.place ∙ add-mul-mod_self_left row.base row.stride i

not_in_both : (a b : Row) (i j offset : ℕ) → are_apart a b ≡ true → IsAt a i offset → IsAt b j offset → ⊥
not_in_both a b i j offset test in_a in_b =
    apart_in_numbers (first_offset a) (last_offset a) (first_offset b) (last_offset b) (a.base % a.stride) (b.base % b.stride) a.stride
    b.stride offset test
    (from_first a i offset in_a) (to_last a i offset in_a) (from_first b j offset in_b) (to_last b j offset in_b)
    (λ e. sym (rest_here a i offset in_a) ∙ ap (λ s. offset % s) e ∙ rest_here b j offset in_b)

-- ---- a list of rows

-- every row passes a test
abbrev each : (Row → Bool) → List Row → Bool
each test [] = true
each test (row ∷ rows) = test row && each test rows

-- the rows have strides, and no offset is in two of them
abbrev are_rows : List Row → Bool
are_rows [] = true
are_rows (row ∷ rows) = nat_lt 0 row.stride && each (are_apart row) rows && are_rows rows

in_each : (test : Row → Bool) (rows : List Row) (k : ℕ) (row : Row) → each test rows ≡ true → slice_get rows k ≡ Some row → test row ≡ true
in_each test [] k row h e = absurd (cc)
in_each test (a ∷ rows) zero row h e = let same : a ≡ row = cc in subst (λ (x : Row). test x ≡ true) same (and_parts (test a) (each test rows) h).0
in_each test (a ∷ rows) (suc k) row h e = in_each test rows k row (and_parts (test a) (each test rows) h).1 e

positive : (n : ℕ) → nat_lt 0 n ≡ true → 0 < n
positive n h = grind (arith, nat_tests)

parts_of_rows : (row : Row) (rows : List Row) → are_rows (row ∷ rows) ≡ true → (nat_lt 0 row.stride ≡ true) × (each (are_apart row) rows ≡ true)
    × (are_rows rows ≡ true)
parts_of_rows row rows h =
    let p = and_parts (nat_lt 0 row.stride && each (are_apart row) rows) (are_rows rows) h in
    let q = and_parts (nat_lt 0 row.stride) (each (are_apart row) rows) p.0 in
    (q.0, q.1, p.1)

-- the register of a row at an offset is the one that the rows name there
named_by_rows : (rows : List Row) (k : ℕ) (row : Row) (i offset : ℕ) → are_rows rows ≡ true → slice_get rows k ≡ Some row → IsAt row i offset
    → register_by rows offset ≡ row.register i
named_by_rows [] k row i offset h e at = absurd (cc)
named_by_rows (a ∷ rows) zero row i offset h e at =
    let same : row ≡ a = cc in
    let here : IsAt a i offset = subst (λ (x : Row). IsAt x i offset) same at in
    let p : 0 < a.stride = positive a.stride (parts_of_rows a rows h).0 in
    cond-true (has_offset a offset) (a.register (index_at a offset)) (register_by rows offset) (has_here a i offset p here)
    ∙ ap a.register (index_here a i offset p here) ∙ ap (λ (x : Row). x.register i) (sym same)
named_by_rows (a ∷ rows) (suc k) row i offset h e at =
    let p = parts_of_rows a rows h in
    let apart : are_apart a row ≡ true = in_each (are_apart a) rows k row p.1 e in
    let not_here : has_offset a offset ≡ false = false_from_ne_true (has_offset a offset)
    (λ t. not_in_both a row (index_at a offset) i offset apart (is_at a offset t) at) in
    cond-false (has_offset a offset) (a.register (index_at a offset)) (register_by rows offset) not_here ∙ named_by_rows rows k row i offset p.2 e at

-- where no row has the offset, the rows name nothing there
nothing_by_rows : (test : Row → Bool) (rows : List Row) (offset : ℕ) → each test rows ≡ true
    → ((row : Row) → test row ≡ true → has_offset row offset ≡ false) → register_by rows offset ≡ Nothing
nothing_by_rows test [] offset h none = refl
nothing_by_rows test (row ∷ rows) offset h none =
    let p = and_parts (test row) (each test rows) h in
    cond-false (has_offset row offset) (row.register (index_at row offset)) (register_by rows offset) (none row p.0)
    ∙ nothing_by_rows test rows offset p.1 none

-- ---- the table

table_has_rows : are_rows table ≡ true
table_has_rows = refl

-- a register with an index that has an offset: the index is in its row
pub in_range : (base stride first last i offset : ℕ) → offset_of_index base stride first last i ≡ Some offset → (first ≤ i) × (i ≤ last)
    × (offset ≡ base + stride * i)
in_range base stride first last i offset e =
    let h = cond_some (is_in_range first last i) (base + stride * i) offset e in
    let inside : is_in_range first last i ≡ true = h.0 in
    (grind (arith, nat_tests, inside), grind (arith, nat_tests, inside), sym h.1)

in_table : (k : ℕ) (row : Row) → slice_get table k ≡ Some row → (i offset : ℕ)
    → offset_of_index row.base row.stride row.first row.last i ≡ Some offset → domain_register_of offset ≡ row.register i
unfolding domain_register_of
in_table k row e i offset h =
    let p = in_range row.base row.stride row.first row.last i offset h in
    named_by_rows table k row i offset table_has_rows e (record { from = p.0; to = p.1; place = p.2 })

-- a register is the one that its offset names
pub named_by_offset : (r : DomainReg) (offset : ℕ) → domain_offset_of r ≡ Some offset → domain_register_of offset ≡ r
named_by_offset DomainCfg o e = in_table 0 _ refl 0 o e
named_by_offset (SourceCfg i) o e = in_table 1 _ refl i o e
named_by_offset MMsiAddrCfg o e = in_table 2 _ refl 0 o e
named_by_offset MMsiAddrCfgH o e = in_table 3 _ refl 0 o e
named_by_offset SMsiAddrCfg o e = in_table 4 _ refl 0 o e
named_by_offset SMsiAddrCfgH o e = in_table 5 _ refl 0 o e
named_by_offset (SetIp k) o e = in_table 6 _ refl k o e
named_by_offset SetIpNum o e = in_table 7 _ refl 0 o e
named_by_offset (InClrIp k) o e = in_table 8 _ refl k o e
named_by_offset ClrIpNum o e = in_table 9 _ refl 0 o e
named_by_offset (SetIe k) o e = in_table 10 _ refl k o e
named_by_offset SetIeNum o e = in_table 11 _ refl 0 o e
named_by_offset (ClrIe k) o e = in_table 12 _ refl k o e
named_by_offset ClrIeNum o e = in_table 13 _ refl 0 o e
named_by_offset SetIpNumLe o e = in_table 14 _ refl 0 o e
named_by_offset SetIpNumBe o e = in_table 15 _ refl 0 o e
named_by_offset GenMsi o e = in_table 16 _ refl 0 o e
named_by_offset (Target i) o e = in_table 17 _ refl i o e
named_by_offset (IDelivery h) o e = in_table 18 _ refl h o e
named_by_offset (IForce h) o e = in_table 19 _ refl h o e
named_by_offset (IThreshold h) o e = in_table 20 _ refl h o e
named_by_offset (TopI h) o e = in_table 21 _ refl h o e
named_by_offset (ClaimI h) o e = in_table 22 _ refl h o e
named_by_offset Nothing o e = absurd (cc)

-- the offsets of rows are those of their registers
abbrev HaveOffsets : List Row → Type 0
HaveOffsets [] = Unit {0}
HaveOffsets (row ∷ rows) = ((i : ℕ) → row.first ≤ i → i ≤ row.last → domain_offset_of (row.register i) ≡ Some (row.base + row.stride * i))
    × HaveOffsets rows

alone : (base i : ℕ) → 0 ≤ i → i ≤ 0 → ◌≡◌ {A = Option ℕ} (Some base) (Some (base + 4 * i))
alone base i from to = let e : base ≡ base + 4 * i = omega arith in ap (λ (x : ℕ). Some x) e

inside : (base stride first last i : ℕ) → first ≤ i → i ≤ last → offset_of_index base stride first last i ≡ Some (base + stride * i)
inside base stride first last i from to = let e : is_in_range first last i ≡ true = grind (arith, nat_tests) in
    cond-true (is_in_range first last i) (Some (base + stride * i)) None e

table_has_offsets : HaveOffsets table
table_has_offsets = (
  alone 0x0000,
  (
    inside 0x0000 4 1 1023,
    (
      alone 0x1bc0,
      (
        alone 0x1bc4,
        (
          alone 0x1bc8,
          (
            alone 0x1bcc,
            (
              inside 0x1c00 4 0 31,
              (
                alone 0x1cdc,
                (
                  inside 0x1d00 4 0 31,
                  (
                    alone 0x1ddc,
                    (
                      inside 0x1e00 4 0 31,
                      (
                        alone 0x1edc,
                        (
                          inside 0x1f00 4 0 31,
                          (
                            alone 0x1fdc,
                            (
                              alone 0x2000,
                              (
                                alone 0x2004,
                                (
                                  alone 0x3000,
                                  (
                                    inside 0x3000 4 1 1023,
                                    (
                                      inside 0x4000 32 0 LAST_CONTROL,
                                      (
                                        inside 0x4004 32 0 LAST_CONTROL,
                                        (inside 0x4008 32 0 LAST_CONTROL, (inside 0x4018 32 0 LAST_CONTROL, (inside 0x401c 32 0 LAST_CONTROL, tt))),
                                      ),
                                    ),
                                  ),
                                ),
                              ),
                            ),
                          ),
                        ),
                      ),
                    ),
                  ),
                ),
              ),
            ),
          ),
        ),
      ),
    ),
  ),
)

offset_by_rows : (rows : List Row) → HaveOffsets rows → (offset : ℕ) → (register_by rows offset ≡ Nothing)
    ⊎ (domain_offset_of (register_by rows offset) ≡ Some offset)
offset_by_rows [] h offset = inl refl
offset_by_rows (row ∷ rows) h offset = chosen (has_offset row offset) refl (offset_by_rows rows h.1 offset)
  where
    chosen : (t : Bool) → has_offset row offset ≡ t → (register_by rows offset ≡ Nothing)
        ⊎ (domain_offset_of (register_by rows offset) ≡ Some offset)
        → (cond t (row.register (index_at row offset)) (register_by rows offset) ≡ Nothing)
        ⊎ (domain_offset_of (cond t (row.register (index_at row offset)) (register_by rows offset)) ≡ Some offset)
    chosen true e later = let at : IsAt row (index_at row offset) offset = is_at row offset e in
        inr (h.0 (index_at row offset) at.from at.to ∙ ap (λ (x : ℕ). Some x) (sym at.place))
    chosen false e later = later

-- an offset that names a register is the register's
pub offset_named : (offset : ℕ) → (domain_register_of offset ≡ Nothing) ⊎ (domain_offset_of (domain_register_of offset) ≡ Some offset)
unfolding domain_register_of
offset_named offset = offset_by_rows table table_has_offsets offset

-- ---- offsets of no register

-- a row at multiples of 4
abbrev is_aligned : Row → Bool
is_aligned row = nat_eq (row.base % 4) 0 && nat_eq (row.stride % 4) 0

aligned_offset : (base stride i offset : ℕ) → (nat_eq (base % 4) 0 && nat_eq (stride % 4) 0) ≡ true → offset ≡ base + stride * i → offset % 4 ≡ 0
aligned_offset base stride i offset h e =
    let b : base % 4 ≡ 0 = grind (arith, nat_tests) in
    let s : stride % 4 ≡ 0 = grind (arith, nat_tests) in
    let q : stride ≡ 4 * (stride / 4) = omega arith in
    let m : stride * i ≡ 4 * (stride / 4 * i) = ap (λ x. x * i) q ∙ grind arith in
    omega arith

unaligned_row : (offset : ℕ) → offset % 4 ≢ 0 → (row : Row) → is_aligned row ≡ true → has_offset row offset ≡ false
unaligned_row offset ne row h = false_from_ne_true (has_offset row offset)
    (λ t. ne (aligned_offset row.base row.stride (index_at row offset) offset h (is_at row offset t).place))

pub unaligned : (offset : ℕ) → offset % 4 ≢ 0 → domain_register_of offset ≡ Nothing
unfolding domain_register_of
unaligned offset ne = nothing_by_rows is_aligned table offset refl (unaligned_row offset ne)

-- a row that ends in the control region
abbrev is_inside : Row → Bool
is_inside row = nat_lt (last_offset row) 0x8000

beyond_row : (offset : ℕ) → 0x8000 ≤ offset → (row : Row) → is_inside row ≡ true → has_offset row offset ≡ false
beyond_row offset past row h = false_from_ne_true (has_offset row offset)
    (λ t. outside (last_offset row) h (to_last row (index_at row offset) offset (is_at row offset t)))
  where
    outside : (last : ℕ) → nat_lt last 0x8000 ≡ true → offset ≤ last → ⊥
    outside last small low = grind (arith, nat_tests)

pub beyond : (offset : ℕ) → 0x8000 ≤ offset → domain_register_of offset ≡ Nothing
unfolding domain_register_of
beyond offset past = nothing_by_rows is_inside table offset refl (beyond_row offset past)

-- a row that is not at this place of a hart's delivery control
abbrev is_elsewhere : ℕ → Row → Bool
is_elsewhere place row = nat_lt (last_offset row) 0x4000 || nat_eq row.stride 32 && not (nat_eq (row.base % 32) place)

elsewhere_row : (hart place offset : ℕ) → place < 32 → offset ≡ 0x4000 + 32 * hart + place → (row : Row) → is_elsewhere place row ≡ true
    → has_offset row offset ≡ false
elsewhere_row hart place offset small e row h =
    false_from_ne_true (has_offset row offset) (λ t. outside (last_offset row) row.stride row.base h
    (to_last row (index_at row offset) offset (is_at row offset t)) (rest_here row (index_at row offset) offset (is_at row offset t)))
  where
    outside : (last stride base : ℕ) → (nat_lt last 0x4000 || nat_eq stride 32 && not (nat_eq (base % 32) place)) ≡ true → offset ≤ last
        → offset % stride ≡ base % stride → ⊥
    outside last stride base test low rest =
        elim (cases_eq stride 32) [
          | inl same ↦ let r : offset % 32 ≡ base % 32 = subst (λ (x : ℕ). offset % x ≡ base % x) same rest in grind (arith, nat_tests)
          | inr ne ↦ grind (arith, nat_tests)
        ]

pub no_control : (hart place : ℕ) → place < 32 → each (is_elsewhere place) table ≡ true → domain_register_of (0x4000 + 32 * hart + place) ≡ Nothing
unfolding domain_register_of
no_control hart place small h = nothing_by_rows (is_elsewhere place) table (0x4000 + 32 * hart + place) h
    (elsewhere_row hart place (0x4000 + 32 * hart + place) small refl)

-- ---- a hart's delivery control

pub control : (first hart offset : ℕ) → hart ≤ LAST_CONTROL → offset ≡ first + 32 * hart → offset_of_index first 32 0 LAST_CONTROL hart ≡ Some offset
control first hart offset few e = inside first 32 0 LAST_CONTROL hart (omega arith) (omega arith) ∙ ap (λ (x : ℕ). Some x) (sym e)

-- the reserved places
pub reserved_control : (hart place : ℕ) → place % 4 ≡ 0 → place < 32 → place ≢ 0x00 → place ≢ 0x04 → place ≢ 0x08 → place ≢ 0x18 → place ≢ 0x1c
    → domain_register_of (0x4000 + 32 * hart + place) ≡ Nothing
reserved_control hart place aligned small a b c d e =
    elim (cases_eq place 0x0c) [
      | inl p ↦ at 0x0c p refl
      | inr not_c ↦ elim (cases_eq place 0x10) [
        | inl p ↦ at 0x10 p refl
        | inr not_10 ↦ at 0x14 (omega arith) refl
      ]
    ]
  where
    at : (p : ℕ) → place ≡ p → each (is_elsewhere p) table ≡ true → domain_register_of (0x4000 + 32 * hart + place) ≡ Nothing
    at p same h = no_control hart place small (subst (λ (x : ℕ). each (is_elsewhere x) table ≡ true) (sym same) h)

-- ---- the laws

pub both_ways : (r : DomainReg) (offset : ℕ) → r ≢ Nothing → (domain_register_of offset ≡ r) ↔ (domain_offset_of r ≡ Some offset)
both_ways r offset some = (
  (λ e. elim (offset_named offset) [
    | inl none ↦ absurd (some (sym e ∙ none))
    | inr h ↦ subst (λ (x : DomainReg). domain_offset_of x ≡ Some offset) e h
  ]),
  named_by_offset r offset,
)

pub at_most_one : (r s : DomainReg) (offset : ℕ) → domain_offset_of r ≡ Some offset → domain_offset_of s ≡ Some offset → r ≡ s
at_most_one r s offset p q = sym (named_by_offset r offset p) ∙ named_by_offset s offset q

pub no_register : (offset : ℕ) → (domain_register_of offset ≡ Nothing) ↔ ((r : DomainReg) → domain_offset_of r ≢ Some offset)
no_register offset = (
  (λ none r h. let e : r ≡ Nothing = sym (named_by_offset r offset h) ∙ none in
      let bad : ◌≡◌ {A = Option ℕ} None (Some offset) = ap domain_offset_of (sym e) ∙ h in
      absurd (cc)),
  (λ none. elim (offset_named offset) [
    | inl e ↦ e
    | inr h ↦ absurd (none (domain_register_of offset) h)
  ]),
)
