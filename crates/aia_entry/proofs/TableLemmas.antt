-- The file that an address names has an entry, and a fence changes one.
use Rattle.std.proofs.Common.{◌≡◌, ◌≢◌, ℕ, zero, suc, ◌*◌, ◌/◌, ◌%◌, ◌+◌, ◌^◌, ◌<◌, ◌≤◌, ◌⊎◌, inl, inr, ◌↔◌, Bool, true, false, ◌&&◌, ◌||◌, nat_lt, List, length, get_or, refl, sym, ap, ◌∙◌, arith}
use Rattle.std.specs.Prelude.{bit_or, count_ones}
use Rattle.std.specs.Int.{is_in_range}
use Rattle.std.specs.Int.Count.{ones_step}
use Rattle.std.proofs.Math.Nat.{pow-succ'}
use Rattle.std.proofs.lemmas.Nat.{ones_le_self}
use Rattle.std.proofs.lemmas.Bool.Decides.{nat_tests}
use Rattle.std.proofs.lemmas.Bool.{cases_eq, cases_lt, eqb-true, eq-eqb}
use Rattle.std.proofs.lemmas.Nat.Bits.{bit_at-lt, same_from_bits}
use Rattle.std.proofs.lemmas.List.{get_or-set_same, get_or-set_other, set_past, length-set, get_or_default}
use Rattle.aia_word.specs.Packed.{extract, ones}
use Rattle.aia_word.specs.Sets.{has_bit}
use Rattle.aia_word.proofs.PackedLemmas.{packed-lt}
use Rattle.aia_word.proofs.BitLemmas.{has_bit-or}
use Rattle.aia_word.proofs.SetLemmas.{same_bit}
use Rattle.aia_regs.specs.declared.address_map.TheConstants.{PATTERN}
use Rattle.aia_entry.specs.declared.entry.Entry.{Entry}
use Rattle.aia_entry.specs.declared.entry.Entry.TheVariants.{Basic, NotValid}
use Rattle.aia_entry.specs.Translation.{is_mask, page_number, is_msi_address}
use Rattle.aia_entry.specs.Tables.{TableState, no_table, table_of, entry_in_force, written_entry, fenced, fenced_at}
use Rattle.aia_regs.specs.declared.limits.TheConstants.{MASK_ONES, MASK_BITS, ENTRIES}

-- ---- masks

zero_ones : count_ones 0 ≡ ones 0 0
unfolding ones
zero_ones = let few = ones_le_self 0 in omega (arith, few)

-- the ones of a number of 64 bits are all that it has
ones_below : (k x : ℕ) → x < 2 ^ k → count_ones x ≡ ones k x
unfolding ones
ones_below zero x low = let none : x ≡ 0 = omega (arith, low) in rw none zero_ones
ones_below (suc k) x low = ones_step x ∙ ap (λ n. x % 2 + n) (ones_below k (x / 2) (halves k x low))
  where
    halves : (k x : ℕ) → x < 2 ^ suc k → x / 2 < 2 ^ k
    halves k x low = let power : 2 ^ suc k ≡ 2 * 2 ^ k = pow-succ' 2 k in omega (arith, low)

pub ones_counted : (mask : ℕ) → mask < 2 ^ 64 → count_ones mask ≡ ones 64 mask
ones_counted mask low = ones_below 64 mask low

pub mask_by_ones : (mask : ℕ) → mask < 2 ^ 64 → is_mask mask ≡ (is_in_range 1 4 (count_ones mask) && nat_lt mask 32768)
mask_by_ones mask low = ap (λ n. is_in_range 1 MASK_ONES n && nat_lt mask (2 ^ MASK_BITS)) (sym (ones_counted mask low))

-- what a mask has
pub mask_parts : (mask : ℕ) → is_mask mask ≡ true → (1 ≤ ones 64 mask) × (ones 64 mask ≤ MASK_ONES) × (mask < 2 ^ MASK_BITS)
mask_parts mask is = grind (arith, nat_tests)

few_files : (n : ℕ) → n ≤ MASK_ONES → 2 ^ n ≤ ENTRIES
few_files zero h = omega arith
few_files (suc zero) h = omega arith
few_files (suc (suc zero)) h = omega arith
few_files (suc (suc (suc zero))) h = omega arith
few_files (suc (suc (suc (suc zero)))) h = omega arith
few_files (suc (suc (suc (suc (suc n))))) h = absurd (omega arith)

pub has_entry : (mask file : ℕ) → ones 64 mask ≤ MASK_ONES → file < 2 ^ ones 64 mask → file < ENTRIES
has_entry mask file few low =
    let most = few_files (ones 64 mask) few in
    omega (arith, most, low)

pub named_has_entry : (x mask : ℕ) → ones 64 mask ≤ MASK_ONES → extract x mask < ENTRIES
named_has_entry x mask few = has_entry mask (extract x mask) few (packed-lt 64 x mask)

pub entry_read : (in_force : List Entry) (file x mask : ℕ) → ones 64 mask ≤ MASK_ONES → length in_force ≡ ENTRIES → file ≡ extract x mask
    → get_or in_force file (Basic 0) ≡ get_or in_force (extract x mask) NotValid
entry_read in_force file x mask few long is =
    let low = named_has_entry x mask few in
    rw (is) (get_or_default in_force (extract x mask) (Basic 0) NotValid (omega (arith, low, long)))

-- ---- a fence

pub fenced_here : (tables : List TableState) (vm file : ℕ) (words : List ℕ) → vm < length tables → file < length (table_of tables vm).in_force
    → entry_in_force (table_of (fenced_at tables vm file words) vm) file ≡ written_entry words (table_of tables vm) file
fenced_here tables vm file words there low =
    let t = table_of tables vm in
    rw (get_or-set_same tables vm (fenced words file t) no_table there) (get_or-set_same t.in_force file (written_entry words t file) NotValid low)

pub table_elsewhere : (tables : List TableState) (vm file : ℕ) (words : List ℕ) (v : ℕ) → v ≢ vm
    → table_of (fenced_at tables vm file words) v ≡ table_of tables v
table_elsewhere tables vm file words v h = get_or-set_other tables vm v (fenced words file (table_of tables vm)) no_table h

-- the table of the VM: there is none, or it is the fenced one
at_the_table : (P : TableState → Type 0) (tables : List TableState) (vm file : ℕ) (words : List ℕ) → P (table_of tables vm)
    → P (fenced words file (table_of tables vm)) → P (table_of (fenced_at tables vm file words) vm)
at_the_table P tables vm file words old new = by_place (cases_lt vm (length tables))
  where
    by_place : (vm < length tables) ⊎ (length tables ≤ vm) → P (table_of (fenced_at tables vm file words) vm)
    by_place (inl there) = rw (get_or-set_same tables vm (fenced words file (table_of tables vm)) no_table there) new
    by_place (inr past) = rw (set_past tables vm (fenced words file (table_of tables vm)) past) old

at_each_table : (P : TableState → Type 0) (tables : List TableState) (vm file : ℕ) (words : List ℕ) (v : ℕ) → P (table_of tables v)
    → (v ≡ vm → P (fenced words file (table_of tables v))) → P (table_of (fenced_at tables vm file words) v)
at_each_table P tables vm file words v old new = by_vm (cases_eq v vm)
  where
    by_vm : (v ≡ vm) ⊎ (v ≢ vm) → P (table_of (fenced_at tables vm file words) v)
    by_vm (inl same) = rw (same) (at_the_table P tables vm file words (rw (← same) old) (rw (same) at (new same)))
    by_vm (inr other) = rw (table_elsewhere tables vm file words v other) old

pub fenced_elsewhere : (tables : List TableState) (vm file : ℕ) (words : List ℕ) (v f : ℕ) → (v ≢ vm) ⊎ (f ≢ file)
    → entry_in_force (table_of (fenced_at tables vm file words) v) f ≡ entry_in_force (table_of tables v) f
fenced_elsewhere tables vm file words v f (inl other) = ap (λ t. entry_in_force t f) (table_elsewhere tables vm file words v other)
fenced_elsewhere tables vm file words v f (inr other) =
    at_each_table (λ t. entry_in_force t f ≡ entry_in_force (table_of tables v) f) tables vm file words v refl
    (λ same. get_or-set_other (table_of tables v).in_force file f (written_entry words (table_of tables v) file) NotValid other)

pub fenced_mask : (tables : List TableState) (vm file : ℕ) (words : List ℕ) (v : ℕ)
    → (table_of (fenced_at tables vm file words) v).mask ≡ (table_of tables v).mask
fenced_mask tables vm file words v = at_each_table (λ t. t.mask ≡ (table_of tables v).mask) tables vm file words v refl (λ same. refl)

pub fenced_start : (tables : List TableState) (vm file : ℕ) (words : List ℕ) (v : ℕ)
    → (table_of (fenced_at tables vm file words) v).start ≡ (table_of tables v).start
fenced_start tables vm file words v = at_each_table (λ t. t.start ≡ (table_of tables v).start) tables vm file words v refl (λ same. refl)

pub fenced_count : (tables : List TableState) (vm file : ℕ) (words : List ℕ) → length (fenced_at tables vm file words) ≡ length tables
fenced_count tables vm file words = length-set tables vm (fenced words file (table_of tables vm))

-- ---- MSI addresses

outside : (x y m : Bool) → m ≡ false → (x || m) ≡ (y || m) → x ≡ y
outside true true m h e = refl
outside false false m h e = refl
outside true false true h e = h
outside true false false h e = e
outside false true true h e = sym h
outside false true false h e = e

agree : (x y m : Bool) → (m ≡ false → x ≡ y) → (x || m) ≡ (y || m)
agree true true m h = refl
agree false false m h = refl
agree true false true h = refl
agree true false false h = h refl
agree false true true h = refl
agree false true false h = h refl

pub agrees : (mask addr : ℕ) → (is_msi_address mask addr ≡ true) ↔
    ((i : ℕ) → has_bit mask i ≡ false → has_bit (page_number addr) i ≡ has_bit PATTERN i)
agrees mask addr = (there, back)
  where
    there : is_msi_address mask addr ≡ true → (i : ℕ) → has_bit mask i ≡ false → has_bit (page_number addr) i ≡ has_bit PATTERN i
    there e i zero_there =
        outside _ _ _ zero_there (sym (has_bit-or (page_number addr) mask i) ∙ ap (λ x. has_bit x i) (eqb-true _ _ e) ∙ has_bit-or PATTERN mask i)

    back : ((i : ℕ) → has_bit mask i ≡ false → has_bit (page_number addr) i ≡ has_bit PATTERN i) → is_msi_address mask addr ≡ true
    back h =
        eq-eqb _ _ (same_from_bits (bit_or (page_number addr) mask) (bit_or PATTERN mask) (λ i. same_bit _ _ (bit_at-lt _ i) (bit_at-lt _ i)
        (has_bit-or (page_number addr) mask i ∙ agree _ _ _ (h i) ∙ sym (has_bit-or PATTERN mask i))))
