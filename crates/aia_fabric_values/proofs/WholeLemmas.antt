-- What is always true of the world: what callers take from it, and that it stays true as a VM is
-- made.
use Rattle.std.proofs.Common.{◌≡◌, ℕ, ◌+◌, ◌*◌, ◌/◌, ◌%◌, ◌^◌, ◌<◌, ◌≤◌, Bool, true, false, ◌||◌, List, [], ◌∷◌, ◌++◌, length, get_or, Option, Some, None, inl, inr, refl, sym, ap, ◌∙◌, subst, arith}
use Rattle.std.specs.Prelude.{bit_or, slice_index, replicate}
use Rattle.std.specs.Int.Bits.{or_zero_l}
use Rattle.std.proofs.Math.ListN.{set}
use Rattle.std.proofs.Math.ListN.{get_or-append}
use Rattle.std.proofs.Math.Seq.{get_or-append_seam}
use Rattle.std.proofs.lemmas.Bool.{cases_lt, ne_eqb}
use Rattle.std.proofs.lemmas.List.{length-append, get_or-replicate, length-replicate}
use Rattle.std.proofs.lemmas.List.Elements.{All-get_or}
use Rattle.aia_word.specs.Packed.{ones}
use Rattle.aia_word.specs.Sets.{has_bit}
use Rattle.aia_word.proofs.BitLemmas.{has_bit-or, has_bit-set}
use Rattle.aia_regs.specs.declared.limits.TheConstants.{IDENTITIES, VMS, VCPUS, ENTRIES, MEMORY_WORDS, FILE_WORDS}
use Rattle.aia_regs.specs.Request.{requested}
use Rattle.aia_regs.proofs.RequestLemmas.{requested_in_range}
use Rattle.aia_file.specs.FileState.{FileState}
use Rattle.aia_file.specs.declared.spot.Spot.{Spot}
use Rattle.aia_file.specs.Imsic.{IsThere, place_of, file_at, no_file}
use Rattle.aia_file.proofs.PlaceLemmas.{place_within}
use Rattle.aia_file.specs.Mrif.{pending_place}
use Rattle.aia_file.specs.Words.{words_after_store}
use Rattle.aia_file.proofs.SlotLemmas.{one_bit}
use Rattle.aia_ram.specs.Words.{HasWordAt}
use Rattle.aia_entry.specs.declared.entry.Entry.TheVariants.{NotValid}
use Rattle.aia_entry.specs.Tables.{TableState, new_table, no_table, table_of, entry_byte}
use Rattle.aia_entry.specs.Translation.{IsMask}
use Rattle.aia_entry.proofs.TableLemmas.{has_entry, mask_parts}
use Rattle.aia_vcpu.specs.declared.vm.Vm.{Vm}
use Rattle.aia_vcpu.specs.Vms.{vcpus_in, Vcpu, vcpu_of, is_vcpu_in, slot_of, notice_hart}
use Rattle.aia_vcpu.proofs.VmLemmas.{vm_stays, vm_new, vm_past, vcpus_more, slot_taken, numbered}
use Rattle.aia_fabric_values.specs.World.{World}
use Rattle.aia_fabric_values.specs.Whole.{IsWhole, IsVm}
use Rattle.aia_fabric_values.specs.Making.{with_vm, table_byte, entry_word_place}
use Rattle.aia_fabric_values.specs.Stores.{with_store}
use Rattle.aia_fabric_values.proofs.WrittenWhole.{pending_whole}

pub width_at : (w : World) (spot : Spot) → IsWhole w → IsThere w.imsic spot → (file_at w.imsic spot).n ≡ w.n
width_at w spot whole there =
    let within = place_within w.imsic spot there in
    All-get_or (λ (f : FileState). f.n ≡ w.n) w.imsic.files (place_of w.imsic spot) no_file (omega (arith, within, whole.files)) whole.width

-- the notice hart of a virtual hart that is there
pub notice_hart_there : (w : World) (g : Vcpu) → IsWhole w → is_vcpu_in w.vms g ≡ true → notice_hart w.vms g < w.imsic.harts
notice_hart_there w g whole there = elim (cases_lt g.vm (length w.vms)) [
  | inl low ↦ (whole.vms g.vm low).notice_hart
  | inr past ↦
      let some = numbered w.vms g.vm g.vcpu there in
      let none = vm_past w.vms g.vm past in
      absurd (omega (arith, some, none))
]

-- so the notices of a slot go to a hart that is there
pub noticed_there : (w : World) (q hart : ℕ) → IsWhole w → q < vcpus_in w.vms
    → ((g : Vcpu) → is_vcpu_in w.vms g ≡ true → slot_of w.vms g ≡ q → hart ≡ notice_hart w.vms g) → hart < w.imsic.harts
noticed_there w q hart whole low is =
    let taken = slot_taken w.vms q low in
    let there = notice_hart_there w taken.0 whole taken.1 in
    let same = is taken.0 taken.1 taken.2 in
    omega (arith, there, same)

-- ---- a VM is made

table_stays : (tables : List TableState) (t : TableState) (v : ℕ) → v < length tables → table_of (tables ++ t ∷ []) v ≡ table_of tables v
table_stays tables t v low = get_or-append tables (t ∷ []) no_table v low

table_new : (tables : List TableState) (t : TableState) → table_of (tables ++ t ∷ []) (length tables) ≡ t
table_new tables t = get_or-append_seam tables t [] no_table

pub vm_whole : (w : World) (vm : Vm) → IsWhole w → length w.vms < VMS → IsMask vm.mask → vm.vcpus ≤ 2 ^ ones 64 vm.mask
    → vcpus_in w.vms + vm.vcpus ≤ VCPUS → vm.notice_hart < w.imsic.harts → IsWhole (with_vm w vm)
vm_whole w vm whole few mask numbers vcpus hart = record {
  harts = whole.harts;
  guests = whole.guests;
  files = whole.files;
  greatest = whole.greatest;
  width = whole.width;
  memory = whole.memory;
  no_pending_zero = whole.no_pending_zero;
  no_enabled_zero = whole.no_enabled_zero;
  few = omega (arith, length-append w.vms (vm ∷ []));
  tables = omega (arith, length-append w.vms (vm ∷ []), length-append w.tables (new_table vm.mask (table_byte (length w.tables)) ∷ []), whole.tables);
  flights = omega (arith, length-append w.vms (vm ∷ []), length-append w.flights ([] ∷ []), whole.flights);
  vcpus = omega (arith, vcpus_more w.vms vm);
  vms = λ v low. elim (cases_lt v (length w.vms)) [
    | inl old ↦ stays v old
    | inr past ↦ let is : v ≡ length w.vms = omega (arith, past, low, length-append w.vms (vm ∷ [])) in
        subst (λ x. IsVm (with_vm w vm) x) (sym is) made
  ];
  stages = whole.stages;
}
  where
    stays : (v : ℕ) → v < length w.vms → IsVm (with_vm w vm) v
    stays v old =
        let is = whole.vms v old in
        let same = vm_stays w.vms vm v old in
        let there = table_stays w.tables (new_table vm.mask (table_byte (length w.tables))) v (omega (arith, old, whole.tables)) in
        record {
          mask = rw (same) is.mask;
          numbers = rw (same) is.numbers;
          notice_hart = rw (same) is.notice_hart;
          same_mask = rw (same, there) is.same_mask;
          start = rw (there) is.start;
          entries = rw (there) is.entries;
        }

    made : IsVm (with_vm w vm) (length w.vms)
    made =
        let same = vm_new w.vms vm in
        let there = ap (λ n. table_of (w.tables ++ new_table vm.mask (table_byte (length w.tables)) ∷ []) n) (sym whole.tables)
        ∙ table_new w.tables (new_table vm.mask (table_byte (length w.tables))) in
        record {
          mask = rw (same) mask;
          numbers = rw (same) numbers;
          notice_hart = rw (same) hart;
          same_mask = rw (same, there) refl;
          start = rw (there) (ap table_byte whole.tables);
          entries = rw (there) (length-replicate ENTRIES NotValid);
        }

-- ---- where an entry lies

pub entry_at : (w : World) (vm file : ℕ) → IsWhole w → vm < length w.vms → file < 2 ^ ones 64 (table_of w.tables vm).mask
    → (file < ENTRIES) × (entry_byte (table_of w.tables vm) file ≡ table_byte vm + 16 * file)
    × (entry_word_place vm file * 8 ≡ table_byte vm + 16 * file) × (entry_word_place vm file + 1 < MEMORY_WORDS)
entry_at w vm file whole there low =
    let is = whole.vms vm there in
    let few = has_entry (table_of w.tables vm).mask file (mask_parts (table_of w.tables vm).mask (rw (is.same_mask) is.mask)).1 low in
    let vms = whole.few in
    (few, ap (λ n. n + 16 * file) is.start, omega arith, omega (arith, few, there, vms))

-- so has a virtual hart that is there its entry
pub vcpu_entry : (w : World) (vm file : ℕ) → IsWhole w → is_vcpu_in w.vms (vcpu_of vm file) ≡ true → (vm < length w.vms) × (vm < VMS)
    × (file < ENTRIES) × (file < 2 ^ ones 64 (table_of w.tables vm).mask)
vcpu_entry w vm file whole there =
    let low = numbered w.vms vm file there in
    elim (cases_lt vm (length w.vms)) [
      | inl stands ↦
          let is = whole.vms vm stands in
          let under : file < 2 ^ ones 64 (table_of w.tables vm).mask = rw (is.same_mask) (omega (arith, low, is.numbers)) in
          (stands, omega (arith, stands, whole.few), (entry_at w vm file whole stands under).0, under)
      | inr past ↦ absurd (omega (arith, low, vm_past w.vms vm past))
    ]

-- with both its words
pub vcpu_words : (w : World) (vm file : ℕ) → IsWhole w → is_vcpu_in w.vms (vcpu_of vm file) ≡ true
    → HasWordAt w.memory (entry_byte (table_of w.tables vm) file) × HasWordAt w.memory (entry_byte (table_of w.tables vm) file + 8)
vcpu_words w vm file whole there =
    let entry = vcpu_entry w vm file whole there in
    let at = entry_at w vm file whole entry.0 entry.3 in
    let size = whole.memory in
    ((omega (arith, at.1, at.2), omega (arith, at.1, at.2, at.3, size)), (omega (arith, at.1, at.2), omega (arith, at.1, at.2, at.3, size)))

-- ---- the words of slots are written

-- word k of the pending set of a slot is joined with another
pub joined_whole : (w : World) (q k v : ℕ) → IsWhole w → q < VCPUS → k < FILE_WORDS → (k ≡ 0 → has_bit v 0 ≡ false)
    → IsWhole (record w { memory = set w.memory (pending_place q k) (bit_or (get_or w.memory (pending_place q k) 0) v) })
joined_whole w q k v whole there low zero = pending_whole w q k _ whole there low
    (λ e. has_bit-or _ v 0 ∙ neither _ _ (ap (λ j. has_bit (get_or w.memory (pending_place q j) 0) 0) e ∙ whole.no_pending_zero q there) (zero e))
  where
    neither : (a b : Bool) → a ≡ false → b ≡ false → (a || b) ≡ false
    neither true b p q = p
    neither false b p q = q

-- a slot takes a store
pub store_whole : (w : World) (q offset value : ℕ) → IsWhole w → q < VCPUS → IsWhole (with_store w q offset value)
store_whole w q offset value whole there = by_request (requested IDENTITIES offset value) (λ i e. requested_in_range IDENTITIES offset value i e)
  where
    no_zero : (k : ℕ) → 1 ≤ k → k < 64 → has_bit (2 ^ k) 0 ≡ false
    no_zero k some low = ap (λ x. has_bit x 0) (sym (one_bit k low)) ∙ ap (λ x. has_bit x 0) (sym (or_zero_l (1 * 2 ^ k % 2 ^ 64)))
        ∙ has_bit-set 0 k 0 low ∙ ap (λ b. b || has_bit 0 0) (ne_eqb 0 k (λ e. omega arith))

    by_request : (o : Option ℕ) → ((i : ℕ) → o ≡ Some i → (1 ≤ i) × (i ≤ IDENTITIES)) → IsWhole (record w { memory = words_after_store w.memory q o })
    by_request None small = whole
    by_request (Some i) small =
        let range = small i refl in
        joined_whole w q (i / 64) (2 ^ (i % 64)) whole there (omega (arith, range.1)) (λ z. no_zero (i % 64) (omega (arith, range.0)) (omega arith))

-- memory is 0
pub zero_bit : (words : List ℕ) (count place : ℕ) → words ≡ replicate count 0 → place < count → has_bit (slice_index words place) 0 ≡ false
zero_bit words count place is low = ap (λ (ws : List ℕ). has_bit (slice_index ws place) 0) is
    ∙ ap (λ x. has_bit x 0) (get_or-replicate count place 0 0 low)
