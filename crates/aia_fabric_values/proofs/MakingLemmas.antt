-- The entries of a new VM are made one after another.
use Rattle.std.proofs.Common.{◌≡◌, ◌≢◌, ℕ, ◌+◌, ◌*◌, ◌/◌, ◌^◌, ◌<◌, ◌≤◌, nat_lt, cond, List, [], ◌∷◌, ◌++◌, length, get_or, ◌⊎◌, inl, inr, refl, sym, ap, ◌∙◌, arith}
use Rattle.std.specs.Prelude.{slice_index, if◌then◌else◌, replicate}
use Rattle.std.proofs.Math.ListN.{set, get_or-append}
use Rattle.std.proofs.Math.Seq.{get_or-append_seam}
use Rattle.std.proofs.lemmas.Bool.{cases_eq, cases_lt, cond-true, cond-false, lt-ltb, le-ltb}
use Rattle.std.proofs.lemmas.List.{length-append, length-set, length-replicate, get_or-replicate, get_or_past, get_or-set_same, get_or-set_other}
use Rattle.aia_regs.specs.AddressMap.{slot_address}
use Rattle.aia_entry.specs.declared.entry.Entry.{Entry}
use Rattle.aia_entry.specs.declared.entry.Entry.TheVariants.{Mrif, NotValid}
use Rattle.aia_entry.specs.Format.{decoded, mrif_word, notice_word}
use Rattle.aia_entry.specs.Tables.{TableState, no_table, new_table, table_of, entry_in_force, written_entry, fenced, fenced_at}
use Rattle.aia_entry.proofs.FormatLemmas.{mrif_back}
use Rattle.aia_entry.proofs.TableLemmas.{fenced_here, fenced_elsewhere, table_elsewhere, fenced_mask, fenced_start, fenced_count}
use Rattle.aia_vcpu.specs.declared.vm.Vm.{Vm}
use Rattle.aia_vcpu.specs.Vms.{vcpus_in}
use Rattle.aia_fabric_values.specs.World.{World}
use Rattle.aia_fabric_values.specs.Making.{MakesVm, table_byte, notice_page, entry_word_place, words_with_entry, with_entry, with_vm}
use Rattle.aia_regs.specs.declared.limits.TheConstants.{VMS, VCPUS, SLOTS, ENTRIES, MEMORY_WORDS}
use Rattle.aia_word.proofs.BitLemmas.{below_next}

-- the entry in force of a file, once those of so many files are made
abbrev pub entry_so_far : Vm → ℕ → ℕ → ℕ → Entry
entry_so_far vm first made file =
    if nat_lt file made then Mrif (slot_address (first + file)) (notice_page vm) (first + file + 1) else NotValid

-- the VM is made, with the entries of so many files
pub record HasMade (w u : World) (vm : Vm) (made : ℕ) : Type 0 where
  pub vms : u.vms ≡ w.vms ++ vm ∷ []
  pub count : length u.tables ≡ length w.tables + 1
  pub others : (v : ℕ) → v < length w.tables → table_of u.tables v ≡ table_of w.tables v
  pub mask : (table_of u.tables (length w.tables)).mask ≡ vm.mask
  pub start : (table_of u.tables (length w.tables)).start ≡ table_byte (length w.tables)
  pub room : length (table_of u.tables (length w.tables)).in_force ≡ ENTRIES
  pub size : length u.memory ≡ MEMORY_WORDS
  pub in_force : (file : ℕ) → entry_in_force (table_of u.tables (length w.tables)) file ≡ entry_so_far vm (vcpus_in w.vms) made file
  pub word0 : (file : ℕ) → file < made → slice_index u.memory (entry_word_place (length w.tables) file) ≡ mrif_word
      (slot_address (vcpus_in w.vms + file))
  pub word1 : (file : ℕ) → file < made → slice_index u.memory (entry_word_place (length w.tables) file + 1) ≡ notice_word (notice_page vm)
      (vcpus_in w.vms + file + 1)
  pub elsewhere : (place : ℕ) → (place < entry_word_place (length w.tables) 0) ⊎ (entry_word_place (length w.tables) made ≤ place)
      → slice_index u.memory place ≡ slice_index w.memory place
  pub flights : u.flights ≡ w.flights ++ [] ∷ []
  pub rest : u ≡ record w { vms = u.vms; tables = u.tables; flights = u.flights; memory = u.memory }

-- ---- none

none_valid : (file : ℕ) → get_or (replicate ENTRIES NotValid) file NotValid ≡ NotValid
none_valid file = elim (cases_lt file ENTRIES) [
  | inl low ↦ get_or-replicate ENTRIES file NotValid NotValid low
  | inr past ↦ get_or_past (replicate ENTRIES NotValid) file NotValid (omega (arith, past, length-replicate ENTRIES NotValid))
]

pub none_made : (w : World) (vm : Vm) → length w.memory ≡ MEMORY_WORDS → HasMade w (with_vm w vm) vm 0
none_made w vm size =
    let t = new_table vm.mask (table_byte (length w.tables)) in
    let new : table_of (w.tables ++ t ∷ []) (length w.tables) ≡ t = get_or-append_seam w.tables t [] no_table in
    record {
      vms = refl;
      count = length-append w.tables (t ∷ []);
      others = λ v low. get_or-append w.tables (t ∷ []) no_table v low;
      mask = ap (λ (x : TableState). x.mask) new;
      start = ap (λ (x : TableState). x.start) new;
      room = ap (λ (x : TableState). length x.in_force) new ∙ length-replicate ENTRIES NotValid;
      size = size;
      in_force = λ file. ap (λ (x : TableState). entry_in_force x file) new ∙ none_valid file ∙ sym (cond-false _ _ _ (le-ltb file 0 (omega arith)));
      word0 = λ file low. absurd (omega arith);
      word1 = λ file low. absurd (omega arith);
      elsewhere = λ place apart. refl;
      flights = refl;
      rest = refl;
    }

-- ---- one more

table_here : (tables : List TableState) (vm file : ℕ) (words : List ℕ) → vm < length tables
    → table_of (fenced_at tables vm file words) vm ≡ fenced words file (table_of tables vm)
table_here tables vm file words there = get_or-set_same tables vm (fenced words file (table_of tables vm)) no_table there

-- the words of an entry that is written
first_word : (words : List ℕ) (vm file slot page : ℕ) → entry_word_place vm file + 1 < MEMORY_WORDS → length words ≡ MEMORY_WORDS
    → slice_index (words_with_entry words vm file slot page) (entry_word_place vm file) ≡ mrif_word (slot_address slot)
first_word words vm file slot page low size =
    get_or-set_other (set words (entry_word_place vm file) (mrif_word (slot_address slot))) (entry_word_place vm file + 1)
    (entry_word_place vm file) (notice_word page (slot + 1)) 0 (λ e. omega arith)
    ∙ get_or-set_same words (entry_word_place vm file) (mrif_word (slot_address slot)) 0 (omega arith)

second_word : (words : List ℕ) (vm file slot page : ℕ) → entry_word_place vm file + 1 < MEMORY_WORDS → length words ≡ MEMORY_WORDS
    → slice_index (words_with_entry words vm file slot page) (entry_word_place vm file + 1) ≡ notice_word page (slot + 1)
second_word words vm file slot page low size =
    get_or-set_same (set words (entry_word_place vm file) (mrif_word (slot_address slot))) (entry_word_place vm file + 1)
    (notice_word page (slot + 1)) 0 (omega (arith, length-set words (entry_word_place vm file) (mrif_word (slot_address slot))))

other_word : (words : List ℕ) (vm file slot page place : ℕ) → place ≢ entry_word_place vm file → place ≢ entry_word_place vm file + 1
    → slice_index (words_with_entry words vm file slot page) place ≡ slice_index words place
other_word words vm file slot page place first second =
    get_or-set_other (set words (entry_word_place vm file) (mrif_word (slot_address slot))) (entry_word_place vm file + 1) place
    (notice_word page (slot + 1)) 0 second
    ∙ get_or-set_other words (entry_word_place vm file) place (mrif_word (slot_address slot)) 0 first

size_kept : (words : List ℕ) (vm file slot page : ℕ) → length (words_with_entry words vm file slot page) ≡ length words
size_kept words vm file slot page = length-set (set words (entry_word_place vm file) (mrif_word (slot_address slot)))
    (entry_word_place vm file + 1) (notice_word page (slot + 1)) ∙ length-set words (entry_word_place vm file) (mrif_word (slot_address slot))

-- what they say
said : (words : List ℕ) (t : TableState) (vm file slot page : ℕ) → t.start ≡ table_byte vm → entry_word_place vm file + 1 < MEMORY_WORDS
    → length words ≡ MEMORY_WORDS → slot < SLOTS → page < 2 ^ 44
    → written_entry (words_with_entry words vm file slot page) t file ≡ Mrif (slot_address slot) page (slot + 1)
said words t vm file slot page start low size few there =
    let first : (t.start + 16 * file) / 8 ≡ entry_word_place vm file = ap (λ n. (n + 16 * file) / 8) start in
    let second : (t.start + 16 * file + 8) / 8 ≡ entry_word_place vm file + 1 = omega (arith, first) in
    let new = words_with_entry words vm file slot page in
    ap (λ n. decoded (slice_index new n) (slice_index new ((t.start + 16 * file + 8) / 8))) first
    ∙ ap (λ n. decoded (slice_index new (entry_word_place vm file)) (slice_index new n)) second
    ∙ ap (λ x. decoded x (slice_index new (entry_word_place vm file + 1))) (first_word words vm file slot page low size)
    ∙ ap (λ x. decoded (mrif_word (slot_address slot)) x) (second_word words vm file slot page low size)
    ∙ mrif_back (slot_address slot) page (slot + 1) (omega arith) (omega arith) there (omega arith)

pub one_more_made : (w u : World) (vm : Vm) (made page : ℕ) → HasMade w u vm made → length w.tables < VMS → made < ENTRIES
    → vcpus_in w.vms + made < VCPUS → page ≡ notice_page vm → page < 2 ^ 44
    → HasMade w (with_entry u (length w.tables) made (vcpus_in w.vms + made) page) vm (made + 1)
one_more_made w u vm made page so_far vms few slots is there =
    let new = length w.tables in
    let slot = vcpus_in w.vms + made in
    let words = words_with_entry u.memory new made slot page in
    let t = table_of u.tables new in
    let count = so_far.count in
    let stands : new < length u.tables = omega arith in
    let room = so_far.room in
    let low : entry_word_place new made + 1 < MEMORY_WORDS = omega arith in
    let here = table_here u.tables new made words stands in
    let entry : entry_in_force (table_of (fenced_at u.tables new made words) new) made ≡ Mrif (slot_address slot) (notice_page vm) (slot + 1) =
    fenced_here u.tables new made words stands (omega arith) ∙ said u.memory t new made slot page so_far.start low so_far.size slots there
    ∙ ap (λ p. Mrif (slot_address slot) p (slot + 1)) is in
    record {
      vms = so_far.vms;
      count = fenced_count u.tables new made words ∙ so_far.count;
      others = λ v under. table_elsewhere u.tables new made words v (λ e. omega arith) ∙ so_far.others v under;
      mask = fenced_mask u.tables new made words new ∙ so_far.mask;
      start = fenced_start u.tables new made words new ∙ so_far.start;
      room = ap (λ (x : TableState). length x.in_force) here ∙ length-set t.in_force made (written_entry words t made) ∙ so_far.room;
      size = size_kept u.memory new made slot page ∙ so_far.size;
      in_force = λ file. elim (cases_eq file made) [
        | inl e ↦ ap (λ n. entry_in_force (table_of (fenced_at u.tables new made words) new) n) e ∙ entry
            ∙ ap (λ n. Mrif (slot_address (vcpus_in w.vms + n)) (notice_page vm) (vcpus_in w.vms + n + 1)) (sym e)
            ∙ sym (cond-true _ _ _ (lt-ltb file (made + 1) (omega arith)))
        | inr ne ↦ fenced_elsewhere u.tables new made words new file (inr ne) ∙ so_far.in_force file
            ∙ ap (λ b. cond b (Mrif (slot_address (vcpus_in w.vms + file)) (notice_page vm) (vcpus_in w.vms + file + 1)) NotValid)
            (below_next file made ne)
      ];
      word0 = λ file under. elim (cases_eq file made) [
        | inl e ↦ ap (λ n. slice_index words (entry_word_place new n)) e ∙ first_word u.memory new made slot page low so_far.size
            ∙ ap (λ n. mrif_word (slot_address (vcpus_in w.vms + n))) (sym e)
        | inr ne ↦ other_word u.memory new made slot page (entry_word_place new file) (λ e. omega arith) (λ e. omega arith)
            ∙ so_far.word0 file (omega arith)
      ];
      word1 = λ file under. elim (cases_eq file made) [
        | inl e ↦ ap (λ n. slice_index words (entry_word_place new n + 1)) e ∙ second_word u.memory new made slot page low so_far.size
            ∙ ap (λ p. notice_word p (slot + 1)) is ∙ ap (λ n. notice_word (notice_page vm) (vcpus_in w.vms + n + 1)) (sym e)
        | inr ne ↦ other_word u.memory new made slot page (entry_word_place new file + 1) (λ e. omega arith) (λ e. omega arith)
            ∙ so_far.word1 file (omega arith)
      ];
      elsewhere = λ place apart. elim apart [
        | inl before ↦ other_word u.memory new made slot page place (λ e. omega arith) (λ e. omega arith) ∙ so_far.elsewhere place (inl before)
        | inr past ↦ other_word u.memory new made slot page place (λ e. omega arith) (λ e. omega arith) ∙ so_far.elsewhere place (inr (omega arith))
      ];
      flights = so_far.flights;
      rest = ap (λ (x : World). record x { vms = u.vms; tables = fenced_at u.tables new made words; memory = words }) so_far.rest;
    }

-- ---- all

pub all_made : (w u : World) (vm : Vm) → HasMade w u vm vm.vcpus → MakesVm w u vm
all_made w u vm made = record {
  vms = made.vms;
  count = made.count;
  others = made.others;
  mask = made.mask;
  start = made.start;
  in_force = made.in_force;
  word0 = made.word0;
  word1 = made.word1;
  elsewhere = made.elsewhere;
  flights = made.flights;
  rest = made.rest;
}
