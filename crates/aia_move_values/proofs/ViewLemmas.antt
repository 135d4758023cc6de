-- How a change of the world shows in the places of a virtual hart: of a file, of a word of memory,
-- of an entry in force, of a G-stage record.
use Rattle.std.proofs.Common.{◌≡◌, ◌≢◌, ℕ, ◌+◌, ◌/◌, ◌%◌, ◌<◌, ◌≤◌, Bool, true, false, not, ◌&&◌, cond, nat_eq, List, length, get_or, Option, Some, None, inl, inr, refl, sym, ap, ◌∙◌, arith}
use Rattle.std.specs.Prelude.{bit_or}
use Rattle.std.proofs.Math.ListN.{set}
use Rattle.std.proofs.lemmas.Bool.{cases_lt, cases_Bool, eqb-true}
use Rattle.std.proofs.lemmas.List.{get_or-set_same, get_or-set_other, set_past}
use Rattle.aia_word.specs.Sets.{is_in}
use Rattle.aia_word.proofs.SetLemmas.{is_in-set, is_in-past, same_sets}
use Rattle.aia_word.proofs.BitLemmas.{has_bit-zero}
use Rattle.aia_regs.specs.declared.limits.TheConstants.{VCPUS, WORDS_OF_SLOTS, MEMORY_WORDS, FILE_WORDS}
use Rattle.aia_regs.specs.declared.access.Op.TheVariants as ops
use Rattle.aia_regs.specs.declared.file_registers.FileReg.{FileReg}
use Rattle.aia_file.specs.InterruptFile.{InterruptFile, accessed}
use Rattle.aia_file.specs.FileState.{FileState, shown}
use Rattle.aia_file.proofs.FileLemmas.{same_file}
use Rattle.aia_file.proofs.BankLemmas.{members_joined}
use Rattle.aia_file.specs.declared.spot.Spot.{Spot}
use Rattle.aia_file.specs.declared.spot.Spot.TheVariants.{SupervisorFile}
use Rattle.aia_file.specs.Imsic.{ImsicState, IsThere, place_of, file_at, with_file}
use Rattle.aia_file.proofs.PlaceLemmas.{place_within, replaced_here, kept_elsewhere}
use Rattle.aia_file.specs.Mrif.{mrif_in, set_at, pending_place, enable_place}
use Rattle.aia_file.specs.Words.{HasSlot}
use Rattle.aia_file.proofs.SlotLemmas.{written, kept, slot_joined, other_words}
pub use Rattle.aia_file.proofs.SlotLemmas.{place_shows}
use Rattle.aia_entry.specs.Format.{decoded}
use Rattle.aia_entry.specs.Tables.{table_of, entry_byte}
use Rattle.aia_entry.proofs.TableLemmas.{fenced_here}
use Rattle.aia_vcpu.specs.declared.place.GuestPlace.{GuestPlace}
use Rattle.aia_vcpu.specs.Vms.{Vcpu, is_vcpu_in, slot_of}
use Rattle.aia_vcpu.specs.Home.{Home, is_place}
use Rattle.aia_vcpu.specs.BySteps.{own_file, next_file}
use Rattle.aia_vcpu.proofs.HomeLemmas.{is_itself_place}
use Rattle.aia_vcpu.proofs.VmLemmas.{slot_below}
use Rattle.aia_vcpu_places.specs.Steps.{without_word, joined_by, replaced_by}
use Rattle.aia_fabric_values.specs.declared.stage.Stage.{Stage}
use Rattle.aia_fabric_values.specs.World.{World, stage_of, no_stage}
use Rattle.aia_fabric_values.specs.Whole.{IsWhole}
use Rattle.aia_fabric_values.specs.Making.{entry_word_place}
use Rattle.aia_fabric_values.specs.Stores.{Posts}
use Rattle.aia_fabric_values.specs.Changes.{PutsRegister, spot_of, file_in, with_word, with_state, with_fence, with_stage, with_map, with_gfence}
use Rattle.aia_move_values.specs.Views.{places_of}
use Rattle.aia_fabric_values.proofs.WholeLemmas.{vcpu_entry, entry_at}

-- ---- a file

pub same_place : (a b : GuestPlace) → spot_of a ≡ spot_of b → a ≡ b
same_place a b e = let hart : a.hart ≡ b.hart = cc in let file : a.file ≡ b.file = cc in λ k. record { hart = hart k; file = file k }

pub spots_apart : (a b : GuestPlace) → is_place a b ≡ false → spot_of a ≢ spot_of b
spots_apart a b apart e = let no : true ≡ false = sym (is_itself_place a) ∙ ap (λ (p : GuestPlace). is_place a p) (same_place a b e)
    ∙ apart in absurd (cc)

pub within_files : (w : World) (spot : Spot) → IsWhole w → IsThere w.imsic spot → place_of w.imsic spot < length w.imsic.files
within_files w spot whole there = let low = place_within w.imsic spot there in omega (arith, low, whole.files)

pub here : (w : World) (spot : Spot) (f : FileState) → IsWhole w → IsThere w.imsic spot → file_at (with_state w spot f).imsic spot ≡ f
here w spot f whole there = replaced_here w.imsic spot f (within_files w spot whole there)

-- it is no file of a home
abbrev pub IsNoFile : World → GuestPlace → Option GuestPlace → Type 0
IsNoFile w p o = (r : GuestPlace) → o ≡ Some r → IsThere w.imsic (spot_of r) × (is_place r p ≡ false)

pub file_in-other : (w : World) (p : GuestPlace) (f : FileState) (o : Option GuestPlace) → IsThere w.imsic (spot_of p) → IsNoFile w p o
    → file_in (with_state w (spot_of p) f) o ≡ file_in w o
file_in-other w p f None there none = refl
file_in-other w p f (Some r) there none = let other = none r refl in
    ap shown (kept_elsewhere w.imsic (spot_of p) (spot_of r) f there other.0 (spots_apart r p other.1))

file_in-here : (w : World) (p : GuestPlace) (f : FileState) (o : Option GuestPlace) → IsWhole w → IsThere w.imsic (spot_of p) → o ≡ Some p
    → file_in (with_state w (spot_of p) f) o ≡ shown f
file_in-here w p f o whole there e = ap (λ x. file_in (with_state w (spot_of p) f) x) e ∙ ap shown (here w (spot_of p) f whole there)

module _ (w : World) (g : Vcpu) (there : Home) (p : GuestPlace) (f : FileState) (whole : IsWhole w) (stands : IsThere w.imsic (spot_of p)) where
  pub own-replaced : own_file there ≡ Some p → IsNoFile w p (next_file there)
      → places_of (with_state w (spot_of p) f) g there ≡ record (places_of w g there) { own = shown f }
  own-replaced own next =
      let e = file_in-here w p f (own_file there) whole stands own in
      let o = file_in-other w p f (next_file there) stands next in
      λ k. record (places_of w g there) { own = e k; next = o k }

  pub next-replaced : next_file there ≡ Some p → IsNoFile w p (own_file there)
      → places_of (with_state w (spot_of p) f) g there ≡ record (places_of w g there) { next = shown f }
  next-replaced next own =
      let e = file_in-here w p f (next_file there) whole stands next in
      let o = file_in-other w p f (own_file there) stands own in
      λ k. record (places_of w g there) { own = o k; next = e k }

-- a register of it is written
module _ (w u : World) (g : Vcpu) (there : Home) (p : GuestPlace) (reg : FileReg) (v : ℕ) (whole : IsWhole w)
    (stands : IsThere w.imsic (spot_of p)) (puts : PutsRegister w u (spot_of p) reg v) where
  pub own-put : own_file there ≡ Some p → IsNoFile w p (next_file there)
      → places_of u g there ≡ record (places_of w g there) { own = accessed reg (ops.Write v) (places_of w g there).own }
  own-put own next =
      ap (λ (x : World). places_of x g there) puts.others ∙ own-replaced w g there p (file_at u.imsic (spot_of p)) whole stands own next
      ∙ ap (λ (file : InterruptFile). record (places_of w g there) { own = file })
      (same_file (shown (file_at u.imsic (spot_of p))) (accessed reg (ops.Write v) (shown (file_at w.imsic (spot_of p)))) puts.lands
      ∙ ap (λ o. accessed reg (ops.Write v) (file_in w o)) (sym own))

  pub next-put : next_file there ≡ Some p → IsNoFile w p (own_file there)
      → places_of u g there ≡ record (places_of w g there) { next = accessed reg (ops.Write v) (places_of w g there).next }
  next-put next own =
      ap (λ (x : World). places_of x g there) puts.others ∙ next-replaced w g there p (file_at u.imsic (spot_of p)) whole stands next own
      ∙ ap (λ (file : InterruptFile). record (places_of w g there) { next = file })
      (same_file (shown (file_at u.imsic (spot_of p))) (accessed reg (ops.Write v) (shown (file_at w.imsic (spot_of p)))) puts.lands
      ∙ ap (λ o. accessed reg (ops.Write v) (file_in w o)) (sym next))

-- ---- a word of a set that is a row of words

neither : (b x : Bool) → cond b false x ≡ (not b && x)
neither true x = refl
neither false x = refl

pub word_taken : (words : List ℕ) (k : ℕ) → is_in (set words k 0) ≡ without_word k (is_in words)
word_taken words k = same_sets _ _ (λ i. elim (cases_lt k (length words)) [
  | inl low ↦ is_in-set words k 0 i low ∙ ap (λ b. cond (nat_eq (i / 64) k) b (is_in words i)) (has_bit-zero (i % 64))
      ∙ neither (nat_eq (i / 64) k) (is_in words i)
  | inr past ↦ ap (λ ws. is_in ws i) (set_past words k 0 past) ∙ elim (cases_Bool (nat_eq (i / 64) k)) [
    | inl e ↦ let out : length words ≤ i / 64 = omega (arith, eqb-true (i / 64) k e) in is_in-past words i out
        ∙ ap (λ b. not b && is_in words i) (sym e)
    | inr e ↦ ap (λ b. not b && is_in words i) (sym e)
  ]
])

pub word_joined : (words : List ℕ) (k v : ℕ) → k < length words → is_in (set words k (bit_or (get_or words k 0) v)) ≡ joined_by k v (is_in words)
word_joined words k v low = same_sets _ _ (λ i. members_joined words k v i low)

pub word_replaced : (words : List ℕ) (k v : ℕ) → k < length words → is_in (set words k v) ≡ replaced_by k v (is_in words)
word_replaced words k v low = same_sets _ _ (λ i. is_in-set words k v i low)

-- ---- a word of a slot

module _ (words : List ℕ) (q k v : ℕ) (whole : HasSlot words q) (low : k < FILE_WORDS) where
  pending_written : set_at (pending_place q) (set words (pending_place q k) v) ≡ replaced_by k v (set_at (pending_place q) words)
  pending_written = same_sets _ _ (λ i. written (pending_place q) words k v i (λ j e. omega (arith, e)) (omega (arith, whole)) low)

  enabled_written : set_at (enable_place q) (set words (enable_place q k) v) ≡ replaced_by k v (set_at (enable_place q) words)
  enabled_written = same_sets _ _ (λ i. written (enable_place q) words k v i (λ j e. omega (arith, e)) (omega (arith, whole)) low)

  enabled_kept : set_at (enable_place q) (set words (pending_place q k) v) ≡ set_at (enable_place q) words
  enabled_kept = same_sets _ _ (λ i. kept (enable_place q) words (pending_place q k) v i (λ j l e. omega (arith, e)))

  pending_kept : set_at (pending_place q) (set words (enable_place q k) v) ≡ set_at (pending_place q) words
  pending_kept = same_sets _ _ (λ i. kept (pending_place q) words (enable_place q k) v i (λ j l e. omega (arith, e)))

  pub slot_pending-written : mrif_in (set words (pending_place q k) v) q ≡ record (mrif_in words q)
      { pending = replaced_by k v (set_at (pending_place q) words) }
  slot_pending-written = λ t. record { pending = pending_written t; enabled = enabled_kept t }

  pub slot_enabled-written : mrif_in (set words (enable_place q k) v) q ≡ record (mrif_in words q)
      { enabled = replaced_by k v (set_at (enable_place q) words) }
  slot_enabled-written = λ t. record { pending = pending_kept t; enabled = enabled_written t }

  pub slot_pending-joined : mrif_in (set words (pending_place q k) (bit_or (get_or words (pending_place q k) 0) v)) q ≡ record (mrif_in words q)
      { pending = joined_by k v (set_at (pending_place q) words) }
  slot_pending-joined =
      let joined : set_at (pending_place q) (set words (pending_place q k) (bit_or (get_or words (pending_place q k) 0) v)) ≡ joined_by k v
      (set_at (pending_place q) words) = same_sets _ _ (λ i. slot_joined words _ q k v whole low refl i) in
      let same : set_at (enable_place q) (set words (pending_place q k) (bit_or (get_or words (pending_place q k) 0) v)) ≡ set_at (enable_place q)
      words = same_sets _ _ (λ i. kept (enable_place q) words (pending_place q k) _ i (λ j l e. omega (arith, e))) in
      λ t. record { pending = joined t; enabled = same t }

pub nothing_replaced : (k : ℕ) (members : ℕ → Bool) → replaced_by k 0 members ≡ without_word k members
nothing_replaced k members = same_sets _ _ (λ i. ap (λ b. cond (nat_eq (i / 64) k) b (members i)) (has_bit-zero (i % 64))
    ∙ neither (nat_eq (i / 64) k) (members i))

-- ---- a word of memory

pub slot_low : (w : World) (g : Vcpu) → IsWhole w → is_vcpu_in w.vms g ≡ true → slot_of w.vms g < VCPUS
slot_low w g whole there = let below = slot_below w.vms g there in omega (arith, below, whole.vcpus)

pub has_slot : (w : World) (q : ℕ) → IsWhole w → q < VCPUS → HasSlot w.memory q
has_slot w q whole low = omega (arith, low, whole.memory)

entries_past : (vm file place : ℕ) → place < WORDS_OF_SLOTS → (entry_word_place vm file ≢ place) × (entry_word_place vm file + 1 ≢ place)
entries_past vm file place low = (λ e. omega arith, λ e. omega arith)

module _ (w : World) (g : Vcpu) (there : Home) (whole : IsWhole w) (stands : is_vcpu_in w.vms g ≡ true) where
  pub in_slot-places : (place v : ℕ) → place < WORDS_OF_SLOTS
      → places_of (with_word w place v) g there ≡ record (places_of w g there) { slot = mrif_in (set w.memory place v) (slot_of w.vms g) }
  in_slot-places place v low =
      let past = entries_past g.vm g.vcpu place low in
      let first = get_or-set_other w.memory place (entry_word_place g.vm g.vcpu) v 0 past.0 in
      let second = get_or-set_other w.memory place (entry_word_place g.vm g.vcpu + 1) v 0 past.1 in
      λ t. record (places_of w g there) { slot = mrif_in (set w.memory place v) (slot_of w.vms g); word0 = first t; word1 = second t }

  entry_low : entry_word_place g.vm g.vcpu + 1 < MEMORY_WORDS
  entry_low = let entry = vcpu_entry w g.vm g.vcpu whole stands in (entry_at w g.vm g.vcpu whole entry.0 entry.3).3

  in_table : (place v : ℕ) → WORDS_OF_SLOTS ≤ place → mrif_in (set w.memory place v) (slot_of w.vms g) ≡ mrif_in w.memory (slot_of w.vms g)
  in_table place v high = let low = slot_low w g whole stands in other_words w.memory (slot_of w.vms g) place v (inr (omega (arith, low, high)))

  pub word0-places : (v : ℕ) → places_of (with_word w (entry_word_place g.vm g.vcpu + 0) v) g there ≡ record (places_of w g there) { word0 = v }
  word0-places v =
      let at = entry_word_place g.vm g.vcpu in
      let same : at + 0 ≡ at = omega arith in
      let size = whole.memory in
      let low = entry_low in
      let slot = in_table at v (omega arith) in
      let first = get_or-set_same w.memory at v 0 (omega arith) in
      let second = get_or-set_other w.memory at (at + 1) v 0 (λ e. omega arith) in
      let all : places_of (with_word w at v) g there ≡ record (places_of w g there) { word0 = v } =
      λ t. record (places_of w g there) { slot = slot t; word0 = first t; word1 = second t } in
      ap (λ place. places_of (with_word w place v) g there) same ∙ all

  pub word1-places : (v : ℕ) → places_of (with_word w (entry_word_place g.vm g.vcpu + 1) v) g there ≡ record (places_of w g there) { word1 = v }
  word1-places v =
      let at = entry_word_place g.vm g.vcpu in
      let size = whole.memory in
      let low = entry_low in
      let slot = in_table (at + 1) v (omega arith) in
      let first = get_or-set_other w.memory (at + 1) at v 0 (λ e. omega arith) in
      let second = get_or-set_same w.memory (at + 1) v 0 (omega arith) in
      λ t. record (places_of w g there) { slot = slot t; word0 = first t; word1 = second t }

  -- ---- an entry, and a record

  pub fence-places : places_of (with_fence w g.vm g.vcpu) g there ≡ record (places_of w g there)
      { in_force = decoded (places_of w g there).word0 (places_of w g there).word1 }
  fence-places =
      let entry = vcpu_entry w g.vm g.vcpu whole stands in
      let at = entry_at w g.vm g.vcpu whole entry.0 entry.3 in
      let is = whole.vms g.vm entry.0 in
      let first : entry_byte (table_of w.tables g.vm) g.vcpu / 8 ≡ entry_word_place g.vm g.vcpu = omega (arith, at.1, at.2) in
      let second : (entry_byte (table_of w.tables g.vm) g.vcpu + 8) / 8 ≡ entry_word_place g.vm g.vcpu + 1 = omega (arith, at.1, at.2) in
      let new = fenced_here w.tables g.vm g.vcpu w.memory (omega (arith, entry.0, whole.tables)) (omega (arith, entry.2, is.entries))
      ∙ ap (λ place. decoded (get_or w.memory place 0) (get_or w.memory ((entry_byte (table_of w.tables g.vm) g.vcpu + 8) / 8) 0)) first
      ∙ ap (λ place. decoded (get_or w.memory (entry_word_place g.vm g.vcpu) 0) (get_or w.memory place 0)) second in
      λ t. record (places_of w g there) { in_force = new t }

  stage_here : (s : Stage) → stage_of (with_stage w g s) g ≡ s
  stage_here s = let low = slot_low w g whole stands in get_or-set_same w.stages (slot_of w.vms g) s no_stage (omega (arith, low, whole.stages))

  -- whatever is made of the record
  pub stage-places : (s : Stage) → places_of (with_stage w g s) g there ≡ record (places_of w g there)
      { stage = s.written; stage_in_force = s.in_force }
  stage-places s = let new = stage_here s in λ t. record (places_of w g there) { stage = (new t).written; stage_in_force = (new t).in_force }

  pub map-places : (to : Option GuestPlace) → places_of (with_map w g to) g there ≡ record (places_of w g there) { stage = to }
  map-places to = stage-places (record (stage_of w g) { written = to })

  pub gfence-places : places_of (with_gfence w g) g there ≡ record (places_of w g there) { stage_in_force = (places_of w g there).stage }
  gfence-places = stage-places (record (stage_of w g) { in_force = (stage_of w g).written })

-- ---- a notice

file_in-posted : (w : World) (hart : ℕ) (f : FileState) (notices : ℕ) (o : Option GuestPlace) → hart < w.imsic.harts
    → ((r : GuestPlace) → o ≡ Some r → IsThere w.imsic (spot_of r))
    → file_in (record w { imsic = with_file w.imsic (SupervisorFile hart) f; notices = notices }) o ≡ file_in w o
file_in-posted w hart f notices None low stands = refl
file_in-posted w hart f notices (Some r) low stands =
    ap shown (kept_elsewhere w.imsic (SupervisorFile hart) (spot_of r) f low (stands r refl) (λ e. absurd (cc)))

pub posts-places : (w u : World) (g : Vcpu) (there : Home) (hart identity : ℕ) → hart < w.imsic.harts
    → ((r : GuestPlace) → own_file there ≡ Some r → IsThere w.imsic (spot_of r))
    → ((r : GuestPlace) → next_file there ≡ Some r → IsThere w.imsic (spot_of r))
    → Posts w u (SupervisorFile hart) identity → places_of u g there ≡ places_of w g there
posts-places w u g there hart identity low own next p =
    let f = file_at u.imsic (SupervisorFile hart) in
    let e = file_in-posted w hart f u.notices (own_file there) low own in
    let o = file_in-posted w hart f u.notices (next_file there) low next in
    let all : places_of (record w { imsic = with_file w.imsic (SupervisorFile hart) f; notices = u.notices }) g there ≡ places_of w g there =
    λ k. record (places_of w g there) { own = e k; next = o k } in
    ap (λ (x : World). places_of x g there) (p.rest ∙ ap (λ (j : ImsicState). record w { imsic = j; notices = u.notices }) p.lands.others) ∙ all
