-- What each deed and each write keeps of a virtual hart's interrupts: their members are there, and
-- their registers hold their numbers.
use Rattle.std.proofs.Common.{◌≡◌, ◌⊎◌, ℕ, ◌+◌, ◌*◌, ◌%◌, ◌<◌, ◌≤◌, Bool, true, false, cond, if◌then◌else◌, nat_eq, [], ◌∷◌, Option, Some, None, inl, inr, refl, sym, ap, ◌∙◌, lit<, arith}
use Rattle.std.specs.Int.{is_in_range}
use Rattle.std.proofs.lemmas.Bool.{cases_Bool, and_parts, eqb-true, false≢true}
use Rattle.std.proofs.Math.Nat.{mod-lt}
use Rattle.std.proofs.lemmas.Bool.Decides.{nat_tests}
use Rattle.aia_regs.specs.declared.access.Csr.TheVariants.{Select, Reg, Topei}
use Rattle.aia_regs.specs.declared.access.Op.{Op}
use Rattle.aia_regs.specs.declared.access.Op.TheVariants as ops
use Rattle.aia_regs.specs.declared.file_registers.FileReg.{FileReg}
use Rattle.aia_regs.specs.declared.file_registers.FileReg.TheVariants.{Delivery, Threshold, Pending, Enable}
use Rattle.aia_regs.specs.Fields.{bit_number}
use Rattle.aia_word.specs.Sets.{has_bit}
use Rattle.aia_regs.specs.Operations.{written}
use Rattle.aia_regs.specs.BitUpdate.{settle, names}
use Rattle.aia_regs.specs.BitUpdate.BitUpdate.{Ask, Clear, Nothing}
use Rattle.aia_regs.specs.FileRegisters.{register_of, eip_said, number_after, threshold_after, delivery_after}
use Rattle.aia_regs.specs.Request.{number_written, implemented, requested}
use Rattle.aia_file.specs.InterruptFile.{InterruptFile, accessed, claimed, landed, top_of}
use Rattle.aia_major.specs.VsMajor.{VsMajorState, is_major, is_guests_own, is_hvictl, fits_hviprio1, fits_hvictl, injection_said, sip_said, sie_said, hvictl_kept, hviprio1_kept, with_injection, with_hvip, with_sip, with_sie, with_hviprio1, with_hvictl, new_majors}
use Rattle.aia_model.specs.declared.part.Part.{Part}
use Rattle.aia_model.specs.declared.part.Part.TheVariants as parts
use Rattle.aia_model.specs.Event.{Event, History}
use Rattle.aia_model.specs.FileAfter.{FileDeed, select_after, relay_said, file_after, select_by, file_by}
use Rattle.aia_model.specs.FileAfter.FileDeed.{Makes, Accesses, Stores, Relays, Loads, Rests}
use Rattle.aia_model.specs.Image.{is_loadable, majors_loaded}

-- ---- the file

-- The pending identities of a file are ones of it, and its numbers are such as are kept.
pub record IsFit (file : InterruptFile) : Type 0 where
  pub pending : (i : ℕ) → file.pending i ≡ true → is_in_range 1 file.n i ≡ true
  pub threshold : file.threshold ≤ file.n
  pub delivery : file.delivery < 2

eip_fits : (n : ℕ) (reg : FileReg) (op : Op) (i : ℕ) (was : Bool) → (was ≡ true → is_in_range 1 n i ≡ true)
    → settle (eip_said n reg op i) was ≡ true → is_in_range 1 n i ≡ true
eip_fits n (Pending k) op i was fits e = elim (cases_Bool (is_in_range 1 n i)) [
  | inl here ↦ here
  | inr past ↦ fits (rw past at e)
]
eip_fits n reg op i was fits e = fits e

number_low : (bound : ℕ) (kept : ℕ → ℕ) → ((v : ℕ) → kept v < bound) → (op : Op) (was : ℕ) → was < bound → number_after kept op was < bound
number_low bound kept all ops.Read was low = low
number_low bound kept all (ops.Write v) was low = all (written (ops.Write v) was)
number_low bound kept all (ops.Set v) was low = all (written (ops.Set v) was)
number_low bound kept all (ops.Clear v) was low = all (written (ops.Clear v) was)

threshold_fits : (n : ℕ) (reg : FileReg) (op : Op) (was : ℕ) → was < n + 1 → threshold_after n reg op was < n + 1
threshold_fits n Threshold op was low = number_low (n + 1) (λ v. v % (n + 1)) (λ v. mod-lt v (omega arith)) op was low
threshold_fits n reg op was low = low

delivery_fits : (reg : FileReg) (op : Op) (was : ℕ) → was < 2 → delivery_after reg op was < 2
delivery_fits Delivery op was low = number_low 2 (λ v. v % 2) (λ v. omega arith) op was low
delivery_fits reg op was low = low

access_fit : (reg : FileReg) (op : Op) (file : InterruptFile) → IsFit file → IsFit (accessed reg op file)
access_fit reg op file p = record {
  pending = λ i e. eip_fits file.n reg op i (file.pending i) (p.pending i) e;
  threshold = let low : threshold_after file.n reg op file.threshold < file.n + 1 =
      threshold_fits file.n reg op file.threshold (omega (arith, p.threshold)) in omega (arith, low);
  delivery = delivery_fits reg op file.delivery p.delivery;
}

was_there : (b was : Bool) → settle (if b then Clear else Nothing) was ≡ true → was ≡ true
was_there true was e = absurd (cc)
was_there false was e = e

claim_fit : (file : InterruptFile) → IsFit file → IsFit (claimed file)
claim_fit file p = record {
  pending = λ i e. p.pending i (was_there (names (top_of file) i) (file.pending i) e);
  threshold = p.threshold;
  delivery = p.delivery;
}

named_fits : (n : ℕ) (o : Option ℕ) (i : ℕ) → names (implemented n o) i ≡ true → is_in_range 1 n i ≡ true
named_fits n None i e = absurd (cc)
named_fits n (Some x) i e = by_range (is_in_range 1 n x) refl e
  where
    by_range : (b : Bool) → is_in_range 1 n x ≡ b → names (cond b (Some x) None) i ≡ true → is_in_range 1 n i ≡ true
    by_range true is e = ap (is_in_range 1 n) (sym (eqb-true x i e)) ∙ is
    by_range false is e = absurd (cc)

asked_or_was : (b was : Bool) → settle (if b then Ask else Nothing) was ≡ true → (b ≡ true) ⊎ (was ≡ true)
asked_or_was true was e = inl refl
asked_or_was false was e = inr e

store_fit : (offset value : ℕ) (file : InterruptFile) → IsFit file → IsFit (landed offset value file)
store_fit offset value file p = record {
  pending = λ i e. elim (asked_or_was (names (requested file.n offset value) i) (file.pending i) e)
      [ inl asked ↦ named_fits file.n (number_written offset value) i asked | inr was ↦ p.pending i was ];
  threshold = p.threshold;
  delivery = p.delivery;
}

relay_fits : (n x : ℕ) (notice : Option ℕ) (i : ℕ) (was : Bool) → (was ≡ true → is_in_range 1 n i ≡ true)
    → settle (relay_said n x notice i) was ≡ true → is_in_range 1 n i ≡ true
relay_fits n x None i was fits e = fits (was_there (nat_eq x i) was e)
relay_fits n x (Some v) i was fits e = elim (cases_Bool (names (requested n 0 v) i)) [
  | inl asked ↦ named_fits n (number_written 0 v) i asked
  | inr other ↦ fits (was_there (nat_eq x i) was (rw other at e))
]

relay_fit : (x : ℕ) (notice : Option ℕ) (file : InterruptFile) (select : ℕ) → IsFit file → IsFit (file_after select (Relays x notice) file)
relay_fit x notice file select p = record {
  pending = λ i e. relay_fits file.n x notice i (file.pending i) (p.pending i) e;
  threshold =
      p.threshold;
  delivery = p.delivery;
}

deed_fit : (select : ℕ) (deed : FileDeed) (file : InterruptFile) → IsFit file → IsFit (file_after select deed file)
deed_fit select (Makes n) file p = record { pending = λ i e. absurd (false≢true e); threshold = omega arith; delivery = lit< tt }
deed_fit select (Accesses Reg op) file p = access_fit (register_of select) op file p
deed_fit select (Accesses Topei ops.Read) file p = p
deed_fit select (Accesses Topei (ops.Write v)) file p = claim_fit file p
deed_fit select (Accesses Topei (ops.Set v)) file p = claim_fit file p
deed_fit select (Accesses Topei (ops.Clear v)) file p = claim_fit file p
deed_fit select (Accesses csr op) file p = p
deed_fit select (Stores offset value) file p = store_fit offset value file p
deed_fit select (Relays x notice) file p = relay_fit x notice file select p
deed_fit select (Loads (parts.Image version n delivery threshold number)) file p =
    access_fit Threshold (ops.Write threshold) (accessed Delivery (ops.Write (bit_number delivery)) file)
    (access_fit Delivery (ops.Write (bit_number delivery)) file p)
deed_fit select (Loads (parts.Majors injected enabled)) file p = p
deed_fit select (Loads (parts.Prio hviprio hvictl)) file p = p
deed_fit select (Loads (parts.Word w pending enable)) file p =
    access_fit (Enable (2 * w)) (ops.Write enable) (accessed (Pending (2 * w)) (ops.Set pending) file)
    (access_fit (Pending (2 * w)) (ops.Set pending) file p)
deed_fit select Rests file p = p

pub always_fit : (deed : History → Event → FileDeed) (h : History) → IsFit (file_by deed h)
unfolding file_by
always_fit deed [] = record { pending = λ i e. absurd (false≢true e); threshold = omega arith; delivery = lit< tt }
always_fit deed (event ∷ past) = deed_fit (select_by deed past) (deed past event) (file_by deed past) (always_fit deed past)

-- ---- the select number

select_fits : (deed : FileDeed) (was : ℕ) → was < 4096 → select_after deed was < 4096
select_fits (Makes n) was low = lit< tt
select_fits (Accesses Select op) was low = number_low 4096 (λ v. v % 4096) (λ v. omega arith) op was low
select_fits (Accesses csr op) was low = low
select_fits (Stores offset value) was low = low
select_fits (Relays x notice) was low = low
select_fits (Loads (parts.Image version n delivery threshold select)) was low = omega arith
select_fits (Loads (parts.Majors injected enabled)) was low = low
select_fits (Loads (parts.Prio hviprio hvictl)) was low = low
select_fits (Loads (parts.Word w pending enable)) was low = low
select_fits Rests was low = low

pub select_low : (deed : History → Event → FileDeed) (h : History) → select_by deed h < 4096
unfolding select_by
select_low deed [] = lit< tt
select_low deed (event ∷ past) = select_fits (deed past event) (select_by deed past) (select_low deed past)

-- ---- what the registers of the majors hold

held_hviprio1 : (v : ℕ) → fits_hviprio1 (hviprio1_kept v) ≡ true
held_hviprio1 v = grind (arith, nat_tests)

held_hvictl : (v : ℕ) → is_hvictl v ≡ true → fits_hvictl (hvictl_kept v) ≡ true
held_hvictl v is = grind (arith, nat_tests)

-- ---- the majors

-- The injected and the enabled majors are majors, and their registers hold what they may.
pub record AreFit (m : VsMajorState) : Type 0 where
  pub injected : (j : ℕ) → m.injected j ≡ true → is_major j ≡ true
  pub enabled : (j : ℕ) → m.enabled j ≡ true → is_major j ≡ true
  pub hviprio1 : fits_hviprio1 m.hviprio1 ≡ true
  pub hvictl : fits_hvictl m.hvictl ≡ true

pub new_fit : AreFit new_majors
new_fit = record { injected = λ j e. absurd (false≢true e); enabled = λ j e. absurd (false≢true e); hviprio1 = refl; hvictl = refl }

sie_fits : (op : Op) (j : ℕ) (was : Bool) → (was ≡ true → is_major j ≡ true) → settle (sie_said op j) was ≡ true → is_major j ≡ true
sie_fits op j was fits e = elim (cases_Bool (is_major j)) [ inl here ↦ here | inr past ↦ fits (rw past at e) ]

own_is_major : (j : ℕ) → is_guests_own j ≡ true → is_major j ≡ true
own_is_major j e = grind (arith, nat_tests)

sip_fits : (op : Op) (j : ℕ) (was : Bool) → (was ≡ true → is_major j ≡ true) → settle (sip_said op j) was ≡ true → is_major j ≡ true
sip_fits op j was fits e = elim (cases_Bool (is_guests_own j)) [ inl here ↦ own_is_major j here | inr past ↦ fits (rw past at e) ]

injection_fits : (major : ℕ) (level : Bool) (j : ℕ) (was : Bool) → is_major major ≡ true → (was ≡ true → is_major j ≡ true)
    → settle (injection_said major level j) was ≡ true → is_major j ≡ true
injection_fits major level j was is fits e = elim (cases_Bool (nat_eq major j))
    [ inl here ↦ ap is_major (sym (eqb-true major j here)) ∙ is | inr past ↦ fits (rw past at e) ]

pub injection_fit : (major : ℕ) (level : Bool) (m : VsMajorState) → is_major major ≡ true → AreFit m → AreFit (with_injection major level m)
injection_fit major level m is p = record {
  injected = λ j e. injection_fits major level j (m.injected j) is (p.injected j) e;
  enabled =
      p.enabled;
  hviprio1 = p.hviprio1;
  hvictl = p.hvictl;
}

pub sip_fit : (op : Op) (m : VsMajorState) → AreFit m → AreFit (with_sip op m)
sip_fit op m p = record {
  injected = λ j e. sip_fits op j (m.injected j) (p.injected j) e;
  enabled = p.enabled;
  hviprio1 = p.hviprio1;
  hvictl = p.hvictl;
}

pub sie_fit : (op : Op) (m : VsMajorState) → AreFit m → AreFit (with_sie op m)
sie_fit op m p = record {
  injected = p.injected;
  enabled = λ j e. sie_fits op j (m.enabled j) (p.enabled j) e;
  hviprio1 = p.hviprio1;
  hvictl = p.hvictl;
}

hvip_fits : (v j : ℕ) (was : Bool) → (was ≡ true → is_major j ≡ true) → cond (is_major j) (has_bit v j) was ≡ true → is_major j ≡ true
hvip_fits v j was fits e = elim (cases_Bool (is_major j)) [ inl here ↦ here | inr past ↦ fits (rw past at e) ]

hvip_fit : (v : ℕ) (m : VsMajorState) → AreFit m → AreFit (with_hvip v m)
hvip_fit v m p = record {
  injected = λ j e. hvip_fits v j (m.injected j) (p.injected j) e;
  enabled = p.enabled;
  hviprio1 = p.hviprio1;
  hvictl = p.hvictl;
}

pub hviprio1_fit : (v : ℕ) (m : VsMajorState) → AreFit m → AreFit (with_hviprio1 v m)
hviprio1_fit v m p = record { injected = p.injected; enabled = p.enabled; hviprio1 = held_hviprio1 v; hvictl = p.hvictl }

pub hvictl_fit : (v : ℕ) (m : VsMajorState) → is_hvictl v ≡ true → AreFit m → AreFit (with_hvictl v m)
hvictl_fit v m is p = record { injected = p.injected; enabled = p.enabled; hviprio1 = p.hviprio1; hvictl = held_hvictl v is }

-- a part is loaded that may be
pub part_fit : (n : ℕ) (part : Part) (m : VsMajorState) → is_loadable n part ≡ true → AreFit m → AreFit (majors_loaded part m)
part_fit n (parts.Image version greatest delivery threshold select) m may p = p
part_fit n (parts.Majors injected enabled) m may p = sie_fit (ops.Write enabled) (with_hvip injected m) (hvip_fit injected m p)
part_fit n (parts.Prio hviprio hvictl) m may p =
    hvictl_fit hvictl (with_hviprio1 hviprio m) (and_parts _ _ (and_parts (fits_hviprio1 hviprio) (fits_hvictl hvictl) may).1).1
    (hviprio1_fit hviprio m p)
part_fit n (parts.Word w pending enable) m may p = p
