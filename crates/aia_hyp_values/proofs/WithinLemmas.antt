-- What is true of the interrupt file of a virtual hart that a history gives.
use Rattle.std.proofs.Common.{◌≡◌, ℕ, ◌+◌, ◌-◌, ◌*◌, ◌/◌, ◌%◌, ◌<◌, ◌≤◌, Bool, true, false, ◌&&◌, cond, [], ◌∷◌, Option, Some, None, unwrap_or, inl, inr, refl, ap, ◌∙◌, lit<, arith, nat_eq}
use Rattle.std.specs.Int.{is_in_range}
use Rattle.std.proofs.Math.Nat.{mod-lt}
use Rattle.std.proofs.lemmas.Bool.{cases_Bool, ne_eqb}
use Rattle.std.proofs.lemmas.Bool.Decides.{nat_tests}
use Rattle.aia_regs.specs.declared.access.Csr.TheVariants.{Reg, Topei}
use Rattle.aia_regs.specs.declared.access.Op.{Op}
use Rattle.aia_regs.specs.declared.access.Op.TheVariants as ops
use Rattle.aia_regs.specs.Fields.{bit_number}
use Rattle.aia_regs.specs.Operations.{is_writing, written, bit_said}
use Rattle.aia_regs.specs.BitUpdate.{settle, names, set_after}
use Rattle.aia_regs.specs.BitUpdate.BitUpdate.{Ask, Clear, Nothing}
use Rattle.aia_regs.specs.declared.file_registers.FileReg.{FileReg}
use Rattle.aia_regs.specs.declared.file_registers.FileReg.TheVariants.{Delivery, Threshold, Pending, Enable, Reserved, Odd, Outside}
use Rattle.aia_regs.specs.FileRegisters.{register_of}
use Rattle.aia_regs.specs.Request.{number_written, implemented}
use Rattle.aia_file.specs.InterruptFile.{InterruptFile, is_greatest_identity, accessed, claimed, landed, top_of, claim_said}
use Rattle.aia_vcpu.specs.Vms.{Vcpu}
use Rattle.aia_vcpu_places.specs.Holds.{IsWithin}
use Rattle.aia_model.specs.Event.{Event, History, greatest_identity_of, file_words}
use Rattle.aia_model.specs.declared.part.Part.TheVariants as parts
use Rattle.aia_model.specs.FileAfter.{FileDeed, IsMaking, file_after, file_by, select_by, relay_said}
use Rattle.aia_model.specs.FileAfter.FileDeed.{Makes, Accesses, Stores, Rests, Relays, Loads}
use Rattle.aia_model.specs.GuestFile.{guest_deed, guest_file}
use Rattle.aia_model.proofs.GreatestLemmas.{none_made, greatest_after, guest_greatest}
use Rattle.aia_hyp_values.proofs.GuestLemmas.{each_size}

-- its numbers are those of a file, and it has no identity past its greatest
pub record IsSound (file : InterruptFile) : Type 0 where
  pub delivery : file.delivery < 2
  pub threshold : file.threshold ≤ file.n
  pub pending : (i : ℕ) → file.n < i → file.pending i ≡ false
  pub enabled : (i : ℕ) → file.n < i → file.enabled i ≡ false

number_lt : (m x was : ℕ) (b : Bool) → was < m → cond b (x % m) was < m
number_lt m x was true low = mod-lt x (omega (arith, low))
number_lt m x was false low = low

-- what no register shows stays
unshown : (n k i : ℕ) (op : Op) (was : Bool) → n < i
    → settle (cond (is_in_range 1 n i && is_in_range (32 * k) (32 * k + 63) i) (bit_said op (i - 32 * k)) Nothing) was ≡ was
unshown n k i op was above =
    let none : is_in_range 1 n i ≡ false = grind (arith, nat_tests) in
    ap (λ b. settle (cond (b && is_in_range (32 * k) (32 * k + 63) i) (bit_said op (i - 32 * k)) Nothing) was) none

sound_access : (reg : FileReg) (op : Op) (file : InterruptFile) → IsSound file → IsSound (accessed reg op file)
sound_access Delivery op file p = record {
  delivery = number_lt 2 (written op file.delivery) file.delivery (is_writing op) p.delivery;
  threshold =
      p.threshold;
  pending = p.pending;
  enabled = p.enabled;
}
sound_access Threshold op file p =
    let t = p.threshold in
    let l = number_lt (file.n + 1) (written op file.threshold) file.threshold (is_writing op) (omega (arith, t)) in
    record { delivery = p.delivery; threshold = omega (arith, l); pending = p.pending; enabled = p.enabled }
sound_access (Pending k) op file p = record {
  delivery = p.delivery;
  threshold = p.threshold;
  pending =
      λ i above. unshown file.n k i op (file.pending i) above ∙ p.pending i above;
  enabled = p.enabled;
}
sound_access (Enable k) op file p = record {
  delivery = p.delivery;
  threshold = p.threshold;
  pending = p.pending;
  enabled =
      λ i above. unshown file.n k i op (file.enabled i) above ∙ p.enabled i above;
}
sound_access Reserved op file p = record { delivery = p.delivery; threshold = p.threshold; pending = p.pending; enabled = p.enabled }
sound_access Odd op file p = record { delivery = p.delivery; threshold = p.threshold; pending = p.pending; enabled = p.enabled }
sound_access Outside op file p = record { delivery = p.delivery; threshold = p.threshold; pending = p.pending; enabled = p.enabled }

-- a claim clears, or leaves
cleared : (top : Option ℕ) (i : ℕ) (was : Bool) → was ≡ false → settle (claim_said top i) was ≡ false
cleared top i was none = elim (cases_Bool (names top i)) [
  | inl e ↦ ap (λ b. settle (cond b Clear Nothing) was) e
  | inr e ↦ ap (λ b. settle (cond b Clear Nothing) was) e ∙ none
]

sound_claim : (file : InterruptFile) → IsSound file → IsSound (claimed file)
sound_claim file p = record {
  delivery = p.delivery;
  threshold = p.threshold;
  pending =
      λ i above. cleared (top_of file) i (file.pending i) (p.pending i above);
  enabled = p.enabled;
}

-- a store asks for no identity past the greatest
unasked : (n i : ℕ) (o : Option ℕ) → n < i → names (implemented n o) i ≡ false
unasked n i None above = refl
unasked n i (Some x) above = elim (cases_Bool (is_in_range 1 n x)) [
  | inl e ↦ let low : x ≤ n = grind (arith, nat_tests) in ap (λ b. names (cond b (Some x) None) i) e
      ∙ ne_eqb x i (λ same. omega (arith, low, above, same))
  | inr e ↦ ap (λ b. names (cond b (Some x) None) i) e
]

sound_store : (offset value : ℕ) (file : InterruptFile) → IsSound file → IsSound (landed offset value file)
sound_store offset value file p = record {
  delivery = p.delivery;
  threshold = p.threshold;
  pending = λ i above. ap (λ b. settle (cond b Ask Nothing) (file.pending i)) (unasked file.n i (number_written offset value) above)
      ∙ p.pending i above;
  enabled = p.enabled;
}

sound_relay : (x : ℕ) (notice : Option ℕ) (file : InterruptFile) → IsSound file
    → IsSound (record file { pending = set_after (relay_said file.n x notice) file.pending })
sound_relay x notice file p = record {
  delivery = p.delivery;
  threshold = p.threshold;
  pending = λ i above. by_notice notice i above
      ∙ cleared (nat_eq x i) (file.pending i) (p.pending i above);
  enabled = p.enabled;
}
  where
    cleared : (b was : Bool) → was ≡ false → settle (cond b Clear Nothing) was ≡ false
    cleared true was e = refl
    cleared false was e = e

    by_notice : (o : Option ℕ) (i : ℕ) → file.n < i
        → settle (relay_said file.n x o i) (file.pending i) ≡ settle (cond (nat_eq x i) Clear Nothing) (file.pending i)
    by_notice None i above = refl
    by_notice (Some v) i above = ap (λ b. settle (cond b Ask (cond (nat_eq x i) Clear Nothing)) (file.pending i))
        (unasked file.n i (number_written 0 v) above)

sound_after : (select : ℕ) (deed : FileDeed) (file : InterruptFile) → IsSound file → IsSound (file_after select deed file)
sound_after select (Makes n) file p = record { delivery = lit< tt; threshold = omega arith; pending = λ i above. refl; enabled = λ i above. refl }
sound_after select (Accesses Reg op) file p = sound_access (register_of select) op file p
sound_after select (Accesses Topei op) file p = by_op (is_writing op)
  where
    by_op : (b : Bool) → IsSound (cond b (claimed file) file)
    by_op true = sound_claim file p
    by_op false = p
sound_after select (Accesses csr op) file p = p
sound_after select (Stores offset value) file p = sound_store offset value file p
sound_after select (Relays x notice) file p = sound_relay x notice file p
sound_after select (Loads (parts.Image version n delivery threshold number)) file p =
    sound_access Threshold (ops.Write threshold) (accessed Delivery (ops.Write (bit_number delivery)) file)
    (sound_access Delivery (ops.Write (bit_number delivery)) file p)
sound_after select (Loads (parts.Majors injected enabled)) file p = p
sound_after select (Loads (parts.Prio hviprio hvictl)) file p = p
sound_after select (Loads (parts.Word w pending enable)) file p =
    sound_access (Enable (2 * w)) (ops.Write enable) (accessed (Pending (2 * w)) (ops.Set pending) file)
    (sound_access (Pending (2 * w)) (ops.Set pending) file p)
sound_after select Rests file p = p

sound_by : (deed : History → Event → FileDeed) (h : History) → IsSound (file_by deed h)
unfolding file_by
sound_by deed [] = record { delivery = lit< tt; threshold = omega arith; pending = λ i above. refl; enabled = λ i above. refl }
sound_by deed (event ∷ past) = sound_after (select_by deed past) (deed past event) (file_by deed past) (sound_by deed past)

-- ---- only its making gives it another greatest identity

n_kept : (select : ℕ) (deed : FileDeed) (file : InterruptFile) → (¬ IsMaking deed) → (file_after select deed file).n ≡ file.n
n_kept select deed file other = greatest_after select deed file ∙ ap (λ o. unwrap_or o file.n) (none_made deed other)

-- ---- so places may hold it

-- the words of a set show all identities, and no more
pub all_words : (n : ℕ) → is_greatest_identity n ≡ true → n + 1 ≡ 64 * ((n + 1) / 64)
all_words n greatest = each_size (λ n. n + 1 ≡ 64 * ((n + 1) / 64)) (omega arith) (omega arith) (omega arith) (omega arith) (omega arith)
    (omega arith) n greatest

pub within_by : (n : ℕ) (file : InterruptFile) → is_greatest_identity n ≡ true → file.n ≡ n → IsSound file → IsWithin n ((n + 1) / 64) file
within_by n file greatest same sound =
    let words = all_words n greatest in
    let threshold = sound.threshold in
    record {
      greatest = same;
      all_words = words;
      delivery = sound.delivery;
      threshold = omega (arith, threshold, same);
      pending = λ i past. sound.pending i (omega (arith, past, words, same));
      enabled = λ i past. sound.enabled i (omega (arith, past, words, same));
    }

pub guest_within : (h : History) (g : Vcpu) → is_greatest_identity (greatest_identity_of h) ≡ true
    → IsWithin (greatest_identity_of h) (file_words h) (guest_file h g)
guest_within h g greatest = within_by (greatest_identity_of h) (guest_file h g) greatest (guest_greatest h g) (sound_by (guest_deed g) h)

-- and after a deed that does not make it
pub within_after : (n : ℕ) (select : ℕ) (deed : FileDeed) (file : InterruptFile) → (¬ IsMaking deed) → is_greatest_identity n ≡ true → file.n ≡ n
    → IsSound file → IsWithin n ((n + 1) / 64) (file_after select deed file)
within_after n select deed file other greatest same sound =
    within_by n (file_after select deed file) greatest (n_kept select deed file other ∙ same) (sound_after select deed file sound)

pub guest_sound : (h : History) (g : Vcpu) → IsSound (guest_file h g)
guest_sound h g = sound_by (guest_deed g) h
