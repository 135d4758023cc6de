-- What is done about a slot as an interrupt file, of a world that stays whole.
use Rattle.std.proofs.Common.{◌≢◌, ℕ, ◌+◌, ◌*◌, ◌<◌, ◌≤◌, List, get_or, inl, inr, ◌⊎◌, refl, sym, ap, ◌∙◌, arith}
use Rattle.std.proofs.lemmas.Bool.{cases_eq, cases_lt}
use Rattle.aia_word.specs.Sets.{has_bit}
use Rattle.aia_file.specs.InterruptFile.{InterruptFile, SameFile}
use Rattle.aia_file.specs.Mrif.{mrif_in, pending_place, enable_place}
use Rattle.aia_file.specs.SlotFile.{slot_file, KeepsAllElse}
use Rattle.aia_fabric_values.specs.World.{World}
use Rattle.aia_fabric_values.specs.Whole.{IsWhole}
use Rattle.aia_fabric_values.specs.SlotAccess.{file_of_slot, DoneInSlot}
use Rattle.aia_fabric_values.proofs.WrittenWhole.{memory_whole}

pub slots_apart : (q r place : ℕ) → r ≢ q → 64 * r ≤ place → place < 64 * (r + 1) → (place < 64 * q) ⊎ (64 * (q + 1) ≤ place)
slots_apart q r place other low high = elim (cases_lt r q) [
  | inl less ↦ inl (omega arith)
  | inr more ↦ inr (omega (arith, other))
]

-- ---- the world stays whole

pub slot_whole : (w : World) (q : ℕ) (memory : List ℕ) → IsWhole w → KeepsAllElse w.memory memory q w.n → IsWhole (record w { memory = memory })
slot_whole w q memory whole keeps = memory_whole w memory whole keeps.size
    (λ p low. elim (cases_eq p q) [
      | inl e ↦ ap (λ x. has_bit (get_or memory (pending_place x 0) 0) 0) e ∙ (keeps.kept 0 refl).0
          ∙ ap (λ x. has_bit (get_or w.memory (pending_place x 0) 0) 0) (sym e) ∙ whole.no_pending_zero p low
      | inr ne ↦ ap (λ x. has_bit x 0) (keeps.elsewhere (pending_place p 0) (slots_apart q p (pending_place p 0) ne (omega arith) (omega arith)))
          ∙ whole.no_pending_zero p low
    ])
    (λ p low. elim (cases_eq p q) [
      | inl e ↦ ap (λ x. has_bit (get_or memory (enable_place x 0) 0) 0) e ∙ (keeps.kept 0 refl).1
          ∙ ap (λ x. has_bit (get_or w.memory (enable_place x 0) 0) 0) (sym e) ∙ whole.no_enabled_zero p low
      | inr ne ↦ ap (λ x. has_bit x 0) (keeps.elsewhere (enable_place p 0) (slots_apart q p (enable_place p 0) ne (omega arith) (omega arith)))
          ∙ whole.no_enabled_zero p low
    ])

-- ---- it is done

pub slot_done : (w : World) (q threshold : ℕ) (deed : InterruptFile → InterruptFile) (memory : List ℕ)
    → SameFile (slot_file w.n threshold (mrif_in memory q)) (deed (file_of_slot w q threshold)) → KeepsAllElse w.memory memory q w.n
    → DoneInSlot w (record w { memory = memory }) q threshold deed
slot_done w q threshold deed memory done keeps = record { done = done; kept = keeps.kept; elsewhere = keeps.elsewhere; rest = refl }

-- so it is where nothing is written
pub nothing_done : (words : List ℕ) (q n : ℕ) → KeepsAllElse words words q n
nothing_done words q n = record { size = refl; kept = λ i outside. (refl, refl); elsewhere = λ place apart. refl }
