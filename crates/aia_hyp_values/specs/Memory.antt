-- Virtual harts that run from memory, in the core: what the calls make of them.
use Rattle.std.specs.Prelude.{◌≡◌, ℕ, ◌%◌, Bool, true, false, if◌then◌else◌, List, Result, Ok, Err, slice_index_or, slice_set}
use Rattle.aia_regs.specs.declared.access.Op.{Op}
use Rattle.aia_regs.specs.declared.file_registers.FileReg.{FileReg}
use Rattle.aia_regs.specs.declared.file_registers.FileReg.TheVariants.{Delivery, Threshold, Pending, Enable}
use Rattle.aia_regs.specs.Operations.{is_writing}
use Rattle.aia_regs.specs.FileRegisters.{number_after}
use Rattle.aia_file.specs.InterruptFile.{InterruptFile, claimed}
use Rattle.aia_fabric_values.specs.World.{World}
use Rattle.aia_fabric_values.specs.SlotAccess.{file_of_slot, DoneInSlot}
use Rattle.aia_move_values.specs.declared.who.KeptNumbers.{KeptNumbers}
use Rattle.aia_model.specs.declared.answer.Answer.{Answer}
use Rattle.aia_model.specs.declared.answer.Answer.TheVariants.{Okay, Refused}
use Rattle.aia_model.specs.declared.refusal.Refusal.{Refusal}
use Rattle.aia_vcpu.specs.declared.rest.Rest.TheVariants.{Entered}
use Rattle.aia_hyp_values.specs.Core.{Stay}
use Rattle.aia_hyp_values.specs.declared.vcpu.Stay.TheVariants as stays
use Rattle.aia_hyp_values.specs.Core.{VcpuRecord}
use Rattle.aia_hyp_values.specs.Core.{no_record, parked_at}

-- ---- one enters

-- The records with the virtual hart of a slot elsewhere.
abbrev pub with_stay : List VcpuRecord → ℕ → Stay → List VcpuRecord
with_stay records slot stay =
    slice_set records slot (record (slice_index_or records slot no_record) { stay = stay })

-- What becomes of the records as one is to run from memory: where it is parked, it is entered with
-- the numbers that are kept of it; else it is refused with its word.
abbrev pub EntersFrom : Result KeptNumbers Refusal → List VcpuRecord → List VcpuRecord → ℕ → Answer
    → Type 0
EntersFrom (Ok kept) old new slot given =
    (given ≡ Okay) × (new ≡ with_stay old slot (stays.InMemory Entered kept))
EntersFrom (Err word) old new slot given = (given ≡ Refused word) × (new ≡ old)

abbrev pub Enters : List VcpuRecord → List VcpuRecord → ℕ → Answer → Type 0
Enters old new slot given =
    EntersFrom (parked_at (slice_index_or old slot no_record).stay) old new slot given

-- ---- its interrupt file

-- The interrupt file of a virtual hart whose interrupts rest in memory: its slot, with the two
-- numbers that are kept beside it.
abbrev pub file_in_memory : World → ℕ → KeptNumbers → InterruptFile
file_in_memory w q kept =
    record (file_of_slot w q kept.threshold) { delivery = kept.delivery }

-- Whether a register is none of the sets'.
abbrev pub is_outside_sets : FileReg → Bool
is_outside_sets (Pending k) = false
is_outside_sets (Enable k) = false
is_outside_sets reg = true

-- What such a register reads, and what an access makes of the numbers, given how many numbers
-- eithreshold may have.
abbrev pub kept_value : KeptNumbers → FileReg → ℕ
kept_value kept Delivery = kept.delivery
kept_value kept Threshold = kept.threshold
kept_value kept reg = 0

abbrev pub kept_after : ℕ → FileReg → Op → KeptNumbers → KeptNumbers
kept_after modulus Delivery op kept =
    record kept { delivery = number_after (λ v. v % 2) op kept.delivery }
kept_after modulus Threshold op kept =
    record kept { threshold = number_after (λ v. v % modulus) op kept.threshold }
kept_after modulus reg op kept = kept

-- What an access to its top CSR makes of the world: a write claims.
abbrev pub TopDone : World → World → ℕ → ℕ → Op → Type 0
TopDone w u q threshold op =
    DoneInSlot w u q threshold (λ file. if is_writing op then claimed file else file)
