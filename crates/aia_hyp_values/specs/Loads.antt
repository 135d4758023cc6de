-- What the load of a word of an image makes of a slot. Profile.
use Rattle.std.specs.Prelude.{ℕ, ◌*◌}
use Rattle.aia_regs.specs.declared.access.Op.TheVariants as ops
use Rattle.aia_regs.specs.declared.file_registers.FileReg.TheVariants.{Pending, Enable}
use Rattle.aia_file.specs.InterruptFile.{InterruptFile, accessed}

-- The ones of a word of the pending set ask, and the same word of the enables is written.
abbrev pub sets_loaded : ℕ → ℕ → ℕ → InterruptFile → InterruptFile
sets_loaded w pending enable file =
    accessed (Enable (2 * w)) (ops.Write enable)
    (accessed (Pending (2 * w)) (ops.Set pending) file)
