-- What the mnemonics of CSR instructions are read as. Vocabulary.
use Rattle.std.specs.Prelude.{ℕ, List, Option, Some, codes}
use Rattle.aia_regs.specs.declared.access.Op.{Op}
use Rattle.aia_regs.specs.declared.access.Op.TheVariants as ops
use Rattle.aia_model.specs.Text.{◌>>=◌}
use Rattle.aia_model.specs.Reading.{WordsLeft, number_at}
use Rattle.aia_script.specs.declared.instructions.Mnemonic.{Mnemonic}
use Rattle.aia_script.specs.declared.instructions.Mnemonic.TheVariants.{Read, Write, Set, Clear}

-- The name of a mnemonic.
abbrev pub mnemonic_name : Mnemonic → List ℕ
mnemonic_name Read = codes "csrr"
mnemonic_name Write = codes "csrrw"
mnemonic_name Set = codes "csrrs"
mnemonic_name Clear = codes "csrrc"

-- The operation of a mnemonic, with the next word as its operand where it has one, and the words
-- after that.
unfoldable pub operation_at : Mnemonic → WordsLeft → Option (Op × WordsLeft)
operation_at Read words = Some (ops.Read, words)
operation_at Write words = number_at words >>= λ operand. Some (ops.Write operand.0, operand.1)
operation_at Set words = number_at words >>= λ operand. Some (ops.Set operand.0, operand.1)
operation_at Clear words = number_at words >>= λ operand. Some (ops.Clear operand.0, operand.1)
