-- What forms end with, read by itself.
use Rattle.std.proofs.Common.{◌≡◌, ℕ, List, [], ◌∷◌, false, nat_eq, codes, Option, Some, None, refl, ap, ◌∙◌}
use Rattle.std.specs.List.{starts_with}
use Rattle.std.proofs.lemmas.Bool.{cond-false}
use Rattle.aia_regs.specs.declared.access.Csr.{Csr}
use Rattle.aia_regs.specs.declared.access.Op.{Op}
use Rattle.aia_regs.specs.declared.access.Level.{Level}
use Rattle.aia_regs.specs.declared.access.Level.TheVariants as levels
use Rattle.aia_model.specs.declared.line.Line.TheVariants as lines
use Rattle.aia_model.specs.Text.{◌>>=◌}
use Rattle.aia_model.specs.Grammar.{is_word}
use Rattle.aia_model.specs.Forms.{instruction, access, part_shape, part}
use Rattle.aia_model.specs.Reading.{WordsLeft, read}
use Rattle.aia_model.specs.Reading.{csr_at, number_at, whole}
use Rattle.aia_regs.specs.declared.access.Op.TheVariants as ops
use Rattle.aia_script.specs.declared.instructions.Mnemonic.{Mnemonic}
use Rattle.aia_script.specs.declared.instructions.Mnemonic.TheVariants.{Read, Write, Set, Clear}
use Rattle.aia_script.specs.Cursor.{first_word}
use Rattle.aia_script.specs.Mnemonics.{mnemonic_name, operation_at}
use Rattle.aia_script.proofs.WordLemmas.{other_start}
use Rattle.aia_model.proofs.Readers.{read_made}

pub machine_access : (hart : ℕ) (ws : WordsLeft) → read (instruction levels.Machine)
    (λ v. lines.MachineCsr hart (access levels.Machine v).0 (access levels.Machine v).1)
    ws ≡ (read (instruction levels.Machine) (access levels.Machine) ws >>= λ a. Some (lines.MachineCsr hart a.0 a.1))
machine_access hart ws = read_made (λ (a : Csr × Op). lines.MachineCsr hart a.0 a.1) (instruction levels.Machine) (access levels.Machine) ws

pub host_access : (hart : ℕ) (ws : WordsLeft) → read (instruction levels.Host)
    (λ v. lines.HostCsr hart (access levels.Host v).0 (access levels.Host v).1)
    ws ≡ (read (instruction levels.Host) (access levels.Host) ws >>= λ a. Some (lines.HostCsr hart a.0 a.1))
host_access hart ws = read_made (λ (a : Csr × Op). lines.HostCsr hart a.0 a.1) (instruction levels.Host) (access levels.Host) ws

pub guest_access : (vm vcpu : ℕ) (ws : WordsLeft)
    → read (instruction levels.Guest) (λ v. lines.GuestCsr vm vcpu (access levels.Guest v).0 (access levels.Guest v).1)
    ws ≡ (read (instruction levels.Guest) (access levels.Guest) ws >>= λ a. Some (lines.GuestCsr vm vcpu a.0 a.1))
guest_access vm vcpu ws = read_made (λ (a : Csr × Op). lines.GuestCsr vm vcpu a.0 a.1) (instruction levels.Guest) (access levels.Guest) ws

pub loaded_part : (vm vcpu : ℕ) (ws : WordsLeft)
    → read part_shape (λ v. lines.LoadPart vm vcpu (part v)) ws ≡ (read part_shape part ws >>= λ x. Some (lines.LoadPart vm vcpu x))
loaded_part vm vcpu ws = read_made (lines.LoadPart vm vcpu) part_shape part ws

-- each mnemonic begins with the same bytes
pub other_mnemonics : (text : List ℕ) → starts_with nat_eq text (codes "csrr") ≡ false → (m : Mnemonic)
    → is_word (first_word text) (mnemonic_name m) ≡ false
other_mnemonics text other Read = other_start text (codes "csrr") [] other
other_mnemonics text other Write = other_start text (codes "csrr") (codes "w") other
other_mnemonics text other Set = other_start text (codes "csrr") (codes "s") other
other_mnemonics text other Clear = other_start text (codes "csrr") (codes "c") other

-- an instruction begins with a mnemonic
pub no_instruction : (level : Level) (word : List ℕ) (ws : WordsLeft) → ((m : Mnemonic) → is_word word (mnemonic_name m) ≡ false)
    → read (instruction level) (access level) (word ∷ ws) ≡ None
no_instruction level word ws other = cond-false _ _ _ (other Read) ∙ cond-false _ _ _ (other Write) ∙ cond-false _ _ _ (other Set)
    ∙ cond-false _ _ _ (other Clear)

-- a mnemonic is followed by a CSR, and by its operand
then_same : {A B : Type 0} (o : Option A) (f g : A → Option B) → ((x : A) → f x ≡ g x) → (o >>= f) ≡ (o >>= g)
then_same None f g same = refl
then_same (Some x) f g same = same x

abbrev with_operand : (ℕ → Op) → ℕ × WordsLeft → Option (Op × WordsLeft)
with_operand op n = Some (op n.0, n.1)

operand : (csr : Csr) (op : ℕ → Op) (o : Option (ℕ × WordsLeft))
    → (o >>= λ n. whole {A = Csr × Op} n.1 (csr, op n.0)) ≡ ((o >>= with_operand op) >>= λ d. whole {A = Csr × Op} d.1 (csr, d.0))
operand csr op None = refl
operand csr op (Some n) = refl

named_so : (level : Level) (mnemonic : Mnemonic) (ws : WordsLeft)
    → read (instruction level) (access level) (mnemonic_name mnemonic ∷ ws)
    ≡ (csr_at level ws >>= λ c. operation_at mnemonic c.1 >>= λ d. whole {A = Csr × Op} d.1 (c.0, d.0))
unfolding operation_at
named_so level Read ws = refl
named_so level Write ws = then_same (csr_at level ws) _ _ (λ c. operand c.0 ops.Write (number_at c.1))
named_so level Set ws = then_same (csr_at level ws) _ _ (λ c. operand c.0 ops.Set (number_at c.1))
named_so level Clear ws = then_same (csr_at level ws) _ _ (λ c. operand c.0 ops.Clear (number_at c.1))

pub by_mnemonic : (level : Level) (mnemonic : Mnemonic) (word : List ℕ) (ws : WordsLeft) → word ≡ mnemonic_name mnemonic
    → read (instruction level) (access level) (word ∷ ws)
    ≡ (csr_at level ws >>= λ c. operation_at mnemonic c.1 >>= λ d. whole {A = Csr × Op} d.1 (c.0, d.0))
by_mnemonic level mnemonic word ws is = ap (λ w. read (instruction level) (access level) (w ∷ ws)) is ∙ named_so level mnemonic ws
