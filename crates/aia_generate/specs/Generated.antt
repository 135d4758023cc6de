-- The script that is generated from two numbers: a head of 31 lines, which is always the same, and
-- a body of so many lines, drawn by a sequence of numbers that begins with a seed. Profile.
use Rattle.std.specs.Prelude.{ℕ, zero, suc, ◌+◌, ◌-◌, ◌*◌, ◌/◌, ◌%◌, ◌^◌, nat_eq, nat_lt, nat_le, if◌then◌else◌, List, [], ◌∷◌, ◌++◌, length, slice_index_or}
use Rattle.aia_generate.specs.declared.body.TheConstants.{OWN_STRIDE}
use Rattle.aia_regs.specs.declared.access.Csr.TheVariants.{Select, Reg, Topei}
use Rattle.aia_regs.specs.declared.access.Op.{Op}
use Rattle.aia_regs.specs.declared.access.Op.TheVariants.{Write}
use Rattle.aia_model.specs.declared.line.Line.{Line}
use Rattle.aia_model.specs.declared.line.Line.TheVariants.{Machine, Vm, GuestCsr, HostCsr, Msi, Ipi, Step}
use Rattle.aia_model.specs.declared.line.Line.TheVariants as lines
use Rattle.aia_model.specs.declared.want.Want.TheVariants as wants
use Rattle.aia_regs.specs.declared.address_map.TheConstants.{PAGE, PATTERN}

-- The number after a number of the sequence.
abbrev pub next_number : ℕ → ℕ
next_number x = (x * 6364136223846793005 + 1442695040888963407) % 2 ^ 64

-- ---- the head

-- A select CSR and then the selected register are written, twice: eie0 with all its identities, and
-- eidelivery with 1.
abbrev pub made_ready : (Op → Line) → (Op → Line) → List Line
made_ready selects writes = selects (Write 0xc0) ∷ writes (Write 0xfffffffffffffffe)
    ∷ selects (Write 0x70) ∷ writes (Write 1) ∷ []

-- A virtual hart arrives at the hart that has its VM's number, and makes its file ready.
abbrev pub guest_ready : ℕ → ℕ → List Line
guest_ready vm vcpu =
    lines.Move vm vcpu (wants.Arrive vm)
    ∷ made_ready (GuestCsr vm vcpu Select) (GuestCsr vm vcpu Reg)

-- A hart makes its supervisor file ready.
abbrev pub host_ready : ℕ → List Line
host_ready hart = made_ready (HostCsr hart Select) (HostCsr hart Reg)

-- Two harts with two guest files each, and two VMs of two virtual harts each, all of them ready.
abbrev pub head_lines : List Line
head_lines = Machine 2 2 63 8 ∷ Vm 2 0x38 0 ∷ Vm 2 0x38 1 ∷ []
    ++ guest_ready 0 0 ++ guest_ready 0 1 ++ guest_ready 1 0 ++ guest_ready 1 1
    ++ host_ready 0 ++ host_ready 1

-- ---- the body

-- The MSI address of virtual hart c of a VM, in the VM's own space: by the mask of the head, each
-- one's is 8 pages above the one before, whatever lies between the files of the machine.
abbrev pub own_address : ℕ → ℕ
own_address c = PATTERN * PAGE + c * OWN_STRIDE

-- The line of a form, 0 to 9: of virtual hart c of VM v, of hart b, with identity i. Requests of
-- devices are twice as likely as others, and steps three times.
abbrev pub line_of_form : ℕ → ℕ → ℕ → ℕ → ℕ → Line
line_of_form form v c b i =
    if nat_lt form 2 then Msi v (own_address c) i
    else (if nat_eq form 2 then GuestCsr v c Topei (Write 0)
    else (if nat_eq form 3 then Ipi v c (1 - c) i
    else (if nat_eq form 4 then lines.Begin v c wants.Leave
    else (if nat_eq form 5 then lines.Begin v c (wants.Arrive b)
    else (if nat_lt form 9 then Step v c
    else HostCsr b Topei (Write 0))))))

-- The line that a number draws, by its digits in mixed bases: the form, then v, c, b and i.
abbrev pub line_by : ℕ → Line
line_by r = line_of_form (r % 10) (r / 10 % 2) (r / 20 % 2) (r / 40 % 2) (r / 80 % 64)

-- The line that a number of the sequence draws, by its bits from 33 on.
abbrev pub line_drawn : ℕ → Line
line_drawn x = line_by (x / 2 ^ 33)

-- So many lines, drawn by the numbers after one.
unfoldable pub body_lines : ℕ → ℕ → List Line
body_lines zero x = []
body_lines (suc count) x = line_drawn (next_number x) ∷ body_lines count (next_number x)

-- ---- all of it

-- The lines of the script, given how many follow the head, and a seed.
unfoldable pub generated : ℕ → ℕ → List Line
generated count seed = head_lines ++ body_lines count seed

-- Line k, counted from 1, given the number that draws it, on which the lines of the head do not
-- turn.
abbrev pub line_at : ℕ → ℕ → Line
line_at x k =
    if nat_le k (length head_lines) then slice_index_or head_lines (k - 1) (line_drawn x)
    else line_drawn x
