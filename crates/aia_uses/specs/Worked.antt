-- Worked histories, of which the laws are used: lists of events, the newest first.
use Rattle.std.specs.Prelude.{ℕ, zero, suc, [], ◌∷◌, Some}
use Rattle.aia_regs.specs.declared.access.Csr.TheVariants.{Select, Reg}
use Rattle.aia_regs.specs.declared.access.Op.TheVariants.{Write}
use Rattle.aia_vcpu.specs.declared.end.End.TheVariants.{File, Memory}
use Rattle.aia_vcpu.specs.declared.access.Access.TheVariants.{Fence}
use Rattle.aia_vcpu.specs.Plans.{plan_step, plan_steps}
use Rattle.aia_vcpu.specs.Vms.{vcpu_of}
use Rattle.aia_model.specs.declared.line.Line.TheVariants as lines
use Rattle.aia_model.specs.declared.msi.Msi.{Msi}
use Rattle.aia_model.specs.Move.WantedMove.{Arrives, Leaves}
use Rattle.aia_model.specs.Event.{History}
use Rattle.aia_model.specs.Event.Event.{Accepted, Began, Stepped}

-- So many steps of virtual hart 0 of VM 0.
abbrev pub stepped_on : ℕ → History → History
stepped_on zero h = h
stepped_on (suc count) h = Stepped (vcpu_of 0 0) ∷ stepped_on count h

-- A machine with a VM of two virtual harts, which are parked.
abbrev pub made : History
made = Accepted (lines.Vm 2 8 0) ∷ Accepted (lines.Machine 1 1 63 1) ∷ []

-- Virtual hart 0 is in a guest file, and enables 1.
abbrev pub enabled : History
enabled =
    Accepted (lines.GuestCsr 0 0 Reg (Write 2)) ∷ Accepted (lines.GuestCsr 0 0 Select (Write 0xc0))
    ∷ stepped_on (plan_steps Memory File 1) (Began (Arrives (vcpu_of 0 0) 0) ∷ made)

-- It is asked for 1.
abbrev pub asked : History
asked = Accepted (lines.Msi 0 0x28000000 1) ∷ enabled

-- It has selected the first word of its pending set.
abbrev pub selected : History
selected = Accepted (lines.GuestCsr 0 0 Select (Write 0x80)) ∷ asked

-- It is on its way to memory, before the fence, and a store of a device that asks for 1 is in
-- flight to it.
abbrev pub in_flight : History
in_flight =
    Accepted (lines.Send 0 0x28000000 1)
    ∷ stepped_on (plan_step File Memory 1 Fence) (Began (Leaves (vcpu_of 0 0)) ∷ enabled)

-- It left for memory while it was asked for 1, and is parked; then it runs from there.
abbrev pub parked_asked : History
parked_asked = stepped_on (plan_steps File Memory 1) (Began (Leaves (vcpu_of 0 0)) ∷ asked)

abbrev pub entered : History
entered = Accepted (lines.Enter 0 0) ∷ parked_asked

-- It is parked, and was asked for nothing.
abbrev pub parked : History
parked = stepped_on (plan_steps File Memory 1) (Began (Leaves (vcpu_of 0 0)) ∷ enabled)

-- It is on its way to memory, and was asked for 1 before.
abbrev pub moving : History
moving = Began (Leaves (vcpu_of 0 0)) ∷ asked

-- The MSI of source 1, which is passed as 5 to a virtual hart in guest file 1 of hart 0.
abbrev pub forward : Msi
forward = record { address = 0x28001000; value = 5; source = Some 1 }
