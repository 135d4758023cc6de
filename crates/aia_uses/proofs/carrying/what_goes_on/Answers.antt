use Rattle.std.proofs.Common.{ℕ, List, [], ◌∷◌, ◌++◌, map, refl}
use Rattle.aia_vcpu.specs.Vms.{Vcpu}
use Rattle.aia_model.specs.Event.{History}
use Rattle.aia_model.specs.Image.{part_of}
use Rattle.aia_model.specs.StateOf.{state_of}
use Rattle.aia_model.specs.Script.{history_of}
use Rattle.aia_isolation.specs.Said.{Said}
use Rattle.aia_isolation.specs.Said.Said.{Made, Loaded}
use Rattle.aia_uses.proofs.carrying.what_goes_on.Goals as goal

abbrev loads : History → Vcpu → List ℕ → List Said
loads h g order = map (λ k. Loaded (part_of (state_of h g) k)) order ++ Made (state_of h g).file.n ∷ []

pub returns-clause-state : goal.returns-clause-state
returns-clause-state c = λ first second g x order since happens stands all e.
    c.an_image_carries_a_virtual_hart_on.ensures.state first second g x (loads first g order) since happens stands
    (record { order = order; all = all; are = refl }) e

pub returns-clause-answered : goal.returns-clause-answered
returns-clause-answered c = λ first second g x order since happens stands all e.
    c.an_image_carries_a_virtual_hart_on.ensures.answered first second g x (loads first g order) since happens stands
    (record { order = order; all = all; are = refl }) e

pub returns-clause-next : goal.returns-clause-next
returns-clause-next c = λ first second third g x y order since csr op happens stands all e then machine there served stands_too there_too served_too.
    c.an_image_carries_a_virtual_hart_on.ensures.next first second third g x y (loads first g order) since happens stands
    (record { order = order; all = all; are = refl }) e then csr op (record { machine = machine; there = there; served = served })
    (record { machine = stands_too; there = there_too; served = served_too })

pub returns-clause-scripts : goal.returns-clause-scripts
returns-clause-scripts c = λ script other g x order since stands all e.
    c.an_image_carries_a_virtual_hart_on.ensures.scripts script other g x (loads (history_of script) g order) since stands
    (record { order = order; all = all; are = refl }) e
