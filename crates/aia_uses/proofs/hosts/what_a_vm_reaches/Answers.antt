use Rattle.aia_model.specs.declared.line.Line.TheVariants as lines
use Rattle.aia_model.specs.Event.Event.{Accepted, Stepped, Landed}
use Rattle.aia_model.specs.FileOf.{deed_at}
use Rattle.aia_uses.proofs.ReachedFacts.{spelled, itself}
use Rattle.aia_uses.proofs.hosts.what_a_vm_reaches.Goals as goal

pub returns-clause-msi : goal.returns-clause-msi
returns-clause-msi c = λ past v addr value f ok.
    spelled past v f (deed_at f past (Accepted (lines.Msi v addr value)))
    (c.a_vm_reaches_the_host_by_its_notices_alone.ensures.files past (lines.Msi v addr value) v f ok (itself v))

pub returns-clause-send : goal.returns-clause-send
returns-clause-send c = λ past v addr value f ok.
    spelled past v f (deed_at f past (Accepted (lines.Send v addr value)))
    (c.a_vm_reaches_the_host_by_its_notices_alone.ensures.files past (lines.Send v addr value) v f ok (itself v))

pub returns-clause-land : goal.returns-clause-land
returns-clause-land c = λ past v k f ok.
    spelled past v f (deed_at f past (Accepted (lines.Land v k)))
    (c.a_vm_reaches_the_host_by_its_notices_alone.ensures.files past (lines.Land v k) v f ok (itself v))

pub returns-clause-ipi : goal.returns-clause-ipi
returns-clause-ipi c = λ past v vcpu to value f ok.
    spelled past v f (deed_at f past (Accepted (lines.Ipi v vcpu to value)))
    (c.a_vm_reaches_the_host_by_its_notices_alone.ensures.files past (lines.Ipi v vcpu to value) v f ok (itself v))

pub returns-clause-access : goal.returns-clause-access
returns-clause-access c = λ past v vcpu csr op f ok.
    spelled past v f (deed_at f past (Accepted (lines.GuestCsr v vcpu csr op)))
    (c.a_vm_reaches_the_host_by_its_notices_alone.ensures.files past (lines.GuestCsr v vcpu csr op) v f ok (itself v))

pub returns-clause-moves : goal.returns-clause-moves
returns-clause-moves c = λ past g f there.
    spelled past g.vm f (deed_at f past (Stepped g)) (c.a_vm_reaches_the_host_by_its_notices_alone.ensures.moves past g f there)

pub returns-clause-exits : goal.returns-clause-exits
returns-clause-exits c = λ past g f there.
    spelled past g.vm f (deed_at f past (Accepted (lines.Exit g.vm g.vcpu)))
    (c.a_vm_reaches_the_host_by_its_notices_alone.ensures.exits past g f there)

pub returns-clause-loads : goal.returns-clause-loads
returns-clause-loads c = λ past g part f there.
    spelled past g.vm f (deed_at f past (Accepted (lines.LoadPart g.vm g.vcpu part)))
    (c.a_vm_reaches_the_host_by_its_notices_alone.ensures.loads past g part f there)

pub returns-clause-landings : goal.returns-clause-landings
returns-clause-landings c = λ past v k f happens.
    spelled past v f (deed_at f past (Landed v k)) (c.a_vm_reaches_the_host_by_its_notices_alone.ensures.landings past v k f happens)

pub returns-clause-own : goal.returns-clause-own
returns-clause-own c = λ h g x there other same. c.a_vm_reaches_the_host_by_its_notices_alone.ensures.own h g x there other same

pub returns-clause-aplic : goal.returns-clause-aplic
returns-clause-aplic c = λ past v vcpu csr op.
    c.a_vm_reaches_the_host_by_its_notices_alone.ensures.aplic past (lines.GuestCsr v vcpu csr op) v (itself v)

pub returns-clause-landed : goal.returns-clause-landed
returns-clause-landed c = λ past v k. c.a_vm_reaches_the_host_by_its_notices_alone.ensures.landed past v k
