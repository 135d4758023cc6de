use Rattle.std.proofs.Common.{refl, sym, arith}
use Rattle.aia_file.proofs.MapLemmas.{below_all, past_machines, at_machine, past_hosts, at_host, past_guests, at_guest}
use Rattle.aia_imsic.proofs.imsic.Imsic.locate.Goals as goal

pub returns-then-addr-lt-MACHINE_FILES-clause-spot : goal.returns-then-addr-lt-MACHINE_FILES-clause-spot
returns-then-addr-lt-MACHINE_FILES-clause-spot c = sym (below_all _ _ c.args.addr (omega arith))

pub returns-then-hart-harts-clause-spot : goal.returns-then-hart-harts-clause-spot
returns-then-hart-harts-clause-spot c =
    rw (← c.self.view_is) (sym (past_machines c.self.inside.harts c.self.inside.guests c.args.addr _ refl (omega arith) (omega arith) (omega arith)))

pub returns-then-addr-lt-SUPERVISOR_FILES-clause-spot : goal.returns-then-addr-lt-SUPERVISOR_FILES-clause-spot
returns-then-addr-lt-SUPERVISOR_FILES-clause-spot c =
    rw (← c.self.view_is) (sym (at_machine c.self.inside.harts c.self.inside.guests c.args.addr _ refl (omega arith) (omega arith)))

pub returns-then-hart-harts-2-clause-spot : goal.returns-then-hart-harts-2-clause-spot
returns-then-hart-harts-2-clause-spot c =
    rw (← c.self.view_is) (sym (past_hosts c.self.inside.harts c.self.inside.guests c.args.addr _ (omega arith) (omega arith) refl (omega arith)
    (omega arith)))

pub returns-then-file-eq0-clause-spot : goal.returns-then-file-eq0-clause-spot
returns-then-file-eq0-clause-spot c =
    rw (← c.self.view_is) (sym (at_host c.self.inside.harts c.self.inside.guests c.args.addr _ _ (omega arith) refl refl (omega arith)
    (omega arith) (omega arith)))

pub returns-then-file-from-clause-spot : goal.returns-then-file-from-clause-spot
returns-then-file-from-clause-spot c =
    rw (← c.self.view_is) (sym (past_guests c.self.inside.harts c.self.inside.guests c.args.addr _ _ (omega arith) (omega arith) refl refl
    (omega arith) (λ e. omega arith) (omega arith)))

pub returns-clause-spot : goal.returns-clause-spot
returns-clause-spot c =
    rw (← c.self.view_is) (sym (at_guest c.self.inside.harts c.self.inside.guests c.args.addr _ _ (omega arith) (omega arith) refl refl
    (omega arith) (omega arith) (λ e. omega arith) (omega arith)))
