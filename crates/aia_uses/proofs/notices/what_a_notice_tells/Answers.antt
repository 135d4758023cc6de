use Rattle.aia_model.specs.declared.line.Line.TheVariants as lines
use Rattle.aia_model.specs.Event.Event.{Accepted, Began, Stepped, Delivered, Landed, Relayed}
use Rattle.aia_uses.proofs.notices.what_a_notice_tells.Goals as goal

pub returns-clause-msi : goal.returns-clause-msi
returns-clause-msi c = λ h vm addr value g e.
    let cause = c.a_notice_has_a_cause.ensures h (Accepted (lines.Msi vm addr value)) g e in
    (cause.identity, cause.asks.0, cause.asks.1, cause.enabled)

pub returns-clause-ipi : goal.returns-clause-ipi
returns-clause-ipi c = λ h vm vcpu to value g e.
    let cause = c.a_notice_has_a_cause.ensures h (Accepted (lines.Ipi vm vcpu to value)) g e in
    (cause.identity, cause.asks.0, cause.asks.1, cause.enabled)

pub returns-clause-exit : goal.returns-clause-exit
returns-clause-exit c = λ h vm vcpu g e.
    let cause = c.a_notice_has_a_cause.ensures h (Accepted (lines.Exit vm vcpu)) g e in
    (cause.identity, cause.same, cause.deliverable)

pub returns-clause-load : goal.returns-clause-load
returns-clause-load c = λ h vm vcpu part g e.
    let cause = c.a_notice_has_a_cause.ensures h (Accepted (lines.LoadPart vm vcpu part)) g e in
    (cause.identity, cause.same, cause.pending, cause.enabled)

pub returns-clause-stepped : goal.returns-clause-stepped
returns-clause-stepped c = λ h x g e.
    let cause = c.a_notice_has_a_cause.ensures h (Stepped x) g e in
    (cause.same, cause.last, cause.saw)

pub returns-clause-landed : goal.returns-clause-landed
returns-clause-landed c = λ h vm k g e.
    let cause = c.a_notice_has_a_cause.ensures h (Landed vm k) g e in
    (cause.store, cause.identity, cause.is, cause.same, cause.asks, cause.enabled)

pub returns-clause-relayed : goal.returns-clause-relayed
returns-clause-relayed c = λ h p g e.
    let cause = c.a_notice_has_a_cause.ensures h (Relayed p) g e in
    (cause.identity, cause.same, cause.asks, cause.enabled)

pub returns-clause-began : goal.returns-clause-began
returns-clause-began c = λ h move g e. c.a_notice_has_a_cause.ensures h (Began move) g e

pub returns-clause-delivered : goal.returns-clause-delivered
returns-clause-delivered c = λ h msi g e. c.a_notice_has_a_cause.ensures h (Delivered msi) g e

pub returns-clause-entered : goal.returns-clause-entered
returns-clause-entered c = λ h vm vcpu g e. (c.a_notice_has_a_cause.ensures h (Accepted (lines.Enter vm vcpu)) g e).asks
