use Rattle.std.proofs.Common.{sym, subst, ◌∙◌}
use Rattle.aia_aplic_values.specs.Aplic.{AplicState, AplicStands}
use Rattle.aia_aplic_values.proofs.SideLemmas.{root_sends, child_sends}
use Rattle.aia_aplic.proofs.aplic.Aplic.send.Goals as goal

pub returns-in-Root-clause-stands : goal.returns-in-Root-clause-stands
returns-in-Root-clause-stands c = λ past stands.
    let now : AplicStands (record { root = c.self.inside.root; child = c.self.inside.child; addresses = c.self.inside.addresses }) past =
    subst (λ (a : AplicState). AplicStands a past) (sym c.self.view_is) stands in
    root_sends c.args.sender _ c.send-register.new.self past (sym c.domain_of_sender.ensures ∙ c.in-Root.is) (c.send-register.ensures.stands past) now

pub returns-in-Child-clause-stands : goal.returns-in-Child-clause-stands
returns-in-Child-clause-stands c = λ past stands.
    let now : AplicStands (record { root = c.self.inside.root; child = c.self.inside.child; addresses = c.self.inside.addresses }) past =
    subst (λ (a : AplicState). AplicStands a past) (sym c.self.view_is) stands in
    child_sends c.args.sender _ c.send-register-in-Child.new.self past (sym c.domain_of_sender.ensures ∙ c.in-Child.is)
    (c.send-register-in-Child.ensures.stands past) now
