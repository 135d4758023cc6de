use Rattle.std.proofs.Common.{Option, sym, subst, ◌∙◌}
use Rattle.aia_model.specs.declared.sender.Sender.{Sender}
use Rattle.aia_domain.specs.Domain.{is_ready}
use Rattle.aia_aplic_values.specs.Aplic.{AplicState, AplicStands}
use Rattle.aia_aplic_values.specs.Bits.{IsFirstSource}
use Rattle.aia_aplic_values.specs.Sending.{IsFirst}
use Rattle.aia_aplic_values.proofs.FirstLemmas.{root_genmsi_first, child_genmsi_first, source_first}
use Rattle.aia_aplic.proofs.aplic.Aplic.first_waiting.Goals as goal

pub returns-then-genmsi_waits-clause-first : goal.returns-then-genmsi_waits-clause-first
returns-then-genmsi_waits-clause-first g c = λ past stands.
    root_genmsi_first (record { root = c.self.inside.root; child = c.self.inside.child; addresses = c.self.inside.addresses }) past
    (sym c.genmsi_waits.ensures ∙ c.if-genmsi_waits.true)
    (subst (λ (a : AplicState). AplicStands a past) (sym c.self.view_is) stands)

pub returns-then-genmsi_waits-2-clause-first : goal.returns-then-genmsi_waits-2-clause-first
returns-then-genmsi_waits-2-clause-first g c = λ past stands.
    child_genmsi_first (record { root = c.self.inside.root; child = c.self.inside.child; addresses = c.self.inside.addresses }) past
    (sym c.genmsi_waits.ensures ∙ c.if-genmsi_waits.false) (sym c.genmsi_waits-2.ensures ∙ c.if-genmsi_waits-2.true)
    (subst (λ (a : AplicState). AplicStands a past) (sym c.self.view_is) stands)

pub returns-clause-first : goal.returns-clause-first
returns-clause-first g c = λ past stands.
    subst (λ (w : Option Sender). IsFirst w past) (sym c.sender_of.ensures)
    (source_first (record { root = c.self.inside.root; child = c.self.inside.child; addresses = c.self.inside.addresses }) past
    c.first_source.result (sym c.genmsi_waits.ensures ∙ c.if-genmsi_waits.false) (sym c.genmsi_waits-2.ensures ∙ c.if-genmsi_waits-2.false)
    (subst (λ (a : AplicState). IsFirstSource (is_ready a.root.domain) (is_ready a.child.domain) c.first_source.result) (sym c.self.view_is)
    c.first_source.ensures.first)
    (subst (λ (a : AplicState). AplicStands a past) (sym c.self.view_is) stands))
