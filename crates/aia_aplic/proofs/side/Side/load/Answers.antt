use Rattle.std.proofs.Common.{sym, subst, ap, ◌∙◌}
use Rattle.aia_aplic_values.specs.Side.{SideState, SideStands}
use Rattle.aia_aplic_values.proofs.LoadedSteps.{is_claim}
use Rattle.aia_aplic_values.proofs.Reading.{read-stands}
use Rattle.aia_aplic_values.proofs.SideLemmas.{side-loaded, not_control, not_claim}
use Rattle.aia_aplic.proofs.side.Side.load.Goals as goal

pub returns-in-TopI-clause-stands : goal.returns-in-TopI-clause-stands
returns-in-TopI-clause-stands c = λ past name stands. side-loaded c.args.reg c.args.self.now past name (ap is_claim c.in-TopI.is) stands

pub returns-in_default : goal.returns-in_default
returns-in_default c =
    let plain = not_control c.args.reg c.in_default.not-IDelivery c.in_default.not-IForce c.in_default.not-IThreshold c.in_default.not-TopI
    c.in_default.not-ClaimI in
    record {
      reads = λ past name stands.
          let now : SideStands (record { domain = c.self.inside.domain; controls = c.self.inside.controls.items }) past name =
          subst (λ (a : SideState). SideStands a past name) (sym c.self.view_is) stands in
          c.load.ensures ∙ read-stands c.args.reg c.self.inside.domain past name plain now.domain;
      stands = λ past name stands. side-loaded c.args.reg c.args.self.now past name (not_claim c.args.reg plain) stands;
    }

pub returns-in-IDelivery-clause-stands : goal.returns-in-IDelivery-clause-stands
returns-in-IDelivery-clause-stands c = λ past name stands. side-loaded c.args.reg c.args.self.now past name (ap is_claim c.in-IDelivery.is) stands

pub returns-in-IForce-clause-stands : goal.returns-in-IForce-clause-stands
returns-in-IForce-clause-stands c = λ past name stands. side-loaded c.args.reg c.args.self.now past name (ap is_claim c.in-IForce.is) stands

pub returns-in-IThreshold-clause-stands : goal.returns-in-IThreshold-clause-stands
returns-in-IThreshold-clause-stands c = λ past name stands. side-loaded c.args.reg c.args.self.now past name (ap is_claim c.in-IThreshold.is) stands
