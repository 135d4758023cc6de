use Rattle.std.proofs.Common.{◌∷◌, List, sym, subst}
use Rattle.aia_direct.specs.Idc.{IdcState}
use Rattle.aia_model.specs.declared.sender.Sender.TheVariants.{BySource}
use Rattle.aia_model.specs.Act.Act.{Sent}
use Rattle.aia_aplic_values.specs.Side.{SideStands}
use Rattle.aia_aplic_values.proofs.SideLemmas.{side-forwarded}
use Rattle.aia_aplic_values.proofs.FewerLemmas.{fewer_forwarded}
use Rattle.aia_aplic.proofs.side.Side.forward.Goals as goal

pub returns-clause-stands : goal.returns-clause-stands
returns-clause-stands c = λ past name stands.
    subst (λ (controls : List IdcState). SideStands (record { domain = c.forwarded.new.self.domain; controls = controls })
    (Sent (BySource name c.args.s) ∷ past) name) (sym c.forwarded.ensures.controls)
    (side-forwarded c.args.s c.args.self.now c.forwarded.new.self.domain past name c.requires c.forwarded.ensures.sources
    c.forwarded.ensures.domain stands)

pub returns-clause-fewer : goal.returns-clause-fewer
returns-clause-fewer c = fewer_forwarded c.args.s c.args.self.now.domain c.forwarded.new.self.domain c.requires c.forwarded.ensures.sources
    c.forwarded.ensures.domain
