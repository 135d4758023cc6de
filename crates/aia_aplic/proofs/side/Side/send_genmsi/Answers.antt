use Rattle.std.proofs.Common.{◌∷◌, List, sym, subst}
use Rattle.aia_direct.specs.Idc.{IdcState}
use Rattle.aia_model.specs.declared.sender.Sender.TheVariants.{ByGenMsi}
use Rattle.aia_model.specs.Act.Act.{Sent}
use Rattle.aia_aplic_values.specs.Side.{SideStands}
use Rattle.aia_aplic_values.proofs.SideLemmas.{side-genmsi_sent}
use Rattle.aia_aplic.proofs.side.Side.send_genmsi.Goals as goal

pub returns-clause-stands : goal.returns-clause-stands
returns-clause-stands c = λ past name stands.
    subst (λ (controls : List IdcState). SideStands (record { domain = c.take_genmsi.new.self.domain; controls = controls })
    (Sent (ByGenMsi name) ∷ past) name) (sym c.take_genmsi.ensures.controls)
    (side-genmsi_sent c.args.self.now c.take_genmsi.new.self.domain past name c.take_genmsi.ensures.domain stands)
