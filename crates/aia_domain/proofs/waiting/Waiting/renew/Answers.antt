use Rattle.std.proofs.Common.{rules, subst}
use Rattle.aia_domain.specs.Waiting.{HasRoom}
use Rattle.aia_domain.proofs.waiting.Waiting.renew.Goals as goal

pub put_into-requires : goal.put_into-requires
put_into-requires c = search (rules, subst (λ o. HasRoom c.args.s o c.args.stands c.args.self.now.fronts) c.in-None-default.is-0 c.requires.room)
