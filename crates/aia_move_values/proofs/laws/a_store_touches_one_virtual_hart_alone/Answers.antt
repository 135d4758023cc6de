use Rattle.aia_fabric_values.specs.World.{stage_of}
use Rattle.aia_move_values.proofs.OwnLemmas.{device_touches, peer_touches, others_stay}
use Rattle.aia_move_values.proofs.laws.a_store_touches_one_virtual_hart_alone.Goals as goal

pub returns-clause-devices : goal.returns-clause-devices
returns-clause-devices c = device_touches

pub returns-clause-peers : goal.returns-clause-peers
returns-clause-peers c = λ w u g value. peer_touches w u g (stage_of w g).in_force value

pub returns-clause-others : goal.returns-clause-others
returns-clause-others c = others_stay
