use Rattle.aia_file.proofs.MapLemmas.{spot_of_machine, spot_of_host, spot_of_guest, machine_of_spot, host_of_spot, guest_of_spot}
use Rattle.aia_imsic.proofs.laws.an_address_names_one_file.Goals as goal

pub returns-clause-machine : goal.returns-clause-machine
returns-clause-machine c = λ harts guests addr hart. (machine_of_spot harts guests addr hart, λ is. spot_of_machine harts guests addr hart is.0 is.1)

pub returns-clause-host : goal.returns-clause-host
returns-clause-host c = λ harts guests addr hart few. (host_of_spot harts guests addr hart, λ is. spot_of_host harts guests addr hart few is.0 is.1)

pub returns-clause-guest : goal.returns-clause-guest
returns-clause-guest c = λ harts guests addr hart file few
    eight. (guest_of_spot harts guests addr hart file, λ is. spot_of_guest harts guests addr hart file few eight is.0 is.1 is.2 is.3)
