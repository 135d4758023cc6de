use Rattle.aia_aplic_values.proofs.AddressSteps.{locked_stay}
use Rattle.aia_aplic_values.proofs.laws.locked_registers_of_addresses_stay.Goals as goal

pub returns : goal.returns
returns c = locked_stay
