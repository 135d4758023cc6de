use Rattle.aia_aplic.proofs.aplic.Aplic.next_msi.Given as goal

abbrev pub ghosts-next_msi_in : goal.ghosts-next_msi_in
ghosts-next_msi_in a = record { name = a.ledger.name; parts = a.ledger.parts }
