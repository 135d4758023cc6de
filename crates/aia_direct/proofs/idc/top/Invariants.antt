use Rattle.aia_direct.proofs.idc.top.Given as goal

abbrev pub ghosts-top_in : goal.ghosts-top_in
ghosts-top_in a = record { name = a.ledger.name; parts = a.ledger.parts }
