use Rattle.aia_mrif.proofs.slot.SlotMut.top.Given as goal

abbrev pub ghosts-top_in : goal.ghosts-top_in
ghosts-top_in a = record { name = a.ledger.name; parts = a.ledger.parts }
