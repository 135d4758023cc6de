use Rattle.aia_aplic_tests.proofs.aplic.the_last_source_is_found_by_counted_looks.Given as goal

abbrev pub ghosts-looks_are_counted : goal.ghosts-looks_are_counted
ghosts-looks_are_counted g a = record { name = a.blank.name; parts = a.blank.parts }
