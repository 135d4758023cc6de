use Rattle.aia_aplic_tests.proofs.delivery_controls.what_is_on_top_is_found_by_a_counted_look.Given as goal

abbrev pub ghosts-a_look_is_counted : goal.ghosts-a_look_is_counted
ghosts-a_look_is_counted g a = record { name = a.blank.name; parts = a.blank.parts }
