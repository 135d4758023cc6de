use Rattle.aia_aplic_tests.proofs.aplic.the_least_source_of_two_domains_is_found.Given as goal

abbrev pub ghosts-searches : goal.ghosts-searches
ghosts-searches g a = record { name = a.blank.name; parts = a.blank.parts }
