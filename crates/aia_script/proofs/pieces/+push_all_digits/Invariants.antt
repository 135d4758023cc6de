use Rattle.aia_script.proofs.pieces.+push_all_digits.Given as goal

abbrev pub decreases-push_all_digits : goal.decreases-push_all_digits
decreases-push_all_digits l = l.value
