use Rattle.aia_move_values.proofs.WayFree.{new_free, free_on}
use Rattle.aia_move_values.proofs.WayUntouched.{untouched, new_empty}
use Rattle.aia_move_values.proofs.WayRecords.{new_records, records_on}
use Rattle.aia_move.proofs.rests.nothing_comes_to_lead_to_a_free_file.Goals as goal

pub returns-clause-new : goal.returns-clause-new
returns-clause-new c = new_free

pub returns-clause-stays : goal.returns-clause-stays
returns-clause-stays c = free_on

pub returns-clause-new_empty : goal.returns-clause-new_empty
returns-clause-new_empty c = new_empty

pub returns-clause-untouched : goal.returns-clause-untouched
returns-clause-untouched c = untouched

pub returns-clause-new_records : goal.returns-clause-new_records
returns-clause-new_records c = new_records

pub returns-clause-records : goal.returns-clause-records
returns-clause-records c = records_on
