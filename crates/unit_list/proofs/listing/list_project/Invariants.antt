-- A new ledger counts the readings.
use Rattle.unit_list.proofs.listing.list_project.Given as goal

abbrev pub ghosts-list_counted : goal.ghosts-list_counted
ghosts-list_counted g a = record { name = a.blank.name; parts = a.blank.parts }
