-- The ledger of the count.
use Rattle.dm_running.proofs.reading.read_once.Given as goal

abbrev pub ghosts-read_counted : goal.ghosts-read_counted
ghosts-read_counted g a = record { name = a.blank.name; parts = a.blank.parts }
