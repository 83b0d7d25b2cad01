-- A new ledger counts the readings.
use Rattle.unit_tests.proofs.readings.in_turn.Given as goal

abbrev pub ghosts-counted_in_turn : goal.ghosts-counted_in_turn
ghosts-counted_in_turn g a = record { name = a.blank.name; parts = a.blank.parts }
