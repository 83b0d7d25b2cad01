-- The parameters of the added function when it is entered.
--     entries_for parameters stored values ways      each parameter with its object, its value, and what stands for it in the old program
use Rattle.std.specs.Prelude.{ℕ, List, [], ◌∷◌}
use Rattle.dm_meaning.specs.Values.{Value}
use Rattle.dm_central.specs.Arguments.{Way, at_once, untouched}
use Rattle.dm_central.specs.Agreement.{Stood, a_value, a_tree, Entry}

-- the value of an argument that was evaluated at once, or the untouched argument
abbrev pub stood_by : Way → Stood
stood_by at_once = a_value
stood_by (untouched tree) = a_tree tree

abbrev pub entries_for : List ℕ → List ℕ → List Value → List Way → List Entry
entries_for (p ∷ ps) (n ∷ ns) (value ∷ values) (way ∷ ways) = record { parameter = p; stored = n; value = value; stood = stood_by way } ∷ entries_for ps ns values ways
entries_for ps ns values ways = []
