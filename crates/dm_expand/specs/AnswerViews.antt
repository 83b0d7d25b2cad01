-- What the public call's answer means.
use Rattle.std.specs.Prelude.{ℕ, ◌+◌, List, length}
use Rattle.dm_token.specs.declared.token.Token.{Token}
use Rattle.dm_token.specs.declared.expansion.Expansion.{Expansion}
use Rattle.dm_macro.specs.Tables.{Table}
use Rattle.dm_expand.specs.Expansion.{Macros, Answer}
use Rattle.dm_expand.specs.Laws.{AreNumbered}

-- what an expansion looks up
abbrev pub looked_up : Table → List (List ℕ) → Macros
looked_up table files = record { table = table; files = files }

-- the tokens, the expansions and the count of work afterwards
abbrev pub answer : List Token → List Expansion → ℕ → Answer
answer tokens expansions spent = record { tokens = tokens; expansions = expansions; spent = spent }

-- the expansions have the numbers from the first one on
abbrev pub AreNumberedFrom : ℕ → List Expansion → Type 0
AreNumberedFrom first expansions = AreNumbered first expansions (first + length expansions)
