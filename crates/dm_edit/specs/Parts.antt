-- The parts of a file that stay.
use Rattle.std.specs.Prelude.{◌≡◌, ℕ, List}
use Rattle.dm_token.specs.declared.expansion.Definition.{Definition}
use Rattle.dm_edit.specs.Cuts.{Cut, IsCut}

-- the parts before a definition, of its body, and behind it
abbrev pub ArePartsOf : List ℕ → Definition → List ℕ → List ℕ → List ℕ → Type 0
ArePartsOf bytes definition front body rest =
    (cut : Cut) × IsCut bytes definition cut × (front ≡ cut.front) × (body ≡ cut.body) × (rest ≡ cut.rest)
