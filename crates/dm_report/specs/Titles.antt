-- The titles of the rules by which a definition is kept.
use Rattle.std.specs.Prelude.{ℕ, List, [], ◌∷◌, codes, slice_index_or}

-- by their numbers, of which 0 is none
abbrev pub titles : List (List ℕ)
titles =
    [] ∷ codes "Body" ∷ codes "Again" ∷ codes "Directive" ∷ codes "Unused" ∷ codes "Gone" ∷ codes "Place" ∷ codes "Name" ∷ codes "Parameter"
    ∷ codes "Subtree" ∷ codes "Constant" ∷ codes "Lvalue" ∷ codes "Type" ∷ codes "Capture" ∷ codes "Evaluation" ∷ codes "Reread" ∷ []

-- the title of a rule, which is empty where there is no such rule
unfoldable pub title_of : ℕ → List ℕ
title_of rule = slice_index_or titles rule []
