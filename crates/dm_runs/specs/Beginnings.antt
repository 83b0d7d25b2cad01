-- The beginnings of trails (6.10.3): the ways of expansions that tokens came.
--     beginnings_of trail      those of one trail, the shortest first
--     met trails      those of all, each once, in the order in which they are first met
--     begins prefix trail      whether this is one of the trail's beginnings, or no mark
--     last_mark trail      the innermost mark
use Rattle.std.specs.Prelude.{Bool, List, [], ◌∷◌, ◌++◌, fold, map, Option, Some, None, if◌then◌else◌}
use Rattle.std.specs.List.{list_any, flat_map, starts_with}
use Rattle.dm_token.specs.declared.expansion.Mark.{Mark}
use Rattle.dm_token.specs.contracts.expansion.MarkPartialEq.TheImpl as mark_eq
use Rattle.dm_token.specs.Equal.{equal}

abbrev pub begins : List Mark → List Mark → Bool
begins prefix trail = starts_with (mark_eq.ghosts).eq trail prefix

abbrev pub beginnings_of : List Mark → List (List Mark)
beginnings_of [] = []
beginnings_of (mark ∷ marks) = (mark ∷ []) ∷ map (λ beginning. mark ∷ beginning) (beginnings_of marks)

abbrev pub once_more : List (List Mark) → List Mark → List (List Mark)
once_more found beginning = if list_any (equal beginning) found then found else found ++ beginning ∷ []

-- The trail without marks comes first, and each other one behind those that it begins with.
abbrev pub met : List (List Mark) → List (List Mark)
met trails = fold once_more ([] ∷ []) (flat_map beginnings_of trails)

abbrev pub last_of : Option Mark → List Mark → Option Mark
last_of before [] = before
last_of before (mark ∷ marks) = last_of (Some mark) marks

abbrev pub last_mark : List Mark → Option Mark
last_mark trail = last_of None trail
