-- Trails: through which expansions and arguments a token came, outermost first.
use Rattle.std.specs.Prelude.{ℕ, Bool, true, false, ◌&&◌, not, ◌==◌, List, [], ◌∷◌, ◌++◌, if◌then◌else◌}
use Rattle.std.specs.List.{list_any, list_all}
use Rattle.dm_token.specs.declared.expansion.Mark.{Mark}
use Rattle.dm_token.specs.declared.expansion.Mark.TheVariants.{Expansion, Argument}
use Rattle.dm_expand.specs.Items.{Item}

-- two marks are equal
unfoldable pub same_mark : Mark → Mark → Bool
same_mark (Expansion definition instance) (Expansion other_definition other_instance) =
    (definition == other_definition) && (instance == other_instance)
same_mark (Argument parameter occurrence) (Argument other_parameter other_occurrence) =
    (parameter == other_parameter) && (occurrence == other_occurrence)
same_mark (Expansion definition instance) (Argument parameter occurrence) = false
same_mark (Argument parameter occurrence) (Expansion definition instance) = false

-- whether a trail begins with another
unfoldable pub begins_with : List Mark → List Mark → Bool
begins_with [] trail = true
begins_with (mark ∷ marks) [] = false
begins_with (mark ∷ marks) (first ∷ others) = same_mark mark first && begins_with marks others

-- what is left of a trail past the marks with which another begins too
unfoldable pub past : List Mark → List Mark → List Mark
past [] trail = trail
past (mark ∷ marks) [] = []
past (mark ∷ marks) (first ∷ others) = if same_mark mark first then past marks others else first ∷ others

-- the trail of a token of a body, and of one that `#` or `##` makes: the name's, and the expansion
unfoldable pub body_trail : List Mark → Mark → List Mark
body_trail name expansion = name ++ expansion ∷ []

-- the trail of a token of an argument: the name's, the expansion, the argument, and what is left of the token's own
-- past what it has in common with the name's
unfoldable pub argument_trail : List Mark → Mark → Mark → List Mark → List Mark
argument_trail name expansion argument trail = body_trail name expansion ++ argument ∷ past name trail

-- whether a mark is that of the expansion with this number
unfoldable pub marks_instance : ℕ → Mark → Bool
marks_instance instance (Expansion definition number) = number == instance
marks_instance instance (Argument parameter occurrence) = false

-- whether one of the tokens carries the mark of an expansion
unfoldable pub carry : ℕ → List Item → Bool
carry instance items = list_any (λ item. list_any (marks_instance instance) item.trail) items

-- whether some token didn't come by the way that the name came
unfoldable pub come_otherwise : List Mark → List Item → Bool
come_otherwise name items = not (list_all (λ item. begins_with name item.trail) items)
