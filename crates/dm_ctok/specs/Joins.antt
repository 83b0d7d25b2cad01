-- Adjacent string literals become one (6.4.5p5, translation phase 6).
use Rattle.std.specs.Prelude.{Bool, ◌&&◌, true, false, ◌==◌, List, [], ◌∷◌, ◌++◌, if◌then◌else◌}
use Rattle.dm_token.specs.declared.expansion.Mark.{Mark}
use Rattle.dm_token.specs.declared.expansion.Mark.TheVariants.{Expansion, Argument}
use Rattle.dm_token.specs.declared.token.CToken.{CToken}
use Rattle.dm_token.specs.declared.token.Class.{Class}
use Rattle.dm_token.specs.declared.token.Class.TheVariants.{Keyword, Punctuator, Identifier, Integer, Literal}

-- two marks are equal
abbrev pub is_same : Mark → Mark → Bool
is_same (Expansion definition instance) (Expansion other second) = (definition == other) && (instance == second)
is_same (Expansion definition instance) (Argument parameter occurrence) = false
is_same (Argument parameter occurrence) (Expansion definition instance) = false
is_same (Argument parameter occurrence) (Argument other second) = (parameter == other) && (occurrence == second)

-- the longest common prefix of two trails
unfoldable pub common : List Mark → List Mark → List Mark
common [] b = []
common (x ∷ a) [] = []
common (x ∷ a) (y ∷ b) = if is_same x y then x ∷ common a b else []

-- the token is a string literal
abbrev pub is_literal_class : Class → Bool
is_literal_class (Keyword row) = false
is_literal_class (Punctuator row) = false
is_literal_class Identifier = false
is_literal_class Integer = false
is_literal_class Literal = true

-- two literals as one: the bytes of both, the place of the first, the common prefix of their trails
unfoldable pub joined : CToken → CToken → CToken
joined a b = record a { spelling = a.spelling ++ b.spelling; trail = common a.trail b.trail }

-- a token before others of which no two adjacent ones are literals
unfoldable pub onto : CToken → List CToken → List CToken
onto a [] = a ∷ []
onto a (b ∷ tokens) = if is_literal_class a.class && is_literal_class b.class then joined a b ∷ tokens else a ∷ b ∷ tokens

-- adjacent literals joined
unfoldable pub joins : List CToken → List CToken
joins [] = []
joins (a ∷ tokens) = onto a (joins tokens)
