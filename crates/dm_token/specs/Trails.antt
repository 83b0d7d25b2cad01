-- The marks of a trail's chain.
use Rattle.std.specs.Prelude.{◌≡◌, ◌+◌, Option, None, Some, List, [], ◌∷◌, ◌++◌, length}
use Rattle.std.specs.declared.rc.Rc.{Rc}
use Rattle.std.specs.declared.alloc.Global.{Global}
use Rattle.dm_token.specs.declared.expansion.Mark.{Mark}
use Rattle.dm_token.specs.declared.trail.Node.{Node}

-- those of the trail outside of the innermost one, and that one
abbrev pub marks_of : Option (Rc Node Global) → List Mark
marks_of None = []
marks_of (Some node) = node.value.parent ++ node.value.mark ∷ []

-- the length that a node keeps is the number of its marks
abbrev pub IsCounted : Option (Rc Node Global) → Type 0
IsCounted None = Unit {0}
IsCounted (Some node) = node.value.length ≡ length node.value.parent + 1
