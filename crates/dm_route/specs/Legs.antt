-- The marks of trails that stand one behind the other.
use Rattle.std.specs.Prelude.{◌<◌, Option, None, Some, List, [], ◌++◌, length}
use Rattle.std.specs.declared.rc.Rc.{Rc}
use Rattle.std.specs.declared.alloc.Global.{Global}
use Rattle.dm_token.specs.declared.expansion.Mark.{Mark}
use Rattle.dm_route.specs.declared.legs.Leg.{Leg}

-- those of the outermost trail, and those of the trails behind it
abbrev pub marks_of : Option (Rc Leg Global) → List Mark
marks_of None = []
marks_of (Some leg) = leg.value.trail ++ leg.value.behind

-- the outermost trail has marks
abbrev pub HasMarks : Option (Rc Leg Global) → Type 0
HasMarks None = Unit {0}
HasMarks (Some leg) = 0 < length leg.value.trail
