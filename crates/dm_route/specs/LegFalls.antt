-- Trails have more marks than those behind the outermost one.
use Rattle.std.specs.Prelude.{◌≤◌, Option, None, Some, length}
use Rattle.std.proofs.Common.{arith, length-append}
use Rattle.std.specs.declared.rc.Rc.{Rc}
use Rattle.std.specs.declared.alloc.Global.{Global}
use Rattle.dm_route.specs.declared.legs.Leg.{Leg}
use Rattle.dm_route.specs.declared.legs.Legs.TheDeep.{deep-Legs}
use Rattle.dm_route.specs.Legs.{marks_of, HasMarks}

-- there are at most as many trails as marks
pub behind_is_shorter : (first : Option (Rc Leg Global)) → HasMarks first → deep-Legs (record { first = first }) ≤ length (marks_of first)
behind_is_shorter None has = omega arith
behind_is_shorter (Some leg) has = omega (arith, has, length-append leg.value.trail leg.value.behind)
