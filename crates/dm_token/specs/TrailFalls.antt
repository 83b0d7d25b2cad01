-- A trail has more marks than the trail inside of it.
use Rattle.std.specs.Prelude.{◌≤◌, Option, None, Some, ◌∷◌, [], length}
use Rattle.std.proofs.Common.{arith, length-append}
use Rattle.std.specs.declared.rc.Rc.{Rc}
use Rattle.std.specs.declared.alloc.Global.{Global}
use Rattle.dm_token.specs.declared.trail.Node.{Node}
use Rattle.dm_token.specs.declared.trail.Trail.TheDeep.{deep-Trail}
use Rattle.dm_token.specs.Trails.{marks_of}

-- the depth of a trail's chain is at most the number of its marks
pub parent_is_shorter : (alloc : Global) (top : Option (Rc Node Global)) → deep-Trail (record { alloc = alloc; top = top }) ≤ length (marks_of top)
parent_is_shorter alloc None = omega arith
parent_is_shorter alloc (Some node) = omega (arith, length-append node.value.parent (node.value.mark ∷ []))
