-- The numbers that a shared hide set keeps.
use Rattle.std.specs.Prelude.{ℕ, Option, None, Some, List, []}
use Rattle.std.specs.declared.alloc.Global.{Global}
use Rattle.std.specs.declared.rc.Rc.{Rc}
use Rattle.std.specs.declared.vec.Vec.{Vec}

abbrev pub numbers_of : Option (Rc (Vec ℕ Global) Global) → List ℕ
numbers_of None = []
numbers_of (Some shared) = shared.value.items
