-- Members by their names, with their types written out.
use Rattle.std.specs.Prelude.{◌≡◌, ℕ, ◌+◌, Bool, true, false, ◌||◌, if◌then◌else◌, is_some, List, [], ◌∷◌, map, Some, bytes_eq, refl}
use Rattle.dm_type.specs.declared.shape.Member.{Member}
use Rattle.dm_type.specs.declared.shape.Shape.{Shape}
use Rattle.dm_type.specs.Naming.{member_named}
use Rattle.dm_typing.specs.Typing.{is_named}
use Rattle.dm_edeclarator.specs.Steps.{member_over}

-- a name is taken where a member of it is found
pub named-over : (later : List Shape) (name : List ℕ) (n : ℕ) (members : List Member) → is_named name (map (member_over later) members) ≡ is_some (member_named name n members)
named-over later name n [] = refl
named-over later name n (first ∷ others) = by (named-over later name (n + 1) others) (bytes_eq first.name name)
  where
    by : is_named name (map (member_over later) others) ≡ is_some (member_named name (n + 1) others) → (test : Bool) → (test || is_named name (map (member_over later) others)) ≡ is_some (if test then Some (n, first) else member_named name (n + 1) others)
    by behind true = refl
    by behind false = behind
