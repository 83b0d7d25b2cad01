-- Members by their names.
--     member_named name n members      the first member of the name, with its number
use Rattle.std.specs.Prelude.{ℕ, ◌+◌, if◌then◌else◌, List, [], ◌∷◌, Option, Some, None, bytes_eq}
use Rattle.dm_type.specs.declared.shape.Member.{Member}

-- the first member of the name, with its number, where the members are numbered from n on
abbrev pub member_named : List ℕ → ℕ → List Member → Option (ℕ × Member)
member_named name n [] = None
member_named name n (member ∷ members) =
    if bytes_eq member.name name then Some (n, member) else member_named name (n + 1) members
