use Rattle.std.proofs.Common.{◌≡◌, drop}
use Rattle.dm_macro.specs.Forms.{hash_not_before, is_parameter}
use Rattle.dm_macro.specs.NameSets.{has_name}
use Rattle.dm_macro.proofs.hash.first_bare_hash.Given as goal

abbrev pub invariant-loop-index : goal.invariant-loop-index
invariant-loop-index l =
    hash_not_before (is_parameter (has_name l.names) l.variadic) l.body
    ≡ hash_not_before (is_parameter (has_name l.names) l.variadic) (drop l.index l.body)
