-- The path so far is the first part and then a slash and a part for each one passed.
use Rattle.std.proofs.Common.{◌≡◌, ◌∷◌, ◌++◌, map, take}
use Rattle.std.specs.List.{flat_map}
use Rattle.dm_search.proofs.joining.path_of.Given as goal

abbrev pub invariant-loop-part : goal.invariant-loop-part
invariant-loop-part l = l.path.items ≡ l.initial.path.items ++ flat_map (λ part. 47 ∷ part) (map (λ part. part.now) (take l.part-index l.others))
