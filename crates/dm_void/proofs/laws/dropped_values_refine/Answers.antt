use Rattle.std.specs.Prelude.{refl}
use Rattle.std.proofs.Common.{inl}
use Rattle.dm_void.proofs.RefineLemmas.{restated_refines}
use Rattle.dm_void.proofs.laws.dropped_values_refine.Goals as goal

pub returns : goal.returns
returns c program f value functions sound restated nothing other_name gives void =
    restated_refines program f value value functions restated other_name (inl (record { sound = sound; nothing = nothing; gives = gives; valueless = void; same = refl }))
