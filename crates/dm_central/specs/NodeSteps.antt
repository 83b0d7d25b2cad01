-- The scenes in which trees of the new program and of the old one are evaluated.
--     old_stage change objects closed quiet      what names stand for in the old program
--     MeanTheSame change mode news objects      names that both trees may have stand for the same objects
use Rattle.std.specs.Prelude.{◌≡◌, ℕ, Bool, true, List}
use Rattle.dm_tree.specs.Trees.{object}
use Rattle.dm_meaning.specs.Operations.{Objects, Scene, object_named}
use Rattle.dm_meaning.specs.Running.{evaluates}
use Rattle.dm_meaning.specs.Called.{Called, new_of}
use Rattle.dm_meaning.proofs.MatchLemmas.{may_stand}
use Rattle.dm_rewrite.specs.Effects.{Stage}
use Rattle.dm_central.specs.Agreement.{Mode, is_inside}

abbrev pub new_scene : Called → Objects → Scene
new_scene change objects = record { program = new_of change; objects = objects }

abbrev pub old_stage : Called → Objects → List ℕ → (ℕ → Bool) → Stage
old_stage change objects closed quiet = record { scene = record { program = change.old; objects = objects }; closed = closed; quiet = quiet }

-- in the added function these are objects of static storage duration
abbrev pub MeanTheSame : Called → Mode → Objects → Objects → Type 0
MeanTheSame change mode news objects =
    (d : ℕ) → may_stand change.old (is_inside mode) (evaluates (object d)) ≡ true → object_named news (change.rename d) ≡ object_named objects d
