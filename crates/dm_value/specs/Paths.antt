-- What a path stands for.
use Rattle.std.specs.Prelude.{[], ◌∷◌, map}
use Rattle.dm_meaning.specs.Values as values
use Rattle.dm_value.specs.Parts.{view_of_part}
use Rattle.dm_value.specs.declared.path.Steps.{Steps}
use Rattle.dm_value.specs.declared.path.Steps.TheVariants.{Whole, One, More}

abbrev pub view_of_steps : Steps → values.Path
view_of_steps Whole = []
view_of_steps (One step) = view_of_part step ∷ []
view_of_steps (More steps) = map view_of_part steps.value
