-- Which arguments of an invocation the parts of its macro's replacement list need.
use Rattle.std.specs.Prelude.{◌≡◌, List, [], ◌∷◌}
use Rattle.dm_expand.specs.Items.{Item}
use Rattle.dm_macro.specs.Bodies.{Part, plain, hash, beside, whole, paste}
use Rattle.dm_expand.specs.Pastes.{Site}
use Rattle.dm_expand.specs.Substitution.{argument_for}

-- the same expansion with other arguments
abbrev pub with_others : Site → List (List Item) → Site
with_others site others = record site { arguments = others }

-- The argument that a part puts in is the same among others.
abbrev pub IsServed : Site → List (List Item) → Part → Type 0
IsServed site others (plain pp) = Unit {0}
IsServed site others (hash pp parameter) = argument_for (with_others site others) parameter ≡ argument_for site parameter
IsServed site others (beside pp parameter occurrence) = argument_for (with_others site others) parameter ≡ argument_for site parameter
IsServed site others (whole pp parameter occurrence) = argument_for (with_others site others) parameter ≡ argument_for site parameter
IsServed site others (paste pp) = Unit {0}

-- So is that of each of these parts.
abbrev pub AreServed : Site → List (List Item) → List Part → Type 0
AreServed site others [] = Unit {0}
AreServed site others (part ∷ parts) = IsServed site others part × AreServed site others parts
