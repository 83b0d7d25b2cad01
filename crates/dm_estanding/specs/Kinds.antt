-- Types by number in what the code keeps beside what expressions see.
--     whole_in links number      what the declarations of an entry say together, if it has linkage
--     HaveKinds types links      the types of these are numbered
--     WereTypes types changes      and so are the types that entries had before
use Rattle.std.specs.Prelude.{◌≡◌, ℕ, nat_eq, List, Option, Some, All}
use Rattle.std.specs.HashMap as hash
use Rattle.dm_type.specs.Tables.{Table, IsId}
use Rattle.dm_estanding.specs.declared.links.Links.{Links}
use Rattle.dm_estanding.specs.declared.links.Whole.{Whole}
use Rattle.dm_estanding.specs.declared.standing.Retyped.{Retyped}

abbrev pub whole_in : Links → ℕ → Option Whole
whole_in links number = hash.get nat_eq links.wholes number

abbrev pub HaveKinds : Table → Links → Type 0
HaveKinds types links = (number : ℕ) (whole : Whole) → whole_in links number ≡ Some whole → IsId types whole.kind

abbrev pub WereTypes : Table → List Retyped → Type 0
WereTypes types changes = All (λ (change : Retyped). IsId types change.kind) changes
