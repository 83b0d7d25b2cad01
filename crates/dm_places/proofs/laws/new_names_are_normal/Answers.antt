use Rattle.std.specs.Prelude.{◌≡◌, ℕ, true, List}
use Rattle.dm_token.specs.Names.{is_normal_name}
use Rattle.dm_search.specs.Joining.{candidates, places}
use Rattle.dm_places.proofs.ReadingLemmas.{new-names, all-normal}
use Rattle.dm_places.proofs.laws.new_names_are_normal.Goals as goal

pub returns : goal.returns
returns c files unit old new pp is starts readable normal =
    new-names files unit old new starts readable (λ (name : List ℕ). is_normal_name name ≡ true)
    (λ name from quoted include. all-normal (candidates name (places from quoted include)) (c.searched_names_are_normal.ensures name from quoted include)) pp normal is
