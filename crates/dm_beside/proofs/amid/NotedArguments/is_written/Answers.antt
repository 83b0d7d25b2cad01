-- What is noted of places is of the unit.
use Rattle.std.proofs.Common.{◌≡◌, ℕ, Bool, Some, slice_get, subst}
use Rattle.std.specs.List.{list_any}
use Rattle.dm_type.specs.Tables.{Table}
use Rattle.dm_tree.specs.declared.unit.CoreUnit.{CoreUnit}
use Rattle.dm_tree.specs.TypeNumbers.{IsTypedUnit}
use Rattle.dm_effect.specs.Entities.{writes}
use Rattle.dm_effect.specs.Sequencing.{around}
use Rattle.dm_sites.specs.Sites.{Site}
use Rattle.dm_beside.specs.Amid.{places_at, run_at}
use Rattle.dm_beside.proofs.AmidLemmas.{same-answer}
use Rattle.dm_beside.proofs.amid.NotedArguments.is_written.Goals as goal

abbrev Says : Bool → ℕ → ℕ → Table → Site → CoreUnit → Type 0
Says answer n d types site one = IsTypedUnit types one → slice_get (places_at types one) n ≡ Some site → answer ≡ list_any (writes d) (around site.path site.full)

pub returns : goal.returns
returns c =
    let it = c.args.self.now in
    let types = it.types.now in
    let site = run_at types it.sites.now it.run.now in
    let told : Says c.is_written.result it.number c.args.object types site it.sites.now =
    subst (Says c.is_written.result it.number c.args.object types site) it.round (c.is_written.ensures types site) in
    same-answer it.placed c.is_written.result (list_any (writes c.args.object) (around site.path site.full)) (λ placed. told placed.typed placed.there)
