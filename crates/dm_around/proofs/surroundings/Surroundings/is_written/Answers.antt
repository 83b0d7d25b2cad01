-- By what is noted of the object.
use Rattle.std.proofs.Common.{◌≡◌, ℕ, Bool, List, Option, Some, slice_get, ap, sym, subst, ◌∙◌}
use Rattle.std.specs.List.{list_any}
use Rattle.dm_type.specs.Tables.{Table}
use Rattle.dm_tree.specs.declared.unit.CoreUnit.{CoreUnit}
use Rattle.dm_tree.specs.TypeNumbers.{IsTypedUnit}
use Rattle.dm_tree.specs.Views.{view_of_unit}
use Rattle.dm_effect.specs.Entities.{writes}
use Rattle.dm_effect.specs.Sequencing.{around}
use Rattle.dm_sites.specs.Sites.{Site, sites_of_unit}
use Rattle.dm_around.specs.declared.links.Link.{Link}
use Rattle.dm_around.specs.Writes.{AreStores, row_at}
use Rattle.dm_around.proofs.surroundings.Surroundings.is_written.Goals as goal

abbrev Says : Bool → ℕ → ℕ → Table → Site → CoreUnit → Type 0
Says answer n d types site one =
    IsTypedUnit types one → slice_get (sites_of_unit (view_of_unit types one)) n ≡ Some site → answer ≡ list_any (writes d) (around site.path site.full)

pub returns : goal.returns
returns c types site =
    let all = c.self.inside in
    let unit = view_of_unit types all.unit.now in
    let d = c.args.object in
    let row : c.row_of-row.result.now ≡ row_at all.writes.items d = c.row_of-row.ensures ∙ ap (λ (rows : List (List ℕ)). row_at rows d) c.as_slice.ensures.value in
    subst (Says c.is_written_around.result c.args.number d types site) c.self.view_is
    (λ typed there.
    c.is_written_around.ensures unit d site
    (subst (λ (row : List ℕ). AreStores unit d row c.as_slice-ends.result.now c.as_slice-links.result.now) (sym row)
    (subst (λ (ends : List ℕ). AreStores unit d (row_at all.writes.items d) ends c.as_slice-links.result.now) (sym c.as_slice-ends.ensures.value)
    (subst (λ (links : List (Option Link)). AreStores unit d (row_at all.writes.items d) all.ends.items links) (sym c.as_slice-links.ensures.value) (c.self.invariant.stores types typed d))))
    there)
