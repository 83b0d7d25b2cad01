-- The way to the part tells.
use Rattle.std.proofs.Common.{◌≡◌, ℕ, Bool, true, List, Some, nat_le, drop, length, slice_get, ap, ap₂, sym, subst, ◌∙◌}
use Rattle.dm_type.specs.Tables.{Table}
use Rattle.dm_tree.specs.declared.unit.CoreUnit.{CoreUnit}
use Rattle.dm_tree.specs.TypeNumbers.{IsTypedUnit}
use Rattle.dm_tree.specs.Views.{view_of_unit}
use Rattle.dm_effect.specs.Sequencing.{is_first}
use Rattle.dm_sites.specs.Sites.{Site, sites_of_unit}
use Rattle.dm_around.specs.declared.ways.Way.{Way}
use Rattle.dm_around.specs.Ways.{is_in, way_at}
use Rattle.dm_around.proofs.WayLemmas.{told-inside}
use Rattle.dm_around.proofs.surroundings.Surroundings.is_first.Goals as goal

abbrev Says : Bool → ℕ → ℕ → Table → Site → Site → CoreUnit → Type 0
Says answer whole part types upper site one =
    IsTypedUnit types one → slice_get (sites_of_unit (view_of_unit types one)) whole ≡ Some upper → slice_get (sites_of_unit (view_of_unit types one)) part ≡ Some site
    → answer ≡ is_first (drop (length upper.path) site.path) upper.tree

pub returns-clause-first : goal.returns-clause-first
returns-clause-first c types upper site =
    let all = c.self.inside in
    let unit = view_of_unit types all.unit.now in
    let known = c.self.invariant in
    let whole = c.args.whole in
    let part = c.args.part in
    let outer = c.way_at-outer.ensures ∙ ap (λ (ways : List Way). way_at ways whole) c.as_slice-ways.ensures.value in
    let inner = c.way_at-inner.ensures ∙ ap (λ (ways : List Way). way_at ways part) c.as_slice-ways.ensures.value in
    let is : is_in all.ends.items whole part ≡ true = ap (λ (ends : List ℕ). is_in ends whole part) (sym c.as_slice.ensures.value) ∙ (sym c.is_in.ensures ∙ c.if-not-is_in.false) in
    subst (Says (nat_le c.way_at-inner.result.gate c.way_at-outer.result.depth) whole part types upper site) c.self.view_is
    (λ typed above there.
    ap₂ (λ (gate depth : ℕ). nat_le gate depth) (ap (λ (way : Way). way.gate) inner) (ap (λ (way : Way). way.depth) outer ∙ (known.led types typed whole upper above).long)
    ∙ sym (told-inside unit (known.stores types typed 0).plain whole part upper site above there all.ends.items (way_at all.ways.items part) (known.stores types typed 0).ended (known.led types typed part site there) is))
