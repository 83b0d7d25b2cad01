-- The items of a body.
use Rattle.std.proofs.Common.{◌≡◌, ◌&&◌, List, [], ◌∷◌, map, refl, ap, sym, ◌∙◌}
use Rattle.std.specs.List.{list_all}
use Rattle.dm_type.specs.Tables.{Table, type_of}
use Rattle.dm_tree.proofs.ViewLemmas.{view-core, known-form}
use Rattle.dm_tree.specs.declared.tree.Core.{Core, out-Core}
use Rattle.dm_tree.specs.declared.tree.Form.TheVariants as form
use Rattle.dm_tree.specs.Trees as label
use Rattle.dm_tree.specs.Trees.{Tree, listed, parts_of, trees}
use Rattle.dm_tree.specs.TypeNumbers.{all_pass, are_known_in_form}
use Rattle.dm_tree.specs.Views.{Opened, opened, opened_form, node_of, view}
use Rattle.dm_meaning.specs.Wholes.{is_whole, are_whole}
use Rattle.dm_program.specs.Functions.{IsItems}
use Rattle.dm_program.proofs.FormLemmas.{opened-Block, known-Block}
use Rattle.dm_tree.proofs.ListLemmas.{listed-trees}

whole-each : (all : List Tree) → all_pass (are_whole (trees all)) ≡ list_all is_whole all
whole-each [] = refl
whole-each (first ∷ rest) = ap (λ others. is_whole first && others) (whole-each rest)

view-block : (table : Table) (body : Core) (items : List Core) → (out-Core body).form ≡ form.Block items
    → view table body ≡ node_of (opened label.block (map (view table) items)) (type_of table (out-Core body).kind) (out-Core body).inner (out-Core body).outer (out-Core body).place
view-block table body items is =
    view-core table body
    ∙ ap (λ (o : Opened). node_of o (type_of table (out-Core body).kind) (out-Core body).inner (out-Core body).outer (out-Core body).place) (ap (opened_form table) is ∙ opened-Block table items)

pub block-items : (body : Core) (items : List Core) → (out-Core body).form ≡ form.Block items → IsItems body items
block-items body items is = record {
  same = λ table e. sym (ap parts_of (view-block table body items is) ∙ listed-trees (map (view table) items));
  known = λ n h. sym (known-Block n items) ∙ ap (are_known_in_form n) (sym is) ∙ known-form n body h;
  whole = λ h types. sym (whole-each (map (view types) items)) ∙ ap is_whole (sym (view-block types body items is)) ∙ h types;
}
