-- What the declarators so far declare and what the rest comes to is the whole.
use Rattle.std.specs.Prelude.{map, drop}
use Rattle.dm_type.specs.Tables.{IsId}
use Rattle.dm_syn.specs.Views as syntax
use Rattle.dm_typing.specs.Views.{setting_of}
use Rattle.dm_edecl.specs.Declaring.{typed_items}
use Rattle.dm_estanding.proofs.ProceedingLemmas.{Arrives}
use Rattle.dm_edeclaration.specs.Steps.{specified_over, together, items_over, ItemsFit}
use Rattle.dm_edeclaration.proofs.DeclarationLemmas.{rest_items}
use Rattle.dm_edeclaration.proofs.items.typed_items.Given as goal

abbrev pub invariant-loop-item : goal.invariant-loop-item
invariant-loop-item l =
    Arrives l.fn.standing l.standing (λ later before. together (typed_items (setting_of l.typer) (specified_over later l.said) before (map syntax.item l.items)))
    (λ later behind. rest_items (setting_of l.typer) (specified_over later l.said) (items_over later l.all) (map syntax.item (drop l.item-index l.items)) behind)
    × ItemsFit l.standing.known.types l.all × IsId l.standing.known.types l.said.kind
