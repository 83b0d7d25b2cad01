-- By its items.
use Rattle.std.proofs.Common.{List, map, ap, sym, ◌∙◌}
use Rattle.dm_type.specs.Tables.{type_of}
use Rattle.dm_tree.specs.declared.tree.Core.{Core, out-Core}
use Rattle.dm_tree.specs.Trees.{block, Spans, node, trees}
use Rattle.dm_tree.specs.Views.{view}
use Rattle.dm_effect.specs.Quiet.{alone_returned}
use Rattle.dm_effect.proofs.EffectLemmas.{block-as}
use Rattle.dm_effect.proofs.functions.returned.Goals as goal

pub returns-in-Block : goal.returns-in-Block
returns-in-Block c types =
    let one = out-Core c.args.body.now in
    let spans : Spans = record { inner = one.inner; outer = one.outer; place = one.place } in
    block-as types c.args.body.now c.in-Block.items c.in-Block.is
    ∙ (ap (λ (all : List Core). alone_returned (node block (type_of types one.kind) spans (trees (map (view types) all)))) (sym c.items.ensures)
    ∙ c.returned_alone.ensures types (type_of types one.kind) spans)
