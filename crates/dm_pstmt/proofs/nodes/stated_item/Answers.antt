use Rattle.std.proofs.Common.{option_map, sym, subst}
use Rattle.dm_syn.specs.declared.statement.Stmt.{Stmt}
use Rattle.dm_syn.specs.declared.statement.Item.TheVariants as block_form
use Rattle.dm_syn.specs.Trees as tree
use Rattle.dm_pexpr.specs.Parts.{IsPart}
use Rattle.dm_pstmt.specs.Kinds.{a_block_item}
use Rattle.dm_pstmt.proofs.NodeLemmas.{stated-made}
use Rattle.dm_pstmt.proofs.nodes.stated_item.Goals as goal

pub returns : goal.returns
returns c source before behind wanted given =
    subst (λ (it : Stmt). IsPart (a_block_item source) source before behind (record { tree = block_form.Statement it; height = c.in_ok-stmt.stmt.height; after = c.in_ok-stmt.stmt.after }) (option_map tree.stated_item wanted)) (sym c.into_inner.ensures)
    (stated-made source before behind c.args.stmt c.in_ok-stmt.stmt wanted c.in_ok-stmt.was given)
