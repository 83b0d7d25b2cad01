use Rattle.std.proofs.Common.{option_map, sym, subst}
use Rattle.dm_syn.specs.declared.statement.Stmt.{Stmt}
use Rattle.dm_syn.specs.declared.statement.SwitchForm.TheVariants as label_form
use Rattle.dm_pexpr.specs.Parts.{IsPart}
use Rattle.dm_pstmt.specs.Kinds.{a_labelled}
use Rattle.dm_pstmt.specs.Parsing.{unlabelled_with}
use Rattle.dm_pstmt.proofs.NodeLemmas.{unlabelled-made}
use Rattle.dm_pstmt.proofs.nodes.unlabelled.Goals as goal

pub returns : goal.returns
returns c source before behind wanted given =
    subst (λ (it : Stmt). IsPart (a_labelled source) source before behind
    (record { tree = record { span = record { first = c.args.first; after = c.in_ok-stmt.stmt.after }; form = label_form.Statement it }; height = c.in_ok-stmt.stmt.height; after = c.in_ok-stmt.stmt.after })
    (option_map (unlabelled_with c.args.first) wanted)) (sym c.into_inner.ensures)
    (unlabelled-made source before behind c.args.stmt c.in_ok-stmt.stmt wanted c.in_ok-stmt.was given c.args.first)
