-- There are no declarators, and one specifier.
use Rattle.std.specs.Prelude.{nat_eq}
use Rattle.std.proofs.Common.{sym, ap, ◌∙◌}
use Rattle.dm_syn.specs.Views as syntax
use Rattle.dm_edecl.specs.Declaring.{is_alone}
use Rattle.dm_edeclaration.proofs.DeclarationLemmas.{alone-none, alone-some}
use Rattle.dm_edeclaration.proofs.declarations.is_alone.Goals as goal

pub returns-then-not-is_empty : goal.returns-then-not-is_empty
returns-then-not-is_empty c =
    let node = c.args.declaration.now in
    let full = c.if-not-is_empty.true in
    sym (alone-some (syntax.specifiers node.specifiers) node.items (λ none. let empty = c.is_empty.ensures.1 none in absurd (cc)))

pub returns : goal.returns
returns c =
    let node = c.args.declaration.now in
    let none = c.is_empty.ensures.0 c.if-not-is_empty.false in
    ap (λ n. nat_eq n 1) c.len.ensures ∙ sym (ap (λ list. is_alone (syntax.specifiers node.specifiers) (syntax.items list)) none ∙ alone-none node.specifiers)
