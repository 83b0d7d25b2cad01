-- The one declarator.
use Rattle.std.proofs.Common.{◌≡◌, [], ◌∷◌, ap, sym, ◌∙◌, arith}
use Rattle.dm_tree.specs.declared.tree.Local.{Local}
use Rattle.dm_tree.specs.declared.unit.CoreExternalForm.TheVariants as code
use Rattle.dm_tree.specs.Views.{view, view_of_form}
use Rattle.dm_align.proofs.InsertionLemmas.{if-some, if-none, single-item, one-declared, other-declared}
use Rattle.dm_align.proofs.insertion.initialiser_in.Goals as goal

pub returns-in-len1-clause-found : goal.returns-in-len1-clause-found
returns-in-len1-clause-found c =
    let local : Local = c.local-item.result in
    let one : c.items.result.now ≡ local ∷ [] = single-item c.items.result.now local (omega arith) c.local-item.is in
    let form = c.in-Declaration.is ∙ ap code.Declaration (sym c.items.ensures ∙ one) in
    if-some _ _ c.value_of_local.result (λ tree is. λ types. ap (view_of_form types) form ∙ one-declared types local (view types tree.now) c.args.number (is types)) c.value_of_local.ensures.found

pub returns-in-len1-clause-none : goal.returns-in-len1-clause-none
returns-in-len1-clause-none c =
    let local : Local = c.local-item.result in
    let one : c.items.result.now ≡ local ∷ [] = single-item c.items.result.now local (omega arith) c.local-item.is in
    let form = c.in-Declaration.is ∙ ap code.Declaration (sym c.items.ensures ∙ one) in
    if-none _ _ c.value_of_local.result (λ none. λ types declarators trees is. other-declared types local c.args.number declarators trees (none types) (sym (ap (view_of_form types) form) ∙ is))
    c.value_of_local.ensures.none
