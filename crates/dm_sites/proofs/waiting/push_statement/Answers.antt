-- By the form.
use Rattle.std.proofs.Common.{[], ◌∷◌, ◌++◌, List, map, reverse, true, false, ap, sym, ◌∙◌, ◌≡◌, rules, append_assoc}
use Rattle.dm_tree.specs.declared.tree.Core.{Core, out-Core}
use Rattle.dm_tree.specs.declared.tree.Core as q
use Rattle.dm_tree.specs.declared.tree.Local.{Local}
use Rattle.dm_tree.specs.Trees.{Tree}
use Rattle.dm_tree.specs.Views.{entries_of, opened_form, view, view_of_local}
use Rattle.dm_effect.specs.Questions.{as_local}
use Rattle.dm_sites.specs.Rows.{row}
use Rattle.dm_sites.specs.Seen.{seen}
use Rattle.dm_sites.specs.Sites.{Site, declarator_sites, has_full_parts, whole}
use Rattle.dm_sites.proofs.NodeLemmas.{parts-Declare, parts-Case, parts-full}
use Rattle.dm_sites.proofs.WaitLemmas.{listed-alone, pushed-twice, seen-last}
use Rattle.dm_sites.proofs.waiting.push_statement.Goals as goal

pub returns-in_ok-push_whole-in-Declare-clause-places : goal.returns-in_ok-push_whole-in-Declare-clause-places
returns-in_ok-push_whole-in-Declare-clause-places c types all =
    let declared = entries_of types c.args.declared.now in
    let old = map (seen types all) c.args.waiting.now.items in
    pushed-twice old (map (seen types all) c.push_locals.new.waiting.items) (map (seen types all) c.push_whole.new.waiting.items)
    (declarator_sites declared (map as_local (map (view_of_local types) c.items.result.now))) (map (whole true false) (row types c.list_trees.new.row.items))
    (c.in_ok-push_locals-in-Declare.ensures.places types all) (c.in_ok-push_whole-in-Declare.ensures.places types all)
    ∙ ap (λ (them : List Site). old ++ reverse them)
    (ap (λ (trees : List Tree). map (whole true false) trees ++ declarator_sites declared (map as_local (map (view_of_local types) c.items.result.now)))
    (listed-alone types c.push_locals.new.row.items c.list_trees.new.row.items (map (view types) c.items-in-Declare.result.now) c.in_ok-push_locals-in-Declare.ensures.empty
    (c.in_ok-list_trees-in-Declare.ensures types)
    ∙ ap (λ (trees : List Core). map (view types) trees) c.items-in-Declare.ensures)
    ∙ (ap (λ (locals : List Local). map (whole true false) (map (view types) c.in-Declare.lengths) ++ declarator_sites declared (map as_local (map (view_of_local types) locals))) c.items.ensures
    ∙ sym (parts-Declare types declared c.args.statement.now c.in-Declare.lengths c.in-Declare.locals c.in-Declare.is)))

pub returns-in_ok-push-in-Case-2-clause-places : goal.returns-in_ok-push-in-Case-2-clause-places
returns-in_ok-push-in-Case-2-clause-places c types all =
    let old = map (seen types all) c.args.waiting.now.items in
    ap (map (seen types all)) c.in_ok-push-in-Case-2.ensures.items
    ∙ (seen-last types all c.push.new.self.items c.whole-in-Case.result
    ∙ (ap (λ (them : List Site). them ++ seen types all c.whole-in-Case.result ∷ []) (ap (map (seen types all)) c.in_ok-push-in-Case.ensures.items ∙ seen-last types all c.args.waiting.now.items c.whole.result)
    ∙ (append_assoc old (seen types all c.whole.result ∷ []) (seen types all c.whole-in-Case.result ∷ [])
    ∙ (ap (λ (site : Site). old ++ (site ∷ seen types all c.whole-in-Case.result ∷ [])) (c.whole.ensures types all ∙ ap (λ (tree : Core). whole false false (view types tree)) c.get.ensures)
    ∙ (ap (λ (site : Site). old ++ (whole false false (view types c.in-Case.inner) ∷ site ∷ []))
    (c.whole-in-Case.ensures types all ∙ ap (λ (tree : Core). whole true false (view types tree)) c.get-in-Case.ensures)
    ∙ ap (λ (them : List Site). old ++ reverse them) (sym (parts-Case types (entries_of types c.args.declared.now) c.args.statement.now c.in-Case.value c.in-Case.inner c.in-Case.is)))))))

pub returns-in_ok-push_whole-in_default-clause-places : goal.returns-in_ok-push_whole-in_default-clause-places
returns-in_ok-push_whole-in_default-clause-places c types all =
    let full : has_full_parts (opened_form types (out-Core c.args.statement.now).form).label ≡ true = search (rules, q.the_lemmas) in
    c.in_ok-push_whole-in_default.ensures.places types all
    ∙ ap (λ (them : List Site). map (seen types all) c.args.waiting.now.items ++ reverse them)
    (ap (map (whole false false)) (listed-alone types c.args.row.now.items c.list_parts.new.row.items (opened_form types (out-Core c.args.statement.now).form).parts c.requires (c.in_ok-list_parts-in_default.ensures types))
    ∙ sym (parts-full types (entries_of types c.args.declared.now) c.args.statement.now full))
