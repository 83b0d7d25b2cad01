-- A statement has no place of its own; an expression has.
use Rattle.std.proofs.Common.{[], ◌++◌, ℕ, length, map, reverse, ap, subst, sym, ◌∙◌, ◌≡◌, rules, List}
use Rattle.dm_type.specs.Tables.{no_type}
use Rattle.dm_tree.specs.Trees.{is_statement}
use Rattle.dm_tree.specs.Views.{entries_of}
use Rattle.dm_sites.specs.declared.site.Site.{Site as CodeSite}
use Rattle.dm_sites.specs.Rows.{row}
use Rattle.dm_sites.specs.Seen.{path_at, seen}
use Rattle.dm_sites.specs.Walks.{IsLeft, operands_at}
use Rattle.dm_sites.proofs.NodeLemmas.{label-view, parts-view}
use Rattle.dm_sites.proofs.WaitLemmas.{listed-alone}
use Rattle.dm_sites.proofs.WalkLemmas.{enters-statement, enters-expression, fewer-statement, fewer-expression}
use Rattle.dm_sites.proofs.walk.enter.Goals as goal

pub returns-in_ok-push_statement-clause-places : goal.returns-in_ok-push_statement-clause-places
returns-in_ok-push_statement-clause-places c types all rest left =
    enters-statement types (entries_of types c.args.declared.now) all rest c.args.found.now.items c.args.waiting.now.items c.push_statement.new.waiting.items c.args.site
    (ap is_statement (label-view types c.args.site.tree.now) ∙ (c.is_statement.ensures types ∙ c.if-is_statement.true)) (c.in_ok-push_statement.ensures.places types all) left

pub returns-in_ok-push_statement-clause-fewer : goal.returns-in_ok-push_statement-clause-fewer
returns-in_ok-push_statement-clause-fewer c =
    fewer-statement (entries_of no_type c.args.declared.now) c.args.waiting.now.items c.push_statement.new.waiting.items c.args.site.tree.now (c.in_ok-push_statement.ensures.places no_type [])

pub returns-in_ok-push-clause-places : goal.returns-in_ok-push-clause-places
returns-in_ok-push-clause-places c types all rest left =
    let count : c.len.result ≡ length c.args.found.now.items = search rules in
    subst (λ (found : List CodeSite). IsLeft types (entries_of types c.args.declared.now) all rest found c.push_operands.new.waiting.items) (sym c.in_ok-push.ensures.items)
    (enters-expression types (entries_of types c.args.declared.now) all rest c.args.found.now.items c.args.waiting.now.items c.push_operands.new.waiting.items c.args.site (row types c.list_parts.new.row.items)
    (ap is_statement (label-view types c.args.site.tree.now) ∙ (c.is_statement.ensures types ∙ c.if-is_statement.false))
    (listed-alone types c.args.row.now.items c.list_parts.new.row.items _ c.requires (c.in_ok-list_parts.ensures types) ∙ sym (parts-view types c.args.site.tree.now))
    (c.in_ok-push_operands.ensures.places types all
    ∙ ap (λ (n : ℕ). map (seen types all) c.args.waiting.now.items ++ reverse (operands_at (path_at all n) (seen types all c.args.site) (row types c.list_parts.new.row.items))) count)
    left)

pub returns-in_ok-push-clause-fewer : goal.returns-in_ok-push-clause-fewer
returns-in_ok-push-clause-fewer c =
    fewer-expression c.args.waiting.now.items c.push_operands.new.waiting.items c.args.site (path_at [] c.len.result) (row no_type c.list_parts.new.row.items)
    (listed-alone no_type c.args.row.now.items c.list_parts.new.row.items _ c.requires (c.in_ok-list_parts.ensures no_type) ∙ sym (parts-view no_type c.args.site.tree.now))
    (c.in_ok-push_operands.ensures.places no_type [])
