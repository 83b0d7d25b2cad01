-- A directive that is there keeps its list, and a new one gets an empty one.
use Rattle.std.proofs.Common.{[], ◌∷◌, ◌++◌, sym, ap, ◌∙◌}
use Rattle.std.specs.List.{list_any}
use Rattle.dm_runs.specs.Listings.{same, directive, items_at}
use Rattle.dm_runs.proofs.TreeLemmas.{not-true, not-false}
use Rattle.dm_runs.proofs.ListingLemmas.{Placed, placed-new, placed-old}
use Rattle.dm_runs.proofs.by_directive.ByDirective.with_list.Goals as goal
use Rattle.dm_runs.proofs.by_directive.ByDirective.with_list.Given as given
use Rattle.dm_runs.proofs.by_directive.ByDirective.with_list.Goals.{then-is_new+in_ok-push, else-is_new}

placed : (g : given.Over) (c : goal.Joined-is_new g) → Placed c.self.inside.directives.keys c.insert_full.new.self.keys c.self.inside.lists.items c.if-is_new.lists.items c.args.directive
placed g c =
    let before = c.self.inside.directives.keys in
    let lists = c.self.inside.lists.items in
    elim c.if-is_new.branch [
      | then-is_new+in_ok-push w ↦
          placed-new before c.insert_full.new.self.keys lists c.if-is_new.lists.items c.args.directive c.self.invariant
          (not-true (list_any (same c.args.directive) before) (sym w.if-is_new.true ∙ c.in_ok-index.ensures.added)) c.in_ok-index.ensures.keys
          (ap (λ v. v.items) w.lists-is ∙ w.in_ok-push.ensures.items ∙ ap (λ list. lists ++ list ∷ []) w.new.ensures)
      | else-is_new w ↦
          placed-old before c.insert_full.new.self.keys lists c.if-is_new.lists.items c.args.directive c.self.invariant
          (not-false (list_any (same c.args.directive) before) (sym w.if-is_new.false ∙ c.in_ok-index.ensures.added)) c.in_ok-index.ensures.keys (ap (λ v. v.items) w.lists-is)
    ]

pub returns-clause-items : goal.returns-clause-items
returns-clause-items g c = λ file hash. (placed g c).kept (directive file hash) ∙ ap (λ index. items_at index file hash) c.self.view_is

pub returns-clause-number : goal.returns-clause-number
returns-clause-number g c = c.in_ok-index.ensures.index ∙ sym (placed g c).first
