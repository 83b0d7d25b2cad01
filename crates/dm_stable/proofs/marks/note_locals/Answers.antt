-- One after another.
use Rattle.std.proofs.Common.{List, map, sym, subst, rules}
use Rattle.std.specs.List.{list_any}
use Rattle.dm_type.specs.Tables.{Table}
use Rattle.dm_tree.specs.declared.tree.Local.{Local}
use Rattle.dm_tree.specs.Views.{view_of_local}
use Rattle.dm_effect.specs.Questions.{as_local}
use Rattle.dm_stable.specs.declared.marks.Mark.{Mark}
use Rattle.dm_stable.specs.Marks.{Deed, Follows, does_local, marks_of}
use Rattle.dm_stable.proofs.MarkLemmas.{follows-both, follows-none, nothing}
use Rattle.dm_stable.proofs.marks.note_locals.Goals as goal

abbrev noted : Deed → Table → List Mark → List Mark → List Local → Type 0
noted deed types old new locals = Follows (λ d token. list_any (does_local deed d token) (map as_local (map (view_of_local types) locals))) old new

pub loop-local-preserved : goal.loop-local-preserved
loop-local-preserved c = λ types deed final h.
    c.loop-local.invariant types deed final
    (subst (noted deed types (marks_of deed c.loop-local.marks) final) (sym c.in-Some.ensures.cases.0)
    (follows-both (λ d token. does_local deed d token (as_local (view_of_local types c.in-Some.local.now))) (λ d token. list_any (does_local deed d token) (map as_local (map (view_of_local types) c.in-Some.rest.now)))
    (marks_of deed c.loop-local.marks) (marks_of deed c.note_local.new.marks) final (c.note_local.ensures types deed) h))

pub returns : goal.returns
returns c types deed =
    c.loop-local.invariant types deed (marks_of deed c.loop-local.marks)
    (subst (noted deed types (marks_of deed c.loop-local.marks) (marks_of deed c.loop-local.marks)) (sym (nothing c.loop-local.left.now (search rules))) (follows-none (marks_of deed c.loop-local.marks)))
