-- One after another.
use Rattle.std.proofs.Common.{List, map, sym, subst, rules}
use Rattle.std.specs.List.{list_any}
use Rattle.dm_type.specs.Tables.{Table}
use Rattle.dm_tree.specs.declared.unit.CoreExternal.{CoreExternal}
use Rattle.dm_tree.specs.Views.{view_of_external}
use Rattle.dm_stable.specs.declared.marks.Mark.{Mark}
use Rattle.dm_stable.specs.Marks.{Deed, Follows, found, marks_of}
use Rattle.dm_stable.proofs.MarkLemmas.{follows-both, follows-none, nothing}
use Rattle.dm_stable.proofs.objects.note_externals.Goals as goal

abbrev noted : Deed → Table → List Mark → List Mark → List CoreExternal → Type 0
noted deed types old new externals = Follows (λ d token. list_any (found deed d token) (map (view_of_external types) externals)) old new

pub loop-external-preserved : goal.loop-external-preserved
loop-external-preserved c = λ types deed final h.
    c.loop-external.invariant types deed final
    (subst (noted deed types (marks_of deed c.loop-external.marks) final) (sym c.in-Some.ensures.cases.0)
    (follows-both (λ d token. found deed d token (view_of_external types c.in-Some.external.now)) (λ d token. list_any (found deed d token) (map (view_of_external types) c.in-Some.rest.now))
    (marks_of deed c.loop-external.marks) (marks_of deed c.note_external.new.marks) final (c.note_external.ensures types deed) h))

pub returns : goal.returns
returns c types deed =
    c.loop-external.invariant types deed (marks_of deed c.loop-external.marks)
    (subst (noted deed types (marks_of deed c.loop-external.marks) (marks_of deed c.loop-external.marks)) (sym (nothing c.loop-external.left.now (search rules))) (follows-none (marks_of deed c.loop-external.marks)))
