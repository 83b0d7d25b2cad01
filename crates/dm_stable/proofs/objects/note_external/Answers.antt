-- Itself, its constants, and its other trees.
use Rattle.std.proofs.Common.{List, ◌++◌, map, sym, subst}
use Rattle.std.specs.List.{list_any}
use Rattle.dm_type.specs.Tables.{Table}
use Rattle.dm_tree.specs.declared.tree.Core.{Core}
use Rattle.dm_tree.specs.declared.tree.Local.{Local}
use Rattle.dm_tree.specs.declared.unit.CoreExternal.{CoreExternal}
use Rattle.dm_tree.specs.declared.unit.CoreExternalForm.{CoreExternalForm}
use Rattle.dm_tree.specs.Trees.{Tree}
use Rattle.dm_tree.specs.Views.{expressions_of_locals, view, view_of_external, view_of_form, view_of_local}
use Rattle.dm_effect.specs.Entities.{nodes_of_external, trees_in_form}
use Rattle.dm_effect.proofs.ExternalLemmas.{trees-nodes}
use Rattle.dm_stable.specs.declared.marks.Mark.{Mark}
use Rattle.dm_stable.specs.Marks.{Deed, Follows, Notes, does, found, marks_of, own}
use Rattle.dm_stable.proofs.MarkLemmas.{NotesIn, follows-both, in-both, in-one}
use Rattle.dm_stable.proofs.objects.note_external.Goals as goal

noted : (deed : Deed) (types : Table) (one : CoreExternal) (old mid later new : List Mark) → Follows (λ d token. own deed d token (view_of_form types one.form)) old mid
    → NotesIn deed (map (view types) one.constants) mid later → NotesIn deed (trees_in_form (view_of_form types one.form)) later new → Follows (λ d token. found deed d token (view_of_external types one)) old new
noted deed types one old mid later new h k l =
    follows-both (λ d token. own deed d token (view_of_form types one.form)) (λ d token. list_any (does deed d token) (nodes_of_external (view_of_external types one))) old mid new h
    (subst (λ (nodes : List Tree). Notes deed nodes mid new) (sym (trees-nodes (map (view types) one.constants ++ trees_in_form (view_of_form types one.form))))
    (in-both deed (map (view types) one.constants) (trees_in_form (view_of_form types one.form)) mid later new k l))

pub returns-in-Declaration : goal.returns-in-Declaration
returns-in-Declaration c types deed =
    let one : CoreExternal = c.args.external.now in
    let constants : NotesIn deed (map (view types) one.constants) (marks_of deed c.note_own.new.marks) (marks_of deed c.note_trees.new.marks) =
    subst (λ (all : List Core). NotesIn deed (map (view types) all) (marks_of deed c.note_own.new.marks) (marks_of deed c.note_trees.new.marks)) c.items.ensures (c.note_trees.ensures types deed) in
    let locals : NotesIn deed (expressions_of_locals (map (view_of_local types) c.in-Declaration.locals)) (marks_of deed c.note_trees.new.marks) (marks_of deed c.note_initials_of.new.marks) =
    subst (λ (all : List Local). NotesIn deed (expressions_of_locals (map (view_of_local types) all)) (marks_of deed c.note_trees.new.marks) (marks_of deed c.note_initials_of.new.marks)) c.items-in-Declaration.ensures (c.note_initials_of.ensures types deed) in
    let others : NotesIn deed (trees_in_form (view_of_form types one.form)) (marks_of deed c.note_trees.new.marks) (marks_of deed c.note_initials_of.new.marks) =
    subst (λ (form : CoreExternalForm). NotesIn deed (trees_in_form (view_of_form types form)) (marks_of deed c.note_trees.new.marks) (marks_of deed c.note_initials_of.new.marks)) (sym c.in-Declaration.is) locals in
    noted deed types one (marks_of deed c.args.marks.now) (marks_of deed c.note_own.new.marks) (marks_of deed c.note_trees.new.marks) (marks_of deed c.note_initials_of.new.marks) (c.note_own.ensures types deed) constants others

pub returns-in-Function : goal.returns-in-Function
returns-in-Function c types deed =
    let one : CoreExternal = c.args.external.now in
    let constants : NotesIn deed (map (view types) one.constants) (marks_of deed c.note_own.new.marks) (marks_of deed c.note_trees.new.marks) =
    subst (λ (all : List Core). NotesIn deed (map (view types) all) (marks_of deed c.note_own.new.marks) (marks_of deed c.note_trees.new.marks)) c.items.ensures (c.note_trees.ensures types deed) in
    let others : NotesIn deed (trees_in_form (view_of_form types one.form)) (marks_of deed c.note_trees.new.marks) (marks_of deed c.note_tree.new.marks) =
    subst (λ (form : CoreExternalForm). NotesIn deed (trees_in_form (view_of_form types form)) (marks_of deed c.note_trees.new.marks) (marks_of deed c.note_tree.new.marks)) (sym c.in-Function.is)
    (in-one deed (view types c.in-Function.body) (marks_of deed c.note_trees.new.marks) (marks_of deed c.note_tree.new.marks) (c.note_tree.ensures types deed)) in
    noted deed types one (marks_of deed c.args.marks.now) (marks_of deed c.note_own.new.marks) (marks_of deed c.note_trees.new.marks) (marks_of deed c.note_tree.new.marks) (c.note_own.ensures types deed) constants others
