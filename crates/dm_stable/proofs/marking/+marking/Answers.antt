-- One after another.
use Rattle.std.proofs.Common.{List, map, Option, Bor, ap, sym, subst, rules, arith}
use Rattle.std.specs.Option.{option_copied, option_map}
use denote.Param.Weighed.{most}
use Rattle.dm_tree.specs.declared.tree.Core as q
use Rattle.dm_tree.specs.declared.tree.Core.{Core, size-Core}
use Rattle.dm_tree.specs.declared.tree.Initial.{Initial, size-Initial}
use Rattle.dm_tree.specs.declared.tree.Local.{Local, size-Local}
use Rattle.dm_tree.specs.Paths.{all_in}
use Rattle.dm_tree.specs.Trees.{Tree}
use Rattle.dm_tree.specs.Views.{expressions_of_items, expressions_of_locals, if_there, view, view_of_local}
use Rattle.dm_meaning.specs.Wholes.{view_of_initial}
use Rattle.dm_effect.proofs.DeclaratorLemmas.{value-expressions, parts-expressions}
use Rattle.dm_effect.proofs.PartLemmas.{local-with, local-without}
use Rattle.dm_stable.specs.Marks.{Notes, marks_of}
use Rattle.dm_stable.proofs.MarkLemmas.{NotesIn, follows-none, nothing, notes-both, in-both, in-one, node-noted, comma-noted}
use Rattle.dm_stable.proofs.marking.+marking.Goals as goal

-- ---- trees

pub note_tree-loop-at-preserved : goal.note_tree-loop-at-preserved
note_tree-loop-at-preserved t c = (
  search (rules, q.the_lemmas),
  λ types deed final h.
      let right : Notes deed (all_in (view types c.in-Comma.right)) (marks_of deed c.note_node.new.marks) (marks_of deed c.note_tree.new.marks) =
      subst (λ (core : Core). Notes deed (all_in (view types core)) (marks_of deed c.note_node.new.marks) (marks_of deed c.note_tree.new.marks)) c.get.ensures (c.note_tree.ensures types deed) in
      let left : Notes deed (all_in (view types c.in-Comma.left)) (marks_of deed c.note_tree.new.marks) final =
      subst (λ (core : Core). Notes deed (all_in (view types core)) (marks_of deed c.note_tree.new.marks) final) c.get-at.ensures h in
      c.loop-at.invariant.1 types deed final
      (comma-noted deed types c.loop-at.at.now c.in-Comma.left c.in-Comma.right c.in-Comma.is (marks_of deed c.loop-at.marks) (marks_of deed c.note_node.new.marks) (marks_of deed c.note_tree.new.marks) final (c.note_node.ensures types deed) right left),
)

pub note_tree-returns : goal.note_tree-returns
note_tree-returns t c types deed =
    c.loop-at.invariant.1 types deed (marks_of deed c.note_parts.new.marks)
    (node-noted deed types c.loop-at.at.now (marks_of deed c.loop-at.marks) (marks_of deed c.note_node-2.new.marks) (marks_of deed c.note_parts.new.marks) _ (c.parts_of.ensures.same types) (c.note_node-2.ensures types deed) (c.note_parts.ensures types deed))

-- ---- parts

pub note_parts-returns : goal.note_parts-returns
note_parts-returns t c types deed =
    in-both deed _ _ (marks_of deed c.args.marks.now) (marks_of deed c.note_part.new.marks) (marks_of deed c.note_initials_of.new.marks) (c.note_part.ensures types deed)
    (in-both deed _ _ (marks_of deed c.note_part.new.marks) (marks_of deed c.note_part-2.new.marks) (marks_of deed c.note_initials_of.new.marks) (c.note_part-2.ensures types deed)
    (in-both deed _ _ (marks_of deed c.note_part-2.new.marks) (marks_of deed c.note_part-3.new.marks) (marks_of deed c.note_initials_of.new.marks) (c.note_part-3.ensures types deed)
    (in-both deed _ _ (marks_of deed c.note_part-3.new.marks) (marks_of deed c.note_part-4.new.marks) (marks_of deed c.note_initials_of.new.marks) (c.note_part-4.ensures types deed)
    (in-both deed _ _ (marks_of deed c.note_part-4.new.marks) (marks_of deed c.note_trees.new.marks) (marks_of deed c.note_initials_of.new.marks) (c.note_trees.ensures types deed) (c.note_initials_of.ensures types deed)))))

pub note_part-returns-in-Some : goal.note_part-returns-in-Some
note_part-returns-in-Some t c types deed =
    subst (λ (part : Option (Bor Core)). NotesIn deed (if_there (option_map (view types) (option_copied part))) (marks_of deed c.args.marks.now) (marks_of deed c.note_tree.new.marks)) (sym c.in-Some.is)
    (in-one deed (view types c.in-Some.tree.now) (marks_of deed c.args.marks.now) (marks_of deed c.note_tree.new.marks) (c.note_tree.ensures types deed))

pub note_part-returns-in-None : goal.note_part-returns-in-None
note_part-returns-in-None t c types deed =
    subst (λ (part : Option (Bor Core)). NotesIn deed (if_there (option_map (view types) (option_copied part))) (marks_of deed c.args.marks.now) (marks_of deed c.args.marks.now)) (sym c.in-None.is) (follows-none (marks_of deed c.args.marks.now))

-- ---- lists

pub note_trees-loop-tree-preserved : goal.note_trees-loop-tree-preserved
note_trees-loop-tree-preserved t c =
    let deep = ap (most size-Core) c.in-Some.ensures.cases.0 in
    let below = c.loop-tree.invariant.0 in (
      omega (arith, deep, below),
      λ types deed final h.
          c.loop-tree.invariant.1 types deed final
          (subst (λ (all : List Core). NotesIn deed (map (view types) all) (marks_of deed c.loop-tree.marks) final) (sym c.in-Some.ensures.cases.0)
          (notes-both deed (all_in (view types c.in-Some.tree.now)) _ (marks_of deed c.loop-tree.marks) (marks_of deed c.note_tree.new.marks) final (c.note_tree.ensures types deed) h)),
    )

pub note_trees-returns : goal.note_trees-returns
note_trees-returns t c types deed =
    c.loop-tree.invariant.1 types deed (marks_of deed c.loop-tree.marks)
    (subst (λ (all : List Core). NotesIn deed (map (view types) all) (marks_of deed c.loop-tree.marks) (marks_of deed c.loop-tree.marks)) (sym (nothing c.loop-tree.left.now (search rules))) (follows-none (marks_of deed c.loop-tree.marks)))

pub note_initials_of-loop-local-preserved : goal.note_initials_of-loop-local-preserved
note_initials_of-loop-local-preserved t c =
    let deep = ap (most size-Local) c.in-Some.ensures.cases.0 in
    let below = c.loop-local.invariant.0 in (
      omega (arith, deep, below),
      λ types deed final h.
          c.loop-local.invariant.1 types deed final
          (subst (λ (all : List Local). NotesIn deed (expressions_of_locals (map (view_of_local types) all)) (marks_of deed c.loop-local.marks) final) (sym c.in-Some.ensures.cases.0)
          (in-both deed (view_of_local types c.in-Some.local.now).expressions _ (marks_of deed c.loop-local.marks) (marks_of deed c.note_initial_of.new.marks) final (c.note_initial_of.ensures types deed) h)),
    )

pub note_initials_of-returns : goal.note_initials_of-returns
note_initials_of-returns t c types deed =
    c.loop-local.invariant.1 types deed (marks_of deed c.loop-local.marks)
    (subst (λ (all : List Local). NotesIn deed (expressions_of_locals (map (view_of_local types) all)) (marks_of deed c.loop-local.marks) (marks_of deed c.loop-local.marks)) (sym (nothing c.loop-local.left.now (search rules)))
    (follows-none (marks_of deed c.loop-local.marks)))

pub note_initial_of-returns-in-Some : goal.note_initial_of-returns-in-Some
note_initial_of-returns-in-Some t c types deed =
    subst (λ (all : List Tree). NotesIn deed all (marks_of deed c.args.marks.now) (marks_of deed c.note_initial.new.marks)) (sym (local-with types c.args.local.now c.in-Some.initial c.in-Some.is)) (c.note_initial.ensures types deed)

pub note_initial_of-returns-in-None : goal.note_initial_of-returns-in-None
note_initial_of-returns-in-None t c types deed =
    subst (λ (all : List Tree). NotesIn deed all (marks_of deed c.args.marks.now) (marks_of deed c.args.marks.now)) (sym (local-without types c.args.local.now c.in-None.is)) (follows-none (marks_of deed c.args.marks.now))

pub note_initial-returns-in-Value : goal.note_initial-returns-in-Value
note_initial-returns-in-Value t c types deed =
    let tree : Notes deed (all_in (view types c.in-Value.tree)) (marks_of deed c.args.marks.now) (marks_of deed c.note_tree.new.marks) =
    subst (λ (core : Core). Notes deed (all_in (view types core)) (marks_of deed c.args.marks.now) (marks_of deed c.note_tree.new.marks)) c.get.ensures (c.note_tree.ensures types deed) in
    subst (λ (all : List Tree). NotesIn deed all (marks_of deed c.args.marks.now) (marks_of deed c.note_tree.new.marks)) (sym (value-expressions types c.args.initial.now c.in-Value.tree c.in-Value.is))
    (in-one deed (view types c.in-Value.tree) (marks_of deed c.args.marks.now) (marks_of deed c.note_tree.new.marks) tree)

pub note_initial-returns-in-Parts : goal.note_initial-returns-in-Parts
note_initial-returns-in-Parts t c types deed =
    let parts : NotesIn deed (expressions_of_items (map (view_of_initial types) c.in-Parts.list)) (marks_of deed c.args.marks.now) (marks_of deed c.note_initials.new.marks) =
    subst (λ (all : List Initial). NotesIn deed (expressions_of_items (map (view_of_initial types) all)) (marks_of deed c.args.marks.now) (marks_of deed c.note_initials.new.marks)) c.items.ensures (c.note_initials.ensures types deed) in
    subst (λ (all : List Tree). NotesIn deed all (marks_of deed c.args.marks.now) (marks_of deed c.note_initials.new.marks)) (sym (parts-expressions types c.args.initial.now c.in-Parts.list c.in-Parts.is)) parts

pub note_initials-loop-initial-preserved : goal.note_initials-loop-initial-preserved
note_initials-loop-initial-preserved t c =
    let deep = ap (most size-Initial) c.in-Some.ensures.cases.0 in
    let below = c.loop-initial.invariant.0 in (
      omega (arith, deep, below),
      λ types deed final h.
          c.loop-initial.invariant.1 types deed final
          (subst (λ (all : List Initial). NotesIn deed (expressions_of_items (map (view_of_initial types) all)) (marks_of deed c.loop-initial.marks) final) (sym c.in-Some.ensures.cases.0)
          (in-both deed (view_of_initial types c.in-Some.initial.now).expressions _ (marks_of deed c.loop-initial.marks) (marks_of deed c.note_initial.new.marks) final (c.note_initial.ensures types deed) h)),
    )

pub note_initials-returns : goal.note_initials-returns
note_initials-returns t c types deed =
    c.loop-initial.invariant.1 types deed (marks_of deed c.loop-initial.marks)
    (subst (λ (all : List Initial). NotesIn deed (expressions_of_items (map (view_of_initial types) all)) (marks_of deed c.loop-initial.marks) (marks_of deed c.loop-initial.marks)) (sym (nothing c.loop-initial.left.now (search rules)))
    (follows-none (marks_of deed c.loop-initial.marks)))
