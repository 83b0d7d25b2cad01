-- The initialisers in braces, one after the other (6.7.9).
use Rattle.std.proofs.Common.{◌≡◌, ℕ, suc, List, ◌∷◌, ◌++◌, take, drop, ap, sym, ◌∙◌}
use Rattle.std.proofs.Math.Seq.{drop-append_seam, take-append_seam}
use Rattle.dm_type.specs.CTypes.{CType, bare}
use Rattle.dm_type.specs.Tables.{Table}
use Rattle.dm_tree.specs.declared.tree.Initial.{Initial}
use Rattle.dm_tree.specs.Trees.{Tree, expressions_in}
use Rattle.dm_tree.specs.Views.{items_of, expressions_of_items}
use Rattle.dm_layout.specs.LaidOut.{laid_out}
use Rattle.dm_meaning.specs.Objects.{inner_type}
use Rattle.dm_meaning.specs.Operations.{part_of}
use Rattle.dm_meaning.specs.States.{Task, initials}
use Rattle.dm_meaning.specs.Statements.{part_tasks}
use Rattle.dm_meaning.specs.Values.{At}
use Rattle.dm_program.proofs.InitialLemmas.{initial-counted}
use Rattle.dm_program.specs.Initials.{view_of_initial}
use Rattle.dm_frame.specs.Tasks.{initials_at}

pub parts-first : (table : Table) (at : At) (kind : CType) (n : ℕ) (first : Initial) (rest : List Initial)
    → part_tasks (laid_out table) at kind n (items_of (initials_at table (first ∷ rest))) (expressions_of_items (initials_at table (first ∷ rest)))
    ≡ initials (part_of at n) (inner_type (laid_out table) (bare kind) n) (view_of_initial table first).initialiser (view_of_initial table first).expressions
    ∷ part_tasks (laid_out table) at kind (suc n) (items_of (initials_at table rest)) (expressions_of_items (initials_at table rest))
parts-first table at kind n first rest =
    let one = view_of_initial table first in
    let others = expressions_of_items (initials_at table rest) in
    let count = initial-counted table first in
    let front : take (expressions_in one.initialiser) (one.expressions ++ others) ≡ one.expressions = ap (λ n. take n (one.expressions ++ others)) (sym count) ∙ take-append_seam one.expressions others in
    let back : drop (expressions_in one.initialiser) (one.expressions ++ others) ≡ others = ap (λ n. drop n (one.expressions ++ others)) (sym count) ∙ drop-append_seam one.expressions others in
    ap (λ expressions. initials (part_of at n) (inner_type (laid_out table) (bare kind) n) one.initialiser expressions
    ∷ part_tasks (laid_out table) at kind (suc n) (items_of (initials_at table rest)) (drop (expressions_in one.initialiser) (one.expressions ++ others))) front
    ∙ ap (λ expressions. initials (part_of at n) (inner_type (laid_out table) (bare kind) n) one.initialiser one.expressions
    ∷ part_tasks (laid_out table) at kind (suc n) (items_of (initials_at table rest)) expressions) back
