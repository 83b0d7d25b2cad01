-- Those of each kind together.
use Rattle.std.proofs.Common.{◌≡◌, ℕ, ◌+◌, Bor, Option, List, [], ◌++◌, map, length, length-append, ap, ◌∙◌, arith}
use Rattle.std.specs.Option.{option_copied}
use Rattle.std.specs.Prelude.{option_map}
use Rattle.std.proofs.lemmas.List.{length-map}
use Rattle.dm_type.specs.Tables.{Table}
use Rattle.dm_tree.specs.declared.tree.Core.{Core}
use Rattle.dm_tree.specs.declared.tree.Local.{Local}
use Rattle.dm_tree.specs.Trees.{Tree}
use Rattle.dm_tree.specs.Views.{view, view_of_local, expressions_of_locals, if_there}
use Rattle.dm_around.proofs.parts.count_parts.Goals as goal

together : (a b c d e f : List Tree) (i j k l n : ℕ) → i ≡ length a → j ≡ length b → k ≡ length c → l ≡ length d → length e ≡ n → f ≡ []
    → i + j + k + l + n ≡ length (a ++ (b ++ (c ++ (d ++ (e ++ f)))))
together a b c d e f i j k l n one two three four five none =
    let first = length-append a (b ++ (c ++ (d ++ (e ++ f)))) in
    let second = length-append b (c ++ (d ++ (e ++ f))) in
    let third = length-append c (d ++ (e ++ f)) in
    let fourth = length-append d (e ++ f) in
    let fifth = length-append e f in
    let sixth = ap (λ (them : List Tree). length them) none in
    omega (arith, first, second, third, fourth, fifth, sixth, one, two, three, four, five)

abbrev single : Table → Option (Bor Core) → List Tree
single types found = if_there (option_map (view types) (option_copied found))

pub returns : goal.returns
returns c types is =
    let parts = c.parts_of-parts.result in
    together (single types parts.first) (single types parts.second) (single types parts.third) (single types parts.fourth) (map (view types) parts.items.now) (expressions_of_locals (map (view_of_local types) parts.locals.now))
    c.count.result c.count-2.result c.count-3.result c.count-4.result (length parts.items.now) (c.count.ensures.same types) (c.count-2.ensures.same types) (c.count-3.ensures.same types) (c.count-4.ensures.same types)
    (length-map parts.items.now (view types)) (ap (λ (locals : List Local). expressions_of_locals (map (view_of_local types) locals)) (c.parts_of-parts.ensures.expression types is))
    ∙ ap (λ (them : List Tree). length them) (c.parts_of-parts.ensures.same types)
