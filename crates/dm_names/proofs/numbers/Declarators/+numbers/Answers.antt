-- The parts of a `for` that are there stand one behind the other.
use Rattle.std.specs.Prelude.{option_map}
use Rattle.std.proofs.Common.{ap, ◌∙◌}
use Rattle.dm_tree.specs.Trees.{trees}
use Rattle.dm_tree.specs.Views.{view, if_there}
use Rattle.dm_names.specs.Declarations.{numbers_in, numbers_in_all}
use Rattle.dm_names.proofs.NumberLemmas.{behind-for, on-ok}
use Rattle.dm_names.proofs.numbers.Declarators.+numbers.Goals as goal

pub inside-returns-in_ok-inside_part-in-For-3 : goal.inside-returns-in_ok-inside_part-in-For-3
inside-returns-in_ok-inside_part-in-For-3 t c =
    let types = c.args.self.now.types.now in
    let first = c.in_ok-inside_part-in-For.ensures in
    let second = c.in_ok-inside_part-in-For-2.ensures in
    let third = c.in_ok-inside_part-in-For-3.ensures in
    on-ok c.inside-in-For.result
    (λ is. is
    ∙ ap (λ body. numbers_in c.inside_part-in-For-3.new.all (view types body)) c.get-in-For.ensures
    ∙ ap (λ all. numbers_in all (view types c.in-For.body)) (third
    ∙ ap (λ all. numbers_in_all all (trees (if_there (option_map (view types) c.in-For.step)))) (second
    ∙ ap (λ all. numbers_in_all all (trees (if_there (option_map (view types) c.in-For.condition)))) first))
    ∙ behind-for types c.args.tree.now c.args.all.now c.in-For.start c.in-For.condition c.in-For.step c.in-For.body c.in-For.is)
    c.inside-in-For.ensures
