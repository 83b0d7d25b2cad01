-- By the entry of the object.
use Rattle.std.proofs.Common.{◌≡◌, true, ◌&&◌, Option, ap, sym, ◌∙◌, rules}
use Rattle.dm_tree.specs.declared.unit.CoreUnit.{CoreUnit}
use Rattle.dm_tree.specs.Scenes.{is_integer}
use Rattle.dm_tree.specs.Units.{Declaration}
use Rattle.dm_tree.specs.Views.{view, view_of_declared, view_of_unit}
use Rattle.dm_effect.specs.Safe.{is_set_entry, is_set_sort}
use Rattle.dm_stable.proofs.set.KnownNames.pass.Goals as goal

pub returns-then-is_integer : goal.returns-then-is_integer
returns-then-is_integer c =
    let types = c.args.self.now.types.now in
    let one = view_of_unit types c.args.self.now.unit.now in
    let argument = view types c.args.self.now.argument.now in
    let entry : Declaration = view_of_declared types c.in-Some.entry.now in
    let same : c.args.self.now.objects.now ≡ c.args.self.now.unit.now = search rules in
    let integer : is_integer entry.kind ≡ true = sym c.is_integer.ensures ∙ c.if-is_integer.true in
    (c.is_known_set.ensures types ∙ ap (λ (unit : CoreUnit). is_set_sort (view_of_unit types unit) argument c.args.object entry.sort) same)
    ∙ sym (ap (λ (found : Option Declaration). is_set_entry one argument c.args.object found) (sym (c.in-Some.ensures.entry types))
    ∙ ap (λ b. b && is_set_sort one argument c.args.object entry.sort) integer)
