-- The definition of a number is the one that the table has.
use Rattle.std.proofs.Common.{◌≡◌, ℕ, None, Some, Option, slice_get, option_map, rules, subst, sym, ap, ◌∙◌}
use Rattle.std.specs.Option.{MatchOption, IfSome}
use Rattle.dm_meaning.specs.Programs as programs
use Rattle.dm_program.specs.declared.function.Function.{Function}
use Rattle.dm_program.specs.Functions.{view_of_function, FunctionFits, in_place}
use Rattle.dm_program.specs.Sources.{Source, meant}
use Rattle.dm_program.proofs.ProgramLemmas.{function-found}
use Rattle.dm_program.proofs.program.Program.function.Goals as goal

abbrev Is : Option Function → ℕ → Source → Type 0
Is result d source = MatchOption result (programs.definition_of (meant source) d ≡ None)
    (λ one. (programs.definition_of (meant source) d ≡ Some (view_of_function source.table one)) × FunctionFits source one)

pub returns-in-Some : goal.returns-in-Some
returns-in-Some c =
    let source : Source = record { table = c.self.inside.layout; unit = c.self.inside.unit.now } in
    let at : slice_get c.self.inside.functions.items c.args.number ≡ Some c.in-Some.function.now = search rules in
    let here = ap in_place at in
    subst (Is c.in-Some.function.now c.args.number) c.self.view_is
    (function-found source c.args.number c.in-Some.function.now
    (ap (option_map (view_of_function source.table)) (sym here) ∙ c.self.invariant.definitions.same c.args.number)
    (subst (λ one. IfSome one (FunctionFits source)) here (c.self.invariant.definitions.fit c.args.number)))

pub returns-in-None : goal.returns-in-None
returns-in-None c =
    let source : Source = record { table = c.self.inside.layout; unit = c.self.inside.unit.now } in
    let at : slice_get c.self.inside.functions.items c.args.number ≡ None = search rules in
    let here = ap in_place at in
    subst (Is None c.args.number) c.self.view_is
    (sym (c.self.invariant.definitions.same c.args.number) ∙ ap (option_map (view_of_function source.table)) here)
