use Rattle.std.proofs.Common.{take, ap, ◌∙◌}
use Rattle.dm_tree.specs.Views.{view_of_unit}
use Rattle.dm_names.specs.Declarations.{structs_in}
use Rattle.dm_names.proofs.LookupLemmas.{visible-some, visible-none}
use Rattle.dm_names.proofs.names.Names.visible.Goals as goal

pub returns-in-Some : goal.returns-in-Some
returns-in-Some c = λ types tokens syntax unit names.
    let one = view_of_unit types unit in
    c.front.ensures
    ∙ ap (take c.in-Some.end.now) c.items-in-Some.ensures
    ∙ visible-some one c.args.self.now.shown c.args.self.now.structs c.items.result.now c.args.externals c.in-Some.end.now (c.items.ensures ∙ names.ends) names.structs
    c.in-Some.ensures.lookup.3.0 c.in-Some.ensures.lookup.1
    ∙ ap (λ all. structs_in one (take c.args.externals all)) names.shown

pub returns-in-None : goal.returns-in-None
returns-in-None c = λ types tokens syntax unit names.
    let one = view_of_unit types unit in
    c.items-in-None.ensures
    ∙ names.structs
    ∙ visible-none one c.args.self.now.shown c.items.result.now c.args.externals (c.items.ensures ∙ names.ends) c.in-None.ensures.lookup.3
    ∙ ap (λ all. structs_in one (take c.args.externals all)) names.shown
