-- There is another parameter behind the first.
use Rattle.std.proofs.Common.{◌≡◌, ◌∷◌, map, rules, ap, ◌∙◌}
use Rattle.dm_type.specs.Alike.{match_as_parameters}
use Rattle.dm_type.specs.CTypes.{all_of, more_types, no_types}
use Rattle.dm_primitive.proofs.TypeLemmas.{never-one}
use Rattle.dm_primitive.proofs.primitive.only.Goals as goal

pub returns-in-Some : goal.returns-in-Some
returns-in-Some c =
    let second = c.in-Some.field-0.0 in
    let others = c.in-Some.field-0.1 in
    let is : c.args.parameters.now ≡ c.in_ok-parameter.parameter.now ∷ c.in_ok-parameter.others.now = search rules in
    let behind : c.in_ok-parameter.others.now ≡ second.now ∷ others.now = search rules in
    λ types type.
    ap (λ all. match_as_parameters (all_of (map types all)) (more_types type no_types)) (is ∙ ap (λ rest. c.in_ok-parameter.parameter.now ∷ rest) behind)
    ∙ never-one types c.in_ok-parameter.parameter.now second.now others.now type
