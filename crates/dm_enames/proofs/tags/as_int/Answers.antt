-- It fits int or it doesn't.
use Rattle.std.proofs.Common.{rules, ap, ◌∙◌, ◌≡◌, ℤ, to_z, of_z}
use mir.Syntax.{w128}
use Rattle.dm_enames.specs.Tags.{if_int}
use Rattle.dm_enames.proofs.IntLemmas.{from-ok}
use Rattle.dm_enames.proofs.tags.as_int.Goals as goal

pub returns : goal.returns
returns c =
    let value : ℤ = to_z w128 (of_z w128 c.args.value) in
    let same : to_z w128 (of_z w128 c.args.value) ≡ c.args.value = search rules in
    c.ok.ensures.value ∙ (from-ok c.try_from.result value c.try_from.ensures ∙ ap if_int same)
