-- The first place of a name, or the number of names.
use Rattle.std.proofs.Common.{ℕ, List, length, unwrap_or, bytes_eq, Option, ap, ◌∙◌}
use Rattle.std.specs.List.{position_or_len}
use Rattle.dm_project.proofs.UnitLemmas.{first-or-next}
use Rattle.dm_project.proofs.units.number_in.Goals as goal

pub returns : goal.returns
returns c =
    let names = c.names-names.result.now in
    c.unwrap_or.ensures ∙ ap (λ (at : Option ℕ). unwrap_or at (length names)) c.position_of.ensures ∙ first-or-next (bytes_eq c.args.name.now) names
    ∙ ap (λ (these : List (List ℕ)). position_or_len (bytes_eq c.args.name.now) these) c.names-names.ensures.names
