-- By what is noted of the places, or by the ways.
use Rattle.std.proofs.Common.{◌≡◌, ℕ, Bool, [], Option, Some, drop, length, slice_get, ap, ap₂, subst, ◌∙◌}
use Rattle.std.specs.Option.{option_map_or}
use Rattle.dm_type.specs.Tables.{Table}
use Rattle.dm_tree.specs.Paths.{Path}
use Rattle.dm_tree.specs.declared.unit.CoreUnit.{CoreUnit}
use Rattle.dm_tree.specs.TypeNumbers.{IsTypedUnit}
use Rattle.dm_effect.specs.Sequencing.{is_first}
use Rattle.dm_sites.specs.Seen.{path_of}
use Rattle.dm_sites.specs.Sites.{Site}
use Rattle.dm_beside.specs.Amid.{places_at, run_at}
use Rattle.dm_beside.specs.Evaluation.{is_first_in}
use Rattle.dm_beside.proofs.AmidLemmas.{same-answer}
use Rattle.dm_beside.proofs.amid.NotedArguments.is_first.Goals as goal

abbrev Says : Bool → ℕ → ℕ → Table → Site → Site → CoreUnit → Type 0
Says answer whole part types upper site one =
    IsTypedUnit types one → slice_get (places_at types one) whole ≡ Some upper → slice_get (places_at types one) part ≡ Some site → answer ≡ is_first_in upper site

pub returns-in-Some : goal.returns-in-Some
returns-in-Some c site got =
    let it = c.args.self.now in
    let types = it.types.now in
    let run = run_at types it.sites.now it.run.now in
    let told : Says c.in-Some.answer it.number c.args.argument types run site it.sites.now =
    subst (Says c.in-Some.answer it.number c.args.argument types run site) it.round (c.in-Some.ensures.first types run site) in
    same-answer it.placed c.in-Some.answer (is_first_in run site) (λ placed. told placed.typed placed.there got)

pub returns-in_ok-answer-in-None : goal.returns-in_ok-answer-in-None
returns-in_ok-answer-in-None c site got =
    let it = c.args.self.now in
    let types = it.types.now in
    let run = run_at types it.sites.now it.run.now in
    same-answer it.placed c.in_ok-answer-in-None.answer (is_first_in run site)
    (λ placed.
    c.in_ok-answer-in-None.ensures types
    ∙ ap₂ (λ (at way : Path). is_first (drop (length at) way) run.tree)
    (c.in_ok-at-in-None.ensures types ∙ ap (λ (one : Option Site). option_map_or path_of one []) placed.there)
    (ap (λ (one : Option Site). option_map_or path_of one []) got))
