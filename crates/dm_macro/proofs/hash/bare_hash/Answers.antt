use Rattle.std.proofs.Common.{ap, sym, ◌∙◌, bytes_eq, None, option_map}
use Rattle.std.specs.List.{list_any}
use Rattle.std.specs.Option.{option_map_or}
use Rattle.dm_macro.specs.Signs.{is_hash}
use Rattle.dm_macro.specs.Forms.{is_parameter, hash_not_before}
use Rattle.dm_macro.specs.NameSets.{has_name}
use Rattle.dm_macro.proofs.HashLemmas.{no_hash, set_tells}
use Rattle.dm_macro.proofs.hash.bare_hash.Goals as goal

pub returns-in-Some : goal.returns-in-Some
returns-in-Some c =
    let definition = c.args.definition.now in
    let none = ap (list_any is_hash) (sym c.items-body.ensures) ∙ sym c.has_hash.ensures ∙ c.if-not-has_hash.true in
    sym (
    ap (λ parameters. option_map (λ token. token.place) (option_map_or (λ names. hash_not_before (is_parameter (λ name. list_any (bytes_eq name) names) definition.variadic) definition.body) parameters None)) c.in-Some.is
    ∙ ap (option_map (λ token. token.place)) (no_hash _ definition.body none)
    )

pub returns-in_ok-set-in-Some-2 : goal.returns-in_ok-set-in-Some-2
returns-in_ok-set-in-Some-2 c =
    let definition = c.args.definition.now in
    let same = set_tells c.in-Some-2.names c.in_ok-set-in-Some-2.set definition.variadic definition.body (λ name. c.in_ok-set-in-Some-2.ensures name ∙ ap (list_any (bytes_eq name)) c.items.ensures) in
    c.first_bare_hash.ensures
    ∙ ap (λ body. option_map (λ token. token.place) (hash_not_before (is_parameter (has_name c.in_ok-set-in-Some-2.set) definition.variadic) body)) c.items-body.ensures
    ∙ ap (option_map (λ token. token.place)) same
    ∙ sym (ap (λ parameters. option_map (λ token. token.place) (option_map_or (λ names. hash_not_before (is_parameter (λ name. list_any (bytes_eq name) names) definition.variadic) definition.body) parameters None)) c.in-Some-2.is)
