use Rattle.std.proofs.Common.{sym, ap, ◌∙◌}
use Rattle.std.proofs.lemmas.List.{drop_all}
use Rattle.dm_macro.specs.ParameterLists.{is_read_from}
use Rattle.dm_macro.proofs.Listings.{kinds_of, reading_decides, reading_stops}
use Rattle.dm_macro.proofs.parameters.is_parameter_list.Goals as goal

pub returns-in-None : goal.returns-in-None
returns-in-None c =
    let stops = reading_stops c.args.tokens.now c.loop-token.token-index c.token-item.result c.loop-token.expected c.loop-token-test.true c.token-item.is (sym c.after.ensures ∙ c.in-None.is) in
    reading_decides _ _ (c.loop-token.invariant ∙ stops)

pub returns : goal.returns
returns c =
    let ended = drop_all c.loop-token.token-index c.args.tokens.now c.loop-token-test.false in
    reading_decides _ _ (c.loop-token.invariant ∙ ap (λ rest. is_read_from c.loop-token.expected (kinds_of rest)) ended ∙ sym c.may_end.ensures)
