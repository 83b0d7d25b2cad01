-- One more stands behind the others of its definition.
use Rattle.std.proofs.Common.{◌++◌, ◌∷◌, [], cond, take, ap, ◌∙◌}
use Rattle.std.proofs.lemmas.List.{take_all}
use Rattle.dm_token.specs.declared.expansion.Expansion.{Expansion}
use Rattle.dm_runs.specs.Spans.{positions}
use Rattle.dm_rules.specs.Listing.{is_expansion_at}
use Rattle.dm_rules.proofs.ListLemmas.{more-positions}
use Rattle.dm_rules.proofs.listing.expansions.Goals as goal

pub loop-number-preserved : goal.loop-number-preserved
loop-number-preserved c = λ file hash.
    let test = λ (one : Expansion). is_expansion_at file hash c.args.read.now one in
    let i = c.loop-number.number in
    c.in_ok-found.ensures file hash
    ∙ ap (λ found. found ++ cond (test c.index-expansions-number.result) (i ∷ []) []) (c.loop-number.invariant file hash)
    ∙ ap (λ one. positions test 0 (take i c.args.expansions.now) ++ cond (test one) (i ∷ []) []) c.index-expansions-number.is
    ∙ more-positions test c.args.expansions.now i c.index-expansions-number.result c.loop-number-test.true

pub returns : goal.returns
returns c = λ file hash.
    c.loop-number.invariant file hash
    ∙ ap (positions (λ (one : Expansion). is_expansion_at file hash c.args.read.now one) 0) (take_all c.loop-number.number c.args.expansions.now c.loop-number-test.false)
