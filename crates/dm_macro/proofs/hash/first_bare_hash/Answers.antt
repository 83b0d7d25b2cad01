use Rattle.std.proofs.Common.{ap, sym, ◌∙◌, option_map}
use Rattle.dm_macro.specs.Forms.{is_parameter}
use Rattle.dm_macro.specs.NameSets.{has_name}
use Rattle.dm_macro.proofs.HashLemmas.{stops_there, goes_on_other, goes_on_parameter}
use Rattle.dm_macro.proofs.hash.first_bare_hash.Goals as goal
use Rattle.dm_macro.proofs.hash.first_bare_hash.Goals.{else-is_hash-via-then-is_hash+else-not-stands_parameter, else-is_hash-via-else-is_hash}

pub returns-then-not-stands_parameter : goal.returns-then-not-stands_parameter
returns-then-not-stands_parameter c =
    let test = is_parameter (has_name c.args.names.now) c.args.variadic in
    let stops = stops_there test c.args.body.now c.loop-index.index c.index-body-index.result c.loop-index-test.true c.index-body-index.is
    (sym c.is_hash.ensures ∙ c.if-is_hash.true) (sym c.stands_parameter.ensures ∙ c.if-not-stands_parameter.true) in
    sym (ap (option_map (λ token. token.place)) (c.loop-index.invariant ∙ stops))

pub loop-index-preserved : goal.loop-index-preserved
loop-index-preserved c =
    let test = is_parameter (has_name c.args.names.now) c.args.variadic in
    elim c.else-is_hash.branch [
      | else-is_hash-via-then-is_hash+else-not-stands_parameter w ↦
          c.loop-index.invariant
          ∙ goes_on_parameter test c.args.body.now c.loop-index.index c.index-body-index.result c.loop-index-test.true c.index-body-index.is
          (sym w.stands_parameter.ensures ∙ w.if-not-stands_parameter.false)
      | else-is_hash-via-else-is_hash w ↦
          c.loop-index.invariant
          ∙ goes_on_other test c.args.body.now c.loop-index.index c.index-body-index.result c.loop-index-test.true c.index-body-index.is
          (sym c.is_hash.ensures ∙ w.if-is_hash.false)
    ]
