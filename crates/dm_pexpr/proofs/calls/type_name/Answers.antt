use Rattle.std.proofs.Common.{◌≡◌, true, false, [], sym, ap, ◌∙◌, subst}
use Rattle.dm_token.specs.Limits.{greatest_height}
use Rattle.dm_syn.specs.Sources.{symbol_in}
use Rattle.dm_pexpr.specs.Parsing.{lower, type_name_of}
use Rattle.dm_pexpr.specs.Parts.{Gives, a_type_name}
use Rattle.dm_pexpr.specs.Answers.{source_with}
use Rattle.dm_pexpr.specs.Readings.{closes_type_name}
use Rattle.dm_pexpr.proofs.PartLemmas.{part-of}
use Rattle.dm_pexpr.proofs.ReadExprs.{nothing-of}
use Rattle.dm_pexpr.proofs.Wholes.{name-given, name-the-one, name-open, name-none, name-high}
use Rattle.dm_pexpr.proofs.calls.type_name.Goals as goal
use Rattle.dm_pexpr.proofs.calls.type_name.Goals.{else-name-le-GREATEST_HEIGHT-via-then-name-le-GREATEST_HEIGHT+else-closes_type_name, else-name-le-GREATEST_HEIGHT-via-else-name-le-GREATEST_HEIGHT}

pub returns-in_default-clause-only : goal.returns-in_default-clause-only
returns-in_default-clause-only c =
    let s = source_with c.args.tokens.now c.args.typedefs.now in
    let given = subst (λ ns. Gives (a_type_name s) s ns c.type_name.new.scope c.in_ok-name.field-0 (type_name_of s (lower s greatest_height) ns c.args.at)) c.new-scope.ensures c.in_ok-name.ensures in
    λ it is. name-none s c.args.at it (nothing-of (a_type_name s) s [] c.type_name.new.scope c.in_ok-name.field-0 _ c.in_default.is given) is

pub returns-then-closes_type_name-clause-found : goal.returns-then-closes_type_name-clause-found
returns-then-closes_type_name-clause-found c =
    let s = source_with c.args.tokens.now c.args.typedefs.now in
    let given = subst (λ ns. Gives (a_type_name s) s ns c.type_name.new.scope c.in_ok-name.field-0 (type_name_of s (lower s greatest_height) ns c.args.at)) c.new-scope.ensures c.in_ok-name.ensures in
    let k = part-of (a_type_name s) s [] c.type_name.new.scope c.in_ok-name.field-0 c.in-Some.name _ c.in-Some.is given in
    name-given s c.type_name.new.scope c.args.at c.in-Some.name k c.if-name-le-GREATEST_HEIGHT.true (ap closes_type_name (sym c.symbol.ensures.value) ∙ sym c.closes_type_name.ensures ∙ c.if-closes_type_name.true)

pub returns-then-closes_type_name-clause-only : goal.returns-then-closes_type_name-clause-only
returns-then-closes_type_name-clause-only c =
    let s = source_with c.args.tokens.now c.args.typedefs.now in
    let given = subst (λ ns. Gives (a_type_name s) s ns c.type_name.new.scope c.in_ok-name.field-0 (type_name_of s (lower s greatest_height) ns c.args.at)) c.new-scope.ensures c.in_ok-name.ensures in
    let k = part-of (a_type_name s) s [] c.type_name.new.scope c.in_ok-name.field-0 c.in-Some.name _ c.in-Some.is given in
    λ it is. name-the-one s c.type_name.new.scope c.args.at c.in-Some.name it k c.if-name-le-GREATEST_HEIGHT.true (ap closes_type_name (sym c.symbol.ensures.value) ∙ sym c.closes_type_name.ensures ∙ c.if-closes_type_name.true) is

pub returns-clause-only : goal.returns-clause-only
returns-clause-only c =
    let s = source_with c.args.tokens.now c.args.typedefs.now in
    let given = subst (λ ns. Gives (a_type_name s) s ns c.type_name.new.scope c.in_ok-name.field-0 (type_name_of s (lower s greatest_height) ns c.args.at)) c.new-scope.ensures c.in_ok-name.ensures in
    let k = part-of (a_type_name s) s [] c.type_name.new.scope c.in_ok-name.field-0 c.in-Some.name _ c.in-Some.is given in
    λ it is.
    elim c.else-name-le-GREATEST_HEIGHT.branch [
      | else-name-le-GREATEST_HEIGHT-via-then-name-le-GREATEST_HEIGHT+else-closes_type_name w ↦ name-open s c.type_name.new.scope c.args.at c.in-Some.name it k (ap closes_type_name (sym w.symbol.ensures.value) ∙ sym w.closes_type_name.ensures ∙ w.if-closes_type_name.false) is
      | else-name-le-GREATEST_HEIGHT-via-else-name-le-GREATEST_HEIGHT w ↦ name-high s c.type_name.new.scope c.args.at c.in-Some.name it k w.if-name-le-GREATEST_HEIGHT.false is
    ]
