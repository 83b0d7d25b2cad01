use Rattle.std.proofs.Common.{◌++◌, List, map, drop, sym, ap, ◌∙◌}
use Rattle.std.specs.List.{filter_map}
use Rattle.std.proofs.lemmas.List.{append-nil}
use Rattle.dm_token.specs.declared.token.PpToken.{PpToken}
use Rattle.dm_unit.specs.Conditions.{items, token_for, use_for}
use Rattle.dm_unit.proofs.ConditionLemmas.{items-empty, tokens-more, uses-more}
use Rattle.dm_unit.proofs.condition.replace_defined.Goals as goal

pub loop-first-preserved : goal.loop-first-preserved
loop-first-preserved c =
    let table = c.args.table.now in
    let first = c.in-Some.first.now in
    let others = c.in-Some.others.now in
    let taken = c.in_ok-more.ensures in
    let left = c.split_at.ensures.back ∙ ap (λ n. drop n others) taken.more_is in
    let before = c.loop-first.replaced in (
      ap (λ (rest : List PpToken). c.take_item.new.replaced.tokens.items ++ map (token_for table) (items 0 rest)) left
          ∙ tokens-more table first others before.tokens.items c.take_item.new.replaced.tokens.items taken.tokens_are
          ∙ ap (λ (rest : List PpToken). before.tokens.items ++ map (token_for table) (items 0 rest)) (sym c.in-Some.ensures.cases.0)
          ∙ c.loop-first.invariant.0,
      ap (λ (rest : List PpToken). c.take_item.new.replaced.uses.items ++ filter_map (use_for table) (items 0 rest)) left
          ∙ uses-more table first others before.uses.items c.take_item.new.replaced.uses.items taken.uses_are
          ∙ ap (λ (rest : List PpToken). before.uses.items ++ filter_map (use_for table) (items 0 rest)) (sym c.in-Some.ensures.cases.0)
          ∙ c.loop-first.invariant.1,
    )

pub returns-clause-tokens : goal.returns-clause-tokens
returns-clause-tokens c =
    let tokens = c.loop-first.replaced.tokens.items in
    sym (append-nil tokens) ∙ ap (λ rest. tokens ++ map (token_for c.args.table.now) rest) (sym (items-empty c.loop-first.rest.now c.in_default.ensures.cases)) ∙ c.loop-first.invariant.0

pub returns-clause-uses : goal.returns-clause-uses
returns-clause-uses c =
    let uses = c.loop-first.replaced.uses.items in
    sym (append-nil uses) ∙ ap (λ rest. uses ++ filter_map (use_for c.args.table.now) rest) (sym (items-empty c.loop-first.rest.now c.in_default.ensures.cases)) ∙ c.loop-first.invariant.1
