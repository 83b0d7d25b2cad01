use Rattle.std.proofs.Common.{◌≡◌, ◌++◌, List, map, IsPermutation, ap, ◌∙◌, subst}
use Rattle.std.proofs.lemmas.List.Sorted.{IsNonDecreasingBy-from_sort_by_key}
use Rattle.std.proofs.lemmas.List.{take_all}
use Rattle.std.proofs.Common.{rules}
use Rattle.dm_token.specs.declared.expansion.Expansion.{Expansion}
use Rattle.dm_token.specs.declared.unit.Use.{Use}
use Rattle.dm_unit.specs.Conditions.{number_of_use, use_by}
use Rattle.dm_unit.proofs.condition.in_order.Goals as goal

pub returns : goal.returns
returns c =
    let made = c.args.made.now in
    let all = take_all c.loop-expansion.expansion-index made c.loop-expansion-test.false in
    let uses : c.loop-expansion.uses.items ≡ c.args.asked.items ++ map (use_by c.args.table.now) made =
    c.loop-expansion.invariant ∙ ap (λ (ms : List Expansion). c.args.asked.items ++ map (use_by c.args.table.now) ms) all in (
      subst (λ (us : List Use). IsPermutation us c.sort_by_key.new.self.items) uses c.in_ok-sort_by_key.ensures.permutation,
      IsNonDecreasingBy-from_sort_by_key number_of_use _ c.in_ok-sort_by_key.ensures.sorted (λ a r q k. search rules),
    )
