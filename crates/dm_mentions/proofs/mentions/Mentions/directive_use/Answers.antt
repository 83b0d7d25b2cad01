-- The map has the position of the first one that is the name.
use Rattle.std.proofs.Common.{◌≡◌, ◌-◌, length, Some, slice_get, sym, ap, ◌∙◌, arith}
use Rattle.std.specs.Prelude.{option_map}
use Rattle.std.proofs.lemmas.Option.{get_or_from_slice_get}
use Rattle.dm_token.specs.declared.unit.Use.{Use}
use Rattle.dm_mentions.specs.Mentions.{is_use}
use Rattle.dm_mentions.proofs.FindLemmas.{first-at, none-there}
use Rattle.dm_mentions.proofs.mentions.Mentions.directive_use.Goals as goal

pub returns-in_err-at : goal.returns-in_err-at
returns-in_err-at c =
    let name = c.args.name.now in
    c.from_residual.ensures
    ∙ sym (ap (option_map (λ (one : Use). one.place)) (none-there (is_use name) 0 c.args.self.now.pp.now.directive_uses (sym (c.args.self.now.finds_uses name) ∙ sym c.get.ensures ∙ c.in_err-at.was)).found)

pub bounds-items-at : goal.bounds-items-at
bounds-items-at c =
    let name = c.args.name.now in
    let first = first-at (is_use name) 0 c.args.self.now.pp.now.directive_uses c.in_ok-at.at (sym (c.args.self.now.finds_uses name) ∙ sym c.get.ensures ∙ c.in_ok-at.was) in
    let all = ap length c.items.ensures in
    omega (arith, first.inside, all)

pub bounds-items-at-in_ok-at : goal.bounds-items-at-in_ok-at
bounds-items-at-in_ok-at c =
    let name = c.args.name.now in
    let first = first-at (is_use name) 0 c.args.self.now.pp.now.directive_uses c.in_ok-at.at (sym (c.args.self.now.finds_uses name) ∙ sym c.get.ensures ∙ c.in_ok-at.was) in
    let all = ap length c.items.ensures in
    omega (arith, first.inside, all)

pub returns : goal.returns
returns c =
    let name = c.args.name.now in
    let at = c.in_ok-at.at in
    let items = c.args.self.now.pp.now.directive_uses in
    let first = first-at (is_use name) 0 items at (sym (c.args.self.now.finds_uses name) ∙ sym c.get.ensures ∙ c.in_ok-at.was) in
    let same : at - 0 ≡ at = omega arith in
    let there : slice_get c.items.result.now at ≡ Some first.thing = ap (λ all. slice_get all at) c.items.ensures ∙ ap (slice_get items) (sym same) ∙ first.there in
    ap (λ (one : Use). Some ((λ (one : Use). one.place) one)) (get_or_from_slice_get c.items.result.now at first.thing c.index-items-at.result there)
    ∙ sym (ap (option_map (λ (one : Use). one.place)) first.found)
