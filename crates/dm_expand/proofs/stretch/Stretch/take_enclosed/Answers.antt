use Rattle.std.proofs.Common.{◌≡◌, ◌≤◌, ℕ, List, Some, length, sym, ap, ◌∙◌, arith}
use Rattle.std.proofs.lemmas.List.{length-map}
use Rattle.dm_parentheses.specs.Parentheses.{before_closing}
use Rattle.dm_parentheses.proofs.ParenthesesLemmas.{before_closing-inside}
use Rattle.dm_expand.specs.Items.{Item}
use Rattle.dm_expand.specs.Shares.{sign_of, signs_of}
use Rattle.dm_expand.proofs.ArgumentLemmas.{next-is, next-nothing}
use Rattle.dm_expand.proofs.StretchLemmas.{enclosed-found, enclosed-inside, enclosed-nowhere}
use Rattle.dm_expand.proofs.stretch.Stretch.take_enclosed.Goals as goal

inside : (items : List Item) (i : ℕ) → before_closing 0 (signs_of items) ≡ Some i → i ≤ length items
inside items i found = omega (arith, before_closing-inside 0 (signs_of items) i found, length-map items sign_of)

pub returns-in_default-clause-found : goal.returns-in_default-clause-found
returns-in_default-clause-found c = enclosed-nowhere 0 c.args.self.now (sym c.before_closing.ensures ∙ c.in_default.is)

pub front-requires : goal.front-requires
front-requires c = inside c.args.self.now c.in-Some.count (sym c.before_closing.ensures ∙ c.in-Some.is)

pub skip-requires : goal.skip-requires
skip-requires c = inside c.args.self.now c.in-Some.count (sym c.before_closing.ensures ∙ c.in-Some.is)

pub returns-in_default-2-clause-found : goal.returns-in_default-2-clause-found
returns-in_default-2-clause-found c =
    absurd (enclosed-inside 0 c.args.self.now c.in-Some.count (sym c.before_closing.ensures ∙ c.in-Some.is)
    (sym c.skip.ensures ∙ (next-nothing c.in_ok-closing.field-0 c.skip.new.self c.next.new.self c.in_ok-closing.ensures.next c.in_default-2.is).0))

pub returns-clause-found : goal.returns-clause-found
returns-clause-found c =
    let rest : List Item = c.next.new.self in
    let closing : Item = c.in-Some-2.closing in
    enclosed-found 0 c.args.self.now c.in-Some.count closing rest (sym c.before_closing.ensures ∙ c.in-Some.is)
    (sym c.skip.ensures ∙ next-is c.in_ok-closing.field-0 closing c.skip.new.self rest c.in_ok-closing.ensures.next c.in-Some-2.is)
    ∙ ap (λ (xs : List Item). Some (record { inside = xs; closing = closing; rest = rest })) (sym c.in_ok-inside.ensures)
