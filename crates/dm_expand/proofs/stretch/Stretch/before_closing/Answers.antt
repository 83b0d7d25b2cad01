use Rattle.std.proofs.Common.{List, sym, ap, ◌∙◌, arith}
use Rattle.dm_parentheses.specs.Parentheses.{before_closing}
use Rattle.dm_expand.specs.declared.stretch.Shared as code_shared
use Rattle.dm_expand.specs.Items.{Item}
use Rattle.dm_expand.specs.Shares.{signs_of}
use Rattle.dm_expand.proofs.ShareLemmas.{within, closing-looked_up, within-past, within-inside}
use Rattle.dm_expand.proofs.stretch.Stretch.before_closing.Goals as goal

pub returns-in_default-closing : goal.returns-in_default-closing
returns-in_default-closing c =
    let is = c.self.invariant in
    let all = closing-looked_up c.self.inside.shared.value.items.items c.self.inside.shared.value.ends c.in-Some.ends c.self.inside.first c.self.inside.after c.closing.result is.ordered is.signs (sym (ap (λ (shared : code_shared.Shared). shared.ends) c.as_ref.ensures) ∙ c.in-Some.is) c.closing.ensures in
    sym (ap (λ (xs : List Item). before_closing 0 (signs_of xs)) (sym c.self.view_is) ∙ all ∙ ap (within c.self.inside.first c.self.inside.after) c.in_default-closing.is)

pub returns-then-closing-self : goal.returns-then-closing-self
returns-then-closing-self c =
    let is = c.self.invariant in
    let all = closing-looked_up c.self.inside.shared.value.items.items c.self.inside.shared.value.ends c.in-Some.ends c.self.inside.first c.self.inside.after c.closing.result is.ordered is.signs (sym (ap (λ (shared : code_shared.Shared). shared.ends) c.as_ref.ensures) ∙ c.in-Some.is) c.closing.ensures in
    sym (ap (λ (xs : List Item). before_closing 0 (signs_of xs)) (sym c.self.view_is) ∙ all ∙ ap (within c.self.inside.first c.self.inside.after) c.in-Some-closing.is
    ∙ within-inside c.self.inside.first c.self.inside.after c.in-Some-closing.closing c.if-closing-self.true)

pub returns-else-closing-self : goal.returns-else-closing-self
returns-else-closing-self c =
    let is = c.self.invariant in
    let all = closing-looked_up c.self.inside.shared.value.items.items c.self.inside.shared.value.ends c.in-Some.ends c.self.inside.first c.self.inside.after c.closing.result is.ordered is.signs (sym (ap (λ (shared : code_shared.Shared). shared.ends) c.as_ref.ensures) ∙ c.in-Some.is) c.closing.ensures in
    sym (ap (λ (xs : List Item). before_closing 0 (signs_of xs)) (sym c.self.view_is) ∙ all ∙ ap (within c.self.inside.first c.self.inside.after) c.in-Some-closing.is
    ∙ within-past c.self.inside.first c.self.inside.after c.in-Some-closing.closing (omega (arith, c.if-closing-self.false)))
