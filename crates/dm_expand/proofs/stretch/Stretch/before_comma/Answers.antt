use Rattle.std.proofs.Common.{◌≡◌, ◌-◌, ◌<◌, ℕ, List, Some, get_or, sym, ap, ◌∙◌, arith}
use Rattle.std.proofs.lemmas.Bool.{lt-ltb}
use Rattle.std.proofs.lemmas.List.{length-map}
use Rattle.dm_parentheses.specs.Parentheses.{before_end}
use Rattle.dm_parentheses.proofs.ParenthesesLemmas.{before_end-inside}
use Rattle.dm_expand.specs.declared.stretch.Shared as code_shared
use Rattle.dm_expand.specs.Items.{Item}
use Rattle.dm_expand.specs.Arguments.{separated}
use Rattle.dm_expand.specs.Shares.{sign_of, signs_of}
use Rattle.dm_expand.proofs.ShareLemmas.{within, end-looked_up, within-past, within-inside}
use Rattle.dm_expand.proofs.StretchLemmas.{separated-found, separated-nowhere, separated-no_left}
use Rattle.dm_expand.proofs.stretch.Stretch.before_comma.Goals as goal

pub returns-then-left-eq0 : goal.returns-then-left-eq0
returns-then-left-eq0 c = ap (λ n. separated n 0 c.args.self.now) c.if-left-eq0.true ∙ separated-no_left 0 c.args.self.now

pub returns-in_default-end : goal.returns-in_default-end
returns-in_default-end c =
    let is = c.self.invariant in
    let all = end-looked_up c.self.inside.shared.value.items.items c.self.inside.shared.value.ends c.in-Some.ends c.self.inside.first c.self.inside.after c.end.result is.ordered is.signs (sym (ap (λ (shared : code_shared.Shared). shared.ends) c.as_ref.ensures) ∙ c.in-Some.is) c.end.ensures in
    separated-nowhere c.args.left 0 c.args.self.now
    (ap (λ (xs : List Item). before_end 0 (signs_of xs)) (sym c.self.view_is) ∙ all ∙ ap (within c.self.inside.first c.self.inside.after) c.in_default-end.is)

pub returns-then-self-end : goal.returns-then-self-end
returns-then-self-end c =
    let is = c.self.invariant in
    let all = end-looked_up c.self.inside.shared.value.items.items c.self.inside.shared.value.ends c.in-Some.ends c.self.inside.first c.self.inside.after c.end.result is.ordered is.signs (sym (ap (λ (shared : code_shared.Shared). shared.ends) c.as_ref.ensures) ∙ c.in-Some.is) c.end.ensures in
    separated-nowhere c.args.left 0 c.args.self.now
    (ap (λ (xs : List Item). before_end 0 (signs_of xs)) (sym c.self.view_is) ∙ all ∙ ap (within c.self.inside.first c.self.inside.after) c.in-Some-end.is
    ∙ within-past c.self.inside.first c.self.inside.after c.in-Some-end.end c.if-self-end.true)

pub returns-then-separates : goal.returns-then-separates
returns-then-separates c =
    let is = c.self.invariant in
    let first : ℕ = c.self.inside.first in
    let after : ℕ = c.self.inside.after in
    let items : List Item = c.self.inside.shared.value.items.items in
    let all = end-looked_up items c.self.inside.shared.value.ends c.in-Some.ends first after c.end.result is.ordered is.signs (sym (ap (λ (shared : code_shared.Shared). shared.ends) c.as_ref.ensures) ∙ c.in-Some.is) c.end.ensures in
    let below : c.in-Some-end.end < after = omega (arith, c.if-self-end.false) in
    let found : before_end 0 (signs_of c.args.self.now) ≡ Some (c.in-Some-end.end - first) =
    ap (λ (xs : List Item). before_end 0 (signs_of xs)) (sym c.self.view_is) ∙ all ∙ ap (within first after) c.in-Some-end.is ∙ within-inside first after c.in-Some-end.end below in (
      omega (arith, before_end-inside 0 (signs_of c.args.self.now) (c.in-Some-end.end - first) found, length-map c.args.self.now sign_of),
      separated-found c.args.left 0 c.args.self.now (c.in-Some-end.end - first) c.index-items-count.result found
          (c.index-items-count.is ∙ ap (λ (xs : List Item). get_or xs (c.in-Some-end.end - first) c.index-items-count.result) c.items-items.ensures) (sym c.if-separates.ensures) (lt-ltb 0 c.args.left (omega (arith, c.if-left-eq0.false))),
    )
