-- Each part has the form too, and its types are numbered.
use Rattle.std.proofs.Common.{ap, ap₂, sym, ◌∙◌, subst, rules}
use Rattle.std.specs.Prelude.{◌≡◌, ◌||◌, ◌&&◌, false}
use Rattle.dm_tree.specs.declared.tree.Core as q
use Rattle.dm_tree.specs.declared.tree.Core.{out-Core}
use Rattle.dm_tree.specs.Constants.{constant_value}
use Rattle.dm_tree.specs.Opened.{is_constant_view}
use Rattle.dm_tree.specs.Views.{view, opened_form}
use Rattle.dm_typing.specs.Views.{seen}
use Rattle.dm_edecl.specs.Initialising.{has_comma, is_nonzero, is_zero}
use Rattle.dm_einitial.proofs.ConstantLemmas.{IsFine, form-is, part-Convert, part-Unary, parts-Binary, parts-Both, parts-Either, parts-Choose, comma-Both, comma-Either, comma-Choose}
use Rattle.dm_einitial.proofs.constants.+evaluate.Goals as goal

pub evaluate-requires : goal.evaluate-requires
evaluate-requires t c = (
  search (rules, q.the_lemmas),
  subst (IsFine c.args.known.now.types) (sym c.get.ensures) (part-Convert c.args.known.now.types c.args.core.now c.requires.numbered c.requires.form c.in-Convert.a c.in-Convert.field-1 c.in-Convert.is),
)

pub evaluate-requires-in-Unary : goal.evaluate-requires-in-Unary
evaluate-requires-in-Unary t c = (
  search (rules, q.the_lemmas),
  subst (IsFine c.args.known.now.types) (sym c.get-in-Unary-2.ensures) (part-Unary c.args.known.now.types c.args.core.now c.requires.numbered c.requires.form c.in-Unary.sign c.in-Unary.a c.in-Unary.is),
)

pub evaluate-left-requires : goal.evaluate-left-requires
evaluate-left-requires t c = (
  search (rules, q.the_lemmas),
  subst (IsFine c.args.known.now.types) (sym c.get-in-Binary.ensures) (parts-Binary c.args.known.now.types c.args.core.now c.requires.numbered c.requires.form c.in-Binary.op c.in-Binary.a c.in-Binary.b c.in-Binary.is).0,
)

pub evaluate-right-requires : goal.evaluate-right-requires
evaluate-right-requires t c = (
  search (rules, q.the_lemmas),
  subst (IsFine c.args.known.now.types) (sym c.get-in-Binary-2.ensures) (parts-Binary c.args.known.now.types c.args.core.now c.requires.numbered c.requires.form c.in-Binary.op c.in-Binary.a c.in-Binary.b c.in-Binary.is).1,
)

pub evaluate-requires-in-Both : goal.evaluate-requires-in-Both
evaluate-requires-in-Both t c = (
  search (rules, q.the_lemmas),
  subst (IsFine c.args.known.now.types) (sym c.get-in-Both.ensures) (parts-Both c.args.known.now.types c.args.core.now c.requires.numbered c.requires.form c.in-Both.a c.in-Both.b c.in-Both.is).0,
)

pub evaluate-requires-in-Both-2 : goal.evaluate-requires-in-Both-2
evaluate-requires-in-Both-2 t c = (
  search (rules, q.the_lemmas),
  subst (IsFine c.args.known.now.types) (sym c.get-in-Both-2.ensures) (parts-Both c.args.known.now.types c.args.core.now c.requires.numbered c.requires.form c.in-Both.a c.in-Both.b c.in-Both.is).1,
)

pub evaluate-requires-in-Either : goal.evaluate-requires-in-Either
evaluate-requires-in-Either t c = (
  search (rules, q.the_lemmas),
  subst (IsFine c.args.known.now.types) (sym c.get-in-Either.ensures) (parts-Either c.args.known.now.types c.args.core.now c.requires.numbered c.requires.form c.in-Either.a c.in-Either.b c.in-Either.is).0,
)

pub evaluate-requires-in-Either-2 : goal.evaluate-requires-in-Either-2
evaluate-requires-in-Either-2 t c = (
  search (rules, q.the_lemmas),
  subst (IsFine c.args.known.now.types) (sym c.get-in-Either-2.ensures) (parts-Either c.args.known.now.types c.args.core.now c.requires.numbered c.requires.form c.in-Either.a c.in-Either.b c.in-Either.is).1,
)

pub evaluate-condition-requires : goal.evaluate-condition-requires
evaluate-condition-requires t c = (
  search (rules, q.the_lemmas),
  subst (IsFine c.args.known.now.types) (sym c.get-in-Choose.ensures) (parts-Choose c.args.known.now.types c.args.core.now c.requires.numbered c.requires.form c.in-Choose.a c.in-Choose.b c.in-Choose.c c.in-Choose.is).0,
)

pub evaluate-first-requires : goal.evaluate-first-requires
evaluate-first-requires t c = (
  search (rules, q.the_lemmas),
  subst (IsFine c.args.known.now.types) (sym c.get-in-Choose-2.ensures) (parts-Choose c.args.known.now.types c.args.core.now c.requires.numbered c.requires.form c.in-Choose.a c.in-Choose.b c.in-Choose.c c.in-Choose.is).1,
)

pub evaluate-second-requires : goal.evaluate-second-requires
evaluate-second-requires t c = (
  search (rules, q.the_lemmas),
  subst (IsFine c.args.known.now.types) (sym c.get-in-Choose-3.ensures) (parts-Choose c.args.known.now.types c.args.core.now c.requires.numbered c.requires.form c.in-Choose.a c.in-Choose.b c.in-Choose.c c.in-Choose.is).2,
)

pub returns-in-Both-clause-comma : goal.returns-in-Both-clause-comma
returns-in-Both-clause-comma t c =
    let held = c.args.known.now in
    c.both.ensures.comma
    ∙ ap₂ (λ x y. x || y) (c.evaluate-in-Both.ensures.comma ∙ ap (λ x. has_comma (seen held) (view held.types x)) c.get-in-Both.ensures)
    (ap₂ (λ x y. x && y) (ap is_nonzero (c.evaluate-in-Both.ensures.value ∙ ap (λ x. constant_value (seen held).types (seen held).declared (view held.types x)) c.get-in-Both.ensures))
    (c.evaluate-in-Both-2.ensures.comma ∙ ap (λ x. has_comma (seen held) (view held.types x)) c.get-in-Both-2.ensures))
    ∙ sym (comma-Both (seen held) held.types c.args.core.now c.in-Both.a c.in-Both.b c.in-Both.is)

pub returns-in-Either-clause-comma : goal.returns-in-Either-clause-comma
returns-in-Either-clause-comma t c =
    let held = c.args.known.now in
    c.either.ensures.comma
    ∙ ap₂ (λ x y. x || y) (c.evaluate-in-Either.ensures.comma ∙ ap (λ x. has_comma (seen held) (view held.types x)) c.get-in-Either.ensures)
    (ap₂ (λ x y. x && y) (ap is_zero (c.evaluate-in-Either.ensures.value ∙ ap (λ x. constant_value (seen held).types (seen held).declared (view held.types x)) c.get-in-Either.ensures))
    (c.evaluate-in-Either-2.ensures.comma ∙ ap (λ x. has_comma (seen held) (view held.types x)) c.get-in-Either-2.ensures))
    ∙ sym (comma-Either (seen held) held.types c.args.core.now c.in-Either.a c.in-Either.b c.in-Either.is)

pub returns-in-Choose-clause-comma : goal.returns-in-Choose-clause-comma
returns-in-Choose-clause-comma t c =
    let held = c.args.known.now in
    let value = c.evaluate-condition.ensures.value ∙ ap (λ x. constant_value (seen held).types (seen held).declared (view held.types x)) c.get-in-Choose.ensures in
    c.chosen.ensures.comma
    ∙ ap₂ (λ x y. x || y)
    (ap₂ (λ x y. x || y) (c.evaluate-condition.ensures.comma ∙ ap (λ x. has_comma (seen held) (view held.types x)) c.get-in-Choose.ensures)
    (ap₂ (λ x y. x && y) (ap is_nonzero value) (c.evaluate-first.ensures.comma ∙ ap (λ x. has_comma (seen held) (view held.types x)) c.get-in-Choose-2.ensures)))
    (ap₂ (λ x y. x && y) (ap is_zero value) (c.evaluate-second.ensures.comma ∙ ap (λ x. has_comma (seen held) (view held.types x)) c.get-in-Choose-3.ensures))
    ∙ sym (comma-Choose (seen held) held.types c.args.core.now c.in-Choose.a c.in-Choose.b c.in-Choose.c c.in-Choose.is)

pub returns-in_default : goal.returns-in_default
returns-in_default t c =
    let types = c.args.known.now.types in
    let none : is_constant_view (opened_form types (out-Core c.args.core.now).form) ≡ false = search (rules, q.the_lemmas) in
    let some = form-is types c.args.core.now c.requires.numbered c.requires.form in
    absurd (cc)
