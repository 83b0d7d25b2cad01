-- By what the operand points to, if it is a pointer.
use Rattle.std.specs.Prelude.{◌||◌}
use Rattle.std.proofs.Common.{ap, sym, ◌∙◌}
use Rattle.dm_typing.specs.Conversions.{is_null}
use Rattle.dm_typing.specs.Views.{type_over, view_over, known_over}
use Rattle.dm_eunary.proofs.UnaryLemmas.{becomes-some, becomes-none}
use Rattle.dm_eunary.proofs.cast.may_be_pointer.Goals as goal

pub returns-then-are_convertible : goal.returns-then-are_convertible
returns-then-are_convertible c = λ later begins.
    let null = is_null (known_over later c.args.known.now) (view_over later c.args.operand.now) in
    c.if-are_convertible.true ∙ ap (λ b. b || null) (sym (sym c.are_convertible.ensures ∙ c.if-are_convertible.true))
    ∙ becomes-some c.args.known.now later c.args.operand.now c.args.to c.in-Some.from begins c.requires.operand c.requires.target c.in-Some.ensures.numbered c.in-Some.ensures.target

pub returns-else-are_convertible : goal.returns-else-are_convertible
returns-else-are_convertible c = λ later begins.
    let null = is_null (known_over later c.args.known.now) (view_over later c.args.operand.now) in
    c.is_null-null.ensures later begins ∙ ap (λ b. b || null) (sym (sym c.are_convertible.ensures ∙ c.if-are_convertible.false))
    ∙ becomes-some c.args.known.now later c.args.operand.now c.args.to c.in-Some.from begins c.requires.operand c.requires.target c.in-Some.ensures.numbered c.in-Some.ensures.target

pub returns-in-None : goal.returns-in-None
returns-in-None c = λ later begins.
    c.is_null-null.ensures later begins
    ∙ becomes-none c.args.known.now later c.args.operand.now (type_over later c.args.to) begins c.requires.operand c.in-None.ensures.target
