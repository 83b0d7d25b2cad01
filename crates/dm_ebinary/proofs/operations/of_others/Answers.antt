-- By what the operator may do with such operands.
use Rattle.std.proofs.Common.{ap, sym, ◌∙◌}
use Rattle.dm_typing.specs.Views.{view_over, known_over}
use Rattle.dm_ebinary.specs.Pairs.{by_family}
use Rattle.dm_ebinary.proofs.BinaryLemmas.{families-decide}
use Rattle.dm_ebinary.proofs.operations.of_others.Goals as goal

pub returns-in-Sum-clause-way : goal.returns-in-Sum-clause-way
returns-in-Sum-clause-way c = λ later begins.
    let known = known_over later c.args.known.now in
    let a = view_over later c.args.a.now in
    let b = view_over later c.args.b.now in
    c.added.ensures.way later begins ∙ ap (by_family known a b) c.in-Sum.ensures ∙ sym (families-decide known c.args.op a b)

pub returns-in_ok-found-in-Difference-clause-way : goal.returns-in_ok-found-in-Difference-clause-way
returns-in_ok-found-in-Difference-clause-way c = λ later begins.
    let known = known_over later c.args.known.now in
    let a = view_over later c.args.a.now in
    let b = view_over later c.args.b.now in
    c.in_ok-found-in-Difference.ensures.way later begins ∙ ap (by_family known a b) c.in-Difference.ensures ∙ sym (families-decide known c.args.op a b)

pub returns-in_ok-found-in-Order-clause-way : goal.returns-in_ok-found-in-Order-clause-way
returns-in_ok-found-in-Order-clause-way c = λ later begins.
    let known = known_over later c.args.known.now in
    let a = view_over later c.args.a.now in
    let b = view_over later c.args.b.now in
    c.in_ok-found-in-Order.ensures.way later begins ∙ ap (by_family known a b) c.in-Order.ensures ∙ sym (families-decide known c.args.op a b)

pub returns-in_ok-found-in-Equality-clause-way : goal.returns-in_ok-found-in-Equality-clause-way
returns-in_ok-found-in-Equality-clause-way c = λ later begins.
    let known = known_over later c.args.known.now in
    let a = view_over later c.args.a.now in
    let b = view_over later c.args.b.now in
    c.in_ok-found-in-Equality.ensures.way later begins ∙ ap (by_family known a b) c.in-Equality.ensures ∙ sym (families-decide known c.args.op a b)

pub returns-in-Integers-clause-way : goal.returns-in-Integers-clause-way
returns-in-Integers-clause-way c = λ later begins.
    let known = known_over later c.args.known.now in
    let a = view_over later c.args.a.now in
    let b = view_over later c.args.b.now in
    ap (by_family known a b) c.in-Integers.ensures ∙ sym (families-decide known c.args.op a b)
