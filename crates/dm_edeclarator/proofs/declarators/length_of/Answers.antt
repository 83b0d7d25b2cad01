-- A length, which is kept among the trees.
use Rattle.std.specs.Prelude.{ℕ, option_and_then}
use Rattle.std.proofs.Common.{sym, ap, ◌∙◌, subst}
use Rattle.dm_typing.specs.Known.{given}
use Rattle.dm_typing.specs.Conversions.{constant_of}
use Rattle.dm_typing.specs.Typing.{natural}
use Rattle.dm_typing.specs.Views.{Begins, view_over, known_over, source_of}
use Rattle.dm_typing.proofs.GivesLemmas.{found-it, found-none, refused}
use Rattle.dm_edeclarator.proofs.OpenLemmas.{adds-tree}
use Rattle.dm_edeclarator.proofs.declarators.length_of.Goals as goal

pub returns-in-None-clause-gives : goal.returns-in-None-clause-gives
returns-in-None-clause-gives c = λ later begins.
    refused {A = ℕ} (λ length. length) (source_of c.args.typer.now) (known_over later c.args.known.now) _ 5 c.args.here c.broken.result
    (found-none (option_and_then natural (constant_of (known_over later c.args.known.now) (view_over later c.args.tree))) 5 c.args.here _ (sym (c.in-None.ensures.value later begins)))
    c.broken.ensures

pub returns-in_ok-add_constant-in-Some-clause-gives : goal.returns-in_ok-add_constant-in-Some-clause-gives
returns-in_ok-add_constant-in-Some-clause-gives c = λ later begins.
    let old = c.args.known.now in
    let new = c.add_constant.new.known in
    found-it (option_and_then natural (constant_of (known_over later old) (view_over later c.args.tree))) c.in-Some.length 5 c.args.here _
    (sym (c.in-Some.ensures.value later (subst (λ types. Begins types.shapes later) c.add_constant.ensures.rest.types begins)))
    ∙ ap (λ known. given known c.in-Some.length) (sym (adds-tree later old new c.args.tree c.add_constant.ensures.rest c.in_ok-add_constant-in-Some.ensures.constants))
