-- The struct of the type, if it may have members.
use Rattle.std.specs.Prelude.{Some}
use Rattle.std.proofs.Common.{ap, sym, ◌∙◌}
use Rattle.dm_type.specs.Tables.{type_of}
use Rattle.dm_enames.specs.Tags.{struct_at}
use Rattle.dm_typing.specs.Typing.{beginning}
use Rattle.dm_typing.specs.Views.{known_over, seen}
use Rattle.dm_typing.proofs.LaterLemmas.{type-later}
use Rattle.dm_enames.proofs.TagStepLemmas.{struct-begun-later, struct-of}
use Rattle.dm_enames.proofs.tags.begin_again.Goals as goal

pub returns-in_ok-begin-in-Some-clause-known : goal.returns-in_ok-begin-in-Some-clause-known
returns-in_ok-begin-in-Some-clause-known c = λ later begins entry is.
    let old = c.args.known.now in
    c.in_ok-begin-in-Some.ensures.known later
    ∙ ap (beginning (known_over later old)) (sym (struct-begun-later old later c.args.kind entry begins c.requires is ∙ sym c.in-Some.ensures.number))

pub returns-in_ok-begin-in-Some-clause-kind : goal.returns-in_ok-begin-in-Some-clause-kind
returns-in_ok-begin-in-Some-clause-kind c = λ later begins entry is.
    let old = c.args.known.now in
    ap Some (type-later old.types.shapes later c.args.kind begins c.requires ∙ struct-of (seen old) (type_of old.types c.args.kind) c.in-Some.number c.in-Some.ensures.number)
    ∙ ap struct_at (sym (struct-begun-later old later c.args.kind entry begins c.requires is ∙ sym c.in-Some.ensures.number))

pub returns-in-None-clause-known : goal.returns-in-None-clause-known
returns-in-None-clause-known c = λ later begins entry is.
    let old = c.args.known.now in
    ap (beginning (known_over later old)) (sym (struct-begun-later old later c.args.kind entry begins c.requires is ∙ sym c.in-None.ensures.number))

pub returns-in-None-clause-kind : goal.returns-in-None-clause-kind
returns-in-None-clause-kind c = λ later begins entry is.
    ap struct_at (sym (struct-begun-later c.args.known.now later c.args.kind entry begins c.requires is ∙ sym c.in-None.ensures.number))
