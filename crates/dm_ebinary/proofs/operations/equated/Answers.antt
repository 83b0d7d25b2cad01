-- One of the two is brought to the type of the other, if they may be compared.
use Rattle.std.specs.Prelude.{Some, option_map}
use Rattle.std.proofs.Common.{ap, sym, ◌∙◌}
use Rattle.dm_typing.specs.Views.{view_over, known_over}
use Rattle.dm_ebinary.specs.Pairs.{equated_by}
use Rattle.dm_typing.proofs.LaterLemmas.{begins-on}
use Rattle.dm_ebinary.proofs.BinaryLemmas.{equated-brought}
use Rattle.dm_ebinary.proofs.operations.equated.Goals as goal

pub returns-in_ok-way-in-Some-clause-way : goal.returns-in_ok-way-in-Some-clause-way
returns-in_ok-way-in-Some-clause-way c = λ later begins.
    let a = view_over later c.args.a.now in
    let b = view_over later c.args.b.now in
    ap Some (c.in_ok-way-in-Some.ensures.way later begins)
    ∙ ap (option_map (equated_by a b)) (c.in-Some.ensures later (begins-on c.args.known.now.types.shapes c.compared.new.known.types.shapes later c.compared.ensures.grows.shapes begins))
    ∙ sym (equated-brought (known_over later c.args.known.now) a b)

pub returns-in-None-clause-way : goal.returns-in-None-clause-way
returns-in-None-clause-way c = λ later begins.
    let a = view_over later c.args.a.now in
    let b = view_over later c.args.b.now in
    ap (option_map (equated_by a b)) (c.in-None.ensures later begins) ∙ sym (equated-brought (known_over later c.args.known.now) a b)
