-- What the tag means decides.
use Rattle.std.specs.Prelude.{◌≡◌, ℕ, option_map}
use Rattle.std.proofs.Common.{ap, sym, ◌∙◌}
use Rattle.dm_type.specs.CTypes.{struct}
use Rattle.dm_typing.specs.Known.{given}
use Rattle.dm_typing.specs.Typing.{struct_named}
use Rattle.dm_typing.specs.Views.{known_over, source_of, setting_of, type_over, Gives}
use Rattle.dm_typing.proofs.GivesLemmas.{given-so}
use Rattle.dm_enames.proofs.TagStepLemmas.{by-found, by-nothing}
use Rattle.dm_enames.proofs.tags.struct_named.Goals as goal

pub returns-in-Some-clause-gives : goal.returns-in-Some-clause-gives
returns-in-Some-clause-gives c = λ later begins found is.
    let known = known_over later c.args.known.now in
    by-found (λ it. Gives {A = ℕ} (type_over later) (source_of c.args.typer.now) known c.struct_meant.result (struct_named (setting_of c.args.typer.now) known c.args.span c.args.tag it))
    found (type_over later c.in-Some.kind) (ap (option_map (type_over later)) (sym c.in-Some.is) ∙ is) (λ entry same. c.struct_meant.ensures.gives later begins entry same c.args.tag)

pub returns-in_ok-made-in-None-clause-gives : goal.returns-in_ok-made-in-None-clause-gives
returns-in_ok-made-in-None-clause-gives c = λ later begins found is.
    let known = known_over later c.args.known.now in
    let new = known_over later c.new_struct.new.known in
    by-nothing (λ it. struct_named (setting_of c.args.typer.now) known c.args.span c.args.tag it ≡ given new (type_over later c.in_ok-made-in-None.made.1)) found (ap (option_map (type_over later)) (sym c.in-None.is) ∙ is)
    (given-so _ new _ _ (sym (c.in_ok-made-in-None.ensures.known later begins))
    (sym (c.in_ok-made-in-None.ensures.kind later begins ∙ ap struct c.in_ok-made-in-None.ensures.number)))
