-- The struct is added, and then its tag is declared.
use Rattle.std.specs.Prelude.{length}
use Rattle.std.proofs.Common.{ap, sym, subst, ◌∙◌}
use Rattle.dm_type.specs.CTypes.{struct}
use Rattle.dm_type.specs.Tables.{Table, IsId}
use Rattle.dm_scope.specs.Scopes.{Scopes}
use Rattle.dm_enames.specs.Tags.{is_tag_inside, with_new}
use Rattle.dm_typing.specs.Typing.{tag_declared}
use Rattle.dm_typing.specs.Views.{Begins, known_over, setting_of}
use Rattle.dm_enames.proofs.TagStepLemmas.{unopened-same}
use Rattle.dm_enames.proofs.tags.new_struct.Goals as goal

pub tag_declared-requires-clause-new : goal.tag_declared-requires-clause-new
tag_declared-requires-clause-new c =
    ap (λ (scopes : Scopes). is_tag_inside (setting_of c.args.typer.now) scopes c.args.tag) c.add_struct.ensures.scopes ∙ c.requires.new

pub returns-clause-known : goal.returns-clause-known
returns-clause-known c = λ later begins.
    let setting = setting_of c.args.typer.now in
    let old = c.args.known.now in
    let tag = c.args.tag in
    let begins-before = subst (λ (table : Table). Begins table.shapes later) c.tag_declared.ensures.types begins in
    c.in_ok-tag_declared.ensures.declared later
    ∙ ap (λ type. tag_declared setting (known_over later c.add_struct.new.known) tag type)
    (c.in_ok-made.ensures.kind.1 later begins-before ∙ ap struct c.in_ok-made.ensures.number)
    ∙ ap (λ known. tag_declared setting known tag (struct (length old.types.structs)))
    (c.in_ok-made.ensures.known later ∙ ap (with_new (known_over later old)) c.in_ok-name.ensures)

pub returns-clause-kind : goal.returns-clause-kind
returns-clause-kind c = λ later begins. c.in_ok-made.ensures.kind.1 later (subst (λ (table : Table). Begins table.shapes later) c.tag_declared.ensures.types begins)

pub returns-clause-numbered : goal.returns-clause-numbered
returns-clause-numbered c = subst (λ (table : Table). IsId table c.in_ok-made.made.1) (sym c.tag_declared.ensures.types) c.in_ok-made.ensures.kind.0

pub returns-clause-unopened : goal.returns-clause-unopened
returns-clause-unopened c =
    unopened-same c.add_struct.new.known c.tag_declared.new.known c.in_ok-made.made.0 c.tag_declared.ensures.types c.tag_declared.ensures.begun c.in_ok-made.ensures.unopened

pub returns-clause-shapes : goal.returns-clause-shapes
returns-clause-shapes c = subst (λ (table : Table). Begins c.args.known.now.types.shapes table.shapes) (sym c.tag_declared.ensures.types) c.add_struct.ensures.shapes
