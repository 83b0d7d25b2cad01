-- The initialiser completes the type.
use Rattle.std.specs.Prelude.{◌||◌, not, [], refl}
use Rattle.std.proofs.Common.{sym, ap, ◌∙◌}
use Rattle.dm_syn.specs.Views as syntax
use Rattle.dm_tree.specs.Initialisers.{is_object, is_function_sort}
use Rattle.dm_tree.specs.Typing.{has_linkage}
use Rattle.dm_typing.specs.Known.{Known}
use Rattle.dm_typing.specs.Typing.{is_file_scope}
use Rattle.dm_typing.specs.Views.{type_over, known_over, source_of, setting_of}
use Rattle.dm_edecl.specs.Declaring.{may_be_initialised, initialised}
use Rattle.dm_edeclaration.specs.Steps.{IsNamed, bare_over, LocalFits}
use Rattle.dm_edeclaration.proofs.ItemLemmas.{where-proceeds, where-starves, alone-whole, alone-left, starts-by, completed-made}
use Rattle.dm_edeclaration.proofs.initialised.initialised.Goals as goal

pub returns-then-not-may_be_initialised : goal.returns-then-not-may_be_initialised
returns-then-not-may_be_initialised c = λ entry means.
    let setting = setting_of c.args.typer.now in
    let source = source_of c.args.typer.now in
    let now = c.args.standing.now in
    let object = c.args.object.now in
    let one = syntax.initialiser c.args.initialiser.now in
    where-proceeds (IsNamed entry object.number) LocalFits bare_over source now c.misplaced.new.standing
    (λ later s. initialised setting s entry object.number c.args.span object.here object.at (type_over later c.args.kind) one)
    (alone-whole setting source c.args.span one now now)
    (λ later s stands. alone-left setting source entry object.number c.args.span object.here object.at one s (type_over later c.args.kind)
    (ap (λ (it : Known). may_be_initialised it entry) stands.known ∙ sym (c.may_be_initialised.ensures later entry means) ∙ c.if-not-may_be_initialised.true))
    c.misplaced.result c.misplaced.ensures

pub returns-in_err-whole : goal.returns-in_err-whole
returns-in_err-whole c = λ entry means.
    let object = c.args.object.now in
    where-starves (IsNamed entry object.number) LocalFits bare_over (source_of c.args.typer.now) c.args.standing.now _
    (λ later s. initialised (setting_of c.args.typer.now) s entry object.number c.args.span object.here object.at (type_over later c.args.kind) (syntax.initialiser c.args.initialiser.now))
    c.from_residual.result c.completed.ensures.grows.shapes c.from_residual.ensures.1

pub returns : goal.returns
returns c = λ entry means.
    let now = c.args.standing.now in
    let object = c.args.object.now in
    let known = known_over [] now.known in
    let may = sym (c.may_be_initialised.ensures [] entry means) ∙ c.if-not-may_be_initialised.false in
    completed-made (setting_of c.args.typer.now) (source_of c.args.typer.now) entry object.number c.args.span object.here object.at (syntax.initialiser c.args.initialiser.now) (IsNamed entry object.number)
    now _ c.object_initialised.new.standing c.args.kind c.in_ok-whole.whole c.object_initialised.result
    (λ later s stands. ap (λ (it : Known). may_be_initialised it entry) stands.known ∙ sym (c.may_be_initialised.ensures later entry means) ∙ c.if-not-may_be_initialised.false)
    c.completed.ensures.grows refl refl c.in_ok-whole.ensures.kind
    (c.object_initialised.ensures entry means (starts-by (is_function_sort entry.sort) (is_object entry.sort) (is_file_scope known.scopes || not (has_linkage entry.linkage)) may))
