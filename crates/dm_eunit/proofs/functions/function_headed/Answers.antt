-- The declarator is typed, and its lengths and enumerator values taken out.
use Rattle.std.specs.Prelude.{refl}
use Rattle.std.proofs.Common.{sym, ◌∙◌, subst}
use Rattle.dm_syn.specs.Views as syntax
use Rattle.dm_type.specs.Tables.{Table}
use Rattle.dm_typing.specs.Views.{source_of, setting_of}
use Rattle.dm_estanding.specs.Kinds.{HaveKinds, WereTypes}
use Rattle.dm_estanding.proofs.ProceedingLemmas.{relays}
use Rattle.dm_eunit.specs.Functions.{external_over, ExternalFits}
use Rattle.dm_eunit.proofs.FunctionLemmas.{kinds-later, changes-later, headed-whole, heading-fails, joined-trees, headed-made}
use Rattle.dm_eunit.proofs.functions.function_headed.Goals as goal

pub returns-in_err-heading : goal.returns-in_err-heading
returns-in_err-heading c =
    let setting = setting_of c.args.typer.now in
    let d = syntax.declarator c.args.declarator.now in
    let body = syntax.stmt c.args.body.now in
    relays ExternalFits external_over (source_of c.args.typer.now) c.args.standing.now _
    (headed-whole setting c.args.said.now c.args.span c.args.constants d body c.args.standing.now) c.from_residual.result c.in_err-heading.field-0.0 c.from_residual.ensures.1
    (heading-fails setting c.args.said.now c.args.span c.args.constants d body c.args.standing.now _ c.in_err-heading.field-0.0 c.in_err-heading.ensures)

pub invariant_of-standing-2 : goal.invariant_of-standing-2
invariant_of-standing-2 c =
    let now = c.args.standing.now in
    let typed = c.typed_heading.new.known in
    let same = sym c.replace_constants-more.ensures.rest.types in record {
      kinds = subst (λ (types : Table). HaveKinds types now.links) same (kinds-later now.known.types typed.types now.links c.in_ok-heading.ensures.shapes now.kinds);
      before = subst (λ (types : Table). WereTypes types now.retyped.items) same (changes-later now.known.types typed.types now.retyped.items c.in_ok-heading.ensures.shapes now.before);
    }

pub function_defined-requires-clause-trees : goal.function_defined-requires-clause-trees
function_defined-requires-clause-trees c =
    let is = c.replace_constants-more.ensures in
    joined-trees c.args.standing.now.known c.typed_heading.new.known c.replace_constants-more.new.known c.args.constants c.replace_constants-more.result c.in_ok-all.all
    c.in_ok-heading.ensures.shapes is.rest.types is.before c.in_ok-all.ensures c.requires.trees

pub returns : goal.returns
returns c =
    let is = c.replace_constants-more.ensures in
    headed-made (setting_of c.args.typer.now) c.args.said.now c.args.span c.args.constants (syntax.declarator c.args.declarator.now) (syntax.stmt c.args.body.now) c.args.standing.now
    c.typed_heading.new.known _ c.in_ok-heading.heading c.replace_constants-more.result c.in_ok-all.all c.in_ok-heading.ensures is.rest (is.constants ∙ c.new.ensures) is.before refl refl c.in_ok-all.ensures
    c.function_defined.new.standing c.function_defined.result c.function_defined.ensures
