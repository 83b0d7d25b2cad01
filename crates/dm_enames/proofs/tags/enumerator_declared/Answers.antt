-- The name is new in its scope, int can represent the value, and the name isn't `main` in file scope.
use Rattle.std.specs.Prelude.{ℤ, not, ◌&&◌, bytes_eq, codes}
use Rattle.std.proofs.Common.{rules, ap, sym, subst, ◌∙◌, ◌≡◌, to_z, of_z}
use mir.Syntax.{w32, w128}
use Rattle.dm_int.specs.declared.Kind.TheVariants as k
use Rattle.dm_type.specs.CTypes.{integer}
use Rattle.dm_type.specs.Tables.{Table}
use Rattle.dm_scope.specs.Scopes.{is_declared}
use Rattle.dm_syn.specs.Sources.{spelling_at}
use Rattle.dm_typing.specs.Known.{place_at}
use Rattle.dm_typing.specs.Typing.{is_file_scope, is_int}
use Rattle.dm_typing.specs.Views.{Begins, known_over, source_of, type_over}
use Rattle.dm_typing.proofs.GivesLemmas.{obeyed, disobeyed, refused, given-so, grown}
use Rattle.dm_enames.proofs.IntLemmas.{no-int, some-int}
use Rattle.dm_enames.proofs.TagStepLemmas.{enumerates}
use Rattle.dm_enames.proofs.tags.enumerator_declared.Goals as goal

pub returns-then-is_declared-clause-gives : goal.returns-then-is_declared-clause-gives
returns-then-is_declared-clause-gives c = λ later begins number is.
    let scopes = c.args.known.now.scopes in
    let source = source_of c.args.typer.now in
    refused {A = ℤ} (λ value. value) source (known_over later c.args.known.now) _ 2 c.args.at c.broken.result
    (disobeyed (not (is_declared scopes (spelling_at source c.args.at))) 2 c.args.at _
    (ap (λ name. not (is_declared scopes name)) (sym c.in_ok-name.ensures) ∙ ap not (sym c.is_declared.ensures ∙ c.if-is_declared.true)))
    c.broken.ensures

pub returns-in_default-clause-gives : goal.returns-in_default-clause-gives
returns-in_default-clause-gives c = λ later begins number is.
    let scopes = c.args.known.now.scopes in
    let source = source_of c.args.typer.now in
    let name = spelling_at source c.args.at in
    refused {A = ℤ} (λ value. value) source (known_over later c.args.known.now) _ 7 c.args.at c.broken-in_default.result
    (obeyed (not (is_declared scopes name)) 2 c.args.at _
    (ap (λ x. not (is_declared scopes x)) (sym c.in_ok-name.ensures) ∙ ap not (sym c.is_declared.ensures ∙ c.if-is_declared.false))
    ∙ disobeyed (is_int number) 7 c.args.at _ (no-int number (sym c.in_default.is ∙ is)))
    c.broken-in_default.ensures

pub returns-then-is_main_in_file-clause-gives : goal.returns-then-is_main_in_file-clause-gives
returns-then-is_main_in_file-clause-gives c = λ later begins number is.
    let scopes = c.args.known.now.scopes in
    let source = source_of c.args.typer.now in
    let name = spelling_at source c.args.at in
    let known = some-int c.in-Some.value number (sym c.in-Some.is ∙ is) in
    refused {A = ℤ} (λ value. value) source (known_over later c.args.known.now) _ 36 c.args.at c.broken-then-is_main_in_file.result
    (obeyed (not (is_declared scopes name)) 2 c.args.at _
    (ap (λ x. not (is_declared scopes x)) (sym c.in_ok-name.ensures) ∙ ap not (sym c.is_declared.ensures ∙ c.if-is_declared.false))
    ∙ obeyed (is_int number) 7 c.args.at _ known.0
    ∙ disobeyed (not (is_file_scope scopes && bytes_eq name (codes "main"))) 36 c.args.at _
    (ap (λ x. not (is_file_scope scopes && bytes_eq x (codes "main"))) (sym c.in_ok-name.ensures) ∙ ap not (sym c.is_main_in_file.ensures ∙ c.if-is_main_in_file.true)))
    c.broken-then-is_main_in_file.ensures

pub returns-clause-gives : goal.returns-clause-gives
returns-clause-gives c = λ later begins number is.
    let old = c.args.known.now in
    let mid = c.intern.new.self in
    let scopes = old.scopes in
    let source = source_of c.args.typer.now in
    let name = spelling_at source c.args.at in
    let known = some-int c.in-Some.value number (sym c.in-Some.is ∙ is) in
    let value : to_z w128 (of_z w128 c.from.result) ≡ c.in-Some.value = search rules in
    let back : to_z w32 (of_z w32 c.in-Some.value) ≡ c.in-Some.value = search rules in
    obeyed (not (is_declared scopes name)) 2 c.args.at _
    (ap (λ x. not (is_declared scopes x)) (sym c.in_ok-name.ensures) ∙ ap not (sym c.is_declared.ensures ∙ c.if-is_declared.false))
    ∙ obeyed (is_int number) 7 c.args.at _ known.0
    ∙ obeyed (not (is_file_scope scopes && bytes_eq name (codes "main"))) 36 c.args.at _
    (ap (λ x. not (is_file_scope scopes && bytes_eq x (codes "main"))) (sym c.in_ok-name.ensures) ∙ ap not (sym c.is_main_in_file.ensures ∙ c.if-is_main_in_file.false))
    ∙ given-so {A = ℤ} _ (known_over later c.declare.new.known) number (to_z w32 (of_z w32 c.in-Some.value))
    (enumerates (known_over later old) (known_over later mid) (known_over later c.declare.new.known) c.in_ok-key.key c.in_ok-name.name name number (to_z w128 (of_z w128 c.from.result))
    (type_over later c.in_ok-kind.kind) (integer k.Int) c.place.result (place_at source c.args.at)
    (grown later old mid c.intern.ensures.grows) (c.in_ok-key.ensures ∙ c.in_ok-name.ensures) c.in_ok-name.ensures (value ∙ known.1)
    (c.in_ok-kind.ensures.number.1 later (subst (λ (table : Table). Begins table.shapes later) c.declare.ensures.types begins)) c.place.ensures (c.in_ok-declare.ensures.declared later))
    (sym (back ∙ known.1))
