-- The innermost struct gets its members.
use Rattle.std.specs.Prelude.{◌≡◌, ℕ, true, not, [], ◌∷◌, IfSome, is_some, option_map, reverse, Some, Err, refl}
use Rattle.std.proofs.Common.{ap, sym, subst, ◌∙◌}
use Rattle.dm_type.specs.CTypes.{struct}
use Rattle.dm_type.specs.Layouts.{contained, struct_layout, size_of}
use Rattle.dm_type.specs.Tables.{Table, IsId, type_of, with_content}
use Rattle.dm_typing.specs.Known.{given}
use Rattle.dm_typing.specs.Typing.{struct_ended}
use Rattle.dm_typing.specs.Views.{Begins, known_over, table_over, source_of, type_over, Gives}
use Rattle.dm_typing.proofs.GivesLemmas.{obeyed, disobeyed, refused, given-so}
use Rattle.dm_typing.proofs.LaterLemmas.{type-later}
use Rattle.dm_enames.specs.Tags.{ended, fields_over}
use Rattle.dm_enames.proofs.TagStepLemmas.{by-number, by-no-number, struct-numbered, struct-ends-any, sized}
use Rattle.dm_enames.proofs.tags.struct_ended.Goals as goal

pub returns-in_default-clause-gives : goal.returns-in_default-clause-gives
returns-in_default-clause-gives c = λ later begins at outer is inside.
    let known = known_over later c.args.known.now in
    by-no-number (λ it. Gives {A = ℕ} (type_over later) (source_of c.args.typer.now) known (Err c.broken.result) (struct_ended known c.args.span it outer (fields_over later c.args.members))) at
    (ap (option_map (type_over later)) (sym c.in_default.is) ∙ is)
    (refused {A = ℕ} (type_over later) (source_of c.args.typer.now) known _ 4 c.args.span.first c.broken.result refl c.broken.ensures)

pub returns-then-is_none-clause-gives : goal.returns-then-is_none-clause-gives
returns-then-is_none-clause-gives c = λ later begins at outer is inside.
    let old = c.args.known.now in
    let new = c.end_struct.new.known in
    let span = c.args.span in
    let members = c.args.members in
    let kind = c.in-Some.kind in
    let number = c.in-Some-number_if_struct.number in
    let found = c.in-Some-number_if_struct.ensures in
    let known = known_over later old in
    let begins-before : Begins old.types.shapes later = subst (λ (types : Table). Begins types.shapes later) c.end_struct.ensures.types begins in
    let is-struct : type_of old.types kind ≡ struct number = struct-numbered (type_of old.types kind) number found.number in
    let struct-later : type_over later kind ≡ struct number =
    type-later old.types.shapes later kind begins-before (subst (λ begun. IfSome begun (IsId old.types)) c.in-Some.is c.requires.kind) ∙ is-struct in
    let some : members ≡ [] → ⊥ = λ e. let yes : c.is_empty.result ≡ true = c.is_empty.ensures.1 e in let no = c.if-is_empty.false in absurd (cc) in
    let sized-now : is_some (struct_layout old.types members) ≡ is_some c.size.result =
    sym (sized old.types number members found.below)
    ∙ ap is_some (ap (size_of (with_content old.types number (contained old.types members))) (sym is-struct)
    ∙ (ap (λ (types : Table). size_of types (type_of types kind)) (sym c.end_struct.ensures.types) ∙ sym c.size.ensures.size)) in
    by-number (λ it. IfSome it (λ n. reverse old.begun.items ≡ n ∷ outer)
    → Gives {A = ℕ} (type_over later) (source_of c.args.typer.now) (known_over later new) (Err c.broken-then-is_none.result) (struct_ended known span it outer (fields_over later members)))
    at number (ap Some (sym struct-later) ∙ (ap (option_map (type_over later)) (sym c.in-Some.is) ∙ is))
    (λ here. refused {A = ℕ} (type_over later) (source_of c.args.typer.now) (known_over later new) _ 5 span.first c.broken-then-is_none.result
    (struct-ends-any later old span number outer members some begins-before found.distinct c.requires.members
    ∙ disobeyed (is_some (struct_layout old.types members)) 5 span.first _ (sized-now ∙ (c.is_none.ensures ∙ ap not c.if-is_none.true)))
    c.broken-then-is_none.ensures)
    inside

pub returns-clause-gives : goal.returns-clause-gives
returns-clause-gives c = λ later begins at outer is inside.
    let old = c.args.known.now in
    let new = c.end_struct.new.known in
    let span = c.args.span in
    let members = c.args.members in
    let kind = c.in-Some.kind in
    let number = c.in-Some-number_if_struct.number in
    let found = c.in-Some-number_if_struct.ensures in
    let known = known_over later old in
    let begins-before : Begins old.types.shapes later = subst (λ (types : Table). Begins types.shapes later) c.end_struct.ensures.types begins in
    let is-struct : type_of old.types kind ≡ struct number = struct-numbered (type_of old.types kind) number found.number in
    let struct-later : type_over later kind ≡ struct number =
    type-later old.types.shapes later kind begins-before (subst (λ begun. IfSome begun (IsId old.types)) c.in-Some.is c.requires.kind) ∙ is-struct in
    let some : members ≡ [] → ⊥ = λ e. let yes : c.is_empty.result ≡ true = c.is_empty.ensures.1 e in let no = c.if-is_empty.false in absurd (cc) in
    let sized-now : is_some (struct_layout old.types members) ≡ is_some c.size.result =
    sym (sized old.types number members found.below)
    ∙ ap is_some (ap (size_of (with_content old.types number (contained old.types members))) (sym is-struct)
    ∙ (ap (λ (types : Table). size_of types (type_of types kind)) (sym c.end_struct.ensures.types) ∙ sym c.size.ensures.size)) in
    by-number (λ it. IfSome it (λ n. reverse old.begun.items ≡ n ∷ outer) → struct_ended known span it outer (fields_over later members) ≡ given (known_over later new) (type_over later kind))
    at number (ap Some (sym struct-later) ∙ (ap (option_map (type_over later)) (sym c.in-Some.is) ∙ is))
    (λ here. struct-ends-any later old span number outer members some begins-before found.distinct c.requires.members
    ∙ (obeyed (is_some (struct_layout old.types members)) 5 span.first _ (sized-now ∙ (c.is_none.ensures ∙ ap not c.if-is_none.false))
    ∙ given-so _ (known_over later new) _ _
    (sym (c.end_struct.ensures.known later outer here ∙ ap (λ (types : Table). ended known (table_over later types) outer) c.end_struct.ensures.types)) (sym struct-later)))
    inside
