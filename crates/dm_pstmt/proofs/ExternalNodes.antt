-- External declarations that are put together of parts.
use Rattle.std.proofs.Common.{◌≡◌, ◌<◌, ℕ, List, ◌++◌, max, Option, Some, None, option_map, nat_le, refl, sym, ap, ◌∙◌, arith, lit≤, append_assoc, if◌then◌else◌}
use Rattle.dm_token.specs.Limits.{greatest_height}
use Rattle.dm_syn.specs.declared.declared.Declared.{Declared}
use Rattle.dm_syn.specs.declared.declaration.Specifiers.{Specifiers}
use Rattle.dm_syn.specs.declared.declaration.Declarator.{Declarator}
use Rattle.dm_syn.specs.declared.declaration.Declaration.{Declaration}
use Rattle.dm_syn.specs.declared.statement.Stmt.{Stmt}
use Rattle.dm_syn.specs.declared.statement.External.{External}
use Rattle.dm_syn.specs.declared.statement.ExternalForm.TheVariants as external_form
use Rattle.dm_syn.specs.Sources.{Source}
use Rattle.dm_syn.specs.Trees as tree
use Rattle.dm_syn.specs.Heights.{specifiers_height, declarator_height, height_of, above}
use Rattle.dm_syn.specs.Scopes.{specifiers_declares, named_declares, external_declares, defines_types}
use Rattle.dm_syn.specs.Views as view
use Rattle.dm_pexpr.specs.declared.part.Part.{Part}
use Rattle.dm_pexpr.specs.Parsing.{span_of, checked, and_then}
use Rattle.dm_pexpr.specs.Counted.{most_counted}
use Rattle.dm_pexpr.specs.Parts.{IsPart, Gives, the_specifiers, a_declarator}
use Rattle.dm_pexpr.proofs.PartLemmas.{made-gives, part-of}
use Rattle.dm_pstmt.specs.Kinds.{a_declaration, a_stmt, an_external}
use Rattle.dm_pstmt.specs.Parsing.{external_declared, definition_with}
use Rattle.dm_pstmt.proofs.Wholes.{then-is, pass-part}

-- a declaration in file scope
pub declaration-made : (source : Source) (before behind : List Declared) (found : Option (Part Declaration)) (part : Part Declaration) (wanted : Option tree.Declaration) → found ≡ Some part
    → Gives (a_declaration source) source before behind found wanted
    → (first : ℕ) → IsPart (an_external source) source before behind
    (record { tree = record { span = record { first = first; after = part.after }; form = external_form.Declaration part.tree }; height = part.height; after = part.after }) (option_map (external_declared first) wanted)
unfolding height_of external_declares
declaration-made source before behind found part wanted there given first =
    let g = part-of (a_declaration source) source before behind found part wanted there given in
    let v : tree.Declaration = view.declaration part.tree in
    pass-part (a_declaration source) (an_external source) source before behind part wanted (external_declared first)
    (record { tree = record { span = record { first = first; after = part.after }; form = external_form.Declaration part.tree }; height = part.height; after = part.after }) g
    (ap (λ n. tree.external (span_of first n) v) g.ends) refl refl refl refl refl refl (lit≤ tt)

-- a function definition
pub definition-made : (source : Source) (before names between behind within last : List Declared) (specifiers : Part Specifiers) (read : Option tree.Specifiers) (declarator : Part Declarator) (seen : Option tree.Declarator)
    (found : Option (Part Stmt)) (body : Part Stmt) (wanted : Option tree.Stmt) → found ≡ Some body
    → IsPart (the_specifiers source) source before names specifiers read → IsPart (a_declarator source) source names between declarator seen
    → behind ≡ named_declares source (defines_types source (view.specifiers specifiers.tree)) (view.declarator declarator.tree) ++ names
    → Gives (a_stmt source) source within last found wanted
    → (first height : ℕ) (boxed : Stmt) (made : Option (Part External)) → boxed ≡ body.tree → (specifiers.height < most_counted → max declarator.height body.height < most_counted → height ≡ above specifiers.height (max declarator.height body.height))
    → made ≡ (if nat_le height greatest_height then Some (record { tree = record { span = record { first = first; after = body.after }; form = external_form.Function specifiers.tree declarator.tree boxed }; height = height; after = body.after }) else None)
    → Gives (an_external source) source before behind made (and_then (definition_with first (view.specifiers specifiers.tree) (view.declarator declarator.tree)) wanted)
unfolding height_of external_declares
definition-made source before names between behind within last specifiers read declarator seen found body wanted there p q scoped given first height boxed made same high node =
    let g = part-of (a_stmt source) source within last found body wanted there given in
    let s : tree.Specifiers = view.specifiers specifiers.tree in
    let d : tree.Declarator = view.declarator declarator.tree in
    let v : tree.Stmt = view.stmt body.tree in
    made-gives (an_external source) source before behind made _ height body.after (tree.definition (span_of first body.after) s d v) _ node
    (then-is (definition_with first s d) _ v g.read ∙ ap (λ n. checked (height_of (tree.definition (span_of first n) s d v)) (tree.definition (span_of first n) s d v)) (sym g.ends))
    (ap (λ it. tree.definition (span_of first body.after) s d (view.stmt it)) same) refl
    (high (omega (arith, p.low)) (omega (arith, q.low, g.low)) ∙ ap (λ n. above n (max declarator.height body.height)) p.high
    ∙ ap (λ n. above (specifiers_height s) (max n body.height)) q.high ∙ ap (λ n. above (specifiers_height s) (max (declarator_height d) n)) g.high) refl g.within
    (scoped ∙ ap (λ those. named_declares source (defines_types source s) d ++ those) p.scoped ∙ sym (append_assoc (named_declares source (defines_types source s) d) (specifiers_declares source s) before)) (lit≤ tt)
