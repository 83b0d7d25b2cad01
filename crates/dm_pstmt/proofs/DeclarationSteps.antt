-- Declarations and external declarations as they are read step by step.
use Rattle.std.proofs.Common.{◌≡◌, ℕ, ◌+◌, ◌-◌, drop, Bool, true, false, List, [], ◌∷◌, ◌++◌, length, Option, Some, None, is_some, option_map, refl, sym, ap, ◌∙◌, subst, append_assoc}
use Rattle.dm_syn.specs.declared.declared.Declared.{Declared}
use Rattle.dm_syn.specs.declared.declaration.Specifiers.{Specifiers}
use Rattle.dm_syn.specs.declared.declaration.Declarator.{Declarator}
use Rattle.dm_syn.specs.declared.declaration.InitDeclarator.{InitDeclarator}
use Rattle.dm_syn.specs.declared.statement.Stmt.{Stmt}
use Rattle.dm_syn.specs.declared.statement.External.{External}
use Rattle.dm_syn.specs.declared.symbol.Symbol.TheVariants as symbol
use Rattle.dm_syn.specs.Sources.{Source}
use Rattle.dm_syn.specs.Trees as tree
use Rattle.dm_syn.specs.Views as view
use Rattle.dm_syn.specs.Spans.{specifiers_span, declarator_span, item_span, items_after}
use Rattle.dm_syn.specs.Scopes.{declaration_of as declaration_of_name, declarator_name, declarator_declares, named_declares, parameters_declares, item_declares, items_declares, defines_types}
use Rattle.dm_syn.specs.Statements.{own_parameters, body_declares}
use Rattle.dm_pexpr.specs.declared.part.Part.{Part}
use Rattle.dm_pexpr.specs.Parsing.{named, lower, span_of, and_then, all_turns}
use Rattle.dm_pexpr.specs.Parts.{IsPart, Gives, Passes, the_specifiers, a_declarator}
use Rattle.dm_pexpr.proofs.Expressions.{holds, if-true, if-false}
use Rattle.dm_pexpr.proofs.Soundness.{inside}
use Rattle.dm_pexpr.proofs.TestLemmas.{fails}
use Rattle.dm_pstmt.specs.Kinds.{an_item, items_from, a_stmt, an_external}
use Rattle.dm_pstmt.specs.Parsing.{Within, within, initialiser_of, stands, item_of, item_behind, initialised, more_items, declaration_of, declaration_behind, declaration_with, declaration_rest, declaration_closed, external_of, external_behind, external_with, external_declared, definition_of, definition_with}
use Rattle.dm_pstmt.specs.Steps.{with_row, with_item, declared_behind}
use Rattle.dm_pstmt.proofs.Results.{then-some}
use Rattle.dm_pstmt.proofs.StatementSteps.{within-parts, within-initialiser, stands-same, re-scoped, ended-after}
use Rattle.dm_pstmt.proofs.Rows.{begun-part}
use Rattle.dm_pstmt.proofs.RowKinds.{item_row}
use Rattle.dm_pstmt.proofs.Wholes.{then-none, then-is, gives-along}

-- a declared name behind its declarator
pub name-scoped : (source : Source) (is_type : Bool) (before names now : List Declared) (declarator : Part Declarator) (read : Option tree.Declarator) → IsPart (a_declarator source) source before names declarator read
    → now ≡ declaration_of_name source is_type (declarator_name (view.declarator declarator.tree)) ++ names → now ≡ named_declares source is_type (view.declarator declarator.tree) ++ before
name-scoped source is_type before names now declarator read p is =
    let v : tree.Declarator = view.declarator declarator.tree in
    is ∙ ap (λ those. declaration_of_name source is_type (declarator_name v) ++ those) p.scoped
    ∙ sym (append_assoc (declaration_of_name source is_type (declarator_name v)) (declarator_declares source v) before)

-- a declarator without an initialiser, and with one
pub plain-read : (source : Source) (inner : Within) (is_type : Bool) (before names now : List Declared) (first : ℕ) (declarator : Part Declarator) (read : Option tree.Declarator) → IsPart (a_declarator source) source before names declarator read
    → now ≡ named_declares source is_type (view.declarator declarator.tree) ++ before → stands source now declarator.after symbol.Equals ≡ false
    → item_behind source inner is_type before first (view.declarator declarator.tree) ≡ Some (tree.plain (span_of first (declarator_span (view.declarator declarator.tree)).after) (view.declarator declarator.tree))
plain-read source inner is_type before names now first declarator read p scoped none =
    let v : tree.Declarator = view.declarator declarator.tree in
    if-false _ _ _ (ap (λ those. stands source those (declarator_span v).after symbol.Equals) (sym scoped) ∙ ap (λ n. stands source now n symbol.Equals) (sym p.ends) ∙ none)

pub initialised-read : (source : Source) (depth : ℕ) (is_type : Bool) (before names now : List Declared) (first next : ℕ) (declarator : Part Declarator) (read : Option tree.Declarator) → IsPart (a_declarator source) source before names declarator read
    → now ≡ named_declares source is_type (view.declarator declarator.tree) ++ before → Passes (stands source now declarator.after symbol.Equals) declarator.after (length source.tokens) (Some next)
    → item_behind source (within source depth) is_type before first (view.declarator declarator.tree) ≡ option_map (initialised first (view.declarator declarator.tree)) (initialiser_of source depth now next)
initialised-read source depth is_type before names now first next declarator read p scoped there =
    let v : tree.Declarator = view.declarator declarator.tree in
    if-true _ _ _ (ap (λ those. stands source those (declarator_span v).after symbol.Equals) (sym scoped) ∙ ap (λ n. stands source now n symbol.Equals) (sym p.ends) ∙ there.0)
    ∙ ap (λ reads. option_map (initialised first v) (reads (named_declares source is_type v ++ before) ((declarator_span v).after + 1))) (within-initialiser source depth)
    ∙ ap (λ those. option_map (initialised first v) (initialiser_of source depth those ((declarator_span v).after + 1))) (sym scoped)
    ∙ ap (λ n. option_map (initialised first v) (initialiser_of source depth now n)) (ap (λ n. n + 1) (sym p.ends) ∙ sym there.1)

pub item-read : (source : Source) (depth : ℕ) (is_type : Bool) (names : List Declared) (at : ℕ) (it : tree.Declarator) → (lower source depth).declarator named names at ≡ Some it
    → item_of source (within source depth) is_type names at ≡ item_behind source (within source depth) is_type names at it
unfolding item_of
item-read source depth is_type names at it is = then-is _ _ it (ap (λ parts. parts.declarator named names at) (within-parts source depth) ∙ is)

pub no-item : (source : Source) (depth : ℕ) (is_type : Bool) (names : List Declared) (at : ℕ) → (lower source depth).declarator named names at ≡ None → item_of source (within source depth) is_type names at ≡ None
unfolding item_of
no-item source depth is_type names at is = then-none _ _ (ap (λ parts. parts.declarator named names at) (within-parts source depth) ∙ is)

-- a declaration, behind its specifiers
pub no-declaration : (source : Source) (depth : ℕ) (names : List Declared) (at : ℕ) → (lower source depth).specifiers names at ≡ None → declaration_of source (within source depth) names at ≡ None
unfolding declaration_of
no-declaration source depth names at is = then-none _ _ (ap (λ parts. parts.specifiers names at) (within-parts source depth) ∙ is)

declaration-begun : (source : Source) (depth : ℕ) (before names : List Declared) (at : ℕ) (specifiers : Part Specifiers) → IsPart (the_specifiers source) source before names specifiers ((lower source depth).specifiers before at)
    → declaration_of source (within source depth) before at ≡ declaration_behind source (within source depth) names at (view.specifiers specifiers.tree)
unfolding declaration_of
declaration-begun source depth before names at specifiers p =
    let s : tree.Specifiers = view.specifiers specifiers.tree in
    then-is _ _ s (ap (λ parts. parts.specifiers before at) (within-parts source depth) ∙ p.read) ∙ ap (λ those. declaration_behind source (within source depth) those at s) (sym p.scoped)

pub bare-read : (source : Source) (depth : ℕ) (before names : List Declared) (at : ℕ) (specifiers : Part Specifiers) → IsPart (the_specifiers source) source before names specifiers ((lower source depth).specifiers before at)
    → stands source names specifiers.after symbol.Semicolon ≡ true
    → declaration_of source (within source depth) before at ≡ declared_behind source names at (view.specifiers specifiers.tree) []
bare-read source depth before names at specifiers p there =
    let s : tree.Specifiers = view.specifiers specifiers.tree in
    declaration-begun source depth before names at specifiers p ∙ if-true _ _ _ (ap (λ n. stands source names n symbol.Semicolon) (sym p.ends) ∙ there)

pub items-wanted : (source : Source) (depth : ℕ) (before names : List Declared) (at : ℕ) (specifiers : Part Specifiers) → IsPart (the_specifiers source) source before names specifiers ((lower source depth).specifiers before at)
    → stands source names specifiers.after symbol.Semicolon ≡ false
    → declaration_of source (within source depth) before at
    ≡ and_then (declaration_with source (within source depth) names at (view.specifiers specifiers.tree)) (item_of source (within source depth) (defines_types source (view.specifiers specifiers.tree)) names specifiers.after)
items-wanted source depth before names at specifiers p there =
    let s : tree.Specifiers = view.specifiers specifiers.tree in
    declaration-begun source depth before names at specifiers p ∙ if-false _ _ _ (ap (λ n. stands source names n symbol.Semicolon) (sym p.ends) ∙ there)
    ∙ ap (λ n. and_then (declaration_with source (within source depth) names at s) (item_of source (within source depth) (defines_types source s) names n)) (sym p.ends)

-- behind its first item
others-behind : (first : tree.Item) (others : Option (List tree.Item)) (all : List tree.Item) → option_map (with_item first) others ≡ Some all → (rest : List tree.Item) × (others ≡ Some rest) × (first ∷ rest ≡ all)
others-behind first None all is = absurd (cc)
others-behind first (Some rest) all is = (rest, refl, inside _ _ is)

no-others : (first : tree.Item) (others : Option (List tree.Item)) → option_map (with_item first) others ≡ None → others ≡ None
no-others first None is = refl
no-others first (Some rest) is = absurd (cc)

-- what is given for the items that begin with a first one
pub items-given : (source : Source) (inner : Within) (flag is_type : Bool) (start : ℕ) (names between behind : List Declared) (item : Part InitDeclarator) (seen : Option tree.Item) (list : Part (List InitDeclarator)) (found : Option (Part (List InitDeclarator)))
    → flag ≡ is_type → IsPart (an_item source is_type) source names between item seen → list ≡ record { tree = item.tree ∷ []; height = item.height; after = item.after }
    → ((read : Option (List tree.Item)) → IsPart (items_from source flag start) source names between list read
    → Gives (items_from source flag start) source names behind found (with_row with_item (view.items list.tree) (more_items source inner flag (all_turns source) between list.after)))
    → Gives (items_from source is_type start) source names behind found (with_row with_item (view.item item.tree ∷ []) (more_items source inner is_type (all_turns source) between item.after))
items-given source inner flag is_type start names between behind item seen list found same p is gives =
    let q = subst (λ (t : Bool). IsPart (an_item source t) source names between item seen) (sym same) p in
    subst (λ (t : Bool). Gives (items_from source t start) source names behind found (with_row with_item (view.item item.tree ∷ []) (more_items source inner t (all_turns source) between item.after))) same
    (subst (λ (those : Part (List InitDeclarator)). Gives (items_from source flag start) source names behind found (with_row with_item (view.items those.tree) (more_items source inner flag (all_turns source) between those.after))) is
    (gives _ (begun-part (an_item source flag) (item_row source flag) source start names between item seen list q is)))

pub items-read : (source : Source) (inner : Within) (names between behind : List Declared) (at start : ℕ) (specifiers : tree.Specifiers) (item : Part InitDeclarator) (seen : Option tree.Item) (items : Part (List InitDeclarator))
    → IsPart (an_item source (defines_types source specifiers)) source names between item seen
    → start ≡ (specifiers_span specifiers).after
    → IsPart (items_from source (defines_types source specifiers) start) source names behind items
    (with_row with_item (view.item item.tree ∷ []) (more_items source inner (defines_types source specifiers) (all_turns source) between item.after))
    → declaration_with source inner names at specifiers (view.item item.tree) ≡ declared_behind source behind at specifiers (view.items items.tree)
unfolding items_declares
items-read source inner names between behind at start specifiers item seen items p place q =
    let v : tree.Item = view.item item.tree in
    let t : Bool = defines_types source specifiers in
    let found = others-behind v (more_items source inner t (all_turns source) between item.after) (view.items items.tree) q.read in
    let rest : List tree.Item = found.0 in
    let more : more_items source inner t (all_turns source) (item_declares source t v ++ names) (item_span v).after ≡ Some rest =
    ap (λ those. more_items source inner t (all_turns source) those (item_span v).after) (sym p.scoped) ∙ ap (more_items source inner t (all_turns source) between) (sym p.ends) ∙ found.1 in
    let scoped : items_declares source t rest ++ (item_declares source t v ++ names) ≡ behind =
    sym (append_assoc (items_declares source t rest) (item_declares source t v) names) ∙ ap (λ those. items_declares source t those ++ names) found.2 ∙ sym q.scoped in
    then-is (declaration_rest source (item_declares source t v ++ names) at specifiers v) _ rest more
    ∙ ap (λ those. declaration_closed source those at specifiers (v ∷ rest) (items_after (specifiers_span specifiers).after (v ∷ rest))) scoped
    ∙ ap (λ those. declared_behind source behind at specifiers those) found.2

pub no-items-read : (source : Source) (inner : Within) (names between : List Declared) (at : ℕ) (specifiers : tree.Specifiers) (item : Part InitDeclarator) (seen : Option tree.Item)
    → IsPart (an_item source (defines_types source specifiers)) source names between item seen
    → with_row with_item (view.item item.tree ∷ []) (more_items source inner (defines_types source specifiers) (all_turns source) between item.after) ≡ None
    → declaration_with source inner names at specifiers (view.item item.tree) ≡ None
no-items-read source inner names between at specifiers item seen p none =
    let v : tree.Item = view.item item.tree in
    let t : Bool = defines_types source specifiers in
    then-none _ _ (ap (λ those. more_items source inner t (all_turns source) those (item_span v).after) (sym p.scoped) ∙ ap (more_items source inner t (all_turns source) between) (sym p.ends)
    ∙ no-others v (more_items source inner t (all_turns source) between item.after) none)

-- no semicolon behind the items
pub unclosed : (source : Source) (names behind : List Declared) (at start : ℕ) (is_type : Bool) (specifiers : tree.Specifiers) (items : Part (List InitDeclarator)) (read : Option (List tree.Item))
    → start ≡ (specifiers_span specifiers).after → IsPart (items_from source is_type start) source names behind items read → stands source behind items.after symbol.Semicolon ≡ false
    → declared_behind source behind at specifiers (view.items items.tree) ≡ None
unclosed source names behind at start is_type specifiers items read place q none =
    fails _ _ (ap (λ n. stands source behind n symbol.Semicolon) (ap (λ n. items_after n (view.items items.tree)) (sym place) ∙ sym q.ends) ∙ none)

-- an external declaration, behind its specifiers
pub no-external : (source : Source) (depth : ℕ) (names : List Declared) (at : ℕ) → (lower source depth).specifiers names at ≡ None → external_of source (within source depth) names at ≡ None
unfolding external_of
no-external source depth names at is = then-none _ _ (ap (λ parts. parts.specifiers names at) (within-parts source depth) ∙ is)

external-begun : (source : Source) (depth : ℕ) (before names : List Declared) (at : ℕ) (specifiers : Part Specifiers) → IsPart (the_specifiers source) source before names specifiers ((lower source depth).specifiers before at)
    → external_of source (within source depth) before at ≡ external_behind source (within source depth) names at (view.specifiers specifiers.tree)
unfolding external_of
external-begun source depth before names at specifiers p =
    let s : tree.Specifiers = view.specifiers specifiers.tree in
    then-is _ _ s (ap (λ parts. parts.specifiers before at) (within-parts source depth) ∙ p.read) ∙ ap (λ those. external_behind source (within source depth) those at s) (sym p.scoped)

pub bare-external : (source : Source) (depth : ℕ) (before names : List Declared) (at : ℕ) (specifiers : Part Specifiers) → IsPart (the_specifiers source) source before names specifiers ((lower source depth).specifiers before at)
    → stands source names specifiers.after symbol.Semicolon ≡ true
    → external_of source (within source depth) before at ≡ option_map (external_declared at) (declared_behind source names at (view.specifiers specifiers.tree) [])
bare-external source depth before names at specifiers p there =
    external-begun source depth before names at specifiers p ∙ if-true _ _ _ (ap (λ n. stands source names n symbol.Semicolon) (sym p.ends) ∙ there)

pub declarator-wanted : (source : Source) (depth : ℕ) (before names : List Declared) (at : ℕ) (specifiers : Part Specifiers) → IsPart (the_specifiers source) source before names specifiers ((lower source depth).specifiers before at)
    → stands source names specifiers.after symbol.Semicolon ≡ false
    → external_of source (within source depth) before at
    ≡ and_then (external_with source (within source depth) names at (view.specifiers specifiers.tree)) ((lower source depth).declarator named names specifiers.after)
declarator-wanted source depth before names at specifiers p there =
    let s : tree.Specifiers = view.specifiers specifiers.tree in
    external-begun source depth before names at specifiers p ∙ if-false _ _ _ (ap (λ n. stands source names n symbol.Semicolon) (sym p.ends) ∙ there)
    ∙ ap (λ n. and_then (external_with source (within source depth) names at s) ((within source depth).parts.declarator named names n)) (sym p.ends)
    ∙ ap (λ parts. and_then (external_with source (within source depth) names at s) (parts.declarator named names specifiers.after)) (within-parts source depth)

-- behind its declarator
pub definition-wanted : (source : Source) (inner : Within) (names between : List Declared) (at : ℕ) (specifiers : tree.Specifiers) (declarator : Part Declarator) (read : Option tree.Declarator)
    → IsPart (a_declarator source) source names between declarator read → stands source between declarator.after symbol.LeftBrace ≡ true
    → external_with source inner names at specifiers (view.declarator declarator.tree) ≡ definition_of source inner names at specifiers (view.declarator declarator.tree)
definition-wanted source inner names between at specifiers declarator read p there =
    let v : tree.Declarator = view.declarator declarator.tree in
    if-true _ _ _ (stands-same source names between (declarator_span v).after symbol.LeftBrace refl ∙ ap (λ n. stands source between n symbol.LeftBrace) (sym p.ends) ∙ there)

pub declaration-wanted : (source : Source) (inner : Within) (names between : List Declared) (at start : ℕ) (specifiers : tree.Specifiers) (declarator : Part Declarator) (read : Option tree.Declarator)
    → start ≡ (specifiers_span specifiers).after → IsPart (a_declarator source) source names between declarator read → stands source between declarator.after symbol.LeftBrace ≡ false
    → external_with source inner names at specifiers (view.declarator declarator.tree)
    ≡ option_map (external_declared at) (and_then (declaration_with source inner names at specifiers) (item_behind source inner (defines_types source specifiers) names start (view.declarator declarator.tree)))
declaration-wanted source inner names between at start specifiers declarator read place p none =
    let v : tree.Declarator = view.declarator declarator.tree in
    if-false _ _ _ (stands-same source names between (declarator_span v).after symbol.LeftBrace refl ∙ ap (λ n. stands source between n symbol.LeftBrace) (sym p.ends) ∙ none)
    ∙ ap (λ n. option_map (external_declared at) (and_then (declaration_with source inner names at specifiers) (item_behind source inner (defines_types source specifiers) names n v))) (sym place)

-- no parameters, no definition
pub no-definition : (source : Source) (inner : Within) (names : List Declared) (at : ℕ) (specifiers : tree.Specifiers) (declarator : tree.Declarator) → None ≡ own_parameters None declarator
    → definition_of source inner names at specifiers declarator ≡ None
no-definition source inner names at specifiers declarator is = fails _ _ (sym (ap is_some is))

pub body-wanted : (source : Source) (inner : Within) (names one two : List Declared) (at : ℕ) (specifiers : tree.Specifiers) (declarator : Part Declarator) (parameters : tree.Parameters)
    → Some parameters ≡ own_parameters None (view.declarator declarator.tree) → declarator.after ≡ (declarator_span (view.declarator declarator.tree)).after
    → one ≡ named_declares source (defines_types source specifiers) (view.declarator declarator.tree) ++ names → two ≡ parameters_declares source parameters ++ one
    → definition_of source inner names at specifiers (view.declarator declarator.tree) ≡ and_then (definition_with at specifiers (view.declarator declarator.tree)) (inner.stmt two declarator.after)
body-wanted source inner names one two at specifiers declarator parameters is ends first second =
    let v : tree.Declarator = view.declarator declarator.tree in
    holds _ _ (sym (ap is_some is))
    ∙ ap (λ own. and_then (definition_with at specifiers v) (inner.stmt (body_declares source own ++ (named_declares source (defines_types source specifiers) v ++ names)) (declarator_span v).after)) (sym is)
    ∙ ap (λ those. and_then (definition_with at specifiers v) (inner.stmt (parameters_declares source parameters ++ those) (declarator_span v).after)) (sym first)
    ∙ ap (λ those. and_then (definition_with at specifiers v) (inner.stmt those (declarator_span v).after)) (sym second)
    ∙ ap (λ n. and_then (definition_with at specifiers v) (inner.stmt two n)) (sym ends)

pub definition-read : (source : Source) (inner : Within) (before names one two last now : List Declared) (at kept : ℕ) (specifiers : tree.Specifiers) (declarator : Part Declarator) (read : Option tree.Declarator) (between : List Declared)
    (parameters : tree.Parameters) (found : Option (Part Stmt)) (made : Option (Part External))
    → IsPart (a_declarator source) source names between declarator read
    → Some parameters ≡ own_parameters None (view.declarator declarator.tree)
    → one ≡ named_declares source (defines_types source specifiers) (view.declarator declarator.tree) ++ names → two ≡ parameters_declares source parameters ++ one
    → kept ≡ length one → Gives (a_stmt source) source two last found (inner.stmt two declarator.after) → now ≡ drop (length last - kept) last
    → Gives (an_external source) source before one made (and_then (definition_with at specifiers (view.declarator declarator.tree)) (inner.stmt two declarator.after))
    → Gives (an_external source) source before now made (definition_of source inner names at specifiers (view.declarator declarator.tree))
definition-read source inner before names one two last now at kept specifiers declarator read between parameters found made p is first second count body cut given =
    let v : tree.Declarator = view.declarator declarator.tree in
    gives-along (an_external source) source before now made _ _ (body-wanted source inner names one two at specifiers declarator parameters is p.ends first second)
    (re-scoped (an_external source) source before one now made (and_then (definition_with at specifiers v) (inner.stmt two declarator.after))
    (λ it there. let body_there = then-some (definition_with at specifiers v) (inner.stmt two declarator.after) it there in
    ended-after (a_stmt source) source (parameters_declares source parameters) one two last now kept found (inner.stmt two declarator.after) body_there.0 count second body body_there.1 cut) given)
