-- Type names and specifiers that are put together of parts.
use Rattle.std.proofs.Common.{◌≡◌, ◌≤◌, ◌<◌, ℕ, zero, suc, ◌+◌, Bool, true, false, List, [], ◌∷◌, ◌++◌, length, map, Option, Some, None, nat_le, refl, sym, ap, ◌∙◌, subst, arith, lit≤, append_assoc, if◌then◌else◌}
use Rattle.std.specs.Prelude.{unwrap_or, is_some, IsSome}
use Rattle.dm_token.specs.Limits.{greatest_height}
use Rattle.dm_syn.specs.declared.declared.Declared.{Declared}
use Rattle.dm_syn.specs.declared.symbol.Symbol.TheVariants as symbol
use Rattle.dm_syn.specs.declared.expression.Expr.{Expr}
use Rattle.dm_syn.specs.declared.declaration.Specifiers.{Specifiers}
use Rattle.dm_syn.specs.declared.declaration.Specifier.{Specifier}
use Rattle.dm_syn.specs.declared.declaration.Specifier.TheVariants as specifier
use Rattle.dm_syn.specs.declared.declaration.StructForm.{roll-StructForm}
use Rattle.dm_syn.specs.declared.declaration.EnumForm.{roll-EnumForm}
use Rattle.dm_syn.specs.declared.declaration.MemberForm.{MemberForm, roll-MemberForm}
use Rattle.dm_syn.specs.declared.declaration.EnumItem.{EnumItem, roll-EnumItem}
use Rattle.dm_syn.specs.declared.declaration.Declarator.{Declarator}
use Rattle.dm_syn.specs.Symbols.{is}
use Rattle.dm_syn.specs.Sources.{Source, symbol_in}
use Rattle.dm_syn.specs.Trees as tree
use Rattle.dm_syn.specs.Spans.{words_after, members_after, declarator_span, declarators_after, enumerator_span, enumerators_after}
use Rattle.dm_syn.specs.Heights.{above, words_node, named_node, is_absent, type_name_height, specifiers_height, specifier_height, highest_word, member_height, enumerator_height, declarator_height, parameter_height}
use Rattle.dm_syn.specs.Scopes.{declaration_of, declarator_name, expr_declares, type_name_declares, specifiers_declares, specifier_declares, members_declares, member_declares, declarator_declares, declarators_declares, enumerator_declares, enumerators_declares}
use Rattle.dm_syn.specs.Grammar.{tag_after, trailing_after}
use Rattle.dm_syn.specs.Views as view
use Rattle.dm_pexpr.specs.declared.part.Part.{Part}
use Rattle.dm_pexpr.specs.Parsing.{Parts, checked, checked_specifier, where_true, span_of, type_name_with, parameter_with, specifiers_from, prepend_member, members_of, member_of, members_from as members_behind, struct_from, struct_tagged, prepend_declarator, member_with, prepend_enumerator, enum_closed, enum_with, enum_tagged, valued_from}
use Rattle.dm_pexpr.specs.Counted.{most_counted}
use Rattle.dm_pexpr.specs.Parts.{IsPart, Gives, Passes, AreClosed, an_expr, a_type_name, the_specifiers, a_specifier, a_member, an_enumerator, a_declarator, a_parameter, words_from, members_from, declarators_from, enumerators_from}
use Rattle.dm_pexpr.proofs.Soundness.{inside}
use Rattle.dm_pexpr.proofs.Expressions.{holds}
use Rattle.dm_pexpr.proofs.PartLemmas.{made-gives, part-is, part-of}
use Rattle.dm_pexpr.proofs.TypeViewLemmas.{view-type-name, view-parameter, view-specifiers, view-struct-with, view-struct-only, view-enum-with, view-enum-only, view-members, view-bare, view-valued}

-- the height of specifiers with a declarator
either-low : (test : Bool) (a b : ℕ) → a ≤ greatest_height + 1 → b ≤ greatest_height + 1 → (if test then a else b) ≤ greatest_height + 1
either-low true a b one other = one
either-low false a b one other = other

named-low : (specifiers : ℕ) (it : tree.Declarator) (height : ℕ) → specifiers ≤ greatest_height → height ≤ greatest_height → named_node specifiers it height ≤ greatest_height + 1
named-low specifiers it height one other = either-low (is_absent it) specifiers (above specifiers height) (omega (arith, one)) (omega (arith, one, other))

-- a list behind another, each with what it declares
behind : (second first after names before : List Declared) → after ≡ second ++ names → names ≡ first ++ before → after ≡ (second ++ first) ++ before
behind second first after names before one other = one ∙ ap (λ ns. second ++ ns) other ∙ sym (append_assoc second first before)

pub name-made : (source : Source) (before names now : List Declared) (specifiers : Part Specifiers) (read : Option tree.Specifiers) (found : Option (Part Declarator)) (part : Part Declarator) (wanted : Option tree.Declarator) → found ≡ Some part
    → IsPart (the_specifiers source) source before names specifiers read → Gives (a_declarator source) source names now found wanted
    → (first height : ℕ) → (specifiers.height < most_counted → part.height < most_counted → height ≡ named_node specifiers.height (view.declarator part.tree) part.height)
    → IsPart (a_type_name source) source before now (record { tree = record { span = record { first = first; after = part.after }; specifiers = specifiers.tree; declarator = part.tree }; height = height; after = part.after }) (type_name_with first (view.specifiers specifiers.tree) wanted)
unfolding type_name_height type_name_declares
name-made source before names now specifiers read found part wanted there k given first height high =
    let g = part-of (a_declarator source) source names now found part wanted there given in
    let s : tree.Specifiers = view.specifiers specifiers.tree in
    let d : tree.Declarator = view.declarator part.tree in
    let as_kept : height ≡ named_node specifiers.height d part.height = high (omega (arith, k.low)) (omega (arith, g.low)) in
    let taller : height ≡ named_node (specifiers_height s) d (declarator_height d) = as_kept ∙ ap (λ n. named_node n d part.height) k.high ∙ ap (named_node (specifiers_height s) d) g.high in
    part-is (a_type_name source) source before now _ height part.after (tree.type_name (span_of first part.after) s d) _
    (ap (type_name_with first s) g.read ∙ ap (λ n. Some (tree.type_name (span_of first n) s d)) (sym g.ends))
    (view-type-name _ specifiers.tree part.tree) refl taller (subst (λ n. n ≤ greatest_height + 1) (sym as_kept) (named-low specifiers.height d part.height k.low g.low)) refl g.within
    (behind (declarator_declares source d) (specifiers_declares source s) now names before g.scoped k.scoped)

pub parameter-made : (source : Source) (before names now after : List Declared) (specifiers : Part Specifiers) (read : Option tree.Specifiers) (found : Option (Part Declarator)) (part : Part Declarator) (wanted : Option tree.Declarator) → found ≡ Some part
    → IsPart (the_specifiers source) source before names specifiers read → Gives (a_declarator source) source names now found wanted
    → (first height : ℕ) → (specifiers.height < most_counted → part.height < most_counted → height ≡ named_node specifiers.height (view.declarator part.tree) part.height)
    → (name : Option ℕ) → name ≡ declarator_name (view.declarator part.tree) → after ≡ declaration_of source false name ++ now
    → IsPart (a_parameter source) source before after (record { tree = record { span = record { first = first; after = part.after }; specifiers = specifiers.tree; declarator = part.tree }; height = height; after = part.after }) (parameter_with first (view.specifiers specifiers.tree) wanted)
unfolding parameter_height
parameter-made source before names now after specifiers read found part wanted there k given first height high name named declares =
    let g = part-of (a_declarator source) source names now found part wanted there given in
    let s : tree.Specifiers = view.specifiers specifiers.tree in
    let d : tree.Declarator = view.declarator part.tree in
    let as_kept : height ≡ named_node specifiers.height d part.height = high (omega (arith, k.low)) (omega (arith, g.low)) in
    let taller : height ≡ named_node (specifiers_height s) d (declarator_height d) = as_kept ∙ ap (λ n. named_node n d part.height) k.high ∙ ap (named_node (specifiers_height s) d) g.high in
    part-is (a_parameter source) source before after _ height part.after (tree.parameter (span_of first part.after) s d) _
    (ap (parameter_with first s) g.read ∙ ap (λ n. Some (tree.parameter (span_of first n) s d)) (sym g.ends))
    (view-parameter _ specifiers.tree part.tree) refl taller (subst (λ n. n ≤ greatest_height + 1) (sym as_kept) (named-low specifiers.height d part.height k.low g.low)) refl g.within
    (behind (declaration_of source false (declarator_name d)) (declarator_declares source d ++ specifiers_declares source s) after now before
    (declares ∙ ap (λ n. declaration_of source false n ++ now) named)
    (behind (declarator_declares source d) (specifiers_declares source s) now names before g.scoped k.scoped))

some-specifiers : (first : ℕ) (items : List Specifier) → (items ≡ [] → ⊥)
    → let v : tree.Words = view.words (map view.specifier items) in
    specifiers_from first (Some v) ≡ checked (specifiers_height (tree.listed (span_of first (words_after first v)) v)) (tree.listed (span_of first (words_after first v)) v)
some-specifiers first [] some = absurd (some refl)
some-specifiers first (word ∷ words) some = refl

pub specifiers-made : (source : Source) (before now : List Declared) (first : ℕ) (found : Option (Part (List Specifier))) (part : Part (List Specifier)) (wanted : Option tree.Words) → found ≡ Some part → (part.tree ≡ [] → ⊥)
    → Gives (words_from source first) source before now found wanted
    → (height : ℕ) (made : Option (Part Specifiers)) → (part.height < most_counted → height ≡ words_node (view.words (map view.specifier part.tree)) part.height)
    → made ≡ (if nat_le height greatest_height then Some (record { tree = record { span = record { first = first; after = part.after }; words = part.tree }; height = height; after = part.after }) else None)
    → Gives (the_specifiers source) source before now made (specifiers_from first wanted)
unfolding specifiers_height specifiers_declares
specifiers-made source before now first found part wanted there some given height made high node =
    let g = part-of (words_from source first) source before now found part wanted there given in
    let v : tree.Words = view.words (map view.specifier part.tree) in
    made-gives (the_specifiers source) source before now made _ height part.after (tree.listed (span_of first part.after) v) _ node
    (ap (specifiers_from first) g.read ∙ some-specifiers first part.tree some ∙ ap (λ n. checked (words_node v (highest_word v)) (tree.listed (span_of first n) v)) (sym g.ends))
    (view-specifiers _ part.tree) refl
    (high (omega (arith, g.low)) ∙ ap (words_node v) g.high) refl g.within g.scoped (lit≤ tt)

some-members : (first start : ℕ) (tag : Option ℕ) (items : List MemberForm) → (items ≡ [] → ⊥)
    → let v : tree.Members = view.members (map view.member_form items) in
    struct_from first tag start (Some v) ≡ checked_specifier (tree.struct_with (span_of first (members_after start v + 1)) tag v)
some-members first start tag [] some = absurd (some refl)
some-members first start tag (member ∷ members) some = refl

pub struct-made : (source : Source) (before now : List Declared) (first start : ℕ) (tag : Option ℕ) (found : Option (Part (List MemberForm))) (part : Part (List MemberForm)) (wanted : Option tree.Members) → found ≡ Some part → (part.tree ≡ [] → ⊥)
    → Gives (members_from source start) source before now found wanted
    → (after height : ℕ) (made : Option (Part Specifier)) → after ≡ part.after + 1 → after ≤ length source.tokens → (part.height < most_counted → height ≡ part.height + 1)
    → made ≡ (if nat_le height greatest_height then Some (record { tree = specifier.Struct (roll-StructForm (record { span = record { first = first; after = after }; tag = tag; members = Some part.tree })); height = height; after = after }) else None)
    → Gives (a_specifier source first) source before now made (struct_from first tag start wanted)
unfolding specifier_height specifier_declares
struct-made source before now first start tag found part wanted there some given after height made next within high node =
    let g = part-of (members_from source start) source before now found part wanted there given in
    let v : tree.Members = view.members (map view.member_form part.tree) in
    made-gives (a_specifier source first) source before now made _ height after (tree.struct_with (span_of first after) tag v) _ node
    (ap (struct_from first tag start) g.read ∙ some-members first start tag part.tree some
    ∙ ap (λ n. checked_specifier (tree.struct_with (span_of first (n + 1)) tag v)) (sym g.ends) ∙ ap (λ n. checked_specifier (tree.struct_with (span_of first n) tag v)) (sym next))
    (view-struct-with _ tag part.tree) refl
    (high (omega (arith, g.low)) ∙ ap (λ n. n + 1) g.high) refl within g.scoped (lit≤ tt)

-- a declaration of members, by its declarators as one list
member-read : (source : Source) (names : List Declared) (first start : ℕ) (specifiers : tree.Specifiers) (head : tree.Declarator) (wanted : Option tree.Declarators) (all : tree.Declarators)
    → prepend_declarator head wanted ≡ Some all
    → member_with source (declarator_declares source head ++ names) first specifiers head wanted
    ≡ where_true (is (symbol_in source (declarators_declares source all ++ names) (declarators_after start all)) symbol.Semicolon) (Some (tree.members (span_of first (declarators_after start all + 1)) specifiers all))
unfolding declarators_declares
member-read source names first start specifiers head None all h = absurd (cc)
member-read source names first start specifiers head (Some others) all h =
    let after : ℕ = declarators_after (declarator_span head).after others in
    subst (λ those. member_with source (declarator_declares source head ++ names) first specifiers head (Some others)
    ≡ where_true (is (symbol_in source (declarators_declares source those ++ names) (declarators_after start those)) symbol.Semicolon) (Some (tree.members (span_of first (declarators_after start those + 1)) specifiers those)))
    (inside (tree.more_declarators head others) all h)
    (ap (λ ns. where_true (is (symbol_in source ns after) symbol.Semicolon) (Some (tree.members (span_of first (after + 1)) specifiers (tree.more_declarators head others))))
    (sym (append_assoc (declarators_declares source others) (declarator_declares source head) names)))

-- by what stands behind them
member-test : (source : Source) (names now : List Declared) (first start : ℕ) (specifiers : tree.Specifiers) (head : tree.Declarator) (part : Part (List Declarator)) (wanted : Option tree.Declarators)
    → IsPart (declarators_from source start) source names now part (prepend_declarator head wanted)
    → member_with source (declarator_declares source head ++ names) first specifiers head wanted
    ≡ where_true (is (symbol_in source now part.after) symbol.Semicolon) (Some (tree.members (span_of first (part.after + 1)) specifiers (view.declarators (map view.declarator part.tree))))
member-test source names now first start specifiers head part wanted g =
    let v : tree.Declarators = view.declarators (map view.declarator part.tree) in
    member-read source names first start specifiers head wanted v g.read
    ∙ ap (λ ns. where_true (is (symbol_in source ns (declarators_after start v)) symbol.Semicolon) (Some (tree.members (span_of first (declarators_after start v + 1)) specifiers v))) (sym g.scoped)
    ∙ ap (λ n. where_true (is (symbol_in source now n) symbol.Semicolon) (Some (tree.members (span_of first (n + 1)) specifiers v))) (sym g.ends)

pub member-open : (source : Source) (names now : List Declared) (first start : ℕ) (specifiers : tree.Specifiers) (head : tree.Declarator) (found : Option (Part (List Declarator))) (part : Part (List Declarator)) (wanted : Option tree.Declarators) → found ≡ Some part
    → Gives (declarators_from source start) source names now found (prepend_declarator head wanted)
    → is (symbol_in source now part.after) symbol.Semicolon ≡ false
    → member_with source (declarator_declares source head ++ names) first specifiers head wanted ≡ None
member-open source names now first start specifiers head found part wanted there given fails =
    let g = part-of (declarators_from source start) source names now found part (prepend_declarator head wanted) there given in
    member-test source names now first start specifiers head part wanted g
    ∙ ap (λ test. where_true test (Some (tree.members (span_of first (part.after + 1)) specifiers (view.declarators (map view.declarator part.tree))))) fails

pub member-made : (source : Source) (before names now : List Declared) (specifiers : Part Specifiers) (read : Option tree.Specifiers) (start : ℕ) (head : tree.Declarator) (found : Option (Part (List Declarator))) (part : Part (List Declarator)) (wanted : Option tree.Declarators) → found ≡ Some part
    → IsPart (the_specifiers source) source before names specifiers read → Gives (declarators_from source start) source names now found (prepend_declarator head wanted)
    → (first after height : ℕ) → Passes (is (symbol_in source now part.after) symbol.Semicolon) part.after (length source.tokens) (Some after)
    → (specifiers.height < most_counted → part.height < most_counted → height ≡ above specifiers.height part.height)
    → IsPart (a_member source) source before now (record { tree = roll-MemberForm (record { span = record { first = first; after = after }; specifiers = specifiers.tree; declarators = part.tree }); height = height; after = after })
    (member_with source (declarator_declares source head ++ names) first (view.specifiers specifiers.tree) head wanted)
unfolding member_height member_declares
member-made source before names now specifiers read start head found part wanted there k given first after height passes high =
    let g = part-of (declarators_from source start) source names now found part (prepend_declarator head wanted) there given in
    let s : tree.Specifiers = view.specifiers specifiers.tree in
    let v : tree.Declarators = view.declarators (map view.declarator part.tree) in
    let as_kept : height ≡ above specifiers.height part.height = high (omega (arith, k.low)) (omega (arith, g.low)) in
    part-is (a_member source) source before now _ height after (tree.members (span_of first after) s v) _
    (member-test source names now first start s head part wanted g ∙ holds _ _ passes.0 ∙ ap (λ n. Some (tree.members (span_of first n) s v)) (sym passes.1))
    (view-members _ specifiers.tree part.tree) refl
    (as_kept ∙ ap (λ n. above n part.height) k.high ∙ ap (above (specifiers_height s)) g.high) (omega (arith, as_kept, k.low, g.low)) refl passes.2
    (behind (declarators_declares source v) (specifiers_declares source s) now names before g.scoped k.scoped)

-- enumerators, as one list
enum-read : (source : Source) (before : List Declared) (first start : ℕ) (tag : Option ℕ) (head : tree.Enumerator) (wanted : Option tree.Enumerators) (all : tree.Enumerators)
    → prepend_enumerator head wanted ≡ Some all
    → enum_with source (enumerator_declares source head ++ before) first tag head wanted
    ≡ enum_closed source (enumerators_declares source all ++ before) first tag all (enumerators_after start all) (is (symbol_in source (enumerators_declares source all ++ before) (enumerators_after start all)) symbol.Comma)
unfolding enumerators_declares
enum-read source before first start tag head None all h = absurd (cc)
enum-read source before first start tag head (Some others) all h =
    let after : ℕ = enumerators_after (enumerator_span head).after others in
    subst (λ those. enum_with source (enumerator_declares source head ++ before) first tag head (Some others)
    ≡ enum_closed source (enumerators_declares source those ++ before) first tag those (enumerators_after start those) (is (symbol_in source (enumerators_declares source those ++ before) (enumerators_after start those)) symbol.Comma))
    (inside (tree.more_enumerators head others) all h)
    (ap (λ ns. enum_closed source ns first tag (tree.more_enumerators head others) after (is (symbol_in source ns after) symbol.Comma))
    (sym (append_assoc (enumerators_declares source others) (enumerator_declares source head) before)))

-- by what stands behind them
enum-test : (source : Source) (before now : List Declared) (first start : ℕ) (tag : Option ℕ) (head : tree.Enumerator) (part : Part (List EnumItem)) (wanted : Option tree.Enumerators) (trailing : Bool)
    → IsPart (enumerators_from source start) source before now part (prepend_enumerator head wanted)
    → is (symbol_in source now part.after) symbol.Comma ≡ trailing
    → enum_with source (enumerator_declares source head ++ before) first tag head wanted
    ≡ enum_closed source now first tag (view.enumerators (map view.enum_item part.tree)) part.after trailing
enum-test source before now first start tag head part wanted trailing g comma =
    let v : tree.Enumerators = view.enumerators (map view.enum_item part.tree) in
    enum-read source before first start tag head wanted v g.read
    ∙ ap (λ ns. enum_closed source ns first tag v (enumerators_after start v) (is (symbol_in source ns (enumerators_after start v)) symbol.Comma)) (sym g.scoped)
    ∙ ap (λ n. enum_closed source now first tag v n (is (symbol_in source now n) symbol.Comma)) (sym g.ends)
    ∙ ap (enum_closed source now first tag v part.after) comma

-- a comma behind them, if there is one
comma-there : (test : Bool) (at end : ℕ) (comma : Option ℕ) → Passes test at end comma → test ≡ is_some comma
comma-there test at end None h = h
comma-there test at end (Some next) h = h.0

comma-behind : (test : Bool) (at end : ℕ) (comma : Option ℕ) → Passes test at end comma → trailing_after at (is_some comma) ≡ unwrap_or comma at
comma-behind test at end None h = refl
comma-behind test at end (Some next) h = sym h.1

pub enum-open : (source : Source) (before now : List Declared) (first start : ℕ) (tag : Option ℕ) (head : tree.Enumerator) (found : Option (Part (List EnumItem))) (part : Part (List EnumItem)) (wanted : Option tree.Enumerators) → found ≡ Some part
    → Gives (enumerators_from source start) source before now found (prepend_enumerator head wanted)
    → (comma : Option ℕ) → Passes (is (symbol_in source now part.after) symbol.Comma) part.after (length source.tokens) comma
    → (behind_comma : ℕ) → behind_comma ≡ unwrap_or comma part.after → is (symbol_in source now behind_comma) symbol.RightBrace ≡ false
    → enum_with source (enumerator_declares source head ++ before) first tag head wanted ≡ None
enum-open source before now first start tag head found part wanted there given comma passes behind_comma is_behind fails =
    let g = part-of (enumerators_from source start) source before now found part (prepend_enumerator head wanted) there given in
    let v : tree.Enumerators = view.enumerators (map view.enum_item part.tree) in
    let place : trailing_after part.after (is_some comma) ≡ behind_comma = comma-behind _ part.after (length source.tokens) comma passes ∙ sym is_behind in
    enum-test source before now first start tag head part wanted (is_some comma) g (comma-there _ part.after (length source.tokens) comma passes)
    ∙ ap (λ n. where_true (is (symbol_in source now n) symbol.RightBrace) (checked_specifier (tree.enum_with (span_of first (n + 1)) tag v (is_some comma)))) place
    ∙ ap (λ test. where_true test (checked_specifier (tree.enum_with (span_of first (behind_comma + 1)) tag v (is_some comma)))) fails

pub enum-made : (source : Source) (before now : List Declared) (first start : ℕ) (tag : Option ℕ) (head : tree.Enumerator) (found : Option (Part (List EnumItem))) (part : Part (List EnumItem)) (wanted : Option tree.Enumerators) → found ≡ Some part
    → Gives (enumerators_from source start) source before now found (prepend_enumerator head wanted)
    → (comma : Option ℕ) → Passes (is (symbol_in source now part.after) symbol.Comma) part.after (length source.tokens) comma
    → (behind_comma after height : ℕ) → behind_comma ≡ unwrap_or comma part.after → Passes (is (symbol_in source now behind_comma) symbol.RightBrace) behind_comma (length source.tokens) (Some after)
    → (trailing : Bool) → trailing ≡ is_some comma → (part.height < most_counted → height ≡ part.height + 1)
    → (made : Option (Part Specifier))
    → made ≡ (if nat_le height greatest_height then Some (record { tree = specifier.Enum (roll-EnumForm (record { span = record { first = first; after = after }; tag = tag; enumerators = Some part.tree; trailing = trailing })); height = height; after = after }) else None)
    → Gives (a_specifier source first) source before now made (enum_with source (enumerator_declares source head ++ before) first tag head wanted)
unfolding specifier_height specifier_declares
enum-made source before now first start tag head found part wanted there given comma passes behind_comma after height is_behind closes trailing is_trailing high made node =
    let g = part-of (enumerators_from source start) source before now found part (prepend_enumerator head wanted) there given in
    let v : tree.Enumerators = view.enumerators (map view.enum_item part.tree) in
    let place : trailing_after part.after trailing ≡ behind_comma = ap (trailing_after part.after) is_trailing ∙ comma-behind _ part.after (length source.tokens) comma passes ∙ sym is_behind in
    made-gives (a_specifier source first) source before now made _ height after (tree.enum_with (span_of first after) tag v trailing) _ node
    (enum-test source before now first start tag head part wanted trailing g (comma-there _ part.after (length source.tokens) comma passes ∙ sym is_trailing)
    ∙ ap (λ n. where_true (is (symbol_in source now n) symbol.RightBrace) (checked_specifier (tree.enum_with (span_of first (n + 1)) tag v trailing))) place
    ∙ holds _ _ closes.0 ∙ ap (λ n. checked_specifier (tree.enum_with (span_of first n) tag v trailing)) (sym closes.1))
    (view-enum-with _ tag part.tree trailing) refl
    (high (omega (arith, g.low)) ∙ ap (λ n. n + 1) g.high) refl closes.2 g.scoped (lit≤ tt)

-- `struct` and `enum` with a tag alone
pub struct-only-made : (source : Source) (names : List Declared) (first : ℕ) (tag : Option ℕ) (there after : ℕ) (made : Option (Part Specifier)) → tag ≡ Some there → after ≡ tag_after (first + 1) tag → (IsSome tag → after ≤ length source.tokens)
    → made ≡ (if nat_le 1 greatest_height then Some (record { tree = specifier.Struct (roll-StructForm (record { span = record { first = first; after = after }; tag = tag; members = None })); height = 1; after = after }) else None)
    → Gives (a_specifier source first) source names names made (struct_tagged first tag)
unfolding specifier_height specifier_declares
struct-only-made source names first None there after made stands next within node = absurd (cc)
struct-only-made source names first (Some tag) there after made stands next within node =
    let place : first + 2 ≡ after = omega (arith, next) in
    made-gives (a_specifier source first) source names names made _ 1 after (tree.struct_only (span_of first after) (Some tag)) _ node
    (ap (λ n. Some (tree.struct_only (span_of first n) (Some tag))) place)
    (view-struct-only _ (Some tag)) refl refl refl (within refl) refl (lit≤ tt)

pub enum-only-made : (source : Source) (names : List Declared) (first : ℕ) (tag : Option ℕ) (there after : ℕ) (made : Option (Part Specifier)) → tag ≡ Some there → after ≡ tag_after (first + 1) tag → (IsSome tag → after ≤ length source.tokens)
    → made ≡ (if nat_le 1 greatest_height then Some (record { tree = specifier.Enum (roll-EnumForm (record { span = record { first = first; after = after }; tag = tag; enumerators = None; trailing = false })); height = 1; after = after }) else None)
    → Gives (a_specifier source first) source names names made (enum_tagged first tag)
unfolding specifier_height specifier_declares
enum-only-made source names first None there after made stands next within node = absurd (cc)
enum-only-made source names first (Some tag) there after made stands next within node =
    let place : first + 2 ≡ after = omega (arith, next) in
    made-gives (a_specifier source first) source names names made _ 1 after (tree.enum_only (span_of first after) (Some tag) false) _ node
    (ap (λ n. Some (tree.enum_only (span_of first n) (Some tag) false)) place)
    (view-enum-only _ (Some tag) false) refl refl refl (within refl) refl (lit≤ tt)

-- enumerators
pub bare-made : (source : Source) (before now : List Declared) (name after : ℕ) → after ≡ name + 1 → after ≤ length source.tokens → now ≡ declaration_of source false (Some name) ++ before
    → IsPart (an_enumerator source) source before now (record { tree = roll-EnumItem (record { span = record { first = name; after = after }; name = name; value = None }); height = 1; after = after }) (Some (tree.bare (span_of name (name + 1)) name))
unfolding enumerator_height enumerator_declares
bare-made source before now name after next within declares =
    part-is (an_enumerator source) source before now _ 1 after (tree.bare (span_of name after) name) _
    (ap (λ n. Some (tree.bare (span_of name n) name)) (sym next))
    (view-bare _ name) refl refl (lit≤ tt) refl within declares

pub valued-made : (source : Source) (before names now : List Declared) (found : Option (Part Expr)) (part : Part Expr) (wanted : Option tree.Expr) → found ≡ Some part
    → Gives (an_expr source) source before names found wanted
    → (name height : ℕ) → (1 < most_counted → part.height < most_counted → height ≡ above 1 part.height) → now ≡ declaration_of source false (Some name) ++ names
    → IsPart (an_enumerator source) source before now (record { tree = roll-EnumItem (record { span = record { first = name; after = part.after }; name = name; value = Some part.tree }); height = height; after = part.after }) (valued_from name wanted)
unfolding enumerator_height enumerator_declares
valued-made source before names now found part wanted there given name height high declares =
    let g = part-of (an_expr source) source before names found part wanted there given in
    let v : tree.Expr = view.expr part.tree in
    let as_kept : height ≡ above 1 part.height = high (omega arith) (omega (arith, g.low)) in
    part-is (an_enumerator source) source before now _ height part.after (tree.valued (span_of name part.after) name v) _
    (ap (valued_from name) g.read ∙ ap (λ n. Some (tree.valued (span_of name n) name v)) (sym g.ends))
    (view-valued _ name part.tree) refl
    (as_kept ∙ ap (above 1) g.high) (omega (arith, as_kept, g.low)) refl g.within
    (behind (declaration_of source false (Some name)) (expr_declares source v) now names before declares g.scoped)
