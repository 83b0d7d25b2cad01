-- What reading an expression comes to, step by step.
use Rattle.std.proofs.Common.{◌≡◌, ◌≤◌, ◌<◌, ℕ, zero, suc, ◌+◌, ◌-◌, Bool, true, false, ◌&&◌, ◌⊎◌, ⊎_elim, List, ◌++◌, length, map, [], Option, Some, None, Result, IfOk, lit≤, refl, sym, ap, ◌∙◌, subst, arith, if◌then◌else◌}
use Rattle.dm_token.specs.Limits.{greatest_height}
use Rattle.dm_syn.specs.declared.declared.Declared.{Declared}
use Rattle.dm_syn.specs.declared.symbol.Symbol.{Symbol}
use Rattle.dm_syn.specs.declared.symbol.Symbol.TheVariants as symbol
use Rattle.dm_syn.specs.declared.expression.Expr.{Expr}
use Rattle.dm_syn.specs.declared.expression.ExprForm.{ExprForm}
use Rattle.dm_syn.specs.declared.expression.ExprForm.TheVariants as form
use Rattle.dm_syn.specs.declared.declaration.TypeName.{TypeName}
use Rattle.dm_syn.specs.Symbols.{is, is_identifier, begins_specifiers, infix_level}
use Rattle.dm_syn.specs.Sources.{Source, symbol_in}
use Rattle.dm_syn.specs.Trees as tree
use Rattle.dm_syn.specs.Views as view
use Rattle.dm_syn.specs.Spans.{expr_span, exprs_after, type_name_span}
use Rattle.dm_syn.specs.Heights.{expr_height}
use Rattle.dm_syn.specs.Scopes.{expr_declares, type_name_declares}
use Rattle.dm_syn.specs.Grammar.{level, prefix_level}
use Rattle.dm_pexpr.specs.declared.part.Part.{Part}
use Rattle.dm_pexpr.specs.Parsing.{Parts, no_parts, lower, span_of, where_true, checked_expr, more_exprs, more_from, prepend_expr, all_turns, arguments, type_name_of, paren_from, cast_from, cast_with, sizeof_name_from, sizeof_expr_from, front_kind, front_of, enclosing, measuring, Front, prefixing, no_front, Suffix, operating, assigning, no_suffix, turn, assign_from, suffix_kind, suffix_behind, goes_on, conditional_from, conditional_with, comma_from, separating, and_then, grown, grown_from, expr_of, specifiers_of, declarator_of}
use Rattle.dm_pexpr.specs.Parts.{Kind, IsPart, Gives, an_expr, a_type_name, exprs_from, behind_all, comma_node, operated_from, prefixed_from, member_from}
use Rattle.dm_pexpr.proofs.Expressions.{holds, if-true, if-false}
use Rattle.dm_pexpr.proofs.SymbolLemmas.{le-true, le-false}
use Rattle.dm_pexpr.proofs.ViewLemmas.{view-name, view-constant, view-literal}
use Rattle.dm_pexpr.proofs.TestLemmas.{fails}

-- what is given, where what was to be read is written in another way
pub gives-same : {A T : Type 0} (kind : Kind A T) (source : Source) (before after : List Declared) (found : Option (Part A)) (wanted other : Option T)
    → wanted ≡ other → Gives kind source before after found wanted → Gives kind source before after found other
gives-same kind source before after found wanted other same given = subst (λ w. Gives kind source before after found w) same given

pub ok-same : {A T E : Type 0} (kind : Kind A T) (source : Source) (before after : List Declared) (result : Result (Option (Part A)) E) (wanted other : Option T)
    → wanted ≡ other → IfOk result (λ found. Gives kind source before after found wanted) → IfOk result (λ found. Gives kind source before after found other)
ok-same kind source before after result wanted other same given = subst (λ w. IfOk result (λ found. Gives kind source before after found w)) same given

-- nothing is there
pub nothing-of : {A T : Type 0} (kind : Kind A T) (source : Source) (before after : List Declared) (found : Option (Part A)) (wanted : Option T)
    → found ≡ None → Gives kind source before after found wanted → wanted ≡ None
nothing-of kind source before after found wanted is given = subst (λ o. Gives kind source before after o wanted) is given

-- what a look at a token says
pub seen-is : (it seen wanted : Symbol) (result found : Bool) → it ≡ seen → result ≡ is it wanted → result ≡ found → is seen wanted ≡ found
seen-is it seen wanted result found same gives found_is = ap (λ s. is s wanted) (sym same) ∙ sym gives ∙ found_is

pub seen-begins : (it seen : Symbol) (result found : Bool) → it ≡ seen → result ≡ begins_specifiers it → result ≡ found → begins_specifiers seen ≡ found
seen-begins it seen result found same gives found_is = ap begins_specifiers (sym same) ∙ sym gives ∙ found_is

pub not-end : (it wanted : Symbol) (result : Bool) → result ≡ is it wanted → result ≡ true → is symbol.End wanted ≡ false → it ≡ symbol.End → ⊥
not-end it wanted result gives found other ends = let both : true ≡ false = sym found ∙ gives ∙ ap (λ s. is s wanted) ends ∙ other in cc

pub begins-there : (it : Symbol) (result : Bool) → result ≡ begins_specifiers it → result ≡ true → it ≡ symbol.End → ⊥
begins-there it result gives found ends = let both : true ≡ false = sym found ∙ gives ∙ ap begins_specifiers ends in cc

pub not-the-end : (it : Symbol) → is symbol.End it ≡ false → it ≡ symbol.End → ⊥
not-the-end it other ends = let both : true ≡ false = sym (ap (λ s. is symbol.End s) ends) ∙ other in cc

-- numbers
pub below-le : (m n : ℕ) → m < n → m ≤ n
below-le m n h = omega (arith, h)

pub none-left : (n : ℕ) → n ≤ 0 → n ≡ 0
none-left n h = omega (arith, h)

-- the depth
pub less : (depth : ℕ) → (depth ≡ 0 → ⊥) → depth ≡ suc (depth - 1)
less depth some = by depth refl
  where
    by : (n : ℕ) → depth ≡ n → depth ≡ suc (depth - 1)
    by zero e = absurd (some e)
    by (suc n) e = omega (arith, e)

-- no part is read without depth
pub no-depth : (source : Source) (depth : ℕ) → depth ≡ 0 → lower source depth ≡ no_parts
unfolding lower
no-depth source depth e = ap (lower source) e

-- what is read is read of parts with one less depth
pub one-deeper : (source : Source) (depth : ℕ) → (depth ≡ 0 → ⊥)
    → lower source depth ≡ record { expr = expr_of source (lower source (depth - 1)); specifiers = specifiers_of source (lower source (depth - 1)); declarator = declarator_of source (lower source (depth - 1)) }
unfolding lower
one-deeper source depth some = ap (lower source) (less depth some)

pub expr-deeper : (source : Source) (depth least : ℕ) (names : List Declared) (at : ℕ) → (depth ≡ 0 → ⊥)
    → grown_from source (lower source (depth - 1)) least names (front_of source (lower source (depth - 1)) names at (front_kind (symbol_in source names at))) ≡ (lower source depth).expr least names at
unfolding expr_of
expr-deeper source depth least names at some = sym (ap (λ (parts : Parts). parts.expr least names at) (one-deeper source depth some))

-- the front of an expression: one token
pub leaf-read : (source : Source) (parts : Parts) (names : List Declared) (at : ℕ) (it : Symbol) (leaf : Part Expr) (its_form : ExprForm) (whole : tree.Expr)
    → it ≡ symbol_in source names at → front_of source parts names at (front_kind it) ≡ Some whole → at < length source.tokens
    → leaf ≡ record { tree = record { span = span_of at (at + 1); form = its_form }; height = 1; after = at + 1 }
    → view.expr (record { span = span_of at (at + 1); form = its_form }) ≡ whole → expr_span whole ≡ span_of at (at + 1) → expr_height whole ≡ 1 → expr_declares source whole ≡ []
    → Gives (an_expr source) source names names (Some leaf) (front_of source parts names at (front_kind (symbol_in source names at)))
leaf-read source parts names at it leaf its_form whole stands reads there is seen spans high declares =
    let wants : front_of source parts names at (front_kind (symbol_in source names at)) ≡ Some whole = ap (λ s. front_of source parts names at (front_kind s)) (sym stands) ∙ reads in
    subst (λ (w : Option tree.Expr). Gives (an_expr source) source names names (Some leaf) w) (sym wants)
    (subst (λ (leaf : Part Expr). Gives (an_expr source) source names names (Some leaf) (Some whole)) (sym is)
    (record {
      read = ap Some (sym seen);
      starts = ap (λ (span : _). span.first) (sym spans ∙ ap expr_span (sym seen));
      high = sym high ∙ ap expr_height (sym seen);
      low = lit≤ tt;
      ends = ap (λ (span : _). span.after) (sym spans ∙ ap expr_span (sym seen));
      within = omega (arith, there);
      scoped = ap (λ those. those ++ names) (sym declares ∙ ap (expr_declares source) (sym seen));
    }))

pub name-read : (source : Source) (parts : Parts) (names : List Declared) (at : ℕ) (leaf : Part Expr) → symbol.Identifier ≡ symbol_in source names at → at < length source.tokens
    → leaf ≡ record { tree = record { span = span_of at (at + 1); form = form.Name }; height = 1; after = at + 1 }
    → Gives (an_expr source) source names names (Some leaf) (front_of source parts names at (front_kind (symbol_in source names at)))
unfolding front_of expr_height expr_declares
name-read source parts names at leaf stands there is =
    leaf-read source parts names at symbol.Identifier leaf form.Name (tree.name (span_of at (at + 1))) stands refl there is (view-name _) refl refl refl

pub constant-read : (source : Source) (parts : Parts) (names : List Declared) (at : ℕ) (leaf : Part Expr) → symbol.Constant ≡ symbol_in source names at → at < length source.tokens
    → leaf ≡ record { tree = record { span = span_of at (at + 1); form = form.Constant }; height = 1; after = at + 1 }
    → Gives (an_expr source) source names names (Some leaf) (front_of source parts names at (front_kind (symbol_in source names at)))
unfolding front_of expr_height expr_declares
constant-read source parts names at leaf stands there is =
    leaf-read source parts names at symbol.Constant leaf form.Constant (tree.constant (span_of at (at + 1))) stands refl there is (view-constant _) refl refl refl

pub literal-read : (source : Source) (parts : Parts) (names : List Declared) (at : ℕ) (leaf : Part Expr) → symbol.Literal ≡ symbol_in source names at → at < length source.tokens
    → leaf ≡ record { tree = record { span = span_of at (at + 1); form = form.Literal }; height = 1; after = at + 1 }
    → Gives (an_expr source) source names names (Some leaf) (front_of source parts names at (front_kind (symbol_in source names at)))
unfolding front_of expr_height expr_declares
literal-read source parts names at leaf stands there is =
    leaf-read source parts names at symbol.Literal leaf form.Literal (tree.literal (span_of at (at + 1))) stands refl there is (view-literal _) refl refl refl

-- something in parentheses, `sizeof`, a prefix operator
pub front-is : (source : Source) (parts : Parts) (names : List Declared) (at : ℕ) (it : Symbol) (wanted : Option tree.Expr) → it ≡ symbol_in source names at
    → wanted ≡ front_of source parts names at (front_kind it) → wanted ≡ front_of source parts names at (front_kind (symbol_in source names at))
front-is source parts names at it wanted stands is = is ∙ ap (λ s. front_of source parts names at (front_kind s)) stands

pub enclosed-name : (source : Source) (parts : Parts) (names : List Declared) (at : ℕ) → begins_specifiers (symbol_in source names (at + 1)) ≡ true
    → cast_from source parts names at (type_name_of source parts names (at + 1)) ≡ front_of source parts names at enclosing
unfolding front_of
enclosed-name source parts names at begins = sym (if-true _ _ _ begins)

pub enclosed-expr : (source : Source) (parts : Parts) (names : List Declared) (at : ℕ) → begins_specifiers (symbol_in source names (at + 1)) ≡ false
    → paren_from source names at (parts.expr 0 names (at + 1)) ≡ front_of source parts names at enclosing
unfolding front_of
enclosed-expr source parts names at begins = sym (if-false _ _ _ begins)

-- the type of a cast
pub cast-behind : (source : Source) (parts : Parts) (before now : List Declared) (at next : ℕ) (name : Part TypeName) (wanted : Option tree.TypeName)
    → IsPart (a_type_name source) source before now name wanted → is (symbol_in source now name.after) symbol.RightParen ≡ true → next ≡ name.after + 1
    → cast_with at (view.type_name name.tree) (parts.expr 13 now next) ≡ cast_from source parts before at wanted
cast-behind source parts before now at next name wanted name_is closed after =
    let k = name_is in
    let v : tree.TypeName = view.type_name name.tree in
    let test : is (symbol_in source (type_name_declares source v ++ before) (type_name_span v).after) symbol.RightParen ≡ true = cc (k.scoped, k.ends, closed) in
    let end : next ≡ (type_name_span v).after + 1 = after ∙ ap (λ n. n + 1) k.ends in
    ap (λ n. cast_with at v (parts.expr 13 now n)) end ∙ ap (λ ns. cast_with at v (parts.expr 13 ns ((type_name_span v).after + 1))) k.scoped
    ∙ sym (ap (cast_from source parts before at) k.read ∙ holds _ _ test)

pub no-cast-behind : (source : Source) (parts : Parts) (before now : List Declared) (at : ℕ) (name : Part TypeName) (wanted : Option tree.TypeName)
    → IsPart (a_type_name source) source before now name wanted → is (symbol_in source now name.after) symbol.RightParen ≡ false
    → cast_from source parts before at wanted ≡ None
no-cast-behind source parts before now at name wanted name_is unclosed =
    let k = name_is in
    let v : tree.TypeName = view.type_name name.tree in
    let test : is (symbol_in source (type_name_declares source v ++ before) (type_name_span v).after) symbol.RightParen ≡ false = cc (k.scoped, k.ends, unclosed) in
    ap (cast_from source parts before at) k.read ∙ fails _ _ test

-- `sizeof`
pub measured-name : (source : Source) (parts : Parts) (names : List Declared) (at inside : ℕ)
    → (is (symbol_in source names (at + 1)) symbol.LeftParen && begins_specifiers (symbol_in source names (at + 1 + 1))) ≡ true → inside ≡ at + 1 + 1
    → sizeof_name_from source names at (type_name_of source parts names inside) ≡ front_of source parts names at measuring
unfolding front_of
measured-name source parts names at inside stands after =
    let two : at + 1 + 1 ≡ at + 2 = omega arith in
    ap (λ n. sizeof_name_from source names at (type_name_of source parts names n)) (after ∙ two)
    ∙ sym (if-true _ _ _ (ap (λ n. is (symbol_in source names (at + 1)) symbol.LeftParen && begins_specifiers (symbol_in source names n)) (sym two) ∙ stands))

pub measured-expr : (source : Source) (parts : Parts) (names : List Declared) (at : ℕ)
    → (is (symbol_in source names (at + 1)) symbol.LeftParen && begins_specifiers (symbol_in source names (at + 1 + 1))) ≡ false
    → sizeof_expr_from at (parts.expr 14 names (at + 1)) ≡ front_of source parts names at measuring
unfolding front_of
measured-expr source parts names at stands =
    let two : at + 1 + 1 ≡ at + 2 = omega arith in
    sym (if-false _ _ _ (ap (λ n. is (symbol_in source names (at + 1)) symbol.LeftParen && begins_specifiers (symbol_in source names n)) (sym two) ∙ stands))

-- an operand with what goes on behind it
abbrev pub GrowsFrom : Source → Parts → ℕ → List Declared → List Declared → Part Expr → Option tree.Expr → ℕ → Type 0
GrowsFrom source parts least before now left wanted turns =
    IsPart (an_expr source) source before now left (Some (view.expr left.tree)) × (grown_from source parts least before wanted ≡ grown source parts least before turns (view.expr left.tree))

pub read-again : {A T : Type 0} (kind : Kind A T) (source : Source) (before now : List Declared) (part : Part A) (wanted : Option T)
    → IsPart kind source before now part wanted → IsPart kind source before now part (Some (kind.view part.tree))
read-again kind source before now part wanted k = subst (λ w. IsPart kind source before now part w) k.read k

pub grows-first : (source : Source) (parts : Parts) (least : ℕ) (before now : List Declared) (left : Part Expr) (wanted : Option tree.Expr)
    → IsPart (an_expr source) source before now left wanted → least ≤ level source (view.expr left.tree) → GrowsFrom source parts least before now left wanted greatest_height
grows-first source parts least before now left wanted left_is low = (
  read-again (an_expr source) source before now left wanted left_is,
  ap (grown_from source parts least before) left_is.read ∙ if-true _ _ _ (le-true least (level source (view.expr left.tree)) low),
)

pub grows-not : (source : Source) (parts : Parts) (least : ℕ) (before now : List Declared) (left : Part Expr) (wanted : Option tree.Expr)
    → IsPart (an_expr source) source before now left wanted → level source (view.expr left.tree) < least → grown_from source parts least before wanted ≡ None
grows-not source parts least before now left wanted left_is high =
    ap (grown_from source parts least before) left_is.read ∙ if-false _ _ _ (le-false least (level source (view.expr left.tree)) high)

-- what goes on behind it, as the code sees it
seen-suffix : (source : Source) (before now : List Declared) (left : Part Expr) (wanted : Option tree.Expr) → IsPart (an_expr source) source before now left wanted
    → suffix_kind (symbol_in source now left.after) ≡ suffix_behind source before (view.expr left.tree)
seen-suffix source before now left wanted k = ap (λ ns. suffix_kind (symbol_in source ns left.after)) k.scoped ∙ ap (λ n. suffix_kind (symbol_in source (expr_declares source (view.expr left.tree) ++ before) n)) k.ends

pub grows-on : (source : Source) (parts : Parts) (least : ℕ) (before now : List Declared) (left : Part Expr) (wanted : Option tree.Expr) (turns : ℕ)
    → GrowsFrom source parts least before now left wanted turns → goes_on least (level source (view.expr left.tree)) (suffix_kind (symbol_in source now left.after)) ≡ true → (turns ≡ 0 → ⊥)
    → grown_from source parts least before wanted ≡ and_then (grown source parts least before (turns - 1)) (turn source parts now (view.expr left.tree) left.after (suffix_kind (symbol_in source now left.after)))
unfolding grown
grows-on source parts least before now left wanted turns so goes some =
    let v : tree.Expr = view.expr left.tree in
    let k = so.0 in
    let seen = seen-suffix source before now left _ k in
    so.1 ∙ ap (λ n. grown source parts least before n v) (less turns some)
    ∙ if-true _ _ _ (ap (goes_on least (level source v)) (sym seen) ∙ goes)
    ∙ ap (λ ns. and_then (grown source parts least before (turns - 1)) (turn source parts ns v (expr_span v).after (suffix_behind source before v))) (sym k.scoped)
    ∙ ap (λ n. and_then (grown source parts least before (turns - 1)) (turn source parts now v n (suffix_behind source before v))) (sym k.ends)
    ∙ ap (λ s. and_then (grown source parts least before (turns - 1)) (turn source parts now v left.after s)) (sym seen)

-- one more turn
pub grows-more : (source : Source) (parts : Parts) (least : ℕ) (before now later : List Declared) (left whole : Part Expr) (wanted : Option tree.Expr) (turns : ℕ)
    → GrowsFrom source parts least before now left wanted turns → goes_on least (level source (view.expr left.tree)) (suffix_kind (symbol_in source now left.after)) ≡ true → (turns ≡ 0 → ⊥)
    → IsPart (an_expr source) source before later whole (turn source parts now (view.expr left.tree) left.after (suffix_kind (symbol_in source now left.after)))
    → GrowsFrom source parts least before later whole wanted (turns - 1)
grows-more source parts least before now later left whole wanted turns so goes some k = (
  read-again (an_expr source) source before later whole _ k,
  grows-on source parts least before now left wanted turns so goes some ∙ ap (and_then (grown source parts least before (turns - 1))) k.read,
)

-- no more
pub grows-none : (source : Source) (parts : Parts) (least : ℕ) (before now : List Declared) (left : Part Expr) (wanted : Option tree.Expr) (turns : ℕ)
    → GrowsFrom source parts least before now left wanted turns → goes_on least (level source (view.expr left.tree)) (suffix_kind (symbol_in source now left.after)) ≡ true → (turns ≡ 0 → ⊥)
    → turn source parts now (view.expr left.tree) left.after (suffix_kind (symbol_in source now left.after)) ≡ None → grown_from source parts least before wanted ≡ None
grows-none source parts least before now left wanted turns so goes some nothing =
    grows-on source parts least before now left wanted turns so goes some ∙ ap (and_then (grown source parts least before (turns - 1))) nothing

grown-done : (source : Source) (parts : Parts) (least : ℕ) (before : List Declared) (turns : ℕ) (left : tree.Expr) → goes_on least (level source left) (suffix_behind source before left) ≡ false
    → grown source parts least before turns left ≡ Some left
unfolding grown
grown-done source parts least before zero left stays = if-false _ _ _ stays
grown-done source parts least before (suc turns) left stays = if-false _ _ _ stays

pub grows-to : (source : Source) (parts : Parts) (least : ℕ) (before now : List Declared) (left : Part Expr) (wanted : Option tree.Expr) (turns : ℕ)
    → GrowsFrom source parts least before now left wanted turns → goes_on least (level source (view.expr left.tree)) (suffix_kind (symbol_in source now left.after)) ≡ false
    → IsPart (an_expr source) source before now left (grown_from source parts least before wanted)
grows-to source parts least before now left wanted turns so stays =
    subst (λ (w : Option tree.Expr). IsPart (an_expr source) source before now left w)
    (sym (so.1 ∙ grown-done source parts least before turns (view.expr left.tree) (ap (goes_on least (level source (view.expr left.tree))) (sym (seen-suffix source before now left _ so.0)) ∙ stays))) so.0

-- too many turns
pub grows-away : (source : Source) (parts : Parts) (least : ℕ) (before now : List Declared) (left : Part Expr) (wanted : Option tree.Expr) (turns : ℕ)
    → GrowsFrom source parts least before now left wanted turns → goes_on least (level source (view.expr left.tree)) (suffix_kind (symbol_in source now left.after)) ≡ true → turns ≡ 0
    → grown_from source parts least before wanted ≡ None
unfolding grown
grows-away source parts least before now left wanted turns so goes none =
    so.1 ∙ ap (λ n. grown source parts least before n (view.expr left.tree)) none
    ∙ if-true _ _ _ (ap (goes_on least (level source (view.expr left.tree))) (sym (seen-suffix source before now left _ so.0)) ∙ goes)

-- the third operand of `?:`
pub choice-behind : (source : Source) (parts : Parts) (names now : List Declared) (first : tree.Expr) (next : ℕ) (second : Part Expr) (wanted : Option tree.Expr)
    → IsPart (an_expr source) source names now second wanted → is (symbol_in source now second.after) symbol.Colon ≡ true → next ≡ second.after + 1
    → conditional_with first (view.expr second.tree) (parts.expr 2 now next) ≡ conditional_from source parts names first wanted
choice-behind source parts names now first next second wanted second_is stands after =
    let k = second_is in
    let v : tree.Expr = view.expr second.tree in
    let test : is (symbol_in source (expr_declares source v ++ names) (expr_span v).after) symbol.Colon ≡ true = cc (k.scoped, k.ends, stands) in
    let end : next ≡ (expr_span v).after + 1 = after ∙ ap (λ n. n + 1) k.ends in
    ap (λ n. conditional_with first v (parts.expr 2 now n)) end ∙ ap (λ ns. conditional_with first v (parts.expr 2 ns ((expr_span v).after + 1))) k.scoped
    ∙ sym (ap (conditional_from source parts names first) k.read ∙ holds _ _ test)

pub no-choice-behind : (source : Source) (parts : Parts) (names now : List Declared) (first : tree.Expr) (second : Part Expr) (wanted : Option tree.Expr)
    → IsPart (an_expr source) source names now second wanted → is (symbol_in source now second.after) symbol.Colon ≡ false
    → conditional_from source parts names first wanted ≡ None
no-choice-behind source parts names now first second wanted second_is stands =
    let k = second_is in
    let v : tree.Expr = view.expr second.tree in
    let test : is (symbol_in source (expr_declares source v ++ names) (expr_span v).after) symbol.Colon ≡ false = cc (k.scoped, k.ends, stands) in
    ap (conditional_from source parts names first) k.read ∙ fails _ _ test

-- the parts of a comma expression
comma-of : (start at : ℕ) (left : tree.Expr) (others : Option tree.Exprs) → at ≡ (expr_span left).after → comma_node (expr_span left).first start (prepend_expr left others) ≡ comma_from left at others
comma-of start at left None ends = refl
comma-of start at left (Some others) ends = ap (λ n. checked_expr (tree.comma (span_of (expr_span left).first (exprs_after n others)) (tree.more_exprs left others))) (sym ends)

pub comma-read : (source : Source) (parts : Parts) (before now : List Declared) (start first : ℕ) (left : Part Expr) (read : Option tree.Expr) (others : Option tree.Exprs)
    → IsPart (an_expr source) source before now left read → first ≡ left.tree.span.first
    → others ≡ more_exprs source parts (all_turns source) now left.after
    → comma_node first start (prepend_expr (view.expr left.tree) others) ≡ turn source parts now (view.expr left.tree) left.after separating
unfolding turn
comma-read source parts before now start first left read others k begins are =
    ap (λ n. comma_node n start (prepend_expr (view.expr left.tree) others)) (begins ∙ k.starts)
    ∙ comma-of start left.after (view.expr left.tree) others k.ends ∙ ap (comma_from (view.expr left.tree) left.after) are

-- arguments
pub no-arguments : (source : Source) (parts : Parts) (names : List Declared) (at : ℕ) → is (symbol_in source names at) symbol.RightParen ≡ true → arguments source parts names at ≡ Some tree.no_exprs
unfolding arguments
no-arguments source parts names at closed = if-true _ _ _ closed

pub first-argument : (source : Source) (parts : Parts) (names now : List Declared) (at : ℕ) (first : Part Expr) → is (symbol_in source names at) symbol.RightParen ≡ false
    → IsPart (an_expr source) source names now first (parts.expr 1 names at)
    → prepend_expr (view.expr first.tree) (more_exprs source parts (all_turns source) now first.after) ≡ arguments source parts names at
unfolding arguments
first-argument source parts names now at first unclosed k =
    let v : tree.Expr = view.expr first.tree in
    ap (λ ns. prepend_expr v (more_exprs source parts (all_turns source) ns first.after)) k.scoped
    ∙ ap (λ n. prepend_expr v (more_exprs source parts (all_turns source) (expr_declares source v ++ names) n)) k.ends
    ∙ sym (if-false _ _ _ unclosed ∙ ap (more_from (λ first. more_exprs source parts (all_turns source) (expr_declares source first ++ names) (expr_span first).after)) k.read)

pub no-first-argument : (source : Source) (parts : Parts) (names : List Declared) (at : ℕ) → is (symbol_in source names at) symbol.RightParen ≡ false
    → parts.expr 1 names at ≡ None → arguments source parts names at ≡ None
unfolding arguments
no-first-argument source parts names at unclosed nothing =
    if-false _ _ _ unclosed ∙ ap (more_from (λ first. more_exprs source parts (all_turns source) (expr_declares source first ++ names) (expr_span first).after)) nothing

-- more expressions, each behind a comma
pub more-exprs-end : (source : Source) (parts : Parts) (turns : ℕ) (names : List Declared) (at : ℕ) → is (symbol_in source names at) symbol.Comma ≡ false
    → more_exprs source parts turns names at ≡ Some tree.no_exprs
unfolding more_exprs
more-exprs-end source parts zero names at stands = refl
more-exprs-end source parts (suc turns) names at stands = if-false _ _ _ stands

pub more-exprs-out : (source : Source) (parts : Parts) (turns : ℕ) (names : List Declared) (at : ℕ) → turns ≡ 0 → more_exprs source parts turns names at ≡ Some tree.no_exprs
unfolding more_exprs
more-exprs-out source parts turns names at none = ap (λ n. more_exprs source parts n names at) none

more-exprs-on : (source : Source) (parts : Parts) (turns : ℕ) (names : List Declared) (at next : ℕ) → 0 < turns → is (symbol_in source names at) symbol.Comma ≡ true → next ≡ at + 1
    → more_exprs source parts turns names at ≡ more_from (λ first. more_exprs source parts (turns - 1) (expr_declares source first ++ names) (expr_span first).after) (parts.expr 1 names next)
unfolding more_exprs
more-exprs-on source parts turns names at next some stands after =
    ap (λ n. more_exprs source parts n names at) (less turns (λ none. omega (arith, none, some))) ∙ if-true _ _ _ stands
    ∙ ap (λ n. more_from (λ first. more_exprs source parts (turns - 1) (expr_declares source first ++ names) (expr_span first).after) (parts.expr 1 names n)) (sym after)

pub more-exprs-next : (source : Source) (parts : Parts) (turns : ℕ) (names now : List Declared) (at next : ℕ) (first : Part Expr) → 0 < turns → is (symbol_in source names at) symbol.Comma ≡ true → next ≡ at + 1
    → IsPart (an_expr source) source names now first (parts.expr 1 names next)
    → more_exprs source parts turns names at ≡ prepend_expr (view.expr first.tree) (more_exprs source parts (turns - 1) now first.after)
more-exprs-next source parts turns names now at next first some stands after k =
    let v : tree.Expr = view.expr first.tree in
    more-exprs-on source parts turns names at next some stands after
    ∙ ap (more_from (λ first. more_exprs source parts (turns - 1) (expr_declares source first ++ names) (expr_span first).after)) k.read
    ∙ ap (λ ns. prepend_expr v (more_exprs source parts (turns - 1) ns (expr_span v).after)) (sym k.scoped)
    ∙ ap (λ n. prepend_expr v (more_exprs source parts (turns - 1) now n)) (sym k.ends)

pub more-exprs-stop : (source : Source) (parts : Parts) (turns : ℕ) (names : List Declared) (at next : ℕ) → 0 < turns → is (symbol_in source names at) symbol.Comma ≡ true → next ≡ at + 1
    → parts.expr 1 names next ≡ None → more_exprs source parts turns names at ≡ None
more-exprs-stop source parts turns names at next some stands after nothing =
    more-exprs-on source parts turns names at next some stands after
    ∙ ap (more_from (λ first. more_exprs source parts (turns - 1) (expr_declares source first ++ names) (expr_span first).after)) nothing

-- an operand and what goes on behind it
pub turn-is : (source : Source) (parts : Parts) (names : List Declared) (left : tree.Expr) (at next : ℕ) (it kind : Symbol) (wanted : ℕ → Option tree.Expr) → next ≡ at + 1 → it ≡ kind
    → wanted (at + 1) ≡ turn source parts names left at (suffix_kind kind) → wanted next ≡ turn source parts names left at (suffix_kind it)
turn-is source parts names left at next it kind wanted after is same = ap wanted after ∙ same ∙ ap (λ s. turn source parts names left at (suffix_kind s)) (sym is)

-- an operator by its level, if it is one
abbrev operating_at : Option ℕ → Suffix
operating_at None = no_suffix
operating_at (Some level) = operating level

operated-kind : (it : Symbol) → (it ≡ symbol.LeftBracket → ⊥) → (it ≡ symbol.LeftParen → ⊥) → (it ≡ symbol.Dot → ⊥) → (it ≡ symbol.Arrow → ⊥) → (it ≡ symbol.Increment → ⊥)
    → (it ≡ symbol.Question → ⊥) → (it ≡ symbol.Equals → ⊥) → (it ≡ symbol.Compound → ⊥) → (it ≡ symbol.Comma → ⊥) → suffix_kind it ≡ operating_at (infix_level it)
operated-kind symbol.LeftBracket a b c d e f g h i = absurd (a refl)
operated-kind symbol.LeftParen a b c d e f g h i = absurd (b refl)
operated-kind symbol.Dot a b c d e f g h i = absurd (c refl)
operated-kind symbol.Arrow a b c d e f g h i = absurd (d refl)
operated-kind symbol.Increment a b c d e f g h i = absurd (e refl)
operated-kind symbol.Question a b c d e f g h i = absurd (f refl)
operated-kind symbol.Equals a b c d e f g h i = absurd (g refl)
operated-kind symbol.Compound a b c d e f g h i = absurd (h refl)
operated-kind symbol.Comma a b c d e f g h i = absurd (i refl)
operated-kind _ a b c d e f g h i = refl

operated-at : (source : Source) (parts : Parts) (names : List Declared) (left : tree.Expr) (at : ℕ) (level : Option ℕ) → operated_from parts names left at level ≡ turn source parts names left at (operating_at level)
unfolding turn
operated-at source parts names left at None = refl
operated-at source parts names left at (Some level) = refl

pub operated-is : (source : Source) (parts : Parts) (names : List Declared) (left : tree.Expr) (at : ℕ) (it : Symbol)
    → (it ≡ symbol.LeftBracket → ⊥) → (it ≡ symbol.LeftParen → ⊥) → (it ≡ symbol.Dot → ⊥) → (it ≡ symbol.Arrow → ⊥) → (it ≡ symbol.Increment → ⊥)
    → (it ≡ symbol.Question → ⊥) → (it ≡ symbol.Equals → ⊥) → (it ≡ symbol.Compound → ⊥) → (it ≡ symbol.Comma → ⊥)
    → operated_from parts names left at (infix_level it) ≡ turn source parts names left at (suffix_kind it)
operated-is source parts names left at it a b c d e f g h i =
    operated-at source parts names left at (infix_level it) ∙ ap (turn source parts names left at) (sym (operated-kind it a b c d e f g h i))

-- a prefix operator by the least level of its operand, if it is one
abbrev prefixing_at : Option ℕ → Front
prefixing_at None = no_front
prefixing_at (Some level) = prefixing level

prefixed-kind : (it : Symbol) → (it ≡ symbol.Identifier → ⊥) → (it ≡ symbol.Constant → ⊥) → (it ≡ symbol.Literal → ⊥) → (it ≡ symbol.LeftParen → ⊥) → (it ≡ symbol.Sizeof → ⊥)
    → front_kind it ≡ prefixing_at (prefix_level it)
prefixed-kind symbol.Identifier a b c d e = absurd (a refl)
prefixed-kind symbol.Constant a b c d e = absurd (b refl)
prefixed-kind symbol.Literal a b c d e = absurd (c refl)
prefixed-kind symbol.LeftParen a b c d e = absurd (d refl)
prefixed-kind symbol.Sizeof a b c d e = absurd (e refl)
prefixed-kind _ a b c d e = refl

prefixed-at : (source : Source) (parts : Parts) (names : List Declared) (at : ℕ) (level : Option ℕ) → prefixed_from parts names at level ≡ front_of source parts names at (prefixing_at level)
unfolding front_of
prefixed-at source parts names at None = refl
prefixed-at source parts names at (Some level) = refl

pub prefixed-is : (source : Source) (parts : Parts) (names : List Declared) (at : ℕ) (it : Symbol) → it ≡ symbol_in source names at
    → (it ≡ symbol.Identifier → ⊥) → (it ≡ symbol.Constant → ⊥) → (it ≡ symbol.Literal → ⊥) → (it ≡ symbol.LeftParen → ⊥) → (it ≡ symbol.Sizeof → ⊥)
    → prefixed_from parts names at (prefix_level it) ≡ front_of source parts names at (front_kind (symbol_in source names at))
prefixed-is source parts names at it stands a b c d e =
    prefixed-at source parts names at (prefix_level it) ∙ ap (front_of source parts names at) (sym (prefixed-kind it a b c d e)) ∙ ap (λ s. front_of source parts names at (front_kind s)) stands

-- an assignment
assigned-kind : (it : Symbol) → (it ≡ symbol.Equals) ⊎ (it ≡ symbol.Compound) → suffix_kind it ≡ assigning
assigned-kind it h = ⊎_elim (λ e. ap suffix_kind e) (λ e. ap suffix_kind e) h

pub assigned-is : (source : Source) (parts : Parts) (names : List Declared) (left : tree.Expr) (at next : ℕ) (it : Symbol) → next ≡ at + 1 → (it ≡ symbol.Equals) ⊎ (it ≡ symbol.Compound)
    → assign_from left at (parts.expr 1 names next) ≡ turn source parts names left at (suffix_kind it)
unfolding turn
assigned-is source parts names left at next it after is = ap (λ n. assign_from left at (parts.expr 1 names n)) after ∙ ap (turn source parts names left at) (sym (assigned-kind it is))

-- a member
pub selected-is : (source : Source) (parts : Parts) (names : List Declared) (left : tree.Expr) (at next : ℕ) (it : Symbol) → next ≡ at + 1 → it ≡ symbol.Dot
    → member_from source names left next false ≡ turn source parts names left at (suffix_kind it)
unfolding turn
selected-is source parts names left at next it after is =
    let two : at + 1 + 1 ≡ at + 2 = omega arith in
    ap (λ n. member_from source names left n false) after
    ∙ ap (λ n. where_true (is_identifier (symbol_in source names (at + 1))) (checked_expr (tree.member (span_of (expr_span left).first n) left (at + 1)))) two
    ∙ ap (λ s. turn source parts names left at (suffix_kind s)) (sym is)

pub followed-is : (source : Source) (parts : Parts) (names : List Declared) (left : tree.Expr) (at next : ℕ) (it : Symbol) → next ≡ at + 1 → it ≡ symbol.Arrow
    → member_from source names left next true ≡ turn source parts names left at (suffix_kind it)
unfolding turn
followed-is source parts names left at next it after is =
    let two : at + 1 + 1 ≡ at + 2 = omega arith in
    ap (λ n. member_from source names left n true) after
    ∙ ap (λ n. where_true (is_identifier (symbol_in source names (at + 1))) (checked_expr (tree.arrow (span_of (expr_span left).first n) left (at + 1)))) two
    ∙ ap (λ s. turn source parts names left at (suffix_kind s)) (sym is)
