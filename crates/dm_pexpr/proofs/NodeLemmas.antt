-- Expressions that are put together of parts.
use Rattle.std.proofs.Common.{◌≡◌, ◌≤◌, ◌<◌, ℕ, ◌+◌, true, false, List, ◌++◌, length, map, max, Option, Some, None, nat_le, refl, sym, ap, ◌∙◌, arith, lit≤, append_assoc, if◌then◌else◌}
use Rattle.dm_token.specs.Limits.{greatest_height}
use Rattle.dm_syn.specs.declared.declared.Declared.{Declared}
use Rattle.dm_syn.specs.declared.symbol.Symbol.TheVariants as symbol
use Rattle.dm_syn.specs.declared.expression.Expr.{Expr}
use Rattle.dm_syn.specs.declared.expression.ExprForm.{ExprForm}
use Rattle.dm_syn.specs.declared.expression.ExprForm.TheVariants as form
use Rattle.dm_syn.specs.declared.declaration.TypeName.{TypeName}
use Rattle.dm_syn.specs.Symbols.{is, is_identifier}
use Rattle.dm_syn.specs.Sources.{Source, symbol_in}
use Rattle.dm_syn.specs.Trees as tree
use Rattle.dm_syn.specs.Spans.{expr_span, exprs_after, type_name_span}
use Rattle.dm_syn.specs.Heights.{expr_height, exprs_height, type_name_height, above}
use Rattle.dm_syn.specs.Scopes.{expr_declares, exprs_declares, type_name_declares}
use Rattle.dm_syn.specs.Views as view
use Rattle.dm_pexpr.specs.declared.part.Part.{Part}
use Rattle.dm_pexpr.specs.Parsing.{checked_expr, span_of, paren_from, cast_with, sizeof_name_from, sizeof_expr_from, prefix_from, index_from, call_from, binary_from, assign_from, conditional_with}
use Rattle.dm_pexpr.specs.Counted.{most_counted}
use Rattle.dm_pexpr.specs.Parts.{IsPart, Gives, Passes, an_expr, a_type_name, exprs_from, member_from, comma_node}
use Rattle.dm_pexpr.proofs.Expressions.{holds}
use Rattle.dm_pexpr.proofs.PartLemmas.{made-gives, part-of}
use Rattle.dm_pexpr.proofs.ViewLemmas.{view-paren, view-cast, view-sizeof_name, view-sizeof_expr, view-prefix, view-index, view-call, view-binary, view-assign, view-conditional, view-member, view-arrow, view-postfix, view-comma}

-- what a node of the code is
abbrev pub made_node : ℕ → ℕ → ℕ → ExprForm → Option (Part Expr)
made_node first after height it = if nat_le height greatest_height then Some (record { tree = record { span = record { first = first; after = after }; form = it }; height = height; after = after }) else None

-- the node of an expression
pub node-gives : (source : Source) (before now : List Declared) (made : Option (Part Expr)) (first after height : ℕ) (it : ExprForm) (whole : tree.Expr) (wanted : Option tree.Expr)
    → made ≡ made_node first after height it
    → wanted ≡ checked_expr whole
    → view.expr (record { span = record { first = first; after = after }; form = it }) ≡ whole → first ≡ (expr_span whole).first → height ≡ expr_height whole → after ≡ (expr_span whole).after
    → after ≤ length source.tokens → now ≡ expr_declares source whole ++ before
    → Gives (an_expr source) source before now made wanted
node-gives source before now made first after height it whole wanted node wants seen starts high ends within scoped =
    made-gives (an_expr source) source before now made _ height after whole wanted node wants seen starts high ends within scoped (lit≤ tt)

pub paren-made : (source : Source) (before now : List Declared) (found : Option (Part Expr)) (part : Part Expr) (wanted : Option tree.Expr) → found ≡ Some part
    → Gives (an_expr source) source before now found wanted
    → (first after height : ℕ) (boxed : Expr) (made : Option (Part Expr))
    → Passes (is (symbol_in source now part.after) symbol.RightParen) part.after (length source.tokens) (Some after)
    → boxed ≡ part.tree → (part.height < most_counted → height ≡ part.height + 1) → made ≡ made_node first after height (form.Paren boxed)
    → Gives (an_expr source) source before now made (paren_from source before first wanted)
unfolding expr_height expr_declares
paren-made source before now found part wanted there given first after height boxed made passes same high node =
    let g = part-of (an_expr source) source before now found part wanted there given in
    let v : tree.Expr = view.expr part.tree in
    let taller : height ≡ part.height + 1 = high (omega (arith, g.low)) in
    let test : is (symbol_in source (expr_declares source v ++ before) (expr_span v).after) symbol.RightParen ≡ true = cc (g.scoped, g.ends, passes.0) in
    let end : (expr_span v).after + 1 ≡ after = cc (g.ends, passes.1) in
    node-gives source before now made first after height (form.Paren boxed) (tree.paren (span_of first after) v) _ node
    (ap (paren_from source before first) g.read ∙ holds _ _ test ∙ ap (λ n. checked_expr (tree.paren (span_of first n) v)) end)
    (view-paren _ boxed ∙ ap (λ e. tree.paren (span_of first after) (view.expr e)) same) refl
    (taller ∙ ap (λ n. n + 1) g.high) refl passes.2 g.scoped

pub sizeof-name-made : (source : Source) (before now : List Declared) (found : Option (Part TypeName)) (part : Part TypeName) (wanted : Option tree.TypeName) → found ≡ Some part
    → Gives (a_type_name source) source before now found wanted
    → (first after height : ℕ) (boxed : TypeName) (made : Option (Part Expr))
    → Passes (is (symbol_in source now part.after) symbol.RightParen) part.after (length source.tokens) (Some after)
    → boxed ≡ part.tree → (part.height < most_counted → height ≡ part.height + 1) → made ≡ made_node first after height (form.SizeofName boxed)
    → Gives (an_expr source) source before now made (sizeof_name_from source before first wanted)
unfolding expr_height expr_declares
sizeof-name-made source before now found part wanted there given first after height boxed made passes same high node =
    let g = part-of (a_type_name source) source before now found part wanted there given in
    let v : tree.TypeName = view.type_name part.tree in
    let taller : height ≡ part.height + 1 = high (omega (arith, g.low)) in
    let test : is (symbol_in source (type_name_declares source v ++ before) (type_name_span v).after) symbol.RightParen ≡ true = cc (g.scoped, g.ends, passes.0) in
    let end : (type_name_span v).after + 1 ≡ after = cc (g.ends, passes.1) in
    node-gives source before now made first after height (form.SizeofName boxed) (tree.sizeof_name (span_of first after) v) _ node
    (ap (sizeof_name_from source before first) g.read ∙ holds _ _ test ∙ ap (λ n. checked_expr (tree.sizeof_name (span_of first n) v)) end)
    (view-sizeof_name _ boxed ∙ ap (λ e. tree.sizeof_name (span_of first after) (view.type_name e)) same) refl
    (taller ∙ ap (λ n. n + 1) g.high) refl passes.2 g.scoped

pub sizeof-expr-made : (source : Source) (before now : List Declared) (found : Option (Part Expr)) (part : Part Expr) (wanted : Option tree.Expr) → found ≡ Some part
    → Gives (an_expr source) source before now found wanted
    → (first height : ℕ) (boxed : Expr) (made : Option (Part Expr))
    → boxed ≡ part.tree → (part.height < most_counted → height ≡ part.height + 1) → made ≡ made_node first part.after height (form.SizeofExpr boxed)
    → Gives (an_expr source) source before now made (sizeof_expr_from first wanted)
unfolding expr_height expr_declares
sizeof-expr-made source before now found part wanted there given first height boxed made same high node =
    let g = part-of (an_expr source) source before now found part wanted there given in
    let v : tree.Expr = view.expr part.tree in
    let taller : height ≡ part.height + 1 = high (omega (arith, g.low)) in
    node-gives source before now made first part.after height (form.SizeofExpr boxed) (tree.sizeof_expr (span_of first part.after) v) _ node
    (ap (sizeof_expr_from first) g.read ∙ ap (λ n. checked_expr (tree.sizeof_expr (span_of first n) v)) (sym g.ends))
    (view-sizeof_expr _ boxed ∙ ap (λ e. tree.sizeof_expr (span_of first part.after) (view.expr e)) same) refl
    (taller ∙ ap (λ n. n + 1) g.high) refl g.within g.scoped

pub prefix-made : (source : Source) (before now : List Declared) (found : Option (Part Expr)) (part : Part Expr) (wanted : Option tree.Expr) → found ≡ Some part
    → Gives (an_expr source) source before now found wanted
    → (first height : ℕ) (boxed : Expr) (made : Option (Part Expr))
    → boxed ≡ part.tree → (part.height < most_counted → height ≡ part.height + 1) → made ≡ made_node first part.after height (form.Prefix first boxed)
    → Gives (an_expr source) source before now made (prefix_from first wanted)
unfolding expr_height expr_declares
prefix-made source before now found part wanted there given first height boxed made same high node =
    let g = part-of (an_expr source) source before now found part wanted there given in
    let v : tree.Expr = view.expr part.tree in
    let taller : height ≡ part.height + 1 = high (omega (arith, g.low)) in
    node-gives source before now made first part.after height (form.Prefix first boxed) (tree.prefix (span_of first part.after) first v) _ node
    (ap (prefix_from first) g.read ∙ ap (λ n. checked_expr (tree.prefix (span_of first n) first v)) (sym g.ends))
    (view-prefix _ first boxed ∙ ap (λ e. tree.prefix (span_of first part.after) first (view.expr e)) same) refl
    (taller ∙ ap (λ n. n + 1) g.high) refl g.within g.scoped

pub index-made : (source : Source) (before names now : List Declared) (left : Part Expr) (read : Option tree.Expr) (found : Option (Part Expr)) (part : Part Expr) (wanted : Option tree.Expr) → found ≡ Some part
    → IsPart (an_expr source) source before names left read → Gives (an_expr source) source names now found wanted
    → (after height : ℕ) (one other : Expr) (made : Option (Part Expr))
    → Passes (is (symbol_in source now part.after) symbol.RightBracket) part.after (length source.tokens) (Some after)
    → one ≡ left.tree → other ≡ part.tree → (left.height < most_counted → part.height < most_counted → height ≡ above left.height part.height) → made ≡ made_node left.tree.span.first after height (form.Index one other)
    → Gives (an_expr source) source before now made (index_from source names (view.expr left.tree) wanted)
unfolding expr_height expr_declares
index-made source before names now left read found part wanted there left_is given after height one other made passes same alike high node =
    let k = left_is in
    let g = part-of (an_expr source) source names now found part wanted there given in
    let l : tree.Expr = view.expr left.tree in
    let v : tree.Expr = view.expr part.tree in
    let taller : height ≡ above (expr_height l) (expr_height v) = high (omega (arith, k.low)) (omega (arith, g.low)) ∙ ap (λ n. above n part.height) k.high ∙ ap (above (expr_height l)) g.high in
    let first : ℕ = left.tree.span.first in
    let test : is (symbol_in source (expr_declares source v ++ names) (expr_span v).after) symbol.RightBracket ≡ true = cc (g.scoped, g.ends, passes.0) in
    let end : (expr_span v).after + 1 ≡ after = cc (g.ends, passes.1) in
    node-gives source before now made first after height (form.Index one other) (tree.index (span_of first after) l v) _ node
    (ap (index_from source names l) g.read ∙ holds _ _ test ∙ ap (λ n. checked_expr (tree.index (span_of (expr_span l).first n) l v)) end ∙ ap (λ n. checked_expr (tree.index (span_of n after) l v)) (sym k.starts))
    (view-index _ one other ∙ ap (λ e. tree.index (span_of first after) (view.expr e) (view.expr other)) same ∙ ap (λ e. tree.index (span_of first after) l (view.expr e)) alike) refl
    taller refl passes.2 (g.scoped ∙ ap (λ ns. expr_declares source v ++ ns) k.scoped ∙ sym (append_assoc (expr_declares source v) (expr_declares source l) before))

pub binary-made : (source : Source) (before names now : List Declared) (left : Part Expr) (read : Option tree.Expr) (found : Option (Part Expr)) (part : Part Expr) (wanted : Option tree.Expr) → found ≡ Some part
    → IsPart (an_expr source) source before names left read → Gives (an_expr source) source names now found wanted
    → (operator height : ℕ) (one other : Expr) (made : Option (Part Expr))
    → one ≡ left.tree → other ≡ part.tree → (left.height < most_counted → part.height < most_counted → height ≡ above left.height part.height) → made ≡ made_node left.tree.span.first part.after height (form.Binary one operator other)
    → Gives (an_expr source) source before now made (binary_from (view.expr left.tree) operator wanted)
unfolding expr_height expr_declares
binary-made source before names now left read found part wanted there left_is given operator height one other made same alike high node =
    let k = left_is in
    let g = part-of (an_expr source) source names now found part wanted there given in
    let l : tree.Expr = view.expr left.tree in
    let v : tree.Expr = view.expr part.tree in
    let taller : height ≡ above (expr_height l) (expr_height v) = high (omega (arith, k.low)) (omega (arith, g.low)) ∙ ap (λ n. above n part.height) k.high ∙ ap (above (expr_height l)) g.high in
    let first : ℕ = left.tree.span.first in
    node-gives source before now made first part.after height (form.Binary one operator other) (tree.binary (span_of first part.after) l operator v) _ node
    (ap (binary_from l operator) g.read ∙ ap (λ n. checked_expr (tree.binary (span_of (expr_span l).first n) l operator v)) (sym g.ends) ∙ ap (λ n. checked_expr (tree.binary (span_of n part.after) l operator v)) (sym k.starts))
    (view-binary _ one operator other ∙ ap (λ e. tree.binary (span_of first part.after) (view.expr e) operator (view.expr other)) same ∙ ap (λ e. tree.binary (span_of first part.after) l operator (view.expr e)) alike) refl
    taller refl g.within (g.scoped ∙ ap (λ ns. expr_declares source v ++ ns) k.scoped ∙ sym (append_assoc (expr_declares source v) (expr_declares source l) before))

pub assign-made : (source : Source) (before names now : List Declared) (left : Part Expr) (read : Option tree.Expr) (found : Option (Part Expr)) (part : Part Expr) (wanted : Option tree.Expr) → found ≡ Some part
    → IsPart (an_expr source) source before names left read → Gives (an_expr source) source names now found wanted
    → (operator height : ℕ) (one other : Expr) (made : Option (Part Expr))
    → one ≡ left.tree → other ≡ part.tree → (left.height < most_counted → part.height < most_counted → height ≡ above left.height part.height) → made ≡ made_node left.tree.span.first part.after height (form.Assign one operator other)
    → Gives (an_expr source) source before now made (assign_from (view.expr left.tree) operator wanted)
unfolding expr_height expr_declares
assign-made source before names now left read found part wanted there left_is given operator height one other made same alike high node =
    let k = left_is in
    let g = part-of (an_expr source) source names now found part wanted there given in
    let l : tree.Expr = view.expr left.tree in
    let v : tree.Expr = view.expr part.tree in
    let taller : height ≡ above (expr_height l) (expr_height v) = high (omega (arith, k.low)) (omega (arith, g.low)) ∙ ap (λ n. above n part.height) k.high ∙ ap (above (expr_height l)) g.high in
    let first : ℕ = left.tree.span.first in
    node-gives source before now made first part.after height (form.Assign one operator other) (tree.assign (span_of first part.after) l operator v) _ node
    (ap (assign_from l operator) g.read ∙ ap (λ n. checked_expr (tree.assign (span_of (expr_span l).first n) l operator v)) (sym g.ends) ∙ ap (λ n. checked_expr (tree.assign (span_of n part.after) l operator v)) (sym k.starts))
    (view-assign _ one operator other ∙ ap (λ e. tree.assign (span_of first part.after) (view.expr e) operator (view.expr other)) same ∙ ap (λ e. tree.assign (span_of first part.after) l operator (view.expr e)) alike) refl
    taller refl g.within (g.scoped ∙ ap (λ ns. expr_declares source v ++ ns) k.scoped ∙ sym (append_assoc (expr_declares source v) (expr_declares source l) before))

pub cast-made : (source : Source) (before names now : List Declared) (left : Part TypeName) (read : Option tree.TypeName) (found : Option (Part Expr)) (part : Part Expr) (wanted : Option tree.Expr) → found ≡ Some part
    → IsPart (a_type_name source) source before names left read → Gives (an_expr source) source names now found wanted
    → (first height : ℕ) (one : TypeName) (other : Expr) (made : Option (Part Expr))
    → one ≡ left.tree → other ≡ part.tree → (left.height < most_counted → part.height < most_counted → height ≡ above left.height part.height) → made ≡ made_node first part.after height (form.Cast one other)
    → Gives (an_expr source) source before now made (cast_with first (view.type_name left.tree) wanted)
unfolding expr_height expr_declares
cast-made source before names now left read found part wanted there left_is given first height one other made same alike high node =
    let k = left_is in
    let g = part-of (an_expr source) source names now found part wanted there given in
    let l : tree.TypeName = view.type_name left.tree in
    let v : tree.Expr = view.expr part.tree in
    let taller : height ≡ above (type_name_height l) (expr_height v) = high (omega (arith, k.low)) (omega (arith, g.low)) ∙ ap (λ n. above n part.height) k.high ∙ ap (above (type_name_height l)) g.high in
    node-gives source before now made first part.after height (form.Cast one other) (tree.cast (span_of first part.after) l v) _ node
    (ap (cast_with first l) g.read ∙ ap (λ n. checked_expr (tree.cast (span_of first n) l v)) (sym g.ends))
    (view-cast _ one other ∙ ap (λ e. tree.cast (span_of first part.after) (view.type_name e) (view.expr other)) same ∙ ap (λ e. tree.cast (span_of first part.after) l (view.expr e)) alike) refl
    taller refl g.within (g.scoped ∙ ap (λ ns. expr_declares source v ++ ns) k.scoped ∙ sym (append_assoc (expr_declares source v) (type_name_declares source l) before))

pub call-made : (source : Source) (before names now : List Declared) (left : Part Expr) (read : Option tree.Expr) (at : ℕ) (found : Option (Part (List Expr))) (part : Part (List Expr)) (wanted : Option tree.Exprs) → found ≡ Some part
    → IsPart (an_expr source) source before names left read → Gives (exprs_from source at) source names now found wanted
    → (after height : ℕ) (one : Expr) (made : Option (Part Expr))
    → Passes (is (symbol_in source now part.after) symbol.RightParen) part.after (length source.tokens) (Some after)
    → one ≡ left.tree → (left.height < most_counted → part.height < most_counted → height ≡ above left.height part.height) → made ≡ made_node left.tree.span.first after height (form.Call one part.tree)
    → Gives (an_expr source) source before now made (call_from source names (view.expr left.tree) at wanted)
unfolding expr_height expr_declares
call-made source before names now left read at found part wanted there left_is given after height one made passes same high node =
    let k = left_is in
    let g = part-of (exprs_from source at) source names now found part wanted there given in
    let l : tree.Expr = view.expr left.tree in
    let v : tree.Exprs = view.exprs (map view.expr part.tree) in
    let taller : height ≡ above (expr_height l) (exprs_height v) = high (omega (arith, k.low)) (omega (arith, g.low)) ∙ ap (λ n. above n part.height) k.high ∙ ap (above (expr_height l)) g.high in
    let first : ℕ = left.tree.span.first in
    let test : is (symbol_in source (exprs_declares source v ++ names) (exprs_after at v)) symbol.RightParen ≡ true = cc (g.scoped, g.ends, passes.0) in
    let end : exprs_after at v + 1 ≡ after = cc (g.ends, passes.1) in
    node-gives source before now made first after height (form.Call one part.tree) (tree.call (span_of first after) l v) _ node
    (ap (call_from source names l at) g.read ∙ holds _ _ test ∙ ap (λ n. checked_expr (tree.call (span_of (expr_span l).first n) l v)) end ∙ ap (λ n. checked_expr (tree.call (span_of n after) l v)) (sym k.starts))
    (view-call _ one part.tree ∙ ap (λ e. tree.call (span_of first after) (view.expr e) v) same) refl
    taller refl passes.2 (g.scoped ∙ ap (λ ns. exprs_declares source v ++ ns) k.scoped ∙ sym (append_assoc (exprs_declares source v) (expr_declares source l) before))

pub choose-made : (source : Source) (before names between now : List Declared) (one two : Part Expr) (read seen : Option tree.Expr) (found : Option (Part Expr)) (part : Part Expr) (wanted : Option tree.Expr) → found ≡ Some part
    → IsPart (an_expr source) source before names one read → IsPart (an_expr source) source names between two seen → Gives (an_expr source) source between now found wanted
    → (height : ℕ) (a b c : Expr) (made : Option (Part Expr))
    → a ≡ one.tree → b ≡ two.tree → c ≡ part.tree → (one.height < most_counted → max two.height part.height < most_counted → height ≡ above one.height (max two.height part.height)) → made ≡ made_node one.tree.span.first part.after height (form.Conditional a b c)
    → Gives (an_expr source) source before now made (conditional_with (view.expr one.tree) (view.expr two.tree) wanted)
unfolding expr_height expr_declares
choose-made source before names between now one two read seen found part wanted there one_is two_is given height a b c made one_same two_same alike high node =
    let j = one_is in
    let k = two_is in
    let g = part-of (an_expr source) source between now found part wanted there given in
    let l : tree.Expr = view.expr one.tree in
    let m : tree.Expr = view.expr two.tree in
    let v : tree.Expr = view.expr part.tree in
    let first : ℕ = one.tree.span.first in
    let taller : height ≡ above (expr_height l) (max (expr_height m) (expr_height v)) = high (omega (arith, j.low)) (omega (arith, k.low, g.low)) ∙ ap (λ n. above n (max two.height part.height)) j.high ∙ ap (λ n. above (expr_height l) (max n part.height)) k.high ∙ ap (λ n. above (expr_height l) (max (expr_height m) n)) g.high in
    node-gives source before now made first part.after height (form.Conditional a b c) (tree.conditional (span_of first part.after) l m v) _ node
    (ap (conditional_with l m) g.read ∙ ap (λ n. checked_expr (tree.conditional (span_of (expr_span l).first n) l m v)) (sym g.ends) ∙ ap (λ n. checked_expr (tree.conditional (span_of n part.after) l m v)) (sym j.starts))
    (view-conditional _ a b c ∙ ap (λ e. tree.conditional (span_of first part.after) (view.expr e) (view.expr b) (view.expr c)) one_same ∙ ap (λ e. tree.conditional (span_of first part.after) l (view.expr e) (view.expr c)) two_same ∙ ap (λ e. tree.conditional (span_of first part.after) l m (view.expr e)) alike) refl
    taller refl g.within
    (g.scoped ∙ ap (λ ns. expr_declares source v ++ ns) (k.scoped ∙ ap (λ ns. expr_declares source m ++ ns) j.scoped ∙ sym (append_assoc (expr_declares source m) (expr_declares source l) before)) ∙ sym (append_assoc (expr_declares source v) (expr_declares source m ++ expr_declares source l) before))

pub postfix-made : (source : Source) (before now : List Declared) (left : Part Expr) (read : Option tree.Expr)
    → IsPart (an_expr source) source before now left read
    → (after height : ℕ) (one : Expr) (made : Option (Part Expr))
    → after ≤ length source.tokens → after ≡ left.after + 1 → one ≡ left.tree → (left.height < most_counted → height ≡ left.height + 1) → made ≡ made_node left.tree.span.first after height (form.Postfix one left.after)
    → Gives (an_expr source) source before now made (checked_expr (tree.postfix (span_of (expr_span (view.expr left.tree)).first (left.after + 1)) (view.expr left.tree) left.after))
unfolding expr_height expr_declares
postfix-made source before now left read k after height one made within next same high node =
    let l : tree.Expr = view.expr left.tree in
    let first : ℕ = left.tree.span.first in
    node-gives source before now made first after height (form.Postfix one left.after) (tree.postfix (span_of first after) l left.after) _ node
    (ap (λ n. checked_expr (tree.postfix (span_of n (left.after + 1)) l left.after)) (sym k.starts) ∙ ap (λ n. checked_expr (tree.postfix (span_of first n) l left.after)) (sym next))
    (view-postfix _ one left.after ∙ ap (λ e. tree.postfix (span_of first after) (view.expr e) left.after) same) refl
    (high (omega (arith, k.low)) ∙ ap (λ n. n + 1) k.high) refl within k.scoped

pub member-made : (source : Source) (before now : List Declared) (left : Part Expr) (read : Option tree.Expr)
    → IsPart (an_expr source) source before now left read
    → (name after height : ℕ) (one : Expr) (made : Option (Part Expr))
    → Passes (is_identifier (symbol_in source now name)) name (length source.tokens) (Some after) → one ≡ left.tree → (left.height < most_counted → height ≡ left.height + 1) → made ≡ made_node left.tree.span.first after height (form.Member one name)
    → Gives (an_expr source) source before now made (member_from source now (view.expr left.tree) name false)
unfolding expr_height expr_declares
member-made source before now left read k name after height one made passes same high node =
    let l : tree.Expr = view.expr left.tree in
    let first : ℕ = left.tree.span.first in
    node-gives source before now made first after height (form.Member one name) (tree.member (span_of first after) l name) _ node
    (holds _ _ passes.0 ∙ ap (λ n. checked_expr (tree.member (span_of n (name + 1)) l name)) (sym k.starts) ∙ ap (λ n. checked_expr (tree.member (span_of first n) l name)) (sym passes.1))
    (view-member _ one name ∙ ap (λ e. tree.member (span_of first after) (view.expr e) name) same) refl
    (high (omega (arith, k.low)) ∙ ap (λ n. n + 1) k.high) refl passes.2 k.scoped

pub arrow-made : (source : Source) (before now : List Declared) (left : Part Expr) (read : Option tree.Expr)
    → IsPart (an_expr source) source before now left read
    → (name after height : ℕ) (one : Expr) (made : Option (Part Expr))
    → Passes (is_identifier (symbol_in source now name)) name (length source.tokens) (Some after) → one ≡ left.tree → (left.height < most_counted → height ≡ left.height + 1) → made ≡ made_node left.tree.span.first after height (form.Arrow one name)
    → Gives (an_expr source) source before now made (member_from source now (view.expr left.tree) name true)
unfolding expr_height expr_declares
arrow-made source before now left read k name after height one made passes same high node =
    let l : tree.Expr = view.expr left.tree in
    let first : ℕ = left.tree.span.first in
    node-gives source before now made first after height (form.Arrow one name) (tree.arrow (span_of first after) l name) _ node
    (holds _ _ passes.0 ∙ ap (λ n. checked_expr (tree.arrow (span_of n (name + 1)) l name)) (sym k.starts) ∙ ap (λ n. checked_expr (tree.arrow (span_of first n) l name)) (sym passes.1))
    (view-arrow _ one name ∙ ap (λ e. tree.arrow (span_of first after) (view.expr e) name) same) refl
    (high (omega (arith, k.low)) ∙ ap (λ n. n + 1) k.high) refl passes.2 k.scoped

pub comma-made : (source : Source) (before now : List Declared) (start : ℕ) (found : Option (Part (List Expr))) (part : Part (List Expr)) (wanted : Option tree.Exprs) → found ≡ Some part
    → Gives (exprs_from source start) source before now found wanted
    → (first height : ℕ) (made : Option (Part Expr))
    → (part.height < most_counted → height ≡ part.height + 1) → made ≡ made_node first part.after height (form.Comma part.tree)
    → Gives (an_expr source) source before now made (comma_node first start wanted)
unfolding expr_height expr_declares
comma-made source before now start found part wanted there given first height made high node =
    let g = part-of (exprs_from source start) source before now found part wanted there given in
    let v : tree.Exprs = view.exprs (map view.expr part.tree) in
    node-gives source before now made first part.after height (form.Comma part.tree) (tree.comma (span_of first part.after) v) _ node
    (ap (comma_node first start) g.read ∙ ap (λ n. checked_expr (tree.comma (span_of first n) v)) (sym g.ends))
    (view-comma _ part.tree) refl
    (high (omega (arith, g.low)) ∙ ap (λ n. n + 1) g.high) refl g.within g.scoped
