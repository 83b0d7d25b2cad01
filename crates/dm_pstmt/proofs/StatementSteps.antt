-- Statements as they are read step by step.
use Rattle.std.proofs.Common.{◌≡◌, ℕ, zero, suc, ◌+◌, ◌-◌, Bool, true, false, List, [], ◌∷◌, ◌++◌, length, drop, map, Option, Some, None, option_map, refl, sym, ap, ◌∙◌, subst, arith, append_assoc, length-append}
use Rattle.dm_syn.specs.declared.declared.Declared.{Declared}
use Rattle.dm_syn.specs.declared.expression.Expr.{Expr}
use Rattle.dm_syn.specs.declared.statement.Stmt.{Stmt}
use Rattle.dm_syn.specs.declared.statement.Item.{Item}
use Rattle.dm_syn.specs.declared.statement.SwitchItem.{SwitchItem}
use Rattle.dm_syn.specs.declared.symbol.Symbol.{Symbol}
use Rattle.dm_syn.specs.declared.symbol.Symbol.TheVariants as symbol
use Rattle.dm_syn.specs.Symbols.{is, is_identifier, begins_specifiers}
use Rattle.dm_syn.specs.Sources.{Source, symbol_in}
use Rattle.dm_syn.specs.Trees as tree
use Rattle.dm_syn.specs.Views as view
use Rattle.dm_syn.specs.Spans.{expr_span, stmt_span}
use Rattle.dm_syn.specs.Scopes.{expr_declares, optional_declares}
use Rattle.dm_syn.specs.Statements.{optional_after}
use Rattle.dm_pexpr.specs.declared.part.Part.{Part}
use Rattle.dm_pexpr.specs.Parsing.{Parts, lower, and_then, where_true, all_turns}
use Rattle.dm_pexpr.specs.Parts.{Kind, IsPart, Gives, Passes, an_expr}
use Rattle.dm_pexpr.proofs.Expressions.{holds, if-true, if-false}
use Rattle.dm_pexpr.proofs.SymbolLemmas.{is-same}
use Rattle.dm_pexpr.proofs.SymbolTests.{is-it}
use Rattle.dm_pexpr.proofs.Soundness.{inside}
use Rattle.dm_pexpr.proofs.TestLemmas.{fails, unless}
use Rattle.dm_pstmt.specs.Kinds.{a_stmt, block_items_from, switch_items_from, switch_items_declares}
use Rattle.dm_pstmt.specs.Parsing.{Within, within, initialiser_of, stands, optional_of, enclosed_of, block_items, block_with, if_with, if_behind, else_with, if_only_behind, switch_items, switch_with, switch_braced, while_with, while_behind, do_with, do_behind, start_of, stmt_by, stmt_of, lead_kind, evaluating, labelled_of, opening, choosing, switching, repeating, doing, block_item_of, declaration_of, start_with, case_with, case_behind, default_behind, unlabelled_with}
use Rattle.dm_pstmt.specs.Steps.{closed_by, clause_of, default_from}
use Rattle.dm_pstmt.proofs.Results.{then-some, alike}
use Rattle.dm_pstmt.proofs.Wholes.{then-none, then-is, gives-along}

-- what reads the parts of a node
pub within-parts : (source : Source) (depth : ℕ) → (within source depth).parts ≡ lower source depth
unfolding within
within-parts source zero = refl
within-parts source (suc depth) = refl

pub enclosed-here : (source : Source) (depth : ℕ) (names : List Declared) (first next : ℕ) → next ≡ first + 1 → enclosed_of source (within source depth).parts names (first + 1) ≡ enclosed_of source (lower source depth) names next
enclosed-here source depth names first next place =
    ap (λ n. enclosed_of source (within source depth).parts names n) (sym place) ∙ ap (λ parts. enclosed_of source parts names next) (within-parts source depth)

pub within-initialiser : (source : Source) (depth : ℕ) → (within source depth).initialiser ≡ initialiser_of source depth
unfolding within
within-initialiser source zero = refl
within-initialiser source (suc depth) = refl

pub no-stmt : (source : Source) (depth : ℕ) (names : List Declared) (at : ℕ) → depth ≡ 0 → (within source depth).stmt names at ≡ None
unfolding within
no-stmt source depth names at is = ap (λ n. (within source n).stmt names at) is

pub one-stmt : (source : Source) (depth left : ℕ) (names : List Declared) (at : ℕ) → suc left ≡ depth → (within source depth).stmt names at ≡ stmt_of source (within source left) names at
unfolding within
one-stmt source depth left names at less = ap (λ n. (within source n).stmt names at) (sym less)

pub no-labelled : (source : Source) (depth : ℕ) (names : List Declared) (at : ℕ) → depth ≡ 0 → (within source depth).labelled names at ≡ None
unfolding within
no-labelled source depth names at is = ap (λ n. (within source n).labelled names at) is

pub one-labelled : (source : Source) (depth left : ℕ) (names : List Declared) (at : ℕ) → suc left ≡ depth → (within source depth).labelled names at ≡ labelled_of source (within source left) names at
unfolding within
one-labelled source depth left names at less = ap (λ n. (within source n).labelled names at) (sym less)

-- a symbol that is no identifier stands there whatever is in scope
same-tests : (source : Source) (one other : List Declared) (at : ℕ) (it : Symbol) → is_identifier it ≡ false → (a b : Bool) → stands source one at it ≡ a → stands source other at it ≡ b → a ≡ b
same-tests source one other at it plain true true h k = refl
same-tests source one other at it plain false false h k = refl
same-tests source one other at it plain true false h k =
    let there : stands source other at it ≡ true = ap (λ this. is this it) (alike source one other at it (is-it _ it h) plain) ∙ is-same it in sym there ∙ k
same-tests source one other at it plain false true h k =
    let there : stands source one at it ≡ true = ap (λ this. is this it) (alike source other one at it (is-it _ it k) plain) ∙ is-same it in sym h ∙ there

pub stands-same : (source : Source) (one other : List Declared) (at : ℕ) (it : Symbol) → is_identifier it ≡ false → stands source one at it ≡ stands source other at it
stands-same source one other at it plain = same-tests source one other at it plain _ _ refl refl

-- where a scope ends
past : {A : Type 0} (front back : List A) → drop (length front) (front ++ back) ≡ back
past [] back = refl
past (first ∷ others) back = past others back

drop-front : {A : Type 0} (front back : List A) → drop (length (front ++ back) - length back) (front ++ back) ≡ back
drop-front front back =
    let all : length (front ++ back) ≡ length front + length back = length-append front back in
    let less : length (front ++ back) - length back ≡ length front = omega (arith, all) in
    ap (λ n. drop n (front ++ back)) less ∙ past front back

pub ended : (front old last now : List Declared) (kept : ℕ) → kept ≡ length old → last ≡ front ++ old → now ≡ drop (length last - kept) last → now ≡ old
ended front old last now kept count is cut =
    cut ∙ ap (λ n. drop (length last - n) last) count ∙ ap (λ those. drop (length those - length old) those) is ∙ drop-front front old

-- what is found where a scope has ended
pub re-scoped : {A T : Type 0} (kind : Kind A T) (source : Source) (before now behind : List Declared) (made : Option (Part A)) (wanted : Option T)
    → ((it : T) → wanted ≡ Some it → behind ≡ now) → Gives kind source before now made wanted → Gives kind source before behind made wanted
re-scoped kind source before now behind None wanted same given = given
re-scoped kind source before now behind (Some part) wanted same p = subst (λ those. IsPart kind source before those part wanted) (sym (same (kind.view part.tree) p.read)) p

-- a part within a scope that ends after it
pub ended-after : {A T : Type 0} (kind : Kind A T) (source : Source) (front old mid last now : List Declared) (kept : ℕ) (found : Option (Part A)) (wanted : Option T) (it : T)
    → kept ≡ length old → mid ≡ front ++ old → Gives kind source mid last found wanted → wanted ≡ Some it → now ≡ drop (length last - kept) last → now ≡ old
ended-after kind source front old mid last now kept None wanted it count is given there cut = let no : None ≡ Some it = sym given ∙ there in absurd (cc)
ended-after kind source front old mid last now kept (Some part) wanted it count is p there cut =
    ended (kind.declares (kind.view part.tree) ++ front) old last now kept count
    (p.scoped ∙ ap (λ those. kind.declares (kind.view part.tree) ++ those) is ∙ sym (append_assoc (kind.declares (kind.view part.tree)) front old)) cut

-- what stands behind an expression that may be absent
clause-with : (test : Bool) (one it : Option tree.Expr) → where_true test (Some one) ≡ Some it → (one ≡ it) × (test ≡ true)
clause-with true one it is = (inside _ _ is, refl)
clause-with false one it is = absurd (cc)

pub clause-there : (source : Source) (parts : Parts) (stop : Symbol) (names : List Declared) (at : ℕ) (it : Option tree.Expr) → clause_of source parts stop names at ≡ Some it
    → (optional_of source parts stop names at ≡ Some it) × (stands source (optional_declares source it ++ names) (optional_after at it) stop ≡ true)
clause-there source parts stop names at it is =
    let found = then-some (closed_by source names at stop) (optional_of source parts stop names at) it is in
    let both = clause-with (stands source (optional_declares source found.0 ++ names) (optional_after at found.0) stop) found.0 it found.2 in
    (found.1 ∙ ap Some both.0, subst (λ e. stands source (optional_declares source e ++ names) (optional_after at e) stop ≡ true) both.0 both.1)

no-test : {B : Type 0} (next : Option tree.Expr → Option B) (it : Option tree.Expr) (test other : Bool) → test ≡ other → where_true other (Some it) ≡ None → where_true test (next it) ≡ None
no-test next it test true same none = absurd (cc)
no-test next it test false same none = fails test (next it) same

pub no-clause-in : {B : Type 0} (next : Option tree.Expr → Option B) (test other : Option tree.Expr → Bool) (found : Option (Option tree.Expr)) → ((it : Option tree.Expr) → test it ≡ other it)
    → and_then (λ it. where_true (other it) (Some it)) found ≡ None → and_then (λ it. where_true (test it) (next it)) found ≡ None
no-clause-in next test other None same none = refl
no-clause-in next test other (Some it) same none = no-test next it (test it) (other it) (same it) none

-- a block
pub block-read : (source : Source) (inner : Within) (old behind now : List Declared) (first kept : ℕ) (items : Part (List Item)) (made : Option (Part Stmt))
    → IsPart (block_items_from source (first + 1)) source old behind items (block_items source inner (all_turns source) old (first + 1)) → kept ≡ length old → now ≡ drop (length behind - kept) behind
    → Gives (a_stmt source) source old old made (and_then (block_with first) (block_items source inner (all_turns source) old (first + 1)))
    → Gives (a_stmt source) source old now made (stmt_by source inner old first opening)
unfolding stmt_by
block-read source inner old behind now first kept items made p count cut given =
    re-scoped (a_stmt source) source old old now made (and_then (block_with first) (block_items source inner (all_turns source) old (first + 1)))
    (λ it there. ended _ old behind now kept count p.scoped cut) given

-- `while`
pub while-read : (source : Source) (inner : Within) (old mid last now : List Declared) (first kept : ℕ) (condition : Part Expr) (found : Option (Part Stmt)) (made : Option (Part Stmt))
    → IsPart (an_expr source) source old mid condition (enclosed_of source inner.parts old (first + 1))
    → Gives (a_stmt source) source mid last found (inner.stmt mid (condition.after + 1)) → kept ≡ length old → now ≡ drop (length last - kept) last
    → Gives (a_stmt source) source old old made (and_then (while_behind first (view.expr condition.tree)) (inner.stmt mid (condition.after + 1)))
    → Gives (a_stmt source) source old now made (stmt_by source inner old first repeating)
unfolding stmt_by
while-read source inner old mid last now first kept condition found made k body count cut given =
    let v : tree.Expr = view.expr condition.tree in
    gives-along (a_stmt source) source old now made (and_then (while_behind first v) (inner.stmt mid (condition.after + 1))) _
    (then-is (while_with source inner old first) _ v k.read ∙ ap (λ names. and_then (while_behind first v) (inner.stmt names ((expr_span v).after + 1))) (sym k.scoped)
    ∙ ap (λ n. and_then (while_behind first v) (inner.stmt mid (n + 1))) (sym k.ends))
    (re-scoped (a_stmt source) source old old now made _
    (λ it there. let one = then-some (while_behind first v) (inner.stmt mid (condition.after + 1)) it there in
    ended-after (a_stmt source) source (expr_declares source v) old mid last now kept found _ one.0 count k.scoped body one.1 cut) given)

-- `if`, up to its first branch
pub choice-read : (source : Source) (inner : Within) (old mid last now : List Declared) (first : ℕ) (condition : Part Expr) (body : Part Stmt) (made : Option (Part Stmt))
    → IsPart (an_expr source) source old mid condition (enclosed_of source inner.parts old (first + 1))
    → IsPart (a_stmt source) source mid last body (inner.stmt mid (condition.after + 1))
    → Gives (a_stmt source) source old now made (if_behind source inner old first (view.expr condition.tree) (view.stmt body.tree))
    → Gives (a_stmt source) source old now made (stmt_by source inner old first choosing)
unfolding stmt_by
choice-read source inner old mid last now first condition body made k b given =
    let v : tree.Expr = view.expr condition.tree in
    gives-along (a_stmt source) source old now made _ _
    (then-is (if_with source inner old first) _ v k.read ∙ ap (λ names. and_then (if_behind source inner old first v) (inner.stmt names ((expr_span v).after + 1))) (sym k.scoped)
    ∙ ap (λ n. and_then (if_behind source inner old first v) (inner.stmt mid (n + 1))) (sym k.ends) ∙ then-is (if_behind source inner old first v) _ (view.stmt body.tree) b.read) given

pub no-branch : (source : Source) (inner : Within) (old mid : List Declared) (first : ℕ) (condition : Part Expr)
    → IsPart (an_expr source) source old mid condition (enclosed_of source inner.parts old (first + 1)) → inner.stmt mid (condition.after + 1) ≡ None
    → stmt_by source inner old first choosing ≡ None
unfolding stmt_by
no-branch source inner old mid first condition k none =
    let v : tree.Expr = view.expr condition.tree in
    then-is (if_with source inner old first) _ v k.read ∙ ap (λ names. and_then (if_behind source inner old first v) (inner.stmt names ((expr_span v).after + 1))) (sym k.scoped)
    ∙ ap (λ n. and_then (if_behind source inner old first v) (inner.stmt mid (n + 1))) (sym k.ends) ∙ then-none _ _ none

-- and behind it
pub else-read : (source : Source) (inner : Within) (before mid behind last now : List Declared) (first next kept : ℕ) (condition : Part Expr) (body : Part Stmt) (read : Option tree.Expr) (seen : Option tree.Stmt) (found made : Option (Part Stmt))
    → kept ≡ length before → IsPart (an_expr source) source before mid condition read → IsPart (a_stmt source) source mid behind body seen
    → Passes (stands source mid body.after symbol.Else) body.after (length source.tokens) (Some next)
    → Gives (a_stmt source) source mid last found (inner.stmt mid next) → now ≡ drop (length last - kept) last
    → Gives (a_stmt source) source before before made (and_then (else_with first (view.expr condition.tree) (view.stmt body.tree)) (inner.stmt mid next))
    → Gives (a_stmt source) source before now made (if_behind source inner before first (view.expr condition.tree) (view.stmt body.tree))
else-read source inner before mid behind last now first next kept condition body read seen found made count k b there other cut given =
    let v : tree.Expr = view.expr condition.tree in
    let w : tree.Stmt = view.stmt body.tree in
    gives-along (a_stmt source) source before now made (and_then (else_with first v w) (inner.stmt mid next)) _
    (if-true _ _ _ (stands-same source before mid (stmt_span w).after symbol.Else refl ∙ ap (λ n. stands source mid n symbol.Else) (sym b.ends) ∙ there.0)
    ∙ ap (λ names. and_then (else_with first v w) (inner.stmt names ((stmt_span w).after + 1))) (sym k.scoped)
    ∙ ap (λ n. and_then (else_with first v w) (inner.stmt mid n)) (ap (λ n. n + 1) (sym b.ends) ∙ sym there.1))
    (re-scoped (a_stmt source) source before before now made _
    (λ it is. let one = then-some (else_with first v w) (inner.stmt mid next) it is in
    ended-after (a_stmt source) source (expr_declares source v) before mid last now kept found _ one.0 count k.scoped other one.1 cut) given)

pub no-else-read : (source : Source) (inner : Within) (before mid behind now : List Declared) (first kept : ℕ) (condition : Part Expr) (body : Part Stmt) (read : Option tree.Expr) (seen : Option tree.Stmt) (made : Option (Part Stmt))
    → kept ≡ length before → IsPart (an_expr source) source before mid condition read → IsPart (a_stmt source) source mid behind body seen
    → stands source mid body.after symbol.Else ≡ false → now ≡ drop (length mid - kept) mid
    → Gives (a_stmt source) source before before made (if_only_behind first (view.expr condition.tree) (view.stmt body.tree))
    → Gives (a_stmt source) source before now made (if_behind source inner before first (view.expr condition.tree) (view.stmt body.tree))
no-else-read source inner before mid behind now first kept condition body read seen made count k b none cut given =
    let v : tree.Expr = view.expr condition.tree in
    let w : tree.Stmt = view.stmt body.tree in
    gives-along (a_stmt source) source before now made (if_only_behind first v w) _
    (if-false _ _ _ (stands-same source before mid (stmt_span w).after symbol.Else refl ∙ ap (λ n. stands source mid n symbol.Else) (sym b.ends) ∙ none))
    (re-scoped (a_stmt source) source before before now made _ (λ it is. ended (expr_declares source v) before mid now kept count k.scoped cut) given)

-- `switch`
pub switch-wanted : (source : Source) (inner : Within) (old mid : List Declared) (first next : ℕ) (subject : Part Expr)
    → IsPart (an_expr source) source old mid subject (enclosed_of source inner.parts old (first + 1))
    → Passes (stands source mid (subject.after + 1) symbol.LeftBrace) (subject.after + 1) (length source.tokens) (Some next)
    → stmt_by source inner old first switching ≡ and_then (switch_braced first (view.expr subject.tree)) (switch_items source inner (all_turns source) mid next)
unfolding stmt_by
switch-wanted source inner old mid first next subject k there =
    let v : tree.Expr = view.expr subject.tree in
    let place : (expr_span v).after + 2 ≡ next = (let e = k.ends in let f = there.1 in omega (arith, e, f)) in
    then-is (switch_with source inner old first) _ v k.read
    ∙ holds _ _ (stands-same source old mid ((expr_span v).after + 1) symbol.LeftBrace refl ∙ ap (λ n. stands source mid (n + 1) symbol.LeftBrace) (sym k.ends) ∙ there.0)
    ∙ ap (λ names. and_then (switch_braced first v) (switch_items source inner (all_turns source) names ((expr_span v).after + 2))) (sym k.scoped)
    ∙ ap (λ n. and_then (switch_braced first v) (switch_items source inner (all_turns source) mid n)) place

pub no-brace : (source : Source) (inner : Within) (old mid : List Declared) (first : ℕ) (subject : Part Expr)
    → IsPart (an_expr source) source old mid subject (enclosed_of source inner.parts old (first + 1)) → stands source mid (subject.after + 1) symbol.LeftBrace ≡ false
    → stmt_by source inner old first switching ≡ None
unfolding stmt_by
no-brace source inner old mid first subject k none =
    let v : tree.Expr = view.expr subject.tree in
    then-is (switch_with source inner old first) _ v k.read
    ∙ fails _ _ (stands-same source old mid ((expr_span v).after + 1) symbol.LeftBrace refl ∙ ap (λ n. stands source mid (n + 1) symbol.LeftBrace) (sym k.ends) ∙ none)

pub switch-read : (source : Source) (inner : Within) (old mid behind now : List Declared) (first next kept : ℕ) (subject : Part Expr) (items : Part (List SwitchItem)) (made : Option (Part Stmt))
    → IsPart (an_expr source) source old mid subject (enclosed_of source inner.parts old (first + 1))
    → Passes (stands source mid (subject.after + 1) symbol.LeftBrace) (subject.after + 1) (length source.tokens) (Some next)
    → IsPart (switch_items_from source next) source mid behind items (switch_items source inner (all_turns source) mid next) → kept ≡ length old → now ≡ drop (length behind - kept) behind
    → Gives (a_stmt source) source old old made (and_then (switch_braced first (view.expr subject.tree)) (switch_items source inner (all_turns source) mid next))
    → Gives (a_stmt source) source old now made (stmt_by source inner old first switching)
switch-read source inner old mid behind now first next kept subject items made k there p count cut given =
    let v : tree.Expr = view.expr subject.tree in
    let those : List Declared = switch_items_declares source (view.switch_items (map view.switch_item items.tree)) in
    gives-along (a_stmt source) source old now made _ _ (switch-wanted source inner old mid first next subject k there)
    (re-scoped (a_stmt source) source old old now made _
    (λ it is. ended (those ++ expr_declares source v) old behind now kept count (p.scoped ∙ ap (λ front. those ++ front) k.scoped ∙ sym (append_assoc those (expr_declares source v) old)) cut) given)

-- `do`, behind its body
pub repeated-wanted : (source : Source) (inner : Within) (old behind : List Declared) (first next : ℕ) (body : Part Stmt) (seen : Option tree.Stmt)
    → IsPart (a_stmt source) source old behind body seen → Passes (stands source old body.after symbol.While) body.after (length source.tokens) (Some next)
    → do_with source inner old first (view.stmt body.tree) ≡ and_then (do_behind source old first (view.stmt body.tree)) (enclosed_of source inner.parts old next)
repeated-wanted source inner old behind first next body seen b there =
    let w : tree.Stmt = view.stmt body.tree in
    holds _ _ (ap (λ n. stands source old n symbol.While) (sym b.ends) ∙ there.0)
    ∙ ap (λ n. and_then (do_behind source old first w) (enclosed_of source inner.parts old n)) (ap (λ n. n + 1) (sym b.ends) ∙ sym there.1)

pub no-while : (source : Source) (inner : Within) (old behind : List Declared) (first : ℕ) (body : Part Stmt) (seen : Option tree.Stmt)
    → IsPart (a_stmt source) source old behind body seen → stands source old body.after symbol.While ≡ false → do_with source inner old first (view.stmt body.tree) ≡ None
no-while source inner old behind first body seen b none = fails _ _ (ap (λ n. stands source old n symbol.While) (sym b.ends) ∙ none)

pub no-repeated-test : (source : Source) (inner : Within) (old behind : List Declared) (first next : ℕ) (body : Part Stmt) (seen : Option tree.Stmt)
    → IsPart (a_stmt source) source old behind body seen → Passes (stands source old body.after symbol.While) body.after (length source.tokens) (Some next) → enclosed_of source inner.parts old next ≡ None
    → do_with source inner old first (view.stmt body.tree) ≡ None
no-repeated-test source inner old behind first next body seen b there none = repeated-wanted source inner old behind first next body seen b there ∙ then-none _ _ none

pub no-semicolon : (source : Source) (inner : Within) (old behind names : List Declared) (first next : ℕ) (body : Part Stmt) (seen : Option tree.Stmt) (condition : Part Expr)
    → IsPart (a_stmt source) source old behind body seen → Passes (stands source old body.after symbol.While) body.after (length source.tokens) (Some next)
    → IsPart (an_expr source) source old names condition (enclosed_of source inner.parts old next) → stands source names (condition.after + 1) symbol.Semicolon ≡ false
    → do_with source inner old first (view.stmt body.tree) ≡ None
no-semicolon source inner old behind names first next body seen condition b there k none =
    let v : tree.Expr = view.expr condition.tree in
    repeated-wanted source inner old behind first next body seen b there ∙ then-is (do_behind source old first (view.stmt body.tree)) _ v k.read
    ∙ fails _ _ (stands-same source old names ((expr_span v).after + 1) symbol.Semicolon refl ∙ ap (λ n. stands source names (n + 1) symbol.Semicolon) (sym k.ends) ∙ none)

pub repeated-read : (source : Source) (inner : Within) (old behind names now : List Declared) (first next kept : ℕ) (body : Part Stmt) (seen : Option tree.Stmt) (condition : Part Expr) (made : Option (Part Stmt))
    → IsPart (a_stmt source) source old behind body seen → Passes (stands source old body.after symbol.While) body.after (length source.tokens) (Some next)
    → IsPart (an_expr source) source old names condition (enclosed_of source inner.parts old next) → kept ≡ length old → now ≡ drop (length names - kept) names
    → Gives (a_stmt source) source old old made (do_behind source old first (view.stmt body.tree) (view.expr condition.tree))
    → Gives (a_stmt source) source old now made (do_with source inner old first (view.stmt body.tree))
repeated-read source inner old behind names now first next kept body seen condition made b there k count cut given =
    let v : tree.Expr = view.expr condition.tree in
    let w : tree.Stmt = view.stmt body.tree in
    gives-along (a_stmt source) source old now made (do_behind source old first w v) _
    (repeated-wanted source inner old behind first next body seen b there ∙ then-is (do_behind source old first w) _ v k.read)
    (re-scoped (a_stmt source) source old old now made _ (λ it is. ended (expr_declares source v) old names now kept count k.scoped cut) given)

-- and whole
pub do-read : (source : Source) (inner : Within) (old mid now last : List Declared) (first : ℕ) (body : Part Stmt) (made : Option (Part Stmt))
    → IsPart (a_stmt source) source old mid body (inner.stmt old (first + 1)) → now ≡ old
    → Gives (a_stmt source) source now last made (do_with source inner now first (view.stmt body.tree))
    → Gives (a_stmt source) source old last made (stmt_by source inner old first doing)
unfolding stmt_by
do-read source inner old mid now last first body made b same given =
    gives-along (a_stmt source) source old last made (do_with source inner old first (view.stmt body.tree)) _ (then-is (do_with source inner old first) _ (view.stmt body.tree) b.read)
    (subst (λ names. Gives (a_stmt source) source names last made (do_with source inner names first (view.stmt body.tree))) same given)

-- what a statement is by its first symbol
pub lead-is : (source : Source) (depth left : ℕ) (names : List Declared) (at : ℕ) (it : Symbol) → suc left ≡ depth → symbol_in source names at ≡ it
    → (within source depth).stmt names at ≡ stmt_by source (within source left) names at (lead_kind it)
unfolding stmt_of
lead-is source depth left names at it less is = one-stmt source depth left names at less ∙ ap (λ this. stmt_by source (within source left) names at (lead_kind this)) is

pub lead-other : (it : Symbol) → (it ≡ symbol.LeftBrace → ⊥) → (it ≡ symbol.If → ⊥) → (it ≡ symbol.Switch → ⊥) → (it ≡ symbol.While → ⊥) → (it ≡ symbol.Do → ⊥) → (it ≡ symbol.For → ⊥) → (it ≡ symbol.Break → ⊥)
    → (it ≡ symbol.Continue → ⊥) → (it ≡ symbol.Return → ⊥) → lead_kind it ≡ evaluating
lead-other symbol.LeftBrace a b c d e f g h i = absurd (a refl)
lead-other symbol.If a b c d e f g h i = absurd (b refl)
lead-other symbol.Switch a b c d e f g h i = absurd (c refl)
lead-other symbol.While a b c d e f g h i = absurd (d refl)
lead-other symbol.Do a b c d e f g h i = absurd (e refl)
lead-other symbol.For a b c d e f g h i = absurd (f refl)
lead-other symbol.Break a b c d e f g h i = absurd (g refl)
lead-other symbol.Continue a b c d e f g h i = absurd (h refl)
lead-other symbol.Return a b c d e f g h i = absurd (i refl)
lead-other _ a b c d e f g h i = refl

-- where what stands in braces, or the first thing in parentheses, isn't there
pub no-block : (source : Source) (inner : Within) (names : List Declared) (at : ℕ) → block_items source inner (all_turns source) names (at + 1) ≡ None → stmt_by source inner names at opening ≡ None
unfolding stmt_by
no-block source inner names at none = then-none _ _ none

pub no-condition : (source : Source) (inner : Within) (names : List Declared) (at : ℕ) → enclosed_of source inner.parts names (at + 1) ≡ None → stmt_by source inner names at choosing ≡ None
unfolding stmt_by
no-condition source inner names at none = then-none _ _ none

pub no-subject : (source : Source) (inner : Within) (names : List Declared) (at : ℕ) → enclosed_of source inner.parts names (at + 1) ≡ None → stmt_by source inner names at switching ≡ None
unfolding stmt_by
no-subject source inner names at none = then-none _ _ none

pub no-loop-test : (source : Source) (inner : Within) (names : List Declared) (at : ℕ) → enclosed_of source inner.parts names (at + 1) ≡ None → stmt_by source inner names at repeating ≡ None
unfolding stmt_by
no-loop-test source inner names at none = then-none _ _ none

pub no-body : (source : Source) (inner : Within) (names : List Declared) (at : ℕ) → inner.stmt names (at + 1) ≡ None → stmt_by source inner names at doing ≡ None
unfolding stmt_by
no-body source inner names at none = then-none _ _ none

-- what a block item and the first clause of a `for` are by their first symbol
pub declared-item-wanted : (source : Source) (inner : Within) (names : List Declared) (at : ℕ) → begins_specifiers (symbol_in source names at) ≡ true
    → block_item_of source inner names at ≡ option_map tree.declared_item (declaration_of source inner names at)
unfolding block_item_of
declared-item-wanted source inner names at begins = if-true _ _ _ begins

pub stated-item-wanted : (source : Source) (inner : Within) (names : List Declared) (at : ℕ) → begins_specifiers (symbol_in source names at) ≡ false
    → block_item_of source inner names at ≡ option_map tree.stated_item (inner.stmt names at)
unfolding block_item_of
stated-item-wanted source inner names at begins = if-false _ _ _ begins

pub declaring-wanted : (source : Source) (inner : Within) (names : List Declared) (at : ℕ) → begins_specifiers (symbol_in source names at) ≡ true
    → start_of source inner names at ≡ option_map tree.declares (declaration_of source inner names at)
unfolding start_of
declaring-wanted source inner names at begins = if-true _ _ _ begins

pub no-start-clause : (source : Source) (depth : ℕ) (names : List Declared) (at : ℕ) → begins_specifiers (symbol_in source names at) ≡ false
    → clause_of source (lower source depth) symbol.Semicolon names at ≡ None → start_of source (within source depth) names at ≡ None
unfolding start_of
no-start-clause source depth names at begins none =
    if-false _ _ _ begins ∙ ap (λ parts. and_then (start_with source names at) (optional_of source parts symbol.Semicolon names at)) (within-parts source depth)
    ∙ no-clause-in (λ it. Some (tree.evaluates it)) (λ it. stands source (optional_declares source it ++ names) (optional_after at it) symbol.Semicolon)
    (λ it. stands source (optional_declares source it ++ names) (optional_after at it) symbol.Semicolon) (optional_of source (lower source depth) symbol.Semicolon names at) (λ it. refl) none

pub evaluated-wanted : (source : Source) (depth : ℕ) (names : List Declared) (at : ℕ) (it : Option tree.Expr) → begins_specifiers (symbol_in source names at) ≡ false
    → clause_of source (lower source depth) symbol.Semicolon names at ≡ Some it → start_of source (within source depth) names at ≡ Some (tree.evaluates it)
unfolding start_of
evaluated-wanted source depth names at it begins is =
    let there = clause-there source (lower source depth) symbol.Semicolon names at it is in
    if-false _ _ _ begins ∙ ap (λ parts. and_then (start_with source names at) (optional_of source parts symbol.Semicolon names at)) (within-parts source depth)
    ∙ then-is (start_with source names at) _ it there.0 ∙ holds _ _ there.1

-- what a statement with labels is by its first symbol
pub case-wanted : (source : Source) (depth left : ℕ) (names : List Declared) (at : ℕ) → suc left ≡ depth → symbol_in source names at ≡ symbol.Case
    → (within source depth).labelled names at ≡ and_then (case_with source (within source left) names at) ((within source left).parts.expr 2 names (at + 1))
unfolding labelled_of
case-wanted source depth left names at less seen = one-labelled source depth left names at less ∙ if-true _ _ _ (ap (λ it. is it symbol.Case) seen)

pub default-wanted : (source : Source) (depth left : ℕ) (names : List Declared) (at : ℕ) → suc left ≡ depth → symbol_in source names at ≡ symbol.Default
    → (within source depth).labelled names at ≡ default_from source (within source left) names at
unfolding labelled_of
default-wanted source depth left names at less seen =
    one-labelled source depth left names at less ∙ if-false _ _ _ (ap (λ it. is it symbol.Case) seen) ∙ if-true _ _ _ (ap (λ it. is it symbol.Default) seen)

pub unlabelled-wanted : (source : Source) (depth left : ℕ) (names : List Declared) (at : ℕ) → suc left ≡ depth → stands source names at symbol.Case ≡ false → stands source names at symbol.Default ≡ false
    → (within source depth).labelled names at ≡ option_map (unlabelled_with at) ((within source depth).stmt names at)
unfolding labelled_of
unlabelled-wanted source depth left names at less no_case no_default =
    one-labelled source depth left names at less ∙ if-false _ _ _ no_case ∙ if-false _ _ _ no_default ∙ ap (option_map (unlabelled_with at)) (sym (one-stmt source depth left names at less))

pub is-not : (it other : Symbol) → (it ≡ other → ⊥) → is it other ≡ false
is-not it other not_so = unless (is it other) (λ yes. not_so (is-it it other yes))

-- behind a label
pub labelled-behind : (source : Source) (depth : ℕ) (names behind : List Declared) (at next : ℕ) (label : Part Expr) → IsPart (an_expr source) source names behind label ((lower source depth).expr 2 names (at + 1))
    → Passes (stands source behind label.after symbol.Colon) label.after (length source.tokens) (Some next)
    → and_then (case_with source (within source depth) names at) ((within source depth).parts.expr 2 names (at + 1))
    ≡ and_then (case_behind at (view.expr label.tree)) ((within source depth).labelled behind next)
labelled-behind source depth names behind at next label k there =
    let v : tree.Expr = view.expr label.tree in
    ap (λ parts. and_then (case_with source (within source depth) names at) (parts.expr 2 names (at + 1))) (within-parts source depth)
    ∙ then-is (case_with source (within source depth) names at) _ v k.read
    ∙ holds _ _ (ap (λ those. stands source those (expr_span v).after symbol.Colon) (sym k.scoped) ∙ ap (λ n. stands source behind n symbol.Colon) (sym k.ends) ∙ there.0)
    ∙ ap (λ those. and_then (case_behind at v) ((within source depth).labelled those ((expr_span v).after + 1))) (sym k.scoped)
    ∙ ap (λ n. and_then (case_behind at v) ((within source depth).labelled behind n)) (ap (λ n. n + 1) (sym k.ends) ∙ sym there.1)

pub no-colon : (source : Source) (depth : ℕ) (names behind : List Declared) (at : ℕ) (label : Part Expr) → IsPart (an_expr source) source names behind label ((lower source depth).expr 2 names (at + 1))
    → stands source behind label.after symbol.Colon ≡ false
    → and_then (case_with source (within source depth) names at) ((within source depth).parts.expr 2 names (at + 1)) ≡ None
no-colon source depth names behind at label k none =
    let v : tree.Expr = view.expr label.tree in
    ap (λ parts. and_then (case_with source (within source depth) names at) (parts.expr 2 names (at + 1))) (within-parts source depth)
    ∙ then-is (case_with source (within source depth) names at) _ v k.read
    ∙ fails _ _ (ap (λ those. stands source those (expr_span v).after symbol.Colon) (sym k.scoped) ∙ ap (λ n. stands source behind n symbol.Colon) (sym k.ends) ∙ none)

pub no-label : (source : Source) (depth : ℕ) (names : List Declared) (at : ℕ) → (lower source depth).expr 2 names (at + 1) ≡ None
    → and_then (case_with source (within source depth) names at) ((within source depth).parts.expr 2 names (at + 1)) ≡ None
no-label source depth names at none = then-none _ _ (ap (λ parts. parts.expr 2 names (at + 1)) (within-parts source depth) ∙ none)

pub no-default-colon : (source : Source) (inner : Within) (names : List Declared) (at next : ℕ) → next ≡ at + 1 → stands source names next symbol.Colon ≡ false → default_from source inner names at ≡ None
no-default-colon source inner names at next place none = fails _ _ (ap (λ n. stands source names n symbol.Colon) (sym place) ∙ none)

pub default-behind : (source : Source) (inner : Within) (names : List Declared) (at next inside : ℕ) → next ≡ at + 1 → Passes (stands source names next symbol.Colon) next (length source.tokens) (Some inside)
    → default_from source inner names at ≡ and_then (default_behind at) (inner.labelled names inside)
default-behind source inner names at next inside place there =
    let end : at + 2 ≡ inside = (let e = place in let f = there.1 in omega (arith, e, f)) in
    holds _ _ (ap (λ n. stands source names n symbol.Colon) (sym place) ∙ there.0) ∙ ap (λ n. and_then (default_behind at) (inner.labelled names n)) end
