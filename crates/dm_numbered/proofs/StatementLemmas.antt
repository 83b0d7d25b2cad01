-- Names in statements mean what the typing says, and what is seen behind them goes with what is known.
use Rattle.std.specs.Prelude.{◌≡◌, ℕ, ℤ, ◌+◌, Bool, true, false, not, IsSome, List, length, [], ◌∷◌, ◌++◌, drop, Option, Some, None, refl}
use Rattle.std.specs.List.{AllByRecursion}
use Rattle.std.specs.FinMap as map
use Rattle.std.proofs.Common.{sym, ap, ◌∙◌, subst, arith, length-append}
use Rattle.std.proofs.lemmas.List.{length-drop}
use Rattle.dm_token.specs.declared.place.Span.{Span}
use Rattle.dm_int.specs.declared.Kind.{Kind}
use Rattle.dm_int.specs.Kinds.{promote}
use Rattle.dm_name_map.specs.Numbers.{Numbers}
use Rattle.dm_type.specs.CTypes.{CType, integer}
use Rattle.dm_syn.specs.declared.declared.Declared.{Declared as Scoped}
use Rattle.dm_syn.specs.Scopes.{declarator_name, expr_declares, specifiers_declares, item_declares, defines_types, optional_declares, start_declares, block_item_declares, switch_item_declares}
use Rattle.dm_syn.specs.Sources.{Source as Text}
use Rattle.dm_syn.specs.Spans.{expr_span, specifiers_span, item_span, block_item_span, switch_item_span}
use Rattle.dm_syn.specs.Statements.{IsItem, AreMoreItems, AreItems, IsDeclaration, IsStart, IsStmt, AreBlockItems, IsBlockItem, AreSwitchItems, IsSwitchItem}
use Rattle.dm_syn.specs.Trees.{Expr, Item, ForStart, Stmt, BlockItems, BlockItem, SwitchItems, SwitchItem}
use Rattle.dm_syn.specs.Trees as tree
use Rattle.dm_tree.specs.Constants.{integer_kind}
use Rattle.dm_tree.specs.Scenes.{is_scalar, is_void}
use Rattle.dm_tree.specs.Trees.{Tree, kind_of, trees}
use Rattle.dm_typing.specs.Known.{Known}
use Rattle.dm_typing.specs.Conversions.{as_kind, constant_of}
use Rattle.dm_typing.specs.Rules.{is_assignable}
use Rattle.dm_typing.specs.Typing.{typed}
use Rattle.dm_edecl.specs.Standing.{Standing, Progress, goes_on, stops, opened, closed, known_behind, in_scope}
use Rattle.dm_edecl.specs.Declaring.{expressions_of, typed_declaration}
use Rattle.dm_edecl.specs.Statements.{Within, in_loop, in_switch, typed_value, typed_optional, typed_condition, typed_optional_condition, Subject, typed_subject, Labelled, AllLabelled, is_label_among, CaseValue, typed_case, full_statement, returned, typed_return, declared_in, typed_start, typed_stmt, typed_items_in, typed_item_in, typed_switch_items, typed_switch_item}
use Rattle.dm_names.specs.declared.nest.Scope.{Scope}
use Rattle.dm_names.specs.declared.seen.Seen.{Seen}
use Rattle.dm_names.specs.Scopes.{nothing_declared}
use Rattle.dm_names.specs.Seen.{opened as open_seen, closed as close_seen, expr, declaration, optional, start, stmt, block_items, block_item, switch_items, switch_item}
use Rattle.dm_numbered.specs.Numbered.{EachMeant, EachMeantIn}
use Rattle.dm_numbered.proofs.GrowthLemmas.{Grows, joined, loosely, block-grows, expr-grows, optional-grows, start-grows, stmt-grows, items-in-grow, switch-grows, switch-item-grows}
use Rattle.dm_numbered.proofs.ScopeLemmas.{IsAlike, AreAlike, empty-alike, IsUnder, empty-under}
use Rattle.dm_numbered.proofs.StateLemmas.{Frame, Good, In}
use Rattle.dm_numbered.proofs.NumberLemmas.{numbers_then, list_then, list-append, quiet, quiet-list, meant, all-meant}
use Rattle.dm_numbered.proofs.FormLemmas.{Each, EachOf, Yields, after-yields, with-yields, obeys-yields, if-yields, each-in, value-each, type-each}
use Rattle.dm_numbered.proofs.ExpressionLemmas.{expr-yields, under-drop}
use Rattle.dm_numbered.proofs.DeclarationLemmas.{source, Left, left-same, Comes, further-comes, typing-comes, keeps-comes, Fits, shape_of, AreNamed, IsNamedDeclaration, EachDeclared, declared_then, declaration-comes}

-- ---- the grammar: declarators of declarations have names

item-named : (text : Text) (names : List Scoped) (is_type : Bool) (one : Item) → IsItem text names is_type one → IsSome (declarator_name (shape_of one))
unfolding IsItem
item-named text names is_type (tree.plain span shape) is = is.2
item-named text names is_type (tree.initialised span shape set) is = is.2

more-named : (text : Text) (names : List Scoped) (is_type : Bool) (at : ℕ) (all : List Item) → AreMoreItems text names is_type at all → AreNamed all
unfolding AreMoreItems
more-named text names is_type at [] is = tt
more-named text names is_type at (first ∷ others) is =
    (item-named text names is_type first is.2, more-named text (item_declares text is_type first ++ names) is_type (item_span first).after others is.3)

items-named : (text : Text) (names : List Scoped) (is_type : Bool) (at : ℕ) (all : List Item) → AreItems text names is_type at all → AreNamed all
unfolding AreItems
items-named text names is_type at [] is = tt
items-named text names is_type at (first ∷ others) is =
    (item-named text names is_type first is.1, more-named text (item_declares text is_type first ++ names) is_type (item_span first).after others is.2)

pub declaration-named : (text : Text) (names : List Scoped) (one : tree.Declaration) → IsDeclaration text names one → IsNamedDeclaration one
unfolding IsDeclaration
declaration-named text names (tree.declaring span these all) is =
    items-named text (specifiers_declares text these ++ names) (defines_types text these) (specifiers_span these).after all is.2

module _ (c : Frame) where
  abbrev pub AllMeant : List Tree → Type 0
  AllMeant list = AllByRecursion (EachMeant c.all) list

  pub meant-list : (list : List Tree) → AllMeant list → EachMeantIn c.all (trees list)
  meant-list [] h = tt
  meant-list (tree ∷ list) h = (h.0, meant-list list h.1)

  pub meant-append : (xs ys : List Tree) → AllMeant xs → AllMeant ys → AllMeant (xs ++ ys)
  meant-append [] ys h k = k
  meant-append (x ∷ xs) ys h k = (h.0, meant-append xs ys h.1 k)

  -- an expression declares nothing
  past : (seen mid : Seen) (value : Tree) (rest : List ℕ) → Each c value → Grows c.Told true seen mid → Left c seen (numbers_then value rest) → Left c mid rest
  past seen mid value rest h grows left = left-same c seen mid rest (grows.declarators refl) (left ∙ quiet c value rest h)

  past-list : (seen mid : Seen) (values : List Tree) (rest : List ℕ) → EachOf c values → Grows c.Told true seen mid → Left c seen (list_then values rest) → Left c mid rest
  past-list seen mid values rest h grows left = left-same c seen mid rest (grows.declarators refl) (left ∙ quiet-list c values rest h)

  -- ---- scopes

  opened-good : (s : Standing) (seen : Seen) (scope : Numbers) (names : Scope) → IsAlike scope names → IsUnder seen.entries names → Good c s.known seen → Good c (opened scope s).known (open_seen names seen)
  opened-good s seen scope names alike under good = record { alike = (alike, good.alike); entries = good.entries; under = (under, good.under); constants = good.constants }

  closed-good : (s inside : Standing) (seen inner : Seen) (names : Scope) → Grows c.Told false (open_seen names seen) inner → Good c s.known seen → Good c inside.known inner
      → Good c (known_behind s.known inside.known) (close_seen inner)
  closed-good s inside seen inner names grows good then_good =
      let outside = s.known.declared in let within = inside.known.declared in
      let one = good.entries in let two = then_good.entries in let low = grows.entries in
      let parts = length-append outside (drop (length outside) within) in
      let behind = length-drop (length outside) within in
      record {
        alike = subst (AreAlike s.known.scopes) (sym grows.outer) good.alike;
        entries = omega (arith, one, two, low, parts, behind);
        under = under-drop inner.entries inner.scopes then_good.under;
        constants = then_good.constants;
      }

  pub closed-comes : {A : Type 0} (n : A → List ℕ → List ℕ) (E : A → Type 0) (s : Standing) (seen inner : Seen) (scope : Numbers) (names : Scope) (one : Progress A)
      → (Good c s.known seen → IsAlike scope names × IsUnder seen.entries names) → Grows c.Told false (open_seen names seen) inner
      → Comes c (Fits c (opened scope s).known (open_seen names seen) inner n E) one → Comes c (Fits c s.known seen (close_seen inner) n E) (closed s one)
  closed-comes n E s seen inner scope names (goes_on inside it) first grows h =
      λ rest good left.
      let scopes = first good in
      let fits = h rest (opened-good s seen scope names scopes.0 scopes.1 good) left in
      (closed-good s inside seen inner names grows good fits.0, fits.1, fits.2)
  closed-comes n E s seen inner scope names (stops rule at) first grows h = tt

  -- a scope in which nothing is declared yet
  empty-comes : {A : Type 0} (n : A → List ℕ → List ℕ) (E : A → Type 0) (s : Standing) (seen inner : Seen) (one : Progress A) → Grows c.Told false (open_seen nothing_declared seen) inner
      → Comes c (Fits c (opened map.empty s).known (open_seen nothing_declared seen) inner n E) one → Comes c (Fits c s.known seen (close_seen inner) n E) (closed s one)
  empty-comes n E s seen inner one grows h = closed-comes n E s seen inner map.empty nothing_declared one (λ good. (empty-alike, empty-under seen.entries)) grows h

  -- ---- expressions in statements

  abbrev Plain : Seen → Expr → Seen
  Plain seen it = expr (source c) seen it

  value-yields : (known : Known) (it : Expr) (seen : Seen) → In c (expr (source c) seen it) → Good c known seen → Yields c (expr (source c) seen it) (Each c) (typed_value c.setting known it)
  value-yields known it seen within good =
      with-yields c (Plain seen it) (Each c) (Each c) (typed c.setting true known it) _ (expr-yields c true known (expr_span it) it seen within good) (λ behind made one. value-each c made one)

  optional-yields : (known : Known) (it : Option Expr) (seen : Seen) → In c (optional (source c) seen it) → Good c known seen → Yields c (optional (source c) seen it) (EachOf c) (typed_optional c.setting known it)
  optional-yields known None seen within good = (good, tt)
  optional-yields known (Some it) seen within good =
      with-yields c (Plain seen it) (Each c) (EachOf c) (typed_value c.setting known it) _ (value-yields known it seen within good) (λ behind value one. (one, tt))

  condition-yields : (known : Known) (it : Expr) (seen : Seen) → In c (expr (source c) seen it) → Good c known seen → Yields c (expr (source c) seen it) (Each c) (typed_condition c.setting known it)
  condition-yields known it seen within good =
      let last = Plain seen it in
      after-yields c last last (Each c) (Each c) (typed_value c.setting known it) _ (value-yields known it seen within good)
      (λ behind value still one. obeys-yields c last (Each c) (is_scalar (kind_of value)) 32 (expr_span it).first _ (still, one))

  optional-condition-yields : (known : Known) (it : Option Expr) (seen : Seen) → In c (optional (source c) seen it) → Good c known seen
      → Yields c (optional (source c) seen it) (EachOf c) (typed_optional_condition c.setting known it)
  optional-condition-yields known None seen within good = (good, tt)
  optional-condition-yields known (Some it) seen within good =
      with-yields c (Plain seen it) (Each c) (EachOf c) (typed_condition c.setting known it) _ (condition-yields known it seen within good) (λ behind value one. (one, tt))

  abbrev EachSubject : Subject → Type 0
  EachSubject it = Each c it.tree

  subject-yields : (known : Known) (it : Expr) (seen : Seen) → In c (expr (source c) seen it) → Good c known seen → Yields c (expr (source c) seen it) EachSubject (typed_subject c.setting known it)
  subject-yields known it seen within good =
      let last = Plain seen it in
      after-yields c last last (Each c) EachSubject (typed_value c.setting known it) _ (value-yields known it seen within good)
      (λ behind value still one. if-yields c last EachSubject (integer_kind (kind_of value)) 32 (expr_span it).first _ (λ kind e. (still, type-each c (integer (promote kind)) value one)))

  abbrev EachCase : CaseValue → Type 0
  EachCase it = Each c it.tree

  case-yields : (known : Known) (kind : Kind) (labels : List (Option ℤ)) (it : Expr) (seen : Seen) → In c (expr (source c) seen it) → Good c known seen
      → Yields c (expr (source c) seen it) EachCase (typed_case c.setting known kind labels it)
  case-yields known kind labels it seen within good =
      let last = Plain seen it in
      after-yields c last last (Each c) EachCase (typed_value c.setting known it) _ (value-yields known it seen within good)
      (λ behind value still one. if-yields c last EachCase (constant_of behind (as_kind kind value)) 30 (expr_span it).first _
      (λ n e. obeys-yields c last EachCase (not (is_label_among (Some n) labels)) 31 (expr_span it).first _ (still, type-each c (integer kind) value one)))

  -- ---- single statements

  full-each : (span : Span) (values : List Tree) → EachOf c values → Each c (full_statement c.setting span values)
  full-each span [] h = (tt, tt)
  full-each span (value ∷ values) h = (tt, each-in c (value ∷ values) h)

  returned-yields : (known : Known) (seen : Seen) (result : CType) (span : Span) (values : List Tree) → Good c known seen → EachOf c values → Yields c seen (Each c) (returned c.setting known result span values)
  returned-yields known seen result span [] good h = obeys-yields c seen (Each c) (is_void result) 34 span.first _ (good, (tt, tt))
  returned-yields known seen result span (value ∷ others) good h =
      obeys-yields c seen (Each c) (is_assignable known value result) 34 span.first _ (good, (tt, (type-each c result value h.0, tt)))

  return-yields : (known : Known) (result : CType) (span : Span) (it : Option Expr) (seen : Seen) → In c (optional (source c) seen it) → Good c known seen
      → Yields c (optional (source c) seen it) (Each c) (typed_return c.setting known result span it)
  return-yields known result span it seen within good =
      let last = optional (source c) seen it in
      after-yields c last last (EachOf c) (Each c) (typed_optional c.setting known it) _ (optional-yields known it seen within good) (λ behind values still each. returned-yields behind last result span values still each)

  -- what statements come to
  abbrev pub Says : Known → Seen → Seen → Standing → Tree → Type 0
  Says known seen last = Fits c known seen last numbers_then (EachMeant c.all)

  abbrev pub SayAll : Known → Seen → Seen → Standing → List Tree → Type 0
  SayAll known seen last = Fits c known seen last list_then AllMeant

  declared-comes : (s : Standing) (one : tree.Declaration) (seen : Seen) → IsNamedDeclaration one → In c (declaration (source c) seen one)
      → Comes c (Says s.known seen (declaration (source c) seen one)) (declared_in c.setting s one)
  declared-comes s one seen some within =
      let last = declaration (source c) seen one in
      further-comes c (Fits c s.known seen last (declared_then c) (EachDeclared c)) (Says s.known seen last) (typed_declaration c.setting s one) _ (declaration-comes c s one seen some within)
      (λ behind it fits rest good left.
      let f = fits rest good left in (
        f.0,
        f.1,
        (
          tt,
          meant-list (it.constants ++ expressions_of it.locals)
              (meant-append it.constants (expressions_of it.locals) (all-meant c it.constants f.2.0) (all-meant c (expressions_of it.locals) f.2.1)),
        ),
      ))

  start-comes : (text : Text) (names : List Scoped) (at : ℕ) (s : Standing) (one : ForStart) (seen : Seen) → IsStart text names at one → In c (start (source c) seen one)
      → Comes c (SayAll s.known seen (start (source c) seen one)) (typed_start c.setting s one)
  unfolding IsStart
  start-comes text names at s (tree.declares one) seen is within =
      let last = declaration (source c) seen one in
      further-comes c (Says s.known seen last) (SayAll s.known seen last) (declared_in c.setting s one) _ (declared-comes s one seen (declaration-named text names one is.1) within)
      (λ behind made fits rest good left. let f = fits rest good left in (f.0, f.1, (f.2, tt)))
  start-comes text names at s (tree.evaluates it) seen is within =
      let last = optional (source c) seen it in
      typing-comes c seen last (EachOf c) (SayAll s.known seen last) s (typed_optional c.setting s.known it) _ (optional-yields s.known it seen within)
      (λ behind values h rest good left.
      let now = h good in (now.0, past-list seen last values rest now.1 (optional-grows c.Told (source c) seen it) left, all-meant c values now.1))

  -- ---- the syntax

  abbrev labelled_then : Labelled → List ℕ → List ℕ
  labelled_then it rest = numbers_then it.tree rest

  abbrev MeantLabelled : Labelled → Type 0
  MeantLabelled it = EachMeant c.all it.tree

  abbrev all_labelled_then : AllLabelled → List ℕ → List ℕ
  all_labelled_then it rest = list_then it.trees rest

  abbrev AllMeantLabelled : AllLabelled → Type 0
  AllMeantLabelled it = AllMeant it.trees

  abbrev SaysLabelled : Known → Seen → Seen → Standing → Labelled → Type 0
  SaysLabelled known seen last = Fits c known seen last labelled_then MeantLabelled

  abbrev SayAllLabelled : Known → Seen → Seen → Standing → AllLabelled → Type 0
  SayAllLabelled known seen last = Fits c known seen last all_labelled_then AllMeantLabelled

  abbrev within_block : Seen → Seen
  within_block seen = open_seen nothing_declared seen

  -- a scope goes on from what stands round it
  scope-grows : (seen inner : Seen) → Grows c.Told false (within_block seen) inner → Grows c.Told false seen (close_seen inner)
  scope-grows seen inner g = block-grows c.Told (source c) nothing_declared seen inner g

  for-numbers : (first second third : List Tree) (body : Tree) (rest : List ℕ)
      → list_then (first ++ (second ++ (third ++ body ∷ []))) rest ≡ list_then first (list_then second (list_then third (numbers_then body rest)))
  for-numbers first second third body rest =
      list-append first (second ++ (third ++ body ∷ [])) rest
      ∙ ap (list_then first) (list-append second (third ++ body ∷ []) rest ∙ ap (list_then second) (list-append third (body ∷ []) rest))

  mutual
    unfolding typed_stmt typed_items_in typed_item_in typed_switch_items typed_switch_item stmt block_items block_item switch_items switch_item IsStmt AreBlockItems IsBlockItem AreSwitchItems IsSwitchItem

    pub stmt-comes : (text : Text) (names : List Scoped) (within : Within) (s : Standing) (it : Stmt) (seen : Seen) → IsStmt text names it → In c (stmt (source c) seen it)
        → Comes c (Says s.known seen (stmt (source c) seen it)) (typed_stmt c.setting within s it)
    stmt-comes text names within s (tree.block span all) seen is told =
        let inside = opened map.empty s in let part = within_block seen in let inner = block_items (source c) part all in
        empty-comes numbers_then (EachMeant c.all) s seen inner _ (items-in-grow c.Told (source c) part all)
        (further-comes c (SayAll inside.known part inner) (Says inside.known part inner) (typed_items_in c.setting within inside all) _
        (block-comes text names (span.first + 1) is.1.0 within inside all part is.1.1 told)
        (λ behind list fits rest good left. let f = fits rest good left in (f.0, f.1, (tt, meant-list list f.2))))
    stmt-comes text names within s (tree.expression span it) seen is told =
        let last = optional (source c) seen it in
        typing-comes c seen last (EachOf c) (Says s.known seen last) s (typed_optional c.setting s.known it) _ (optional-yields s.known it seen told)
        (λ behind values h rest good left.
        let now = h good in let each = full-each span values now.1 in
        (now.0, past seen last (full_statement c.setting span values) rest each (optional-grows c.Told (source c) seen it) left, meant c (full_statement c.setting span values) each))
    stmt-comes text names within s (tree.if_only span condition body) seen is told =
        let inside = opened map.empty s in let part = within_block seen in let mid = expr (source c) part condition in
        let deep = within_block mid in let inner = stmt (source c) deep body in
        let grows = stmt-grows c.Told (source c) deep body in let begins = expr-grows c.Told (source c) part condition in
        empty-comes numbers_then (EachMeant c.all) s seen (close_seen inner) _ (joined c.Told false part mid (close_seen inner) (loosely c.Told part mid begins) (scope-grows mid inner grows))
        (typing-comes c part mid (Each c) (Says inside.known part (close_seen inner)) inside (typed_condition c.setting inside.known condition) _
        (condition-yields inside.known condition part (grows.told told))
        (λ then_inside value h. further-comes c (Says then_inside.known mid (close_seen inner)) (Says inside.known part (close_seen inner)) (in_scope then_inside (λ other. typed_stmt c.setting within other body)) _
        (empty-comes numbers_then (EachMeant c.all) then_inside mid inner _ grows
        (stmt-comes text (expr_declares text condition ++ names) within (opened map.empty then_inside) body deep is.3 told))
        (λ behind made fits rest good left.
        let now = h good in
        let f = fits rest now.0 (past part mid value (numbers_then made rest) now.1 begins left) in
        (f.0, f.1, (tt, (meant c value now.1, (f.2, tt)))))))
    stmt-comes text names within s (tree.if_else span condition body other) seen is told =
        let inside = opened map.empty s in let part = within_block seen in let mid = expr (source c) part condition in
        let deep = within_block mid in let inner = stmt (source c) deep body in let next = close_seen inner in
        let second_deep = within_block next in let second_inner = stmt (source c) second_deep other in let last = close_seen second_inner in
        let begins = expr-grows c.Told (source c) part condition in
        let grows = stmt-grows c.Told (source c) deep body in let second_grows = stmt-grows c.Told (source c) second_deep other in
        empty-comes numbers_then (EachMeant c.all) s seen last _
        (joined c.Told false part mid last (loosely c.Told part mid begins) (joined c.Told false mid next last (scope-grows mid inner grows) (scope-grows next second_inner second_grows)))
        (typing-comes c part mid (Each c) (Says inside.known part last) inside (typed_condition c.setting inside.known condition) _
        (condition-yields inside.known condition part (grows.told (second_grows.told told)))
        (λ then_inside value h. further-comes c (Says then_inside.known mid next) (Says inside.known part last) (in_scope then_inside (λ one. typed_stmt c.setting within one body)) _
        (empty-comes numbers_then (EachMeant c.all) then_inside mid inner _ grows
        (stmt-comes text (expr_declares text condition ++ names) within (opened map.empty then_inside) body deep is.3 (second_grows.told told)))
        (λ then_more first fits. further-comes c (Says then_more.known next last) (Says inside.known part last) (in_scope then_more (λ one. typed_stmt c.setting within one other)) _
        (empty-comes numbers_then (EachMeant c.all) then_more next second_inner _ second_grows
        (stmt-comes text (expr_declares text condition ++ names) within (opened map.empty then_more) other second_deep is.6 told))
        (λ behind second then_fits rest good left.
        let now = h good in
        let f = fits (numbers_then second rest) now.0 (past part mid value (numbers_then first (numbers_then second rest)) now.1 begins left) in
        let g = then_fits rest f.0 f.1 in
        (g.0, g.1, (tt, (meant c value now.1, (f.2, (g.2, tt)))))))))
    stmt-comes text names within s (tree.switch span subject all) seen is told =
        let inside = opened map.empty s in let part = within_block seen in let mid = expr (source c) part subject in
        let deep = within_block mid in let inner = switch_items (source c) deep all in
        let grows = switch-grows c.Told (source c) deep all in let begins = expr-grows c.Told (source c) part subject in
        empty-comes numbers_then (EachMeant c.all) s seen (close_seen inner) _ (joined c.Told false part mid (close_seen inner) (loosely c.Told part mid begins) (scope-grows mid inner grows))
        (typing-comes c part mid EachSubject (Says inside.known part (close_seen inner)) inside (typed_subject c.setting inside.known subject) _
        (subject-yields inside.known subject part (grows.told told))
        (λ then_inside one h. further-comes c (SayAllLabelled then_inside.known mid (close_seen inner)) (Says inside.known part (close_seen inner))
        (in_scope then_inside (λ other. typed_switch_items c.setting (in_switch within) one.kind other [] all)) _
        (empty-comes all_labelled_then AllMeantLabelled then_inside mid inner _ grows
        (switch-comes text (expr_declares text subject ++ names) ((expr_span subject).after + 2) is.3.0 (in_switch within) one.kind (opened map.empty then_inside) [] all deep is.3.1 told))
        (λ behind made fits rest good left.
        let now = h good in
        let f = fits rest now.0 (past part mid one.tree (list_then made.trees rest) now.1 begins left) in
        (f.0, f.1, (tt, (meant c one.tree now.1, meant-list made.trees f.2))))))
    stmt-comes text names within s (tree.while span condition body) seen is told =
        let inside = opened map.empty s in let part = within_block seen in let mid = expr (source c) part condition in
        let deep = within_block mid in let inner = stmt (source c) deep body in
        let grows = stmt-grows c.Told (source c) deep body in let begins = expr-grows c.Told (source c) part condition in
        empty-comes numbers_then (EachMeant c.all) s seen (close_seen inner) _ (joined c.Told false part mid (close_seen inner) (loosely c.Told part mid begins) (scope-grows mid inner grows))
        (typing-comes c part mid (Each c) (Says inside.known part (close_seen inner)) inside (typed_condition c.setting inside.known condition) _
        (condition-yields inside.known condition part (grows.told told))
        (λ then_inside value h. further-comes c (Says then_inside.known mid (close_seen inner)) (Says inside.known part (close_seen inner)) (in_scope then_inside (λ other. typed_stmt c.setting (in_loop within) other body)) _
        (empty-comes numbers_then (EachMeant c.all) then_inside mid inner _ grows
        (stmt-comes text (expr_declares text condition ++ names) (in_loop within) (opened map.empty then_inside) body deep is.3 told))
        (λ behind made fits rest good left.
        let now = h good in
        let f = fits rest now.0 (past part mid value (numbers_then made rest) now.1 begins left) in
        (f.0, f.1, (tt, (meant c value now.1, (f.2, tt)))))))
    stmt-comes text names within s (tree.do_while span body condition) seen is told =
        let inside = opened map.empty s in let part = within_block seen in let deep = within_block part in let inner = stmt (source c) deep body in
        let mid = close_seen inner in let last = expr (source c) mid condition in
        let grows = stmt-grows c.Told (source c) deep body in let ends = expr-grows c.Told (source c) mid condition in
        empty-comes numbers_then (EachMeant c.all) s seen last _ (joined c.Told false part mid last (scope-grows part inner grows) (loosely c.Told mid last ends))
        (further-comes c (Says inside.known part mid) (Says inside.known part last) (in_scope inside (λ other. typed_stmt c.setting (in_loop within) other body)) _
        (empty-comes numbers_then (EachMeant c.all) inside part inner _ grows (stmt-comes text names (in_loop within) (opened map.empty inside) body deep is.2 (ends.told told)))
        (λ then_inside made fits. typing-comes c mid last (Each c) (Says inside.known part last) then_inside (typed_condition c.setting then_inside.known condition) _
        (condition-yields then_inside.known condition mid told)
        (λ behind value h rest good left.
        let f = fits (numbers_then value rest) good left in
        let now = h f.0 in
        (now.0, past mid last value rest now.1 ends f.1, (tt, (f.2, (meant c value now.1, tt)))))))
    stmt-comes text names within s (tree.for_loop span its_start condition step body) seen is told =
        let inside = opened map.empty s in let part = within_block seen in let a = start (source c) part its_start in
        let b = optional (source c) a condition in let d = optional (source c) b step in
        let deep = within_block d in let inner = stmt (source c) deep body in let last = close_seen inner in
        let grows = stmt-grows c.Told (source c) deep body in let begins = start-grows c.Told (source c) part its_start in
        let second_grows = optional-grows c.Told (source c) a condition in let third_grows = optional-grows c.Told (source c) b step in
        let in_third = grows.told told in let in_second = third_grows.told in_third in
        empty-comes numbers_then (EachMeant c.all) s seen last _
        (joined c.Told false part a last begins (joined c.Told false a b last (loosely c.Told a b second_grows) (joined c.Told false b d last (loosely c.Told b d third_grows) (scope-grows d inner grows))))
        (further-comes c (SayAll inside.known part a) (Says inside.known part last) (typed_start c.setting inside its_start) _
        (start-comes text names (span.first + 2) inside its_start part is.2 (second_grows.told in_second))
        (λ then_inside first fits. typing-comes c a b (EachOf c) (Says inside.known part last) then_inside (typed_optional_condition c.setting then_inside.known condition) _
        (optional-condition-yields then_inside.known condition a in_second)
        (λ then_more second h. typing-comes c b d (EachOf c) (Says inside.known part last) then_more (typed_optional c.setting then_more.known step) _
        (optional-yields then_more.known step b in_third)
        (λ then_all third k. further-comes c (Says then_all.known d last) (Says inside.known part last) (in_scope then_all (λ other. typed_stmt c.setting (in_loop within) other body)) _
        (empty-comes numbers_then (EachMeant c.all) then_all d inner _ grows
        (stmt-comes text (optional_declares text step ++ (optional_declares text condition ++ (start_declares text its_start ++ names))) (in_loop within) (opened map.empty then_all) body deep is.8 told))
        (λ behind made then_fits rest good left.
        let f = fits (list_then second (list_then third (numbers_then made rest))) good (left ∙ for-numbers first second third made rest) in
        let now = h f.0 in
        let left_second = past-list a b second (list_then third (numbers_then made rest)) now.1 second_grows f.1 in
        let then_now = k now.0 in
        let g = then_fits rest then_now.0 (past-list b d third (numbers_then made rest) then_now.1 third_grows left_second) in (
          g.0,
          g.1,
          (
            tt,
            meant-list (first ++ (second ++ (third ++ made ∷ [])))
                (meant-append first (second ++ (third ++ made ∷ [])) f.2 (meant-append second (third ++ made ∷ []) (all-meant c second now.1)
                (meant-append third (made ∷ []) (all-meant c third then_now.1) (g.2, tt)))),
          ),
        ))))))
    stmt-comes text names within s (tree.break span) seen is told = keeps-comes c (Says s.known seen seen) within.breaks 33 span.first _ (λ rest good left. (good, left, (tt, tt)))
    stmt-comes text names within s (tree.continue span) seen is told = keeps-comes c (Says s.known seen seen) within.continues 33 span.first _ (λ rest good left. (good, left, (tt, tt)))
    stmt-comes text names within s (tree.return span it) seen is told =
        let last = optional (source c) seen it in
        typing-comes c seen last (Each c) (Says s.known seen last) s (typed_return c.setting s.known within.result span it) _ (return-yields s.known within.result span it seen told)
        (λ behind made h rest good left. let now = h good in (now.0, past seen last made rest now.1 (optional-grows c.Told (source c) seen it) left, meant c made now.1))

    pub block-comes : (text : Text) (names : List Scoped) (at : ℕ) (scoped : List Scoped) (within : Within) (s : Standing) (all : BlockItems) (seen : Seen) → AreBlockItems text names at all scoped
        → In c (block_items (source c) seen all) → Comes c (SayAll s.known seen (block_items (source c) seen all)) (typed_items_in c.setting within s all)
    block-comes text names at scoped within s tree.no_items seen is told = λ rest good left. (good, left, tt)
    block-comes text names at scoped within s (tree.more_items first others) seen is told =
        let mid = block_item (source c) seen first in let last = block_items (source c) mid others in
        further-comes c (Says s.known seen mid) (SayAll s.known seen last) (typed_item_in c.setting within s first) _
        (block-item-comes text names within s first seen is.1 ((items-in-grow c.Told (source c) mid others).told told))
        (λ then_standing made fits. further-comes c (SayAll then_standing.known mid last) (SayAll s.known seen last) (typed_items_in c.setting within then_standing others) _
        (block-comes text (block_item_declares text first ++ names) (block_item_span first).after scoped within then_standing others mid is.2 told)
        (λ behind more then_fits rest good left.
        let f = fits (list_then more rest) good left in
        let g = then_fits rest f.0 f.1 in
        (g.0, g.1, (f.2, g.2))))

    block-item-comes : (text : Text) (names : List Scoped) (within : Within) (s : Standing) (one : BlockItem) (seen : Seen) → IsBlockItem text names one → In c (block_item (source c) seen one)
        → Comes c (Says s.known seen (block_item (source c) seen one)) (typed_item_in c.setting within s one)
    block-item-comes text names within s (tree.declared_item one) seen is told = declared-comes s one seen (declaration-named text names one is) told
    block-item-comes text names within s (tree.stated_item one) seen is told = stmt-comes text names within s one seen is told

    switch-comes : (text : Text) (names : List Scoped) (at : ℕ) (scoped : List Scoped) (within : Within) (kind : Kind) (s : Standing) (labels : List (Option ℤ)) (all : SwitchItems) (seen : Seen)
        → AreSwitchItems text names at all scoped → In c (switch_items (source c) seen all)
        → Comes c (SayAllLabelled s.known seen (switch_items (source c) seen all)) (typed_switch_items c.setting within kind s labels all)
    switch-comes text names at scoped within kind s labels tree.no_switch_items seen is told = λ rest good left. (good, left, tt)
    switch-comes text names at scoped within kind s labels (tree.more_switch_items first others) seen is told =
        let mid = switch_item (source c) seen first in let last = switch_items (source c) mid others in
        further-comes c (SaysLabelled s.known seen mid) (SayAllLabelled s.known seen last) (typed_switch_item c.setting within kind s labels first) _
        (switch-item-comes text names within kind s labels first seen is.1 ((switch-grows c.Told (source c) mid others).told told))
        (λ then_standing made fits. further-comes c (SayAllLabelled then_standing.known mid last) (SayAllLabelled s.known seen last) (typed_switch_items c.setting within kind then_standing made.labels others) _
        (switch-comes text (switch_item_declares text first ++ names) (switch_item_span first).after scoped within kind then_standing made.labels others mid is.2 told)
        (λ behind more then_fits rest good left.
        let f = fits (list_then more.trees rest) good left in
        let g = then_fits rest f.0 f.1 in
        (g.0, g.1, (f.2, g.2))))

    switch-item-comes : (text : Text) (names : List Scoped) (within : Within) (kind : Kind) (s : Standing) (labels : List (Option ℤ)) (one : SwitchItem) (seen : Seen)
        → IsSwitchItem text names one → In c (switch_item (source c) seen one)
        → Comes c (SaysLabelled s.known seen (switch_item (source c) seen one)) (typed_switch_item c.setting within kind s labels one)
    switch-item-comes text names within kind s labels (tree.case span value item) seen is told =
        let mid = expr (source c) seen value in let last = switch_item (source c) mid item in
        let begins = expr-grows c.Told (source c) seen value in
        typing-comes c seen mid EachCase (SaysLabelled s.known seen last) s (typed_case c.setting s.known kind labels value) _
        (case-yields s.known kind labels value seen ((switch-item-grows c.Told (source c) mid item).told told))
        (λ then_standing one h. further-comes c (SaysLabelled then_standing.known mid last) (SaysLabelled s.known seen last) (typed_switch_item c.setting within kind then_standing (Some one.value ∷ labels) item) _
        (switch-item-comes text (expr_declares text value ++ names) within kind then_standing (Some one.value ∷ labels) item mid is.6 told)
        (λ behind made fits rest good left.
        let now = h good in
        let f = fits rest now.0 (past seen mid one.tree (numbers_then made.tree rest) now.1 begins left) in
        (f.0, f.1, (tt, (meant c one.tree now.1, (f.2, tt))))))
    switch-item-comes text names within kind s labels (tree.default span item) seen is told =
        let last = switch_item (source c) seen item in
        keeps-comes c (SaysLabelled s.known seen last) (not (is_label_among None labels)) 31 span.first _
        (further-comes c (SaysLabelled s.known seen last) (SaysLabelled s.known seen last) (typed_switch_item c.setting within kind s (None ∷ labels) item) _
        (switch-item-comes text names within kind s (None ∷ labels) item seen is.3 told)
        (λ behind made fits rest good left. let f = fits rest good left in (f.0, f.1, (tt, (f.2, tt)))))
    switch-item-comes text names within kind s labels (tree.unlabelled span one) seen is told =
        let last = stmt (source c) seen one in
        further-comes c (Says s.known seen last) (SaysLabelled s.known seen last) (typed_stmt c.setting within s one) _ (stmt-comes text names within s one seen is.1 told)
        (λ behind made fits. fits)
