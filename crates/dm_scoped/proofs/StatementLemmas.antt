-- The names in statements are in scope: by induction over the syntax.
use Rattle.std.specs.Prelude.{◌≡◌, ℕ, ℤ, ◌==◌, Bool, true, false, ◌||◌, not, List, [], ◌∷◌, ◌++◌, map as each, replicate, length, Option, Some, None, refl}
use Rattle.std.specs.FinMap as map
use Rattle.std.proofs.Common.{◌∙◌, subst}
use Rattle.dm_token.specs.declared.place.Span.{Span}
use Rattle.dm_int.specs.declared.Kind.{Kind}
use Rattle.dm_int.specs.Kinds.{promote}
use Rattle.dm_type.specs.CTypes.{CType, void, integer}
use Rattle.dm_syn.specs.Spans.{expr_span, declaration_span}
use Rattle.dm_syn.specs.Trees.{Expr, ForStart, Stmt, BlockItems, BlockItem, SwitchItems, SwitchItem}
use Rattle.dm_syn.specs.Trees as tree
use Rattle.dm_tree.specs.Constants.{integer_kind}
use Rattle.dm_tree.specs.Scenes.{is_scalar, is_void}
use Rattle.dm_tree.specs.Trees.{Label, Declarator, Tree, trees, kind_of}
use Rattle.dm_tree.specs.Trees as label
use Rattle.dm_tree.specs.Units.{Declaration}
use Rattle.dm_effect.specs.Scoped.{Scope, is_in_scope, declared_by, scopes_in_order, scopes_of_initialisers, is_scoped, are_scoped}
use Rattle.dm_typing.proofs.KindLemmas.{numbers-same}
use Rattle.dm_typing.specs.Known.{Known, Setting}
use Rattle.dm_typing.specs.Conversions.{as_type, as_kind, constant_of}
use Rattle.dm_typing.specs.Rules.{is_assignable}
use Rattle.dm_typing.specs.Typing.{extent, typed}
use Rattle.dm_edecl.specs.Standing.{Standing, Progress, goes_on, stops, in_scope, opened}
use Rattle.dm_edecl.specs.Declaring.{Local, Declared, declarators_of, expressions_of, typed_declaration}
use Rattle.dm_edecl.specs.Statements.{Within, in_loop, in_switch, statement, Subject, subject, Labelled, AllLabelled, is_label_among, CaseValue, typed_value, typed_optional, typed_condition, typed_optional_condition, typed_subject, typed_case, full_statement, returned, typed_return, declaration_tree, declared_in, typed_start, is_there, for_statement, typed_stmt, typed_items_in, typed_item_in, typed_switch_items, typed_switch_item}
use Rattle.dm_scoped.proofs.OverLemmas.{Every}
use Rattle.dm_scoped.proofs.ScopeLemmas.{Grown, IsWider, empty-sees, Sees}
use Rattle.dm_scoped.proofs.StepLemmas.{Fits, Covers, IsScopedIn, scoped-later, every-later, both-true, each-scoped, made-scoped, Gives, AllScoped, all-pass, stays, after-gives, with-gives, obeys-gives, if-gives}
use Rattle.dm_scoped.proofs.ExpressionLemmas.{value-scoped, as-type-scoped, expr-scoped}
use Rattle.dm_scoped.proofs.InitialiserLemmas.{every-append}
use Rattle.dm_scoped.proofs.StandingLemmas.{Holds, Leads, moves-none, holds-wider, leads-so, further-leads, keeps-leads, typing-leads, IsLasting, opened-holds, closed-leads}
use Rattle.dm_scoped.proofs.DeclarationLemmas.{Extends, behind_all, AreFine, behind_declaration, IsFineDeclaration, declaration-leads}

-- ---- what passes behind declarations in blocks

abbrev pub also : (ℕ → Bool) → ℕ → ℕ → Bool
also seen n d = (n == d) || seen d

pub or-right : (one other : Bool) → other ≡ true → (one || other) ≡ true
or-right true other h = refl
or-right false other h = h

pub or-left : (one other : Bool) → one ≡ true → (one || other) ≡ true
or-left true other h = refl
or-left false other h = absurd (cc)

pub or-swap : (one other more : Bool) → (one || (other || more)) ≡ true → ((other || one) || more) ≡ true
or-swap true true more h = refl
or-swap true false more h = refl
or-swap false true more h = refl
or-swap false false more h = h

pub in-blocks : (setting : Setting) (depth : ℕ) → Extends setting depth also
in-blocks setting depth = record {
  wider = λ seen n d h. or-right (n == d) (seen d) h;
  takes = λ seen n known storage at kind deep auto. or-left (n == n) (seen n) (numbers-same n n refl);
}

-- what a tree declares passes too
abbrev pub with_tree : (ℕ → Bool) → Tree → ℕ → Bool
with_tree seen tree d = is_in_scope (declared_by tree) d || seen d

pub tree-wider : (seen : ℕ → Bool) (tree : Tree) → IsWider seen (with_tree seen tree)
tree-wider seen tree d h = or-right (is_in_scope (declared_by tree) d) (seen d) h

abbrev numbers_in : List Local → Scope
numbers_in locals = each (λ (one : Declarator). one.declared) (declarators_of locals)

all-in-tree : (seen : ℕ → Bool) (locals : List Local) (d : ℕ) → behind_all also seen locals d ≡ true → (is_in_scope (numbers_in locals) d || seen d) ≡ true
all-in-tree seen [] d h = h
all-in-tree seen (first ∷ others) d h =
    or-swap (is_in_scope (numbers_in others) d) (first.declarator.declared == d) (seen d) (all-in-tree (also seen first.declarator.declared) others d h)

-- ---- scopes

in-either : (some more : Scope) (d : ℕ) → (is_in_scope some d || is_in_scope more d) ≡ true → is_in_scope (some ++ more) d ≡ true
in-either [] more d h = h
in-either (c ∷ some) more d h = by-test (λ rest. in-either some more d rest) (c == d) h
  where
    by-test : ((is_in_scope some d || is_in_scope more d) ≡ true → is_in_scope (some ++ more) d ≡ true) → (test : Bool)
        → ((test || is_in_scope some d) || is_in_scope more d) ≡ true → (test || is_in_scope (some ++ more) d) ≡ true
    by-test rest true h = refl
    by-test rest false h = rest h

either-way : (one other more : Bool) → (other ≡ true → more ≡ true) → (one || other) ≡ true → (one || more) ≡ true
either-way true other more f h = refl
either-way false other more f h = f h

covers-tree : (seen : ℕ → Bool) (scope : Scope) (tree : Tree) → Covers seen scope → Covers (with_tree seen tree) (declared_by tree ++ scope)
covers-tree seen scope tree covers d h =
    in-either (declared_by tree) scope d (either-way (is_in_scope (declared_by tree) d) (seen d) (is_in_scope scope d) (covers d) h)

covers-also : (seen : ℕ → Bool) (scope : Scope) (n : ℕ) → Covers seen scope → Covers (also seen n) (n ∷ scope)
covers-also seen scope n covers d h = either-way (n == d) (seen d) (is_in_scope scope d) (covers d) h

pub scoped-wider : (seen more : ℕ → Bool) (declared : List Declaration) (tree : Tree) → IsWider seen more → IsScopedIn seen declared tree → IsScopedIn more declared tree
unfolding IsScopedIn
scoped-wider seen more declared tree wider h automatic scope fits covers = h automatic scope fits (λ d is. covers d (wider d is))

-- ---- a declaration

module _ (automatic : ℕ → Bool) where
  skipped : (constants rest : List Tree) (scopes : List (Option Scope))
      → are_scoped automatic (replicate (length constants) None ++ scopes) (trees (constants ++ rest)) ≡ are_scoped automatic scopes (trees rest)
  skipped [] rest scopes = refl
  skipped (first ∷ constants) rest scopes = skipped constants rest scopes

  all-then : (scope : Scope) (some rest : List Tree) (scopes : List (Option Scope)) → Every (λ tree. is_scoped automatic scope tree ≡ true) some
      → are_scoped automatic scopes (trees rest) ≡ true → are_scoped automatic (replicate (length some) (Some scope) ++ scopes) (trees (some ++ rest)) ≡ true
  all-then scope [] rest scopes h g = g
  all-then scope (first ∷ some) rest scopes h g = both-true (is_scoped automatic scope first) _ h.0 (all-then scope some rest scopes h.1 g)

  locals-scoped : (seen : ℕ → Bool) (declared : List Declaration) (scope : Scope) (locals : List Local) → Fits automatic declared → Covers seen scope
      → AreFine also seen declared locals → are_scoped automatic (scopes_of_initialisers scope (declarators_of locals)) (trees (expressions_of locals)) ≡ true
  locals-scoped seen declared scope [] fits covers h = refl
  locals-scoped seen declared scope (first ∷ others) fits covers h =
      let n = first.declarator.declared in
      let inner = covers-also seen scope n covers in
      subst
      (λ k. are_scoped automatic (replicate k (Some (n ∷ scope)) ++ scopes_of_initialisers (n ∷ scope) (declarators_of others)) (trees (first.expressions ++ expressions_of others)) ≡ true)
      h.0.1
      (all-then (n ∷ scope) first.expressions (expressions_of others) (scopes_of_initialisers (n ∷ scope) (declarators_of others))
      (each-scoped (also seen n) declared automatic (n ∷ scope) first.expressions fits inner h.0.0)
      (locals-scoped (also seen n) declared (n ∷ scope) others fits inner h.1))

declaration-scoped : (setting : Setting) (seen : ℕ → Bool) (declared : List Declaration) (span : Span) (one : Declared) → AreFine also seen declared one.locals
    → IsScopedIn seen declared (declaration_tree setting span one)
unfolding IsScopedIn
declaration-scoped setting seen declared span one h automatic scope fits covers =
    skipped automatic one.constants (expressions_of one.locals) (scopes_of_initialisers scope (declarators_of one.locals))
    ∙ locals-scoped automatic seen declared scope one.locals fits covers h

-- ---- items in order

abbrev pub AreScopedItems : (ℕ → Bool) → List Declaration → List Tree → Type 0
AreScopedItems seen declared [] = Unit {0}
AreScopedItems seen declared (first ∷ others) = IsScopedIn seen declared first × AreScopedItems (with_tree seen first) declared others

abbrev pub behind_items : (ℕ → Bool) → List Tree → ℕ → Bool
behind_items seen [] = seen
behind_items seen (first ∷ others) = behind_items (with_tree seen first) others

items-later : (seen : ℕ → Bool) (old new : List Declaration) (list : List Tree) → Grown old new → AreScopedItems seen old list → AreScopedItems seen new list
items-later seen old new [] grown h = tt
items-later seen old new (first ∷ others) grown h = (scoped-later seen old new first grown h.0, items-later (with_tree seen first) old new others grown h.1)

items-wider : (seen : ℕ → Bool) (list : List Tree) → IsWider seen (behind_items seen list)
items-wider seen [] d h = h
items-wider seen (first ∷ others) d h = items-wider (with_tree seen first) others d (tree-wider seen first d h)

-- trees that are scoped where nothing more passes
every-items : (seen more : ℕ → Bool) (declared : List Declaration) (list : List Tree) → IsWider seen more → Every (IsScopedIn seen declared) list → AreScopedItems more declared list
every-items seen more declared [] wider h = tt
every-items seen more declared (first ∷ others) wider h =
    (scoped-wider seen more declared first wider h.0, every-items seen (with_tree more first) declared others (λ d is. tree-wider more first d (wider d is)) h.1)

items-append : (seen : ℕ → Bool) (declared : List Declaration) (some more : List Tree) → AreScopedItems seen declared some → AreScopedItems (behind_items seen some) declared more
    → AreScopedItems seen declared (some ++ more)
items-append seen declared [] more h g = g
items-append seen declared (first ∷ some) more h g = (h.0, items-append (with_tree seen first) declared some more h.1 g)

in-order : (automatic : ℕ → Bool) (seen : ℕ → Bool) (declared : List Declaration) (scope : Scope) (list : List Tree) → Fits automatic declared → Covers seen scope
    → AreScopedItems seen declared list → are_scoped automatic (scopes_in_order scope (trees list)) (trees list) ≡ true
unfolding IsScopedIn
in-order automatic seen declared scope [] fits covers h = refl
in-order automatic seen declared scope (first ∷ others) fits covers h =
    both-true (is_scoped automatic scope first) _ (h.0 automatic scope fits covers)
    (in-order automatic (with_tree seen first) declared (declared_by first ++ scope) others fits (covers-tree seen scope first covers) h.1)

pub block-scoped : (setting : Setting) (seen : ℕ → Bool) (declared : List Declaration) (span : Span) (list : List Tree) → AreScopedItems seen declared list
    → IsScopedIn seen declared (statement setting span label.block list)
unfolding IsScopedIn
block-scoped setting seen declared span list h automatic scope fits covers = in-order automatic seen declared scope list fits covers h

for-scoped : (setting : Setting) (seen : ℕ → Bool) (declared : List Declaration) (span : Span) (first second third : Bool) (list : List Tree) → AreScopedItems seen declared list
    → IsScopedIn seen declared (statement setting span (label.for_loop first second third) list)
unfolding IsScopedIn
for-scoped setting seen declared span first second third list h automatic scope fits covers = in-order automatic seen declared scope list fits covers h

-- ---- progress

pub leads-wider : {A : Type 0} (one more : A → ℕ → Bool) (P : List Declaration → A → Type 0) (s : Standing) (progress : Progress A) → ((it : A) → IsWider (one it) (more it))
    → Leads one P s progress → Leads more P s progress
unfolding Leads
leads-wider one more P s (goes_on t it) wider h =
    (record { grown = h.0.grown; holds = holds-wider (one it) (more it) t (wider it) h.0.holds; depth = h.0.depth }, h.1)
leads-wider one more P s (stops rule at) wider h = tt

-- what is there already
pub there : {A : Type 0} (seen : ℕ → Bool) (more : A → ℕ → Bool) (P : List Declaration → A → Type 0) (s : Standing) (it : A) → IsWider seen (more it) → Holds seen s
    → P s.known.declared it → Leads more P s (goes_on s it)
there seen more P s it wider holds h = leads-so more P s s it (moves-none (more it) s (holds-wider seen (more it) s wider holds)) h

abbrev pub same : {A : Type 0} → (ℕ → Bool) → A → ℕ → Bool
same seen it = seen

abbrev pub anything : {A : Type 0} → A → ℕ → Bool
anything it = all-pass

-- a part that is a scope of its own
pub scope-leads : {A : Type 0} (seen : ℕ → Bool) (P : List Declaration → A → Type 0) (s : Standing) (next : Standing → Progress A) → IsLasting P → Holds seen s
    → ((t : Standing) → Holds seen t → Leads anything P t (next t)) → Leads (same seen) P s (in_scope s next)
scope-leads seen P s next lasting holds step =
    closed-leads seen anything P s map.empty (next (opened map.empty s)) lasting holds
    (step (opened map.empty s) (opened-holds seen seen s map.empty (λ d h. h) (empty-sees s.known.declared seen) holds))

pub tree-lasts : (seen : ℕ → Bool) → IsLasting (IsScopedIn seen)
tree-lasts seen old new tree grown h = scoped-later seen old new tree grown h

-- ---- expressions in statements

abbrev IsScopedSubject : (ℕ → Bool) → List Declaration → Subject → Type 0
IsScopedSubject seen declared one = IsScopedIn seen declared one.tree

abbrev IsScopedCase : (ℕ → Bool) → List Declaration → CaseValue → Type 0
IsScopedCase seen declared one = IsScopedIn seen declared one.tree

returned-gives : (setting : Setting) (seen : ℕ → Bool) (known : Known) → Sees known.declared seen known.scopes → (result : CType) (span : Span) (values : List Tree)
    → Every (IsScopedIn seen known.declared) values → Gives seen (IsScopedIn seen) known (returned setting known result span values)
returned-gives setting seen known sees result span [] h =
    obeys-gives seen (IsScopedIn seen) known (is_void result) 34 span.first _
    (stays seen (IsScopedIn seen) known _ sees (made-scoped seen known.declared setting (extent span span) label.return void [] refl tt))
returned-gives setting seen known sees result span (value ∷ others) h =
    obeys-gives seen (IsScopedIn seen) known (is_assignable known value result) 34 span.first _
    (stays seen (IsScopedIn seen) known _ sees
    (made-scoped seen known.declared setting (extent span span) label.return void (as_type result value ∷ []) refl (as-type-scoped seen setting known sees result value h.0, tt)))

module _ (setting : Setting) (seen : ℕ → Bool) (known : Known) (sees : Sees known.declared seen known.scopes) where
  value-gives : (expr : Expr) → Gives seen (IsScopedIn seen) known (typed_value setting known expr)
  value-gives expr =
      with-gives seen (IsScopedIn seen) (IsScopedIn seen) known (typed setting true known expr) _ (expr-scoped setting seen true known (expr_span expr) expr sees)
      (λ behind made step h. value-scoped seen setting behind step.sees made h)

  optional-gives : (expr : Option Expr) → Gives seen (AllScoped seen) known (typed_optional setting known expr)
  optional-gives None = stays seen (AllScoped seen) known [] sees tt
  optional-gives (Some expr) =
      with-gives seen (IsScopedIn seen) (AllScoped seen) known (typed_value setting known expr) _ (value-gives expr) (λ behind value step h. (h, tt))

  condition-gives : (expr : Expr) → Gives seen (IsScopedIn seen) known (typed_condition setting known expr)
  condition-gives expr =
      after-gives seen (IsScopedIn seen) (IsScopedIn seen) known (typed_value setting known expr) _ (value-gives expr)
      (λ behind value step h. obeys-gives seen (IsScopedIn seen) behind (is_scalar (kind_of value)) 32 (expr_span expr).first _ (stays seen (IsScopedIn seen) behind value step.sees h))

  optional-condition-gives : (expr : Option Expr) → Gives seen (AllScoped seen) known (typed_optional_condition setting known expr)
  optional-condition-gives None = stays seen (AllScoped seen) known [] sees tt
  optional-condition-gives (Some expr) =
      with-gives seen (IsScopedIn seen) (AllScoped seen) known (typed_condition setting known expr) _ (condition-gives expr) (λ behind value step h. (h, tt))

  subject-gives : (expr : Expr) → Gives seen (IsScopedSubject seen) known (typed_subject setting known expr)
  subject-gives expr =
      after-gives seen (IsScopedIn seen) (IsScopedSubject seen) known (typed_value setting known expr) _ (value-gives expr)
      (λ behind value step h. if-gives seen (IsScopedSubject seen) behind (integer_kind (kind_of value)) 32 (expr_span expr).first _
      (λ kind e. stays seen (IsScopedSubject seen) behind (subject value kind) step.sees (as-type-scoped seen setting behind step.sees (integer (promote kind)) value h)))

  case-gives : (kind : Kind) (labels : List (Option ℤ)) (expr : Expr) → Gives seen (IsScopedCase seen) known (typed_case setting known kind labels expr)
  case-gives kind labels expr =
      after-gives seen (IsScopedIn seen) (IsScopedCase seen) known (typed_value setting known expr) _ (value-gives expr)
      (λ behind value step h. if-gives seen (IsScopedCase seen) behind (constant_of behind (as_kind kind value)) 30 (expr_span expr).first _
      (λ n e. obeys-gives seen (IsScopedCase seen) behind (not (is_label_among (Some n) labels)) 31 (expr_span expr).first _
      (stays seen (IsScopedCase seen) behind (record { tree = as_kind kind value; value = n }) step.sees (as-type-scoped seen setting behind step.sees (integer kind) value h))))

  return-gives : (result : CType) (span : Span) (expr : Option Expr) → Gives seen (IsScopedIn seen) known (typed_return setting known result span expr)
  return-gives result span expr =
      after-gives seen (AllScoped seen) (IsScopedIn seen) known (typed_optional setting known expr) _ (optional-gives expr)
      (λ behind values step h. returned-gives setting seen behind step.sees result span values h)

-- ---- statements by their parts

module _ (setting : Setting) (seen : ℕ → Bool) where
  full-scoped : (declared : List Declaration) (span : Span) (values : List Tree) → Every (IsScopedIn seen declared) values → IsScopedIn seen declared (full_statement setting span values)
  full-scoped declared span [] h = made-scoped seen declared setting (extent span span) label.empty void [] refl tt
  full-scoped declared span (value ∷ others) h = made-scoped seen declared setting (extent span span) label.full void (value ∷ others) refl h

  pub declared-leads : (s : Standing) (declaration : tree.Declaration) → Holds seen s → Leads (with_tree seen) (IsScopedIn seen) s (declared_in setting s declaration)
  declared-leads s declaration holds =
      further-leads (behind_declaration also seen) (IsFineDeclaration also seen) (with_tree seen) (IsScopedIn seen) s (typed_declaration setting s declaration) _
      (declaration-leads setting (length s.known.scopes) also (in-blocks setting (length s.known.scopes)) seen s declaration holds refl)
      (λ t one moved fine. there (behind_all also seen one.locals) (with_tree seen) (IsScopedIn seen) t (declaration_tree setting (declaration_span declaration) one)
      (λ d h. all-in-tree seen one.locals d h) moved.holds (declaration-scoped setting seen t.known.declared (declaration_span declaration) one fine))

  start-leads : (s : Standing) (start : ForStart) → Holds seen s → Leads (behind_items seen) (AreScopedItems seen) s (typed_start setting s start)
  start-leads s (tree.declares declaration) holds =
      further-leads (with_tree seen) (IsScopedIn seen) (behind_items seen) (AreScopedItems seen) s (declared_in setting s declaration) _ (declared-leads s declaration holds)
      (λ t made moved h. leads-so (behind_items seen) (AreScopedItems seen) t t (made ∷ []) (moves-none (with_tree seen made) t moved.holds) (h, tt))
  start-leads s (tree.evaluates expr) holds =
      typing-leads seen (AllScoped seen) (behind_items seen) (AreScopedItems seen) s (typed_optional setting s.known expr) _ holds (optional-gives setting seen s.known holds.sees expr)
      (λ t values moved h. there seen (behind_items seen) (AreScopedItems seen) t values (items-wider seen values) moved.holds
      (every-items seen seen t.known.declared values (λ d is. is) h))

-- ---- the syntax

abbrev IsScopedLabelled : (ℕ → Bool) → List Declaration → Labelled → Type 0
IsScopedLabelled seen declared one = IsScopedIn seen declared one.tree

abbrev AreScopedLabelled : (ℕ → Bool) → List Declaration → AllLabelled → Type 0
AreScopedLabelled seen declared all = Every (IsScopedIn seen declared) all.trees

module _ (setting : Setting) where
  abbrev node : (ℕ → Bool) → List Declaration → Span → Label → List Tree → Type 0
  node seen declared span form parts = IsScopedIn seen declared (statement setting span form parts)

  -- a node of a statement is all that is left to do
  made-leads : (seen : ℕ → Bool) (s : Standing) (span : Span) (form : Label) (parts : List Tree) → Holds seen s → node seen s.known.declared span form parts
      → Leads anything (IsScopedIn seen) s (goes_on s (statement setting span form parts))
  made-leads seen s span form parts holds h = there seen anything (IsScopedIn seen) s (statement setting span form parts) (λ d is. refl) holds h

  -- a statement that is a scope of its own
  as-part : (seen : ℕ → Bool) (s : Standing) (next : Standing → Progress Tree) → Holds seen s
      → ((t : Standing) → Holds seen t → Leads (same seen) (IsScopedIn seen) t (next t)) → Leads (same seen) (IsScopedIn seen) s (in_scope s next)
  as-part seen s next holds step =
      scope-leads seen (IsScopedIn seen) s next (tree-lasts seen) holds (λ t stands. leads-wider (same seen) anything (IsScopedIn seen) t (next t) (λ it d is. refl) (step t stands))

  mutual
    unfolding typed_stmt typed_items_in typed_item_in typed_switch_items typed_switch_item

    pub stmt-leads : (seen : ℕ → Bool) (within : Within) (s : Standing) (stmt : Stmt) → Holds seen s → Leads (same seen) (IsScopedIn seen) s (typed_stmt setting within s stmt)
    -- 6.8.2
    stmt-leads seen within s (tree.block span items) holds =
        scope-leads seen (IsScopedIn seen) s _ (tree-lasts seen) holds (λ inside stands.
        further-leads (behind_items seen) (AreScopedItems seen) anything (IsScopedIn seen) inside (typed_items_in setting within inside items) _
        (items-lead seen within inside items stands) (λ t trees moved h.
        there (behind_items seen trees) anything (IsScopedIn seen) t (statement setting span label.block trees) (λ d is. refl) moved.holds
        (block-scoped setting seen t.known.declared span trees h)))
    -- 6.8.3
    stmt-leads seen within s (tree.expression span expr) holds =
        typing-leads seen (AllScoped seen) (same seen) (IsScopedIn seen) s (typed_optional setting s.known expr) _ holds (optional-gives setting seen s.known holds.sees expr)
        (λ t values moved h. there seen (same seen) (IsScopedIn seen) t (full_statement setting span values) (λ d is. is) moved.holds (full-scoped setting seen t.known.declared span values h))
    -- 6.8.4
    stmt-leads seen within s (tree.if_only span condition body) holds =
        scope-leads seen (IsScopedIn seen) s _ (tree-lasts seen) holds (λ inside stands.
        typing-leads seen (IsScopedIn seen) anything (IsScopedIn seen) inside (typed_condition setting inside.known condition) _ stands (condition-gives setting seen inside.known stands.sees condition) (λ t value moved h.
        further-leads (same seen) (IsScopedIn seen) anything (IsScopedIn seen) t _ _ (as-part seen t (λ part. typed_stmt setting within part body) moved.holds (λ part here. stmt-leads seen within part body here)) (λ u made went g.
        made-leads seen u span label.if_statement (value ∷ made ∷ []) went.holds
        (made-scoped seen u.known.declared setting (extent span span) label.if_statement void (value ∷ made ∷ []) refl
        (scoped-later seen t.known.declared u.known.declared value went.grown h, (g, tt))))))
    stmt-leads seen within s (tree.if_else span condition body other) holds =
        scope-leads seen (IsScopedIn seen) s _ (tree-lasts seen) holds (λ inside stands.
        typing-leads seen (IsScopedIn seen) anything (IsScopedIn seen) inside (typed_condition setting inside.known condition) _ stands (condition-gives setting seen inside.known stands.sees condition) (λ t value moved h.
        further-leads (same seen) (IsScopedIn seen) anything (IsScopedIn seen) t _ _ (as-part seen t (λ part. typed_stmt setting within part body) moved.holds (λ part here. stmt-leads seen within part body here)) (λ u first went g.
        further-leads (same seen) (IsScopedIn seen) anything (IsScopedIn seen) u _ _ (as-part seen u (λ part. typed_stmt setting within part other) went.holds (λ part here. stmt-leads seen within part other here)) (λ v second gone f.
        made-leads seen v span label.if_statement (value ∷ first ∷ second ∷ []) gone.holds
        (made-scoped seen v.known.declared setting (extent span span) label.if_statement void (value ∷ first ∷ second ∷ []) refl (
          scoped-later seen u.known.declared v.known.declared value gone.grown (scoped-later seen t.known.declared u.known.declared value went.grown h),
          (scoped-later seen u.known.declared v.known.declared first gone.grown g, (f, tt)),
        ))))))
    stmt-leads seen within s (tree.switch span operand items) holds =
        scope-leads seen (IsScopedIn seen) s _ (tree-lasts seen) holds (λ inside stands.
        typing-leads seen (IsScopedSubject seen) anything (IsScopedIn seen) inside (typed_subject setting inside.known operand) _ stands (subject-gives setting seen inside.known stands.sees operand) (λ t one moved h.
        further-leads (same seen) (AreScopedLabelled seen) anything (IsScopedIn seen) t _ _
        (scope-leads seen (AreScopedLabelled seen) t _ (λ old new all grown f. every-later seen old new all.trees grown f) moved.holds
        (λ part part_stands. leads-wider (same seen) anything (AreScopedLabelled seen) part _ (λ it d is. refl) (switch-lead seen (in_switch within) one.kind part [] items part_stands))) (λ u made went g.
        made-leads seen u span label.switch (one.tree ∷ made.trees) went.holds
        (made-scoped seen u.known.declared setting (extent span span) label.switch void (one.tree ∷ made.trees) refl
        (scoped-later seen t.known.declared u.known.declared one.tree went.grown h, g)))))
    -- 6.8.5
    stmt-leads seen within s (tree.while span condition body) holds =
        scope-leads seen (IsScopedIn seen) s _ (tree-lasts seen) holds (λ inside stands.
        typing-leads seen (IsScopedIn seen) anything (IsScopedIn seen) inside (typed_condition setting inside.known condition) _ stands (condition-gives setting seen inside.known stands.sees condition) (λ t value moved h.
        further-leads (same seen) (IsScopedIn seen) anything (IsScopedIn seen) t _ _ (as-part seen t (λ part. typed_stmt setting (in_loop within) part body) moved.holds (λ part here. stmt-leads seen (in_loop within) part body here)) (λ u made went g.
        made-leads seen u span label.while_loop (value ∷ made ∷ []) went.holds
        (made-scoped seen u.known.declared setting (extent span span) label.while_loop void (value ∷ made ∷ []) refl
        (scoped-later seen t.known.declared u.known.declared value went.grown h, (g, tt))))))
    stmt-leads seen within s (tree.do_while span body condition) holds =
        scope-leads seen (IsScopedIn seen) s _ (tree-lasts seen) holds (λ inside stands.
        further-leads (same seen) (IsScopedIn seen) anything (IsScopedIn seen) inside _ _ (as-part seen inside (λ part. typed_stmt setting (in_loop within) part body) stands (λ part here. stmt-leads seen (in_loop within) part body here)) (λ t made moved g.
        typing-leads seen (IsScopedIn seen) anything (IsScopedIn seen) t (typed_condition setting t.known condition) _ moved.holds (condition-gives setting seen t.known moved.holds.sees condition) (λ u value went h.
        made-leads seen u span label.do_loop (made ∷ value ∷ []) went.holds
        (made-scoped seen u.known.declared setting (extent span span) label.do_loop void (made ∷ value ∷ []) refl
        (scoped-later seen t.known.declared u.known.declared made went.grown g, (h, tt))))))
    stmt-leads seen within s (tree.for_loop span start condition step body) holds =
        scope-leads seen (IsScopedIn seen) s _ (tree-lasts seen) holds (λ inside stands.
        further-leads (behind_items seen) (AreScopedItems seen) anything (IsScopedIn seen) inside (typed_start setting inside start) _ (start-leads setting seen inside start stands) (λ t first moved h.
        let inner = behind_items seen first in
        typing-leads inner (AllScoped inner) anything (IsScopedIn seen) t (typed_optional_condition setting t.known condition) _ moved.holds
        (optional-condition-gives setting inner t.known moved.holds.sees condition) (λ u second went g.
        typing-leads inner (AllScoped inner) anything (IsScopedIn seen) u (typed_optional setting u.known step) _ went.holds (optional-gives setting inner u.known went.holds.sees step) (λ v third gone f.
        further-leads (same inner) (IsScopedIn inner) anything (IsScopedIn seen) v _ _ (as-part inner v (λ part. typed_stmt setting (in_loop within) part body) gone.holds (λ part here. stmt-leads inner (in_loop within) part body here)) (λ w made last e.
        there inner anything (IsScopedIn seen) w (for_statement setting span first second third made) (λ d is. refl) last.holds
        (for-scoped setting seen w.known.declared span (is_there first) (is_there second) (is_there third) (first ++ (second ++ (third ++ made ∷ [])))
        (items-append seen w.known.declared first (second ++ (third ++ made ∷ []))
        (items-later seen v.known.declared w.known.declared first last.grown (items-later seen u.known.declared v.known.declared first gone.grown (items-later seen t.known.declared u.known.declared first went.grown h)))
        (every-items inner inner w.known.declared (second ++ (third ++ made ∷ [])) (λ d is. is)
        (every-append (IsScopedIn inner w.known.declared) second (third ++ made ∷ [])
        (every-later inner v.known.declared w.known.declared second last.grown (every-later inner u.known.declared v.known.declared second gone.grown g))
        (every-append (IsScopedIn inner w.known.declared) third (made ∷ []) (every-later inner v.known.declared w.known.declared third last.grown f) (e, tt)))))))))))
    -- 6.8.6
    stmt-leads seen within s (tree.break span) holds =
        keeps-leads (same seen) (IsScopedIn seen) s within.breaks 33 span.first _
        (there seen (same seen) (IsScopedIn seen) s _ (λ d is. is) holds (made-scoped seen s.known.declared setting (extent span span) label.break void [] refl tt))
    stmt-leads seen within s (tree.continue span) holds =
        keeps-leads (same seen) (IsScopedIn seen) s within.continues 33 span.first _
        (there seen (same seen) (IsScopedIn seen) s _ (λ d is. is) holds (made-scoped seen s.known.declared setting (extent span span) label.continue void [] refl tt))
    stmt-leads seen within s (tree.return span expr) holds =
        typing-leads seen (IsScopedIn seen) (same seen) (IsScopedIn seen) s (typed_return setting s.known within.result span expr) _ holds
        (return-gives setting seen s.known holds.sees within.result span expr)
        (λ t made moved h. there seen (same seen) (IsScopedIn seen) t made (λ d is. is) moved.holds h)

    pub items-lead : (seen : ℕ → Bool) (within : Within) (s : Standing) (items : BlockItems) → Holds seen s
        → Leads (behind_items seen) (AreScopedItems seen) s (typed_items_in setting within s items)
    items-lead seen within s tree.no_items holds = there seen (behind_items seen) (AreScopedItems seen) s [] (λ d is. is) holds tt
    items-lead seen within s (tree.more_items first others) holds =
        further-leads (with_tree seen) (IsScopedIn seen) (behind_items seen) (AreScopedItems seen) s (typed_item_in setting within s first) _ (item-leads seen within s first holds) (λ t made moved h.
        let inner = with_tree seen made in
        further-leads (behind_items inner) (AreScopedItems inner) (behind_items seen) (AreScopedItems seen) t (typed_items_in setting within t others) _
        (items-lead inner within t others moved.holds) (λ u rest went g.
        leads-so (behind_items seen) (AreScopedItems seen) u u (made ∷ rest) (moves-none (behind_items inner rest) u went.holds)
        (scoped-later seen t.known.declared u.known.declared made went.grown h, g)))

    item-leads : (seen : ℕ → Bool) (within : Within) (s : Standing) (item : BlockItem) → Holds seen s → Leads (with_tree seen) (IsScopedIn seen) s (typed_item_in setting within s item)
    item-leads seen within s (tree.declared_item declaration) holds = declared-leads setting seen s declaration holds
    item-leads seen within s (tree.stated_item stmt) holds =
        leads-wider (same seen) (with_tree seen) (IsScopedIn seen) s _ (λ made. tree-wider seen made) (stmt-leads seen within s stmt holds)

    -- 6.8.4.2
    switch-lead : (seen : ℕ → Bool) (within : Within) (kind : Kind) (s : Standing) (labels : List (Option ℤ)) (items : SwitchItems) → Holds seen s
        → Leads (same seen) (AreScopedLabelled seen) s (typed_switch_items setting within kind s labels items)
    switch-lead seen within kind s labels tree.no_switch_items holds =
        there seen (same seen) (AreScopedLabelled seen) s (record { trees = []; labels = labels }) (λ d is. is) holds tt
    switch-lead seen within kind s labels (tree.more_switch_items first others) holds =
        further-leads (same seen) (IsScopedLabelled seen) (same seen) (AreScopedLabelled seen) s (typed_switch_item setting within kind s labels first) _
        (switched-leads seen within kind s labels first holds) (λ t made moved h.
        further-leads (same seen) (AreScopedLabelled seen) (same seen) (AreScopedLabelled seen) t (typed_switch_items setting within kind t made.labels others) _
        (switch-lead seen within kind t made.labels others moved.holds) (λ u more went g.
        there seen (same seen) (AreScopedLabelled seen) u (record { trees = made.tree ∷ more.trees; labels = more.labels }) (λ d is. is) went.holds
        (scoped-later seen t.known.declared u.known.declared made.tree went.grown h, g)))

    -- 6.8.1
    switched-leads : (seen : ℕ → Bool) (within : Within) (kind : Kind) (s : Standing) (labels : List (Option ℤ)) (item : SwitchItem) → Holds seen s
        → Leads (same seen) (IsScopedLabelled seen) s (typed_switch_item setting within kind s labels item)
    switched-leads seen within kind s labels (tree.case span expr item) holds =
        typing-leads seen (IsScopedCase seen) (same seen) (IsScopedLabelled seen) s (typed_case setting s.known kind labels expr) _ holds (case-gives setting seen s.known holds.sees kind labels expr) (λ t one moved h.
        further-leads (same seen) (IsScopedLabelled seen) (same seen) (IsScopedLabelled seen) t (typed_switch_item setting within kind t (Some one.value ∷ labels) item) _
        (switched-leads seen within kind t (Some one.value ∷ labels) item moved.holds) (λ u made went g.
        there seen (same seen) (IsScopedLabelled seen) u _ (λ d is. is) went.holds
        (made-scoped seen u.known.declared setting (extent span span) label.case void (one.tree ∷ made.tree ∷ []) refl
        (scoped-later seen t.known.declared u.known.declared one.tree went.grown h, (g, tt)))))
    switched-leads seen within kind s labels (tree.default span item) holds =
        keeps-leads (same seen) (IsScopedLabelled seen) s (not (is_label_among None labels)) 31 span.first _
        (further-leads (same seen) (IsScopedLabelled seen) (same seen) (IsScopedLabelled seen) s (typed_switch_item setting within kind s (None ∷ labels) item) _
        (switched-leads seen within kind s (None ∷ labels) item holds) (λ u made went g.
        there seen (same seen) (IsScopedLabelled seen) u _ (λ d is. is) went.holds
        (made-scoped seen u.known.declared setting (extent span span) label.default void (made.tree ∷ []) refl (g, tt))))
    switched-leads seen within kind s labels (tree.unlabelled span stmt) holds =
        further-leads (same seen) (IsScopedIn seen) (same seen) (IsScopedLabelled seen) s (typed_stmt setting within s stmt) _ (stmt-leads seen within s stmt holds)
        (λ u made went g. there seen (same seen) (IsScopedLabelled seen) u (record { tree = made; labels = labels }) (λ d is. is) went.holds g)
