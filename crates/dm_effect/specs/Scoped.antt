-- Units in which each name of an object of automatic storage duration stands in the scope of its declaration (6.2.1p4, p7).
--     is_scoped automatic scope tree      so do the names in a tree, where these objects are in scope
--     IsScopedUnit unit      so do the names in a unit, and no object of file scope is automatic (6.2.4p3)
use Rattle.std.specs.Prelude.{ℕ, Bool, true, ◌&&◌, ◌||◌, not, ◌==◌, IsTrue, List, [], ◌∷◌, ◌++◌, map, replicate, slice_get, Option, Some, None}
use Rattle.std.specs.List.{list_any, list_all}
use Rattle.dm_tree.specs.Initialisers.{expressions_of}
use Rattle.dm_tree.specs.Trees.{Label, object, convert, sizeof_kind, block, declare, for_loop, Declarator, Tree, Trees, node, no_trees, more_trees}
use Rattle.dm_tree.specs.Units.{Declaration, External, ExternalForm, declares, defines_function, TypedUnit}
use Rattle.dm_meaning.specs.Statements.{is_automatic_declaration}

-- the entries that are in scope at a place, by their numbers
abbrev pub Scope : Type 0
Scope = List ℕ

abbrev pub is_in_scope : Scope → ℕ → Bool
is_in_scope scope d = list_any (λ c. c == d) scope

-- ---- where declarations are in scope

-- what a declaration declares is in scope behind it, to the end of its block, or of the loop whose first part it is (6.2.1p4, 6.8.5p5)
abbrev pub declared_here : Label → Scope
declared_here (declare lengths declarators) = map (λ (one : Declarator). one.declared) declarators
declared_here label = []

abbrev pub declared_by : Tree → Scope
declared_by (node label kind spans parts) = declared_here label

-- the scope of each part where what a part declares is in scope in those behind it, and where no part declares anything
abbrev pub scopes_in_order : Scope → Trees → List (Option Scope)
scopes_in_order scope no_trees = []
scopes_in_order scope (more_trees first rest) = Some scope ∷ scopes_in_order (declared_by first ++ scope) rest

abbrev pub same_scopes : Scope → Trees → List (Option Scope)
same_scopes scope no_trees = []
same_scopes scope (more_trees first rest) = Some scope ∷ same_scopes scope rest

-- that of each expression of initialisers: a declarator's name is in scope in its own and in those behind it (6.2.1p7)
abbrev pub scopes_of_initialisers : Scope → List Declarator → List (Option Scope)
scopes_of_initialisers scope [] = []
scopes_of_initialisers scope (one ∷ others) =
    replicate (expressions_of one) (Some (one.declared ∷ scope)) ++ scopes_of_initialisers (one.declared ∷ scope) others

-- The scope of each part of a node. None is given for the lengths and enumerator values of type names and declarators: these are integer
-- constant expressions, and may also name the parameters of a prototype, which no declarator declares (6.6p6, 6.2.1p4).
abbrev pub scopes_of : Scope → Label → Trees → List (Option Scope)
scopes_of scope convert parts = Some scope ∷ []
scopes_of scope (sizeof_kind type) parts = []
scopes_of scope (declare lengths declarators) parts = replicate lengths None ++ scopes_of_initialisers scope declarators
scopes_of scope block parts = scopes_in_order scope parts
scopes_of scope (for_loop first second third) parts = scopes_in_order scope parts
scopes_of scope label parts = same_scopes scope parts

-- ---- names

-- a name of an automatic object is that of one in scope
abbrev pub names_in_scope : (ℕ → Bool) → Scope → Label → Bool
names_in_scope automatic scope (object d) = not (automatic d) || is_in_scope scope d
names_in_scope automatic scope label = true

abbrev mutual
  pub is_scoped : (ℕ → Bool) → Scope → Tree → Bool
  is_scoped automatic scope (node label kind spans parts) = names_in_scope automatic scope label && are_scoped automatic (scopes_of scope label parts) parts

  -- each tree that has a scope
  pub are_scoped : (ℕ → Bool) → List (Option Scope) → Trees → Bool
  are_scoped automatic scopes no_trees = true
  are_scoped automatic [] (more_trees first rest) = true
  are_scoped automatic (None ∷ scopes) (more_trees first rest) = are_scoped automatic scopes rest
  are_scoped automatic (Some scope ∷ scopes) (more_trees first rest) = is_scoped automatic scope first && are_scoped automatic scopes rest

-- ---- units

abbrev pub is_automatic : List Declaration → ℕ → Bool
is_automatic declared d = is_automatic_declaration (slice_get declared d)

-- What is declared in file scope isn't automatic, so that its initialisers name no automatic object. In the body of a function its
-- parameters are in scope from the beginning.
abbrev pub is_scoped_form : (ℕ → Bool) → ExternalForm → Bool
is_scoped_form automatic (declares declarators expressions) =
    list_all (λ (one : Declarator). not (automatic one.declared)) declarators && list_all (is_scoped automatic []) expressions
is_scoped_form automatic (defines_function f parameters body) = is_scoped automatic parameters body

abbrev pub is_scoped_external : List Declaration → External → Bool
is_scoped_external declared one = is_scoped_form (is_automatic declared) one.form

abbrev pub IsScopedUnit : TypedUnit → Type 0
IsScopedUnit one = IsTrue (list_all (is_scoped_external one.declared) one.externals)
