-- The program of a scoped unit is settled for objects that are declared once, with initialisers.
use Rattle.std.specs.Prelude.{◌≡◌, refl, ◌⊎◌, ◌==◌, ℕ, zero, suc, Bool, true, false, not, ◌||◌, All, List, [], ◌∷◌, ◌++◌, map, replicate, Option, Some, None}
use Rattle.std.specs.List.{list_all}
use Rattle.std.proofs.Common.{sym, subst, inl, inr}
use Rattle.std.proofs.lemmas.Bool.{false≢true}
use Rattle.std.proofs.lemmas.List.Elements.{All-head, All-tail}
use Rattle.dm_type.specs.Tables.{Table}
use Rattle.dm_type.specs.CTypes.{CType}
use Rattle.dm_tree.specs.Initialisers.{expressions_of}
use Rattle.dm_tree.specs.Trees.{Label, object, convert, sizeof_kind, block, declare, switch, for_loop, Declarator, Spans, Tree, Trees, node, no_trees, more_trees}
use Rattle.dm_tree.specs.Units.{External, ExternalForm, declares, defines_function, TypedUnit}
use Rattle.dm_meaning.specs.Among.{IsAmong}
use Rattle.dm_meaning.specs.Programs.{Definition}
use Rattle.dm_meaning.specs.Units.{definitions_by, definitions_in, program_of}
use Rattle.dm_meaning.proofs.AmongLemmas.{among_left, among_right, among_either}
use Rattle.dm_meaning.proofs.GrowLemmas.{equal_of}
use Rattle.dm_meaning.proofs.OptionLemmas.{and_left, and_right}
use Rattle.dm_effect.specs.Scoped.{Scope, is_in_scope, declared_here, declared_by, scopes_in_order, same_scopes, scopes_of_initialisers, scopes_of, names_in_scope, is_scoped, are_scoped, is_automatic, is_scoped_form, is_scoped_external, IsScopedUnit}
use Rattle.dm_initialised.specs.Settled.{NameIsSettled, declared_in_parts, DeclaresSettled, IsSettled, AreSettled, IsSettledProgram}
use Rattle.dm_initialised.specs.Units.{numbers_below, numbers_below_all, AreOnce, TreeGives, TreesGive, FormGives, IsInitialisedUnit}

-- ---- lists

pub scope_among : (scope : Scope) (d : ℕ) → is_in_scope scope d ≡ true → IsAmong d scope
scope_among [] d e = absurd (false≢true e)
scope_among (c ∷ scope) d e = by_name (c == d) refl e (scope_among scope d)
  where
    by_name : (b : Bool) → (c == d) ≡ b → (b || is_in_scope scope d) ≡ true → (is_in_scope scope d ≡ true → IsAmong d scope) → IsAmong d (c ∷ scope)
    by_name true f g later = inl (sym (equal_of c d f))
    by_name false f g later = inr (later g)

module _ (needs : ℕ → Bool) where
  abbrev Apart : List ℕ → List ℕ → Type 0
  Apart before numbers = (d : ℕ) → needs d ≡ true → IsAmong d before → IsAmong d numbers → ⊥

  abbrev Covers : List ℕ → Scope → Type 0
  Covers before scope = (d : ℕ) → needs d ≡ true → IsAmong d scope → IsAmong d before

  pub once_left : (xs ys : List ℕ) → AreOnce needs (xs ++ ys) → AreOnce needs xs
  once_left [] ys h = tt
  once_left (x ∷ xs) ys h = ((λ n a. h.0 n (among_left x xs ys a)), once_left xs ys h.1)

  pub once_right : (xs ys : List ℕ) → AreOnce needs (xs ++ ys) → AreOnce needs ys
  once_right [] ys h = h
  once_right (x ∷ xs) ys h = once_right xs ys h.1

  pub once_apart : (xs ys : List ℕ) → AreOnce needs (xs ++ ys) → Apart xs ys
  once_apart [] ys h d n a b = absurd a
  once_apart (x ∷ xs) ys h d n (inl e) b = h.0 (subst (λ k. needs k ≡ true) e n) (subst (λ k. IsAmong k (xs ++ ys)) e (among_right d xs ys b))
  once_apart (x ∷ xs) ys h d n (inr a) b = once_apart xs ys h.1 d n a b

  either_apart : (before xs ys : List ℕ) → Apart before (xs ++ ys) → AreOnce needs (xs ++ ys) → Apart (before ++ xs) ys
  either_apart before xs ys h once d n a b = pick (among_either d before xs a)
    where
      pick : IsAmong d before ⊎ IsAmong d xs → ⊥
      pick (inl c) = h d n c (among_right d xs ys b)
      pick (inr c) = once_apart xs ys once d n c b

  -- ---- scopes of parts, among what is declared before them

  abbrev ScopesCovered : List ℕ → List (Option Scope) → Trees → Type 0
  ScopesCovered before scopes no_trees = Unit {0}
  ScopesCovered before [] (more_trees first rest) = Unit {0}
  ScopesCovered before (None ∷ scopes) (more_trees first rest) = ScopesCovered (before ++ numbers_below first) scopes rest
  ScopesCovered before (Some scope ∷ scopes) (more_trees first rest) = Covers before scope × ScopesCovered (before ++ numbers_below first) scopes rest

  covers_more : (before more : List ℕ) (scope : Scope) → Covers before scope → Covers (before ++ more) scope
  covers_more before more scope h d n a = among_left d before more (h d n a)

  same_covered : (parts : Trees) (before : List ℕ) (scope : Scope) → Covers before scope → ScopesCovered before (same_scopes scope parts) parts
  same_covered no_trees before scope h = tt
  same_covered (more_trees first rest) before scope h = (h, same_covered rest (before ++ numbers_below first) scope (covers_more before (numbers_below first) scope h))

  declared_below : (tree : Tree) (d : ℕ) → IsAmong d (declared_by tree) → IsAmong d (numbers_below tree)
  declared_below (node label kind spans parts) d a = among_left d (declared_here label) (numbers_below_all parts) a

  ordered_covered : (parts : Trees) (before : List ℕ) (scope : Scope) → Covers before scope → ScopesCovered before (scopes_in_order scope parts) parts
  ordered_covered no_trees before scope h = tt
  ordered_covered (more_trees first rest) before scope h = (h, ordered_covered rest (before ++ numbers_below first) (declared_by first ++ scope) further)
    where
      further : Covers (before ++ numbers_below first) (declared_by first ++ scope)
      further d n a = pick (among_either d (declared_by first) scope a)
        where
          pick : IsAmong d (declared_by first) ⊎ IsAmong d scope → IsAmong d (before ++ numbers_below first)
          pick (inl b) = among_right d before (numbers_below first) (declared_below first d b)
          pick (inr b) = among_left d before (numbers_below first) (h d n b)

  -- scopes that all are among what is declared before
  abbrev AllCovered : List ℕ → List (Option Scope) → Type 0
  AllCovered before [] = Unit {0}
  AllCovered before (None ∷ scopes) = AllCovered before scopes
  AllCovered before (Some scope ∷ scopes) = Covers before scope × AllCovered before scopes

  all_more : (before more : List ℕ) (scopes : List (Option Scope)) → AllCovered before scopes → AllCovered (before ++ more) scopes
  all_more before more [] h = tt
  all_more before more (None ∷ scopes) h = all_more before more scopes h
  all_more before more (Some scope ∷ scopes) h = (covers_more before more scope h.0, all_more before more scopes h.1)

  given_covered : (parts : Trees) (before : List ℕ) (scopes : List (Option Scope)) → AllCovered before scopes → ScopesCovered before scopes parts
  given_covered no_trees before scopes h = tt
  given_covered (more_trees first rest) before [] h = tt
  given_covered (more_trees first rest) before (None ∷ scopes) h = given_covered rest (before ++ numbers_below first) scopes (all_more before (numbers_below first) scopes h)
  given_covered (more_trees first rest) before (Some scope ∷ scopes) h = (h.0, given_covered rest (before ++ numbers_below first) scopes (all_more before (numbers_below first) scopes h.1))

  nothing_first : (count : ℕ) (before : List ℕ) (scopes : List (Option Scope)) → AllCovered before scopes → AllCovered before (replicate count None ++ scopes)
  nothing_first zero before scopes h = h
  nothing_first (suc count) before scopes h = nothing_first count before scopes h

  one_first : (count : ℕ) (before : List ℕ) (scope : Scope) (scopes : List (Option Scope)) → Covers before scope → AllCovered before scopes → AllCovered before (replicate count (Some scope) ++ scopes)
  one_first zero before scope scopes h k = k
  one_first (suc count) before scope scopes h k = (h, one_first count before scope scopes h k)

  initialisers_covered : (declarators : List Declarator) (before : List ℕ) (scope : Scope) → Covers before scope → Covers before (map (λ (one : Declarator). one.declared) declarators) → AllCovered before (scopes_of_initialisers scope declarators)
  initialisers_covered [] before scope h k = tt
  initialisers_covered (one ∷ others) before scope h k =
      one_first (expressions_of one) before (one.declared ∷ scope) (scopes_of_initialisers (one.declared ∷ scope) others) own (initialisers_covered others before (one.declared ∷ scope) own (λ d n a. k d n (inr a)))
    where
      own : Covers before (one.declared ∷ scope)
      own d n (inl e) = k d n (inl e)
      own d n (inr a) = h d n a

  parts_covered : (label : Label) (parts : Trees) (before : List ℕ) (scope : Scope) → Covers before scope → ScopesCovered (before ++ declared_here label) (scopes_of scope label parts) parts
  parts_covered label parts before scope h = by_label label (covers_more before (declared_here label) scope h)
    where
      by_label : (form : Label) → Covers (before ++ declared_here form) scope → ScopesCovered (before ++ declared_here form) (scopes_of scope form parts) parts
      by_label convert k = given_covered parts (before ++ []) (Some scope ∷ []) (k, tt)
      by_label (sizeof_kind type) k = given_covered parts (before ++ []) [] tt
      by_label (declare lengths declarators) k =
          let numbers = map (λ (one : Declarator). one.declared) declarators in
          given_covered parts (before ++ numbers) (replicate lengths None ++ scopes_of_initialisers scope declarators)
          (nothing_first lengths (before ++ numbers) (scopes_of_initialisers scope declarators) (initialisers_covered declarators (before ++ numbers) scope k (λ d n a. among_right d before numbers a)))
      by_label block k = ordered_covered parts (before ++ []) scope k
      by_label (for_loop first second third) k = ordered_covered parts (before ++ []) scope k
      by_label form k = same_covered parts (before ++ []) scope k

  -- ---- trees

  in_parts_below : (parts : Trees) (d : ℕ) → IsAmong d (declared_in_parts parts) → IsAmong d (numbers_below_all parts)
  in_parts_below no_trees d a = absurd a
  in_parts_below (more_trees first rest) d a = pick (among_either d (declared_by first) (declared_in_parts rest) a) (in_parts_below rest d)
    where
      pick : IsAmong d (declared_by first) ⊎ IsAmong d (declared_in_parts rest) → (IsAmong d (declared_in_parts rest) → IsAmong d (numbers_below_all rest)) → IsAmong d (numbers_below first ++ numbers_below_all rest)
      pick (inl b) later = among_left d (numbers_below first) (numbers_below_all rest) (declared_below first d b)
      pick (inr b) later = among_right d (numbers_below first) (numbers_below_all rest) (later b)

  module _ (automatic : ℕ → Bool) (sub : (d : ℕ) → needs d ≡ true → automatic d ≡ true) where
    name_settled : (label : Label) (scope : Scope) → names_in_scope automatic scope label ≡ true → NameIsSettled needs scope label
    name_settled (object d) scope e = λ n. scope_among scope d (subst (λ b. (not b || is_in_scope scope d) ≡ true) (sub d n) e)
    name_settled label scope e = tt

    declares_settled : (label : Label) (kind : CType) (spans : Spans) (parts : Trees) (scope before : List ℕ) → Covers before scope → Apart before (numbers_below (node label kind spans parts)) → TreeGives needs (node label kind spans parts)
        → DeclaresSettled needs scope label parts
    declares_settled (declare lengths declarators) kind spans parts scope before c a g = g.0
    declares_settled block kind spans parts scope before c a g = λ d n x y. a d n (c d n y) (in_parts_below parts d x)
    declares_settled (for_loop first second third) kind spans parts scope before c a g = λ d n x y. a d n (c d n y) (in_parts_below parts d x)
    declares_settled switch kind spans parts scope before c a g = g.0
    declares_settled label kind spans parts scope before c a g = tt

    mutual
      tree_settled : (tree : Tree) (scope before : List ℕ) → Covers before scope → Apart before (numbers_below tree) → AreOnce needs (numbers_below tree) → is_scoped automatic scope tree ≡ true → TreeGives needs tree → IsSettled needs scope tree
      tree_settled (node label kind spans parts) scope before c a once s g = (
        name_settled label scope (and_left (names_in_scope automatic scope label) (are_scoped automatic (scopes_of scope label parts) parts) s),
        declares_settled label kind spans parts scope before c a g,
        trees_settled parts (scopes_of scope label parts) (before ++ declared_here label) (parts_covered label parts before scope c)
            (either_apart before (declared_here label) (numbers_below_all parts) a once) (once_right (declared_here label) (numbers_below_all parts) once)
            (and_right (names_in_scope automatic scope label) (are_scoped automatic (scopes_of scope label parts) parts) s) g.1,
      )

      trees_settled : (parts : Trees) (scopes : List (Option Scope)) (before : List ℕ) → ScopesCovered before scopes parts → Apart before (numbers_below_all parts) → AreOnce needs (numbers_below_all parts) → are_scoped automatic scopes parts ≡ true
          → TreesGive needs parts → AreSettled needs scopes parts
      trees_settled no_trees scopes before c a once s g = tt
      trees_settled (more_trees first rest) [] before c a once s g = tt
      trees_settled (more_trees first rest) (None ∷ scopes) before c a once s g =
          trees_settled rest scopes (before ++ numbers_below first) c (either_apart before (numbers_below first) (numbers_below_all rest) a once) (once_right (numbers_below first) (numbers_below_all rest) once) s g.1
      trees_settled (more_trees first rest) (Some scope ∷ scopes) before c a once s g = (
        tree_settled first scope before c.0 (λ d n x y. a d n x (among_left d (numbers_below first) (numbers_below_all rest) y)) (once_left (numbers_below first) (numbers_below_all rest) once)
            (and_left (is_scoped automatic scope first) (are_scoped automatic scopes rest) s) g.0,
        trees_settled rest scopes (before ++ numbers_below first) c.1 (either_apart before (numbers_below first) (numbers_below_all rest) a once) (once_right (numbers_below first) (numbers_below_all rest) once)
            (and_right (is_scoped automatic scope first) (are_scoped automatic scopes rest) s) g.1,
      )

-- ---- units

module _ (types : Table) (unit : TypedUnit) (needs : ℕ → Bool) (initialised : IsInitialisedUnit needs unit) where
  abbrev Settles : Definition → Type 0
  Settles definition = IsSettled needs definition.parameters definition.body

  form_settled : (form : ExternalForm) → is_scoped_form (is_automatic unit.declared) form ≡ true → FormGives needs form → (definition : Definition) → IsAmong definition (definitions_by form) → Settles definition
  form_settled (declares declarators trees) s g definition a = absurd a
  form_settled (defines_function f parameters body) s g definition (inl e) =
      subst Settles (sym e)
      (tree_settled needs (is_automatic unit.declared) initialised.automatic body parameters parameters (λ d n b. b) (once_apart needs parameters (numbers_below body) g.0) (once_right needs parameters (numbers_below body) g.0) s g.1)
  form_settled (defines_function f parameters body) s g definition (inr e) = absurd e

  all_settled : (externals : List External) → list_all (is_scoped_external unit.declared) externals ≡ true → All (λ (external : External). FormGives needs external.form) externals
      → (definition : Definition) → IsAmong definition (definitions_in externals) → Settles definition
  all_settled [] s g definition a = absurd a
  all_settled (external ∷ externals) s g definition a =
      pick (among_either definition (definitions_by external.form) (definitions_in externals) a)
      (all_settled externals (and_right (is_scoped_external unit.declared external) (list_all (is_scoped_external unit.declared) externals) s) (All-tail (λ (one : External). FormGives needs one.form) external externals g) definition)
    where
      pick : IsAmong definition (definitions_by external.form) ⊎ IsAmong definition (definitions_in externals) → (IsAmong definition (definitions_in externals) → Settles definition) → Settles definition
      pick (inl b) later =
          form_settled external.form (and_left (is_scoped_external unit.declared external) (list_all (is_scoped_external unit.declared) externals) s) (All-head (λ (one : External). FormGives needs one.form) external externals g) definition b
      pick (inr b) later = later b

  pub unit_settled : IsScopedUnit unit → IsSettledProgram needs (program_of types unit)
  unit_settled scoped = record { automatic = initialised.automatic; functions = all_settled unit.externals scoped initialised.functions }
