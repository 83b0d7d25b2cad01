-- An object of scalar type whose address is taken nowhere is only read and written.
--     IsScalarEntry declared d      a declaration declares it with such a type
--     named_in      a typed tree is its name, or names it only where it is read or written
--     items_named      so do the items of a body
use Rattle.std.specs.Prelude.{◌≡◌, refl, ◌⊎◌, ℕ, Bool, true, false, ◌&&◌, not, ◌==◌, All, IfSome, IsSome, IsTrue, List, [], ◌∷◌, take, drop, Option, Some, None, slice_get}
use Rattle.std.specs.List.{AllByRecursion}
use Rattle.std.proofs.Common.{ap, sym, ◌∙◌, subst, arith, inl, inr}
use Rattle.std.proofs.lemmas.Bool.{true≢false, false≢true}
use Rattle.std.proofs.lemmas.List.{take-append-drop}
use Rattle.std.proofs.lemmas.List.Elements.{All-head, All-tail}
use Rattle.dm_type.specs.CTypes.{CType, CTypes, void, integer, pointer, array, struct, function as function_type, const, no_types, more_types}
use Rattle.dm_type.specs.Tables.{Table}
use Rattle.dm_tree.specs.declared.tree.Sign.TheVariants as sign
use Rattle.dm_tree.specs.Composites.{covers}
use Rattle.dm_tree.specs.Initialisers.{Initialises, AllInitialise, InitialiserFits, FitsEntry, DeclaratorsFit, FitsDecay, expressions_of, is_fixed, is_object, targets}
use Rattle.dm_tree.specs.Operands.{FitParameters, FitsCall, FitsMember}
use Rattle.dm_tree.specs.Scenes.{Scene, is_lvalue, IsStatement, IsValue, IsConstant, Names, is_scalar, part_type}
use Rattle.dm_tree.specs.Trees.{Label, number, enumerator, literal, object, function, read, decay, convert, address, follow, member, unary, binary, both, either, choose, comma, store, update, count, call, sizeof_tree, sizeof_kind, block, declare, full, empty, if_statement, switch, case, default, while_loop, do_loop, for_loop, break, continue, return, Declarator, Initialiser, Spans, Tree, Trees, node, no_trees, more_trees, kind_of, listed}
use Rattle.dm_tree.specs.Typing.{FitsLoop, IsStart, Fits, inside, IsWellTyped, AreWellTyped}
use Rattle.dm_tree.specs.Units.{Declaration}
use Rattle.dm_meaning.specs.Running.{evaluates}
use Rattle.dm_meaning.proofs.OptionLemmas.{none_is_some, and_right}
use Rattle.dm_meaning.proofs.GrowLemmas.{equal_is}
use Rattle.dm_effect.specs.Entities.{addresses_here}
use Rattle.dm_rewrite.specs.Closed.{May, only_closed, may_name, unseen, names_first}
use Rattle.dm_rewrite.specs.ClosedStates.{IsName, NamesOnly, AllNameOnly, ListNamesOnly}
use Rattle.dm_standing.proofs.RunLemmas.{all_append}
use Rattle.dm_standing.proofs.TypedLemmas.{inside_declared}
use Rattle.dm_steady.proofs.AddressLemmas.{NotAddressed, NoneAddressed}

pub record IsScalarEntry (declared : List Declaration) (d : ℕ) : Type 0 where
  pub entry : Declaration
  pub found : slice_get declared d ≡ Some entry
  pub scalar : is_scalar entry.kind ≡ true

equal_nat : (a b : ℕ) → (a == b) ≡ true → a ≡ b
equal_nat a b e = grind (arith, e)

-- ---- scalar types

covers_scalar : (type kind : CType) → is_scalar type ≡ true → covers type kind ≡ true → is_scalar kind ≡ true
covers_scalar (integer a) (integer b) s c = refl
covers_scalar (pointer a) (pointer b) s c = refl
covers_scalar (const (integer a)) (const (integer b)) s c = refl
covers_scalar (const (pointer a)) (const (pointer b)) s c = refl
covers_scalar (integer a) kind s c = absurd (false≢true c)
covers_scalar (pointer a) kind s c = absurd (false≢true c)
covers_scalar (const (integer a)) (const kind) s c = absurd (false≢true c)
covers_scalar (const (integer a)) kind s c = absurd (false≢true c)
covers_scalar (const (pointer a)) (const kind) s c = absurd (false≢true c)
covers_scalar (const (pointer a)) kind s c = absurd (false≢true c)
covers_scalar (const type) kind s c = absurd (false≢true s)
covers_scalar type kind s c = absurd (false≢true s)

-- it has no members and no elements
no_member : (table : Table) (kind : CType) (n : ℕ) (member_kind : CType) → is_scalar kind ≡ true → part_type table kind n ≡ Some member_kind → ⊥
no_member table (integer a) n member_kind s h = none_is_some member_kind h
no_member table (pointer a) n member_kind s h = none_is_some member_kind h
no_member table (const (integer a)) n member_kind s h = none_is_some member_kind h
no_member table (const (pointer a)) n member_kind s h = none_is_some member_kind h
no_member table (const kind) n member_kind s h = false≢true s
no_member table kind n member_kind s h = false≢true s

no_decay : (kind pointed : CType) → is_scalar kind ≡ true → FitsDecay kind pointed → ⊥
no_decay (array kind n) pointed s h = false≢true s
no_decay kind pointed s h = h

module _ (declared : List Declaration) (d : ℕ) (it : IsScalarEntry declared d) where
  -- ---- trees that aren't the object's name

  abbrev NotName : Tree → Type 0
  NotName tree = IsName d tree → ⊥

  abbrev NoneNames : List Tree → Type 0
  NoneNames trees = AllByRecursion NotName trees

  value_not : (tree : Tree) → IsValue tree → NotName tree
  value_not tree value name = let as_name : (not true && not false) ≡ true = subst IsValue name.2 value in false≢true as_name

  statement_not : (tree : Tree) → IsStatement tree → NotName tree
  statement_not tree statement name = let as_name : false ≡ true = subst IsStatement name.2 statement in false≢true as_name

  all_statements : (trees : List Tree) → All IsStatement trees → NoneNames trees
  all_statements [] h = tt
  all_statements (first ∷ rest) h = (statement_not first (All-head IsStatement first rest h), all_statements rest (All-tail IsStatement first rest h))

  all_constants : (scene : Scene) (trees : List Tree) → All (IsConstant scene) trees → NoneNames trees
  all_constants scene [] h = tt
  all_constants scene (first ∷ rest) h = (value_not first (All-head (IsConstant scene) first rest h).0, all_constants scene rest (All-tail (IsConstant scene) first rest h))

  all_arguments : (arguments : List Tree) (types : CTypes) → FitParameters arguments types → NoneNames arguments
  all_arguments [] types h = tt
  all_arguments (first ∷ rest) no_types h = absurd h
  all_arguments (first ∷ rest) (more_types type types) h = (value_not first h.0, all_arguments rest types h.2)

  call_arguments : (type : CType) (arguments : List Tree) (kind : CType) → FitsCall type arguments kind → NoneNames arguments
  call_arguments (function_type result parameters) arguments kind h = all_arguments arguments parameters h.0
  call_arguments void arguments kind h = absurd h
  call_arguments (integer k) arguments kind h = absurd h
  call_arguments (pointer k) arguments kind h = absurd h
  call_arguments (array k n) arguments kind h = absurd h
  call_arguments (struct n) arguments kind h = absurd h
  call_arguments (const k) arguments kind h = absurd h

  -- ---- initialisers

  initialises_value : (scene : Scene) (fixed : Bool) (type kind : CType) (spans : Spans) (below : Trees) → Initialises scene fixed type (node (object d) kind spans below) → IsValue (node (object d) kind spans below)
  initialises_value scene fixed (array type (Some many)) kind spans below h = h.0
  initialises_value scene fixed (array type None) kind spans below h = h.0
  initialises_value scene fixed (function_type result parameters) kind spans below h = h.0
  initialises_value scene fixed void kind spans below h = h.0
  initialises_value scene fixed (integer k) kind spans below h = h.0
  initialises_value scene fixed (pointer k) kind spans below h = h.0
  initialises_value scene fixed (struct n) kind spans below h = h.0
  initialises_value scene fixed (const k) kind spans below h = h.0

  initialiser_not : (scene : Scene) (fixed : Bool) (type : CType) (tree : Tree) → Initialises scene fixed type tree → NotName tree
  initialiser_not scene fixed type tree h name =
      false≢true (initialises_value scene fixed type name.0 name.1 no_trees (subst (Initialises scene fixed type) name.2 h))

  all_initialisers : (scene : Scene) (fixed : Bool) (types : List CType) (trees : List Tree) → AllInitialise scene fixed types trees → NoneNames trees
  all_initialisers scene fixed types [] h = tt
  all_initialisers scene fixed [] (first ∷ rest) h = absurd h
  all_initialisers scene fixed (type ∷ types) (first ∷ rest) h = (initialiser_not scene fixed type first h.0, all_initialisers scene fixed types rest h.1)

  of_targets : (scene : Scene) (fixed : Bool) (found : Option (List CType)) (trees : List Tree) → IfSome found (λ types. AllInitialise scene fixed types trees) → IsSome found → NoneNames trees
  of_targets scene fixed None trees h some = absurd (false≢true some)
  of_targets scene fixed (Some types) trees h some = all_initialisers scene fixed types trees h

  of_initialiser : (scene : Scene) (entry : Declaration) (defines : Bool) (initialiser : Option Initialiser) (trees : List Tree) → InitialiserFits scene entry defines initialiser trees → NoneNames trees
  of_initialiser scene entry defines None trees h = subst NoneNames (sym h) tt
  of_initialiser scene entry defines (Some one) trees h = of_targets scene (is_fixed entry.sort) (targets scene.types entry.kind one) trees h.1 h.2

  of_entry : (scene : Scene) (one : Declarator) (trees : List Tree) (found : Option Declaration) → IfSome found (FitsEntry scene one trees) → IsSome found → NoneNames trees
  of_entry scene one trees None h some = absurd (false≢true some)
  of_entry scene one trees (Some entry) h some = of_initialiser scene entry one.defines one.initialiser trees h.1

  joined : (n : ℕ) (trees : List Tree) → NoneNames (take n trees) → NoneNames (drop n trees) → NoneNames trees
  joined n trees h k = subst NoneNames (take-append-drop n trees) (all_append NotName (take n trees) (drop n trees) h k)

  of_declarators : (scene : Scene) (declarators : List Declarator) (trees : List Tree) → DeclaratorsFit scene declarators trees → NoneNames trees
  of_declarators scene [] trees h = subst NoneNames (sym h) tt
  of_declarators scene (one ∷ more) trees h =
      joined (expressions_of one) trees (of_entry scene one (take (expressions_of one) trees) (slice_get scene.declared one.declared) h.0.0 h.0.1) (of_declarators scene more (drop (expressions_of one) trees) h.1)

  -- ---- operands that are no values

  name_lvalue : (tree : Tree) → IsName d tree → is_lvalue tree ≡ true
  name_lvalue tree name = ap is_lvalue name.2

  entry_covers : (scene : Scene) → scene.declared ≡ declared → (kind : CType) → Names scene d (λ entry. IsTrue (is_object entry.sort && covers entry.kind kind)) → covers it.entry.kind kind ≡ true
  entry_covers scene e kind names =
      and_right (is_object it.entry.sort) (covers it.entry.kind kind)
      (subst (λ (found : Option Declaration). IfSome found (λ entry. IsTrue (is_object entry.sort && covers entry.kind kind))) (ap (λ (ds : List Declaration). slice_get ds d) e ∙ it.found) names.0)

  name_scalar : (scene : Scene) (tree : Tree) → scene.declared ≡ declared → IsWellTyped scene tree → IsName d tree → is_scalar (kind_of tree) ≡ true
  name_scalar scene tree e typed name =
      let as_name = subst (IsWellTyped scene) name.2 typed in
      ap (λ (t : Tree). is_scalar (kind_of t)) name.2 ∙ covers_scalar it.entry.kind name.0 it.scalar (entry_covers scene e name.0 as_name.0)

  addressed : (kind : CType) (spans : Spans) (tree : Tree) → IsName d tree → addresses_here d (node address kind spans (more_trees tree no_trees)) ≡ false → ⊥
  addressed kind spans tree name none =
      let as_name : (d == d) ≡ false = subst (λ (t : Tree). addresses_here d (node address kind spans (more_trees t no_trees)) ≡ false) name.2 none in
      true≢false (sym (equal_is d d refl) ∙ as_name)

  no_part : (scene : Scene) (n : ℕ) (kind : CType) (tree : Tree) (lvalue : Bool) → lvalue ≡ true → is_scalar (kind_of tree) ≡ true → FitsMember scene.types lvalue (kind_of tree) n kind → ⊥
  no_part scene n kind tree true e scalar h = no_member scene.types (kind_of tree) n kind scalar h.0
  no_part scene n kind tree false e scalar h = false≢true e

  no_function : (at : ℕ) (kind : CType) (spans : Spans) → IsName d (node (function at) kind spans no_trees) → ⊥
  no_function at kind spans name = no_object at kind name.0 spans name.1 name.2
    where
      no_object : (g : ℕ) (a b : CType) (s t : Spans) → node (function g) a s no_trees ≡ node (object d) b t no_trees → ⊥
      no_object g a b s t e = cc

  -- ---- the parts of `for`

  start_not : (tree : Tree) → IsStart tree → NotName tree
  start_not (node (declare lengths declarators) kind spans parts) h = statement_not (node (declare lengths declarators) kind spans parts) refl
  start_not (node label kind spans parts) h = value_not (node label kind spans parts) h

  of_loop : (first second third : Bool) (parts : List Tree) → FitsLoop first second third parts → NoneNames parts
  of_loop true second third [] h = absurd h
  of_loop true second third (part ∷ parts) h = (start_not part h.0, of_loop false second third parts h.1)
  of_loop false true third [] h = absurd h
  of_loop false true third (part ∷ parts) h = (value_not part h.0.0, of_loop false false third parts h.1)
  of_loop false false true [] h = absurd h
  of_loop false false true (part ∷ parts) h = (value_not part h.0, of_loop false false false parts h.1)
  of_loop false false false [] h = absurd h
  of_loop false false false (body ∷ []) h = (statement_not body h, tt)
  of_loop false false false (body ∷ more ∷ parts) h = absurd h

  -- ---- one node

  -- no part but the first, which may be the name where it is read, written or not evaluated
  abbrev Fine : May → Trees → Type 0
  Fine only_closed parts = NoneNames (listed parts)
  Fine may no_trees = Unit {0}
  Fine may (more_trees first rest) = NoneNames (listed rest)

  fine : (scene : Scene) (label : Label) (kind : CType) (spans : Spans) (parts : Trees) → scene.declared ≡ declared → Fits scene label kind (listed parts) → AreWellTyped (inside scene label (listed parts)) parts
      → addresses_here d (node label kind spans parts) ≡ false → Fine (names_first (evaluates label)) parts
  fine scene (number value) kind spans no_trees e fits typed none = tt
  fine scene (number value) kind spans (more_trees a rest) e fits typed none = absurd fits
  fine scene (enumerator at) kind spans no_trees e fits typed none = tt
  fine scene (enumerator at) kind spans (more_trees a rest) e fits typed none = absurd fits
  fine scene (literal bytes unit) kind spans no_trees e fits typed none = tt
  fine scene (literal bytes unit) kind spans (more_trees a rest) e fits typed none = absurd fits
  fine scene (object at) kind spans no_trees e fits typed none = tt
  fine scene (object at) kind spans (more_trees a rest) e fits typed none = absurd fits
  fine scene (function at) kind spans no_trees e fits typed none = tt
  fine scene (function at) kind spans (more_trees a rest) e fits typed none = absurd fits
  fine scene read kind spans no_trees e fits typed none = absurd fits
  fine scene read kind spans (more_trees a no_trees) e fits typed none = tt
  fine scene read kind spans (more_trees a (more_trees b rest)) e fits typed none = absurd fits
  fine scene decay kind spans no_trees e fits typed none = absurd fits
  fine scene decay kind spans (more_trees a no_trees) e fits typed none = ((λ name. no_decay (kind_of a) kind (name_scalar (inside scene decay (a ∷ [])) a (inside_declared scene decay (a ∷ []) ∙ e) typed.0 name) fits.1), tt)
  fine scene decay kind spans (more_trees a (more_trees b rest)) e fits typed none = absurd fits
  fine scene convert kind spans no_trees e fits typed none = absurd fits
  fine scene convert kind spans (more_trees a rest) e fits typed none = (value_not a fits.0, all_constants scene (listed rest) fits.2)
  fine scene address kind spans no_trees e fits typed none = absurd fits
  fine scene address kind spans (more_trees a no_trees) e fits typed none = ((λ name. addressed kind spans a name none), tt)
  fine scene address kind spans (more_trees a (more_trees b rest)) e fits typed none = absurd fits
  fine scene follow kind spans no_trees e fits typed none = absurd fits
  fine scene follow kind spans (more_trees a no_trees) e fits typed none = (value_not a fits.0, tt)
  fine scene follow kind spans (more_trees a (more_trees b rest)) e fits typed none = absurd fits
  fine scene (member n) kind spans no_trees e fits typed none = absurd fits
  fine scene (member n) kind spans (more_trees a no_trees) e fits typed none = ((λ name. no_part scene n kind a (is_lvalue a) (name_lvalue a name) (name_scalar (inside scene (member n) (a ∷ [])) a (inside_declared scene (member n) (a ∷ []) ∙ e) typed.0 name) fits.1), tt)
  fine scene (member n) kind spans (more_trees a (more_trees b rest)) e fits typed none = absurd fits
  fine scene (unary sign.Not) kind spans no_trees e fits typed none = absurd fits
  fine scene (unary sign.Not) kind spans (more_trees a no_trees) e fits typed none = (value_not a fits.0.0, tt)
  fine scene (unary sign.Not) kind spans (more_trees a (more_trees b rest)) e fits typed none = absurd fits
  fine scene (unary sign.Plus) kind spans no_trees e fits typed none = absurd fits
  fine scene (unary sign.Plus) kind spans (more_trees a no_trees) e fits typed none = (value_not a fits.0, tt)
  fine scene (unary sign.Plus) kind spans (more_trees a (more_trees b rest)) e fits typed none = absurd fits
  fine scene (unary sign.Minus) kind spans no_trees e fits typed none = absurd fits
  fine scene (unary sign.Minus) kind spans (more_trees a no_trees) e fits typed none = (value_not a fits.0, tt)
  fine scene (unary sign.Minus) kind spans (more_trees a (more_trees b rest)) e fits typed none = absurd fits
  fine scene (unary sign.Complement) kind spans no_trees e fits typed none = absurd fits
  fine scene (unary sign.Complement) kind spans (more_trees a no_trees) e fits typed none = (value_not a fits.0, tt)
  fine scene (unary sign.Complement) kind spans (more_trees a (more_trees b rest)) e fits typed none = absurd fits
  fine scene (binary op) kind spans no_trees e fits typed none = absurd fits
  fine scene (binary op) kind spans (more_trees a no_trees) e fits typed none = absurd fits
  fine scene (binary op) kind spans (more_trees a (more_trees b no_trees)) e fits typed none = (value_not a fits.0, (value_not b fits.1, tt))
  fine scene (binary op) kind spans (more_trees a (more_trees b (more_trees c rest))) e fits typed none = absurd fits
  fine scene both kind spans no_trees e fits typed none = absurd fits
  fine scene both kind spans (more_trees a no_trees) e fits typed none = absurd fits
  fine scene both kind spans (more_trees a (more_trees b no_trees)) e fits typed none = (value_not a fits.0.0, (value_not b fits.1.0, tt))
  fine scene both kind spans (more_trees a (more_trees b (more_trees c rest))) e fits typed none = absurd fits
  fine scene either kind spans no_trees e fits typed none = absurd fits
  fine scene either kind spans (more_trees a no_trees) e fits typed none = absurd fits
  fine scene either kind spans (more_trees a (more_trees b no_trees)) e fits typed none = (value_not a fits.0.0, (value_not b fits.1.0, tt))
  fine scene either kind spans (more_trees a (more_trees b (more_trees c rest))) e fits typed none = absurd fits
  fine scene choose kind spans no_trees e fits typed none = absurd fits
  fine scene choose kind spans (more_trees a no_trees) e fits typed none = absurd fits
  fine scene choose kind spans (more_trees a (more_trees b no_trees)) e fits typed none = absurd fits
  fine scene choose kind spans (more_trees a (more_trees b (more_trees c no_trees))) e fits typed none = (value_not a fits.0.0, (value_not b fits.1, (value_not c fits.2, tt)))
  fine scene choose kind spans (more_trees a (more_trees b (more_trees c (more_trees x rest)))) e fits typed none = absurd fits
  fine scene comma kind spans no_trees e fits typed none = absurd fits
  fine scene comma kind spans (more_trees a no_trees) e fits typed none = absurd fits
  fine scene comma kind spans (more_trees a (more_trees b no_trees)) e fits typed none = (value_not a fits.0, (value_not b fits.1, tt))
  fine scene comma kind spans (more_trees a (more_trees b (more_trees c rest))) e fits typed none = absurd fits
  fine scene store kind spans no_trees e fits typed none = absurd fits
  fine scene store kind spans (more_trees a no_trees) e fits typed none = absurd fits
  fine scene store kind spans (more_trees a (more_trees b no_trees)) e fits typed none = (value_not b fits.1, tt)
  fine scene store kind spans (more_trees a (more_trees b (more_trees c rest))) e fits typed none = absurd fits
  fine scene (update op works) kind spans no_trees e fits typed none = absurd fits
  fine scene (update op works) kind spans (more_trees a no_trees) e fits typed none = absurd fits
  fine scene (update op works) kind spans (more_trees a (more_trees b no_trees)) e fits typed none = (value_not b fits.1, tt)
  fine scene (update op works) kind spans (more_trees a (more_trees b (more_trees c rest))) e fits typed none = absurd fits
  fine scene (count plus before) kind spans no_trees e fits typed none = absurd fits
  fine scene (count plus before) kind spans (more_trees a no_trees) e fits typed none = tt
  fine scene (count plus before) kind spans (more_trees a (more_trees b rest)) e fits typed none = absurd fits
  fine scene call kind spans no_trees e fits typed none = absurd fits
  fine scene call kind spans (more_trees (node (function at) type name no_trees) rest) e fits typed none = ((λ named. no_function at type name named), call_arguments type (listed rest) kind fits)
  fine scene call kind spans (more_trees (node (function at) type name (more_trees below others)) rest) e fits typed none = absurd fits
  fine scene call kind spans (more_trees (node label type name below) rest) e fits typed none = absurd fits
  fine scene sizeof_tree kind spans no_trees e fits typed none = absurd fits
  fine scene sizeof_tree kind spans (more_trees a no_trees) e fits typed none = tt
  fine scene sizeof_tree kind spans (more_trees a (more_trees b rest)) e fits typed none = absurd fits
  fine scene (sizeof_kind type) kind spans parts e fits typed none = all_constants scene (listed parts) fits.1
  fine scene block kind spans parts e fits typed none = all_statements (listed parts) fits.0
  fine scene (declare lengths declarators) kind spans parts e fits typed none = joined lengths (listed parts) (all_constants scene (take lengths (listed parts)) fits.0.1) (of_declarators scene declarators (drop lengths (listed parts)) fits.0.2)
  fine scene full kind spans no_trees e fits typed none = absurd fits.0
  fine scene full kind spans (more_trees a no_trees) e fits typed none = (value_not a fits.0, tt)
  fine scene full kind spans (more_trees a (more_trees b rest)) e fits typed none = absurd fits.0
  fine scene empty kind spans no_trees e fits typed none = tt
  fine scene empty kind spans (more_trees a rest) e fits typed none = absurd fits.0
  fine scene if_statement kind spans no_trees e fits typed none = absurd fits.0
  fine scene if_statement kind spans (more_trees a no_trees) e fits typed none = absurd fits.0
  fine scene if_statement kind spans (more_trees a (more_trees b no_trees)) e fits typed none = (value_not a fits.0.0.0, (statement_not b fits.0.1, tt))
  fine scene if_statement kind spans (more_trees a (more_trees b (more_trees c no_trees))) e fits typed none = (value_not a fits.0.0.0, (statement_not b fits.0.1, (statement_not c fits.0.2, tt)))
  fine scene if_statement kind spans (more_trees a (more_trees b (more_trees c (more_trees x rest)))) e fits typed none = absurd fits.0
  fine scene switch kind spans no_trees e fits typed none = absurd fits.0
  fine scene switch kind spans (more_trees a rest) e fits typed none = (value_not a fits.0.0, all_statements (listed rest) fits.0.4)
  fine scene case kind spans no_trees e fits typed none = absurd fits.0
  fine scene case kind spans (more_trees a no_trees) e fits typed none = absurd fits.0
  fine scene case kind spans (more_trees a (more_trees b no_trees)) e fits typed none = (value_not a fits.0.2.0, (statement_not b fits.0.3, tt))
  fine scene case kind spans (more_trees a (more_trees b (more_trees c rest))) e fits typed none = absurd fits.0
  fine scene default kind spans no_trees e fits typed none = absurd fits.0
  fine scene default kind spans (more_trees a no_trees) e fits typed none = (statement_not a fits.0.1, tt)
  fine scene default kind spans (more_trees a (more_trees b rest)) e fits typed none = absurd fits.0
  fine scene while_loop kind spans no_trees e fits typed none = absurd fits.0
  fine scene while_loop kind spans (more_trees a no_trees) e fits typed none = absurd fits.0
  fine scene while_loop kind spans (more_trees a (more_trees b no_trees)) e fits typed none = (value_not a fits.0.0.0, (statement_not b fits.0.1, tt))
  fine scene while_loop kind spans (more_trees a (more_trees b (more_trees c rest))) e fits typed none = absurd fits.0
  fine scene do_loop kind spans no_trees e fits typed none = absurd fits.0
  fine scene do_loop kind spans (more_trees a no_trees) e fits typed none = absurd fits.0
  fine scene do_loop kind spans (more_trees a (more_trees b no_trees)) e fits typed none = (statement_not a fits.0.0, (value_not b fits.0.1.0, tt))
  fine scene do_loop kind spans (more_trees a (more_trees b (more_trees c rest))) e fits typed none = absurd fits.0
  fine scene (for_loop first second third) kind spans parts e fits typed none = of_loop first second third (listed parts) fits.0
  fine scene break kind spans no_trees e fits typed none = tt
  fine scene break kind spans (more_trees a rest) e fits typed none = absurd fits.0
  fine scene continue kind spans no_trees e fits typed none = tt
  fine scene continue kind spans (more_trees a rest) e fits typed none = absurd fits.0
  fine scene return kind spans no_trees e fits typed none = tt
  fine scene return kind spans (more_trees a no_trees) e fits typed none = (value_not a fits.0.0, tt)
  fine scene return kind spans (more_trees a (more_trees b rest)) e fits typed none = absurd fits.0

  -- ---- trees

  abbrev IsNamed : Tree → Type 0
  IsNamed tree = IsName d tree ⊎ NamesOnly d tree

  abbrev AllNamed : Trees → Type 0
  AllNamed no_trees = Unit {0}
  AllNamed (more_trees first rest) = IsNamed first × AllNamed rest

  closed_one : (tree : Tree) → NotName tree → IsNamed tree → NamesOnly d tree
  closed_one tree other (inl name) = absurd (other name)
  closed_one tree other (inr closed) = closed

  all_closed : (trees : Trees) → NoneNames (listed trees) → AllNamed trees → AllNameOnly d only_closed trees
  all_closed no_trees h k = tt
  all_closed (more_trees first rest) h k = (closed_one first h.0 k.0, all_closed rest h.1 k.1)

  swapped : (tree : Tree) → IsNamed tree → NamesOnly d tree ⊎ IsName d tree
  swapped tree (inl name) = inr name
  swapped tree (inr closed) = inl closed

  closed_parts : (may : May) (trees : Trees) → Fine may trees → AllNamed trees → AllNameOnly d may trees
  closed_parts only_closed trees h k = all_closed trees h k
  closed_parts may_name no_trees h k = tt
  closed_parts may_name (more_trees first rest) h k = (swapped first k.0, all_closed rest h k.1)
  closed_parts unseen no_trees h k = tt
  closed_parts unseen (more_trees first rest) h k = (tt, all_closed rest h k.1)

  name_or : (c : ℕ) (kind : CType) (spans : Spans) → (b : Bool) → (c == d) ≡ b → IsNamed (node (object c) kind spans no_trees)
  name_or c kind spans true e = inl (kind, spans, ap (λ (n : ℕ). node (object n) kind spans no_trees) (equal_nat c d e))
  name_or c kind spans false e = inr ((λ same. true≢false (sym (equal_is c d same) ∙ e)), tt)

  node_named : (scene : Scene) (label : Label) (kind : CType) (spans : Spans) (parts : Trees) → Fits scene label kind (listed parts) → Fine (names_first (evaluates label)) parts → AllNamed parts
      → IsNamed (node label kind spans parts)
  node_named scene (object c) kind spans no_trees fits h k = name_or c kind spans (c == d) refl
  node_named scene (object c) kind spans (more_trees first rest) fits h k = absurd fits
  node_named scene label kind spans parts fits h k = inr (tt, closed_parts (names_first (evaluates label)) parts h k)

  mutual
    pub named_in : (scene : Scene) (tree : Tree) → scene.declared ≡ declared → IsWellTyped scene tree → NotAddressed d tree → IsName d tree ⊎ NamesOnly d tree
    named_in scene (node label kind spans parts) e typed h =
        node_named scene label kind spans parts typed.0 (fine scene label kind spans parts e typed.0 typed.1 h.0)
        (all_named (inside scene label (listed parts)) parts (inside_declared scene label (listed parts) ∙ e) typed.1 h.1)

    all_named : (scene : Scene) (trees : Trees) → scene.declared ≡ declared → AreWellTyped scene trees → NoneAddressed d trees → AllNamed trees
    all_named scene no_trees e typed h = tt
    all_named scene (more_trees first rest) e typed h = (named_in scene first e typed.0 h.0, all_named scene rest e typed.1 h.1)

  -- ---- the items of a body

  list_closed : (trees : Trees) → AllNameOnly d only_closed trees → ListNamesOnly d (listed trees)
  list_closed no_trees h = tt
  list_closed (more_trees first rest) h = (h.0, list_closed rest h.1)

  pub items_named : (scene : Scene) (label : Label) (kind : CType) (spans : Spans) (items : Trees) → label ≡ block → scene.declared ≡ declared → IsWellTyped scene (node label kind spans items)
      → NotAddressed d (node label kind spans items) → ListNamesOnly d (listed items)
  items_named scene label kind spans items is e typed h =
      list_closed items
      (subst (λ (l : Label). AllNameOnly d (names_first (evaluates l)) items) is
      (closed_parts (names_first (evaluates label)) items (fine scene label kind spans items e typed.0 typed.1 h.0)
      (all_named (inside scene label (listed items)) items (inside_declared scene label (listed items) ∙ e) typed.1 h.1)))
