-- A well-typed value of no function type gives a value and no lvalue.
use Rattle.std.specs.Prelude.{◌≡◌, refl, ℕ, Bool, true, false, not, ◌&&◌, IsTrue, IfSome, IsSome, All, List, [], ◌∷◌, Option, Some, None, slice_get}
use Rattle.std.proofs.Common.{ap, sym, ◌∙◌, subst, inl, inr}
use Rattle.std.proofs.lemmas.Bool.{true≢false, false≢true}
use Rattle.dm_type.specs.CTypes.{CType, void, integer, pointer, array, struct, function as function_type, const}
use Rattle.dm_type.specs.Tables.{Table}
use Rattle.dm_tree.specs.declared.unit.Sort.{Sort}
use Rattle.dm_tree.specs.declared.unit.Sort.TheVariants.{Object, Function, Typedef, Enumerator, Tag}
use Rattle.dm_tree.specs.Composites.{covers}
use Rattle.dm_tree.specs.Initialisers.{is_function_sort}
use Rattle.dm_tree.specs.Operands.{FitsMember}
use Rattle.dm_tree.specs.Scenes.{Scene, is_function, is_lvalue, IsValue, member_type}
use Rattle.dm_tree.specs.Trees.{number, enumerator, literal, object, function, read, decay, convert, address, follow, member, unary, binary, both, either, choose, comma, store, update, count, call, sizeof_tree, sizeof_kind, Tree, node, no_trees, more_trees, kind_of}
use Rattle.dm_tree.specs.Typing.{FitsSort, has_linkage, inside, IsEntry, IsWellTyped}
use Rattle.dm_tree.specs.Units.{Declaration}
use Rattle.dm_meaning.specs.Called.{Gives}
use Rattle.dm_meaning.proofs.OptionLemmas.{and_left, and_right}
use Rattle.dm_refine.proofs.PutLemmas.{all_there}

-- what covers a function type
covered_function : (whole type : CType) → is_function whole ≡ true → covers whole type ≡ true → is_function type ≡ true
covered_function (function_type result kinds) (function_type other others) e h = refl
covered_function (function_type result kinds) void e h = absurd (false≢true h)
covered_function (function_type result kinds) (integer kind) e h = absurd (false≢true h)
covered_function (function_type result kinds) (pointer type) e h = absurd (false≢true h)
covered_function (function_type result kinds) (array type n) e h = absurd (false≢true h)
covered_function (function_type result kinds) (struct n) e h = absurd (false≢true h)
covered_function (function_type result kinds) (const type) e h = absurd (false≢true h)
covered_function void type e h = absurd (false≢true e)
covered_function (integer kind) type e h = absurd (false≢true e)
covered_function (pointer inner) type e h = absurd (false≢true e)
covered_function (array inner n) type e h = absurd (false≢true e)
covered_function (struct n) type e h = absurd (false≢true e)
covered_function (const inner) type e h = absurd (false≢true e)

-- the entry of a function's name
sort_function : (sort : Sort) (kind : CType) (linked : Bool) → is_function_sort sort ≡ true → FitsSort sort kind linked → is_function kind ≡ true
sort_function Function kind linked e fits = fits.0
sort_function (Object fixed) kind linked e fits = absurd (false≢true e)
sort_function Typedef kind linked e fits = absurd (false≢true e)
sort_function (Enumerator value) kind linked e fits = absurd (false≢true e)
sort_function Tag kind linked e fits = absurd (false≢true e)

module _ (declared : List Declaration) (entries : All IsEntry declared) where
  name_function : (d : ℕ) (kind : CType) (found : Option Declaration) → slice_get declared d ≡ found → IfSome found (λ entry. IsTrue (is_function_sort entry.sort && covers entry.kind kind)) → IsSome found
      → is_function kind ≡ true
  name_function d kind None e fits is = absurd (false≢true is)
  name_function d kind (Some entry) e fits is =
      covered_function entry.kind kind
      (sort_function entry.sort entry.kind (has_linkage entry.linkage) (and_left (is_function_sort entry.sort) (covers entry.kind kind) fits) (all_there IsEntry declared entries d entry e))
      (and_right (is_function_sort entry.sort) (covers entry.kind kind) fits)

  -- a struct is no function
  struct_member : (types : Table) (whole : CType) (n : ℕ) → IsSome (member_type types whole n) → is_function whole ≡ false
  struct_member types (struct at) n h = refl
  struct_member types (function_type result kinds) n h = absurd (false≢true h)
  struct_member types void n h = refl
  struct_member types (integer kind) n h = refl
  struct_member types (pointer type) n h = refl
  struct_member types (array type m) n h = refl
  struct_member types (const type) n h = refl

  member_value : (types : Table) (b : Bool) (whole : CType) (n : ℕ) (kind : CType) → b ≡ false → FitsMember types b whole n kind → is_function whole ≡ false
  member_value types true whole n kind e fits = absurd (true≢false e)
  member_value types false whole n kind e fits = struct_member types whole n fits.1

  value_of : (a s : Bool) → a ≡ false → s ≡ false → IsTrue (not a && not s)
  value_of true s e f = absurd (true≢false e)
  value_of false true e f = absurd (true≢false f)
  value_of false false e f = refl

  not_false : (a : Bool) → IsTrue (not a) → a ≡ false
  not_false true e = absurd (false≢true e)
  not_false false e = refl

  pub gives : (scene : Scene) → scene.declared ≡ declared → (tree : Tree) → IsWellTyped scene tree → IsValue tree → is_function (kind_of tree) ≡ false → Gives tree
  gives scene e (node (function d) kind spans no_trees) t v n =
      absurd (true≢false (sym (name_function d kind (slice_get declared d) refl
      (subst (λ (ds : List Declaration). IfSome (slice_get ds d) (λ (entry : Declaration). IsTrue (is_function_sort entry.sort && covers entry.kind kind))) e t.0.0)
      (subst (λ (ds : List Declaration). IsSome (slice_get ds d)) e t.0.1)) ∙ n))
  gives scene e (node (function d) kind spans (more_trees first rest)) t v n = absurd t.0
  gives scene e (node (member m) kind spans (more_trees operand no_trees)) t v n =
      let none = not_false (is_lvalue operand) (and_left (not (is_lvalue operand)) _ v) in
      inr (gives (inside scene (member m) (operand ∷ [])) e operand t.1.0 (value_of (is_lvalue operand) _ none (not_false _ t.0.0))
      (member_value scene.types (is_lvalue operand) (kind_of operand) m kind none t.0.1))
  gives scene e (node (member m) kind spans no_trees) t v n = absurd t.0
  gives scene e (node (member m) kind spans (more_trees first (more_trees second rest))) t v n = absurd t.0
  gives scene e (node choose kind spans (more_trees first (more_trees second (more_trees third no_trees)))) t v n =
      let below = inside scene choose (first ∷ second ∷ third ∷ []) in
      inr (
        t.0.3,
        gives below e second t.1.1.0 t.0.1 (ap is_function t.0.3 ∙ n),
        t.0.4,
        gives below e third t.1.1.1.0 t.0.2 (ap is_function t.0.4 ∙ n),
      )
  gives scene e (node choose kind spans no_trees) t v n = absurd t.0
  gives scene e (node choose kind spans (more_trees first no_trees)) t v n = absurd t.0
  gives scene e (node choose kind spans (more_trees first (more_trees second no_trees))) t v n = absurd t.0
  gives scene e (node choose kind spans (more_trees first (more_trees second (more_trees third (more_trees fourth rest))))) t v n = absurd t.0
  gives scene e (node comma kind spans (more_trees first (more_trees second no_trees))) t v n =
      inr (sym t.0.2, gives (inside scene comma (first ∷ second ∷ [])) e second t.1.1.0 t.0.1 (ap is_function (sym t.0.2) ∙ n))
  gives scene e (node comma kind spans no_trees) t v n = absurd t.0
  gives scene e (node comma kind spans (more_trees first no_trees)) t v n = absurd t.0
  gives scene e (node comma kind spans (more_trees first (more_trees second (more_trees third rest)))) t v n = absurd t.0
  gives scene e (node (number z) kind spans parts) t v n = inl refl
  gives scene e (node (enumerator d) kind spans parts) t v n = inl refl
  gives scene e (node read kind spans parts) t v n = inl refl
  gives scene e (node decay kind spans parts) t v n = inl refl
  gives scene e (node convert kind spans parts) t v n = inl refl
  gives scene e (node address kind spans parts) t v n = inl refl
  gives scene e (node (unary sign) kind spans parts) t v n = inl refl
  gives scene e (node (binary op) kind spans parts) t v n = inl refl
  gives scene e (node both kind spans parts) t v n = inl refl
  gives scene e (node either kind spans parts) t v n = inl refl
  gives scene e (node store kind spans parts) t v n = inl refl
  gives scene e (node (update op works) kind spans parts) t v n = inl refl
  gives scene e (node (count plus before) kind spans parts) t v n = inl refl
  gives scene e (node call kind spans parts) t v n = inl refl
  gives scene e (node sizeof_tree kind spans parts) t v n = inl refl
  gives scene e (node (sizeof_kind type) kind spans parts) t v n = inl refl
  gives scene e (node (literal bytes unit) kind spans parts) t v n = absurd (false≢true v)
  gives scene e (node (object d) kind spans parts) t v n = absurd (false≢true v)
  gives scene e (node follow kind spans parts) t v n = absurd (false≢true v)
  gives scene e (node label kind spans parts) t v n = absurd (false≢true v)
