-- The initialisers of well-typed declarations give objects and their parts values of their types.
use Rattle.std.specs.Prelude.{◌≡◌, refl, ℕ, zero, suc, ◌+◌, nat_lt, Bool, true, false, not, IsTrue, IfSome, IsSome, List, [], ◌∷◌, ◌++◌, length, take, drop, Option, Some, None, option_map, slice_get, if◌then◌else◌}
use Rattle.std.proofs.Common.{arith, ap, sym, ◌∙◌, subst}
use Rattle.std.proofs.lemmas.Bool.{false≢true, true≢false}
use Rattle.dm_int.specs.declared.Kind.{Kind}
use Rattle.dm_type.specs.declared.shape.Member.{Member}
use Rattle.dm_type.specs.CTypes.{CType, void, integer, pointer, array, struct, const, bare, with_const}
use Rattle.dm_type.specs.Tables.{type_of, members_of}
use Rattle.dm_tree.specs.Constants.{integer_kind}
use Rattle.dm_tree.specs.Initialisers.{also, targets, targets_of_items, is_character, is_fixed, Initialises, AllInitialise, InitialiserFits, FitsEntry, DeclaratorFits, DeclaratorsFit}
use Rattle.dm_tree.specs.Scenes.{Scene, is_scalar, part_type, member_type}
use Rattle.dm_tree.specs.Trees.{literal, Tree, node, listed, kind_of, Declarator, Initialiser, Initialisers, one_expression, in_braces, no_items, more_items, expressions_in, expressions_in_items}
use Rattle.dm_tree.specs.Units.{Declaration}
use Rattle.dm_tree.proofs.ExpressionLemmas.{IsExpression, value-expression}
use Rattle.dm_meaning.specs.Objects.{Field, object_of, outside, reached_member, element, inner_type, unqualified, is_array}
use Rattle.dm_meaning.specs.Causes.{is_unset}
use Rattle.dm_meaning.specs.Programs.{Program, layout, declaration_of}
use Rattle.dm_meaning.specs.Operations.{of_value, designates}
use Rattle.dm_meaning.specs.Statements.{array_of, characters_at, expressions_of, kind_declared, with_expressions}
use Rattle.dm_meaning.proofs.OptionLemmas.{none_is_some, some_is_some, bound_some, mapped_some}
use Rattle.dm_meaning.proofs.WholeLemmas.{typed-expression}
use Rattle.dm_sound.specs.TypedValues.{own_type, has_parts, has_values, HasType}
use Rattle.dm_sound.specs.TypedTrees.{IsProper, IsSoundTable, scene_in}
use Rattle.dm_sound.specs.TypedStates.{Gives, Fills, FillParts, FillsIfThere, AllAreTyped}
use Rattle.dm_sound.proofs.ValueLemmas.{own_bare, has_own, has_like, covered_like, back_like}
use Rattle.dm_sound.proofs.GivenLemmas.{like_values, scalar_values}
use Rattle.dm_sound.proofs.OperateLemmas.{value_no_lvalue}
use Rattle.dm_sound.proofs.ComeLemmas.{typed_parts}
use Rattle.dm_sound.proofs.ListedLemmas.{text_has}
use Rattle.dm_sound.proofs.TableLemmas.{table_proper, field_there}
use Rattle.dm_sound.proofs.LocalLemmas.{same_count}
use Rattle.dm_sound.proofs.TaskLemmas.{all_listed, LocalsFit, DeclaresFill}

-- ---- types without const

unqualified_const : (type : CType) → unqualified (with_const type) ≡ unqualified type
unqualified_const (array type n) = ap (λ (t : CType). array t n) (unqualified_const type)
unqualified_const type = refl

plain_own : (type : CType) → is_array (unqualified type) ≡ false → own_type type ≡ unqualified type
plain_own (array type n) e = absurd (true≢false e)
plain_own (const type) e = plain_own type e
plain_own type e = refl

pub scalar_plain : (type : CType) → IsTrue (is_scalar type) → is_array (unqualified type) ≡ false
scalar_plain (integer kind) h = refl
scalar_plain (pointer type) h = refl
scalar_plain (const (integer kind)) h = refl
scalar_plain (const (pointer type)) h = refl
scalar_plain (const type) h = absurd (false≢true h)
scalar_plain type h = absurd (false≢true h)

abbrev pub is_struct : CType → Bool
is_struct (struct number) = true
is_struct type = false

pub same_element : (a b : CType) (m n : Option ℕ) → array a m ≡ array b n → (a ≡ b) × (m ≡ n)
same_element a b m n e = (element_of e, length_of e)
  where
    element_of : array a m ≡ array b n → a ≡ b
    element_of f = cc

    length_of : array a m ≡ array b n → m ≡ n
    length_of f = cc

pub integer_by : (type : CType) (kind : Kind) → integer_kind type ≡ Some kind → unqualified type ≡ integer kind
integer_by (integer other) kind e = ap integer (some_is_some other kind e)
integer_by (const (integer other)) kind e = ap integer (some_is_some other kind e)
integer_by (const type) kind e = absurd (none_is_some kind e)
integer_by type kind e = absurd (none_is_some kind e)

abbrev integer_in : CType → Option Kind
integer_in (integer kind) = Some kind
integer_in type = None

pub integer_back : (type : CType) (kind : Kind) → IsProper type → unqualified type ≡ integer kind → integer_kind type ≡ Some kind
integer_back (integer other) kind p e = ap integer_in e
integer_back (const (integer other)) kind p e = ap integer_in e
integer_back (const (const type)) kind p e = absurd (false≢true p.0)
integer_back (const type) kind p e = absurd (none_is_some kind (ap integer_in e))
integer_back type kind p e = absurd (none_is_some kind (ap integer_in e))

pub character_kind : (o : Option Kind) → IsTrue (is_character o) → (kind : Kind) × (o ≡ Some kind)
character_kind None h = absurd (false≢true h)
character_kind (Some kind) h = (kind, refl)

-- an array type with an element's type, const apart
array_like : (type : CType) (m : Option ℕ) (kind : CType) → array (unqualified type) m ≡ unqualified kind → IsProper kind → (inner : CType) × (kind ≡ array inner m) × (unqualified type ≡ unqualified inner) × IsProper inner
array_like type m (array inner n) e p = let same = same_element (unqualified type) (unqualified inner) m n e in (inner, ap (λ (o : Option ℕ). array inner o) (sym same.1), same.0, p)
array_like type m (const (const kind)) e p = absurd (false≢true p.0)
array_like type m (const (array kind n)) e p = absurd (false≢true p.0)
array_like type m (const kind) e p = absurd (true≢false (ap is_array e))
array_like type m kind e p = absurd (true≢false (ap is_array e))

struct_like : (number : ℕ) (kind : CType) → struct number ≡ unqualified kind → IsProper kind → (bare kind ≡ struct number) × IsTrue (has_parts (own_type kind))
struct_like number (struct other) e p = (sym e, refl)
struct_like number (const (struct other)) e p = (sym e, refl)
struct_like number (const (const kind)) e p = absurd (false≢true p.0)
struct_like number (const kind) e p = absurd (true≢false (ap is_struct e))
struct_like number kind e p = absurd (true≢false (ap is_struct e))

-- what initialises an object is an expression
initialises_whole : (scene : Scene) (fixed : Bool) (type : CType) (tree : Tree) → Initialises scene fixed type tree → IsExpression tree
initialises_whole scene fixed (array type (Some many)) (node (literal bytes unit) kind spans parts) h = refl
initialises_whole scene fixed (array type (Some many)) (node label kind spans parts) h = value-expression (node label kind spans parts) h.0
initialises_whole scene fixed type tree h = value-expression tree h.0

-- ---- lists

pub targets_split : (scene : Scene) (fixed : Bool) (types others : List CType) (trees : List Tree) (n : ℕ) → length types ≡ n → AllInitialise scene fixed (types ++ others) trees
    → AllInitialise scene fixed types (take n trees) × AllInitialise scene fixed others (drop n trees)
targets_split scene fixed [] others trees zero e h = (tt, h)
targets_split scene fixed [] others trees (suc n) e h = absurd (omega (arith, e))
targets_split scene fixed (type ∷ types) others trees zero e h = absurd (omega (arith, e))
targets_split scene fixed (type ∷ types) others [] (suc n) e h = absurd h
targets_split scene fixed (type ∷ types) others (tree ∷ trees) (suc n) e h = let rest = targets_split scene fixed types others trees n (omega (arith, e)) h.1 in ((h.0, rest.0), rest.1)

module _ (program : Program) (result : CType) where
  taken_typed : (n : ℕ) (trees : List Tree) → AllAreTyped program result trees → AllAreTyped program result (take n trees)
  taken_typed zero trees h = tt
  taken_typed (suc n) [] h = tt
  taken_typed (suc n) (tree ∷ trees) h = (h.0, taken_typed n trees h.1)

  dropped_typed : (n : ℕ) (trees : List Tree) → AllAreTyped program result trees → AllAreTyped program result (drop n trees)
  dropped_typed zero trees h = h
  dropped_typed (suc n) [] h = tt
  dropped_typed (suc n) (tree ∷ trees) h = dropped_typed n trees h.1

module _ (program : Program) (sound : IsSoundTable program.table) where
  length_joined : (xs ys : List CType) → length (xs ++ ys) ≡ length xs + length ys
  length_joined [] ys = omega arith
  length_joined (x ∷ xs) ys = let h = length_joined xs ys in omega (arith, h)

  -- an item of a list in braces, and those behind it
  pub record IsItem (type : CType) (n : ℕ) (first : Initialiser) (rest : Initialisers) (types : List CType) : Type 0 where
    pub part : CType
    pub firsts : List CType
    pub others : List CType
    pub is : part_type program.table type n ≡ Some part
    pub of_first : targets program.table part first ≡ Some firsts
    pub of_rest : targets_of_items program.table type (suc n) rest ≡ Some others
    pub joined : firsts ++ others ≡ types

  one_more : (n : ℕ) → n + 1 ≡ suc n
  one_more n = omega arith

  pub item_there : (type : CType) (n : ℕ) (first : Initialiser) (rest : Initialisers) (types : List CType) → targets_of_items program.table type n (more_items first rest) ≡ Some types → IsItem type n first rest types
  item_there type n first rest types e =
      let behind = targets_of_items program.table type (n + 1) rest in
      let one = bound_some (λ (part : CType). also (targets program.table part first) behind) (part_type program.table type n) types e in
      let two = bound_some (λ (firsts : List CType). option_map (λ (others : List CType). firsts ++ others) behind) (targets program.table one.0 first) types one.2 in
      let three = mapped_some (λ (others : List CType). two.0 ++ others) behind types two.2 in
      record {
        part = one.0;
        firsts = two.0;
        others = three.0;
        is = one.1;
        of_first = two.1;
        of_rest = subst (λ m. targets_of_items program.table type m rest ≡ Some three.0) (one_more n) three.1;
        joined = three.2;
      }

  -- there are as many targets as expressions
  mutual
    pub counted : (initialiser : Initialiser) (type : CType) (types : List CType) → targets program.table type initialiser ≡ Some types → length types ≡ expressions_in initialiser
    counted one_expression type types e = ap length (sym (some_is_some (type ∷ []) types e))
    counted (in_braces items) type types e = counted_items items type 0 types e

    counted_items : (items : Initialisers) (type : CType) (n : ℕ) (types : List CType) → targets_of_items program.table type n items ≡ Some types → length types ≡ expressions_in_items items
    counted_items no_items type zero types e = absurd (none_is_some types e)
    counted_items no_items type (suc n) types e = ap length (sym (some_is_some [] types e))
    counted_items (more_items first rest) type n types e =
        let item = item_there type n first rest types e in
        let a = counted first item.part item.firsts item.of_first in
        let b = counted_items rest type (suc n) item.others item.of_rest in
        ap length (sym item.joined) ∙ length_joined item.firsts item.others ∙ ap (λ m. m + length item.others) a ∙ ap (λ m. expressions_in first + m) b

  -- ---- parts

  abbrev pub IsPart : CType → ℕ → CType → Type 0
  IsPart kind n part =
      (element (layout program) (bare kind) n ≡ object_of (inner_type (layout program) (bare kind) n) false) × (unqualified part ≡ unqualified (inner_type (layout program) (bare kind) n))
      × IsProper (inner_type (layout program) (bare kind) n) × IsTrue (has_parts (own_type kind))

  inner_field : (number n : ℕ) (field : Field) → slice_get ((layout program).fields number) n ≡ Some field → inner_type (layout program) (struct number) n ≡ field.kind
  inner_field number n field g = ap kind_in_field g
    where
      kind_in_field : Option Field → CType
      kind_in_field (Some one) = one.kind
      kind_in_field None = void

  struct_part : (number : ℕ) (kind : CType) → struct number ≡ unqualified kind → IsProper kind → (n : ℕ) (part : CType) → member_type program.table (struct number) n ≡ Some part → IsPart kind n part
  struct_part number kind e p n part f =
      let like = struct_like number kind e p in
      let inside = bound_some (λ (members : List Member). option_map (λ (one : Member). type_of program.table one.kind) (slice_get members n)) (members_of program.table number) part f in
      let one = mapped_some (λ (one : Member). type_of program.table one.kind) (slice_get inside.0 n) part inside.2 in
      let field = field_there program.table sound number inside.0 inside.1 n one.0 one.1 in
      subst (λ (t : CType). (element (layout program) t n ≡ object_of (inner_type (layout program) t n) false) × (unqualified part ≡ unqualified (inner_type (layout program) t n)) × IsProper (inner_type (layout program) t n) × IsTrue (has_parts (own_type kind)))
      (sym like.0)
      (by_field field.0 field.1 (field.2 ∙ one.2) (subst IsProper (sym field.2) (table_proper program.table one.0.kind)) like.1)
    where
      by_field : (field : Field) → slice_get ((layout program).fields number) n ≡ Some field → field.kind ≡ part → IsProper field.kind → IsTrue (has_parts (own_type kind))
          → (element (layout program) (struct number) n ≡ object_of (inner_type (layout program) (struct number) n) false) × (unqualified part ≡ unqualified (inner_type (layout program) (struct number) n))
          × IsProper (inner_type (layout program) (struct number) n) × IsTrue (has_parts (own_type kind))
      by_field field g h q w =
          let inner : inner_type (layout program) (struct number) n ≡ field.kind = inner_field number n field g in
          (ap reached_member g ∙ ap (λ (t : CType). object_of t false) (sym inner), ap unqualified (sym h ∙ sym inner), subst IsProper (sym inner) q, w)

  pub part_there : (type kind : CType) → unqualified type ≡ unqualified kind → IsProper kind → (n : ℕ) (part : CType) → part_type program.table type n ≡ Some part → IsPart kind n part
  part_there (array type (Some many)) kind e p n part f =
      let like = array_like type (Some many) kind e p in
      subst (λ (k : CType). IsPart k n part) (sym like.1) (by_length (nat_lt n many) refl f like.0 like.2 like.3)
    where
      by_length : (b : Bool) → nat_lt n many ≡ b → (if b then Some type else None) ≡ Some part → (inner : CType) → unqualified type ≡ unqualified inner → IsProper inner → IsPart (array inner (Some many)) n part
      by_length true g h inner u q = (ap (λ b. if b then object_of inner false else outside) g, ap unqualified (sym (some_is_some type part h)) ∙ u, q, refl)
      by_length false g h inner u q = absurd (none_is_some part h)
  part_there (struct number) kind e p n part f = struct_part number kind e p n part f
  part_there (const (struct number)) kind e p n part f =
      let from = mapped_some with_const (member_type program.table (struct number) n) part f in
      let h = struct_part number kind e p n from.0 from.1 in
      (h.0, ap unqualified (sym from.2) ∙ unqualified_const from.0 ∙ h.1, h.2, h.3)
  part_there (const type) kind e p n part f = absurd (none_is_some part f)
  part_there type kind e p n part f = absurd (none_is_some part f)

  -- ---- values

  gives : (scene : Scene) (fixed : Bool) (type : CType) (tree : Tree) (kind : CType) → unqualified type ≡ unqualified kind → IsProper kind → Initialises scene fixed type tree → Gives program kind tree
  gives scene fixed (array type (Some many)) (node (literal bytes unit) k spans parts) kind e p h (of_value value) g = absurd (false≢true g.0)
  gives scene fixed (array type (Some many)) (node (literal bytes unit) k spans parts) kind e p h (designates at) g =
      let like = array_like type (Some many) kind e p in
      let char = character_kind (integer_kind type) h.0 in
      let inner = integer_back like.0 char.0 like.3 (sym like.2 ∙ integer_by type char.0 char.1) in
      subst (λ (t : CType). HasType (layout program) t (array_of t (characters_at at.name)) × (is_unset (array_of t (characters_at at.name)) ≡ false)) (sym like.1) (text_has (layout program) like.0 char.0 inner many at.name, refl)
  gives scene fixed (array type (Some many)) (node label k spans parts) kind e p h given g = absurd (false≢true h.1)
  gives scene fixed type tree kind e p h (of_value value) g =
      let plain = scalar_plain type h.1 in
      let same : own_type (bare type) ≡ own_type kind = own_bare type ∙ plain_own type plain ∙ e ∙ sym (plain_own kind (ap is_array (sym e) ∙ plain)) in
      let like = covered_like (bare type) (kind_of tree) h.2 g.1.whole in (
        has_own (layout program) (bare type) kind same value (has_like (layout program) (kind_of tree) (bare type) (back_like (own_type (bare type)) (own_type (kind_of tree)) like) value g.1.typed),
        g.1.set (like_values (own_type (bare type)) (own_type (kind_of tree)) like (ap has_values (own_bare type) ∙ scalar_values type h.1)),
      )
  gives scene fixed type tree kind e p h (designates at) g = absurd (false≢true (ap not (sym g) ∙ value_no_lvalue tree h.0))

  -- ---- initialisers

  module _ (result : CType) (scene : Scene) (fixed : Bool) where
    mutual
      fills : (initialiser : Initialiser) (type kind : CType) → unqualified type ≡ unqualified kind → IsProper kind → (types : List CType) → targets program.table type initialiser ≡ Some types → (trees : List Tree)
          → AllInitialise scene fixed types trees → AllAreTyped program result trees → Fills program result kind initialiser trees
      fills one_expression type kind e p types f [] h t = tt
      fills one_expression type kind e p types f (tree ∷ []) h t =
          let first = subst (λ (ts : List CType). AllInitialise scene fixed ts (tree ∷ [])) (sym (some_is_some (type ∷ []) types f)) h in
          (t.0, gives scene fixed type tree kind e p first.0, typed-expression (scene_in program result t.0.breaks t.0.continues t.0.labels) tree t.0.typed (initialises_whole scene fixed type tree first.0))
      fills one_expression type kind e p types f (first ∷ second ∷ rest) h t = tt
      fills (in_braces no_items) type kind e p types f trees h t = absurd (none_is_some types f)
      fills (in_braces (more_items item items)) type kind e p types f trees h t =
          let there = item_there type 0 item items types f in
          ((part_there type kind e p 0 there.part there.is).3, fill_parts (more_items item items) type kind e p 0 types f trees h t)

      fill_parts : (items : Initialisers) (type kind : CType) → unqualified type ≡ unqualified kind → IsProper kind → (n : ℕ) (types : List CType) → targets_of_items program.table type n items ≡ Some types → (trees : List Tree)
          → AllInitialise scene fixed types trees → AllAreTyped program result trees → FillParts program result (bare kind) n items trees
      fill_parts no_items type kind e p n types f trees h t = tt
      fill_parts (more_items item items) type kind e p n types f trees h t =
          let there = item_there type n item items types f in
          let part = part_there type kind e p n there.part there.is in
          let count = expressions_in item in
          let both = targets_split scene fixed there.firsts there.others trees count (counted item there.part there.firsts there.of_first) (subst (λ (ts : List CType). AllInitialise scene fixed ts trees) (sym there.joined) h) in (
            part.0,
            fills item there.part (inner_type (layout program) (bare kind) n) part.1 part.2 there.firsts there.of_first (take count trees) both.0 (taken_typed program result count trees t),
            fill_parts items type kind e p (suc n) there.others there.of_rest (drop count trees) both.1 (dropped_typed program result count trees t),
          )

  -- ---- declarators

  module _ (proper : (d : ℕ) (entry : Declaration) → declaration_of program d ≡ Some entry → IsProper entry.kind) (result : CType) (breaks continues : Bool) (labels : Option Kind) where
    abbrev place : Scene
    place = scene_in program result breaks continues labels

    initialiser_fills : (entry : Declaration) → IsProper entry.kind → (defines : Bool) (o : Option Initialiser) (trees : List Tree) → InitialiserFits place entry defines o trees → AllAreTyped program result trees
        → FillsIfThere program result entry.kind o trees
    initialiser_fills entry p defines None trees h t = tt
    initialiser_fills entry p defines (Some one) trees h t = by_targets (targets program.table entry.kind one) refl h.1 h.2
      where
        by_targets : (o : Option (List CType)) → targets program.table entry.kind one ≡ o → IfSome o (λ types. AllInitialise place (is_fixed entry.sort) types trees) → IsSome o → Fills program result entry.kind one trees
        by_targets None e f is = absurd (false≢true is)
        by_targets (Some types) e f is = fills result place (is_fixed entry.sort) one entry.kind entry.kind refl p types e trees f t

    declarator_fills : (one : Declarator) (trees : List Tree) → (o : Option Declaration) → declaration_of program one.declared ≡ o → IfSome o (FitsEntry place one trees) → IsSome o → AllAreTyped program result trees
        → FillsIfThere program result (kind_declared o) one.initialiser trees
    declarator_fills one trees None e f is t = absurd (false≢true is)
    declarator_fills one trees (Some entry) e f is t = initialiser_fills entry (proper one.declared entry e) one.defines one.initialiser trees f.1 t

    declarators_fill : (declarators : List Declarator) (trees : List Tree) → DeclaratorsFit place declarators trees → AllAreTyped program result trees → LocalsFit program result (with_expressions declarators trees)
    declarators_fill [] trees h t = tt
    declarators_fill (one ∷ more) trees h t =
        let count = expressions_of one.initialiser in
        let first = subst (λ n. DeclaratorFits place one (take n trees)) (same_count one.initialiser) h.0 in
        let rest = subst (λ n. DeclaratorsFit place more (drop n trees)) (same_count one.initialiser) h.1 in (
          declarator_fills one (take count trees) (declaration_of program one.declared) refl first.0 first.1 (taken_typed program result count trees t),
          declarators_fill more (drop count trees) rest (dropped_typed program result count trees t),
        )

  pub declares_fill : ((d : ℕ) (entry : Declaration) → declaration_of program d ≡ Some entry → IsProper entry.kind) → (result : CType) → DeclaresFill program result
  declares_fill proper result lengths declarators kind spans parts t =
      let trees = listed parts in
      declarators_fill proper result t.breaks t.continues t.labels declarators (drop lengths trees) t.typed.0.0.2
      (dropped_typed program result lengths trees (all_listed program result parts (typed_parts program result _ kind spans parts t)))
