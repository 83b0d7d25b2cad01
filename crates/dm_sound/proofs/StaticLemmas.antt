-- Objects of static storage duration begin with values of their types (6.7.9p4, p10).
use Rattle.std.specs.Prelude.{◌≡◌, refl, ℕ, suc, Bool, true, false, IsTrue, IfSome, IsSome, List, [], ◌∷◌, ◌++◌, length, take, drop, Option, Some, None, slice_get}
use Rattle.std.proofs.Common.{ap, sym, ◌∙◌, subst}
use Rattle.std.proofs.lemmas.Bool.{false≢true, true≢false}
use Rattle.dm_int.specs.Ranges.{in_range-convert}
use Rattle.dm_type.specs.CTypes.{CType, void, integer, pointer, array, struct, function, const, bare, is_const}
use Rattle.dm_tree.specs.Constants.{integer_kind}
use Rattle.dm_tree.specs.Initialisers.{targets, targets_of_items, is_fixed, Initialises, AllInitialise, InitialiserFits}
use Rattle.dm_tree.specs.Scenes.{Scene, is_scalar}
use Rattle.dm_tree.specs.Trees.{literal, Tree, node, Initialiser, Initialisers, one_expression, in_braces, no_items, more_items, expressions_in}
use Rattle.dm_meaning.specs.Values.{Value, values, parts_in, literal_of}
use Rattle.dm_meaning.specs.Objects.{Layout, inner_type, all_zero, unqualified, is_array}
use Rattle.dm_meaning.specs.Memory.{Memory}
use Rattle.dm_meaning.specs.Programs.{Program, Static, layout}
use Rattle.dm_meaning.specs.Operations.{Objects}
use Rattle.dm_meaning.specs.Statements.{kind_declared, type_declared, count_items, array_of}
use Rattle.dm_meaning.specs.Units.{characters_of, static_scalar, static_value, static_parts}
use Rattle.dm_meaning.proofs.OptionLemmas.{none_is_some, some_is_some}
use Rattle.dm_sound.specs.TypedValues.{own_type, part_types, HasType, HaveTypes}
use Rattle.dm_sound.specs.TypedTrees.{IsProper, IsSoundTable, scene_in}
use Rattle.dm_sound.specs.TypedSteps.{IsTypedScope}
use Rattle.dm_sound.specs.TypedRuns.{IsTypedStatic}
use Rattle.dm_sound.proofs.ValueLemmas.{has_own, parts_own, element_there}
use Rattle.dm_sound.proofs.FirstLemmas.{zero_has}
use Rattle.dm_sound.proofs.ListedLemmas.{parts_have, text_has}
use Rattle.dm_sound.proofs.FillLemmas.{scalar_plain, is_struct, same_element, integer_by, integer_back, character_kind, targets_split, item_there, counted, part_there}

-- no scalar type is that of a struct
scalar_no_struct : (type : CType) → IsTrue (is_scalar type) → is_struct (unqualified type) ≡ false
scalar_no_struct (integer kind) h = refl
scalar_no_struct (pointer type) h = refl
scalar_no_struct (const (integer kind)) h = refl
scalar_no_struct (const (pointer type)) h = refl
scalar_no_struct (const type) h = absurd (false≢true h)
scalar_no_struct type h = absurd (false≢true h)

-- no expression initialises a whole struct
struct_apart : (scene : Scene) (fixed : Bool) (type : CType) (tree : Tree) (number : ℕ) → unqualified type ≡ struct number → Initialises scene fixed type tree → ⊥
struct_apart scene fixed (array type count) tree number e h = false≢true (ap is_struct e)
struct_apart scene fixed type tree number e h = false≢true (sym (scalar_no_struct type h.1) ∙ ap is_struct e)

module _ (laid : Layout) where
  -- values of the parts from a number on
  abbrev HaveFrom : List CType → ℕ → List Value → Type 0
  HaveFrom types n [] = Unit {0}
  HaveFrom types n (value ∷ rest) = ((type : CType) × (slice_get types n ≡ Some type) × HasType laid type value) × HaveFrom types (suc n) rest

  have_behind : (type : CType) (types : List CType) (n : ℕ) (xs : List Value) → HaveFrom (type ∷ types) (suc n) xs → HaveFrom types n xs
  have_behind type types n [] h = tt
  have_behind type types n (x ∷ xs) h = (h.0, have_behind type types (suc n) xs h.1)

  -- some values, and behind them the rest of others
  filled_up : (types : List CType) (xs ys : List Value) → HaveFrom types 0 xs → HaveTypes laid types (values ys) → HaveTypes laid types (values (xs ++ drop (length xs) ys))
  filled_up types [] ys h k = k
  filled_up [] (x ∷ xs) ys h k = absurd (none_is_some h.0.0 h.0.1)
  filled_up (type ∷ types) (x ∷ xs) [] h k = absurd k
  filled_up (type ∷ types) (x ∷ xs) (y ∷ ys) h k = (
    subst (λ (t : CType). HasType laid t x) (sym (some_is_some type h.0.0 h.0.1)) h.0.2,
    filled_up types xs ys (have_behind type types 0 xs h.1) k.1,
  )

module _ (program : Program) (sound : IsSoundTable program.table) (objects : Objects) (memory : Memory) (scene : Scene) (fixed : Bool) where
  abbrev laid : Layout
  laid = layout program

  array_has : (type : CType) (tree : Tree) (inner : CType) (many : ℕ) → unqualified type ≡ array (unqualified inner) (Some many) → IsProper inner → Initialises scene fixed type tree
      → HasType laid (array inner (Some many)) (array_of (array inner (Some many)) (characters_of tree))
  array_has (array type (Some count)) (node (literal bytes unit) kind spans parts) inner many e p h =
      let same = same_element (unqualified type) (unqualified inner) (Some count) (Some many) e in
      let char = character_kind (integer_kind type) h.0 in
      text_has laid inner char.0 (integer_back inner char.0 p (sym same.0 ∙ integer_by type char.0 char.1)) many (literal_of bytes unit)
  array_has (array type (Some count)) (node label kind spans parts) inner many e p h = absurd (false≢true h.1)
  array_has type tree inner many e p h = absurd (false≢true (sym (scalar_plain type h.1) ∙ ap is_array e))

  plain_has : (type : CType) (tree : Tree) (kind : CType) → unqualified type ≡ unqualified kind → IsProper kind → is_const kind ≡ false → Initialises scene fixed type tree
      → HasType laid kind (static_scalar program objects memory kind tree)
  plain_has type tree void e p c h = refl
  plain_has type tree (integer kind) e p c h = (refl, in_range-convert kind _)
  plain_has type tree (pointer target) e p c h = refl
  plain_has type tree (array inner None) e p c h = refl
  plain_has type tree (array inner (Some many)) e p c h = array_has type tree inner many e p h
  plain_has type tree (struct number) e p c h = absurd (struct_apart scene fixed type tree number e h)
  plain_has type tree (function result parameters) e p c h = refl
  plain_has type tree (const kind) e p c h = absurd (true≢false c)

  -- what one expression gives
  one_has : (type : CType) (tree : Tree) (kind : CType) → unqualified type ≡ unqualified kind → IsProper kind → Initialises scene fixed type tree
      → HasType laid kind (static_scalar program objects memory (bare kind) tree)
  one_has type tree (const (const kind)) e p h = absurd (false≢true p.0)
  one_has type tree (const kind) e p h = has_own laid kind (const kind) refl (static_scalar program objects memory kind tree) (plain_has type tree kind e p.1 refl h)
  one_has type tree kind e p h = plain_has type tree kind e p refl h

  parts_counted : (items : Initialisers) (kind : CType) (n : ℕ) (trees : List Tree) → length (static_parts program objects memory kind n items trees) ≡ count_items items
  parts_counted no_items kind n trees = refl
  parts_counted (more_items item items) kind n trees = ap suc (parts_counted items kind (suc n) (drop (expressions_in item) trees))

  mutual
    static_has : (initialiser : Initialiser) (type kind : CType) → unqualified type ≡ unqualified kind → IsProper kind → (types : List CType) → targets program.table type initialiser ≡ Some types → (trees : List Tree)
        → AllInitialise scene fixed types trees → HasType laid kind (static_value program objects memory kind initialiser trees)
    static_has one_expression type kind e p types f [] h = absurd (subst (λ (ts : List CType). AllInitialise scene fixed ts []) (sym (some_is_some (type ∷ []) types f)) h)
    static_has one_expression type kind e p types f (tree ∷ trees) h =
        one_has type tree kind e p (subst (λ (ts : List CType). AllInitialise scene fixed ts (tree ∷ trees)) (sym (some_is_some (type ∷ []) types f)) h).0
    static_has (in_braces no_items) type kind e p types f trees h = absurd (none_is_some types f)
    static_has (in_braces (more_items item items)) type kind e p types f trees h =
        let there = item_there program sound type 0 item items types f in
        let has = (part_there program sound type kind e p 0 there.part there.is).3 in
        let given = static_parts program objects memory kind 0 (more_items item items) trees in
        let zeroed = parts_in (all_zero laid kind) in (
          has,
          subst (λ n. HaveTypes laid (part_types laid (own_type kind)) (values (given ++ drop n zeroed))) (parts_counted (more_items item items) kind 0 trees)
              (filled_up laid (part_types laid (own_type kind)) given zeroed (parts_from (more_items item items) type kind e p 0 types f trees h)
              (parts_have laid kind (all_zero laid kind) (zero_has program sound kind) has)),
        )

    parts_from : (items : Initialisers) (type kind : CType) → unqualified type ≡ unqualified kind → IsProper kind → (n : ℕ) (types : List CType) → targets_of_items program.table type n items ≡ Some types → (trees : List Tree)
        → AllInitialise scene fixed types trees → HaveFrom laid (part_types laid (own_type kind)) n (static_parts program objects memory kind n items trees)
    parts_from no_items type kind e p n types f trees h = tt
    parts_from (more_items item items) type kind e p n types f trees h =
        let there = item_there program sound type n item items types f in
        let part = part_there program sound type kind e p n there.part there.is in
        let inner = inner_type laid (bare kind) n in
        let count = expressions_in item in
        let both = targets_split scene fixed there.firsts there.others trees count (counted program sound item there.part there.firsts there.of_first) (subst (λ (ts : List CType). AllInitialise scene fixed ts trees) (sym there.joined) h) in
        let found = element_there laid (bare kind) n inner false part.0 in (
          (
            inner,
            ap (λ (t : CType). slice_get (part_types laid t) n) (parts_own laid kind found.2) ∙ found.0,
            static_has item there.part inner part.1 part.2 there.firsts there.of_first (take count trees) both.0,
          ),
          parts_from items type kind e p (suc n) there.others there.of_rest (drop count trees) both.1,
        )

-- the first value of an object whose initialiser fits
pub first_value_has : (program : Program) (scope : IsTypedScope program) (objects : Objects) (memory : Memory) (static : Static) → IsTypedStatic program static → (initialiser : Initialiser) → static.initialiser ≡ Some initialiser
    → HasType (layout program) (type_declared program static.declared) (static_value program objects memory (type_declared program static.declared) initialiser static.expressions)
first_value_has program scope objects memory static s initialiser i =
    let fits = subst (λ (o : Option Initialiser). InitialiserFits place s.entry true o static.expressions) i s.fits in
    subst (λ (t : CType). HasType (layout program) t (static_value program objects memory t initialiser static.expressions)) (sym (ap kind_declared s.declared))
    (by_targets (targets program.table s.entry.kind initialiser) refl fits.1 fits.2)
  where
    place : Scene
    place = scene_in program s.result s.breaks s.continues s.labels

    by_targets : (o : Option (List CType)) → targets program.table s.entry.kind initialiser ≡ o → IfSome o (λ types. AllInitialise place (is_fixed s.entry.sort) types static.expressions) → IsSome o
        → HasType (layout program) s.entry.kind (static_value program objects memory s.entry.kind initialiser static.expressions)
    by_targets None e f is = absurd (false≢true is)
    by_targets (Some types) e f is =
        static_has program scope.table objects memory place (is_fixed s.entry.sort) initialiser s.entry.kind s.entry.kind refl (scope.proper static.declared s.entry s.declared) types e static.expressions f
