-- The rules on expressions say the same where types have other numbers.
use Rattle.std.specs.Prelude.{◌≡◌, ℕ, ◌&&◌, ◌||◌, not, if◌then◌else◌, List, [], ◌∷◌, Option, Some, None, is_some, option_map, option_and_then, refl}
use Rattle.std.proofs.Common.{ap, ap₂}
use Rattle.std.proofs.lemmas.List.{length-map}
use Rattle.dm_int.specs.declared.Kind.{Kind}
use Rattle.dm_int.specs.declared.Kind.TheVariants as k
use Rattle.dm_int.specs.declared.Op.{Op}
use Rattle.dm_int.specs.declared.Op.TheVariants as o
use Rattle.dm_type.specs.declared.shape.Shape.{Shape}
use Rattle.dm_type.specs.CTypes.{CType, CTypes, void, integer, pointer, array, struct, function as function_type, const, no_types, more_types, bare, is_const}
use Rattle.dm_tree.specs.Constants.{integer_kind}
use Rattle.dm_tree.specs.Scenes.{is_lvalue, target, is_integer, is_pointer, is_void, is_array, is_function, are_alike}
use Rattle.dm_tree.specs.Trees.{Label, Tree, Trees, node, no_trees, more_trees, kind_of}
use Rattle.dm_tree.specs.Trees as label
use Rattle.dm_tree.specs.Units.{Declaration}
use Rattle.dm_typing.specs.Known.{Known}
use Rattle.dm_typing.specs.Conversions.{is_complete, if_complete, complete_target, as_type, constant_of, is_zero_value, is_zero, is_null}
use Rattle.dm_typing.specs.Rules.{pair, points_to_complete, point_alike, is_void_pointer, indexed, member_in, member_of_struct, member_by_name, is_modifiable, may_be_counted, may_become_pointer, may_be_cast, of_pointer_and_integer, equated, of_others, of_kinds, operated, pointer_arms, arms_by_targets, both_as, arms_of_types, arms_of_kinds, arms, keeps_const, pointer_assignable, assignable_to, is_assignable, put_before, passed, called, moves, updated_by, updated}
use Rattle.dm_typing.specs.Typing.{is_among, may_have_members, struct_begun, number_if_struct, length_fits, is_result}
use Rattle.dm_outcome.proofs.Renumbered.{Renumbers, moved_struct, at_one, at_other}
use Rattle.dm_outcome.proofs.TableLemmas.{and-then-same, chosen, members-there, size-same, member-found, const-same, constant-same}

module _ (one other : List Shape) (number : ℕ → ℕ) (re : Renumbers one other number) (known : Known) where
  abbrev a : Known
  a = at_one one known

  abbrev b : Known
  b = at_other other number known

  -- ---- complete types

  pub complete-same : (type : CType) → is_complete b type ≡ is_complete a type
  complete-same type = ap is_some (size-same one other number re known.types.structs type)

  pub target-same : (type : CType) → complete_target b type ≡ complete_target a type
  target-same type = and-then-same (target type) (if_complete b) (if_complete a) (λ to. ap (λ test. if test then Some to else None) (complete-same to))

  points-same : (type : CType) → points_to_complete b type ≡ points_to_complete a type
  points-same type = ap is_some (target-same type)

  pub length-same : (type : CType) (n : Option ℕ) → length_fits b type n ≡ length_fits a type n
  length-same type None = refl
  length-same type (Some n) = complete-same (array type (Some n))

  pub result-same : (type : CType) → is_result b type ≡ is_result a type
  result-same type = ap (λ test. not (is_function type) && not (is_array type) && (is_void (bare type) || test)) (complete-same type)

  -- ---- constants

  pub constant-of-same : (tree : Tree) → constant_of b tree ≡ constant_of a tree
  constant-of-same tree = constant-same one other number re known.types.structs known.declared tree

  zero-same : (tree : Tree) → is_zero b tree ≡ is_zero a tree
  zero-same tree = ap is_zero_value (constant-of-same tree)

  pub null-same : (tree : Tree) → is_null b tree ≡ is_null a tree
  null-same (node label.convert (pointer void) spans (more_trees operand lengths)) = zero-same operand
  null-same tree = zero-same tree

  -- ---- the rules

  pub indexed-same : (x y : CType) → indexed b x y ≡ indexed a x y
  indexed-same x y = ap₂ (λ p q. if p && is_integer y then Some x else if q && is_integer x then Some y else None) (points-same x) (points-same y)

  struct-member-same : (name : List ℕ) (type : CType) → member_of_struct b name type ≡ member_of_struct a name type
  struct-member-same name (struct n) = member-found one other number re known.types.structs name n
  struct-member-same name void = refl
  struct-member-same name (integer kind) = refl
  struct-member-same name (pointer type) = refl
  struct-member-same name (array type n) = refl
  struct-member-same name (function_type result parameters) = refl
  struct-member-same name (const type) = refl

  pub member-same : (name : List ℕ) (tree : Tree) → member_by_name b name tree ≡ member_by_name a name tree
  member-same name tree = ap (option_and_then (member_in (is_lvalue tree) (is_const (kind_of tree)))) (struct-member-same name (bare (kind_of tree)))

  pub modifiable-same : (tree : Tree) → is_modifiable b tree ≡ is_modifiable a tree
  modifiable-same tree =
      ap₂ (λ whole const. is_lvalue tree && not (is_array (kind_of tree)) && whole && not const) (complete-same (kind_of tree)) (const-same one other number re known.types.structs (kind_of tree))

  pub counted-same : (tree : Tree) → may_be_counted b tree ≡ may_be_counted a tree
  counted-same tree = ap₂ (λ p q. p && (is_integer (kind_of tree) || q)) (modifiable-same tree) (points-same (kind_of tree))

  become-same : (tree : Tree) (to : CType) (from : Option CType) → may_become_pointer b tree to from ≡ may_become_pointer a tree to from
  become-same tree to (Some from) = ap (λ null. are_alike to from || is_void (bare to) || is_void (bare from) || null) (null-same tree)
  become-same tree to None = null-same tree

  pub cast-same : (tree : Tree) (type : CType) → may_be_cast b tree type ≡ may_be_cast a tree type
  cast-same tree (pointer to) = become-same tree to (target (kind_of tree))
  cast-same tree void = refl
  cast-same tree (integer kind) = go kind
    where
      go : (kind : Kind) → may_be_cast b tree (integer kind) ≡ may_be_cast a tree (integer kind)
      go k.Bool = refl
      go kind = refl
  cast-same tree (array type n) = refl
  cast-same tree (struct n) = refl
  cast-same tree (function_type result parameters) = refl
  cast-same tree (const type) = refl

  pointer-integer-same : (op : Op) (x y : Tree) → of_pointer_and_integer b op x y ≡ of_pointer_and_integer a op x y
  pointer-integer-same o.Add x y =
      ap₂ (λ p q. if p && is_integer (kind_of y) then Some (pair x y (kind_of x)) else if q && is_integer (kind_of x) then Some (pair x y (kind_of y)) else None)
      (points-same (kind_of x)) (points-same (kind_of y))
  pointer-integer-same o.Sub x y =
      ap₂ (λ p q. if p && is_integer (kind_of y) then Some (pair x y (kind_of x))
      else if p && q && point_alike (kind_of x) (kind_of y) then Some (pair x y (integer k.Long)) else None)
      (points-same (kind_of x)) (points-same (kind_of y))
  pointer-integer-same op x y = refl

  equated-same : (x y : Tree) → equated b x y ≡ equated a x y
  equated-same x y =
      ap₂ (λ p q. if point_alike (kind_of x) (kind_of y) then Some (pair x y (integer k.Int))
      else if is_pointer (kind_of x) && p then Some (pair x (as_type (kind_of x) y) (integer k.Int))
      else if is_pointer (kind_of y) && q then Some (pair (as_type (kind_of y) x) y (integer k.Int))
      else if is_void_pointer (kind_of x) && is_pointer (kind_of y) then Some (pair x (as_type (kind_of x) y) (integer k.Int))
      else if is_pointer (kind_of x) && is_void_pointer (kind_of y) then Some (pair (as_type (kind_of y) x) y (integer k.Int))
      else None) (null-same y) (null-same x)

  others-same : (op : Op) (x y : Tree) → of_others b op x y ≡ of_others a op x y
  others-same o.Add x y = pointer-integer-same o.Add x y
  others-same o.Sub x y = pointer-integer-same o.Sub x y
  others-same o.Equal x y = equated-same x y
  others-same o.NotEqual x y = equated-same x y
  others-same op x y = refl

  of-kinds-same : (op : Op) (x y : Tree) (left right : Option Kind) → of_kinds b op x y left right ≡ of_kinds a op x y left right
  of-kinds-same op x y (Some left) (Some right) = refl
  of-kinds-same op x y left right = others-same op x y

  pub operated-same : (op : Op) (x y : Tree) → operated b op x y ≡ operated a op x y
  operated-same op x y = of-kinds-same op x y (integer_kind (kind_of x)) (integer_kind (kind_of y))

  pointer-arms-same : (x y : Tree) (to from : CType) → pointer_arms b x y to from ≡ pointer_arms a x y to from
  pointer-arms-same x y to from =
      chosen (are_alike to from) (are_alike to from) _ _ _ _ refl refl
      (chosen (is_null b y) (is_null a y) _ _ _ _ (null-same y) refl (chosen (is_null b x) (is_null a x) _ _ _ _ (null-same x) refl refl))

  arms-targets-same : (x y : Tree) (left right : Option CType) → arms_by_targets b x y left right ≡ arms_by_targets a x y left right
  arms-targets-same x y (Some to) (Some from) = pointer-arms-same x y to from
  arms-targets-same x y (Some to) None = ap (λ test. if test then Some (kind_of x) else None) (null-same y)
  arms-targets-same x y None (Some from) = ap (λ test. if test then Some (kind_of y) else None) (null-same x)
  arms-targets-same x y None None = refl

  arms-types-same : (x y : Tree) (left right : CType) → arms_of_types b x y left right ≡ arms_of_types a x y left right
  arms-types-same x y void void = refl
  arms-types-same x y (struct m) (struct n) = refl
  arms-types-same x y left right = ap (option_map (both_as x y)) (arms-targets-same x y (target left) (target right))

  arms-kinds-same : (x y : Tree) (left right : Option Kind) → arms_of_kinds b x y left right ≡ arms_of_kinds a x y left right
  arms-kinds-same x y (Some left) (Some right) = refl
  arms-kinds-same x y left right = arms-types-same x y (kind_of x) (kind_of y)

  pub arms-same : (x y : Tree) → arms b x y ≡ arms a x y
  arms-same x y = arms-kinds-same x y (integer_kind (kind_of x)) (integer_kind (kind_of y))

  pointer-assignable-same : (tree : Tree) (to : CType) (from : Option CType) → pointer_assignable b tree to from ≡ pointer_assignable a tree to from
  pointer-assignable-same tree to (Some from) = ap (λ null. (are_alike to from || is_void (bare to) || is_void (bare from)) && keeps_const to from || null) (null-same tree)
  pointer-assignable-same tree to None = null-same tree

  assignable-to-same : (tree : Tree) (type : CType) → assignable_to b tree type ≡ assignable_to a tree type
  assignable-to-same tree (pointer to) = pointer-assignable-same tree to (target (kind_of tree))
  assignable-to-same tree void = refl
  assignable-to-same tree (integer kind) = go kind
    where
      go : (kind : Kind) → assignable_to b tree (integer kind) ≡ assignable_to a tree (integer kind)
      go k.Bool = refl
      go kind = refl
  assignable-to-same tree (array type n) = refl
  assignable-to-same tree (struct n) = refl
  assignable-to-same tree (function_type result parameters) = refl
  assignable-to-same tree (const type) = refl

  pub assignable-same : (tree : Tree) (type : CType) → is_assignable b tree type ≡ is_assignable a tree type
  assignable-same tree type = assignable-to-same tree (bare type)

  passed-same : (values : List Tree) (types : CTypes) → passed b values types ≡ passed a values types
  passed-same [] no_types = refl
  passed-same [] (more_types type types) = refl
  passed-same (value ∷ values) no_types = refl
  passed-same (value ∷ values) (more_types type types) =
      chosen (is_assignable b value type) (is_assignable a value type) _ _ _ _ (assignable-same value type) (ap (put_before (as_type type value)) (passed-same values types)) refl

  pub called-same : (type : CType) (values : List Tree) → called b type values ≡ called a type values
  called-same (function_type result parameters) values = ap (option_map (λ list. (bare result, list))) (passed-same values parameters)
  called-same void values = refl
  called-same (integer kind) values = refl
  called-same (pointer type) values = refl
  called-same (array type n) values = refl
  called-same (struct n) values = refl
  called-same (const type) values = refl

  updated-by-same : (op : Op) (type : CType) (value : Tree) (left right : Option Kind) → updated_by b op type value left right ≡ updated_by a op type value left right
  updated-by-same op type value (Some left) (Some right) = refl
  updated-by-same op type value None (Some right) = ap (λ test. if moves op && test then Some (type, value) else None) (points-same type)
  updated-by-same op type value left right = refl

  pub updated-same : (op : Op) (object value : Tree) → updated b op object value ≡ updated a op object value
  updated-same op object value =
      chosen (is_modifiable b object) (is_modifiable a object) _ _ _ _ (modifiable-same object)
      (updated-by-same op (bare (kind_of object)) value (integer_kind (kind_of object)) (integer_kind (kind_of value))) refl

  -- ---- structs

  may-have-same : (n : ℕ) → may_have_members b n ≡ may_have_members a n
  may-have-same n = ap (λ test. if test || is_among n known.begun then None else Some n) (members-there one other number re known.types.structs n)

  pub begun-same : (found : Option Declaration) → struct_begun b found ≡ struct_begun a found
  begun-same None = ap Some (length-map known.types.structs (moved_struct number))
  begun-same (Some entry) = and-then-same (number_if_struct entry.kind) (may_have_members b) (may_have_members a) may-have-same
