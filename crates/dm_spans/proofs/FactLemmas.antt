-- What is told of a tree by its forms, types and parts alone.
use Rattle.std.specs.Prelude.{◌≡◌, refl, not, ◌&&◌, List, ◌∷◌, Option, Some, None, IsSome, if◌then◌else◌}
use Rattle.std.proofs.Common.{ap, sym, ◌∙◌, subst}
use Rattle.dm_int.specs.declared.Kind.TheVariants as k
use Rattle.dm_type.specs.CTypes.{CType, void, integer, pointer, array, struct, function, const}
use Rattle.dm_type.specs.Tables.{Table}
use Rattle.dm_tree.specs.Constants.{is_constant_form, constant_forms, has_constant_form, constant_value, constant_values, value_at, kinds_in, constant}
use Rattle.dm_tree.specs.Operands.{Becomes, BecomesPointer}
use Rattle.dm_tree.specs.Scenes.{Scene, designates, is_lvalue, are_lvalues, IsLvalue, IsValue, is_integer, is_scalar, target, IsConstant, IsZero}
use Rattle.dm_tree.specs.Trees.{Tree, Trees, node, no_trees, more_trees, label_of, kind_of, is_statement}
use Rattle.dm_tree.specs.Typing.{IsCondition}
use Rattle.dm_tree.specs.Units.{Declaration}
use Rattle.dm_spans.specs.SameTrees.{IsSame, AreSame}

pub same_label : (tree other : Tree) → IsSame tree other → label_of other ≡ label_of tree
same_label (node label kind spans parts) other h = h.0

pub same_type : (tree other : Tree) → IsSame tree other → kind_of other ≡ kind_of tree
same_type (node label kind spans parts) other h = h.1

mutual
  pub same_lvalue : (tree other : Tree) → IsSame tree other → is_lvalue other ≡ is_lvalue tree
  same_lvalue (node label kind spans parts) (node other other_kind other_spans others) h = ap (λ l. designates l (are_lvalues others)) h.0 ∙ ap (designates label) (same_lvalues parts others h.2)

  same_lvalues : (trees others : Trees) → AreSame trees others → are_lvalues others ≡ are_lvalues trees
  same_lvalues no_trees no_trees h = refl
  same_lvalues no_trees (more_trees other others) h = absurd h
  same_lvalues (more_trees first rest) no_trees h = absurd h
  same_lvalues (more_trees first rest) (more_trees other others) h = ap (λ b. b ∷ are_lvalues others) (same_lvalue first other h.0) ∙ ap (λ bs. is_lvalue first ∷ bs) (same_lvalues rest others h.1)

-- ---- constants

mutual
  same_form : (tree other : Tree) → IsSame tree other → is_constant_form other ≡ is_constant_form tree
  same_form (node label kind spans parts) (node other other_kind other_spans others) h =
      ap (λ l. has_constant_form l other_kind (constant_forms others)) h.0 ∙ ap (λ t. has_constant_form label t (constant_forms others)) h.1 ∙ ap (has_constant_form label kind) (same_forms parts others h.2)

  same_forms : (trees others : Trees) → AreSame trees others → constant_forms others ≡ constant_forms trees
  same_forms no_trees no_trees h = refl
  same_forms no_trees (more_trees other others) h = absurd h
  same_forms (more_trees first rest) no_trees h = absurd h
  same_forms (more_trees first rest) (more_trees other others) h = ap (λ b. b ∷ constant_forms others) (same_form first other h.0) ∙ ap (λ bs. is_constant_form first ∷ bs) (same_forms rest others h.1)

same_kinds : (trees others : Trees) → AreSame trees others → kinds_in others ≡ kinds_in trees
same_kinds no_trees no_trees h = refl
same_kinds no_trees (more_trees other others) h = absurd h
same_kinds (more_trees first rest) no_trees h = absurd h
same_kinds (more_trees first rest) (more_trees other others) h = ap (λ t. t ∷ kinds_in others) (same_type first other h.0) ∙ ap (λ ts. kind_of first ∷ ts) (same_kinds rest others h.1)

module _ (table : Table) (declared : List Declaration) where
  mutual
    same_value : (tree other : Tree) → IsSame tree other → constant_value table declared other ≡ constant_value table declared tree
    same_value (node label kind spans parts) (node other other_kind other_spans others) h =
        ap (λ l. value_at table declared l other_kind (kinds_in others) (constant_values table declared others)) h.0
        ∙ ap (λ t. value_at table declared label t (kinds_in others) (constant_values table declared others)) h.1
        ∙ ap (λ ts. value_at table declared label kind ts (constant_values table declared others)) (same_kinds parts others h.2)
        ∙ ap (value_at table declared label kind (kinds_in parts)) (same_values parts others h.2)

    same_values : (trees others : Trees) → AreSame trees others → constant_values table declared others ≡ constant_values table declared trees
    same_values no_trees no_trees h = refl
    same_values no_trees (more_trees other others) h = absurd h
    same_values (more_trees first rest) no_trees h = absurd h
    same_values (more_trees first rest) (more_trees other others) h =
        ap (λ v. v ∷ constant_values table declared others) (same_value first other h.0) ∙ ap (λ vs. constant_value table declared first ∷ vs) (same_values rest others h.1)

  pub same_constant : (tree other : Tree) → IsSame tree other → constant table declared other ≡ constant table declared tree
  same_constant tree other h = ap (λ b. if b then constant_value table declared other else None) (same_form tree other h) ∙ ap (λ v. if is_constant_form tree then v else None) (same_value tree other h)

-- ---- operands

pub lvalue_too : (tree other : Tree) → IsSame tree other → IsLvalue tree → IsLvalue other
lvalue_too tree other h e = same_lvalue tree other h ∙ e

pub value_too : (tree other : Tree) → IsSame tree other → IsValue tree → IsValue other
value_too tree other h e = ap (λ b. not b && not (is_statement (label_of other))) (same_lvalue tree other h) ∙ ap (λ l. not (is_lvalue tree) && not (is_statement l)) (same_label tree other h) ∙ e

pub condition_too : (tree other : Tree) → IsSame tree other → IsCondition tree → IsCondition other
condition_too tree other h c = (value_too tree other h c.0, ap is_scalar (same_type tree other h) ∙ c.1)

module _ (scene : Scene) where
  pub zero_too : (tree other : Tree) → IsSame tree other → IsZero scene tree → IsZero scene other
  zero_too tree other h e = same_constant scene.types scene.declared tree other h ∙ e

  pub constant_too : (tree other : Tree) → IsSame tree other → IsConstant scene tree → IsConstant scene other
  constant_too tree other h c = (value_too tree other h c.0, subst (λ o. IsSome o) (sym (same_constant scene.types scene.declared tree other h)) c.1)

  pointer_too : (tree other : Tree) → IsSame tree other → (to : CType) (from : Option CType) → BecomesPointer scene tree to from → BecomesPointer scene other to from
  pointer_too tree other h to (Some from) b = b
  pointer_too tree other h to None b = zero_too tree other h b

  pub becomes_too : (tree other : Tree) → IsSame tree other → (kind : CType) → Becomes scene tree kind → Becomes scene other kind
  becomes_too tree other h void b = tt
  becomes_too tree other h (integer k.Bool) b = ap is_scalar (same_type tree other h) ∙ b
  becomes_too tree other h (pointer to) b = subst (λ t. BecomesPointer scene other to (target t)) (sym (same_type tree other h)) (pointer_too tree other h to (target (kind_of tree)) b)
  becomes_too tree other h (array type n) b = absurd b
  becomes_too tree other h (struct n) b = absurd b
  becomes_too tree other h (function result parameters) b = absurd b
  becomes_too tree other h (const type) b = absurd b
  becomes_too tree other h (integer kind) b = ap is_integer (same_type tree other h) ∙ b
