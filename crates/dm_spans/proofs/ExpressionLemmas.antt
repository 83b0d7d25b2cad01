-- A typed expression whose nodes stand elsewhere is typed.
use Rattle.std.specs.Prelude.{◌≡◌, refl, ℕ, Bool, true, false, not, All, List, [], ◌∷◌, None}
use Rattle.std.proofs.Common.{ap, sym, ◌∙◌, subst, true≢false}
use Rattle.std.specs.List.{AllByRecursion}
use Rattle.std.proofs.lemmas.Bool.{false≢true}
use Rattle.std.proofs.lemmas.List.Elements.{All-head, All-tail, All-from_recursion}
use Rattle.dm_int.specs.declared.Op.{Op}
use Rattle.dm_type.specs.CTypes.{CType, CTypes, no_types, more_types, function as function_type, pointer, bare}
use Rattle.dm_tree.specs.declared.tree.Sign.{Sign}
use Rattle.dm_tree.specs.declared.tree.Sign.TheVariants as s
use Rattle.dm_tree.specs.Constants.{integer_kind}
use Rattle.dm_tree.specs.Initialisers.{FitsDecay}
use Rattle.dm_tree.specs.Operands.{FitsBinary, UpdateFits, FitParameters, FitsCall, FitsMember}
use Rattle.dm_tree.specs.Scenes.{Scene, HasConst, IsComplete, IsConstant, IsModifiable, is_array, is_lvalue, target}
use Rattle.dm_tree.specs.Trees.{Label, Spans, Tree, Trees, node, no_trees, more_trees, label_of, kind_of, is_statement, listed}
use Rattle.dm_tree.specs.Trees as label
use Rattle.dm_tree.specs.Typing.{Fits, FitsExpression, IsWellTyped, AreWellTyped, inside}
use Rattle.dm_meaning.specs.Programs.{Program}
use Rattle.dm_meaning.specs.Wholes.{is_expression, are_expressions}
use Rattle.dm_meaning.proofs.OptionLemmas.{and_left, and_right}
use Rattle.dm_sound.specs.TypedTrees.{IsProper, IsProperTree, AreProperTrees, scene_in, IsTyped}
use Rattle.dm_spans.specs.SameTrees.{IsSame, AreSame}
use Rattle.dm_spans.proofs.FactLemmas.{same_label, same_type, same_lvalue, lvalue_too, value_too, condition_too, constant_too, becomes_too}

module _ (scene : Scene) where
  -- ---- lists

  each_constant : (trees others : Trees) → AreSame trees others → All (IsConstant scene) (listed trees) → AllByRecursion (IsConstant scene) (listed others)
  each_constant no_trees no_trees h c = tt
  each_constant no_trees (more_trees other others) h c = absurd h
  each_constant (more_trees first rest) no_trees h c = absurd h
  each_constant (more_trees first rest) (more_trees other others) h c =
      (constant_too scene first other h.0 (All-head (IsConstant scene) first (listed rest) c), each_constant rest others h.1 (All-tail (IsConstant scene) first (listed rest) c))

  constants_too : (trees others : Trees) → AreSame trees others → All (IsConstant scene) (listed trees) → All (IsConstant scene) (listed others)
  constants_too trees others h c = All-from_recursion (IsConstant scene) (listed others) (each_constant trees others h c)

  parameters_too : (trees others : Trees) → AreSame trees others → (types : CTypes) → FitParameters (listed trees) types → FitParameters (listed others) types
  parameters_too no_trees no_trees h no_types f = tt
  parameters_too no_trees no_trees h (more_types type types) f = absurd f
  parameters_too no_trees (more_trees other others) h types f = absurd h
  parameters_too (more_trees first rest) no_trees h types f = absurd h
  parameters_too (more_trees first rest) (more_trees other others) h no_types f = absurd f
  parameters_too (more_trees first rest) (more_trees other others) h (more_types type types) f = (value_too first other h.0 f.0, same_type first other h.0 ∙ f.1, parameters_too rest others h.1 types f.2)

  modifiable_too : (tree other : Tree) → IsSame tree other → IsModifiable scene tree → IsModifiable scene other
  modifiable_too tree other h m = (
    lvalue_too tree other h m.0,
    ap (λ t. not (is_array t)) (same_type tree other h) ∙ m.1,
    subst (IsComplete scene) (sym (same_type tree other h)) m.2,
    λ c. m.3 (subst (HasConst scene.types) (same_type tree other h) c),
  )

  -- ---- nodes

  -- a node with one operand
  one_part : (label : Label) (kind : CType) (parts others : Trees) → AreSame parts others → ((xs : List Tree) → FitsExpression scene label kind xs → (a : Tree) × (xs ≡ a ∷ []))
      → ((a b : Tree) → IsSame a b → FitsExpression scene label kind (a ∷ []) → FitsExpression scene label kind (b ∷ [])) → FitsExpression scene label kind (listed parts) → FitsExpression scene label kind (listed others)
  one_part label kind no_trees no_trees h one k f = f
  one_part label kind no_trees (more_trees other others) h one k f = absurd h
  one_part label kind (more_trees first rest) no_trees h one k f = absurd h
  one_part label kind (more_trees first no_trees) (more_trees other no_trees) h one k f = k first other h.0 f
  one_part label kind (more_trees first no_trees) (more_trees other (more_trees second others)) h one k f = absurd h.1
  one_part label kind (more_trees first (more_trees next rest)) others h one k f = absurd (two (one (first ∷ next ∷ listed rest) f).1)
    where
      two : {a : Tree} → first ∷ next ∷ listed rest ≡ a ∷ [] → ⊥
      two e = cc

  -- and with two, or three
  two_parts : (label : Label) (kind : CType) (parts others : Trees) → AreSame parts others → ((xs : List Tree) → FitsExpression scene label kind xs → (a : Tree) × (b : Tree) × (xs ≡ a ∷ b ∷ []))
      → ((a b c d : Tree) → IsSame a c → IsSame b d → FitsExpression scene label kind (a ∷ b ∷ []) → FitsExpression scene label kind (c ∷ d ∷ [])) → FitsExpression scene label kind (listed parts) → FitsExpression scene label kind (listed others)
  two_parts label kind no_trees others h two k f = absurd (none (two [] f).2)
    where
      none : {a b : Tree} → [] ≡ a ∷ b ∷ [] → ⊥
      none e = cc
  two_parts label kind (more_trees first no_trees) others h two k f = absurd (single (two (first ∷ []) f).2)
    where
      single : {a b : Tree} → first ∷ [] ≡ a ∷ b ∷ [] → ⊥
      single e = cc
  two_parts label kind (more_trees first (more_trees second no_trees)) (more_trees other (more_trees next no_trees)) h two k f = k first second other next h.0 h.1.0 f
  two_parts label kind (more_trees first (more_trees second no_trees)) no_trees h two k f = absurd h
  two_parts label kind (more_trees first (more_trees second no_trees)) (more_trees other no_trees) h two k f = absurd h.1
  two_parts label kind (more_trees first (more_trees second no_trees)) (more_trees other (more_trees next (more_trees third others))) h two k f = absurd h.1.1
  two_parts label kind (more_trees first (more_trees second (more_trees third rest))) others h two k f = absurd (three (two (first ∷ second ∷ third ∷ listed rest) f).2)
    where
      three : {a b : Tree} → first ∷ second ∷ third ∷ listed rest ≡ a ∷ b ∷ [] → ⊥
      three e = cc

  no_parts : (label : Label) (kind : CType) (parts others : Trees) → AreSame parts others → (FitsExpression scene label kind (listed parts) → listed parts ≡ []) → FitsExpression scene label kind (listed parts) → FitsExpression scene label kind (listed others)
  no_parts label kind no_trees no_trees h none f = f
  no_parts label kind no_trees (more_trees other others) h none f = absurd h
  no_parts label kind (more_trees first rest) others h none f = absurd (some (none f))
    where
      some : first ∷ listed rest ≡ [] → ⊥
      some e = cc

  leaf : (label : Label) (kind : CType) (xs : List Tree) → ((a : Tree) (rest : List Tree) → FitsExpression scene label kind (a ∷ rest) → ⊥) → FitsExpression scene label kind xs → xs ≡ []
  leaf label kind [] none f = refl
  leaf label kind (a ∷ rest) none f = absurd (none a rest f)

  -- ---- shapes

  one_read : (kind : CType) (xs : List Tree) → FitsExpression scene label.read kind xs → (a : Tree) × (xs ≡ a ∷ [])
  one_read kind [] f = absurd f
  one_read kind (a ∷ []) f = (a, refl)
  one_read kind (a ∷ b ∷ rest) f = absurd f

  one_decay : (kind : CType) (xs : List Tree) → FitsExpression scene label.decay kind xs → (a : Tree) × (xs ≡ a ∷ [])
  one_decay kind [] f = absurd f
  one_decay kind (a ∷ []) f = (a, refl)
  one_decay kind (a ∷ b ∷ rest) f = absurd f

  one_address : (kind : CType) (xs : List Tree) → FitsExpression scene label.address kind xs → (a : Tree) × (xs ≡ a ∷ [])
  one_address kind [] f = absurd f
  one_address kind (a ∷ []) f = (a, refl)
  one_address kind (a ∷ b ∷ rest) f = absurd f

  one_follow : (kind : CType) (xs : List Tree) → FitsExpression scene label.follow kind xs → (a : Tree) × (xs ≡ a ∷ [])
  one_follow kind [] f = absurd f
  one_follow kind (a ∷ []) f = (a, refl)
  one_follow kind (a ∷ b ∷ rest) f = absurd f

  one_member : (n : ℕ) (kind : CType) (xs : List Tree) → FitsExpression scene (label.member n) kind xs → (a : Tree) × (xs ≡ a ∷ [])
  one_member n kind [] f = absurd f
  one_member n kind (a ∷ []) f = (a, refl)
  one_member n kind (a ∷ b ∷ rest) f = absurd f

  one_count : (plus before : Bool) (kind : CType) (xs : List Tree) → FitsExpression scene (label.count plus before) kind xs → (a : Tree) × (xs ≡ a ∷ [])
  one_count plus before kind [] f = absurd f
  one_count plus before kind (a ∷ []) f = (a, refl)
  one_count plus before kind (a ∷ b ∷ rest) f = absurd f

  one_sizeof : (kind : CType) (xs : List Tree) → FitsExpression scene label.sizeof_tree kind xs → (a : Tree) × (xs ≡ a ∷ [])
  one_sizeof kind [] f = absurd f
  one_sizeof kind (a ∷ []) f = (a, refl)
  one_sizeof kind (a ∷ b ∷ rest) f = absurd f

  one_unary : (sign : Sign) (kind : CType) (xs : List Tree) → FitsExpression scene (label.unary sign) kind xs → (a : Tree) × (xs ≡ a ∷ [])
  one_unary sign kind (a ∷ []) f = (a, refl)
  one_unary s.Not kind [] f = absurd f
  one_unary s.Plus kind [] f = absurd f
  one_unary s.Minus kind [] f = absurd f
  one_unary s.Complement kind [] f = absurd f
  one_unary s.Not kind (a ∷ b ∷ rest) f = absurd f
  one_unary s.Plus kind (a ∷ b ∷ rest) f = absurd f
  one_unary s.Minus kind (a ∷ b ∷ rest) f = absurd f
  one_unary s.Complement kind (a ∷ b ∷ rest) f = absurd f

  two_binary : (op : Op) (kind : CType) (xs : List Tree) → FitsExpression scene (label.binary op) kind xs → (a : Tree) × (b : Tree) × (xs ≡ a ∷ b ∷ [])
  two_binary op kind [] f = absurd f
  two_binary op kind (a ∷ []) f = absurd f
  two_binary op kind (a ∷ b ∷ []) f = (a, b, refl)
  two_binary op kind (a ∷ b ∷ c ∷ rest) f = absurd f

  two_both : (kind : CType) (xs : List Tree) → FitsExpression scene label.both kind xs → (a : Tree) × (b : Tree) × (xs ≡ a ∷ b ∷ [])
  two_both kind [] f = absurd f
  two_both kind (a ∷ []) f = absurd f
  two_both kind (a ∷ b ∷ []) f = (a, b, refl)
  two_both kind (a ∷ b ∷ c ∷ rest) f = absurd f

  two_either : (kind : CType) (xs : List Tree) → FitsExpression scene label.either kind xs → (a : Tree) × (b : Tree) × (xs ≡ a ∷ b ∷ [])
  two_either kind [] f = absurd f
  two_either kind (a ∷ []) f = absurd f
  two_either kind (a ∷ b ∷ []) f = (a, b, refl)
  two_either kind (a ∷ b ∷ c ∷ rest) f = absurd f

  two_comma : (kind : CType) (xs : List Tree) → FitsExpression scene label.comma kind xs → (a : Tree) × (b : Tree) × (xs ≡ a ∷ b ∷ [])
  two_comma kind [] f = absurd f
  two_comma kind (a ∷ []) f = absurd f
  two_comma kind (a ∷ b ∷ []) f = (a, b, refl)
  two_comma kind (a ∷ b ∷ c ∷ rest) f = absurd f

  two_store : (kind : CType) (xs : List Tree) → FitsExpression scene label.store kind xs → (a : Tree) × (b : Tree) × (xs ≡ a ∷ b ∷ [])
  two_store kind [] f = absurd f
  two_store kind (a ∷ []) f = absurd f
  two_store kind (a ∷ b ∷ []) f = (a, b, refl)
  two_store kind (a ∷ b ∷ c ∷ rest) f = absurd f

  two_update : (op : Op) (works : CType) (kind : CType) (xs : List Tree) → FitsExpression scene (label.update op works) kind xs → (a : Tree) × (b : Tree) × (xs ≡ a ∷ b ∷ [])
  two_update op works kind [] f = absurd f
  two_update op works kind (a ∷ []) f = absurd f
  two_update op works kind (a ∷ b ∷ []) f = (a, b, refl)
  two_update op works kind (a ∷ b ∷ c ∷ rest) f = absurd f

  -- ---- forms

  signed_too : (sign : Sign) (kind : CType) (a b : Tree) → IsSame a b → FitsExpression scene (label.unary sign) kind (a ∷ []) → FitsExpression scene (label.unary sign) kind (b ∷ [])
  signed_too s.Not kind a b h f = (condition_too a b h f.0, f.1)
  signed_too s.Plus kind a b h f = (value_too a b h f.0, same_type a b h ∙ f.1, f.2, f.3)
  signed_too s.Minus kind a b h f = (value_too a b h f.0, same_type a b h ∙ f.1, f.2, f.3)
  signed_too s.Complement kind a b h f = (value_too a b h f.0, same_type a b h ∙ f.1, f.2, f.3)

  member_too : (n : ℕ) (kind : CType) (a b : Tree) → IsSame a b → FitsExpression scene (label.member n) kind (a ∷ []) → FitsExpression scene (label.member n) kind (b ∷ [])
  member_too n kind a b h f = (
    ap (λ l. not (is_statement l)) (same_label a b h) ∙ f.0,
    subst (λ lvalue. FitsMember scene.types lvalue (kind_of b) n kind) (sym (same_lvalue a b h)) (subst (λ t. FitsMember scene.types (is_lvalue a) t n kind) (sym (same_type a b h)) f.1),
  )

  binary_too : (op : Op) (kind : CType) (a b c d : Tree) → IsSame a c → IsSame b d → FitsExpression scene (label.binary op) kind (a ∷ b ∷ []) → FitsExpression scene (label.binary op) kind (c ∷ d ∷ [])
  binary_too op kind a b c d h k f = (
    value_too a c h f.0,
    value_too b d k f.1,
    subst (λ t. FitsBinary scene op t (kind_of d) kind (integer_kind t) (integer_kind (kind_of d)) (target t) (target (kind_of d))) (sym (same_type a c h))
        (subst (λ t. FitsBinary scene op (kind_of a) t kind (integer_kind (kind_of a)) (integer_kind t) (target (kind_of a)) (target t)) (sym (same_type b d k)) f.2),
  )

  update_too : (op : Op) (works kind : CType) (a b c d : Tree) → IsSame a c → IsSame b d → FitsExpression scene (label.update op works) kind (a ∷ b ∷ []) → FitsExpression scene (label.update op works) kind (c ∷ d ∷ [])
  update_too op works kind a b c d h k f = (
    modifiable_too a c h f.0,
    value_too b d k f.1,
    f.2 ∙ ap bare (sym (same_type a c h)),
    subst (λ t. UpdateFits scene op kind works (integer_kind kind) (integer_kind t)) (sym (same_type b d k)) f.3,
  )

  choose_too : (kind : CType) (parts others : Trees) → AreSame parts others → FitsExpression scene label.choose kind (listed parts) → FitsExpression scene label.choose kind (listed others)
  choose_too kind (more_trees a (more_trees b (more_trees c no_trees))) (more_trees d (more_trees e (more_trees g no_trees))) h f = (
    condition_too a d h.0 f.0,
    value_too b e h.1.0 f.1,
    value_too c g h.1.1.0 f.2,
    same_type b e h.1.0 ∙ f.3,
    same_type c g h.1.1.0 ∙ f.4,
    f.5,
  )
  choose_too kind no_trees others h f = absurd f
  choose_too kind (more_trees a no_trees) others h f = absurd f
  choose_too kind (more_trees a (more_trees b no_trees)) others h f = absurd f
  choose_too kind (more_trees a (more_trees b (more_trees c (more_trees d rest)))) others h f = absurd f
  choose_too kind (more_trees a (more_trees b (more_trees c no_trees))) no_trees h f = absurd h
  choose_too kind (more_trees a (more_trees b (more_trees c no_trees))) (more_trees d no_trees) h f = absurd h.1
  choose_too kind (more_trees a (more_trees b (more_trees c no_trees))) (more_trees d (more_trees e no_trees)) h f = absurd h.1.1
  choose_too kind (more_trees a (more_trees b (more_trees c no_trees))) (more_trees d (more_trees e (more_trees g (more_trees i rest)))) h f = absurd h.1.1.1

  called_too : (type kind : CType) (rest others : Trees) → AreSame rest others → FitsCall type (listed rest) kind → FitsCall type (listed others) kind
  called_too (function_type result parameters) kind rest others h f = (parameters_too rest others h parameters f.0, f.1)
  called_too type kind rest others h f = absurd f

  call_too : (kind : CType) (parts others : Trees) → AreSame parts others → FitsExpression scene label.call kind (listed parts) → FitsExpression scene label.call kind (listed others)
  call_too kind (more_trees (node (label.function at) type spans no_trees) rest) (more_trees (node other other_kind other_spans no_trees) others) h f =
      subst (λ l. FitsExpression scene label.call kind (node l other_kind other_spans no_trees ∷ listed others)) (sym h.0.0)
      (called_too other_kind kind rest others h.1 (subst (λ t. FitsCall t (listed rest) kind) (sym h.0.1) f))
  call_too kind (more_trees (node (label.function at) type spans no_trees) rest) (more_trees (node other other_kind other_spans (more_trees below more)) others) h f = absurd h.0.2
  call_too kind (more_trees (node (label.function at) type spans no_trees) rest) no_trees h f = absurd h
  call_too kind no_trees others h f = absurd f
  call_too kind (more_trees (node (label.function at) type spans (more_trees first below)) rest) others h f = absurd f
  call_too kind (more_trees (node form type spans below) rest) others h f = absurd f

  convert_too : (kind : CType) (parts others : Trees) → AreSame parts others → FitsExpression scene label.convert kind (listed parts) → FitsExpression scene label.convert kind (listed others)
  convert_too kind (more_trees a lengths) (more_trees b others) h f = (value_too a b h.0 f.0, becomes_too scene a b h.0 kind f.1, constants_too lengths others h.1 f.2)
  convert_too kind (more_trees a lengths) no_trees h f = absurd h
  convert_too kind no_trees others h f = absurd f

  -- each form of an expression
  form_too : (form : Label) (kind : CType) (parts others : Trees) → is_statement form ≡ false → AreSame parts others → Fits scene form kind (listed parts) → Fits scene form kind (listed others)
  form_too (label.number z) kind parts others e h f = no_parts (label.number z) kind parts others h (leaf (label.number z) kind (listed parts) (λ a rest x. x)) f
  form_too (label.enumerator d) kind parts others e h f = no_parts (label.enumerator d) kind parts others h (leaf (label.enumerator d) kind (listed parts) (λ a rest x. x)) f
  form_too (label.literal bytes unit) kind parts others e h f = no_parts (label.literal bytes unit) kind parts others h (leaf (label.literal bytes unit) kind (listed parts) (λ a rest x. x)) f
  form_too (label.object d) kind parts others e h f = no_parts (label.object d) kind parts others h (leaf (label.object d) kind (listed parts) (λ a rest x. x)) f
  form_too (label.function d) kind parts others e h f = no_parts (label.function d) kind parts others h (leaf (label.function d) kind (listed parts) (λ a rest x. x)) f
  form_too label.read kind parts others e h f =
      one_part label.read kind parts others h (one_read kind) (λ a b k x. (lvalue_too a b k x.0, ap (λ t. not (is_array t)) (same_type a b k) ∙ x.1, x.2 ∙ ap bare (sym (same_type a b k)))) f
  form_too label.decay kind parts others e h f =
      one_part label.decay kind parts others h (one_decay kind) (λ a b k x. (lvalue_too a b k x.0, subst (λ t. FitsDecay t kind) (sym (same_type a b k)) x.1)) f
  form_too label.convert kind parts others e h f = convert_too kind parts others h f
  form_too label.address kind parts others e h f =
      one_part label.address kind parts others h (one_address kind) (λ a b k x. (lvalue_too a b k x.0, x.1 ∙ ap pointer (sym (same_type a b k)))) f
  form_too label.follow kind parts others e h f =
      one_part label.follow kind parts others h (one_follow kind) (λ a b k x. (value_too a b k x.0, same_type a b k ∙ x.1, x.2)) f
  form_too (label.member n) kind parts others e h f = one_part (label.member n) kind parts others h (one_member n kind) (member_too n kind) f
  form_too (label.unary sign) kind parts others e h f = one_part (label.unary sign) kind parts others h (one_unary sign kind) (signed_too sign kind) f
  form_too (label.binary op) kind parts others e h f = two_parts (label.binary op) kind parts others h (two_binary op kind) (binary_too op kind) f
  form_too label.both kind parts others e h f =
      two_parts label.both kind parts others h (two_both kind) (λ a b c d k l x. (condition_too a c k x.0, condition_too b d l x.1, x.2)) f
  form_too label.either kind parts others e h f =
      two_parts label.either kind parts others h (two_either kind) (λ a b c d k l x. (condition_too a c k x.0, condition_too b d l x.1, x.2)) f
  form_too label.choose kind parts others e h f = choose_too kind parts others h f
  form_too label.comma kind parts others e h f =
      two_parts label.comma kind parts others h (two_comma kind) (λ a b c d k l x. (value_too a c k x.0, value_too b d l x.1, x.2 ∙ sym (same_type b d l))) f
  form_too label.store kind parts others e h f =
      two_parts label.store kind parts others h (two_store kind) (λ a b c d k l x. (modifiable_too a c k x.0, value_too b d l x.1, x.2 ∙ ap bare (sym (same_type a c k)), same_type b d l ∙ x.3)) f
  form_too (label.update op works) kind parts others e h f = two_parts (label.update op works) kind parts others h (two_update op works kind) (update_too op works kind) f
  form_too (label.count plus before) kind parts others e h f =
      one_part (label.count plus before) kind parts others h (one_count plus before kind) (λ a b k x. (modifiable_too a b k x.0, x.1 ∙ ap bare (sym (same_type a b k)), x.2)) f
  form_too label.call kind parts others e h f = call_too kind parts others h f
  form_too label.sizeof_tree kind parts others e h f =
      one_part label.sizeof_tree kind parts others h (one_sizeof kind)
      (λ a b k x. (ap (λ l. not (is_statement l)) (same_label a b k) ∙ x.0, subst (IsComplete scene) (sym (same_type a b k)) x.1, x.2)) f
  form_too (label.sizeof_kind type) kind parts others e h f = (f.0, constants_too parts others h f.1, f.2)
  form_too form kind parts others e h f = absurd (true≢false e)

-- ---- trees

inside_expression : (scene : Scene) (form : Label) (xs : List Tree) → is_statement form ≡ false → inside scene form xs ≡ record scene { labels = None }
inside_expression scene label.switch xs e = absurd (true≢false e)
inside_expression scene label.case xs e = absurd (true≢false e)
inside_expression scene label.default xs e = absurd (true≢false e)
inside_expression scene label.while_loop xs e = absurd (true≢false e)
inside_expression scene label.do_loop xs e = absurd (true≢false e)
inside_expression scene (label.for_loop first second third) xs e = absurd (true≢false e)
inside_expression scene form xs e = refl

pub not_statement : (b : Bool) → not b ≡ true → b ≡ false
not_statement true e = absurd (false≢true e)
not_statement false e = refl

mutual
  pub well_typed_too : (scene : Scene) (tree other : Tree) → IsSame tree other → is_expression tree ≡ true → IsWellTyped scene tree → IsWellTyped scene other
  well_typed_too scene (node form kind spans parts) (node other other_kind other_spans others) h e t =
      let expression = not_statement (is_statement form) (and_left (not (is_statement form)) (are_expressions parts) e) in
      let below = well_typed_all (record scene { labels = None }) parts others h.2 (and_right (not (is_statement form)) (are_expressions parts) e) (subst (λ place. AreWellTyped place parts) (inside_expression scene form (listed parts) expression) t.1) in (
        subst (λ l. Fits scene l other_kind (listed others)) (sym h.0) (subst (λ k. Fits scene form k (listed others)) (sym h.1) (form_too scene form kind parts others expression h.2 t.0)),
        subst (λ place. AreWellTyped place others) (sym (inside_expression scene other (listed others) (ap is_statement h.0 ∙ expression))) below,
      )

  well_typed_all : (scene : Scene) (trees others : Trees) → AreSame trees others → are_expressions trees ≡ true → AreWellTyped scene trees → AreWellTyped scene others
  well_typed_all scene no_trees no_trees h e t = tt
  well_typed_all scene no_trees (more_trees other others) h e t = absurd h
  well_typed_all scene (more_trees first rest) no_trees h e t = absurd h
  well_typed_all scene (more_trees first rest) (more_trees other others) h e t =
      (well_typed_too scene first other h.0 (and_left (is_expression first) (are_expressions rest) e) t.0, well_typed_all scene rest others h.1 (and_right (is_expression first) (are_expressions rest) e) t.1)

mutual
  pub proper_too : (tree other : Tree) → IsSame tree other → IsProperTree tree → IsProperTree other
  proper_too (node form kind spans parts) (node other other_kind other_spans others) h p = (subst IsProper (sym h.1) p.0, all_proper_too parts others h.2 p.1)

  all_proper_too : (trees others : Trees) → AreSame trees others → AreProperTrees trees → AreProperTrees others
  all_proper_too no_trees no_trees h p = tt
  all_proper_too no_trees (more_trees other others) h p = absurd h
  all_proper_too (more_trees first rest) no_trees h p = absurd h
  all_proper_too (more_trees first rest) (more_trees other others) h p = (proper_too first other h.0 p.0, all_proper_too rest others h.1 p.1)

pub expression_typed : (program : Program) (result : CType) (tree other : Tree) → IsSame tree other → is_expression tree ≡ true → IsTyped program result tree → IsTyped program result other
expression_typed program result tree other h e t = record {
  breaks = t.breaks;
  continues = t.continues;
  labels = t.labels;
  typed = well_typed_too (scene_in program result t.breaks t.continues t.labels) tree other h e t.typed;
  proper = proper_too tree other h t.proper;
}
