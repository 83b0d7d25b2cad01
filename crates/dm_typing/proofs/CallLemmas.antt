-- Values that are assigned or passed, calls and casts.
use Rattle.std.specs.Prelude.{◌≡◌, Bool, true, false, ◌&&◌, ◌||◌, if◌then◌else◌, ◌⊎◌, List, [], ◌∷◌, Option, Some, None, option_map, refl, All}
use Rattle.std.proofs.Common.{sym, ap, subst, inl, inr, ⊎_elim}
use Rattle.dm_int.specs.declared.Kind.TheVariants as k
use Rattle.dm_type.specs.CTypes.{CType, CTypes, void, integer, pointer, struct, function as function_type, no_types, more_types, bare}
use Rattle.dm_syn.specs.Trees.{Expr}
use Rattle.dm_tree.proofs.ListLemmas.{listed-trees}
use Rattle.dm_tree.specs.Trees.{Tree, node, no_trees, more_trees, label_of, kind_of, listed, trees}
use Rattle.dm_tree.specs.Trees as label
use Rattle.dm_tree.specs.Scenes.{target, is_void, are_alike, IsConstant}
use Rattle.dm_tree.specs.Operands.{Becomes, BecomesPointer, FitParameters, FitsCall}
use Rattle.dm_tree.specs.Typing.{AreWellTyped}
use Rattle.dm_typing.specs.declared.extent.Extent.{Extent}
use Rattle.dm_typing.specs.Known.{Known, Setting}
use Rattle.dm_typing.specs.Conversions.{made, over, is_same, as_type, is_null, is_complete}
use Rattle.dm_typing.specs.Rules.{assignable_to, is_assignable, pointer_assignable, keeps_const, put_before, passed, called, may_be_cast, may_become_pointer}
use Rattle.dm_typing.specs.Typing.{is_name, is_function_label, typed_call, typed_cast, typed_sizeof_name}
use Rattle.dm_typing.specs.Sound.{IsProper, AreProper, scene_of, IsSound, IsSoundValue, AreSound, AreConstants, Gives}
use Rattle.dm_typing.proofs.TypeLemmas.{both-hold, same-types}
use Rattle.dm_typing.proofs.ConversionLemmas.{IsOf, obeyed, given-if, bare-again, bare-proper, converted-fits, convertible-back, null-becomes}

pub one-of : (one other : Bool) → (one || other) ≡ true → (one ≡ true) ⊎ (other ≡ true)
one-of true other h = inl refl
one-of false other h = inr h

-- ---- assignment

pointer-becomes : (known : Known) (tree : Tree) (to from : CType) → target (kind_of tree) ≡ Some from
    → ((are_alike to from || is_void (bare to) || is_void (bare from)) ≡ true) ⊎ (is_null known tree ≡ true)
    → BecomesPointer (scene_of known) tree to (target (kind_of tree))
pointer-becomes known tree to from p by =
    ⊎_elim (λ h. subst (BecomesPointer (scene_of known) tree to) (sym p) (convertible-back to from h)) (λ h. null-becomes known tree to h) by

assigned-pointer : (known : Known) (tree : Tree) (to : CType) → pointer_assignable known tree to (target (kind_of tree)) ≡ true
    → BecomesPointer (scene_of known) tree to (target (kind_of tree))
assigned-pointer known tree to h = go (target (kind_of tree)) refl h
  where
    go : (found : Option CType) → target (kind_of tree) ≡ found → pointer_assignable known tree to found ≡ true
        → BecomesPointer (scene_of known) tree to (target (kind_of tree))
    go (Some from) p h =
        pointer-becomes known tree to from p
        (⊎_elim (λ both. inl ((both-hold (are_alike to from || is_void (bare to) || is_void (bare from)) (keeps_const to from) both).0)) (λ null. inr null)
        (one-of ((are_alike to from || is_void (bare to) || is_void (bare from)) && keeps_const to from) (is_null known tree) h))
    go None p h = null-becomes known tree to h

-- a value that may be assigned becomes such a type, or has it
assigned-becomes : (known : Known) (tree : Tree) (type : CType) → assignable_to known tree type ≡ true
    → Becomes (scene_of known) tree type ⊎ (is_same (kind_of tree) type ≡ true)
assigned-becomes known tree (integer k.Bool) h = inl h
assigned-becomes known tree (integer kind) h = inl h
assigned-becomes known tree (pointer to) h = inl (assigned-pointer known tree to h)
assigned-becomes known tree (struct at) h = inr h
assigned-becomes known tree type h = absurd (cc)

stays : (known : Known) (type : CType) (tree : Tree) → IsSoundValue known tree → (test : Bool) → is_same (kind_of tree) (bare type) ≡ test → test ≡ true
    → IsOf known (bare type) (if test then tree else over label.convert (bare type) tree)
stays known type tree sound true e h = (sound, same-types (kind_of tree) (bare type) e)
stays known type tree sound false e h = absurd (cc)

pub assigned-fits : (known : Known) (type : CType) (tree : Tree) → IsSoundValue known tree → IsProper type → is_assignable known tree type ≡ true
    → IsOf known (bare type) (as_type type tree)
assigned-fits known type tree sound proper h =
    ⊎_elim (λ becomes. converted-fits known type tree sound proper becomes)
    (λ same. stays known type tree sound (is_same (kind_of tree) (bare type)) refl same)
    (assigned-becomes known tree (bare type) h)

-- ---- calls

sound-trees : (known : Known) (all : List Tree) → AreSound known all → AreWellTyped (scene_of known) (trees all)
sound-trees known [] sound = tt
sound-trees known (first ∷ rest) sound = (sound.0.3, sound-trees known rest sound.1)

AreFitting : Known → CTypes → List Tree → Type 0
AreFitting known types all = FitParameters all types × AreSound known all

passed-fits : (known : Known) (values : List Tree) (types : CTypes) (all : List Tree) → AreSound known values → AreProper types
    → passed known values types ≡ Some all → AreFitting known types all
unfolding AreFitting
passed-fits known [] no_types all sound proper h = let same : [] ≡ all = cc in subst (AreFitting known no_types) same (tt, tt)
passed-fits known (value ∷ values) (more_types type types) all sound proper h =
    go (λ rest e. passed-fits known values types rest sound.1 proper.1 e) (is_assignable known value type) refl (passed known values types) refl h
  where
    go : ((rest : List Tree) → passed known values types ≡ Some rest → AreFitting known types rest) → (test : Bool) → is_assignable known value type ≡ test → (found : Option (List Tree)) → passed known values types ≡ found
        → (if test then put_before (as_type type value) found else None) ≡ Some all → AreFitting known (more_types type types) all
    go rest-fits true e (Some rest) p h =
        let same : (as_type type value ∷ rest) ≡ all = cc in
        let one = assigned-fits known type value sound.0 proper.0 e in
        let others = rest-fits rest p in
        subst (AreFitting known (more_types type types)) same ((one.0.0, one.1, others.0), (one.0, others.1))
    go rest-fits true e None p h = absurd (cc)
    go rest-fits false e found p h = absurd (cc)
passed-fits known values types all sound proper h = absurd (cc)

module _ (setting : Setting) (known : Known) (span : Extent) where
  IsCall : CType → Tree → CType × List Tree → Type 0
  IsCall type tree one = FitsCall type one.1 one.0 × AreSound known one.1 × (one.0 ≡ bare one.0) × IsProper one.0

  called-fits : (type : CType) (tree : Tree) (values : List Tree) (one : CType × List Tree) → IsProper type → AreSound known values
      → called known type values ≡ Some one → IsCall type tree one
  unfolding IsCall AreFitting
  called-fits (function_type result parameters) tree values one proper sound h = go (passed known values parameters) refl h
    where
      go : (found : Option (List Tree)) → passed known values parameters ≡ found → option_map (λ list. (bare result, list)) found ≡ Some one
          → IsCall (function_type result parameters) tree one
      go (Some all) p h =
          let same : (bare result, all) ≡ one = cc in
          let fits = passed-fits known values parameters all sound proper.1 p in
          subst (IsCall (function_type result parameters) tree) same ((fits.0, refl), fits.1, sym (bare-again result proper.0), bare-proper result proper.0)
      go None p h = absurd (cc)
  called-fits type tree values one proper sound h = absurd (cc)

  call-sound : (tree : Tree) (values : List Tree) (one : CType × List Tree) → is_function_label (label_of tree) ≡ true → IsSound known tree → AreSound known values
      → called known (kind_of tree) values ≡ Some one → IsSoundValue known (made setting.source span label.call one.0 (tree ∷ one.1))
  unfolding IsCall
  call-sound (node (label.function at) type spans no_trees) values one f sound all h =
      let fits = called-fits type (node (label.function at) type spans no_trees) values one sound.2 all h in (
        refl,
        fits.2,
        fits.3,
        (subst (λ arguments. FitsCall type arguments one.0) (sym (listed-trees one.1)) fits.0, (sound.3, sound-trees known one.1 fits.1)),
      )
  call-sound (node (label.function at) type spans (more_trees first rest)) values one f sound all h = absurd (sound.3.0)
  call-sound tree values one f sound all h = absurd (cc)

  pub call-gives : (callee : Expr) (tree : Tree) (values : List Tree) → IsSound known tree → AreSound known values
      → Gives known IsSoundValue (typed_call setting known span callee tree values)
  call-gives callee tree values sound all =
      obeyed known IsSoundValue (is_name callee && is_function_label (label_of tree)) 10 span.inner.first _
      (λ h. given-if known IsSoundValue (called known (kind_of tree) values) 10 span.inner.first _
      (λ one e. (refl, call-sound tree values one ((both-hold (is_name callee) (is_function_label (label_of tree)) h).1) sound all e)))

  -- ---- casts

  cast-pointer : (tree : Tree) (to : CType) → may_become_pointer known tree to (target (kind_of tree)) ≡ true
      → BecomesPointer (scene_of known) tree to (target (kind_of tree))
  cast-pointer tree to h = go (target (kind_of tree)) refl h
    where
      go : (found : Option CType) → target (kind_of tree) ≡ found → may_become_pointer known tree to found ≡ true
          → BecomesPointer (scene_of known) tree to (target (kind_of tree))
      go (Some from) p h = pointer-becomes known tree to from p (one-of (are_alike to from || is_void (bare to) || is_void (bare from)) (is_null known tree) h)
      go None p h = null-becomes known tree to h

  cast-becomes : (tree : Tree) (type : CType) → may_be_cast known tree type ≡ true → Becomes (scene_of known) tree type
  cast-becomes tree void h = tt
  cast-becomes tree (integer k.Bool) h = h
  cast-becomes tree (integer kind) h = h
  cast-becomes tree (pointer to) h = cast-pointer tree to h
  cast-becomes tree type h = absurd (cc)

  pub cast-gives : (type : CType) (lengths : List Tree) (operand : Tree) → type ≡ bare type → IsProper type → AreConstants known lengths → IsSoundValue known operand
      → Gives known IsSoundValue (typed_cast setting known span type lengths operand)
  cast-gives type lengths operand plain proper constants sound =
      obeyed known IsSoundValue (may_be_cast known operand type) 18 span.inner.first _
      (λ h. (
        refl,
        (
          refl,
          plain,
          proper,
          ((sound.0, cast-becomes operand type h, subst (All (IsConstant (scene_of known))) (sym (listed-trees lengths)) constants.0), (sound.3, constants.1)),
        ),
      ))

  pub sizeof-name-gives : (type : CType) (lengths : List Tree) → AreConstants known lengths → Gives known IsSoundValue (typed_sizeof_name setting known span type lengths)
  sizeof-name-gives type lengths constants =
      obeyed known IsSoundValue (is_complete known type) 17 span.inner.first _
      (λ h. (refl, (refl, refl, tt, ((h, subst (All (IsConstant (scene_of known))) (sym (listed-trees lengths)) constants.0, refl), constants.1))))
