-- The conditional operator, as the code types it.
use Rattle.std.specs.Prelude.{◌≡◌, ℕ, ◌==◌, Bool, true, false, ◌||◌, if◌then◌else◌, List, [], Option, Some, None, option_map, refl}
use Rattle.std.proofs.Common.{sym, ap, ◌∙◌}
use Rattle.dm_int.specs.declared.Kind.{Kind}
use Rattle.dm_type.specs.declared.shape.Shape.{Shape}
use Rattle.dm_type.specs.Alike.{composite}
use Rattle.dm_type.specs.CTypes.{CType, void, pointer, struct, bare, is_const}
use Rattle.dm_type.specs.Tables.{Table, type_of, IsId}
use Rattle.dm_tree.specs.declared.tree.Core.{Core, out-Core}
use Rattle.dm_tree.specs.Constants.{integer_kind}
use Rattle.dm_tree.specs.Scenes.{target, is_void, are_alike}
use Rattle.dm_tree.specs.Trees.{Tree, kind_of}
use Rattle.dm_typing.specs.declared.known.Known.{Known as Held}
use Rattle.dm_typing.specs.Conversions.{as_type, is_same, is_null}
use Rattle.dm_typing.specs.Fitting.{IsNumbered}
use Rattle.dm_typing.specs.Known.{Known, Outcome, obeys, if_given}
use Rattle.dm_typing.specs.Rules.{pair, both_as, with_const_if, pointer_arms, arms_by_targets, arms_of_types, arms_of_kinds, arms}
use Rattle.dm_typing.specs.Views.{Begins, type_over, view_over, known_over}
use Rattle.dm_ebinary.specs.declared.ways.Sides.{Sides}
use Rattle.dm_ebinary.specs.Arms.{same_plainly, by_plainness, kind_of_types, by_sides, arms_kind}
use Rattle.dm_ebinary.specs.Pairs.{both_kinds}
use Rattle.dm_typing.proofs.KindLemmas.{same-numbers}
use Rattle.dm_typing.proofs.LaterLemmas.{type-later}
use Rattle.dm_typing.proofs.ValueLemmas.{converts-not, kind-later, kind-view, same-itself}
use Rattle.dm_ebinary.proofs.BinaryLemmas.{types-alone}

-- ---- both arms are converted to one type

-- a struct is what it is
stays-struct : (tree : Tree) (n : ℕ) → kind_of tree ≡ struct n → as_type (struct n) tree ≡ tree
stays-struct tree n h = converts-not (struct n) tree (ap (λ t. is_same t (struct n)) h ∙ same-itself (struct n))

one-struct : (a b : Tree) (m n : ℕ) → kind_of a ≡ struct m → kind_of b ≡ struct n → (same : Bool) → (m == n) ≡ same
    → (if same then Some (pair a b (struct m)) else None) ≡ option_map (both_as a b) (if same then Some (kind_of a) else None)
one-struct a b m n p q false h = refl
one-struct a b m n p q true h =
    let e : m ≡ n = same-numbers m n h in
    sym (ap (λ t. Some (both_as a b t)) p
    ∙ ap (λ t. Some (pair t (as_type (struct m) b) (struct m))) (stays-struct a m p)
    ∙ ap (λ t. Some (pair a t (struct m))) (stays-struct b m (q ∙ ap struct (sym e))))

types-decide : (known : Known) (a b : Tree) (left right : CType) → kind_of a ≡ left → kind_of b ≡ right
    → arms_of_types known a b left right ≡ option_map (both_as a b) (by_plainness known a b (same_plainly left right))
types-decide known a b void void p q = ap (λ t. Some (both_as a b t)) (sym p)
types-decide known a b (struct m) (struct n) p q = one-struct a b m n p q (m == n) refl
types-decide known a b left right p q =
    ap (λ t. option_map (both_as a b) (arms_by_targets known a b (target t) (target right))) (sym p)
    ∙ ap (λ t. option_map (both_as a b) (arms_by_targets known a b (target (kind_of a)) (target t))) (sym q)

kinds-decide : (known : Known) (a b : Tree) (left right : Option Kind)
    → arms_of_kinds known a b left right ≡ option_map (both_as a b) (by_sides known a b (both_kinds left right))
kinds-decide known a b (Some left) (Some right) = refl
kinds-decide known a b (Some left) None = types-decide known a b (kind_of a) (kind_of b) refl refl
kinds-decide known a b None (Some right) = types-decide known a b (kind_of a) (kind_of b) refl refl
kinds-decide known a b None None = types-decide known a b (kind_of a) (kind_of b) refl refl

pub arms-by-kind : (known : Known) (a b : Tree) → arms known a b ≡ option_map (both_as a b) (arms_kind known a b)
arms-by-kind known a b = kinds-decide known a b (integer_kind (kind_of a)) (integer_kind (kind_of b))

-- a test before what is found breaks the same rule
pub tested-first : {A B : Type 0} (test : Bool) (found : Option A) (rule at : ℕ) (next : A → Outcome B)
    → obeys test rule at (if_given found rule at next) ≡ if_given (if test then found else None) rule at next
tested-first true found rule at next = refl
tested-first false found rule at next = refl

-- ---- what the code finds, whatever numbers come

-- a type where a test holds
pub type-if : (later : List Shape) (core : Core) (test : Bool) (found : Option ℕ) → found ≡ (if test then Some (out-Core core).kind else None)
    → option_map (type_over later) found ≡ (if test then Some (kind_of (view_over later core)) else None)
type-if later core test found h = ap (option_map (type_over later)) h ∙ go test
  where
    go : (test : Bool) → option_map (type_over later) (if test then Some (out-Core core).kind else None) ≡ (if test then Some (kind_of (view_over later core)) else None)
    go true = ap Some (sym (kind-view (record { shapes = later; structs = [] }) core))
    go false = refl

-- what is found of two numbered types
pub numbers-later : {X : Type 0} (found : CType → CType → X) (table : Table) (later : List Shape) (a b : ℕ) → Begins table.shapes later → IsId table a → IsId table b
    → found (type_over later a) (type_over later b) ≡ found (type_of table a) (type_of table b)
numbers-later found table later a b begins left right =
    ap (λ t. found t (type_over later b)) (type-later table.shapes later a begins left) ∙ ap (found (type_of table a)) (type-later table.shapes later b begins right)

module _ (held : Held) (later : List Shape) (a b : Core) (begins : Begins held.types.shapes later) (left : IsNumbered held.types a) (right : IsNumbered held.types b) where
  abbrev one : Tree
  one = view_over later a

  abbrev other : Tree
  other = view_over later b

  abbrev now : Known
  now = known_over later held

  pub sides-later : (found : Option Sides) → found ≡ both_kinds (integer_kind (type_of held.types (out-Core a).kind)) (integer_kind (type_of held.types (out-Core b).kind))
      → by_sides now one other found ≡ arms_kind now one other
  sides-later found is = ap (by_sides now one other) (is ∙ sym (types-alone (λ s t. both_kinds (integer_kind s) (integer_kind t)) held later a b begins left right))

  pub plainness-later : (found : Option Bool) → found ≡ same_plainly (type_of held.types (out-Core a).kind) (type_of held.types (out-Core b).kind)
      → by_plainness now one other found ≡ kind_of_types now one other
  plainness-later found is = ap (by_plainness now one other) (is ∙ sym (types-alone same_plainly held later a b begins left right))

  -- what both arms point to
  pub targets-later : (to from : Option CType) → to ≡ target (type_of held.types (out-Core a).kind) → from ≡ target (type_of held.types (out-Core b).kind)
      → arms_by_targets now one other to from ≡ by_plainness now one other None
  targets-later to from p q =
      ap (λ t. arms_by_targets now one other t from) (p ∙ sym (ap target (kind-later held.types.shapes later a begins left)))
      ∙ ap (arms_by_targets now one other (target (kind_of one))) (q ∙ sym (ap target (kind-later held.types.shapes later b begins right)))

  -- ---- two pointers

  module _ (to from : ℕ) (within : IsId held.types to) (inside : IsId held.types from) where
    abbrev constant : Bool
    constant = is_const (type_over later to) || is_const (type_over later from)

    abbrev whole : CType
    whole = pointer (with_const_if constant (composite (bare (type_over later to)) (bare (type_over later from))))

    abbrev plain : CType
    plain = pointer (with_const_if constant void)

    abbrev first_of : Bool → Bool → Bool → Bool → Option CType
    first_of alike right_null left_null one_void =
        if alike then Some whole else if right_null then Some (kind_of one) else if left_null then Some (kind_of other) else if one_void then Some plain else None

    abbrev one_void : Bool
    one_void = is_void (bare (type_over later to)) || is_void (bare (type_over later from))

    step-alike : (alike : Bool) → alike ≡ are_alike (type_of held.types to) (type_of held.types from)
        → pointer_arms now one other (type_over later to) (type_over later from) ≡ first_of alike (is_null now other) (is_null now one) one_void
    step-alike alike h =
        ap (λ t. first_of t (is_null now other) (is_null now one) one_void) (numbers-later are_alike held.types later to from begins within inside ∙ sym h)

    pub pointers-alike : true ≡ are_alike (type_of held.types to) (type_of held.types from) → Some whole ≡ pointer_arms now one other (type_over later to) (type_over later from)
    pointers-alike h = sym (step-alike true h)

    module _ (unlike : false ≡ are_alike (type_of held.types to) (type_of held.types from)) where
      pub pointers-right : true ≡ is_null now other → Some (type_over later (out-Core a).kind) ≡ pointer_arms now one other (type_over later to) (type_over later from)
      pointers-right h =
          ap Some (sym (kind-view (record { shapes = later; structs = [] }) a))
          ∙ sym (step-alike false unlike ∙ ap (λ t. first_of false t (is_null now one) one_void) (sym h))

      module _ (no_right : false ≡ is_null now other) where
        pub pointers-left : true ≡ is_null now one → Some (type_over later (out-Core b).kind) ≡ pointer_arms now one other (type_over later to) (type_over later from)
        pointers-left h =
            ap Some (sym (kind-view (record { shapes = later; structs = [] }) b))
            ∙ sym (step-alike false unlike ∙ ap (λ t. first_of false t (is_null now one) one_void) (sym no_right) ∙ ap (λ t. first_of false false t one_void) (sym h))

        module _ (no_left : false ≡ is_null now one) where
          step-null : (test : Bool) → test ≡ (is_void (bare (type_of held.types to)) || is_void (bare (type_of held.types from)))
              → pointer_arms now one other (type_over later to) (type_over later from) ≡ first_of false false false test
          step-null test h =
              step-alike false unlike ∙ ap (λ t. first_of false t (is_null now one) one_void) (sym no_right) ∙ ap (λ t. first_of false false t one_void) (sym no_left)
              ∙ ap (first_of false false false) (numbers-later (λ s t. is_void (bare s) || is_void (bare t)) held.types later to from begins within inside ∙ sym h)

          pub pointers-void : true ≡ (is_void (bare (type_of held.types to)) || is_void (bare (type_of held.types from)))
              → Some plain ≡ pointer_arms now one other (type_over later to) (type_over later from)
          pointers-void h = sym (step-null true h)

          pub pointers-never : false ≡ (is_void (bare (type_of held.types to)) || is_void (bare (type_of held.types from)))
              → None ≡ pointer_arms now one other (type_over later to) (type_over later from)
          pointers-never h = sym (step-null false h)
