-- Conversions of values that are well typed, and null pointer constants.
use Rattle.std.specs.Prelude.{◌≡◌, ℕ, zero, suc, ℤ, pos, negsuc, int_le, Bool, true, false, ◌||◌, not, if◌then◌else◌, [], Option, Some, None, is_some, option_and_then, refl, All}
use Rattle.std.proofs.Common.{sym, ap, ◌∙◌, subst, arith, not-suc-le-zero}
use Rattle.dm_int.specs.declared.Kind.{Kind}
use Rattle.dm_int.specs.declared.Kind.TheVariants as k
use Rattle.dm_type.specs.CTypes.{CType, void, integer, pointer, const, bare, is_const}
use Rattle.dm_type.specs.Layouts.{size_of}
use Rattle.dm_tree.specs.Constants.{integer_kind, kind_if_integer, constant_value, is_constant_form, is_constant_part, constant_forms}
use Rattle.dm_tree.specs.Trees.{Tree, convert as conversion, node, more_trees, kind_of}
use Rattle.dm_tree.specs.Scenes.{target, if_pointer, is_integer, is_pointer, is_void, is_array, are_alike, IsConstant}
use Rattle.dm_tree.specs.Operands.{Becomes, BecomesPointer, are_convertible}
use Rattle.dm_typing.specs.Known.{Known, Outcome, obeys, if_given}
use Rattle.dm_typing.specs.Conversions.{is_same, over, as_type, as_kind, is_zero, is_zero_value, is_null, constant_of, if_complete, complete_target}
use Rattle.dm_typing.specs.Rules.{points_to_complete}
use Rattle.dm_typing.specs.Sound.{IsProper, scene_of, IsSoundValue, Gives}
use Rattle.dm_typing.proofs.TypeLemmas.{both-hold, same-types, compatible-back}

-- ---- tests

pub or-left : (one other : Bool) → one ≡ true → (one || other) ≡ true
or-left true other h = refl
or-left false other h = absurd (cc)

pub or-right : (one other : Bool) → other ≡ true → (one || other) ≡ true
or-right true other h = refl
or-right false other h = h

-- ---- what is given

pub obeyed : (known : Known) (P : Known → Tree → Type 0) (test : Bool) (rule at : ℕ) (next : Outcome Tree)
    → (test ≡ true → Gives known P next) → Gives known P (obeys test rule at next)
obeyed known P true rule at next h = h refl
obeyed known P false rule at next h = tt

pub given-if : {A : Type 0} (known : Known) (P : Known → Tree → Type 0) (found : Option A) (rule at : ℕ) (next : A → Outcome Tree)
    → ((it : A) → found ≡ Some it → Gives known P (next it)) → Gives known P (if_given found rule at next)
given-if known P (Some it) rule at next h = h it refl
given-if known P None rule at next h = tt

-- ---- types

not-const : (type : CType) → not (is_const type || is_array type) ≡ true → bare type ≡ type
not-const (const type) h = absurd (cc)
not-const type h = refl

pub bare-again : (type : CType) → IsProper type → bare (bare type) ≡ bare type
bare-again (const type) p = not-const type p.0
bare-again type p = refl

pub bare-proper : (type : CType) → IsProper type → IsProper (bare type)
bare-proper (const type) p = p.1
bare-proper type p = p

pointer-of : (type to : CType) → if_pointer type ≡ Some to → type ≡ pointer to
pointer-of (pointer a) to h = ap pointer (inside a to h)
  where
    inside : (a b : CType) → Some a ≡ Some b → a ≡ b
    inside a b h = cc
pointer-of type to h = absurd (cc)

integer-of : (type : CType) → is_some (kind_if_integer type) ≡ true → (kind : Kind) × (type ≡ integer kind)
integer-of (integer kind) h = (kind, refl)
integer-of type h = absurd (cc)

pub no-pointer : (type : CType) → is_some (kind_if_integer type) ≡ true → if_pointer type ≡ None
no-pointer (integer kind) h = refl
no-pointer type h = absurd (cc)

-- the type of a value that is an integer, and of one that is a pointer
pub integer-value : (type : CType) → type ≡ bare type → is_integer type ≡ true → (kind : Kind) × (type ≡ integer kind)
integer-value type e h = let one = integer-of (bare type) h in (one.0, e ∙ one.1)

pub pointer-value : (type to : CType) → type ≡ bare type → target type ≡ Some to → type ≡ pointer to
pointer-value type to e h = e ∙ pointer-of (bare type) to h

pub some-type : (found : Option CType) → is_some found ≡ true → (to : CType) × (found ≡ Some to)
some-type (Some to) h = (to, refl)
some-type None h = absurd (cc)

complete-if : (known : Known) (type to : CType) → (if is_some (size_of known.types type) then Some type else None) ≡ Some to
    → (type ≡ to) × (is_some (size_of known.types type) ≡ true)
complete-if known type to h = go (is_some (size_of known.types type)) refl h
  where
    go : (test : Bool) → is_some (size_of known.types type) ≡ test → (if test then Some type else None) ≡ Some to → (type ≡ to) × (is_some (size_of known.types type) ≡ true)
    go true e h = (cc, e)
    go false e h = absurd (cc)

complete-in : (known : Known) (found : Option CType) (to : CType) → option_and_then (if_complete known) found ≡ Some to
    → (found ≡ Some to) × (is_some (size_of known.types to) ≡ true)
complete-in known (Some type) to h =
    let parts = complete-if known type to h in (ap Some parts.0, subst (λ one. is_some (size_of known.types one) ≡ true) parts.0 parts.1)
complete-in known None to h = absurd (cc)

-- what a pointer to a complete type points to
pub complete-of : (known : Known) (type to : CType) → complete_target known type ≡ Some to → (target type ≡ Some to) × (is_some (size_of known.types to) ≡ true)
complete-of known type to h = complete-in known (target type) to h

pub complete-pointer : (known : Known) (type : CType) → type ≡ bare type → points_to_complete known type ≡ true
    → (to : CType) × (type ≡ pointer to) × (is_some (size_of known.types to) ≡ true)
complete-pointer known type e h =
    let one = some-type (complete_target known type) h in
    let parts = complete-of known type one.0 one.1 in
    (one.0, pointer-value type one.0 e parts.0, parts.1)

-- ---- null pointer constants

not-below : (n : ℕ) → int_le (pos (suc n)) (pos 0) ≡ true → ⊥
not-below n h = grind arith

pub zero-value : (value : Option ℤ) → is_zero_value value ≡ true → value ≡ Some (pos 0)
zero-value (Some (pos zero)) h = refl
zero-value (Some (pos (suc n))) h = absurd (not-below n (both-hold (int_le (pos (suc n)) (pos 0)) (int_le (pos 0) (pos (suc n))) h).0)
zero-value (Some (negsuc n)) h = absurd (cc)
zero-value None h = absurd (cc)

pub formed : (test : Bool) (value : Option ℤ) (it : ℤ) → (if test then value else None) ≡ Some it → test ≡ true
formed true value it h = refl
formed false value it h = absurd (cc)

pub constant-integer : (tree : Tree) → is_constant_form tree ≡ true → is_integer (kind_of tree) ≡ true
constant-integer (node label kind spans parts) h = (both-hold (is_some (integer_kind kind)) (is_constant_part label (constant_forms parts)) h).0

zero-becomes : (known : Known) (tree : Tree) (to : CType) → is_zero known tree ≡ true → BecomesPointer (scene_of known) tree to (target (kind_of tree))
zero-becomes known tree to h =
    let value = zero-value (constant_of known tree) h in
    let form = formed (is_constant_form tree) (constant_value known.types known.declared tree) (pos 0) value in
    subst (BecomesPointer (scene_of known) tree to) (sym (no-pointer (bare (kind_of tree)) (constant-integer tree form))) value

-- a null pointer constant becomes a pointer to anything
pub null-becomes : (known : Known) (tree : Tree) (to : CType) → is_null known tree ≡ true → BecomesPointer (scene_of known) tree to (target (kind_of tree))
null-becomes known (node conversion (pointer void) spans (more_trees operand lengths)) to h = or-left (are_alike void to || true) (is_void (bare to)) (or-right (are_alike void to) true refl)
null-becomes known tree to h = zero-becomes known tree to h

-- ---- conversions

pub integer-becomes : (known : Known) (tree : Tree) (kind : Kind) → is_integer (kind_of tree) ≡ true → Becomes (scene_of known) tree (integer kind)
integer-becomes known tree k.Bool h = or-left (is_integer (kind_of tree)) (is_pointer (kind_of tree)) h
integer-becomes known tree kind h = h

all-of-none : (known : Known) → All (IsConstant (scene_of known)) []
all-of-none known at one h = absurd (not-suc-le-zero h)

-- a value of a type, well typed
abbrev pub IsOf : Known → CType → Tree → Type 0
IsOf known type tree = IsSoundValue known tree × (kind_of tree ≡ type)

pub converted-fits : (known : Known) (kind : CType) (tree : Tree) → IsSoundValue known tree → IsProper kind → Becomes (scene_of known) tree (bare kind)
    → IsOf known (bare kind) (as_type kind tree)
converted-fits known kind tree sound proper becomes = go (is_same (kind_of tree) (bare kind)) refl
  where
    go : (test : Bool) → is_same (kind_of tree) (bare kind) ≡ test → IsOf known (bare kind) (if test then tree else over conversion (bare kind) tree)
    go true e = (sound, same-types (kind_of tree) (bare kind) e)
    go false e = ((refl, sym (bare-again kind proper), bare-proper kind proper, ((sound.0, becomes, all-of-none known), (sound.3, tt))), refl)

pub as-kind-fits : (known : Known) (kind : Kind) (tree : Tree) → IsSoundValue known tree → is_integer (kind_of tree) ≡ true → IsOf known (integer kind) (as_kind kind tree)
as-kind-fits known kind tree sound whole = converted-fits known (integer kind) tree sound tt (integer-becomes known tree kind whole)

three : (one other first second : Bool) → (one ≡ true → other ≡ true) → (one || first || second) ≡ true → (other || second || first) ≡ true
three true other first second by h = or-left (other || second) first (or-left other second (by refl))
three false other true second by h = or-right (other || second) true refl
three false other false true by h = or-left (other || true) false (or-right other true refl)
three false other false false by h = absurd (cc)

pub convertible-back : (to from : CType) → (are_alike to from || is_void (bare to) || is_void (bare from)) ≡ true → are_convertible from to ≡ true
convertible-back to from h =
    three (are_alike to from) (are_alike from to) (is_void (bare to)) (is_void (bare from)) (compatible-back (bare to) (bare from)) h
