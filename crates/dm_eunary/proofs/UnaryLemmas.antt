-- Operators of one operand, from what the code finds to what the rules say.
use Rattle.std.specs.Prelude.{◌≡◌, ◌≢◌, ℕ, Bool, true, false, not, ◌&&◌, ◌||◌, if◌then◌else◌, is_some, List, [], ◌∷◌, Option, Some, None, option_map, refl}
use Rattle.std.proofs.Common.{sym, ap, ap₂, ◌∙◌}
use Rattle.dm_int.specs.declared.Kind.{Kind}
use Rattle.dm_int.specs.declared.Kind.TheVariants as k
use Rattle.dm_int.specs.Kinds.{promote}
use Rattle.dm_type.specs.declared.shape.Shape.{Shape}
use Rattle.dm_type.specs.CTypes.{CType, integer}
use Rattle.dm_type.specs.Tables.{type_of, IsId}
use Rattle.dm_syn.specs.declared.symbol.Symbol.{Symbol}
use Rattle.dm_syn.specs.declared.symbol.Symbol.TheVariants as symbol
use Rattle.dm_tree.specs.declared.tree.Core.{Core, out-Core}
use Rattle.dm_tree.specs.declared.tree.Sign.{Sign}
use Rattle.dm_tree.specs.declared.tree.Sign.TheVariants as s
use Rattle.dm_tree.specs.Constants.{integer_kind}
use Rattle.dm_tree.specs.Operands.{are_convertible}
use Rattle.dm_tree.specs.Scenes.{is_lvalue, is_array, is_integer, is_scalar, target}
use Rattle.dm_tree.specs.Trees as label
use Rattle.dm_tree.specs.Trees.{Tree, kind_of}
use Rattle.dm_typing.specs.declared.extent.Extent.{Extent}
use Rattle.dm_typing.specs.declared.known.Known.{Known as Held}
use Rattle.dm_typing.specs.Known.{Known, Setting, Outcome, given, broken, if_given}
use Rattle.dm_typing.specs.Conversions.{made, as_value, is_complete, has_const, promoted, is_null}
use Rattle.dm_typing.specs.Fitting.{IsNumbered}
use Rattle.dm_typing.specs.Rules.{is_modifiable, points_to_complete, may_be_cast, may_become_pointer, signed, signed_integer}
use Rattle.dm_typing.specs.Typing.{typed_prefix, typed_sign}
use Rattle.dm_eunary.specs.Unary.{typed_by_sign, is_whole_object, may_be_integer}
use Rattle.dm_typing.specs.Views.{Begins, type_over, view_over, known_over, seen}
use Rattle.dm_typing.proofs.GivesLemmas.{complete-alone, complete-later}
use Rattle.dm_typing.proofs.LaterLemmas.{type-later}
use Rattle.dm_typing.proofs.ValueLemmas.{kind-later}

-- ---- C16

other-sign : (sign : Sign) (tree : Tree) → sign ≢ s.Not → signed sign tree ≡ option_map (signed_integer tree) (integer_kind (kind_of tree))
other-sign s.Plus tree never = refl
other-sign s.Minus tree never = refl
other-sign s.Complement tree never = refl
other-sign s.Not tree never = absurd (never refl)

module _ (setting : Setting) (known : Known) (extent : Extent) (tree : Tree) where
  -- what a sign gives
  abbrev on : Sign → Option (Tree × CType) → Outcome Tree
  on sign found = if_given found 16 extent.inner.first (λ (converted, kind). given known (made setting.source extent (label.unary sign) kind (converted ∷ [])))

  pub not-scalar : is_scalar (kind_of tree) ≡ false → typed_by_sign setting known extent tree s.Not ≡ broken 16 extent.inner.first
  not-scalar is = ap (λ b. on s.Not (if b then Some (tree, integer k.Int) else None)) is

  pub not-of : is_scalar (kind_of tree) ≡ true → typed_by_sign setting known extent tree s.Not ≡ given known (made setting.source extent (label.unary s.Not) (integer k.Int) (tree ∷ []))
  not-of is = ap (λ b. on s.Not (if b then Some (tree, integer k.Int) else None)) is

  pub sign-other : (sign : Sign) → sign ≢ s.Not → integer_kind (kind_of tree) ≡ None → typed_by_sign setting known extent tree sign ≡ broken 16 extent.inner.first
  sign-other sign never is = ap (on sign) (other-sign sign tree never ∙ ap (option_map (signed_integer tree)) is)

  pub sign-of : (sign : Sign) (kind : Kind) → sign ≢ s.Not → integer_kind (kind_of tree) ≡ Some kind
      → typed_by_sign setting known extent tree sign ≡ given known (made setting.source extent (label.unary sign) (integer (promote kind)) (promoted kind tree ∷ []))
  sign-of sign kind never is = ap (on sign) (other-sign sign tree never ∙ ap (option_map (signed_integer tree)) is)

-- the other prefix operators are signs
pub other-symbol : (setting : Setting) (known : Known) (extent : Extent) (operator : ℕ) (tree : Tree) (it : Symbol) → it ≢ symbol.Increment → it ≢ symbol.Ampersand → it ≢ symbol.Star
    → typed_prefix setting known extent operator tree it ≡ typed_sign setting known extent operator (as_value tree)
other-symbol setting known extent operator tree symbol.Increment one two three = absurd (one refl)
other-symbol setting known extent operator tree symbol.Ampersand one two three = absurd (two refl)
other-symbol setting known extent operator tree symbol.Star one two three = absurd (three refl)
other-symbol setting known extent operator tree _ one two three = refl

-- ---- C13

and-four : (a b c d : Bool) → ((a && (b && c)) && d) ≡ (a && b && c && d)
and-four true true c d = refl
and-four true false c d = refl
and-four false b c d = refl

pub and-true : (one other : Bool) → other ≡ true → one ≡ (one && other)
and-true true other h = sym h
and-true false other h = refl

pub modifiable-is : (known : Known) (tree : Tree) → (is_whole_object known tree && not (has_const known.types (kind_of tree))) ≡ is_modifiable known tree
modifiable-is known tree = and-four (is_lvalue tree) (not (is_array (kind_of tree))) (is_complete known (kind_of tree)) (not (has_const known.types (kind_of tree)))

pub whole-later : (held : Held) (later : List Shape) (core : Core) → Begins held.types.shapes later → IsNumbered held.types core
    → (not (is_array (type_of held.types (out-Core core).kind)) && is_complete (seen held) (type_of held.types (out-Core core).kind))
    ≡ (not (is_array (kind_of (view_over later core))) && is_complete (known_over later held) (kind_of (view_over later core)))
whole-later held later core begins known =
    sym (ap (λ t. not (is_array t) && is_complete (known_over later held) t) (kind-later held.types.shapes later core begins known)
    ∙ ap (λ b. not (is_array (type_of held.types (out-Core core).kind)) && b) (complete-later later held (type_of held.types (out-Core core).kind) (type_of held.types (out-Core core).kind) refl))

pub countable-later : (held : Held) (later : List Shape) (core : Core) → Begins held.types.shapes later → IsNumbered held.types core
    → (is_integer (type_of held.types (out-Core core).kind) || points_to_complete (seen held) (type_of held.types (out-Core core).kind))
    ≡ (is_integer (kind_of (view_over later core)) || points_to_complete (known_over later held) (kind_of (view_over later core)))
countable-later held later core begins known =
    sym (ap (λ t. is_integer t || points_to_complete (known_over later held) t) (kind-later held.types.shapes later core begins known)
    ∙ ap (λ o. is_integer (type_of held.types (out-Core core).kind) || is_some o) (complete-alone later held (type_of held.types (out-Core core).kind)))

-- ---- C18

pub cast-integer : (known : Known) (tree : Tree) (kind : Kind) → may_be_integer (kind_of tree) kind ≡ may_be_cast known tree (integer kind)
cast-integer known tree k.Bool = refl
cast-integer known tree kind = refl

-- a value becomes a pointer by what it points to itself
pub becomes-some : (held : Held) (later : List Shape) (core : Core) (to from : ℕ) → Begins held.types.shapes later → IsNumbered held.types core → IsId held.types to → IsId held.types from
    → Some (type_of held.types from) ≡ target (type_of held.types (out-Core core).kind)
    → (are_convertible (type_of held.types to) (type_of held.types from) || is_null (known_over later held) (view_over later core))
    ≡ may_become_pointer (known_over later held) (view_over later core) (type_over later to) (target (kind_of (view_over later core)))
becomes-some held later core to from begins known within inside is =
    let over : Known = known_over later held in
    let tree : Tree = view_over later core in
    let found : target (kind_of tree) ≡ Some (type_over later from) =
    ap target (kind-later held.types.shapes later core begins known) ∙ (sym is ∙ ap Some (sym (type-later held.types.shapes later from begins inside))) in
    sym (ap (may_become_pointer over tree (type_over later to)) found
    ∙ ap₂ (λ t f. are_convertible t f || is_null over tree) (type-later held.types.shapes later to begins within) (type-later held.types.shapes later from begins inside))

pub becomes-none : (held : Held) (later : List Shape) (core : Core) (to : CType) → Begins held.types.shapes later → IsNumbered held.types core
    → None ≡ target (type_of held.types (out-Core core).kind)
    → is_null (known_over later held) (view_over later core) ≡ may_become_pointer (known_over later held) (view_over later core) to (target (kind_of (view_over later core)))
becomes-none held later core to begins known is =
    sym (ap (may_become_pointer (known_over later held) (view_over later core) to) (ap target (kind-later held.types.shapes later core begins known) ∙ sym is))
