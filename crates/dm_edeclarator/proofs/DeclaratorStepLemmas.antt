-- Steps through declarators.
use Rattle.std.specs.Prelude.{◌≡◌, ℕ, zero, suc, ◌-◌, ◌*◌, Bool, true, false, ◌&&◌, ◌||◌, not, nat_le, ◌<◌, ◌≤◌, if◌then◌else◌, is_some, List, [], ◌∷◌, ◌++◌, length, map, reverse, drop, All, Option, Some, None, option_map, refl}
use Rattle.std.proofs.Common.{rules, ap, ap₂, sym, ◌∙◌, arith, get_or, drop-cons}
use Rattle.std.proofs.lemmas.List.{map-append, reverse-append}
use Rattle.std.proofs.lemmas.Bool.{le-leb}
use Rattle.std.proofs.lemmas.List.Elements.{All-head, All-tail}
use Rattle.dm_type.specs.declared.layout.Layout.{Layout}
use Rattle.dm_type.specs.declared.shape.Shape.{Shape}
use Rattle.dm_type.specs.CTypes.{CType, void, integer, pointer, array, struct, function, const, bare}
use Rattle.dm_token.specs.Limits.{most_type_bytes}
use Rattle.dm_type.specs.Layouts.{layout_of, size_of, times, repeated}
use Rattle.dm_type.specs.Tables.{Table, IsId}
use Rattle.dm_token.specs.declared.place.Span.{Span}
use Rattle.dm_syn.specs.declared.declaration.Declarator.{Declarator}
use Rattle.dm_syn.specs.declared.declaration.Direct.{Direct}
use Rattle.dm_syn.specs.declared.expression.Expr as q
use Rattle.dm_syn.specs.Spans.{declarator_span}
use Rattle.dm_syn.specs.Trees as tree
use Rattle.dm_syn.specs.Views as view
use Rattle.dm_tree.specs.Scenes.{is_void, is_array, is_function}
use Rattle.dm_typing.specs.declared.known.Known.{Known as Held}
use Rattle.dm_edeclarator.specs.declared.declarators.PlacedStep.{PlacedStep}
use Rattle.dm_edeclarator.specs.declared.declarators.TypedParameter.{TypedParameter as ParameterHeld}
use Rattle.dm_typing.specs.Known.{Known}
use Rattle.dm_typing.specs.Conversions.{is_complete, is_same}
use Rattle.dm_typing.specs.Typing.{is_no_parameters, pointers, pointing, kinds_of, adjusted, length_fits, is_result}
use Rattle.dm_typing.specs.Views.{type_over, known_over, seen, elements}
use Rattle.dm_edeclarator.specs.Steps.{step_over, steps_over, parameter_over, ParameterFits, ParametersFit, kind_in}
use Rattle.dm_typing.proofs.GivesLemmas.{complete-later}

-- ---- the syntax

declarator-at : (span : Span) (stars : List ℕ) (a : Direct) → view.declarator (record { span = span; pointers = stars; direct = a }) ≡ tree.shaped span stars (view.direct a)
declarator-at span stars a = search (rules, q.the_lemmas)

pub view-declarator : (one : Declarator) → view.declarator one ≡ tree.shaped one.span one.pointers (view.direct one.direct)
view-declarator one = declarator-at one.span one.pointers one.direct

pub span-declarator : (one : Declarator) → declarator_span (view.declarator one) ≡ one.span
span-declarator one = ap declarator_span (view-declarator one)

-- ---- lists of steps, the last first

pub steps-more : (later : List Shape) (steps : List PlacedStep) (placed : PlacedStep) → steps_over later (steps ++ placed ∷ []) ≡ step_over later placed ∷ steps_over later steps
steps-more later steps placed = ap reverse (map-append (step_over later) steps (placed ∷ [])) ∙ reverse-append (map (step_over later) steps) (step_over later placed ∷ [])

-- ---- pointers

pub pointers-from : (at : ℕ) (stars : List ℕ) (n : ℕ) → 0 < n → n ≤ length stars → pointers at (drop (n - 1) stars) ≡ pointing at (nat_le 1 (get_or stars (n - 1) 0)) ∷ pointers at (drop n stars)
pointers-from at stars n some few =
    ap (pointers at) (drop-cons stars (n - 1) 0 (omega (arith, some, few)))
    ∙ ap (λ k. pointing at (nat_le 1 (get_or stars (n - 1) 0)) ∷ pointers at (drop k stars)) (let e : suc (n - 1) ≡ n = omega (arith, some) in e)

-- ---- parameters

pub kinds-over : (later : List Shape) (parameters : List ParameterHeld) → kinds_of (map (parameter_over later) parameters) ≡ map (type_over later) (map kind_in parameters)
kinds-over later [] = refl
kinds-over later (first ∷ others) = ap (λ kinds. type_over later first.kind ∷ kinds) (kinds-over later others)

pub kinds-fit : (types : Table) (parameters : List ParameterHeld) → ParametersFit types parameters → All (IsId types) (map kind_in parameters)
kinds-fit types [] fit k d inside = absurd (omega (arith, inside))
kinds-fit types (first ∷ others) fit zero d inside = All-head (ParameterFits types) first others fit
kinds-fit types (first ∷ others) fit (suc k) d inside = kinds-fit types others (All-tail (ParameterFits types) first others fit) k d (omega (arith, inside))

-- ---- types

pub adjusted-array : (type inner : CType) → elements type ≡ Some inner → adjusted type ≡ pointer inner
adjusted-array (array type n) inner h = let e : type ≡ inner = cc in ap pointer e
adjusted-array type inner h = absurd (cc)

pub adjusted-other : (type : CType) → elements type ≡ None → adjusted type ≡ type
adjusted-other (array type n) h = absurd (cc)
adjusted-other type h = refl

pub void-alone : (type : CType) → is_same type void ≡ is_void type
void-alone void = refl
void-alone (integer kind) = refl
void-alone (pointer type) = refl
void-alone (array type n) = refl
void-alone (struct number) = refl
void-alone (function result parameters) = refl
void-alone (const type) = refl

-- one parameter alone
pub alone-named : (later : List Shape) (parameters : List ParameterHeld) (only : ParameterHeld) → 1 ≤ length parameters → length parameters < 2 → only ≡ get_or parameters 0 only
    → is_no_parameters (map (parameter_over later) parameters) ≡ (is_void (type_over later only.kind) && not (is_some only.declared))
alone-named later [] only some few is = absurd (omega (arith, some))
alone-named later (first ∷ []) only some few is =
    ap (λ a. a && not (is_some first.declared)) (void-alone (type_over later first.kind)) ∙ ap (λ (one : ParameterHeld). is_void (type_over later one.kind) && not (is_some one.declared)) (sym is)
alone-named later (first ∷ second ∷ others) only some few is = absurd (omega (arith, few))

pub not-not : (b : Bool) → not (not b) ≡ b
not-not true = refl
not-not false = refl

-- an array of complete elements is complete if it isn't too large
pub array-fits : (known : Known) (type : CType) (n size : ℕ) → size_of known.types type ≡ Some size
    → (is_complete known type && length_fits known type (Some n)) ≡ nat_le (n * size) most_type_bytes
array-fits known type n size h = go (layout_of known.types type) h
  where
    go : (found : Option Layout) → option_map (λ (layout : Layout). layout.size) found ≡ Some size
        → (is_some (option_map (λ (layout : Layout). layout.size) found) && is_some (option_map (λ (layout : Layout). layout.size) (times (Some n) found))) ≡ nat_le (n * size) most_type_bytes
    go None h = absurd (cc)
    go (Some layout) h = let e : layout.size ≡ size = cc in fitting (nat_le (n * layout.size) most_type_bytes) ∙ ap (λ s. nat_le (n * s) most_type_bytes) e
      where
        fitting : (test : Bool) → is_some (option_map (λ (layout : Layout). layout.size) (if test then Some (repeated n layout) else None)) ≡ test
        fitting true = refl
        fitting false = refl

pub array-known : (known : Known) (type : CType) (n size : ℕ) → Some size ≡ size_of known.types type → n * size ≤ most_type_bytes → (is_complete known type && length_fits known type (Some n)) ≡ true
array-known known type n size h few = array-fits known type n size (sym h) ∙ le-leb (n * size) most_type_bytes few

-- tests of types, whatever numbers come
pub fits-later : (later : List Shape) (held : Held) (one other : CType) (n : ℕ) → one ≡ other
    → (is_complete (known_over later held) one && length_fits (known_over later held) one (Some n)) ≡ (is_complete (seen held) other && length_fits (seen held) other (Some n))
fits-later later held one other n e =
    ap₂ (λ a b. a && b) (complete-later later held one other e) (complete-later later held (array one (Some n)) (array other (Some n)) (ap (λ type. array type (Some n)) e))

pub result-later : (later : List Shape) (held : Held) (one other : CType) → one ≡ other → is_result (known_over later held) one ≡ is_result (seen held) other
result-later later held one other e =
    ap (is_result (known_over later held)) e
    ∙ ap (λ b. not (is_function other) && not (is_array other) && (is_void (bare other) || b)) (complete-later later held other other refl)
