-- Steps of writing a type.
use Rattle.std.proofs.Common.{◌≡◌, ℕ, zero, suc, ◌+◌, ◌<◌, ◌≤◌, Bool, true, false, ◌&&◌, if◌then◌else◌, List, [], ◌∷◌, ◌++◌, drop, map, length, get_or, Option, Some, None, codes, refl, sym, ap, ◌∙◌, arith, append_assoc}
use Rattle.std.specs.Prelude.{IfOk, Result, Ok, Err, is_some, slice_get}
use Rattle.std.proofs.lemmas.Option.{none-some, slice_get-get_or, slice_get_past}
use Rattle.std.specs.Option.{option_and_then}
use Rattle.dm_type.specs.declared.shape.Shape.{Shape}
use Rattle.dm_type.specs.declared.shape.Shape.TheVariants.{Void, Integer, Pointer, Array, Struct, Function, Const}
use Rattle.dm_type.specs.TableLaws.{injected}
use Rattle.dm_type.specs.declared.spell.Frame.{Frame}
use Rattle.dm_type.specs.CTypes.{CType, CTypes, void, integer, pointer, array, struct, function, const, no_types, more_types, all_of, list_of}
use Rattle.dm_type.specs.Tables.{Table, as_is, types_of, type_of}
use Rattle.dm_type.specs.Spelling.{spelled, wrapped, parameters_text, further_text, is_spellable, are_spellable}
use Rattle.dm_type.specs.Writing.{written, completed, finished, parameters_from, between, closing, parameters_at, resumed, work, works, work_behind}

-- nothing comes of nothing
pub resumed-none : (table : Table) (visible : List ℕ) (frames : List Frame) → resumed table visible frames None ≡ None
resumed-none table visible [] = refl
resumed-none table visible (frame ∷ frames) = resumed-none table visible frames

pub types-again : (types : CTypes) → all_of (list_of types) ≡ types
types-again no_types = refl
types-again (more_types type types) = ap (more_types type) (types-again types)

pub list-again : (types : List CType) → list_of (all_of types) ≡ types
list-again [] = refl
list-again (type ∷ types) = ap (λ ts. type ∷ ts) (list-again types)

-- a function type begins with its parameters
pub written-function : (table : Table) (visible : List ℕ) (result : CType) (parameters : CTypes) (qualified : Bool) (declarator : List ℕ)
    → written table visible (function result parameters) qualified declarator ≡ finished table visible (function result parameters) 0 (wrapped declarator ++ codes "(")
written-function table visible result parameters qualified declarator =
    ap (λ text. if is_spellable table visible result && are_spellable table visible parameters then Some (spelled table result false text) else None)
    (sym (append_assoc (wrapped declarator) (codes "(") (parameters_text table parameters ++ codes ")")))
    ∙ ap (λ ts. completed table visible result ts 0 (wrapped declarator ++ codes "(")) (sym (types-again parameters))

pub from-more : (table : Table) (next : ℕ) (type : CType) (types : CTypes)
    → parameters_from table next (more_types type types) ≡ between next ++ (spelled table type false [] ++ further_text table types)
from-more table zero type types = refl
from-more table (suc next) type types = refl

choose : {A : Type 0} (r t ts : Bool) (x : A) (y : Option A) → y ≡ (if r && ts then Some x else None) → (if r && (t && ts) then Some x else None) ≡ (if t then y else None)
choose true true true x y e = sym e
choose true true false x y e = sym e
choose false true ts x y e = sym e
choose true false ts x y e = refl
choose false false ts x y e = refl

bound : {A B : Type 0} (t : Bool) (x : A) (f : A → Option B) → option_and_then f (if t then Some x else None) ≡ (if t then f x else None)
bound true x f = refl
bound false x f = refl

-- one parameter, and then those behind it
pub completed-more : (table : Table) (visible : List ℕ) (result type : CType) (types : CTypes) (next : ℕ) (text : List ℕ)
    → completed table visible result (more_types type types) next text
    ≡ option_and_then (λ inner. completed table visible result types (suc next) ((text ++ between next) ++ inner)) (written table visible type false [])
completed-more table visible result type types next text =
    let inner : List ℕ = spelled table type false [] in
    let whole : text ++ (parameters_from table next (more_types type types) ++ codes ")") ≡ ((text ++ between next) ++ inner) ++ (further_text table types ++ codes ")") =
    ap (λ p. text ++ (p ++ codes ")")) (from-more table next type types)
    ∙ ap (λ p. text ++ p) (append_assoc (between next) (inner ++ further_text table types) (codes ")"))
    ∙ ap (λ p. text ++ (between next ++ p)) (append_assoc inner (further_text table types) (codes ")"))
    ∙ sym (append_assoc text (between next) (inner ++ (further_text table types ++ codes ")")))
    ∙ sym (append_assoc (text ++ between next) inner (further_text table types ++ codes ")")) in
    choose (is_spellable table visible result) (is_spellable table visible type) (are_spellable table visible types) _ _
    (ap (λ t. if is_spellable table visible result && are_spellable table visible types then Some (spelled table result false t) else None) (sym whole))
    ∙ sym (bound (is_spellable table visible type) inner (λ one. completed table visible result types (suc next) ((text ++ between next) ++ one)))

-- no parameter is left
pub completed-none : (table : Table) (visible : List ℕ) (result : CType) (next : ℕ) (text : List ℕ)
    → completed table visible result no_types next text ≡ written table visible result false (text ++ closing next)
completed-none table visible result zero text = alone (is_spellable table visible result) (spelled table result false (text ++ closing 0))
  where
    alone : (r : Bool) (x : List ℕ) → (if r && true then Some x else None) ≡ (if r then Some x else None)
    alone true x = refl
    alone false x = refl
completed-none table visible result (suc next) text = alone (is_spellable table visible result) (spelled table result false (text ++ closing (suc next)))
  where
    alone : (r : Bool) (x : List ℕ) → (if r && true then Some x else None) ≡ (if r then Some x else None)
    alone true x = refl
    alone false x = refl

-- and with none
pub finished-last : (table : Table) (visible : List ℕ) (type result : CType) (types : List CType) (next : ℕ) (text : List ℕ) → type ≡ function result (all_of types)
    → drop next types ≡ [] → finished table visible type next text ≡ written table visible result false (text ++ closing next)
finished-last table visible type result types next text is last =
    ap (λ t. finished table visible t next text) is
    ∙ ap (λ ts. completed table visible result (all_of (drop next ts)) next text) (list-again types)
    ∙ ap (λ ts. completed table visible result (all_of ts) next text) last
    ∙ completed-none table visible result next text

pub work-start : (type result : CType) (types : List CType) → type ≡ function result (all_of types) → work type ≡ 1 + work_behind type 0
work-start type result types is =
    let here : work type ≡ 2 + (work result + works (all_of types)) = ap work is in
    let there : work_behind type 0 ≡ 1 + (work result + works (all_of types)) = ap (λ t. work_behind t 0) is ∙ ap (λ ts. 1 + (work result + works (all_of ts))) (list-again types) in
    omega (arith, here, there)

pub start-function : (table : Table) (visible : List ℕ) (type result : CType) (types : List CType) (qualified : Bool) (declarator : List ℕ) → type ≡ function result (all_of types)
    → written table visible type qualified declarator ≡ finished table visible type 0 (wrapped declarator ++ codes "(")
start-function table visible type result types qualified declarator is =
    ap (λ t. written table visible t qualified declarator) is ∙ written-function table visible result (all_of types) qualified declarator
    ∙ ap (λ t. finished table visible t 0 (wrapped declarator ++ codes "(")) (sym is)

pub work-some : (type : CType) (next : ℕ) → 0 < work_behind type next
work-some void next = omega arith
work-some (integer kind) next = omega arith
work-some (pointer type) next = omega arith
work-some (array type length) next = omega arith
work-some (struct number) next = omega arith
work-some (function result parameters) next = omega arith
work-some (const type) next = omega arith

-- a shape that is no function comes to nothing
pub no-function : (table : Table) (visible : List ℕ) (types : List CType) (shape : Shape) (next : ℕ) (text : List ℕ)
    → ((first : ℕ) (parameters : List ℕ) → shape ≡ Function first parameters → ⊥) → finished table visible (as_is types shape) next text ≡ None
no-function table visible types Void next text never = refl
no-function table visible types (Integer kind) next text never = refl
no-function table visible types (Pointer id) next text never = refl
no-function table visible types (Array id count) next text never = refl
no-function table visible types (Struct number) next text never = refl
no-function table visible types (Function first parameters) next text never = absurd (never first parameters refl)
no-function table visible types (Const id) next text never = refl

nothing : {A : Type 0} (x : A) (xs : List A) → [] ≡ x ∷ xs → ⊥
nothing x xs e = let n : ◌≡◌ {A = ℕ} 0 (suc (length xs)) = ap length e in omega (arith, n)

-- the parameter of a number
pub drop-found : {A : Type 0} (f : A → CType) (xs : List A) (k : ℕ) (x : A) → slice_get xs k ≡ Some x → drop k (map f xs) ≡ f x ∷ drop (suc k) (map f xs)
drop-found f [] k x found = absurd (none-some x found)
drop-found f (y ∷ xs) zero x found = ap (λ z. f z ∷ map f xs) (injected y x found)
drop-found f (y ∷ xs) (suc k) x found = drop-found f xs k x found

pub drop-past : {A : Type 0} (f : A → CType) (xs : List A) (k : ℕ) → slice_get xs k ≡ None → drop k (map f xs) ≡ []
drop-past f [] zero none = refl
drop-past f [] (suc k) none = refl
drop-past f (y ∷ xs) zero none = absurd (none-some y (sym none))
drop-past f (y ∷ xs) (suc k) none = drop-past f xs k none

pub between-more : (n : ℕ) → (n ≡ 0 → ⊥) → between n ≡ codes ", "
between-more zero never = absurd (never refl)
between-more (suc n) never = refl

pub closing-more : (n : ℕ) → (n ≡ 0 → ⊥) → closing n ≡ codes ")"
closing-more zero never = absurd (never refl)
closing-more (suc n) never = refl

-- a struct that isn't named
pub not-named : (b : Bool) (tag : Option (List ℕ)) → None ≡ (if b then tag else None) → (b && is_some tag) ≡ false
not-named true None e = refl
not-named true (Some text) e = absurd (none-some text e)
not-named false tag e = refl

pub on-ok : {X E : Type 0} (r : Result X E) {P Q : X → Type 0} → ((x : X) → P x → Q x) → IfOk r P → IfOk r Q
on-ok (Ok x) imply p = imply x p
on-ok (Err e) imply p = p

pub drop-at : {A : Type 0} (f : A → CType) (xs : List A) (k : ℕ) (x : A) → k < length xs → x ≡ get_or xs k x → drop k (map f xs) ≡ f x ∷ drop (suc k) (map f xs)
drop-at f xs k x inside at = drop-found f xs k x (slice_get-get_or xs k x inside ∙ ap Some (sym at))

pub drop-end : {A : Type 0} (f : A → CType) (xs : List A) (k : ℕ) → length xs ≤ k → drop k (map f xs) ≡ []
drop-end f xs k past = drop-past f xs k (slice_get_past xs k past)

-- the parameters of a function type of the table
pub parameters-of : (table : Table) (shape : Shape) {first : ℕ} {ids : List ℕ} (type : CType) → type ≡ as_is (types_of table.shapes) shape → shape ≡ Function first ids
    → (k : ℕ) → parameters_at type k ≡ drop k (map (type_of table) ids)
parameters-of table shape {first = first} {ids = ids} type is made k =
    ap (λ t. parameters_at t k) (is ∙ ap (as_is (types_of table.shapes)) made) ∙ ap (drop k) (list-again (map (type_of table) ids))

pub no-parameters : (types : List CType) (shape : Shape) (k : ℕ) → ((first : ℕ) (parameters : List ℕ) → shape ≡ Function first parameters → ⊥) → parameters_at (as_is types shape) k ≡ []
no-parameters types Void k never = refl
no-parameters types (Integer kind) k never = refl
no-parameters types (Pointer id) k never = refl
no-parameters types (Array id count) k never = refl
no-parameters types (Struct number) k never = refl
no-parameters types (Function first parameters) k never = absurd (never first parameters refl)
no-parameters types (Const id) k never = refl

-- a type with one parameter more
pub further-more : (table : Table) (visible : List ℕ) (type one : CType) (next : ℕ) (text : List ℕ) → parameters_at type next ≡ one ∷ parameters_at type (next + 1)
    → finished table visible type next text ≡ option_and_then (λ inner. finished table visible type (next + 1) ((text ++ between next) ++ inner)) (written table visible one false [])
further-more table visible (function result parameters) one next text more =
    let after : next + 1 ≡ suc next = omega arith in
    ap (λ ts. completed table visible result (all_of ts) next text) more
    ∙ completed-more table visible result one (all_of (drop (next + 1) (list_of parameters))) next text
    ∙ ap (λ k. option_and_then (λ inner. completed table visible result (all_of (drop (next + 1) (list_of parameters))) k ((text ++ between next) ++ inner)) (written table visible one false [])) (sym after)
further-more table visible void one next text more = absurd (nothing one _ more)
further-more table visible (integer kind) one next text more = absurd (nothing one _ more)
further-more table visible (pointer type) one next text more = absurd (nothing one _ more)
further-more table visible (array type count) one next text more = absurd (nothing one _ more)
further-more table visible (struct number) one next text more = absurd (nothing one _ more)
further-more table visible (const type) one next text more = absurd (nothing one _ more)

pub work-further : (type one : CType) (next : ℕ) → parameters_at type next ≡ one ∷ parameters_at type (next + 1) → work_behind type next ≡ 1 + (work one + work_behind type (next + 1))
work-further (function result parameters) one next more =
    let here : work_behind (function result parameters) next ≡ 1 + (work result + (1 + (work one + works (all_of (drop (next + 1) (list_of parameters)))))) =
    ap (λ ts. 1 + (work result + works (all_of ts))) more in
    omega (arith, here)
work-further void one next more = absurd (nothing one _ more)
work-further (integer kind) one next more = absurd (nothing one _ more)
work-further (pointer type) one next more = absurd (nothing one _ more)
work-further (array type count) one next more = absurd (nothing one _ more)
work-further (struct number) one next more = absurd (nothing one _ more)
work-further (const type) one next more = absurd (nothing one _ more)

-- a function type whose parameters are written
pub behind-last : (table : Table) (visible : List ℕ) (shape : Shape) {first : ℕ} {ids : List ℕ} (type : CType) (next : ℕ) (text : List ℕ)
    → type ≡ as_is (types_of table.shapes) shape → shape ≡ Function first ids → parameters_at type next ≡ []
    → finished table visible type next text ≡ written table visible (type_of table first) false (text ++ closing next)
behind-last table visible shape {first = first} {ids = ids} type next text is made last =
    finished-last table visible type (type_of table first) (map (type_of table) ids) next text (is ∙ ap (as_is (types_of table.shapes)) made)
    (sym (parameters-of table shape type is made next) ∙ last)

pub work-last : (table : Table) (shape : Shape) {first : ℕ} {ids : List ℕ} (type : CType) (next : ℕ)
    → type ≡ as_is (types_of table.shapes) shape → shape ≡ Function first ids → parameters_at type next ≡ [] → work_behind type next ≡ 1 + work (type_of table first)
work-last table shape {first = first} {ids = ids} type next is made last =
    let whole : type ≡ function (type_of table first) (all_of (map (type_of table) ids)) = is ∙ ap (as_is (types_of table.shapes)) made in
    let here : work_behind type next ≡ 1 + (work (type_of table first) + works (all_of (drop next (list_of (all_of (map (type_of table) ids)))))) = ap (λ t. work_behind t next) whole in
    let none : drop next (list_of (all_of (map (type_of table) ids))) ≡ [] = sym (ap (λ t. parameters_at t next) whole) ∙ last in
    let left : works (all_of (drop next (list_of (all_of (map (type_of table) ids))))) ≡ 0 = ap (λ ts. works (all_of ts)) none in
    omega (arith, here, left)
