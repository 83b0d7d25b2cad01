-- What an external declaration adds, and that it adds nothing else.
use Rattle.std.proofs.Common.{◌≡◌, ◌≤◌, ◌<◌, ◌+◌, ℕ, zero, suc, Bool, IsTrue, Bor, true, false, List, [], ◌∷◌, ◌++◌, length, map, get_or, Option, Some, None, slice_get, refl, sym, ap, ◌∙◌, subst, arith}
use Rattle.std.specs.List.{list_all}
use Rattle.std.specs.Option.{IsSomeAnd}
use Rattle.std.specs.Prelude.{IfSome, IfNone}
use Rattle.std.proofs.lemmas.Bool.{and_parts}
use Rattle.dm_type.specs.CTypes.{CType}
use Rattle.dm_type.specs.Tables.{Table}
use Rattle.dm_tree.specs.declared.unit.CoreExternalForm.TheVariants as code
use Rattle.dm_tree.specs.declared.unit.Sort.TheVariants.{Function}
use Rattle.dm_tree.specs.declared.unit.Linkage.TheVariants.{Internal}
use Rattle.dm_tree.specs.declared.tree.Core.{Core}
use Rattle.dm_tree.specs.declared.tree.Local.{Local}
use Rattle.dm_tree.specs.Scenes.{is_void, is_function as is_function_type}
use Rattle.dm_tree.specs.Trees.{full, return, Declarator, Tree, node, no_trees, more_trees, parts_of}
use Rattle.dm_tree.specs.Units.{Declaration, External, ExternalForm, declares, defines_function, TypedUnit}
use Rattle.dm_tree.specs.Views.{OpenedLocal, view, view_of_form, view_of_local}
use Rattle.dm_edit.specs.declared.change.As.{As}
use Rattle.dm_edit.specs.declared.change.As.TheVariants as kinds
use Rattle.dm_agree.specs.Agreement.{Added, nothing, added_function, added_enumerator, added_constant}
use Rattle.dm_agree.specs.Parts.{nows}
use Rattle.dm_align.specs.declared.insertion.Inserted.{Inserted}
use Rattle.dm_align.specs.Insertions.{IsOfKind, number_of, AddsIt, FormAddsIt, IsOnly, put_in, value_of, value_in, declarator_of}
use Rattle.dm_align.specs.Units.{Insertion, Declares, FormAdds, AreParameters, IsBodyOf, IsDeclaratorOf, result_of}

-- ---- options

pub if-some : {A : Type 0} (P Q : A → Type 0) (found : Option A) → ((x : A) → P x → Q x) → IfSome found P → IfSome found Q
if-some P Q None gives h = tt
if-some P Q (Some x) gives h = gives x h

pub if-none : {A : Type 0} (P Q : Type 0) (found : Option A) → (P → Q) → IfNone found P → IfNone found Q
if-none P Q None gives h = gives h
if-none P Q (Some x) gives h = tt

pub single-item : {A : Type 0} (xs : List A) (x : A) → length xs ≡ 1 → x ≡ get_or xs 0 x → xs ≡ x ∷ []
single-item [] x one is = absurd (cc)
single-item (y ∷ []) x one is = ap (λ (z : _). z ∷ []) (sym is)
single-item (y ∷ z ∷ xs) x one is = absurd (omega (arith, one))

-- ---- bodies

pub body-value : (result : CType) (body : Tree) (items : List Tree) → IsBodyOf result body items → value_in (is_void result) items ≡ Some body
body-value result body (node return kind spans (more_trees value no_trees) ∷ []) is =
    ap (λ void. value_in void (node return kind spans (more_trees value no_trees) ∷ [])) is.1 ∙ ap Some (sym is.0)
body-value result body (node full kind spans (more_trees value no_trees) ∷ []) is =
    ap (λ void. value_in void (node full kind spans (more_trees value no_trees) ∷ [])) is.1 ∙ ap Some (sym is.0)
body-value result body items is = absurd is

item-body : (result : CType) (body : Tree) (void : Bool) (item : Tree) → is_function_type result ≡ false → is_void result ≡ void → value_of void item ≡ Some body → IsBodyOf result body (item ∷ [])
item-body result body false (node return kind spans (more_trees value no_trees)) object is found = (let same : body ≡ value = cc in same, is, object)
item-body result body true (node full kind spans (more_trees value no_trees)) object is found = (let same : body ≡ value = cc in same, is)
item-body result body void item object is found = absurd (cc)

pub value-body : (result : CType) (body : Tree) (items : List Tree) → is_function_type result ≡ false → value_in (is_void result) items ≡ Some body → IsBodyOf result body items
value-body result body [] object found = absurd (cc)
value-body result body (item ∷ []) object found = item-body result body (is_void result) item object refl found
value-body result body (item ∷ next ∷ items) object found = absurd (cc)

pub no-value : (void : Bool) (items : List Tree) → (length items ≡ 1 → ⊥) → None ≡ value_in void items
no-value void [] other = refl
no-value void (x ∷ []) other = absurd (other refl)
no-value void (x ∷ y ∷ items) other = refl

-- ---- declarators

pub one-declared : (types : Table) (local : Local) (tree : Tree) (d : ℕ) → view_of_local types local ≡ record { declarator = declarator_of d; expressions = tree ∷ [] }
    → view_of_form types (code.Declaration (local ∷ [])) ≡ declares (declarator_of d ∷ []) (tree ∷ [])
one-declared types local tree d is = ap (λ (one : OpenedLocal). declares (one.declarator ∷ []) (one.expressions ++ [])) is

pub other-declared : (types : Table) (local : Local) (d : ℕ) (declarators : List Declarator) (trees : List Tree) → ((view_of_local types local).declarator ≡ declarator_of d → ⊥)
    → view_of_form types (code.Declaration (local ∷ [])) ≡ declares declarators trees → IsDeclaratorOf d declarators → ⊥
other-declared types local d declarators trees none is one = none (let same : (view_of_local types local).declarator ∷ [] ≡ declarator_of d ∷ [] = first is ∙ one in cc)
  where
    declarators_in : ExternalForm → List Declarator
    declarators_in (declares ds ts) = ds
    declarators_in form = []

    first : {a b : ExternalForm} → a ≡ b → declarators_in a ≡ declarators_in b
    first e = ap declarators_in e

-- ---- what is added by a form

module _ (types : Table) (new : TypedUnit) (it : Inserted) (entry : Declaration) (at : slice_get new.declared it.number ≡ Some entry) (name : entry.name ≡ it.name.now)
    (put : (it.first ≤ it.number) × (it.number < it.first + it.count)) where
  abbrev IsFunction : List ℕ → Type 0
  IsFunction parameters =
      AreParameters (put_in it nothing) parameters × (entry.sort ≡ Function) × (entry.linkage ≡ Internal)

  there : (d : ℕ) (P : Declaration → Type 0) → d ≡ it.number → IsSomeAnd (slice_get new.declared d) P → P entry
  there d P is some = subst (λ (found : Option Declaration). IsSomeAnd found P) (ap (slice_get new.declared) is ∙ at) some

  here : (d : ℕ) (P : Declaration → Type 0) → d ≡ it.number → P entry → IsSomeAnd (slice_get new.declared d) P
  here d P is holds = subst (λ (found : Option Declaration). IsSomeAnd found P) (sym (ap (slice_get new.declared) is ∙ at)) holds

  put-there : (d : ℕ) → d ≡ it.number → (it.first ≤ d) × (d < it.first + it.count)
  put-there d is = subst (λ (n : ℕ). (it.first ≤ n) × (n < it.first + it.count)) (sym is) put

  -- functions
  pub function-only : it.kind ≡ kinds.Function → (g : ℕ) (others : List ℕ) (whole : Tree) (added : Added) → FormAddsIt types new it (defines_function g others whole) added
      → (body : Tree) × (added ≡ added_function g others body) × (g ≡ it.number) × IsFunction others × (value_in (is_void (result_of entry.kind)) (parts_of whole) ≡ Some body)
  function-only kind g others whole nothing adds = absurd adds.1
  function-only kind g others whole (added_function f parameters body) adds =
      let declared = adds.1.3 in
      let is_it : f ≡ it.number = adds.0.1 in
      let facts = there f _ is_it declared.1 in (
        body,
        ap (λ (c : ℕ). added_function c parameters body) adds.1.0 ∙ ap (λ (ps : List ℕ). added_function g ps body) adds.1.1,
        sym adds.1.0 ∙ is_it,
        (let those : AreParameters (put_in it nothing) parameters = adds.1.2 in subst (λ (ps : List ℕ). AreParameters (put_in it nothing) ps) adds.1.1 those, facts.1.0, facts.1.1),
        body-value (result_of entry.kind) body (parts_of whole) facts.1.2,
      )
  function-only kind g others whole (added_enumerator d value) adds = absurd (subst (λ (k : As). IsOfKind k (added_enumerator d value)) kind adds.0.0)
  function-only kind g others whole (added_constant d value) adds = absurd (subst (λ (k : As). IsOfKind k (added_constant d value)) kind adds.0.0)

  function-adds : it.kind ≡ kinds.Function → (g : ℕ) (others : List ℕ) (whole body : Tree) → g ≡ it.number → IsFunction others → is_function_type (result_of entry.kind) ≡ false → value_in (is_void (result_of entry.kind)) (parts_of whole) ≡ Some body
      → FormAddsIt types new it (defines_function g others whole) (added_function g others body)
  function-adds kind g others whole body is facts object value = (
    (subst (λ (k : As). IsOfKind k (added_function g others body)) (sym kind) tt, is),
    (refl, refl, facts.0, (put-there g is, here g _ is (name, (facts.1, facts.2, value-body (result_of entry.kind) body (parts_of whole) object value)))),
  )

  pub function-found : it.kind ≡ kinds.Function → (g : ℕ) (others : List ℕ) (whole body : Tree) → g ≡ it.number → IsFunction others → is_function_type (result_of entry.kind) ≡ false → value_in (is_void (result_of entry.kind)) (parts_of whole) ≡ Some body
      → IsOnly (FormAddsIt types new it (defines_function g others whole)) (Some (added_function g others body))
  function-found kind g others whole body is facts object value = (
    function-adds kind g others whole body is facts object value,
    λ x adds.
        let only = function-only kind g others whole x adds in
        let both = sym only.4 ∙ value in
        let same : only.0 ≡ body = cc in
        only.1 ∙ ap (added_function g others) same,
  )

  pub no-function : it.kind ≡ kinds.Function → (g : ℕ) (others : List ℕ) (whole : Tree) → None ≡ value_in (is_void (result_of entry.kind)) (parts_of whole)
      → IsOnly (FormAddsIt types new it (defines_function g others whole)) None
  no-function kind g others whole value x adds =
      let only = function-only kind g others whole x adds in let gone = value ∙ only.4 in absurd (cc)

-- what has a form is what the unit has
module _ (types : Table) (new : TypedUnit) (it : Inserted) (external : External) (at : slice_get new.externals it.external ≡ Some external) where
  pub form-only : (found : Option Added) → IsOnly (FormAddsIt types new it external.form) found → IsOnly (AddsIt types new it) found
  form-only None none = λ x adds. none x (adds.0, subst (λ (one : Option External). IsSomeAnd one (λ e. FormAdds types new (put_in it x) x e.form)) at adds.1)
  form-only (Some found) only = (
    (only.0.0, subst (λ (one : Option External). IsSomeAnd one (λ e. FormAdds types new (put_in it found) found e.form)) (sym at) only.0.1),
    λ x adds. only.1 x (adds.0, subst (λ (one : Option External). IsSomeAnd one (λ e. FormAdds types new (put_in it x) x e.form)) at adds.1),
  )

-- ---- the entry of what is added

some-of : {A : Type 0} (P : A → Type 0) (found : Option A) → IsSomeAnd found P → (x : A) × (found ≡ Some x) × P x
some-of P None h = absurd h
some-of P (Some x) h = (x, refl, h)

pub get-shown : {A B : Type 0} (f : A → B) (xs : List A) (n : ℕ) (y : B) → slice_get (map f xs) n ≡ Some y → (x : A) × (slice_get xs n ≡ Some x) × (f x ≡ y)
get-shown f [] n y is = absurd (cc)
get-shown f (x ∷ xs) zero y is = (x, refl, let same : f x ≡ y = cc in same)
get-shown f (x ∷ xs) (suc n) y is = get-shown f xs n y is

declared-so : (new : TypedUnit) (put : Insertion) (d : ℕ) (P : Declaration → Type 0) → Declares new put d P
    → (entry : Declaration) × (slice_get new.declared d ≡ Some entry) × (entry.name ≡ put.name) × (put.first ≤ d) × (d < put.first + put.count)
declared-so new put d P declared =
    let found = some-of (λ (entry : Declaration). (entry.name ≡ put.name) × P entry) (slice_get new.declared d) declared.1 in
    (found.0, found.1, found.2.0, declared.0.0, declared.0.1)

pub form-declared : (types : Table) (new : TypedUnit) (it : Inserted) (added : Added) (form : ExternalForm) → FormAdds types new (put_in it added) added form
    → (entry : Declaration) × (slice_get new.declared (number_of added) ≡ Some entry) × (entry.name ≡ it.name.now) × (it.first ≤ number_of added) × (number_of added < it.first + it.count)
form-declared types new it nothing form adds = absurd adds
form-declared types new it (added_function f parameters body) (declares declarators trees) adds = absurd adds
form-declared types new it (added_function f parameters body) (defines_function g others whole) adds = declared-so new (put_in it (added_function f parameters body)) f _ adds.3
form-declared types new it (added_enumerator d value) form adds = declared-so new (put_in it (added_enumerator d value)) d _ adds.1
form-declared types new it (added_constant d value) (defines_function g others whole) adds = absurd adds
form-declared types new it (added_constant d value) (declares declarators trees) adds = declared-so new (put_in it (added_constant d value)) d _ adds.2

pub added-declared : (types : Table) (new : TypedUnit) (it : Inserted) (added : Added) → AddsIt types new it added
    → (entry : Declaration) × (slice_get new.declared it.number ≡ Some entry) × (entry.name ≡ it.name.now) × (it.first ≤ it.number) × (it.number < it.first + it.count)
added-declared types new it added adds =
    let external = some-of (λ (one : External). FormAdds types new (put_in it added) added one.form) (slice_get new.externals it.external) adds.1 in
    let entry = form-declared types new it added external.0.form external.2 in (
      entry.0,
      ap (slice_get new.declared) (sym adds.0.1) ∙ entry.1,
      entry.2,
      subst (λ (n : ℕ). it.first ≤ n) adds.0.1 entry.3,
      subst (λ (n : ℕ). n < it.first + it.count) adds.0.1 entry.4,
    )

-- ---- tests that all items pass

pub passes-at : {A : Type 0} (p : A → Bool) (xs : List A) (n : ℕ) (x : A) → IsTrue (list_all p xs) → slice_get xs n ≡ Some x → IsTrue (p x)
passes-at p [] n x all at = absurd (cc)
passes-at p (y ∷ xs) zero x all at = let same : y ≡ x = cc in ap p (sym same) ∙ (and_parts (p y) (list_all p xs) all).0
passes-at p (y ∷ xs) (suc n) x all at = passes-at p xs n x (and_parts (p y) (list_all p xs) all).1 at

pub shown-length : (types : Table) (refs : List (Bor Core)) → length (map (view types) (nows refs)) ≡ length refs
shown-length types [] = refl
shown-length types (one ∷ refs) = ap suc (shown-length types refs)
