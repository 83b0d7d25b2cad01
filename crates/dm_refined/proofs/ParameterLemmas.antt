-- What rule 8 says of a macro's parameters.
--     named_by      a parameter whose name is a word of the replacement list is named there
--     read_as      each time that a unit reads a directive it gives one definition
use Rattle.std.specs.Prelude.{◌≡◌, refl, ℕ, zero, suc, ◌+◌, ◌<◌, Bool, true, false, not, ◌&&◌, ◌||◌, ◌==◌, List, [], ◌∷◌, ◌++◌, length, Some, None, bytes_eq, slice_get, if◌then◌else◌}
use Rattle.std.specs.List.{AllByRecursion, IsDistinct, list_any, position_from}
use Rattle.std.proofs.Common.{ap, sym, ◌∙◌, subst, arith}
use Rattle.std.proofs.lemmas.Bool.{false≢true, true≢false, and_parts, eqb-true}
use Rattle.std.proofs.lemmas.Slice.Eq.{bytes_eq-Decides}
use Rattle.dm_token.specs.declared.place.Place.{Place}
use Rattle.dm_token.specs.declared.expansion.Definition.{Definition}
use Rattle.dm_token.specs.declared.token.PpToken.{PpToken}
use Rattle.dm_token.specs.declared.unit.Read.{Read}
use Rattle.dm_macro.specs.Bodies as bodies
use Rattle.dm_macro.specs.Bodies.{named_parameters, parameter_of, parameters_of}
use Rattle.dm_macro.specs.Signs.{is_identifier, is_word, variable_arguments}
use Rattle.dm_spell.specs.Tables.{keyword_rows}
use Rattle.dm_runs.specs.Runs.{is_at, is_file}
use Rattle.dm_apart.specs.Apart.{IsNamed, IsReadAs}
use Rattle.dm_defined.specs.Made.{IsMade, IsMadeIn, bytes_for}
use Rattle.dm_unit.specs.States.{Setting}
use Rattle.dm_reading.specs.declared.reading.Reading.{Reading}
use Rattle.dm_rules.specs.Rules.{broken_parameter, defines_in, is_parameter, own_place}

some_same : {A : Type 0} (x y : A) → Some x ≡ Some y → x ≡ y
some_same x y e = cc

no_item : {A : Type 0} (x : A) → None ≡ Some x → ⊥
no_item x e = cc

-- ---- positions of names

same_name : (name : List ℕ) → bytes_eq name name ≡ true
same_name name = (bytes_eq-Decides name name).1 refl

item_has : {A : Type 0} (P : A → Type 0) (items : List A) (k : ℕ) (x : A) → AllByRecursion P items → slice_get items k ≡ Some x → P x
item_has P [] k x h e = absurd (no_item x e)
item_has P (y ∷ items) zero x h e = subst P (some_same y x e) h.0
item_has P (y ∷ items) (suc k) x h e = item_has P items k x h.1 e

other_first : (first name : List ℕ) → bytes_eq first name ≡ false → bytes_eq name first ≡ false
other_first first name other = by (bytes_eq name first) refl
  where
    by : (b : Bool) → bytes_eq name first ≡ b → b ≡ false
    by false e = refl
    by true e = absurd (true≢false (sym (ap (λ (word : List ℕ). bytes_eq first word) ((bytes_eq-Decides name first).0 e) ∙ same_name first) ∙ other))

position_is : (names more : List (List ℕ)) (at n : ℕ) (name : List ℕ) → IsDistinct bytes_eq names → slice_get names n ≡ Some name → position_from (bytes_eq name) at (names ++ more) ≡ Some (at + n)
unfolding IsDistinct
position_is [] more at n name differ e = absurd (no_item name e)
position_is (first ∷ names) more at zero name differ e =
    subst (λ (b : Bool). (if b then Some at else position_from (bytes_eq name) (at + 1) (names ++ more)) ≡ Some (at + 0))
    (sym (ap (bytes_eq name) (some_same first name e) ∙ same_name name)) (ap Some (omega arith))
position_is (first ∷ names) more at (suc n) name differ e =
    subst (λ (b : Bool). (if b then Some at else position_from (bytes_eq name) (at + 1) (names ++ more)) ≡ Some (at + suc n))
    (sym (other_first first name (item_has (λ (other : List ℕ). bytes_eq first other ≡ false) names n name differ.0 e)))
    (position_is names more (at + 1) n name differ.1 e ∙ ap Some (omega arith))

-- a word that is the name of a parameter names it
word_names : (definition : Definition) (n : ℕ) (name : List ℕ) → IsDistinct bytes_eq (named_parameters definition.parameters) → slice_get (named_parameters definition.parameters) n ≡ Some name
    → (token : PpToken) → is_word name token ≡ true → bodies.is_at n (parameter_of (parameters_of definition) token) ≡ true
unfolding parameter_of parameters_of bodies.is_at
word_names definition n name differ is token word =
    let both = and_parts (is_identifier token) (bytes_eq token.spelling name) word in
    let spelled = (bytes_eq-Decides token.spelling name).0 both.1 in
    let names = named_parameters definition.parameters in
    let more = if definition.variadic then variable_arguments ∷ [] else [] in
    let position : position_from (bytes_eq token.spelling) 0 (names ++ more) ≡ Some n =
    ap (λ (spelling : List ℕ). position_from (bytes_eq spelling) 0 (names ++ more)) spelled ∙ position_is names more 0 n name differ is ∙ ap Some (omega arith) in
    ap (λ (b : Bool). bodies.is_at n (if b then position_from (bytes_eq token.spelling) 0 (names ++ more) else None)) both.0 ∙ ap (bodies.is_at n) position ∙ itself n
  where
    itself : (m : ℕ) → (m == m) ≡ true
    itself m = grind arith

any_weaker : {A : Type 0} (test other : A → Bool) → ((x : A) → test x ≡ true → other x ≡ true) → (items : List A) → list_any test items ≡ true → list_any other items ≡ true
any_weaker test other f [] e = e
any_weaker test other f (x ∷ items) e = by_test (test x) refl e (any_weaker test other f items)
  where
    either : (a b : Bool) → a ≡ true → (a || b) ≡ true
    either true b k = refl
    either false b k = absurd (false≢true k)

    behind : (a b : Bool) → b ≡ true → (a || b) ≡ true
    behind true b k = refl
    behind false b k = k

    by_test : (b : Bool) → test x ≡ b → (b || list_any test items) ≡ true → (list_any test items ≡ true → list_any other items ≡ true) → (other x || list_any other items) ≡ true
    by_test true is k rest = either (other x) (list_any other items) (f x is)
    by_test false is k rest = behind (other x) (list_any other items) (rest k)

pub named_by : (definition : Definition) (n : ℕ) (name : List ℕ) → IsDistinct bytes_eq (named_parameters definition.parameters) → slice_get (named_parameters definition.parameters) n ≡ Some name
    → list_any (is_word name) definition.body ≡ true → IsNamed definition n
named_by definition n name differ is word =
    any_weaker (is_word name) (λ (token : PpToken). bodies.is_at n (parameter_of (parameters_of definition) token)) (word_names definition n name differ is) definition.body word

-- ---- rule 8

none_broken : (definition : Definition) (breaks : Bool) → own_place definition breaks ≡ None → breaks ≡ false
none_broken definition true e = absurd (some_none definition.place e)
  where
    some_none : (place : Place) → Some place ≡ None → ⊥
    some_none place k = cc
none_broken definition false e = refl

each_passes : {A : Type 0} (test : A → Bool) (items : List A) → list_any (λ x. not (test x)) items ≡ false → AllByRecursion (λ x. test x ≡ true) items
each_passes test [] e = tt
each_passes test (x ∷ items) e = by_test (test x) refl e (each_passes test items)
  where
    by_test : (b : Bool) → test x ≡ b → (not b || list_any (λ y. not (test y)) items) ≡ false → (list_any (λ y. not (test y)) items ≡ false → AllByRecursion (λ y. test y ≡ true) items)
        → AllByRecursion (λ y. test y ≡ true) (x ∷ items)
    by_test true is k rest = (is, rest k)
    by_test false is k rest = absurd (true≢false k)

some_item : {A : Type 0} (items : List A) (k : ℕ) → k < length items → (x : A) × (slice_get items k ≡ Some x)
some_item [] k h = absurd (omega (arith, h))
some_item (x ∷ items) zero h = (x, refl)
some_item (x ∷ items) (suc k) h = some_item items k (omega (arith, h))

pub all_named : (definition : Definition) (reading : Reading) → broken_parameter definition (reading ∷ []) ≡ None → IsDistinct bytes_eq (named_parameters definition.parameters)
    → (n : ℕ) → n < length (named_parameters definition.parameters) → IsNamed definition n
all_named definition reading unbroken differ n few =
    let names = named_parameters definition.parameters in
    let at = some_item names n few in
    let passes = each_passes (is_parameter definition (reading ∷ [])) names (none_broken definition (list_any (λ name. not (is_parameter definition (reading ∷ []) name)) names) unbroken) in
    let own = item_has (λ (name : List ℕ). is_parameter definition (reading ∷ []) name ≡ true) names n at.0 passes at.1 in
    named_by definition n at.0 differ at.1
    (last_of (not (list_any (bytes_eq at.0) keyword_rows)) (not (list_any (defines_in at.0) (reading ∷ []))) (list_any (is_word at.0) definition.body) own)
  where
    last_of : (x y z : Bool) → (x && y && z) ≡ true → z ≡ true
    last_of true true z k = k
    last_of true false z k = absurd (false≢true k)
    last_of false y z k = absurd (false≢true k)

-- ---- readings of a directive

all_weaker : {A : Type 0} (P Q : A → Type 0) → ((x : A) → P x → Q x) → (items : List A) → AllByRecursion P items → AllByRecursion Q items
all_weaker P Q f [] h = tt
all_weaker P Q f (x ∷ items) h = (f x h.0, all_weaker P Q f items h.1)

pub read_as : (setting : Setting) (definition : Definition) (reads : List Read)
    → ((file : ℕ) (bytes : List ℕ) (one other : Definition) → IsMadeIn file bytes one → IsMadeIn file bytes other → one.hash ≡ other.hash → one ≡ other)
    → IsMadeIn definition.place.file (bytes_for setting definition.place.file) definition → AllByRecursion (λ (read : Read). IsMade setting read.definition) reads
    → IsReadAs definition.place.file definition.hash definition reads
read_as setting definition reads one_definition made all =
    all_weaker (λ (read : Read). IsMade setting read.definition) (λ (read : Read). is_at definition.place.file definition.hash read.definition ≡ true → read.definition ≡ definition)
    (λ read own at.
    let other = read.definition in
    let parts = and_parts (is_file other.origin) ((definition.place.file == other.place.file) && (definition.hash == other.hash)) at in
    let both = and_parts (definition.place.file == other.place.file) (definition.hash == other.hash) parts.1 in
    let file = eqb-true definition.place.file other.place.file both.0 in
    let hash = eqb-true definition.hash other.hash both.1 in
    one_definition definition.place.file (bytes_for setting definition.place.file) other definition
    (subst (λ (n : ℕ). IsMadeIn n (bytes_for setting n) other) (sym file) (own parts.0)) made (sym hash)) reads all
