-- Values of lvalues, and lvalues that may be written.
use Rattle.std.specs.Prelude.{◌≡◌, ℕ, zero, suc, ◌<◌, Bool, true, false, ◌&&◌, ◌||◌, not, ◌==◌, if◌then◌else◌, IsTrue, List, [], ◌∷◌, length, Option, Some, None, is_some, option_and_then, slice_get, refl, IfSome}
use Rattle.std.proofs.Common.{sym, ap, ◌∙◌, subst, arith, inl, inr, ⊎_elim, not-suc-le-zero}
use Rattle.dm_int.specs.declared.Kind.{Kind}
use Rattle.dm_int.specs.declared.Op.{Op}
use Rattle.dm_int.specs.declared.Op.TheVariants as o
use Rattle.dm_int.specs.Kinds.{promote, common}
use Rattle.dm_type.specs.declared.shape.Member.{Member}
use Rattle.dm_type.specs.CTypes.{CType, integer, pointer, array, struct, const, bare, is_const}
use Rattle.dm_type.specs.Tables.{Table, type_of, members_of}
use Rattle.dm_syn.specs.declared.symbol.Symbol.{Symbol}
use Rattle.dm_syn.specs.declared.symbol.Symbol.TheVariants as symbol
use Rattle.dm_tree.specs.Constants.{integer_kind, kind_if_integer}
use Rattle.dm_tree.specs.Evaluation.{is_shift}
use Rattle.dm_tree.specs.Trees.{Tree, label_of, kind_of, is_statement}
use Rattle.dm_tree.specs.Trees as label
use Rattle.dm_tree.specs.Scenes.{HasConst, itself, of_element, of_member, IsModifiable, IsComplete, is_lvalue, is_array, is_integer, is_pointer, if_pointer}
use Rattle.dm_tree.specs.Operands.{UpdateFits, FitsUpdate, IsCountable, is_comparison, is_additive}
use Rattle.dm_tree.specs.Initialisers.{FitsDecay}
use Rattle.dm_typing.specs.declared.extent.Extent.{Extent}
use Rattle.dm_typing.specs.Known.{Known, Setting, Outcome, given, broken}
use Rattle.dm_typing.specs.Operators.{row_at, operator_of_assignment}
use Rattle.dm_typing.specs.Conversions.{made, as_value, value_of_lvalue, as_kind, promoted, element, members_in, any_member, any_of, has_const_within, has_const, is_complete}
use Rattle.dm_typing.specs.Rules.{is_modifiable, may_be_counted, is_assignable, updated, updated_by, updated_integer, moves, points_to_complete}
use Rattle.dm_typing.specs.Typing.{typed_store, typed_update, typed_assignment, typed_count, typed_prefix}
use Rattle.dm_typing.specs.Sound.{IsProper, AreLayered, scene_of, IsSound, IsSoundValue, Gives}
use Rattle.dm_typing.proofs.KindLemmas.{promoted-again, common-promoted, common-again}
use Rattle.dm_typing.proofs.TypeLemmas.{both-hold, both-true}
use Rattle.dm_typing.proofs.ConversionLemmas.{obeyed, given-if, bare-again, bare-proper, or-left, or-right, as-kind-fits, some-type, complete-of}
use Rattle.dm_typing.proofs.CallLemmas.{assigned-fits, one-of}
use Rattle.dm_typing.proofs.RuleLemmas.{value-sound, address-gives, follow-gives, sign-gives}

-- ---- values

read-sound : (known : Known) (tree : Tree) (kind : CType) → kind_of tree ≡ kind → IsSound known tree → is_lvalue tree ≡ true → IsSoundValue known (value_of_lvalue kind tree)
read-sound known tree (array type n) e sound h =
    (refl, refl, subst IsProper e sound.2, ((h, subst (λ it. FitsDecay it (pointer type)) (sym e) refl), (sound.3, tt)))
read-sound known tree kind e sound h =
    let proper : IsProper kind = subst IsProper e sound.2 in
    (refl, sym (bare-again kind proper), bare-proper kind proper, ((h, ap (λ it. not (is_array it)) e, ap bare (sym e)), (sound.3, tt)))

-- the value that an expression stands for
pub as-value-sound : (known : Known) (tree : Tree) → IsSound known tree → IsSoundValue known (as_value tree)
as-value-sound known tree sound = go (is_lvalue tree) refl
  where
    go : (test : Bool) → is_lvalue tree ≡ test → IsSoundValue known (if test then value_of_lvalue (kind_of tree) tree else tree)
    go true e = read-sound known tree (kind_of tree) refl sound e
    go false e = (both-true (not (is_lvalue tree)) (not (is_statement (label_of tree))) (ap not e) sound.0, sound.1 (ap not e), sound.2, sound.3)

-- what gives a value gives an expression
pub gives-sound : (known : Known) (outcome : Outcome Tree) → Gives known IsSoundValue outcome → Gives known IsSound outcome
gives-sound known (given behind tree) h = (h.0, value-sound known tree h.1)
gives-sound known (broken rule at) h = tt

-- ---- const parts

const-element : (type : CType) → is_const type ≡ true → is_const (element type) ≡ true
const-element (const type) h = refl
const-element type h = absurd (cc)

any-at : (test : CType → Bool) (table : Table) (members : List Member) (n : ℕ) (one : Member) → slice_get members n ≡ Some one
    → test (type_of table one.kind) ≡ true → any_member test table members ≡ true
any-at test table [] zero one s h = absurd (cc)
any-at test table [] (suc n) one s h = absurd (cc)
any-at test table (member ∷ members) zero one s h =
    let same : one ≡ member = cc in
    or-left (test (type_of table member.kind)) (any_member test table members) (subst (λ (it : Member). test (type_of table it.kind) ≡ true) same h)
any-at test table (member ∷ members) (suc n) one s h =
    or-right (test (type_of table member.kind)) (any_member test table members) (any-at test table members n one s h)

-- const at no depth below that of the structs is found
const-within : (table : Table) (layers : AreLayered table) {type : CType} → HasConst table type → (depth : ℕ)
    → ((at : ℕ) (members : List Member) → bare (element type) ≡ struct at → members_of table at ≡ Some members → layers.0 at < depth)
    → has_const_within depth table type ≡ true
unfolding has_const_within
const-within table layers (itself type h) zero below = const-element type h
const-within table layers (itself type h) (suc depth) below =
    or-left (is_const (element type)) (any_of (has_const_within depth table) table (members_in table (element type))) (const-element type h)
const-within table layers (of_element inner n c) zero below = const-within table layers c zero below
const-within table layers (of_element inner n c) (suc depth) below = const-within table layers c (suc depth) below
const-within table layers (of_member at members n one m s c) zero below = absurd (not-suc-le-zero (below at members refl m))
const-within table layers (of_member at members n one m s c) (suc depth) below =
    let P : Option (List Member) → Type 0 = λ found. any_of (has_const_within depth table) table found ≡ true in
    subst P (sym m)
    (any-at (has_const_within depth table) table members n one s
    (const-within table layers c depth
    (λ inside others e k. let lower = layers.1 at members n one inside others m s e k in let here = below at members refl m in grind arith)))

no-const : (table : Table) → AreLayered table → (type : CType) → not (has_const table type) ≡ true → HasConst table type → ⊥
no-const table layers type h c =
    let is = const-within table layers c (length table.structs) (λ at members e m. layers.2 at members m) in
    let no : not true ≡ true = ap not (sym is) ∙ h in absurd (cc)

-- ---- writing

-- `++` and `--` take what is counted
assignment-pick : (test : Bool) (one op : Op) (rest : Option Op) → not (is_comparison one) ≡ true → (rest ≡ Some op → not (is_comparison op) ≡ true)
    → (if test then Some one else rest) ≡ Some op → not (is_comparison op) ≡ true
assignment-pick true one op rest n others h = let same : one ≡ op = cc in subst (λ it. not (is_comparison it) ≡ true) same n
assignment-pick false one op rest n others h = others h

assignment-operator : (row : ℕ) (op : Op) → operator_of_assignment row ≡ Some op → not (is_comparison op) ≡ true
assignment-operator row op h =
    assignment-pick (row == 35) o.Mul op _ refl (assignment-pick (row == 36) o.Div op _ refl (assignment-pick (row == 37) o.Rem op _ refl
    (assignment-pick (row == 38) o.Add op _ refl (assignment-pick (row == 39) o.Sub op _ refl (assignment-pick (row == 40) o.Shl op _ refl
    (assignment-pick (row == 41) o.Shr op _ refl (assignment-pick (row == 42) o.And op _ refl (assignment-pick (row == 43) o.Xor op _ refl
    (assignment-pick (row == 44) o.Or op None refl (λ none. absurd (cc))))))))))) h

module _ (setting : Setting) (known : Known) (span : Extent) (layers : AreLayered known.types) where
  modifiable : (tree : Tree) → is_modifiable known tree ≡ true → IsModifiable (scene_of known) tree
  modifiable tree h =
      let all = both-hold (is_lvalue tree && not (is_array (kind_of tree)) && is_complete known (kind_of tree)) (not (has_const known.types (kind_of tree))) h in
      let some = both-hold (is_lvalue tree && not (is_array (kind_of tree))) (is_complete known (kind_of tree)) all.0 in
      let parts = both-hold (is_lvalue tree) (not (is_array (kind_of tree))) some.0 in
      (parts.0, parts.1, some.1, no-const known.types layers (kind_of tree) all.1)

  pub store-gives : (object value : Tree) → IsSound known object → IsSoundValue known value → Gives known IsSoundValue (typed_store setting known span object value)
  store-gives object value sound other =
      obeyed known IsSoundValue (is_modifiable known object && is_assignable known value (kind_of object)) 28 span.inner.first _
      (λ h. let parts = both-hold (is_modifiable known object) (is_assignable known value (kind_of object)) h in
      let one = assigned-fits known (kind_of object) value other sound.2 parts.1 in (
        refl,
        (
          refl,
          sym (bare-again (kind_of object) sound.2),
          bare-proper (kind_of object) sound.2,
          ((modifiable object parts.0, one.0.0, refl, one.1), (sound.3, (one.0.3, tt))),
        ),
      ))

  -- ++ and --
  countable : (type : CType) → IsProper type → (is_integer type || points_to_complete known type) ≡ true → IsCountable (scene_of known) (bare type)
  countable type proper h =
      let again = bare-again type proper in
      let P : CType → Type 0 = λ it. IsTrue (is_some (kind_if_integer it) || is_some (if_pointer it)) × IfSome (if_pointer it) (IsComplete (scene_of known)) in
      subst P (sym again)
      (⊎_elim (λ whole. (or-left (is_integer type) (is_pointer type) whole, of-integer (bare type) whole))
      (λ points. let to = some-type _ points in
      let parts = complete-of known type to.0 to.1 in
      (or-right (is_integer type) (is_pointer type) (ap is_some parts.0), subst (λ it. IfSome it (IsComplete (scene_of known))) (sym parts.0) parts.1))
      (one-of (is_integer type) (points_to_complete known type) h))
    where
      of-integer : (type : CType) → is_some (kind_if_integer type) ≡ true → IfSome (if_pointer type) (IsComplete (scene_of known))
      of-integer (integer kind) h = tt
      of-integer type h = absurd (cc)

  pub count-gives : (operator : ℕ) (before : Bool) (operand : Tree) → IsSound known operand → Gives known IsSoundValue (typed_count setting known span operator before operand)
  count-gives operator before operand sound =
      obeyed known IsSoundValue (may_be_counted known operand) 13 span.inner.first _
      (λ h. let parts = both-hold (is_modifiable known operand) (is_integer (kind_of operand) || points_to_complete known (kind_of operand)) h in (
        refl,
        (
          refl,
          sym (bare-again (kind_of operand) sound.2),
          bare-proper (kind_of operand) sound.2,
          ((modifiable operand parts.0, refl, countable (kind_of operand) sound.2 parts.1), (sound.3, tt)),
        ),
      ))

  -- compound assignments
  IsUpdate : Op → Tree → CType × Tree → Type 0
  IsUpdate op object one =
      IsSoundValue known one.1 × UpdateFits (scene_of known) op (bare (kind_of object)) one.0 (integer_kind (bare (kind_of object))) (integer_kind (kind_of one.1))

  updated-fits : (op : Op) → not (is_comparison op) ≡ true → (object value : Tree) → IsSound known object → IsSoundValue known value
      → (left right : Option Kind) → integer_kind (kind_of object) ≡ left → integer_kind (kind_of value) ≡ right
      → (one : CType × Tree) → updated_by known op (bare (kind_of object)) value left right ≡ Some one → IsUpdate op object one
  unfolding IsUpdate
  updated-fits op plain object value sound other (Some left) (Some right) p q one h =
      let same : updated_integer op left right value ≡ one = cc in
      subst (IsUpdate op object) same (go (is_shift op) refl)
    where
      kinds : (it : Tree) (works : CType) (kind : Kind) → kind_of it ≡ integer kind → FitsUpdate op left works kind
          → UpdateFits (scene_of known) op (bare (kind_of object)) works (integer_kind (bare (kind_of object))) (integer_kind (kind_of it))
      kinds it works kind e fits =
          let l : Some left ≡ integer_kind (bare (kind_of object)) = sym (ap kind_if_integer (bare-again (kind_of object) sound.2) ∙ p) in
          let r : Some kind ≡ integer_kind (kind_of it) = ap integer_kind (sym e) in
          subst (λ a. UpdateFits (scene_of known) op (bare (kind_of object)) works a (integer_kind (kind_of it))) l
          (subst (λ b. UpdateFits (scene_of known) op (bare (kind_of object)) works (Some left) b) r fits)

      go : (test : Bool) → is_shift op ≡ test
          → IsUpdate op object (if test then (integer (promote left), promoted right value) else (integer (common left right), as_kind (common left right) value))
      go true e =
          let it = as-kind-fits known (promote right) value other (ap is_some q) in (
            it.0,
            kinds (promoted right value) (integer (promote left)) (promote right) it.1
                (plain, promoted-again right, ap (λ test. integer (if test then promote left else promote right)) (sym e), inl e),
          )
      go false e =
          let it = as-kind-fits known (common left right) value other (ap is_some q) in (
            it.0,
            kinds (as_kind (common left right) value) (integer (common left right)) (common left right) it.1
                (plain, common-promoted left right, ap (λ test. integer (if test then promote left else common left right)) (sym e), inr (common-again left right)),
          )
  updated-fits op plain object value sound other None (Some right) p q one h =
      go (moves op && points_to_complete known (bare (kind_of object))) refl h
    where
      additive : (op : Op) → moves op ≡ true → is_additive op ≡ true
      additive o.Add h = refl
      additive o.Sub h = refl
      additive op h = absurd (cc)

      fits : (moves op && points_to_complete known (bare (kind_of object))) ≡ true
          → UpdateFits (scene_of known) op (bare (kind_of object)) (bare (kind_of object)) None (Some right)
      fits e =
          let parts = both-hold (moves op) (points_to_complete known (bare (kind_of object))) e in
          let to = some-type _ parts.1 in
          let complete = complete-of known (bare (kind_of object)) to.0 to.1 in
          (additive op parts.0, subst (λ it. IfSome it (IsComplete (scene_of known))) (sym complete.0) complete.1, ap is_some complete.0, refl)

      go : (test : Bool) → (moves op && points_to_complete known (bare (kind_of object))) ≡ test
          → (if test then Some (bare (kind_of object), value) else None) ≡ Some one → IsUpdate op object one
      go true e h =
          let same : (bare (kind_of object), value) ≡ one = cc in
          let l : None ≡ integer_kind (bare (kind_of object)) = sym (ap kind_if_integer (bare-again (kind_of object) sound.2) ∙ p) in
          subst (IsUpdate op object) same (
            other,
            subst (λ a. UpdateFits (scene_of known) op (bare (kind_of object)) (bare (kind_of object)) a (integer_kind (kind_of value))) l
                (subst (λ b. UpdateFits (scene_of known) op (bare (kind_of object)) (bare (kind_of object)) None b) (sym q) (fits e)),
          )
      go false e h = absurd (cc)
  updated-fits op plain object value sound other left right p q one h = absurd (cc)

  update-sound : (op : Op) → not (is_comparison op) ≡ true → (object value : Tree) → IsSound known object → IsSoundValue known value
      → (one : CType × Tree) → updated known op object value ≡ Some one
      → IsSoundValue known (made setting.source span (label.update op one.0) (bare (kind_of object)) (object ∷ one.1 ∷ []))
  unfolding IsUpdate
  update-sound op plain object value sound other one h = go (is_modifiable known object) refl h
    where
      go : (test : Bool) → is_modifiable known object ≡ test
          → (if test then updated_by known op (bare (kind_of object)) value (integer_kind (kind_of object)) (integer_kind (kind_of value)) else None) ≡ Some one
          → IsSoundValue known (made setting.source span (label.update op one.0) (bare (kind_of object)) (object ∷ one.1 ∷ []))
      go true e h =
          let fits = updated-fits op plain object value sound other (integer_kind (kind_of object)) (integer_kind (kind_of value)) refl refl one h in (
            refl,
            sym (bare-again (kind_of object) sound.2),
            bare-proper (kind_of object) sound.2,
            ((modifiable object e, fits.0.0, refl, fits.1), (sound.3, (fits.0.3, tt))),
          )
      go false e h = absurd (cc)

  pub update-gives : (object value : Tree) (found : Option Op) → ((op : Op) → found ≡ Some op → not (is_comparison op) ≡ true)
      → IsSound known object → IsSoundValue known value → Gives known IsSoundValue (typed_update setting known span object value found)
  update-gives object value None plain sound other = tt
  update-gives object value (Some op) plain sound other =
      given-if known IsSoundValue (updated known op object value) 29 span.inner.first _
      (λ one h. (refl, update-sound op (plain op refl) object value sound other one h))

  assigned-operator : (found : Option ℕ) (op : Op) → option_and_then operator_of_assignment found ≡ Some op → not (is_comparison op) ≡ true
  assigned-operator (Some row) op h = assignment-operator row op h
  assigned-operator None op h = absurd (cc)

  pub assignment-gives : (operator : ℕ) (object value : Tree) (it : Symbol) → IsSound known object → IsSoundValue known value
      → Gives known IsSoundValue (typed_assignment setting known span operator object value it)
  assignment-gives operator object value symbol.Equals sound other = store-gives object value sound other
  assignment-gives operator object value it sound other =
      update-gives object value (option_and_then operator_of_assignment (row_at setting.source operator)) (assigned-operator (row_at setting.source operator)) sound other

  -- prefix operators
  pub prefix-gives : (operator : ℕ) (operand : Tree) (it : Symbol) → IsSound known operand → Gives known IsSound (typed_prefix setting known span operator operand it)
  prefix-gives operator operand symbol.Increment sound = gives-sound known _ (count-gives operator true operand sound)
  prefix-gives operator operand symbol.Ampersand sound = gives-sound known _ (address-gives setting known span operand sound)
  prefix-gives operator operand symbol.Star sound = follow-gives setting known span (as_value operand) (as-value-sound known operand sound)
  prefix-gives operator operand it sound = gives-sound known _ (sign-gives setting known span operator (as_value operand) (as-value-sound known operand sound))
