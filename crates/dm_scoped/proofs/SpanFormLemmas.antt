-- A node on typed parts stands where its syntax stands, and they stand inside it, form by form.
use Rattle.std.specs.Prelude.{◌≡◌, ℕ, pos, ◌+◌, ◌<◌, ◌≤◌, Bool, true, false, ◌&&◌, if◌then◌else◌, List, [], ◌∷◌, ◌++◌, length, Option, Some, None, is_some, option_and_then, unwrap_or, refl}
use Rattle.std.proofs.Common.{sym, ap, subst, arith}
use Rattle.dm_token.specs.declared.place.Span.{Span}
use Rattle.dm_token.specs.declared.token.CToken.{CToken}
use Rattle.dm_int.specs.declared.Kind.TheVariants as k
use Rattle.dm_int.specs.declared.Op.{Op}
use Rattle.dm_int.specs.declared.Op.TheVariants as o
use Rattle.dm_type.specs.CTypes.{CType, integer, pointer, array as array_type, bare}
use Rattle.dm_type.specs.TableLaws.{injected}
use Rattle.dm_scope.specs.Scopes.{number_of}
use Rattle.dm_syn.specs.declared.symbol.Symbol.{Symbol}
use Rattle.dm_syn.specs.declared.symbol.Symbol.TheVariants as symbol
use Rattle.dm_syn.specs.Sources.{Source, spelling_at}
use Rattle.dm_syn.specs.Trees.{Expr}
use Rattle.dm_tree.specs.declared.unit.Sort.{Sort}
use Rattle.dm_tree.specs.declared.unit.Sort.TheVariants.{Object, Function, Typedef, Enumerator, Tag}
use Rattle.dm_tree.specs.Scenes.{is_lvalue, is_integer, is_scalar}
use Rattle.dm_tree.specs.Trees.{Label, Tree, label_of, kind_of, spans_of, trees, listed, parts_of}
use Rattle.dm_tree.specs.Trees as label
use Rattle.dm_tree.specs.Units.{Declaration}
use Rattle.dm_scoped.specs.Spans.{IsShorter, is_conversion, EndBefore, AreInside, StandBetween}
use Rattle.dm_typing.specs.Known.{Known, Setting, Outcome, given, broken, if_given}
use Rattle.dm_typing.specs.Operators.{row_at, operator_of_row, operator_of_assignment, sign_of_row}
use Rattle.dm_typing.specs.Conversions.{spans_at, made, as_value, as_type, complete_target, is_complete}
use Rattle.dm_typing.specs.Rules.{named_by_sort, points_to_complete, indexed, member_by_name, is_modifiable, may_be_counted, signed, may_be_cast, operated, rule_of, arms, is_assignable, called, updated}
use Rattle.dm_typing.specs.Typing.{may_be_used, named, kind_numbered, constant_tree, literal_tree, index_tree, typed_index, typed_member, typed_arrow, is_plus_plus, typed_count, typed_address, typed_follow, typed_sign, typed_prefix, typed_sizeof, typed_sizeof_name, typed_cast, typed_operation, typed_logic, typed_binary, typed_choice, typed_store, typed_update, typed_assignment, is_name, is_function_label, typed_call, comma_tree, comma_of, extent}
use Rattle.dm_scoped.proofs.OverLemmas.{pair-of, signed-of, updated-of, value-kept, type-kept, operated-kept, arms-kept, signed-kept, updated-kept}
use Rattle.dm_scoped.proofs.StepLemmas.{first-of}
use Rattle.dm_scoped.proofs.SpanLemmas.{listed-trees, IsAround, outer-some, IsMade, made-kept, outer-of, next-inside, same-inside, is_straight, laid-trees, straight-made, leaf-made, one-made, two-made, three-made, same-made, row-length, row-laid, row-inside, called-alike, alike-row}
use Rattle.dm_scoped.proofs.CollectLemmas.{Yields, more-none, yields-so, yields-none, yields-obeys, yields-if}

-- a value stands where its expression stands
pub value-made : (source : Source) (inner outer : Span) (tree : Tree) → IsMade source inner outer tree → IsMade source inner outer (as_value tree)
value-made source inner outer = value-kept (IsMade source inner outer) (made-kept source inner outer)

pub type-made : (source : Source) (inner outer : Span) (kind : CType) (tree : Tree) → IsMade source inner outer tree → IsMade source inner outer (as_type kind tree)
type-made source inner outer = type-kept (IsMade source inner outer) (made-kept source inner outer)

named-straight : (sort : Sort) (d : ℕ) (type kind : CType) (form : Label) → ◌≡◌ {A = Option (Label × CType)} (named_by_sort sort d type) (Some (form, kind)) → is_straight form ≡ true
named-straight (Object fixed) d type kind form e = subst (λ it. is_straight it ≡ true) (first-of (label.object d) form type kind e) refl
named-straight Function d type kind form e = subst (λ it. is_straight it ≡ true) (first-of (label.function d) form type kind e) refl
named-straight (Enumerator value) d type kind form e = subst (λ it. is_straight it ≡ true) (first-of (label.enumerator d) form (integer k.Int) kind e) refl
named-straight Typedef d type kind form e = absurd (cc)
named-straight Tag d type kind form e = absurd (cc)

-- an array that is indexed has a complete type
indexed-complete : (known : Known) (a b type : CType) → indexed known a b ≡ Some type → is_some (complete_target known type) ≡ true
indexed-complete known a b type e = by-tests (points_to_complete known a) refl (is_integer b) (points_to_complete known b) refl (is_integer a) e
  where
    last : (it : CType) (test other : Bool) → points_to_complete known it ≡ test → (if test && other then Some it else None) ≡ Some type → points_to_complete known type ≡ true
    last it true true is e = subst (λ one. points_to_complete known one ≡ true) (injected it type e) is
    last it true false is e = absurd (cc)
    last it false other is e = absurd (cc)

    by-tests : (one : Bool) → points_to_complete known a ≡ one → (other another : Bool) → points_to_complete known b ≡ another → (more : Bool)
        → (if one && other then Some a else if another && more then Some b else None) ≡ Some type → points_to_complete known type ≡ true
    by-tests true is true another also more e = subst (λ it. points_to_complete known it ≡ true) (injected a type e) is
    by-tests true is false another also more e = last b another more also e
    by-tests false is other another also more e = last b another more also e

module _ (setting : Setting) (known : Known) (inner outer : Span) (around : IsAround inner outer) where
  abbrev Made : Tree → Type 0
  Made tree = IsMade setting.source inner outer tree

  abbrev Fine : Outcome Tree → Type 0
  Fine outcome = Yields (IsMade setting.source inner outer) known outcome

  there : (tree : Tree) → Made tree → Fine (given known tree)
  there tree h = yields-so (IsMade setting.source inner outer) known tree h

  none : (rule : ℕ) → Fine (broken rule inner.first)
  none rule = yields-none (IsMade setting.source inner outer) known rule inner.first

  pub name-yields : (used : Bool) (name : List ℕ) (found : Option Declaration) → Fine (named setting used known (extent inner outer) name found)
  name-yields used name None = none 1
  name-yields used name (Some entry) =
      yields-if (IsMade setting.source inner outer) known (named_by_sort entry.sort (unwrap_or (number_of known.scopes name) 0) entry.kind) 1 inner.first _
      (λ it e. yields-obeys (IsMade setting.source inner outer) known (may_be_used setting used name entry) 37 inner.first _
      (there _ (leaf-made setting.source inner outer around it.0 it.1 (named-straight entry.sort (unwrap_or (number_of known.scopes name) 0) entry.kind it.1 it.0 e))))

  pub constant-made : (found : Option CToken) → Made (constant_tree setting (extent inner outer) found)
  constant-made None = leaf-made setting.source inner outer around (label.number (pos 0)) (integer k.Int) refl
  constant-made (Some token) = leaf-made setting.source inner outer around (label.number token.value) (integer (kind_numbered token.kind)) refl

  pub literal-made : (bytes : List ℕ) → Made (literal_tree setting (extent inner outer) bytes)
  literal-made bytes = leaf-made setting.source inner outer around (label.literal bytes 0) (array_type (integer k.Char) (Some (length bytes + 1))) refl

  -- ---- one operand

  module _ (a whole : Span) (low : inner.first ≤ whole.first) (high : whole.after ≤ inner.after) (short : IsShorter whole inner) where
    one : (form : Label) (kind : CType) (tree : Tree) → is_straight form ≡ true → IsMade setting.source a whole tree → Made (made setting.source (extent inner outer) form kind (tree ∷ []))
    one form kind tree straight h = one-made setting.source inner outer around form kind a whole tree straight low high short h

    pub member-yields : (name : ℕ) (tree : Tree) → IsMade setting.source a whole tree → Fine (typed_member setting known (extent inner outer) name tree)
    member-yields name tree h =
        yields-if (IsMade setting.source inner outer) known (member_by_name known (spelling_at setting.source name) tree) 12 inner.first _
        (λ it e. there _ (one (label.member it.0) it.1 tree refl h))

    pub arrow-yields : (name : ℕ) (tree : Tree) → IsMade setting.source a whole tree → Fine (typed_arrow setting known (extent inner outer) name tree)
    arrow-yields name tree h =
        yields-if (IsMade setting.source inner outer) known (complete_target known (kind_of tree)) 12 inner.first _ (λ to e.
        yields-if (IsMade setting.source inner outer) known (member_by_name known (spelling_at setting.source name) (made setting.source (extent inner outer) label.follow to (tree ∷ []))) 12 inner.first _
        (λ it is. there _ (same-made setting.source inner outer around (label.member it.0) it.1 (made setting.source (extent inner outer) label.follow to (tree ∷ [])) refl (refl, refl) (one label.follow to tree refl h))))

    pub count-yields : (operator : ℕ) (before : Bool) (tree : Tree) → IsMade setting.source a whole tree → Fine (typed_count setting known (extent inner outer) operator before tree)
    count-yields operator before tree h =
        yields-obeys (IsMade setting.source inner outer) known (may_be_counted known tree) 13 inner.first _
        (there _ (one (label.count (is_plus_plus (row_at setting.source operator)) before) (bare (kind_of tree)) tree refl h))

    address-yields : (tree : Tree) → IsMade setting.source a whole tree → Fine (typed_address setting known (extent inner outer) tree)
    address-yields tree h = yields-obeys (IsMade setting.source inner outer) known (is_lvalue tree) 14 inner.first _ (there _ (one label.address (pointer (kind_of tree)) tree refl h))

    follow-yields : (tree : Tree) → IsMade setting.source a whole tree → Fine (typed_follow setting known (extent inner outer) tree)
    follow-yields tree h =
        yields-if (IsMade setting.source inner outer) known (complete_target known (kind_of tree)) 15 inner.first _ (λ to e. there _ (one label.follow to tree refl h))

    sign-yields : (operator : ℕ) (tree : Tree) → IsMade setting.source a whole tree → Fine (typed_sign setting known (extent inner outer) operator tree)
    sign-yields operator tree h =
        yields-if (IsMade setting.source inner outer) known (option_and_then sign_of_row (row_at setting.source operator)) 16 inner.first _ (λ sign e.
        yields-if (IsMade setting.source inner outer) known (signed sign tree) 16 inner.first _
        (λ it is. there _ (one (label.unary sign) it.1 it.0 refl
        (signed-of (IsMade setting.source a whole) (signed sign tree) it is (signed-kept (IsMade setting.source a whole) (made-kept setting.source a whole) sign tree h)))))

    pub prefix-yields : (operator : ℕ) (tree : Tree) (it : Symbol) → IsMade setting.source a whole tree → Fine (typed_prefix setting known (extent inner outer) operator tree it)
    prefix-yields operator tree symbol.Increment h = count-yields operator true tree h
    prefix-yields operator tree symbol.Ampersand h = address-yields tree h
    prefix-yields operator tree symbol.Star h = follow-yields (as_value tree) (value-made setting.source a whole tree h)
    prefix-yields operator tree it h = sign-yields operator (as_value tree) (value-made setting.source a whole tree h)

    pub sizeof-yields : (tree : Tree) → IsMade setting.source a whole tree → Fine (typed_sizeof setting known (extent inner outer) tree)
    sizeof-yields tree h =
        yields-obeys (IsMade setting.source inner outer) known (is_complete known (kind_of tree)) 17 inner.first _ (there _ (one label.sizeof_tree (integer k.ULong) tree refl h))

  -- ---- type names

  pub sizeof-name-yields : (at behind : ℕ) (type : CType) (lengths : List Tree) → inner.first < at → behind ≤ inner.after → StandBetween at behind lengths
      → Fine (typed_sizeof_name setting known (extent inner outer) type lengths)
  sizeof-name-yields at behind type lengths low high row =
      let inside = row-inside (label.sizeof_kind type) (spans_at setting.source (extent inner outer)) inner.first at behind lengths [] (omega (arith, low)) (omega arith) high (omega (arith, low, high)) row high in
      yields-obeys (IsMade setting.source inner outer) known (is_complete known type) 17 inner.first _
      (there _ (straight-made setting.source inner outer around (label.sizeof_kind type) (integer k.ULong) lengths refl
      (subst (λ list. AreInside (label.sizeof_kind type) (spans_at setting.source (extent inner outer)) inner.first list) (more-none lengths) inside) (laid-trees lengths (row-laid at behind lengths row))))

  pub cast-yields : (at behind : ℕ) (a whole : Span) (type : CType) (lengths : List Tree) (operand : Tree) → inner.first < at → behind ≤ whole.first → whole.after ≤ inner.after
      → StandBetween at behind lengths → IsMade setting.source a whole operand → Fine (typed_cast setting known (extent inner outer) type lengths operand)
  cast-yields at behind a whole type lengths operand low mid high row h =
      let spans = spans_at setting.source (extent inner outer) in
      let outer-is = outer-of setting.source a whole operand h in
      let some : whole.first < whole.after = subst (λ (it : Span). it.first < it.after) outer-is (outer-some operand h.1) in
      let length = row-length at behind lengths row in
      let last = next-inside label.convert spans behind operand [] whole outer-is mid (omega (arith, low, length, mid, high)) high in
      let inside = row-inside label.convert spans inner.first at behind lengths (operand ∷ []) (omega (arith, low)) (omega arith) (omega (arith, mid, some, high)) (omega (arith, low, mid, some, high)) row last in
      let order : (listed (trees lengths)) ++ operand ∷ [] ≡ lengths ++ operand ∷ [] = ap (λ list. list ++ operand ∷ []) (listed-trees lengths) in
      yields-obeys (IsMade setting.source inner outer) known (may_be_cast known operand type) 18 inner.first _
      (there _ (refl, (around.0, around.1, around.2, (subst (λ list. AreInside label.convert spans inner.first list) (sym order) inside, tt), (h.1, laid-trees lengths (row-laid at behind lengths row)), tt)))

  -- ---- two operands

  module _ (a b left right : Span) (low : inner.first ≤ left.first) (mid : left.after ≤ right.first) (high : right.after ≤ inner.after)
      (short : IsShorter left inner) (less : IsShorter right inner) where
    two : (form : Label) (kind : CType) (x y : Tree) → is_straight form ≡ true → IsMade setting.source a left x → IsMade setting.source b right y
        → Made (made setting.source (extent inner outer) form kind (x ∷ y ∷ []))
    two form kind x y straight h g = two-made setting.source inner outer around form kind a b left right x y straight low mid high short less h g

    index-made : (x y : Tree) (type : CType) (to : Option CType) → is_some to ≡ true → IsMade setting.source a left x → IsMade setting.source b right y
        → Made (index_tree setting (extent inner outer) x y type to)
    index-made x y type None some h g = absurd (cc)
    index-made x y type (Some to) some h g =
        same-made setting.source inner outer around label.follow to (made setting.source (extent inner outer) (label.binary o.Add) type (x ∷ y ∷ [])) refl (refl, refl)
        (two (label.binary o.Add) type x y refl h g)

    pub index-yields : (x y : Tree) → IsMade setting.source a left x → IsMade setting.source b right y → Fine (typed_index setting known (extent inner outer) x y)
    index-yields x y h g =
        yields-if (IsMade setting.source inner outer) known (indexed known (kind_of x) (kind_of y)) 11 inner.first _
        (λ type e. there _ (index-made x y type (complete_target known type) (indexed-complete known (kind_of x) (kind_of y) type e) h g))

    operation-yields : (x y : Tree) (found : Option Op) → IsMade setting.source a left x → IsMade setting.source b right y → Fine (typed_operation setting known (extent inner outer) x y found)
    operation-yields x y None h g = none 19
    operation-yields x y (Some op) h g =
        let P = IsMade setting.source a left in
        let Q = IsMade setting.source b right in
        yields-if (IsMade setting.source inner outer) known (operated known op x y) (rule_of op) inner.first _
        (λ it e. let parts = pair-of P Q (operated known op x y) it e (operated-kept P Q (made-kept setting.source a left) (made-kept setting.source b right) known x y h g op) in
        there _ (two (label.binary op) it.kind it.left it.right refl parts.0 parts.1))

    logic-yields : (form : Label) (x y : Tree) → is_straight form ≡ true → IsMade setting.source a left x → IsMade setting.source b right y → Fine (typed_logic setting known (extent inner outer) form x y)
    logic-yields form x y straight h g =
        yields-obeys (IsMade setting.source inner outer) known (is_scalar (kind_of x) && is_scalar (kind_of y)) 26 inner.first _ (there _ (two form (integer k.Int) x y straight h g))

    pub binary-yields : (operator : ℕ) (x y : Tree) (it : Symbol) → IsMade setting.source a left x → IsMade setting.source b right y
        → Fine (typed_binary setting known (extent inner outer) operator x y it)
    binary-yields operator x y symbol.And h g = logic-yields label.both x y refl h g
    binary-yields operator x y symbol.Or h g = logic-yields label.either x y refl h g
    binary-yields operator x y it h g = operation-yields x y (option_and_then operator_of_row (row_at setting.source operator)) h g

    store-yields : (x y : Tree) → IsMade setting.source a left x → IsMade setting.source b right y → Fine (typed_store setting known (extent inner outer) x y)
    store-yields x y h g =
        yields-obeys (IsMade setting.source inner outer) known (is_modifiable known x && is_assignable known y (kind_of x)) 28 inner.first _
        (there _ (two label.store (bare (kind_of x)) x (as_type (kind_of x) y) refl h (type-made setting.source b right (kind_of x) y g)))

    update-yields : (x y : Tree) (found : Option Op) → IsMade setting.source a left x → IsMade setting.source b right y → Fine (typed_update setting known (extent inner outer) x y found)
    update-yields x y None h g = none 29
    update-yields x y (Some op) h g =
        let Q = IsMade setting.source b right in
        yields-if (IsMade setting.source inner outer) known (updated known op x y) 29 inner.first _
        (λ it e. there _ (two (label.update op it.0) (bare (kind_of x)) x it.1 refl h (updated-of Q (updated known op x y) it e (updated-kept Q (made-kept setting.source b right) known op x y g))))

    pub assignment-yields : (operator : ℕ) (x y : Tree) (it : Symbol) → IsMade setting.source a left x → IsMade setting.source b right y
        → Fine (typed_assignment setting known (extent inner outer) operator x y it)
    assignment-yields operator x y symbol.Equals h g = store-yields x y h g
    assignment-yields operator x y it h g = update-yields x y (option_and_then operator_of_assignment (row_at setting.source operator)) h g

  -- ---- three

  pub choice-yields : (a b c first second third : Span) (x y z : Tree) → inner.first ≤ first.first → first.after ≤ second.first → second.after ≤ third.first → third.after ≤ inner.after
      → IsShorter first inner → IsShorter second inner → IsShorter third inner → IsMade setting.source a first x → IsMade setting.source b second y → IsMade setting.source c third z
      → Fine (typed_choice setting known (extent inner outer) x y z)
  choice-yields a b c first second third x y z low mid then_mid high short less least h g f =
      let P = IsMade setting.source b second in
      let Q = IsMade setting.source c third in
      yields-obeys (IsMade setting.source inner outer) known (is_scalar (kind_of x)) 27 inner.first _
      (yields-if (IsMade setting.source inner outer) known (arms known y z) 27 inner.first _
      (λ it e. let parts = pair-of P Q (arms known y z) it e (arms-kept P Q (made-kept setting.source b second) (made-kept setting.source c third) known y z g f) in
      there _ (three-made setting.source inner outer around label.choose it.kind a b c first second third x it.left it.right refl low mid then_mid high short less least h parts.0 parts.1)))

  -- ---- lists

  pub call-yields : (callee : Expr) (a whole : Span) (at behind : ℕ) (function : Tree) (values : List Tree) → inner.first ≤ whole.first → whole.after ≤ at → behind < inner.after
      → IsMade setting.source a whole function → StandBetween at behind values → Fine (typed_call setting known (extent inner outer) callee function values)
  call-yields callee a whole at behind function values low mid high h row =
      let spans = spans_at setting.source (extent inner outer) in
      let outer-is = outer-of setting.source a whole function h in
      let some : whole.first < whole.after = subst (λ (it : Span). it.first < it.after) outer-is (outer-some function h.1) in
      let length = row-length at behind values row in
      yields-obeys (IsMade setting.source inner outer) known (is_name callee && is_function_label (label_of function)) 10 inner.first _
      (yields-if (IsMade setting.source inner outer) known (called known (kind_of function) values) 10 inner.first _ (λ it e.
      let passed = alike-row at behind values it.1 (called-alike known (kind_of function) values it e) row in
      let rest = row-inside label.call spans whole.after at behind it.1 [] mid (omega (arith, low, some)) (omega (arith, high)) (omega (arith, low, some, mid, high)) passed (omega (arith, high)) in
      there _ (straight-made setting.source inner outer around label.call it.0 (function ∷ it.1) refl
      (next-inside label.call spans inner.first function it.1 whole outer-is low (omega (arith, mid, length, high, low))
      (subst (λ list. AreInside label.call spans whole.after list) (more-none it.1) rest)) (h.1, laid-trees it.1 (row-laid at behind it.1 passed)))))

  -- commas under one another, of which the last operand stands before the others
  comma-same : (at : ℕ) (first : Tree) (others : List Tree) → inner.first < at → label_of first ≡ label.comma → ((behind : Tree) → at ≤ (spans_of behind).outer.first → EndBefore (parts_of first) behind)
      → Made first → StandBetween at inner.after others → Made (comma_tree setting (extent inner outer) first others)
  comma-same at first [] low is ends h row = h
  comma-same at first (second ∷ others) low is ends h row =
      let spans = spans_at setting.source (extent inner outer) in
      let begins = row.0 in
      let some = outer-some second row.1 in
      let finish = row-length (spans_of second).outer.after inner.after others row.2 in
      comma-same (spans_of second).outer.after (made setting.source (extent inner outer) label.comma (kind_of second) (first ∷ second ∷ [])) others (omega (arith, low, begins, some)) refl
      (λ behind later. later)
      (straight-made setting.source inner outer around label.comma (kind_of second) (first ∷ second ∷ []) refl
      (same-inside label.comma spans inner.first first (second ∷ []) h.0 (omega arith) (refl, ap is_conversion is) (ends second begins)
      (next-inside label.comma spans (inner.first + 1) second [] (spans_of second).outer refl (omega (arith, low, begins)) (omega (arith, low, begins, finish)) finish)) (h.1, (row.1, tt))) row.2

  pub comma-yields : (at : ℕ) (first second : Tree) (others : List Tree) → StandBetween inner.first inner.after (first ∷ second ∷ others)
      → Fine (if_given (comma_of setting (extent inner outer) (first ∷ second ∷ others)) 1 at (λ made. given known made))
  comma-yields at first second others row =
      let spans = spans_at setting.source (extent inner outer) in
      let begins = row.0 in
      let some = outer-some first row.1 in
      let then_begins = row.2.0 in
      let more = outer-some second row.2.1 in
      let ends = row-length (spans_of second).outer.after inner.after others row.2.2 in
      there _ (comma-same (spans_of second).outer.after (made setting.source (extent inner outer) label.comma (kind_of second) (first ∷ second ∷ [])) others
      (omega (arith, begins, some, then_begins, more)) refl (λ behind later. later)
      (straight-made setting.source inner outer around label.comma (kind_of second) (first ∷ second ∷ []) refl
      (next-inside label.comma spans inner.first first (second ∷ []) (spans_of first).outer refl begins (omega (arith, begins, then_begins, more, ends))
      (next-inside label.comma spans (spans_of first).outer.after second [] (spans_of second).outer refl then_begins (omega (arith, begins, some, then_begins, ends)) ends)) (row.1, (row.2.1, tt))) row.2.2)
