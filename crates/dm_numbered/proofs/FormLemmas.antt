-- The nodes that the forms of expressions make: each that names an entry is a name, or one of an operand.
use Rattle.std.specs.Prelude.{◌≡◌, ℕ, slice_get, Bool, true, false, ◌&&◌, ◌==◌, if◌then◌else◌, List, [], ◌∷◌, Option, Some, None, option_map, option_and_then, unwrap_or, refl}
use Rattle.std.specs.List.{AllByRecursion}
use Rattle.std.proofs.Common.{subst}
use Rattle.dm_token.specs.declared.token.CToken.{CToken}
use Rattle.dm_int.specs.declared.Kind.{Kind}
use Rattle.dm_int.specs.declared.Kind.TheVariants as k
use Rattle.dm_int.specs.declared.Op.{Op}
use Rattle.dm_int.specs.declared.Op.TheVariants as o
use Rattle.dm_int.specs.Kinds.{promote, common}
use Rattle.dm_type.specs.TableLaws.{injected}
use Rattle.dm_type.specs.CTypes.{CType, CTypes, void, integer, pointer, array, struct, function as function_type, const, no_types, more_types, bare}
use Rattle.dm_scope.specs.Scopes.{number_of}
use Rattle.dm_syn.specs.declared.symbol.Symbol.{Symbol}
use Rattle.dm_syn.specs.declared.symbol.Symbol.TheVariants as symbol
use Rattle.dm_syn.specs.Sources.{spelling_at}
use Rattle.dm_syn.specs.Trees.{Expr}
use Rattle.dm_tree.specs.declared.tree.Sign.{Sign}
use Rattle.dm_tree.specs.declared.tree.Sign.TheVariants as s
use Rattle.dm_tree.specs.declared.unit.Sort.{Sort}
use Rattle.dm_tree.specs.declared.unit.Sort.TheVariants.{Object, Function, Typedef, Enumerator, Tag}
use Rattle.dm_tree.specs.Constants.{integer_kind}
use Rattle.dm_tree.specs.Evaluation.{is_shift}
use Rattle.dm_tree.specs.Scenes.{is_lvalue, target, is_integer, is_pointer, is_scalar}
use Rattle.dm_tree.specs.Trees.{Label, Spans, Tree, node, kind_of, label_of, trees}
use Rattle.dm_tree.specs.Trees as label
use Rattle.dm_tree.specs.Units.{Declaration}
use Rattle.dm_typing.specs.declared.extent.Extent.{Extent}
use Rattle.dm_typing.specs.Known.{Known, Outcome, given, broken, after, with_it, obeys, if_given, meaning_of}
use Rattle.dm_typing.specs.Operators.{row_at, operator_of_row, operator_of_assignment, sign_of_row}
use Rattle.dm_typing.specs.Conversions.{spans_at, made, over, is_same, is_complete, complete_target, value_of_lvalue, as_value, as_type, as_kind, promoted, is_null}
use Rattle.dm_typing.specs.Rules.{named_by_sort, Pair, pair, point_alike, points_to_complete, is_void_pointer, indexed, member_by_name, may_be_counted, signed_integer, signed, may_be_cast, of_kind, of_integers, of_pointer_and_integer, ordered, equated, of_others, of_kinds, operated, rule_of, arms_by_targets, both_as, arms_of_types, arms_of_kinds, arms, is_modifiable, is_assignable, put_before, passed, called, updated_integer, updated_by, updated, moves}
use Rattle.dm_typing.specs.Typing.{may_be_used, named, constant_tree, literal_tree, index_tree, typed_index, typed_member, typed_arrow, typed_count, typed_address, typed_follow, typed_sign, typed_prefix, typed_sizeof, typed_sizeof_name, typed_cast, typed_operation, typed_logic, typed_binary, typed_choice, typed_store, typed_update, typed_assignment, is_name, is_function_label, typed_call, comma_tree, comma_of}
use Rattle.dm_names.specs.declared.seen.Seen.{Seen}
use Rattle.dm_numbered.proofs.StateLemmas.{Frame, IsSaid, EachSaid, EachSaidIn, Good}

module _ (c : Frame) where
  abbrev pub Each : Tree → Type 0
  Each tree = EachSaid c.Told tree

  abbrev pub EachOf : List Tree → Type 0
  EachOf list = AllByRecursion (EachSaid c.Told) list

  -- something typed is so, where this is seen of names behind it
  abbrev pub Yields : {A : Type 0} → Seen → (A → Type 0) → Outcome A → Type 0
  Yields seen Q (given behind it) = Good c behind seen × Q it
  Yields seen Q (broken rule at) = Unit {0}

  abbrev pub Any : {A : Type 0} → A → Type 0
  Any it = Unit {0}

  pub after-yields : {A B : Type 0} (mid last : Seen) (Q : A → Type 0) (R : B → Type 0) (one : Outcome A) (next : Known → A → Outcome B) → Yields mid Q one
      → ((behind : Known) (it : A) → Good c behind mid → Q it → Yields last R (next behind it)) → Yields last R (after one next)
  after-yields mid last Q R (given behind it) next h step = step behind it h.0 h.1
  after-yields mid last Q R (broken rule at) next h step = tt

  pub with-yields : {A B : Type 0} (seen : Seen) (Q : A → Type 0) (R : B → Type 0) (one : Outcome A) (made : Known → A → B) → Yields seen Q one
      → ((behind : Known) (it : A) → Q it → R (made behind it)) → Yields seen R (with_it one made)
  with-yields seen Q R (given behind it) made h step = (h.0, step behind it h.1)
  with-yields seen Q R (broken rule at) made h step = tt

  pub obeys-yields : {A : Type 0} (seen : Seen) (Q : A → Type 0) (test : Bool) (rule at : ℕ) (next : Outcome A) → Yields seen Q next → Yields seen Q (obeys test rule at next)
  obeys-yields seen Q true rule at next h = h
  obeys-yields seen Q false rule at next h = tt

  pub if-yields : {A B : Type 0} (seen : Seen) (Q : B → Type 0) (found : Option A) (rule at : ℕ) (next : A → Outcome B) → ((it : A) → found ≡ Some it → Yields seen Q (next it))
      → Yields seen Q (if_given found rule at next)
  if-yields seen Q (Some it) rule at next step = step it refl
  if-yields seen Q None rule at next step = tt

  -- what is found is so, if there is something
  abbrev pub Found : {A : Type 0} → (A → Type 0) → Option A → Type 0
  Found Q None = Unit {0}
  Found Q (Some it) = Q it

  pub found-yields : {A B : Type 0} (seen : Seen) (F : A → Type 0) (Q : B → Type 0) (found : Option A) (rule at : ℕ) (next : A → Outcome B) → Found F found
      → ((it : A) → F it → Yields seen Q (next it)) → Yields seen Q (if_given found rule at next)
  found-yields seen F Q (Some it) rule at next h step = step it h
  found-yields seen F Q None rule at next h step = tt

  found-if : {A : Type 0} (F : A → Type 0) (test : Bool) (one other : Option A) → Found F one → Found F other → Found F (if test then one else other)
  found-if F true one other h k = h
  found-if F false one other h k = k

  found-map : {A B : Type 0} (F : B → Type 0) (f : A → B) (found : Option A) → ((it : A) → F (f it)) → Found F (option_map f found)
  found-map F f None h = tt
  found-map F f (Some it) h = h it

  -- ---- nodes

  pub each-in : (list : List Tree) → EachOf list → EachSaidIn c.Told (trees list)
  each-in [] h = tt
  each-in (tree ∷ list) h = (h.0, each-in list h.1)

  over-each : (form : Label) (kind : CType) (tree : Tree) → ((spans : Spans) → IsSaid c.Told form spans) → Each tree → Each (over form kind tree)
  over-each form kind (node label type spans parts) fit h = (fit spans, (h, tt))

  pub value-each : (tree : Tree) → Each tree → Each (as_value tree)
  value-each tree h = by (is_lvalue tree) (kind_of tree)
    where
      read : (type : CType) → Each (value_of_lvalue type tree)
      read (array type n) = over-each label.decay (pointer type) tree (λ spans. tt) h
      read void = over-each label.read (bare void) tree (λ spans. tt) h
      read (integer kind) = over-each label.read (bare (integer kind)) tree (λ spans. tt) h
      read (pointer type) = over-each label.read (bare (pointer type)) tree (λ spans. tt) h
      read (struct n) = over-each label.read (bare (struct n)) tree (λ spans. tt) h
      read (function_type type parameters) = over-each label.read (bare (function_type type parameters)) tree (λ spans. tt) h
      read (const type) = over-each label.read (bare (const type)) tree (λ spans. tt) h

      by : (b : Bool) (type : CType) → Each (if b then value_of_lvalue type tree else tree)
      by true type = read type
      by false type = h

  pub type-each : (kind : CType) (tree : Tree) → Each tree → Each (as_type kind tree)
  type-each kind tree h = by (is_same (kind_of tree) (bare kind))
    where
      by : (b : Bool) → Each (if b then tree else over label.convert (bare kind) tree)
      by true = h
      by false = over-each label.convert (bare kind) tree (λ spans. tt) h

  -- ---- operands in pairs

  abbrev EachPair : Pair → Type 0
  EachPair it = Each it.left × Each it.right

  module _ (a b : Tree) (left : Each a) (right : Each b) where
    integers-each : (op : Op) (one other : Kind) → EachPair (of_integers op one other a b)
    integers-each op one other = by (is_shift op)
      where
        by : (t : Bool) → EachPair (if t then pair (promoted one a) (promoted other b) (integer (promote one)) else of_kind op (common one other) a b)
        by true = (type-each (integer (promote one)) a left, type-each (integer (promote other)) b right)
        by false = (type-each (integer (common one other)) a left, type-each (integer (common one other)) b right)

    ordered-each : Found EachPair (ordered a b)
    ordered-each = found-if EachPair (point_alike (kind_of a) (kind_of b)) (Some (pair a b (integer k.Int))) None (left, right) tt

    moved-each : (known : Known) → Found EachPair (of_pointer_and_integer known o.Add a b) × Found EachPair (of_pointer_and_integer known o.Sub a b)
    moved-each known = (
      found-if EachPair (points_to_complete known (kind_of a) && is_integer (kind_of b)) (Some (pair a b (kind_of a))) _ (left, right)
          (found-if EachPair (points_to_complete known (kind_of b) && is_integer (kind_of a)) (Some (pair a b (kind_of b))) None (left, right) tt),
      found-if EachPair (points_to_complete known (kind_of a) && is_integer (kind_of b)) (Some (pair a b (kind_of a))) _ (left, right)
          (found-if EachPair (points_to_complete known (kind_of a) && points_to_complete known (kind_of b) && point_alike (kind_of a) (kind_of b)) (Some (pair a b (integer k.Long))) None (left, right) tt),
    )

    equated-each : (known : Known) → Found EachPair (equated known a b)
    equated-each known =
        found-if EachPair (point_alike (kind_of a) (kind_of b)) (Some (pair a b (integer k.Int))) _ (left, right)
        (found-if EachPair (is_pointer (kind_of a) && is_null known b) (Some (pair a (as_type (kind_of a) b) (integer k.Int))) _ (left, type-each (kind_of a) b right)
        (found-if EachPair (is_pointer (kind_of b) && is_null known a) (Some (pair (as_type (kind_of b) a) b (integer k.Int))) _ (type-each (kind_of b) a left, right)
        (found-if EachPair (is_void_pointer (kind_of a) && is_pointer (kind_of b)) (Some (pair a (as_type (kind_of a) b) (integer k.Int))) _ (left, type-each (kind_of a) b right)
        (found-if EachPair (is_pointer (kind_of a) && is_void_pointer (kind_of b)) (Some (pair (as_type (kind_of b) a) b (integer k.Int))) None (type-each (kind_of b) a left, right) tt))))

    others-each : (known : Known) (op : Op) → Found EachPair (of_others known op a b)
    others-each known o.Add = (moved-each known).0
    others-each known o.Sub = (moved-each known).1
    others-each known o.Less = ordered-each
    others-each known o.Greater = ordered-each
    others-each known o.LessEq = ordered-each
    others-each known o.GreaterEq = ordered-each
    others-each known o.Equal = equated-each known
    others-each known o.NotEqual = equated-each known
    others-each known o.Mul = tt
    others-each known o.Div = tt
    others-each known o.Rem = tt
    others-each known o.Shl = tt
    others-each known o.Shr = tt
    others-each known o.And = tt
    others-each known o.Xor = tt
    others-each known o.Or = tt

    operated-each : (known : Known) (op : Op) → Found EachPair (operated known op a b)
    operated-each known op = by (integer_kind (kind_of a)) (integer_kind (kind_of b))
      where
        by : (one other : Option Kind) → Found EachPair (of_kinds known op a b one other)
        by (Some one) (Some other) = integers-each op one other
        by (Some one) None = others-each known op
        by None other = others-each known op

    as-each : (kind : CType) → EachPair (both_as a b kind)
    as-each kind = (type-each kind a left, type-each kind b right)

    targets-each : (known : Known) (one other : CType) → Found EachPair (option_map (both_as a b) (arms_by_targets known a b (target one) (target other)))
    targets-each known one other = found-map EachPair (both_as a b) (arms_by_targets known a b (target one) (target other)) as-each

    types-each : (known : Known) (one other : CType) → Found EachPair (arms_of_types known a b one other)
    types-each known void void = as-each void
    types-each known (struct m) (struct n) = found-if EachPair (m == n) (Some (pair a b (struct m))) None (left, right) tt
    types-each known one other = targets-each known one other

    arms-each : (known : Known) → Found EachPair (arms known a b)
    arms-each known = by (integer_kind (kind_of a)) (integer_kind (kind_of b))
      where
        by : (one other : Option Kind) → Found EachPair (arms_of_kinds known a b one other)
        by (Some one) (Some other) = as-each (integer (common one other))
        by (Some one) None = types-each known (kind_of a) (kind_of b)
        by None other = types-each known (kind_of a) (kind_of b)

  -- ---- arguments and what is written

  passed-each : (known : Known) (values : List Tree) (types : CTypes) → EachOf values → Found EachOf (passed known values types)
  passed-each known [] no_types h = tt
  passed-each known [] (more_types type types) h = tt
  passed-each known (value ∷ values) no_types h = tt
  passed-each known (value ∷ values) (more_types type types) h = found-if EachOf (is_assignable known value type) (put_before (as_type type value) (passed known values types)) None (put (passed known values types) (passed-each known values types h.1)) tt
    where
      put : (rest : Option (List Tree)) → Found EachOf rest → Found EachOf (put_before (as_type type value) rest)
      put None k = tt
      put (Some list) k = (type-each type value h.0, k)

  abbrev EachArgument : CType × List Tree → Type 0
  EachArgument it = EachOf it.1

  called-each : (known : Known) (kind : CType) (values : List Tree) → EachOf values → Found EachArgument (called known kind values)
  called-each known (function_type result parameters) values h = by (passed known values parameters) (passed-each known values parameters h)
    where
      by : (found : Option (List Tree)) → Found EachOf found → Found EachArgument (option_map (λ list. (bare result, list)) found)
      by None k = tt
      by (Some list) k = k
  called-each known void values h = tt
  called-each known (integer kind) values h = tt
  called-each known (pointer type) values h = tt
  called-each known (array type n) values h = tt
  called-each known (struct n) values h = tt
  called-each known (const type) values h = tt

  abbrev EachConverted : CType × Tree → Type 0
  EachConverted it = Each it.1

  updated-each : (known : Known) (op : Op) (written value : Tree) → Each value → Found EachConverted (updated known op written value)
  updated-each known op written value h = found-if EachConverted (is_modifiable known written) _ None (by (bare (kind_of written)) (integer_kind (kind_of written)) (integer_kind (kind_of value))) tt
    where
      of_both : (one other : Kind) → EachConverted (updated_integer op one other value)
      of_both one other = shifted (is_shift op)
        where
          shifted : (b : Bool) → EachConverted (if b then (integer (promote one), promoted other value) else (integer (common one other), as_kind (common one other) value))
          shifted true = type-each (integer (promote other)) value h
          shifted false = type-each (integer (common one other)) value h

      by : (type : CType) (one other : Option Kind) → Found EachConverted (updated_by known op type value one other)
      by type (Some one) (Some other) = of_both one other
      by type (Some one) None = tt
      by type None (Some other) = found-if EachConverted (moves op && points_to_complete known type) (Some (type, value)) None h tt
      by type None None = tt

  abbrev EachSigned : Tree × CType → Type 0
  EachSigned it = Each it.0

  signed-each : (sign : Sign) (tree : Tree) → Each tree → Found EachSigned (signed sign tree)
  signed-each s.Not tree h = found-if EachSigned (is_scalar (kind_of tree)) (Some (tree, integer k.Int)) None h tt
  signed-each s.Plus tree h = found-map EachSigned (signed_integer tree) (integer_kind (kind_of tree)) (λ kind. type-each (integer (promote kind)) tree h)
  signed-each s.Minus tree h = found-map EachSigned (signed_integer tree) (integer_kind (kind_of tree)) (λ kind. type-each (integer (promote kind)) tree h)
  signed-each s.Complement tree h = found-map EachSigned (signed_integer tree) (integer_kind (kind_of tree)) (λ kind. type-each (integer (promote kind)) tree h)

  -- ---- the forms

  module _ (span : Extent) (seen : Seen) where
    abbrev Tells : ℕ → Type 0
    Tells number = c.Told (record { at = span.inner.first; tag = false; number = Some number })

    said-by : (sort : Sort) (number : ℕ) (kind : CType) (it : Label × CType) → named_by_sort sort number kind ≡ Some it → Tells number → IsSaid c.Told it.0 (spans_at c.setting.source span)
    said-by (Object fixed) number kind it e told = subst (λ (one : Label × CType). IsSaid c.Told one.0 (spans_at c.setting.source span)) (injected (label.object number, kind) it e) told
    said-by Function number kind it e told = subst (λ (one : Label × CType). IsSaid c.Told one.0 (spans_at c.setting.source span)) (injected (label.function number, kind) it e) told
    said-by (Enumerator value) number kind it e told =
        subst (λ (one : Label × CType). IsSaid c.Told one.0 (spans_at c.setting.source span)) (injected (label.enumerator number, integer k.Int) it e) told
    said-by Typedef number kind it e told = absurd (cc)
    said-by Tag number kind it e told = absurd (cc)

    number-there : (found : Option ℕ) (declared : List Declaration) (entry : Declaration) → option_and_then (slice_get declared) found ≡ Some entry → found ≡ Some (unwrap_or found 0)
    number-there (Some n) declared entry e = refl
    number-there None declared entry e = absurd (cc)

    -- a name, of whose number it is told
    pub named-yields : (used : Bool) (known : Known) (name : List ℕ) (found : Option Declaration) → meaning_of known name ≡ found
        → ((number : ℕ) → number_of known.scopes name ≡ Some number → Tells number) → Good c known seen → Yields seen Each (named c.setting used known span name found)
    named-yields used known name None is told good = tt
    named-yields used known name (Some entry) is told good =
        let number = unwrap_or (number_of known.scopes name) 0 in
        if-yields seen Each (named_by_sort entry.sort number entry.kind) 1 span.inner.first _
        (λ it e. obeys-yields seen Each (may_be_used c.setting used name entry) 37 span.inner.first _
        (good, (said-by entry.sort number entry.kind it e (told number (number-there (number_of known.scopes name) known.declared entry is)), tt)))

    pub constant-each : (token : Option CToken) → Each (constant_tree c.setting span token)
    constant-each None = (tt, tt)
    constant-each (Some token) = (tt, tt)

    pub literal-each : (bytes : List ℕ) → Each (literal_tree c.setting span bytes)
    literal-each bytes = (tt, tt)

    pub index-yields : (known : Known) (a b : Tree) → Good c known seen → Each a → Each b → Yields seen Each (typed_index c.setting known span a b)
    index-yields known a b good left right = if-yields seen Each (indexed known (kind_of a) (kind_of b)) 11 span.inner.first _ (λ type e. (good, by type (complete_target known type)))
      where
        by : (type : CType) (to : Option CType) → Each (index_tree c.setting span a b type to)
        by type None = left
        by type (Some to) = (tt, ((tt, (left, (right, tt))), tt))

    pub member-yields : (known : Known) (name : ℕ) (whole : Tree) → Good c known seen → Each whole → Yields seen Each (typed_member c.setting known span name whole)
    member-yields known name whole good h = if-yields seen Each (member_by_name known (spelling_at c.setting.source name) whole) 12 span.inner.first _ (λ it e. (good, (tt, (h, tt))))

    pub arrow-yields : (known : Known) (name : ℕ) (pointing : Tree) → Good c known seen → Each pointing → Yields seen Each (typed_arrow c.setting known span name pointing)
    arrow-yields known name pointing good h =
        if-yields seen Each (complete_target known (kind_of pointing)) 12 span.inner.first _ (λ to e. member-yields known name (made c.setting.source span label.follow to (pointing ∷ [])) good (tt, (h, tt)))

    pub count-yields : (known : Known) (operator : ℕ) (before : Bool) (operand : Tree) → Good c known seen → Each operand → Yields seen Each (typed_count c.setting known span operator before operand)
    count-yields known operator before operand good h = obeys-yields seen Each (may_be_counted known operand) 13 span.inner.first _ (good, (tt, (h, tt)))

    address-yields : (known : Known) (operand : Tree) → Good c known seen → Each operand → Yields seen Each (typed_address c.setting known span operand)
    address-yields known operand good h = obeys-yields seen Each (is_lvalue operand) 14 span.inner.first _ (good, (tt, (h, tt)))

    follow-yields : (known : Known) (operand : Tree) → Good c known seen → Each operand → Yields seen Each (typed_follow c.setting known span operand)
    follow-yields known operand good h = if-yields seen Each (complete_target known (kind_of operand)) 15 span.inner.first _ (λ to e. (good, (tt, (h, tt))))

    sign-yields : (known : Known) (operator : ℕ) (operand : Tree) → Good c known seen → Each operand → Yields seen Each (typed_sign c.setting known span operator operand)
    sign-yields known operator operand good h =
        if-yields seen Each (option_and_then sign_of_row (row_at c.setting.source operator)) 16 span.inner.first _
        (λ sign e. found-yields seen EachSigned Each (signed sign operand) 16 span.inner.first _ (signed-each sign operand h) (λ it k. (good, (tt, (k, tt)))))

    pub prefix-yields : (known : Known) (operator : ℕ) (operand : Tree) (it : Symbol) → Good c known seen → Each operand → Yields seen Each (typed_prefix c.setting known span operator operand it)
    prefix-yields known operator operand symbol.Increment good h = count-yields known operator true operand good h
    prefix-yields known operator operand symbol.Ampersand good h = address-yields known operand good h
    prefix-yields known operator operand symbol.Star good h = follow-yields known (as_value operand) good (value-each operand h)
    prefix-yields known operator operand it good h = sign-yields known operator (as_value operand) good (value-each operand h)

    pub sizeof-yields : (known : Known) (operand : Tree) → Good c known seen → Each operand → Yields seen Each (typed_sizeof c.setting known span operand)
    sizeof-yields known operand good h = obeys-yields seen Each (is_complete known (kind_of operand)) 17 span.inner.first _ (good, (tt, (h, tt)))

    pub sizeof-name-yields : (known : Known) (type : CType) (lengths : List Tree) → Good c known seen → EachOf lengths → Yields seen Each (typed_sizeof_name c.setting known span type lengths)
    sizeof-name-yields known type lengths good h = obeys-yields seen Each (is_complete known type) 17 span.inner.first _ (good, (tt, each-in lengths h))

    pub cast-yields : (known : Known) (type : CType) (lengths : List Tree) (operand : Tree) → Good c known seen → EachOf lengths → Each operand → Yields seen Each (typed_cast c.setting known span type lengths operand)
    cast-yields known type lengths operand good h k = obeys-yields seen Each (may_be_cast known operand type) 18 span.inner.first _ (good, (tt, (k, each-in lengths h)))

    operation-yields : (known : Known) (a b : Tree) (op : Option Op) → Good c known seen → Each a → Each b → Yields seen Each (typed_operation c.setting known span a b op)
    operation-yields known a b None good left right = tt
    operation-yields known a b (Some op) good left right =
        found-yields seen EachPair Each (operated known op a b) (rule_of op) span.inner.first _ (operated-each a b left right known op) (λ it h. (good, (tt, (h.0, (h.1, tt)))))

    logic-yields : (known : Known) (form : Label) (a b : Tree) → IsSaid c.Told form (spans_at c.setting.source span) → Good c known seen → Each a → Each b
        → Yields seen Each (typed_logic c.setting known span form a b)
    logic-yields known form a b fit good left right = obeys-yields seen Each (is_scalar (kind_of a) && is_scalar (kind_of b)) 26 span.inner.first _ (good, (fit, (left, (right, tt))))

    pub binary-yields : (known : Known) (operator : ℕ) (a b : Tree) (it : Symbol) → Good c known seen → Each a → Each b → Yields seen Each (typed_binary c.setting known span operator a b it)
    binary-yields known operator a b symbol.And good left right = logic-yields known label.both a b tt good left right
    binary-yields known operator a b symbol.Or good left right = logic-yields known label.either a b tt good left right
    binary-yields known operator a b it good left right = operation-yields known a b (option_and_then operator_of_row (row_at c.setting.source operator)) good left right

    pub choice-yields : (known : Known) (condition a b : Tree) → Good c known seen → Each condition → Each a → Each b → Yields seen Each (typed_choice c.setting known span condition a b)
    choice-yields known condition a b good first left right =
        obeys-yields seen Each (is_scalar (kind_of condition)) 27 span.inner.first _
        (found-yields seen EachPair Each (arms known a b) 27 span.inner.first _ (arms-each a b left right known) (λ it h. (good, (tt, (first, (h.0, (h.1, tt)))))))

    store-yields : (known : Known) (object value : Tree) → Good c known seen → Each object → Each value → Yields seen Each (typed_store c.setting known span object value)
    store-yields known object value good left right =
        obeys-yields seen Each (is_modifiable known object && is_assignable known value (kind_of object)) 28 span.inner.first _ (good, (tt, (left, (type-each (kind_of object) value right, tt))))

    update-yields : (known : Known) (object value : Tree) (op : Option Op) → Good c known seen → Each object → Each value → Yields seen Each (typed_update c.setting known span object value op)
    update-yields known object value None good left right = tt
    update-yields known object value (Some op) good left right =
        found-yields seen EachConverted Each (updated known op object value) 29 span.inner.first _ (updated-each known op object value right) (λ it h. (good, (tt, (left, (h, tt)))))

    pub assignment-yields : (known : Known) (operator : ℕ) (object value : Tree) (it : Symbol) → Good c known seen → Each object → Each value → Yields seen Each (typed_assignment c.setting known span operator object value it)
    assignment-yields known operator object value symbol.Equals good left right = store-yields known object value good left right
    assignment-yields known operator object value it good left right = update-yields known object value (option_and_then operator_of_assignment (row_at c.setting.source operator)) good left right

    pub call-yields : (known : Known) (callee : Expr) (tree : Tree) (values : List Tree) → Good c known seen → Each tree → EachOf values → Yields seen Each (typed_call c.setting known span callee tree values)
    call-yields known callee tree values good h k =
        obeys-yields seen Each (is_name callee && is_function_label (label_of tree)) 10 span.inner.first _
        (found-yields seen EachArgument Each (called known (kind_of tree) values) 10 span.inner.first _ (called-each known (kind_of tree) values k) (λ it arguments. (good, (tt, (h, each-in it.1 arguments)))))

    comma-each : (first : Tree) (others : List Tree) → Each first → EachOf others → Each (comma_tree c.setting span first others)
    comma-each first [] h k = h
    comma-each first (second ∷ others) h k = comma-each (made c.setting.source span label.comma (kind_of second) (first ∷ second ∷ [])) others (tt, (h, (k.0, tt))) k.1

    pub comma-found : (values : List Tree) → EachOf values → Found Each (comma_of c.setting span values)
    comma-found [] h = tt
    comma-found (first ∷ others) h = comma-each first others h.0 h.1
