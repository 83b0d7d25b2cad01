-- What is well typed stays so as more becomes known, and in every scene that comes later.
use Rattle.std.specs.Prelude.{◌≡◌, ℕ, zero, suc, ◌<◌, ℤ, pos, Bool, true, false, ◌&&◌, not, if◌then◌else◌, IsTrue, List, [], ◌∷◌, length, All, Option, Some, None, is_some, IsSome, IfSome, option_and_then, option_map, slice_get, refl}
use Rattle.std.proofs.Common.{sym, ap, ◌∙◌, subst, arith}
use Rattle.std.proofs.lemmas.List.Elements.{All-head, All-tail, All-weaker}
use Rattle.dm_int.specs.declared.Kind.{Kind}
use Rattle.dm_int.specs.declared.Kind.TheVariants as k
use Rattle.dm_int.specs.declared.Op.{Op}
use Rattle.dm_int.specs.declared.Op.TheVariants as o
use Rattle.dm_type.specs.declared.layout.Layout.{Layout}
use Rattle.dm_type.specs.declared.shape.Content.{Content}
use Rattle.dm_type.specs.declared.shape.Member.{Member}
use Rattle.dm_type.specs.CTypes.{CType, void, integer, pointer, array, struct, function as function_type, const, with_const}
use Rattle.dm_type.specs.Layouts.{layout_of, size_of, times, if_fits, repeated}
use Rattle.dm_type.specs.Tables.{Table, at, type_of, content_of, members_of}
use Rattle.dm_type.specs.TableLaws.{length-types_of}
use Rattle.dm_tree.specs.declared.tree.Sign.TheVariants as s
use Rattle.dm_tree.specs.declared.unit.Sort.{Sort}
use Rattle.dm_tree.specs.Composites.{covers}
use Rattle.dm_tree.specs.Constants.{is_constant_form, constant_value, constant, value_if_enumerator, enumerator_value, converted_to, signed_value, operated_value, truth_of}
use Rattle.dm_tree.specs.Evaluation.{is_true}
use Rattle.dm_tree.specs.Initialisers.{is_object, is_enumerator, is_function_sort}
use Rattle.dm_tree.specs.Operands.{Becomes, BecomesPointer, FitsBinary, FitsPointers, UpdateFits, FitsMember}
use Rattle.dm_tree.specs.Scenes.{Scene, Names, HasConst, itself, of_element, of_member, member_type, part_type, target, IsComplete, IsModifiable, IsConstant}
use Rattle.dm_tree.specs.Trees.{Label, Tree, Trees, node, no_trees, more_trees, label_of, kind_of, listed, trees, is_statement}
use Rattle.dm_tree.specs.Trees as label
use Rattle.dm_tree.specs.Typing.{FitsExpression, IsWellTyped, AreWellTyped, inside}
use Rattle.dm_tree.specs.Units.{Declaration}
use Rattle.dm_typing.specs.Known.{Known}
use Rattle.dm_typing.specs.Later.{IsCompletion, IsLater}
use Rattle.dm_typing.specs.Sound.{AreComplete, KnowsMore, scene_of, IsSound, AreConstants}
use Rattle.dm_typing.proofs.ExpressionLemmas.{AreExpressions, value-expression, expressions-in, expression-fits, fits-expression, inside-expression}
use Rattle.dm_typing.proofs.CoverLemmas.{covers-itself, covers-through}
use Rattle.dm_typing.proofs.TypeLemmas.{both-hold, both-true}

-- ---- answers

-- one answer is there and the same wherever the other is
abbrev pub Stays : {A : Type 0} → Option A → Option A → Type 0
Stays {A} one other = (it : A) → one ≡ Some it → other ≡ Some it

pub then-stays : {A B : Type 0} (f g : A → Option B) → ((it : A) → Stays (f it) (g it)) → (one other : Option A) → Stays one other
    → Stays (option_and_then f one) (option_and_then g other)
then-stays f g step (Some it) other stays answer h = ap (option_and_then g) (stays it refl) ∙ step it answer h
then-stays f g step None other stays answer h = absurd (cc)

pub map-stays : {A B : Type 0} (f : A → B) (one other : Option A) → Stays one other → Stays (option_map f one) (option_map f other)
map-stays f (Some it) other stays answer h = ap (option_map f) (stays it refl) ∙ h
map-stays f None other stays answer h = absurd (cc)

pub some-stays : {A : Type 0} (one other : Option A) → Stays one other → is_some one ≡ true → is_some other ≡ true
some-stays (Some it) other stays h = ap is_some (stays it refl)
some-stays None other stays h = absurd (cc)

-- what holds of an answer holds of it still
pub if-stays : {A : Type 0} (P : A → Type 0) (one other : Option A) → Stays one other → IfSome one P × IsSome one → IfSome other P × IsSome other
if-stays P (Some it) other stays h =
    let Q : Option _ → Type 0 = λ found. IfSome found P × IsSome found in subst Q (sym (stays it refl)) h
if-stays P None other stays h = absurd (cc)

pub some-of : {A : Type 0} (one : Option A) → IsSome one → (it : A) × (one ≡ Some it)
some-of (Some it) h = (it, refl)
some-of None h = absurd (cc)

pub times-stays : (n : Option ℕ) (one other : Option Layout) → Stays one other → Stays (times n one) (times n other)
times-stays None one other stays answer h = absurd (cc)
times-stays (Some count) one other stays answer h =
    then-stays (λ layout. if_fits (repeated count layout)) (λ layout. if_fits (repeated count layout)) (λ it answer h. h) one other stays answer h

-- ---- numbers of types

-- past the end there is no type
within : (table : Table) (types : List CType) (id : ℕ) → IsSome (size_of table (at types id)) → id < length types
within table [] zero h = absurd (cc)
within table [] (suc id) h = absurd (cc)
within table (type ∷ types) zero h = omega arith
within table (type ∷ types) (suc id) h = omega (arith, within table types id h)

-- the number of a complete type is one of the table
pub complete-id : (table : Table) (id : ℕ) → IsSome (size_of table (type_of table id)) → id < length table.shapes
complete-id table id h = omega (arith, length-types_of table.shapes, within table _ id h)

pub element-complete : (table : Table) (n : Option ℕ) (type : CType) → IsSome (size_of table (array type n)) → IsSome (size_of table type)
element-complete table (Some count) type h = go (layout_of table type) refl h
  where
    go : (found : Option Layout) → layout_of table type ≡ found → IsSome (option_map (λ layout. layout.size) (times (Some count) found)) → IsSome (size_of table type)
    go (Some layout) e h = ap (λ it. is_some (option_map (λ (layout : Layout). layout.size) it)) e
    go None e h = absurd (cc)
element-complete table None type h = absurd (cc)

module _ (old : Known) (new : Scene) (more : IsLater old new) (complete : AreComplete old.types) where
  -- ---- types

  pub layout-stays : (type : CType) → Stays (layout_of old.types type) (layout_of new.types type)
  layout-stays void it h = absurd (cc)
  layout-stays (integer kind) it h = h
  layout-stays (pointer type) it h = h
  layout-stays (array type n) it h = times-stays n (layout_of old.types type) (layout_of new.types type) (layout-stays type) it h
  layout-stays (struct number) it h =
      then-stays (λ (content : Content). content.layout) (λ (content : Content). content.layout) (λ one answer h. h) (content_of old.types number) (content_of new.types number)
      (more.contents number) it h
  layout-stays (function_type result parameters) it h = absurd (cc)
  layout-stays (const type) it h = layout-stays type it h

  pub size-stays : (type : CType) → Stays (size_of old.types type) (size_of new.types type)
  size-stays type = map-stays (λ (layout : Layout). layout.size) (layout_of old.types type) (layout_of new.types type) (layout-stays type)

  pub complete-stays : (type : CType) → IsComplete (scene_of old) type → IsComplete new type
  complete-stays type h = some-stays (size_of old.types type) (size_of new.types type) (size-stays type) h

  members-stay : (number : ℕ) → Stays (members_of old.types number) (members_of new.types number)
  members-stay number =
      map-stays (λ (content : Content). content.members) (content_of old.types number) (content_of new.types number) (more.contents number)

  -- the members of a struct that was complete are the same
  members-were : (number : ℕ) (members : List Member) → members_of new.types number ≡ Some members → IsSome (size_of old.types (struct number))
      → members_of old.types number ≡ Some members
  members-were number members e h = go (content_of old.types number) refl h
    where
      go : (found : Option Content) → content_of old.types number ≡ found
          → IsSome (option_map (λ (layout : Layout). layout.size) (option_and_then (λ (content : Content). content.layout) found)) → members_of old.types number ≡ Some members
      go (Some content) f h =
          ap (option_map (λ (one : Content). one.members)) f
          ∙ sym (ap (option_map (λ (one : Content). one.members)) (more.contents number content f)) ∙ e
      go None f h = absurd (cc)

  -- the type of a member stays
  member-kept : (number : ℕ) (members : List Member) → members_of old.types number ≡ Some members → (n : ℕ) (one : Member) → slice_get members n ≡ Some one
      → type_of new.types one.kind ≡ type_of old.types one.kind
  member-kept number members e n one s = more.types one.kind (complete-id old.types one.kind (complete number members e n one s))

  -- what was complete without a const part has none
  pub const-was : {type : CType} → HasConst new.types type → IsSome (size_of old.types type) → HasConst old.types type
  const-was (itself type h) is = itself type h
  const-was (of_element type n inner) is = of_element type n (const-was inner (element-complete old.types n type is))
  const-was (of_member number members n one m s inner) is =
      let e = members-were number members m is in
      let kept = member-kept number members e n one s in
      of_member number members n one e s
      (subst (HasConst old.types) kept (const-was inner (subst (λ type. IsSome (size_of old.types type)) (sym kept) (complete number members e n one s))))

  pub modifiable-stays : (tree : Tree) → IsModifiable (scene_of old) tree → IsModifiable new tree
  modifiable-stays tree h = (h.0, h.1, complete-stays (kind_of tree) h.2, λ c. h.3 (const-was c h.2))

  -- ---- members

  member-stays : (type : CType) (n : ℕ) → Stays (member_type old.types type n) (member_type new.types type n)
  member-stays (struct number) n it h = go (members_of old.types number) refl h
    where
      by : (members : List Member) → members_of old.types number ≡ Some members → (found : Option Member) → slice_get members n ≡ found
          → option_map (λ (one : Member). type_of old.types one.kind) found ≡ Some it → option_map (λ (one : Member). type_of new.types one.kind) found ≡ Some it
      by members e (Some one) s h = ap Some (member-kept number members e n one s) ∙ h
      by members e None s h = absurd (cc)

      go : (found : Option (List Member)) → members_of old.types number ≡ found
          → option_and_then (λ members. option_map (λ (one : Member). type_of old.types one.kind) (slice_get members n)) found ≡ Some it
          → member_type new.types (struct number) n ≡ Some it
      go (Some members) e h =
          ap (option_and_then (λ members. option_map (λ (one : Member). type_of new.types one.kind) (slice_get members n))) (members-stay number members e)
          ∙ by members e (slice_get members n) refl h
      go None e h = absurd (cc)
  member-stays type n it h = absurd (cc)

  pub part-stays : (type : CType) (n : ℕ) → Stays (part_type old.types type n) (part_type new.types type n)
  part-stays (array type (Some many)) n it h = h
  part-stays (const type) n it h = map-stays with_const (member_type old.types type n) (member_type new.types type n) (member-stays type n) it h
  part-stays type n it h = member-stays type n it h

  fits-member-stays : (lvalue : Bool) (whole : CType) (n : ℕ) (kind : CType) → FitsMember old.types lvalue whole n kind → FitsMember new.types lvalue whole n kind
  fits-member-stays true whole n kind h = (part-stays whole n kind h.0, h.1)
  fits-member-stays false whole n kind h = if-stays _ (member_type old.types whole n) (member_type new.types whole n) (member-stays whole n) h

  -- ---- declarations

  -- what is so of an entry however it is completed
  names-stay : (P : Declaration → Type 0) → ((entry later : Declaration) → IsCompletion entry later → P entry → P later) → (number : ℕ)
      → Names (scene_of old) number P → Names new number P
  names-stay P keep number h = go (slice_get old.declared number) refl h
    where
      go : (found : Option Declaration) → slice_get old.declared number ≡ found → IfSome found P × IsSome found → Names new number P
      go (Some entry) e h =
          let later = more.declared number entry e in
          let Q : Option Declaration → Type 0 = λ found. IfSome found P × IsSome found in
          subst Q (sym later.1) (keep entry later.0 later.2 h.0, refl)
      go None e h = absurd (cc)

  named-stays : (test : Sort → Bool) (number : ℕ) (kind : CType) → Names (scene_of old) number (λ entry. IsTrue (test entry.sort && covers entry.kind kind))
      → Names new number (λ entry. IsTrue (test entry.sort && covers entry.kind kind))
  named-stays test number kind =
      names-stay (λ entry. IsTrue (test entry.sort && covers entry.kind kind))
      (λ entry later by h.
      let parts = both-hold (test entry.sort) (covers entry.kind kind) h in
      both-true (test later.sort) (covers later.kind kind) (ap test by.sort ∙ parts.0) (covers-through later.kind entry.kind kind by.kind parts.1))
      number

  enumerator-stays : (number : ℕ) → Stays (enumerator_value old.declared number) (enumerator_value new.declared number)
  enumerator-stays number it h = go (slice_get old.declared number) refl h
    where
      go : (found : Option Declaration) → slice_get old.declared number ≡ found → option_and_then (λ (entry : Declaration). value_if_enumerator entry.sort) found ≡ Some it
          → enumerator_value new.declared number ≡ Some it
      go (Some entry) e h =
          let later = more.declared number entry e in
          ap (option_and_then (λ (one : Declaration). value_if_enumerator one.sort)) later.1 ∙ (ap value_if_enumerator later.2.sort ∙ h)
      go None e h = absurd (cc)

  -- ---- constants

  pub value-stays : (tree : Tree) → Stays (constant_value old.types old.declared tree) (constant_value new.types new.declared tree)
  value-stays (node (label.number value) kind spans parts) it h = h
  value-stays (node (label.enumerator number) kind spans parts) it h = enumerator-stays number it h
  value-stays (node label.sizeof_tree kind spans (more_trees a no_trees)) it h =
      map-stays pos (size_of old.types (kind_of a)) (size_of new.types (kind_of a)) (size-stays (kind_of a)) it h
  value-stays (node (label.sizeof_kind type) kind spans parts) it h = map-stays pos (size_of old.types type) (size_of new.types type) (size-stays type) it h
  value-stays (node label.convert kind spans (more_trees a rest)) it h = then-stays (converted_to kind) (converted_to kind) (λ one answer h. h) _ _ (value-stays a) it h
  value-stays (node (label.unary sign) kind spans (more_trees a no_trees)) it h =
      then-stays (signed_value sign (kind_of a)) (signed_value sign (kind_of a)) (λ one answer h. h) _ _ (value-stays a) it h
  value-stays (node (label.binary op) kind spans (more_trees a (more_trees b no_trees))) it h =
      then-stays _ _ (λ x. then-stays (operated_value op (kind_of a) x) (operated_value op (kind_of a) x) (λ one answer h. h) _ _ (value-stays b)) _ _ (value-stays a) it h
  value-stays (node label.both kind spans (more_trees a (more_trees b no_trees))) it h =
      then-stays _ _ (λ x. both-stays (is_true x) (constant_value old.types old.declared b) (constant_value new.types new.declared b) (value-stays b)) _ _ (value-stays a) it h
    where
      both-stays : (test : Bool) (one other : Option ℤ) → Stays one other
          → Stays (if test then option_map truth_of one else Some (pos 0)) (if test then option_map truth_of other else Some (pos 0))
      both-stays true one other stays = map-stays truth_of one other stays
      both-stays false one other stays = λ answer h. h
  value-stays (node label.either kind spans (more_trees a (more_trees b no_trees))) it h =
      then-stays _ _ (λ x. either-stays (is_true x) (constant_value old.types old.declared b) (constant_value new.types new.declared b) (value-stays b)) _ _ (value-stays a) it h
    where
      either-stays : (test : Bool) (one other : Option ℤ) → Stays one other
          → Stays (if test then Some (pos 1) else option_map truth_of one) (if test then Some (pos 1) else option_map truth_of other)
      either-stays true one other stays = λ answer h. h
      either-stays false one other stays = map-stays truth_of one other stays
  value-stays (node label.choose kind spans (more_trees a (more_trees b (more_trees c no_trees)))) it h =
      then-stays _ _ (λ x. arm-stays (is_true x) _ _ _ _ (value-stays b) (value-stays c)) _ _ (value-stays a) it h
    where
      arm-stays : (test : Bool) (one other first second : Option ℤ) → Stays one other → Stays first second
          → Stays (if test then one else first) (if test then other else second)
      arm-stays true one other first second stays others = stays
      arm-stays false one other first second stays others = others
  value-stays (node form kind spans parts) it h = absurd (cc)

  pub constant-stays : (tree : Tree) → Stays (constant old.types old.declared tree) (constant new.types new.declared tree)
  constant-stays tree = go (is_constant_form tree)
    where
      go : (test : Bool) → Stays (if test then constant_value old.types old.declared tree else None) (if test then constant_value new.types new.declared tree else None)
      go true = value-stays tree
      go false = λ it h. h

  pub is-constant-stays : (tree : Tree) → IsConstant (scene_of old) tree → IsConstant new tree
  is-constant-stays tree h = (h.0, some-stays _ _ (constant-stays tree) h.1)

  pub constants-stay : (all : List Tree) → All (IsConstant (scene_of old)) all → All (IsConstant new) all
  constants-stay all h = All-weaker (IsConstant (scene_of old)) (IsConstant new) is-constant-stays all h

  -- ---- operands

  pointer-stays : (operand : Tree) (to : CType) (found : Option CType) → BecomesPointer (scene_of old) operand to found → BecomesPointer new operand to found
  pointer-stays operand to (Some from) h = h
  pointer-stays operand to None h = constant-stays operand (pos 0) h

  becomes-stays : (operand : Tree) (type : CType) → Becomes (scene_of old) operand type → Becomes new operand type
  becomes-stays operand void h = h
  becomes-stays operand (integer k.Bool) h = h
  becomes-stays operand (integer kind) h = h
  becomes-stays operand (pointer to) h = pointer-stays operand to (target (kind_of operand)) h
  becomes-stays operand type h = absurd h

  pointers-stay : (op : Op) (a b kind : CType) → FitsPointers (scene_of old) op a b kind → FitsPointers new op a b kind
  pointers-stay o.Sub a b kind h = (h.0, complete-stays a h.1, complete-stays b h.2, h.3)
  pointers-stay op a b kind h = h

  binary-stays : (op : Op) (left right kind : CType) (a b : Option Kind) (from to : Option CType)
      → FitsBinary (scene_of old) op left right kind a b from to → FitsBinary new op left right kind a b from to
  binary-stays op left right kind (Some a) (Some b) from to h = h
  binary-stays op left right kind None None (Some a) (Some b) h = pointers-stay op a b kind h
  binary-stays o.Add left right kind None (Some b) (Some a) to h = (complete-stays a h.0, h.1)
  binary-stays o.Sub left right kind None (Some b) (Some a) to h = (complete-stays a h.0, h.1)
  binary-stays o.Add left right kind (Some a) None from (Some b) h = (complete-stays b h.0, h.1)
  binary-stays op left right kind a b from to h = absurd h

  if-complete-stays : (found : Option CType) → IfSome found (IsComplete (scene_of old)) → IfSome found (IsComplete new)
  if-complete-stays (Some type) h = complete-stays type h
  if-complete-stays None h = h

  update-stays : (op : Op) (kind works : CType) (a b : Option Kind) → UpdateFits (scene_of old) op kind works a b → UpdateFits new op kind works a b
  update-stays op kind works (Some a) (Some b) h = h
  update-stays op kind works None (Some b) h = (h.0, if-complete-stays (target kind) h.1, h.2, h.3)
  update-stays op kind works a b h = absurd h

  -- ---- nodes

  pub fits-stays : (form : Label) (kind : CType) (parts : List Tree) → FitsExpression (scene_of old) form kind parts → FitsExpression new form kind parts
  fits-stays (label.number value) kind [] h = h
  fits-stays (label.enumerator number) kind [] h =
      (names-stay (λ entry. IsTrue (is_enumerator entry.sort)) (λ entry later by is. ap is_enumerator by.sort ∙ is) number h.0, h.1)
  fits-stays (label.literal bytes unit) kind [] h = h
  fits-stays (label.object number) kind [] h = named-stays is_object number kind h
  fits-stays (label.function number) kind [] h = named-stays is_function_sort number kind h
  fits-stays label.read kind (a ∷ []) h = h
  fits-stays label.decay kind (a ∷ []) h = h
  fits-stays label.convert kind (a ∷ lengths) h = (h.0, becomes-stays a kind h.1, constants-stay lengths h.2)
  fits-stays label.address kind (a ∷ []) h = h
  fits-stays label.follow kind (a ∷ []) h = (h.0, h.1, complete-stays kind h.2)
  fits-stays (label.member n) kind (a ∷ []) h = (h.0, fits-member-stays _ (kind_of a) n kind h.1)
  fits-stays (label.unary s.Not) kind (a ∷ []) h = h
  fits-stays (label.unary sign) kind (a ∷ []) h = h
  fits-stays (label.binary op) kind (a ∷ b ∷ []) h = (h.0, h.1, binary-stays op (kind_of a) (kind_of b) kind _ _ _ _ h.2)
  fits-stays label.both kind (a ∷ b ∷ []) h = h
  fits-stays label.either kind (a ∷ b ∷ []) h = h
  fits-stays label.choose kind (a ∷ b ∷ c ∷ []) h = h
  fits-stays label.comma kind (a ∷ b ∷ []) h = h
  fits-stays label.store kind (a ∷ b ∷ []) h = (modifiable-stays a h.0, h.1, h.2, h.3)
  fits-stays (label.update op works) kind (a ∷ b ∷ []) h = (modifiable-stays a h.0, h.1, h.2, update-stays op kind works _ _ h.3)
  fits-stays (label.count plus before) kind (a ∷ []) h = (modifiable-stays a h.0, h.1, (h.2.0, if-complete-stays (target kind) h.2.1))
  fits-stays label.call kind (node (label.function number) type spans no_trees ∷ arguments) h = h
  fits-stays label.sizeof_tree kind (a ∷ []) h = (h.0, complete-stays (kind_of a) h.1, h.2)
  fits-stays (label.sizeof_kind type) kind lengths h = (complete-stays type h.0, constants-stay lengths h.1, h.2)
  fits-stays form kind parts h = absurd h

-- ---- trees

-- the same where no labels of a switch may stand
unlabelled : Scene → Scene
unlabelled scene = record scene { labels = None }

later-unlabelled : (old : Known) (new : Scene) → IsLater old new → IsLater old (unlabelled new)
unfolding unlabelled
later-unlabelled old new more = record { types = more.types; contents = more.contents; declared = more.declared }

inside-unlabelled : (scene : Scene) (form : Label) (parts : List Tree) → not (is_statement form) ≡ true → inside scene form parts ≡ unlabelled scene
unfolding unlabelled
inside-unlabelled scene label.switch parts is = absurd (cc)
inside-unlabelled scene label.case parts is = absurd (cc)
inside-unlabelled scene label.default parts is = absurd (cc)
inside-unlabelled scene label.while_loop parts is = absurd (cc)
inside-unlabelled scene label.do_loop parts is = absurd (cc)
inside-unlabelled scene (label.for_loop first second third) parts is = absurd (cc)
inside-unlabelled scene form parts is = refl

module _ (old : Known) (complete : AreComplete old.types) where
  mutual
    -- a well-typed expression stays so in any scene that comes later
    pub typed-later : (new : Scene) → IsLater old new → (tree : Tree) → not (is_statement (label_of tree)) ≡ true → IsWellTyped (scene_of old) tree → IsWellTyped new tree
    typed-later new more (node form kind spans parts) is h =
        let fits = fits-expression (scene_of old) form kind (listed parts) is h.0 in (
          expression-fits new form kind (listed parts) is (fits-stays old new more complete form kind (listed parts) fits),
          subst (λ scene. AreWellTyped scene parts) (sym (inside-unlabelled new form (listed parts) is))
              (all-typed-later (unlabelled new) (later-unlabelled old new more) parts (expressions-in (scene_of old) form kind (listed parts) fits)
              (subst (λ scene. AreWellTyped scene parts) (inside-expression old form (listed parts) is) h.1)),
        )

    all-typed-later : (new : Scene) → IsLater old new → (parts : Trees) → AreExpressions (listed parts) → AreWellTyped (scene_of old) parts → AreWellTyped new parts
    all-typed-later new more no_trees are h = tt
    all-typed-later new more (more_trees first rest) are h = (typed-later new more first are.0 h.0, all-typed-later new more rest are.1 h.1)

-- ---- more is known

pub known-later : (old new : Known) → KnowsMore old new → IsLater old (scene_of new)
known-later old new more = record {
  types = more.types;
  contents = more.contents;
  declared = λ at entry h. (entry, more.declared at entry h, record { name = refl; sort = refl; linkage = refl; kind = covers-itself entry.kind });
}

module _ (old new : Known) (more : KnowsMore old new) (complete : AreComplete old.types) where
  pub typed-stays : (tree : Tree) → not (is_statement (label_of tree)) ≡ true → IsWellTyped (scene_of old) tree → IsWellTyped (scene_of new) tree
  typed-stays tree is h = typed-later old complete (scene_of new) (known-later old new more) tree is h

  -- ---- what is sound

  pub sound-stays : (tree : Tree) → IsSound old tree → IsSound new tree
  sound-stays tree h = (h.0, h.1, h.2, typed-stays tree h.0 h.3)

  typed-list-stays : (all : List Tree) → All (IsConstant (scene_of old)) all → AreWellTyped (scene_of old) (trees all) → AreWellTyped (scene_of new) (trees all)
  typed-list-stays [] are h = tt
  typed-list-stays (first ∷ rest) are h = (
    typed-stays first (value-expression first (All-head (IsConstant (scene_of old)) first rest are).0) h.0,
    typed-list-stays rest (All-tail (IsConstant (scene_of old)) first rest are) h.1,
  )

  pub constants-sound-stay : (all : List Tree) → AreConstants old all → AreConstants new all
  constants-sound-stay all h = (constants-stay old (scene_of new) (known-later old new more) complete all h.0, typed-list-stays all h.0 h.1)
