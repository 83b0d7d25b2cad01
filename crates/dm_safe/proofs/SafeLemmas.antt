-- Trees that are made of reads of set integers by operators that can't go wrong.
use Rattle.std.specs.Prelude.{◌≡◌, refl, ◌⊎◌, ℕ, Bool, true, false, not, ◌&&◌, ◌||◌, IsTrue, IfSome, List, Option, Some, Ok, Err, ℤ, ◌+ℤ◌, ◌-ℤ◌, ◌*ℤ◌, if◌then◌else◌}
use Rattle.std.specs.List.{list_all}
use Rattle.std.proofs.Common.{ap, sym, ◌∙◌, subst, inl, inr, true≢false}
use Rattle.std.proofs.lemmas.Bool.{false≢true}
use Rattle.dm_int.specs.declared.Fault.{Fault}
use Rattle.dm_int.specs.declared.Fault.TheVariants.{Overflow}
use Rattle.dm_int.specs.declared.Kind.{Kind}
use Rattle.dm_int.specs.declared.Kind.TheVariants.{Int}
use Rattle.dm_int.specs.declared.Op.{Op}
use Rattle.dm_int.specs.declared.Op.TheVariants as o
use Rattle.dm_int.specs.Kinds.{InRange, is_signed, is_in_range, convert as brought}
use Rattle.dm_int.specs.Operators.{fit, binary as operated}
use Rattle.dm_type.specs.CTypes.{CType, integer}
use Rattle.dm_tree.specs.declared.tree.Sign.{Sign}
use Rattle.dm_tree.specs.declared.tree.Sign.TheVariants as s
use Rattle.dm_tree.specs.Composites.{covers}
use Rattle.dm_tree.specs.Constants.{integer_kind}
use Rattle.dm_tree.specs.Initialisers.{is_object}
use Rattle.dm_tree.specs.Evaluation.{is_true, is_right, is_shift}
use Rattle.dm_tree.specs.Operands.{FitsIntegers, FitsBinary}
use Rattle.dm_tree.specs.Scenes.{Scene as Standing, is_integer, target}
use Rattle.dm_tree.specs.Trees.{Label, Spans, Tree, Trees, node, no_trees, more_trees, kind_of}
use Rattle.dm_tree.specs.Trees as label
use Rattle.dm_tree.specs.Units.{Declaration}
use Rattle.dm_meaning.specs.Programs.{layout}
use Rattle.dm_token.specs.declared.place.Place.{Place}
use Rattle.dm_tree.specs.Trees.{object}
use Rattle.dm_meaning.specs.Operations.{World, Scene}
use Rattle.dm_meaning.specs.Running.{evaluates, Run, to_do, Runs, no_runs, begun, all_begun, Open, every, only_first, first_open}
use Rattle.dm_meaning.proofs.OptionLemmas.{is_some_some, and_left, and_right}
use Rattle.dm_sound.specs.TypedValues.{AreTyped}
use Rattle.dm_sound.specs.TypedTrees.{scene_in, IsTyped}
use Rattle.dm_sound.specs.TypedSteps.{IsTypedScope}
use Rattle.dm_sound.proofs.ComeLemmas.{AllTyped, typed_parts}
use Rattle.dm_sound.proofs.GivenLemmas.{in_range_test}
use Rattle.dm_sound.proofs.OperateLemmas.{value_no_lvalue}
use Rattle.dm_effect.specs.Entities.{object_first, is_named}
use Rattle.dm_effect.specs.Forms.{Ruling, settled, by_operand, by_parts, first_there, all_there, ruled, is_built, are_built}
use Rattle.dm_effect.specs.Safe.{wraps, is_safe_operator, is_safe_sign, converts_integer, safe_rule}
use Rattle.dm_central.specs.Standing.{standing_of, StandsAmong}
use Rattle.dm_safe.specs.Numbers.{HoldsInteger, Names, ComesTo, ComesToNumber}
use Rattle.dm_safe.proofs.NodeLemmas.{number_comes, enumerator_comes, convert_comes, not_comes, signed_comes, binary_comes, both_on, both_off, either_on, either_off, comma_on, second_on, third_on, read_comes}

-- ---- operators that can't go wrong

-- arithmetic of an unsigned kind wraps (6.2.5p9)
wrapped : (k : Kind) (fault : Fault) (z : ℤ) → not (is_signed k) ≡ true → (w : ℤ) × (fit k fault z ≡ Ok w)
wrapped k fault z u = by_range (is_in_range k z) refl
  where
    unsigned : (b : Bool) → not b ≡ true → b ≡ false
    unsigned true e = sym e
    unsigned false e = refl

    by_range : (b : Bool) → is_in_range k z ≡ b → (w : ℤ) × (fit k fault z ≡ Ok w)
    by_range true e = (z, ap (λ b. if b then Ok z else if is_signed k then Err fault else Ok (brought k z)) e)
    by_range false e =
        (brought k z, ap (λ b. if b then Ok z else if is_signed k then Err fault else Ok (brought k z)) e ∙ ap (λ b. if b then Err fault else Ok (brought k z)) (unsigned (is_signed k) u))

-- it gives a number of the node's type on numbers of these kinds
record Operates (op : Op) (kind : CType) (k : Kind) (x y : ℤ) : Type 0 where
  own_kind : Kind
  integer : integer_kind kind ≡ Some own_kind
  z : ℤ
  right : is_right op k y ≡ true
  is : operated op k x y ≡ Ok z

right_stands : (op : Op) (k j : Kind) (y : ℤ) → is_shift op ≡ false → IsTrue (is_shift op) ⊎ (k ≡ j) → InRange j y → is_right op k y ≡ true
right_stands op k j y other (inl e) h = absurd (true≢false (sym e ∙ other))
right_stands op k j y other (inr e) h = ap (λ b. b || is_in_range k y) other ∙ ap (λ i. is_in_range i y) e ∙ in_range_test j y h

unsigned_kind : (kind : CType) (k : Kind) → kind ≡ integer k → wraps (integer_kind kind) ≡ true → not (is_signed k) ≡ true
unsigned_kind kind k e w = ap (λ t. wraps (integer_kind t)) (sym e) ∙ w

operates : (op : Op) (kind : CType) (k j : Kind) (x y : ℤ) → FitsIntegers op k j kind → InRange j y → is_safe_operator op kind ≡ true → Operates op kind k x y
operates o.And kind k j x y fits h e = record { own_kind = k; integer = ap integer_kind fits.3; z = _; right = right_stands o.And k j y refl fits.2 h; is = refl }
operates o.Or kind k j x y fits h e = record { own_kind = k; integer = ap integer_kind fits.3; z = _; right = right_stands o.Or k j y refl fits.2 h; is = refl }
operates o.Xor kind k j x y fits h e = record { own_kind = k; integer = ap integer_kind fits.3; z = _; right = right_stands o.Xor k j y refl fits.2 h; is = refl }
operates o.Add kind k j x y fits h e =
    let w = wrapped k Overflow (x +ℤ y) (unsigned_kind kind k fits.3 e) in
    record { own_kind = k; integer = ap integer_kind fits.3; z = w.0; right = right_stands o.Add k j y refl fits.2 h; is = w.1 }
operates o.Sub kind k j x y fits h e =
    let w = wrapped k Overflow (x -ℤ y) (unsigned_kind kind k fits.3 e) in
    record { own_kind = k; integer = ap integer_kind fits.3; z = w.0; right = right_stands o.Sub k j y refl fits.2 h; is = w.1 }
operates o.Mul kind k j x y fits h e =
    let w = wrapped k Overflow (x *ℤ y) (unsigned_kind kind k fits.3 e) in
    record { own_kind = k; integer = ap integer_kind fits.3; z = w.0; right = right_stands o.Mul k j y refl fits.2 h; is = w.1 }
operates o.Less kind k j x y fits h e = record { own_kind = Int; integer = ap integer_kind fits.3; z = _; right = right_stands o.Less k j y refl fits.2 h; is = refl }
operates o.Greater kind k j x y fits h e = record { own_kind = Int; integer = ap integer_kind fits.3; z = _; right = right_stands o.Greater k j y refl fits.2 h; is = refl }
operates o.LessEq kind k j x y fits h e = record { own_kind = Int; integer = ap integer_kind fits.3; z = _; right = right_stands o.LessEq k j y refl fits.2 h; is = refl }
operates o.GreaterEq kind k j x y fits h e = record { own_kind = Int; integer = ap integer_kind fits.3; z = _; right = right_stands o.GreaterEq k j y refl fits.2 h; is = refl }
operates o.Equal kind k j x y fits h e = record { own_kind = Int; integer = ap integer_kind fits.3; z = _; right = right_stands o.Equal k j y refl fits.2 h; is = refl }
operates o.NotEqual kind k j x y fits h e = record { own_kind = Int; integer = ap integer_kind fits.3; z = _; right = right_stands o.NotEqual k j y refl fits.2 h; is = refl }
operates o.Div kind k j x y fits h e = absurd (false≢true e)
operates o.Rem kind k j x y fits h e = absurd (false≢true e)
operates o.Shl kind k j x y fits h e = absurd (false≢true e)
operates o.Shr kind k j x y fits h e = absurd (false≢true e)

-- ---- rulings

ruled_if : (b : Bool) (ruling : Ruling) (passes : List Bool) → ruled (if b then ruling else settled false) passes ≡ true → (b ≡ true) × (ruled ruling passes ≡ true)
ruled_if true ruling passes e = (refl, e)
ruled_if false ruling passes e = absurd (false≢true e)

-- ---- trees

module _ (scene : Scene) (world : World) (scope : IsTypedScope scene.program) (memory_typed : AreTyped (layout scene.program) world.memory) (result : CType)
    (test : ℕ → Bool) where
  abbrev Typed : Tree → Type 0
  Typed tree = IsTyped scene.program result tree

  abbrev built : Tree → Bool
  built tree = is_built (safe_rule test) tree

  -- the objects that a tree reads hold values
  abbrev pub Holds : Run → Type 0
  Holds run = (d : ℕ) → test d ≡ true → Names d run → HoldsInteger scene world.memory d

  abbrev AllHold : Open → Runs → Type 0
  AllHold stand runs = (d : ℕ) → test d ≡ true → (kind : CType) (place : Place) → StandsAmong (to_do (evaluates (object d)) kind place no_runs) stand runs → HoldsInteger scene world.memory d

  abbrev Comes : Tree → Type 0
  Comes tree = ComesToNumber scene world tree

  abbrev AllCome : Trees → Type 0
  AllCome no_trees = Unit {0}
  AllCome (more_trees first rest) = Comes first × AllCome rest

  abbrev FirstComes : Trees → Type 0
  FirstComes no_trees = ⊥
  FirstComes (more_trees first rest) = Comes first

  -- the first part where it passes, and all where they do
  abbrev Below : Trees → Type 0
  Below parts =
      ((stand : Open) → first_open stand ≡ true → AllHold stand (all_begun parts) → first_there (are_built (safe_rule test) parts) ≡ true → FirstComes parts)
      × (AllHold every (all_begun parts) → all_there (are_built (safe_rule test) parts) ≡ true → AllCome parts)

  comes_to : (tree : Tree) (value : ℤ) → ComesTo scene world tree value → Comes tree
  comes_to tree value h = record { value = value; comes = h }

  read_node : (kind : CType) (spans : Spans) (parts : Trees) → Typed (node label.read kind spans parts) → is_named test (object_first parts) ≡ true → Holds (begun (node label.read kind spans parts)) → Comes (node label.read kind spans parts)
  read_node kind spans (more_trees (node (label.object d) named_kind named_spans no_trees) no_trees) tree e holds =
      let h = holds d e (named_kind, named_spans.place, inr (inl (refl, inl refl))) in
      let own = is_some_some (integer_kind h.entry.kind) h.integer in
      let named = subst (λ (entry : Option Declaration). IfSome entry (λ one. IsTrue (is_object one.sort && covers one.kind named_kind))) h.declared tree.typed.1.0.0.0 in
      read_comes scene world scope memory_typed result d named_kind named_spans kind spans h (and_right (is_object h.entry.sort) (covers h.entry.kind named_kind) named) tree.typed.0.2 own.0 own.1
  read_node kind spans (more_trees (node (label.object d) named_kind named_spans no_trees) (more_trees second rest)) tree e holds = absurd tree.typed.0
  read_node kind spans (more_trees (node (label.object d) named_kind named_spans (more_trees first below)) rest) tree e holds = absurd tree.typed.1.0.0
  read_node kind spans parts tree e holds = absurd (false≢true e)

  convert_node : (kind : CType) (spans : Spans) (parts : Trees) → converts_integer kind parts ≡ true → FirstComes parts → Comes (node label.convert kind spans parts)
  convert_node kind spans no_trees e h = absurd h
  convert_node kind spans (more_trees a lengths) e h =
      let own = is_some_some (integer_kind kind) (and_left (is_integer kind) (is_integer (kind_of a)) e) in
      comes_to _ _ (convert_comes scene world scope memory_typed result a lengths kind spans own.0 own.1 h.value h.comes)

  unary_node : (sign : Sign) (kind : CType) (spans : Spans) (parts : Trees) → Typed (node (label.unary sign) kind spans parts) → is_safe_sign sign ≡ true → AllCome parts → Comes (node (label.unary sign) kind spans parts)
  unary_node s.Minus kind spans parts tree e h = absurd (false≢true e)
  unary_node s.Not kind spans (more_trees a no_trees) tree e h = comes_to _ _ (not_comes scene world scope memory_typed result a kind spans tree h.0.value h.0.comes)
  unary_node s.Plus kind spans (more_trees a no_trees) tree e h =
      comes_to _ _ (signed_comes scene world scope memory_typed result s.Plus tt a kind spans tree h.0.value h.0.comes (value_no_lvalue a tree.typed.0.0) tree.typed.0.1 _ refl)
  unary_node s.Complement kind spans (more_trees a no_trees) tree e h =
      comes_to _ _ (signed_comes scene world scope memory_typed result s.Complement tt a kind spans tree h.0.value h.0.comes (value_no_lvalue a tree.typed.0.0) tree.typed.0.1 _ refl)
  unary_node s.Not kind spans no_trees tree e h = absurd tree.typed.0
  unary_node s.Plus kind spans no_trees tree e h = absurd tree.typed.0
  unary_node s.Complement kind spans no_trees tree e h = absurd tree.typed.0
  unary_node s.Not kind spans (more_trees a (more_trees b rest)) tree e h = absurd tree.typed.0
  unary_node s.Plus kind spans (more_trees a (more_trees b rest)) tree e h = absurd tree.typed.0
  unary_node s.Complement kind spans (more_trees a (more_trees b rest)) tree e h = absurd tree.typed.0

  -- both operands are integers
  fits_integers : (place : Standing) (op : Op) (a b : Tree) (kind : CType) (k j : Kind) → integer_kind (kind_of a) ≡ Some k → integer_kind (kind_of b) ≡ Some j
      → FitsBinary place op (kind_of a) (kind_of b) kind (integer_kind (kind_of a)) (integer_kind (kind_of b)) (target (kind_of a)) (target (kind_of b)) → FitsIntegers op k j kind
  fits_integers place op a b kind k j e f fits =
      subst (λ y. FitsBinary place op (kind_of a) (kind_of b) kind (Some k) y (target (kind_of a)) (target (kind_of b))) f
      (subst (λ x. FitsBinary place op (kind_of a) (kind_of b) kind x (integer_kind (kind_of b)) (target (kind_of a)) (target (kind_of b))) e fits)

  binary_node : (op : Op) (kind : CType) (spans : Spans) (parts : Trees) → Typed (node (label.binary op) kind spans parts) → is_safe_operator op kind ≡ true → AllCome parts → Comes (node (label.binary op) kind spans parts)
  binary_node op kind spans (more_trees a (more_trees b no_trees)) tree e h =
      let x = h.0.comes in
      let y = h.1.0.comes in
      let place = scene_in scene.program result tree.breaks tree.continues tree.labels in
      let does = operates op kind x.kind y.kind h.0.value h.1.0.value (fits_integers place op a b kind x.kind y.kind x.integer y.integer tree.typed.0.2) y.range e in
      comes_to _ _ (binary_comes scene world scope memory_typed result op a b kind spans tree h.0.value h.1.0.value x y (value_no_lvalue a tree.typed.0.0) (value_no_lvalue b tree.typed.0.1) does.own_kind does.integer does.z does.right does.is)
  binary_node op kind spans no_trees tree e h = absurd tree.typed.0
  binary_node op kind spans (more_trees a no_trees) tree e h = absurd tree.typed.0
  binary_node op kind spans (more_trees a (more_trees b (more_trees c rest))) tree e h = absurd tree.typed.0

  both_node : (kind : CType) (spans : Spans) (parts : Trees) → Typed (node label.both kind spans parts) → AllCome parts → Comes (node label.both kind spans parts)
  both_node kind spans (more_trees a (more_trees b no_trees)) tree h = by_first (is_true h.0.value) refl
    where
      by_first : (t : Bool) → is_true h.0.value ≡ t → Comes (node label.both kind spans (more_trees a (more_trees b no_trees)))
      by_first true t = comes_to _ _ (both_on scene world scope memory_typed result a b no_trees kind spans h.0.value h.0.comes tree.typed.0.2 t h.1.0.value h.1.0.comes)
      by_first false t = comes_to _ _ (both_off scene world scope memory_typed result a b no_trees kind spans h.0.value h.0.comes tree.typed.0.2 t)
  both_node kind spans no_trees tree h = absurd tree.typed.0
  both_node kind spans (more_trees a no_trees) tree h = absurd tree.typed.0
  both_node kind spans (more_trees a (more_trees b (more_trees c rest))) tree h = absurd tree.typed.0

  either_node : (kind : CType) (spans : Spans) (parts : Trees) → Typed (node label.either kind spans parts) → AllCome parts → Comes (node label.either kind spans parts)
  either_node kind spans (more_trees a (more_trees b no_trees)) tree h = by_first (is_true h.0.value) refl
    where
      by_first : (t : Bool) → is_true h.0.value ≡ t → Comes (node label.either kind spans (more_trees a (more_trees b no_trees)))
      by_first true t = comes_to _ _ (either_off scene world scope memory_typed result a b no_trees kind spans h.0.value h.0.comes tree.typed.0.2 t)
      by_first false t = comes_to _ _ (either_on scene world scope memory_typed result a b no_trees kind spans h.0.value h.0.comes tree.typed.0.2 t h.1.0.value h.1.0.comes)
  either_node kind spans no_trees tree h = absurd tree.typed.0
  either_node kind spans (more_trees a no_trees) tree h = absurd tree.typed.0
  either_node kind spans (more_trees a (more_trees b (more_trees c rest))) tree h = absurd tree.typed.0

  choose_node : (kind : CType) (spans : Spans) (parts : Trees) → Typed (node label.choose kind spans parts) → AllCome parts → Comes (node label.choose kind spans parts)
  choose_node kind spans (more_trees a (more_trees b (more_trees c no_trees))) tree h = by_first (is_true h.0.value) refl
    where
      by_first : (t : Bool) → is_true h.0.value ≡ t → Comes (node label.choose kind spans (more_trees a (more_trees b (more_trees c no_trees))))
      by_first true t = comes_to _ _ (second_on scene world scope memory_typed result a b (more_trees c no_trees) kind spans h.0.value h.0.comes tree.typed.0.3 t h.1.0.value h.1.0.comes)
      by_first false t = comes_to _ _ (third_on scene world scope memory_typed result a b c no_trees kind spans h.0.value h.0.comes tree.typed.0.4 t h.1.1.0.value h.1.1.0.comes)
  choose_node kind spans no_trees tree h = absurd tree.typed.0
  choose_node kind spans (more_trees a no_trees) tree h = absurd tree.typed.0
  choose_node kind spans (more_trees a (more_trees b no_trees)) tree h = absurd tree.typed.0
  choose_node kind spans (more_trees a (more_trees b (more_trees c (more_trees d rest)))) tree h = absurd tree.typed.0

  comma_node : (kind : CType) (spans : Spans) (parts : Trees) → Typed (node label.comma kind spans parts) → AllCome parts → Comes (node label.comma kind spans parts)
  comma_node kind spans (more_trees a (more_trees b no_trees)) tree h =
      comes_to _ _ (comma_on scene world scope memory_typed result a b no_trees kind spans h.0.value h.0.comes tree.typed.0.2 h.1.0.value h.1.0.comes)
  comma_node kind spans no_trees tree h = absurd tree.typed.0
  comma_node kind spans (more_trees a no_trees) tree h = absurd tree.typed.0
  comma_node kind spans (more_trees a (more_trees b (more_trees c rest))) tree h = absurd tree.typed.0

  hold_below : (form : Label) (kind : CType) (spans : Spans) (parts : Trees) → Holds (begun (node form kind spans parts)) → AllHold (standing_of form) (all_begun parts)
  hold_below form kind spans parts holds d e named_kind place stands = holds d e (named_kind, place, inr stands)

  by_label : (form : Label) (kind : CType) (spans : Spans) (parts : Trees) → Typed (node form kind spans parts) → ruled (safe_rule test form kind parts) (are_built (safe_rule test) parts) ≡ true → Holds (begun (node form kind spans parts)) → Below parts → Comes (node form kind spans parts)
  by_label (label.number y) kind spans parts tree e holds below = comes_to _ _ (number_comes scene world scope memory_typed result y kind spans parts tree)
  by_label (label.enumerator d) kind spans parts tree e holds below = comes_to _ _ (enumerator_comes scene world scope memory_typed result d kind spans parts tree)
  by_label label.read kind spans parts tree e holds below = read_node kind spans parts tree e holds
  by_label label.convert kind spans parts tree e holds below =
      let there = ruled_if (converts_integer kind parts) by_operand (are_built (safe_rule test) parts) e in
      convert_node kind spans parts there.0 (below.0 only_first refl (hold_below label.convert kind spans parts holds) there.1)
  by_label (label.unary sign) kind spans parts tree e holds below =
      let there = ruled_if (is_safe_sign sign) by_parts (are_built (safe_rule test) parts) e in
      unary_node sign kind spans parts tree there.0 (below.1 (hold_below (label.unary sign) kind spans parts holds) there.1)
  by_label (label.binary op) kind spans parts tree e holds below =
      let there = ruled_if (is_safe_operator op kind) by_parts (are_built (safe_rule test) parts) e in
      binary_node op kind spans parts tree there.0 (below.1 (hold_below (label.binary op) kind spans parts holds) there.1)
  by_label label.both kind spans parts tree e holds below = both_node kind spans parts tree (below.1 (hold_below label.both kind spans parts holds) e)
  by_label label.either kind spans parts tree e holds below = either_node kind spans parts tree (below.1 (hold_below label.either kind spans parts holds) e)
  by_label label.choose kind spans parts tree e holds below = choose_node kind spans parts tree (below.1 (hold_below label.choose kind spans parts holds) e)
  by_label label.comma kind spans parts tree e holds below = comma_node kind spans parts tree (below.1 (hold_below label.comma kind spans parts holds) e)
  by_label form kind spans parts tree e holds below = absurd (false≢true e)

  mutual
    -- A typed tree that is so made comes to a number, where the objects that it reads hold values.
    pub built_comes : (tree : Tree) → Typed tree → built tree ≡ true → Holds (begun tree) → Comes tree
    built_comes (node form kind spans parts) tree e holds =
        by_label form kind spans parts tree e holds (
          λ stand o hold f. first_comes stand parts (typed_parts scene.program result form kind spans parts tree) o hold f,
          λ hold f. parts_come parts (typed_parts scene.program result form kind spans parts tree) hold f,
        )

    first_comes : (stand : Open) (parts : Trees) → AllTyped scene.program result parts → first_open stand ≡ true → AllHold stand (all_begun parts) → first_there (are_built (safe_rule test) parts) ≡ true → FirstComes parts
    first_comes stand no_trees typed o hold e = absurd (false≢true e)
    first_comes stand (more_trees first rest) typed o hold e = built_comes first typed.0 e (λ d f named. hold d f named.0 named.1 (inl (o, named.2)))

    parts_come : (parts : Trees) → AllTyped scene.program result parts → AllHold every (all_begun parts) → all_there (are_built (safe_rule test) parts) ≡ true → AllCome parts
    parts_come no_trees typed hold e = absurd (false≢true e)
    parts_come (more_trees first rest) typed hold e = (
      built_comes first typed.0 (and_left (built first) (list_all (λ passed. passed) (are_built (safe_rule test) rest)) e) (λ d f named. hold d f named.0 named.1 (inl (refl, named.2))),
      all_come rest typed.1 (λ d f kind place stands. hold d f kind place (inr stands)) (and_right (built first) (list_all (λ passed. passed) (are_built (safe_rule test) rest)) e),
    )

    all_come : (parts : Trees) → AllTyped scene.program result parts → AllHold every (all_begun parts) → list_all (λ passed. passed) (are_built (safe_rule test) parts) ≡ true → AllCome parts
    all_come no_trees typed hold e = tt
    all_come (more_trees first rest) typed hold e = (
      built_comes first typed.0 (and_left (built first) (list_all (λ passed. passed) (are_built (safe_rule test) rest)) e) (λ d f named. hold d f named.0 named.1 (inl (refl, named.2))),
      all_come rest typed.1 (λ d f kind place stands. hold d f kind place (inr stands)) (and_right (built first) (list_all (λ passed. passed) (are_built (safe_rule test) rest)) e),
    )
