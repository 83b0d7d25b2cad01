-- Nodes whose operands are numbers come to numbers.
use Rattle.std.specs.Prelude.{◌≡◌, refl, ◌⊎◌, ℕ, ◌==◌, Bool, true, false, not, IsTrue, List, [], ◌∷◌, ◌++◌, Option, Some, Ok, ℤ, pos}
use Rattle.std.proofs.Common.{ap, sym, ◌∙◌, subst, inl, inr, true≢false}
use Rattle.std.proofs.lemmas.Bool.{false≢true}
use Rattle.dm_int.specs.declared.Kind.{Kind}
use Rattle.dm_int.specs.declared.Kind.TheVariants.{Bool as CBool, Char, SChar, UChar, Short, UShort, Int, UInt, Long, ULong, LLong, ULLong}
use Rattle.dm_int.specs.declared.Op.{Op}
use Rattle.dm_int.specs.Kinds.{number_of, InRange, convert as brought}
use Rattle.dm_int.specs.Operators as operators
use Rattle.dm_int.specs.Ranges.{in_range-convert}
use Rattle.dm_int.specs.Results.{in_range-truth}
use Rattle.dm_type.specs.CTypes.{CType, integer, const, bare, is_const}
use Rattle.dm_tree.specs.declared.tree.Sign.{Sign}
use Rattle.dm_tree.specs.declared.tree.Sign.TheVariants as s
use Rattle.dm_tree.specs.Composites.{covers}
use Rattle.dm_tree.specs.Constants.{kind_if_integer, integer_kind}
use Rattle.dm_tree.specs.Evaluation.{is_true, is_right, unary_value}
use Rattle.dm_tree.specs.Operands.{IsNumber as IsNumberOf}
use Rattle.dm_tree.specs.Scenes.{is_lvalue}
use Rattle.dm_tree.specs.Trees.{Label, number, enumerator, object, read, convert, unary, binary, both, either, choose, comma, sizeof_tree, sizeof_kind, Spans, Tree, Trees, node, no_trees, more_trees, kind_of}
use Rattle.dm_meaning.specs.declared.cause.Cause.{Cause}
use Rattle.dm_meaning.specs.declared.cause.Cause.TheVariants.{Conflict, Bounds, Life, Unset, OtherType}
use Rattle.dm_meaning.specs.Among.{IsAmong}
use Rattle.dm_meaning.specs.Values.{numbered, At, Pointer, integer_value, pointer_value, unset}
use Rattle.dm_meaning.specs.Objects.{Layout, object_of}
use Rattle.dm_meaning.specs.Memory.{Block, lives, reached_in, value_in, or_unset, contents_at}
use Rattle.dm_meaning.specs.Causes.{when, is_outside, is_other, is_unset, is_unset_object, read_causes}
use Rattle.dm_meaning.specs.Programs.{layout}
use Rattle.dm_meaning.specs.Operations.{of_value, designates, Operand, World, Scene, plain, provided, is_of_kind, number_alone, faulted, typed, truth_in, signed, combined, convert_bare, enumerator_number, designated, unless, whole, operate}
use Rattle.dm_meaning.specs.Running.{begun, all_begun, every, only_first, nothing, open_of}
use Rattle.dm_meaning.specs.Expressions.{kind_of_run}
use Rattle.dm_meaning.proofs.AmongLemmas.{among_either}
use Rattle.dm_meaning.proofs.ConstantLemmas.{bare_is, typed_is}
use Rattle.dm_meaning.proofs.OptionLemmas.{none_is_some}
use Rattle.dm_rewrite.specs.Computed.{Part, joined, after_reads, alone, given_by, after_operands, only, truth_computed, value_computed, both_computed, either_computed, picked_computed, form_computed, found_in, computed, all_computed}
use Rattle.dm_sound.specs.TypedValues.{AreTyped}
use Rattle.dm_sound.specs.TypedTrees.{scene_in, IsTyped}
use Rattle.dm_sound.specs.TypedSteps.{IsTypedScope, IsOperand, AreOperands, results, IsMistyped, IsTooFar, DidFits, is_operated}
use Rattle.dm_sound.proofs.GivenLemmas.{in_range_test, range_of, given_number, IsNumber, has_number}
use Rattle.dm_sound.proofs.ValueLemmas.{number_same, own_integer}
use Rattle.dm_sound.proofs.NodeLemmas.{node_fits}
use Rattle.dm_sound.proofs.PlainLemmas.{plain_first}
use Rattle.dm_safe.specs.Numbers.{HoldsInteger, AreWhole, ComesTo, ComesToNumber}

kind_begun : (tree : Tree) → kind_of_run (begun tree) ≡ kind_of tree
kind_begun (node label kind spans parts) = refl

pub none_read : AreWhole []
none_read at k = absurd k

pub both_read : (xs ys : List At) → AreWhole xs → AreWhole ys → AreWhole (xs ++ ys)
both_read xs ys h k at among = by_either (among_either at xs ys among)
  where
    by_either : IsAmong at xs ⊎ IsAmong at ys → (n : ℕ) × (at ≡ whole (numbered n))
    by_either (inl l) = h at l
    by_either (inr r) = k at r

-- ---- integer types

same_number : (k : Kind) → (number_of k == number_of k) ≡ true
same_number CBool = refl
same_number Char = refl
same_number SChar = refl
same_number UChar = refl
same_number Short = refl
same_number UShort = refl
same_number Int = refl
same_number UInt = refl
same_number Long = refl
same_number ULong = refl
same_number LLong = refl
same_number ULLong = refl

-- a type that says all that another one says of an integer
covered_bare : (a b : CType) (k : Kind) → covers a b ≡ true → kind_if_integer a ≡ Some k → kind_if_integer b ≡ Some k
covered_bare (integer i) (integer j) k c e = ap Some (sym (number_same i j c)) ∙ e
covered_bare (integer i) b k c e = absurd (false≢true c)
covered_bare a b k c e = absurd (none_is_some k e)

covered_integer : (a b : CType) (k : Kind) → covers a b ≡ true → integer_kind a ≡ Some k → integer_kind b ≡ Some k
covered_integer (const a) (const b) k c e = covered_bare a b k c e
covered_integer (integer i) (integer j) k c e = covered_bare (integer i) (integer j) k c e
covered_integer (integer i) b k c e = absurd (false≢true c)
covered_integer (const a) b k c e = absurd (false≢true c)
covered_integer a b k c e = absurd (none_is_some k e)

-- ---- numbers as operands

-- each operand is a number
abbrev pub AreNumbers : List Operand → Type 0
AreNumbers [] = Unit {0}
AreNumbers (x ∷ xs) = ((kind : Kind) × (z : ℤ) × (x.result ≡ of_value (integer_value kind z))) × AreNumbers xs

no_place : (xs : List Operand) → AreNumbers xs → (at : At) → IsAmong (designates at) (results xs) → ⊥
no_place [] h at k = absurd k
no_place (x ∷ xs) h at (inl e) = no_number (e ∙ h.0.2)
  where
    no_number : designates at ≡ of_value (integer_value h.0.0 h.0.1) → ⊥
    no_number f = cc
no_place (x ∷ xs) h at (inr k) = no_place xs h.1 at k

no_address : (xs : List Operand) → AreNumbers xs → (p : Pointer) → IsAmong (of_value (pointer_value p)) (results xs) → ⊥
no_address [] h p k = absurd k
no_address (x ∷ xs) h p (inl e) = no_number (e ∙ h.0.2)
  where
    no_number : of_value (pointer_value p) ≡ of_value (integer_value h.0.0 h.0.1) → ⊥
    no_number f = cc
no_address (x ∷ xs) h p (inr k) = no_address xs h.1 p k

module _ (scene : Scene) (world : World) (scope : IsTypedScope scene.program) (memory_typed : AreTyped (layout scene.program) world.memory) (result : CType) where
  abbrev own : Layout
  own = layout scene.program

  abbrev pub Typed : Tree → Type 0
  Typed tree = IsTyped scene.program result tree

  not_excused : (xs : List Operand) → AreNumbers xs → IsMistyped own world.memory (results xs) ⊎ IsTooFar own world.memory (results xs) → ⊥
  not_excused xs h (inl m) = no_place xs h m.at m.there
  not_excused xs h (inr f) = no_address xs h f.left f.first

  operate_fits : (label : Label) (kind : CType) (spans : Spans) (parts : Trees) (operands : List Operand) → Typed (node label kind spans parts) → IsTrue (is_operated label) → AreOperands own (open_of label) parts operands
      → DidFits scene world (node label kind spans parts) operands (operate scene world [] label kind operands)
  operate_fits label kind spans parts operands tree is h =
      let place = scene_in scene.program result tree.breaks tree.continues tree.labels in
      node_fits scene scope world [] memory_typed result tree.breaks tree.continues tree.labels label kind spans parts operands is tree.typed.0 tree.proper
      (plain_first scene.program scope place refl refl label kind spans parts tree.typed tree.proper) h

  -- a number that the type has
  pub record IsAlone (kind : CType) (own_kind : Kind) (z : ℤ) : Type 0 where
    pub is : number_alone world kind z ≡ plain world (integer_value own_kind z)
    pub range : InRange own_kind z

  -- where a node of numbers gives a number, its type has it
  pub number_there : (label : Label) (kind : CType) (spans : Spans) (parts : Trees) (operands : List Operand) → Typed (node label kind spans parts) → IsTrue (is_operated label) → AreOperands own (open_of label) parts operands → AreNumbers operands
      → (z : ℤ) → operate scene world [] label kind operands ≡ number_alone world kind z → (own_kind : Kind) → integer_kind kind ≡ Some own_kind → IsAlone kind own_kind z
  number_there label kind spans parts operands tree is h numbers z e own_kind k =
      by_range (is_of_kind (typed kind z)) refl (subst (DidFits scene world (node label kind spans parts) operands) e (operate_fits label kind spans parts operands tree is h))
    where
      same_number : integer_value own_kind z ≡ typed kind z
      same_number = sym (typed_is kind own_kind z k)

      by_range : (b : Bool) → is_of_kind (typed kind z) ≡ b → DidFits scene world (node label kind spans parts) operands (provided (is_of_kind (typed kind z)) (plain world (typed kind z))) → IsAlone kind own_kind z
      by_range true f fits = record {
        is = ap (λ b. provided b (plain world (typed kind z))) f ∙ ap (plain world) (sym same_number);
        range = range_of own_kind z (ap is_of_kind same_number ∙ f);
      }
      by_range false f fits =
          absurd (not_excused operands numbers (subst (λ b. DidFits scene world (node label kind spans parts) operands (provided b (plain world (typed kind z)))) f fits refl))

  -- ---- what a node comes to

  -- none of these parts may be evaluated
  none_open : (parts : List Part) → found_in nothing parts ≡ Some (record { operands = []; reads = [] })
  none_open [] = refl
  none_open (part ∷ parts) = none_open parts

  abbrev operand_of : Kind → Tree → ℤ → Operand
  operand_of kind tree z = record { kind = kind_of_run (begun tree); result = of_value (integer_value kind z) }

  abbrev parts_of : Trees → List Part
  parts_of parts = all_computed scene world (all_begun parts)

  -- the first of the parts alone is evaluated
  first_found : (a : Tree) (rest : Trees) (z : ℤ) (h : ComesTo scene world a z) → found_in only_first (parts_of (more_trees a rest)) ≡ Some (record { operands = operand_of h.kind a z ∷ []; reads = h.reads ++ [] })
  first_found a rest z h = ap (λ o. joined (kind_of_run (begun a)) o (found_in nothing (parts_of rest))) h.comes ∙ ap (joined (kind_of_run (begun a)) (Some _)) (none_open (parts_of rest))

  one_found : (a : Tree) (z : ℤ) (h : ComesTo scene world a z) → found_in every (parts_of (more_trees a no_trees)) ≡ Some (record { operands = operand_of h.kind a z ∷ []; reads = h.reads ++ [] })
  one_found a z h = ap (λ o. joined (kind_of_run (begun a)) o (Some (record { operands = []; reads = [] }))) h.comes

  two_found : (a b : Tree) (y z : ℤ) (h : ComesTo scene world a y) (k : ComesTo scene world b z)
      → found_in every (parts_of (more_trees a (more_trees b no_trees))) ≡ Some (record { operands = operand_of h.kind a y ∷ operand_of k.kind b z ∷ []; reads = h.reads ++ (k.reads ++ []) })
  two_found a b y z h k = ap (λ o. joined (kind_of_run (begun a)) o (found_in every (parts_of (more_trees b no_trees)))) h.comes ∙ ap (joined (kind_of_run (begun a)) (Some _)) (one_found b z k)

  -- the operands are found, and then the node's own step gives a number
  pub node_comes : (label : Label) (kind : CType) (spans : Spans) (parts : Trees) (own_kind : Kind) → integer_kind kind ≡ Some own_kind → (z : ℤ) → InRange own_kind z
      → (operands : List Operand) (reads more : List At) → found_in (open_of label) (parts_of parts) ≡ Some (record { operands = operands; reads = reads }) → AreWhole reads → AreWhole more
      → form_computed scene world label kind (parts_of parts) operands ≡ Some (record { result = of_value (integer_value own_kind z); reads = more }) → ComesTo scene world (node label kind spans parts) z
  node_comes label kind spans parts own_kind k z range operands reads more found whole_reads whole_more e = record {
    kind = own_kind;
    integer = k;
    range = range;
    reads = reads ++ more;
    comes = ap (λ o. after_operands o (form_computed scene world label kind (parts_of parts))) found ∙ ap (after_reads reads) e;
    named = both_read reads more whole_reads whole_more;
  }

  whole_end : (xs : List At) → AreWhole xs → AreWhole (xs ++ [])
  whole_end xs h = both_read xs [] h none_read

  -- by a step of its own
  stepped : (label : Label) (kind : CType) (spans : Spans) (parts : Trees) (own_kind : Kind) → integer_kind kind ≡ Some own_kind → (z : ℤ) → InRange own_kind z
      → (operands : List Operand) (reads : List At) → found_in (open_of label) (parts_of parts) ≡ Some (record { operands = operands; reads = reads }) → AreWhole reads
      → form_computed scene world label kind (parts_of parts) operands ≡ given_by [] (operate scene world [] label kind operands)
      → operate scene world [] label kind operands ≡ plain world (integer_value own_kind z) → ComesTo scene world (node label kind spans parts) z
  stepped label kind spans parts own_kind k z range operands reads found whole_reads form e =
      node_comes label kind spans parts own_kind k z range operands reads [] found whole_reads none_read (form ∙ ap (given_by []) e)

  -- ---- constants

  pub number_comes : (y : ℤ) (kind : CType) (spans : Spans) (parts : Trees) → Typed (node (number y) kind spans parts) → ComesTo scene world (node (number y) kind spans parts) y
  number_comes y kind spans no_trees tree = by_kind kind refl tree.typed.0
    where
      by_kind : (type : CType) → kind ≡ type → IsNumberOf y type → ComesTo scene world (node (number y) kind spans no_trees) y
      by_kind (integer own_kind) e fits =
          let k : integer_kind kind ≡ Some own_kind = ap integer_kind e in
          let there = number_there (number y) kind spans no_trees [] tree refl tt tt y refl own_kind k in
          stepped (number y) kind spans no_trees own_kind k y there.range [] [] refl none_read refl there.is
      by_kind type e fits = absurd fits
  number_comes y kind spans (more_trees first rest) tree = absurd tree.typed.0

  pub enumerator_comes : (d : ℕ) (kind : CType) (spans : Spans) (parts : Trees) → Typed (node (enumerator d) kind spans parts) → ComesTo scene world (node (enumerator d) kind spans parts) (enumerator_number scene.program d)
  enumerator_comes d kind spans no_trees tree =
      let k : integer_kind kind ≡ Some Int = ap integer_kind tree.typed.0.1 in
      let there = number_there (enumerator d) kind spans no_trees [] tree refl tt tt (enumerator_number scene.program d) refl Int k in
      stepped (enumerator d) kind spans no_trees Int k (enumerator_number scene.program d) there.range [] [] refl none_read refl there.is
  enumerator_comes d kind spans (more_trees first rest) tree = absurd tree.typed.0

  -- the size of a tree's type, and of a type (6.5.3.4)
  size_alone : (kind : CType) (n : ℕ) → kind ≡ integer ULong → InRange ULong (pos n) → number_alone world kind (pos n) ≡ plain world (integer_value ULong (pos n))
  size_alone kind n e h =
      let same = typed_is kind ULong (pos n) (ap integer_kind e) in
      ap (λ v. provided (is_of_kind v) (plain world v)) same ∙ ap (λ b. provided b (plain world (integer_value ULong (pos n)))) (in_range_test ULong (pos n) h)

  pub size_comes : (a : Tree) (rest : Trees) (kind : CType) (spans : Spans) → kind ≡ integer ULong → InRange ULong (pos (own.size (kind_of a)))
      → ComesTo scene world (node sizeof_tree kind spans (more_trees a rest)) (pos (own.size (kind_of a)))
  size_comes a rest kind spans e h =
      node_comes sizeof_tree kind spans (more_trees a rest) ULong (ap integer_kind e) (pos (own.size (kind_of a))) h [] [] [] (none_open (parts_of (more_trees a rest))) none_read none_read
      (ap (λ t. given_by [] (number_alone world kind (pos (own.size t)))) (kind_begun a) ∙ ap (given_by []) (size_alone kind (own.size (kind_of a)) e h))

  pub kind_size_comes : (type : CType) (parts : Trees) (kind : CType) (spans : Spans) → kind ≡ integer ULong → InRange ULong (pos (own.size type)) → ComesTo scene world (node (sizeof_kind type) kind spans parts) (pos (own.size type))
  kind_size_comes type parts kind spans e h =
      stepped (sizeof_kind type) kind spans parts ULong (ap integer_kind e) (pos (own.size type)) h [] [] (none_open (parts_of parts)) none_read refl (size_alone kind (own.size type) e h)

  -- ---- conversions and signs

  -- an integer is converted to an integer type (6.3.1.3)
  pub convert_comes : (a : Tree) (lengths : Trees) (kind : CType) (spans : Spans) (own_kind : Kind) → integer_kind kind ≡ Some own_kind → (y : ℤ) → ComesTo scene world a y
      → ComesTo scene world (node convert kind spans (more_trees a lengths)) (brought own_kind y)
  convert_comes a lengths kind spans own_kind k y h =
      stepped convert kind spans (more_trees a lengths) own_kind k (brought own_kind y) (in_range-convert own_kind y) (operand_of h.kind a y ∷ []) (h.reads ++ []) (first_found a lengths y h) (whole_end h.reads h.named) refl
      (ap (λ (type : CType). convert_bare world type (of_value (integer_value h.kind y))) (bare_is kind own_kind k))

  pub not_comes : (a : Tree) (kind : CType) (spans : Spans) → Typed (node (unary s.Not) kind spans (more_trees a no_trees)) → (y : ℤ) → ComesTo scene world a y
      → ComesTo scene world (node (unary s.Not) kind spans (more_trees a no_trees)) (operators.truth (not (is_true y)))
  not_comes a kind spans tree y h =
      let k : integer_kind kind ≡ Some Int = ap integer_kind tree.typed.0.1 in
      stepped (unary s.Not) kind spans (more_trees a no_trees) Int k (operators.truth (not (is_true y))) (in_range-truth Int (not (is_true y))) (operand_of h.kind a y ∷ []) (h.reads ++ []) (one_found a y h) (whole_end h.reads h.named) refl
      (ap (plain world) (typed_is kind Int (operators.truth (not (is_true y))) k))

  -- another sign, where it gives a number
  abbrev pub IsOther : Sign → Type 0
  IsOther s.Not = ⊥
  IsOther sign = Unit {0}

  signed_by : (sign : Sign) → IsOther sign → (kind : CType) (k : Kind) (y z : ℤ) → unary_value sign k y ≡ Ok z → signed world kind sign (integer_value k y) ≡ number_alone world kind z
  signed_by s.Not o kind k y z e = absurd o
  signed_by s.Plus o kind k y z e = ap (λ r. faulted r (number_alone world kind)) e
  signed_by s.Minus o kind k y z e = ap (λ r. faulted r (number_alone world kind)) e
  signed_by s.Complement o kind k y z e = ap (λ r. faulted r (number_alone world kind)) e

  -- the operand of a typed node is one of its tree
  is_operand : (a : Tree) (y : ℤ) (h : ComesTo scene world a y) → IsTrue (not (is_lvalue a)) → IsOperand own a (operand_of h.kind a y)
  is_operand a y h value = (kind_begun a, (value, given_number own (kind_of a) h.kind y h.integer h.range))

  pub signed_comes : (sign : Sign) → IsOther sign → (a : Tree) (kind : CType) (spans : Spans) → Typed (node (unary sign) kind spans (more_trees a no_trees)) → (y : ℤ) (h : ComesTo scene world a y) → IsTrue (not (is_lvalue a))
      → kind_of a ≡ kind → (z : ℤ) → unary_value sign h.kind y ≡ Ok z → ComesTo scene world (node (unary sign) kind spans (more_trees a no_trees)) z
  signed_comes sign o a kind spans tree y h value same z e =
      let k : integer_kind kind ≡ Some h.kind = ap integer_kind (sym same) ∙ h.integer in
      let here = signed_by sign o kind h.kind y z e in
      let there = number_there (unary sign) kind spans (more_trees a no_trees) (operand_of h.kind a y ∷ []) tree refl (is_operand a y h value, tt) ((h.kind, y, refl), tt) z here h.kind k in
      stepped (unary sign) kind spans (more_trees a no_trees) h.kind k z there.range (operand_of h.kind a y ∷ []) (h.reads ++ []) (one_found a y h) (whole_end h.reads h.named) refl (here ∙ there.is)

  -- ---- operators

  pub binary_comes : (op : Op) (a b : Tree) (kind : CType) (spans : Spans) → Typed (node (binary op) kind spans (more_trees a (more_trees b no_trees))) → (x y : ℤ) (h : ComesTo scene world a x) (k : ComesTo scene world b y)
      → IsTrue (not (is_lvalue a)) → IsTrue (not (is_lvalue b)) → (own_kind : Kind) → integer_kind kind ≡ Some own_kind → (z : ℤ) → is_right op h.kind y ≡ true → operators.binary op h.kind x y ≡ Ok z
      → ComesTo scene world (node (binary op) kind spans (more_trees a (more_trees b no_trees))) z
  binary_comes op a b kind spans tree x y h k first second own_kind i z right e =
      let here : combined scene world kind (kind_of_run (begun a)) op (integer_value h.kind x) (integer_value k.kind y) ≡ number_alone world kind z =
      ap (λ t. provided t (faulted (operators.binary op h.kind x y) (number_alone world kind))) right ∙ ap (λ r. faulted r (number_alone world kind)) e in
      let operands = operand_of h.kind a x ∷ operand_of k.kind b y ∷ [] in
      let there = number_there (binary op) kind spans (more_trees a (more_trees b no_trees)) operands tree refl (is_operand a x h first, (is_operand b y k second, tt)) ((h.kind, x, refl), ((k.kind, y, refl), tt)) z here own_kind i in
      stepped (binary op) kind spans (more_trees a (more_trees b no_trees)) own_kind i z there.range operands (h.reads ++ (k.reads ++ [])) (two_found a b x y h k)
      (both_read h.reads (k.reads ++ []) h.named (whole_end k.reads k.named)) refl (here ∙ there.is)

  -- ---- operands that are chosen

  picked : (b : Tree) (y : ℤ) (h : ComesTo scene world b y) → only (kind_of_run (begun b), computed scene world (begun b)) ≡ Some (record { operands = operand_of h.kind b y ∷ []; reads = h.reads ++ [] })
  picked b y h = ap (λ o. joined (kind_of_run (begun b)) o (Some (record { operands = []; reads = [] }))) h.comes

  truth_picked : (kind : CType) (own_kind : Kind) → integer_kind kind ≡ Some own_kind → (b : Tree) (y : ℤ) (h : ComesTo scene world b y)
      → truth_computed world.memory kind (only (kind_of_run (begun b), computed scene world (begun b))) ≡ Some (record { result = of_value (integer_value own_kind (operators.truth (is_true y))); reads = (h.reads ++ []) ++ [] })
  truth_picked kind own_kind k b y h =
      ap (truth_computed world.memory kind) (picked b y h) ∙ ap (λ v. Some (record { result = of_value v; reads = (h.reads ++ []) ++ [] })) (typed_is kind own_kind (operators.truth (is_true y)) k)

  value_picked : (b : Tree) (y : ℤ) (h : ComesTo scene world b y)
      → value_computed (only (kind_of_run (begun b), computed scene world (begun b))) ≡ Some (record { result = of_value (integer_value h.kind y); reads = (h.reads ++ []) ++ [] })
  value_picked b y h = ap value_computed (picked b y h)

  -- behind its first operand a node goes on with what that has chosen
  chosen : (label : Label) → open_of label ≡ only_first → (a : Tree) (rest : Trees) (kind : CType) (spans : Spans) (own_kind : Kind) → integer_kind kind ≡ Some own_kind → (x : ℤ) (h : ComesTo scene world a x)
      → (z : ℤ) → InRange own_kind z → (more : List At) → AreWhole more
      → form_computed scene world label kind (parts_of (more_trees a rest)) (operand_of h.kind a x ∷ []) ≡ Some (record { result = of_value (integer_value own_kind z); reads = more })
      → ComesTo scene world (node label kind spans (more_trees a rest)) z
  chosen label o a rest kind spans own_kind k x h z range more whole_more e =
      node_comes label kind spans (more_trees a rest) own_kind k z range (operand_of h.kind a x ∷ []) (h.reads ++ []) more
      (ap (λ opens. found_in opens (parts_of (more_trees a rest))) o ∙ first_found a rest x h) (whole_end h.reads h.named) whole_more e

  whole_twice : (xs : List At) → AreWhole xs → AreWhole ((xs ++ []) ++ [])
  whole_twice xs h = whole_end (xs ++ []) (whole_end xs h)

  module _ (a b : Tree) (rest : Trees) (kind : CType) (spans : Spans) (x : ℤ) (h : ComesTo scene world a x) where
    -- && and || (6.5.13, 6.5.14)
    module _ (is_int : kind ≡ integer Int) where
      int_kind : integer_kind kind ≡ Some Int
      int_kind = ap integer_kind is_int

      pub both_on : is_true x ≡ true → (y : ℤ) → ComesTo scene world b y → ComesTo scene world (node both kind spans (more_trees a (more_trees b rest))) (operators.truth (is_true y))
      both_on t y k =
          chosen both refl a (more_trees b rest) kind spans Int int_kind x h (operators.truth (is_true y)) (in_range-truth Int (is_true y)) ((k.reads ++ []) ++ []) (whole_twice k.reads k.named)
          (ap (both_computed world.memory kind (parts_of (more_trees a (more_trees b rest)))) t ∙ truth_picked kind Int int_kind b y k)

      pub either_on : is_true x ≡ false → (y : ℤ) → ComesTo scene world b y → ComesTo scene world (node either kind spans (more_trees a (more_trees b rest))) (operators.truth (is_true y))
      either_on t y k =
          chosen either refl a (more_trees b rest) kind spans Int int_kind x h (operators.truth (is_true y)) (in_range-truth Int (is_true y)) ((k.reads ++ []) ++ []) (whole_twice k.reads k.named)
          (ap (either_computed world.memory kind (parts_of (more_trees a (more_trees b rest)))) t ∙ truth_picked kind Int int_kind b y k)

      told_at_once : (t : Bool) → alone (of_value (truth_in kind t)) ≡ alone (of_value (integer_value Int (operators.truth t)))
      told_at_once t = ap (λ v. alone (of_value v)) (typed_is kind Int (operators.truth t) int_kind)

      pub both_off : is_true x ≡ false → ComesTo scene world (node both kind spans (more_trees a (more_trees b rest))) (pos 0)
      both_off t =
          chosen both refl a (more_trees b rest) kind spans Int int_kind x h (pos 0) (in_range-truth Int false) [] none_read
          (ap (both_computed world.memory kind (parts_of (more_trees a (more_trees b rest)))) t ∙ told_at_once false)

      pub either_off : is_true x ≡ true → ComesTo scene world (node either kind spans (more_trees a (more_trees b rest))) (pos 1)
      either_off t =
          chosen either refl a (more_trees b rest) kind spans Int int_kind x h (pos 1) (in_range-truth Int true) [] none_read
          (ap (either_computed world.memory kind (parts_of (more_trees a (more_trees b rest)))) t ∙ told_at_once true)

    -- the comma (6.5.17)
    pub comma_on : kind ≡ kind_of b → (y : ℤ) → ComesTo scene world b y → ComesTo scene world (node comma kind spans (more_trees a (more_trees b rest))) y
    comma_on same y k =
        chosen comma refl a (more_trees b rest) kind spans k.kind (ap integer_kind same ∙ k.integer) x h y k.range ((k.reads ++ []) ++ []) (whole_twice k.reads k.named) (value_picked b y k)

    -- ?: (6.5.15)
    pub second_on : kind_of b ≡ kind → is_true x ≡ true → (y : ℤ) → ComesTo scene world b y → ComesTo scene world (node choose kind spans (more_trees a (more_trees b rest))) y
    second_on same t y k =
        chosen choose refl a (more_trees b rest) kind spans k.kind (ap integer_kind (sym same) ∙ k.integer) x h y k.range ((k.reads ++ []) ++ []) (whole_twice k.reads k.named)
        (ap (picked_computed (parts_of (more_trees a (more_trees b rest)))) t ∙ value_picked b y k)

  pub third_on : (a b c : Tree) (rest : Trees) (kind : CType) (spans : Spans) (x : ℤ) (h : ComesTo scene world a x) → kind_of c ≡ kind → is_true x ≡ false → (y : ℤ) → ComesTo scene world c y
      → ComesTo scene world (node choose kind spans (more_trees a (more_trees b (more_trees c rest)))) y
  third_on a b c rest kind spans x h same t y k =
      chosen choose refl a (more_trees b (more_trees c rest)) kind spans k.kind (ap integer_kind (sym same) ∙ k.integer) x h y k.range ((k.reads ++ []) ++ []) (whole_twice k.reads k.named)
      (ap (picked_computed (parts_of (more_trees a (more_trees b (more_trees c rest))))) t ∙ value_picked c y k)

  -- ---- reads

  -- the value of a set integer (6.3.2.1p2)
  module _ (d : ℕ) (named_kind : CType) (named_spans : Spans) (kind : CType) (spans : Spans) (h : HoldsInteger scene world.memory d) (covered : covers h.entry.kind named_kind ≡ true) (plain_kind : kind ≡ bare named_kind)
      (own_kind : Kind) (i : integer_kind h.entry.kind ≡ Some own_kind) where
    abbrev name : Tree
    name = node (object d) named_kind named_spans no_trees

    kind_is : kind ≡ integer own_kind
    kind_is = plain_kind ∙ bare_is named_kind own_kind (covered_integer h.entry.kind named_kind own_kind covered i)

    contents_are : contents_at world.memory (whole (numbered h.object)) ≡ h.block.contents
    contents_are = ap (λ o. or_unset (value_in [] o)) h.found

    -- what is found there may be read
    causes_at : Option Block → List Cause
    causes_at o =
        (when Conflict false ++ when Bounds (is_outside (reached_in own [] o)) ++ when Life (not (lives o)) ++ when OtherType (is_other kind (reached_in own [] o)))
        ++ when Unset (is_unset_object (or_unset (value_in [] o)) (reached_in own [] o))

    same_type : is_other kind (object_of (bare h.block.kind) (is_const h.block.kind)) ≡ false
    same_type =
        ap (λ t. is_other t (object_of (bare h.block.kind) (is_const h.block.kind))) kind_is
        ∙ ap (λ t. is_other (integer own_kind) (object_of t (is_const h.block.kind))) (ap bare h.typed ∙ bare_is h.entry.kind own_kind i)
        ∙ ap not (same_number own_kind)

    may_read : read_causes own world.memory [] kind (whole (numbered h.object)) ≡ []
    unfolding causes_at
    may_read =
        ap causes_at h.found
        ∙ ap (λ b. (when Life (not b) ++ when OtherType (is_other kind (object_of (bare h.block.kind) (is_const h.block.kind)))) ++ when Unset (is_unset h.block.contents)) h.alive
        ∙ ap (λ b. when OtherType b ++ when Unset (is_unset h.block.contents)) same_type
        ∙ ap (when Unset) h.set

    abbrev named_operand : Operand
    named_operand = record { kind = named_kind; result = designates (whole (numbered h.object)) }

    name_found : found_in every (parts_of (more_trees name no_trees)) ≡ Some (record { operands = named_operand ∷ []; reads = [] })
    name_found = ap (λ o. joined named_kind (after_reads [] (given_by [] (designated world o))) (Some (record { operands = []; reads = [] }))) h.named

    number_held : IsNumber own_kind h.block.contents
    number_held = by_value (has_number own h.block.kind own_kind (own_integer h.block.kind own_kind (ap integer_kind h.typed ∙ i)) h.block.contents (memory_typed h.object h.block h.found))
      where
        by_value : IsNumber own_kind h.block.contents ⊎ (h.block.contents ≡ unset) → IsNumber own_kind h.block.contents
        by_value (inl n) = n
        by_value (inr e) = absurd (true≢false (sym (ap is_unset e) ∙ h.set))

    one_place : AreWhole (whole (numbered h.object) ∷ [])
    one_place at (inl e) = (h.object, e)
    one_place at (inr l) = absurd l

    pub read_comes : ComesToNumber scene world (node read kind spans (more_trees (node (object d) named_kind named_spans no_trees) no_trees))
    read_comes = record {
      value = number_held.z;
      comes =
          node_comes read kind spans (more_trees name no_trees) own_kind (ap integer_kind kind_is) number_held.z number_held.range (named_operand ∷ []) [] (whole (numbered h.object) ∷ []) name_found none_read one_place
          (ap (λ causes. given_by (whole (numbered h.object) ∷ []) (unless causes (plain world (contents_at world.memory (whole (numbered h.object)))))) may_read
          ∙ ap (λ v. Some (record { result = of_value v; reads = whole (numbered h.object) ∷ [] })) (contents_are ∙ number_held.is));
    }
