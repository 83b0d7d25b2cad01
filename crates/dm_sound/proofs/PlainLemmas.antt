-- The type of an expression that is no lvalue has no const.
use Rattle.std.specs.Prelude.{◌≡◌, refl, ℕ, Bool, true, false, not, ◌&&◌, IsTrue, IfSome, IsSome, List, Option, Some, None, slice_get, if◌then◌else◌}
use Rattle.std.proofs.Common.{ap, sym, ◌∙◌, subst, true≢false}
use Rattle.std.proofs.lemmas.Bool.{false≢true}
use Rattle.dm_int.specs.declared.Kind.{Kind}
use Rattle.dm_int.specs.declared.Kind.TheVariants.{Int}
use Rattle.dm_int.specs.declared.Op.{Op}
use Rattle.dm_int.specs.declared.Op.TheVariants as o
use Rattle.dm_type.specs.CTypes.{CType, integer, array, function as function_type, const, bare, is_const}
use Rattle.dm_tree.specs.declared.tree.Sign.TheVariants as s
use Rattle.dm_tree.specs.Composites.{covers}
use Rattle.dm_tree.specs.Constants.{integer_kind}
use Rattle.dm_tree.specs.Initialisers.{FitsDecay, is_function_sort}
use Rattle.dm_tree.specs.Operands.{Becomes, is_comparison, result_type, FitsPointers, FitsBinary, IsArmType, FitsCall, FitsMember}
use Rattle.dm_tree.specs.Scenes.{Scene as Standing, IsValue, is_lvalue, is_array, is_function, target, member_type}
use Rattle.dm_tree.specs.Trees.{Label, Spans, Tree, Trees, node, no_trees, more_trees, kind_of, is_statement, listed}
use Rattle.dm_tree.specs.Trees as label
use Rattle.dm_tree.specs.Typing.{Fits, IsWellTyped, AreWellTyped, inside}
use Rattle.dm_tree.specs.Units.{Declaration}
use Rattle.dm_meaning.specs.Programs.{Program, declaration_of}
use Rattle.dm_meaning.proofs.OptionLemmas.{and_left, and_right}
use Rattle.dm_sound.specs.TypedTrees.{IsProper, IsProperTree, AreProperTrees}
use Rattle.dm_sound.specs.TypedSteps.{IsTypedScope}
use Rattle.dm_sound.proofs.GivenLemmas.{proper_bare}
use Rattle.dm_sound.proofs.NodeLemmas.{member_found, function_sort}
use Rattle.dm_sound.proofs.OperateLemmas.{proper_root}
use Rattle.dm_sound.proofs.TableLemmas.{table_proper}

abbrev ArePlain : Trees → Type 0
ArePlain no_trees = Unit {0}
ArePlain (more_trees first rest) = (IsValue first → is_const (kind_of first) ≡ false) × ArePlain rest

plain_covered : (type kind : CType) → IsTrue (is_function type) → covers type kind ≡ true → is_const kind ≡ false
plain_covered (function_type a these) (function_type b those) is e = refl
plain_covered (function_type a these) kind is e = absurd (false≢true e)
plain_covered type kind is e = absurd (false≢true is)

plain_entry : (program : Program) → IsTypedScope program → (d : ℕ) (kind : CType) (entry : Option Declaration) → declaration_of program d ≡ entry → IfSome entry (λ one. IsTrue (is_function_sort one.sort && covers one.kind kind)) → IsSome entry → is_const kind ≡ false
plain_entry program scope d kind None e fits is = absurd (false≢true is)
plain_entry program scope d kind (Some entry) e fits is =
    plain_covered entry.kind kind (function_sort entry.sort entry.kind _ (and_left (is_function_sort entry.sort) (covers entry.kind kind) fits) (scope.entries d entry e)) (and_right (is_function_sort entry.sort) (covers entry.kind kind) fits)

plain_result : (op : Op) (kind : CType) (one : Kind) → kind ≡ result_type op one → is_const kind ≡ false
plain_result op kind one e = ap is_const e ∙ by_comparison (is_comparison op) refl
  where
    by_comparison : (b : Bool) → is_comparison op ≡ b → is_const (result_type op one) ≡ false
    by_comparison true f = ap (λ c. is_const (if c then integer Int else integer one)) f
    by_comparison false f = ap (λ c. is_const (if c then integer Int else integer one)) f

plain_pointers : (place : Standing) (op : Op) (a b kind : CType) → FitsPointers place op a b kind → is_const kind ≡ false
plain_pointers place o.Sub a b kind fits = ap is_const fits.3
plain_pointers place op a b kind fits = ap is_const fits.2

plain_binary : (place : Standing) (op : Op) (left right kind : CType) (a b : Option Kind) (from to : Option CType) → IsProper left → IsProper right → FitsBinary place op left right kind a b from to → is_const kind ≡ false
plain_binary place op left right kind (Some a) (Some b) from to p q fits = plain_result op kind a fits.3
plain_binary place op left right kind None None (Some a) (Some b) p q fits = plain_pointers place op a b kind fits
plain_binary place o.Add left right kind None (Some b) (Some a) to p q fits = ap is_const fits.1 ∙ proper_bare left p
plain_binary place o.Sub left right kind None (Some b) (Some a) to p q fits = ap is_const fits.1 ∙ proper_bare left p
plain_binary place o.Add left right kind (Some a) None from (Some b) p q fits = ap is_const fits.1 ∙ proper_bare right q
plain_binary place op left right kind a b from to p q fits = absurd fits

plain_arm : (kind : CType) → IsArmType kind → is_const kind ≡ false
plain_arm (const kind) h = absurd h
plain_arm kind h = refl

plain_became : (place : Standing) (operand : Tree) (kind : CType) → Becomes place operand kind → is_const kind ≡ false
plain_became place operand (const kind) h = absurd h
plain_became place operand kind h = refl

plain_decayed : (type kind : CType) → FitsDecay type kind → is_const kind ≡ false
plain_decayed (array type n) kind h = ap is_const h
plain_decayed type kind h = absurd h

plain_call : (type : CType) (arguments : List Tree) (kind : CType) → IsProper type → FitsCall type arguments kind → is_const kind ≡ false
plain_call (function_type result parameters) arguments kind p h = ap is_const h.1 ∙ proper_bare result p.0
plain_call type arguments kind p h = absurd h

module _ (program : Program) (scope : IsTypedScope program) where
  plain_member : (place : Standing) → place.types ≡ program.table → (whole : CType) (n : ℕ) (kind : CType) (found : Option CType) → member_type place.types whole n ≡ found
      → IfSome found (λ type. (kind ≡ bare type) × IsTrue (not (is_array type))) → IsSome found → is_const kind ≡ false
  plain_member place t whole n kind None e fits is = absurd (false≢true is)
  plain_member place t whole n kind (Some type) e fits is =
      let m = member_found place whole n type e in
      ap is_const fits.0 ∙ proper_bare type (subst IsProper m.6 (table_proper place.types m.2.kind))

  no_value : (form : Label) (kind : CType) (spans : Spans) (parts : Trees) → is_lvalue (node form kind spans parts) ≡ true → IsValue (node form kind spans parts) → ⊥
  no_value form kind spans parts e v = false≢true (sym (ap (λ b. not b && not (is_statement form)) e) ∙ v)

  not_of : (b c : Bool) → (not b && c) ≡ true → b ≡ false
  not_of true c e = absurd (false≢true e)
  not_of false c e = refl

  plain_form : (place : Standing) → place.types ≡ program.table → place.declared ≡ program.declared → (form : Label) (kind : CType) (spans : Spans) (parts : Trees) → Fits place form kind (listed parts) → IsProper kind → AreProperTrees parts → ArePlain parts
      → IsValue (node form kind spans parts) → is_const kind ≡ false
  plain_form place t d (label.number z) (integer one) spans no_trees fits p ps plain v = refl
  plain_form place t d (label.number z) kind spans no_trees fits p ps plain v = absurd fits
  plain_form place t d (label.number z) kind spans (more_trees a rest) fits p ps plain v = absurd fits
  plain_form place t d (label.enumerator n) kind spans no_trees fits p ps plain v = ap is_const fits.1
  plain_form place t d (label.enumerator n) kind spans parts fits p ps plain v = absurd fits
  plain_form place t d (label.literal bytes unit) kind spans parts fits p ps plain v = absurd (no_value (label.literal bytes unit) kind spans parts refl v)
  plain_form place t d (label.object n) kind spans parts fits p ps plain v = absurd (no_value (label.object n) kind spans parts refl v)
  plain_form place t d (label.function n) kind spans no_trees fits p ps plain v =
      plain_entry program scope n kind (declaration_of program n) refl
      (subst (λ (ds : List Declaration). IfSome (slice_get ds n) (λ one. IsTrue (is_function_sort one.sort && covers one.kind kind))) d fits.0)
      (subst (λ (ds : List Declaration). IsSome (slice_get ds n)) d fits.1)
  plain_form place t d (label.function n) kind spans parts fits p ps plain v = absurd fits
  plain_form place t d label.read kind spans (more_trees a no_trees) fits p ps plain v = ap is_const fits.2 ∙ proper_bare (kind_of a) (proper_root a ps.0)
  plain_form place t d label.read kind spans parts fits p ps plain v = absurd fits
  plain_form place t d label.decay kind spans (more_trees a no_trees) fits p ps plain v = plain_decayed (kind_of a) kind fits.1
  plain_form place t d label.decay kind spans parts fits p ps plain v = absurd fits
  plain_form place t d label.convert kind spans (more_trees a lengths) fits p ps plain v = plain_became place a kind fits.1
  plain_form place t d label.convert kind spans parts fits p ps plain v = absurd fits
  plain_form place t d label.address kind spans (more_trees a no_trees) fits p ps plain v = ap is_const fits.1
  plain_form place t d label.address kind spans parts fits p ps plain v = absurd fits
  plain_form place t d label.follow kind spans parts fits p ps plain v = absurd (no_value label.follow kind spans parts refl v)
  plain_form place t d (label.member n) kind spans (more_trees a no_trees) fits p ps plain v =
      by_lvalue (is_lvalue a) (not_of (is_lvalue a) true v) fits.1
    where
      by_lvalue : (b : Bool) → b ≡ false → FitsMember place.types b (kind_of a) n kind → is_const kind ≡ false
      by_lvalue true e f = absurd (true≢false e)
      by_lvalue false e f = plain_member place t (kind_of a) n kind (member_type place.types (kind_of a) n) refl f.0 f.1
  plain_form place t d (label.member n) kind spans parts fits p ps plain v = absurd fits
  plain_form place t d (label.unary s.Not) kind spans (more_trees a no_trees) fits p ps plain v = ap is_const fits.1
  plain_form place t d (label.unary s.Plus) kind spans (more_trees a no_trees) fits p ps plain v = ap is_const (sym fits.1) ∙ plain.0 fits.0
  plain_form place t d (label.unary s.Minus) kind spans (more_trees a no_trees) fits p ps plain v = ap is_const (sym fits.1) ∙ plain.0 fits.0
  plain_form place t d (label.unary s.Complement) kind spans (more_trees a no_trees) fits p ps plain v = ap is_const (sym fits.1) ∙ plain.0 fits.0
  plain_form place t d (label.unary sign) kind spans parts fits p ps plain v = absurd fits
  plain_form place t d (label.binary op) kind spans (more_trees a (more_trees b no_trees)) fits p ps plain v =
      plain_binary place op (kind_of a) (kind_of b) kind (integer_kind (kind_of a)) (integer_kind (kind_of b)) (target (kind_of a)) (target (kind_of b)) (proper_root a ps.0) (proper_root b ps.1.0) fits.2
  plain_form place t d (label.binary op) kind spans parts fits p ps plain v = absurd fits
  plain_form place t d label.both kind spans (more_trees a (more_trees b no_trees)) fits p ps plain v = ap is_const fits.2
  plain_form place t d label.both kind spans parts fits p ps plain v = absurd fits
  plain_form place t d label.either kind spans (more_trees a (more_trees b no_trees)) fits p ps plain v = ap is_const fits.2
  plain_form place t d label.either kind spans parts fits p ps plain v = absurd fits
  plain_form place t d label.choose kind spans (more_trees a (more_trees b (more_trees c no_trees))) fits p ps plain v = plain_arm kind fits.5
  plain_form place t d label.choose kind spans parts fits p ps plain v = absurd fits
  plain_form place t d label.comma kind spans (more_trees a (more_trees b no_trees)) fits p ps plain v = ap is_const fits.2 ∙ plain.1.0 fits.1
  plain_form place t d label.comma kind spans parts fits p ps plain v = absurd fits
  plain_form place t d label.store kind spans (more_trees a (more_trees b no_trees)) fits p ps plain v = ap is_const fits.2 ∙ proper_bare (kind_of a) (proper_root a ps.0)
  plain_form place t d label.store kind spans parts fits p ps plain v = absurd fits
  plain_form place t d (label.update op works) kind spans (more_trees a (more_trees b no_trees)) fits p ps plain v = ap is_const fits.2 ∙ proper_bare (kind_of a) (proper_root a ps.0)
  plain_form place t d (label.update op works) kind spans parts fits p ps plain v = absurd fits
  plain_form place t d (label.count plus before) kind spans (more_trees a no_trees) fits p ps plain v = ap is_const fits.1 ∙ proper_bare (kind_of a) (proper_root a ps.0)
  plain_form place t d (label.count plus before) kind spans parts fits p ps plain v = absurd fits
  plain_form place t d label.call kind spans (more_trees (node (label.function n) type inner no_trees) arguments) fits p ps plain v = plain_call type (listed arguments) kind ps.0.0 fits
  plain_form place t d label.call kind spans parts fits p ps plain v = absurd fits
  plain_form place t d label.sizeof_tree kind spans (more_trees a no_trees) fits p ps plain v = ap is_const fits.2
  plain_form place t d label.sizeof_tree kind spans parts fits p ps plain v = absurd fits
  plain_form place t d (label.sizeof_kind type) kind spans parts fits p ps plain v = ap is_const fits.2
  plain_form place t d form kind spans parts fits p ps plain v = absurd (false≢true (and_right (not (is_lvalue (node form kind spans parts))) false v))

  inside_types : (place : Standing) (form : Label) (parts : List Tree) → (inside place form parts).types ≡ place.types
  inside_types place label.switch parts = refl
  inside_types place label.case parts = refl
  inside_types place label.default parts = refl
  inside_types place label.while_loop parts = refl
  inside_types place label.do_loop parts = refl
  inside_types place (label.for_loop first second third) parts = refl
  inside_types place form parts = refl

  inside_declared : (place : Standing) (form : Label) (parts : List Tree) → (inside place form parts).declared ≡ place.declared
  inside_declared place label.switch parts = refl
  inside_declared place label.case parts = refl
  inside_declared place label.default parts = refl
  inside_declared place label.while_loop parts = refl
  inside_declared place label.do_loop parts = refl
  inside_declared place (label.for_loop first second third) parts = refl
  inside_declared place form parts = refl

  mutual
    pub plain_value : (place : Standing) → place.types ≡ program.table → place.declared ≡ program.declared → (tree : Tree) → IsWellTyped place tree → IsProperTree tree → IsValue tree → is_const (kind_of tree) ≡ false
    plain_value place t d (node form kind spans parts) h p v =
        plain_form place t d form kind spans parts h.0 p.0 p.1
        (plain_values (inside place form (listed parts)) (inside_types place form (listed parts) ∙ t) (inside_declared place form (listed parts) ∙ d) parts h.1 p.1) v

    pub plain_values : (place : Standing) → place.types ≡ program.table → place.declared ≡ program.declared → (parts : Trees) → AreWellTyped place parts → AreProperTrees parts → ArePlain parts
    plain_values place t d no_trees h p = tt
    plain_values place t d (more_trees first rest) h p = (plain_value place t d first h.0 p.0, plain_values place t d rest h.1 p.1)

  first_plain : (parts : Trees) → ArePlain parts → (a : Tree) (rest : Trees) → parts ≡ more_trees a rest → IsValue a → is_const (kind_of a) ≡ false
  first_plain parts plain a rest e v = (subst ArePlain e plain).0 v

  -- of the first part of a well-typed node
  pub plain_first : (place : Standing) → place.types ≡ program.table → place.declared ≡ program.declared → (form : Label) (kind : CType) (spans : Spans) (parts : Trees) → IsWellTyped place (node form kind spans parts) → IsProperTree (node form kind spans parts)
      → (a : Tree) (rest : Trees) → parts ≡ more_trees a rest → IsValue a → is_const (kind_of a) ≡ false
  plain_first place t d form kind spans parts h p =
      first_plain parts (plain_values (inside place form (listed parts)) (inside_types place form (listed parts) ∙ t) (inside_declared place form (listed parts) ∙ d) parts h.1 p.1)
