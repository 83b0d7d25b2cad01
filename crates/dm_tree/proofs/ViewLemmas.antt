-- What trees of the code stand for, and which numbers of types they have, form by form.
use Rattle.std.specs.Prelude.{◌≡◌, ℕ, Bool, true, false, ◌&&◌, nat_lt, is_some, if◌then◌else◌, IsTrue, ℤ, Some, None, option_and_then, List, [], ◌∷◌, map}
use Rattle.std.proofs.Common.{rules, refl, sym, ap, ◌∙◌}
use Rattle.std.specs.Result.{result_ok}
use Rattle.std.proofs.lemmas.Bool.{and_parts, and_from}
use Rattle.dm_int.specs.declared.Op.{Op}
use Rattle.dm_int.specs.declared.Kind.{Kind}
use Rattle.dm_int.specs.Kinds.{is_in_range}
use Rattle.dm_int.specs.Operators.{binary as operate}
use Rattle.dm_type.specs.CTypes.{CType}
use Rattle.dm_type.specs.Tables.{Table, type_of}
use Rattle.dm_tree.specs.declared.tree.Core.{Core, out-Core}
use Rattle.dm_tree.specs.declared.tree.Core as q
use Rattle.dm_tree.specs.declared.tree.Form.{Form}
use Rattle.dm_tree.specs.declared.tree.Form.TheVariants as form
use Rattle.dm_tree.specs.declared.tree.Form.TheFolds as folds
use Rattle.dm_tree.specs.declared.tree.Sign.{Sign}
use Rattle.dm_tree.specs.Constants.{integer_kind, has_constant_form, is_constant_form, constant_forms, operated_in, operated_value}
use Rattle.dm_tree.specs.Evaluation.{is_right}
use Rattle.dm_tree.specs.Trees as label
use Rattle.dm_tree.specs.Trees.{Tree, trees}
use Rattle.dm_tree.specs.TypeNumbers.{are_known, are_known_in_form, form_known, initial_known, core_known, local_known, all_pass}
use Rattle.dm_tree.specs.Views.{Opened, OpenedInitial, OpenedLocal, opened, opened_form, view, node_of, form_layer, initial_layer, core_layer, local_layer}

-- a tree by its form
pub view-core : (types : Table) (core : Core) → view types core ≡ node_of (opened_form types (out-Core core).form) (type_of types (out-Core core).kind) (out-Core core).inner (out-Core core).outer (out-Core core).place
view-core types core = folds.fold_out-Core Opened OpenedInitial Tree OpenedLocal (form_layer types) initial_layer (core_layer types) local_layer core

pub are_known-core : (n : ℕ) (core : Core) → are_known n core ≡ (nat_lt (out-Core core).kind n && are_known_in_form n (out-Core core).form)
are_known-core n core = folds.fold_out-Core Bool Bool Bool Bool (form_known n) initial_known (core_known n) local_known core

pub are_known-Number : (n : ℕ) (z : ℤ) → are_known_in_form n (form.Number z) ≡ true
are_known-Number n z = search (rules, q.the_lemmas)

pub opened-Convert : (types : Table) (a : Core) (lengths : List Core) → opened_form types (form.Convert a lengths) ≡ opened label.convert (view types a ∷ map (view types) lengths)
opened-Convert types a lengths = search (rules, q.the_lemmas)

pub are_known-Convert : (n : ℕ) (a : Core) (lengths : List Core) → are_known_in_form n (form.Convert a lengths) ≡ (are_known n a && all_pass (map (are_known n) lengths))
are_known-Convert n a lengths = search (rules, q.the_lemmas)

pub opened-Unary : (types : Table) (sign : Sign) (a : Core) → opened_form types (form.Unary sign a) ≡ opened (label.unary sign) (view types a ∷ [])
opened-Unary types sign a = search (rules, q.the_lemmas)

pub are_known-Unary : (n : ℕ) (sign : Sign) (a : Core) → are_known_in_form n (form.Unary sign a) ≡ are_known n a
are_known-Unary n sign a = search (rules, q.the_lemmas)

pub opened-Binary : (types : Table) (op : Op) (a : Core) (b : Core) → opened_form types (form.Binary op a b) ≡ opened (label.binary op) (view types a ∷ view types b ∷ [])
opened-Binary types op a b = search (rules, q.the_lemmas)

pub are_known-Binary : (n : ℕ) (op : Op) (a : Core) (b : Core) → are_known_in_form n (form.Binary op a b) ≡ (are_known n a && are_known n b)
are_known-Binary n op a b = search (rules, q.the_lemmas)

pub opened-Both : (types : Table) (a : Core) (b : Core) → opened_form types (form.Both a b) ≡ opened label.both (view types a ∷ view types b ∷ [])
opened-Both types a b = search (rules, q.the_lemmas)

pub are_known-Both : (n : ℕ) (a : Core) (b : Core) → are_known_in_form n (form.Both a b) ≡ (are_known n a && are_known n b)
are_known-Both n a b = search (rules, q.the_lemmas)

pub opened-Either : (types : Table) (a : Core) (b : Core) → opened_form types (form.Either a b) ≡ opened label.either (view types a ∷ view types b ∷ [])
opened-Either types a b = search (rules, q.the_lemmas)

pub are_known-Either : (n : ℕ) (a : Core) (b : Core) → are_known_in_form n (form.Either a b) ≡ (are_known n a && are_known n b)
are_known-Either n a b = search (rules, q.the_lemmas)

pub opened-Comma : (types : Table) (a : Core) (b : Core) → opened_form types (form.Comma a b) ≡ opened label.comma (view types a ∷ view types b ∷ [])
opened-Comma types a b = search (rules, q.the_lemmas)

pub are_known-Comma : (n : ℕ) (a : Core) (b : Core) → are_known_in_form n (form.Comma a b) ≡ (are_known n a && are_known n b)
are_known-Comma n a b = search (rules, q.the_lemmas)

pub opened-Choose : (types : Table) (a : Core) (b : Core) (c : Core) → opened_form types (form.Choose a b c) ≡ opened label.choose (view types a ∷ view types b ∷ view types c ∷ [])
opened-Choose types a b c = search (rules, q.the_lemmas)

pub are_known-Choose : (n : ℕ) (a : Core) (b : Core) (c : Core) → are_known_in_form n (form.Choose a b c) ≡ (are_known n a && (are_known n b && are_known n c))
are_known-Choose n a b c = search (rules, q.the_lemmas)

pub opened-SizeofTree : (types : Table) (a : Core) → opened_form types (form.SizeofTree a) ≡ opened label.sizeof_tree (view types a ∷ [])
opened-SizeofTree types a = search (rules, q.the_lemmas)

-- ---- known parts

-- the second of two that both hold
second : (p q r : Bool) → r ≡ (p && q) → r ≡ true → q ≡ true
second p q r is h = (and_parts p q (sym is ∙ h)).1

-- a tree whose types are known has a form whose types are
pub known-form : (n : ℕ) (core : Core) → IsTrue (are_known n core) → IsTrue (are_known_in_form n (out-Core core).form)
known-form n core h = second _ _ _ (are_known-core n core) h

-- so have the second and the third part of a form
pub known-second-Comma : (n : ℕ) (f : Form) (a b : Core) → f ≡ form.Comma a b → IsTrue (are_known_in_form n f) → IsTrue (are_known n b)
known-second-Comma n f a b is h = second _ _ _ (are_known-Comma n a b) (ap (are_known_in_form n) (sym is) ∙ h)

pub known-first-Comma : (n : ℕ) (f : Form) (a b : Core) → f ≡ form.Comma a b → IsTrue (are_known_in_form n f) → IsTrue (are_known n a)
known-first-Comma n f a b is h = (and_parts _ _ (sym (are_known-Comma n a b) ∙ (ap (are_known_in_form n) (sym is) ∙ h))).0

pub known-later-Choose : (n : ℕ) (f : Form) (a b c : Core) → f ≡ form.Choose a b c → IsTrue (are_known_in_form n f) → IsTrue (are_known n b) × IsTrue (are_known n c)
known-later-Choose n f a b c is h = and_parts _ _ (second _ _ _ (are_known-Choose n a b c) (ap (are_known_in_form n) (sym is) ∙ h))

-- ---- operators

-- what an operator gives on values of a kind
pub operated_value-in_range : (op : Op) (type : CType) (a b : ℤ) (kind : Kind) → integer_kind type ≡ Some kind → is_in_range kind a ≡ true → is_right op kind b ≡ true
    → operated_value op type a b ≡ result_ok (operate op kind a b)
operated_value-in_range op type a b kind is left right =
    ap (option_and_then (operated_in op a b)) is ∙ ap (λ passed. if passed then result_ok (operate op kind a b) else None) (and_from (is_in_range kind a) (is_right op kind b) left right)

-- ---- commas

and_true : (p : Bool) → (p && true) ≡ p
and_true true = refl
and_true false = refl

-- a comma of an integer type whose right operand has the form has it where its left operand has
pub form-Comma : (types : Table) (core a b : Core) → (out-Core core).form ≡ form.Comma a b
    → is_some (integer_kind (type_of types (out-Core core).kind)) ≡ true → is_constant_form (view types b) ≡ true
    → is_constant_form (view types core) ≡ is_constant_form (view types a)
form-Comma types core a b is integer right =
    ap is_constant_form (view-core types core)
    ∙ (ap (λ (o : Opened). has_constant_form o.label (type_of types (out-Core core).kind) (constant_forms (trees o.parts))) (ap (opened_form types) is ∙ opened-Comma types a b)
    ∙ (ap (λ p. p && (is_constant_form (view types a) && (is_constant_form (view types b) && true))) integer
    ∙ (ap (λ q. is_constant_form (view types a) && (q && true)) right ∙ and_true (is_constant_form (view types a)))))
