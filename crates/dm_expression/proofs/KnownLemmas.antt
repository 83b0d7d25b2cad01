-- The numbers of types in the operands of a node are those of the node's.
use Rattle.std.specs.Prelude.{◌≡◌, ℕ, ◌&&◌, nat_lt, IsTrue, List, [], ◌∷◌, map}
use Rattle.std.proofs.Common.{rules, sym, ap, ◌∙◌}
use Rattle.std.proofs.lemmas.Bool.{and_parts}
use Rattle.dm_int.specs.declared.Op.{Op}
use Rattle.dm_tree.specs.declared.tree.Core.{Core}
use Rattle.dm_tree.specs.declared.tree.Core as q
use Rattle.dm_tree.specs.declared.tree.Form.{Form}
use Rattle.dm_tree.specs.declared.tree.Form.TheVariants as form
use Rattle.dm_tree.specs.declared.tree.Sign.{Sign}
use Rattle.dm_tree.specs.TypeNumbers.{are_known, are_known_in_form, all_pass}
use Rattle.dm_expression.specs.Operands.{AreAllKnown}

known-Read : (n : ℕ) (a : Core) → are_known_in_form n (form.Read a) ≡ (are_known n a)
known-Read n a = search (rules, q.the_lemmas)

pub first-Read : (n : ℕ) (f : Form) (a : Core) → f ≡ form.Read a → IsTrue (are_known_in_form n f) → IsTrue (are_known n a)
first-Read n f a is h = sym (known-Read n a) ∙ (ap (are_known_in_form n) (sym is) ∙ h)

known-Decay : (n : ℕ) (a : Core) → are_known_in_form n (form.Decay a) ≡ (are_known n a)
known-Decay n a = search (rules, q.the_lemmas)

pub first-Decay : (n : ℕ) (f : Form) (a : Core) → f ≡ form.Decay a → IsTrue (are_known_in_form n f) → IsTrue (are_known n a)
first-Decay n f a is h = sym (known-Decay n a) ∙ (ap (are_known_in_form n) (sym is) ∙ h)

known-Address : (n : ℕ) (a : Core) → are_known_in_form n (form.Address a) ≡ (are_known n a)
known-Address n a = search (rules, q.the_lemmas)

pub first-Address : (n : ℕ) (f : Form) (a : Core) → f ≡ form.Address a → IsTrue (are_known_in_form n f) → IsTrue (are_known n a)
first-Address n f a is h = sym (known-Address n a) ∙ (ap (are_known_in_form n) (sym is) ∙ h)

known-Follow : (n : ℕ) (a : Core) → are_known_in_form n (form.Follow a) ≡ (are_known n a)
known-Follow n a = search (rules, q.the_lemmas)

pub first-Follow : (n : ℕ) (f : Form) (a : Core) → f ≡ form.Follow a → IsTrue (are_known_in_form n f) → IsTrue (are_known n a)
first-Follow n f a is h = sym (known-Follow n a) ∙ (ap (are_known_in_form n) (sym is) ∙ h)

known-Member : (n : ℕ) (a : Core) (m : ℕ) → are_known_in_form n (form.Member a m) ≡ (are_known n a)
known-Member n a m = search (rules, q.the_lemmas)

pub first-Member : (n : ℕ) (f : Form) (a : Core) (m : ℕ) → f ≡ form.Member a m → IsTrue (are_known_in_form n f) → IsTrue (are_known n a)
first-Member n f a m is h = sym (known-Member n a m) ∙ (ap (are_known_in_form n) (sym is) ∙ h)

known-Unary : (n : ℕ) (s : Sign) (a : Core) → are_known_in_form n (form.Unary s a) ≡ (are_known n a)
known-Unary n s a = search (rules, q.the_lemmas)

pub first-Unary : (n : ℕ) (f : Form) (s : Sign) (a : Core) → f ≡ form.Unary s a → IsTrue (are_known_in_form n f) → IsTrue (are_known n a)
first-Unary n f s a is h = sym (known-Unary n s a) ∙ (ap (are_known_in_form n) (sym is) ∙ h)

known-Convert : (n : ℕ) (a : Core) (lengths : List Core) → are_known_in_form n (form.Convert a lengths) ≡ (are_known n a && all_pass (map (are_known n) lengths))
known-Convert n a lengths = search (rules, q.the_lemmas)

pub first-Convert : (n : ℕ) (f : Form) (a : Core) (lengths : List Core) → f ≡ form.Convert a lengths → IsTrue (are_known_in_form n f) → IsTrue (are_known n a)
first-Convert n f a lengths is h = (and_parts _ _ (sym (known-Convert n a lengths) ∙ (ap (are_known_in_form n) (sym is) ∙ h))).0

known-Both : (n : ℕ) (a b : Core) → are_known_in_form n (form.Both a b) ≡ (are_known n a && are_known n b)
known-Both n a b = search (rules, q.the_lemmas)

pub first-Both : (n : ℕ) (f : Form) (a b : Core) → f ≡ form.Both a b → IsTrue (are_known_in_form n f) → IsTrue (are_known n a)
first-Both n f a b is h = (and_parts _ _ (sym (known-Both n a b) ∙ (ap (are_known_in_form n) (sym is) ∙ h))).0

known-Either : (n : ℕ) (a b : Core) → are_known_in_form n (form.Either a b) ≡ (are_known n a && are_known n b)
known-Either n a b = search (rules, q.the_lemmas)

pub first-Either : (n : ℕ) (f : Form) (a b : Core) → f ≡ form.Either a b → IsTrue (are_known_in_form n f) → IsTrue (are_known n a)
first-Either n f a b is h = (and_parts _ _ (sym (known-Either n a b) ∙ (ap (are_known_in_form n) (sym is) ∙ h))).0

known-Choose : (n : ℕ) (a b c : Core) → are_known_in_form n (form.Choose a b c) ≡ (are_known n a && (are_known n b && are_known n c))
known-Choose n a b c = search (rules, q.the_lemmas)

pub first-Choose : (n : ℕ) (f : Form) (a b c : Core) → f ≡ form.Choose a b c → IsTrue (are_known_in_form n f) → IsTrue (are_known n a)
first-Choose n f a b c is h = (and_parts _ _ (sym (known-Choose n a b c) ∙ (ap (are_known_in_form n) (sym is) ∙ h))).0

known-Comma : (n : ℕ) (a b : Core) → are_known_in_form n (form.Comma a b) ≡ (are_known n a && are_known n b)
known-Comma n a b = search (rules, q.the_lemmas)

pub first-Comma : (n : ℕ) (f : Form) (a b : Core) → f ≡ form.Comma a b → IsTrue (are_known_in_form n f) → IsTrue (are_known n a)
first-Comma n f a b is h = (and_parts _ _ (sym (known-Comma n a b) ∙ (ap (are_known_in_form n) (sym is) ∙ h))).0

known-Binary : (n : ℕ) (op : Op) (a b : Core) → are_known_in_form n (form.Binary op a b) ≡ (are_known n a && are_known n b)
known-Binary n op a b = search (rules, q.the_lemmas)

pub both-Binary : (n : ℕ) (f : Form) (op : Op) (a b : Core) → f ≡ form.Binary op a b → IsTrue (are_known_in_form n f) → IsTrue (are_known n a) × IsTrue (are_known n b)
both-Binary n f op a b is h = and_parts _ _ (sym (known-Binary n op a b) ∙ (ap (are_known_in_form n) (sym is) ∙ h))

known-Store : (n : ℕ) (a b : Core) → are_known_in_form n (form.Store a b) ≡ (are_known n a && are_known n b)
known-Store n a b = search (rules, q.the_lemmas)

pub both-Store : (n : ℕ) (f : Form) (a b : Core) → f ≡ form.Store a b → IsTrue (are_known_in_form n f) → IsTrue (are_known n a) × IsTrue (are_known n b)
both-Store n f a b is h = and_parts _ _ (sym (known-Store n a b) ∙ (ap (are_known_in_form n) (sym is) ∙ h))

known-Update : (n : ℕ) (op : Op) (works : ℕ) (a b : Core) → are_known_in_form n (form.Update op works a b) ≡ (nat_lt works n && (are_known n a && are_known n b))
known-Update n op works a b = search (rules, q.the_lemmas)

pub both-Update : (n : ℕ) (f : Form) (op : Op) (works : ℕ) (a b : Core) → f ≡ form.Update op works a b → IsTrue (are_known_in_form n f) → IsTrue (are_known n a) × IsTrue (are_known n b)
both-Update n f op works a b is h = and_parts _ _ (and_parts _ _ (sym (known-Update n op works a b) ∙ (ap (are_known_in_form n) (sym is) ∙ h))).1

known-Call : (n : ℕ) (a : Core) (arguments : List Core) → are_known_in_form n (form.Call a arguments) ≡ (are_known n a && all_pass (map (are_known n) arguments))
known-Call n a arguments = search (rules, q.the_lemmas)

all-known : (n : ℕ) (all : List Core) → IsTrue (all_pass (map (are_known n) all)) → AreAllKnown n all
all-known n [] h = tt
all-known n (core ∷ rest) h = let parts = and_parts _ _ h in (parts.0, all-known n rest parts.1)

pub arguments-Call : (n : ℕ) (f : Form) (a : Core) (arguments : List Core) → f ≡ form.Call a arguments → IsTrue (are_known_in_form n f) → AreAllKnown n arguments
arguments-Call n f a arguments is h = all-known n arguments (and_parts _ _ (sym (known-Call n a arguments) ∙ (ap (are_known_in_form n) (sym is) ∙ h))).1
