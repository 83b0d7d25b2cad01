-- The parts of a tree whose types are numbered have types that are.
use Rattle.std.specs.Prelude.{◌≡◌, ℕ, ℤ, Bool, true, ◌&&◌, nat_lt, IsTrue, List, length, map, All, Option, Some, None, option_map, IfSome}
use Rattle.std.specs.List.{list_all}
use Rattle.std.proofs.Common.{rules, refl, sym, ap, ◌∙◌}
use Rattle.std.proofs.lemmas.Bool.{and_parts, ltb-true}
use Rattle.std.proofs.lemmas.List.Folds.{list_all-map}
use Rattle.std.proofs.lemmas.List.Elements.{All-weaker}
use Rattle.std.proofs.lemmas.List.Sums.{AllPass-from_list_all}
use Rattle.dm_int.specs.declared.Op.{Op}
use Rattle.dm_type.specs.Tables.{Table, IsId}
use Rattle.dm_tree.specs.declared.tree.Core.{Core}
use Rattle.dm_tree.specs.declared.tree.Core as q
use Rattle.dm_tree.specs.declared.tree.Form.{Form}
use Rattle.dm_tree.specs.declared.tree.Form.TheVariants as form
use Rattle.dm_tree.specs.declared.tree.Initial.{Initial}
use Rattle.dm_tree.specs.declared.tree.Initial.TheVariants as initial
use Rattle.dm_tree.specs.declared.tree.Local.{Local}
use Rattle.dm_tree.specs.declared.unit.CoreExternal.{CoreExternal}
use Rattle.dm_tree.specs.declared.unit.Declared.{Declared}
use Rattle.dm_tree.specs.TypeNumbers.{are_known, are_known_in_form, are_known_in_local, entry_has_known, external_has_known, all_pass, passes_if_there}
use Rattle.unit_list.specs.Known.{are_known_in_initial, IsKnownExternal}

-- each of a list passes
pub trees-pass : (n : ℕ) (cores : List Core) → IsTrue (all_pass (map (are_known n) cores)) → All (λ core. IsTrue (are_known n core)) cores
trees-pass n cores pass = AllPass-from_list_all (are_known n) cores (sym (list_all-map (λ passed. passed) (are_known n) cores) ∙ pass)

pub locals-pass : (n : ℕ) (locals : List Local) → IsTrue (all_pass (map (are_known_in_local n) locals)) → All (λ local. IsTrue (are_known_in_local n local)) locals
locals-pass n locals pass = AllPass-from_list_all (are_known_in_local n) locals (sym (list_all-map (λ passed. passed) (are_known_in_local n) locals) ∙ pass)

pub initials-pass : (n : ℕ) (initials : List Initial) → IsTrue (all_pass (map (are_known_in_initial n) initials)) → All (λ one. IsTrue (are_known_in_initial n one)) initials
initials-pass n initials pass = AllPass-from_list_all (are_known_in_initial n) initials (sym (list_all-map (λ passed. passed) (are_known_in_initial n) initials) ∙ pass)

-- ---- forms with lists

pub known-Block : (n : ℕ) (items : List Core) → are_known_in_form n (form.Block items) ≡ all_pass (map (are_known n) items)
known-Block n items = search (rules, q.the_lemmas)

pub known-Declare : (n : ℕ) (lengths : List Core) (locals : List Local)
    → are_known_in_form n (form.Declare lengths locals) ≡ (all_pass (map (are_known n) lengths) && all_pass (map (are_known_in_local n) locals))
known-Declare n lengths locals = search (rules, q.the_lemmas)

pub known-Switch : (n : ℕ) (a : Core) (items : List Core) → are_known_in_form n (form.Switch a items) ≡ (are_known n a && all_pass (map (are_known n) items))
known-Switch n a items = search (rules, q.the_lemmas)

pub known-Call : (n : ℕ) (a : Core) (arguments : List Core) → are_known_in_form n (form.Call a arguments) ≡ (are_known n a && all_pass (map (are_known n) arguments))
known-Call n a arguments = search (rules, q.the_lemmas)

pub known-Parts : (n : ℕ) (items : List Initial) → are_known_in_initial n (initial.Parts items) ≡ all_pass (map (are_known_in_initial n) items)
known-Parts n items = search (rules, q.the_lemmas)

pub block-known : (n : ℕ) (f : Form) (items : List Core) → f ≡ form.Block items → IsTrue (are_known_in_form n f) → All (λ core. IsTrue (are_known n core)) items
block-known n f items is known = trees-pass n items (sym (known-Block n items) ∙ (ap (are_known_in_form n) (sym is) ∙ known))

pub declare-known : (n : ℕ) (f : Form) (lengths : List Core) (locals : List Local) → f ≡ form.Declare lengths locals → IsTrue (are_known_in_form n f)
    → All (λ local. IsTrue (are_known_in_local n local)) locals
declare-known n f lengths locals is known = locals-pass n locals
    (and_parts (all_pass (map (are_known n) lengths)) (all_pass (map (are_known_in_local n) locals)) (sym (known-Declare n lengths locals) ∙ (ap (are_known_in_form n) (sym is) ∙ known))).1

pub switch-known : (n : ℕ) (f : Form) (a : Core) (items : List Core) → f ≡ form.Switch a items → IsTrue (are_known_in_form n f) → All (λ core. IsTrue (are_known n core)) items
switch-known n f a items is known = trees-pass n items
    (and_parts (are_known n a) (all_pass (map (are_known n) items)) (sym (known-Switch n a items) ∙ (ap (are_known_in_form n) (sym is) ∙ known))).1

pub call-known : (n : ℕ) (f : Form) (a : Core) (arguments : List Core) → f ≡ form.Call a arguments → IsTrue (are_known_in_form n f) → All (λ core. IsTrue (are_known n core)) arguments
call-known n f a arguments is known = trees-pass n arguments
    (and_parts (are_known n a) (all_pass (map (are_known n) arguments)) (sym (known-Call n a arguments) ∙ (ap (are_known_in_form n) (sym is) ∙ known))).1

pub parts-known : (n : ℕ) (one : Initial) (items : List Initial) → one ≡ initial.Parts items → IsTrue (are_known_in_initial n one) → All (λ part. IsTrue (are_known_in_initial n part)) items
parts-known n one items is known = initials-pass n items (sym (known-Parts n items) ∙ (ap (are_known_in_initial n) (sym is) ∙ known))

-- ---- forms with several parts

second : (p q r : Bool) → r ≡ (p && q) → r ≡ true → q ≡ true
second p q r is passed = (and_parts p q (sym is ∙ passed)).1

known-Binary : (n : ℕ) (op : Op) (a b : Core) → are_known_in_form n (form.Binary op a b) ≡ (are_known n a && are_known n b)
known-Binary n op a b = search (rules, q.the_lemmas)

pub second-Binary : (n : ℕ) (f : Form) (op : Op) (a b : Core) → f ≡ form.Binary op a b → IsTrue (are_known_in_form n f) → IsTrue (are_known n b)
second-Binary n f op a b is known = second (are_known n a) (are_known n b) (are_known_in_form n f) (ap (are_known_in_form n) is ∙ known-Binary n op a b) known

known-Both : (n : ℕ) (a b : Core) → are_known_in_form n (form.Both a b) ≡ (are_known n a && are_known n b)
known-Both n a b = search (rules, q.the_lemmas)

pub second-Both : (n : ℕ) (f : Form) (a b : Core) → f ≡ form.Both a b → IsTrue (are_known_in_form n f) → IsTrue (are_known n b)
second-Both n f a b is known = second (are_known n a) (are_known n b) (are_known_in_form n f) (ap (are_known_in_form n) is ∙ known-Both n a b) known

known-Either : (n : ℕ) (a b : Core) → are_known_in_form n (form.Either a b) ≡ (are_known n a && are_known n b)
known-Either n a b = search (rules, q.the_lemmas)

pub second-Either : (n : ℕ) (f : Form) (a b : Core) → f ≡ form.Either a b → IsTrue (are_known_in_form n f) → IsTrue (are_known n b)
second-Either n f a b is known = second (are_known n a) (are_known n b) (are_known_in_form n f) (ap (are_known_in_form n) is ∙ known-Either n a b) known

known-Comma : (n : ℕ) (a b : Core) → are_known_in_form n (form.Comma a b) ≡ (are_known n a && are_known n b)
known-Comma n a b = search (rules, q.the_lemmas)

pub second-Comma : (n : ℕ) (f : Form) (a b : Core) → f ≡ form.Comma a b → IsTrue (are_known_in_form n f) → IsTrue (are_known n b)
second-Comma n f a b is known = second (are_known n a) (are_known n b) (are_known_in_form n f) (ap (are_known_in_form n) is ∙ known-Comma n a b) known

known-Store : (n : ℕ) (a b : Core) → are_known_in_form n (form.Store a b) ≡ (are_known n a && are_known n b)
known-Store n a b = search (rules, q.the_lemmas)

pub second-Store : (n : ℕ) (f : Form) (a b : Core) → f ≡ form.Store a b → IsTrue (are_known_in_form n f) → IsTrue (are_known n b)
second-Store n f a b is known = second (are_known n a) (are_known n b) (are_known_in_form n f) (ap (are_known_in_form n) is ∙ known-Store n a b) known

known-Update : (n : ℕ) (op : Op) (works : ℕ) (a b : Core) → are_known_in_form n (form.Update op works a b) ≡ (nat_lt works n && (are_known n a && are_known n b))
known-Update n op works a b = search (rules, q.the_lemmas)

pub second-Update : (n : ℕ) (f : Form) (op : Op) (works : ℕ) (a b : Core) → f ≡ form.Update op works a b → IsTrue (are_known_in_form n f) → IsTrue (are_known n b)
second-Update n f op works a b is known = second (are_known n a) (are_known n b) (are_known n a && are_known n b) refl
    (second (nat_lt works n) (are_known n a && are_known n b) (are_known_in_form n f) (ap (are_known_in_form n) is ∙ known-Update n op works a b) known)

known-Case : (n : ℕ) (a b : Core) → are_known_in_form n (form.Case a b) ≡ (are_known n a && are_known n b)
known-Case n a b = search (rules, q.the_lemmas)

pub second-Case : (n : ℕ) (f : Form) (a b : Core) → f ≡ form.Case a b → IsTrue (are_known_in_form n f) → IsTrue (are_known n b)
second-Case n f a b is known = second (are_known n a) (are_known n b) (are_known_in_form n f) (ap (are_known_in_form n) is ∙ known-Case n a b) known

known-While : (n : ℕ) (a b : Core) → are_known_in_form n (form.While a b) ≡ (are_known n a && are_known n b)
known-While n a b = search (rules, q.the_lemmas)

pub second-While : (n : ℕ) (f : Form) (a b : Core) → f ≡ form.While a b → IsTrue (are_known_in_form n f) → IsTrue (are_known n b)
second-While n f a b is known = second (are_known n a) (are_known n b) (are_known_in_form n f) (ap (are_known_in_form n) is ∙ known-While n a b) known

known-Do : (n : ℕ) (a b : Core) → are_known_in_form n (form.Do a b) ≡ (are_known n a && are_known n b)
known-Do n a b = search (rules, q.the_lemmas)

pub second-Do : (n : ℕ) (f : Form) (a b : Core) → f ≡ form.Do a b → IsTrue (are_known_in_form n f) → IsTrue (are_known n b)
second-Do n f a b is known = second (are_known n a) (are_known n b) (are_known_in_form n f) (ap (are_known_in_form n) is ∙ known-Do n a b) known

known-Choose : (n : ℕ) (a b c : Core) → are_known_in_form n (form.Choose a b c) ≡ (are_known n a && (are_known n b && are_known n c))
known-Choose n a b c = search (rules, q.the_lemmas)

pub third-Choose : (n : ℕ) (f : Form) (a b c : Core) → f ≡ form.Choose a b c → IsTrue (are_known_in_form n f) → IsTrue (are_known n c)
third-Choose n f a b c is known = second (are_known n b) (are_known n c) (are_known n b && are_known n c) refl
    (second (are_known n a) (are_known n b && are_known n c) (are_known_in_form n f) (ap (are_known_in_form n) is ∙ known-Choose n a b c) known)

-- what may be absent
abbrev passes : ℕ → Option Core → Bool
passes n one = passes_if_there (option_map (are_known n) one)

optional-known : (n : ℕ) (one : Option Core) → passes n one ≡ true → IfSome one (λ core. IsTrue (are_known n core))
optional-known n None passed = search rules
optional-known n (Some core) passed = passed

known-If : (n : ℕ) (a b : Core) (c : Option Core) → are_known_in_form n (form.If a b c) ≡ (are_known n a && (are_known n b && passes n c))
known-If n a b c = search (rules, q.the_lemmas)

later-If : (n : ℕ) (f : Form) (a b : Core) (c : Option Core) → f ≡ form.If a b c → IsTrue (are_known_in_form n f) → (are_known n b && passes n c) ≡ true
later-If n f a b c is known = second (are_known n a) (are_known n b && passes n c) (are_known_in_form n f) (ap (are_known_in_form n) is ∙ known-If n a b c) known

pub second-If : (n : ℕ) (f : Form) (a b : Core) (c : Option Core) → f ≡ form.If a b c → IsTrue (are_known_in_form n f) → IsTrue (are_known n b)
second-If n f a b c is known = (and_parts (are_known n b) (passes n c) (later-If n f a b c is known)).0

pub third-If : (n : ℕ) (f : Form) (a b : Core) (c : Option Core) → f ≡ form.If a b c → IsTrue (are_known_in_form n f) → IfSome c (λ core. IsTrue (are_known n core))
third-If n f a b c is known = optional-known n c (and_parts (are_known n b) (passes n c) (later-If n f a b c is known)).1

known-For : (n : ℕ) (a b c : Option Core) (body : Core) → are_known_in_form n (form.For a b c body) ≡ (passes n a && (passes n b && (passes n c && are_known n body)))
known-For n a b c body = search (rules, q.the_lemmas)

later-For : (n : ℕ) (f : Form) (a b c : Option Core) (body : Core) → f ≡ form.For a b c body → IsTrue (are_known_in_form n f) → (passes n c && are_known n body) ≡ true
later-For n f a b c body is known = second (passes n b) (passes n c && are_known n body) (passes n b && (passes n c && are_known n body)) refl
    (second (passes n a) (passes n b && (passes n c && are_known n body)) (are_known_in_form n f) (ap (are_known_in_form n) is ∙ known-For n a b c body) known)

pub third-For : (n : ℕ) (f : Form) (a b c : Option Core) (body : Core) → f ≡ form.For a b c body → IsTrue (are_known_in_form n f) → IfSome c (λ core. IsTrue (are_known n core))
third-For n f a b c body is known = optional-known n c (and_parts (passes n c) (are_known n body) (later-For n f a b c body is known)).0

pub last-For : (n : ℕ) (f : Form) (a b c : Option Core) (body : Core) → f ≡ form.For a b c body → IsTrue (are_known_in_form n f) → IsTrue (are_known n body)
last-For n f a b c body is known = (and_parts (passes n c) (are_known n body) (later-For n f a b c body is known)).1

-- ---- units

pub entries-known : (types : Table) (entries : List Declared) → list_all (entry_has_known (length types.shapes)) entries ≡ true → All (λ (entry : Declared). IsId types entry.kind) entries
entries-known types entries known = All-weaker (λ entry. entry_has_known (length types.shapes) entry ≡ true) (λ (entry : Declared). IsId types entry.kind)
    (λ entry passed. ltb-true entry.kind (length types.shapes) passed) entries
    (AllPass-from_list_all (entry_has_known (length types.shapes)) entries known)

pub externals-known : (types : Table) (externals : List CoreExternal) → list_all (external_has_known (length types.shapes)) externals ≡ true → All (IsKnownExternal types) externals
externals-known types externals known = AllPass-from_list_all (external_has_known (length types.shapes)) externals known
