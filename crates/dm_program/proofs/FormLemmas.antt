-- What statements of the code stand for, form by form, and that the types in their parts are known.
use Rattle.std.proofs.Common.{◌≡◌, ℕ, ◌&&◌, List, [], ◌∷◌, ◌++◌, map, length, Option, option_map, is_some, rules}
use Rattle.dm_type.specs.Tables.{Table}
use Rattle.dm_tree.specs.declared.tree.Core.{Core, out-Core}
use Rattle.dm_tree.specs.declared.tree.Core as q
use Rattle.dm_tree.specs.declared.tree.Form.TheVariants as form
use Rattle.dm_tree.specs.declared.tree.Local.{Local}
use Rattle.dm_tree.specs.Trees as label
use Rattle.dm_tree.specs.Trees.{Tree, listed, trees}
use Rattle.dm_tree.specs.TypeNumbers.{are_known, are_known_in_form, are_known_in_local, all_pass, passes_if_there}
use Rattle.dm_tree.specs.Views.{opened, opened_form, view, view_of_local, if_there, declarators_of, expressions_of_locals}

-- ---- forms

pub opened-Block : (types : Table) (items : List Core) → opened_form types (form.Block items) ≡ opened label.block (map (view types) items)
opened-Block types items = search (rules, q.the_lemmas)

pub opened-Declare : (types : Table) (lengths : List Core) (locals : List Local) → opened_form types (form.Declare lengths locals)
    ≡ opened (label.declare (length (map (view types) lengths)) (declarators_of (map (view_of_local types) locals))) (map (view types) lengths ++ expressions_of_locals (map (view_of_local types) locals))
opened-Declare types lengths locals = search (rules, q.the_lemmas)

pub opened-Full : (types : Table) (a : Core) → opened_form types (form.Full a) ≡ opened label.full (view types a ∷ [])
opened-Full types a = search (rules, q.the_lemmas)

pub opened-If : (types : Table) (a b : Core) (c : Option Core) → opened_form types (form.If a b c) ≡ opened label.if_statement (view types a ∷ view types b ∷ if_there (option_map (view types) c))
opened-If types a b c = search (rules, q.the_lemmas)

pub opened-Switch : (types : Table) (a : Core) (items : List Core) → opened_form types (form.Switch a items) ≡ opened label.switch (view types a ∷ map (view types) items)
opened-Switch types a items = search (rules, q.the_lemmas)

pub opened-Case : (types : Table) (a b : Core) → opened_form types (form.Case a b) ≡ opened label.case (view types a ∷ view types b ∷ [])
opened-Case types a b = search (rules, q.the_lemmas)

pub opened-Default : (types : Table) (a : Core) → opened_form types (form.Default a) ≡ opened label.default (view types a ∷ [])
opened-Default types a = search (rules, q.the_lemmas)

pub opened-While : (types : Table) (a b : Core) → opened_form types (form.While a b) ≡ opened label.while_loop (view types a ∷ view types b ∷ [])
opened-While types a b = search (rules, q.the_lemmas)

pub opened-Do : (types : Table) (a b : Core) → opened_form types (form.Do a b) ≡ opened label.do_loop (view types a ∷ view types b ∷ [])
opened-Do types a b = search (rules, q.the_lemmas)

pub opened-For : (types : Table) (a b c : Option Core) (body : Core) → opened_form types (form.For a b c body)
    ≡ opened (label.for_loop (is_some (option_map (view types) a)) (is_some (option_map (view types) b)) (is_some (option_map (view types) c)))
    (if_there (option_map (view types) a) ++ (if_there (option_map (view types) b) ++ (if_there (option_map (view types) c) ++ view types body ∷ [])))
opened-For types a b c body = search (rules, q.the_lemmas)

pub opened-Break : (types : Table) → opened_form types form.Break ≡ opened label.break []
opened-Break types = search (rules, q.the_lemmas)

pub opened-Continue : (types : Table) → opened_form types form.Continue ≡ opened label.continue []
opened-Continue types = search (rules, q.the_lemmas)

pub opened-Return : (types : Table) (a : Option Core) → opened_form types (form.Return a) ≡ opened label.return (if_there (option_map (view types) a))
opened-Return types a = search (rules, q.the_lemmas)

-- ---- known types

pub known-Block : (n : ℕ) (items : List Core) → are_known_in_form n (form.Block items) ≡ all_pass (map (are_known n) items)
known-Block n items = search (rules, q.the_lemmas)

pub known-Declare : (n : ℕ) (lengths : List Core) (locals : List Local) → are_known_in_form n (form.Declare lengths locals) ≡ (all_pass (map (are_known n) lengths) && all_pass (map (are_known_in_local n) locals))
known-Declare n lengths locals = search (rules, q.the_lemmas)

pub known-Full : (n : ℕ) (a : Core) → are_known_in_form n (form.Full a) ≡ are_known n a
known-Full n a = search (rules, q.the_lemmas)

pub known-If : (n : ℕ) (a b : Core) (c : Option Core) → are_known_in_form n (form.If a b c) ≡ (are_known n a && (are_known n b && passes_if_there (option_map (are_known n) c)))
known-If n a b c = search (rules, q.the_lemmas)

pub known-Switch : (n : ℕ) (a : Core) (items : List Core) → are_known_in_form n (form.Switch a items) ≡ (are_known n a && all_pass (map (are_known n) items))
known-Switch n a items = search (rules, q.the_lemmas)

pub known-Case : (n : ℕ) (a b : Core) → are_known_in_form n (form.Case a b) ≡ (are_known n a && are_known n b)
known-Case n a b = search (rules, q.the_lemmas)

pub known-Default : (n : ℕ) (a : Core) → are_known_in_form n (form.Default a) ≡ are_known n a
known-Default n a = search (rules, q.the_lemmas)

pub known-While : (n : ℕ) (a b : Core) → are_known_in_form n (form.While a b) ≡ (are_known n a && are_known n b)
known-While n a b = search (rules, q.the_lemmas)

pub known-Do : (n : ℕ) (a b : Core) → are_known_in_form n (form.Do a b) ≡ (are_known n a && are_known n b)
known-Do n a b = search (rules, q.the_lemmas)

pub known-For : (n : ℕ) (a b c : Option Core) (body : Core) → are_known_in_form n (form.For a b c body)
    ≡ (passes_if_there (option_map (are_known n) a) && (passes_if_there (option_map (are_known n) b) && (passes_if_there (option_map (are_known n) c) && are_known n body)))
known-For n a b c body = search (rules, q.the_lemmas)

pub known-Return : (n : ℕ) (a : Option Core) → are_known_in_form n (form.Return a) ≡ passes_if_there (option_map (are_known n) a)
known-Return n a = search (rules, q.the_lemmas)
